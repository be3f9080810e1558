use Rattle.flux_grammar.specs.Grammar.{test}
use Rattle.flux_grammar.specs.States.{head}
use Rattle.flux_grammar.specs.Machine.{call}
use Rattle.flux_syntax.specs.At.{at}
use Rattle.flux_syntax.proofs.LabelChoices.{child_first, no_child}
use Rattle.flux_syntax.proofs.Leads.{here, into, into_at, took, gives, ends}
use Rattle.flux_syntax.proofs.reader.Reader.test.Goals as goal

pub returns-in-Some-clause-parses : goal.returns-in-Some-clause-parses
returns-in-Some-clause-parses c =
    let first = child_first (head (at c.args.self.now)) c.in-Some.name c.in-Some.ensures.name in
    gives (took (into_at (here (call test) (at c.args.self.now)) tt first.1 first.2) (c.advance-from.ensures.took first.0 first.1))

pub returns-in-None-clause-parses : goal.returns-in-None-clause-parses
returns-in-None-clause-parses c =
    ends (at c.other_test.new.self) c.other_test.result (into (here (call test) (at c.args.self.now)) tt (no_child (head (at c.args.self.now)) c.in-None.ensures.name)) c.other_test.ensures.parses
