use Rattle.flux_grammar.specs.Grammar.{tname}
use Rattle.flux_grammar.specs.States.{head}
use Rattle.flux_grammar.specs.Machine.{call}
use Rattle.flux_syntax.specs.At.{at}
use Rattle.flux_syntax.proofs.LabelChoices.{tname_first, no_tname}
use Rattle.flux_syntax.proofs.Leads.{here, into_at, took, gives, none_here}
use Rattle.flux_syntax.proofs.reader.Reader.type_name.Goals as goal

pub returns-in-Some-clause-parses : goal.returns-in-Some-clause-parses
returns-in-Some-clause-parses c =
    let first = tname_first (head (at c.args.self.now)) c.in-Some.name c.in-Some.ensures.name in
    gives (took (into_at (here (call tname) (at c.args.self.now)) tt first.1 first.2) (c.advance-at.ensures.took first.0 first.1))

pub returns-in-None-clause-parses : goal.returns-in-None-clause-parses
returns-in-None-clause-parses c =
    none_here tname (at c.args.self.now) (no_tname (head (at c.args.self.now)) c.in-None.ensures.name)
