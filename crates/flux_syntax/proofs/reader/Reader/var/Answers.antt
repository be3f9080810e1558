use Rattle.flux_grammar.specs.Grammar.{var}
use Rattle.flux_grammar.specs.States.{head}
use Rattle.flux_grammar.specs.Machine.{call}
use Rattle.flux_syntax.specs.At.{at}
use Rattle.flux_syntax.proofs.LabelChoices.{var_first, no_var}
use Rattle.flux_syntax.proofs.Leads.{here, into_at, took, gives, none_here}
use Rattle.flux_syntax.proofs.reader.Reader.var.Goals as goal

pub returns-in-Some-clause-parses : goal.returns-in-Some-clause-parses
returns-in-Some-clause-parses c =
    let first = var_first (head (at c.args.self.now)) c.in-Some.name c.in-Some.ensures.name in
    gives (took (into_at (here (call var) (at c.args.self.now)) tt first.1 first.2) (c.advance-at.ensures.took first.0 first.1))

pub returns-in-None-clause-parses : goal.returns-in-None-clause-parses
returns-in-None-clause-parses c =
    none_here var (at c.args.self.now) (no_var (head (at c.args.self.now)) c.in-None.ensures.name)
