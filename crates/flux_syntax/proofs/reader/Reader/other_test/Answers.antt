use Rattle.std.proofs.Common.{refl}
use Rattle.flux_grammar.specs.declared.lexeme.Lexeme.TheVariants.{Sign}
use Rattle.flux_grammar.specs.declared.lexeme.Sign.TheVariants as sign
use Rattle.flux_grammar.specs.Grammar.{other}
use Rattle.flux_grammar.specs.States.{head}
use Rattle.flux_grammar.specs.Machine.{call}
use Rattle.flux_syntax.specs.At.{at}
use Rattle.flux_syntax.proofs.Chosen.{is_here, not_here}
use Rattle.flux_syntax.proofs.LabelChoices.{plain_first, no_other}
use Rattle.flux_syntax.proofs.Leads.{here, into_at, took, gives, none_here}
use Rattle.flux_syntax.proofs.reader.Reader.other_test.Goals as goal

pub returns-then-is_at-clause-parses : goal.returns-then-is_at-clause-parses
returns-then-is_at-clause-parses c =
    gives (took (into_at (here (call other) (at c.args.self.now)) tt (is_here c.is_at.ensures.here c.if-is_at.true) (λ k. refl)) (c.advance-from.ensures.took (Sign sign.Star) (is_here c.is_at.ensures.here c.if-is_at.true)))

pub returns-in-Some-clause-parses : goal.returns-in-Some-clause-parses
returns-in-Some-clause-parses c =
    let first = plain_first (head (at c.args.self.now)) c.in-Some.name c.in-Some.ensures.name in
    gives (took (into_at (here (call other) (at c.args.self.now)) tt first.1 first.2) (c.advance-from-in-Some.ensures.took first.0 first.1))

pub returns-in-None-clause-parses : goal.returns-in-None-clause-parses
returns-in-None-clause-parses c =
    none_here other (at c.args.self.now) (no_other (head (at c.args.self.now)) (not_here c.is_at.ensures.here c.if-is_at.false) c.in_default.ensures.name c.in-None.ensures.name)
