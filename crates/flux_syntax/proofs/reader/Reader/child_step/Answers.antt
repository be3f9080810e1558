use Rattle.std.proofs.Common.{refl}
use Rattle.std.proofs.lemmas.Result.{err_from_is_err_and}
use Rattle.flux_grammar.specs.declared.lexeme.Lexeme.TheVariants.{Sign, Soft}
use Rattle.flux_grammar.specs.declared.lexeme.Sign.TheVariants as sign
use Rattle.flux_grammar.specs.declared.lexeme.Soft.TheVariants as soft
use Rattle.flux_grammar.specs.Grammar.{qstep}
use Rattle.flux_grammar.specs.States.{head}
use Rattle.flux_grammar.specs.Machine.{call}
use Rattle.flux_syntax.specs.At.{at}
use Rattle.flux_syntax.proofs.Chosen.{is_here, not_here}
use Rattle.flux_syntax.proofs.Leads.{here, into, into_at, took, past_mark, gives, piece_stops}
use Rattle.flux_syntax.proofs.QueryChoices.{child_label}
use Rattle.flux_syntax.proofs.reader.Reader.child_step.Goals as goal

pub returns-then-not-is_at-clause-parses : goal.returns-then-not-is_at-clause-parses
returns-then-not-is_at-clause-parses c =
    gives (past_mark (into (took (into_at (here (call (qstep c.args.from)) (at c.args.self.now)) tt c.requires.child (λ k. refl)) (c.advance.ensures.took (Soft soft.ChildWord c.args.name) c.requires.child)) tt (child_label c.args.from c.args.name (head (at c.advance.new.self)) (not_here c.is_at.ensures.here c.if-not-is_at.true))))

pub returns-in_err-to-clause-parses : goal.returns-in_err-to-clause-parses
returns-in_err-to-clause-parses c =
    piece_stops (at c.take.new.self) c.from_residual.result c.in_err-to.field-0.0 (took (into_at (took (into_at (here (call (qstep c.args.from)) (at c.args.self.now)) tt c.requires.child (λ k. refl)) (c.advance.ensures.took (Soft soft.ChildWord c.args.name) c.requires.child)) tt (is_here c.is_at.ensures.here c.if-not-is_at.false) (λ k. refl)) (c.advance-2.ensures.took (Sign sign.Open) (is_here c.is_at.ensures.here c.if-not-is_at.false))) (err_from_is_err_and _ c.from_residual.ensures.1) c.in_err-to.ensures.took

pub returns-clause-parses : goal.returns-clause-parses
returns-clause-parses c =
    gives (took (took (into_at (took (into_at (here (call (qstep c.args.from)) (at c.args.self.now)) tt c.requires.child (λ k. refl)) (c.advance.ensures.took (Soft soft.ChildWord c.args.name) c.requires.child)) tt (is_here c.is_at.ensures.here c.if-not-is_at.false) (λ k. refl)) (c.advance-2.ensures.took (Sign sign.Open) (is_here c.is_at.ensures.here c.if-not-is_at.false))) c.in_ok-to.ensures.took)
