use Rattle.std.proofs.Common.{refl}
use Rattle.std.proofs.lemmas.Result.{err_from_is_err_and}
use Rattle.flux_grammar.specs.Grammar.{params}
use Rattle.flux_grammar.specs.States.{head}
use Rattle.flux_grammar.specs.Machine.{call}
use Rattle.flux_syntax.specs.At.{at}
use Rattle.flux_syntax.proofs.Chosen.{is_here, not_here}
use Rattle.flux_syntax.proofs.Leads.{here, into, into_at, given, gives_as, makes, part_stops}
use Rattle.flux_syntax.proofs.StatementChoices.{some_params}
use Rattle.flux_syntax.proofs.reader.Reader.parameters.Goals as goal

pub returns-then-is_at-clause-parses : goal.returns-then-is_at-clause-parses
returns-then-is_at-clause-parses c =
    gives_as c.new.ensures (into_at (here (call params) (at c.args.self.now)) tt (is_here c.is_at.ensures.here c.if-is_at.true) (λ k. refl))

pub returns-then-is_at-2-clause-parses : goal.returns-then-is_at-2-clause-parses
returns-then-is_at-2-clause-parses c =
    gives_as c.new-then-is_at-2.ensures (into_at (here (call params) (at c.args.self.now)) tt (is_here c.is_at-2.ensures.here c.if-is_at-2.true) (λ k. refl))

pub returns-in_err-first-clause-parses : goal.returns-in_err-first-clause-parses
returns-in_err-first-clause-parses c =
    part_stops (at c.parameter.new.self) c.from_residual.result c.in_err-first.field-0.0 (into (here (call params) (at c.args.self.now)) tt (some_params (head (at c.args.self.now)) (not_here c.is_at.ensures.here c.if-is_at.false) (not_here c.is_at-2.ensures.here c.if-is_at-2.false))) (err_from_is_err_and _ c.from_residual.ensures.1) c.in_err-first.ensures.parses

pub returns-in_err-rest-clause-parses : goal.returns-in_err-rest-clause-parses
returns-in_err-rest-clause-parses c =
    part_stops (at c.parameters_on.new.self) c.from_residual-in_err-rest.result c.in_err-rest.field-0.0 (given (into (here (call params) (at c.args.self.now)) tt (some_params (head (at c.args.self.now)) (not_here c.is_at.ensures.here c.if-is_at.false) (not_here c.is_at-2.ensures.here c.if-is_at-2.false))) c.in_ok-first.ensures.parses) (err_from_is_err_and _ c.from_residual-in_err-rest.ensures.1) c.in_err-rest.ensures.parses

pub returns-clause-parses : goal.returns-clause-parses
returns-clause-parses c =
    makes c.prepended.result c.prepended.ensures (given (given (into (here (call params) (at c.args.self.now)) tt (some_params (head (at c.args.self.now)) (not_here c.is_at.ensures.here c.if-is_at.false) (not_here c.is_at-2.ensures.here c.if-is_at-2.false))) c.in_ok-first.ensures.parses) c.in_ok-rest.ensures.parses)
