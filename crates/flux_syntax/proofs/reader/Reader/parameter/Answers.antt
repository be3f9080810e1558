use Rattle.std.proofs.Common.{refl}
use Rattle.std.proofs.lemmas.Result.{err_from_is_err_and}
use Rattle.flux_grammar.specs.Grammar.{param}
use Rattle.flux_grammar.specs.Machine.{call}
use Rattle.flux_syntax.specs.At.{at}
use Rattle.flux_syntax.proofs.Leads.{here, into, took, given, gives, part_stops, piece_stops}
use Rattle.flux_syntax.proofs.reader.Reader.parameter.Goals as goal

pub returns-in_err-var-clause-parses : goal.returns-in_err-var-clause-parses
returns-in_err-var-clause-parses c =
    part_stops (at c.var.new.self) c.from_residual.result c.in_err-var.field-0.0 (into (here (call param) (at c.args.self.now)) tt (λ k. refl)) (err_from_is_err_and _ c.from_residual.ensures.1) c.in_err-var.ensures.parses

pub returns-in_err-take-clause-parses : goal.returns-in_err-take-clause-parses
returns-in_err-take-clause-parses c =
    piece_stops (at c.take.new.self) c.from_residual-in_err-take.result c.in_err-take.field-0.0 (given (into (here (call param) (at c.args.self.now)) tt (λ k. refl)) c.in_ok-var.ensures.parses) (err_from_is_err_and _ c.from_residual-in_err-take.ensures.1) c.in_err-take.ensures.took

pub returns-in_err-ty-clause-parses : goal.returns-in_err-ty-clause-parses
returns-in_err-ty-clause-parses c =
    part_stops (at c.repeated.new.self) c.from_residual-in_err-ty.result c.in_err-ty.field-0.0 (took (given (into (here (call param) (at c.args.self.now)) tt (λ k. refl)) c.in_ok-var.ensures.parses) c.in_ok-take.ensures.took) (err_from_is_err_and _ c.from_residual-in_err-ty.ensures.1) c.in_err-ty.ensures.parses

pub returns-clause-parses : goal.returns-clause-parses
returns-clause-parses c =
    gives (given (took (given (into (here (call param) (at c.args.self.now)) tt (λ k. refl)) c.in_ok-var.ensures.parses) c.in_ok-take.ensures.took) c.in_ok-ty.ensures.parses)
