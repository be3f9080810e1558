use Rattle.std.proofs.Common.{refl}
use Rattle.std.proofs.lemmas.Result.{err_from_is_err_and}
use Rattle.flux_grammar.specs.Grammar.{path}
use Rattle.flux_grammar.specs.Machine.{call}
use Rattle.flux_syntax.specs.At.{at}
use Rattle.flux_syntax.proofs.Leads.{here, into, given, makes, part_stops}
use Rattle.flux_syntax.proofs.reader.Reader.path.Goals as goal

pub returns-in_err-first-clause-parses : goal.returns-in_err-first-clause-parses
returns-in_err-first-clause-parses c =
    part_stops (at c.step.new.self) c.from_residual.result c.in_err-first.field-0.0 (into (here (call (path c.args.depth)) (at c.args.self.now)) tt (λ k. refl)) (err_from_is_err_and _ c.from_residual.ensures.1) c.in_err-first.ensures.parses

pub returns-in_err-rest-clause-parses : goal.returns-in_err-rest-clause-parses
returns-in_err-rest-clause-parses c =
    part_stops (at c.slashes.new.self) c.from_residual-in_err-rest.result c.in_err-rest.field-0.0 (given (into (here (call (path c.args.depth)) (at c.args.self.now)) tt (λ k. refl)) c.in_ok-first.ensures.parses) (err_from_is_err_and _ c.from_residual-in_err-rest.ensures.1) c.in_err-rest.ensures.parses

pub returns-clause-parses : goal.returns-clause-parses
returns-clause-parses c =
    makes c.made_path.result c.made_path.ensures (given (given (into (here (call (path c.args.depth)) (at c.args.self.now)) tt (λ k. refl)) c.in_ok-first.ensures.parses) c.in_ok-rest.ensures.parses)
