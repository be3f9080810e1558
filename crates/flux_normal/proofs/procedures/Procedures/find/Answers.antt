use Rattle.std.proofs.Common.{◌≡◌, Some, None, MatchOption, find, sym, subst}
use Rattle.std.specs.List.{position_or_len}
use Rattle.flux_normal.specs.Heads.{has_name}
use Rattle.flux_normal.proofs.ProcedureLaws.{found_both, found_head}
use Rattle.flux_normal.proofs.procedures.Procedures.find.Goals as goal

pub returns : goal.returns
returns c =
    found_both c.args.name c.number.result c.self.inside.parameters.entries c.args.self.now c.in_ok-index.index c.in_ok-index.parameters.now c.number.ensures c.self.view_is c.in_ok-index.ensures.index c.in_ok-index.ensures.value

pub returns-in_err-index : goal.returns-in_err-index
returns-in_err-index c =
    subst (λ r. MatchOption r (find (has_name c.args.name) c.args.self.now ≡ None) (λ found. (found.index ≡ position_or_len (has_name c.args.name) c.args.self.now) × (find (has_name c.args.name) c.args.self.now ≡ Some (c.args.name, found.parameters)))) (sym c.from_residual.ensures)
    (found_head c.args.name c.number.result c.self.inside.parameters.entries c.args.self.now None c.number.ensures c.self.view_is c.in_err-index.ensures.value)
