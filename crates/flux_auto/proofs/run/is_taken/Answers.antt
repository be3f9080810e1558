use Rattle.std.proofs.Common.{◌∙◌, ap, refl, map, List, Bool}
use Rattle.flux_forest.specs.View.{forest_of}
use Rattle.flux_auto.specs.declared.table.Row.{Row}
use Rattle.flux_auto.specs.Takes.{has, takes}
use Rattle.flux_auto.specs.Built.{state_of}
use Rattle.flux_auto.proofs.run.is_taken.Goals as goal

pub returns : goal.returns
returns c =
    let v = forest_of c.args.run in
    c.has.ensures ∙ ap (λ (p : List Bool). has p 0) (c.set_at.ensures ∙ c.in_ok-number.ensures.profile) ∙ ap (λ (rows : List Row). takes (map state_of rows) 0 v) c.as_slice-reached.ensures.value ∙ c.in_ok-part.ensures.starts 0 c.args.state v refl
