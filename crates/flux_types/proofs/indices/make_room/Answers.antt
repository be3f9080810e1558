use Rattle.std.proofs.Common.{◌∙◌, ap}
use Rattle.flux_types.specs.Indices.{index_in}
use Rattle.flux_types.proofs.IndexLaws.{index_in-push}
use Rattle.flux_types.proofs.indices.make_room.Goals as goal

pub loop-name-preserved : goal.loop-name-preserved
loop-name-preserved c = λ n. ap (λ ps. index_in ps n) c.in_ok-push.ensures.items ∙ index_in-push c.loop-name.indices.items n ∙ c.loop-name.invariant n
