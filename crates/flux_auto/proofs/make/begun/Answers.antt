use Rattle.std.proofs.Common.{[], true, refl}
use Rattle.flux_types.proofs.Variants.{of_empty}
use Rattle.flux_auto.proofs.Contents.{put_as}
use Rattle.flux_auto.proofs.Making.{begun_with}
use Rattle.flux_auto.proofs.make.begun.Goals as goal

pub returns : goal.returns
returns c = begun_with _ c.put.new.table c.in_ok-put.field-0 c.new.ensures.items c.new-2.ensures.items (put_as _ c.put.new.table _ _ 0 true _ [] c.in_ok-put.field-0 (of_empty _ refl) c.new-4.ensures.items c.in_ok-put.ensures.ok)
