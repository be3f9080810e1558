use Rattle.std.proofs.Common.{◌+◌}
use Rattle.flux_types.specs.declared.ty.Ty.{size-Ty}
use Rattle.flux_types.proofs.text.+push_type.Given as goal

abbrev pub decreases-push_type : goal.decreases-push_type
decreases-push_type l = size-Ty l.ty.now + size-Ty l.ty.now

abbrev pub decreases-push_part : goal.decreases-push_part
decreases-push_part l = size-Ty l.ty.now + size-Ty l.ty.now + 1

abbrev pub decreases-push_content : goal.decreases-push_content
decreases-push_content l = size-Ty l.ty.now + size-Ty l.ty.now + 1
