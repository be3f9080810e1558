use Rattle.flux_report.proofs.Counted.{counted_none}
use Rattle.flux_report.proofs.position.line_and_column.Goals as goal

pub loop-byte-init : goal.loop-byte-init
loop-byte-init c = counted_none _
