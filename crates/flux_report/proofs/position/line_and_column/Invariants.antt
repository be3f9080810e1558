use Rattle.std.proofs.Common.{take}
use Rattle.flux_report.proofs.Counted.{AreCounted}
use Rattle.flux_report.proofs.position.line_and_column.Given as goal

abbrev pub invariant-loop-byte : goal.invariant-loop-byte
invariant-loop-byte l = AreCounted l.byte-items l.byte-index l.line l.column
