use Rattle.std.proofs.Common.{◌≡◌, ℕ, ◌+◌, ◌-◌, ◌≤◌, List, ◌++◌, length}
use Rattle.flux_doctext.proofs.DocumentLaws.{HasPassed}
use Rattle.flux_doctext.proofs.read.read_document.Given as goal

abbrev pub invariant-bytes : goal.invariant-bytes
invariant-bytes l = record {
  more : (more : List (List ℕ)) × (l.names ≡ l.fn.names ++ more);
  room : length l.names ≤ length l.fn.names + l.place;
  passed : HasPassed l.fn.names l.names l.bytes l.place l.forest l.state;
}

abbrev pub decreases-bytes : goal.decreases-bytes
decreases-bytes l = length l.bytes - l.place
