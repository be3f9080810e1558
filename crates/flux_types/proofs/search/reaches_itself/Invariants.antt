use Rattle.std.proofs.Common.{◌+◌, length}
use Rattle.flux_schema.specs.Definitions.{body_of}
use Rattle.flux_schema.specs.Marks.{unmarked}
use Rattle.flux_types.specs.Kept.{definitions_of}
use Rattle.flux_types.proofs.SearchLaws.{Searches}
use Rattle.flux_types.proofs.search.reaches_itself.Given as goal

abbrev pub invariant-loop-next : goal.invariant-loop-next
invariant-loop-next l = Searches (body_of (definitions_of l.kept)) (length l.kept) l.index l.marks.items l.waiting.items

-- a name is taken, and each that comes loses its want of a mark
abbrev pub decreases-loop-next : goal.decreases-loop-next
decreases-loop-next l = unmarked l.marks.items + length l.waiting.items
