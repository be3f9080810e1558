use Rattle.std.proofs.Common.{◌≡◌, Some, take}
use Rattle.flux_schema.specs.Ty.{Ty}
use Rattle.flux_grammar.specs.TypeOf.{under_marks}
use Rattle.flux_normal.specs.Written.{extent_of}
use Rattle.flux_normal.proofs.written.marked.Given as goal

-- the marks so far are over the type
abbrev pub invariant-loop-mark : goal.invariant-loop-mark
invariant-loop-mark l =
    (t : Ty) → l.fn.inner ≡ Some (extent_of t) → l.extent ≡ extent_of (under_marks t (take l.mark-index l.marks))
