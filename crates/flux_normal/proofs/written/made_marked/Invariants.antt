use Rattle.std.proofs.Common.{◌≡◌, take}
use Rattle.flux_types.specs.Read.{ty_of}
use Rattle.flux_grammar.specs.TypeOf.{under_marks}
use Rattle.flux_normal.proofs.written.made_marked.Given as goal

-- the marks so far are over the type
abbrev pub invariant-loop-mark : goal.invariant-loop-mark
invariant-loop-mark l = ty_of l.ty ≡ under_marks (ty_of l.fn.inner) (take l.mark-index l.marks)
