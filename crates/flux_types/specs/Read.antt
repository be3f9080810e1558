-- The type of the calculus that a Rust type spells.
use Rattle.flux_schema.specs.Ty.{Ty, empty, atom, element, any_element, seq, alt, star, named}
use Rattle.flux_types.specs.declared.ty.Ty.{Ty as Tree}
use Rattle.flux_types.specs.declared.ty.Ty.TheOpen.{Ty-F}
use Rattle.flux_types.specs.declared.ty.Ty.TheFolds.{fold-Ty}

-- each variant as the form of the same name
abbrev pub ty_step : Ty-F Ty → Ty
ty_step Ty-F.Empty = empty
ty_step (Ty-F.Atom k) = atom k
ty_step (Ty-F.Elem n t) = element n t
ty_step (Ty-F.AnyElem t) = any_element t
ty_step (Ty-F.Seq t u) = seq t u
ty_step (Ty-F.Alt t u) = alt t u
ty_step (Ty-F.Star t) = star t
ty_step (Ty-F.Named x) = named x

abbrev pub ty_of : Tree → Ty
ty_of = fold-Ty Ty ty_step
