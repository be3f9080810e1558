-- Types with what adds nothing taken away.
use Rattle.std.specs.Prelude.{if◌then◌else◌}
use Rattle.flux_schema.specs.Ty.{Ty, empty, atom, element, any_element, seq, alt, star, named}
pub use Rattle.flux_schema.specs.Same.{same_kind, same}

-- `(),t` and `t,()` are t
abbrev pub tidy_seq : Ty → Ty → Ty
tidy_seq empty u = u
tidy_seq t empty = t
tidy_seq t u = seq t u

-- `t|t` is t
abbrev pub tidy_alt : Ty → Ty → Ty
tidy_alt t u = if same t u then t else alt t u

-- `()*` is ()
abbrev pub tidy_star : Ty → Ty
tidy_star empty = empty
tidy_star t = star t

-- tidied from the leaves up; names aren't unfolded
abbrev pub tidy : Ty → Ty
tidy empty = empty
tidy (atom k) = atom k
tidy (element n t) = element n (tidy t)
tidy (any_element t) = any_element (tidy t)
tidy (seq t u) = tidy_seq (tidy t) (tidy u)
tidy (alt t u) = tidy_alt (tidy t) (tidy u)
tidy (star t) = tidy_star (tidy t)
tidy (named x) = named x
