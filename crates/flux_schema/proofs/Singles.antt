-- What a type stands for is one thing, and can be found by unfolding names.
use Rattle.std.proofs.Common.{◌≡◌, ◌∙◌, Some, ℕ, refl, sym, subst}
use Rattle.std.proofs.lemmas.Option.{same_Some}
use Rattle.flux_schema.specs.Ty.{Ty, empty, seq, alt, star, named}
use Rattle.flux_schema.specs.Definitions.{Definitions, body_of}
use Rattle.flux_schema.specs.Single.{Single, of_atom, of_element, of_any, of_name, IsNotSingle}

from_name : {defs : Definitions} {x : ℕ} {s : Ty} → Single defs (named x) s → (t : Ty) × (body_of defs x ≡ Some t) × Single defs t s
from_name (of_name x {t} e h) = (t, e, h)

-- at most one
pub single-only : {defs : Definitions} {t s s' : Ty} → Single defs t s → Single defs t s' → s ≡ s'
single-only (of_atom k) (of_atom _) = refl
single-only (of_element n t) (of_element _ _) = refl
single-only (of_any t) (of_any _) = refl
single-only {defs = defs} {s' = s'} (of_name x {t} e h) k =
    let p = from_name k in
    single-only h (subst (λ u. Single defs u s') (same_Some p.0 t (sym p.1 ∙ e)) p.2)

-- a name and its body stand for the same
pub single-unfolded : (defs : Definitions) (x : ℕ) (t s : Ty) → body_of defs x ≡ Some t → Single defs (named x) s → Single defs t s
single-unfolded defs x t s e h =
    let p = from_name h in
    subst (λ u. Single defs u s) (same_Some p.0 t (sym p.1 ∙ e)) p.2
