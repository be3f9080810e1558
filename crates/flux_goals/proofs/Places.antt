-- Items of lists by their places.
use Rattle.std.proofs.Common.{◌≡◌, ℕ, zero, suc, List, [], ◌∷◌, length, Some, slice_get, refl, ap, arith}
use Rattle.indexmap.specs.Layout.{set_value_at}
use Rattle.flux_auto.proofs.Items.{some_is}

-- the value that was written at a place
pub value_here : {K V : Type 0} (es : List (K × V)) (i : ℕ) (e : K × V) (v : V) → slice_get es i ≡ Some e → slice_get (set_value_at es i v) i ≡ Some (e.0, v)
value_here [] i e v at = cc
value_here (x ∷ es) zero e v at = ap (λ y. Some (y.0, v)) (some_is x e at)
value_here (x ∷ es) (suc i) e v at = value_here es i e v at

pub value_elsewhere : {K V : Type 0} (es : List (K × V)) (i j : ℕ) (v : V) → (j ≡ i → ⊥) → slice_get (set_value_at es i v) j ≡ slice_get es j
value_elsewhere [] i j v ne = refl
value_elsewhere (x ∷ es) zero zero v ne = absurd (ne refl)
value_elsewhere (x ∷ es) zero (suc j) v ne = refl
value_elsewhere (x ∷ es) (suc i) zero v ne = refl
value_elsewhere (x ∷ es) (suc i) (suc j) v ne = value_elsewhere es i j v (λ e. ne (ap suc e))

pub none_left : {X : Type 0} (xs : List X) → length xs ≡ 0 → xs ≡ []
none_left [] e = refl
none_left (x ∷ xs) e = absurd (omega (arith, e))
