-- The types that names stand for, by the ranks of names: a known type has fewer steps to go than
-- its rank says.
use Rattle.std.proofs.Common.{◌≡◌, ◌≤◌, ◌<◌, ℕ, zero, suc, Option, Some, None, refl, inl, inr, arith}
use Rattle.flux_schema.specs.Ty.{Ty, empty, atom, element, any_element, seq, alt, star, named}
use Rattle.flux_schema.specs.Definitions.{Definitions, body_of, IsKnown, IsGood, StandsIn}
use Rattle.flux_schema.specs.Single.{of_atom, of_element, of_any, of_name as of_named}
use Rattle.flux_schema.proofs.Singles.{single-unfolded}
use Rattle.flux_schema.proofs.Ranks.{most, rank_of, rank-falls}
use Rattle.flux_typing.specs.Update.{StandsFor, for_one, for_none}
use Rattle.flux_typing.proofs.Growth.{body_at}

most-le : (f : ℕ → ℕ) (k : ℕ) (t : Ty) → ((y : ℕ) → StandsIn y t → f y < k) → most f t ≤ k
most-le f k empty h = omega arith
most-le f k (atom a) h = omega arith
most-le f k (element n t) h = omega arith
most-le f k (any_element t) h = omega arith
most-le f k (seq t u) h = omega (arith, most-le f k t (λ y s. h y (inl s)), most-le f k u (λ y s. h y (inr s)))
most-le f k (alt t u) h = omega (arith, most-le f k t (λ y s. h y (inl s)), most-le f k u (λ y s. h y (inr s)))
most-le f k (star t) h = most-le f k t h
most-le f k (named y) h = omega (arith, h y refl)

module _ (Δ : Definitions) (good : IsGood Δ) where
  pub rank : ℕ → ℕ
  rank = rank_of Δ

  body_ranks : (x : ℕ) (t : Ty) → body_of Δ x ≡ Some t → most rank t ≤ rank x
  unfolding rank
  body_ranks x t e = most-le rank (rank x) t (λ y s. rank-falls Δ good x y (t, e, s))

  -- the body of a known name is known, and has a step less to go
  pub record Body (n x : ℕ) : Type 0 where
    pub type : Ty
    pub is : body_of Δ x ≡ Some type
    pub ranks : most rank type ≤ n
    pub known : IsKnown Δ type

  pub body_with : (n x : ℕ) → most rank (named x) ≤ suc n → IsKnown Δ (named x) → Body n x
  body_with n x h k =
      let b = body_at Δ x k in
      record { type = b.0; is = b.1; ranks = omega (arith, body_ranks x b.0 b.1, h); known = good.known x b.0 b.1 }

  stands_at : (n : ℕ) (t : Ty) → most rank t ≤ n → IsKnown Δ t → (a : Option Ty) × StandsFor Δ t a
  stands_at n empty h k = (None, for_none (λ s i. elim i [ ]))
  stands_at n (atom a) h k = (Some (atom a), for_one (of_atom a))
  stands_at n (element l t) h k = (Some (element l t), for_one (of_element l t))
  stands_at n (any_element t) h k = (Some (any_element t), for_one (of_any t))
  stands_at n (seq t u) h k = (None, for_none (λ s i. elim i [ ]))
  stands_at n (alt t u) h k = (None, for_none (λ s i. elim i [ ]))
  stands_at n (star t) h k = (None, for_none (λ s i. elim i [ ]))
  stands_at zero (named x) h k = absurd (omega (arith, h))
  stands_at (suc n) (named x) h k =
      let b = body_with n x h k in
      let a = stands_at n b.type b.ranks b.known in
      (a.0, unfolded b.type a.0 b.is a.1)
    where
      unfolded : (t : Ty) (a : Option Ty) → body_of Δ x ≡ Some t → StandsFor Δ t a → StandsFor Δ (named x) a
      unfolded t a e (for_one i) = for_one (of_named x e i)
      unfolded t a e (for_none i) = for_none (λ s j. i s (single-unfolded Δ x t s e j))

  pub stands_total : (t : Ty) → IsKnown Δ t → (a : Option Ty) × StandsFor Δ t a
  stands_total t k = stands_at (most rank t) t (omega arith) k
