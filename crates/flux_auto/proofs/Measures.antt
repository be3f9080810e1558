-- How much work a type is, with the names that stand in it outside elements.
use Rattle.std.proofs.Common.{◌≡◌, ℕ, zero, suc, ◌+◌, ◌*◌, ◌<◌, ◌≤◌, ◌⊎◌, [], ◌∷◌, Some, max, refl, inl, inr, arith}
use Rattle.std.proofs.Math.Nat.{mul-le-mul_right}
use Rattle.flux_schema.specs.Ty.{Ty, empty, atom, element, any_element, seq, alt, star, named, size}
use Rattle.flux_schema.specs.Definitions.{Definitions, body_of, StandsIn}
use Rattle.flux_schema.proofs.Ranks.{rank_of, rank-falls}
use Rattle.flux_auto.specs.Pending.{effort, IsEffort}

-- the greatest size of a body
abbrev pub widest : Definitions → ℕ
widest [] = 0
widest (d ∷ defs) = max (size d.body) (widest defs)

body-size : (defs : Definitions) (x : ℕ) (t : Ty) → body_of defs x ≡ Some t → size t ≤ widest defs
body-size [] x t e = cc
body-size (d ∷ defs) zero t e = let same : d.body ≡ t = cc in rw (← same) (omega arith)
body-size (d ∷ defs) (suc x) t e = omega (arith, body-size defs x t e)

-- what names of a rank take, where no body has more than w nodes
abbrev pub by_rank : ℕ → ℕ → ℕ
by_rank w zero = 3
by_rank w (suc r) = (w + 1) * by_rank w r

by_rank-step : (w r : ℕ) → by_rank w r ≤ by_rank w (suc r)
by_rank-step w r = omega arith

by_rank-three : (w r : ℕ) → 3 ≤ by_rank w r
by_rank-three w zero = omega arith
by_rank-three w (suc r) = omega (arith, by_rank-three w r, by_rank-step w r)

last_or_less : (i j : ℕ) → i ≤ suc j → (i ≡ suc j) ⊎ (i ≤ j)
last_or_less zero j le = inr (omega arith)
last_or_less (suc i) zero le = inl (omega (arith, le))
last_or_less (suc i) (suc j) le = elim (last_or_less i j (omega (arith, le))) [ inl e ↦ inl (omega (arith, e)) | inr h ↦ inr (omega (arith, h)) ]

by_rank-less : (w i j : ℕ) → i ≤ j → by_rank w i ≤ by_rank w j
by_rank-less w i zero le = let e : i ≡ zero = omega (arith, le) in rw e (omega arith)
by_rank-less w i (suc j) le = elim (last_or_less i j le) [ inl e ↦ rw e (omega arith) | inr h ↦ omega (arith, by_rank-less w i j h, by_rank-step w j) ]

pub effort_of : Definitions → ℕ → ℕ
effort_of defs x = by_rank (widest defs) (suc (rank_of defs x))

-- a type takes at most so much a node
effort-size : (f : ℕ → ℕ) (m : ℕ) (t : Ty) → 3 ≤ m → ((y : ℕ) → StandsIn y t → f y ≤ m) → effort f t ≤ size t * m
effort-size f m empty le h = omega (arith, le)
effort-size f m (atom k) le h = omega (arith, le)
effort-size f m (element n t) le h = omega (arith, le, mul-le-mul_right m (one_more (size t)))
  where
    one_more : (n : ℕ) → 1 ≤ n + 1
    one_more n = omega arith
effort-size f m (any_element t) le h = omega (arith, le, mul-le-mul_right m (one_more (size t)))
  where
    one_more : (n : ℕ) → 1 ≤ n + 1
    one_more n = omega arith
effort-size f m (seq t u) le h = omega (arith, le, effort-size f m t le (λ y s. h y (inl s)), effort-size f m u le (λ y s. h y (inr s)))
effort-size f m (alt t u) le h = omega (arith, le, effort-size f m t le (λ y s. h y (inl s)), effort-size f m u le (λ y s. h y (inr s)))
effort-size f m (star t) le h = omega (arith, le, effort-size f m t le h)
effort-size f m (named x) le h = omega (arith, h x refl)

within_rank : (s w m e : ℕ) → s ≤ w → 3 ≤ m → e ≤ s * m → e < (w + 1) * m
within_rank s w m e le three h = omega (arith, le, three, h, mul-le-mul_right m le)

-- a name takes more than its body, under good definitions
pub effort_of-is : (defs : Definitions) → IsEffort defs (effort_of defs)
unfolding effort_of
effort_of-is defs good x t e =
    let w = widest defs in
    let m = by_rank w (rank_of defs x) in
    let each : (y : ℕ) → StandsIn y t → effort_of defs y ≤ m = λ y s. by_rank-less w (suc (rank_of defs y)) (rank_of defs x) (omega (arith, rank-falls defs good x y (t, e, s))) in
    within_rank (size t) w m (effort (effort_of defs) t) (body-size defs x t e) (by_rank-three w (rank_of defs x)) (effort-size (effort_of defs) m t (by_rank-three w (rank_of defs x)) each)
