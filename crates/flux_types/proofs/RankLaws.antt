-- The laws of ranks: a name whose every step falls, where no step rises, doesn't reach itself.
use Rattle.std.proofs.Common.{◌≡◌, ◌<◌, ◌≤◌, ℕ, Option, Some, subst, sym, inl, inr, arith}
use Rattle.flux_schema.specs.Ty.{Ty, empty, atom, element, any_element, seq, alt, star, named}
use Rattle.flux_schema.specs.Definitions.{StandsIn, Leads, Reaches, at_once, through}
use Rattle.flux_types.specs.Search.{RanksBelow, NeverRises, FallsFrom}
use Rattle.flux_types.proofs.SearchLaws.{leads_by}

rank_along : (rank : ℕ → ℕ) (bodies : ℕ → Option Ty) {x z : ℕ} → NeverRises rank bodies → Reaches bodies x z → rank z ≤ rank x
rank_along rank bodies h (at_once l) = h _ _ l
rank_along rank bodies h (through y l r) = omega (arith, h _ y l, rank_along rank bodies h r)

falls_along : (rank : ℕ → ℕ) (bodies : ℕ → Option Ty) {x z : ℕ} → NeverRises rank bodies → FallsFrom rank bodies x → Reaches bodies x z → rank z < rank x
falls_along rank bodies h f (at_once l) = f _ l
falls_along rank bodies h f (through y l r) = omega (arith, f y l, rank_along rank bodies h r)

pub no_return : (rank : ℕ → ℕ) (bodies : ℕ → Option Ty) (x : ℕ) → NeverRises rank bodies → FallsFrom rank bodies x → Reaches bodies x x → ⊥
no_return rank bodies x h f r = omega (arith, falls_along rank bodies h f r)

rank_below : (rank : ℕ → ℕ) (n : ℕ) (t : Ty) (y : ℕ) → RanksBelow rank n t → StandsIn y t → rank y < n
rank_below rank n empty y b s = absurd s
rank_below rank n (atom k) y b s = absurd s
rank_below rank n (element m t) y b s = absurd s
rank_below rank n (any_element t) y b s = absurd s
rank_below rank n (seq t u) y b (inl s) = rank_below rank n t y b.0 s
rank_below rank n (seq t u) y b (inr s) = rank_below rank n u y b.1 s
rank_below rank n (alt t u) y b (inl s) = rank_below rank n t y b.0 s
rank_below rank n (alt t u) y b (inr s) = rank_below rank n u y b.1 s
rank_below rank n (star t) y b s = rank_below rank n t y b s
rank_below rank n (named x) y b s = subst (λ z. rank z < n) (sym s) b

-- the steps from a name lead to what stands in its body
pub steps_below : (rank : ℕ → ℕ) (bodies : ℕ → Option Ty) (n x y : ℕ) (t : Ty) → bodies x ≡ Some t → RanksBelow rank n t → Leads bodies x y → rank y < n
steps_below rank bodies n x y t e b l = rank_below rank n t y b (leads_by bodies x y t e l)
