-- Good definitions have ranks: numbers of the names that fall along each step outside elements.
use Rattle.std.proofs.Common.{◌≡◌, ◌⊎◌, ◌<◌, ◌≤◌, ℕ, zero, suc, max, List, [], ◌∷◌, Option, Some, None, Bool, true, false, length, get_or, replicate, refl, sym, ap, subst, ◌∙◌, inl, inr, arith}
use Rattle.std.proofs.lemmas.List.{length-set, length-replicate}
use Rattle.std.proofs.Math.ListN.{set}
use Rattle.flux_schema.specs.Ty.{Ty, empty, atom, element, any_element, seq, alt, star, named}
use Rattle.flux_schema.specs.Definitions.{Definitions, body_of, StandsIn, Leads, Reaches, at_once, through, IsGood, FallsAlong}
use Rattle.flux_schema.specs.Marks.{IsMarked, unmarked}
use Rattle.flux_schema.proofs.MarkLaws.{le_or, marked-set, unmarked-set, none_marked}

-- ---- steps

pub reaches_on : {bodies : ℕ → Option Ty} {x y : ℕ} (z : ℕ) → Reaches bodies x y → Leads bodies y z → Reaches bodies x z
reaches_on z (at_once l) h = through _ l (at_once h)
reaches_on z (through y l r) h = through y l (reaches_on z r h)

pub body_within : (defs : Definitions) (x : ℕ) (t : Ty) → body_of defs x ≡ Some t → x < length defs
body_within [] x t e = cc
body_within (d ∷ defs) zero t e = omega arith
body_within (d ∷ defs) (suc x) t e = omega (arith, body_within defs x t e)

-- ---- the greatest number above those of the names that stand outside elements

abbrev pub most : (ℕ → ℕ) → Ty → ℕ
most f empty = 0
most f (atom k) = 0
most f (element n t) = 0
most f (any_element t) = 0
most f (seq t u) = max (most f t) (most f u)
most f (alt t u) = max (most f t) (most f u)
most f (star t) = most f t
most f (named y) = suc (f y)

abbrev pub most_body : (ℕ → ℕ) → Option Ty → ℕ
most_body f None = 0
most_body f (Some t) = most f t

-- the length of the longest chain of at most n steps from a name
abbrev pub depth : (ℕ → Option Ty) → ℕ → ℕ → ℕ
depth bodies zero x = 0
depth bodies (suc n) x = most_body (depth bodies n) (bodies x)

pub most-above : (f : ℕ → ℕ) (t : Ty) (y : ℕ) → StandsIn y t → f y < most f t
most-above f empty y h = absurd h
most-above f (atom k) y h = absurd h
most-above f (element n t) y h = absurd h
most-above f (any_element t) y h = absurd h
most-above f (seq t u) y (inl h) = omega (arith, most-above f t y h)
most-above f (seq t u) y (inr h) = omega (arith, most-above f u y h)
most-above f (alt t u) y (inl h) = omega (arith, most-above f t y h)
most-above f (alt t u) y (inr h) = omega (arith, most-above f u y h)
most-above f (star t) y h = most-above f t y h
most-above f (named z) y h = subst (λ w. f w < suc (f z)) (sym h) (omega arith)

pub most-below : (f : ℕ → ℕ) (n : ℕ) (t : Ty) → ((y : ℕ) → StandsIn y t → f y < n) → most f t ≤ n
most-below f n empty h = omega arith
most-below f n (atom k) h = omega arith
most-below f n (element m t) h = omega arith
most-below f n (any_element t) h = omega arith
most-below f n (seq t u) h = omega (arith, most-below f n t (λ y s. h y (inl s)), most-below f n u (λ y s. h y (inr s)))
most-below f n (alt t u) h = omega (arith, most-below f n t (λ y s. h y (inl s)), most-below f n u (λ y s. h y (inr s)))
most-below f n (star t) h = most-below f n t h
most-below f n (named y) h = h y refl

abbrev Rises : (ℕ → ℕ) → (ℕ → ℕ) → Ty → Type 0
Rises f g t = (y : ℕ) × StandsIn y t × (f y < g y)

two_rise : (a b c d : ℕ) → max a b < max c d → (a < c) ⊎ (b < d)
two_rise a b c d h = elim (le_or c a) [ inr p ↦ inl p | inl p ↦ inr (omega (arith, p, h)) ]

rise_left : (f g : ℕ → ℕ) (t u : Ty) → Rises f g t → Rises f g (seq t u)
rise_left f g t u (y, s, h) = (y, inl s, h)

rise_right : (f g : ℕ → ℕ) (t u : Ty) → Rises f g u → Rises f g (seq t u)
rise_right f g t u (y, s, h) = (y, inr s, h)

-- where the greatest number is greater by g, some name's number is
rises : (f g : ℕ → ℕ) (t : Ty) → most f t < most g t → Rises f g t
rises f g empty h = absurd (omega (arith, h))
rises f g (atom k) h = absurd (omega (arith, h))
rises f g (element n t) h = absurd (omega (arith, h))
rises f g (any_element t) h = absurd (omega (arith, h))
rises f g (seq t u) h =
    elim (two_rise (most f t) (most f u) (most g t) (most g u) h) [ inl p ↦ rise_left f g t u (rises f g t p) | inr p ↦ rise_right f g t u (rises f g u p) ]
rises f g (alt t u) h =
    elim (two_rise (most f t) (most f u) (most g t) (most g u) h) [ inl p ↦ rise_left f g t u (rises f g t p) | inr p ↦ rise_right f g t u (rises f g u p) ]
rises f g (star t) h = rises f g t h
rises f g (named y) h = (y, refl, omega (arith, h))

body_rises : (f g : ℕ → ℕ) (o : Option Ty) → most_body f o < most_body g o → (t : Ty) × (o ≡ Some t) × Rises f g t
body_rises f g None h = absurd (omega (arith, h))
body_rises f g (Some t) h = (t, refl, rises f g t h)

-- some name stands outside elements, where the greatest number isn't 0
abbrev SomeStands : Ty → Type 0
SomeStands t = (y : ℕ) × StandsIn y t

two_pos : (c d : ℕ) → 0 < max c d → (0 < c) ⊎ (0 < d)
two_pos c d h = two_rise 0 0 c d (omega (arith, h))

stand_left : (t u : Ty) → SomeStands t → SomeStands (seq t u)
stand_left t u (y, s) = (y, inl s)

stand_right : (t u : Ty) → SomeStands u → SomeStands (seq t u)
stand_right t u (y, s) = (y, inr s)

stands : (g : ℕ → ℕ) (t : Ty) → 0 < most g t → SomeStands t
stands g empty h = absurd (omega (arith, h))
stands g (atom k) h = absurd (omega (arith, h))
stands g (element n t) h = absurd (omega (arith, h))
stands g (any_element t) h = absurd (omega (arith, h))
stands g (seq t u) h = elim (two_pos (most g t) (most g u) h) [ inl p ↦ stand_left t u (stands g t p) | inr p ↦ stand_right t u (stands g u p) ]
stands g (alt t u) h = elim (two_pos (most g t) (most g u) h) [ inl p ↦ stand_left t u (stands g t p) | inr p ↦ stand_right t u (stands g u p) ]
stands g (star t) h = stands g t h
stands g (named y) h = (y, refl)

body_stands : (g : ℕ → ℕ) (o : Option Ty) → 0 < most_body g o → (t : Ty) × (o ≡ Some t) × SomeStands t
body_stands g None h = absurd (omega (arith, h))
body_stands g (Some t) h = (t, refl, stands g t h)

-- ---- chains of steps

abbrev Chain : (ℕ → Option Ty) → ℕ → ℕ → Type 0
Chain bodies zero x = Unit {0}
Chain bodies (suc k) x = (y : ℕ) × Leads bodies x y × Chain bodies k y

chain_of : (bodies : ℕ → Option Ty) (n x : ℕ) → depth bodies n x < depth bodies (suc n) x → Chain bodies (suc n) x
chain_of bodies zero x h =
    let s = body_stands (depth bodies 0) (bodies x) h in
    (s.2.0, (s.0, s.1, s.2.1), tt)
chain_of bodies (suc n) x h =
    let s = body_rises (depth bodies n) (depth bodies (suc n)) (bodies x) h in
    (s.2.0, (s.0, s.1, s.2.1), chain_of bodies n s.2.0 s.2.2)

abbrev Loops : (ℕ → Option Ty) → Type 0
Loops bodies = (x : ℕ) × Reaches bodies x x

-- a chain is no longer than there are unmarked names, or a name reaches itself
module _ (bodies : ℕ → Option Ty) (n : ℕ) (within : (x : ℕ) (t : Ty) → bodies x ≡ Some t → x < n) where
  abbrev Before : List Bool → ℕ → Type 0
  Before marks x = (y : ℕ) → IsMarked marks y → Reaches bodies y x

  before-set : (marks : List Bool) (x y : ℕ) → Before marks x → Leads bodies x y → Before (set marks x true) y
  before-set marks x y b l z m =
      elim (marked-set marks x z m) [ inl e ↦ subst (λ w. Reaches bodies w y) (sym e) (at_once l) | inr k ↦ reaches_on y (b z k) l ]

  abbrev Bounded : ℕ → ℕ → Type 0
  Bounded k y = (marks : List Bool) → length marks ≡ n → Before marks y → (k ≤ unmarked marks) ⊎ Loops bodies

  chain_step : (k x y : ℕ) (marks : List Bool) → length marks ≡ n → Before marks x → Leads bodies x y → Bounded k y → (b : Bool) → get_or marks x false ≡ b → (suc k ≤ unmarked marks) ⊎ Loops bodies
  chain_step k x y marks len b l next true e = inr (x, b x e)
  chain_step k x y marks len b l next false e =
      let lt : x < length marks = omega (arith, within x l.0 l.1, len) in
      elim (next (set marks x true) (length-set marks x true ∙ len) (before-set marks x y b l)) [
        | inl h ↦ inl (omega (arith, h, unmarked-set marks x lt e))
        | inr o ↦ inr o
      ]

  chain_bound : (k x : ℕ) → Chain bodies k x → Bounded k x
  chain_bound zero x c marks len b = inl (omega arith)
  chain_bound (suc k) x (y, l, c) marks len b = chain_step k x y marks len b l (chain_bound k y c) (get_or marks x false) refl

unmarked-replicate : (n : ℕ) → unmarked (replicate n false) ≡ n
unmarked-replicate zero = refl
unmarked-replicate (suc n) = ap suc (unmarked-replicate n)

-- ---- ranks

-- a rank of each name
abbrev pub rank_of : Definitions → ℕ → ℕ
rank_of defs x = depth (body_of defs) (length defs) x

no_chain : (defs : Definitions) → IsGood defs → (x : ℕ) → Chain (body_of defs) (suc (length defs)) x → ⊥
no_chain defs good x c =
    elim (chain_bound (body_of defs) (length defs) (body_within defs) (suc (length defs)) x c (replicate (length defs) false) (length-replicate (length defs) false) (λ y m. absurd (none_marked (length defs) y m))) [
      | inl h ↦ omega (arith, h, unmarked-replicate (length defs))
      | inr o ↦ good.guarded o.0 o.1
    ]

settled : (defs : Definitions) → IsGood defs → (x : ℕ) → depth (body_of defs) (suc (length defs)) x ≤ rank_of defs x
settled defs good x =
    elim (le_or (depth (body_of defs) (suc (length defs)) x) (rank_of defs x)) [
      | inl h ↦ h
      | inr h ↦ absurd (no_chain defs good x (chain_of (body_of defs) (length defs) x h))
    ]

-- the ranks of good definitions fall along each step
pub rank-falls : (defs : Definitions) → IsGood defs → FallsAlong (rank_of defs) (body_of defs)
rank-falls defs good x y (t, e, s) =
    let above : depth (body_of defs) (length defs) y < most_body (depth (body_of defs) (length defs)) (body_of defs x) = rw e (most-above (depth (body_of defs) (length defs)) t y s) in
    omega (arith, above, settled defs good x)

most-bound : (f : ℕ → ℕ) (n : ℕ) → ((y : ℕ) → f y ≤ n) → (t : Ty) → most f t ≤ suc n
most-bound f n h empty = omega arith
most-bound f n h (atom k) = omega arith
most-bound f n h (element m t) = omega arith
most-bound f n h (any_element t) = omega arith
most-bound f n h (seq t u) = omega (arith, most-bound f n h t, most-bound f n h u)
most-bound f n h (alt t u) = omega (arith, most-bound f n h t, most-bound f n h u)
most-bound f n h (star t) = most-bound f n h t
most-bound f n h (named y) = omega (arith, h y)

body-bound : (f : ℕ → ℕ) (n : ℕ) → ((y : ℕ) → f y ≤ n) → (o : Option Ty) → most_body f o ≤ suc n
body-bound f n h None = omega arith
body-bound f n h (Some t) = most-bound f n h t

depth-bound : (bodies : ℕ → Option Ty) (n x : ℕ) → depth bodies n x ≤ n
depth-bound bodies zero x = omega arith
depth-bound bodies (suc n) x = body-bound (depth bodies n) n (depth-bound bodies n) (bodies x)

-- and are no more than there are definitions
pub rank-bound : (defs : Definitions) (x : ℕ) → rank_of defs x ≤ length defs
rank-bound defs x = depth-bound (body_of defs) (length defs) x
