-- How much a walk has still to do.
use Rattle.std.proofs.Common.{◌≡◌, ◌<◌, ◌≤◌, ◌+◌, ◌*◌, ℕ, zero, suc, List, [], ◌∷◌, Some, refl, ap, inl, inr, arith, add-mul}
use Rattle.std.proofs.Math.Nat.{one-mul, mul-le-mul_right}
use Rattle.flux_schema.specs.Ty.{Ty, empty, atom, element, any_element, seq, alt, star, named, size}
use Rattle.flux_schema.specs.Definitions.{Definitions, body_of, StandsIn}
use Rattle.flux_schema.proofs.Ranks.{rank_of, rank-falls}
use Rattle.flux_types.specs.Kept.{AreKept}
use Rattle.flux_core.specs.Walk.{Frame, first_of_seq, second_of_seq, first_of_alt, second_of_alt, inside_star, Position, before, behind, Turns, Concludes, Goes, into_seq, into_alt, into_star, to_body, past_empty, to_second, out_of, Walks, stays, goes_on}

-- more than a body of names of lower rank takes
abbrev power : ℕ → ℕ
power zero = 1
power (suc n) = power n * 262144

power-pos : (n : ℕ) → 1 ≤ power n
power-pos zero = omega arith
power-pos (suc n) = omega (arith, power-pos n)

power-more : (m n : ℕ) → m ≤ n → power m ≤ power n
power-more zero n h = power-pos n
power-more (suc m) zero h = absurd (omega (arith, h))
power-more (suc m) (suc n) h = omega (arith, power-more m n (omega (arith, h)))

-- the steps of a type outside its elements
abbrev work : (ℕ → ℕ) → Ty → ℕ
work f empty = 1
work f (atom k) = 1
work f (element n t) = 1
work f (any_element t) = 1
work f (seq t u) = work f t + work f u + 3
work f (alt t u) = work f t + work f u + 3
work f (star t) = work f t + 2
work f (named x) = f x

work-bound : (f : ℕ → ℕ) (m : ℕ) → 1 ≤ m → (t : Ty) → ((y : ℕ) → StandsIn y t → f y ≤ m) → work f t + 3 * m ≤ 4 * (size t * m)
work-bound f m h empty b = omega (arith, one-mul m, h)
work-bound f m h (atom k) b = omega (arith, one-mul m, h)
work-bound f m h (element n t) b = omega (arith, add-mul (size t) 1 m, one-mul m, h)
work-bound f m h (any_element t) b = omega (arith, add-mul (size t) 1 m, one-mul m, h)
work-bound f m h (seq t u) b = omega (arith, work-bound f m h t (λ y s. b y (inl s)), work-bound f m h u (λ y s. b y (inr s)), add-mul (size t + size u) 1 m, add-mul (size t) (size u) m, one-mul m, h)
work-bound f m h (alt t u) b = omega (arith, work-bound f m h t (λ y s. b y (inl s)), work-bound f m h u (λ y s. b y (inr s)), add-mul (size t + size u) 1 m, add-mul (size t) (size u) m, one-mul m, h)
work-bound f m h (star t) b = omega (arith, work-bound f m h t b, add-mul (size t) 1 m, one-mul m, h)
work-bound f m h (named x) b = omega (arith, one-mul m, b x refl)

module _ (defs : Definitions) where
  abbrev name_work : ℕ → ℕ
  name_work x = power (suc (rank_of defs x))

  abbrev pub type_work : Ty → ℕ
  type_work t = work name_work t

  pub body_less : AreKept defs → (x : ℕ) (t : Ty) → body_of defs x ≡ Some t → type_work t < name_work x
  body_less kept x t e =
      let m = power (rank_of defs x) in
      let pos : 1 ≤ m = power-pos (rank_of defs x) in
      let below : (y : ℕ) → StandsIn y t → name_work y ≤ m = λ y s. power-more (suc (rank_of defs y)) (rank_of defs x) (rank-falls defs kept.good x y (t, e, s)) in
      let bound : work name_work t + 3 * m ≤ 4 * (size t * m) = work-bound name_work m pos t below in
      let few : size t * m ≤ 65536 * m = mul-le-mul_right m (kept.limits x t e).nodes in
      omega (arith, bound, few, pos)

  abbrev frame_work : Frame → ℕ
  frame_work (first_of_seq v) = type_work v + 2
  frame_work (second_of_seq s) = 1
  frame_work (first_of_alt v) = type_work v + 2
  frame_work (second_of_alt s) = 1
  frame_work inside_star = 1

  abbrev frames_work : List Frame → ℕ
  frames_work [] = 0
  frames_work (f ∷ fs) = frame_work f + frames_work fs

  -- the steps from a position, but for what is done with trees
  abbrev pub position_work : Position → ℕ
  position_work (before fs t) = frames_work fs + type_work t
  position_work (behind fs u) = frames_work fs

  pub turns_fewer : (fs : List Frame) (f g : Frame) (u t : Ty) → Turns f u g t → position_work (before (g ∷ fs) t) < position_work (behind (f ∷ fs) u)
  turns_fewer fs (first_of_seq v) g u t (is, e) = omega (arith, ap frame_work is, ap type_work e)
  turns_fewer fs (second_of_seq s) g u t x = absurd x
  turns_fewer fs (first_of_alt v) g u t (is, e) = omega (arith, ap frame_work is, ap type_work e)
  turns_fewer fs (second_of_alt s) g u t x = absurd x
  turns_fewer fs inside_star g u t x = absurd x

  pub out_fewer : (fs : List Frame) (f : Frame) (u t : Ty) → Concludes f u t → position_work (behind fs t) < position_work (behind (f ∷ fs) u)
  out_fewer fs (first_of_seq v) u t x = absurd x
  out_fewer fs (second_of_seq s) u t x = omega arith
  out_fewer fs (first_of_alt v) u t x = absurd x
  out_fewer fs (second_of_alt s) u t x = omega arith
  out_fewer fs inside_star u t x = omega arith

  pub goes_fewer : AreKept defs → {p q : Position} → Goes defs p q → position_work q < position_work p
  goes_fewer kept (into_seq t u) = omega arith
  goes_fewer kept (into_alt t u) = omega arith
  goes_fewer kept (into_star t) = omega arith
  goes_fewer kept (to_body x {t} e) = omega (arith, body_less kept x t e)
  goes_fewer kept (past_empty fs) = omega arith
  goes_fewer kept (to_second {fs} f g {t} {u} turns) = turns_fewer fs f g u t turns
  goes_fewer kept (out_of {fs} f {t} {u} is limits) = out_fewer fs f u t is

  pub walks_fewer : AreKept defs → {p q : Position} → Walks defs p q → position_work q ≤ position_work p
  walks_fewer kept stays = omega arith
  walks_fewer kept (goes_on w g) = omega (arith, goes_fewer kept g, walks_fewer kept w)
