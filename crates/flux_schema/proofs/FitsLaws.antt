-- Under good definitions the test of membership answers membership.
use Rattle.std.proofs.Common.{◌≡◌, ◌⊎◌, ◌<◌, ◌≤◌, ◌+◌, ◌*◌, ℕ, zero, suc, Option, Some, None, Bool, true, false, ◌&&◌, ◌||◌, length, refl, sym, ap, subst, ◌∙◌, inl, inr, arith, suc-mul, add-mul, zero-mul}
use Rattle.std.proofs.lemmas.Bool.{eqb-true, eq-eqb, and_parts, and_from, or_cases, or_left, or_right}
use Rattle.flux_atom.specs.declared.atom.AtomKind.{AtomKind}
use Rattle.flux_atom.specs.Atom.{kind_of}
use Rattle.flux_trees.specs.Hedge.{Plain, nil, elem, leaf, join}
use Rattle.flux_trees.specs.Hedge as hedge
use Rattle.flux_trees.proofs.HedgeLaws.{size-join}
use Rattle.flux_schema.specs.Ty.{Ty, empty, atom, element, any_element, seq, alt, star, named}
use Rattle.flux_schema.specs.Definitions.{Definitions, body_of, StandsIn, IsGood, FallsAlong}
use Rattle.flux_schema.specs.Member.{Member, in_empty, in_atom, in_element, in_any, in_seq, in_left, in_right, in_done, in_more, in_name}
use Rattle.flux_schema.specs.Tidy.{same_kind}
use Rattle.flux_schema.specs.Fits.{is_nil, is_atom, is_element, is_any, any_split, repeats, fits, body_fits, name_fits, MembershipComputes}
use Rattle.flux_schema.proofs.SameLaws.{same_kind-eq, same_kind-same}
use Rattle.flux_schema.proofs.Ranks.{rank_of, rank-falls, rank-bound}

-- ---- tests

abbrev Split : (Plain → Plain → Bool) → Plain → Type 0
Split p z = (v : Plain) × (w : Plain) × (join v w ≡ z) × (p v w ≡ true)

from_split : (p : Plain → Plain → Bool) (z : Plain) → any_split p z ≡ true → Split p z
from_split p nil e = (nil, nil, refl, e)
from_split p (elem n a c r) e =
    elim (or_cases (p nil (elem n a c r)) (any_split (λ v w. p (elem n a c v) w) r) e) [
      | inl h ↦ (nil, elem n a c r, refl, h)
      | inr h ↦ let s = from_split (λ v w. p (elem n a c v) w) r h in (elem n a c s.0, s.1, ap (elem n a c) s.2, s.3)
    ]
from_split p (leaf n x r) e =
    elim (or_cases (p nil (leaf n x r)) (any_split (λ v w. p (leaf n x v) w) r) e) [
      | inl h ↦ (nil, leaf n x r, refl, h)
      | inr h ↦ let s = from_split (λ v w. p (leaf n x v) w) r h in (leaf n x s.0, s.1, ap (leaf n x) s.2, s.3)
    ]

split_joined : (p : Plain → Plain → Bool) (v w : Plain) → p v w ≡ true → any_split p (join v w) ≡ true
split_joined p nil nil h = h
split_joined p nil (elem n a c r) h = or_left _ _ h
split_joined p nil (leaf n x r) h = or_left _ _ h
split_joined p (elem n a c v) w h = or_right _ _ (split_joined (λ v w. p (elem n a c v) w) v w h)
split_joined p (leaf n x v) w h = or_right _ _ (split_joined (λ v w. p (leaf n x v) w) v w h)

to_split : (p : Plain → Plain → Bool) (v w z : Plain) → join v w ≡ z → p v w ≡ true → any_split p z ≡ true
to_split p v w z e h = subst (λ y. any_split p y ≡ true) e (split_joined p v w h)

nil_is : (z : Plain) → is_nil z ≡ true → z ≡ nil
nil_is nil e = refl
nil_is (elem n a c r) e = cc
nil_is (leaf n x r) e = cc

-- ---- what passes is a member

module _ (defs : Definitions) where
  atom-sound : (k : AtomKind) (z : Plain) → is_atom k z ≡ true → Member defs z (atom k)
  atom-sound k nil e = cc
  atom-sound k (elem n a c r) e = cc
  atom-sound k (leaf n x nil) e = in_atom x (same_kind-eq (kind_of x) k e)
  atom-sound k (leaf n x (elem m a c r)) e = cc
  atom-sound k (leaf n x (leaf m y r)) e = cc

  element-sound : (n : ℕ) (t : Ty) (p : Plain → Bool) → ((v : Plain) → p v ≡ true → Member defs v t) → (z : Plain) → is_element n p z ≡ true → Member defs z (element n t)
  element-sound n t p f nil e = cc
  element-sound n t p f (elem a m v nil) e =
      let b = and_parts _ _ e in
      subst (λ l. Member defs (elem tt l v nil) (element n t)) (sym (eqb-true m n b.0)) (in_element n (f v b.1))
  element-sound n t p f (elem a m v (elem b l c r)) e = cc
  element-sound n t p f (elem a m v (leaf b x r)) e = cc
  element-sound n t p f (leaf a x r) e = cc

  any-sound : (t : Ty) (p : Plain → Bool) → ((v : Plain) → p v ≡ true → Member defs v t) → (z : Plain) → is_any p z ≡ true → Member defs z (any_element t)
  any-sound t p f nil e = cc
  any-sound t p f (elem a m v nil) e = in_any m (f v e)
  any-sound t p f (elem a m v (elem b l c r)) e = cc
  any-sound t p f (elem a m v (leaf b x r)) e = cc
  any-sound t p f (leaf a x r) e = cc

  repeats-sound : (t : Ty) (p : Plain → Bool) → ((v : Plain) → p v ≡ true → Member defs v t) → (n : ℕ) (z : Plain) → repeats p n z ≡ true → Member defs z (star t)
  repeats-sound t p f zero z e = subst (λ y. Member defs y (star t)) (sym (nil_is z e)) (in_done t)
  repeats-sound t p f (suc n) z e =
      elim (or_cases (is_nil z) (any_split (λ v w. p v && repeats p n w) z) e) [
        | inl h ↦ subst (λ y. Member defs y (star t)) (sym (nil_is z h)) (in_done t)
        | inr h ↦ let s = from_split (λ v w. p v && repeats p n w) z h in
            let b = and_parts _ _ s.3 in
            in_more s.0 s.1 s.2 (f s.0 b.0) (repeats-sound t p f n s.1 b.1)
      ]

  fits-sound : (q : ℕ → Plain → Bool) → ((x : ℕ) (v : Plain) → q x v ≡ true → Member defs v (named x)) → (t : Ty) (z : Plain) → fits q t z ≡ true → Member defs z t
  fits-sound q f empty z e = subst (λ y. Member defs y empty) (sym (nil_is z e)) in_empty
  fits-sound q f (atom k) z e = atom-sound k z e
  fits-sound q f (element n t) z e = element-sound n t (fits q t) (fits-sound q f t) z e
  fits-sound q f (any_element t) z e = any-sound t (fits q t) (fits-sound q f t) z e
  fits-sound q f (seq t u) z e =
      let s = from_split (λ v w. fits q t v && fits q u w) z e in
      let b = and_parts _ _ s.3 in
      in_seq s.0 s.1 s.2 (fits-sound q f t s.0 b.0) (fits-sound q f u s.1 b.1)
  fits-sound q f (alt t u) z e =
      elim (or_cases (fits q t z) (fits q u z) e) [ inl h ↦ in_left u (fits-sound q f t z h) | inr h ↦ in_right t (fits-sound q f u z h) ]
  fits-sound q f (star t) z e = repeats-sound t (fits q t) (fits-sound q f t) (hedge.size z) z e
  fits-sound q f (named x) z e = f x z e

  body-sound : (q : ℕ → Plain → Bool) → ((x : ℕ) (v : Plain) → q x v ≡ true → Member defs v (named x)) → (x : ℕ) (v : Plain) (o : Option Ty) → body_of defs x ≡ o → body_fits q o v ≡ true → Member defs v (named x)
  body-sound q f x v None is e = cc
  body-sound q f x v (Some t) is e = in_name x is (fits-sound q f t v e)

  name-sound : (n x : ℕ) (v : Plain) → name_fits defs n x v ≡ true → Member defs v (named x)
  name-sound zero x v e = cc
  name-sound (suc n) x v e = body-sound (name_fits defs n) (name-sound n) x v (body_of defs x) refl e

-- ---- a member passes

repeats-more : (p : Plain → Bool) (n m : ℕ) → n ≤ m → (z : Plain) → repeats p n z ≡ true → repeats p m z ≡ true
repeats-more p zero zero h z e = e
repeats-more p zero (suc m) h z e = or_left _ _ e
repeats-more p (suc n) zero h z e = absurd (omega (arith, h))
repeats-more p (suc n) (suc m) h z e =
    elim (or_cases (is_nil z) (any_split (λ v w. p v && repeats p n w) z) e) [
      | inl k ↦ or_left _ _ k
      | inr k ↦ let s = from_split (λ v w. p v && repeats p n w) z k in
          let b = and_parts _ _ s.3 in
          or_right (is_nil z) _ (to_split (λ v w. p v && repeats p m w) s.0 s.1 z s.2 (and_from _ _ b.0 (repeats-more p n m (omega (arith, h)) s.1 b.1)))
    ]

-- at least one tree first
repeats_after : (p : Plain → Bool) (n : ℕ) (v w z : Plain) → join v w ≡ z → 1 ≤ hedge.size v → hedge.size z ≤ n → p v ≡ true → repeats p (hedge.size w) w ≡ true → repeats p n z ≡ true
repeats_after p zero v w z j s h e f = absurd (omega (arith, size-join v w, ap hedge.size j))
repeats_after p (suc n) v w z j s h e f =
    or_right (is_nil z) _ (to_split (λ v w. p v && repeats p n w) v w z j (and_from _ _ e (repeats-more p (hedge.size w) n (omega (arith, size-join v w, ap hedge.size j)) w f)))

repeats_joined : (p : Plain → Bool) (v w z : Plain) → join v w ≡ z → p v ≡ true → repeats p (hedge.size w) w ≡ true → repeats p (hedge.size z) z ≡ true
repeats_joined p nil w z j e f = subst (λ y. repeats p (hedge.size y) y ≡ true) j f
repeats_joined p (elem n a c r) w z j e f = repeats_after p (hedge.size z) (elem n a c r) w z j (omega arith) (omega arith) e f
repeats_joined p (leaf n x r) w z j e f = repeats_after p (hedge.size z) (leaf n x r) w z j (omega arith) (omega arith) e f

module _ (defs : Definitions) (rank : ℕ → ℕ) (r : ℕ) (falls : FallsAlong rank (body_of defs)) (bound : (x : ℕ) → rank x < r) where
  abbrev AllBelow : ℕ → Ty → Type 0
  AllBelow k t = (y : ℕ) → StandsIn y t → rank y < k

  part_fits : (a b c k n : ℕ) → c ≡ a + b → c * r + k ≤ n → (a * r + k ≤ n) × (b * r + k ≤ n)
  part_fits a b c k n e h =
      let s : c * r ≡ a * r + b * r = ap (λ m. m * r) e ∙ add-mul a b r in
      (omega (arith, s, h), omega (arith, s, h))

  name-step : (x : ℕ) (t : Ty) (z : Plain) → body_of defs x ≡ Some t → ((n : ℕ) → hedge.size z * r + rank x ≤ n → fits (name_fits defs n) t z ≡ true)
      → (n : ℕ) → hedge.size z * r + suc (rank x) ≤ n → name_fits defs n x z ≡ true
  name-step x t z e f zero h = absurd (omega (arith, h))
  name-step x t z e f (suc n) h = rw e (f n (omega (arith, h)))

  fits-complete : {z : Plain} {t : Ty} → Member defs z t → (k n : ℕ) → AllBelow k t → hedge.size z * r + k ≤ n → fits (name_fits defs n) t z ≡ true
  fits-complete in_empty k n b h = refl
  fits-complete (in_atom x is) k n b h = subst (λ l. same_kind (kind_of x) l ≡ true) is (same_kind-same (kind_of x))
  fits-complete (in_element m {v} {t} c) k n b h =
      and_from _ _ (eq-eqb m m refl) (fits-complete c r n (λ y s. bound y) (omega (arith, suc-mul (hedge.size v + 0) r, add-mul (hedge.size v) 0 r, zero-mul r, h)))
  fits-complete (in_any m {v} {t} c) k n b h =
      fits-complete c r n (λ y s. bound y) (omega (arith, suc-mul (hedge.size v + 0) r, add-mul (hedge.size v) 0 r, zero-mul r, h))
  fits-complete {z = z} (in_seq v w {t} {u} j c d) k n b h =
      let p = part_fits (hedge.size v) (hedge.size w) (hedge.size z) k n (ap hedge.size (sym j) ∙ size-join v w) h in
      to_split (λ v w. fits (name_fits defs n) t v && fits (name_fits defs n) u w) v w z j (and_from _ _ (fits-complete c k n (λ y s. b y (inl s)) p.0) (fits-complete d k n (λ y s. b y (inr s)) p.1))
  fits-complete (in_left u c) k n b h = or_left _ _ (fits-complete c k n (λ y s. b y (inl s)) h)
  fits-complete (in_right t c) k n b h = or_right _ _ (fits-complete c k n (λ y s. b y (inr s)) h)
  fits-complete (in_done t) k n b h = refl
  fits-complete {z = z} (in_more v w {t} j c d) k n b h =
      let p = part_fits (hedge.size v) (hedge.size w) (hedge.size z) k n (ap hedge.size (sym j) ∙ size-join v w) h in
      repeats_joined (fits (name_fits defs n) t) v w z j (fits-complete c k n b p.0) (fits-complete d k n b p.1)
  fits-complete {z = z} (in_name x {t} e c) k n b h =
      name-step x t z e (λ m g. fits-complete c (rank x) m (λ y s. falls x y (t, e, s)) g) n (omega (arith, b x refl, h))

rank-below : (defs : Definitions) (x : ℕ) → rank_of defs x < length defs + 1
rank-below defs x = omega (arith, rank-bound defs x)

-- the test answers membership
pub is_member-true : (defs : Definitions) → IsGood defs → MembershipComputes defs
is_member-true defs good z t =
    let names = name_fits defs ((hedge.size z + 1) * (length defs + 1)) in
    let below = λ (x : ℕ). rank-below defs x in (
      fits-sound defs names (name-sound defs ((hedge.size z + 1) * (length defs + 1))) t z,
      λ m. fits-complete defs (rank_of defs) (length defs + 1) (rank-falls defs good) below m (length defs + 1) ((hedge.size z + 1) * (length defs + 1)) (λ y s. below y) (omega (arith, add-mul (hedge.size z) 1 (length defs + 1))),
    )
