-- Items of lists by their places.
use Rattle.std.proofs.Common.{◌≡◌, ◌⊎◌, ℕ, zero, suc, ◌+◌, ◌<◌, ◌≤◌, Bool, false, List, [], ◌∷◌, ◌++◌, length, Option, None, Some, is_some, slice_get, get_or, refl, sym, ap, subst, ◌∙◌, inl, inr, arith, length-append, append_assoc}
use Rattle.std.proofs.Math.ListN.{set}
use Rattle.std.proofs.lemmas.List.{append-nil}
use Rattle.std.proofs.lemmas.Option.{slice_get_within, slice_get-get_or}
use Rattle.indexmap.specs.IndexMap.{IndexMap, get, insert_entry}
use Rattle.indexmap.proofs.CallerLemmas.{insert_entry-new}
use Rattle.flux_auto.specs.Going.{Has}

pub get-append : {A : Type 0} (xs ys : List A) (i : ℕ) → i < length xs → slice_get (xs ++ ys) i ≡ slice_get xs i
get-append [] ys i h = absurd (omega (arith, h))
get-append (x ∷ xs) ys zero h = refl
get-append (x ∷ xs) ys (suc i) h = get-append xs ys i (omega (arith, h))

pub get-end : {A : Type 0} (xs : List A) (y : A) (ys : List A) → slice_get (xs ++ y ∷ ys) (length xs) ≡ Some y
get-end [] y ys = refl
get-end (x ∷ xs) y ys = get-end xs y ys

pub some_is : {A : Type 0} (x y : A) → Some x ≡ Some y → x ≡ y
some_is x y e = cc

pub split_at : {A : Type 0} (xs : List A) (i : ℕ) (x : A) → slice_get xs i ≡ Some x → (b : List A) × (a : List A) × (xs ≡ b ++ x ∷ a) × (length b ≡ i)
split_at [] i x e = cc
split_at (y ∷ xs) zero x e = ([], xs, ap (λ z. z ∷ xs) (some_is y x e), refl)
split_at (y ∷ xs) (suc i) x e = let p = split_at xs i x e in (y ∷ p.0, p.1, ap (λ l. y ∷ l) p.2, ap suc p.3)

pub get-set_here : {A : Type 0} (xs : List A) (i : ℕ) (x : A) → i < length xs → slice_get (set xs i x) i ≡ Some x
get-set_here [] i x h = absurd (omega (arith, h))
get-set_here (y ∷ xs) zero x h = refl
get-set_here (y ∷ xs) (suc i) x h = get-set_here xs i x (omega (arith, h))

pub get-set_other : {A : Type 0} (xs : List A) (i j : ℕ) (x : A) → (j ≡ i → ⊥) → slice_get (set xs i x) j ≡ slice_get xs j
get-set_other [] i j x ne = refl
get-set_other (y ∷ xs) zero zero x ne = absurd (ne refl)
get-set_other (y ∷ xs) zero (suc j) x ne = refl
get-set_other (y ∷ xs) (suc i) zero x ne = refl
get-set_other (y ∷ xs) (suc i) (suc j) x ne = get-set_other xs i j x (λ e. ne (ap suc e))

-- an item of a list with one more is one of the list's, or the last
pub get-push : {X : Type 0} (xs : List X) (x : X) (i : ℕ) (y : X) → slice_get (xs ++ x ∷ []) i ≡ Some y → ((i < length xs) × (slice_get xs i ≡ Some y)) ⊎ ((i ≡ length xs) × (x ≡ y))
get-push [] x zero y e = inr (refl, cc)
get-push [] x (suc i) y e = absurd cc
get-push (z ∷ xs) x zero y e = inl (omega arith, e)
get-push (z ∷ xs) x (suc i) y e = by (get-push xs x i y e)
  where
    by : ((i < length xs) × (slice_get xs i ≡ Some y)) ⊎ ((i ≡ length xs) × (x ≡ y)) → ((suc i < suc (length xs)) × (slice_get xs i ≡ Some y)) ⊎ ((suc i ≡ suc (length xs)) × (x ≡ y))
    by (inl p) = inl ((let l = p.0 in omega (arith, l)), p.1)
    by (inr p) = inr (ap suc p.0, p.1)

pub has-append : {X : Type 0} (xs ys : List X) (x : X) → Has xs x → Has (xs ++ ys) x
has-append xs ys x (k, e) = (k, get-append xs ys k (slice_get_within xs k x e) ∙ e)

pub has-right : {X : Type 0} (xs ys : List X) (x : X) → Has ys x → Has (xs ++ ys) x
has-right [] ys x h = h
has-right (y ∷ xs) ys x h = let p = has-right xs ys x h in (suc p.0, p.1)

pub has-split : {X : Type 0} (xs ys : List X) (x : X) → Has (xs ++ ys) x → Has xs x ⊎ Has ys x
has-split [] ys x h = inr h
has-split (y ∷ xs) ys x (zero, e) = inl (zero, e)
has-split (y ∷ xs) ys x (suc k, e) = elim (has-split xs ys x (k, e)) [ inl p ↦ inl (suc p.0, p.1) | inr p ↦ inr p ]

pub has-last : {X : Type 0} (xs : List X) (x : X) → Has (xs ++ x ∷ []) x
has-last xs x = (length xs, get-end xs x [])

pub has-push : {X : Type 0} (xs : List X) (x y : X) → Has (xs ++ x ∷ []) y → Has xs y ⊎ (x ≡ y)
has-push xs x y (k, e) = elim (get-push xs x k y e) [ inl p ↦ inl (k, p.1) | inr p ↦ inr p.1 ]

pub has-nil : {X : Type 0} (x : X) → Has [] x → ⊥
has-nil x (k, e) = cc

pub has-none : {X : Type 0} (xs : List X) (x : X) → xs ≡ [] → Has xs x → ⊥
has-none xs x e h = has-nil x (subst (λ l. Has l x) e h)

-- the item that was read
pub read_is : {X : Type 0} (xs : List X) (i : ℕ) (x d : X) → i < length xs → x ≡ get_or xs i d → slice_get xs i ≡ Some x
read_is xs i x d h e = slice_get-get_or xs i d h ∙ ap Some (sym e)

-- nothing changes where an item is put in its own place
pub set-same : {X : Type 0} (xs : List X) (i : ℕ) (x : X) → slice_get xs i ≡ Some x → set xs i x ≡ xs
set-same [] i x e = refl
set-same (y ∷ xs) zero x e = ap (λ z. z ∷ xs) (sym (some_is y x e))
set-same (y ∷ xs) (suc i) x e = ap (λ l. y ∷ l) (set-same xs i x e)

pub below_or_at : (i n : ℕ) → i < n + 1 → (i < n) ⊎ (i ≡ n)
below_or_at zero zero h = inr refl
below_or_at zero (suc n) h = inl (omega arith)
below_or_at (suc i) zero h = absurd (omega arith)
below_or_at (suc i) (suc n) h = elim (below_or_at i n (omega arith)) [ inl h ↦ inl (omega arith) | inr e ↦ inr (ap (λ k. suc k) e) ]

-- a list that grows at its end
pub grows-refl : {X : Type 0} (xs : List X) → (more : List X) × (xs ≡ xs ++ more)
grows-refl xs = ([], sym (append-nil xs))

pub grows-trans : {X : Type 0} (xs ys zs : List X) → (more : List X) × (ys ≡ xs ++ more) → (more : List X) × (zs ≡ ys ++ more) → (more : List X) × (zs ≡ xs ++ more)
grows-trans xs ys zs (m, e) (n, f) = (m ++ n, f ∙ ap (λ l. l ++ n) e ∙ append_assoc xs m n)

pub grows-length : {X : Type 0} (xs ys : List X) → (more : List X) × (ys ≡ xs ++ more) → length xs ≤ length ys
grows-length xs ys (m, e) = omega (arith, ap length e, length-append xs m)

pub grows-get : {X : Type 0} (xs ys : List X) (i : ℕ) → (more : List X) × (ys ≡ xs ++ more) → i < length xs → slice_get ys i ≡ slice_get xs i
grows-get xs ys i (m, e) h = ap (λ l. slice_get l i) e ∙ get-append xs m i h

pub grows-has : {X : Type 0} (xs ys : List X) (x : X) → (more : List X) × (ys ≡ xs ++ more) → Has xs x → Has ys x
grows-has xs ys x (m, e) h = subst (λ l. Has l x) (sym e) (has-append xs m x h)

-- an entry with a new key
pub new_entry : {K V S : Type 0} (eq : K → K → Bool) (m : IndexMap K V S) (k : K) (v : V) (es : List (K × V)) → is_some (get eq m k) ≡ false → es ≡ insert_entry eq m.entries k v → es ≡ m.entries ++ (k, v) ∷ []
new_entry {K} {V} eq m k v es off e = e ∙ insert_entry-new eq m k v (none (get eq m k) off)
  where
    none : (r : Option V) → is_some r ≡ false → r ≡ None
    none None h = refl
    none (Some x) h = cc
