-- The first of what a loop looks for.
use Rattle.std.proofs.Common.{◌≡◌, ℕ, zero, suc, ◌+◌, ◌<◌, ◌≤◌, List, [], ◌∷◌, ◌++◌, length, take, drop, get_or, Option, Some, None, map, refl, sym, ap, ◌∙◌, arith, append-nil, append_assoc, drop-cons, add-one}
use Rattle.std.specs.List.{flat_map, slice_get, filter_map}
use Rattle.std.proofs.lemmas.Grind.{flat_map-append}
use Rattle.std.proofs.lemmas.List.{take_all}
use Rattle.std.proofs.Math.Seq.{take-suc}
use Rattle.flux_grammar.specs.declared.tree.TypeText.{TypeText}
use Rattle.flux_grammar.specs.NormalFaults.{first}
use Rattle.flux_normal.specs.Written.{unknowns, unknowns_among}
use Rattle.flux_normal.proofs.TypeTexts.{among-cons}

pub first_none : {A : Type 0} (xs : List A) → first xs ≡ None → xs ≡ []
first_none [] e = refl
first_none (x ∷ xs) e = absurd (cc)

pub first_before : {A : Type 0} (xs ys : List A) (p : A) → first xs ≡ Some p → first (xs ++ ys) ≡ Some p
first_before [] ys p e = absurd (cc)
first_before (x ∷ xs) ys p e = e

-- the first elements and one more
pub take_next : {A : Type 0} (xs : List A) (i : ℕ) (x : A) → i < length xs → x ≡ get_or xs i x → take (i + 1) xs ≡ take i xs ++ x ∷ []
take_next xs i x lt e = rw add-one (take-suc xs i x lt ∙ ap (λ y. take i xs ++ y ∷ []) (sym e))

-- an element, and what stands before and behind it
split_suc : {A : Type 0} (xs : List A) (i : ℕ) (x : A) → i < length xs → x ≡ get_or xs i x → xs ≡ take i xs ++ x ∷ drop (suc i) xs
split_suc [] i x lt e = absurd (omega arith)
split_suc (y ∷ ys) zero x lt e = ap (λ z. z ∷ ys) (sym e)
split_suc (y ∷ ys) (suc i) x lt e = ap (λ zs. y ∷ zs) (split_suc ys i x (omega arith) e)

pub split_at : {A : Type 0} (xs : List A) (i : ℕ) (x : A) → i < length xs → x ≡ get_or xs i x → xs ≡ take i xs ++ x ∷ drop (i + 1) xs
split_at xs i x lt e = split_suc xs i x lt e ∙ ap (λ n. take i xs ++ x ∷ drop n xs) (sym (add-one i))

-- what each element gives
module _ {A B : Type 0} (f : A → List B) where
  pub gives_more : (xs : List A) (i : ℕ) (x : A) → i < length xs → x ≡ get_or xs i x → flat_map f (take i xs) ≡ [] → f x ≡ [] → flat_map f (take (i + 1) xs) ≡ []
  gives_more xs i x lt e none g =
      ap (flat_map f) (take_next xs i x lt e) ∙ flat_map-append f (take i xs) (x ∷ []) ∙ ap (λ ys. ys ++ flat_map f (x ∷ [])) none ∙ append-nil (f x) ∙ g

  pub gives_here : (xs : List A) (i : ℕ) (x : A) (p : B) → i < length xs → x ≡ get_or xs i x → flat_map f (take i xs) ≡ [] → first (f x) ≡ Some p → first (flat_map f xs) ≡ Some p
  gives_here xs i x p lt e none g =
      ap (λ ys. first (flat_map f ys)) (split_at xs i x lt e)
      ∙ ap first (flat_map-append f (take i xs) (x ∷ drop (i + 1) xs) ∙ ap (λ ys. ys ++ flat_map f (x ∷ drop (i + 1) xs)) none)
      ∙ first_before (f x) (flat_map f (drop (i + 1) xs)) p g

  pub gives_none : (xs : List A) (i : ℕ) → length xs ≤ i → flat_map f (take i xs) ≡ [] → flat_map f xs ≡ []
  gives_none xs i le none = ap (flat_map f) (sym (take_all i xs le)) ∙ none

-- the unknown names of several types
pub among_flat : (names : List ℕ) (ts : List TypeText) → unknowns_among names ts ≡ flat_map (unknowns names) ts
among_flat names [] = refl
among_flat names (t ∷ ts) = among-cons names t ts ∙ ap (λ us. unknowns names t ++ us) (among_flat names ts)

pub among_more : (names : List ℕ) (ts : List TypeText) (i : ℕ) (t : TypeText) → i < length ts → t ≡ get_or ts i t → unknowns_among names (take i ts) ≡ [] → first (unknowns names t) ≡ None → unknowns_among names (take (i + 1) ts) ≡ []
among_more names ts i t lt e none g =
    among_flat names (take (i + 1) ts) ∙ gives_more (unknowns names) ts i t lt e (sym (among_flat names (take i ts)) ∙ none) (first_none (unknowns names t) g)

pub among_here : (names : List ℕ) (ts : List TypeText) (i : ℕ) (t : TypeText) (p : ℕ) → i < length ts → t ≡ get_or ts i t → unknowns_among names (take i ts) ≡ [] → first (unknowns names t) ≡ Some p → first (unknowns_among names ts) ≡ Some p
among_here names ts i t p lt e none g =
    ap first (among_flat names ts) ∙ gives_here (unknowns names) ts i t p lt e (sym (among_flat names (take i ts)) ∙ none) g

pub among_none : (names : List ℕ) (ts : List TypeText) (i : ℕ) → length ts ≤ i → unknowns_among names (take i ts) ≡ [] → first (unknowns_among names ts) ≡ None
among_none names ts i le none = ap first (ap (unknowns_among names) (sym (take_all i ts le)) ∙ none)

-- of a list without unknown names, no part has any
pub append_nil_left : {A : Type 0} (xs ys : List A) → xs ++ ys ≡ [] → xs ≡ []
append_nil_left [] ys e = refl
append_nil_left (x ∷ xs) ys e = absurd (cc)

pub append_nil_right : {A : Type 0} (xs ys : List A) → xs ++ ys ≡ [] → ys ≡ []
append_nil_right [] ys e = e
append_nil_right (x ∷ xs) ys e = absurd (cc)

pub part_known : (names : List ℕ) (ts : List TypeText) (i : ℕ) (t : TypeText) → i < length ts → t ≡ get_or ts i t → unknowns_among names ts ≡ [] → unknowns names t ≡ []
part_known names [] i t lt e none = absurd (omega arith)
part_known names (u ∷ us) zero t lt e none = ap (unknowns names) e ∙ append_nil_left _ _ (sym (among-cons names u us) ∙ none)
part_known names (u ∷ us) (suc i) t lt e none = part_known names us i t (omega arith) e (append_nil_right _ _ (sym (among-cons names u us) ∙ none))
