-- Texts with a sign between them, and what holds of each element of a list.
use Rattle.std.proofs.Common.{◌≡◌, ◌∙◌, ◌+◌, ◌<◌, ◌≤◌, ℕ, zero, suc, List, [], ◌∷◌, ◌++◌, length, drop, get_or, map, All, refl, sym, subst, ap, ap₂, arith, add-one, append_assoc, append-nil, drop-cons}
use Rattle.std.specs.Prelude.{flat_map, slice_get, Some}
use Rattle.std.proofs.lemmas.List.{drop_all, get_or-map, length-map}
use Rattle.std.proofs.lemmas.List.Elements.{All-get_or, All-drop}
use Rattle.std.proofs.lemmas.Option.{get_or_from_slice_get, slice_get_within}
use Rattle.flux_report.specs.CoreText.{separated}

-- what holds of each thing that the list stands for
module _ {X Y : Type 0} (P : Y → Type 0) (v : X → Y) where
  pub holds_at : (xs : List X) (i : ℕ) (x : X) → i < length xs → x ≡ get_or xs i x → All P (map v xs) → P (v x)
  holds_at xs i x lt is all = subst P (get_or-map v xs i x (v x) lt ∙ ap v (sym is))
      (All-get_or P (map v xs) i (v x) (subst (λ n. i < n) (sym (length-map xs v)) lt) all)

  pub holds_first : (xs : List X) (x : X) (rest : List X) → xs ≡ x ∷ rest → All P (map v xs) → P (v x)
  holds_first xs x rest e all = subst (λ l. All P (map v l)) e all 0 (v x) (omega arith)

  pub holds_behind : (xs : List X) (x : X) (rest : List X) → xs ≡ x ∷ rest → All P (map v xs) → All P (map v rest)
  holds_behind xs x rest e all = All-drop P 1 (map v (x ∷ rest)) (subst (λ l. All P (map v l)) e all)

  pub holds_behind_at : (xs : List X) (x y : X) (rest : List X) (i : ℕ) → xs ≡ x ∷ rest → i < length rest → y ≡ get_or rest i y → All P (map v xs) → P (v y)
  holds_behind_at xs x y rest i e lt is all = holds_at rest i y lt is (holds_behind xs x rest e all)

-- what holds of each holds of the one at an index
pub holds_of : {X : Type 0} (P : X → Type 0) (xs : List X) (i : ℕ) (x : X) → slice_get xs i ≡ Some x → All P xs → P x
holds_of P xs i x is all = subst P (get_or_from_slice_get xs i x x is) (All-get_or P xs i x (slice_get_within xs i x is) all)

-- a text for each element, one behind the other
module _ {X : Type 0} (f : X → List ℕ) where
  pub more_texts : (all : List X) (i : ℕ) (x : X) (before now done : List ℕ) → slice_get all i ≡ Some x → now ≡ before ++ f x → before ++ flat_map f (drop i all) ≡ done → now ++ flat_map f (drop (i + 1) all) ≡ done
  more_texts all i x before now done is e h =
      let lt = slice_get_within all i x is in
      let split : drop i all ≡ x ∷ drop (i + 1) all = drop-cons all i x lt ∙ ap₂ (λ y n. y ∷ drop n all) (get_or_from_slice_get all i x x is) (sym (add-one i)) in
      let rest = flat_map f (drop (i + 1) all) in
      ap (λ l. l ++ rest) e ∙ append_assoc before (f x) rest ∙ ap (λ l. before ++ flat_map f l) (sym split) ∙ h

  pub all_texts : (all : List X) (i : ℕ) (now done : List ℕ) → length all ≤ i → now ++ flat_map f (drop i all) ≡ done → now ≡ done
  all_texts all i now done le h = sym (append-nil now) ∙ ap (λ l. now ++ flat_map f l) (sym (drop_all i all le)) ∙ h

-- a text for each element, with signs between them
module _ {X Y : Type 0} (f : Y → List ℕ) (v : X → Y) (sign : List ℕ) where
  -- what is written behind the first
  abbrev pub behind : List X → List ℕ
  behind xs = flat_map (λ u. sign ++ u) (map f (map v xs))

  abbrev pub whole : List X → List ℕ
  whole xs = separated sign (map f (map v xs))

  pub none_listed : (xs : List X) (old : List ℕ) → length xs ≡ 0 → old ≡ old ++ whole xs
  none_listed [] old e = sym (append-nil old)
  none_listed (x ∷ xs) old e = absurd (omega (arith, e))

  pub first_listed : (xs : List X) (x : X) (rest : List X) (old now : List ℕ) → xs ≡ x ∷ rest → now ≡ old ++ f (v x) → now ++ behind (drop 0 rest) ≡ old ++ whole xs
  first_listed xs x rest old now e is = ap (λ l. l ++ behind rest) is ∙ append_assoc old (f (v x)) (behind rest) ∙ ap (λ l. old ++ whole l) (sym e)

  pub more_listed : (all : List X) (i : ℕ) (x : X) (before now done : List ℕ) → i < length all → x ≡ get_or all i x → now ≡ before ++ sign ++ f (v x) → before ++ behind (drop i all) ≡ done → now ++ behind (drop (i + 1) all) ≡ done
  more_listed all i x before now done lt is e h =
      let split : drop i all ≡ x ∷ drop (i + 1) all = drop-cons all i x lt ∙ ap₂ (λ y n. y ∷ drop n all) (sym is) (sym (add-one i)) in
      let b = behind (drop (i + 1) all) in
      ap (λ l. l ++ b) (e ∙ append_assoc before sign (f (v x)))
      ∙ append_assoc before (sign ++ f (v x)) b
      ∙ ap (λ l. before ++ behind l) (sym split) ∙ h

  pub all_listed : (all : List X) (i : ℕ) (now done : List ℕ) → length all ≤ i → now ++ behind (drop i all) ≡ done → now ≡ done
  all_listed all i now done le h = sym (append-nil now) ∙ ap (λ l. now ++ behind l) (sym (drop_all i all le)) ∙ h
