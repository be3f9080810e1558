-- What holds of each item of joined lists.
use Rattle.std.proofs.Common.{◌≡◌, ℕ, List, [], ◌∷◌, ◌++◌, map, flat_map, All, refl, ap}
use Rattle.std.proofs.lemmas.List.Elements.{All-nil, All-cons, All-head, All-tail}
use Rattle.flux_grammar.specs.Names.{of_several}

-- the lists of several items, joined
pub several : {A : Type 0} (f : A → List ℕ) (xs : List A) → of_several (map f xs) ≡ flat_map f xs
several f [] = refl
several f (x ∷ xs) = ap (λ ns. f x ++ ns) (several f xs)

module _ {X : Type 0} (P : X → Type 0) where
  pub all_first : (xs ys : List X) → All P (xs ++ ys) → All P xs
  all_first [] ys all = All-nil P
  all_first (x ∷ xs) ys all =
      All-cons P x xs (All-head P x (xs ++ ys) all) (all_first xs ys (All-tail P x (xs ++ ys) all))

  pub all_second : (xs ys : List X) → All P (xs ++ ys) → All P ys
  all_second [] ys all = all
  all_second (x ∷ xs) ys all = all_second xs ys (All-tail P x (xs ++ ys) all)

  pub all_single : (x : X) → All P (x ∷ []) → P x
  all_single x all = All-head P x [] all

  pub all_one : (x : X) → P x → All P (x ∷ [])
  all_one x holds = All-cons P x [] holds (All-nil P)

  pub all_parts : {A : Type 0} (f : A → List X) (xs : List A) → All P (flat_map f xs) → All (λ x. All P (f x)) xs
  all_parts f [] all = All-nil (λ x. All P (f x))
  all_parts f (x ∷ xs) all =
      All-cons (λ x. All P (f x)) x xs (all_first (f x) (flat_map f xs) all) (all_parts f xs (all_second (f x) (flat_map f xs) all))
