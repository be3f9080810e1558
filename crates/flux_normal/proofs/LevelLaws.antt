-- Nodes that lie under so many others, part by part.
use Rattle.std.proofs.Common.{◌≡◌, ◌+◌, ◌<◌, ◌≤◌, ℕ, zero, suc, List, [], ◌∷◌, ◌++◌, length, drop, drop-cons, get_or, map, Option, Some, None, refl, sym, subst, ap, ap₂, ◌∙◌, add-one}
use Rattle.std.specs.Prelude.{flat_map}
use Rattle.std.proofs.lemmas.List.{drop_all}
use Rattle.flux_calculus.specs.declared.ask.Span.{Span}
use Rattle.flux_calculus.specs.Query.{Query, listed}
use Rattle.flux_grammar.specs.Nesting.{level, query_level}
use Rattle.flux_grammar.specs.NormalFaults.{first}
use Rattle.flux_grammar.specs.NormalQueries.{Numbered, of_all}
use Rattle.flux_normal.specs.Levels.{either, Finds}

-- the first of two lists that has one
pub joined : (xs ys : List ℕ) (o p : Option ℕ) → first xs ≡ o → first ys ≡ p → first (xs ++ ys) ≡ either o p
joined [] ys o p e f = f ∙ ap (λ o. either o p) e
joined (x ∷ xs) ys o p e f = ap (λ o. either o p) e

pub of_part : {X A : Type 0} (g : A → ℕ → List ℕ) (form : X → Numbered A) (x y : X) (n m : ℕ) (o : Option ℕ) → y ≡ x → m ≡ n → Finds g (form y) m o → Finds g (form x) n o
of_part g form x y n m o e f h = subst (λ x. Finds g (form x) n o) e (subst (λ m. Finds g (form y) m o) f h)

-- a list of queries is one node with these parts
pub in_list : (at : Span) (qs : List Query) (n : ℕ) → query_level (listed at qs) n ≡ level at.from (λ n. flat_map (λ q. query_level q n) qs) n
in_list at [] zero = refl
in_list at [] (suc n) = refl
in_list at (q ∷ qs) zero = refl
in_list at (q ∷ qs) (suc n) = ap (λ l. query_level q n ++ l) (in_list at qs (suc n))

-- the parts of a list, in turn
module _ {X A : Type 0} (g : A → ℕ → List ℕ) (form : X → Numbered A) (n : ℕ) where
  abbrev pub Parts : List X → Option ℕ → Type 0
  Parts xs o = Finds (λ qs n. flat_map (λ q. g q n) qs) (of_all (map form xs)) n o

  -- what is found in the rest is found in all, behind what was found before
  abbrev pub SoFar : List X → Option ℕ → List X → Type 0
  SoFar rest found all = (o : Option ℕ) → Parts rest o → Parts all (either found o)

  pub begins : (xs : List X) → SoFar xs None xs
  begins xs o h = h

  either_assoc : (a b o : Option ℕ) → either a (either b o) ≡ either (either a b) o
  either_assoc None b o = refl
  either_assoc (Some p) b o = refl

  one_more : (x : X) (rest : List X) (b o : Option ℕ) → Finds g (form x) n b → Parts rest o → Parts (x ∷ rest) (either b o)
  one_more x rest b o here there k = joined (g (form x k).0 n) _ b o (here k) (there (form x k).1)

  pub turns : (all : List X) (i : ℕ) (x : X) (a b r : Option ℕ) → i < length all → x ≡ get_or all i x → Finds g (form x) n b → r ≡ either a b → SoFar (drop i all) a all → SoFar (drop (i + 1) all) r all
  turns all i x a b r lt is here told so o there =
      let split : drop i all ≡ x ∷ drop (i + 1) all = drop-cons all i x lt ∙ ap₂ (λ y n. y ∷ drop n all) (sym is) (sym (add-one i)) in
      subst (Parts all) (either_assoc a b o ∙ ap (λ r. either r o) (sym told))
      (so (either b o) (subst (λ l. Parts l (either b o)) (sym split) (one_more x (drop (i + 1) all) b o here there)))

  either_none : (a : Option ℕ) → either a None ≡ a
  either_none None = refl
  either_none (Some p) = refl

  pub ends : (all : List X) (i : ℕ) (a : Option ℕ) → length all ≤ i → SoFar (drop i all) a all → Parts all a
  ends all i a le so = subst (Parts all) (either_none a) (so None (subst (λ l. Parts l None) (sym (drop_all i all le)) (λ k. refl)))
