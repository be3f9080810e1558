-- What an automaton of two types takes, and which labels its edges have.
use Rattle.std.proofs.Common.{◌≡◌, ◌⊎◌, ℕ, zero, suc, List, [], ◌∷◌, ◌++◌, IfSome, slice_get, refl, ap, subst, ◌∙◌, inl, inr, arith}
use Rattle.std.specs.Prelude.{Contains}
use Rattle.flux_trees.specs.Hedge.{Plain}
use Rattle.flux_trees.specs.Each.{EachLabel}
use Rattle.flux_trees.proofs.EachLaws.{EachLabel-more}
use Rattle.flux_schema.specs.Ty.{Ty}
use Rattle.flux_schema.specs.Definitions.{Definitions}
use Rattle.flux_schema.specs.Labels.{Lacks, BodiesLack, IsGiven, IsLabelledBy}
use Rattle.flux_schema.proofs.LabelLaws.{each_label}
use Rattle.flux_auto.specs.Automaton.{Automaton, TakesMembers, EdgesGiven}
use Rattle.flux_auto.specs.Witness.{IsShownBy}
use Rattle.flux_auto.specs.Going.{LacksEdge}

-- one of two
one_of : (t u x : Ty) → Contains (t ∷ u ∷ []) x → (t ≡ x) ⊎ (u ≡ x)
one_of t u x (zero, lt, e) = inl e
one_of t u x (suc zero, lt, e) = inr e
one_of t u x (suc (suc k), lt, e) = absurd (omega (arith, lt))

-- no edge is by an element with a label that neither the definitions nor the types name
pub lacks_edge : (a : Automaton) (t u : Ty) (other : ℕ) → EdgesGiven a → a.types ≡ t ∷ u ∷ [] → BodiesLack other a.definitions → Lacks other t → Lacks other u → LacksEdge a.states other
lacks_edge a t u other given types bodies left right s c r (state, at, (i, is)) = by (given s state at i other c r is)
  where
    by : IsGiven a.definitions a.types other → ⊥
    by (inl (x, body, get, l)) = each_label (λ m. m ≡ other → ⊥) other body (bodies x body get) l refl
    by (inr (x, there, l)) = elim (one_of t u x (subst (λ ts. Contains ts x) types there)) [
      | inl e ↦ each_label (λ m. m ≡ other → ⊥) other x (subst (Lacks other) e left) l refl
      | inr e ↦ each_label (λ m. m ≡ other → ⊥) other x (subst (Lacks other) e right) l refl
    ]

-- the labels of edges are given
pub labelled_by : (a : Automaton) (defs : Definitions) (t u : Ty) (other : ℕ) (v : Plain) → EdgesGiven a → a.types ≡ t ∷ u ∷ [] → a.definitions ≡ defs → EachLabel (IsShownBy a.states other) v → IsLabelledBy defs other (t ∷ u ∷ []) v
labelled_by a defs t u other v given types same each =
    EachLabel-more (IsShownBy a.states other) (λ n. (n ≡ other) ⊎ IsGiven defs (t ∷ u ∷ []) n)
    (λ n h. elim h [
      | inl e ↦ inl e
      | inr (s, state, at, i, c, r, is) ↦ inr (subst (λ ts. IsGiven defs ts n) types (subst (λ ds. IsGiven ds a.types n) same (given s state at i n c r is)))
    ]) v each

pub two_types : (ts us vs : List Ty) (t u : Ty) → ts ≡ [] → us ≡ ts ++ t ∷ [] → vs ≡ us ++ u ∷ [] → vs ≡ t ∷ u ∷ []
two_types ts us vs t u e f g = g ∙ ap (λ l. l ++ u ∷ []) (f ∙ ap (λ l. l ++ t ∷ []) e)

-- what states take of two types
pub first_takes : (a : Automaton) (t u : Ty) (i s : ℕ) → a.types ≡ t ∷ u ∷ [] → i ≡ 0 → IfSome (slice_get a.types i) (TakesMembers a s) → TakesMembers a s t
first_takes a t u i s types e f = subst (λ j. IfSome (slice_get (t ∷ u ∷ []) j) (TakesMembers a s)) e (subst (λ ts. IfSome (slice_get ts i) (TakesMembers a s)) types f)

pub second_takes : (a : Automaton) (t u : Ty) (i s : ℕ) → a.types ≡ t ∷ u ∷ [] → i ≡ 1 → IfSome (slice_get a.types i) (TakesMembers a s) → TakesMembers a s u
second_takes a t u i s types e f = subst (λ j. IfSome (slice_get (t ∷ u ∷ []) j) (TakesMembers a s)) e (subst (λ ts. IfSome (slice_get ts i) (TakesMembers a s)) types f)
