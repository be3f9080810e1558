-- An automaton of types, as contracts see it.
use Rattle.std.specs.Prelude.{◌≡◌, ◌⊎◌, ◌↔◌, ℕ, ◌<◌, Bool, true, false, List, Option, Some, None, length, slice_get, refl}
use Rattle.std.proofs.Common.{inl, inr}
use base.Stored.{coded_unit}
use Rattle.std.specs.Coded.{Coded, code_by, coded×, coded⊎, coded_ℕ, coded_bool, coded_list}
use Rattle.flux_atom.specs.declared.atom.AtomKind.TheVariants as kind
use Rattle.flux_trees.specs.Hedge.{Plain}
use Rattle.flux_trees.specs.Draft.{Draft, IsWhole, outer}
use Rattle.flux_schema.specs.Ty.{Ty}
use Rattle.flux_schema.specs.TyCode.{ty_code}
use Rattle.flux_schema.specs.Definitions.{Definitions}
use Rattle.flux_schema.specs.DefinitionCodes.{definitions_code}
use Rattle.flux_schema.specs.Member.{Member}
use Rattle.flux_schema.specs.Labels.{IsGiven, IsLabelledBy}
use Rattle.flux_auto.specs.declared.edge.Edge.{Edge}
use Rattle.flux_auto.specs.declared.edge.Edge.TheVariants.{Atom, Elem, AnyElem}
use Rattle.flux_auto.specs.Takes.{State, takes, EdgesBelow}

-- the definitions, a label that stands for those that no type names, the types added, in order, the
-- state of each, and the states
pub record Automaton : Type 0 where
  pub definitions : Definitions
  pub other : ℕ
  pub types : List Ty
  pub starts : List ℕ
  pub states : List State

-- the state takes exactly the members of the type
abbrev pub TakesMembers : Automaton → ℕ → Ty → Type 0
TakesMembers a s t = (v : Plain) → (takes a.states s v ≡ true) ↔ Member a.definitions v t

-- a forest that is whole and a member of the type, each label of which is `other`, or stands in a
-- definition or in a type that was added; none where the type has no member
abbrev pub IsSomeMember : Automaton → Ty → Option (Draft (Unit {0})) → Type 0
IsSomeMember a t (Some d) =
    IsWhole d × Member a.definitions (outer d) t
    × IsLabelledBy a.definitions a.other a.types (outer d)
IsSomeMember a t None = (v : Plain) → ¬ (Member a.definitions v t)

-- each state that was there is there, and takes what it took
pub record KeepsStates (old new : List State) : Type 0 where
  pub states : (s : ℕ) → s < length old → slice_get new s ≡ slice_get old s
  pub taken : (s : ℕ) (v : Plain) → s < length old → takes new s v ≡ takes old s v

-- each state that an edge names is one of the automaton's
abbrev pub EdgesInside : List State → Type 0
EdgesInside states = (s : ℕ) (state : State) → slice_get states s ≡ Some state
    → EdgesBelow (length states) state.edges

-- each label of an edge by an element stands in a definition or in a type that was added
abbrev pub EdgesGiven : Automaton → Type 0
EdgesGiven a = (s : ℕ) (state : State) → slice_get a.states s ≡ Some state
    → (i n c r : ℕ) → slice_get state.edges i ≡ Some (Elem n c r) → IsGiven a.definitions a.types n

-- ---- codes

-- an edge as its kind of atom, its label or neither, and its states
abbrev Parts : Type 0
Parts = ((Bool ⊎ Unit {0}) × ℕ) ⊎ ((ℕ ⊎ Unit {0}) × (ℕ × ℕ))

abbrev from_edge : Edge → Parts
from_edge (Atom kind.Bool r) = inl (inl true, r)
from_edge (Atom kind.Text r) = inl (inl false, r)
from_edge (Atom kind.Int r) = inl (inr tt, r)
from_edge (Elem n c r) = inr (inl n, (c, r))
from_edge (AnyElem c r) = inr (inr tt, (c, r))

abbrev to_edge : Parts → Edge
to_edge (inl (inl true, r)) = Atom kind.Bool r
to_edge (inl (inl false, r)) = Atom kind.Text r
to_edge (inl (inr _, r)) = Atom kind.Int r
to_edge (inr (inl n, (c, r))) = Elem n c r
to_edge (inr (inr _, (c, r))) = AnyElem c r

pub to_edge-from_edge : (e : Edge) → to_edge (from_edge e) ≡ e
to_edge-from_edge (Atom kind.Bool r) = refl
to_edge-from_edge (Atom kind.Text r) = refl
to_edge-from_edge (Atom kind.Int r) = refl
to_edge-from_edge (Elem n c r) = refl
to_edge-from_edge (AnyElem c r) = refl

-- the code of an edge
abbrev pub edge_code : Coded Edge
edge_code =
    code_by Parts
    (coded⊎
    (coded× (coded⊎ coded_bool coded_unit) coded_ℕ)
    (coded× (coded⊎ coded_ℕ coded_unit) (coded× coded_ℕ coded_ℕ)))
    from_edge to_edge to_edge-from_edge

-- the code of a state
abbrev pub state_code : Coded State
state_code =
    code_by (Bool × List Edge) (coded× coded_bool (coded_list edge_code))
    (λ s. (s.ends, s.edges)) (λ p. record { ends = p.0; edges = p.1 }) (λ _. refl)

-- the code of an automaton
abbrev pub automaton_code : Coded Automaton
automaton_code =
    code_by (Definitions × (ℕ × (List Ty × (List ℕ × List State))))
    (coded× definitions_code
    (coded× coded_ℕ
    (coded× (coded_list ty_code) (coded× (coded_list coded_ℕ) (coded_list state_code)))))
    (λ a. (a.definitions, (a.other, (a.types, (a.starts, a.states)))))
    (λ p. record {
      definitions = p.0;
      other = p.1.0;
      types = p.1.1.0;
      starts = p.1.1.1.0;
      states = p.1.1.1.1;
    })
    (λ _. refl)
