-- What the typing of queries answers, and what it leaves behind it.
use Rattle.std.specs.Prelude.{◌≡◌, ℕ, Bool, List, Some, Contains, Result, Ok, Err}
use Rattle.flux_atom.specs.declared.atom.AtomKind.TheVariants as kind
use Rattle.flux_schema.specs.Ty.{Ty, atom, seq}
use Rattle.flux_schema.specs.Definitions.{Definitions}
use Rattle.flux_schema.specs.Labels.{Lacks, BodiesLack}
use Rattle.flux_schema.specs.Member.{Included}
use Rattle.flux_types.specs.Read.{ty_of}
use Rattle.flux_types.specs.Kept.{AreKept}
use Rattle.flux_types.specs.Verdicts.{TypePair, IsEvidence}
use Rattle.flux_calculus.specs.declared.ask.Span.{Span}
use Rattle.flux_calculus.specs.declared.ask.Var.{Var}
use Rattle.flux_calculus.specs.Labels.{EachLabelOfQuery}
use Rattle.flux_calculus.specs.Query.{Query, choice, less, found}
use Rattle.flux_calculus.specs.Typing.{Context, Outcome, typed, of_query, Types}
use Rattle.flux_core.specs.declared.fault.KindFault.{KindFault}
use Rattle.flux_core.specs.declared.measured.Measured.{Measured}
use Rattle.flux_core.specs.Faults.{IsFault, AreUsable}
use Rattle.flux_core.specs.Answers.{IsConclusion}

-- the query is typed with this fault; a forest that is shown has labels that were given, and
-- `other`
abbrev pub IsQueryFault : Definitions → ℕ → Context → Query → KindFault → Type 0
IsQueryFault defs other Γ q = IsFault (IsEvidence defs other) (Types defs (of_query Γ q))

-- the label doesn't stand in the query
abbrev pub QueryLacks : ℕ → Query → Type 0
QueryLacks n q = EachLabelOfQuery (λ m. ¬ (m ≡ n)) q

-- nor in the type of a variable
abbrev pub ContextLacks : ℕ → Context → Type 0
ContextLacks n Γ = (x : Var) (t : Ty) → found Γ x ≡ Some t → Lacks n t

-- what a call leaves: the decider with its definitions and its label, with what it does with what
-- it finds and with all that it knew, and the variables as they were
pub record Leaves {D : Type 0} (under : D → Definitions) (unnamed : D → ℕ) (remembers : D → Bool)
    (knows : D → List TypePair) (d d' : D) (Γ Γ' : Context) : Type 0 where
  pub definitions : under d' ≡ under d
  pub other : unnamed d' ≡ unnamed d
  pub keeps : remembers d' ≡ remembers d
  pub still : (p : TypePair) → Contains (knows d) p → Contains (knows d') p
  pub gamma : Γ' ≡ Γ

-- the definitions are kept, the types of the variables can be used under them, and the label stands
-- in neither
pub record IsReady (defs : Definitions) (other : ℕ) (Γ : Context) : Type 0 where
  pub kept : AreKept defs
  pub lacks : BodiesLack other defs
  pub usable : AreUsable defs Γ
  pub gamma : ContextLacks other Γ

-- a first answer and that of what stands behind it: the first fault, or the sequence of the two
-- types, which is concluded
abbrev pub IsAfter : Span → Result Measured KindFault → Result Measured KindFault →
    Result Measured KindFault → Type 0
IsAfter at (Err fault) others r = r ≡ Err fault
IsAfter at (Ok first) (Err fault) r = r ≡ Err fault
IsAfter at (Ok first) (Ok others) r =
    IsConclusion at.from (seq (ty_of first.ty.value) (ty_of others.ty.value)) r

-- the query has a type that is included in `bool`
abbrev pub IsTruth : Definitions → Context → Query → Type 0
IsTruth defs Γ q = (t : Ty) × Types defs (of_query Γ q) (typed t) × Included defs t (atom kind.Bool)

-- a choice with this condition has this outcome, whatever its parts are
abbrev pub InAnyChoice : Definitions → Context → Query → Outcome → Type 0
InAnyChoice defs Γ c o = (at : Span) (q r : Query) → Types defs (of_query Γ (choice at c q r)) o

-- the query has a type that is included in `int`
abbrev pub IsNumber : Definitions → Context → Query → Type 0
IsNumber defs Γ q = (t : Ty) × Types defs (of_query Γ q) (typed t) × Included defs t (atom kind.Int)

-- a comparison has this outcome where this query is its left side; where it is its right side, if
-- the left one is a number
abbrev pub InAnyComparison : Definitions → Context → Query → Outcome → Type 0
InAnyComparison defs Γ q o =
    ((at : Span) (r : Query) → Types defs (of_query Γ (less at q r)) o)
    × ((at : Span) (l : Query) → IsNumber defs Γ l → Types defs (of_query Γ (less at l q)) o)
