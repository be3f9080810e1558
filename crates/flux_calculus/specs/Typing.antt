-- The type of a query, or the first fault: a rule for each case. Queries and their types are after
-- μXQ; inclusion of types is asked for at a condition and at a comparison of numbers.
use Rattle.std.specs.Prelude.{◌≡◌, ℕ, Bool, true, false, ◌&&◌, nat_lt, ◌∷◌, Some, None, if◌then◌else◌}
use Rattle.flux_atom.specs.declared.atom.Atom.{Atom}
use Rattle.flux_atom.specs.declared.atom.AtomKind.{AtomKind}
use Rattle.flux_atom.specs.declared.atom.AtomKind.TheVariants as kind
use Rattle.flux_atom.specs.Atom.{kind_of}
use Rattle.flux_trees.specs.Hedge.{Plain}
use Rattle.flux_schema.specs.Ty.{Ty, empty, atom, element, any_element, seq, alt, star, named, size, height}
use Rattle.flux_schema.specs.Definitions.{Definitions, body_of, IsGood}
use Rattle.flux_schema.specs.Member.{Member, Included}
use Rattle.flux_schema.specs.Single.{Single, IsNotSingle}
use Rattle.flux_calculus.specs.declared.ask.Test.{Test}
use Rattle.flux_calculus.specs.declared.ask.Var.{Var}
use Rattle.flux_calculus.specs.declared.ask.Span.{Span}
use Rattle.flux_calculus.specs.declared.ask.Test.TheVariants.{Label, AnyElement, OfText, OfBool, OfInt}
use Rattle.flux_calculus.specs.Tests.{element_matches, kind_matches}
use Rattle.flux_calculus.specs.Fault.{Fault, unknown_variable, not_single, not_bool, not_int, too_large}
use Rattle.flux_calculus.specs.Query.{Query, nothing, both, literal, variable, binding, choice, alike, less, child, filter, each, place_of, Bound, found, Environment, value}
use Rattle.flux_calculus.specs.Query as query

-- variables and their types
abbrev pub Context : Type 0
Context = Bound Ty

-- what comes of typing a query: a type, or the first fault
pub data Outcome : Type 0 where
  typed : Ty → Outcome
  faulty : Fault → Outcome

-- whether a type is within the limits, 65,536 nodes and 500 levels
abbrev pub is_within : Ty → Bool
is_within t = nat_lt (size t) 65537 && nat_lt (height t) 501

-- a type that is concluded at a place: it is tested, after its parts
abbrev pub concluded : ℕ → Ty → Outcome
concluded at t = if is_within t then typed t else faulty (too_large at)

-- what is done with each tree of a type: it is bound to a variable and a query takes its place, or
-- it is kept where it passes a test
pub data Treatment : Type 0 where
  returning : (Γ : Context) (x : Var) (body : Query) → Treatment
  keeping : (t : Test) → Treatment

-- what is typed: a query under the types of its variables, or a type whose trees are treated, each
-- conclusion at a place
pub data Goal : Type 0 where
  of_query : (Γ : Context) (q : Query) → Goal
  of_map : (at : ℕ) (f : Treatment) (t : Ty) → Goal

-- an atom type or an element type, of one label or of any
abbrev pub IsAtomic : Ty → Type 0
IsAtomic empty = ⊥
IsAtomic (atom k) = Unit {0}
IsAtomic (element n t) = Unit {0}
IsAtomic (any_element t) = Unit {0}
IsAtomic (seq t u) = ⊥
IsAtomic (alt t u) = ⊥
IsAtomic (star t) = ⊥
IsAtomic (named x) = ⊥

-- what a test leaves of an element type of any label: a label is undecided there
abbrev pub kept_of_any : Test → Ty → Ty
kept_of_any (Label n) t = alt (element n t) empty
kept_of_any AnyElement t = any_element t
kept_of_any OfText t = empty
kept_of_any OfBool t = empty
kept_of_any OfInt t = empty

-- what a test leaves of an atom type or an element type: what passes, else nothing
abbrev pub kept : Test → Ty → Ty
kept p empty = empty
kept p (atom k) = if kind_matches p k then atom k else empty
kept p (element n t) = if element_matches p n then element n t else empty
kept p (any_element t) = kept_of_any p t
kept p (seq t u) = empty
kept p (alt t u) = empty
kept p (star t) = empty
kept p (named x) = empty

-- what the tree of an atom type or an element type contains
abbrev pub content_type : Ty → Ty
content_type empty = empty
content_type (atom k) = empty
content_type (element n t) = t
content_type (any_element t) = t
content_type (seq t u) = empty
content_type (alt t u) = empty
content_type (star t) = empty
content_type (named x) = empty

-- Types defs g o: the goal is typed with the outcome. Parts are typed from left to right, and the
-- first fault is the outcome
pub data Types (defs : Definitions) : Goal → Outcome → Type 0 where
  -- no query has the type `()`
  of_nothing : {Γ : Context} {at : Span} → Types defs (of_query Γ (nothing at)) (typed empty)
  -- one query has its own type
  of_one : {Γ : Context} {at end : Span} {q : Query} {o : Outcome} →
      Types defs (of_query Γ q) o → Types defs (of_query Γ (both at q (nothing end))) o
  -- several have the type of the first and then that of the others
  of_several : {Γ : Context} {at next : Span} {q r s : Query} {t u : Ty} {o : Outcome} →
      Types defs (of_query Γ q) (typed t) → Types defs (of_query Γ (both next r s)) (typed u) →
      concluded at.from (seq t u) ≡ o → Types defs (of_query Γ (both at q (both next r s))) o
  first_of_several : {Γ : Context} {at next : Span} {q r s : Query} {f : Fault} →
      Types defs (of_query Γ q) (faulty f) →
      Types defs (of_query Γ (both at q (both next r s))) (faulty f)
  others_of_several : {Γ : Context} {at next : Span} {q r s : Query} {t : Ty} {f : Fault} →
      Types defs (of_query Γ q) (typed t) → Types defs (of_query Γ (both next r s)) (faulty f) →
      Types defs (of_query Γ (both at q (both next r s))) (faulty f)
  -- an element has the type of its content in it
  of_element : {Γ : Context} {at : Span} {n : ℕ} {q : Query} {t : Ty} {o : Outcome} →
      Types defs (of_query Γ q) (typed t) → concluded at.from (element n t) ≡ o →
      Types defs (of_query Γ (query.element at n q)) o
  content_of_element : {Γ : Context} {at : Span} {n : ℕ} {q : Query} {f : Fault} →
      Types defs (of_query Γ q) (faulty f) →
      Types defs (of_query Γ (query.element at n q)) (faulty f)
  -- an atom has its kind
  of_literal : {Γ : Context} {at : Span} →
      (x : Atom) → Types defs (of_query Γ (literal at x)) (typed (atom (kind_of x)))
  -- a variable has the type that it was bound to last
  of_variable : {Γ : Context} {at : Span} {x : Var} {t : Ty} →
      found Γ x ≡ Some t → Types defs (of_query Γ (variable at x)) (typed t)
  of_no_variable : {Γ : Context} {at : Span} {x : Var} →
      found Γ x ≡ None → Types defs (of_query Γ (variable at x)) (faulty (unknown_variable at.from))
  -- a body is typed with a variable of the type of another query
  of_binding : {Γ : Context} {at : Span} {x : Var} {q r : Query} {t : Ty} {o : Outcome} →
      Types defs (of_query Γ q) (typed t) → Types defs (of_query ((x, t) ∷ Γ) r) o →
      Types defs (of_query Γ (binding at x q r)) o
  bound_of_binding : {Γ : Context} {at : Span} {x : Var} {q r : Query} {f : Fault} →
      Types defs (of_query Γ q) (faulty f) → Types defs (of_query Γ (binding at x q r)) (faulty f)
  -- a choice has either type of its parts, where its condition is a truth value
  of_choice : {Γ : Context} {at : Span} {c q r : Query} {t u w : Ty} {o : Outcome} →
      Types defs (of_query Γ c) (typed t) → Included defs t (atom kind.Bool) →
      Types defs (of_query Γ q) (typed u) → Types defs (of_query Γ r) (typed w) →
      concluded at.from (alt u w) ≡ o → Types defs (of_query Γ (choice at c q r)) o
  condition_of_choice : {Γ : Context} {at : Span} {c q r : Query} {f : Fault} →
      Types defs (of_query Γ c) (faulty f) → Types defs (of_query Γ (choice at c q r)) (faulty f)
  no_truth_of_choice : {Γ : Context} {at : Span} {c q r : Query} {t : Ty} →
      (v : Plain) → Types defs (of_query Γ c) (typed t) → Member defs v t →
      ¬ (Member defs v (atom kind.Bool)) →
      Types defs (of_query Γ (choice at c q r)) (faulty (not_bool (place_of c) t (atom kind.Bool)))
  yes_of_choice : {Γ : Context} {at : Span} {c q r : Query} {t : Ty} {f : Fault} →
      Types defs (of_query Γ c) (typed t) → Included defs t (atom kind.Bool) →
      Types defs (of_query Γ q) (faulty f) → Types defs (of_query Γ (choice at c q r)) (faulty f)
  no_of_choice : {Γ : Context} {at : Span} {c q r : Query} {t u : Ty} {f : Fault} →
      Types defs (of_query Γ c) (typed t) → Included defs t (atom kind.Bool) →
      Types defs (of_query Γ q) (typed u) → Types defs (of_query Γ r) (faulty f) →
      Types defs (of_query Γ (choice at c q r)) (faulty f)
  -- whether two values are the same is a truth value
  of_alike : {Γ : Context} {at : Span} {q r : Query} {t u : Ty} →
      Types defs (of_query Γ q) (typed t) → Types defs (of_query Γ r) (typed u) →
      Types defs (of_query Γ (alike at q r)) (typed (atom kind.Bool))
  left_of_alike : {Γ : Context} {at : Span} {q r : Query} {f : Fault} →
      Types defs (of_query Γ q) (faulty f) → Types defs (of_query Γ (alike at q r)) (faulty f)
  right_of_alike : {Γ : Context} {at : Span} {q r : Query} {t : Ty} {f : Fault} →
      Types defs (of_query Γ q) (typed t) → Types defs (of_query Γ r) (faulty f) →
      Types defs (of_query Γ (alike at q r)) (faulty f)
  -- whether one number is less than another is a truth value, where both are numbers
  of_less : {Γ : Context} {at : Span} {q r : Query} {t u : Ty} →
      Types defs (of_query Γ q) (typed t) → Included defs t (atom kind.Int) →
      Types defs (of_query Γ r) (typed u) → Included defs u (atom kind.Int) →
      Types defs (of_query Γ (less at q r)) (typed (atom kind.Bool))
  left_of_less : {Γ : Context} {at : Span} {q r : Query} {f : Fault} →
      Types defs (of_query Γ q) (faulty f) → Types defs (of_query Γ (less at q r)) (faulty f)
  left_no_number : {Γ : Context} {at : Span} {q r : Query} {t : Ty} →
      (v : Plain) → Types defs (of_query Γ q) (typed t) → Member defs v t →
      ¬ (Member defs v (atom kind.Int)) →
      Types defs (of_query Γ (less at q r)) (faulty (not_int (place_of q) t (atom kind.Int)))
  right_of_less : {Γ : Context} {at : Span} {q r : Query} {t : Ty} {f : Fault} →
      Types defs (of_query Γ q) (typed t) → Included defs t (atom kind.Int) →
      Types defs (of_query Γ r) (faulty f) → Types defs (of_query Γ (less at q r)) (faulty f)
  right_no_number : {Γ : Context} {at : Span} {q r : Query} {t u : Ty} →
      (v : Plain) → Types defs (of_query Γ q) (typed t) → Included defs t (atom kind.Int) →
      Types defs (of_query Γ r) (typed u) → Member defs v u → ¬ (Member defs v (atom kind.Int)) →
      Types defs (of_query Γ (less at q r)) (faulty (not_int (place_of r) u (atom kind.Int)))
  -- the tree of a variable contains what its type of one tree says, an atom nothing
  of_child : {Γ : Context} {at : Span} {x : Var} {t s : Ty} →
      found Γ x ≡ Some t → Single defs t s →
      Types defs (of_query Γ (child at x)) (typed (content_type s))
  of_many_child : {Γ : Context} {at : Span} {x : Var} {t : Ty} →
      found Γ x ≡ Some t → IsNotSingle defs t →
      Types defs (of_query Γ (child at x)) (faulty (not_single at.from))
  of_no_child : {Γ : Context} {at : Span} {x : Var} →
      found Γ x ≡ None → Types defs (of_query Γ (child at x)) (faulty (unknown_variable at.from))
  -- the trees that pass a test
  of_filter : {Γ : Context} {at : Span} {q : Query} {p : Test} {t : Ty} {o : Outcome} →
      Types defs (of_query Γ q) (typed t) → Types defs (of_map at.from (keeping p) t) o →
      Types defs (of_query Γ (filter at q p)) o
  from_of_filter : {Γ : Context} {at : Span} {q : Query} {p : Test} {f : Fault} →
      Types defs (of_query Γ q) (faulty f) → Types defs (of_query Γ (filter at q p)) (faulty f)
  -- a query for each tree
  of_each : {Γ : Context} {at : Span} {x : Var} {q r : Query} {t : Ty} {o : Outcome} →
      Types defs (of_query Γ q) (typed t) → Types defs (of_map at.from (returning Γ x r) t) o →
      Types defs (of_query Γ (each at x q r)) o
  over_of_each : {Γ : Context} {at : Span} {x : Var} {q r : Query} {f : Fault} →
      Types defs (of_query Γ q) (faulty f) → Types defs (of_query Γ (each at x q r)) (faulty f)
  -- an atom type or an element type becomes the type of the query with a variable of it, or it
  -- stays where it passes the test
  returns : {Γ : Context} {at : ℕ} {x : Var} {q : Query} {a t : Ty} {o : Outcome} →
      IsAtomic a → Types defs (of_query ((x, a) ∷ Γ) q) (typed t) → concluded at t ≡ o →
      Types defs (of_map at (returning Γ x q) a) o
  body_of_each : {Γ : Context} {at : ℕ} {x : Var} {q : Query} {a : Ty} {f : Fault} →
      IsAtomic a → Types defs (of_query ((x, a) ∷ Γ) q) (faulty f) →
      Types defs (of_map at (returning Γ x q) a) (faulty f)
  keeps : {at : ℕ} {p : Test} {a : Ty} {o : Outcome} →
      IsAtomic a → concluded at (kept p a) ≡ o → Types defs (of_map at (keeping p) a) o
  -- all other types keep their form round what their parts become; a name gives what its body gives
  of_empty : {at : ℕ} {f : Treatment} → Types defs (of_map at f empty) (typed empty)
  of_seq : {at : ℕ} {g : Treatment} {t u t' u' : Ty} {o : Outcome} →
      Types defs (of_map at g t) (typed t') → Types defs (of_map at g u) (typed u') →
      concluded at (seq t' u') ≡ o → Types defs (of_map at g (seq t u)) o
  left_of_seq : {at : ℕ} {g : Treatment} {t u : Ty} {f : Fault} →
      Types defs (of_map at g t) (faulty f) → Types defs (of_map at g (seq t u)) (faulty f)
  right_of_seq : {at : ℕ} {g : Treatment} {t u t' : Ty} {f : Fault} →
      Types defs (of_map at g t) (typed t') → Types defs (of_map at g u) (faulty f) →
      Types defs (of_map at g (seq t u)) (faulty f)
  of_alt : {at : ℕ} {g : Treatment} {t u t' u' : Ty} {o : Outcome} →
      Types defs (of_map at g t) (typed t') → Types defs (of_map at g u) (typed u') →
      concluded at (alt t' u') ≡ o → Types defs (of_map at g (alt t u)) o
  left_of_alt : {at : ℕ} {g : Treatment} {t u : Ty} {f : Fault} →
      Types defs (of_map at g t) (faulty f) → Types defs (of_map at g (alt t u)) (faulty f)
  right_of_alt : {at : ℕ} {g : Treatment} {t u t' : Ty} {f : Fault} →
      Types defs (of_map at g t) (typed t') → Types defs (of_map at g u) (faulty f) →
      Types defs (of_map at g (alt t u)) (faulty f)
  of_star : {at : ℕ} {g : Treatment} {t t' : Ty} {o : Outcome} →
      Types defs (of_map at g t) (typed t') → concluded at (star t') ≡ o →
      Types defs (of_map at g (star t)) o
  inside_of_star : {at : ℕ} {g : Treatment} {t : Ty} {f : Fault} →
      Types defs (of_map at g t) (faulty f) → Types defs (of_map at g (star t)) (faulty f)
  of_name : {at x : ℕ} {g : Treatment} {t : Ty} {o : Outcome} →
      body_of defs x ≡ Some t → Types defs (of_map at g t) o → Types defs (of_map at g (named x)) o

-- each variable that has a type is bound to a member of it
abbrev pub Suits : Definitions → Context → Environment → Type 0
Suits defs Γ γ =
    (x : Var) (t : Ty) → found Γ x ≡ Some t → (v : Plain) × (found γ x ≡ Some v) × Member defs v t

-- a query of a type has a value wherever each variable is bound to a member of its type, and the
-- value is a member of the type
abbrev pub TypedQueriesHaveValues : Type 0
TypedQueriesHaveValues =
    (defs : Definitions) → IsGood defs →
    (Γ : Context) (γ : Environment) (q : Query) (t : Ty) →
    Types defs (of_query Γ q) (typed t) → Suits defs Γ γ →
    (v : Plain) × (value γ q ≡ Some v) × Member defs v t

-- at most one outcome
abbrev pub QueryTypingIsUnique : Type 0
QueryTypingIsUnique =
    (defs : Definitions) (g : Goal) (o p : Outcome) → Types defs g o → Types defs g p → o ≡ p
