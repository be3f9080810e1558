-- The type of what a statement makes of the forests of a type, or the first fault: a rule for each
-- case. Updates and their types are after FLUX; inclusion of types is asked for at a condition, at
-- an insertion and at a call.
use Rattle.std.specs.Prelude.{◌≡◌, ℕ, Bool, true, false, List, [], ◌∷◌, Option, Some, None, if◌then◌else◌}
use Rattle.flux_atom.specs.declared.atom.AtomKind.{AtomKind}
use Rattle.flux_atom.specs.declared.atom.AtomKind.TheVariants as kind
use Rattle.flux_trees.specs.Hedge.{Plain}
use Rattle.flux_schema.specs.Ty.{Ty, empty, atom, element, any_element, seq, alt, star, named}
use Rattle.flux_schema.specs.Definitions.{Definitions, body_of}
use Rattle.flux_schema.specs.Member.{Member, Included}
use Rattle.flux_schema.specs.Single.{Single, IsNotSingle}
use Rattle.flux_calculus.specs.declared.ask.Test.{Test}
use Rattle.flux_calculus.specs.declared.ask.Test.TheVariants.{Label, AnyElement, OfText, OfBool, OfInt}
use Rattle.flux_calculus.specs.declared.ask.Var.{Var}
use Rattle.flux_calculus.specs.declared.ask.Span.{Span}
use Rattle.flux_calculus.specs.Tests.{element_matches, kind_matches}
use Rattle.flux_calculus.specs.Fault.{Fault, not_single, not_element, too_large, not_bool, not_empty, bad_argument, bad_focus}
use Rattle.flux_calculus.specs.Query.{Query, place_of}
use Rattle.flux_calculus.specs.Typing.{Context, is_within, content_type, Types, of_query}
use Rattle.flux_calculus.specs.Typing as query
use Rattle.flux_calculus.specs.Core.{Core, skip, nothing, both, choice, binding, snapshot, insert, delete, rename, test, children, left, right, iter, call, Proc, Procs, proc_of}

-- what comes of typing: a type, with the definitions that stand behind it, or the first fault
pub data Outcome : Type 0 where
  typed : Ty → Definitions → Outcome
  faulty : Fault → Outcome

-- a type that is concluded at a place: it is tested, after its parts
abbrev pub concluded : ℕ → Ty → Definitions → Outcome
concluded at t Δ = if is_within t then typed t Δ else faulty (too_large at)

-- a type that is concluded from the type of a part
abbrev pub made : ℕ → (Ty → Ty) → Outcome → Outcome
made at make (typed t Δ) = concluded at (make t) Δ
made at make (faulty f) = faulty f

-- a type that is concluded from the types of two parts, the second of which is typed behind the
-- first
abbrev pub paired : ℕ → (Ty → Ty → Ty) → Outcome → Outcome → Outcome
paired at make (typed t Δ) (typed u Δ') = concluded at (make t u) Δ'
paired at make (typed t Δ) (faulty f) = faulty f
paired at make (faulty f) o = faulty f

-- a fault before, if there is one, else the outcome
abbrev pub or_fault : Option Fault → Outcome → Outcome
or_fault None o = o
or_fault (Some f) o = faulty f

-- the outcome of typing that adds no definitions, as of a query: those before it stand behind it
abbrev pub with_definitions : Definitions → query.Outcome → Outcome
with_definitions Δ (query.typed t) = typed t Δ
with_definitions Δ (query.faulty f) = faulty f

-- Checks u f a o: the type a that was found stays where it is included in u; else a forest of it
-- is none of u, and the fault f of the two types comes. A fault stays
pub data Checks (u : Ty) (f : Ty → Ty → Fault) : Outcome → Outcome → Type 0 where
  fits : {t : Ty} {Δ : Definitions} → Included Δ t u → Checks u f (typed t Δ) (typed t Δ)
  misses : {t : Ty} {Δ : Definitions} →
      (v : Plain) → Member Δ v t → ¬ (Member Δ v u) → Checks u f (typed t Δ) (faulty (f t u))
  was_faulty : {e : Fault} → Checks u f (faulty e) (faulty e)

-- the atom type or the element type that a type stands for, or none
pub data StandsFor (Δ : Definitions) (t : Ty) : Option Ty → Type 0 where
  for_one : {a : Ty} → Single Δ t a → StandsFor Δ t (Some a)
  for_none : IsNotSingle Δ t → StandsFor Δ t None

-- each argument in turn is typed, and included in the type of its parameter: the first fault, or
-- none
pub data Arguments (Δ : Definitions) (Γ : Context) :
    Context → List Query → Option Fault → Type 0 where
  no_more : Arguments Δ Γ [] [] None
  one_more : {x : Var} {u t : Ty} {Δ' : Definitions} {ps : Context} {q : Query} →
      {qs : List Query} {a : query.Outcome} {o : Option Fault} →
      Types Δ (of_query Γ q) a →
      Checks u (bad_argument (place_of q)) (with_definitions Δ a) (typed t Δ') →
      Arguments Δ Γ ps qs o → Arguments Δ Γ ((x, u) ∷ ps) (q ∷ qs) o
  one_wrong : {x : Var} {u : Ty} {ps : Context} {q : Query} {qs : List Query} →
      {a : query.Outcome} {f : Fault} →
      Types Δ (of_query Γ q) a →
      Checks u (bad_argument (place_of q)) (with_definitions Δ a) (faulty f) →
      Arguments Δ Γ ((x, u) ∷ ps) (q ∷ qs) (Some f)

-- what a renaming makes of one tree
abbrev pub renamed : ℕ → ℕ → Definitions → Option Ty → Outcome
renamed at n Δ (Some (element m t)) = concluded at (element n t) Δ
renamed at n Δ (Some (any_element t)) = concluded at (element n t) Δ
renamed at n Δ (Some _) = faulty (not_element at)
renamed at n Δ None = faulty (not_single at)

-- the content of one element
abbrev pub content_of : ℕ → Definitions → Option Ty → Outcome
content_of at Δ (Some (element m t)) = typed t Δ
content_of at Δ (Some (any_element t)) = typed t Δ
content_of at Δ (Some _) = faulty (not_element at)
content_of at Δ None = faulty (not_single at)

-- the same element round another content
abbrev pub round : Option Ty → Ty → Ty
round (Some (element m t)) u = element m u
round (Some (any_element t)) u = any_element u
round _ u = u

-- what can be said of a test at an atom type or an element type: each tree passes, none does, or
-- only those with a label do
pub data Verdict : Type 0 where
  passes : Verdict
  fails : Verdict
  undecided : (label : ℕ) → Verdict

abbrev pub passes_if : Bool → Verdict
passes_if true = passes
passes_if false = fails

-- a label is undecided at an element of any label
abbrev pub verdict_of_any : Test → Verdict
verdict_of_any (Label n) = undecided n
verdict_of_any AnyElement = passes
verdict_of_any OfText = fails
verdict_of_any OfBool = fails
verdict_of_any OfInt = fails

abbrev pub verdict : Test → Ty → Verdict
verdict p empty = fails
verdict p (atom k) = passes_if (kind_matches p k)
verdict p (element n t) = passes_if (element_matches p n)
verdict p (any_element t) = verdict_of_any p
verdict p (seq t u) = fails
verdict p (alt t u) = fails
verdict p (star t) = fails
verdict p (named x) = fails

-- what is typed: a query; a statement at a type; a statement at each tree of a type, where each
-- conclusion is at a place; what comes behind an outcome; or nothing more
pub data Goal : Type 0 where
  of_value : (Δ : Definitions) (Γ : Context) (q : Query) → Goal
  of_core : (Δ : Definitions) (Γ : Context) (t : Ty) (s : Core) → Goal
  of_map : (at : ℕ) (Δ : Definitions) (Γ : Context) (t : Ty) (s : Core) → Goal
  behind : (o : Outcome) (next : Ty → Definitions → Goal) → Goal
  giving : (o : Outcome) → Goal

-- a statement under a test, at one tree: where each tree passes it is typed there; where none does
-- the tree stays; where only those with a label do, it is typed at an element of that label
abbrev pub tested_as : Verdict → Definitions → Context → Ty → Core → Goal
tested_as passes Δ Γ a s = of_core Δ Γ a s
tested_as fails Δ Γ a s = giving (typed a Δ)
tested_as (undecided n) Δ Γ a s = of_core Δ Γ (element n (content_type a)) s

abbrev pub tested : ℕ → Test → Definitions → Context → Option Ty → Core → Goal
tested at p Δ Γ (Some a) s = tested_as (verdict p a) Δ Γ a s
tested at p Δ Γ None s = giving (faulty (not_single at))

-- what is concluded from that: the tree may stay as well where the test is undecided
abbrev pub or_stays : Verdict → Ty → Ty → Ty
or_stays passes a t = t
or_stays fails a t = t
or_stays (undecided n) a t = alt t a

abbrev pub tested_type : Test → Option Ty → Ty → Ty
tested_type p (Some a) t = or_stays (verdict p a) a t
tested_type p None t = t

-- Has procs g o: the goal has the outcome. Parts are typed from left to right, and the first fault
-- is the outcome
pub data Has (procs : Procs) : Goal → Outcome → Type 0 where
  -- a fault ends it; a type, with its definitions, goes on
  stops : {f : Fault} {next : Ty → Definitions → Goal} →
      Has procs (behind (faulty f) next) (faulty f)
  goes_on : {t : Ty} {Δ : Definitions} {next : Ty → Definitions → Goal} {o : Outcome} →
      Has procs (next t Δ) o → Has procs (behind (typed t Δ) next) o
  gives : {o : Outcome} → Has procs (giving o) o
  -- a query has the outcome that it has by itself
  has_value : {Δ : Definitions} {Γ : Context} {q : Query} {a : query.Outcome} →
      Types Δ (of_query Γ q) a → Has procs (of_value Δ Γ q) (with_definitions Δ a)
  -- the focus stays
  of_skip : {Δ : Definitions} {Γ : Context} {t : Ty} {at : Span} →
      Has procs (of_core Δ Γ t (skip at)) (typed t Δ)
  -- each statement at the type of the one before
  of_nothing : {Δ : Definitions} {Γ : Context} {t : Ty} {at : Span} →
      Has procs (of_core Δ Γ t (nothing at)) (typed t Δ)
  of_both : {Δ : Definitions} {Γ : Context} {t : Ty} {at : Span} {s r : Core} {a o : Outcome} →
      Has procs (of_core Δ Γ t s) a →
      Has procs (behind a (λ u Δ'. of_core Δ' Γ u r)) o →
      Has procs (of_core Δ Γ t (both at s r)) o
  -- the condition is a truth value; either type of the two parts
  of_choice : {Δ : Definitions} {Γ : Context} {t : Ty} {at : Span} {c : Query} {s r : Core} →
      {q a b e o : Outcome} →
      Has procs (of_value Δ Γ c) q → Checks (atom kind.Bool) (not_bool (place_of c)) q a →
      Has procs (behind a (λ _ Δ'. of_core Δ' Γ t s)) b →
      Has procs (behind b (λ _ Δ'. of_core Δ' Γ t r)) e →
      paired at.from alt b e ≡ o → Has procs (of_core Δ Γ t (choice at c s r)) o
  -- the statement with a variable of the type of the query, of the focus
  of_binding : {Δ : Definitions} {Γ : Context} {t : Ty} {at : Span} {x : Var} {q : Query} →
      {s : Core} {a o : Outcome} →
      Has procs (of_value Δ Γ q) a →
      Has procs (behind a (λ u Δ'. of_core Δ' ((x, u) ∷ Γ) t s)) o →
      Has procs (of_core Δ Γ t (binding at x q s)) o
  of_snapshot : {Δ : Definitions} {Γ : Context} {t : Ty} {at : Span} {x : Var} {s : Core} →
      {o : Outcome} →
      Has procs (of_core Δ ((x, t) ∷ Γ) t s) o → Has procs (of_core Δ Γ t (snapshot at x s)) o
  -- the focus is empty; the type of the query
  of_insert : {Δ : Definitions} {Γ : Context} {t : Ty} {at : Span} {q : Query} {a o : Outcome} →
      Checks empty (not_empty at.from) (typed t Δ) a →
      Has procs (behind a (λ _ Δ'. of_value Δ' Γ q)) o →
      Has procs (of_core Δ Γ t (insert at q)) o
  -- nothing is left
  of_delete : {Δ : Definitions} {Γ : Context} {t : Ty} {at : Span} →
      Has procs (of_core Δ Γ t (delete at)) (typed empty Δ)
  -- the focus is one element, which gets the label
  of_rename : {Δ : Definitions} {Γ : Context} {t : Ty} {at : Span} {n : ℕ} →
      {a : Option Ty} {o : Outcome} →
      StandsFor Δ t a → renamed at.from n Δ a ≡ o → Has procs (of_core Δ Γ t (rename at n)) o
  -- the focus is one tree; the statement where it passes the test
  of_test : {Δ : Definitions} {Γ : Context} {t : Ty} {at : Span} {p : Test} {s : Core} →
      {a : Option Ty} {b o : Outcome} →
      StandsFor Δ t a → Has procs (tested at.from p Δ Γ a s) b →
      made at.from (tested_type p a) b ≡ o → Has procs (of_core Δ Γ t (test at p s)) o
  -- the focus is one element, round the type of the statement at its content
  of_children : {Δ : Definitions} {Γ : Context} {t : Ty} {at : Span} {s : Core} →
      {a : Option Ty} {b o : Outcome} →
      StandsFor Δ t a → Has procs (behind (content_of at.from Δ a) (λ u Δ'. of_core Δ' Γ u s)) b →
      made at.from (round a) b ≡ o → Has procs (of_core Δ Γ t (children at s)) o
  -- the type of the statement at the empty forest, before the focus or behind it
  of_left : {Δ : Definitions} {Γ : Context} {t : Ty} {at : Span} {s : Core} {a o : Outcome} →
      Has procs (of_core Δ Γ empty s) a →
      made at.from (λ u. seq u t) a ≡ o → Has procs (of_core Δ Γ t (left at s)) o
  of_right : {Δ : Definitions} {Γ : Context} {t : Ty} {at : Span} {s : Core} {a o : Outcome} →
      Has procs (of_core Δ Γ empty s) a →
      made at.from (λ u. seq t u) a ≡ o → Has procs (of_core Δ Γ t (right at s)) o
  -- the statement at each tree
  of_iter : {Δ : Definitions} {Γ : Context} {t : Ty} {at : Span} {s : Core} {o : Outcome} →
      Has procs (of_map at.from Δ Γ t s) o → Has procs (of_core Δ Γ t (iter at s)) o
  -- the arguments fit the parameters, then the focus fits the declared one; the declared result
  of_call : {Δ : Definitions} {Γ : Context} {t : Ty} {at : Span} {p : ℕ} {args : List Query} →
      {q : Proc} {a : Option Fault} {b o : Outcome} →
      proc_of procs p ≡ Some q → Arguments Δ Γ q.params args a →
      Checks q.focus (bad_focus at.from) (or_fault a (typed t Δ)) b →
      made at.from (λ _. q.result) b ≡ o → Has procs (of_core Δ Γ t (call at p args)) o
  -- an atom type or an element type becomes the type of the statement at it
  at_atom : {at : ℕ} {Δ : Definitions} {Γ : Context} {k : AtomKind} {s : Core} {a o : Outcome} →
      Has procs (of_core Δ Γ (atom k) s) a →
      made at (λ u. u) a ≡ o → Has procs (of_map at Δ Γ (atom k) s) o
  at_element : {at : ℕ} {Δ : Definitions} {Γ : Context} {n : ℕ} {t : Ty} {s : Core} →
      {a o : Outcome} →
      Has procs (of_core Δ Γ (element n t) s) a →
      made at (λ u. u) a ≡ o → Has procs (of_map at Δ Γ (element n t) s) o
  at_any : {at : ℕ} {Δ : Definitions} {Γ : Context} {t : Ty} {s : Core} {a o : Outcome} →
      Has procs (of_core Δ Γ (any_element t) s) a →
      made at (λ u. u) a ≡ o → Has procs (of_map at Δ Γ (any_element t) s) o
  -- all other types keep their form round what their parts become; a name gives what its body gives
  of_empty : {at : ℕ} {Δ : Definitions} {Γ : Context} {s : Core} →
      Has procs (of_map at Δ Γ empty s) (typed empty Δ)
  of_seq : {at : ℕ} {Δ : Definitions} {Γ : Context} {t u : Ty} {s : Core} {a b o : Outcome} →
      Has procs (of_map at Δ Γ t s) a → Has procs (behind a (λ _ Δ'. of_map at Δ' Γ u s)) b →
      paired at seq a b ≡ o → Has procs (of_map at Δ Γ (seq t u) s) o
  of_alt : {at : ℕ} {Δ : Definitions} {Γ : Context} {t u : Ty} {s : Core} {a b o : Outcome} →
      Has procs (of_map at Δ Γ t s) a → Has procs (behind a (λ _ Δ'. of_map at Δ' Γ u s)) b →
      paired at alt a b ≡ o → Has procs (of_map at Δ Γ (alt t u) s) o
  of_star : {at : ℕ} {Δ : Definitions} {Γ : Context} {t : Ty} {s : Core} {a o : Outcome} →
      Has procs (of_map at Δ Γ t s) a →
      made at star a ≡ o → Has procs (of_map at Δ Γ (star t) s) o
  of_name : {at x : ℕ} {Δ : Definitions} {Γ : Context} {t : Ty} {s : Core} {o : Outcome} →
      body_of Δ x ≡ Some t →
      Has procs (of_map at Δ Γ t s) o → Has procs (of_map at Δ Γ (named x) s) o

-- TypesUpdate procs Δ Γ t s o: at the type t, under the definitions Δ and with variables of the
-- types Γ, the statement s has the outcome o
abbrev pub TypesUpdate : Procs → Definitions → Context → Ty → Core → Outcome → Type 0
TypesUpdate procs Δ Γ t s o = Has procs (of_core Δ Γ t s) o
