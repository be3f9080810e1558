-- The rules of typing without faults: what holds of each statement that has a type is shown along
-- these, and fails proof but this one looks at faults.
use Rattle.std.proofs.Common.{◌≡◌, ℕ, Bool, true, false, List, ◌∷◌, Option, Some, None, refl, subst, if◌then◌else◌}
use Rattle.flux_atom.specs.declared.atom.AtomKind.TheVariants as kind
use Rattle.flux_schema.specs.Ty.{Ty, empty, atom, element, any_element, seq, alt, star, named}
use Rattle.flux_schema.specs.Definitions.{Definitions, body_of}
use Rattle.flux_schema.specs.Member.{Included}
use Rattle.flux_schema.specs.Single.{Single}
use Rattle.flux_calculus.specs.declared.ask.Test.{Test}
use Rattle.flux_calculus.specs.declared.ask.Var.{Var}
use Rattle.flux_calculus.specs.declared.ask.Span.{Span}
use Rattle.flux_calculus.specs.Query.{Query}
use Rattle.flux_calculus.specs.Typing.{Context, is_within, IsAtomic, content_type, Types, of_query}
use Rattle.flux_calculus.specs.Typing as query
use Rattle.flux_calculus.specs.Core.{Core, skip, nothing, both, choice, binding, snapshot, insert, delete, rename, test, children, left, right, iter, call, Proc, Procs, proc_of}
use Rattle.flux_calculus.specs.Fault.{Fault, too_large}
use Rattle.flux_typing.specs.Update.{Outcome, typed, faulty, Verdict, passes, fails, undecided, verdict, concluded, made, paired, or_fault, with_definitions, Checks, fits, misses, was_faulty, StandsFor, for_one, for_none, Arguments, renamed, content_of, round, tested_type, or_stays, tested_as, tested, Goal, of_value, of_core, of_map, behind, giving, Has, stops, goes_on, gives, has_value, of_skip, of_nothing, of_both, of_choice, of_binding, of_snapshot, of_insert, of_delete, of_rename, of_test, of_children, of_left, of_right, of_iter, of_call, at_atom, at_element, at_any, of_empty, of_seq, of_alt, of_star, of_name}

pub data Valued : Definitions → Context → Query → Ty → Definitions → Type 0 where
  valued : {Δ : Definitions} {Γ : Context} {q : Query} {u : Ty} → Types Δ (of_query Γ q) (query.typed u) → Valued Δ Γ q u Δ

mutual
  -- Typed procs Δ Γ t s u Δ': at t, under Δ, the statement has the type u, and the definitions are then Δ'
  pub data Typed (procs : Procs) : Definitions → Context → Ty → Core → Ty → Definitions → Type 0 where
    skips : {Δ : Definitions} {Γ : Context} {t : Ty} {at : Span} → Typed procs Δ Γ t (skip at) t Δ
    ends : {Δ : Definitions} {Γ : Context} {t : Ty} {at : Span} → Typed procs Δ Γ t (nothing at) t Δ
    follows : {Δ Δ' Δ'' : Definitions} {Γ : Context} {t u w : Ty} {at : Span} {s r : Core} → Typed procs Δ Γ t s u Δ' → Typed procs Δ' Γ u r w Δ'' → Typed procs Δ Γ t (both at s r) w Δ''
    chooses : {Δ Δ' Δ'' : Definitions} {Γ : Context} {t b u w : Ty} {at : Span} {c : Query} {s r : Core} → Types Δ (of_query Γ c) (query.typed b) → Included Δ b (atom kind.Bool) → Typed procs Δ Γ t s u Δ' → Typed procs Δ' Γ t r w Δ'' →
        Typed procs Δ Γ t (choice at c s r) (alt u w) Δ''
    binds : {Δ Δ' : Definitions} {Γ : Context} {t b u : Ty} {at : Span} {x : Var} {q : Query} {s : Core} → Types Δ (of_query Γ q) (query.typed b) → Typed procs Δ ((x, b) ∷ Γ) t s u Δ' → Typed procs Δ Γ t (binding at x q s) u Δ'
    notes : {Δ Δ' : Definitions} {Γ : Context} {t u : Ty} {at : Span} {x : Var} {s : Core} → Typed procs Δ ((x, t) ∷ Γ) t s u Δ' → Typed procs Δ Γ t (snapshot at x s) u Δ'
    inserts : {Δ : Definitions} {Γ : Context} {t u : Ty} {at : Span} {q : Query} → Included Δ t empty → Types Δ (of_query Γ q) (query.typed u) → Typed procs Δ Γ t (insert at q) u Δ
    deletes : {Δ : Definitions} {Γ : Context} {t : Ty} {at : Span} → Typed procs Δ Γ t (delete at) empty Δ
    renames : {Δ : Definitions} {Γ : Context} {t u : Ty} {at : Span} {m n : ℕ} → Single Δ t (element m u) → Typed procs Δ Γ t (rename at n) (element n u) Δ
    renames_any : {Δ : Definitions} {Γ : Context} {t u : Ty} {at : Span} {n : ℕ} → Single Δ t (any_element u) → Typed procs Δ Γ t (rename at n) (element n u) Δ
    tests : {Δ Δ' : Definitions} {Γ : Context} {t a u : Ty} {at : Span} {p : Test} {s : Core} → Single Δ t a → verdict p a ≡ passes → Typed procs Δ Γ a s u Δ' → Typed procs Δ Γ t (test at p s) u Δ'
    leaves : {Δ : Definitions} {Γ : Context} {t a : Ty} {at : Span} {p : Test} {s : Core} → Single Δ t a → verdict p a ≡ fails → Typed procs Δ Γ t (test at p s) a Δ
    may_test : {Δ Δ' : Definitions} {Γ : Context} {t a u : Ty} {at : Span} {p : Test} {l : ℕ} {s : Core} → Single Δ t a → verdict p a ≡ undecided l → Typed procs Δ Γ (element l (content_type a)) s u Δ' → Typed procs Δ Γ t (test at p s) (alt u a) Δ'
    enters : {Δ Δ' : Definitions} {Γ : Context} {t w u : Ty} {at : Span} {n : ℕ} {s : Core} → Single Δ t (element n w) → Typed procs Δ Γ w s u Δ' → Typed procs Δ Γ t (children at s) (element n u) Δ'
    enters_any : {Δ Δ' : Definitions} {Γ : Context} {t w u : Ty} {at : Span} {s : Core} → Single Δ t (any_element w) → Typed procs Δ Γ w s u Δ' → Typed procs Δ Γ t (children at s) (any_element u) Δ'
    lefts : {Δ Δ' : Definitions} {Γ : Context} {t u : Ty} {at : Span} {s : Core} → Typed procs Δ Γ empty s u Δ' → Typed procs Δ Γ t (left at s) (seq u t) Δ'
    rights : {Δ Δ' : Definitions} {Γ : Context} {t u : Ty} {at : Span} {s : Core} → Typed procs Δ Γ empty s u Δ' → Typed procs Δ Γ t (right at s) (seq t u) Δ'
    iterates : {Δ Δ' : Definitions} {Γ : Context} {t u : Ty} {at : Span} {s : Core} → Mapped procs Δ Γ t s u Δ' → Typed procs Δ Γ t (iter at s) u Δ'
    calls : {Δ : Definitions} {Γ : Context} {t : Ty} {at : Span} {p : ℕ} {args : List Query} {q : Proc} → proc_of procs p ≡ Some q → Arguments Δ Γ q.params args None → Included Δ t q.focus → Typed procs Δ Γ t (call at p args) q.result Δ

  pub data Mapped (procs : Procs) : Definitions → Context → Ty → Core → Ty → Definitions → Type 0 where
    at_one : {Δ Δ' : Definitions} {Γ : Context} {a u : Ty} {s : Core} → IsAtomic a → Typed procs Δ Γ a s u Δ' → Mapped procs Δ Γ a s u Δ'
    over_empty : {Δ : Definitions} {Γ : Context} {s : Core} → Mapped procs Δ Γ empty s empty Δ
    over_seq : {Δ Δ' Δ'' : Definitions} {Γ : Context} {t u t' u' : Ty} {s : Core} → Mapped procs Δ Γ t s t' Δ' → Mapped procs Δ' Γ u s u' Δ'' → Mapped procs Δ Γ (seq t u) s (seq t' u') Δ''
    over_alt : {Δ Δ' Δ'' : Definitions} {Γ : Context} {t u t' u' : Ty} {s : Core} → Mapped procs Δ Γ t s t' Δ' → Mapped procs Δ' Γ u s u' Δ'' → Mapped procs Δ Γ (alt t u) s (alt t' u') Δ''
    over_star : {Δ Δ' : Definitions} {Γ : Context} {t t' : Ty} {s : Core} → Mapped procs Δ Γ t s t' Δ' → Mapped procs Δ Γ (star t) s (star t') Δ'
    over_name : {Δ Δ' : Definitions} {Γ : Context} {x : ℕ} {t u : Ty} {s : Core} → body_of Δ x ≡ Some t → Mapped procs Δ Γ t s u Δ' → Mapped procs Δ Γ (named x) s u Δ'

-- ---- from outcomes

-- where it is a type, it meets P
abbrev pub OnTyped : (Ty → Definitions → Type 0) → Outcome → Type 0
OnTyped P (typed u Δ) = P u Δ
OnTyped P (faulty f) = Unit {0}

on : (P : Ty → Definitions → Type 0) (o p : Outcome) → o ≡ p → OnTyped P o → OnTyped P p
on P o p e h = subst (OnTyped P) e h

on_concluded : (P : Ty → Definitions → Type 0) (at : ℕ) (u : Ty) (Δ : Definitions) → P u Δ → OnTyped P (concluded at u Δ)
on_concluded P at u Δ h = by (is_within u)
  where
    by : (b : Bool) → OnTyped P (if b then typed u Δ else faulty (too_large at))
    by true = h
    by false = tt

on_made : (P Q : Ty → Definitions → Type 0) (at : ℕ) (make : Ty → Ty) (o : Outcome) → ((u : Ty) (Δ : Definitions) → P u Δ → Q (make u) Δ) → OnTyped P o → OnTyped Q (made at make o)
on_made P Q at make (typed u Δ) f h = on_concluded Q at (make u) Δ (f u Δ h)
on_made P Q at make (faulty e) f h = tt

module _ (procs : Procs) where
  abbrev pub Succeeds : Goal → Outcome → Type 0
  Succeeds (of_value Δ Γ q) o = OnTyped (Valued Δ Γ q) o
  Succeeds (of_core Δ Γ t s) o = OnTyped (Typed procs Δ Γ t s) o
  Succeeds (of_map at Δ Γ t s) o = OnTyped (Mapped procs Δ Γ t s) o
  Succeeds (behind (typed t Δ) next) o = Succeeds (next t Δ) o
  Succeeds (behind (faulty f) next) o = faulty f ≡ o
  Succeeds (giving p) o = p ≡ o

  on_after : (P Q : Ty → Definitions → Type 0) (a : Outcome) (next : Ty → Definitions → Goal) (o : Outcome) → OnTyped P a → Succeeds (behind a next) o → ((u : Ty) (Δ : Definitions) → P u Δ → Succeeds (next u Δ) o → OnTyped Q o) → OnTyped Q o
  on_after P Q (typed u Δ) next o h k f = f u Δ h k
  on_after P Q (faulty e) next o h k f = on Q (faulty e) o k tt

  on_paired : (P Q : Ty → Definitions → Type 0) (at : ℕ) (make : Ty → Ty → Ty) (a : Outcome) (next : Ty → Definitions → Goal) (b : Outcome) → OnTyped P a → Succeeds (behind a next) b →
      ((t : Ty) (Δ : Definitions) (u : Ty) (Δ' : Definitions) → P t Δ → Succeeds (next t Δ) (typed u Δ') → Q (make t u) Δ') → OnTyped Q (paired at make a b)
  on_paired P Q at make (typed t Δ) next (typed u Δ') h k f = on_concluded Q at (make t u) Δ' (f t Δ u Δ' h k)
  on_paired P Q at make (typed t Δ) next (faulty e) h k f = tt
  on_paired P Q at make (faulty e) next b h k f = tt

  -- what is made of a fault
  on_fault : (Q : Ty → Definitions → Type 0) (at : ℕ) (make : Ty → Ty) (e : Fault) (o : Outcome) → faulty e ≡ o → OnTyped Q (made at make o)
  on_fault Q at make e o k = let P : Outcome → Type 0 = λ x. OnTyped Q (made at make x) in subst P k tt

  valued_of : (Δ : Definitions) (Γ : Context) (q : Query) (a : query.Outcome) → Types Δ (of_query Γ q) a → OnTyped (Valued Δ Γ q) (with_definitions Δ a)
  valued_of Δ Γ q (query.typed u) d = valued d
  valued_of Δ Γ q (query.faulty f) d = tt

  choice_of : (Δ : Definitions) (Γ : Context) (t : Ty) (at : Span) (c : Query) (s r : Core) {f : Ty → Ty → Fault} {q a : Outcome} (b e : Outcome) → OnTyped (Valued Δ Γ c) q → Checks (atom kind.Bool) f q a → Succeeds (behind a (λ _ Δ'. of_core Δ' Γ t s)) b →
      Succeeds (behind b (λ _ Δ'. of_core Δ' Γ t r)) e → OnTyped (Typed procs Δ Γ t (choice at c s r)) (paired at.from alt b e)
  choice_of Δ Γ t at c s r b e (valued d) (fits i) x y = on_paired (Typed procs Δ Γ t s) (Typed procs Δ Γ t (choice at c s r)) at.from alt b (λ _ Δ'. of_core Δ' Γ t r) e x y (λ u Δ' w Δ'' x y. chooses d i x y)
  choice_of Δ Γ t at c s r b e d (misses v m n) x y = let P : Outcome → Type 0 = λ o. OnTyped (Typed procs Δ Γ t (choice at c s r)) (paired at.from alt o e) in subst P x tt
  choice_of Δ Γ t at c s r b e d was_faulty x y = let P : Outcome → Type 0 = λ o. OnTyped (Typed procs Δ Γ t (choice at c s r)) (paired at.from alt o e) in subst P x tt

  insert_of : (Δ : Definitions) (Γ : Context) (t : Ty) (at : Span) (q : Query) {f : Ty → Ty → Fault} {a : Outcome} (o : Outcome) → Checks empty f (typed t Δ) a → Succeeds (behind a (λ _ Δ'. of_value Δ' Γ q)) o → OnTyped (Typed procs Δ Γ t (insert at q)) o
  insert_of Δ Γ t at q (typed u Δ') (fits i) (valued d) = inserts i d
  insert_of Δ Γ t at q (faulty e) (fits i) x = tt
  insert_of Δ Γ t at q o (misses v m n) x = on (Typed procs Δ Γ t (insert at q)) _ o x tt

  rename_of : (Δ : Definitions) (Γ : Context) (t : Ty) (at : Span) (n : ℕ) (a : Option Ty) → StandsFor Δ t a → OnTyped (Typed procs Δ Γ t (rename at n)) (renamed at.from n Δ a)
  rename_of Δ Γ t at n (Some (element m u)) (for_one h) = on_concluded (Typed procs Δ Γ t (rename at n)) at.from (element n u) Δ (renames h)
  rename_of Δ Γ t at n (Some (any_element u)) (for_one h) = on_concluded (Typed procs Δ Γ t (rename at n)) at.from (element n u) Δ (renames_any h)
  rename_of Δ Γ t at n a h = tt

  test_of : (Δ : Definitions) (Γ : Context) (t a : Ty) (at : Span) (p : Test) (s : Core) (b : Outcome) (w : Verdict) → Single Δ t a → verdict p a ≡ w → Succeeds (tested_as w Δ Γ a s) b → OnTyped (Typed procs Δ Γ t (test at p s)) (made at.from (or_stays w a) b)
  test_of Δ Γ t a at p s b passes h e x = on_made (Typed procs Δ Γ a s) (Typed procs Δ Γ t (test at p s)) at.from (or_stays passes a) b (λ u Δ' x. tests h e x) x
  test_of Δ Γ t a at p s b fails h e x = let P : Outcome → Type 0 = λ o. OnTyped (Typed procs Δ Γ t (test at p s)) (made at.from (or_stays fails a) o) in subst P x (on_concluded (Typed procs Δ Γ t (test at p s)) at.from a Δ (leaves h e))
  test_of Δ Γ t a at p s b (undecided l) h e x = on_made (Typed procs Δ Γ (element l (content_type a)) s) (Typed procs Δ Γ t (test at p s)) at.from (or_stays (undecided l) a) b (λ u Δ' x. may_test h e x) x

  tested_of : (Δ : Definitions) (Γ : Context) (t : Ty) (at : Span) (p : Test) (s : Core) (a : Option Ty) (b : Outcome) → StandsFor Δ t a → Succeeds (tested at.from p Δ Γ a s) b → OnTyped (Typed procs Δ Γ t (test at p s)) (made at.from (tested_type p a) b)
  tested_of Δ Γ t at p s (Some a) b (for_one h) x = test_of Δ Γ t a at p s b (verdict p a) h refl x
  tested_of Δ Γ t at p s None b (for_none n) x = on_fault (Typed procs Δ Γ t (test at p s)) at.from (tested_type p None) _ b x

  children_of : (Δ : Definitions) (Γ : Context) (t : Ty) (at : Span) (s : Core) (a : Option Ty) (b : Outcome) → StandsFor Δ t a → Succeeds (behind (content_of at.from Δ a) (λ u Δ'. of_core Δ' Γ u s)) b → OnTyped (Typed procs Δ Γ t (children at s)) (made at.from (round a) b)
  children_of Δ Γ t at s (Some (element n w)) b (for_one h) x = on_made (Typed procs Δ Γ w s) (Typed procs Δ Γ t (children at s)) at.from (element n) b (λ u Δ' x. enters h x) x
  children_of Δ Γ t at s (Some (any_element w)) b (for_one h) x = on_made (Typed procs Δ Γ w s) (Typed procs Δ Γ t (children at s)) at.from any_element b (λ u Δ' x. enters_any h x) x
  children_of Δ Γ t at s a b h x = on_fault (Typed procs Δ Γ t (children at s)) at.from (round a) _ b x

  call_of : (Δ : Definitions) (Γ : Context) (t : Ty) (at : Span) (p : ℕ) (args : List Query) (q : Proc) (a : Option Fault) {f : Ty → Ty → Fault} {b : Outcome} → proc_of procs p ≡ Some q → Arguments Δ Γ q.params args a → Checks q.focus f (or_fault a (typed t Δ)) b →
      OnTyped (Typed procs Δ Γ t (call at p args)) (made at.from (λ _. q.result) b)
  call_of Δ Γ t at p args q None e r (fits i) = on_concluded (Typed procs Δ Γ t (call at p args)) at.from q.result Δ (calls e r i)
  call_of Δ Γ t at p args q None e r (misses v m n) = tt
  call_of Δ Γ t at p args q (Some f) e r was_faulty = tt

  one_of : (Δ : Definitions) (Γ : Context) (a : Ty) (s : Core) (at : ℕ) (o : Outcome) → IsAtomic a → OnTyped (Typed procs Δ Γ a s) o → OnTyped (Mapped procs Δ Γ a s) (made at (λ u. u) o)
  one_of Δ Γ a s at o i x = on_made (Typed procs Δ Γ a s) (Mapped procs Δ Γ a s) at (λ u. u) o (λ u Δ' x. at_one i x) x

  with_type : (P Q : Ty → Definitions → Type 0) (o : Outcome) → ((u : Ty) (Δ : Definitions) → P u Δ → Q u Δ) → OnTyped P o → OnTyped Q o
  with_type P Q (typed u Δ) f h = f u Δ h
  with_type P Q (faulty e) f h = tt

  binding_of : (Δ : Definitions) (Γ : Context) (t : Ty) (at : Span) (x : Var) (q : Query) (s : Core) (u : Ty) (Δ' : Definitions) (o : Outcome) → Valued Δ Γ q u Δ' → OnTyped (Typed procs Δ' ((x, u) ∷ Γ) t s) o → OnTyped (Typed procs Δ Γ t (binding at x q s)) o
  binding_of Δ Γ t at x q s u Δ' o (valued d) y = with_type (Typed procs Δ ((x, u) ∷ Γ) t s) (Typed procs Δ Γ t (binding at x q s)) o (λ w Δ'' y. binds d y) y

  pub succeeds : {g : Goal} {o : Outcome} → Has procs g o → Succeeds g o
  succeeds stops = refl
  succeeds (goes_on d) = succeeds d
  succeeds gives = refl
  succeeds (has_value {Δ} {Γ} {q} {a} d) = valued_of Δ Γ q a d
  succeeds of_skip = skips
  succeeds of_nothing = ends
  succeeds (of_both {Δ} {Γ} {t} {at} {s} {r} {a} {o} d e) = on_after (Typed procs Δ Γ t s) (Typed procs Δ Γ t (both at s r)) a (λ u Δ'. of_core Δ' Γ u r) o (succeeds d) (succeeds e) (λ u Δ' x y. with_type (Typed procs Δ' Γ u r) (Typed procs Δ Γ t (both at s r)) o (λ w Δ'' y. follows x y) y)
  succeeds (of_choice {Δ} {Γ} {t} {at} {c} {s} {r} {q} {a} {b} {e} {o} d i x y k) = on _ _ o k (choice_of Δ Γ t at c s r b e (succeeds d) i (succeeds x) (succeeds y))
  succeeds (of_binding {Δ} {Γ} {t} {at} {x} {q} {s} {a} {o} d y) = on_after (Valued Δ Γ q) (Typed procs Δ Γ t (binding at x q s)) a (λ u Δ'. of_core Δ' ((x, u) ∷ Γ) t s) o (succeeds d) (succeeds y) (λ u Δ' v y. binding_of Δ Γ t at x q s u Δ' o v y)
  succeeds (of_snapshot {Δ} {Γ} {t} {at} {x} {s} {o} d) = with_type (Typed procs Δ ((x, t) ∷ Γ) t s) (Typed procs Δ Γ t (snapshot at x s)) o (λ u Δ' d. notes d) (succeeds d)
  succeeds (of_insert {Δ} {Γ} {t} {at} {q} {a} {o} c x) = insert_of Δ Γ t at q o c (succeeds x)
  succeeds of_delete = deletes
  succeeds (of_rename {Δ} {Γ} {t} {at} {n} {a} {o} h k) = on _ _ o k (rename_of Δ Γ t at n a h)
  succeeds (of_test {Δ} {Γ} {t} {at} {p} {s} {a} {b} {o} h x k) = on _ _ o k (tested_of Δ Γ t at p s a b h (succeeds x))
  succeeds (of_children {Δ} {Γ} {t} {at} {s} {a} {b} {o} h x k) = on _ _ o k (children_of Δ Γ t at s a b h (succeeds x))
  succeeds (of_left {Δ} {Γ} {t} {at} {s} {a} {o} x k) = on _ _ o k (on_made (Typed procs Δ Γ empty s) (Typed procs Δ Γ t (left at s)) at.from (λ u. seq u t) a (λ u Δ' x. lefts x) (succeeds x))
  succeeds (of_right {Δ} {Γ} {t} {at} {s} {a} {o} x k) = on _ _ o k (on_made (Typed procs Δ Γ empty s) (Typed procs Δ Γ t (right at s)) at.from (λ u. seq t u) a (λ u Δ' x. rights x) (succeeds x))
  succeeds (of_iter {Δ} {Γ} {t} {at} {s} {o} x) = with_type (Mapped procs Δ Γ t s) (Typed procs Δ Γ t (iter at s)) o (λ u Δ' x. iterates x) (succeeds x)
  succeeds (of_call {Δ} {Γ} {t} {at} {p} {args} {q} {a} {b} {o} e r c k) = on _ _ o k (call_of Δ Γ t at p args q a e r c)
  succeeds (at_atom {at} {Δ} {Γ} {k = l} {s} {a} {o} x k) = on _ _ o k (one_of Δ Γ (atom l) s at a tt (succeeds x))
  succeeds (at_element {at} {Δ} {Γ} {n} {t} {s} {a} {o} x k) = on _ _ o k (one_of Δ Γ (element n t) s at a tt (succeeds x))
  succeeds (at_any {at} {Δ} {Γ} {t} {s} {a} {o} x k) = on _ _ o k (one_of Δ Γ (any_element t) s at a tt (succeeds x))
  succeeds of_empty = over_empty
  succeeds (of_seq {at} {Δ} {Γ} {t} {u} {s} {a} {b} {o} x y k) = on _ _ o k (on_paired (Mapped procs Δ Γ t s) (Mapped procs Δ Γ (seq t u) s) at seq a (λ _ Δ'. of_map at Δ' Γ u s) b (succeeds x) (succeeds y) (λ t' Δ' u' Δ'' x y. over_seq x y))
  succeeds (of_alt {at} {Δ} {Γ} {t} {u} {s} {a} {b} {o} x y k) = on _ _ o k (on_paired (Mapped procs Δ Γ t s) (Mapped procs Δ Γ (alt t u) s) at alt a (λ _ Δ'. of_map at Δ' Γ u s) b (succeeds x) (succeeds y) (λ t' Δ' u' Δ'' x y. over_alt x y))
  succeeds (of_star {at} {Δ} {Γ} {t} {s} {a} {o} x k) = on _ _ o k (on_made (Mapped procs Δ Γ t s) (Mapped procs Δ Γ (star t) s) at star a (λ u Δ' x. over_star x) (succeeds x))
  succeeds (of_name {at} {x} {Δ} {Γ} {t} {s} {o} e y) = with_type (Mapped procs Δ Γ t s) (Mapped procs Δ Γ (named x) s) o (λ u Δ' y. over_name e y) (succeeds y)
