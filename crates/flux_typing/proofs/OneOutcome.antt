-- A goal has at most one outcome, and none of today's rules adds definitions.
use Rattle.std.proofs.Common.{◌≡◌, ℕ, List, Option, Some, refl, sym, ap, subst}
use Rattle.flux_schema.specs.Ty.{Ty}
use Rattle.flux_schema.specs.Definitions.{Definitions}
use Rattle.flux_schema.proofs.Singles.{single-only}
use Rattle.flux_calculus.specs.declared.ask.Test.{Test}
use Rattle.flux_calculus.specs.Query.{Query}
use Rattle.flux_calculus.specs.Typing.{Context, Types, of_query}
use Rattle.flux_calculus.specs.Typing as query
use Rattle.flux_calculus.proofs.OneType as types
use Rattle.flux_calculus.specs.Core.{Core, Proc, Procs}
use Rattle.flux_calculus.specs.Fault.{Fault, bad_focus}
use Rattle.flux_typing.specs.Update.{Outcome, typed, with_definitions, or_fault, Checks, fits, misses, was_faulty, StandsFor, for_one, for_none, Arguments, no_more, one_more, one_wrong, content_of, made, Goal, of_map, behind, tested, Has, stops, goes_on, gives, has_value, of_skip, of_nothing, of_both, of_choice, of_binding, of_snapshot, of_insert, of_delete, of_rename, of_test, of_children, of_left, of_right, of_iter, of_call, at_atom, at_element, at_any, of_empty, of_seq, of_alt, of_star, of_name}

checks_once : {u : Ty} {f : Ty → Ty → Fault} {a o p : Outcome} → Checks u f a o → Checks u f a p → o ≡ p
checks_once (fits i) (fits _) = refl
checks_once (fits i) (misses v m n) = absurd (n (i v m))
checks_once (misses v m n) (fits i) = absurd (n (i v m))
checks_once (misses v m n) (misses _ _ _) = refl
checks_once was_faulty was_faulty = refl

-- the same of equal outcomes before
pub checks : {u : Ty} {f : Ty → Ty → Fault} {a b o p : Outcome} → a ≡ b → Checks u f a o → Checks u f b p → o ≡ p
checks {u = u} {f = f} {p = p} e c d = checks_once c (subst (λ x. Checks u f x p) (sym e) d)

stands_once : {Δ : Definitions} {t : Ty} {a b : Option Ty} → StandsFor Δ t a → StandsFor Δ t b → a ≡ b
stands_once (for_one h) (for_one k) = ap Some (single-only h k)
stands_once (for_one h) (for_none n) = absurd (n _ h)
stands_once (for_none n) (for_one k) = absurd (n _ k)
stands_once (for_none n) (for_none _) = refl

same_query : {Δ : Definitions} {Γ : Context} {q : Query} {a b : query.Outcome} → Types Δ (of_query Γ q) a → Types Δ (of_query Γ q) b → with_definitions Δ a ≡ with_definitions Δ b
same_query {Δ = Δ} d e = ap (with_definitions Δ) (types.once d e)

arguments_once : {Δ : Definitions} {Γ ps : Context} {qs : List Query} {o p : Option Fault} → Arguments Δ Γ ps qs o → Arguments Δ Γ ps qs p → o ≡ p
arguments_once no_more no_more = refl
arguments_once (one_more d c a) (one_more d' c' a') = arguments_once a a'
arguments_once (one_more d c a) (one_wrong d' c') = cc (checks (same_query d d') c c')
arguments_once (one_wrong d c) (one_more d' c' a') = cc (checks (same_query d d') c c')
arguments_once (one_wrong d c) (one_wrong d' c') = cc (checks (same_query d d') c c')

same_some : {A : Type 0} {x y : A} {o : Option A} → o ≡ Some x → o ≡ Some y → x ≡ y
same_some e f = cc

-- a call of a procedure
abbrev CallOf : Definitions → Context → Ty → ℕ → List Query → Outcome → Proc → Type 0
CallOf Δ Γ t at args o q = (a : Option Fault) × (b : Outcome) × Arguments Δ Γ q.params args a × Checks q.focus (bad_focus at) (or_fault a (typed t Δ)) b × (made at (λ _. q.result) b ≡ o)

call_once : (Δ : Definitions) (Γ : Context) (t : Ty) (at : ℕ) (args : List Query) (o p : Outcome) (q : Proc) → CallOf Δ Γ t at args o q → CallOf Δ Γ t at args p q → o ≡ p
call_once Δ Γ t at args o p q (a, b, x, c, k) (a', b', x', c', k') =
    let e : b ≡ b' = checks (ap (λ z. or_fault z (typed t Δ)) (arguments_once x x')) c c' in cc (e, k, k')

module _ {procs : Procs} where
  -- what goes on behind an outcome goes on behind an equal one
  resume : {next : Ty → Definitions → Goal} {a b o : Outcome} → a ≡ b → Has procs (behind b next) o → Has procs (behind a next) o
  resume {next = next} {o = o} e d = subst (λ x. Has procs (behind x next) o) (sym e) d

  resume_test : (at : ℕ) (p : Test) (Δ : Definitions) (Γ : Context) (s : Core) {a b : Option Ty} {o : Outcome} → a ≡ b → Has procs (tested at p Δ Γ b s) o → Has procs (tested at p Δ Γ a s) o
  resume_test at p Δ Γ s {o = o} e d = subst (λ x. Has procs (tested at p Δ Γ x s) o) (sym e) d

  resume_map : {at : ℕ} {Δ : Definitions} {Γ : Context} {s : Core} {t u : Ty} {o : Outcome} → t ≡ u → Has procs (of_map at Δ Γ u s) o → Has procs (of_map at Δ Γ t s) o
  resume_map {at = at} {Δ = Δ} {Γ = Γ} {s = s} {o = o} e d = subst (λ x. Has procs (of_map at Δ Γ x s) o) (sym e) d

  pub once : {g : Goal} {o p : Outcome} → Has procs g o → Has procs g p → o ≡ p
  once stops stops = refl
  once (goes_on d) (goes_on d') = once d d'
  once gives gives = refl
  once (has_value d) (has_value d') = same_query d d'
  once of_skip of_skip = refl
  once of_nothing of_nothing = refl
  once (of_both d e) (of_both d' e') = once e (resume (once d d') e')
  once (of_choice q c d e k) (of_choice q' c' d' e' k') =
      let b = once d (resume (checks (once q q') c c') d') in
      cc (b, once e (resume b e'), k, k')
  once (of_binding q d) (of_binding q' d') = once d (resume (once q q') d')
  once (of_snapshot d) (of_snapshot d') = once d d'
  once (of_insert c d) (of_insert c' d') = once d (resume (checks_once c c') d')
  once of_delete of_delete = refl
  once (of_rename h k) (of_rename h' k') = cc (stands_once h h', k, k')
  once (of_test {Δ} {Γ} {at = at} {p = p} {s = s} h d k) (of_test h' d' k') = let a = stands_once h h' in cc (a, once d (resume_test at.from p Δ Γ s a d'), k, k')
  once (of_children {Δ} {at = at} h d k) (of_children h' d' k') = let a = stands_once h h' in cc (a, once d (resume (ap (content_of at.from Δ) a) d'), k, k')
  once (of_left d k) (of_left d' k') = cc (once d d', k, k')
  once (of_right d k) (of_right d' k') = cc (once d d', k, k')
  once (of_iter d) (of_iter d') = once d d'
  once (of_call {Δ} {Γ} {t} {at} {p} {args} {q} {a} {b} {o} e x c k) (of_call {q = q'} {a = a'} {b = b'} {o = o'} e' x' c' k') =
      call_once Δ Γ t at.from args o o' q (a, b, x, c, k) (subst (CallOf Δ Γ t at.from args o') (sym (same_some e e')) (a', b', x', c', k'))
  once (at_atom d k) (at_atom d' k') = cc (once d d', k, k')
  once (at_element d k) (at_element d' k') = cc (once d d', k, k')
  once (at_any d k) (at_any d' k') = cc (once d d', k, k')
  once of_empty of_empty = refl
  once (of_seq d e k) (of_seq d' e' k') = let a = once d d' in cc (a, once e (resume a e'), k, k')
  once (of_alt d e k) (of_alt d' e' k') = let a = once d d' in cc (a, once e (resume a e'), k, k')
  once (of_star d k) (of_star d' k') = cc (once d d', k, k')
  once (of_name e d) (of_name e' d') = once d (resume_map (same_some e e') d')
