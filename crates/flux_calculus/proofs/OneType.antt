-- A goal is typed with at most one outcome.
use Rattle.std.proofs.Common.{◌≡◌, ◌⊎◌, ◌∙◌, ℕ, ◌∷◌, Option, Some, refl, sym, ap, subst, inl, inr}
use Rattle.flux_trees.specs.Hedge.{Plain}
use Rattle.flux_schema.specs.Ty.{Ty}
use Rattle.flux_schema.specs.Definitions.{Definitions}
use Rattle.flux_schema.specs.Member.{Member, Included}
use Rattle.flux_schema.specs.Single.{Single}
use Rattle.flux_schema.proofs.Singles.{single-only}
use Rattle.flux_calculus.specs.declared.ask.Test.{Test}
use Rattle.flux_calculus.specs.declared.ask.Var.{Var}
use Rattle.flux_calculus.specs.Query.{Query}
use Rattle.flux_calculus.specs.Fault.{Fault}
use Rattle.flux_calculus.specs.Typing.{Context, Outcome, typed, faulty, concluded, Treatment, Goal, of_query, of_map, returning, keeping, IsAtomic, kept, content_type, Types, of_nothing, of_one, of_several, first_of_several, others_of_several, of_element, content_of_element, of_literal, of_variable, of_no_variable, of_binding, bound_of_binding, of_choice, condition_of_choice, no_truth_of_choice, yes_of_choice, no_of_choice, of_alike, left_of_alike, right_of_alike, of_less, left_of_less, left_no_number, right_of_less, right_no_number, of_child, of_many_child, of_no_child, of_filter, from_of_filter, of_each, over_of_each, returns, body_of_each, keeps, of_empty, of_seq, left_of_seq, right_of_seq, of_alt, left_of_alt, right_of_alt, of_star, inside_of_star, of_name}

-- what the type of an atom's or an element's body comes from
returned : {defs : Definitions} {Γ : Context} {at : ℕ} {x : Var} {q : Query} {a : Ty} {p : Outcome} → IsAtomic a → Types defs (of_map at (returning Γ x q) a) p →
    ((t : Ty) × Types defs (of_query ((x, a) ∷ Γ) q) (typed t) × (concluded at t ≡ p)) ⊎ ((f : Fault) × Types defs (of_query ((x, a) ∷ Γ) q) (faulty f) × (faulty f ≡ p))
returned i (returns _ d c) = inl (_, d, c)
returned i (body_of_each _ d) = inr (_, d, refl)
returned i _ = absurd i

keeping_gives : {defs : Definitions} {at : ℕ} {t : Test} {a : Ty} {p : Outcome} → IsAtomic a → Types defs (of_map at (keeping t) a) p → concluded at (kept t a) ≡ p
keeping_gives i (keeps _ c) = c
keeping_gives i _ = absurd i

same_type : (t u : Ty) → typed t ≡ typed u → t ≡ u
same_type t u e = cc

-- a body typed under a variable's other, equal type
under_type : {defs : Definitions} {Γ : Context} {x : Var} {q : Query} {t u : Ty} {o : Outcome} → typed t ≡ typed u → Types defs (of_query ((x, u) ∷ Γ) q) o → Types defs (of_query ((x, t) ∷ Γ) q) o
under_type {defs = defs} {Γ = Γ} {x = x} {q = q} {t = t} {u = u} {o = o} e d = subst (λ w. Types defs (of_query ((x, w) ∷ Γ) q) o) (sym (same_type t u e)) d

mapped_type : {defs : Definitions} {at : ℕ} {f : Treatment} {t u : Ty} {o : Outcome} → typed t ≡ typed u → Types defs (of_map at f u) o → Types defs (of_map at f t) o
mapped_type {defs = defs} {at = at} {f = f} {t = t} {u = u} {o = o} e d = subst (λ w. Types defs (of_map at f w) o) (sym (same_type t u e)) d

-- a condition of one type is not both in `bool` and out of it
in_and_out : {defs : Definitions} {t u s : Ty} {v : Plain} → typed t ≡ typed u → Included defs t s → Member defs v u → ¬ (Member defs v s) → ⊥
in_and_out {defs = defs} {t = t} {u = u} {v = v} e i m n = n (i v (subst (λ w. Member defs v w) (sym (same_type t u e)) m))

-- the element or the atom of a variable's type, and that there is one
single_of : {defs : Definitions} {t u s : Ty} {o : Option Ty} → o ≡ Some t → o ≡ Some u → Single defs u s → Single defs t s
single_of {defs = defs} {t = t} {u = u} {s = s} e f h = let same : u ≡ t = cc in subst (λ w. Single defs w s) same h

same_some : {t u : Ty} {o : Option Ty} → o ≡ Some t → o ≡ Some u → t ≡ u
same_some e f = cc

pub once : {defs : Definitions} {g : Goal} {o p : Outcome} → Types defs g o → Types defs g p → o ≡ p
once of_nothing of_nothing = refl
once (of_one d) (of_one d') = once d d'
once (of_several d e c) (of_several d' e' c') = cc (once d d', once e e')
once (of_several d e c) (first_of_several d') = cc (once d d')
once (of_several d e c) (others_of_several d' e') = cc (once e e')
once (first_of_several d) (of_several d' e' c') = cc (once d d')
once (first_of_several d) (first_of_several d') = once d d'
once (first_of_several d) (others_of_several d' e') = cc (once d d')
once (others_of_several d e) (of_several d' e' c') = cc (once e e')
once (others_of_several d e) (first_of_several d') = cc (once d d')
once (others_of_several d e) (others_of_several d' e') = once e e'
once (of_element d c) (of_element d' c') = cc (once d d')
once (of_element d c) (content_of_element d') = cc (once d d')
once (content_of_element d) (of_element d' c') = cc (once d d')
once (content_of_element d) (content_of_element d') = once d d'
once (of_literal x) (of_literal _) = refl
once (of_variable e) (of_variable e') = cc
once (of_variable e) (of_no_variable e') = cc
once (of_no_variable e) (of_variable e') = cc
once (of_no_variable e) (of_no_variable e') = refl
once (of_binding d e) (of_binding d' e') = once e (under_type (once d d') e')
once (of_binding d e) (bound_of_binding d') = cc (once d d')
once (bound_of_binding d) (of_binding d' e') = cc (once d d')
once (bound_of_binding d) (bound_of_binding d') = once d d'
once (of_choice d i e h c) (of_choice d' i' e' h' c') = cc (once e e', once h h')
once (of_choice d i e h c) (condition_of_choice d') = cc (once d d')
once (of_choice d i e h c) (no_truth_of_choice v d' m n) = absurd (in_and_out (once d d') i m n)
once (of_choice d i e h c) (yes_of_choice d' i' e') = cc (once e e')
once (of_choice d i e h c) (no_of_choice d' i' e' h') = cc (once h h')
once (condition_of_choice d) (of_choice d' i' e' h' c') = cc (once d d')
once (condition_of_choice d) (condition_of_choice d') = once d d'
once (condition_of_choice d) (no_truth_of_choice v d' m n) = cc (once d d')
once (condition_of_choice d) (yes_of_choice d' i' e') = cc (once d d')
once (condition_of_choice d) (no_of_choice d' i' e' h') = cc (once d d')
once (no_truth_of_choice v d m n) (of_choice d' i' e' h' c') = absurd (in_and_out (sym (once d d')) i' m n)
once (no_truth_of_choice v d m n) (condition_of_choice d') = cc (once d d')
once (no_truth_of_choice v d m n) (no_truth_of_choice w d' k l) = cc (once d d')
once (no_truth_of_choice v d m n) (yes_of_choice d' i' e') = absurd (in_and_out (sym (once d d')) i' m n)
once (no_truth_of_choice v d m n) (no_of_choice d' i' e' h') = absurd (in_and_out (sym (once d d')) i' m n)
once (yes_of_choice d i e) (of_choice d' i' e' h' c') = cc (once e e')
once (yes_of_choice d i e) (condition_of_choice d') = cc (once d d')
once (yes_of_choice d i e) (no_truth_of_choice v d' m n) = absurd (in_and_out (once d d') i m n)
once (yes_of_choice d i e) (yes_of_choice d' i' e') = once e e'
once (yes_of_choice d i e) (no_of_choice d' i' e' h') = cc (once e e')
once (no_of_choice d i e h) (of_choice d' i' e' h' c') = cc (once h h')
once (no_of_choice d i e h) (condition_of_choice d') = cc (once d d')
once (no_of_choice d i e h) (no_truth_of_choice v d' m n) = absurd (in_and_out (once d d') i m n)
once (no_of_choice d i e h) (yes_of_choice d' i' e') = cc (once e e')
once (no_of_choice d i e h) (no_of_choice d' i' e' h') = once h h'
once (of_alike d e) (of_alike d' e') = refl
once (of_alike d e) (left_of_alike d') = cc (once d d')
once (of_alike d e) (right_of_alike d' e') = cc (once e e')
once (left_of_alike d) (of_alike d' e') = cc (once d d')
once (left_of_alike d) (left_of_alike d') = once d d'
once (left_of_alike d) (right_of_alike d' e') = cc (once d d')
once (right_of_alike d e) (of_alike d' e') = cc (once e e')
once (right_of_alike d e) (left_of_alike d') = cc (once d d')
once (right_of_alike d e) (right_of_alike d' e') = once e e'
once (of_less d i e h) (of_less d' i' e' h') = refl
once (of_less d i e h) (left_of_less d') = cc (once d d')
once (of_less d i e h) (left_no_number v d' m n) = absurd (in_and_out (once d d') i m n)
once (of_less d i e h) (right_of_less d' i' e') = cc (once e e')
once (of_less d i e h) (right_no_number v d' i' e' m n) = absurd (in_and_out (once e e') h m n)
once (left_of_less d) (of_less d' i' e' h') = cc (once d d')
once (left_of_less d) (left_of_less d') = once d d'
once (left_of_less d) (left_no_number v d' m n) = cc (once d d')
once (left_of_less d) (right_of_less d' i' e') = cc (once d d')
once (left_of_less d) (right_no_number v d' i' e' m n) = cc (once d d')
once (left_no_number v d m n) (of_less d' i' e' h') = absurd (in_and_out (sym (once d d')) i' m n)
once (left_no_number v d m n) (left_of_less d') = cc (once d d')
once (left_no_number v d m n) (left_no_number w d' k l) = cc (once d d')
once (left_no_number v d m n) (right_of_less d' i' e') = absurd (in_and_out (sym (once d d')) i' m n)
once (left_no_number v d m n) (right_no_number w d' i' e' k l) = absurd (in_and_out (sym (once d d')) i' m n)
once (right_of_less d i e) (of_less d' i' e' h') = cc (once e e')
once (right_of_less d i e) (left_of_less d') = cc (once d d')
once (right_of_less d i e) (left_no_number v d' m n) = absurd (in_and_out (once d d') i m n)
once (right_of_less d i e) (right_of_less d' i' e') = once e e'
once (right_of_less d i e) (right_no_number v d' i' e' m n) = cc (once e e')
once (right_no_number v d i e m n) (of_less d' i' e' h') = absurd (in_and_out (sym (once e e')) h' m n)
once (right_no_number v d i e m n) (left_of_less d') = cc (once d d')
once (right_no_number v d i e m n) (left_no_number w d' k l) = absurd (in_and_out (once d d') i k l)
once (right_no_number v d i e m n) (right_of_less d' i' e') = cc (once e e')
once (right_no_number v d i e m n) (right_no_number w d' i' e' k l) = cc (once e e')
once (of_child e s) (of_child e' s') = ap (λ a. typed (content_type a)) (single-only s (single_of e e' s'))
once (of_child e s) (of_many_child e' n) = absurd (n _ (single_of e' e s))
once (of_child e s) (of_no_child e') = cc
once (of_many_child e n) (of_child e' s') = absurd (n _ (single_of e e' s'))
once (of_many_child e n) (of_many_child e' n') = refl
once (of_many_child e n) (of_no_child e') = cc
once (of_no_child e) (of_child e' s') = cc
once (of_no_child e) (of_many_child e' n') = cc
once (of_no_child e) (of_no_child e') = refl
once (of_filter d e) (of_filter d' e') = once e (mapped_type (once d d') e')
once (of_filter d e) (from_of_filter d') = cc (once d d')
once (from_of_filter d) (of_filter d' e') = cc (once d d')
once (from_of_filter d) (from_of_filter d') = once d d'
once (of_each d e) (of_each d' e') = once e (mapped_type (once d d') e')
once (of_each d e) (over_of_each d') = cc (once d d')
once (over_of_each d) (of_each d' e') = cc (once d d')
once (over_of_each d) (over_of_each d') = once d d'
once (returns i d c) e = elim (returned i e) [ inl r ↦ cc (once d r.1, r.2) | inr r ↦ cc (once d r.1) ]
once (body_of_each i d) e = elim (returned i e) [ inl r ↦ cc (once d r.1) | inr r ↦ once d r.1 ∙ r.2 ]
once (keeps i c) e = sym c ∙ keeping_gives i e
once of_empty (returns i _ _) = absurd i
once of_empty (body_of_each i _) = absurd i
once of_empty (keeps i _) = absurd i
once of_empty of_empty = refl
once (of_seq d e c) (of_seq d' e' c') = cc (once d d', once e e')
once (of_seq d e c) (left_of_seq d') = cc (once d d')
once (of_seq d e c) (right_of_seq d' e') = cc (once e e')
once (of_seq d e c) (returns i _ _) = absurd i
once (of_seq d e c) (body_of_each i _) = absurd i
once (of_seq d e c) (keeps i _) = absurd i
once (left_of_seq d) (of_seq d' e' c') = cc (once d d')
once (left_of_seq d) (left_of_seq d') = once d d'
once (left_of_seq d) (right_of_seq d' e') = cc (once d d')
once (left_of_seq d) (returns i _ _) = absurd i
once (left_of_seq d) (body_of_each i _) = absurd i
once (left_of_seq d) (keeps i _) = absurd i
once (right_of_seq d e) (of_seq d' e' c') = cc (once e e')
once (right_of_seq d e) (left_of_seq d') = cc (once d d')
once (right_of_seq d e) (right_of_seq d' e') = once e e'
once (right_of_seq d e) (returns i _ _) = absurd i
once (right_of_seq d e) (body_of_each i _) = absurd i
once (right_of_seq d e) (keeps i _) = absurd i
once (of_alt d e c) (of_alt d' e' c') = cc (once d d', once e e')
once (of_alt d e c) (left_of_alt d') = cc (once d d')
once (of_alt d e c) (right_of_alt d' e') = cc (once e e')
once (of_alt d e c) (returns i _ _) = absurd i
once (of_alt d e c) (body_of_each i _) = absurd i
once (of_alt d e c) (keeps i _) = absurd i
once (left_of_alt d) (of_alt d' e' c') = cc (once d d')
once (left_of_alt d) (left_of_alt d') = once d d'
once (left_of_alt d) (right_of_alt d' e') = cc (once d d')
once (left_of_alt d) (returns i _ _) = absurd i
once (left_of_alt d) (body_of_each i _) = absurd i
once (left_of_alt d) (keeps i _) = absurd i
once (right_of_alt d e) (of_alt d' e' c') = cc (once e e')
once (right_of_alt d e) (left_of_alt d') = cc (once d d')
once (right_of_alt d e) (right_of_alt d' e') = once e e'
once (right_of_alt d e) (returns i _ _) = absurd i
once (right_of_alt d e) (body_of_each i _) = absurd i
once (right_of_alt d e) (keeps i _) = absurd i
once (of_star d c) (of_star d' c') = cc (once d d')
once (of_star d c) (inside_of_star d') = cc (once d d')
once (of_star d c) (returns i _ _) = absurd i
once (of_star d c) (body_of_each i _) = absurd i
once (of_star d c) (keeps i _) = absurd i
once (inside_of_star d) (of_star d' c') = cc (once d d')
once (inside_of_star d) (inside_of_star d') = once d d'
once (inside_of_star d) (returns i _ _) = absurd i
once (inside_of_star d) (body_of_each i _) = absurd i
once (inside_of_star d) (keeps i _) = absurd i
once (of_name e d) (of_name e' d') = once d (mapped_type (ap typed (same_some e e')) d')
once (of_name e d) (returns i _ _) = absurd i
once (of_name e d) (body_of_each i _) = absurd i
once (of_name e d) (keeps i _) = absurd i
