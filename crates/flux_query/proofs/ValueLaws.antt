-- Values that are added to a forest, one behind the other.
use Rattle.std.proofs.Common.{◌≡◌, ◌+◌, ◌<◌, ℕ, List, [], ◌∷◌, Option, Some, None, length, ◌≤◌, drop, drop-cons, add-one, refl, ap, ap₂, ◌∙◌, sym, arith}
use Rattle.std.proofs.Math.ListN.{get_or}
use Rattle.std.proofs.lemmas.List.{drop_all}
use Rattle.flux_trees.specs.Hedge.{Plain, join, trees}
use Rattle.flux_trees.specs.Draft.{done, outer, depth, add, begin, end}
use Rattle.flux_trees.proofs.DraftLaws.{add-nil, add-add, depth-add, depth-begin, end-begin}
use Rattle.flux_calculus.specs.declared.ask.Span.{Span}
use Rattle.flux_calculus.specs.declared.ask.Var.{Var}
use Rattle.flux_calculus.specs.Query as spec
use Rattle.flux_calculus.specs.Query.{Environment, and_value, value, value_each}
use Rattle.flux_query.specs.declared.query.Query.{Query}
use Rattle.flux_query.specs.Read.{query_of, queries_of}
use Rattle.flux_query.specs.Added.{PlainDraft, added, in_element, value_under, values_under}

-- a value and the value behind it
abbrev one_more : Option Plain → Option Plain → Option Plain
one_more o p = and_value o (λ v. and_value p (λ w. Some (join v w)))

added_one : (o p : Option Plain) (d e : PlainDraft) → added d o ≡ Some e → added e p ≡ added d (one_more o p)
added_one None p d e h = cc
added_one (Some v) None d e h = refl
added_one (Some v) (Some w) d e h =
    let same : add d v ≡ e = cc in
    ap Some (ap (λ d. add d w) (sym same) ∙ add-add d v w)

pub depth_of_added : (o : Option Plain) (d e : PlainDraft) → added d o ≡ Some e → depth e ≡ depth d
depth_of_added None d e h = cc
depth_of_added (Some v) d e h =
    let same : add d v ≡ e = cc in
    ap depth (sym same) ∙ depth-add d v

-- an element is begun before its content is added
pub element_is_begun : (o : Option Plain) (d b e : PlainDraft) (n : ℕ) → b ≡ begin d tt n → added b o ≡ Some e → 0 < depth e
element_is_begun o d b e n begins h = omega (arith, depth_of_added o b e h, ap depth begins, depth-begin d tt n)

pub element_added : (o : Option Plain) (d b e f : PlainDraft) (n : ℕ) → b ≡ begin d tt n → added b o ≡ Some e → f ≡ end e → added d (in_element n o) ≡ Some f
element_added None d b e f n begins h ends = cc
element_added (Some v) d b e f n begins h ends =
    let same : add b v ≡ e = cc in
    ap Some (sym (ends ∙ ap end (sym same) ∙ ap (λ b. end (add b v)) begins ∙ end-begin d tt n v))

-- ---- the loop over queries

split_values : (qs : List Query) (i : ℕ) (q : Query) (at : Span) (γ : Environment) → i < length qs → q ≡ get_or qs i q
    → value γ (queries_of at (drop i qs)) ≡ one_more (value γ (query_of q)) (value γ (queries_of at (drop (i + 1) qs)))
split_values qs i q at γ lt is =
    ap (λ r. value γ (queries_of at r)) (drop-cons qs i q lt ∙ ap₂ (λ x n. x ∷ drop n qs) (sym is) (sym (add-one i)))

pub turn_of_values : (qs : List Query) (i : ℕ) (q : Query) (at : Span) (γ : Environment) (d e : PlainDraft) → i < length qs → q ≡ get_or qs i q → added d (value γ (query_of q)) ≡ Some e
    → added e (value γ (queries_of at (drop (i + 1) qs))) ≡ added d (value γ (queries_of at (drop i qs)))
turn_of_values qs i q at γ d e lt is h =
    added_one (value γ (query_of q)) (value γ (queries_of at (drop (i + 1) qs))) d e h ∙ ap (added d) (sym (split_values qs i q at γ lt is))

pub end_of_values : (qs : List Query) (i : ℕ) (at : Span) (γ : Environment) (d : PlainDraft) → length qs ≤ i → added d (value γ (queries_of at (drop i qs))) ≡ Some d
end_of_values qs i at γ d le = ap (λ r. added d (value γ (queries_of at r))) (drop_all i qs le) ∙ ap Some (add-nil d)

-- ---- the loop over trees

split_each : (γ : Environment) (x : Var) (r : spec.Query) (h u g : Plain) → trees h ≡ u ∷ trees g → values_under γ x r h ≡ one_more (value_under γ x r u) (values_under γ x r g)
split_each γ x r h u g split = ap (value_each (value_under γ x r)) split

-- the variable is bound to a copy of the tree
pub at_copy : (γ δ : Environment) (x : Var) (r : spec.Query) (copied : PlainDraft) (u : Plain) (d e : PlainDraft) → δ ≡ γ → copied ≡ done u → added d (value_under δ x r (outer copied)) ≡ Some e
    → added d (value_under γ x r u) ≡ Some e
at_copy γ δ x r copied u d e same is here =
    ap₂ (λ γ c. added d (value_under γ x r (outer c))) (sym same) (sym is) ∙ here

pub turn_of_each : (γ : Environment) (x : Var) (r : spec.Query) (h u g : Plain) (d e : PlainDraft) → trees h ≡ u ∷ trees g → added d (value_under γ x r u) ≡ Some e → added e (values_under γ x r g) ≡ added d (values_under γ x r h)
turn_of_each γ x r h u g d e split here =
    added_one (value_under γ x r u) (values_under γ x r g) d e here ∙ ap (added d) (sym (split_each γ x r h u g split))

pub end_of_each : (γ : Environment) (x : Var) (r : spec.Query) (h : Plain) (d : PlainDraft) → trees h ≡ [] → added d (values_under γ x r h) ≡ Some d
end_of_each γ x r h d none = ap (λ us. added d (value_each (value_under γ x r) us)) none ∙ ap Some (add-nil d)
