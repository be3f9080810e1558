-- Nodes of steps, one behind the other.
use Rattle.std.proofs.Common.{◌≡◌, ◌-◌, ◌+◌, ◌<◌, ◌≤◌, ℕ, zero, suc, Bool, true, false, nat_lt, List, [], ◌∷◌, ◌++◌, append_assoc, append-nil, length, drop, drop-cons, length-drop, get_or, Option, Some, None, Result, Ok, Err, if◌then◌else◌, refl, sym, subst, ap, ap₂, ◌∙◌, add-one, arith}
use Rattle.std.specs.Prelude.{flat_map}
use Rattle.std.proofs.lemmas.List.{drop_all}
use Rattle.std.proofs.lemmas.Bool.{lt-ltb}
use Rattle.flux_calculus.specs.declared.ask.Span.{Span}
use Rattle.flux_calculus.specs.Core as core
use Rattle.flux_calculus.specs.Core.{Core, in_order, skip, snapshot, insert, delete, rename, test, children, left, right, iter, call}
use Rattle.flux_calculus.specs.Query.{Query}
use Rattle.flux_grammar.specs.declared.tree.Expr.{Expr}
use Rattle.flux_grammar.specs.declared.tree.Path.{Path}
use Rattle.flux_grammar.specs.declared.tree.QueryStep.{QueryStep}
use Rattle.flux_grammar.specs.declared.tree.Step.{Step}
use Rattle.flux_grammar.specs.Nesting.{level, query_level, core_level}
use Rattle.flux_grammar.specs.NormalFaults.{first}
use Rattle.flux_grammar.specs.NormalQueries.{Numbered, of_one, step_on, steps_on, query_form}
use Rattle.flux_grammar.specs.NormalStatements.{filtered, on_step, on_steps, on_path}
use Rattle.flux_normal.specs.Levels.{either, Finds, Leaves, levels_left, found_round, behind_step}
use Rattle.flux_normal.proofs.LevelLaws.{joined}

-- what is left of a list begins with the part that is next
pub split : {X : Type 0} (all : List X) (i : ℕ) (x : X) → i < length all → x ≡ get_or all i x → drop i all ≡ x ∷ drop (i + 1) all
split all i x lt is = drop-cons all i x lt ∙ ap₂ (λ y n. y ∷ drop n all) (sym is) (sym (add-one i))

-- the steps behind a query: those that are still to come stand behind one of which is told what
-- was found
abbrev pub StepsSoFar : List QueryStep → ℕ → Option ℕ → List QueryStep → Option ℕ → Type 0
StepsSoFar all n from rest found =
    (e : Numbered Query) → Finds query_level e (n - length all) from →
    (q : Numbered Query) × Finds query_level q (n - length rest) found × ((k : ℕ) → steps_on q rest k ≡ steps_on e all k)

pub steps_begin : (all : List QueryStep) (n : ℕ) (from : Option ℕ) → StepsSoFar all n from all from
steps_begin all n from e found = (e, found, λ k. refl)

pub step_taken : (all : List QueryStep) (n m i behind : ℕ) (from a b : Option ℕ) (s : QueryStep) → i < length all → s ≡ get_or all i s → behind + i ≡ length all → m ≡ n - (behind - 1)
    → ((e : Numbered Query) → Finds query_level e (m - 1) a → Finds query_level (step_on e s) m b)
    → StepsSoFar all n from (drop i all) a → StepsSoFar all n from (drop (i + 1) all) b
step_taken all n m i behind from a b s lt is count past step so e found =
    let p = so e found in
    let cut = split all i s lt is in
    let here : n - length (drop i all) ≡ m - 1 = omega (arith, length-drop i all, past, count, lt) in
    let after : m ≡ n - length (drop (i + 1) all) = omega (arith, length-drop (i + 1) all, past, count, lt) in (
      step_on p.0 s,
      subst (λ m. Finds query_level (step_on p.0 s) m b) after (step p.0 (subst (λ m. Finds query_level p.0 m a) here p.1)),
      λ k. ap (λ ss. steps_on p.0 ss k) (sym cut) ∙ p.2 k,
    )

pub steps_end : (all : List QueryStep) (n i : ℕ) (from a : Option ℕ) → length all ≤ i → StepsSoFar all n from (drop i all) a → (e : Numbered Query) → Finds query_level e (n - length all) from → Finds query_level (steps_on e all) n a
steps_end all n i from a le so e found =
    let p = so e found in
    λ k. ap (λ q. first (query_level q.0 n)) (sym (p.2 k) ∙ ap (λ ss. steps_on p.0 ss k) (drop_all i all le))
    ∙ subst (λ m. Finds query_level p.0 m a) (omega (arith, ap length (drop_all i all le))) p.1 k

-- the steps of a path: what is found in a statement on those that are still to come is found in it
-- on the path
abbrev pub PathSoFar : List Step → ℕ → List Step → ℕ → Type 0
PathSoFar all n rest m = (s : Numbered Core) (o : Option ℕ) → Finds core_level (on_steps rest s) m o → Finds core_level (on_steps all s) n o

pub path_begins : (all : List Step) (n : ℕ) → PathSoFar all n all n
path_begins all n s o found = found

pub path_ends : (all : List Step) (n m i : ℕ) → length all ≤ i → PathSoFar all n (drop i all) m → (s : Numbered Core) (o : Option ℕ) → Finds core_level s m o → Finds core_level (on_steps all s) n o
path_ends all n m i le so s o found = so s o (subst (λ ss. Finds core_level (on_steps ss s) m o) (sym (drop_all i all le)) found)

-- a step that goes on where others follow it
on_more : (p : Step) (rest : List Step) (goes_on : Bool) (s : Numbered Core) → goes_on ≡ nat_lt 0 (length rest) → on_steps (p ∷ rest) s ≡ on_step p (behind_step p goes_on (on_steps rest s))
on_more p [] goes_on s e = ap (λ t. on_step p (behind_step p t s)) (sym e)
on_more p (q ∷ ps) goes_on s e = ap (λ t. on_step p (behind_step p t (on_steps (q ∷ ps) s))) (sym (e ∙ lt-ltb 0 (length (q ∷ ps)) (omega arith)))

module _ (all : List Step) (n m i behind : ℕ) (p : Step) (goes_on : Bool) (lt : i < length all) (is : p ≡ get_or all i p) (count : behind + i ≡ length all) (more : goes_on ≡ nat_lt 0 (behind - 1)) (so : PathSoFar all n (drop i all) m) where
  goes : goes_on ≡ nat_lt 0 (length (drop (i + 1) all))
  goes = more ∙ ap (nat_lt 0) (omega (arith, length-drop (i + 1) all, count, lt))

  on_all : (s : Numbered Core) (o : Option ℕ) → Finds core_level (on_step p (behind_step p goes_on (on_steps (drop (i + 1) all) s))) m o → Finds core_level (on_steps all s) n o
  on_all s o found = so s o (subst (λ f. Finds core_level f m o) (sym (ap (λ ss. on_steps ss s) (split all i p lt is) ∙ on_more p (drop (i + 1) all) goes_on s goes)) found)

  abbrev Through : Result ℕ ℕ → Type 0
  Through r = Leaves (λ s. on_step p (behind_step p goes_on s)) m r

  pub path_taken : (r : Result ℕ ℕ) (left : ℕ) → r ≡ Ok left → Through r → PathSoFar all n (drop (i + 1) all) left
  path_taken r l e leaves s o found = on_all s o (subst Through e leaves (on_steps (drop (i + 1) all) s) o found)

  pub path_stops : (r : Result ℕ ℕ) (place : ℕ) → r ≡ Err place → Through r → (s : Numbered Core) → Finds core_level (on_steps all s) n (Some place)
  path_stops r place e leaves s = on_all s (Some place) (subst Through e leaves (on_steps (drop (i + 1) all) s))

-- what stands round a statement and what is found in that
pub through : (round : Numbered Core → Numbered Core) (n : ℕ) (r : Result ℕ ℕ) (s : Numbered Core) (o : Option ℕ) → Leaves round n r → Finds core_level s (levels_left r) o → Finds core_level (round s) n (found_round r o)
through round n (Ok m) s o leaves found = leaves s o found
through round n (Err place) s o leaves found = leaves s

-- one thing round another
pub leaves_both : (f g : Numbered Core → Numbered Core) (n m : ℕ) (q r : Result ℕ ℕ) → q ≡ Ok m → Leaves f n q → Leaves g m r → Leaves (λ s. f (g s)) n r
leaves_both f g n m q (Ok l) e outer inner = λ s o found. subst (Leaves f n) e outer (g s) o (inner s o found)
leaves_both f g n m q (Err place) e outer inner = λ s. subst (Leaves f n) e outer (g s) (Some place) (inner s)

pub leaves_stop : (f g : Numbered Core → Numbered Core) (n place : ℕ) (q : Result ℕ ℕ) → q ≡ Err place → Leaves f n q → Leaves (λ s. f (g s)) n (Err place)
leaves_stop f g n place q e outer = λ s. subst (Leaves f n) e outer (g s)

-- no node is found before the first of a statement
first_core : (s : Core) → (place : ℕ) × (core_level s 0 ≡ place ∷ [])
first_core (skip at) = (at.from, refl)
first_core (core.nothing at) = (at.from, refl)
first_core (core.both at s t) = (at.from, refl)
first_core (core.choice at c s t) = (at.from, refl)
first_core (core.binding at x q s) = (at.from, refl)
first_core (snapshot at x s) = (at.from, refl)
first_core (insert at q) = (at.from, refl)
first_core (delete at) = (at.from, refl)
first_core (rename at n) = (at.from, refl)
first_core (test at t s) = (at.from, refl)
first_core (children at s) = (at.from, refl)
first_core (left at s) = (at.from, refl)
first_core (right at s) = (at.from, refl)
first_core (iter at s) = (at.from, refl)
first_core (call at p qs) = (at.from, refl)

-- `skip` beside a statement lies as deep as that, and behind it
pub beside_skip : (s : Core) (at : Span) (n : ℕ) → first (core_level s n ++ core_level (skip at) n) ≡ first (core_level s n)
beside_skip s at zero =
    let p = first_core s in
    ap (λ l. first (l ++ at.from ∷ [])) p.1 ∙ sym (ap first p.1)
beside_skip s at (suc n) = ap first (append-nil (core_level s (suc n)))

-- what is found in a list of nodes and in a statement that has `skip` beside it
pub with_skip : (xs : List ℕ) (s : Core) (at : Span) (n : ℕ) (o p : Option ℕ) → first xs ≡ o → first (core_level s n) ≡ p → first (xs ++ core_level s n ++ core_level (skip at) n) ≡ either o p
with_skip xs s at n o p a b = ap first (append_assoc xs (core_level s n) (core_level (skip at) n)) ∙ joined xs (core_level s n ++ core_level (skip at) n) o p a (beside_skip s at n ∙ b)

pub alone : {X : Type 0} (xs : List X) (x : X) → 1 ≤ length xs → length xs < 2 → x ≡ get_or xs 0 x → xs ≡ x ∷ []
alone [] x ge lt is = absurd (omega (arith, ge))
alone (y ∷ []) x ge lt is = ap (λ y. y ∷ []) (sym is)
alone (y ∷ z ∷ ys) x ge lt is = absurd (omega (arith, lt))

-- a statement under a filter
module _ (at : Span) (e : Expr) (n m : ℕ) (node : (nodes : ℕ → List ℕ) → first (level at.from nodes n) ≡ first (nodes m)) where
  abbrev nodes : Numbered Core → ℕ → ℕ → List ℕ
  nodes s k n = query_level (query_form e k).0 n ++ core_level (s (query_form e k).1).0 n ++ core_level (skip at) n

  pub under_filter : Finds query_level (query_form e) m None → (s : Numbered Core) (o : Option ℕ) → Finds core_level s m o → Finds core_level (filtered at (Some e) s) n o
  under_filter none s o found k =
      let c = (s (query_form e k).1).0 in
      node (nodes s k) ∙ with_skip (query_level (query_form e k).0 m) c at m None o (none k) (found (query_form e k).1)

  pub in_filter : (place : ℕ) → Finds query_level (query_form e) m (Some place) → (s : Numbered Core) → Finds core_level (filtered at (Some e) s) n (Some place)
  in_filter place some s k =
      let c = (s (query_form e k).1).0 in
      node (nodes s k) ∙ with_skip (query_level (query_form e k).0 m) c at m (Some place) _ (some k) refl

-- what is found in a statement on a path
pub on_a_path : (form : Numbered Core) (path : Path) (s : Numbered Core) (n m : ℕ) (r : Result ℕ ℕ) (o found : Option ℕ) → form ≡ on_path path s → Leaves (on_path path) n r → m ≡ levels_left r → found ≡ found_round r o → Finds core_level s m o → Finds core_level form n found
on_a_path form path s n m r o found is leaves rest told inside =
    subst (λ f. Finds core_level f n found) (sym is)
    (subst (Finds core_level (on_path path s) n) (sym told)
    (through (on_path path) n r s o leaves (subst (λ m. Finds core_level s m o) rest inside)))

-- what is found in a node with one part
pub in_node : (place n m : ℕ) (s : Numbered Core) (o found : Option ℕ) → ((nodes : ℕ → List ℕ) → first (nodes (n - 1)) ≡ o → first (level place nodes n) ≡ found) → m ≡ n - 1 → Finds core_level s m o → (k : ℕ) → first (level place (core_level (s k).0) n) ≡ found
in_node place n m s o found node below inside k = node (core_level (s k).0) (subst (λ m. Finds core_level s m o) below inside k)

-- statements one behind the other are one node with these parts
pub in_sequence : (at : Span) (ss : List Core) (n : ℕ) → core_level (in_order at ss) n ≡ level at.from (λ n. flat_map (λ s. core_level s n) ss) n
in_sequence at [] zero = refl
in_sequence at [] (suc n) = refl
in_sequence at (s ∷ ss) zero = refl
in_sequence at (s ∷ ss) (suc n) = ap (λ l. core_level s n ++ l) (in_sequence at ss (suc n))
