-- What holds of each label and each atom of a forest, of the values of variables, and of what a
-- statement and the procedures bring in, holds of what the statement makes of the forest.
use Rattle.std.proofs.Common.{◌≡◌, ◌∙◌, refl, sym, subst, ℕ, ℤ, Bool, true, false, List, [], ◌∷◌, Option, Some, None, if◌then◌else◌}
use Rattle.std.specs.Int.Signed.{lt_z}
use Rattle.flux_atom.specs.declared.atom.Atom.{Atom}
use Rattle.flux_atom.specs.declared.atom.Atom.TheVariants.{Bool as Truth}
use Rattle.flux_trees.specs.Hedge.{Plain, nil, elem, leaf, join, trees}
use Rattle.flux_trees.specs.Each.{EachLabel, EachAtom}
use Rattle.flux_trees.specs.Same.{same}
use Rattle.flux_trees.proofs.EachLaws.{EachLabel-join, EachAtom-join}
use Rattle.flux_calculus.specs.declared.ask.Test.{Test}
use Rattle.flux_calculus.specs.declared.ask.Var.{Var}
use Rattle.flux_calculus.specs.Tests.{matches}
use Rattle.flux_calculus.specs.Query.{Query, nothing, both, literal, variable, binding, choice, alike, less, child, filter, each, same_var, Environment, found, and_value, truth_of, number_of, compared, chosen, content_of_one, passing, value_each, value}
use Rattle.flux_calculus.specs.Query as query
use Rattle.flux_calculus.specs.Typing.{Context}
use Rattle.flux_calculus.specs.Core.{Core, Proc, Procs, proc_of}
use Rattle.flux_calculus.specs.Derives.{bound_first, bound_to, Derives, DerivesEach, skips, ends, follows, takes_yes, takes_no, binds, notes, inserts, deletes, renames, tests, passes, enters, goes_left, goes_right, iterates, calls, each_end, each_more}
use Rattle.flux_calculus.specs.Brings.{Holds, AllHold, QueryBrings, QueriesBring, CoreBrings, ProcsBring}

module _ (P : ℕ → Type 0) (Q : Atom → Type 0) where
  -- it holds of each of the forests
  abbrev EachHolds : List Plain → Type 0
  EachHolds [] = Unit {0}
  EachHolds (v ∷ vs) = Holds P Q v × EachHolds vs

  holds-join : (v w z : Plain) → join v w ≡ z → Holds P Q v → Holds P Q w → Holds P Q z
  holds-join v w z e a b = subst (λ x. Holds P Q x) e (EachLabel-join P v w a.0 b.0, EachAtom-join Q v w a.1 b.1)

  of_trees : (v : Plain) → Holds P Q v → EachHolds (trees v)
  of_trees nil a = tt
  of_trees (elem _ n c r) a = (((a.0.0, a.0.1, tt), (a.1.0, tt)), of_trees r (a.0.2, a.1.1))
  of_trees (leaf _ x r) a = ((tt, (a.1.0, tt)), of_trees r (a.0, a.1.1))

  -- ---- the parts of a value

  -- where there is a value, it holds of it
  abbrev HoldsIn : Option Plain → Type 0
  HoldsIn None = Unit {0}
  HoldsIn (Some v) = Holds P Q v

  in_and : (o : Option Plain) (go : Plain → Option Plain) → HoldsIn o → ((v : Plain) → Holds P Q v → HoldsIn (go v)) → HoldsIn (and_value o go)
  in_and None go a f = tt
  in_and (Some v) go a f = f v a

  -- the value of a variable, by the value of the first that is bound
  in_found_by : (b : Bool) (v : Plain) (o : Option Plain) → Holds P Q v → HoldsIn o → HoldsIn (if b then Some v else o)
  in_found_by true v o a h = a
  in_found_by false v o a h = h

  in_option : (o : Option Plain) → ((v : Plain) → o ≡ Some v → Holds P Q v) → HoldsIn o
  in_option None f = tt
  in_option (Some v) f = f v refl

  bound_holds_by : (b : Bool) (v w : Plain) (o : Option Plain) → Holds P Q v → (o ≡ Some w → Holds P Q w) → (if b then Some v else o) ≡ Some w → Holds P Q w
  bound_holds_by true v w o a f e = let same : v ≡ w = cc in subst (λ x. Holds P Q x) same a
  bound_holds_by false v w o a f e = f e

  -- one more variable is bound
  all_bound : (γ : Environment) (x : Var) (v : Plain) → AllHold P Q γ → Holds P Q v → AllHold P Q ((x, v) ∷ γ)
  all_bound γ x v h a y w e = bound_holds_by (same_var x y) v w (found γ y) a (h y w) e

  in_chosen : (b : Option Bool) (o p : Option Plain) → HoldsIn o → HoldsIn p → HoldsIn (chosen b o p)
  in_chosen None o p g h = tt
  in_chosen (Some true) o p g h = g
  in_chosen (Some false) o p g h = h

  in_content : (v : Plain) → Holds P Q v → HoldsIn (content_of_one v)
  in_content nil a = tt
  in_content (elem _ n c nil) a = (a.0.1, a.1.0)
  in_content (elem _ n c (elem _ m d r)) a = tt
  in_content (elem _ n c (leaf _ x r)) a = tt
  in_content (leaf _ x nil) a = (tt, tt)
  in_content (leaf _ x (elem _ m d r)) a = tt
  in_content (leaf _ x (leaf _ y r)) a = tt

  if_elem : (b : Bool) (n : ℕ) (c r : Plain) → P n → Holds P Q c → Holds P Q r → Holds P Q (if b then elem tt n c r else r)
  if_elem true n c r l a h = ((l, a.0, h.0), (a.1, h.1))
  if_elem false n c r l a h = h

  if_leaf : (b : Bool) (x : Atom) (r : Plain) → Q x → Holds P Q r → Holds P Q (if b then leaf tt x r else r)
  if_leaf true x r l h = (h.0, (l, h.1))
  if_leaf false x r l h = h

  of_passing : (t : Test) (v : Plain) → Holds P Q v → Holds P Q (passing t v)
  of_passing t nil a = a
  of_passing t (elem m n c r) a = if_elem (matches t (elem m n c nil)) n c (passing t r) a.0.0 (a.0.1, a.1.0) (of_passing t r (a.0.2, a.1.1))
  of_passing t (leaf m x r) a = if_leaf (matches t (leaf m x nil)) x (passing t r) a.1.0 (of_passing t r (a.0, a.1.1))

  in_each : (go : Plain → Option Plain) (vs : List Plain) → EachHolds vs → ((v : Plain) → Holds P Q v → HoldsIn (go v)) → HoldsIn (value_each go vs)
  in_each go [] a f = (tt, tt)
  in_each go (v ∷ vs) a f =
      in_and (go v) _ (f v a.0) (λ u h. in_and (value_each go vs) _ (in_each go vs a.1 f) (λ w k. holds-join u w (join u w) refl h k))

  -- ---- queries

  -- truth values are brought in by each comparison
  module _ (truths : (b : Bool) → Q (Truth b)) where
    in_compared : (o p : Option ℤ) → HoldsIn (compared o p)
    in_compared None p = tt
    in_compared (Some y) None = tt
    in_compared (Some y) (Some z) = (tt, (truths (lt_z y z), tt))

    in_value : (γ : Environment) (q : Query) → AllHold P Q γ → QueryBrings P Q q → HoldsIn (value γ q)
    in_value γ (nothing at) h a = (tt, tt)
    in_value γ (both at q r) h a =
        in_and (value γ q) _ (in_value γ q h a.0) (λ v f. in_and (value γ r) _ (in_value γ r h a.1) (λ w g. holds-join v w (join v w) refl f g))
    in_value γ (query.element at n q) h a = in_and (value γ q) _ (in_value γ q h a.1) (λ v f. ((a.0, f.0, tt), (f.1, tt)))
    in_value γ (literal at x) h a = (tt, (a, tt))
    in_value γ (variable at x) h a = in_option (found γ x) (h x)
    in_value γ (binding at x q r) h a = in_and (value γ q) _ (in_value γ q h a.0) (λ v f. in_value ((x, v) ∷ γ) r (all_bound γ x v h f) a.1)
    in_value γ (choice at c q r) h a =
        in_and (value γ c) _ (in_value γ c h a.0) (λ v f. in_chosen (truth_of v) (value γ q) (value γ r) (in_value γ q h a.1) (in_value γ r h a.2))
    in_value γ (alike at q r) h a =
        in_and (value γ q) _ (in_value γ q h a.0) (λ v f. in_and (value γ r) _ (in_value γ r h a.1) (λ w g. (tt, (truths (same v w), tt))))
    in_value γ (less at q r) h a =
        in_and (value γ q) _ (in_value γ q h a.0) (λ v f. in_and (value γ r) _ (in_value γ r h a.1) (λ w g. in_compared (number_of v) (number_of w)))
    in_value γ (child at x) h a = in_and (found γ x) content_of_one (in_option (found γ x) (h x)) in_content
    in_value γ (filter at q t) h a = in_and (value γ q) _ (in_value γ q h a) (λ v f. of_passing t v f)
    in_value γ (each at x q r) h a =
        in_and (value γ q) _ (in_value γ q h a.0) (λ v f.
        in_each (λ u. value ((x, u) ∷ γ) r) (trees v) (of_trees v f) (λ u g. in_value ((x, u) ∷ γ) r (all_bound γ x u h g) a.1))

    value_holds : (γ : Environment) (q : Query) (v : Plain) → AllHold P Q γ → QueryBrings P Q q → value γ q ≡ Some v → Holds P Q v
    value_holds γ q v h a e = subst HoldsIn e (in_value γ q h a)

    -- the parameters of a call
    abbrev AllHoldIn : Option Environment → Type 0
    AllHoldIn None = Unit {0}
    AllHoldIn (Some δ) = AllHold P Q δ

    none_bound : AllHold P Q []
    none_bound x v e = cc

    in_first : (x : Var) (o : Option Plain) (b : Option Environment) → HoldsIn o → AllHoldIn b → AllHoldIn (bound_first x o b)
    in_first x None b a h = tt
    in_first x (Some v) None a h = tt
    in_first x (Some v) (Some δ) a h = all_bound δ x v h a

    in_bound : (γ : Environment) (ps : Context) (qs : List Query) → AllHold P Q γ → QueriesBring P Q qs → AllHoldIn (bound_to γ ps qs)
    in_bound γ [] [] h a = none_bound
    in_bound γ [] (q ∷ qs) h a = tt
    in_bound γ (p ∷ ps) [] h a = tt
    in_bound γ (p ∷ ps) (q ∷ qs) h a = in_first p.0 (value γ q) (bound_to γ ps qs) (in_value γ q h a.0) (in_bound γ ps qs h a.1)

    bound_holds : (γ δ : Environment) (ps : Context) (qs : List Query) → AllHold P Q γ → QueriesBring P Q qs → bound_to γ ps qs ≡ Some δ → AllHold P Q δ
    bound_holds γ δ ps qs h a e = subst AllHoldIn e (in_bound γ ps qs h a)

    -- ---- statements

    mutual
      pub derives-holds : {procs : Procs} {d : ℕ} {γ : Environment} {v w : Plain} {s : Core} → Derives procs d γ v s w → ProcsBring P Q procs → AllHold P Q γ → CoreBrings P Q s → Holds P Q v → Holds P Q w
      derives-holds skips b h a f = f
      derives-holds ends b h a f = f
      derives-holds (follows d e) b h a f = derives-holds e b h a.1 (derives-holds d b h a.0 f)
      derives-holds (takes_yes e d) b h a f = derives-holds d b h a.1 f
      derives-holds (takes_no e d) b h a f = derives-holds d b h a.2 f
      derives-holds {γ = γ} (binds {u = u} {x = x} {q = q} e d) b h a f = derives-holds d b (all_bound γ x u h (value_holds γ q u h a.0 e)) a.1 f
      derives-holds {γ = γ} {v = v} (notes {x = x} d) b h a f = derives-holds d b (all_bound γ x v h f) a f
      derives-holds {γ = γ} {w = w} (inserts {q = q} e) b h a f = value_holds γ q w h a e
      derives-holds deletes b h a f = (tt, tt)
      derives-holds renames b h a f = ((a, f.0.1, tt), f.1)
      derives-holds (tests one fits d) b h a f = derives-holds d b h a f
      derives-holds (passes one misses) b h a f = f
      derives-holds (enters d) b h a f = let g = derives-holds d b h a (f.0.1, f.1.0) in ((f.0.0, g.0, tt), (g.1, tt))
      derives-holds {v = v} {w = w} (goes_left {u = u} d j) b h a f = holds-join u v w j (derives-holds d b h a (tt, tt)) f
      derives-holds {v = v} {w = w} (goes_right {u = u} d j) b h a f = holds-join v u w j f (derives-holds d b h a (tt, tt))
      derives-holds {v = v} (iterates e) b h a f = each-holds e b h a (of_trees v f)
      derives-holds {γ = γ} (calls {δ = δ} {p = p} {args = args} {q = q} e k d) b h a f = derives-holds d b (bound_holds γ δ q.params args h a k) (b p q e) f

      each-holds : {procs : Procs} {d : ℕ} {γ : Environment} {vs : List Plain} {w : Plain} {s : Core} → DerivesEach procs d γ vs s w → ProcsBring P Q procs → AllHold P Q γ → CoreBrings P Q s → EachHolds vs → Holds P Q w
      each-holds each_end b h a f = (tt, tt)
      each-holds {w = w} (each_more {u = u} {r = r} d e j) b h a f = holds-join u r w j (derives-holds d b h a f.0) (each-holds e b h a f.1)
