-- The states of a complete table take what they stand for.
use Rattle.std.proofs.Common.{◌≡◌, ℕ, zero, suc, ◌⊎◌, ◌<◌, List, [], ◌∷◌, length, Some, slice_get, Bool, true, false, ◌||◌, ◌↔◌, map, refl, sym, ap, subst, ◌∙◌, inl, inr, arith, length-append}
use Rattle.std.specs.List.{list_any}
use Rattle.std.proofs.lemmas.Bool.{eqb-true, eq-eqb, and_parts}
use Rattle.std.proofs.lemmas.Option.{slice_get_within}
use Rattle.std.specs.Cmp.Derive.{both_true as two}
use Rattle.flux_atom.specs.declared.atom.Atom.{Atom as Value}
use Rattle.flux_atom.specs.Atom.{kind_of}
use Rattle.flux_trees.specs.Hedge.{Plain, nil, elem, leaf}
use Rattle.flux_schema.specs.Ty.{Ty}
use Rattle.flux_schema.specs.Tidy.{same_kind}
use Rattle.flux_schema.specs.Definitions.{Definitions}
use Rattle.flux_schema.specs.Member.{Member}
use Rattle.flux_schema.proofs.SameLaws.{same_kind-eq, same_kind-same}
use Rattle.flux_auto.specs.declared.edge.Edge.{Edge}
use Rattle.flux_auto.specs.declared.edge.Edge.TheVariants.{Atom, Elem, AnyElem}
use Rattle.flux_auto.specs.declared.table.Row.{Row}
use Rattle.flux_auto.specs.declared.table.Table.{Table}
use Rattle.flux_auto.specs.Takes.{State, has, goes_by_element, goes_by_atom, profile, takes, EdgeBelow, EdgesBelow}
use Rattle.flux_auto.specs.Automaton.{KeepsStates, EdgesInside}
use Rattle.flux_auto.specs.Standing.{In, at, lists, Follows, FollowsAny, IsContent}
use Rattle.flux_auto.specs.Built.{Grows, IsClosed, IsComplete, state_of, states_of}
use Rattle.flux_auto.proofs.Lists.{alone-in, in-alone}
use Rattle.flux_auto.proofs.Tables.{at-grows}
use Rattle.flux_auto.proofs.Growing.{carried}
use Rattle.flux_auto.proofs.Reading.{content-list}
use Rattle.flux_atom.proofs.Plain.{same_tests}

pub got : {A : Type 0} (xs : List A) (s : ℕ) → s < length xs → (x : A) × (slice_get xs s ≡ Some x)
got [] s h = absurd (omega (arith, h))
got (x ∷ xs) zero h = (x, refl)
got (x ∷ xs) (suc s) h = got xs s (omega (arith, h))

pub get-map : {A B : Type 0} (f : A → B) (xs : List A) (i : ℕ) (x : A) → slice_get xs i ≡ Some x → slice_get (map f xs) i ≡ Some (f x)
get-map f [] i x e = cc
get-map f (y ∷ xs) zero x e = (let same : y ≡ x = cc in ap (λ z. Some (f z)) same)
get-map f (y ∷ xs) (suc i) x e = get-map f xs i x e

pub get_of-map : {A B : Type 0} (f : A → B) (xs : List A) (i : ℕ) (y : B) → slice_get (map f xs) i ≡ Some y → (x : A) × (slice_get xs i ≡ Some x) × (y ≡ f x)
get_of-map f [] i y e = cc
get_of-map f (x ∷ xs) zero y e = (x, refl, (let same : f x ≡ y = cc in sym same))
get_of-map f (x ∷ xs) (suc i) y e = get_of-map f xs i y e

pub length-map : {A B : Type 0} (f : A → B) (xs : List A) → length (map f xs) ≡ length xs
length-map f [] = refl
length-map f (x ∷ xs) = ap suc (length-map f xs)

pub has-map : (f : State → Bool) (rows : List Row) (s : ℕ) (r : Row) → slice_get rows s ≡ Some r → has (map f (map state_of rows)) s ≡ f (state_of r)
has-map f [] s r e = cc
has-map f (q ∷ rows) zero r e = (let same : q ≡ r = cc in ap (λ z. f (state_of z)) same)
has-map f (q ∷ rows) (suc s) r e = has-map f rows s r e

module _ (defs : Definitions) (ts : List (List Ty)) (n : ℕ) where
  -- what a profile tells of a forest
  abbrev pub Tells : List Bool → Plain → Type 0
  Tells p v = (s : ℕ) → s < n → (has p s ≡ true) ↔ In defs v (at ts s)

  by_element : (a : ℕ) (p q : List Bool) (c r : Plain) → Tells p c → Tells q r → (e : Edge) → EdgeBelow n e → (goes_by_element a p q e ≡ true) ↔ Follows defs ts e (elem tt a c r)
  by_element a p q c r t u (Atom k i) w = (λ e. cc, λ h. absurd h)
  by_element a p q c r t u (Elem l i j) w = (
    λ e. let x = and_parts _ _ e in let y = and_parts _ _ x.1 in (eqb-true l a x.0, (t i w.0).0 y.0, (u j w.1).0 y.1),
    λ h. two (eq-eqb l a h.0) (two ((t i w.0).1 h.1) ((u j w.1).1 h.2)),
  )
  by_element a p q c r t u (AnyElem i j) w = (
    λ e. let y = and_parts _ _ e in ((t i w.0).0 y.0, (u j w.1).0 y.1),
    λ h. two ((t i w.0).1 h.0) ((u j w.1).1 h.1),
  )

  by_atom : (x : Value) (q : List Bool) (r : Plain) → Tells q r → (e : Edge) → EdgeBelow n e → (goes_by_atom (kind_of x) q e ≡ true) ↔ Follows defs ts e (leaf tt x r)
  by_atom x q r u (Atom k i) w = (
    λ e. let y = and_parts _ _ e in (same_kind-eq k (kind_of x) y.0, (u i w).0 y.1),
    λ h. two (subst (λ y. same_kind k y ≡ true) h.0 (same_kind-same k)) ((u i w).1 h.1),
  )
  by_atom x q r u (Elem l i j) w = (λ e. cc, λ h. absurd h)
  by_atom x q r u (AnyElem i j) w = (λ e. cc, λ h. absurd h)

  -- one of the edges goes by the forest
  any_goes : (test : Edge → Bool) (z : Plain) → ((e : Edge) → EdgeBelow n e → (test e ≡ true) ↔ Follows defs ts e z) → (es : List Edge) → EdgesBelow n es → (list_any test es ≡ true) ↔ FollowsAny defs ts es z
  any_goes test z f [] w = (λ e. cc, λ h. absurd h)
  any_goes test z f (e ∷ es) w = any_by (test e) (list_any test es) (f e w.0) (any_goes test z f es w.1)
    where
      any_by : {A B : Type 0} (a b : Bool) → (a ≡ true) ↔ A → (b ≡ true) ↔ B → (a || b ≡ true) ↔ (A ⊎ B)
      any_by true b f g = (λ e. inl (f.0 refl), λ h. refl)
      any_by false b f g = (λ e. inr (g.0 e), λ h. elim h [ inl h ↦ (let x : false ≡ true = f.1 h in cc) | inr h ↦ g.1 h ])

module _ (defs : Definitions) (nullable : List Bool) (a : Table) (whole : IsComplete defs nullable a) where
  row_closed : (s : ℕ) → s < length a.cells.items → (r : Row) × (slice_get a.rows.items s ≡ Some r) × IsClosed defs a.cells.items s r
  row_closed s lt =
      let r = got a.rows.items s (omega (arith, lt, whole.ground.even)) in
      (r.0, r.1, whole.closed s r.0 lt r.1)

  -- what a state has of a forest that isn't empty
  tree_tells : (test : Edge → Bool) (z : Plain) → (z ≡ nil → ⊥) → ((e : Edge) → EdgeBelow (length a.cells.items) e → (test e ≡ true) ↔ Follows defs (lists a.cells.items) e z)
      → Tells defs (lists a.cells.items) (length a.cells.items) (map (λ s. list_any test s.edges) (states_of a)) z
  tree_tells test z full goes s lt =
      let r = row_closed s lt in
      let same = has-map (λ s. list_any test s.edges) a.rows.items s r.0 r.1 in
      let any = any_goes defs (lists a.cells.items) (length a.cells.items) test z goes r.0.edges.items r.2.below in
      (λ e. r.2.sound z (any.0 (sym same ∙ e)), λ h. same ∙ any.1 (r.2.complete z full h))

  -- the profile of a forest tells in which lists it is
  pub profile_tells : (v : Plain) → Tells defs (lists a.cells.items) (length a.cells.items) (profile (states_of a) v) v
  profile_tells nil s lt =
      let r = row_closed s lt in
      let same = has-map (λ s. s.ends) a.rows.items s r.0 r.1 in
      (λ e. r.2.ends.0 (sym same ∙ e), λ h. same ∙ r.2.ends.1 h)
  profile_tells (elem _ n c r) s lt =
      tree_tells (goes_by_element n (profile (states_of a) c) (profile (states_of a) r)) (elem tt n c r) (λ e. cc)
      (by_element defs (lists a.cells.items) (length a.cells.items) n (profile (states_of a) c) (profile (states_of a) r) c r (profile_tells c) (profile_tells r)) s lt
  profile_tells (leaf _ x r) s lt =
      tree_tells (goes_by_atom (kind_of x) (profile (states_of a) r)) (leaf tt x r) (λ e. cc)
      (by_atom defs (lists a.cells.items) (length a.cells.items) x (profile (states_of a) r) r (profile_tells r)) s lt

  -- the state of a type takes its members
  pub content_takes : (s : ℕ) (t : Ty) → IsContent a.cells.items s t → (v : Plain) → (takes (states_of a) s v ≡ true) ↔ Member defs v t
  content_takes s t k v =
      let tells = profile_tells v s (slice_get_within a.cells.items s k.cell k.is) in
      let list = content-list defs a.cells.items s t whole.ground.end k in
      (λ e. alone-in defs t v (subst (In defs v) list (tells.0 e)), λ m. tells.1 (subst (In defs v) (sym list) (in-alone defs t v m)))

  pub edges_inside : EdgesInside (states_of a)
  edges_inside s state e =
      let r = get_of-map state_of a.rows.items s state e in
      let lt : s < length a.cells.items = omega (arith, slice_get_within a.rows.items s r.0 r.1, whole.ground.even) in
      let size : length a.cells.items ≡ length (states_of a) = sym (length-map state_of a.rows.items ∙ whole.ground.even) in
      subst (λ n. EdgesBelow n state.edges) size (subst (λ (q : State). EdgesBelow (length a.cells.items) q.edges) (sym r.2) (whole.closed s r.0 lt r.1).below)

  pub content_within : (s : ℕ) (t : Ty) → IsContent a.cells.items s t → s < length (states_of a)
  content_within s t k = omega (arith, slice_get_within a.cells.items s k.cell k.is, whole.ground.even, length-map state_of a.rows.items)

get-map_as : {A B : Type 0} (f : A → B) (xs ys : List A) (s : ℕ) → slice_get ys s ≡ slice_get xs s → s < length xs → slice_get (map f ys) s ≡ slice_get (map f xs) s
get-map_as f xs ys s e lt = let x = got xs s lt in get-map f ys s x.0 (e ∙ x.1) ∙ sym (get-map f xs s x.0 x.1)

-- a table that grew
pub states_kept : (defs : Definitions) (nullable : List Bool) (a b : Table) → IsComplete defs nullable a → IsComplete defs nullable b → Grows (length a.rows.items) a b → KeepsStates (states_of a) (states_of b)
states_kept defs nullable a b x y g = record {
  states = λ s lt. get-map_as state_of a.rows.items b.rows.items s (g.rows s (omega (arith, lt, length-map state_of a.rows.items))) (omega (arith, lt, length-map state_of a.rows.items));
  taken = λ s v lt.
      let in_a : s < length a.cells.items = omega (arith, lt, length-map state_of a.rows.items, x.ground.even) in
      let in_b : s < length b.cells.items = omega (arith, in_a, ap length g.cells, length-append a.cells.items g.more) in
      let list : at (lists b.cells.items) s ≡ at (lists a.cells.items) s = carried (λ l. at (lists l) s ≡ at (lists a.cells.items) s) (length a.rows.items) a b g (λ more. at-grows a.cells.items more s in_a) in
      let t = profile_tells defs nullable a x v s in_a in
      let u = profile_tells defs nullable b y v s in_b in
      same_tests (takes (states_of b) s v) (takes (states_of a) s v) (λ e. t.1 (subst (In defs v) list (u.0 e))) (λ e. u.1 (subst (In defs v) (sym list) (t.0 e)));
}
