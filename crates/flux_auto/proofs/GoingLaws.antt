-- A state takes a forest that isn't empty exactly where it goes by the first tree to a state that
-- takes the others.
use Rattle.std.proofs.Common.{◌≡◌, ◌⊎◌, ℕ, zero, suc, ◌||◌, ◌==◌, List, [], ◌∷◌, map, Bool, true, false, Some, slice_get, refl, sym, ap, subst, ◌∙◌, inl, inr}
use Rattle.std.proofs.lemmas.Bool.{and_parts}
use Rattle.std.specs.List.{list_any}
use Rattle.std.proofs.lemmas.Bool.Decides.{eqb_tells}
use Rattle.std.proofs.lemmas.Map.Keys.{any_passes_from_place}
use Rattle.std.specs.Cmp.Derive.{both_true as two}
use Rattle.flux_atom.specs.declared.atom.AtomKind.{AtomKind}
use Rattle.flux_atom.specs.Atom.{kind_of}
use Rattle.flux_trees.specs.Hedge.{Plain, nil, elem, leaf, others}
use Rattle.flux_schema.specs.Tidy.{same_kind}
use Rattle.flux_schema.proofs.SameLaws.{same_kind-eq, same_kind-same}
use Rattle.flux_auto.specs.declared.edge.Edge.{Edge}
use Rattle.flux_auto.specs.declared.edge.Edge.TheVariants.{Atom, Elem, AnyElem}
use Rattle.flux_auto.specs.Takes.{State, has, goes_by_element, goes_by_atom, takes}
use Rattle.flux_auto.specs.Going.{Has, HasElement, Goes}

has_map : (f : State → Bool) (a : List State) (s : ℕ) → has (map f a) s ≡ true → (st : State) × (slice_get a s ≡ Some st) × (f st ≡ true)
has_map f [] s e = cc
has_map f (st ∷ a) zero e = (st, refl, e)
has_map f (st ∷ a) (suc s) e = has_map f a s e

map_has : (f : State → Bool) (a : List State) (s : ℕ) (st : State) → slice_get a s ≡ Some st → f st ≡ true → has (map f a) s ≡ true
map_has f [] s st e h = cc
map_has f (x ∷ a) zero st e h = (let same : x ≡ st = cc in ap f same ∙ h)
map_has f (x ∷ a) (suc s) st e h = map_has f a s st e h

-- an item that passes the test
pub any_is : {X : Type 0} (f : X → Bool) (xs : List X) → list_any f xs ≡ true → (x : X) × Has xs x × (f x ≡ true)
any_is f [] h = cc
any_is {X} f (y ∷ xs) h = by (f y) refl h (any_is f xs)
  where
    by : (b : Bool) → f y ≡ b → b || list_any f xs ≡ true → (list_any f xs ≡ true → (x : X) × Has xs x × (f x ≡ true)) → (x : X) × Has (y ∷ xs) x × (f x ≡ true)
    by true is g rest = (y, (0, refl), is)
    by false is g rest = let r = rest g in (r.0, (suc r.1.0, r.1.1), r.2)

pub any_of : {X : Type 0} (f : X → Bool) (xs : List X) (x : X) → Has xs x → f x ≡ true → list_any f xs ≡ true
any_of f xs x (k, at) h = any_passes_from_place f xs k x at h

pub equal : (m n : ℕ) → (m == n) ≡ true → m ≡ n
equal m n e = elim (eqb_tells m n) [ inl h ↦ h.1 | inr h ↦ absurd (let x : true ≡ false = sym e ∙ h.0 in cc) ]

equal_is : (n : ℕ) → (n == n) ≡ true
equal_is n = elim (eqb_tells n n) [ inl h ↦ h.0 | inr h ↦ absurd (h.1 refl) ]

pub by_element : (n : ℕ) (p q : List Bool) (e : Edge) → goes_by_element n p q e ≡ true → (c : ℕ) × (r : ℕ) × ((e ≡ Elem n c r) ⊎ (e ≡ AnyElem c r)) × (has p c ≡ true) × (has q r ≡ true)
by_element n p q (Atom k r) h = cc
by_element n p q (Elem m c r) h =
    let a = and_parts (m == n) _ h in
    let b = and_parts (has p c) (has q r) a.1 in
    (c, r, inl (ap (λ x. Elem x c r) (equal m n a.0)), b.0, b.1)
by_element n p q (AnyElem c r) h =
    let b = and_parts (has p c) (has q r) h in
    (c, r, inr refl, b.0, b.1)

pub element_by : (n : ℕ) (p q : List Bool) (c r : ℕ) → has p c ≡ true → has q r ≡ true → goes_by_element n p q (Elem n c r) ≡ true
element_by n p q c r h g = two (equal_is n) (two h g)

pub by_atom : (k : AtomKind) (q : List Bool) (e : Edge) → goes_by_atom k q e ≡ true → (r : ℕ) × (e ≡ Atom k r) × (has q r ≡ true)
by_atom k q (Atom j r) h =
    let a = and_parts (same_kind j k) (has q r) h in
    (r, ap (λ x. Atom x r) (same_kind-eq j k a.0), a.1)
by_atom k q (Elem m c r) h = cc
by_atom k q (AnyElem c r) h = cc

pub atom_by : (k : AtomKind) (q : List Bool) (r : ℕ) → has q r ≡ true → goes_by_atom k q (Atom k r) ≡ true
atom_by k q r h = two (same_kind-same k) h

-- ----

pub takes_goes : (a : List State) (s : ℕ) (v : Plain) → (v ≡ nil → ⊥) → takes a s v ≡ true → (r : ℕ) × Goes a s v r × (takes a r (others v) ≡ true)
takes_goes a s nil ne h = absurd (ne refl)
takes_goes a s (elem _ n c w) ne h =
    let p = has_map _ a s h in
    let q = any_is _ p.0.edges p.2 in
    let m = by_element n _ _ q.0 q.2 in
    (m.1, (m.0, there p.0 p.1 q.0 q.1 m.0 m.1 m.2, m.3), m.4)
  where
    there : (st : State) → slice_get a s ≡ Some st → (e : Edge) → Has st.edges e → (d r : ℕ) → (e ≡ Elem n d r) ⊎ (e ≡ AnyElem d r) → HasElement a s n d r
    there st at e here d r (inl is) = inl (st, at, subst (Has st.edges) is here)
    there st at e here d r (inr is) = inr (st, at, subst (Has st.edges) is here)
takes_goes a s (leaf _ x w) ne h =
    let p = has_map _ a s h in
    let q = any_is _ p.0.edges p.2 in
    let m = by_atom (kind_of x) _ q.0 q.2 in
    (m.0, (p.0, p.1, subst (Has p.0.edges) m.1 q.1), m.2)

pub goes_takes : (a : List State) (s : ℕ) (v : Plain) (r : ℕ) → Goes a s v r → takes a r (others v) ≡ true → takes a s v ≡ true
goes_takes a s nil r g h = absurd g
goes_takes a s (elem _ n c w) r (d, inl (st, at, (k, is)), t) h = map_has _ a s st at (any_passes_from_place _ st.edges k (Elem n d r) is (element_by n _ _ d r t h))
goes_takes a s (elem _ n c w) r (d, inr (st, at, (k, is)), t) h = map_has _ a s st at (any_passes_from_place _ st.edges k (AnyElem d r) is (two t h))
goes_takes a s (leaf _ x w) r (st, at, (k, is)) h = map_has _ a s st at (any_passes_from_place _ st.edges k (Atom (kind_of x) r) is (atom_by (kind_of x) _ r h))
