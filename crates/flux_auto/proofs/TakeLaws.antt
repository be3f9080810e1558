-- The states take what the law of the profiles says.
use Rattle.std.proofs.Common.{◌≡◌, ℕ, zero, suc, ◌⊎◌, ◌↔◌, List, [], ◌∷◌, Bool, true, false, ◌||◌, Some, slice_get, map, refl, sym, ap, ◌∙◌, inl, inr}
use Rattle.std.specs.List.{list_any}
use Rattle.std.proofs.lemmas.Bool.{eqb-true, eq-eqb, and_parts}
use Rattle.std.specs.Cmp.Derive.{both_true as two}
use Rattle.flux_atom.specs.declared.atom.AtomKind.{AtomKind}
use Rattle.flux_atom.specs.Atom.{kind_of}
use Rattle.flux_trees.specs.Hedge.{Plain}
use Rattle.flux_schema.specs.Tidy.{same_kind}
use Rattle.flux_schema.proofs.SameLaws.{same_kind-eq, same_kind-same}
use Rattle.flux_auto.specs.declared.edge.Edge.{Edge}
use Rattle.flux_auto.specs.declared.edge.Edge.TheVariants.{Atom, Elem, AnyElem}
use Rattle.flux_auto.specs.Takes.{State, has, goes_by_element, goes_by_atom, profile}
use Rattle.flux_auto.specs.TakesLaw.{SomeEdge, GoesByElement, GoesByAtom, TakesByEdges}

has_state : (f : State → Bool) (states : List State) (s : ℕ) (state : State) → slice_get states s ≡ Some state → has (map f states) s ≡ f state
has_state f [] s state e = cc
has_state f (q ∷ states) zero state e = (let same : q ≡ state = cc in ap f same)
has_state f (q ∷ states) (suc s) state e = has_state f states s state e

any_by : {A B : Type 0} (a b : Bool) → (a ≡ true) ↔ A → (b ≡ true) ↔ B → (a || b ≡ true) ↔ (A ⊎ B)
any_by true b f g = (λ e. inl (f.0 refl), λ h. refl)
any_by false b f g = (λ e. inr (g.0 e), λ h. elim h [ inl h ↦ (let x : false ≡ true = f.1 h in cc) | inr h ↦ g.1 h ])

some_edge : (test : Edge → Bool) (P : Edge → Type 0) → ((e : Edge) → (test e ≡ true) ↔ P e) → (es : List Edge) → (list_any test es ≡ true) ↔ SomeEdge P es
some_edge test P f [] = (λ e. cc, λ h. absurd h)
some_edge test P f (e ∷ es) = any_by (test e) (list_any test es) (f e) (some_edge test P f es)

state_goes : (states : List State) (s : ℕ) (state : State) (test : Edge → Bool) (P : Edge → Type 0) → slice_get states s ≡ Some state → ((e : Edge) → (test e ≡ true) ↔ P e) → (has (map (λ q. list_any test q.edges) states) s ≡ true) ↔ SomeEdge P state.edges
state_goes states s state test P e f =
    let same = has_state (λ q. list_any test q.edges) states s state e in
    let some = some_edge test P f state.edges in
    (λ h. some.0 (sym same ∙ h), λ h. same ∙ some.1 h)

by_element : (states : List State) (n : ℕ) (c r : Plain) (e : Edge) → (goes_by_element n (profile states c) (profile states r) e ≡ true) ↔ GoesByElement states n c r e
by_element states n c r (Atom k q) = (λ e. cc, λ h. absurd h)
by_element states n c r (Elem m i q) = (
  λ e. let x = and_parts _ _ e in let y = and_parts _ _ x.1 in (eqb-true m n x.0, y.0, y.1),
  λ h. two (eq-eqb m n h.0) (two h.1 h.2),
)
by_element states n c r (AnyElem i q) = (λ e. let y = and_parts _ _ e in (y.0, y.1), λ h. two h.0 h.1)

by_atom : (states : List State) (k : AtomKind) (r : Plain) (e : Edge) → (goes_by_atom k (profile states r) e ≡ true) ↔ GoesByAtom states k r e
by_atom states k r (Atom j q) = (
  λ e. let x = and_parts _ _ e in (same_kind-eq j k x.0, x.1),
  λ h. two (ap (same_kind j) (sym h.0) ∙ same_kind-same j) h.1,
)
by_atom states k r (Elem m i q) = (λ e. cc, λ h. absurd h)
by_atom states k r (AnyElem i q) = (λ e. cc, λ h. absurd h)

pub takes_by_edges : (states : List State) → TakesByEdges states
takes_by_edges states = record {
  nothing = λ s state e. let same = has_state (λ q. q.ends) states s state e in (λ h. sym same ∙ h, λ h. same ∙ h);
  element = λ s state n c r e. state_goes states s state (goes_by_element n (profile states c) (profile states r)) (GoesByElement states n c r) e (by_element states n c r);
  atom = λ s state x r e. state_goes states s state (goes_by_atom (kind_of x) (profile states r)) (GoesByAtom states (kind_of x) r) e (by_atom states (kind_of x) r);
}
