-- Forests against goals.
use Rattle.std.proofs.Common.{◌≡◌, ℕ, List, Bool, true, false, refl, sym, subst, ◌∙◌, inl, inr}
use Rattle.flux_atom.specs.declared.atom.AtomKind.{AtomKind}
use Rattle.flux_trees.specs.Hedge.{Plain, elem, leaf}
use Rattle.flux_auto.specs.declared.edge.Edge.{Edge}
use Rattle.flux_auto.specs.declared.edge.Edge.TheVariants.{Atom, Elem, AnyElem}
use Rattle.flux_auto.specs.Takes.{State, takes}
use Rattle.flux_goals.specs.declared.goal.Way.{Way}
use Rattle.flux_auto.specs.Going.{HasEdge, HasElement}
use Rattle.flux_auto.specs.Witness.{sample}
use Rattle.flux_auto.proofs.Recipes.{kind_of-sample}
use Rattle.flux_goals.specs.Goals.{Shows, ByElement, AreRests, AreWays, Parts}
use Rattle.flux_auto.proofs.GoingLaws.{takes_goes, goes_takes}

pub not_taken : (a : List State) (s : ℕ) (v : Plain) → (takes a s v ≡ true → ⊥) → takes a s v ≡ false
not_taken a s v f = by (takes a s v) refl
  where
    by : (b : Bool) → takes a s v ≡ b → takes a s v ≡ false
    by true e = absurd (f e)
    by false e = e

pub both_values : (b : Bool) → b ≡ true → b ≡ false → ⊥
both_values b e f = let x : true ≡ false = sym e ∙ f in cc

pub element_edge : (a : List State) (t n : ℕ) (w : Way) → HasElement a t n w.content w.rest → (e : Edge) × HasEdge a t e × ByElement n e w
element_edge a t n w (inl h) = (Elem n w.content w.rest, h, inl refl)
element_edge a t n w (inr h) = (AnyElem w.content w.rest, h, inr refl)

pub edge_element : (a : List State) (t n : ℕ) (w : Way) (e : Edge) → HasEdge a t e → ByElement n e w → HasElement a t n w.content w.rest
edge_element a t n w e h (inl is) = inl (subst (HasEdge a t) is h)
edge_element a t n w e h (inr is) = inr (subst (HasEdge a t) is h)

pub shows_leaf : (a : List State) (s : ℕ) (S R : List ℕ) (k : AtomKind) (r : ℕ) (w : Plain) → HasEdge a s (Atom k r) → AreRests a k S R → Shows a r R w → Shows a s S (leaf tt (sample k) w)
shows_leaf a s S R k r w edge are is = record {
  taken = goes_takes a s (leaf tt (sample k) w) r (subst (λ x. HasEdge a s (Atom x r)) (sym (kind_of-sample k)) edge) is.taken;
  none = λ t h. not_taken a t (leaf tt (sample k) w) (λ e.
      let g = takes_goes a t (leaf tt (sample k) w) (λ e. cc) e in
      both_values (takes a g.0 w) g.2 (is.none g.0 ((are g.0).1 (t, h, Atom k g.0, subst (λ x. HasEdge a t (Atom x g.0)) (kind_of-sample k) g.1, refl))));
}

pub shows_elem : (a : List State) (s : ℕ) (S : List ℕ) (n c r : ℕ) (ways : List Way) (I J : List ℕ) (v w : Plain) → HasElement a s n c r → AreWays a n S ways → Parts ways I J → Shows a c I v → Shows a r J w
    → Shows a s S (elem tt n v w)
shows_elem a s S n c r ways I J v w edge are parts inner after = record {
  taken = goes_takes a s (elem tt n v w) r (c, edge, inner.taken) after.taken;
  none = λ t h. not_taken a t (elem tt n v w) (λ e.
      let g = takes_goes a t (elem tt n v w) (λ e. cc) e in
      let way : Way = record { content = g.1.0; rest = g.0 } in
      let d = element_edge a t n way g.1.1 in
      let x = (are way).1 (t, h, d.0, d.1, d.2) in
      elim (parts way x) [
        | inl i ↦ both_values (takes a g.1.0 v) g.1.2 (inner.none g.1.0 i)
        | inr j ↦ both_values (takes a g.0 w) g.2 (after.none g.0 j)
      ]);
}
