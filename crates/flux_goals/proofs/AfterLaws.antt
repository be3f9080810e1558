-- How states go on, read edge by edge.
use Rattle.std.proofs.Common.{◌≡◌, ◌⊎◌, ◌↔◌, ℕ, zero, suc, ◌+◌, ◌<◌, ◌≤◌, List, [], ◌∷◌, ◌++◌, length, take, drop, true, false, Bool, Some, slice_get, slice_index_or, refl, sym, ap, ap₂, subst, ◌∙◌, inl, inr, arith}
use Rattle.std.specs.Option.{option_map}
use Rattle.std.proofs.lemmas.Option.{slice_get_within}
use Rattle.flux_trees.specs.Hedge.{nil}
use denote.Enum.Bare.{sameb}
use Rattle.flux_atom.specs.contracts.atom.AtomKind.{the_type}
use Rattle.flux_atom.specs.declared.atom.AtomKind.{AtomKind}
use Rattle.flux_atom.specs.declared.atom.AtomKind.TheVariants as kind
use Rattle.flux_auto.specs.declared.edge.Edge.{Edge}
use Rattle.flux_auto.specs.declared.edge.Edge.TheVariants.{Atom, Elem, AnyElem}
use Rattle.flux_auto.specs.Takes.{State, takes, EdgeBelow, EdgesBelow}
use Rattle.flux_auto.specs.Automaton.{EdgesInside}
use Rattle.flux_goals.specs.declared.goal.Way.{Way}
use Rattle.flux_auto.specs.Going.{Has, HasEdge, HasElement}
use Rattle.flux_goals.specs.Goals.{NoneTakes, AllBelow, ByAtom, ByElement, AreBy, AreRests, AreWays}
use Rattle.flux_goals.specs.Table.{AddsBy, AddsEdge, AddsState, AreInside}
use Rattle.flux_goals.proofs.GoalLaws.{edge_element}
use Rattle.flux_auto.proofs.Items.{some_is, below_or_at, has-none, has-push, has-append, has-last}

-- the number that was read
pub read_at : (xs : List ℕ) (i d : ℕ) → i < length xs → slice_get xs i ≡ Some (slice_index_or xs i d)
read_at [] i d h = absurd (omega (arith, h))
read_at (x ∷ xs) zero d h = refl
read_at (x ∷ xs) (suc i) d h = read_at xs i d (omega (arith, h))

-- ---- states inside

one_below : (n : ℕ) (es : List Edge) (k : ℕ) (e : Edge) → EdgesBelow n es → slice_get es k ≡ Some e → EdgeBelow n e
one_below n [] k e h is = cc
one_below n (d ∷ es) zero e h is = subst (EdgeBelow n) (some_is d e is) h.0
one_below n (d ∷ es) (suc k) e h is = one_below n es k e h.1 is

pub edge_below : (a : List State) (s : ℕ) (e : Edge) → EdgesInside a → HasEdge a s e → EdgeBelow (length a) e
edge_below a s e inside (st, at, (k, is)) = one_below (length a) st.edges k e (inside s st at) is

pub element_below : (a : List State) (s n c r : ℕ) → EdgesInside a → HasElement a s n c r → (c < length a) × (r < length a)
element_below a s n c r inside (inl h) = edge_below a s (Elem n c r) inside h
element_below a s n c r inside (inr h) = edge_below a s (AnyElem c r) inside h

pub rests_below : (a : List State) (k : AtomKind) (S R : List ℕ) → EdgesInside a → AreRests a k S R → AllBelow (length a) R
rests_below a k S R inside are q h = let o = (are q).0 h in edge_below a o.0 (Atom k q) inside (subst (HasEdge a o.0) o.4 o.3)

pub ways_below : (a : List State) (n : ℕ) (S : List ℕ) (ways : List Way) → EdgesInside a → AreWays a n S ways → AreInside (length a) ways
ways_below a n S ways inside are w h = let o = (are w).0 h in element_below a o.0 n w.content w.rest inside (edge_element a o.0 n w o.2 o.3 o.4)

-- ---- sets

has-front : (xs : List ℕ) (x : ℕ) → AddsState xs (x ∷ xs) x
has-front xs x t = ((λ h. by h.0 h.1), (λ h. elim h [ inl p ↦ (suc p.0, p.1) | inr e ↦ (0, ap Some (sym e)) ]))
  where
    by : (k : ℕ) → slice_get (x ∷ xs) k ≡ Some t → Has xs t ⊎ (t ≡ x)
    by zero e = inr (some_is t x (sym e))
    by (suc k) e = inl (k, e)

has-behind : (y : ℕ) (old new : List ℕ) (x : ℕ) → AddsState old new x → AddsState (y ∷ old) (y ∷ new) x
has-behind y old new x adds t = ((λ h. by h.0 h.1), (λ h. elim h [ inl p ↦ up p.0 p.1 | inr e ↦ (let p = (adds t).1 (inr e) in (suc p.0, p.1)) ]))
  where
    by : (k : ℕ) → slice_get (y ∷ new) k ≡ Some t → Has (y ∷ old) t ⊎ (t ≡ x)
    by zero e = inl (0, e)
    by (suc k) e = elim ((adds t).0 (k, e)) [ inl p ↦ inl (suc p.0, p.1) | inr f ↦ inr f ]

    up : (k : ℕ) → slice_get (y ∷ old) k ≡ Some t → Has (y ∷ new) t
    up zero e = (0, e)
    up (suc k) e = let p = (adds t).1 (inl (k, e)) in (suc p.0, p.1)

pub has_insert : (xs : List ℕ) (i x : ℕ) → AddsState xs (take i xs ++ x ∷ drop i xs) x
has_insert xs zero x = has-front xs x
has_insert [] (suc i) x = has-front [] x
has_insert (y ∷ xs) (suc i) x = has-behind y xs (take i xs ++ x ∷ drop i xs) x (has_insert xs i x)

pub already : (xs : List ℕ) (x : ℕ) → Has xs x → AddsState xs xs x
already xs x h t = ((λ p. inl p), (λ p. elim p [ inl q ↦ q | inr e ↦ subst (Has xs) (sym e) h ]))

-- ---- edges

pub edge_none : {X : Type 0} (P : Edge → X → Type 0) (e : Edge) (xs : List X) → ((q : X) → P e q → ⊥) → AddsEdge P e xs xs
edge_none P e xs never q = ((λ h. inl h), (λ h. elim h [ inl p ↦ p | inr x ↦ absurd (never q x) ]))

pub kind_same : (j k : AtomKind) → sameb the_type j k ≡ true → j ≡ k
kind_same kind.Bool kind.Bool e = refl
kind_same kind.Bool kind.Text e = cc
kind_same kind.Bool kind.Int e = cc
kind_same kind.Text kind.Bool e = cc
kind_same kind.Text kind.Text e = refl
kind_same kind.Text kind.Int e = cc
kind_same kind.Int kind.Bool e = cc
kind_same kind.Int kind.Text e = cc
kind_same kind.Int kind.Int e = refl

pub rest_one : (k j : AtomKind) (e : Edge) (r : ℕ) (old new : List ℕ) → e ≡ Atom j r → j ≡ k → AddsState old new r → AddsEdge (ByAtom k) e old new
rest_one k j e r old new is same adds q = (
  (λ h. elim ((adds q).0 h) [ inl o ↦ inl o | inr x ↦ inr (is ∙ ap (λ i. Atom i r) same ∙ ap (Atom k) (sym x)) ]),
  (λ h. (adds q).1 (elim h [ inl o ↦ inl o | inr x ↦ inr (let y : Atom j r ≡ Atom k q = sym is ∙ x in cc) ])),
)

-- one way is pushed, which is the edge's alone
pub way_one : (n : ℕ) (e : Edge) (w : Way) (old new : List Way) → ByElement n e w → ((x : Way) → ByElement n e x → w ≡ x) → new ≡ old ++ w ∷ [] → AddsEdge (ByElement n) e old new
way_one n e w old new is only grown q = (
  (λ h. elim (has-push old w q (subst (λ l. Has l q) grown h)) [ inl o ↦ inl o | inr x ↦ inr (subst (ByElement n e) x is) ]),
  (λ h. subst (λ l. Has l q) (sym grown) (elim h [ inl o ↦ has-append old (w ∷ []) q o | inr x ↦ subst (Has (old ++ w ∷ [])) (only q x) (has-last old w) ])),
)

abbrev pub way : ℕ → ℕ → Way
way c r = record { content = c; rest = r }

pub elem_only : (n m c r : ℕ) (e : Edge) (x : Way) → e ≡ Elem m c r → ByElement n e x → way c r ≡ x
elem_only n m c r e x is (inl h) = let y : Elem m c r ≡ Elem n x.content x.rest = sym is ∙ h in
    let f : c ≡ x.content = cc in
    let g : r ≡ x.rest = cc in
    ap₂ way f g
elem_only n m c r e x is (inr h) = absurd (let y : Elem m c r ≡ AnyElem x.content x.rest = sym is ∙ h in cc)

pub any_only : (n c r : ℕ) (e : Edge) (x : Way) → e ≡ AnyElem c r → ByElement n e x → way c r ≡ x
any_only n c r e x is (inl h) = absurd (let y : AnyElem c r ≡ Elem n x.content x.rest = sym is ∙ h in cc)
any_only n c r e x is (inr h) = let y : AnyElem c r ≡ AnyElem x.content x.rest = sym is ∙ h in
    let f : c ≡ x.content = cc in
    let g : r ≡ x.rest = cc in
    ap₂ way f g

pub adds_none : {X : Type 0} (P : Edge → X → Type 0) (es : List Edge) (xs : List X) → AddsBy P es 0 xs xs
adds_none P es xs q = ((λ h. inl h), (λ h. elim h [ inl p ↦ p | inr x ↦ absurd (let l = x.1 in omega (arith, l)) ]))

pub adds_more : {X : Type 0} (P : Edge → X → Type 0) (es : List Edge) (n : ℕ) (e : Edge) (old mid new : List X) → AddsBy P es n old mid → slice_get es n ≡ Some e → AddsEdge P e mid new → AddsBy P es (n + 1) old new
adds_more P es n e old mid new before is one q = (
  (λ h. elim ((one q).0 h) [
    | inl m ↦ (elim ((before q).0 m) [ inl o ↦ inl o | inr x ↦ inr (x.0, (let l = x.1 in omega (arith, l)), x.2, x.3, x.4) ])
    | inr y ↦ inr (n, omega arith, e, is, y)
  ]),
  (λ h. (one q).1 (elim h [
    | inl o ↦ inl ((before q).1 (inl o))
    | inr x ↦ (elim (below_or_at x.0 n x.1) [
      | inl lt ↦ inl ((before q).1 (inr (x.0, lt, x.2, x.3, x.4)))
      | inr same ↦ inr (subst (λ d. P d q) (some_is x.2 e (sym x.3 ∙ ap (slice_get es) same ∙ is)) x.4)
    ])
  ])),
)

-- ---- states

-- of the first n states
abbrev pub AreByBelow : {X : Type 0} → (Edge → X → Type 0) → List State → List ℕ → ℕ → List X → Type 0
AreByBelow {X} P a S n R = (q : X) → Has R q ↔ ((i : ℕ) × (t : ℕ) × (i < n) × (slice_get S i ≡ Some t) × (e : Edge) × HasEdge a t e × P e q)

pub by_none : {X : Type 0} (P : Edge → X → Type 0) (a : List State) (S : List ℕ) (R : List X) → R ≡ [] → AreByBelow P a S 0 R
by_none P a S R e q = ((λ h. absurd (has-none R q e h)), (λ h. absurd (let l = h.2 in omega (arith, l))))

pub edges_at : (a : List State) (t : ℕ) (es : List Edge) → option_map (λ (s : State). s.edges) (slice_get a t) ≡ Some es → (st : State) × (slice_get a t ≡ Some st) × (st.edges ≡ es)
edges_at [] t es e = cc
edges_at (st ∷ a) zero es e = (st, refl, some_is st.edges es e)
edges_at (st ∷ a) (suc t) es e = edges_at a t es e

pub edge_has : (a : List State) (t : ℕ) (es : List Edge) (e : Edge) → option_map (λ (s : State). s.edges) (slice_get a t) ≡ Some es → HasEdge a t e ↔ Has es e
edge_has a t es e is =
    let st = edges_at a t es is in (
      (λ h. subst (λ l. Has l e) (ap (λ (s : State). s.edges) (some_is h.0 st.0 (sym h.1 ∙ st.1)) ∙ st.2) h.2),
      (λ h. (st.0, st.1, subst (λ l. Has l e) (sym st.2) h)),
    )

pub by_more : {X : Type 0} (P : Edge → X → Type 0) (a : List State) (S : List ℕ) (n t : ℕ) (es : List Edge) (old new : List X) → AreByBelow P a S n old → slice_get S n ≡ Some t
    → option_map (λ (s : State). s.edges) (slice_get a t) ≡ Some es → AddsBy P es (length es) old new → AreByBelow P a S (n + 1) new
by_more P a S n t es old new before is edges adds q = (
  (λ h. elim ((adds q).0 h) [
    | inl o ↦ (let x = (before q).0 o in (x.0, x.1, (let l = x.2 in omega (arith, l)), x.3, x.4, x.5, x.6))
    | inr y ↦ (n, t, omega arith, is, y.2, (edge_has a t es y.2 edges).1 (y.0, y.3), y.4)
  ]),
  (λ h. (adds q).1 (elim (below_or_at h.0 n h.2) [
    | inl lt ↦ inl ((before q).1 (h.0, h.1, lt, h.3, h.4, h.5, h.6))
    | inr same ↦
        let t_is : h.1 ≡ t = some_is h.1 t (sym h.3 ∙ ap (slice_get S) same ∙ is) in
        let k = (edge_has a t es h.4 edges).0 (subst (λ u. HasEdge a u h.4) t_is h.5) in
        inr (k.0, slice_get_within es k.0 h.4 k.1, h.4, k.1, h.6)
  ])),
)

pub by_all : {X : Type 0} (P : Edge → X → Type 0) (a : List State) (S : List ℕ) (n : ℕ) (R : List X) → length S ≤ n → AreByBelow P a S n R → AreBy P a S R
by_all P a S n R le below q = (
  (λ h. let x = (below q).0 h in (x.1, (x.0, x.3), x.4, x.5, x.6)),
  (λ h. (below q).1 (h.1.0, h.0, (let l = slice_get_within S h.1.0 h.0 h.1.1 in omega (arith, l, le)), h.1.1, h.2, h.3, h.4)),
)

-- ---- ends

takes_end : (a : List State) (k : ℕ) (b : Bool) → option_map (λ (st : State). st.ends) (slice_get a k) ≡ Some b → takes a k nil ≡ b
takes_end [] k b e = cc
takes_end (st ∷ a) zero b e = some_is st.ends b e
takes_end (st ∷ a) (suc k) b e = takes_end a k b e

pub end_is : (a : List State) (k : ℕ) (b c : Bool) → option_map (λ (st : State). st.ends) (slice_get a k) ≡ Some b → b ≡ c → takes a k nil ≡ c
end_is a k b c e f = takes_end a k b e ∙ f

pub ends_more : (a : List State) (S : List ℕ) (n u : ℕ) → ((k t : ℕ) → k < n → slice_get S k ≡ Some t → takes a t nil ≡ false) → slice_get S n ≡ Some u → takes a u nil ≡ false → (k t : ℕ) → k < n + 1 → slice_get S k ≡ Some t → takes a t nil ≡ false
ends_more a S n u before is off k t lt e = elim (below_or_at k n lt) [
  | inl below ↦ before k t below e
  | inr same ↦ subst (λ x. takes a x nil ≡ false) (some_is u t (sym is ∙ ap (slice_get S) (sym same) ∙ e)) off
]

pub ends_all : (a : List State) (S : List ℕ) (n : ℕ) → ((k t : ℕ) → k < n → slice_get S k ≡ Some t → takes a t nil ≡ false) → length S ≤ n → NoneTakes a S nil
ends_all a S n before le t h = before h.0 t (let l = slice_get_within S h.0 t h.1 in omega (arith, l, le)) h.1
