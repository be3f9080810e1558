-- The index of the edges, and the profiles that it gives.
use Rattle.std.proofs.Common.{◌≡◌, ◌⊎◌, ◌↔◌, ℕ, zero, suc, ◌+◌, ◌-◌, ◌<◌, ◌≤◌, List, [], ◌∷◌, ◌++◌, Bool, true, false, ◌||◌, ◌&&◌, ◌==◌, if◌then◌else◌, length, take, get_or, replicate, map, Some, slice_get, refl, sym, ap, ap₂, subst, ◌∙◌, arith, append_assoc, inl, inr, Vec}
use Rattle.std.proofs.Math.Bool.{or-false, and-false}
use Rattle.std.proofs.Math.ListN.{set}
use Rattle.std.specs.List.{list_any}
use Rattle.std.specs.Cmp.{both_ways}
use Rattle.std.specs.Cmp.Derive.{both_true as two}
use Rattle.std.proofs.lemmas.Bool.{and_parts}
use Rattle.std.proofs.lemmas.Bool.Decides.{eqb_tells}
use Rattle.std.proofs.lemmas.List.{append-nil, map_push, take_more, set_at, ext_get_or, get_or-map}
use Rattle.std.proofs.lemmas.List.Folds.{list_any_more}
use Rattle.std.proofs.lemmas.Option.{slice_get-get_or, slice_get_within}
use Rattle.std.specs.declared.alloc.Global.{Global}
use Rattle.flux_atom.proofs.Plain.{same_or_not}
use Rattle.flux_atom.specs.declared.atom.AtomKind.{AtomKind}
use Rattle.flux_atom.specs.declared.atom.AtomKind.TheVariants as kind
use Rattle.flux_auto.specs.declared.edge.Edge.{Edge}
use Rattle.flux_auto.specs.declared.edge.Edge.TheVariants.{Atom, Elem, AnyElem}
use Rattle.flux_auto.specs.declared.block.Block.{Block}
use Rattle.flux_auto.specs.declared.arcs.Arc.{Arc}
use Rattle.flux_auto.specs.declared.arcs.Leap.{Leap}
use Rattle.flux_auto.specs.declared.arcs.Arcs.{Arcs}
use Rattle.flux_auto.specs.Takes.{State, has, goes_by_element, goes_by_atom, profile_nil, profile_element, profile_atom}
use Rattle.flux_auto.specs.Set.{told, in_block}
use Rattle.flux_auto.specs.Going.{Has, HasEdge}
use Rattle.flux_auto.specs.Arcs.{IsArc, IsLeap, HasArc, HasLeap, ArcMore, LeapMore, arcs_at, leaps_at, Lists, AreListed, Leaves, Adds, IsIndex, leaps_along, leaps_by, mark_by_leap, fires, fired}
use Rattle.flux_auto.specs.Witness.{IsEdgeLabel}
use Rattle.flux_auto.proofs.Items.{some_is, get-append, get-end, get-set_here, get-set_other, get-push, has-append, has-right, has-split, has-last, has-push, has-nil}
use Rattle.flux_auto.proofs.Meaning.{length-map}
use Rattle.flux_auto.proofs.SetLaws.{length-told, has-told, told_same, with_block-told}
use Rattle.flux_auto.proofs.GoingLaws.{any_is, any_of, by_element, element_by, by_atom, atom_by}

-- ---- places

pub arcs_at_here : (vs : List (Vec Arc Global)) (n : ℕ) (d : Vec Arc Global) → n < length vs → arcs_at vs n ≡ (get_or vs n d).items
arcs_at_here [] n d lt = absurd (omega (arith, lt))
arcs_at_here (v ∷ vs) zero d lt = refl
arcs_at_here (v ∷ vs) (suc n) d lt = arcs_at_here vs n d (omega (arith, lt))

pub arcs_at_end : (vs : List (Vec Arc Global)) (n : ℕ) → length vs ≤ n → arcs_at vs n ≡ []
arcs_at_end [] n le = refl
arcs_at_end (v ∷ vs) zero le = absurd (omega (arith, le))
arcs_at_end (v ∷ vs) (suc n) le = arcs_at_end vs n (omega (arith, le))

pub arcs_at_push : (vs : List (Vec Arc Global)) (v : Vec Arc Global) (n : ℕ) → v.items ≡ [] → arcs_at (vs ++ v ∷ []) n ≡ arcs_at vs n
arcs_at_push [] v zero e = e
arcs_at_push [] v (suc n) e = refl
arcs_at_push (w ∷ vs) v zero e = refl
arcs_at_push (w ∷ vs) v (suc n) e = arcs_at_push vs v n e

arcs_at_set_here : (vs : List (Vec Arc Global)) (m : ℕ) (v : Vec Arc Global) → m < length vs → arcs_at (set vs m v) m ≡ v.items
arcs_at_set_here [] m v lt = absurd (omega (arith, lt))
arcs_at_set_here (w ∷ vs) zero v lt = refl
arcs_at_set_here (w ∷ vs) (suc m) v lt = arcs_at_set_here vs m v (omega (arith, lt))

arcs_at_set_other : (vs : List (Vec Arc Global)) (m : ℕ) (v : Vec Arc Global) (n : ℕ) → (m ≡ n → ⊥) → arcs_at (set vs m v) n ≡ arcs_at vs n
arcs_at_set_other [] m v n ne = refl
arcs_at_set_other (w ∷ vs) zero v zero ne = absurd (ne refl)
arcs_at_set_other (w ∷ vs) zero v (suc n) ne = refl
arcs_at_set_other (w ∷ vs) (suc m) v zero ne = refl
arcs_at_set_other (w ∷ vs) (suc m) v (suc n) ne = arcs_at_set_other vs m v n (λ e. ne (ap suc e))

-- ---- an arc more

pub arc_pushed : (old new : List Arc) (a : Arc) → new ≡ old ++ a ∷ [] → ArcMore old a new
arc_pushed old new a e s c r = subst (λ l. HasArc l s c r ↔ (HasArc old s c r ⊎ IsArc a s c r)) (sym e) (
  λ h. elim (has-push old a h.0 h.1) [ inl was ↦ inl (h.0, was, h.2) | inr same ↦ inr (subst (λ x. IsArc x s c r) (sym same) h.2) ],
  elim [ inl h ↦ (h.0, has-append old (a ∷ []) h.0 h.1, h.2) | inr is ↦ (a, has-last old a, is) ],
)

pub leap_pushed : (old new : List Leap) (l : Leap) → new ≡ old ++ l ∷ [] → LeapMore old l new
leap_pushed old new l e s r = subst (λ ls. HasLeap ls s r ↔ (HasLeap old s r ⊎ IsLeap l s r)) (sym e) (
  λ h. elim (has-push old l h.0 h.1) [ inl was ↦ inl (h.0, was, h.2) | inr same ↦ inr (subst (λ x. IsLeap x s r) (sym same) h.2) ],
  elim [ inl h ↦ (h.0, has-append old (l ∷ []) h.0 h.1, h.2) | inr is ↦ (l, has-last old l, is) ],
)

-- an item is the one that was put, or it was there elsewhere
has-set : {X : Type 0} (xs : List X) (i : ℕ) (x y : X) → i < length xs → Has (set xs i x) y → (x ≡ y) ⊎ Has xs y
has-set xs i x y lt (k, at) = elim (same_or_not k i) [
  | inl e ↦ inl (some_is x y (sym (get-set_here xs i x lt) ∙ ap (slice_get (set xs i x)) (sym e) ∙ at))
  | inr ne ↦ inr (k, sym (get-set_other xs i k x ne) ∙ at)
]

has-stays : {X : Type 0} (xs : List X) (i : ℕ) (x old y : X) → i < length xs → slice_get xs i ≡ Some old → Has xs y → (old ≡ y) ⊎ Has (set xs i x) y
has-stays xs i x old y lt is (k, at) = elim (same_or_not k i) [
  | inl e ↦ inl (some_is old y (sym is ∙ ap (slice_get xs) (sym e) ∙ at))
  | inr ne ↦ inr (k, get-set_other xs i k x ne ∙ at)
]

-- an arc that is joined to one of the others
pub arc_joined : (old new : List Arc) (i : ℕ) (a was now : Arc) → slice_get old i ≡ Some was → new ≡ set old i now → ((s c r : ℕ) → IsArc now s c r ↔ (IsArc was s c r ⊎ IsArc a s c r)) → ArcMore old a new
arc_joined old new i a was now at e both s c r = subst (λ l. HasArc l s c r ↔ (HasArc old s c r ⊎ IsArc a s c r)) (sym e) (
  λ h. elim (has-set old i now h.0 lt h.1) [
    | inr stays ↦ inl (h.0, stays, h.2)
    | inl same ↦ elim ((both s c r).0 (subst (λ x. IsArc x s c r) (sym same) h.2)) [ inl o ↦ inl (was, (i, at), o) | inr n ↦ inr n ]
  ],
  elim [
    | inr n ↦ (now, (i, get-set_here old i now lt), (both s c r).1 (inr n))
    | inl h ↦ elim (has-stays old i now was h.0 lt at h.1) [
      | inl same ↦ (now, (i, get-set_here old i now lt), (both s c r).1 (inl (subst (λ x. IsArc x s c r) (sym same) h.2)))
      | inr stays ↦ (h.0, stays, h.2)
    ]
  ],
)
  where
    lt : i < length old
    lt = slice_get_within old i was at

pub leap_joined : (old new : List Leap) (i : ℕ) (l was now : Leap) → slice_get old i ≡ Some was → new ≡ set old i now → ((s r : ℕ) → IsLeap now s r ↔ (IsLeap was s r ⊎ IsLeap l s r)) → LeapMore old l new
leap_joined old new i l was now at e both s r = subst (λ ls. HasLeap ls s r ↔ (HasLeap old s r ⊎ IsLeap l s r)) (sym e) (
  λ h. elim (has-set old i now h.0 lt h.1) [
    | inr stays ↦ inl (h.0, stays, h.2)
    | inl same ↦ elim ((both s r).0 (subst (λ x. IsLeap x s r) (sym same) h.2)) [ inl o ↦ inl (was, (i, at), o) | inr n ↦ inr n ]
  ],
  elim [
    | inr n ↦ (now, (i, get-set_here old i now lt), (both s r).1 (inr n))
    | inl h ↦ elim (has-stays old i now was h.0 lt at h.1) [
      | inl same ↦ (now, (i, get-set_here old i now lt), (both s r).1 (inl (subst (λ x. IsLeap x s r) (sym same) h.2)))
      | inr stays ↦ (h.0, stays, h.2)
    ]
  ],
)
  where
    lt : i < length old
    lt = slice_get_within old i was at

or_either : (a b : Bool) → (a || b ≡ true) ↔ ((a ≡ true) ⊎ (b ≡ true))
or_either true b = (λ h. inl refl, λ h. refl)
or_either false b = (λ h. inr h, elim [ inl h ↦ cc | inr h ↦ h ])

-- two arcs that go the same way, and the one that has the states of both
pub arc_both : (was a now : Arc) → was.content ≡ a.content → was.next ≡ a.next → now.content ≡ was.content → now.next ≡ was.next
    → ((s : ℕ) → in_block now.sources s ≡ in_block was.sources s || in_block a.sources s) → (s c r : ℕ) → IsArc now s c r ↔ (IsArc was s c r ⊎ IsArc a s c r)
arc_both was a now content next stays_content stays_next joined s c r = (
  λ h. elim ((or_either (in_block was.sources s) (in_block a.sources s)).0 (sym (joined s) ∙ h.0)) [
    | inl o ↦ inl (o, sym stays_content ∙ h.1, sym stays_next ∙ h.2)
    | inr n ↦ inr (n, sym content ∙ sym stays_content ∙ h.1, sym next ∙ sym stays_next ∙ h.2)
  ],
  elim [
    | inl o ↦ (joined s ∙ (or_either (in_block was.sources s) (in_block a.sources s)).1 (inl o.0), stays_content ∙ o.1, stays_next ∙ o.2)
    | inr n ↦ (joined s ∙ (or_either (in_block was.sources s) (in_block a.sources s)).1 (inr n.0), stays_content ∙ content ∙ n.1, stays_next ∙ next ∙ n.2)
  ],
)

pub leap_both : (was l now : Leap) → was.next ≡ l.next → now.next ≡ was.next
    → ((s : ℕ) → in_block now.sources s ≡ in_block was.sources s || in_block l.sources s) → (s r : ℕ) → IsLeap now s r ↔ (IsLeap was s r ⊎ IsLeap l s r)
leap_both was l now next stays_next joined s r = (
  λ h. elim ((or_either (in_block was.sources s) (in_block l.sources s)).0 (sym (joined s) ∙ h.0)) [
    | inl o ↦ inl (o, sym stays_next ∙ h.1)
    | inr n ↦ inr (n, sym next ∙ sym stays_next ∙ h.1)
  ],
  elim [
    | inl o ↦ (joined s ∙ (or_either (in_block was.sources s) (in_block l.sources s)).1 (inl o.0), stays_next ∙ o.1)
    | inr n ↦ (joined s ∙ (or_either (in_block was.sources s) (in_block l.sources s)).1 (inr n.0), stays_next ∙ next ∙ n.1)
  ],
)

-- ---- edges more

nothing_more : {A X : Type 0} → (X → ⊥) → A ↔ (A ⊎ X)
nothing_more none = (λ a. inl a, elim [ inl a ↦ a | inr x ↦ absurd (none x) ])

chain : {A B C X Y Z : Type 0} → C ↔ (B ⊎ Y) → B ↔ (A ⊎ X) → Z ↔ (X ⊎ Y) → C ↔ (A ⊎ Z)
chain cb ba z = (
  λ c. elim (cb.0 c) [ inl b ↦ elim (ba.0 b) [ inl a ↦ inl a | inr x ↦ inr (z.1 (inl x)) ] | inr y ↦ inr (z.1 (inr y)) ],
  elim [ inl a ↦ cb.1 (inl (ba.1 (inl a))) | inr h ↦ elim (z.0 h) [ inl x ↦ cb.1 (inl (ba.1 (inr x))) | inr y ↦ cb.1 (inr y) ] ],
)

swapped : {A X Y : Type 0} {C : Type 0} → C ↔ (A ⊎ X) → X ↔ Y → C ↔ (A ⊎ Y)
swapped c x = (λ h. elim (c.0 h) [ inl a ↦ inl a | inr y ↦ inr (x.0 y) ], elim [ inl a ↦ c.1 (inl a) | inr y ↦ c.1 (inr (x.1 y)) ])

leaves-append : (s : ℕ) (es fs : List Edge) (t : ℕ) (e : Edge) → Leaves s (es ++ fs) t e ↔ (Leaves s es t e ⊎ Leaves s fs t e)
leaves-append s es fs t e = (
  λ h. elim (has-split es fs e h.1) [ inl l ↦ inl (h.0, l) | inr r ↦ inr (h.0, r) ],
  elim [ inl l ↦ (l.0, has-append es fs e l.1) | inr r ↦ (r.0, has-right es fs e r.1) ],
)

has_one : {X : Type 0} (x y : X) → Has (x ∷ []) y → x ≡ y
has_one x y h = elim (has-push [] x y h) [ inl none ↦ absurd (has-nil y none) | inr e ↦ e ]

pub adds_none : (a : Arcs) (s : ℕ) → Adds a a s []
adds_none a s = record {
  arcs = λ n t c r. nothing_more (λ h. has-nil (Elem n c r) h.1);
  any = λ t c r. nothing_more (λ h. has-nil (AnyElem c r) h.1);
  leaps = λ k t r. nothing_more (λ h. has-nil (Atom k r) h.1);
  listed = λ h. h;
  labels = λ n h. inl h;
}

adds_then : (a b c : Arcs) (s : ℕ) (es fs : List Edge) → Adds a b s es → Adds b c s fs → Adds a c s (es ++ fs)
adds_then a b c s es fs x y = record {
  arcs = λ n t d r. chain (y.arcs n t d r) (x.arcs n t d r) (leaves-append s es fs t (Elem n d r));
  any = λ t d r. chain (y.any t d r) (x.any t d r) (leaves-append s es fs t (AnyElem d r));
  leaps = λ k t r. chain (y.leaps k t r) (x.leaps k t r) (leaves-append s es fs t (Atom k r));
  listed = λ h. y.listed (x.listed h);
  labels = λ n h. elim (y.labels n h) [
    | inr l ↦ inr (l.0, l.1, has-right es fs (Elem n l.0 l.1) l.2)
    | inl m ↦ elim (x.labels n m) [ inl o ↦ inl o | inr l ↦ inr (l.0, l.1, has-append es fs (Elem n l.0 l.1) l.2) ]
  ];
}

pub adds_next : (a b c : Arcs) (s : ℕ) (edges : List Edge) (i : ℕ) (e d : Edge) → Adds a b s (take i edges) → Adds b c s (e ∷ []) → i < length edges → e ≡ get_or edges i d → Adds a c s (take (i + 1) edges)
adds_next a b c s edges i e d x y lt is = subst (Adds a c s) (ap (λ f. take i edges ++ f ∷ []) is ∙ sym (take_more edges i d lt)) (adds_then a b c s (take i edges) (e ∷ []) x y)

-- the states of an arc are one state
abbrev pub IsOne : Block → ℕ → Type 0
IsOne b s = (t : ℕ) → in_block b t ≡ (t == s)

one_is : (b : Block) (s t : ℕ) → IsOne b s → (in_block b t ≡ true) ↔ (t ≡ s)
one_is b s t one = elim (eqb_tells t s) [
  | inl p ↦ (λ h. p.1, λ h. one t ∙ p.0)
  | inr p ↦ (λ h. absurd (let x : true ≡ false = sym h ∙ one t ∙ p.0 in cc), λ e. absurd (p.1 e))
]

-- one edge, as an arc
arc_leaves : (b : Block) (s label d q n t c r : ℕ) → IsOne b s → n ≡ label → IsArc (record { sources = b; content = d; next = q }) t c r ↔ Leaves s (Elem label d q ∷ []) t (Elem n c r)
arc_leaves b s label d q n t c r one e = (
  λ h. ((one_is b s t one).0 h.0, subst (λ x. Has (Elem label d q ∷ []) x) (let f = h.1 in let g = h.2 in cc) (0, refl)),
  λ h. (let same = has_one (Elem label d q) (Elem n c r) h.1 in ((one_is b s t one).1 h.0, cc, cc)),
)

any_leaves : (b : Block) (s d q t c r : ℕ) → IsOne b s → IsArc (record { sources = b; content = d; next = q }) t c r ↔ Leaves s (AnyElem d q ∷ []) t (AnyElem c r)
any_leaves b s d q t c r one = (
  λ h. ((one_is b s t one).0 h.0, subst (λ x. Has (AnyElem d q ∷ []) x) (let f = h.1 in let g = h.2 in cc) (0, refl)),
  λ h. (let same = has_one (AnyElem d q) (AnyElem c r) h.1 in ((one_is b s t one).1 h.0, cc, cc)),
)

leap_leaves : (b : Block) (s q t r : ℕ) (k : AtomKind) → IsOne b s → IsLeap (record { sources = b; next = q }) t r ↔ Leaves s (Atom k q ∷ []) t (Atom k r)
leap_leaves b s q t r k one = (
  λ h. ((one_is b s t one).0 h.0, subst (λ x. Has (Atom k q ∷ []) x) (ap (Atom k) h.1) (0, refl)),
  λ h. (let same = has_one (Atom k q) (Atom k r) h.1 in ((one_is b s t one).1 h.0, cc)),
)

pub adds_arc : (a b : Arcs) (vs : List (Vec Arc Global)) (label m s c r : ℕ) (block : Block) (v d w : Vec Arc Global) → ((n : ℕ) → arcs_at vs n ≡ arcs_at a.by_label.items n) → m ≡ label → m < length vs → IsOne block s
    → ArcMore (get_or vs m d).items (record { sources = block; content = c; next = r }) v.items → w ≡ get_or vs m w → Lists a.labels.items b.labels.items label w.items
    → b.by_label.items ≡ set vs m v → b.any_label.items ≡ a.any_label.items → b.texts.items ≡ a.texts.items → b.truths.items ≡ a.truths.items → b.numbers.items ≡ a.numbers.items → Adds a b s (Elem label c r ∷ [])
adds_arc a b vs label m s c r block v d w same is lt one more was lists here any texts truths numbers = record {
  arcs = λ n t e q. arcs n t e q (same_or_not n m);
  any = λ t e q. subst (λ l. HasArc l t e q ↔ (HasArc a.any_label.items t e q ⊎ Leaves s (Elem label c r ∷ []) t (AnyElem e q))) (sym any) (nothing_more (λ h. (let z = has_one (Elem label c r) (AnyElem e q) h.1 in cc)));
  leaps = λ k t q. subst (λ l. HasLeap l t q ↔ (HasLeap (leaps_at a k) t q ⊎ Leaves s (Elem label c r ∷ []) t (Atom k q))) (sym (kept k)) (nothing_more (λ h. (let z = has_one (Elem label c r) (Atom k q) h.1 in cc)));
  listed = λ h n. listed h n (same_or_not n m);
  labels = λ n h. labelled n h lists;
}
  where
    kept : (k : AtomKind) → leaps_at b k ≡ leaps_at a k
    kept kind.Bool = truths
    kept kind.Text = texts
    kept kind.Int = numbers

    at_other : (n : ℕ) → (n ≡ m → ⊥) → arcs_at b.by_label.items n ≡ arcs_at a.by_label.items n
    at_other n ne = ap (λ l. arcs_at l n) here ∙ arcs_at_set_other vs m v n (λ e. ne (sym e)) ∙ same n

    arcs : (n t e q : ℕ) → (n ≡ m) ⊎ (n ≡ m → ⊥) → HasArc (arcs_at b.by_label.items n) t e q ↔ (HasArc (arcs_at a.by_label.items n) t e q ⊎ Leaves s (Elem label c r ∷ []) t (Elem n e q))
    arcs n t e q (inr ne) = subst (λ l. HasArc l t e q ↔ (HasArc (arcs_at a.by_label.items n) t e q ⊎ Leaves s (Elem label c r ∷ []) t (Elem n e q))) (sym (at_other n ne))
        (nothing_more (λ h. (let z = has_one (Elem label c r) (Elem n e q) h.1 in let y : label ≡ n = cc in ne (sym y ∙ sym is))))
    arcs n t e q (inl at) =
        let new : arcs_at b.by_label.items n ≡ v.items = ap₂ arcs_at here at ∙ arcs_at_set_here vs m v lt in
        let old : (get_or vs m d).items ≡ arcs_at a.by_label.items n = sym (arcs_at_here vs m d lt) ∙ ap (arcs_at vs) (sym at) ∙ same n in
        subst (λ l. HasArc l t e q ↔ (HasArc (arcs_at a.by_label.items n) t e q ⊎ Leaves s (Elem label c r ∷ []) t (Elem n e q))) (sym new)
        (swapped (subst (λ l. HasArc v.items t e q ↔ (HasArc l t e q ⊎ IsArc (record { sources = block; content = c; next = r }) t e q)) old (more t e q)) (arc_leaves block s label c r n t e q one (at ∙ is)))

    stays : (n : ℕ) → Has a.labels.items n → Has b.labels.items n
    stays n h = elim lists [ inl p ↦ subst (λ l. Has l n) (sym p.1) (has-append a.labels.items (label ∷ []) n h) | inr p ↦ subst (λ l. Has l n) (sym p.1) h ]

    listed : AreListed a → (n : ℕ) → (n ≡ m) ⊎ (n ≡ m → ⊥) → (arcs_at b.by_label.items n ≡ []) ⊎ Has b.labels.items n
    listed h n (inr ne) = elim (h n) [
      | inl none ↦ inl (at_other n ne ∙ none)
      | inr has ↦ inr (stays n has)
    ]
    listed h n (inl e) = elim lists [
      | inl p ↦ inr (subst (λ l. Has l n) (sym p.1) (subst (λ k. Has (a.labels.items ++ label ∷ []) k) (sym (e ∙ is)) (has-last a.labels.items label)))
      | inr p ↦ elim (h n) [
        | inl none ↦ absurd (p.0 (ap (λ (x : Vec Arc Global). x.items) was ∙ sym (arcs_at_here vs m w lt) ∙ ap (arcs_at vs) (sym e) ∙ same n ∙ none))
        | inr has ↦ inr (stays n has)
      ]
    ]

    labelled : (n : ℕ) → Has b.labels.items n → Lists a.labels.items b.labels.items label w.items → Has a.labels.items n ⊎ ((e : ℕ) × (q : ℕ) × Has (Elem label c r ∷ []) (Elem n e q))
    labelled n h (inr p) = inl (subst (λ l. Has l n) p.1 h)
    labelled n h (inl p) = elim (has-push a.labels.items label n (subst (λ l. Has l n) p.1 h)) [
      | inl o ↦ inl o
      | inr e ↦ inr (c, r, (0, ap (λ k. Some (Elem k c r)) e))
    ]

pub adds_any : (a b : Arcs) (s c r : ℕ) (block : Block) → IsOne block s → ArcMore a.any_label.items (record { sources = block; content = c; next = r }) b.any_label.items → b.by_label.items ≡ a.by_label.items → b.labels.items ≡ a.labels.items
    → b.texts.items ≡ a.texts.items → b.truths.items ≡ a.truths.items → b.numbers.items ≡ a.numbers.items → Adds a b s (AnyElem c r ∷ [])
adds_any a b s c r block one more here labels texts truths numbers = record {
  arcs = λ n t e q. subst (λ l. HasArc (arcs_at l n) t e q ↔ (HasArc (arcs_at a.by_label.items n) t e q ⊎ Leaves s (AnyElem c r ∷ []) t (Elem n e q))) (sym here) (nothing_more (λ h. (let z = has_one (AnyElem c r) (Elem n e q) h.1 in cc)));
  any = λ t e q. swapped (more t e q) (any_leaves block s c r t e q one);
  leaps = λ k t q. subst (λ l. HasLeap l t q ↔ (HasLeap (leaps_at a k) t q ⊎ Leaves s (AnyElem c r ∷ []) t (Atom k q))) (sym (kept k)) (nothing_more (λ h. (let z = has_one (AnyElem c r) (Atom k q) h.1 in cc)));
  listed = λ h n. subst (λ l. (arcs_at b.by_label.items n ≡ []) ⊎ Has l n) (sym labels) (subst (λ l. (arcs_at l n ≡ []) ⊎ Has a.labels.items n) (sym here) (h n));
  labels = λ n h. inl (subst (λ l. Has l n) labels h);
}
  where
    kept : (k : AtomKind) → leaps_at b k ≡ leaps_at a k
    kept kind.Bool = truths
    kept kind.Text = texts
    kept kind.Int = numbers

kind_or_not : (j k : AtomKind) → (j ≡ k) ⊎ (j ≡ k → ⊥)
kind_or_not kind.Bool kind.Bool = inl refl
kind_or_not kind.Bool kind.Text = inr (λ e. cc)
kind_or_not kind.Bool kind.Int = inr (λ e. cc)
kind_or_not kind.Text kind.Bool = inr (λ e. cc)
kind_or_not kind.Text kind.Text = inl refl
kind_or_not kind.Text kind.Int = inr (λ e. cc)
kind_or_not kind.Int kind.Bool = inr (λ e. cc)
kind_or_not kind.Int kind.Text = inr (λ e. cc)
kind_or_not kind.Int kind.Int = inl refl

pub adds_leap : (a b : Arcs) (k : AtomKind) (s r : ℕ) (block : Block) → IsOne block s → LeapMore (leaps_at a k) (record { sources = block; next = r }) (leaps_at b k) → ((j : AtomKind) → (j ≡ k → ⊥) → leaps_at b j ≡ leaps_at a j)
    → b.by_label.items ≡ a.by_label.items → b.labels.items ≡ a.labels.items → b.any_label.items ≡ a.any_label.items → Adds a b s (Atom k r ∷ [])
adds_leap a b k s r block one more others here labels any = record {
  arcs = λ n t e q. subst (λ l. HasArc (arcs_at l n) t e q ↔ (HasArc (arcs_at a.by_label.items n) t e q ⊎ Leaves s (Atom k r ∷ []) t (Elem n e q))) (sym here) (nothing_more (λ h. (let z = has_one (Atom k r) (Elem n e q) h.1 in cc)));
  any = λ t e q. subst (λ l. HasArc l t e q ↔ (HasArc a.any_label.items t e q ⊎ Leaves s (Atom k r ∷ []) t (AnyElem e q))) (sym any) (nothing_more (λ h. (let z = has_one (Atom k r) (AnyElem e q) h.1 in cc)));
  leaps = λ j t q. leaps j t q (kind_or_not j k);
  listed = λ h n. subst (λ l. (arcs_at b.by_label.items n ≡ []) ⊎ Has l n) (sym labels) (subst (λ l. (arcs_at l n ≡ []) ⊎ Has a.labels.items n) (sym here) (h n));
  labels = λ n h. inl (subst (λ l. Has l n) labels h);
}
  where
    leaps : (j : AtomKind) (t q : ℕ) → (j ≡ k) ⊎ (j ≡ k → ⊥) → HasLeap (leaps_at b j) t q ↔ (HasLeap (leaps_at a j) t q ⊎ Leaves s (Atom k r ∷ []) t (Atom j q))
    leaps j t q (inl e) = subst (λ i. HasLeap (leaps_at b i) t q ↔ (HasLeap (leaps_at a i) t q ⊎ Leaves s (Atom k r ∷ []) t (Atom i q))) (sym e) (swapped (more t q) (leap_leaves block s r t q k one))
    leaps j t q (inr ne) = subst (λ l. HasLeap l t q ↔ (HasLeap (leaps_at a j) t q ⊎ Leaves s (Atom k r ∷ []) t (Atom j q))) (sym (others j ne)) (nothing_more (λ h. (let z = has_one (Atom k r) (Atom j q) h.1 in let y : k ≡ j = cc in ne (sym y))))

-- ---- states

length-take : {A : Type 0} (xs : List A) (i : ℕ) → i ≤ length xs → length (take i xs) ≡ i
length-take xs zero le = refl
length-take [] (suc i) le = absurd (omega (arith, le))
length-take (x ∷ xs) (suc i) le = ap suc (length-take xs i (omega (arith, le)))

-- the edges of the states below i, and of the state i
edge_next : (states : List State) (i : ℕ) (st : State) → i < length states → st ≡ get_or states i st → (s : ℕ) (e : Edge) → HasEdge (take (i + 1) states) s e ↔ (HasEdge (take i states) s e ⊎ Leaves i st.edges s e)
edge_next states i st lt is s e = subst (λ l. HasEdge l s e ↔ (HasEdge now s e ⊎ Leaves i st.edges s e)) (sym more) (
  λ h. elim (get-push now st s h.0 h.1) [
    | inl p ↦ inl (h.0, p.1, h.2)
    | inr p ↦ inr (p.0 ∙ long, subst (λ (x : State). Has x.edges e) (sym p.1) h.2)
  ],
  elim [
    | inl h ↦ (h.0, get-append now (st ∷ []) s (slice_get_within now s h.0 h.1) ∙ h.1, h.2)
    | inr h ↦ (st, ap (slice_get (now ++ st ∷ [])) (h.0 ∙ sym long) ∙ get-end now st [], h.1)
  ],
)
  where
    now : List State
    now = take i states

    long : length now ≡ i
    long = length-take states i (omega (arith, lt))

    more : take (i + 1) states ≡ now ++ st ∷ []
    more = take_more states i st lt ∙ ap (λ x. now ++ x ∷ []) (sym is)

compose : {A B X Y Z : Type 0} → B ↔ (A ⊎ X) → A ↔ Y → Z ↔ (Y ⊎ X) → B ↔ Z
compose b a z = (
  λ h. z.1 (elim (b.0 h) [ inl x ↦ inl (a.0 x) | inr x ↦ inr x ]),
  λ h. b.1 (elim (z.0 h) [ inl y ↦ inl (a.1 y) | inr x ↦ inr x ]),
)

pub index_next : (states : List State) (a b : Arcs) (i : ℕ) (st : State) → IsIndex (take i states) a → i < length states → st ≡ get_or states i st → Adds a b i st.edges → IsIndex (take (i + 1) states) b
index_next states a b i st x lt is y = record {
  arcs = λ n s c r. compose (y.arcs n s c r) (x.arcs n s c r) (next s (Elem n c r));
  any = λ s c r. compose (y.any s c r) (x.any s c r) (next s (AnyElem c r));
  leaps = λ k s r. compose (y.leaps k s r) (x.leaps k s r) (next s (Atom k r));
  listed = y.listed x.listed;
  labels = λ n h. elim (y.labels n h) [
    | inl old ↦ (let l = x.labels n old in (l.0, l.1, l.2, (next l.0 (Elem n l.1 l.2)).1 (inl l.3)))
    | inr l ↦ (i, l.0, l.1, (next i (Elem n l.0 l.1)).1 (inr (refl, l.2)))
  ];
}
  where
    next : (s : ℕ) (e : Edge) → HasEdge (take (i + 1) states) s e ↔ (HasEdge (take i states) s e ⊎ Leaves i st.edges s e)
    next = edge_next states i st lt is

-- the labels that are listed are those of edges
pub index_label : (states : List State) (a : Arcs) (n : ℕ) → IsIndex states a → Has a.labels.items n → IsEdgeLabel states n
index_label states a n is h =
    let l = is.labels n h in
    let (s, c, r, e) = l in
    let (st, at, k) = e in
    (s, st, at, k.0, c, r, k.1)

take_whole : {A : Type 0} (xs : List A) (i : ℕ) → length xs ≤ i → take i xs ≡ xs
take_whole [] zero le = refl
take_whole [] (suc i) le = refl
take_whole (x ∷ xs) zero le = absurd (omega (arith, le))
take_whole (x ∷ xs) (suc i) le = ap (λ l. x ∷ l) (take_whole xs i (omega (arith, le)))

or_true : (b : Bool) → b || true ≡ true
or_true true = refl
or_true false = refl

and_true : (b : Bool) → b && true ≡ b
and_true true = refl
and_true false = refl

one_mark : (before behind : List Bool) (b g : Bool) (s : ℕ) → length before ≡ s → (if g then set (before ++ b ∷ behind) s true else before ++ b ∷ behind) ≡ before ++ (b || g) ∷ behind
one_mark before behind b true s e = set_at before b behind true s e ∙ ap (λ x. before ++ x ∷ behind) (sym (or_true b))
one_mark before behind b false s e = ap (λ x. before ++ x ∷ behind) (sym (or-false b))

-- ---- the empty forest

-- the states below i are marked that take it
abbrev pub ends_below : List State → ℕ → List Bool
ends_below states i = profile_nil (take i states) ++ replicate (length states - i) false

pub ends_next : (states : List State) (i : ℕ) (st : State) (b : Bool) (p q : List Bool) → i < length states → st ≡ get_or states i st → st.ends ≡ b → p ≡ ends_below states i → q ≡ (if b then set p i true else p) → q ≡ ends_below states (i + 1)
ends_next states i st b p q lt is ends e f =
    let now = take i states in
    let behind = replicate (length states - (i + 1)) false in
    let more : length states - i ≡ suc (length states - (i + 1)) = omega (arith, lt) in
    let here : ends_below states i ≡ profile_nil now ++ false ∷ behind = ap (λ k. profile_nil now ++ replicate k false) more in
    let long : length (profile_nil now) ≡ i = length-map (λ (s : State). s.ends) now ∙ length-take states i (omega (arith, lt)) in
    let next : profile_nil (take (i + 1) states) ≡ profile_nil now ++ st.ends ∷ [] = ap profile_nil (take_more states i st lt ∙ ap (λ x. now ++ x ∷ []) (sym is)) ∙ map_push (λ (s : State). s.ends) now st in
    f ∙ ap (λ x. if x then set p i true else p) (sym ends) ∙ ap (λ l. if st.ends then set l i true else l) (e ∙ here) ∙ one_mark (profile_nil now) behind false st.ends i long ∙ sym (append_assoc (profile_nil now) (st.ends ∷ []) behind) ∙ ap (λ l. l ++ behind) (sym next)

pub ends_all : (states : List State) (i : ℕ) (p : List Bool) → length states ≤ i → p ≡ ends_below states i → p ≡ profile_nil states
ends_all states i p le e =
    let none : length states - i ≡ 0 = omega (arith, le) in
    e ∙ ap₂ (λ l k. profile_nil l ++ replicate k false) (take_whole states i le) none ∙ append-nil (profile_nil states)

-- ---- the states that leaps leave

-- a leap more
pub leaps_next : (q old new : List Bool) (n : ℕ) (xs : List Leap) (i : ℕ) (x : Leap) → i < length xs → old ≡ fired n (take i xs) q → new ≡ mark_by_leap q old (get_or xs i x) → new ≡ fired n (take (i + 1) xs) q
leaps_next q old new n xs i x lt e f = f ∙ ap (λ p. mark_by_leap q p l) e ∙ one (has q l.next) refl ∙ sym (told_same (fires (take (i + 1) xs) q) (λ s. fires now q s || (in_block l.sources s && has q l.next)) n (λ s h. list_any_more (λ (y : Leap). in_block y.sources s && has q y.next) xs i x lt))
  where
    l : Leap
    l = get_or xs i x

    now : List Leap
    now = take i xs

    one : (b : Bool) → has q l.next ≡ b → mark_by_leap q (fired n now q) l ≡ told (λ s. fires now q s || (in_block l.sources s && has q l.next)) n
    one true h = ap (λ y. if y then told (λ s. has (fired n now q) s || in_block l.sources s) (length (fired n now q)) else fired n now q) h ∙ with_block-told (fires now q) n l.sources
        ∙ told_same (λ s. fires now q s || in_block l.sources s) (λ s. fires now q s || (in_block l.sources s && has q l.next)) n (λ s lt. ap (λ y. fires now q s || y) (sym (and_true (in_block l.sources s)) ∙ ap (λ y. in_block l.sources s && y) (sym h)))
    one false h = ap (λ y. if y then told (λ s. has (fired n now q) s || in_block l.sources s) (length (fired n now q)) else fired n now q) h
        ∙ told_same (fires now q) (λ s. fires now q s || (in_block l.sources s && has q l.next)) n (λ s lt. sym (or-false (fires now q s)) ∙ ap (λ y. fires now q s || y) (sym (and-false (in_block l.sources s)) ∙ ap (λ y. in_block l.sources s && y) (sym h)))

-- a leap more that goes to no state of the set
pub silent_more : (q : List Bool) (n : ℕ) (xs : List Leap) (i : ℕ) (x : Leap) → i < length xs → has q (get_or xs i x).next ≡ false → fired n (take (i + 1) xs) q ≡ fired n (take i xs) q
silent_more q n xs i x lt off = told_same (fires (take (i + 1) xs) q) (fires (take i xs) q) n (λ s h.
    list_any_more (λ (y : Leap). in_block y.sources s && has q y.next) xs i x lt ∙ ap (λ y. fires (take i xs) q s || y) (ap (λ y. in_block (get_or xs i x).sources s && y) off ∙ and-false (in_block (get_or xs i x).sources s)) ∙ or-false (fires (take i xs) q s))

leaps_along-append : (p : List Bool) (xs ys : List Arc) → leaps_along p (xs ++ ys) ≡ leaps_along p xs ++ leaps_along p ys
leaps_along-append p [] ys = refl
leaps_along-append p (a ∷ xs) ys =
    let one : List Leap = if has p a.content then record { sources = a.sources; next = a.next } ∷ [] else [] in
    ap (λ l. one ++ l) (leaps_along-append p xs ys) ∙ sym (append_assoc one (leaps_along p xs) (leaps_along p ys))

pub along_next : (p : List Bool) (old mid new : List Leap) (xs : List Arc) (i : ℕ) (x : Arc) → i < length xs → mid ≡ old ++ leaps_along p (take i xs) → new ≡ mid ++ leaps_along p (get_or xs i x ∷ []) → new ≡ old ++ leaps_along p (take (i + 1) xs)
along_next p old mid new xs i x lt e f =
    let one = leaps_along p (get_or xs i x ∷ []) in
    f ∙ ap (λ l. l ++ one) e ∙ append_assoc old (leaps_along p (take i xs)) one ∙ ap (λ l. old ++ l) (sym (leaps_along-append p (take i xs) (get_or xs i x ∷ [])) ∙ ap (leaps_along p) (sym (take_more xs i x lt)))

-- ---- leaps of arcs

leap_in_left : (xs ys : List Leap) (s r : ℕ) → HasLeap xs s r → HasLeap (xs ++ ys) s r
leap_in_left xs ys s r (l, h, is) = (l, has-append xs ys l h, is)

leap_in_right : (xs ys : List Leap) (s r : ℕ) → HasLeap ys s r → HasLeap (xs ++ ys) s r
leap_in_right xs ys s r (l, h, is) = (l, has-right xs ys l h, is)

leap_in_either : (xs ys : List Leap) (s r : ℕ) → HasLeap (xs ++ ys) s r → HasLeap xs s r ⊎ HasLeap ys s r
leap_in_either xs ys s r (l, h, is) = elim (has-split xs ys l h) [ inl x ↦ inl (l, x, is) | inr y ↦ inr (l, y, is) ]

one_leap : (b : Bool) (a : Arc) (s r : ℕ) → HasLeap (if b then record { sources = a.sources; next = a.next } ∷ [] else []) s r ↔ ((b ≡ true) × (in_block a.sources s ≡ true) × (a.next ≡ r))
one_leap true a s r = (
  λ h. (let i = subst (λ (l : Leap). IsLeap l s r) (sym (has_one (record { sources = a.sources; next = a.next }) h.0 h.1)) h.2 in (refl, i.0, i.1)),
  λ h. (record { sources = a.sources; next = a.next }, (0, refl), (h.1, h.2)),
)
one_leap false a s r = (λ h. absurd (has-nil h.0 h.1), λ h. absurd (let z = h.0 in cc))

along_arc : (p : List Bool) (arcs : List Arc) (s c r : ℕ) → HasArc arcs s c r → has p c ≡ true → HasLeap (leaps_along p arcs) s r
along_arc p [] s c r (a, h, is) on = absurd (has-nil a h)
along_arc p (x ∷ arcs) s c r (a, (zero, e), is) on =
    let same = some_is x a e in
    let here = subst (λ (y : Arc). IsArc y s c r) (sym same) is in
    leap_in_left (if has p x.content then record { sources = x.sources; next = x.next } ∷ [] else []) (leaps_along p arcs) s r ((one_leap (has p x.content) x s r).1 (ap (has p) here.1 ∙ on, here.0, here.2))
along_arc p (x ∷ arcs) s c r (a, (suc k, e), is) on = leap_in_right (if has p x.content then record { sources = x.sources; next = x.next } ∷ [] else []) (leaps_along p arcs) s r (along_arc p arcs s c r (a, (k, e), is) on)

arc_along : (p : List Bool) (arcs : List Arc) (s r : ℕ) → HasLeap (leaps_along p arcs) s r → (c : ℕ) × HasArc arcs s c r × (has p c ≡ true)
arc_along p [] s r (l, h, is) = absurd (has-nil l h)
arc_along p (x ∷ arcs) s r h = elim (leap_in_either (if has p x.content then record { sources = x.sources; next = x.next } ∷ [] else []) (leaps_along p arcs) s r h) [
  | inl one ↦ (let o = (one_leap (has p x.content) x s r).0 one in (x.content, (x, (0, refl), (o.1, refl, o.2)), o.0))
  | inr rest ↦ (let o = arc_along p arcs s r rest in (o.0, (o.1.0, (suc o.1.1.0, o.1.1.1), o.1.2), o.2))
]

fires_is : (leaps : List Leap) (q : List Bool) (s : ℕ) → fires leaps q s ≡ true → (r : ℕ) × HasLeap leaps s r × (has q r ≡ true)
fires_is leaps q s h =
    let l = any_is (λ (y : Leap). in_block y.sources s && has q y.next) leaps h in
    let p = and_parts (in_block l.0.sources s) (has q l.0.next) l.2 in
    (l.0.next, (l.0, l.1, (p.0, refl)), p.1)

fires_of : (leaps : List Leap) (q : List Bool) (s r : ℕ) → HasLeap leaps s r → has q r ≡ true → fires leaps q s ≡ true
fires_of leaps q s r (l, h, is) on = any_of (λ (y : Leap). in_block y.sources s && has q y.next) leaps l h (two is.0 (ap (has q) is.1 ∙ on))

-- ---- the profiles of trees

-- a test of each state, by its number
told_states : (f : State → Bool) (g : ℕ → Bool) (states : List State) → ((s : ℕ) (st : State) → slice_get states s ≡ Some st → g s ≡ f st) → told g (length states) ≡ map f states
told_states f g states same = ext_get_or false (told g (length states)) (map f states) (length-told g (length states) ∙ sym (length-map f states)) (λ s l. one s (omega (arith, l, length-told g (length states))))
  where
    none : State
    none = record { ends = false; edges = [] }

    one : (s : ℕ) → s < length states → get_or (told g (length states)) s false ≡ get_or (map f states) s false
    one s lt = has-told g (length states) s lt ∙ same s (get_or states s none) (slice_get-get_or states s none lt) ∙ sym (get_or-map f states s none false lt)

edge_here : (states : List State) (s : ℕ) (st : State) (e : Edge) → slice_get states s ≡ Some st → HasEdge states s e → Has st.edges e
edge_here states s st e at (x, is, h) = subst (λ (y : State). Has y.edges e) (some_is x st (sym is ∙ at)) h

-- what the edges of a label, and those of any, fire is the profile
pub element_fires : (states : List State) (a : Arcs) (n : ℕ) (p q : List Bool) → IsIndex states a → fired (length states) (leaps_by a n p) q ≡ profile_element states n p q
element_fires states a n p q is = told_states (λ (st : State). list_any goes st.edges) (fires (leaps_by a n p) q) states (λ s st at. both_ways (fires (leaps_by a n p) q s) (list_any goes st.edges) (forth s st at) (back s st at))
  where
    goes : Edge → Bool
    goes = goes_by_element n p q

    own : List Leap
    own = leaps_along p (arcs_at a.by_label.items n)

    any : List Leap
    any = leaps_along p a.any_label.items

    forth : (s : ℕ) (st : State) → slice_get states s ≡ Some st → fires (leaps_by a n p) q s ≡ true → list_any goes st.edges ≡ true
    forth s st at h =
        let f = fires_is (leaps_by a n p) q s h in
        elim (leap_in_either own any s f.0 f.1) [
          | inl l ↦ (let c = arc_along p (arcs_at a.by_label.items n) s f.0 l in any_of goes st.edges (Elem n c.0 f.0) (edge_here states s st (Elem n c.0 f.0) at ((is.arcs n s c.0 f.0).0 c.1)) (element_by n p q c.0 f.0 c.2 f.2))
          | inr l ↦ (let c = arc_along p a.any_label.items s f.0 l in any_of goes st.edges (AnyElem c.0 f.0) (edge_here states s st (AnyElem c.0 f.0) at ((is.any s c.0 f.0).0 c.1)) (two c.2 f.2))
        ]

    back : (s : ℕ) (st : State) → slice_get states s ≡ Some st → list_any goes st.edges ≡ true → fires (leaps_by a n p) q s ≡ true
    back s st at h =
        let e = any_is goes st.edges h in
        let b = by_element n p q e.0 e.2 in
        let (c, r, which, on, next) = b in
        fires_of (leaps_by a n p) q s r (elim which [
          | inl same ↦ leap_in_left own any s r (along_arc p (arcs_at a.by_label.items n) s c r ((is.arcs n s c r).1 (st, at, subst (Has st.edges) same e.1)) on)
          | inr same ↦ leap_in_right own any s r (along_arc p a.any_label.items s c r ((is.any s c r).1 (st, at, subst (Has st.edges) same e.1)) on)
        ]) next

-- and so it is with the edges of a kind
pub atom_fires : (states : List State) (a : Arcs) (k : AtomKind) (q : List Bool) → IsIndex states a → fired (length states) (leaps_at a k) q ≡ profile_atom states k q
atom_fires states a k q is = told_states (λ (st : State). list_any (goes_by_atom k q) st.edges) (fires (leaps_at a k) q) states (λ s st at. both_ways (fires (leaps_at a k) q s) (list_any (goes_by_atom k q) st.edges) (forth s st at) (back s st at))
  where
    forth : (s : ℕ) (st : State) → slice_get states s ≡ Some st → fires (leaps_at a k) q s ≡ true → list_any (goes_by_atom k q) st.edges ≡ true
    forth s st at h =
        let f = fires_is (leaps_at a k) q s h in
        any_of (goes_by_atom k q) st.edges (Atom k f.0) (edge_here states s st (Atom k f.0) at ((is.leaps k s f.0).0 f.1)) (atom_by k q f.0 f.2)

    back : (s : ℕ) (st : State) → slice_get states s ≡ Some st → list_any (goes_by_atom k q) st.edges ≡ true → fires (leaps_at a k) q s ≡ true
    back s st at h =
        let e = any_is (goes_by_atom k q) st.edges h in
        let b = by_atom k q e.0 e.2 in
        fires_of (leaps_at a k) q s b.0 ((is.leaps k s b.0).1 (st, at, subst (Has st.edges) b.1 e.1)) b.2
