-- The way from a node to the first of the trees that it is among.
use Rattle.std.proofs.Common.{◌≡◌, ◌⊎◌, inl, inr, ℕ, ◌+◌, ◌<◌, ◌≤◌, suc, List, length, Option, Some, None, refl, ap, ◌∙◌, sym, subst, arith}
use Rattle.std.specs.List.{slice_get, sum_by}
use Rattle.std.proofs.Math.ListN.{get_or}
use Rattle.std.proofs.Common.{[], ◌∷◌, false}
use Rattle.std.specs.Bool.{IsTrue}
use Rattle.std.proofs.lemmas.Option.{slice_get_within, slice_get-get_or}
use Rattle.flux_atom.specs.declared.atom.Atom.{Atom}
use Rattle.flux_trees.specs.Hedge.{Hedge, nil, elem, leaf, size}
use Rattle.flux_nodes.specs.declared.cell.NodeId.{NodeId}
use Rattle.flux_nodes.specs.declared.cell.Cell.{Cell}
use Rattle.flux_nodes.specs.declared.cell.Kind.TheVariants.{Elem, Leaf, Free}
use Rattle.flux_nodes.specs.Tables.{Meaning, times, one_if, times_in}
use Rattle.flux_nodes.specs.Laid.{id, first_id, last_id, elem_cell, leaf_cell, IsLaid}
use Rattle.flux_nodes.specs.Kept.{IsAmong, before_at, IsBefore, IsTable, IsSpare, spare_head, free_cell}
use Rattle.flux_nodes.proofs.LaidLaws.{one_if-is, number_or, first_within}
use Rattle.flux_nodes.proofs.TableLaws.{laid-within, get-or-sum}
use Rattle.flux_nodes.proofs.MoveLaws.{apart, none_past}
use Rattle.flux_nodes.proofs.SeenLaws.{split2, one_cell, some-term}

-- node k is the n-th in document order
abbrev pub IsNth : ℕ → ℕ → Hedge ℕ → Type 0
IsNth n k nil = ⊥
IsNth n k (elem m a c r) =
    ((n ≡ 0) × (k ≡ m)) ⊎ (((j : ℕ) × (n ≡ suc j) × IsNth j k c) ⊎ ((j : ℕ) × (n ≡ suc (size c) + j) × IsNth j k r))
IsNth n k (leaf m x r) = ((n ≡ 0) × (k ≡ m)) ⊎ ((j : ℕ) × (n ≡ suc j) × IsNth j k r)

pub nth-of : (k : ℕ) (h : Hedge ℕ) → 0 < times k h → (n : ℕ) × IsNth n k h × (n < size h)
nth-of k nil t = absurd (omega arith)
nth-of k (elem m a c r) t = elim (split2 (one_if k m) (times k c + times k r) t) [
  | inl x ↦ (0, inl (refl, one_if-is k m x), omega arith)
  | inr y ↦ elim (split2 (times k c) (times k r) y) [
    | inl x ↦ (let i = nth-of k c x in (suc i.0, inr (inl (i.0, refl, i.1)), omega (arith, i.2)))
    | inr x ↦ (let i = nth-of k r x in (suc (size c) + i.0, inr (inr (i.0, refl, i.1)), omega (arith, i.2)))
  ]
]
nth-of k (leaf m x r) t = elim (split2 (one_if k m) (times k r) t) [
  | inl y ↦ (0, inl (refl, one_if-is k m y), omega arith)
  | inr y ↦ (let i = nth-of k r y in (suc i.0, inr (i.0, refl, i.1), omega (arith, i.2)))
]

-- a node that comes earlier
pub record IsEarlier (n : ℕ) (o : Option NodeId) (h : Hedge ℕ) : Type 0 where
  pub node : ℕ
  pub at : ℕ
  pub node_is : o ≡ Some (id node)
  pub nth : IsNth at node h
  pub less : at < n

-- what its cell says of a node: it is the first tree, or behind one, or in an element
pub record IsFound (cs : List Cell) (p v : Option NodeId) (n k : ℕ) (h : Hedge ℕ) : Type 0 where
  pub cell : Cell
  pub there : slice_get cs k ≡ Some cell
  pub way : ((cell.parent ≡ p) × ((n ≡ 0) × (cell.prev ≡ v) ⊎ IsEarlier n cell.prev h)) ⊎ IsEarlier n cell.parent h

in-content : (n m a : ℕ) (c r : Hedge ℕ) (o : Option NodeId) → IsEarlier n o c → IsEarlier (suc n) o (elem m a c r)
in-content n m a c r o e =
    record { node = e.node; at = suc e.at; node_is = e.node_is; nth = inr (inl (e.at, refl, e.nth)); less = omega (arith, e.less) }

in-rest : (n m a : ℕ) (c r : Hedge ℕ) (o : Option NodeId) → IsEarlier n o r → IsEarlier (suc (size c) + n) o (elem m a c r)
in-rest n m a c r o e =
    record { node = e.node; at = suc (size c) + e.at; node_is = e.node_is; nth = inr (inr (e.at, refl, e.nth)); less = omega (arith, e.less) }

in-behind : (n m : ℕ) (x : Atom) (r : Hedge ℕ) (o : Option NodeId) → IsEarlier n o r → IsEarlier (suc n) o (leaf m x r)
in-behind n m x r o e =
    record { node = e.node; at = suc e.at; node_is = e.node_is; nth = inr (e.at, refl, e.nth); less = omega (arith, e.less) }

pub found : (cs : List Cell) (p v w : Option NodeId) (h : Hedge ℕ) (n k : ℕ) → IsLaid cs p v h w → IsNth n k h → IsFound cs p v n k h
found cs p v w nil n k l i = absurd i
found cs p v w (elem m a c r) n k l (inl i) = record {
  cell = elem_cell a p v (first_id r w) (first_id c None) (last_id c None);
  there = ap (slice_get cs) i.1 ∙ l.0;
  way = inl (refl, inl (i.0, refl));
}
found cs p v w (elem m a c r) n k l (inr (inl i)) =
    let f : IsFound cs (Some (id m)) None i.0 k c = found cs (Some (id m)) None None c i.0 k l.1 i.2 in
    record {
      cell = f.cell;
      there = f.there;
      way = inr (subst (λ j. IsEarlier j f.cell.parent (elem m a c r)) (sym i.1) (elim f.way [
        | inl x ↦ record { node = m; at = 0; node_is = x.0; nth = inl (refl, refl); less = omega arith }
        | inr x ↦ in-content i.0 m a c r f.cell.parent x
      ]));
    }
found cs p v w (elem m a c r) n k l (inr (inr i)) =
    let f : IsFound cs p (Some (id m)) i.0 k r = found cs p (Some (id m)) w r i.0 k l.2 i.2 in
    record {
      cell = f.cell;
      there = f.there;
      way = elim f.way [
        | inl x ↦ inl (
          x.0,
          inr (subst (λ j. IsEarlier j f.cell.prev (elem m a c r)) (sym i.1) (elim x.1 [
            | inl y ↦ record { node = m; at = 0; node_is = y.1; nth = inl (refl, refl); less = omega arith }
            | inr y ↦ in-rest i.0 m a c r f.cell.prev y
          ])),
        )
        | inr x ↦ inr (subst (λ j. IsEarlier j f.cell.parent (elem m a c r)) (sym i.1) (in-rest i.0 m a c r f.cell.parent x))
      ];
    }
found cs p v w (leaf m y r) n k l (inl i) =
    record { cell = leaf_cell y p v (first_id r w); there = ap (slice_get cs) i.1 ∙ l.0; way = inl (refl, inl (i.0, refl)) }
found cs p v w (leaf m y r) n k l (inr i) =
    let f : IsFound cs p (Some (id m)) i.0 k r = found cs p (Some (id m)) w r i.0 k l.1 i.2 in
    record {
      cell = f.cell;
      there = f.there;
      way = elim f.way [
        | inl x ↦ inl (
          x.0,
          inr (subst (λ j. IsEarlier j f.cell.prev (leaf m y r)) (sym i.1) (elim x.1 [
            | inl z ↦ record { node = m; at = 0; node_is = z.1; nth = inl (refl, refl); less = omega arith }
            | inr z ↦ in-behind i.0 m y r f.cell.prev z
          ])),
        )
        | inr x ↦ inr (subst (λ j. IsEarlier j f.cell.parent (leaf m y r)) (sym i.1) (in-behind i.0 m y r f.cell.parent x))
      ];
    }

first-nth : (n k : ℕ) (h : Hedge ℕ) → n ≡ 0 → IsNth n k h → first_id h None ≡ Some (id k)
first-nth n k nil e i = absurd i
first-nth n k (elem m a c r) e (inl i) = ap (λ j. Some (id j)) (sym i.1)
first-nth n k (elem m a c r) e (inr (inl i)) = absurd (omega (arith, i.1, e))
first-nth n k (elem m a c r) e (inr (inr i)) = absurd (omega (arith, i.1, e))
first-nth n k (leaf m x r) e (inl i) = ap (λ j. Some (id j)) (sym i.1)
first-nth n k (leaf m x r) e (inr i) = absurd (omega (arith, i.1, e))

-- what the way keeps: after so many steps the node is that much earlier
pub record IsOnWay (trees : Hedge ℕ) (at step : ℕ) : Type 0 where
  pub n : ℕ
  pub nth : IsNth n at trees
  pub early : n + step < size trees

abbrev pub OnWay : List Cell → ℕ → ℕ → ℕ → Type 0
OnWay cs node at step = (x : IsAmong cs node) → IsOnWay x.trees at step

pub way-start : (cs : List Cell) (node : ℕ) → OnWay cs node node 0
way-start cs node x =
    let i = nth-of node x.trees x.here in record { n = i.0; nth = i.1; early = omega (arith, i.2) }

pub way-within : (cs : List Cell) (node at step : ℕ) → IsAmong cs node → OnWay cs node at step → at < length cs
way-within cs node at step x w =
    let f = found cs None None None x.trees (w x).n at x.laid (w x).nth in slice_get_within cs at f.cell f.there

way-some : (c : Cell) (q : NodeId) (o : Option NodeId) → IsBefore c o → o ≡ Some q → (p : Option NodeId) → c.parent ≡ p → ((p ≡ None) × (c.prev ≡ Some q)) ⊎ (p ≡ Some q)
way-some c q o b e None f = inl (refl, sym (ap (λ x. before_at x c.prev) f) ∙ sym b ∙ e)
way-some c q o b e (Some p) f = inr (sym (ap (λ x. before_at x c.prev) f) ∙ sym b ∙ e)

earlier-on : (n : ℕ) (o : Option NodeId) (trees : Hedge ℕ) (q : NodeId) (step : ℕ) → IsEarlier n o trees → o ≡ Some q → n + step < size trees → IsOnWay trees q.0 (step + 1)
earlier-on n o trees q step e s l =
    let same : e.node ≡ q.0 = ap number_or (sym e.node_is ∙ s) in
    record { n = e.at; nth = subst (λ k. IsNth e.at k trees) same e.nth; early = omega (arith, e.less, l) }

pub way-next : (cs : List Cell) (node at step : ℕ) (o : Option NodeId) (q : NodeId) → OnWay cs node at step → ((c : Cell) → slice_get cs at ≡ Some c → IsBefore c o) → o ≡ Some q → OnWay cs node q.0 (step + 1)
way-next cs node at step o q w look e x =
    let f = found cs None None None x.trees (w x).n at x.laid (w x).nth in
    elim f.way [
      | inl y ↦ elim y.1 [
        | inl z ↦ (let bad : None ≡ Some q = sym (look f.cell f.there ∙ ap (λ p. before_at p f.cell.prev) y.0 ∙ z.1) ∙ e in cc)
        | inr z ↦ earlier-on (w x).n f.cell.prev x.trees q step z (sym (look f.cell f.there ∙ ap (λ p. before_at p f.cell.prev) y.0) ∙ e) (w x).early
      ]
      | inr y ↦ earlier-on (w x).n f.cell.parent x.trees q step y (y.node_is ∙ sym (look f.cell f.there ∙ ap (λ p. before_at p f.cell.prev) y.node_is) ∙ e) (w x).early
    ]

pub way-end : (cs : List Cell) (node at step : ℕ) (o : Option NodeId) → OnWay cs node at step → ((c : Cell) → slice_get cs at ≡ Some c → IsBefore c o) → o ≡ None → (x : IsAmong cs node) → first_id x.trees None ≡ Some (id at)
way-end cs node at step o w look e x =
    let f = found cs None None None x.trees (w x).n at x.laid (w x).nth in
    elim f.way [
      | inl y ↦ elim y.1 [
        | inl z ↦ first-nth (w x).n at x.trees z.0 (w x).nth
        | inr z ↦ (let bad : None ≡ Some (id z.node) = sym e ∙ look f.cell f.there ∙ ap (λ p. before_at p f.cell.prev) y.0 ∙ z.node_is in cc)
      ]
      | inr y ↦ (let bad : None ≡ Some (id y.node) = sym e ∙ look f.cell f.there ∙ ap (λ p. before_at p f.cell.prev) y.node_is in cc)
    ]

pub way-over : (cs : List Cell) (node at step : ℕ) → OnWay cs node at step → length cs ≤ step → IsAmong cs node → ⊥
way-over cs node at step w past x = omega (arith, (w x).early, past, x.fits)

-- whether a node is in the document

kept-kind : (cs : List Cell) (p v : Option NodeId) (h : Hedge ℕ) (w : Option NodeId) (k : ℕ) (z : Cell) → IsLaid cs p v h w → 0 < times k h → slice_get cs k ≡ Some z → z.kind ≡ Free → ⊥
kept-kind cs p v nil w k z l t g f = absurd (omega arith)
kept-kind cs p v (elem m a c r) w k z l t g f = elim (split2 (one_if k m) (times k c + times k r) t) [
  | inl x ↦ (let is : z ≡ elem_cell a p v (first_id r w) (first_id c None) (last_id c None) = one_cell z _ (slice_get cs k) g (ap (slice_get cs) (one_if-is k m x) ∙ l.0) in
      let bad : Elem a ≡ Free = sym (ap (λ (y : Cell). y.kind) is) ∙ f in cc)
  | inr y ↦ elim (split2 (times k c) (times k r) y) [ inl x ↦ kept-kind cs (Some (id m)) None c None k z l.1 x g f | inr x ↦ kept-kind cs p (Some (id m)) r w k z l.2 x g f ]
]
kept-kind cs p v (leaf m y r) w k z l t g f = elim (split2 (one_if k m) (times k r) t) [
  | inl x ↦ (let is : z ≡ leaf_cell y p v (first_id r w) = one_cell z _ (slice_get cs k) g (ap (slice_get cs) (one_if-is k m x) ∙ l.0) in
      let bad : Leaf y ≡ Free = sym (ap (λ (c : Cell). c.kind) is) ∙ f in cc)
  | inr x ↦ kept-kind cs p (Some (id m)) r w k z l.1 x g f
]

spare-kind : (cs : List Cell) (ms : List ℕ) (k : ℕ) (z : Cell) → IsSpare cs ms → 0 < times_in k ms → slice_get cs k ≡ Some z → z.kind ≡ Free
spare-kind cs [] k z s t g = absurd (omega arith)
spare-kind cs (m ∷ ms) k z s t g = elim (split2 (one_if k m) (times_in k ms) t) [
  | inl x ↦ ap (λ (y : Cell). y.kind) (one_cell z (free_cell (spare_head ms)) (slice_get cs k) g (ap (slice_get cs) (one_if-is k m x) ∙ s.0))
  | inr x ↦ spare-kind cs ms k z s.1 x g
]

some-cell : (cs : List Cell) (k : ℕ) (z : Cell) → z ≡ get_or cs k z → k < length cs → slice_get cs k ≡ Some z
some-cell cs k z e l = slice_get-get_or cs k z l ∙ ap Some (sym e)

document-among : {cs : List Cell} {t e f : Option NodeId} {m : Meaning} (k : ℕ) → IsTable cs t e f m → 0 < times k m.document → IsAmong cs k
document-among {cs} {t} {e} {f} {m} k i h =
    record { trees = m.document; laid = i.doc.laid; here = h; fits = omega (arith, i.all) }

run-among : {cs : List Cell} {t e f : Option NodeId} {m : Meaning} (k j : ℕ) → IsTable cs t e f m → 0 < times k (get_or m.unlinked j nil) → IsAmong cs k
run-among {cs} {t} {e} {f} {m} k j i h =
    record { trees = get_or m.unlinked j nil; laid = (i.runs j).laid; here = h; fits = omega (arith, i.all, get-or-sum size nil refl m.unlinked j) }

-- a node that isn't free is in the document or in an unlinked run
where-is : {cs : List Cell} {t e f : Option NodeId} {m : Meaning} (k : ℕ) (z : Cell) → IsTable cs t e f m → slice_get cs k ≡ Some z → (z.kind ≡ Free → ⊥) → (0 < times k m.document) ⊎ ((j : ℕ) × (0 < times k (get_or m.unlinked j nil)))
where-is {cs} {t} {e} {f} {m} k z i g n =
    elim (split2 (times k m.document) (sum_by (times k) m.unlinked + times_in k m.spare) (omega (arith, i.once k (slice_get_within cs k z g)))) [
      | inl x ↦ inl x
      | inr y ↦ elim (split2 (sum_by (times k) m.unlinked) (times_in k m.spare) y) [
        | inl x ↦ inr (some-term (times k) refl m.unlinked x)
        | inr x ↦ absurd (n (spare-kind cs m.spare k z i.spare x g))
      ]
    ]

pub among : {cs : List Cell} {t e f : Option NodeId} {m : Meaning} (slice : List Cell) (k : ℕ) (z : Cell) → IsTable cs t e f m → slice ≡ cs → z ≡ get_or cs k z → k < length cs → (z.kind ≡ Free → ⊥) → IsAmong slice k
among {cs} {t} {e} {f} {m} slice k z i s zg l n =
    subst (λ xs. IsAmong xs k) (sym s) (elim (where-is k z i (some-cell cs k z zg l) n) [ inl x ↦ document-among k i x | inr x ↦ run-among k x.0 i x.1 ])

pub held-past : {cs : List Cell} {t e f : Option NodeId} {m : Meaning} (k : ℕ) → IsTable cs t e f m → length cs ≤ k → 0 < times k m.document → ⊥
held-past {cs} {t} {e} {f} {m} k i past h =
    omega (arith, h, none_past cs None None m.document None k i.doc.laid past)

pub held-free : {cs : List Cell} {t e f : Option NodeId} {m : Meaning} (k : ℕ) (z : Cell) → IsTable cs t e f m → z ≡ get_or cs k z → z.kind ≡ Free → 0 < times k m.document → ⊥
held-free {cs} {t} {e} {f} {m} k z i zg free h =
    kept-kind cs None None m.document None k z i.doc.laid h (some-cell cs k z zg (laid-within cs None None m.document None k i.doc.laid h)) free

pub held-top : {cs : List Cell} {t e f : Option NodeId} {m : Meaning} (slice : List Cell) (k : ℕ) (root : NodeId) → IsTable cs t e f m → slice ≡ cs → ((x : IsAmong slice k) → first_id x.trees None ≡ Some root) → 0 < times k m.document → t ≡ Some root
unfolding document-among
held-top {cs} {t} {e} {f} {m} slice k root i s told h =
    let here : (x : IsAmong cs k) → first_id x.trees None ≡ Some root = subst (λ xs. (x : IsAmong xs k) → first_id x.trees None ≡ Some root) s told in
    i.doc.first_is ∙ here (document-among k i h)

pub top-held : {cs : List Cell} {t e f : Option NodeId} {m : Meaning} (slice : List Cell) (k : ℕ) (z : Cell) (root : NodeId) → IsTable cs t e f m → slice ≡ cs → z ≡ get_or cs k z → k < length cs → (z.kind ≡ Free → ⊥) → ((x : IsAmong slice k) → first_id x.trees None ≡ Some root) → t ≡ Some root → 0 < times k m.document
unfolding run-among
top-held {cs} {t} {e} {f} {m} slice k z root i s zg l n told is =
    let here : (x : IsAmong cs k) → first_id x.trees None ≡ Some root = subst (λ xs. (x : IsAmong xs k) → first_id x.trees None ≡ Some root) s told in
    elim (where-is k z i (some-cell cs k z zg l) n) [
      | inl x ↦ x
      | inr x ↦ absurd (omega (arith, first_within m.document root.0 (sym i.doc.first_is ∙ is), first_within (get_or m.unlinked x.0 nil) root.0 (here (run-among k x.0 i x.1)), apart cs t e f m x.0 root.0 i))
    ]

pub neither : {A B : Type 0} → (B → ⊥) → (IsTrue false → A) × (B → IsTrue false)
neither {A} {B} n = (λ bad. absurd (falsehood bad), λ b. absurd (n b))
  where
    falsehood : IsTrue false → ⊥
    falsehood bad = cc
