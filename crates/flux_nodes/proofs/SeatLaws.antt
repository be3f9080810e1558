use Rattle.flux_nodes.specs.Tables.{one_if, times}
use Rattle.std.proofs.Common.{◌≡◌, ℕ, ◌+◌, ◌<◌, ◌≤◌, List, Option, Some, None, refl, ap, ◌∙◌, sym, subst, arith}
use Rattle.std.specs.List.{slice_get}
use Rattle.flux_trees.specs.Hedge.{Hedge, nil, elem, leaf, join, size}
use Rattle.flux_trees.proofs.HedgeLaws.{size-join}
use Rattle.flux_nodes.specs.declared.cell.NodeId.{NodeId}
use Rattle.flux_nodes.specs.declared.cell.Cell.{Cell}
use Rattle.flux_nodes.specs.Laid.{id, first_id, last_id, elem_cell, IsLaid, edit, with_next, with_prev, with_first, with_last}
use Rattle.flux_nodes.specs.Seats.{Above, top, under, fill, parent_of, times_above, IsAbove, ahead, ahead_top, behind, behind_top, IsDoc}
use Rattle.flux_nodes.proofs.LaidLaws.{one_if-same, edit-same, edit-other, kept, kept-edit, first_id-join, last_id-join, times-join, laid-join, join-laid, last_some, last_within, relink_next, relink_prev, first_within, first_id-any, last_id-any}

pub times-fill : (k : ℕ) (u : Above) (h : Hedge ℕ) → times k (fill u h) ≡ times_above k u + times k h
times-fill k top h = omega arith
times-fill k (under u l m a r) h =
    omega (arith, times-fill k u (join l (elem m a h r)), times-join k l (elem m a h r))

-- a document is what stands at a place and what stands around it
pub fill-split : (cs : List Cell) (t e : Option NodeId) (u : Above) (h : Hedge ℕ) → IsDoc cs t e (fill u h) → IsAbove cs t e u (first_id h None) (last_id h None) × IsLaid cs (parent_of u) None h None
fill-split cs t e top h d = ((d.first_is, d.last_is), d.laid)
fill-split cs t e (under u l m a r) h d =
    let outer = fill-split cs t e u (join l (elem m a h r)) d in
    let parts = laid-join cs (parent_of u) None l (elem m a h r) None outer.1 in
    let f : first_id (join l (elem m a h r)) None ≡ first_id l (Some (id m)) = first_id-join l (elem m a h r) None in
    let b : last_id (join l (elem m a h r)) None ≡ last_id r (Some (id m)) = last_id-join l (elem m a h r) None in
    ((parts.1.0, parts.0, parts.1.2, subst (λ o. IsAbove cs t e u (first_id l (Some (id m))) o) b (subst (λ o. IsAbove cs t e u o (last_id (join l (elem m a h r)) None)) f outer.0)), parts.1.1)

pub fill-join : (cs : List Cell) (t e : Option NodeId) (u : Above) (h : Hedge ℕ) → IsAbove cs t e u (first_id h None) (last_id h None) → IsLaid cs (parent_of u) None h None → IsDoc cs t e (fill u h)
fill-join cs t e top h i l = record { laid = l; first_is = i.0; last_is = i.1 }
fill-join cs t e (under u l m a r) h i k =
    let f : first_id (join l (elem m a h r)) None ≡ first_id l (Some (id m)) = first_id-join l (elem m a h r) None in
    let b : last_id (join l (elem m a h r)) None ≡ last_id r (Some (id m)) = last_id-join l (elem m a h r) None in
    fill-join cs t e u (join l (elem m a h r)) (subst (λ o. IsAbove cs t e u o (last_id (join l (elem m a h r)) None)) (sym f) (subst (λ o. IsAbove cs t e u (first_id l (Some (id m))) o) (sym b) i.3)) (join-laid cs (parent_of u) None l (elem m a h r) None i.1 (i.0, k, i.2))

pub above-kept : (cs bs : List Cell) (t e : Option NodeId) (u : Above) (f b : Option NodeId) → ((k : ℕ) → 0 < times_above k u → slice_get bs k ≡ slice_get cs k) → IsAbove cs t e u f b → IsAbove bs t e u f b
above-kept cs bs t e top f b same i = i
above-kept cs bs t e (under u l m a r) f b same i =
    (same m (omega (arith, one_if-same m)) ∙ i.0, kept cs bs (parent_of u) None l (Some (id m)) (λ k h. same k (omega arith)) i.1, kept cs bs (parent_of u) (Some (id m)) r None (λ k h. same k (omega arith)) i.2, above-kept cs bs t e u (first_id l (Some (id m))) (last_id r (Some (id m))) (λ k h. same k (omega arith)) i.3)

pub above-kept-edit : (g : Cell → Cell) (q : ℕ) (cs : List Cell) (t e : Option NodeId) (u : Above) (f b : Option NodeId) → times_above q u ≡ 0 → IsAbove cs t e u f b → IsAbove (edit g q cs) t e u f b
above-kept-edit g q cs t e u f b z i =
    above-kept cs (edit g q cs) t e u f b (λ k h. edit-other g q k cs (λ s. let at : 0 < times_above q u = subst (λ j. 0 < times_above j u) s h in absurd (omega arith))) i

pub record IsAheadSet (cs bs : List Cell) (t e : Option NodeId) (u : Above) (l : Hedge ℕ) (b x : Option NodeId) : Type 0 where
  pub above : IsAbove bs t e u (first_id l x) b
  pub left : IsLaid bs (parent_of u) None l x
  pub others : (k : ℕ) → times_above k u + times k l ≡ 0 → slice_get bs k ≡ slice_get cs k

set-ahead-some : (cs : List Cell) (t e : Option NodeId) (u : Above) (l : Hedge ℕ) (b w x : Option NodeId) (q : ℕ) → last_id l None ≡ Some (id q) → IsAbove cs t e u (first_id l w) b → IsLaid cs (parent_of u) None l w → ((k : ℕ) → times_above k u + times k l ≤ 1) → IsAheadSet cs (ahead cs (parent_of u) (last_id l None) x) (ahead_top t (parent_of u) (last_id l None) x) e u l b x
set-ahead-some cs t e u l b w x q last i j d =
    let here : 0 < times q l = last_within l q last in
    let same : first_id l w ≡ first_id l x = first_id-any l w x q here in
    let set : IsAheadSet cs (edit (with_next x) q cs) t e u l b x = record {
      above = above-kept-edit (with_next x) q cs t e u (first_id l x) b (omega (arith, d q)) (subst (λ o. IsAbove cs t e u o b) same i);
      left = relink_next cs (parent_of u) None l w x q last j (λ k. omega (arith, d k));
      others = λ k z. edit-other (with_next x) q k cs (λ s. let at : 0 < times k l = subst (λ n. 0 < times n l) (sym s) here in absurd (omega arith));
    } in
    subst (λ o. IsAheadSet cs (ahead cs (parent_of u) o x) (ahead_top t (parent_of u) o x) e u l b x) (sym last) set

-- what follows the trees before a place is changed
pub set-ahead : (cs : List Cell) (t e : Option NodeId) (u : Above) (l : Hedge ℕ) (b w x : Option NodeId) → IsAbove cs t e u (first_id l w) b → IsLaid cs (parent_of u) None l w → ((k : ℕ) → times_above k u + times k l ≤ 1) → IsAheadSet cs (ahead cs (parent_of u) (last_id l None) x) (ahead_top t (parent_of u) (last_id l None) x) e u l b x
set-ahead cs t e top nil b w x i l d = record { above = (refl, i.1); left = tt; others = λ k z. refl }
set-ahead cs t e (under u l m a r) nil b w x i j d = record {
  above =
      (edit-same (with_first x) m cs (elem_cell a (parent_of u) (last_id l None) (first_id r None) w b) i.0, kept-edit (with_first x) m cs (parent_of u) None l (Some (id m)) (omega (arith, d m, one_if-same m)) i.1, kept-edit (with_first x) m cs (parent_of u) (Some (id m)) r None (omega (arith, d m, one_if-same m)) i.2, above-kept-edit (with_first x) m cs t e u (first_id l (Some (id m))) (last_id r (Some (id m))) (omega (arith, d m, one_if-same m)) i.3);
  left = tt;
  others =
      λ k z. edit-other (with_first x) m k cs (λ s. let one : one_if k m ≡ 1 = ap (one_if k) (sym s) ∙ one_if-same k in absurd (omega arith));
}
set-ahead cs t e u (elem n c g s) b w x i j d = set-ahead-some cs t e u (elem n c g s) b w x (last_some s n).0 (last_some s n).1 i j d
set-ahead cs t e u (leaf n y s) b w x i j d = set-ahead-some cs t e u (leaf n y s) b w x (last_some s n).0 (last_some s n).1 i j d

pub record IsBehindSet (cs bs : List Cell) (t e : Option NodeId) (u : Above) (r : Hedge ℕ) (f x : Option NodeId) : Type 0 where
  pub above : IsAbove bs t e u f (last_id r x)
  pub right : IsLaid bs (parent_of u) x r None
  pub others : (k : ℕ) → times_above k u + times k r ≡ 0 → slice_get bs k ≡ slice_get cs k

set-behind-some : (cs : List Cell) (t e : Option NodeId) (u : Above) (r : Hedge ℕ) (f v x : Option NodeId) (q : ℕ) → first_id r None ≡ Some (id q) → IsAbove cs t e u f (last_id r v) → IsLaid cs (parent_of u) v r None → ((k : ℕ) → times_above k u + times k r ≤ 1) → IsBehindSet cs (behind cs (parent_of u) (first_id r None) x) t (behind_top e (parent_of u) (first_id r None) x) u r f x
set-behind-some cs t e u r f v x q first i j d =
    let here : 0 < times q r = first_within r q first in
    let same : last_id r v ≡ last_id r x = last_id-any r v x q here in
    let set : IsBehindSet cs (edit (with_prev x) q cs) t e u r f x = record {
      above = above-kept-edit (with_prev x) q cs t e u f (last_id r x) (omega (arith, d q)) (subst (λ o. IsAbove cs t e u f o) same i);
      right = relink_prev cs (parent_of u) v r None x q first j (λ k. omega (arith, d k));
      others = λ k z. edit-other (with_prev x) q k cs (λ s. let at : 0 < times k r = subst (λ n. 0 < times n r) (sym s) here in absurd (omega arith));
    } in
    subst (λ o. IsBehindSet cs (behind cs (parent_of u) o x) t (behind_top e (parent_of u) o x) u r f x) (sym first) set

-- what stands before the trees after a place is changed
pub set-behind : (cs : List Cell) (t e : Option NodeId) (u : Above) (r : Hedge ℕ) (f v x : Option NodeId) → IsAbove cs t e u f (last_id r v) → IsLaid cs (parent_of u) v r None → ((k : ℕ) → times_above k u + times k r ≤ 1) → IsBehindSet cs (behind cs (parent_of u) (first_id r None) x) t (behind_top e (parent_of u) (first_id r None) x) u r f x
set-behind cs t e top nil f v x i j d = record { above = (i.0, refl); right = tt; others = λ k z. refl }
set-behind cs t e (under u l m a r) nil f v x i j d = record {
  above =
      (edit-same (with_last x) m cs (elem_cell a (parent_of u) (last_id l None) (first_id r None) f v) i.0, kept-edit (with_last x) m cs (parent_of u) None l (Some (id m)) (omega (arith, d m, one_if-same m)) i.1, kept-edit (with_last x) m cs (parent_of u) (Some (id m)) r None (omega (arith, d m, one_if-same m)) i.2, above-kept-edit (with_last x) m cs t e u (first_id l (Some (id m))) (last_id r (Some (id m))) (omega (arith, d m, one_if-same m)) i.3);
  right = tt;
  others =
      λ k z. edit-other (with_last x) m k cs (λ s. let one : one_if k m ≡ 1 = ap (one_if k) (sym s) ∙ one_if-same k in absurd (omega arith));
}
set-behind cs t e u (elem n c g s) f v x i j d = set-behind-some cs t e u (elem n c g s) f v x n refl i j d
set-behind cs t e u (leaf n y s) f v x i j d = set-behind-some cs t e u (leaf n y s) f v x n refl i j d

-- what stands around a place, between v and w there
pub record IsAround (cs : List Cell) (t e : Option NodeId) (u : Above) (l r : Hedge ℕ) (w v : Option NodeId) : Type 0 where
  pub above : IsAbove cs t e u (first_id l w) (last_id r v)
  pub left : IsLaid cs (parent_of u) None l w
  pub right : IsLaid cs (parent_of u) v r None

abbrev pub reseated : List Cell → Option NodeId → Option NodeId → Option NodeId → Option NodeId → Option NodeId → List Cell
reseated cs p v w ahead_to behind_to = behind (ahead cs p v ahead_to) p w behind_to

pub record IsReseated (cs bs : List Cell) (t e : Option NodeId) (u : Above) (l r : Hedge ℕ) (w v : Option NodeId) : Type 0 where
  pub around : IsAround bs t e u l r w v
  pub others : (k : ℕ) → times_above k u + (times k l + times k r) ≡ 0 → slice_get bs k ≡ slice_get cs k

pub reseat : (cs : List Cell) (t e : Option NodeId) (u : Above) (l r : Hedge ℕ) (w v x y : Option NodeId) → IsAround cs t e u l r w v → ((k : ℕ) → times_above k u + (times k l + times k r) ≤ 1) → IsReseated cs (reseated cs (parent_of u) (last_id l None) (first_id r None) x y) (ahead_top t (parent_of u) (last_id l None) x) (behind_top e (parent_of u) (first_id r None) y) u l r x y
reseat cs t e u l r w v x y a d =
    let one : IsAheadSet cs (ahead cs (parent_of u) (last_id l None) x) (ahead_top t (parent_of u) (last_id l None) x) e u l (last_id r v) x = set-ahead cs t e u l (last_id r v) w x a.above a.left (λ k. omega (arith, d k)) in
    let right : IsLaid (ahead cs (parent_of u) (last_id l None) x) (parent_of u) v r None = kept cs (ahead cs (parent_of u) (last_id l None) x) (parent_of u) v r None (λ k h. one.others k (omega (arith, d k))) a.right in
    let two : IsBehindSet (ahead cs (parent_of u) (last_id l None) x) (reseated cs (parent_of u) (last_id l None) (first_id r None) x y) (ahead_top t (parent_of u) (last_id l None) x) (behind_top e (parent_of u) (first_id r None) y) u r (first_id l x) y = set-behind (ahead cs (parent_of u) (last_id l None) x) (ahead_top t (parent_of u) (last_id l None) x) e u r (first_id l x) v y one.above right (λ k. omega (arith, d k)) in
    record {
      around = record {
        above = two.above;
        left = kept (ahead cs (parent_of u) (last_id l None) x) (reseated cs (parent_of u) (last_id l None) (first_id r None) x y) (parent_of u) None l x (λ k h. two.others k (omega (arith, d k))) one.left;
        right = two.right;
      };
      others = λ k z. two.others k (omega arith) ∙ one.others k (omega arith);
    }

pub size-fill : (u : Above) (h : Hedge ℕ) → size (fill u h) ≡ size (fill u nil) + size h
size-fill top h = omega arith
size-fill (under u l m a r) h =
    omega (arith, size-fill u (join l (elem m a h r)), size-fill u (join l (elem m a nil r)), size-join l (elem m a h r), size-join l (elem m a nil r))

pub times-seated : (k : ℕ) (u : Above) (l h r : Hedge ℕ) → times k (fill u (join l (join h r))) ≡ times_above k u + (times k l + (times k h + times k r))
times-seated k u l h r =
    omega (arith, times-fill k u (join l (join h r)), times-join k l (join h r), times-join k h r)

pub seat-split : (cs : List Cell) (t e : Option NodeId) (u : Above) (l h r : Hedge ℕ) → IsDoc cs t e (fill u (join l (join h r))) → IsAround cs t e u l r (first_id h (first_id r None)) (last_id h (last_id l None)) × IsLaid cs (parent_of u) (last_id l None) h (first_id r None)
seat-split cs t e u l h r d =
    let outer = fill-split cs t e u (join l (join h r)) d in
    let parts = laid-join cs (parent_of u) None l (join h r) None outer.1 in
    let more = laid-join cs (parent_of u) (last_id l None) h r None parts.1 in
    let f : first_id (join l (join h r)) None ≡ first_id l (first_id h (first_id r None)) = first_id-join l (join h r) None ∙ ap (first_id l) (first_id-join h r None) in
    let b : last_id (join l (join h r)) None ≡ last_id r (last_id h (last_id l None)) = last_id-join l (join h r) None ∙ last_id-join h r (last_id l None) in (
      record {
        above = subst (λ o. IsAbove cs t e u (first_id l (first_id h (first_id r None))) o) b (subst (λ o. IsAbove cs t e u o (last_id (join l (join h r)) None)) f outer.0);
        left = subst (λ o. IsLaid cs (parent_of u) None l o) (first_id-join h r None) parts.0;
        right = more.1;
      },
      more.0,
    )

pub seat-join : (cs : List Cell) (t e : Option NodeId) (u : Above) (l h r : Hedge ℕ) → IsAround cs t e u l r (first_id h (first_id r None)) (last_id h (last_id l None)) → IsLaid cs (parent_of u) (last_id l None) h (first_id r None) → IsDoc cs t e (fill u (join l (join h r)))
seat-join cs t e u l h r a k =
    let f : first_id (join l (join h r)) None ≡ first_id l (first_id h (first_id r None)) = first_id-join l (join h r) None ∙ ap (first_id l) (first_id-join h r None) in
    let b : last_id (join l (join h r)) None ≡ last_id r (last_id h (last_id l None)) = last_id-join l (join h r) None ∙ last_id-join h r (last_id l None) in
    fill-join cs t e u (join l (join h r)) (subst (λ o. IsAbove cs t e u o (last_id (join l (join h r)) None)) (sym f) (subst (λ o. IsAbove cs t e u (first_id l (first_id h (first_id r None))) o) (sym b) a.above)) (join-laid cs (parent_of u) None l (join h r) None (subst (λ o. IsLaid cs (parent_of u) None l o) (sym (first_id-join h r None)) a.left) (join-laid cs (parent_of u) (last_id l None) h r None k a.right))

pub around-kept : (cs bs : List Cell) (t e : Option NodeId) (u : Above) (l r : Hedge ℕ) (w v : Option NodeId) → ((k : ℕ) → 0 < times_above k u + (times k l + times k r) → slice_get bs k ≡ slice_get cs k) → IsAround cs t e u l r w v → IsAround bs t e u l r w v
around-kept cs bs t e u l r w v same a = record {
  above =
      above-kept cs bs t e u (first_id l w) (last_id r v) (λ k h. same k (omega arith)) a.above;
  left = kept cs bs (parent_of u) None l w (λ k h. same k (omega arith)) a.left;
  right = kept cs bs (parent_of u) v r None (λ k h. same k (omega arith)) a.right;
}
