-- What the calls of a table have at hand.
use Rattle.std.proofs.Common.{◌≡◌, inl, inr, ℕ, ◌<◌, List, ◌∷◌, ◌++◌, length, take, drop, Option, Some, None, refl, ap, ap₂, ◌∙◌, sym, subst, arith}
use Rattle.std.specs.List.{slice_get}
use Rattle.std.proofs.Math.ListN.{get_or}
use Rattle.std.proofs.Math.Seq.{take-append_seam}
use Rattle.flux_trees.specs.Hedge.{Hedge, nil, elem, leaf, first, others}
use Rattle.flux_trees.specs.Frame.{Frame, Before, plug}
use Rattle.flux_trees.specs.Edits.{last_or, parent_in, left_in, place_in}
use Rattle.flux_trees.specs.Edits.{Place as TreePlace}
use Rattle.flux_trees.proofs.HedgeLaws.{join-first}
use Rattle.flux_nodes.specs.declared.cell.NodeId.{NodeId}
use Rattle.flux_nodes.specs.declared.cell.Cell.{Cell}
use Rattle.flux_nodes.specs.declared.cell.Kind.TheVariants.{Elem}
use Rattle.flux_nodes.specs.declared.run.Run.{Run}
use Rattle.flux_nodes.specs.declared.run.Place.{Place}
use Rattle.flux_nodes.specs.Tables.{Meaning, made_in, number_of, tree_place, first_or, right_in, IsRunOf, RunAt, PlaceAt, ElementAt, NodeAt, IsHandedOut, IsCellOf, IsUnlinked, after_unlink, after_link, after_label}
use Rattle.flux_nodes.specs.Decoded.{meaning_of}
use Rattle.flux_nodes.specs.Laid.{id, first_id, last_id, elem_cell, leaf_cell, IsLaid, edit, with_kind}
use Rattle.flux_nodes.specs.Seats.{IsDoc, Seat, parent_of}
use Rattle.flux_nodes.specs.Kept.{IsTable, IsHeld, HasRun, HasPlace, seat_unlink, seat_link}
use Rattle.flux_nodes.proofs.SeatLaws.{seat-split}
use Rattle.flux_nodes.proofs.SeenLaws.{seen, holds}
use Rattle.flux_nodes.proofs.CallLaws.{unlinked-table, linked-table, labelled}
use Rattle.flux_nodes.proofs.FrameLaws.{number-ids, first-ids, last-ids, seat_of, plug-seat, parent-seat, left-seat, right-seat, run_seat, place_seat, element_seat, loose, unlink-frames, link-frames, label-frames}
use Rattle.std.proofs.lemmas.Option.{slice_get_within, get_or_from_slice_get}

-- the vector after a call on its cells holds what the call wrote
pub written : (n : ℕ) (new old : List Cell) → n ≡ length new → take n (new ++ drop (length new) old) ≡ new
written n new old e =
    ap (λ k. take k (new ++ drop (length new) old)) e ∙ take-append_seam new (drop (length new) old)

pub table_of : {cs : List Cell} {t e f : Option NodeId} {made : ℕ} {m : Meaning} → IsHeld cs t e f made → meaning_of cs t f ≡ m → IsTable cs t e f m
table_of {cs} {t} {e} {f} {made} {m} i v = subst (IsTable cs t e f) v i.table

-- what the fields keep, where as many cells are free as before
pub keep : (cs bs : List Cell) (t e f x y : Option NodeId) (made : ℕ) (m n : Meaning) → IsHeld cs t e f made → meaning_of cs t f ≡ m → length bs ≡ length cs → length n.spare ≡ length m.spare → IsTable bs x y f n → IsHeld bs x y f made
keep cs bs t e f x y made m n i v len spare j =
    let old : IsTable cs t e f m = table_of i v in
    let made_is : made ≡ made_in m = i.made_is ∙ ap made_in v in
    let same : made ≡ made_in n = omega (arith, made_is, old.all, j.all, len, spare) in
    record { table = holds bs x y f n j; made_is = same ∙ ap made_in (sym (seen bs x y f n j)) }

pub unlinked-now : (items slice bs : List Cell) (t e f x y : Option NodeId) (made : ℕ) (m : Meaning) (run : Run) → slice ≡ items → IsHeld items t e f made → meaning_of items t f ≡ m → ((h : HasRun slice t e run) → IsTable bs x y h.free (seat_unlink h.meaning run h.at.seat h.at.trees)) → (at : RunAt m.document run) → IsTable bs x y f (after_unlink m run at.frames at.trees)
unlinked-now items slice bs t e f x y made m run s i v done at =
    subst (IsTable bs x y f) (unlink-frames m run at.frames at.trees) (unlinked-table items slice bs t e f x y m run s i.table v done (run_seat at))

pub linked-now : (items slice bs : List Cell) (t e f x y : Option NodeId) (made : ℕ) (m : Meaning) (place : Place) (run : Run) → slice ≡ items → IsHeld items t e f made → meaning_of items t f ≡ m → IsUnlinked m run → ((h : HasPlace slice t e place run) → IsTable bs x y h.free (seat_link h.meaning run h.at.seat)) → (at : PlaceAt m.document place) → IsTable bs x y f (after_link m run at.frames)
linked-now items slice bs t e f x y made m place run s i v l done at =
    subst (IsTable bs x y f) (link-frames m run at.frames) (linked-table items slice bs t e f x y m place run s i.table v (loose l) done (place_seat at))

pub labelled-now : (cs : List Cell) (t e f : Option NodeId) (made : ℕ) (m : Meaning) (node : NodeId) (name : ℕ) → IsHeld cs t e f made → meaning_of cs t f ≡ m → (at : ElementAt m.document node) → IsTable (edit (with_kind (Elem name)) node.0 cs) t e f (after_label m node name at.frames at.inside)
labelled-now cs t e f made m node name i v at =
    subst (IsTable (edit (with_kind (Elem name)) node.0 cs) t e f) (label-frames m node name at.frames at.inside) (labelled cs t e f m node name (table_of i v) (element_seat at))

-- the cell of a node, in a forest that is laid out
pub node-cell : (cs : List Cell) (h : Hedge ℕ) (node : NodeId) → IsLaid cs None None h None → (at : NodeAt h node) → (c : Cell) × (slice_get cs node.0 ≡ Some c) × IsCellOf c at.frames at.tree
node-cell cs h node l at =
    let doc : IsDoc cs (first_id h None) (last_id h None) h = record { laid = l; first_is = refl; last_is = refl } in
    let s : Seat = seat_of at.frames in
    let split = seat-split cs (first_id h None) (last_id h None) s.above s.left at.tree s.right (subst (IsDoc cs (first_id h None) (last_id h None)) (at.forest_is ∙ plug-seat at.frames at.tree) doc) in
    go at.tree at.alone at.number_is split.1
  where
    p : Option NodeId
    p = parent_of (seat_of at.frames).above

    go : (tree : Hedge ℕ) → others tree ≡ nil → first_or None tree ≡ Some node.0 → IsLaid cs (parent_of (seat_of at.frames).above) (last_id (seat_of at.frames).left None) tree (first_id (seat_of at.frames).right None) → (c : Cell) × (slice_get cs node.0 ≡ Some c) × IsCellOf c at.frames tree
    go nil a n k = cc
    go (elem m b d r) a n k =
        let same : m ≡ node.0 = let e : Some m ≡ Some node.0 = n in cc in (
          elem_cell b (parent_of (seat_of at.frames).above) (last_id (seat_of at.frames).left None) (first_id r (first_id (seat_of at.frames).right None)) (first_id d None) (last_id d None),
          ap (slice_get cs) (sym same) ∙ k.0,
          record {
            kind_is = refl;
            parent_is = ap number_of (parent-seat at.frames) ∙ number-ids (parent_in at.frames);
            prev_is = ap number_of (left-seat at.frames) ∙ number-ids (left_in at.frames);
            next_is = ap number_of (ap (λ h. first_id h (first_id (seat_of at.frames).right None)) a ∙ right-seat at.frames) ∙ number-ids (right_in at.frames);
            first_is = ap number_of (first-ids d None) ∙ number-ids (first_or None d);
            last_is = ap number_of (last-ids d None) ∙ number-ids (last_or None d);
          },
        )
    go (leaf m x r) a n k =
        let same : m ≡ node.0 = let e : Some m ≡ Some node.0 = n in cc in (
          leaf_cell x (parent_of (seat_of at.frames).above) (last_id (seat_of at.frames).left None) (first_id r (first_id (seat_of at.frames).right None)),
          ap (slice_get cs) (sym same) ∙ k.0,
          record {
            kind_is = refl;
            parent_is = ap number_of (parent-seat at.frames) ∙ number-ids (parent_in at.frames);
            prev_is = ap number_of (left-seat at.frames) ∙ number-ids (left_in at.frames);
            next_is = ap number_of (ap (λ h. first_id h (first_id (seat_of at.frames).right None)) a ∙ right-seat at.frames) ∙ number-ids (right_in at.frames);
            first_is = refl;
            last_is = refl;
          },
        )

pub node-within : (cs : List Cell) (t e f : Option NodeId) (made : ℕ) (m : Meaning) (node : NodeId) → IsHeld cs t e f made → meaning_of cs t f ≡ m → IsHandedOut m node → node.0 < length cs
node-within cs t e f made m node i v (inl at) =
    let there = node-cell cs m.document node (table_of i v).doc.laid at in
    slice_get_within cs node.0 there.0 there.1
node-within cs t e f made m node i v (inr at) =
    let there = node-cell cs (get_or m.unlinked at.0 nil) node ((table_of i v).runs at.0).laid at.1 in
    slice_get_within cs node.0 there.0 there.1

pub nonempty : (h : Hedge ℕ) (n : ℕ) → first_or None h ≡ Some n → (others (first h) ≡ nil) × (first_or None (first h) ≡ Some n)
nonempty nil n e = cc
nonempty (elem m a c r) n e = (refl, e)
nonempty (leaf m x r) n e = (refl, e)

-- the first tree of a run
abbrev pub first_node : {h : Hedge ℕ} {run : Run} → RunAt h run → NodeAt h run.first
first_node {h} {run} at = record {
  frames = Before (others at.trees) ∷ at.frames;
  tree = first at.trees;
  forest_is = at.forest_is ∙ ap (plug at.frames) (sym (join-first at.trees));
  alone = (nonempty at.trees run.first.0 at.ends.first_is).0;
  number_is = (nonempty at.trees run.first.0 at.ends.first_is).1;
}

pub place-is : (c : Cell) (fs : List (Frame ℕ)) (rest tree : Hedge ℕ) → IsCellOf c (Before rest ∷ fs) tree → place_in fs ≡ tree_place (record { parent = c.parent; after = c.prev })
place-is c fs rest tree i =
    ap₂ (λ (p l : Option ℕ). let place : TreePlace = record { parent = p; left = l } in place) (sym i.parent_is) (sym i.prev_is)

pub none-nil : (h : Hedge ℕ) → None ≡ first_id h None → h ≡ nil
none-nil nil e = refl
none-nil (elem m a c r) e = cc
none-nil (leaf m x r) e = cc

last-nil : (h : Hedge ℕ) (m : ℕ) → None ≡ last_id h (Some (id m)) → ⊥
last-nil nil m e = cc
last-nil (elem n a c r) m e = last-nil r n e
last-nil (leaf n x r) m e = last-nil r n e

pub no_last-nil : (h : Hedge ℕ) → None ≡ last_id h None → h ≡ nil
no_last-nil nil e = refl
no_last-nil (elem m a c r) e = absurd (last-nil r m e)
no_last-nil (leaf m x r) e = absurd (last-nil r m e)

pub run-of-top : (cs : List Cell) (t e : Option NodeId) (d : Hedge ℕ) (a b : NodeId) → IsDoc cs t e d → t ≡ Some a → e ≡ Some b → IsRunOf (Some (record { first = a; last = b })) d
run-of-top cs t e d a b i x y = record {
  first_is = sym (number-ids (first_or None d)) ∙ ap number_of (sym (first-ids d None) ∙ sym i.first_is ∙ x);
  last_is = sym (number-ids (last_or None d)) ∙ ap number_of (sym (last-ids d None) ∙ sym i.last_is ∙ y);
}

pub cell-is : (cs : List Cell) (h : Hedge ℕ) (node : NodeId) (c : Cell) → c ≡ get_or cs node.0 c → IsLaid cs None None h None → (at : NodeAt h node) → IsCellOf c at.frames at.tree
cell-is cs h node c e l at =
    let there = node-cell cs h node l at in
    let same : there.0 ≡ c = sym (get_or_from_slice_get cs node.0 there.0 c there.1) ∙ sym e in
    subst (λ d. IsCellOf d at.frames at.tree) same there.2
