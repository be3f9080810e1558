use Rattle.flux_nodes.specs.Tables.{times}
use Rattle.std.proofs.Common.{◌≡◌, inl, inr, ℕ, ◌+◌, ◌<◌, ◌≤◌, zero, suc, List, length, Option, Some, None, refl, ap, ◌∙◌, sym, subst, arith}
use Rattle.std.proofs.lemmas.Bool.{cases_lt}
use Rattle.std.specs.List.{slice_get}
use Rattle.std.proofs.Math.ListN.{get_or}
use Rattle.flux_trees.specs.Hedge.{Hedge, nil, join, size}
use Rattle.flux_nodes.specs.declared.cell.NodeId.{NodeId}
use Rattle.flux_nodes.specs.declared.cell.Cell.{Cell}
use Rattle.flux_nodes.specs.declared.run.Run.{Run}
use Rattle.flux_nodes.specs.Laid.{first_id, last_id, IsLaid, edit, with_prev, with_next, with_first, with_last, RunLaid, IsUnder}
use Rattle.flux_nodes.specs.Seats.{IsDoc, Seat, seated, parent_of, times_above, ahead, ahead_top, behind, behind_top}
use Rattle.flux_nodes.specs.Tables.{Meaning, trees_at}
use Rattle.flux_nodes.specs.Kept.{IsTable, RunSeat, seat_unlink, seat_link}
use Rattle.flux_nodes.proofs.LaidLaws.{edit-length, edit-other, kept, first_within, last_within, relink_prev, relink_next}
use Rattle.flux_nodes.proofs.SeatLaws.{IsAround, reseated, reseat, seat-split, seat-join, around-kept, times-seated, size-fill}
use Rattle.flux_nodes.proofs.TableLaws.{moved, laid-within, get-or-sum}
use Rattle.flux_trees.proofs.HedgeLaws.{size-join}

pub none_past : (cs : List Cell) (p v : Option NodeId) (h : Hedge ℕ) (w : Option NodeId) (k : ℕ) → IsLaid cs p v h w → length cs ≤ k → times k h ≡ 0
none_past cs p v h w k l past = go (times k h) refl
  where
    go : (n : ℕ) → times k h ≡ n → times k h ≡ 0
    go zero e = e
    go (suc n) e = let here : k < length cs = laid-within cs p v h w k l (omega arith) in absurd (omega arith)

-- no number stands twice in the document and a run
pub apart : (cs : List Cell) (t e f : Option NodeId) (m : Meaning) (a k : ℕ) → IsTable cs t e f m → times k m.document + times k (get_or m.unlinked a nil) ≤ 1
apart cs t e f m a k i =
    elim (cases_lt k (length cs)) [
      | inl h ↦ omega (arith, i.once k h, get-or-sum (times k) nil refl m.unlinked a)
      | inr h ↦ omega (arith, none_past cs None None m.document None k i.doc.laid h, none_past cs None None (get_or m.unlinked a nil) None k (i.runs a).laid h)
    ]

-- where a run of the document begins no unlinked run begins
pub not_loose : (cs : List Cell) (t e f : Option NodeId) (m : Meaning) (a : ℕ) → IsTable cs t e f m → 0 < times a m.document → get_or m.unlinked a nil ≡ nil
not_loose cs t e f m a i h = elim (i.runs a).begins [
  | inl s ↦ s
  | inr s ↦ absurd (omega (arith, first_within (get_or m.unlinked a nil) a s, apart cs t e f m a a i))
]

pub record IsMoved (cs bs : List Cell) (p v w : Option NodeId) (h : Hedge ℕ) : Type 0 where
  pub laid : IsLaid bs p v h w
  pub others : (k : ℕ) → times k h ≡ 0 → slice_get bs k ≡ slice_get cs k
  pub length_is : length bs ≡ length cs

-- the ends of a run whose trees have their parent already
pub ends : (cs bs : List Cell) (run : Run) (p v w : Option NodeId) (r : RunLaid cs run) → IsUnder cs bs run p r → length bs ≡ length cs → IsMoved cs (edit (with_next w) run.last.0 (edit (with_prev v) run.first.0 bs)) p v w r.trees
ends cs bs run p v w r s len = record {
  laid =
      relink_next (edit (with_prev v) run.first.0 bs) p v r.trees r.next w run.last.0 r.last_is (relink_prev bs p r.prev r.trees r.next v run.first.0 r.first_is s.laid r.once) r.once;
  others =
      λ k z. edit-other (with_next w) run.last.0 k (edit (with_prev v) run.first.0 bs) (λ q. let here : 0 < times k r.trees = subst (λ j. 0 < times j r.trees) (sym q) (last_within r.trees run.last.0 r.last_is) in absurd (omega arith)) ∙ edit-other (with_prev v) run.first.0 k bs (λ q. let here : 0 < times k r.trees = subst (λ j. 0 < times j r.trees) (sym q) (first_within r.trees run.first.0 r.first_is) in absurd (omega arith)) ∙ s.others k z;
  length_is =
      edit-length (with_next w) run.last.0 (edit (with_prev v) run.first.0 bs) ∙ edit-length (with_prev v) run.first.0 bs ∙ len;
}

pub length-ahead : (cs : List Cell) (p v w : Option NodeId) → length (ahead cs p v w) ≡ length cs
length-ahead cs p (Some v) w = edit-length (with_next w) v.0 cs
length-ahead cs (Some p) None w = edit-length (with_first w) p.0 cs
length-ahead cs None None w = refl

pub length-behind : (cs : List Cell) (p w v : Option NodeId) → length (behind cs p w v) ≡ length cs
length-behind cs p (Some w) v = edit-length (with_prev v) w.0 cs
length-behind cs (Some p) None v = edit-length (with_last v) p.0 cs
length-behind cs None None v = refl

pub length-reseated : (cs : List Cell) (p v w x y : Option NodeId) → length (reseated cs p v w x y) ≡ length cs
length-reseated cs p v w x y = length-behind (ahead cs p v x) p w y ∙ length-ahead cs p v x

-- a run leaves the document
pub unlink : (cs c3 : List Cell) (t e f : Option NodeId) (m : Meaning) (run : Run) → IsTable cs t e f m → (r : RunSeat m.document run) → IsMoved cs c3 None None None r.trees → IsTable (reseated c3 (parent_of r.seat.above) (last_id r.seat.left None) (first_id r.seat.right None) (first_id r.seat.right None) (last_id r.seat.left None)) (ahead_top t (parent_of r.seat.above) (last_id r.seat.left None) (first_id r.seat.right None)) (behind_top e (parent_of r.seat.above) (first_id r.seat.right None) (last_id r.seat.left None)) f (seat_unlink m run r.seat r.trees)
unlink cs c3 t e f m run i r mv =
    let all : (k : ℕ) → times k m.document ≡ times_above k r.seat.above + (times k r.seat.left + (times k r.trees + times k r.seat.right)) = λ k. ap (times k) r.document_is ∙ times-seated k r.seat.above r.seat.left r.trees r.seat.right in
    let a_in : 0 < times run.first.0 m.document = omega (arith, all run.first.0, first_within r.trees run.first.0 r.first_is) in
    let free : get_or m.unlinked run.first.0 nil ≡ nil = not_loose cs t e f m run.first.0 i a_in in
    let once : (k : ℕ) → times_above k r.seat.above + (times k r.seat.left + (times k r.trees + times k r.seat.right)) ≤ 1 = λ k. omega (arith, apart cs t e f m run.first.0 k i, all k) in
    let split = seat-split cs t e r.seat.above r.seat.left r.trees r.seat.right (subst (IsDoc cs t e) r.document_is i.doc) in
    let around = around-kept cs c3 t e r.seat.above r.seat.left r.seat.right (first_id r.trees (first_id r.seat.right None)) (last_id r.trees (last_id r.seat.left None)) (λ k q. mv.others k (omega (arith, once k))) split.0 in
    let new = reseat c3 t e r.seat.above r.seat.left r.seat.right (first_id r.trees (first_id r.seat.right None)) (last_id r.trees (last_id r.seat.left None)) (first_id r.seat.right None) (last_id r.seat.left None) around (λ k. omega (arith, once k)) in
    moved cs (reseated c3 (parent_of r.seat.above) (last_id r.seat.left None) (first_id r.seat.right None) (first_id r.seat.right None) (last_id r.seat.left None)) t e (ahead_top t (parent_of r.seat.above) (last_id r.seat.left None) (first_id r.seat.right None)) (behind_top e (parent_of r.seat.above) (first_id r.seat.right None) (last_id r.seat.left None)) f m (seated r.seat nil) r.trees run.first.0 i (length-reseated c3 (parent_of r.seat.above) (last_id r.seat.left None) (first_id r.seat.right None) (first_id r.seat.right None) (last_id r.seat.left None) ∙ mv.length_is) (laid-within cs None None m.document None run.first.0 i.doc.laid a_in) (seat-join (reseated c3 (parent_of r.seat.above) (last_id r.seat.left None) (first_id r.seat.right None) (first_id r.seat.right None) (last_id r.seat.left None)) (ahead_top t (parent_of r.seat.above) (last_id r.seat.left None) (first_id r.seat.right None)) (behind_top e (parent_of r.seat.above) (first_id r.seat.right None) (last_id r.seat.left None)) r.seat.above r.seat.left nil r.seat.right new.around tt) (record {
      laid = kept c3 (reseated c3 (parent_of r.seat.above) (last_id r.seat.left None) (first_id r.seat.right None) (first_id r.seat.right None) (last_id r.seat.left None)) None None r.trees None (λ k q. new.others k (omega (arith, once k))) mv.laid;
      begins = inr r.first_is;
    }) (λ k. omega (arith, all k, times-seated k r.seat.above r.seat.left nil r.seat.right, ap (times k) free)) (omega (arith, ap size r.document_is, ap size free, size-fill r.seat.above (join r.seat.left (join r.trees r.seat.right)), size-fill r.seat.above (join r.seat.left r.seat.right), size-join r.seat.left (join r.trees r.seat.right), size-join r.trees r.seat.right, size-join r.seat.left r.seat.right)) (λ k z. new.others k (omega (arith, all k)) ∙ mv.others k (omega (arith, all k)))

-- an unlinked run goes to a place
pub link : (cs c3 : List Cell) (t e f : Option NodeId) (m : Meaning) (run : Run) (s : Seat) → IsTable cs t e f m → m.document ≡ seated s nil → first_id (trees_at m run) None ≡ Some run.first → IsMoved cs c3 (parent_of s.above) (last_id s.left None) (first_id s.right None) (trees_at m run) → (x y : Option NodeId) → x ≡ first_id (trees_at m run) (first_id s.right None) → y ≡ last_id (trees_at m run) (last_id s.left None) → IsTable (reseated c3 (parent_of s.above) (last_id s.left None) (first_id s.right None) x y) (ahead_top t (parent_of s.above) (last_id s.left None) x) (behind_top e (parent_of s.above) (first_id s.right None) y) f (seat_link m run s)
link cs c3 t e f m run s i doc first mv x y xe ye =
    let all : (k : ℕ) → times k m.document ≡ times_above k s.above + (times k s.left + times k s.right) = λ k. omega (arith, ap (times k) doc, times-seated k s.above s.left nil s.right) in
    let once : (k : ℕ) → times_above k s.above + (times k s.left + (times k (trees_at m run) + times k s.right)) ≤ 1 = λ k. omega (arith, apart cs t e f m run.first.0 k i, all k) in
    let a_in : 0 < times run.first.0 (trees_at m run) = first_within (trees_at m run) run.first.0 first in
    let split = seat-split cs t e s.above s.left nil s.right (subst (IsDoc cs t e) doc i.doc) in
    let around = around-kept cs c3 t e s.above s.left s.right (first_id s.right None) (last_id s.left None) (λ k q. mv.others k (omega (arith, once k))) split.0 in
    let new = reseat c3 t e s.above s.left s.right (first_id s.right None) (last_id s.left None) x y around (λ k. omega (arith, once k)) in
    let there = subst (λ o. IsAround (reseated c3 (parent_of s.above) (last_id s.left None) (first_id s.right None) x y) (ahead_top t (parent_of s.above) (last_id s.left None) x) (behind_top e (parent_of s.above) (first_id s.right None) y) s.above s.left s.right o (last_id (trees_at m run) (last_id s.left None))) xe (subst (λ o. IsAround (reseated c3 (parent_of s.above) (last_id s.left None) (first_id s.right None) x y) (ahead_top t (parent_of s.above) (last_id s.left None) x) (behind_top e (parent_of s.above) (first_id s.right None) y) s.above s.left s.right x o) ye new.around) in
    moved cs (reseated c3 (parent_of s.above) (last_id s.left None) (first_id s.right None) x y) t e (ahead_top t (parent_of s.above) (last_id s.left None) x) (behind_top e (parent_of s.above) (first_id s.right None) y) f m (seated s (trees_at m run)) nil run.first.0 i (length-reseated c3 (parent_of s.above) (last_id s.left None) (first_id s.right None) x y ∙ mv.length_is) (laid-within cs None None (trees_at m run) None run.first.0 (i.runs run.first.0).laid a_in) (seat-join (reseated c3 (parent_of s.above) (last_id s.left None) (first_id s.right None) x y) (ahead_top t (parent_of s.above) (last_id s.left None) x) (behind_top e (parent_of s.above) (first_id s.right None) y) s.above s.left (trees_at m run) s.right there (kept c3 (reseated c3 (parent_of s.above) (last_id s.left None) (first_id s.right None) x y) (parent_of s.above) (last_id s.left None) (trees_at m run) (first_id s.right None) (λ k q. new.others k (omega (arith, once k))) mv.laid)) (record { laid = tt; begins = inl refl }) (λ k. omega (arith, all k, times-seated k s.above s.left (trees_at m run) s.right)) (omega (arith, ap size doc, size-fill s.above (join s.left (join (trees_at m run) s.right)), size-fill s.above (join s.left s.right), size-join s.left (join (trees_at m run) s.right), size-join (trees_at m run) s.right, size-join s.left s.right)) (λ k z. new.others k (omega (arith, all k)) ∙ mv.others k (omega arith))
