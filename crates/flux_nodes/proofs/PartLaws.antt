-- A run that is a part of the document or of an unlinked run.
use Rattle.std.proofs.Common.{◌≡◌, ℕ, ◌≤◌, List, length, Option, None, Result, refl, ap, ◌∙◌, sym, subst, arith}
use Rattle.std.specs.Prelude.{IfOk}
use Rattle.std.proofs.Math.ListN.{get_or}
use Rattle.flux_trees.specs.Hedge.{Hedge, nil, join, size, erase}
use Rattle.flux_trees.specs.Draft.{done}
use Rattle.flux_trees.proofs.HedgeLaws.{size-join}
use Rattle.flux_forest.specs.Flat.{PlainDraft}
use Rattle.flux_nodes.specs.declared.cell.NodeId.{NodeId}
use Rattle.flux_nodes.specs.declared.cell.Cell.{Cell}
use Rattle.flux_nodes.specs.declared.run.Run.{Run}
use Rattle.flux_nodes.specs.Tables.{Meaning, RunAt, times}
use Rattle.flux_nodes.specs.Laid.{first_id, last_id, IsLaid, RunLaid}
use Rattle.flux_nodes.specs.Seats.{IsDoc, parent_of}
use Rattle.flux_nodes.specs.Kept.{IsTable}
use Rattle.flux_nodes.proofs.SeatLaws.{seat-split, times-seated, size-fill}
use Rattle.flux_nodes.proofs.TableLaws.{get-or-sum}
use Rattle.flux_nodes.proofs.MoveLaws.{apart}
use Rattle.flux_nodes.proofs.FrameLaws.{seat_of, plug-seat, first-end, last-end}

unfoldable pub part_run : (cs : List Cell) (h : Hedge ℕ) (run : Run) → IsLaid cs None None h None → ((k : ℕ) → times k h ≤ 1) → size h ≤ length cs → RunAt h run → RunLaid cs run
part_run cs h run laid once fits at =
    let doc : IsDoc cs (first_id h None) (last_id h None) h = record { laid = laid; first_is = refl; last_is = refl } in
    let split = seat-split cs (first_id h None) (last_id h None) (seat_of at.frames).above (seat_of at.frames).left at.trees (seat_of at.frames).right (subst (IsDoc cs (first_id h None) (last_id h None)) (at.forest_is ∙ plug-seat at.frames at.trees) doc) in
    record {
      trees = at.trees;
      parent = parent_of (seat_of at.frames).above;
      prev = last_id (seat_of at.frames).left None;
      next = first_id (seat_of at.frames).right None;
      laid = split.1;
      first_is = first-end run at.trees at.ends;
      last_is = last-end run at.trees at.ends;
      once = λ k. omega (arith, once k, ap (times k) (at.forest_is ∙ plug-seat at.frames at.trees), times-seated k (seat_of at.frames).above (seat_of at.frames).left at.trees (seat_of at.frames).right);
      fits = omega (arith, fits, ap size (at.forest_is ∙ plug-seat at.frames at.trees), size-fill (seat_of at.frames).above (join (seat_of at.frames).left (join at.trees (seat_of at.frames).right)), size-join (seat_of at.frames).left (join at.trees (seat_of at.frames).right), size-join at.trees (seat_of at.frames).right);
    }

unfoldable pub document_part : (items slice : List Cell) (t e f : Option NodeId) (m : Meaning) (run : Run) → slice ≡ items → IsTable items t e f m → RunAt m.document run → RunLaid slice run
unfolding part_run
document_part items slice t e f m run s i at =
    part_run slice m.document run (subst (λ cs. IsLaid cs None None m.document None) (sym s) i.doc.laid) (λ k. omega (arith, apart items t e f m 0 k i)) (omega (arith, i.all, ap length s)) at

unfoldable pub unlinked_part : (items slice : List Cell) (t e f : Option NodeId) (m : Meaning) (run : Run) (j : ℕ) → slice ≡ items → IsTable items t e f m → RunAt (get_or m.unlinked j nil) run → RunLaid slice run
unfolding part_run
unlinked_part items slice t e f m run j s i at =
    part_run slice (get_or m.unlinked j nil) run (subst (λ cs. IsLaid cs None None (get_or m.unlinked j nil) None) (sym s) (i.runs j).laid) (λ k. omega (arith, apart items t e f m j k i)) (omega (arith, i.all, get-or-sum size nil refl m.unlinked j, ap length s)) at

pub document-copied : {E : Type 0} (items slice : List Cell) (t e f : Option NodeId) (m : Meaning) (run : Run) (s : slice ≡ items) (i : IsTable items t e f m) (at : RunAt m.document run) (result : Result PlainDraft E) → ((r : RunLaid slice run) → IfOk result (λ copied. copied ≡ done (erase r.trees))) → IfOk result (λ copied. copied ≡ done (erase at.trees))
unfolding document_part part_run
document-copied items slice t e f m run s i at result copied = copied (document_part items slice t e f m run s i at)

pub unlinked-copied : {E : Type 0} (items slice : List Cell) (t e f : Option NodeId) (m : Meaning) (run : Run) (j : ℕ) (s : slice ≡ items) (i : IsTable items t e f m) (at : RunAt (get_or m.unlinked j nil) run) (result : Result PlainDraft E) → ((r : RunLaid slice run) → IfOk result (λ copied. copied ≡ done (erase r.trees))) → IfOk result (λ copied. copied ≡ done (erase at.trees))
unfolding unlinked_part part_run
unlinked-copied items slice t e f m run j s i at result copied = copied (unlinked_part items slice t e f m run j s i at)
