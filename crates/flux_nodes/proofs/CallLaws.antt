-- What the calls on cells have at hand.
use Rattle.flux_nodes.specs.Tables.{one_if, times}
use Rattle.std.proofs.Common.{◌≡◌, inl, inr, ℕ, ◌+◌, ◌<◌, List, [], length, Option, Some, None, refl, ap, ◌∙◌, sym, subst, arith}
use Rattle.std.specs.List.{slice_get}
use Rattle.std.proofs.Math.ListN.{get_or}
use Rattle.std.proofs.lemmas.Option.{slice_get_within}
use Rattle.flux_trees.specs.Hedge.{Hedge, nil, elem, leaf, join, size}
use Rattle.flux_trees.proofs.HedgeLaws.{size-join}
use Rattle.flux_nodes.specs.declared.cell.NodeId.{NodeId}
use Rattle.flux_nodes.specs.declared.cell.Cell.{Cell}
use Rattle.flux_nodes.specs.declared.cell.Kind.TheVariants.{Elem}
use Rattle.std.proofs.lemmas.List.{set-get_or}
use Rattle.flux_nodes.specs.declared.run.Run.{Run}
use Rattle.flux_nodes.specs.declared.run.Place.{Place}
use Rattle.flux_nodes.specs.Laid.{id, first_id, last_id, elem_cell, leaf_cell, IsLaid, edit, with_prev, with_next, with_kind, RunLaid, IsUnder}
use Rattle.flux_nodes.specs.Seats.{IsDoc, seated, Above, top, under, parent_of, times_above, IsAbove, ahead_top, behind_top}
use Rattle.flux_nodes.specs.Tables.{Meaning, trees_at}
use Rattle.flux_nodes.specs.Decoded.{meaning_of}
use Rattle.flux_nodes.specs.Kept.{IsTable, HoldsRun, IsWithin, Follows, RunSeat, PlaceSeat, IsLoose, HasRun, HasPlace, seat_unlink, seat_link, ElementSeat, seat_label}
use Rattle.flux_nodes.proofs.LaidLaws.{one_if-same, edit-same, edit-other, edit-length, kept-edit, last_some, first_within, last_within, number_or, first_id-any, last_id-any}
use Rattle.flux_nodes.proofs.SeatLaws.{IsAround, reseated, seat-split, seat-join, around-kept, times-seated, size-fill}
use Rattle.flux_nodes.proofs.TableLaws.{moved, laid-within, get-or-sum}
use Rattle.flux_nodes.proofs.MoveLaws.{apart, not_loose, ends, unlink, link}

pub first_cell : (cs : List Cell) (p v : Option NodeId) (h : Hedge ℕ) (w : Option NodeId) (q : NodeId) → IsLaid cs p v h w → first_id h None ≡ Some q → (c : Cell) × (slice_get cs q.0 ≡ Some c) × (c.parent ≡ p) × (c.prev ≡ v)
first_cell cs p v nil w q l e = cc
first_cell cs p v (elem m a c r) w q l e =
    (elem_cell a p v (first_id r w) (first_id c None) (last_id c None), ap (slice_get cs) (sym (ap number_or e)) ∙ l.0, refl, refl)
first_cell cs p v (leaf m x r) w q l e =
    (leaf_cell x p v (first_id r w), ap (slice_get cs) (sym (ap number_or e)) ∙ l.0, refl, refl)

pub last_cell : (cs : List Cell) (p v : Option NodeId) (h : Hedge ℕ) (w : Option NodeId) (q : NodeId) → IsLaid cs p v h w → last_id h None ≡ Some q → (c : Cell) × (slice_get cs q.0 ≡ Some c) × (c.next ≡ w)
last_cell cs p v nil w q l e = cc
last_cell cs p v (elem m a c nil) w q l e =
    (elem_cell a p v w (first_id c None) (last_id c None), ap (slice_get cs) (sym (ap number_or e)) ∙ l.0, refl)
last_cell cs p v (elem m a c (elem n b d r)) w q l e = last_cell cs p (Some (id m)) (elem n b d r) w q l.2 e
last_cell cs p v (elem m a c (leaf n y r)) w q l e = last_cell cs p (Some (id m)) (leaf n y r) w q l.2 e
last_cell cs p v (leaf m x nil) w q l e =
    (leaf_cell x p v w, ap (slice_get cs) (sym (ap number_or e)) ∙ l.0, refl)
last_cell cs p v (leaf m x (elem n b d r)) w q l e = last_cell cs p (Some (id m)) (elem n b d r) w q l.1 e
last_cell cs p v (leaf m x (leaf n y r)) w q l e = last_cell cs p (Some (id m)) (leaf n y r) w q l.1 e

pub within-first : (cs : List Cell) (p v : Option NodeId) (h : Hedge ℕ) (w : Option NodeId) → IsLaid cs p v h w → IsWithin (first_id h None) (length cs)
within-first cs p v nil w l = tt
within-first cs p v (elem m a c r) w l = slice_get_within cs m _ l.0
within-first cs p v (leaf m x r) w l = slice_get_within cs m _ l.0

pub within-last : (cs : List Cell) (p v : Option NodeId) (h : Hedge ℕ) (w : Option NodeId) → IsLaid cs p v h w → IsWithin (last_id h None) (length cs)
within-last cs p v h w l = go (last_id h None) refl
  where
    go : (o : Option NodeId) → last_id h None ≡ o → IsWithin o (length cs)
    go None e = tt
    go (Some q) e = laid-within cs p v h w q.0 l (last_within h q.0 e)

pub within-parent : (cs : List Cell) (t e : Option NodeId) (u : Above) (f b : Option NodeId) → IsAbove cs t e u f b → IsWithin (parent_of u) (length cs)
within-parent cs t e top f b i = tt
within-parent cs t e (under u l m a r) f b i = slice_get_within cs m _ i.0

-- what a table with a run has
unfoldable pub run_of : (cs : List Cell) (t e : Option NodeId) (run : Run) → HasRun cs t e run → RunLaid cs run
run_of cs t e run h =
    let split = seat-split cs t e h.at.seat.above h.at.seat.left h.at.trees h.at.seat.right (subst (IsDoc cs t e) h.at.document_is h.table.doc) in
    record {
      trees = h.at.trees;
      parent = parent_of h.at.seat.above;
      prev = last_id h.at.seat.left None;
      next = first_id h.at.seat.right None;
      laid = split.1;
      first_is = h.at.first_is;
      last_is = h.at.last_is;
      once =
          λ k. omega (arith, apart cs t e h.free h.meaning 0 k h.table, ap (times k) h.at.document_is, times-seated k h.at.seat.above h.at.seat.left h.at.trees h.at.seat.right);
      fits =
          omega (arith, h.table.all, ap size h.at.document_is, size-fill h.at.seat.above (join h.at.seat.left (join h.at.trees h.at.seat.right)), size-join h.at.seat.left (join h.at.trees h.at.seat.right), size-join h.at.trees h.at.seat.right);
    }

pub around_of : (cs : List Cell) (t e : Option NodeId) (run : Run) (h : HasRun cs t e run) → IsAround cs t e h.at.seat.above h.at.seat.left h.at.seat.right (first_id h.at.trees (first_id h.at.seat.right None)) (last_id h.at.trees (last_id h.at.seat.left None))
around_of cs t e run h =
    (seat-split cs t e h.at.seat.above h.at.seat.left h.at.trees h.at.seat.right (subst (IsDoc cs t e) h.at.document_is h.table.doc)).0

pub first-within : (cs : List Cell) (run : Run) → RunLaid cs run → run.first.0 < length cs
first-within cs run r =
    laid-within cs r.parent r.prev r.trees r.next run.first.0 r.laid (first_within r.trees run.first.0 r.first_is)

pub last-within : (cs : List Cell) (run : Run) → RunLaid cs run → run.last.0 < length cs
last-within cs run r =
    laid-within cs r.parent r.prev r.trees r.next run.last.0 r.laid (last_within r.trees run.last.0 r.last_is)

pub parent-read : (cs : List Cell) (run : Run) (r : RunLaid cs run) (read : Option NodeId) → ((c : Cell) → slice_get cs run.first.0 ≡ Some c → read ≡ c.parent) → read ≡ r.parent
parent-read cs run r read look =
    let at = first_cell cs r.parent r.prev r.trees r.next run.first r.laid r.first_is in look at.0 at.1 ∙ at.2

pub prev-read : (cs : List Cell) (run : Run) (r : RunLaid cs run) (read : Option NodeId) → ((c : Cell) → slice_get cs run.first.0 ≡ Some c → read ≡ c.prev) → read ≡ r.prev
prev-read cs run r read look =
    let at = first_cell cs r.parent r.prev r.trees r.next run.first r.laid r.first_is in look at.0 at.1 ∙ at.3

pub next-read : (cs : List Cell) (run : Run) (r : RunLaid cs run) (read : Option NodeId) → ((c : Cell) → slice_get cs run.last.0 ≡ Some c → read ≡ c.next) → read ≡ r.next
next-read cs run r read look =
    let at = last_cell cs r.parent r.prev r.trees r.next run.last r.laid r.last_is in look at.0 at.1 ∙ at.2

-- the three links that were read are those around the run
pub record AreRead (cs : List Cell) (run : Run) (parent prev next : Option NodeId) : Type 0 where
  pub parent_is : (c : Cell) → slice_get cs run.first.0 ≡ Some c → parent ≡ c.parent
  pub prev_is : (c : Cell) → slice_get cs run.first.0 ≡ Some c → prev ≡ c.prev
  pub next_is : (c : Cell) → slice_get cs run.last.0 ≡ Some c → next ≡ c.next

pub parent-in : (cs : List Cell) (t e : Option NodeId) (run : Run) (parent : Option NodeId) (n : ℕ) → ((c : Cell) → slice_get cs run.first.0 ≡ Some c → parent ≡ c.parent) → HasRun cs t e run → n ≡ length cs → IsWithin parent n
unfolding run_of
parent-in cs t e run parent n look h len =
    subst (IsWithin parent) (sym len) (subst (λ o. IsWithin o (length cs)) (sym (parent-read cs run (run_of cs t e run h) parent look)) (within-parent cs t e h.at.seat.above _ _ (around_of cs t e run h).above))

pub prev-in : (cs : List Cell) (t e : Option NodeId) (run : Run) (prev : Option NodeId) (n : ℕ) → ((c : Cell) → slice_get cs run.first.0 ≡ Some c → prev ≡ c.prev) → HasRun cs t e run → n ≡ length cs → IsWithin prev n
unfolding run_of
prev-in cs t e run prev n look h len =
    subst (IsWithin prev) (sym len) (subst (λ o. IsWithin o (length cs)) (sym (prev-read cs run (run_of cs t e run h) prev look)) (within-last cs (parent_of h.at.seat.above) None h.at.seat.left _ (around_of cs t e run h).left))

pub next-in : (cs : List Cell) (t e : Option NodeId) (run : Run) (next : Option NodeId) (n : ℕ) → ((c : Cell) → slice_get cs run.last.0 ≡ Some c → next ≡ c.next) → HasRun cs t e run → n ≡ length cs → IsWithin next n
unfolding run_of
next-in cs t e run next n look h len =
    subst (IsWithin next) (sym len) (subst (λ o. IsWithin o (length cs)) (sym (next-read cs run (run_of cs t e run h) next look)) (within-first cs (parent_of h.at.seat.above) _ h.at.seat.right None (around_of cs t e run h).right))

pub unlinked : (cs c1 : List Cell) (t e x y : Option NodeId) (bs : List Cell) (run : Run) (parent prev next : Option NodeId) → ((r : RunLaid cs run) → IsUnder cs c1 run None r) → length c1 ≡ length cs → AreRead cs run parent prev next → bs ≡ reseated (edit (with_next None) run.last.0 (edit (with_prev None) run.first.0 c1)) parent prev next next prev → x ≡ ahead_top t parent prev next → y ≡ behind_top e parent next prev → (h : HasRun cs t e run) → IsTable bs x y h.free (seat_unlink h.meaning run h.at.seat h.at.trees)
unfolding run_of
unlinked cs c1 t e x y bs run parent prev next put len reads be xe ye h =
    let done = unlink cs (edit (with_next None) run.last.0 (edit (with_prev None) run.first.0 c1)) t e h.free h.meaning run h.table h.at (ends cs c1 run None None None (run_of cs t e run h) (put (run_of cs t e run h)) len) in
    let d1 = subst (λ p. IsTable (reseated (edit (with_next None) run.last.0 (edit (with_prev None) run.first.0 c1)) p (last_id h.at.seat.left None) (first_id h.at.seat.right None) (first_id h.at.seat.right None) (last_id h.at.seat.left None)) (ahead_top t p (last_id h.at.seat.left None) (first_id h.at.seat.right None)) (behind_top e p (first_id h.at.seat.right None) (last_id h.at.seat.left None)) h.free (seat_unlink h.meaning run h.at.seat h.at.trees)) (sym (parent-read cs run (run_of cs t e run h) parent reads.parent_is)) done in
    let d2 = subst (λ v. IsTable (reseated (edit (with_next None) run.last.0 (edit (with_prev None) run.first.0 c1)) parent v (first_id h.at.seat.right None) (first_id h.at.seat.right None) v) (ahead_top t parent v (first_id h.at.seat.right None)) (behind_top e parent (first_id h.at.seat.right None) v) h.free (seat_unlink h.meaning run h.at.seat h.at.trees)) (sym (prev-read cs run (run_of cs t e run h) prev reads.prev_is)) d1 in
    let d3 = subst (λ w. IsTable (reseated (edit (with_next None) run.last.0 (edit (with_prev None) run.first.0 c1)) parent prev w w prev) (ahead_top t parent prev w) (behind_top e parent w prev) h.free (seat_unlink h.meaning run h.at.seat h.at.trees)) (sym (next-read cs run (run_of cs t e run h) next reads.next_is)) d2 in
    subst (λ b. IsTable b x y h.free (seat_unlink h.meaning run h.at.seat h.at.trees)) (sym be) (subst (λ o. IsTable (reseated (edit (with_next None) run.last.0 (edit (with_prev None) run.first.0 c1)) parent prev next next prev) o y h.free (seat_unlink h.meaning run h.at.seat h.at.trees)) (sym xe) (subst (λ o. IsTable (reseated (edit (with_next None) run.last.0 (edit (with_prev None) run.first.0 c1)) parent prev next next prev) (ahead_top t parent prev next) o h.free (seat_unlink h.meaning run h.at.seat h.at.trees)) (sym ye) d3))

unfoldable pub table-run : (items slice : List Cell) (t e f : Option NodeId) (m : Meaning) (run : Run) → slice ≡ items → IsTable items t e f (meaning_of items t f) → meaning_of items t f ≡ m → RunSeat m.document run → HasRun slice t e run
table-run items slice t e f m run s i v at =
    record { meaning = m; free = f; table = subst (IsTable slice t e f) v (subst (λ cs. IsTable cs t e f (meaning_of items t f)) (sym s) i); at = at }

pub unlinked-table : (items slice bs : List Cell) (t e f x y : Option NodeId) (m : Meaning) (run : Run) → slice ≡ items → IsTable items t e f (meaning_of items t f) → meaning_of items t f ≡ m → ((h : HasRun slice t e run) → IsTable bs x y h.free (seat_unlink h.meaning run h.at.seat h.at.trees)) → (at : RunSeat m.document run) → IsTable bs x y f (seat_unlink m run at.seat at.trees)
unfolding table-run
unlinked-table items slice bs t e f x y m run s i v done at = done (table-run items slice t e f m run s i v at)

-- an unlinked run, as trees
pub loose-first : (cs : List Cell) (t e f : Option NodeId) (m : Meaning) (run : Run) → IsTable cs t e f m → IsLoose m run → first_id (trees_at m run) None ≡ Some run.first
loose-first cs t e f m run i l = elim (i.runs run.first.0).begins [ inl n ↦ absurd (l.some n) | inr s ↦ s ]

pub loose_of : (cs : List Cell) (t e : Option NodeId) (place : Place) (run : Run) → HasPlace cs t e place run → RunLaid cs run
loose_of cs t e place run h = record {
  trees = trees_at h.meaning run;
  parent = None;
  prev = None;
  next = None;
  laid = (h.table.runs run.first.0).laid;
  first_is = loose-first cs t e h.free h.meaning run h.table h.loose;
  last_is = h.loose.last_is;
  once = λ k. omega (arith, apart cs t e h.free h.meaning run.first.0 k h.table);
  fits = omega (arith, h.table.all, get-or-sum size nil refl h.meaning.unlinked run.first.0);
}

pub open-around : (cs : List Cell) (t e : Option NodeId) (place : Place) (run : Run) (h : HasPlace cs t e place run) → IsAround cs t e h.at.seat.above h.at.seat.left h.at.seat.right (first_id h.at.seat.right None) (last_id h.at.seat.left None)
open-around cs t e place run h =
    (seat-split cs t e h.at.seat.above h.at.seat.left nil h.at.seat.right (subst (IsDoc cs t e) h.at.document_is h.table.doc)).0

follow-some : (cs : List Cell) (t : Option NodeId) (p : Option NodeId) (l : Hedge ℕ) (w read : Option NodeId) (q : ℕ) → last_id l None ≡ Some (id q) → IsLaid cs p None l w → Follows cs t p (last_id l None) read → read ≡ w
follow-some cs t p l w read q last i look =
    let at = last_cell cs p None l w (id q) i last in
    let seen : (c : Cell) → slice_get cs q ≡ Some c → read ≡ c.next = subst (λ o. Follows cs t p o read) last look in
    seen at.0 at.1 ∙ at.2

pub follow-read : (cs : List Cell) (t e : Option NodeId) (u : Above) (l : Hedge ℕ) (b w read : Option NodeId) → IsAbove cs t e u (first_id l w) b → IsLaid cs (parent_of u) None l w → Follows cs t (parent_of u) (last_id l None) read → read ≡ w
follow-read cs t e top nil b w read i l look = look ∙ i.0
follow-read cs t e (under u k m a r) nil b w read i l look = look (elem_cell a (parent_of u) (last_id k None) (first_id r None) w b) i.0
follow-read cs t e u (elem n c g s) b w read i l look = follow-some cs t (parent_of u) (elem n c g s) w read (last_some s n).0 (last_some s n).1 l look
follow-read cs t e u (leaf n y s) b w read i l look = follow-some cs t (parent_of u) (leaf n y s) w read (last_some s n).0 (last_some s n).1 l look

pub next-follows : (cs : List Cell) (t e : Option NodeId) (place : Place) (run : Run) (h : HasPlace cs t e place run) (read : Option NodeId) → Follows cs t place.parent place.after read → read ≡ first_id h.at.seat.right None
next-follows cs t e place run h read look =
    let a = open-around cs t e place run h in
    follow-read cs t e h.at.seat.above h.at.seat.left (last_id h.at.seat.right (last_id h.at.seat.left None)) (first_id h.at.seat.right None) read a.above a.left (subst (λ p. Follows cs t p (last_id h.at.seat.left None) read) h.at.parent_is (subst (λ v. Follows cs t place.parent v read) h.at.after_is look))

pub place-parent-in : (cs : List Cell) (t e : Option NodeId) (place : Place) (run : Run) (n : ℕ) → HasPlace cs t e place run → n ≡ length cs → IsWithin place.parent n
place-parent-in cs t e place run n h len =
    subst (IsWithin place.parent) (sym len) (subst (λ o. IsWithin o (length cs)) (sym h.at.parent_is) (within-parent cs t e h.at.seat.above _ _ (open-around cs t e place run h).above))

pub place-after-in : (cs : List Cell) (t e : Option NodeId) (place : Place) (run : Run) (n : ℕ) → HasPlace cs t e place run → n ≡ length cs → IsWithin place.after n
place-after-in cs t e place run n h len =
    subst (IsWithin place.after) (sym len) (subst (λ o. IsWithin o (length cs)) (sym h.at.after_is) (within-last cs (parent_of h.at.seat.above) None h.at.seat.left _ (open-around cs t e place run h).left))

pub place-next-in : (cs : List Cell) (t e : Option NodeId) (place : Place) (run : Run) (read : Option NodeId) (n : ℕ) → Follows cs t place.parent place.after read → HasPlace cs t e place run → n ≡ length cs → IsWithin read n
place-next-in cs t e place run read n look h len =
    subst (IsWithin read) (sym len) (subst (λ o. IsWithin o (length cs)) (sym (next-follows cs t e place run h read look)) (within-first cs (parent_of h.at.seat.above) _ h.at.seat.right None (open-around cs t e place run h).right))

pub linked : (cs c1 : List Cell) (t e x y : Option NodeId) (bs : List Cell) (place : Place) (run : Run) (next : Option NodeId) → ((r : RunLaid cs run) → IsUnder cs c1 run place.parent r) → length c1 ≡ length cs → Follows cs t place.parent place.after next → bs ≡ reseated (edit (with_next next) run.last.0 (edit (with_prev place.after) run.first.0 c1)) place.parent place.after next (Some run.first) (Some run.last) → x ≡ ahead_top t place.parent place.after (Some run.first) → y ≡ behind_top e place.parent next (Some run.last) → (h : HasPlace cs t e place run) → IsTable bs x y h.free (seat_link h.meaning run h.at.seat)
unfolding loose_of
linked cs c1 t e x y bs place run next put len look be xe ye h =
    let first = loose-first cs t e h.free h.meaning run h.table h.loose in
    let a_in : 0 < times run.first.0 (trees_at h.meaning run) = first_within (trees_at h.meaning run) run.first.0 first in
    let under_p = subst (λ p. IsUnder cs c1 run p (loose_of cs t e place run h)) h.at.parent_is (put (loose_of cs t e place run h)) in
    let mv = ends cs c1 run (parent_of h.at.seat.above) (last_id h.at.seat.left None) (first_id h.at.seat.right None) (loose_of cs t e place run h) under_p len in
    let done = link cs (edit (with_next (first_id h.at.seat.right None)) run.last.0 (edit (with_prev (last_id h.at.seat.left None)) run.first.0 c1)) t e h.free h.meaning run h.at.seat h.table h.at.document_is first mv (Some run.first) (Some run.last) (sym first ∙ first_id-any (trees_at h.meaning run) None (first_id h.at.seat.right None) run.first.0 a_in) (sym h.loose.last_is ∙ last_id-any (trees_at h.meaning run) None (last_id h.at.seat.left None) run.first.0 a_in) in
    let d1 = subst (λ p. IsTable (reseated (edit (with_next (first_id h.at.seat.right None)) run.last.0 (edit (with_prev (last_id h.at.seat.left None)) run.first.0 c1)) p (last_id h.at.seat.left None) (first_id h.at.seat.right None) (Some run.first) (Some run.last)) (ahead_top t p (last_id h.at.seat.left None) (Some run.first)) (behind_top e p (first_id h.at.seat.right None) (Some run.last)) h.free (seat_link h.meaning run h.at.seat)) (sym h.at.parent_is) done in
    let d2 = subst (λ v. IsTable (reseated (edit (with_next (first_id h.at.seat.right None)) run.last.0 (edit (with_prev v) run.first.0 c1)) place.parent v (first_id h.at.seat.right None) (Some run.first) (Some run.last)) (ahead_top t place.parent v (Some run.first)) (behind_top e place.parent (first_id h.at.seat.right None) (Some run.last)) h.free (seat_link h.meaning run h.at.seat)) (sym h.at.after_is) d1 in
    let d3 = subst (λ w. IsTable (reseated (edit (with_next w) run.last.0 (edit (with_prev place.after) run.first.0 c1)) place.parent place.after w (Some run.first) (Some run.last)) (ahead_top t place.parent place.after (Some run.first)) (behind_top e place.parent w (Some run.last)) h.free (seat_link h.meaning run h.at.seat)) (sym (next-follows cs t e place run h next look)) d2 in
    subst (λ b. IsTable b x y h.free (seat_link h.meaning run h.at.seat)) (sym be) (subst (λ o. IsTable (reseated (edit (with_next next) run.last.0 (edit (with_prev place.after) run.first.0 c1)) place.parent place.after next (Some run.first) (Some run.last)) o y h.free (seat_link h.meaning run h.at.seat)) (sym xe) (subst (λ o. IsTable (reseated (edit (with_next next) run.last.0 (edit (with_prev place.after) run.first.0 c1)) place.parent place.after next (Some run.first) (Some run.last)) (ahead_top t place.parent place.after (Some run.first)) o h.free (seat_link h.meaning run h.at.seat)) (sym ye) d3))

pub table-place : (items slice : List Cell) (t e f : Option NodeId) (m : Meaning) (place : Place) (run : Run) → slice ≡ items → IsTable items t e f (meaning_of items t f) → meaning_of items t f ≡ m → IsLoose m run → PlaceSeat m.document place → HasPlace slice t e place run
table-place items slice t e f m place run s i v l at =
    record { meaning = m; free = f; table = subst (IsTable slice t e f) v (subst (λ cs. IsTable cs t e f (meaning_of items t f)) (sym s) i); at = at; loose = l }

pub linked-table : (items slice bs : List Cell) (t e f x y : Option NodeId) (m : Meaning) (place : Place) (run : Run) → slice ≡ items → IsTable items t e f (meaning_of items t f) → meaning_of items t f ≡ m → IsLoose m run → ((h : HasPlace slice t e place run) → IsTable bs x y h.free (seat_link h.meaning run h.at.seat)) → (at : PlaceSeat m.document place) → IsTable bs x y f (seat_link m run at.seat)
unfolding table-place
linked-table items slice bs t e f x y m place run s i v l done at =
    done (table-place items slice t e f m place run s i v l at)

-- one label changed
pub labelled : (cs : List Cell) (t e f : Option NodeId) (m : Meaning) (node : NodeId) (name : ℕ) → IsTable cs t e f m → (at : ElementSeat m.document node) → IsTable (edit (with_kind (Elem name)) node.0 cs) t e f (seat_label m node name at.seat at.content)
labelled cs t e f m node name i at =
    let split = seat-split cs t e at.seat.above at.seat.left (elem node.0 at.label at.content nil) at.seat.right (subst (IsDoc cs t e) at.document_is i.doc) in
    let all : (k : ℕ) → times k m.document ≡ times_above k at.seat.above + (times k at.seat.left + ((one_if k node.0 + (times k at.content + times k nil)) + times k at.seat.right)) = λ k. ap (times k) at.document_is ∙ times-seated k at.seat.above at.seat.left (elem node.0 at.label at.content nil) at.seat.right in
    let once = apart cs t e f m node.0 node.0 i in
    let others : (k : ℕ) → times k m.document + times k (get_or m.unlinked node.0 nil) ≡ 0 → slice_get (edit (with_kind (Elem name)) node.0 cs) k ≡ slice_get cs k = λ k z. edit-other (with_kind (Elem name)) node.0 k cs (λ q. let one : one_if k node.0 ≡ 1 = ap (one_if k) (sym q) ∙ one_if-same k in absurd (omega (arith, all k))) in
    let free : get_or m.unlinked node.0 nil ≡ nil = not_loose cs t e f m node.0 i (omega (arith, all node.0, one_if-same node.0)) in
    let around = around-kept cs (edit (with_kind (Elem name)) node.0 cs) t e at.seat.above at.seat.left at.seat.right (Some node) (Some node) (λ k q. edit-other (with_kind (Elem name)) node.0 k cs (λ x. let one : one_if k node.0 ≡ 1 = ap (one_if k) (sym x) ∙ one_if-same k in absurd (omega (arith, all k, apart cs t e f m node.0 k i)))) split.0 in
    let doc = seat-join (edit (with_kind (Elem name)) node.0 cs) t e at.seat.above at.seat.left (elem node.0 name at.content nil) at.seat.right around (edit-same (with_kind (Elem name)) node.0 cs (elem_cell at.label (parent_of at.seat.above) (last_id at.seat.left None) (first_id at.seat.right None) (first_id at.content None) (last_id at.content None)) split.1.0, kept-edit (with_kind (Elem name)) node.0 cs (Some node) None at.content None (omega (arith, all node.0, one_if-same node.0, once)) split.1.1, tt) in
    subst (λ u. IsTable (edit (with_kind (Elem name)) node.0 cs) t e f (record { document = seated at.seat (elem node.0 name at.content nil); unlinked = u; spare = m.spare })) (set-get_or m.unlinked node.0 nil) (moved cs (edit (with_kind (Elem name)) node.0 cs) t e t e f m (seated at.seat (elem node.0 name at.content nil)) (get_or m.unlinked node.0 nil) node.0 i (edit-length (with_kind (Elem name)) node.0 cs) (slice_get_within cs node.0 _ split.1.0) doc (subst (HoldsRun (edit (with_kind (Elem name)) node.0 cs) node.0) (sym free) (record { laid = tt; begins = inl refl })) (λ k. omega (arith, all k, times-seated k at.seat.above at.seat.left (elem node.0 name at.content nil) at.seat.right)) (omega (arith, ap size at.document_is, size-fill at.seat.above (join at.seat.left (join (elem node.0 at.label at.content nil) at.seat.right)), size-fill at.seat.above (join at.seat.left (join (elem node.0 name at.content nil) at.seat.right)), size-join at.seat.left (join (elem node.0 at.label at.content nil) at.seat.right), size-join at.seat.left (join (elem node.0 name at.content nil) at.seat.right))) others)

pub label-within : (cs : List Cell) (t e f : Option NodeId) (m : Meaning) (node : NodeId) → IsTable cs t e f m → ElementSeat m.document node → node.0 < length cs
label-within cs t e f m node i at =
    laid-within cs None None m.document None node.0 i.doc.laid (omega (arith, ap (times node.0) at.document_is, times-seated node.0 at.seat.above at.seat.left (elem node.0 at.label at.content nil) at.seat.right, one_if-same node.0))

pub seen-table : (items : List Cell) (t e f : Option NodeId) (m : Meaning) → IsTable items t e f (meaning_of items t f) → meaning_of items t f ≡ m → IsTable items t e f m
seen-table items t e f m i v = subst (IsTable items t e f) v i

pub empty-table : IsTable [] None None None (record { document = nil; unlinked = []; spare = [] })
empty-table = record {
  doc = record { laid = tt; first_is = refl; last_is = refl };
  runs_length = refl;
  runs = λ i. record { laid = tt; begins = inl refl };
  spare = tt;
  spare_is = refl;
  once = λ k h. absurd (omega arith);
  all = omega arith;
}
