-- Frames as a seat: the elements around a place, and the trees beside it.
use Rattle.std.proofs.Common.{◌≡◌, ℕ, List, [], ◌∷◌, Option, Some, None, refl, ap, ◌∙◌, sym}
use Rattle.flux_trees.specs.Hedge.{Hedge, nil, elem, leaf, join}
use Rattle.flux_trees.specs.Frame.{Frame, Down, Before, After, Each, plug}
use Rattle.flux_trees.specs.Edits.{last_or, parent_in, left_in}
use Rattle.flux_trees.specs.Edits.{Place as TreePlace}
use Rattle.flux_trees.proofs.HedgeLaws.{join-nil, join_assoc}
use Rattle.flux_nodes.specs.declared.cell.NodeId.{NodeId}
use Rattle.flux_nodes.specs.declared.run.Run.{Run}
use Rattle.flux_nodes.specs.declared.run.Place.{Place}
use Rattle.flux_nodes.specs.Tables.{Meaning, number_of, first_or, right_in, AreEnds, RunAt, PlaceAt, ElementAt, IsUnlinked, trees_at, after_unlink, after_link, after_label}
use Rattle.flux_nodes.specs.Laid.{id, first_id, last_id}
use Rattle.flux_nodes.specs.Seats.{top, under, fill, parent_of, Seat, seated}
use Rattle.flux_nodes.specs.Kept.{RunSeat, PlaceSeat, ElementSeat, IsLoose, seat_unlink, seat_link, seat_label}
use Rattle.flux_nodes.proofs.LaidLaws.{first_id-join, last_id-join}

-- the link that a number makes
abbrev pub ids : Option ℕ → Option NodeId
ids None = None
ids (Some n) = Some (id n)

pub ids-number : (o : Option NodeId) → ids (number_of o) ≡ o
ids-number None = refl
ids-number (Some node) = refl

pub number-ids : (o : Option ℕ) → number_of (ids o) ≡ o
number-ids None = refl
number-ids (Some n) = refl

pub first-ids : (h : Hedge ℕ) (o : Option ℕ) → first_id h (ids o) ≡ ids (first_or o h)
first-ids nil o = refl
first-ids (elem m a c r) o = refl
first-ids (leaf m x r) o = refl

pub last-ids : (h : Hedge ℕ) (o : Option ℕ) → last_id h (ids o) ≡ ids (last_or o h)
last-ids nil o = refl
last-ids (elem m a c r) o = last-ids r (Some m)
last-ids (leaf m x r) o = last-ids r (Some m)

-- the seat of what stands under a frame more
abbrev pub seat_under : Frame ℕ → Seat → Seat
seat_under (Down m a) s =
    record { above = under s.above s.left m a s.right; left = nil; right = nil }
seat_under (Before w) s = record { above = s.above; left = s.left; right = join w s.right }
seat_under (After w) s = record { above = s.above; left = join s.left w; right = s.right }
seat_under (Each d w) s =
    record { above = s.above; left = join s.left d; right = join w s.right }

abbrev pub seat_of : List (Frame ℕ) → Seat
seat_of [] = record { above = top; left = nil; right = nil }
seat_of (f ∷ fs) = seat_under f (seat_of fs)

pub plug-seat : (fs : List (Frame ℕ)) (v : Hedge ℕ) → plug fs v ≡ seated (seat_of fs) v
plug-seat [] v = sym (join-nil v)
plug-seat (Down m a ∷ fs) v =
    plug-seat fs (elem m a v nil) ∙ ap (λ h. fill (seat_of fs).above (join (seat_of fs).left (elem m a h (seat_of fs).right))) (sym (join-nil v))
plug-seat (Before w ∷ fs) v =
    plug-seat fs (join v w) ∙ ap (λ h. fill (seat_of fs).above (join (seat_of fs).left h)) (join_assoc v w (seat_of fs).right)
plug-seat (After w ∷ fs) v =
    plug-seat fs (join w v) ∙ ap (fill (seat_of fs).above) (ap (join (seat_of fs).left) (join_assoc w v (seat_of fs).right) ∙ sym (join_assoc (seat_of fs).left w (join v (seat_of fs).right)))
plug-seat (Each d w ∷ fs) v =
    plug-seat fs (join d (join v w)) ∙ ap (fill (seat_of fs).above) (ap (join (seat_of fs).left) (join_assoc d (join v w) (seat_of fs).right ∙ ap (join d) (join_assoc v w (seat_of fs).right)) ∙ sym (join_assoc (seat_of fs).left d (join v (join w (seat_of fs).right))))

pub parent-seat : (fs : List (Frame ℕ)) → parent_of (seat_of fs).above ≡ ids (parent_in fs)
parent-seat [] = refl
parent-seat (Down m a ∷ fs) = refl
parent-seat (Before w ∷ fs) = parent-seat fs
parent-seat (After w ∷ fs) = parent-seat fs
parent-seat (Each d w ∷ fs) = parent-seat fs

left-more : (s : Seat) (w : Hedge ℕ) (o : Option ℕ) → last_id s.left None ≡ ids o → last_id (join s.left w) None ≡ ids (last_or o w)
left-more s w o e = last_id-join s.left w None ∙ ap (last_id w) e ∙ last-ids w o

pub left-seat : (fs : List (Frame ℕ)) → last_id (seat_of fs).left None ≡ ids (left_in fs)
left-seat [] = refl
left-seat (Down m a ∷ fs) = refl
left-seat (Before w ∷ fs) = left-seat fs
left-seat (After w ∷ fs) = left-more (seat_of fs) w (left_in fs) (left-seat fs)
left-seat (Each d w ∷ fs) = left-more (seat_of fs) d (left_in fs) (left-seat fs)

right-more : (s : Seat) (w : Hedge ℕ) (o : Option ℕ) → first_id s.right None ≡ ids o → first_id (join w s.right) None ≡ ids (first_or o w)
right-more s w o e = first_id-join w s.right None ∙ ap (first_id w) e ∙ first-ids w o

pub right-seat : (fs : List (Frame ℕ)) → first_id (seat_of fs).right None ≡ ids (right_in fs)
right-seat [] = refl
right-seat (Down m a ∷ fs) = refl
right-seat (Before w ∷ fs) = right-more (seat_of fs) w (right_in fs) (right-seat fs)
right-seat (After w ∷ fs) = right-seat fs
right-seat (Each d w ∷ fs) = right-more (seat_of fs) w (right_in fs) (right-seat fs)

pub first-end : (run : Run) (h : Hedge ℕ) → AreEnds run h → first_id h None ≡ Some run.first
first-end run h e = first-ids h None ∙ ap ids e.first_is

pub last-end : (run : Run) (h : Hedge ℕ) → AreEnds run h → last_id h None ≡ Some run.last
last-end run h e = last-ids h None ∙ ap ids e.last_is

abbrev pub run_seat : {d : Hedge ℕ} {run : Run} → RunAt d run → RunSeat d run
run_seat {d} {run} at = record {
  seat = seat_of at.frames;
  trees = at.trees;
  document_is = at.forest_is ∙ plug-seat at.frames at.trees;
  first_is = first-end run at.trees at.ends;
  last_is = last-end run at.trees at.ends;
}

abbrev pub place_seat : {d : Hedge ℕ} {place : Place} → PlaceAt d place → PlaceSeat d place
place_seat {d} {place} at = record {
  seat = seat_of at.frames;
  document_is = at.forest_is ∙ plug-seat at.frames nil;
  parent_is = sym (ids-number place.parent) ∙ ap (λ (p : TreePlace). ids p.parent) (sym at.place_is) ∙ sym (parent-seat at.frames);
  after_is = sym (ids-number place.after) ∙ ap (λ (p : TreePlace). ids p.left) (sym at.place_is) ∙ sym (left-seat at.frames);
}

abbrev pub element_seat : {d : Hedge ℕ} {node : NodeId} → ElementAt d node → ElementSeat d node
element_seat {d} {node} at = record {
  seat = seat_of at.frames;
  label = at.label;
  content = at.inside;
  document_is = at.forest_is ∙ plug-seat at.frames (elem node.0 at.label at.inside nil);
}

nil-no : (h : Hedge ℕ) (node : ℕ) → first_or None h ≡ Some node → h ≡ nil → ⊥
nil-no h node e n = let none : None ≡ Some node = sym (ap (first_or None) n) ∙ e in cc

pub loose : {m : Meaning} {run : Run} → IsUnlinked m run → IsLoose m run
loose {m} {run} e = record {
  some = nil-no (trees_at m run) run.first.0 e.first_is;
  last_is = last-end run (trees_at m run) e;
}

pub unlink-frames : (m : Meaning) (run : Run) (fs : List (Frame ℕ)) (trees : Hedge ℕ) → seat_unlink m run (seat_of fs) trees ≡ after_unlink m run fs trees
unlink-frames m run fs trees =
    ap (λ (d : Hedge ℕ). let n : Meaning = record (after_unlink m run fs trees) { document = d } in n) (sym (plug-seat fs nil))

pub link-frames : (m : Meaning) (run : Run) (fs : List (Frame ℕ)) → seat_link m run (seat_of fs) ≡ after_link m run fs
link-frames m run fs =
    ap (λ (d : Hedge ℕ). let n : Meaning = record (after_link m run fs) { document = d } in n) (sym (plug-seat fs (trees_at m run)))

pub label-frames : (m : Meaning) (node : NodeId) (name : ℕ) (fs : List (Frame ℕ)) (inside : Hedge ℕ) → seat_label m node name (seat_of fs) inside ≡ after_label m node name fs inside
label-frames m node name fs inside =
    ap (λ (d : Hedge ℕ). let n : Meaning = record (after_label m node name fs inside) { document = d } in n) (sym (plug-seat fs (elem node.0 name inside nil)))
