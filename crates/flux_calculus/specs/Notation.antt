-- What stands on the nodes of a forest that is updated, and what is kept beside it: nothing in a
-- plain forest; numbers, and the edits that were made, where it is edited in place.
use Rattle.std.specs.Prelude.{◌≡◌, ℕ, ◌+◌, List, [], ◌∷◌, ◌++◌, refl}
use Rattle.flux_trees.specs.Hedge.{Hedge, Plain, nil, elem, leaf, size, erase}
use Rattle.flux_trees.specs.Frame.{Frame}
use Rattle.flux_trees.specs.Edits.{Supply, beyond, preceded, number, place_in, Edit, Insert, Delete, Rename, freed}
use Rattle.flux_trees.proofs.EditLaws.{erase-plain, erase-number}

-- with notes N on the nodes, and marks M beside the forest: what trees that are put in under
-- frames, the innermost first, have on their nodes, and the marks then; the marks once trees are
-- taken out under frames, once an element has another label, and once nothing before can be taken
-- back. What is put in has the trees that were given
pub record Notation (N M : Type 0) : Type 0 where
  pub put_in : List (Frame N) → Plain → M → Hedge N × M
  pub taken_out : List (Frame N) → Hedge N → M → M
  pub relabelled : (note : N) (from to : ℕ) → M → M
  pub committed : M → M
  pub put_same : (fs : List (Frame N)) (w : Plain) (m : M) → erase (put_in fs w m).0 ≡ w

module _ {N M : Type 0} (notation : Notation N M) where
  -- where no tree is put in, or taken out, nothing changes
  abbrev pub insertion : List (Frame N) → Plain → M → Hedge N × M
  insertion fs nil m = (nil, m)
  insertion fs w m = notation.put_in fs w m

  abbrev pub deletion : List (Frame N) → Hedge N → M → M
  deletion fs nil m = m
  deletion fs v m = notation.taken_out fs v m

  -- the marks m come to be m', change after change
  pub data Later : M → M → Type 0 where
    now : {m : M} → Later m m
    put : {m m' : M} {fs : List (Frame N)} {w : Plain} →
        Later m m' → Later m (notation.put_in fs w m').1
    taken : {m m' : M} {fs : List (Frame N)} {v : Hedge N} →
        Later m m' → Later m (notation.taken_out fs v m')
    labelled : {m m' : M} {note : N} {from to : ℕ} →
        Later m m' → Later m (notation.relabelled note from to m')

-- a plain forest, and nothing beside it
abbrev pub plainly : Notation (Unit {0}) (Unit {0})
plainly = record {
  put_in = λ fs w m. (w, tt);
  taken_out = λ fs v m. tt;
  relabelled = λ note from to m. tt;
  committed = λ m. tt;
  put_same = λ fs w m. erase-plain w;
}

-- numbers on the nodes, and beside the forest the numbers to come, the edits that were made, and
-- the numbers that were to come before them
pub record Numbering : Type 0 where
  pub supply : Supply
  pub edits : List Edit
  pub first_supply : Supply

abbrev pub with_edit : Edit → Numbering → Numbering
with_edit e m =
    record { supply = m.supply; edits = m.edits ++ e ∷ []; first_supply = m.first_supply }

-- the first k numbers to come are used
abbrev pub used : ℕ → Numbering → Numbering
used k m =
    record { supply = beyond k m.supply; edits = m.edits; first_supply = m.first_supply }

-- the numbers that the edits free, then those to come, are those to come, and there are no edits
abbrev pub forgotten : Numbering → Numbering
forgotten m =
    let s : Supply = preceded (freed m.edits) m.supply in
    record { supply = s; edits = []; first_supply = s }

abbrev pub numbering : Notation ℕ Numbering
numbering = record {
  put_in = λ fs w m. (
    number w m.supply,
    with_edit (Insert (place_in fs) (number w m.supply)) (used (size w) m),
  );
  taken_out = λ fs v m. with_edit (Delete (place_in fs) v) m;
  relabelled = λ note from to m. with_edit (Rename note from to) m;
  committed = forgotten;
  put_same = λ fs w m. erase-number w m.supply;
}

-- before any edit, with these numbers to come
abbrev pub unedited : Supply → Numbering
unedited s = record { supply = s; edits = []; first_supply = s }
