-- What a table of linked nodes holds, and what its calls do to it.
use Rattle.std.specs.Prelude.{◌≡◌, ◌⊎◌, ℕ, ◌+◌, ◌-◌, ◌<◌, ◌≤◌, cond, eqb, zero, suc, length, drop, List, [], ◌∷◌, ◌++◌, Option, Some, None, refl}
use Rattle.std.specs.Coded.{Coded, code_by, coded×, coded_ℕ, coded_list}
use Rattle.std.specs.List.{sum_by}
use Rattle.std.proofs.Math.ListN.{get_or, set}
use Rattle.flux_trees.specs.Hedge.{Hedge, Plain, nil, elem, leaf, size, notes, content, others}
use Rattle.flux_trees.specs.HedgeCode.{numbered_code}
use Rattle.flux_trees.specs.Frame.{Frame, Down, Before, After, Each, plug}
use Rattle.flux_trees.specs.Edits.{Supply, preceded, number, last_or, parent_in, left_in, place_in}
use Rattle.flux_trees.specs.Edits.{Place as TreePlace}
use Rattle.flux_nodes.specs.declared.cell.NodeId.{NodeId}
use Rattle.flux_nodes.specs.declared.cell.Kind.{Kind}
use Rattle.flux_nodes.specs.declared.cell.Kind.TheVariants.{Elem, Leaf}
use Rattle.flux_nodes.specs.declared.cell.Cell.{Cell}
use Rattle.flux_nodes.specs.declared.run.Run.{Run}
use Rattle.flux_nodes.specs.declared.run.Place.{Place}

-- the document, for each number the unlinked run that begins with it, and the free numbers, the
-- next one to be used first
pub record Meaning : Type 0 where
  pub document : Hedge ℕ
  pub unlinked : List (Hedge ℕ)
  pub spare : List ℕ

-- its code
abbrev pub meaning_code : Coded Meaning
meaning_code =
    code_by (Hedge ℕ × (List (Hedge ℕ) × List ℕ))
    (coded× numbered_code (coded× (coded_list numbered_code) (coded_list coded_ℕ)))
    (λ m. (m.document, (m.unlinked, m.spare)))
    (λ p. record { document = p.0; unlinked = p.1.0; spare = p.1.1 })
    (λ _. refl)

-- nothing at all
abbrev pub empty : Meaning
empty = record { document = nil; unlinked = []; spare = [] }

-- how many nodes there are
abbrev pub made_in : Meaning → ℕ
made_in m = size m.document + sum_by size m.unlinked

-- the numbers to come: the free ones, and then those that were never used
abbrev pub supply : Meaning → Supply
supply m = preceded m.spare (λ i. length m.unlinked + i)

-- the number that a link names
abbrev pub number_of : Option NodeId → Option ℕ
number_of None = None
number_of (Some node) = Some node.0

-- a place of the code, as a place in a forest
abbrev pub tree_place : Place → TreePlace
tree_place p = record { parent = number_of p.parent; left = number_of p.after }

-- the number of the first tree; where there is none, the other one
abbrev pub first_or : Option ℕ → Hedge ℕ → Option ℕ
first_or o nil = o
first_or o (elem n a c r) = Some n
first_or o (leaf n x r) = Some n

-- the tree just behind what stands under these frames, the innermost first
abbrev pub right_in : List (Frame ℕ) → Option ℕ
right_in [] = None
right_in (Down m n ∷ fs) = None
right_in (Before w ∷ fs) = first_or (right_in fs) w
right_in (After w ∷ fs) = right_in fs
right_in (Each done rest ∷ fs) = first_or (right_in fs) rest

-- the trees go from the run's first to its last
pub record AreEnds (run : Run) (trees : Hedge ℕ) : Type 0 where
  pub first_is : first_or None trees ≡ Some run.first.0
  pub last_is : last_or None trees ≡ Some run.last.0

-- a run of these trees, or none where there are none
abbrev pub IsRunOf : Option Run → Hedge ℕ → Type 0
IsRunOf None h = h ≡ nil
IsRunOf (Some run) h = AreEnds run h

-- a run of neighbouring trees, and what stands around it
pub record RunAt (h : Hedge ℕ) (run : Run) : Type 0 where
  pub frames : List (Frame ℕ)
  pub trees : Hedge ℕ
  pub forest_is : h ≡ plug frames trees
  pub ends : AreEnds run trees

-- the run is a part of the document or of an unlinked run
abbrev pub IsPart : Meaning → Run → Type 0
IsPart m run = RunAt m.document run ⊎ ((i : ℕ) × RunAt (get_or m.unlinked i nil) run)

-- a place, and what stands around it
pub record PlaceAt (h : Hedge ℕ) (place : Place) : Type 0 where
  pub frames : List (Frame ℕ)
  pub forest_is : h ≡ plug frames nil
  pub place_is : place_in frames ≡ tree_place place

-- an element, and what stands around it
pub record ElementAt (h : Hedge ℕ) (node : NodeId) : Type 0 where
  pub frames : List (Frame ℕ)
  pub label : ℕ
  pub inside : Hedge ℕ
  pub forest_is : h ≡ plug frames (elem node.0 label inside nil)

-- a node with its tree, and what stands around it
pub record NodeAt (h : Hedge ℕ) (node : NodeId) : Type 0 where
  pub frames : List (Frame ℕ)
  pub tree : Hedge ℕ
  pub forest_is : h ≡ plug frames tree
  pub alone : others tree ≡ nil
  pub number_is : first_or None tree ≡ Some node.0

-- the node is one of the document or of an unlinked run
abbrev pub IsHandedOut : Meaning → NodeId → Type 0
IsHandedOut m node = NodeAt m.document node ⊎ ((i : ℕ) × NodeAt (get_or m.unlinked i nil) node)

-- what stands at the first node: an element's label, or an atom
abbrev pub IsKindOf : Kind → Hedge ℕ → Type 0
IsKindOf k nil = ⊥
IsKindOf k (elem m a c r) = k ≡ Elem a
IsKindOf k (leaf m x r) = k ≡ Leaf x

-- what the cell of a tree's first node says, where these frames are around the tree
pub record IsCellOf (c : Cell) (fs : List (Frame ℕ)) (tree : Hedge ℕ) : Type 0 where
  pub kind_is : IsKindOf c.kind tree
  pub parent_is : number_of c.parent ≡ parent_in fs
  pub prev_is : number_of c.prev ≡ left_in fs
  pub next_is : number_of c.next ≡ right_in fs
  pub first_is : number_of c.first ≡ first_or None (content tree)
  pub last_is : number_of c.last ≡ last_or None (content tree)

-- the trees of an unlinked run
abbrev pub trees_at : Meaning → Run → Hedge ℕ
trees_at m run = get_or m.unlinked run.first.0 nil

-- it is the unlinked run of just these trees, or there are none
abbrev pub IsNewRun : Option Run → Meaning → Hedge ℕ → Type 0
IsNewRun None m h = h ≡ nil
IsNewRun (Some run) m h = AreEnds run h × (trees_at m run ≡ h)

-- it is a whole unlinked run
abbrev pub IsUnlinked : Meaning → Run → Type 0
IsUnlinked m run = AreEnds run (trees_at m run)

-- the run's trees go from the document to the unlinked runs
abbrev pub after_unlink : Meaning → Run → List (Frame ℕ) → Hedge ℕ → Meaning
after_unlink m run fs trees = record {
  document = plug fs nil;
  unlinked = set m.unlinked run.first.0 trees;
  spare = m.spare;
}

-- the unlinked run's trees go into the document
abbrev pub after_link : Meaning → Run → List (Frame ℕ) → Meaning
after_link m run fs = record {
  document = plug fs (trees_at m run);
  unlinked = set m.unlinked run.first.0 nil;
  spare = m.spare;
}

-- the element has another label
abbrev pub after_label : Meaning → NodeId → ℕ → List (Frame ℕ) → Hedge ℕ → Meaning
after_label m node name fs inside = record {
  document = plug fs (elem node.0 name inside nil);
  unlinked = m.unlinked;
  spare = m.spare;
}

-- the numbers of the unlinked run are free, and are the next to be used, in document order
abbrev pub after_free : Meaning → Run → Meaning
after_free m run = record {
  document = m.document;
  unlinked = set m.unlinked run.first.0 nil;
  spare = notes (trees_at m run) ++ m.spare;
}

-- one thing n times
abbrev pub copies : {X : Type 0} → ℕ → X → List X
copies zero x = []
copies (suc n) x = x ∷ copies n x

-- trees with numbers from the supply, as an unlinked run; numbers that were never used are there
-- where the free ones don't suffice
abbrev pub with_trees : Meaning → Plain → Meaning
with_trees m v = record {
  document = m.document;
  unlinked =
      set (m.unlinked ++ copies (size v - length m.spare) nil) (supply m 0) (number v (supply m));
  spare = drop (size v) m.spare;
}

-- nothing changes where there are no trees
abbrev pub after_add : Meaning → Plain → Meaning
after_add m nil = m
after_add m (elem n a c r) = with_trees m (elem n a c r)
after_add m (leaf n x r) = with_trees m (leaf n x r)

-- whether two numbers are the same, as a count
abbrev pub one_if : ℕ → ℕ → ℕ
one_if k m = cond (eqb k m) 1 0

-- how often a number occurs
abbrev pub times : ℕ → Hedge ℕ → ℕ
times k nil = 0
times k (elem m a c r) = one_if k m + (times k c + times k r)
times k (leaf m x r) = one_if k m + times k r

-- the same in a list
abbrev pub times_in : ℕ → List ℕ → ℕ
times_in k [] = 0
times_in k (m ∷ ms) = one_if k m + times_in k ms

-- how often a number stands anywhere
abbrev pub times_all : ℕ → Meaning → ℕ
times_all k m = times k m.document + (sum_by (times k) m.unlinked + times_in k m.spare)

-- each number that was ever used stands just once, in the document, in an unlinked run or among the
-- free ones, and no other stands anywhere; so many were used as there are nodes and free numbers;
-- an unlinked run is listed at the number of its first tree
pub record IsSound (m : Meaning) : Type 0 where
  pub once : (k : ℕ) → k < length m.unlinked → times_all k m ≡ 1
  pub none : (k : ℕ) → length m.unlinked ≤ k → times_all k m ≡ 0
  pub counted : made_in m + length m.spare ≡ length m.unlinked
  pub listed : (i : ℕ) →
      (get_or m.unlinked i nil ≡ nil) ⊎ (first_or None (get_or m.unlinked i nil) ≡ Some i)

-- new nodes that are freed, where no others were made or freed since, give back the numbers that
-- were to come before
abbrev pub FreeingTakesBack : Type 0
FreeingTakesBack =
    (m n : Meaning) (v : Plain) (run : Run) →
    n.spare ≡ (after_add m v).spare → length n.unlinked ≡ length (after_add m v).unlinked →
    notes (trees_at n run) ≡ notes (number v (supply m)) →
    (i : ℕ) → supply (after_free n run) i ≡ supply m i
