-- Forests with a number on each node, as they are edited: the numbers that new nodes get, where a
-- run of trees stands, and what was done.
use Rattle.std.specs.Prelude.{ℕ, zero, suc, ◌+◌, List, [], ◌∷◌, ◌++◌, Option, Some, None}
use Rattle.flux_trees.specs.Hedge.{Hedge, Plain, nil, elem, leaf, size, notes}
use Rattle.flux_trees.specs.Frame.{Frame, Down, Before, After, Each}

-- the numbers to come, the first at 0
abbrev pub Supply : Type 0
Supply = ℕ → ℕ

-- what a supply has left behind its first k numbers
abbrev pub beyond : ℕ → Supply → Supply
beyond k s = λ i. s (k + i)

-- these numbers, and then those of the supply
abbrev pub preceded : List ℕ → Supply → Supply
preceded [] s i = s i
preceded (n ∷ ns) s zero = n
preceded (n ∷ ns) s (suc i) = preceded ns s i

-- the forest with the first numbers of the supply on its nodes, in document order
abbrev pub number : Plain → Supply → Hedge ℕ
number nil s = nil
number (elem _ a c r) s =
    elem (s 0) a (number c (beyond 1 s)) (number r (beyond (suc (size c)) s))
number (leaf _ x r) s = leaf (s 0) x (number r (beyond 1 s))

-- the number of the last tree; where there is none, the other one
abbrev pub last_or : Option ℕ → Hedge ℕ → Option ℕ
last_or o nil = o
last_or o (elem n a c r) = last_or (Some n) r
last_or o (leaf n x r) = last_or (Some n) r

-- the place of a run of trees: the element that has it in its content, if there is one, and the
-- tree just before it there, if there is one
pub record Place : Type 0 where
  pub parent : Option ℕ
  pub left : Option ℕ

-- the element around what stands under these frames, the innermost first
abbrev pub parent_in : List (Frame ℕ) → Option ℕ
parent_in [] = None
parent_in (Down m n ∷ fs) = Some m
parent_in (Before w ∷ fs) = parent_in fs
parent_in (After w ∷ fs) = parent_in fs
parent_in (Each done rest ∷ fs) = parent_in fs

-- the tree before it
abbrev pub left_in : List (Frame ℕ) → Option ℕ
left_in [] = None
left_in (Down m n ∷ fs) = None
left_in (Before w ∷ fs) = left_in fs
left_in (After w ∷ fs) = last_or (left_in fs) w
left_in (Each done rest ∷ fs) = last_or (left_in fs) done

abbrev pub place_in : List (Frame ℕ) → Place
place_in fs = record { parent = parent_in fs; left = left_in fs }

-- trees are put at a place, or taken out of it; the element with a number gets another label
pub data Edit : Type 0 where
  Insert : (place : Place) (trees : Hedge ℕ) → Edit
  Delete : (place : Place) (trees : Hedge ℕ) → Edit
  Rename : (node from to : ℕ) → Edit

-- how many nodes the edits put in
abbrev pub inserted : List Edit → ℕ
inserted [] = 0
inserted (Insert place v ∷ edits) = size v + inserted edits
inserted (Delete place v ∷ edits) = inserted edits
inserted (Rename node from to ∷ edits) = inserted edits

-- the numbers that are free once the edits can't be taken back: those of the trees taken out, the
-- last taken out first
abbrev pub freed : List Edit → List ℕ
freed [] = []
freed (Insert place v ∷ edits) = freed edits
freed (Delete place v ∷ edits) = freed edits ++ notes v
freed (Rename node from to ∷ edits) = freed edits
