-- How a document with a focus in it is laid out as nodes: those before the focus and in it, those
-- behind it, and the steps that lead back.
use Rattle.std.specs.Prelude.{◌≡◌, ℕ, ◌+◌, ◌≤◌, List, [], ◌∷◌, ◌++◌, length, take, drop}
use Rattle.std.proofs.Common.{reverse}
use Rattle.flux_trees.specs.Hedge.{size}
use Rattle.flux_trees.specs.Frame.{Down, Before, After, Each}
use Rattle.flux_forest.specs.declared.node.Item.{Item}
use Rattle.flux_forest.specs.declared.node.Item.TheVariants.{Element, Leaf}
use Rattle.flux_forest.specs.declared.node.Node.{Node}
use Rattle.flux_forest.specs.Flat.{flat, hedge_of, element_node}
use Rattle.flux_plain.specs.declared.step.Step.{Step}
use Rattle.flux_plain.specs.declared.step.Step.TheVariants.{Down as DownStep, Before as BeforeStep, After as AfterStep, Each as EachStep}
use Rattle.flux_plain.specs.Focused.{PlainFrame, Focused}

-- the nodes of all that stands before the focus; an element around it is begun
abbrev pub before : List PlainFrame → List Node
before [] = []
before (Down _ a ∷ fs) = before fs ++ element_node a 0 ∷ []
before (Before w ∷ fs) = before fs
before (After w ∷ fs) = before fs ++ flat w
before (Each done rest ∷ fs) = before fs ++ flat done

-- the nodes of all that stands behind it
abbrev pub behind : List PlainFrame → List Node
behind [] = []
behind (Down _ a ∷ fs) = behind fs
behind (Before w ∷ fs) = flat w ++ behind fs
behind (After w ∷ fs) = behind fs
behind (Each done rest ∷ fs) = flat rest ++ behind fs

-- the step back from a frame, where what it stands around begins at this node
abbrev pub step_of : ℕ → PlainFrame → Step
step_of start (Down _ a) = DownStep start
step_of start (Before w) = BeforeStep (size w)
step_of start (After w) = AfterStep start
step_of start (Each done rest) = EachStep start (size rest)

-- the steps back, the innermost first
abbrev pub steps_of : List PlainFrame → List Step
steps_of [] = []
steps_of (f ∷ fs) = step_of (length (before fs)) f ∷ steps_of fs

-- the nodes before the focus and in it, those behind it from the last to the first, the steps back
-- from the outermost to the innermost, and where the focus begins
pub record IsLaid (d : Focused) (left right : List Node) (steps : List Step) (start : ℕ)
    : Type 0 where
  pub left_is : left ≡ before d.frames ++ flat d.focus
  pub right_is : reverse right ≡ behind d.frames
  pub steps_are : reverse steps ≡ steps_of d.frames
  pub start_is : start ≡ length (before d.frames)

-- the label of the first node
abbrev pub first_label : List Node → ℕ
first_label [] = 0
first_label (n ∷ ns) = label n.item where
  label : Item → ℕ
  label (Element a) = a
  label (Leaf x) = 0

-- the frames of the nodes before the focus, those behind it, and the steps back
abbrev pub frames_of : List Node → List Node → List Step → List PlainFrame
frames_of left right [] = []
frames_of left right (DownStep start ∷ steps) =
    Down tt (first_label (drop start left)) ∷ frames_of (take start left) right steps
frames_of left right (BeforeStep count ∷ steps) =
    Before (hedge_of (take count right)) ∷ frames_of left (drop count right) steps
frames_of left right (AfterStep start ∷ steps) =
    After (hedge_of (drop start left)) ∷ frames_of (take start left) right steps
frames_of left right (EachStep start count ∷ steps) =
    Each (hedge_of (drop start left)) (hedge_of (take count right))
    ∷ frames_of (take start left) (drop count right) steps

-- the document that is laid out so
unfoldable pub focused_of : List Node → List Node → List Step → ℕ → Focused
focused_of left right steps start = record {
  frames = frames_of (take start left) (reverse right) (reverse steps);
  focus = hedge_of (drop start left);
}

-- all nodes have room on each side
pub record HasRoom (left right : List Node) (left_room right_room : ℕ) : Type 0 where
  pub on_left : length left + length right ≤ left_room
  pub on_right : length left + length right ≤ right_room

-- the last nodes of the first went to the end of the second, the last one first: from the first to
-- the second, and back from its end, the nodes stand as before
pub record HasMoved (from to new_from new_to : List Node) (count : ℕ) : Type 0 where
  pub order : new_from ++ reverse new_to ≡ from ++ reverse to
  pub moved : length new_to ≡ length to + count
