-- A document with a focus in it.
use Rattle.std.specs.Prelude.{◌≡◌, ◌⊎◌, ℕ, List, refl}
use Rattle.std.proofs.Common.{inl, inr}
use Rattle.std.specs.Coded.{Coded, code_by, coded_ℕ, coded_list, coded⊎, coded×}
use Rattle.flux_trees.specs.Hedge.{Plain}
use Rattle.flux_trees.specs.HedgeCode.{plain_code}
use Rattle.flux_trees.specs.Frame.{Frame, Down, Before, After, Each}

-- a frame round trees with nothing noted
abbrev pub PlainFrame : Type 0
PlainFrame = Frame (Unit {0})

-- the trees in the focus, and what stands around them, the innermost first
pub record Focused : Type 0 where
  pub frames : List PlainFrame
  pub focus : Plain

abbrev from_frame : PlainFrame → (ℕ ⊎ Plain) ⊎ (Plain ⊎ (Plain × Plain))
from_frame (Down _ a) = inl (inl a)
from_frame (Before w) = inl (inr w)
from_frame (After w) = inr (inl w)
from_frame (Each done rest) = inr (inr (done, rest))

abbrev to_frame : (ℕ ⊎ Plain) ⊎ (Plain ⊎ (Plain × Plain)) → PlainFrame
to_frame (inl (inl a)) = Down tt a
to_frame (inl (inr w)) = Before w
to_frame (inr (inl w)) = After w
to_frame (inr (inr p)) = Each p.0 p.1

pub to_frame-from_frame : (f : PlainFrame) → to_frame (from_frame f) ≡ f
to_frame-from_frame (Down _ a) = refl
to_frame-from_frame (Before w) = refl
to_frame-from_frame (After w) = refl
to_frame-from_frame (Each done rest) = refl

-- the code of a frame
abbrev pub frame_code : Coded PlainFrame
frame_code =
    code_by ((ℕ ⊎ Plain) ⊎ (Plain ⊎ (Plain × Plain)))
    (coded⊎ (coded⊎ coded_ℕ plain_code) (coded⊎ plain_code (coded× plain_code plain_code)))
    from_frame to_frame to_frame-from_frame

-- the code of a document with a focus in it
abbrev pub focused_code : Coded Focused
focused_code =
    code_by (List PlainFrame × Plain) (coded× (coded_list frame_code) plain_code)
    (λ d. (d.frames, d.focus)) (λ p. record { frames = p.0; focus = p.1 }) (λ _. refl)
