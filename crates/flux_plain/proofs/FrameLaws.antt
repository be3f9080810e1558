-- What a step back is to the frame that it leaves.
use Rattle.std.proofs.Common.{◌≡◌, ◌≢◌, List, [], ◌∷◌, refl, ap, ap₂, ◌∙◌, inl, inr}
use Rattle.flux_trees.specs.Hedge.{nil, join}
use Rattle.flux_trees.specs.Frame.{Down, Before, After, Each, framed}
use Rattle.flux_trees.proofs.HedgeLaws.{join-nil}
use Rattle.flux_editor.specs.Editing.{IsDown, IsBeside, IsAtLast, CameUp, Widened, Gathered}
use Rattle.flux_plain.specs.Focused.{PlainFrame, Focused}
use Rattle.flux_plain.specs.Moves.{state, Is, Becomes, HasFrame, SteppedBack}

-- the frame that is left is the innermost
made : {old new : Focused} → SteppedBack old new → (f : PlainFrame) (fs : List PlainFrame) → old.frames ≡ f ∷ fs → new ≡ record { frames = fs; focus = framed f old.focus }
made {old} {new} b f fs e =
    let same : b.1 ≡ fs = cc (b.2) in
    let frame : b.0 ≡ f = cc (b.2) in
    b.3 ∙ ap₂ (λ gs g. record { frames = gs; focus = framed g old.focus }) same frame

pub came_up : (old new : Focused) → Is IsDown old → SteppedBack old new → Becomes CameUp old new
came_up old new u b earlier =
    (tt, u.1, u.2, u.3, ap (state earlier) (made b (Down tt u.1) u.2 u.3))

pub widened : (old new : Focused) → Is IsBeside old → SteppedBack old new → Becomes Widened old new
widened old new u b earlier =
    (u.0, u.1, elim u.2 [ inl e ↦ inl (e, ap (state earlier) (made b (Before u.0) u.1 e)) | inr e ↦ inr (e, ap (state earlier) (made b (After u.0) u.1 e)) ])

pub gathered : (old new : Focused) → Is IsAtLast old → SteppedBack old new → Becomes Gathered old new
gathered old new u b earlier =
    let back : new ≡ record { frames = u.1; focus = framed (Each u.0 nil) old.focus } = made b (Each u.0 nil) u.1 u.2 in
    (u.0, u.1, u.2, ap (state earlier) (back ∙ ap (λ v. record { frames = u.1; focus = join u.0 v }) (join-nil old.focus)))

pub down_frame : (d : Focused) → Is IsDown d → HasFrame d
down_frame d u = (Down tt u.1, u.2, u.3)

pub side_frame : (d : Focused) → Is IsBeside d → HasFrame d
side_frame d u =
    elim u.2 as (λ _. HasFrame d) [ inl e ↦ (Before u.0, u.1, e) | inr e ↦ (After u.0, u.1, e) ]

pub last_frame : (d : Focused) → Is IsAtLast d → HasFrame d
last_frame d u = (Each u.0 nil, u.1, u.2)

pub some_frame : (fs : List PlainFrame) → fs ≢ [] → (f : PlainFrame) × (gs : List PlainFrame) × (fs ≡ f ∷ gs)
some_frame [] some = absurd (some refl)
some_frame (f ∷ fs) some = (f, fs, refl)
