-- What each way back does to the nodes.
use Rattle.std.proofs.Common.{◌≡◌, ℕ, ◌-◌, ◌≤◌, suc, List, [], ◌∷◌, ◌++◌, length, reverse, refl, ap, ap₂, ◌∙◌, sym, arith, length-append, append_assoc}
use Rattle.std.proofs.lemmas.List.{append-nil, length-reverse}
use Rattle.std.proofs.Math.ListN.{set, get_or}
use Rattle.std.proofs.Math.Seq.{set-append_seam, get_or-append_seam}
use Rattle.flux_trees.specs.Hedge.{Plain, join, size}
use Rattle.flux_trees.specs.Frame.{Down, Before, After, Each, framed}
use Rattle.flux_forest.specs.declared.node.Node.{Node}
use Rattle.flux_forest.specs.Flat.{flat, element_node}
use Rattle.flux_forest.proofs.FlatLaws.{flat-join, length-flat}
use Rattle.flux_plain.specs.declared.step.Step.{Step}
use Rattle.flux_plain.specs.declared.step.Step.TheVariants.{Down as DownStep, Before as BeforeStep, After as AfterStep, Each as EachStep}
use Rattle.flux_plain.specs.Focused.{PlainFrame, Focused}
use Rattle.flux_plain.specs.Layout.{before, behind, step_of, steps_of, IsLaid, HasMoved}
use Rattle.flux_plain.specs.Moves.{SteppedBack}
use Rattle.flux_plain.proofs.RunLaws.{moved_left}
use Rattle.flux_plain.proofs.MoveLaws.{pushed}
use Rattle.flux_plain.proofs.LayoutLaws.{Went}

-- the document d has the frame f and then those of e, whose steps are these
pub record HasLast (d : Focused) (f : PlainFrame) (fs : List PlainFrame) (step : Step) (outer : List Step) : Type 0 where
  pub frames_are : d.frames ≡ f ∷ fs
  pub step_is : step ≡ step_of (length (before fs)) f
  pub outer_are : reverse outer ≡ steps_of fs

-- the last step leads back from the innermost frame
last_frame : (gs : List PlainFrame) (step : Step) (outer : List Step) → steps_of gs ≡ step ∷ outer → (f : PlainFrame) × (fs : List PlainFrame) × (gs ≡ f ∷ fs) × (step ≡ step_of (length (before fs)) f) × (outer ≡ steps_of fs)
last_frame [] step outer e = cc
last_frame (f ∷ fs) step outer e = (f, fs, refl, cc, cc)

pub popped : {d : Focused} {left right : List Node} {steps : List Step} {start : ℕ} → IsLaid d left right steps start → (outer : List Step) (step : Step) → steps ≡ outer ++ step ∷ [] → (f : PlainFrame) × (fs : List PlainFrame) × HasLast d f fs step outer
popped {d} i outer step is =
    let found = last_frame d.frames step (reverse outer) (sym i.steps_are ∙ ap reverse is ∙ pushed outer step) in
    (found.0, found.1, record { frames_are = found.2; step_is = found.3; outer_are = found.4 })

module _ {d : Focused} {left right : List Node} {steps : List Step} {start : ℕ} (i : IsLaid d left right steps start) (fs : List PlainFrame) where
  -- what is laid out, where f is the innermost frame
  left_under : (f : PlainFrame) → d.frames ≡ f ∷ fs → left ≡ before (f ∷ fs) ++ flat d.focus
  left_under f e = i.left_is ∙ ap (λ gs. before gs ++ flat d.focus) e

  right_under : (f : PlainFrame) → d.frames ≡ f ∷ fs → reverse right ≡ behind (f ∷ fs)
  right_under f e = i.right_is ∙ ap behind e

  -- without it, with other trees in the focus
  without : (f : PlainFrame) (step : Step) (outer : List Step) → HasLast d f fs step outer → (new_left new_right : List Node) (new_start : ℕ) → new_left ≡ before fs ++ flat (framed f d.focus) → reverse new_right ≡ behind fs → new_start ≡ length (before fs) → Went SteppedBack d new_left new_right outer new_start
  without f step outer h new_left new_right new_start l r s = record {
    new = record { frames = fs; focus = framed f d.focus };
    how = (f, fs, h.frames_are, refl);
    at = record { left_is = l; right_is = r; steps_are = h.outer_are; start_is = s };
  }

  pub down_under : (f : PlainFrame) (at : ℕ) (outer : List Step) → HasLast d f fs (DownStep at) outer → (z : Node) (end : ℕ) → z ≡ get_or left at z → end ≡ length left → Went SteppedBack d (set left at (record { item = z.item; size = end - at })) right outer at
  down_under (Down _ a) at outer h z end e long =
      let begins : at ≡ length (before fs) = cc (h.step_is) in
      let is : left ≡ before fs ++ element_node a 0 ∷ flat d.focus = left_under (Down tt a) h.frames_are ∙ append_assoc (before fs) (element_node a 0 ∷ []) (flat d.focus) in
      let found : z ≡ element_node a 0 = e ∙ ap₂ (λ ns n. get_or ns n z) is begins ∙ get_or-append_seam (before fs) (element_node a 0) (flat d.focus) z in
      let span : end - at ≡ suc (size d.focus) = omega (arith, ap length is, length-append (before fs) (element_node a 0 ∷ flat d.focus), length-flat d.focus) in
      let ended : Node = record { item = z.item; size = end - at } in
      let same : ended ≡ element_node a (suc (size d.focus)) = ap₂ (λ (y : Node) n. record { item = y.item; size = n }) found span in
      let written : set left at ended ≡ before fs ++ element_node a (suc (size d.focus)) ∷ flat d.focus = ap₂ (λ ns n. set ns n ended) is begins ∙ set-append_seam (before fs) (element_node a 0) (flat d.focus) ended ∙ ap (λ y. before fs ++ y ∷ flat d.focus) same in
      without (Down tt a) (DownStep at) outer h (set left at ended) right at (written ∙ ap (λ ns. before fs ++ element_node a (suc (size d.focus)) ∷ ns) (sym (append-nil (flat d.focus)))) (right_under (Down tt a) h.frames_are) begins
  down_under (Before w) at outer h z end e long = absurd (cc (h.step_is))
  down_under (After w) at outer h z end e long = absurd (cc (h.step_is))
  down_under (Each done rest) at outer h z end e long = absurd (cc (h.step_is))

  right_long : (w : Plain) (f : PlainFrame) → d.frames ≡ f ∷ fs → behind (f ∷ fs) ≡ flat w ++ behind fs → size w ≤ length right
  right_long w f e is =
      omega (arith, ap length (right_under f e ∙ is), length-append (flat w) (behind fs), length-flat w, length-reverse right)

  pub before_le : (f : PlainFrame) (count : ℕ) (outer : List Step) → HasLast d f fs (BeforeStep count) outer → count ≤ length right
  before_le (Before w) count outer h =
      let many : size w ≡ count = cc (h.step_is) in
      omega (arith, right_long w (Before w) h.frames_are refl)
  before_le (Down _ a) count outer h = absurd (cc (h.step_is))
  before_le (After w) count outer h = absurd (cc (h.step_is))
  before_le (Each done rest) count outer h = absurd (cc (h.step_is))

  pub each_le : (f : PlainFrame) (at count : ℕ) (outer : List Step) → HasLast d f fs (EachStep at count) outer → count ≤ length right
  each_le (Each done rest) at count outer h =
      let many : size rest ≡ count = cc (h.step_is) in
      omega (arith, right_long rest (Each done rest) h.frames_are refl)
  each_le (Down _ a) at count outer h = absurd (cc (h.step_is))
  each_le (Before w) at count outer h = absurd (cc (h.step_is))
  each_le (After w) at count outer h = absurd (cc (h.step_is))

  pub before_under : (f : PlainFrame) (count : ℕ) (outer : List Step) → HasLast d f fs (BeforeStep count) outer → (new_left new_right : List Node) → HasMoved right left new_right new_left count → Went SteppedBack d new_left new_right outer start
  before_under (Before w) count outer h new_left new_right m =
      let many : size w ≡ count = cc (h.step_is) in
      let both = moved_left m (flat w) (behind fs) (right_under (Before w) h.frames_are) (length-flat w ∙ many) in
      without (Before w) (BeforeStep count) outer h new_left new_right start (both.0 ∙ ap (λ ns. ns ++ flat w) (left_under (Before w) h.frames_are) ∙ append_assoc (before fs) (flat d.focus) (flat w) ∙ ap (λ ns. before fs ++ ns) (sym (flat-join d.focus w))) both.1 (i.start_is ∙ ap (λ gs. length (before gs)) h.frames_are)
  before_under (Down _ a) count outer h new_left new_right m = absurd (cc (h.step_is))
  before_under (After w) count outer h new_left new_right m = absurd (cc (h.step_is))
  before_under (Each done rest) count outer h new_left new_right m = absurd (cc (h.step_is))

  pub after_under : (f : PlainFrame) (at : ℕ) (outer : List Step) → HasLast d f fs (AfterStep at) outer → Went SteppedBack d left right outer at
  after_under (After w) at outer h =
      let begins : at ≡ length (before fs) = cc (h.step_is) in
      without (After w) (AfterStep at) outer h left right at (left_under (After w) h.frames_are ∙ append_assoc (before fs) (flat w) (flat d.focus) ∙ ap (λ ns. before fs ++ ns) (sym (flat-join w d.focus))) (right_under (After w) h.frames_are) begins
  after_under (Down _ a) at outer h = absurd (cc (h.step_is))
  after_under (Before w) at outer h = absurd (cc (h.step_is))
  after_under (Each done rest) at outer h = absurd (cc (h.step_is))

  pub each_under : (f : PlainFrame) (at count : ℕ) (outer : List Step) → HasLast d f fs (EachStep at count) outer → (new_left new_right : List Node) → HasMoved right left new_right new_left count → Went SteppedBack d new_left new_right outer at
  each_under (Each done rest) at count outer h new_left new_right m =
      let begins : at ≡ length (before fs) = cc (h.step_is) in
      let many : size rest ≡ count = cc (h.step_is) in
      let both = moved_left m (flat rest) (behind fs) (right_under (Each done rest) h.frames_are) (length-flat rest ∙ many) in
      let inner : flat (join d.focus rest) ≡ flat d.focus ++ flat rest = flat-join d.focus rest in
      let whole : flat (join done (join d.focus rest)) ≡ flat done ++ (flat d.focus ++ flat rest) = flat-join done (join d.focus rest) ∙ ap (λ ns. flat done ++ ns) inner in
      without (Each done rest) (EachStep at count) outer h new_left new_right at (both.0 ∙ ap (λ ns. ns ++ flat rest) (left_under (Each done rest) h.frames_are) ∙ append_assoc (before fs ++ flat done) (flat d.focus) (flat rest) ∙ append_assoc (before fs) (flat done) (flat d.focus ++ flat rest) ∙ ap (λ ns. before fs ++ ns) (sym whole)) both.1 begins
  each_under (Down _ a) at count outer h new_left new_right m = absurd (cc (h.step_is))
  each_under (Before w) at count outer h new_left new_right m = absurd (cc (h.step_is))
  each_under (After w) at count outer h new_left new_right m = absurd (cc (h.step_is))

-- each step back leads back
module _ {d : Focused} {left right : List Node} {steps : List Step} {start : ℕ} (i : IsLaid d left right steps start) where
  pub back_down : (outer : List Step) (at : ℕ) → steps ≡ outer ++ DownStep at ∷ [] → (z : Node) (end : ℕ) → z ≡ get_or left at z → end ≡ length left → Went SteppedBack d (set left at (record { item = z.item; size = end - at })) right outer at
  back_down outer at is z end e long =
      let p = popped i outer (DownStep at) is in
      down_under i p.1 p.0 at outer p.2 z end e long

  pub back_before : (outer : List Step) (count : ℕ) → steps ≡ outer ++ BeforeStep count ∷ [] → (new_left new_right : List Node) → HasMoved right left new_right new_left count → Went SteppedBack d new_left new_right outer start
  back_before outer count is new_left new_right m =
      let p = popped i outer (BeforeStep count) is in
      before_under i p.1 p.0 count outer p.2 new_left new_right m

  pub back_after : (outer : List Step) (at : ℕ) → steps ≡ outer ++ AfterStep at ∷ [] → Went SteppedBack d left right outer at
  back_after outer at is =
      let p = popped i outer (AfterStep at) is in
      after_under i p.1 p.0 at outer p.2

  pub back_each : (outer : List Step) (at count : ℕ) → steps ≡ outer ++ EachStep at count ∷ [] → (new_left new_right : List Node) → HasMoved right left new_right new_left count → Went SteppedBack d new_left new_right outer at
  back_each outer at count is new_left new_right m =
      let p = popped i outer (EachStep at count) is in
      each_under i p.1 p.0 at count outer p.2 new_left new_right m

  pub back_before_le : (outer : List Step) (count : ℕ) → steps ≡ outer ++ BeforeStep count ∷ [] → count ≤ length right
  back_before_le outer count is =
      let p = popped i outer (BeforeStep count) is in
      before_le i p.1 p.0 count outer p.2

  pub back_each_le : (outer : List Step) (at count : ℕ) → steps ≡ outer ++ EachStep at count ∷ [] → count ≤ length right
  back_each_le outer at count is =
      let p = popped i outer (EachStep at count) is in
      each_le i p.1 p.0 at count outer p.2

-- the last of a list, by another name
pub ends_in : (outer steps : List Step) {s t : Step} → s ≡ t → steps ≡ outer ++ s ∷ [] → steps ≡ outer ++ t ∷ []
ends_in outer steps same is = is ∙ ap (λ s. outer ++ s ∷ []) same

steps_length : (gs : List PlainFrame) → length (steps_of gs) ≡ length gs
steps_length [] = refl
steps_length (f ∷ fs) = ap suc (steps_length fs)

-- there are as many steps as frames
pub frames_length : {d : Focused} {left right : List Node} {steps : List Step} {start : ℕ} → IsLaid d left right steps start → length steps ≡ length d.frames
frames_length {d} {steps = steps} i =
    sym (length-reverse steps) ∙ ap length i.steps_are ∙ steps_length d.frames
