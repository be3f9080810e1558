-- Decoding undoes encoding.
use Rattle.std.proofs.Common.{◌≡◌, ℕ, ◌+◌, ◌≤◌, arith, List, [], ◌∷◌, ◌++◌, length, take, drop, reverse, refl, ap, ap₂, ◌∙◌, sym, subst}
use Rattle.std.proofs.Math.Seq.{take-append_seam, drop-append_seam}
use Rattle.flux_trees.specs.Hedge.{Plain, size}
use Rattle.flux_trees.specs.Frame.{Down, Before, After, Each}
use Rattle.flux_forest.specs.declared.node.Node.{Node}
use Rattle.flux_forest.specs.Flat.{flat, hedge_of, element_node}
use Rattle.flux_forest.proofs.FlatLaws.{hedge_of-flat, length-flat}
use Rattle.flux_plain.specs.declared.step.Step.{Step}
use Rattle.flux_plain.specs.Focused.{PlainFrame, Focused}
use Rattle.flux_plain.specs.Layout.{before, behind, steps_of, IsLaid, first_label, frames_of, focused_of, HasRoom}

taken : (w : Plain) (ns : List Node) → hedge_of (take (size w) (flat w ++ ns)) ≡ w
taken w ns =
    ap (λ n. hedge_of (take n (flat w ++ ns))) (sym (length-flat w)) ∙ ap hedge_of (take-append_seam (flat w) ns) ∙ hedge_of-flat w

dropped : (w : Plain) (ns : List Node) → drop (size w) (flat w ++ ns) ≡ ns
dropped w ns =
    ap (λ n. drop n (flat w ++ ns)) (sym (length-flat w)) ∙ drop-append_seam (flat w) ns

last : (ns : List Node) (w : Plain) → hedge_of (drop (length ns) (ns ++ flat w)) ≡ w
last ns w = ap hedge_of (drop-append_seam ns (flat w)) ∙ hedge_of-flat w

pub frames_of-laid : (fs : List PlainFrame) → frames_of (before fs) (behind fs) (steps_of fs) ≡ fs
frames_of-laid [] = refl
frames_of-laid (Down _ a ∷ fs) =
    ap₂ (λ ns left. Down tt (first_label ns) ∷ frames_of left (behind fs) (steps_of fs)) (drop-append_seam (before fs) (element_node a 0 ∷ [])) (take-append_seam (before fs) (element_node a 0 ∷ [])) ∙ ap (λ gs. Down tt a ∷ gs) (frames_of-laid fs)
frames_of-laid (Before w ∷ fs) =
    ap₂ (λ v right. Before v ∷ frames_of (before fs) right (steps_of fs)) (taken w (behind fs)) (dropped w (behind fs)) ∙ ap (λ gs. Before w ∷ gs) (frames_of-laid fs)
frames_of-laid (After w ∷ fs) =
    ap₂ (λ v left. After v ∷ frames_of left (behind fs) (steps_of fs)) (last (before fs) w) (take-append_seam (before fs) (flat w)) ∙ ap (λ gs. After w ∷ gs) (frames_of-laid fs)
frames_of-laid (Each done rest ∷ fs) =
    ap₂ (λ v left. Each v (hedge_of (take (size rest) (flat rest ++ behind fs))) ∷ frames_of left (drop (size rest) (flat rest ++ behind fs)) (steps_of fs)) (last (before fs) done) (take-append_seam (before fs) (flat done)) ∙ ap₂ (λ v right. Each done v ∷ frames_of (before fs) right (steps_of fs)) (taken rest (behind fs)) (dropped rest (behind fs)) ∙ ap (λ gs. Each done rest ∷ gs) (frames_of-laid fs)

-- what is laid out is what is read
pub focused_of-laid : {d : Focused} {left right : List Node} {steps : List Step} {start : ℕ} → IsLaid d left right steps start → focused_of left right steps start ≡ d
unfolding focused_of
focused_of-laid {d} {left} {right} {steps} {start} i =
    let front : take start left ≡ before d.frames = ap₂ take i.start_is i.left_is ∙ take-append_seam (before d.frames) (flat d.focus) in
    let back : drop start left ≡ flat d.focus = ap₂ drop i.start_is i.left_is ∙ drop-append_seam (before d.frames) (flat d.focus) in
    let outer : frames_of (take start left) (reverse right) (reverse steps) ≡ d.frames = rw (front, i.right_is, i.steps_are) (frames_of-laid d.frames) in
    let inner : hedge_of (drop start left) ≡ d.focus = ap hedge_of back ∙ hedge_of-flat d.focus in
    ap₂ (λ fs v. record { frames = fs; focus = v }) outer inner

-- it is laid out as what it is read as
pub laid : {d : Focused} {left right : List Node} {steps : List Step} {start : ℕ} → IsLaid d left right steps start → IsLaid (focused_of left right steps start) left right steps start
laid {d} {left} {right} {steps} {start} i =
    let P : Focused → Type 0 = λ e. IsLaid e left right steps start in subst P (sym (focused_of-laid i)) i

-- of the same document
pub seen : {d e : Focused} {left right : List Node} {steps : List Step} {start : ℕ} → IsLaid d left right steps start → d ≡ e → IsLaid e left right steps start
seen {left = left} {right} {steps} {start} i same =
    let P : Focused → Type 0 = λ e. IsLaid e left right steps start in subst P same i

-- no more nodes have room where there is no less
pub keep_room : {left right new_left new_right : List Node} {m n new_m new_n : ℕ} → HasRoom left right m n → length new_left + length new_right ≤ length left + length right → m ≤ new_m → n ≤ new_n → HasRoom new_left new_right new_m new_n
keep_room h long on_left on_right = record {
  on_left = omega (arith, h.on_left);
  on_right = omega (arith, h.on_right);
}

-- the nodes and steps are those of a document that came about so from d
pub record Went (R : Focused → Focused → Type 0) (d : Focused) (left right : List Node) (steps : List Step) (start : ℕ) : Type 0 where
  pub new : Focused
  pub how : R d new
  pub at : IsLaid new left right steps start

pub keep : {R : Focused → Focused → Type 0} {d : Focused} {left right : List Node} {steps : List Step} {start : ℕ} → Went R d left right steps start → IsLaid (focused_of left right steps start) left right steps start
keep w = laid w.at

pub show : {R : Focused → Focused → Type 0} {d : Focused} {left right : List Node} {steps : List Step} {start : ℕ} → Went R d left right steps start → R d (focused_of left right steps start)
show {R} {d} w = let P : Focused → Type 0 = λ e. R d e in subst P (sym (focused_of-laid w.at)) w.how

pub with_right : {d : Focused} {left right new_right : List Node} {steps : List Step} {start : ℕ} → IsLaid d left right steps start → new_right ≡ right → IsLaid d left new_right steps start
with_right i same = record {
  left_is = i.left_is;
  right_is = ap reverse same ∙ i.right_is;
  steps_are = i.steps_are;
  start_is = i.start_is;
}
