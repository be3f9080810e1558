-- Moments that are kept and gone back to.
use Rattle.std.proofs.Common.{◌≡◌, ◌≢◌, ◌==◌, false, ℕ, zero, suc, arith, List, [], ◌∷◌, ◌++◌, length, take, get_or, set, map, ap, ap₂, refl, subst, ◌∙◌, sym, inl, inr}
use Rattle.std.proofs.lemmas.List.{take-map, take-set, take_at}
use Rattle.flux_trees.specs.Hedge.{Plain, nil, elem, leaf, join, first, others}
use Rattle.flux_trees.specs.Frame.{plug}
use Rattle.flux_trees.proofs.HedgeLaws.{join-nil, join-first, join_assoc}
use Rattle.flux_forest.specs.declared.node.Node.{Node}
use Rattle.flux_forest.specs.Flat.{flat, hedge_of}
use Rattle.flux_calculus.specs.Notation.{plainly}
use Rattle.flux_editor.specs.Editing.{past, changed, after_insert, deleted_from, TakenBack, WentDown, CameUp, WentLeft, WentRight, Widened, WentToFirst, WentToNext, Gathered}
use Rattle.flux_plain.specs.declared.earlier.Earlier.{Earlier}
use Rattle.flux_plain.specs.Focused.{Focused}
use Rattle.flux_plain.specs.Layout.{before}
use Rattle.flux_plain.specs.Moves.{PlainMoment, PlainState, state, Becomes, all_of, whole, relabelled, Relabelled}
use Rattle.flux_plain.specs.PlainStates.{document_before, document_was, documents, moments}
use Rattle.flux_plain.proofs.LabelLaws.{label_again}

-- ---- what is kept

abbrev moment : Plain → PlainMoment
moment h = record { document = h; marks = tt }

was_push : (es : List Earlier) (e : Earlier) (h : Plain) → document_was (es ++ e ∷ []) h ≡ document_was es (document_before e h)
was_push [] e h = refl
was_push (x ∷ es) e h = ap (document_before x) (was_push es e h)

documents_push : (es : List Earlier) (e : Earlier) (h : Plain) → documents (es ++ e ∷ []) h ≡ documents es (document_before e h) ++ h ∷ []
documents_push [] e h = refl
documents_push (x ∷ es) e h =
    ap₂ (λ d ds. d ∷ ds) (was_push (x ∷ es) e h) (documents_push es e h)

pub length-documents : (es : List Earlier) (h : Plain) → length (documents es h) ≡ suc (length es)
length-documents [] h = refl
length-documents (e ∷ es) h = ap suc (length-documents es h)

pub length-moments : (es : List Earlier) (h : Plain) → length (moments es h) ≡ length es
length-moments [] h = refl
length-moments (e ∷ es) h = ap suc (length-moments es h)

-- a change comes last
pub moments_push : (es : List Earlier) (e : Earlier) (h k : Plain) → document_before e h ≡ k → moments (es ++ e ∷ []) h ≡ moments es k ++ record { document = k; marks = tt } ∷ []
moments_push [] e h k same = ap (λ d. record { document = d; marks = tt } ∷ []) same
moments_push (x ∷ es) e h k same =
    ap₂ (λ d ms. record { document = d; marks = tt } ∷ ms) (was_push (x ∷ es) e h ∙ ap (document_was (x ∷ es)) same) (moments_push es e h k same)

-- before a change the document was what is kept of it
pub kept_past : (es fs : List Earlier) (e : Earlier) (d new : Focused) → fs ≡ es ++ e ∷ [] → document_before e (whole new) ≡ whole d → moments fs (whole new) ≡ past (state (moments es (whole d)) d)
kept_past es fs e d new is same =
    ap (λ gs. moments gs (whole new)) is ∙ moments_push es e (whole new) (whole d) same

pub some_inserted : (v : Plain) (s : PlainState) → v ≢ nil → after_insert plainly v s ≡ changed v tt s
some_inserted nil s some = absurd (some refl)
some_inserted (elem _ a c r) s some = refl
some_inserted (leaf _ x r) s some = refl

pub some_deleted : (v : Plain) (s : PlainState) → v ≢ nil → deleted_from plainly v s ≡ changed nil tt s
some_deleted nil s some = absurd (some refl)
some_deleted (elem _ a c r) s some = refl
some_deleted (leaf _ x r) s some = refl

pub has_nodes : (ns : List Node) (v : Plain) → hedge_of ns ≡ v → flat (hedge_of ns) ≡ ns → false ≡ (length ns == 0) → v ≢ nil
has_nodes [] v e f h empty = cc
has_nodes (n ∷ ns) v e f h empty =
    let none : [] ≡ n ∷ ns = ap flat (sym (e ∙ empty)) ∙ f in cc none

moments_are : (es : List Earlier) (h : Plain) → moments es h ++ moment h ∷ [] ≡ map moment (documents es h)
moments_are [] h = refl
moments_are (e ∷ es) h = ap (λ ms. moment (document_was (e ∷ es) h) ∷ ms) (moments_are es h)

-- the label is the one that was kept
pub label_kept : (d e : Focused) (a b : ℕ) (w : Plain) → d.focus ≡ elem tt a w nil → Relabelled b d e → relabelled (length (before d.frames)) a (whole e) ≡ whole d
label_kept d e a b w focus r =
    let same : elem tt r.0 r.1 nil ≡ elem tt a w nil = sym r.2 ∙ focus in
    let inside : r.1 ≡ w = cc same in
    let new : whole e ≡ plug d.frames (elem tt b w nil) = ap whole r.3 ∙ ap (λ v. plug d.frames (elem tt b v nil)) inside in
    ap (relabelled (length (before d.frames)) a) new ∙ label_again d.frames a b w ∙ ap (plug d.frames) (sym focus)

-- ---- the way back

split_last : (es : List Earlier) (n : ℕ) (x : Earlier) → length es ≡ suc n → es ≡ take n es ++ get_or es n x ∷ []
split_last [] n x h = absurd (omega (arith, h))
split_last (e ∷ []) zero x h = refl
split_last (e ∷ (f ∷ es)) zero x h = absurd (omega (arith, h))
split_last (e ∷ es) (suc n) x h = ap (λ fs. e ∷ fs) (split_last es n x (omega (arith, h)))

-- one change less
pub back_once : (es fs : List Earlier) (n : ℕ) (x y : Earlier) (h k : Plain) → length es ≡ suc n → x ≡ get_or es n x → k ≡ document_before x h → fs ≡ take n (set es n y) → documents es h ≡ documents fs k ++ h ∷ []
back_once es fs n x y h k long at is left =
    ap (λ gs. documents gs h) (split_last es n x long) ∙ documents_push (take n es) (get_or es n x) h
    ∙ ap₂ (λ gs d. documents gs d ++ h ∷ []) (sym (left ∙ take-set es n y)) (ap (λ e. document_before e h) (sym at) ∙ sym is)

-- when so many are left
pub kept_all : (es : List Earlier) (h : Plain) (all more : List Plain) (changes : ℕ) → length es ≡ changes → all ≡ documents es h ++ more → documents es h ≡ take (suc changes) all
kept_all es h all more changes e f =
    sym (take_at (documents es h) more (suc changes) (length-documents es h ∙ ap suc e)) ∙ ap (take (suc changes)) (sym f)

pub taken_back : (es fs : List Earlier) (d e now : Focused) (changes : ℕ) → documents fs (whole e) ≡ take (suc changes) (documents es (whole d)) → now ≡ all_of (whole e) → TakenBack changes (state (moments es (whole d)) d) (state (moments fs (whole now)) now)
taken_back es fs d e now changes kept is =
    let here : whole now ≡ whole e = ap whole is in (
      ap (λ z. z.frames) is,
      moments_are fs (whole now) ∙ ap (map moment) (ap (documents fs) here ∙ kept) ∙ sym (take-map moment (suc changes) (documents es (whole d)))
          ∙ ap (take (suc changes)) (sym (moments_are es (whole d))),
    )

-- ---- moves leave the document

abbrev Stays : (PlainState → PlainState → Type 0) → Type 0
Stays R = (old new : Focused) → R (state [] old) (state [] new) → whole new ≡ whole old

abbrev document : PlainState → Plain
document s = plug s.frames s.focus

down_stays : Stays WentDown
down_stays old new r = ap document r.4 ∙ ap (plug old.frames) (sym r.3)

up_stays : Stays CameUp
up_stays old new r = ap document r.4 ∙ ap (λ fs. plug fs old.focus) (sym r.3)

left_stays : Stays WentLeft
left_stays old new r = ap document r

right_stays : Stays WentRight
right_stays old new r = ap document r ∙ ap (plug old.frames) (join-nil old.focus)

widen_stays : Stays Widened
widen_stays old new r =
    elim r.2 [ inl e ↦ ap document e.1 ∙ ap (λ fs. plug fs old.focus) (sym e.0) | inr e ↦ ap document e.1 ∙ ap (λ fs. plug fs old.focus) (sym e.0) ]

first_stays : Stays WentToFirst
first_stays old new r = ap document r.1 ∙ ap (plug old.frames) (join-first old.focus)

next_stays : Stays WentToNext
next_stays old new r =
    ap document r.5 ∙ ap (plug r.2) (join_assoc r.0 old.focus (join (first r.1) (others r.1)) ∙ ap (λ v. join r.0 (join old.focus v)) (join-first r.1)) ∙ ap (λ fs. plug fs old.focus) (sym r.3)

gather_stays : Stays Gathered
gather_stays old new r =
    ap document r.3 ∙ ap (λ v. plug r.1 (join r.0 v)) (sym (join-nil old.focus)) ∙ ap (λ fs. plug fs old.focus) (sym r.2)

carried : (R : PlainState → PlainState → Type 0) → Stays R → (es : List Earlier) (old new : Focused) → Becomes R old new → R (state (moments es (whole old)) old) (state (moments es (whole new)) new)
carried R stays es old new b =
    subst (λ h. R (state (moments es (whole old)) old) (state (moments es h) new)) (sym (stays old new (b []))) (b (moments es (whole old)))

module _ (es : List Earlier) (old new : Focused) where
  pub down_carried : Becomes WentDown old new → WentDown (state (moments es (whole old)) old) (state (moments es (whole new)) new)
  down_carried = carried WentDown down_stays es old new

  pub up_carried : Becomes CameUp old new → CameUp (state (moments es (whole old)) old) (state (moments es (whole new)) new)
  up_carried = carried CameUp up_stays es old new

  pub left_carried : Becomes WentLeft old new → WentLeft (state (moments es (whole old)) old) (state (moments es (whole new)) new)
  left_carried = carried WentLeft left_stays es old new

  pub right_carried : Becomes WentRight old new → WentRight (state (moments es (whole old)) old) (state (moments es (whole new)) new)
  right_carried = carried WentRight right_stays es old new

  pub widen_carried : Becomes Widened old new → Widened (state (moments es (whole old)) old) (state (moments es (whole new)) new)
  widen_carried = carried Widened widen_stays es old new

  pub first_carried : Becomes WentToFirst old new → WentToFirst (state (moments es (whole old)) old) (state (moments es (whole new)) new)
  first_carried = carried WentToFirst first_stays es old new

  pub next_carried : Becomes WentToNext old new → WentToNext (state (moments es (whole old)) old) (state (moments es (whole new)) new)
  next_carried = carried WentToNext next_stays es old new

  pub gather_carried : Becomes Gathered old new → Gathered (state (moments es (whole old)) old) (state (moments es (whole new)) new)
  gather_carried = carried Gathered gather_stays es old new
