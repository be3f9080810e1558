-- The next of several trees that are treated one by one.
use Rattle.std.proofs.Common.{◌≡◌, ◌≢◌, ℕ, ◌≤◌, List, [], ◌∷◌, ◌++◌, length, reverse, refl, ap, ◌∙◌, sym, arith, length-append, append_assoc}
use Rattle.std.proofs.lemmas.List.{length-reverse, reverse-append, reverse-reverse}
use Rattle.flux_trees.specs.Hedge.{Plain, nil, elem, leaf, join, size, first, others}
use Rattle.flux_trees.specs.Frame.{Each}
use Rattle.flux_forest.specs.declared.node.Node.{Node}
use Rattle.flux_forest.specs.Flat.{flat}
use Rattle.flux_forest.proofs.FlatLaws.{flat-join, length-flat}
use Rattle.flux_plain.specs.declared.step.Step.{Step}
use Rattle.flux_plain.specs.declared.step.Step.TheVariants.{Each as EachStep}
use Rattle.flux_plain.specs.Focused.{PlainFrame, Focused}
use Rattle.flux_plain.specs.Layout.{before, behind, steps_of, IsLaid, HasMoved}
use Rattle.flux_editor.specs.Editing.{IsAtLast, WentToNext}
use Rattle.flux_plain.specs.Moves.{Is, Becomes}
use Rattle.flux_plain.specs.Next.{StandFirst, BringsBack}
use Rattle.flux_plain.proofs.LayoutLaws.{Went}
use Rattle.flux_plain.proofs.RunLaws.{moved_left}
use Rattle.flux_plain.proofs.MoveLaws.{pushed, flat_first}

pub first_le : {rest : Plain} {right : List Node} → StandFirst rest right → size rest ≤ length right
first_le {rest} {right} s =
    omega (arith, ap length s.right_is, length-append (flat rest) s.behind, length-flat rest, length-reverse right)

turned : (x : Step) (steps : List Step) → reverse (x ∷ steps) ≡ reverse steps ++ x ∷ []
turned x steps = reverse-append (x ∷ []) steps

none_from_first : (h : Plain) → size (first h) ≡ 0 → h ≡ nil
none_from_first nil e = refl
none_from_first (elem _ a c r) e = absurd (omega (arith, e))
none_from_first (leaf _ x r) e = absurd (omega (arith, e))

module _ {d : Focused} {left right : List Node} {steps : List Step} {start : ℕ} (i : IsLaid d left right steps start) (done rest : Plain) (fs : List PlainFrame) (e : d.frames ≡ Each done rest ∷ fs) where
  -- the rest of the trees that are treated one by one
  pub stand_first : StandFirst rest right
  stand_first = record { behind = behind fs; right_is = i.right_is ∙ ap behind e }

  pub brings_back : BringsBack rest steps (reverse (steps_of fs)) (length (before fs))
  brings_back = record {
    steps_are = sym (reverse-reverse steps) ∙ ap reverse (i.steps_are ∙ ap steps_of e) ∙ turned (EachStep (length (before fs)) (size rest)) (steps_of fs);
  }

  -- the steps, once other trees are left
  steps_now : (other : Plain) (new : List Step) → BringsBack other new (reverse (steps_of fs)) (length (before fs)) → reverse new ≡ EachStep (length (before fs)) (size other) ∷ steps_of fs
  steps_now other new b =
      ap reverse b.steps_are ∙ pushed (reverse (steps_of fs)) (EachStep (length (before fs)) (size other)) ∙ ap (λ ss. EachStep (length (before fs)) (size other) ∷ ss) (reverse-reverse (steps_of fs))

  pub found_none : (new : List Step) → BringsBack (others rest) new (reverse (steps_of fs)) (length (before fs)) → size (first rest) ≡ 0 → Went (λ old new. Is IsAtLast old × (new ≡ old)) d left right new start
  found_none new b n =
      let none : rest ≡ nil = none_from_first rest n in
      let same : new ≡ steps = b.steps_are ∙ ap (λ r. reverse (steps_of fs) ++ EachStep (length (before fs)) (size r) ∷ []) (ap others none ∙ sym none) ∙ sym (brings_back).steps_are in
      record {
        new = d;
        how = ((done, fs, e ∙ ap (λ r. Each done r ∷ fs) none), refl);
        at = record { left_is = i.left_is; right_is = i.right_is; steps_are = ap reverse same ∙ i.steps_are; start_is = i.start_is };
      }

  pub found_next : (new : List Step) → BringsBack (others rest) new (reverse (steps_of fs)) (length (before fs)) → (n : ℕ) → n ≡ size (first rest) → n ≢ 0 → (new_left new_right : List Node) → HasMoved right left new_right new_left n → (end : ℕ) → end ≡ length left → Went (Becomes WentToNext) d new_left new_right new end
  found_next new b n is some new_left new_right m end long =
      let not_none : rest ≢ nil = λ none. some (is ∙ ap (λ r. size (first r)) none) in
      let split : reverse right ≡ flat (first rest) ++ (flat (others rest) ++ behind fs) = i.right_is ∙ ap behind e ∙ ap (λ ns. ns ++ behind fs) (flat_first rest) ∙ append_assoc (flat (first rest)) (flat (others rest)) (behind fs) in
      let both = moved_left m (flat (first rest)) (flat (others rest) ++ behind fs) split (length-flat (first rest) ∙ sym is) in
      let done_now : left ≡ before fs ++ flat (join done d.focus) = i.left_is ∙ ap (λ gs. before gs ++ flat d.focus) e ∙ append_assoc (before fs) (flat done) (flat d.focus) ∙ ap (λ ns. before fs ++ ns) (sym (flat-join done d.focus)) in
      record {
        new = record { frames = Each (join done d.focus) (others rest) ∷ fs; focus = first rest };
        how = λ earlier. (done, rest, fs, e, not_none, refl);
        at = record {
          left_is = both.0 ∙ ap (λ ns. ns ++ flat (first rest)) done_now;
          right_is = both.1;
          steps_are = steps_now (others rest) new b;
          start_is = long ∙ ap length done_now;
        };
      }
