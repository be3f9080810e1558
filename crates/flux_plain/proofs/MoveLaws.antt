-- What each move that adds a frame does to the nodes.
use Rattle.std.proofs.Common.{◌≡◌, ◌≢◌, ℕ, ◌+◌, ◌-◌, suc, List, [], ◌∷◌, ◌++◌, length, take, drop, reverse, refl, ap, ap₂, ◌∙◌, sym, arith, length-append, append_assoc}
use Rattle.std.proofs.lemmas.List.{reverse-append, append-nil, get_or-append-add}
use Rattle.std.proofs.Math.ListN.{set, get_or}
use Rattle.std.proofs.Math.Seq.{set-append_seam, get_or-append_seam, take-append_seam, drop-append_seam, take-length}
use Rattle.flux_trees.specs.Hedge.{Plain, nil, elem, leaf, size, first, others, IsElement}
use Rattle.flux_trees.specs.Frame.{Down, Before, After, Each, plug}
use Rattle.flux_trees.proofs.HedgeLaws.{join-first, size-first}
use Rattle.flux_forest.specs.declared.node.Item.TheVariants.{Element}
use Rattle.flux_forest.specs.declared.node.Node.{Node}
use Rattle.flux_forest.specs.Flat.{flat, element_node}
use Rattle.flux_forest.proofs.FlatLaws.{flat-join, length-flat}
use Rattle.flux_forest.proofs.ViewLaws.{size-zero, AreNodes}
use Rattle.flux_plain.specs.declared.step.Step.{Step}
use Rattle.flux_plain.specs.declared.step.Step.TheVariants.{Down as DownStep, Before as BeforeStep, After as AfterStep, Each as EachStep}
use Rattle.flux_plain.specs.Focused.{PlainFrame, Focused}
use Rattle.flux_plain.specs.Layout.{before, behind, steps_of, IsLaid, HasMoved}
use Rattle.flux_editor.specs.Editing.{WentDown, WentLeft, WentRight, WentToFirst}
use Rattle.flux_plain.specs.Moves.{Becomes, with_focus, all_of, whole, Relabelled, relabelled}
use Rattle.flux_plain.specs.NodeLabels.{relabelled_nodes}
use Rattle.flux_plain.proofs.LabelLaws.{flat-relabelled}
use Rattle.flux_plain.proofs.LayoutLaws.{Went}
use Rattle.flux_plain.proofs.RunLaws.{moved_right}

-- one frame more, round these trees
abbrev pub under : PlainFrame → Plain → Focused → Focused
under f w d = record { frames = f ∷ d.frames; focus = w }

-- one step more
pub pushed : (steps : List Step) (x : Step) → reverse (steps ++ x ∷ []) ≡ x ∷ reverse steps
pushed steps x = reverse-append steps (x ∷ [])

-- how many nodes the focus has
pub focus_length : {d : Focused} {left right : List Node} {steps : List Step} {start : ℕ} → IsLaid d left right steps start → length left ≡ start + size d.focus
focus_length {d} {left} {start = start} i =
    omega (arith, ap length i.left_is, length-append (before d.frames) (flat d.focus), length-flat d.focus, i.start_is)

-- the nodes of the one element in the focus
pub element_is : {d : Focused} {left right : List Node} {steps : List Step} {start : ℕ} → IsLaid d left right steps start → (a : ℕ) (w : Plain) → d.focus ≡ elem tt a w nil → left ≡ before d.frames ++ element_node a (suc (size w)) ∷ flat w
element_is {d} i a w e =
    i.left_is ∙ ap (λ v. before d.frames ++ flat v) e ∙ ap (λ ns. before d.frames ++ element_node a (suc (size w)) ∷ ns) (append-nil (flat w))

-- the first of them
pub element_node_is : {d : Focused} {left right : List Node} {steps : List Step} {start : ℕ} → IsLaid d left right steps start → (a : ℕ) (w : Plain) → d.focus ≡ elem tt a w nil → (z : Node) → z ≡ get_or left start z → z ≡ element_node a (suc (size w))
element_node_is {d} i a w e z at =
    at ∙ ap₂ (λ ns n. get_or ns n z) (element_is i a w e) i.start_is ∙ get_or-append_seam (before d.frames) (element_node a (suc (size w))) (flat w) z

-- another node in its place
pub element_set : {d : Focused} {left right : List Node} {steps : List Step} {start : ℕ} → IsLaid d left right steps start → (a : ℕ) (w : Plain) → d.focus ≡ elem tt a w nil → (z y : Node) → z ≡ y → set left start z ≡ before d.frames ++ y ∷ flat w
element_set {d} {left} {start = start} i a w e z y same =
    ap₂ (λ ns n. set ns n z) (element_is i a w e) i.start_is ∙ set-append_seam (before d.frames) (element_node a (suc (size w))) (flat w) z ∙ ap (λ x. before d.frames ++ x ∷ flat w) same

pub down_laid : {d : Focused} {left right : List Node} {steps : List Step} {start : ℕ} → IsLaid d left right steps start → (a : ℕ) (w : Plain) → d.focus ≡ elem tt a w nil → (z : Node) → z ≡ get_or left start z → (more : List Step) → more ≡ steps ++ DownStep start ∷ [] → IsLaid (under (Down tt a) w d) (set left start (record { item = z.item; size = 0 })) right more (start + 1)
down_laid {d} {left} {right} {steps} {start} i a w e z at more is =
    let here : z ≡ element_node a (suc (size w)) = element_node_is i a w e z at in
    let begun : Node = record { item = z.item; size = 0 } in
    let same : begun ≡ element_node a 0 = ap (λ (y : Node). record { item = y.item; size = 0 }) here in
    record {
      left_is = element_set i a w e begun (element_node a 0) same ∙ sym (append_assoc (before d.frames) (element_node a 0 ∷ []) (flat w));
      right_is = i.right_is;
      steps_are = ap reverse is ∙ pushed steps (DownStep start) ∙ ap₂ (λ n ss. DownStep n ∷ ss) i.start_is i.steps_are;
      start_is = omega (arith, i.start_is, length-append (before d.frames) (element_node a 0 ∷ []));
    }

pub left_laid : {d : Focused} {left right new_left new_right : List Node} {steps : List Step} {start count : ℕ} → IsLaid d left right steps start → count ≡ length left - start → HasMoved left right new_left new_right count → (more : List Step) → more ≡ steps ++ BeforeStep count ∷ [] → IsLaid (under (Before d.focus) nil d) new_left new_right more start
left_laid {d} {left} {right} {steps = steps} {start} {count} i n m more is =
    let long : size d.focus ≡ count = omega (arith, focus_length i) in
    let both = moved_right m (before d.frames) (flat d.focus) i.left_is (length-flat d.focus ∙ long) in
    record {
      left_is = both.0 ∙ sym (append-nil (before d.frames));
      right_is = both.1 ∙ ap (λ ns. flat d.focus ++ ns) i.right_is;
      steps_are = ap reverse is ∙ pushed steps (BeforeStep count) ∙ ap₂ (λ n ss. BeforeStep n ∷ ss) (sym long) i.steps_are;
      start_is = i.start_is;
    }

pub right_laid : {d : Focused} {left right : List Node} {steps : List Step} {start : ℕ} → IsLaid d left right steps start → (end : ℕ) → end ≡ length left → (more : List Step) → more ≡ steps ++ AfterStep start ∷ [] → IsLaid (under (After d.focus) nil d) left right more end
right_laid {d} {left} {steps = steps} {start} i end at more is = record {
  left_is = i.left_is ∙ sym (append-nil (before d.frames ++ flat d.focus));
  right_is = i.right_is;
  steps_are = ap reverse is ∙ pushed steps (AfterStep start) ∙ ap₂ (λ n ss. AfterStep n ∷ ss) i.start_is i.steps_are;
  start_is = at ∙ ap length i.left_is;
}

pub flat_first : (h : Plain) → flat h ≡ flat (first h) ++ flat (others h)
flat_first h = ap flat (sym (join-first h)) ∙ flat-join (first h) (others h)

pub size_of_first : (h : Plain) (z : Node) → h ≢ nil → z ≡ get_or (flat h) 0 z → z.size ≡ size (first h)
size_of_first nil z some e = absurd (some refl)
size_of_first (elem _ a c r) z some e = ap (λ y. y.size) e ∙ ap suc (omega arith)
size_of_first (leaf _ x r) z some e = ap (λ y. y.size) e

-- the first node of a focus that isn't empty has the size of its first tree
pub first_node_size : {d : Focused} {left right : List Node} {steps : List Step} {start : ℕ} → IsLaid d left right steps start → d.focus ≢ nil → (z : Node) → z ≡ get_or left start z → z.size ≡ size (first d.focus)
first_node_size {d} {left} {start = start} i some z at =
    let there : start ≡ length (before d.frames) + 0 = omega (arith, i.start_is) in
    size_of_first d.focus z some (at ∙ ap₂ (λ ns n. get_or ns n z) i.left_is there ∙ get_or-append-add (before d.frames) (flat d.focus) 0 z)

pub first_laid : {d : Focused} {left right new_left new_right : List Node} {steps : List Step} {start count : ℕ} → IsLaid d left right steps start → count ≡ size (others d.focus) → HasMoved left right new_left new_right count → (more : List Step) → more ≡ steps ++ EachStep start count ∷ [] → IsLaid (under (Each nil (others d.focus)) (first d.focus) d) new_left new_right more start
first_laid {d} {left} {right} {steps = steps} {start} {count} i n m more is =
    let front : List Node = before d.frames in
    let split : left ≡ (front ++ flat (first d.focus)) ++ flat (others d.focus) = i.left_is ∙ ap (λ ns. front ++ ns) (flat_first d.focus) ∙ sym (append_assoc front (flat (first d.focus)) (flat (others d.focus))) in
    let both = moved_right m (front ++ flat (first d.focus)) (flat (others d.focus)) split (length-flat (others d.focus) ∙ sym n) in
    record {
      left_is = both.0 ∙ ap (λ ns. ns ++ flat (first d.focus)) (sym (append-nil front));
      right_is = both.1 ∙ ap (λ ns. flat (others d.focus) ++ ns) i.right_is;
      steps_are = ap reverse is ∙ pushed steps (EachStep start count) ∙ ap₂ (λ s ss. s ∷ ss) (ap₂ EachStep i.start_is n) i.steps_are;
      start_is = i.start_is ∙ ap length (sym (append-nil front));
    }

-- other trees in the focus
pub focus_laid : {d : Focused} {left right : List Node} {steps : List Step} {start : ℕ} → IsLaid d left right steps start → (w : Plain) (new_left : List Node) → new_left ≡ before d.frames ++ flat w → IsLaid (with_focus w d) new_left right steps start
focus_laid i w new_left is = record {
  left_is = is;
  right_is = i.right_is;
  steps_are = i.steps_are;
  start_is = i.start_is;
}

pub element_parts : (h : Plain) → IsElement h → (a : ℕ) × (w : Plain) × (h ≡ elem tt a w nil)
element_parts nil e = absurd e
element_parts (elem _ a w nil) e = (a, w, refl)
element_parts (elem _ a w (elem _ b v r)) e = absurd e
element_parts (elem _ a w (leaf _ x r)) e = absurd e
element_parts (leaf _ x r) e = absurd e

pub went_down : {d : Focused} {left right : List Node} {steps : List Step} {start : ℕ} → IsLaid d left right steps start → IsElement d.focus → (z : Node) → z ≡ get_or left start z → (more : List Step) → more ≡ steps ++ DownStep start ∷ [] → Went (Becomes WentDown) d (set left start (record { item = z.item; size = 0 })) right more (start + 1)
went_down {d} i one z at more is =
    let parts = element_parts d.focus one in
    record {
      new = under (Down tt parts.0) parts.1 d;
      how = λ earlier. (tt, parts.0, parts.1, parts.2, refl);
      at = down_laid i parts.0 parts.1 parts.2 z at more is;
    }

pub went_left : {d : Focused} {left right new_left new_right : List Node} {steps : List Step} {start count : ℕ} → IsLaid d left right steps start → count ≡ length left - start → HasMoved left right new_left new_right count → (more : List Step) → more ≡ steps ++ BeforeStep count ∷ [] → Went (Becomes WentLeft) d new_left new_right more start
went_left {d} i n m more is = record {
  new = under (Before d.focus) nil d;
  how = λ earlier. refl;
  at = left_laid i n m more is;
}

pub went_right : {d : Focused} {left right : List Node} {steps : List Step} {start : ℕ} → IsLaid d left right steps start → (end : ℕ) → end ≡ length left → (more : List Step) → more ≡ steps ++ AfterStep start ∷ [] → Went (Becomes WentRight) d left right more end
went_right {d} i end at more is = record {
  new = under (After d.focus) nil d;
  how = λ earlier. refl;
  at = right_laid i end at more is;
}

pub found_first : {d : Focused} {left right new_left new_right : List Node} {steps : List Step} {start count : ℕ} → IsLaid d left right steps start → d.focus ≢ nil → (z : Node) → z ≡ get_or left start z → count ≡ length left - start - z.size → HasMoved left right new_left new_right count → (more : List Step) → more ≡ steps ++ EachStep start count ∷ [] → Went (Becomes WentToFirst) d new_left new_right more start
found_first {d} {left} {start = start} {count} i some z at n m more is =
    let long : count ≡ size (others d.focus) = omega (arith, first_node_size i some z at, focus_length i, size-first d.focus) in
    record {
      new = under (Each nil (others d.focus)) (first d.focus) d;
      how = λ earlier. (some, refl);
      at = first_laid i long m more is;
    }

-- the focus is empty exactly where it begins at the end
pub at_end : {d : Focused} {left right : List Node} {steps : List Step} {start : ℕ} → IsLaid d left right steps start → start ≡ length left → d.focus ≡ nil
at_end {d} i e = size-zero d.focus (omega (arith, focus_length i))

pub not_at_end : {d : Focused} {left right : List Node} {steps : List Step} {start : ℕ} → IsLaid d left right steps start → start ≢ length left → d.focus ≢ nil
not_at_end {d} i some e = some (omega (arith, focus_length i, ap size e))

-- trees put into an empty focus
pub went_insert : {d : Focused} {left right : List Node} {steps : List Step} {start : ℕ} → IsLaid d left right steps start → d.focus ≡ nil → (w : Plain) (new_left : List Node) → new_left ≡ left ++ flat w → Went (λ old new. new ≡ with_focus w old) d new_left right steps start
went_insert {d} {left} i none w new_left is =
    let clear : left ≡ before d.frames = i.left_is ∙ ap (λ v. before d.frames ++ flat v) none ∙ append-nil (before d.frames) in
    record {
      new = with_focus w d;
      how = refl;
      at = focus_laid i w new_left (is ∙ ap (λ ns. ns ++ flat w) clear);
    }

-- the focus taken out
pub went_delete : {d : Focused} {left right : List Node} {steps : List Step} {start : ℕ} → IsLaid d left right steps start → (new_left : List Node) → new_left ≡ take start left → Went (λ old new. new ≡ with_focus nil old) d new_left right steps start
went_delete {d} i new_left is = record {
  new = with_focus nil d;
  how = refl;
  at = focus_laid i nil new_left (is ∙ ap₂ take i.start_is i.left_is ∙ take-append_seam (before d.frames) (flat d.focus) ∙ sym (append-nil (before d.frames)));
}

-- another label on the one element in it
pub went_rename : {d : Focused} {left right : List Node} {steps : List Step} {start : ℕ} → IsLaid d left right steps start → IsElement d.focus → (b : ℕ) (z : Node) → z ≡ get_or left start z → Went (Relabelled b) d (set left start (record { item = Element b; size = z.size })) right steps start
went_rename {d} {left} {start = start} i one b z at =
    let parts = element_parts d.focus one in
    let w : Plain = parts.1 in
    let named : Node = record { item = Element b; size = z.size } in
    let same : named ≡ element_node b (suc (size w)) = ap (λ (y : Node). record { item = Element b; size = y.size }) (element_node_is i parts.0 w parts.2 z at) in
    record {
      new = with_focus (elem tt b w nil) d;
      how = (parts.0, w, parts.2, refl);
      at = focus_laid i (elem tt b w nil) (set left start named) (element_set i parts.0 w parts.2 named (element_node b (suc (size w))) same ∙ ap (λ ns. before d.frames ++ element_node b (suc (size w)) ∷ ns) (sym (append-nil (flat w))));
    }

-- all of a document in the focus
pub laid_whole : (h : Plain) (left right : List Node) (steps : List Step) → left ≡ flat h → right ≡ [] → steps ≡ [] → IsLaid (all_of h) left right steps 0
laid_whole h left right steps l r s = record {
  left_is = l;
  right_is = ap reverse r;
  steps_are = ap reverse s;
  start_is = refl;
}

-- the nodes of the focus
pub focus_nodes : {d : Focused} {left right : List Node} {steps : List Step} {start : ℕ} → IsLaid d left right steps start → (nodes : List Node) → nodes ≡ left → AreNodes d.focus (take (length nodes - start) (drop start nodes))
focus_nodes {d} {left} {start = start} i nodes e =
    let back : drop start nodes ≡ flat d.focus = ap (drop start) e ∙ ap₂ drop i.start_is i.left_is ∙ drop-append_seam (before d.frames) (flat d.focus) in
    let long : length nodes - start ≡ length (flat d.focus) = omega (arith, focus_length i, length-flat d.focus, ap length e) in
    record { same = ap₂ take long back ∙ take-length (flat d.focus) }

-- the nodes of a whole document, one of which has another label
pub went_relabel : {d : Focused} {left right : List Node} {steps : List Step} {start : ℕ} → IsLaid d left right steps start → d.frames ≡ [] → (place b : ℕ) (new_left : List Node) → new_left ≡ relabelled_nodes place b left →
    Went (λ old new. new ≡ all_of (relabelled place b (whole old))) d new_left right steps start
went_relabel {d} {left} i none place b new_left e =
    let all : left ≡ flat (whole d) = i.left_is ∙ ap (λ fs. before fs ++ flat d.focus) none ∙ ap (λ fs. flat (plug fs d.focus)) (sym none) in
    record {
      new = all_of (relabelled place b (whole d));
      how = refl;
      at = record {
        left_is = e ∙ ap (relabelled_nodes place b) all ∙ sym (flat-relabelled place b (whole d));
        right_is = i.right_is ∙ ap behind none;
        steps_are = i.steps_are ∙ ap steps_of none;
        start_is = i.start_is ∙ ap (λ fs. length (before fs)) none;
      };
    }
