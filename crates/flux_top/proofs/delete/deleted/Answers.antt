use Rattle.std.proofs.Common.{◌≡◌, ◌≢◌, ◌+◌, ◌==◌, true, false, ◌++◌, List, [], ◌∷◌, ℕ, length, length-append, get_or, map, sym, ap, subst, ◌∙◌, arith}
use Rattle.std.proofs.lemmas.List.{map_push, length-map, nil_from_length}
use Rattle.std.proofs.lemmas.Bool.Decides.{nat_tests}
use Rattle.flux_trees.specs.Hedge.{Plain, nil, elem, content, others, first, size}
use Rattle.flux_trees.specs.Draft.{done, add}
use Rattle.flux_forest.specs.declared.view.View.{View}
use Rattle.flux_forest.specs.View.{forest_of}
use Rattle.flux_top.specs.Paths.{standard}
use Rattle.flux_trees.proofs.HedgeLaws.{steps_left, steps_left-push}
use Rattle.flux_top.proofs.Pruned.{PlainDraft, IsPruning, pruned, pruned_derives, pruning_starts, pruning_ends, end_step, atom_step, other_step, last_step, inner_step}
use Rattle.flux_top.proofs.delete.deleted.Goals as goal
use Rattle.flux_top.proofs.delete.deleted.Goals.{After-drop-outer, In_ok-rest-in-Elem, In_ok-rest-in-Atom, Then-len-path, After-content-rest, After-index-path-len}

pub loop-outer-init : goal.loop-outer-init
loop-outer-init c =
    let P : PlainDraft → Type 0 = λ d. IsPruning c.args.path.now (forest_of c.args.view) d (forest_of c.args.view) [] in
    let start = subst P (sym c.new-result.ensures) (pruning_starts c.args.path.now (forest_of c.args.view) c.requires) in
    subst (λ runs. IsPruning c.args.path.now (forest_of c.args.view) c.new-result.result (forest_of c.args.view) runs) (sym (ap (map forest_of) c.new-outer.ensures.items)) start

-- the forest that is written, where no outer level is left
ended : (c : After-drop-outer) → c.loop-outer.result ≡ done (pruned c.args.path.now (forest_of c.args.view))
ended c =
    let runs : map forest_of c.loop-outer.outer.items ≡ [] = ap (map forest_of) (nil_from_length c.loop-outer.outer.items (omega (arith, c.in_default.ensures.cases.0))) in
    pruning_ends c.args.path.now (forest_of c.args.view) c.loop-outer.result (subst (λ h. IsPruning c.args.path.now (forest_of c.args.view) c.loop-outer.result h []) c.in-Nothing.ensures (subst (λ os. IsPruning c.args.path.now (forest_of c.args.view) c.loop-outer.result (forest_of c.loop-outer.rest) os) runs c.loop-outer.invariant))

pub returns-in_default : goal.returns-in_default
returns-in_default c =
    (pruned c.args.path.now (forest_of c.args.view), ended c, pruned_derives [] standard [] c.args.path.now c.requires (forest_of c.args.view))

-- the runs of the outer levels: the innermost was last
popped : (run : View) (old new : List View) → old ≡ new ++ run ∷ [] → map forest_of old ≡ map forest_of new ++ forest_of run ∷ []
popped run old new e = ap (map forest_of) e ∙ map_push forest_of new run

ending : (path : List ℕ) (v : Plain) (d : PlainDraft) (rest run : View) (old new : List View) → IsPruning path v d (forest_of rest) (map forest_of old) → forest_of rest ≡ nil → old ≡ new ++ run ∷ [] → IsPruning path v d nil (map forest_of new ++ forest_of run ∷ [])
ending path v d rest run old new i none e =
    subst (λ h. IsPruning path v d h (map forest_of new ++ forest_of run ∷ [])) none (subst (IsPruning path v d (forest_of rest)) (popped run old new e) i)

pub end_element-requires : goal.end_element-requires
end_element-requires c =
    let before = ending c.args.path.now (forest_of c.args.view) c.loop-outer.result c.loop-outer.rest c.in-Some.run' c.loop-outer.outer.items c.pop.new.self.items c.loop-outer.invariant c.in-Nothing.ensures c.in-Some.ensures.items in
    omega (arith, before.open_elements, length-append (map forest_of c.pop.new.self.items) (forest_of c.in-Some.run' ∷ []))

pub loop-outer-smaller-in-Nothing : goal.loop-outer-smaller-in-Nothing
loop-outer-smaller-in-Nothing c =
    omega (arith, ap steps_left (popped c.in-Some.run' c.loop-outer.outer.items c.pop.new.self.items c.in-Some.ensures.items) ∙ steps_left-push (map forest_of c.pop.new.self.items) (forest_of c.in-Some.run'))

pub loop-outer-preserved-in-Nothing : goal.loop-outer-preserved-in-Nothing
loop-outer-preserved-in-Nothing c =
    let before = ending c.args.path.now (forest_of c.args.view) c.loop-outer.result c.loop-outer.rest c.in-Some.run' c.loop-outer.outer.items c.pop.new.self.items c.loop-outer.invariant c.in-Nothing.ensures c.in-Some.ensures.items in
    let after = end_step c.args.path.now (forest_of c.args.view) c.loop-outer.result (forest_of c.in-Some.run') (map forest_of c.pop.new.self.items) before in
    subst (λ d. IsPruning c.args.path.now (forest_of c.args.view) d (forest_of c.in-Some.run') (map forest_of c.pop.new.self.items)) (sym c.end_element.ensures) after

pub bounds-path-len : goal.bounds-path-len
bounds-path-len c =
    omega (arith, c.loop-outer.invariant.level, length-map c.loop-outer.outer.items forest_of)

-- the label that the path has at this level
at_level : (c : After-index-path-len) → c.index-path-len.result ≡ get_or c.args.path.now (length (map forest_of c.loop-outer.outer.items)) c.index-path-len.result
at_level c =
    let level : c.len.result ≡ length (map forest_of c.loop-outer.outer.items) = omega (arith, length-map c.loop-outer.outer.items forest_of) in
    c.index-path-len.is ∙ ap (λ k. get_or c.args.path.now k c.index-path-len.result) level

-- what is left begins with the element
element : (c : After-index-path-len) → IsPruning c.args.path.now (forest_of c.args.view) c.loop-outer.result (elem tt c.in-Elem.name (content (forest_of c.loop-outer.rest)) (others (forest_of c.loop-outer.rest))) (map forest_of c.loop-outer.outer.items)
element c =
    subst (λ h. IsPruning c.args.path.now (forest_of c.args.view) c.loop-outer.result h (map forest_of c.loop-outer.outer.items)) c.in-Elem.ensures c.loop-outer.invariant

pub loop-outer-smaller-then-ne : goal.loop-outer-smaller-then-ne
loop-outer-smaller-then-ne c = omega (arith, ap size c.in-Elem.ensures, ap size c.in_ok-rest-in-Elem.ensures.others)

pub loop-outer-preserved-then-ne : goal.loop-outer-preserved-then-ne
loop-outer-preserved-then-ne c =
    let k = (goal.at.loop-outer-preserved-then-ne c).After-index-path-len in
    let differ : (c.in-Elem.name == c.index-path-len.result) ≡ false = grind (arith, nat_tests) in
    let step = other_step c.args.path.now (forest_of c.args.view) c.loop-outer.result c.in-Elem.name c.index-path-len.result (content (forest_of c.loop-outer.rest)) (others (forest_of c.loop-outer.rest)) (map forest_of c.loop-outer.outer.items) (at_level k) (element k) differ in
    let grown = c.in_ok-rest-in-Elem.ensures.ok ∙ ap (λ h. add c.loop-outer.result (first h)) c.in-Elem.ensures in
    subst (λ h. IsPruning c.args.path.now (forest_of c.args.view) c.keep_first.new.kept h (map forest_of c.loop-outer.outer.items)) (sym c.in_ok-rest-in-Elem.ensures.others) (subst (λ d. IsPruning c.args.path.now (forest_of c.args.view) d (others (forest_of c.loop-outer.rest)) (map forest_of c.loop-outer.outer.items)) (sym grown) step)

pub loop-outer-smaller-then-len-path : goal.loop-outer-smaller-then-len-path
loop-outer-smaller-then-len-path c = omega (arith, ap size c.in-Elem.ensures, ap size c.split.ensures.others)

pub loop-outer-preserved-then-len-path : goal.loop-outer-preserved-then-len-path
loop-outer-preserved-then-len-path c =
    let k = (goal.at.loop-outer-preserved-then-len-path c).After-index-path-len in
    let same : (c.in-Elem.name == c.index-path-len.result) ≡ true = grind (arith, nat_tests) in
    let ends : length (map forest_of c.loop-outer.outer.items) + 1 ≡ length c.args.path.now = omega (arith, length-map c.loop-outer.outer.items forest_of) in
    let step = last_step c.args.path.now (forest_of c.args.view) c.loop-outer.result c.in-Elem.name c.index-path-len.result (content (forest_of c.loop-outer.rest)) (others (forest_of c.loop-outer.rest)) (map forest_of c.loop-outer.outer.items) (at_level k) (element k) same ends in
    subst (λ h. IsPruning c.args.path.now (forest_of c.args.view) c.loop-outer.result h (map forest_of c.loop-outer.outer.items)) (sym c.split.ensures.others) step

-- the element's content, and the outer levels with the trees behind it on them
inside : (c : After-content-rest) → forest_of c.content-rest.result ≡ content (forest_of c.loop-outer.rest)
inside c =
    c.content-rest.ensures ∙ ap content (c.split.ensures.first ∙ ap first c.in-Elem.ensures)

pushed : (c : After-content-rest) → map forest_of c.push.new.self.items ≡ map forest_of c.loop-outer.outer.items ++ others (forest_of c.loop-outer.rest) ∷ []
pushed c =
    ap (map forest_of) c.in_ok-push-in-Elem.ensures.items ∙ map_push forest_of c.loop-outer.outer.items c.split.result.1 ∙ ap (λ h. map forest_of c.loop-outer.outer.items ++ h ∷ []) c.split.ensures.others

pub loop-outer-smaller-else-len-path : goal.loop-outer-smaller-else-len-path
loop-outer-smaller-else-len-path c =
    omega (arith, ap size c.in-Elem.ensures, ap size (inside c), ap steps_left (pushed c) ∙ steps_left-push (map forest_of c.loop-outer.outer.items) (others (forest_of c.loop-outer.rest)))

pub loop-outer-preserved-else-len-path : goal.loop-outer-preserved-else-len-path
loop-outer-preserved-else-len-path c =
    let k = (goal.at.loop-outer-preserved-else-len-path c).After-index-path-len in
    let same : (c.in-Elem.name == c.index-path-len.result) ≡ true = grind (arith, nat_tests) in
    let goes_on : length (map forest_of c.loop-outer.outer.items) + 1 ≢ length c.args.path.now = omega (arith, length-map c.loop-outer.outer.items forest_of) in
    let step = inner_step c.args.path.now (forest_of c.args.view) c.loop-outer.result c.in-Elem.name c.index-path-len.result (content (forest_of c.loop-outer.rest)) (others (forest_of c.loop-outer.rest)) (map forest_of c.loop-outer.outer.items) (at_level k) (element k) same goes_on in
    let begun = subst (λ d. IsPruning c.args.path.now (forest_of c.args.view) d (content (forest_of c.loop-outer.rest)) (map forest_of c.loop-outer.outer.items ++ others (forest_of c.loop-outer.rest) ∷ [])) (sym c.in_ok-begin_element-in-Elem.ensures.ok) step in
    let outside = subst (λ runs. IsPruning c.args.path.now (forest_of c.args.view) c.begin_element.new.self (content (forest_of c.loop-outer.rest)) runs) (sym (pushed c)) begun in
    subst (λ h. IsPruning c.args.path.now (forest_of c.args.view) c.begin_element.new.self h (map forest_of c.push.new.self.items)) (sym (inside c)) outside

pub loop-outer-smaller : goal.loop-outer-smaller
loop-outer-smaller c =
    omega (arith, ap size c.in-Atom.ensures, ap size c.in_ok-rest-in-Atom.ensures.others)

pub loop-outer-preserved : goal.loop-outer-preserved
loop-outer-preserved c =
    let before = subst (λ h. IsPruning c.args.path.now (forest_of c.args.view) c.loop-outer.result h (map forest_of c.loop-outer.outer.items)) c.in-Atom.ensures c.loop-outer.invariant in
    let step = atom_step c.args.path.now (forest_of c.args.view) c.loop-outer.result c.in-Atom.field-0.now (others (forest_of c.loop-outer.rest)) (map forest_of c.loop-outer.outer.items) before in
    let grown = c.in_ok-rest-in-Atom.ensures.ok ∙ ap (λ h. add c.loop-outer.result (first h)) c.in-Atom.ensures in
    subst (λ h. IsPruning c.args.path.now (forest_of c.args.view) c.keep_first-in-Atom.new.kept h (map forest_of c.loop-outer.outer.items)) (sym c.in_ok-rest-in-Atom.ensures.others) (subst (λ d. IsPruning c.args.path.now (forest_of c.args.view) d (others (forest_of c.loop-outer.rest)) (map forest_of c.loop-outer.outer.items)) (sym grown) step)
