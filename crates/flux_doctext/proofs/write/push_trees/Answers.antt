use Rattle.std.proofs.Common.{◌≡◌, ◌++◌, [], ◌∷◌, map, sym, ap, subst, ◌∙◌, arith}
use Rattle.std.proofs.lemmas.List.{map_push}
use Rattle.flux_atom.specs.Literal.{literal}
use Rattle.flux_trees.specs.Hedge.{nil, content, others, first, size}
use Rattle.flux_forest.specs.View.{forest_of}
use Rattle.flux_doctext.specs.Text.{comma, trees_text}
use Rattle.flux_trees.proofs.HedgeLaws.{steps_left, steps_left-push}
use Rattle.flux_doctext.proofs.Levels.{IsWriting, ProperBy, atom_step, element_step, end_step, proper_atom, proper_element, proper_end}
use Rattle.flux_doctext.proofs.LabelLaws.{proper}
use Rattle.flux_doctext.proofs.write.push_trees.Goals as goal
use Rattle.flux_doctext.proofs.write.push_trees.Goals.{In_ok-push_end-in-Nothing, After-content-rest}

-- the runs of the outer levels: the innermost was last
popped : (c : In_ok-push_end-in-Nothing) → map forest_of c.loop-outer.outer.items ≡ map forest_of c.pop.new.self.items ++ forest_of c.in-Some.run' ∷ []
popped c = ap (map forest_of) c.in-Some.ensures.items ∙ map_push forest_of c.pop.new.self.items c.in-Some.run'

pub loop-outer-smaller-in-Nothing : goal.loop-outer-smaller-in-Nothing
loop-outer-smaller-in-Nothing c =
    omega (arith, ap size c.in-Nothing.ensures, ap steps_left (popped c) ∙ steps_left-push (map forest_of c.pop.new.self.items) (forest_of c.in-Some.run'))

pub loop-outer-preserved-in-Nothing : goal.loop-outer-preserved-in-Nothing
loop-outer-preserved-in-Nothing c =
    let before : IsWriting c.args.names.now c.args.out.now.items (trees_text c.args.names.now (forest_of c.args.view)) c.args.out.now.len c.loop-outer.out.items nil (map forest_of c.pop.new.self.items ++ forest_of c.in-Some.run' ∷ []) = subst (λ h. IsWriting c.args.names.now c.args.out.now.items (trees_text c.args.names.now (forest_of c.args.view)) c.args.out.now.len c.loop-outer.out.items h (map forest_of c.pop.new.self.items ++ forest_of c.in-Some.run' ∷ [])) c.in-Nothing.ensures (subst (λ os. IsWriting c.args.names.now c.args.out.now.items (trees_text c.args.names.now (forest_of c.args.view)) c.args.out.now.len c.loop-outer.out.items (forest_of c.loop-outer.rest) os) (popped c) c.loop-outer.invariant.writing) in
    record {
      writing = end_step c.args.names.now c.args.out.now.items (trees_text c.args.names.now (forest_of c.args.view)) c.args.out.now.len (omega arith) c.loop-outer.out.items c.push_end.new.out.items (forest_of c.in-Some.run') (map forest_of c.pop.new.self.items) before c.in_ok-push_end-in-Nothing.ensures.ok;
      proper = proper_end (forest_of c.args.view) (forest_of c.in-Some.run') (map forest_of c.pop.new.self.items) (subst (λ h. ProperBy (forest_of c.args.view) h (map forest_of c.pop.new.self.items ++ forest_of c.in-Some.run' ∷ [])) c.in-Nothing.ensures (subst (λ os. ProperBy (forest_of c.args.view) (forest_of c.loop-outer.rest) os) (popped c) c.loop-outer.invariant.proper));
    }

-- the element's content, the trees behind it, and the outer levels with these on them
inside : (c : After-content-rest) → forest_of c.content-rest.result ≡ content (forest_of c.loop-outer.rest)
inside c =
    c.content-rest.ensures ∙ ap content (c.split.ensures.first ∙ ap first c.in-Elem.ensures)

pushed : (c : After-content-rest) → map forest_of c.push.new.self.items ≡ map forest_of c.loop-outer.outer.items ++ others (forest_of c.loop-outer.rest) ∷ []
pushed c =
    ap (map forest_of) c.in_ok-push-in-Elem.ensures.items ∙ map_push forest_of c.loop-outer.outer.items c.split.result.1 ∙ ap (λ h. map forest_of c.loop-outer.outer.items ++ h ∷ []) c.split.ensures.others

pub loop-outer-smaller-in-Elem : goal.loop-outer-smaller-in-Elem
loop-outer-smaller-in-Elem c =
    omega (arith, ap size c.in-Elem.ensures, ap size (inside c), ap steps_left (pushed c) ∙ steps_left-push (map forest_of c.loop-outer.outer.items) (others (forest_of c.loop-outer.rest)))

pub loop-outer-preserved-in-Elem : goal.loop-outer-preserved-in-Elem
loop-outer-preserved-in-Elem c =
    let rest = forest_of c.loop-outer.rest in
    let runs = map forest_of c.loop-outer.outer.items in
    let start = c.args.out.now.items in
    let whole = trees_text c.args.names.now (forest_of c.args.view) in
    let before = subst (λ h. IsWriting c.args.names.now start whole c.args.out.now.len c.loop-outer.out.items h runs) c.in-Elem.ensures c.loop-outer.invariant.writing in
    let after = element_step c.args.names.now start whole c.args.out.now.len (omega arith) c.loop-outer.out.items c.push_start.new.out.items c.in-Elem.name (content rest) (others rest) runs before c.in_ok-push_start-in-Elem.ensures.ok in
    let known = subst (λ h. ProperBy (forest_of c.args.view) h runs) c.in-Elem.ensures c.loop-outer.invariant.proper in
    let left = proper_element (forest_of c.args.view) c.in-Elem.name (content rest) (others rest) runs known in
    record {
      writing = subst (λ h. IsWriting c.args.names.now start whole c.args.out.now.len c.push_start.new.out.items h (map forest_of c.push.new.self.items)) (sym (inside c)) (subst (λ os. IsWriting c.args.names.now start whole c.args.out.now.len c.push_start.new.out.items (content rest) os) (sym (pushed c)) after);
      proper = subst (λ h. ProperBy (forest_of c.args.view) h (map forest_of c.push.new.self.items)) (sym (inside c)) (subst (λ os. ProperBy (forest_of c.args.view) (content rest) os) (sym (pushed c)) left);
    }

pub loop-outer-preserved : goal.loop-outer-preserved
loop-outer-preserved c =
    let rest = forest_of c.loop-outer.rest in
    let runs = map forest_of c.loop-outer.outer.items in
    let start = c.args.out.now.items in
    let whole = trees_text c.args.names.now (forest_of c.args.view) in
    let behind : forest_of c.split-in-Atom.result.1 ≡ others rest = c.split-in-Atom.ensures.others in
    let before = subst (λ h. IsWriting c.args.names.now start whole c.args.out.now.len c.loop-outer.out.items h runs) c.in-Atom.ensures c.loop-outer.invariant.writing in
    let added = c.in_ok-push_comma-in-Atom.ensures.ok ∙ ap (λ l. l ++ comma (forest_of c.split-in-Atom.result.1)) c.in_ok-write_literal-in-Atom.ensures.ok ∙ ap (λ h. (c.loop-outer.out.items ++ literal c.in-Atom.atom.now) ++ comma h) behind in
    let after = atom_step c.args.names.now start whole c.args.out.now.len (omega arith) c.loop-outer.out.items c.push_comma.new.out.items c.in-Atom.atom.now (others rest) runs before added in
    let known = subst (λ h. ProperBy (forest_of c.args.view) h runs) c.in-Atom.ensures c.loop-outer.invariant.proper in
    let left = proper_atom (forest_of c.args.view) c.in-Atom.atom.now (others rest) runs (proper c.in-Atom.atom.now (literal c.in-Atom.atom.now) c.write_literal.ensures.spells) known in
    record {
      writing = subst (λ h. IsWriting c.args.names.now start whole c.args.out.now.len c.push_comma.new.out.items h runs) (sym behind) after;
      proper = subst (λ h. ProperBy (forest_of c.args.view) h runs) (sym behind) left;
    }
