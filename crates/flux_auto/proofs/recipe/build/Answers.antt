use Rattle.std.proofs.Common.{◌∙◌, ap, ◌++◌, ◌∷◌, []}
use Rattle.flux_auto.specs.declared.recipe.Recipe.TheVariants.{Atom, Elem}
use Rattle.flux_auto.specs.declared.recipe.Task.{Task}
use Rattle.flux_auto.proofs.Building.{some_open, builds_close, close_less, here, builds_end, end_less, builds_atom, atom_less, builds_element, element_less}
use Rattle.flux_auto.proofs.recipe.build.Goals as goal

pub end_element-requires : goal.end_element-requires
end_element-requires c =
    some_open c.args.recipes.now _ c.loop-task.tasks.items c.pop.new.self.items c.loop-task.forest c.loop-task.invariant (c.in-Some.ensures.items ∙ ap (λ (t : Task). c.pop.new.self.items ++ t ∷ []) c.in-Close.is)

pub loop-task-smaller-in-Close : goal.loop-task-smaller-in-Close
loop-task-smaller-in-Close c =
    close_less c.args.recipes.now _ c.loop-task.tasks.items c.pop.new.self.items c.loop-task.forest c.loop-task.invariant (c.in-Some.ensures.items ∙ ap (λ (t : Task). c.pop.new.self.items ++ t ∷ []) c.in-Close.is)

pub loop-task-preserved-in-Close : goal.loop-task-preserved-in-Close
loop-task-preserved-in-Close c =
    builds_close c.args.recipes.now _ c.loop-task.tasks.items c.pop.new.self.items c.loop-task.forest c.loop-task.invariant c.end_element.new.self (c.in-Some.ensures.items ∙ ap (λ (t : Task). c.pop.new.self.items ++ t ∷ []) c.in-Close.is) c.end_element.ensures

pub recipe_at-requires : goal.recipe_at-requires
recipe_at-requires c =
    here c.args.recipes.now _ c.loop-task.tasks.items c.pop.new.self.items c.loop-task.forest c.loop-task.invariant c.in-Write.index (c.in-Some.ensures.items ∙ ap (λ (t : Task). c.pop.new.self.items ++ t ∷ []) c.in-Write.is)

pub loop-task-smaller-in-End : goal.loop-task-smaller-in-End
loop-task-smaller-in-End c =
    end_less c.args.recipes.now _ c.loop-task.tasks.items c.pop.new.self.items c.loop-task.forest c.loop-task.invariant c.in-Write.index (c.in-Some.ensures.items ∙ ap (λ (t : Task). c.pop.new.self.items ++ t ∷ []) c.in-Write.is)

pub loop-task-preserved-in-End : goal.loop-task-preserved-in-End
loop-task-preserved-in-End c =
    builds_end c.args.recipes.now _ c.loop-task.tasks.items c.pop.new.self.items c.loop-task.forest c.loop-task.invariant c.in-Write.index (c.in-Some.ensures.items ∙ ap (λ (t : Task). c.pop.new.self.items ++ t ∷ []) c.in-Write.is) c.in-End.ensures

pub loop-task-smaller-in_ok-push_atom-in-Atom : goal.loop-task-smaller-in_ok-push_atom-in-Atom
loop-task-smaller-in_ok-push_atom-in-Atom c =
    atom_less c.args.recipes.now _ c.loop-task.tasks.items c.pop.new.self.items c.loop-task.forest c.loop-task.invariant c.in-Write.index (c.in-Some.ensures.items ∙ ap (λ (t : Task). c.pop.new.self.items ++ t ∷ []) c.in-Write.is)
    c.in-Atom.kind c.in-Atom.next c.push-in-Atom.new.self.items c.in-Atom.ensures (c.requires.older c.in-Write.index (Atom c.in-Atom.kind c.in-Atom.next) c.in-Atom.ensures) c.in_ok-push-in-Atom.ensures.items

pub loop-task-preserved-in_ok-push_atom-in-Atom : goal.loop-task-preserved-in_ok-push_atom-in-Atom
loop-task-preserved-in_ok-push_atom-in-Atom c =
    builds_atom c.args.recipes.now _ c.loop-task.tasks.items c.pop.new.self.items c.loop-task.forest c.loop-task.invariant c.in-Write.index (c.in-Some.ensures.items ∙ ap (λ (t : Task). c.pop.new.self.items ++ t ∷ []) c.in-Write.is)
    c.in-Atom.kind c.in-Atom.next c.push-in-Atom.new.self.items c.push_atom.new.self c.in_ok-sample-in-Atom.field-0 c.in-Atom.ensures (c.requires.older c.in-Write.index (Atom c.in-Atom.kind c.in-Atom.next) c.in-Atom.ensures) c.in_ok-push-in-Atom.ensures.items
    c.in_ok-sample-in-Atom.ensures c.in_ok-push_atom-in-Atom.ensures.ok

pub loop-task-smaller : goal.loop-task-smaller
loop-task-smaller c =
    element_less c.args.recipes.now _ c.loop-task.tasks.items c.pop.new.self.items c.loop-task.forest c.loop-task.invariant c.in-Write.index (c.in-Some.ensures.items ∙ ap (λ (t : Task). c.pop.new.self.items ++ t ∷ []) c.in-Write.is)
    c.in-Elem.label c.in-Elem.content c.in-Elem.next c.push-in-Elem.new.self.items c.push-in-Elem-2.new.self.items c.push-in-Elem-3.new.self.items c.in-Elem.ensures
    (c.requires.older c.in-Write.index (Elem c.in-Elem.label c.in-Elem.content c.in-Elem.next) c.in-Elem.ensures) c.in_ok-push-in-Elem.ensures.items c.in_ok-push-in-Elem-2.ensures.items c.in_ok-push-in-Elem-3.ensures.items

pub loop-task-preserved : goal.loop-task-preserved
loop-task-preserved c =
    builds_element c.args.recipes.now _ c.loop-task.tasks.items c.pop.new.self.items c.loop-task.forest c.loop-task.invariant c.in-Write.index (c.in-Some.ensures.items ∙ ap (λ (t : Task). c.pop.new.self.items ++ t ∷ []) c.in-Write.is)
    c.in-Elem.label c.in-Elem.content c.in-Elem.next c.push-in-Elem.new.self.items c.push-in-Elem-2.new.self.items c.push-in-Elem-3.new.self.items c.in-Elem.ensures
    (c.requires.older c.in-Write.index (Elem c.in-Elem.label c.in-Elem.content c.in-Elem.next) c.in-Elem.ensures) c.in_ok-push-in-Elem.ensures.items c.in_ok-push-in-Elem-2.ensures.items c.in_ok-push-in-Elem-3.ensures.items
    c.begin_element.new.self c.in_ok-begin_element-in-Elem.ensures.ok
