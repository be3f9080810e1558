use Rattle.std.proofs.Common.{◌≡◌, ◌-◌, ◌++◌, ◌∷◌, [], arith, length-set}
use Rattle.flux_plain.specs.declared.step.Step.TheVariants.{Down as DownStep, Before as BeforeStep, After as AfterStep, Each as EachStep}
use Rattle.flux_plain.proofs.LayoutLaws.{seen, keep, show, keep_room}
use Rattle.flux_plain.proofs.RunLaws.{moved_length}
use Rattle.flux_plain.proofs.BackLaws.{back_down, back_before, back_after, back_each, back_before_le, back_each_le, ends_in}
use Rattle.flux_plain.proofs.zipper.Zipper.step_back.Goals as goal
use Rattle.flux_plain.proofs.zipper.Zipper.step_back.Goals.{In-Some-Down, In-Some-Before, In-Some-After, In-Some-Each}

last_down : (c : In-Some-Down) → c.self.inside.steps.items ≡ c.pop.new.self.items ++ DownStep c.in-Some-Down.start ∷ []
last_down c = ends_in c.pop.new.self.items c.self.inside.steps.items c.in-Some-Down.field-0-is c.in-Some-Down.ensures.items

last_before : (c : In-Some-Before) → c.self.inside.steps.items ≡ c.pop.new.self.items ++ BeforeStep c.in-Some-Before.count ∷ []
last_before c = ends_in c.pop.new.self.items c.self.inside.steps.items c.in-Some-Before.field-0-is c.in-Some-Before.ensures.items

last_after : (c : In-Some-After) → c.self.inside.steps.items ≡ c.pop.new.self.items ++ AfterStep c.in-Some-After.start ∷ []
last_after c = ends_in c.pop.new.self.items c.self.inside.steps.items c.in-Some-After.field-0-is c.in-Some-After.ensures.items

last_each : (c : In-Some-Each) → c.self.inside.steps.items ≡ c.pop.new.self.items ++ EachStep c.in-Some-Each.start c.in-Some-Each.count ∷ []
last_each c = ends_in c.pop.new.self.items c.self.inside.steps.items c.in-Some-Each.field-0-is c.in-Some-Each.ensures.items

pub invariant_of-self : goal.invariant_of-self
invariant_of-self c = (
  keep (back_down (seen c.self.invariant.0 c.self.view_is) c.pop.new.self.items c.in-Some-Down.start (last_down (goal.at.invariant_of-self c).In-Some-Down) c.index_mut.result.now c.len.result c.index_mut.ensures.value (omega (arith, c.self.inside.left.ok.0))),
  keep_room c.self.invariant.1 (omega (arith, length-set c.self.inside.left.items c.in-Some-Down.start (record { item = c.index_mut.result.now.item; size = c.len.result - c.in-Some-Down.start }))) (omega arith) (omega arith),
)

pub returns-in-Some-Down : goal.returns-in-Some-Down
returns-in-Some-Down c =
    show (back_down (seen c.self.invariant.0 c.self.view_is) c.pop.new.self.items c.in-Some-Down.start (last_down (goal.at.returns-in-Some-Down c).In-Some-Down) c.index_mut.result.now c.len.result c.index_mut.ensures.value (omega (arith, c.self.inside.left.ok.0)))

pub move_nodes-requires-clause-enough : goal.move_nodes-requires-clause-enough
move_nodes-requires-clause-enough c =
    back_before_le c.self.invariant.0 c.pop.new.self.items c.in-Some-Before.count (last_before (goal.at.move_nodes-requires-clause-enough c).In-Some-Before)

pub move_nodes-requires-clause-room : goal.move_nodes-requires-clause-room
move_nodes-requires-clause-room c =
    omega (arith, c.self.invariant.1.on_left, back_before_le c.self.invariant.0 c.pop.new.self.items c.in-Some-Before.count (last_before (goal.at.move_nodes-requires-clause-room c).In-Some-Before))

pub invariant_of-self-in-Some-Before : goal.invariant_of-self-in-Some-Before
invariant_of-self-in-Some-Before c = (
  keep (back_before (seen c.self.invariant.0 c.self.view_is) c.pop.new.self.items c.in-Some-Before.count (last_before (goal.at.invariant_of-self-in-Some-Before c).In-Some-Before) c.move_nodes.new.to.items c.move_nodes.new.from.items c.move_nodes.ensures.moved),
  keep_room c.self.invariant.1 (omega (arith, moved_length c.move_nodes.ensures.moved)) (omega arith) (omega arith),
)

pub returns-in-Some-Before : goal.returns-in-Some-Before
returns-in-Some-Before c =
    show (back_before (seen c.self.invariant.0 c.self.view_is) c.pop.new.self.items c.in-Some-Before.count (last_before (goal.at.returns-in-Some-Before c).In-Some-Before) c.move_nodes.new.to.items c.move_nodes.new.from.items c.move_nodes.ensures.moved)

pub invariant_of-self-in-Some-After : goal.invariant_of-self-in-Some-After
invariant_of-self-in-Some-After c = (
  keep (back_after (seen c.self.invariant.0 c.self.view_is) c.pop.new.self.items c.in-Some-After.start (last_after (goal.at.invariant_of-self-in-Some-After c).In-Some-After)),
  c.self.invariant.1,
)

pub returns-in-Some-After : goal.returns-in-Some-After
returns-in-Some-After c =
    show (back_after (seen c.self.invariant.0 c.self.view_is) c.pop.new.self.items c.in-Some-After.start (last_after (goal.at.returns-in-Some-After c).In-Some-After))

pub move_nodes-requires-in-Some-Each-clause-enough : goal.move_nodes-requires-in-Some-Each-clause-enough
move_nodes-requires-in-Some-Each-clause-enough c =
    back_each_le c.self.invariant.0 c.pop.new.self.items c.in-Some-Each.start c.in-Some-Each.count (last_each (goal.at.move_nodes-requires-in-Some-Each-clause-enough c).In-Some-Each)

pub move_nodes-requires-in-Some-Each-clause-room : goal.move_nodes-requires-in-Some-Each-clause-room
move_nodes-requires-in-Some-Each-clause-room c =
    omega (arith, c.self.invariant.1.on_left, back_each_le c.self.invariant.0 c.pop.new.self.items c.in-Some-Each.start c.in-Some-Each.count (last_each (goal.at.move_nodes-requires-in-Some-Each-clause-room c).In-Some-Each))

pub invariant_of-self-in-Some-Each : goal.invariant_of-self-in-Some-Each
invariant_of-self-in-Some-Each c = (
  keep (back_each (seen c.self.invariant.0 c.self.view_is) c.pop.new.self.items c.in-Some-Each.start c.in-Some-Each.count (last_each (goal.at.invariant_of-self-in-Some-Each c).In-Some-Each) c.move_nodes-in-Some-Each.new.to.items c.move_nodes-in-Some-Each.new.from.items c.move_nodes-in-Some-Each.ensures.moved),
  keep_room c.self.invariant.1 (omega (arith, moved_length c.move_nodes-in-Some-Each.ensures.moved)) (omega arith) (omega arith),
)

pub returns-in-Some-Each : goal.returns-in-Some-Each
returns-in-Some-Each c =
    show (back_each (seen c.self.invariant.0 c.self.view_is) c.pop.new.self.items c.in-Some-Each.start c.in-Some-Each.count (last_each (goal.at.returns-in-Some-Each c).In-Some-Each) c.move_nodes-in-Some-Each.new.to.items c.move_nodes-in-Some-Each.new.from.items c.move_nodes-in-Some-Each.ensures.moved)
