use Rattle.std.proofs.Common.{◌≡◌, ◌≤◌, length, reverse, arith}
use Rattle.flux_trees.specs.Hedge.{size, first, others}
use Rattle.flux_trees.proofs.HedgeLaws.{size-first-le}
use Rattle.flux_plain.specs.Layout.{before, steps_of}
use Rattle.flux_plain.specs.Next.{BringsBack}
use Rattle.flux_plain.proofs.LayoutLaws.{seen, keep, show, keep_room, with_right}
use Rattle.flux_plain.proofs.RunLaws.{moved_length}
use Rattle.flux_plain.proofs.NextLaws.{first_le, stand_first, brings_back, found_none, found_next}
use Rattle.flux_plain.proofs.zipper.Zipper.next.Goals as goal
use Rattle.flux_plain.proofs.zipper.Zipper.next.Goals.{After-take_next-size}

taken : (c : After-take_next-size) → (c.take_next-size.result ≡ size (first c.requires.1)) × BringsBack (others c.requires.1) c.take_next-size.new.steps.items (reverse (steps_of c.requires.2)) (length (before c.requires.2))
taken c =
    c.take_next-size.ensures c.requires.1 (reverse (steps_of c.requires.2)) (length (before c.requires.2)) (stand_first (with_right (seen c.self.invariant.0 c.self.view_is) c.deref.ensures.value) c.requires.0 c.requires.1 c.requires.2 c.requires.3) (brings_back (seen c.self.invariant.0 c.self.view_is) c.requires.0 c.requires.1 c.requires.2 c.requires.3)

long : (c : After-take_next-size) → c.take_next-size.result ≤ length c.self.inside.right.items
long c =
    omega (arith, (taken c).0, size-first-le c.requires.1, first_le (stand_first (seen c.self.invariant.0 c.self.view_is) c.requires.0 c.requires.1 c.requires.2 c.requires.3))

pub take_next-size-requires : goal.take_next-size-requires
take_next-size-requires c = (
  c.requires.1,
  reverse (steps_of c.requires.2),
  length (before c.requires.2),
  stand_first (with_right (seen c.self.invariant.0 c.self.view_is) c.deref.ensures.value) c.requires.0 c.requires.1 c.requires.2 c.requires.3,
  brings_back (seen c.self.invariant.0 c.self.view_is) c.requires.0 c.requires.1 c.requires.2 c.requires.3,
)

pub invariant_of-self : goal.invariant_of-self
invariant_of-self c =
    let t = taken (goal.at.invariant_of-self c).After-take_next-size in (
      keep (found_none (seen c.self.invariant.0 c.self.view_is) c.requires.0 c.requires.1 c.requires.2 c.requires.3 c.take_next-size.new.steps.items t.1 (omega (arith, t.0))),
      c.self.invariant.1,
    )

pub returns-then-size-eq0-clause-none : goal.returns-then-size-eq0-clause-none
returns-then-size-eq0-clause-none c none =
    let t = taken (goal.at.returns-then-size-eq0-clause-none c).After-take_next-size in
    show (found_none (seen c.self.invariant.0 c.self.view_is) c.requires.0 c.requires.1 c.requires.2 c.requires.3 c.take_next-size.new.steps.items t.1 (omega (arith, t.0)))

pub move_nodes-requires-clause-enough : goal.move_nodes-requires-clause-enough
move_nodes-requires-clause-enough c =
    long (goal.at.move_nodes-requires-clause-enough c).After-take_next-size

pub move_nodes-requires-clause-room : goal.move_nodes-requires-clause-room
move_nodes-requires-clause-room c =
    omega (arith, c.self.invariant.1.on_left, long (goal.at.move_nodes-requires-clause-room c).After-take_next-size)

pub invariant_of-self-2 : goal.invariant_of-self-2
invariant_of-self-2 c =
    let t = taken (goal.at.invariant_of-self-2 c).After-take_next-size in (
      keep (found_next (seen c.self.invariant.0 c.self.view_is) c.requires.0 c.requires.1 c.requires.2 c.requires.3 c.take_next-size.new.steps.items t.1 c.take_next-size.result t.0 c.if-size-eq0.false c.move_nodes.new.to.items c.move_nodes.new.from.items c.move_nodes.ensures.moved c.len-self-inside.result (omega (arith, c.self.inside.left.ok.0))),
      keep_room c.self.invariant.1 (omega (arith, moved_length c.move_nodes.ensures.moved)) (omega arith) (omega arith),
    )

pub returns-clause-more : goal.returns-clause-more
returns-clause-more c more =
    let t = taken (goal.at.returns-clause-more c).After-take_next-size in
    show (found_next (seen c.self.invariant.0 c.self.view_is) c.requires.0 c.requires.1 c.requires.2 c.requires.3 c.take_next-size.new.steps.items t.1 c.take_next-size.result t.0 c.if-size-eq0.false c.move_nodes.new.to.items c.move_nodes.new.from.items c.move_nodes.ensures.moved c.len-self-inside.result (omega (arith, c.self.inside.left.ok.0)))
