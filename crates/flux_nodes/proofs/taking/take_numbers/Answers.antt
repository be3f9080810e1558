use Rattle.std.proofs.Common.{arith, subst, ◌≡◌}
use Rattle.flux_nodes.specs.Kept.{AreTaken}
use Rattle.flux_nodes.proofs.TakingLaws.{err-not_ok, taken-spare, taken-turn, taken-room, taken-length}
use Rattle.flux_nodes.proofs.taking.take_numbers.Goals as goal

pub take_number-number-requires-clause-spare : goal.take_number-number-requires-clause-spare
take_number-number-requires-clause-spare c =
    taken-spare c.args.cells.now.items c.taken.cells.items c.args.free.now c.taken.free c.taken.numbers.items c.taken._taken c.requires.list (c.taken.invariant.taken c.requires.list)

pub take_number-number-requires-clause-room : goal.take_number-number-requires-clause-room
take_number-number-requires-clause-room c none =
    taken-room c.args.cells.now.items c.taken.cells.items c.args.free.now c.taken.free c.taken.numbers.items c.taken._taken c.args.count _ c.requires.list (c.taken.invariant.taken c.requires.list) c.taken-test.true (c.taken.invariant.room c.requires.list) none

pub unreachable-requires : goal.unreachable-requires
unreachable-requires c =
    err-not_ok c.push.result c.in-Err.field-0 (c.push.ensures.succeeds (omega (arith, c.taken.numbers.ok.0, taken-length c.args.cells.now.items c.taken.cells.items c.args.free.now c.taken.free c.taken.numbers.items c.taken._taken c.requires.list (c.taken.invariant.taken c.requires.list), c.taken-test.true, c.taken.invariant.numbers_room))) c.in-Err.is

pub taken-preserved : goal.taken-preserved
taken-preserved c = record {
  taken = taken-turn c.args.cells.now.items c.taken.cells.items c.take_number-number.new.cells.items c.args.free.now c.taken.free c.take_number-number.new.free c.taken.numbers.items c.push.new.self.items c.take_number-number.result c.taken._taken c.taken.invariant.taken c.take_number-number.ensures.taken (c.in_default.ensures {u = tt}).items;
  room = λ h. omega (arith, c.taken.invariant.room h, c.take_number-number.ensures.room);
  numbers_room = omega (arith, c.taken.invariant.numbers_room, c.push.ensures.capacity);
}

pub returns-clause-ok : goal.returns-clause-ok
returns-clause-ok c h =
    let all : c.taken._taken ≡ c.args.count = omega (arith, c.taken-test.false, c.taken.auto._taken-end) in
    subst (λ k. AreTaken c.args.cells.now.items c.taken.cells.items h.spare c.taken.free c.taken.numbers.items k) all (c.taken.invariant.taken h)
