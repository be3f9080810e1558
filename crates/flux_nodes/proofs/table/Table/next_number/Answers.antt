use Rattle.std.proofs.Common.{arith}
use Rattle.flux_nodes.proofs.SpareLaws.{has_spare, spare-length, supply-some, supply-none, supply-past}
use Rattle.flux_nodes.proofs.table.Table.next_number.Goals as goal

pub nth_free-requires : goal.nth_free-requires
nth_free-requires c =
    has_spare c.self.inside.cells.items c.as_slice.result.now c.self.inside.top c.self.inside.end c.self.inside.free c.self.inside.made c.args.self.now c.as_slice.ensures.value c.self.invariant c.self.view_is

pub returns-then-i-spare : goal.returns-then-i-spare
returns-then-i-spare c =
    let n = spare-length c.self.inside.cells.items c.self.inside.top c.self.inside.end c.self.inside.free c.self.inside.made c.args.self.now c.self.invariant c.self.view_is in
    supply-past c.self.inside.cells.items c.self.inside.top c.self.inside.end c.self.inside.free c.self.inside.made c.args.self.now c.args.i _ c.self.invariant c.self.view_is (omega (arith, n.0, c.self.inside.cells.ok.0, c.len-len.ensures, c.if-i-spare.true)) (omega (arith, n.0, c.self.inside.cells.ok.0, c.len-len.ensures, c.if-i-spare.true))

pub unreachable-requires : goal.unreachable-requires
unreachable-requires c =
    let n = spare-length c.self.inside.cells.items c.self.inside.top c.self.inside.end c.self.inside.free c.self.inside.made c.args.self.now c.self.invariant c.self.view_is in
    supply-none c.self.inside.cells.items c.as_slice.result.now c.self.inside.top c.self.inside.end c.self.inside.free c.self.inside.made c.args.self.now c.args.i c.nth_free.result c.as_slice.ensures.value c.self.invariant c.self.view_is c.nth_free.ensures c.in-None.is (omega (arith, n.0, c.self.inside.cells.ok.0, c.len-len.ensures, c.if-i-spare.false))

pub returns : goal.returns
returns c =
    supply-some c.self.inside.cells.items c.as_slice.result.now c.self.inside.top c.self.inside.end c.self.inside.free c.self.inside.made c.args.self.now c.args.i c.in-Some.node c.nth_free.result c.as_slice.ensures.value c.self.invariant c.self.view_is c.nth_free.ensures c.in-Some.is
