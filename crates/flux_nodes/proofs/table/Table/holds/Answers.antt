use Rattle.std.proofs.Common.{arith}
use Rattle.flux_nodes.proofs.TableCalls.{table_of}
use Rattle.flux_nodes.proofs.RootLaws.{among, held-past, held-free, held-top, top-held, neither}
use Rattle.flux_nodes.proofs.CopyLaws.{test-false}
use Rattle.flux_nodes.proofs.table.Table.holds.Goals as goal

pub returns-then-node-len : goal.returns-then-node-len
returns-then-node-len c =
    neither (held-past c.args.node.0 (table_of c.self.invariant c.self.view_is) (omega (arith, c.if-node-len.true, c.len.ensures, c.self.inside.cells.ok.0)))

pub returns-then-is_free : goal.returns-then-is_free
returns-then-is_free c =
    neither (held-free c.args.node.0 c.index.result.now (table_of c.self.invariant c.self.view_is) c.index.ensures (c.is_free.ensures.0 c.if-is_free.true))

pub root_of-requires : goal.root_of-requires
root_of-requires c =
    among c.as_slice.result.now c.args.node.0 c.index.result.now (table_of c.self.invariant c.self.view_is) c.as_slice.ensures.value c.index.ensures (omega (arith, c.if-node-len.false, c.len.ensures, c.self.inside.cells.ok.0)) (test-false c.is_free.result c.if-is_free.false c.is_free.ensures.1)

pub returns : goal.returns
returns c = (
  λ yes. top-held c.as_slice.result.now c.args.node.0 c.index.result.now c.root_of.result (table_of c.self.invariant c.self.view_is) c.as_slice.ensures.value c.index.ensures (omega (arith, c.if-node-len.false, c.len.ensures, c.self.inside.cells.ok.0)) (test-false c.is_free.result c.if-is_free.false c.is_free.ensures.1) c.root_of.ensures (c.is_to.ensures.0 yes),
  λ h. c.is_to.ensures.1 (held-top c.as_slice.result.now c.args.node.0 c.root_of.result (table_of c.self.invariant c.self.view_is) c.as_slice.ensures.value c.root_of.ensures h),
)
