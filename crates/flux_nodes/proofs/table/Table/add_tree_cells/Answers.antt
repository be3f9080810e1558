use Rattle.std.proofs.Common.{arith, ap, sym, subst, ◌+◌, ◌∙◌}
use Rattle.flux_forest.specs.View.{forest_of}
use Rattle.flux_trees.specs.Edits.{number}
use Rattle.flux_nodes.specs.Tables.{IsNewRun, supply}
use Rattle.flux_nodes.specs.Decoded.{meaning_of}
use Rattle.flux_nodes.specs.Kept.{IsHeld}
use Rattle.flux_nodes.specs.Built.{CanBuild}
use Rattle.flux_nodes.proofs.SeenLaws.{seen}
use Rattle.flux_nodes.proofs.TableCalls.{written}
use Rattle.flux_nodes.proofs.BuildLaws.{read-number}
use Rattle.flux_nodes.proofs.AddLaws.{spare-counted, adding, added-now, add-held, add-some, run-told}
use Rattle.flux_nodes.proofs.table.Table.add_tree_cells.Goals as goal

pub take_numbers-requires-clause-spare : goal.take_numbers-requires-clause-spare
take_numbers-requires-clause-spare c =
    spare-counted c.self.inside.cells.items c.self.inside.top c.self.inside.end c.self.inside.free c.self.inside.made c.len.result c.args.self.now c.self.invariant c.self.view_is (omega (arith, c.len.ensures, c.self.inside.cells.ok.0))

pub build-last-requires : goal.build-last-requires
build-last-requires c =
    let a = (adding c.self.inside.cells.items c.take_numbers.new.cells.items c.self.inside.top c.self.inside.end c.self.inside.free c.take_numbers.new.free c.self.inside.made c.args.self.now c.in_ok-numbers.numbers.items c.new-nodes.result.items c.push_copies.new.nodes.items c.nodes.result.now (forest_of c.args.view) c.len-count.result c.is_empty.result c.self.invariant c.self.view_is c.new-nodes.ensures.items (c.in_ok-push_copies.ensures {u = tt}).ok c.nodes.ensures.flat c.nodes.ensures.same (omega (arith, c.len-count.ensures, c.push_copies.new.nodes.ok.0)) c.if-is_empty.false c.is_empty.ensures.1 (c.in_ok-numbers.ensures {u = tt}).ok) in
    subst (λ cs. CanBuild cs c.push_copies.new.nodes.items c.as_slice.result.now) (sym c.as_mut_slice.ensures.value) (subst (CanBuild c.take_numbers.new.cells.items c.push_copies.new.nodes.items) (sym c.as_slice.ensures.value) a.can)

pub index-requires : goal.index-requires
index-requires c =
    let a = (adding c.self.inside.cells.items c.take_numbers.new.cells.items c.self.inside.top c.self.inside.end c.self.inside.free c.take_numbers.new.free c.self.inside.made c.args.self.now c.in_ok-numbers.numbers.items c.new-nodes.result.items c.push_copies.new.nodes.items c.nodes.result.now (forest_of c.args.view) c.len-count.result c.is_empty.result c.self.invariant c.self.view_is c.new-nodes.ensures.items (c.in_ok-push_copies.ensures {u = tt}).ok c.nodes.ensures.flat c.nodes.ensures.same (omega (arith, c.len-count.ensures, c.push_copies.new.nodes.ok.0)) c.if-is_empty.false c.is_empty.ensures.1 (c.in_ok-numbers.ensures {u = tt}).ok) in
    omega (arith, a.some, a.taken.length_is, c.in_ok-numbers.numbers.ok.0)

pub invariant_of-self-2 : goal.invariant_of-self-2
invariant_of-self-2 c =
    let a = (adding c.self.inside.cells.items c.take_numbers.new.cells.items c.self.inside.top c.self.inside.end c.self.inside.free c.take_numbers.new.free c.self.inside.made c.args.self.now c.in_ok-numbers.numbers.items c.new-nodes.result.items c.push_copies.new.nodes.items c.nodes.result.now (forest_of c.args.view) c.len-count.result c.is_empty.result c.self.invariant c.self.view_is c.new-nodes.ensures.items (c.in_ok-push_copies.ensures {u = tt}).ok c.nodes.ensures.flat c.nodes.ensures.same (omega (arith, c.len-count.ensures, c.push_copies.new.nodes.ok.0)) c.if-is_empty.false c.is_empty.ensures.1 (c.in_ok-numbers.ensures {u = tt}).ok) in
    let n = (added-now c.build-last.new.cells c.as_mut_slice.result.now c.as_slice.result.now c.build-last.result (adding c.self.inside.cells.items c.take_numbers.new.cells.items c.self.inside.top c.self.inside.end c.self.inside.free c.take_numbers.new.free c.self.inside.made c.args.self.now c.in_ok-numbers.numbers.items c.new-nodes.result.items c.push_copies.new.nodes.items c.nodes.result.now (forest_of c.args.view) c.len-count.result c.is_empty.result c.self.invariant c.self.view_is c.new-nodes.ensures.items (c.in_ok-push_copies.ensures {u = tt}).ok c.nodes.ensures.flat c.nodes.ensures.same (omega (arith, c.len-count.ensures, c.push_copies.new.nodes.ok.0)) c.if-is_empty.false c.is_empty.ensures.1 (c.in_ok-numbers.ensures {u = tt}).ok) c.as_mut_slice.ensures.value c.as_slice.ensures.value c.build-last.auto.cells c.build-last.ensures) in
    subst (λ cs. IsHeld cs c.self.inside.top c.self.inside.end c.take_numbers.new.free (c.self.inside.made + c.len-count.result)) (sym (written c.take_numbers.new.cells.len c.build-last.new.cells c.take_numbers.new.cells.items (omega (arith, c.as_mut_slice.ensures.len, c.build-last.auto.cells)))) (add-held c.self.inside.cells.items c.build-last.new.cells c.self.inside.top c.self.inside.end c.self.inside.free c.take_numbers.new.free c.self.inside.made (c.self.inside.made + c.len-count.result) c.args.self.now (forest_of c.args.view) c.self.invariant c.self.view_is n.1 (ap (λ k. c.self.inside.made + k) a.copies_are.count_is) n.0)

pub returns-clause-ok : goal.returns-clause-ok
returns-clause-ok c =
    let a = (adding c.self.inside.cells.items c.take_numbers.new.cells.items c.self.inside.top c.self.inside.end c.self.inside.free c.take_numbers.new.free c.self.inside.made c.args.self.now c.in_ok-numbers.numbers.items c.new-nodes.result.items c.push_copies.new.nodes.items c.nodes.result.now (forest_of c.args.view) c.len-count.result c.is_empty.result c.self.invariant c.self.view_is c.new-nodes.ensures.items (c.in_ok-push_copies.ensures {u = tt}).ok c.nodes.ensures.flat c.nodes.ensures.same (omega (arith, c.len-count.ensures, c.push_copies.new.nodes.ok.0)) c.if-is_empty.false c.is_empty.ensures.1 (c.in_ok-numbers.ensures {u = tt}).ok) in
    let n = (added-now c.build-last.new.cells c.as_mut_slice.result.now c.as_slice.result.now c.build-last.result (adding c.self.inside.cells.items c.take_numbers.new.cells.items c.self.inside.top c.self.inside.end c.self.inside.free c.take_numbers.new.free c.self.inside.made c.args.self.now c.in_ok-numbers.numbers.items c.new-nodes.result.items c.push_copies.new.nodes.items c.nodes.result.now (forest_of c.args.view) c.len-count.result c.is_empty.result c.self.invariant c.self.view_is c.new-nodes.ensures.items (c.in_ok-push_copies.ensures {u = tt}).ok c.nodes.ensures.flat c.nodes.ensures.same (omega (arith, c.len-count.ensures, c.push_copies.new.nodes.ok.0)) c.if-is_empty.false c.is_empty.ensures.1 (c.in_ok-numbers.ensures {u = tt}).ok) c.as_mut_slice.ensures.value c.as_slice.ensures.value c.build-last.auto.cells c.build-last.ensures) in
    ap (λ cs. meaning_of cs c.self.inside.top c.take_numbers.new.free) (written c.take_numbers.new.cells.len c.build-last.new.cells c.take_numbers.new.cells.items (omega (arith, c.as_mut_slice.ensures.len, c.build-last.auto.cells))) ∙ seen _ _ _ _ _ n.0 ∙ add-some c.args.self.now (forest_of c.args.view) a.some

pub returns-clause-run : goal.returns-clause-run
returns-clause-run c =
    let a = (adding c.self.inside.cells.items c.take_numbers.new.cells.items c.self.inside.top c.self.inside.end c.self.inside.free c.take_numbers.new.free c.self.inside.made c.args.self.now c.in_ok-numbers.numbers.items c.new-nodes.result.items c.push_copies.new.nodes.items c.nodes.result.now (forest_of c.args.view) c.len-count.result c.is_empty.result c.self.invariant c.self.view_is c.new-nodes.ensures.items (c.in_ok-push_copies.ensures {u = tt}).ok c.nodes.ensures.flat c.nodes.ensures.same (omega (arith, c.len-count.ensures, c.push_copies.new.nodes.ok.0)) c.if-is_empty.false c.is_empty.ensures.1 (c.in_ok-numbers.ensures {u = tt}).ok) in
    let n = (added-now c.build-last.new.cells c.as_mut_slice.result.now c.as_slice.result.now c.build-last.result (adding c.self.inside.cells.items c.take_numbers.new.cells.items c.self.inside.top c.self.inside.end c.self.inside.free c.take_numbers.new.free c.self.inside.made c.args.self.now c.in_ok-numbers.numbers.items c.new-nodes.result.items c.push_copies.new.nodes.items c.nodes.result.now (forest_of c.args.view) c.len-count.result c.is_empty.result c.self.invariant c.self.view_is c.new-nodes.ensures.items (c.in_ok-push_copies.ensures {u = tt}).ok c.nodes.ensures.flat c.nodes.ensures.same (omega (arith, c.len-count.ensures, c.push_copies.new.nodes.ok.0)) c.if-is_empty.false c.is_empty.ensures.1 (c.in_ok-numbers.ensures {u = tt}).ok) c.as_mut_slice.ensures.value c.as_slice.ensures.value c.build-last.auto.cells c.build-last.ensures) in
    let is = ap (λ cs. meaning_of cs c.self.inside.top c.take_numbers.new.free) (written c.take_numbers.new.cells.len c.build-last.new.cells c.take_numbers.new.cells.items (omega (arith, c.as_mut_slice.ensures.len, c.build-last.auto.cells))) ∙ seen _ _ _ _ _ n.0 ∙ add-some c.args.self.now (forest_of c.args.view) a.some in
    subst (λ m. IsNewRun c.run_to.result m (number (forest_of c.args.view) (supply c.args.self.now))) (sym is) (run-told c.self.inside.cells.items c.take_numbers.new.cells.items c.build-last.new.cells c.self.inside.top c.self.inside.end c.self.inside.free c.take_numbers.new.free c.args.self.now c.in_ok-numbers.numbers.items (forest_of c.args.view) c.index.result.now c.build-last.result c.run_to.result a.table a.taken a.some n.0 n.2 (read-number c.in_ok-numbers.numbers.items 0 c.index.result.now c.index.ensures (omega (arith, a.some, a.taken.length_is))) c.run_to.ensures.some)
