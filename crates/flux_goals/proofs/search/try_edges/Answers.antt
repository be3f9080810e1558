use Rattle.std.proofs.Common.{◌≡◌, length, sym, subst, arith}
use Rattle.flux_goals.specs.Goals.{AllBelow}
use Rattle.flux_goals.specs.Table.{IsFound, IsTried, EdgeStands}
use Rattle.flux_auto.proofs.Items.{read_is, grows-length}
use Rattle.flux_goals.proofs.AfterLaws.{edge_has}
use Rattle.flux_goals.proofs.TableLaws.{asks_trans}
use Rattle.flux_goals.proofs.SearchLaws.{stand_more, all_stand}
use Rattle.flux_goals.proofs.search.try_edges.Goals as goal

pub try_edge-requires-clause-right : goal.try_edge-requires-clause-right
try_edge-requires-clause-right c = subst (AllBelow (length c.args.auto.now.states)) (sym c.deref.ensures.value) c.requires.right

pub returns-in-Some-clause-tried : goal.returns-in-Some-clause-tried
returns-in-Some-clause-tried c =
    let e = c.index-edges-index.result in
    let at = read_is c.edges-edges.result.now c.loop-index.index e e c.loop-index-test.true c.index-edges-index.is in
    let h = (edge_has c.args.auto.now.states c.args.goal.now.left c.edges-edges.result.now e c.edges-edges.ensures).1 (c.loop-index.index, at) in
    subst (λ S. IsFound c.args.auto.now.states c.args.other c.try_edge.new.table.shown.items c.args.goal.now.left S c.in-Some.recipe) c.deref.ensures.value
    (subst (IsTried (length c.loop-index.table.goals.entries) c.args.auto.now.states c.args.other c.try_edge.new.table.goals.entries c.try_edge.new.table.shown.items c.args.goal.now.left c.deref.result.now e) c.in-Some.is (c.in_ok-tried.ensures.tried c.args.goal.now.left h))

pub loop-index-preserved : goal.loop-index-preserved
loop-index-preserved c =
    let e = c.index-edges-index.result in
    let at = read_is c.edges-edges.result.now c.loop-index.index e e c.loop-index-test.true c.index-edges-index.is in
    let h = (edge_has c.args.auto.now.states c.args.goal.now.left c.edges-edges.result.now e c.edges-edges.ensures).1 (c.loop-index.index, at) in
    let l = grows-length c.loop-index.table.goals.entries c.try_edge.new.table.goals.entries c.in_ok-tried.ensures.asks.goals in
    let m = grows-length c.args.table.now.goals.entries c.loop-index.table.goals.entries c.loop-index.invariant.asks.goals in
    let same : length c.try_edge.new.table.goals.entries ≡ length c.loop-index.table.goals.entries = omega (arith, l, m, c.if-len-before.false, c.len.ensures.len, c.len-before.ensures.len) in
    record {
      table = c.in_ok-tried.ensures.table;
      asks = asks_trans c.args.table.now c.loop-index.table c.try_edge.new.table c.loop-index.invariant.asks c.in_ok-tried.ensures.asks;
      stand = stand_more c.args.auto.now.states c.args.other c.loop-index.table.goals.entries c.try_edge.new.table.goals.entries c.args.goal.now.right.items c.edges-edges.result.now c.args.from c.loop-index.index e c.loop-index.invariant.stand c.in_ok-tried.ensures.asks.goals at
          (subst (λ S. EdgeStands c.args.auto.now.states c.args.other c.try_edge.new.table.goals.entries S e) c.deref.ensures.value
          (subst (IsTried (length c.loop-index.table.goals.entries) c.args.auto.now.states c.args.other c.try_edge.new.table.goals.entries c.try_edge.new.table.shown.items c.args.goal.now.left c.deref.result.now e) c.in_default.is (c.in_ok-tried.ensures.tried c.args.goal.now.left h) same));
    }

pub returns-clause-tried : goal.returns-clause-tried
returns-clause-tried c = all_stand c.args.auto.now.states c.args.other c.loop-index.table.goals.entries c.args.goal.now.left c.args.goal.now.right.items c.edges-edges.result.now c.args.from c.loop-index.index c.edges-edges.ensures c.loop-index.invariant.stand c.loop-index-test.false
