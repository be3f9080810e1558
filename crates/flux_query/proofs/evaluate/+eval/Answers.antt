use Rattle.std.proofs.Common.{sym, ap, ◌∙◌}
use Rattle.flux_forest.specs.View.{forest_of}
use Rattle.flux_calculus.specs.Query.{value}
use Rattle.flux_query.specs.Read.{query_of}
use Rattle.flux_query.specs.Added.{added}
use Rattle.flux_query.proofs.ValueLaws.{element_is_begun, element_added, turn_of_values, end_of_values, at_copy, turn_of_each, end_of_each}
use Rattle.flux_query.proofs.evaluate.+eval.Goals as goal

pub push_element-end_element-requires : goal.push_element-end_element-requires
push_element-end_element-requires t c =
    element_is_begun (value c.args.env.now (query_of c.args.content.now)) c.args.values.now c.begin_element.new.self c.push_value.new.values c.args.name c.in_ok-begin_element.ensures.ok c.in_ok-push_value.ensures.value

pub push_element-returns-clause-value : goal.push_element-returns-clause-value
push_element-returns-clause-value t c =
    element_added (value c.args.env.now (query_of c.args.content.now)) c.args.values.now c.begin_element.new.self c.push_value.new.values c.end_element.new.self c.args.name c.in_ok-begin_element.ensures.ok c.in_ok-push_value.ensures.value c.end_element.ensures

pub push_values-loop-query-preserved : goal.push_values-loop-query-preserved
push_values-loop-query-preserved t c =
    let here = c.loop-query.invariant.same in
    let γ = c.args.env.now in
    let one = ap (λ γ. added c.loop-query.values (value γ (query_of c.query-item.result))) (sym here) ∙ c.in_ok-push_value.ensures.value in
    record {
      same = c.push_value.ensures.unchanged ∙ here;
      so_far = turn_of_values c.args.queries.now c.loop-query.query-index _ c.args.at γ c.loop-query.values c.push_value.new.values c.loop-query-test.true c.query-item.is one ∙ c.loop-query.invariant.so_far;
    }

pub push_values-returns-clause-value : goal.push_values-returns-clause-value
push_values-returns-clause-value t c =
    sym c.loop-query.invariant.so_far ∙ end_of_values c.args.queries.now c.loop-query.query-index c.args.at c.args.env.now c.loop-query.values c.loop-query-test.false

pub push_each-loop-tree-preserved : goal.push_each-loop-tree-preserved
push_each-loop-tree-preserved t c =
    let here = c.loop-tree.invariant.same in
    let γ = c.args.env.now in
    let r = query_of c.args.body.now in
    let one = at_copy γ c.loop-tree.env c.args.x r c.in_ok-copy.field-0 (forest_of c.in-Some.tree) c.loop-tree.values c.push_under.new.values here c.in_ok-copy.ensures c.in_ok-push_under.ensures.value in
    record {
      same = c.push_under.ensures.unchanged ∙ here;
      so_far = turn_of_each γ c.args.x r c.loop-tree.tree-iterator (forest_of c.in-Some.tree) c.next.new.self c.loop-tree.values c.push_under.new.values c.in-Some.ensures.steps one ∙ c.loop-tree.invariant.so_far;
    }

pub push_each-returns-clause-value : goal.push_each-returns-clause-value
push_each-returns-clause-value t c =
    sym c.loop-tree.invariant.so_far ∙ end_of_each c.args.env.now c.args.x (query_of c.args.body.now) c.loop-tree.tree-iterator c.loop-tree.values c.in-None.ensures.steps.0
