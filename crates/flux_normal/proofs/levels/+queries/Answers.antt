use Rattle.std.proofs.Common.{◌≡◌, ◌-◌, ℕ, List, [], ◌++◌, inl, inr, length, map, sym, subst, ap, ◌∙◌}
use Rattle.std.specs.Prelude.{flat_map}
use Rattle.flux_grammar.specs.declared.tree.Expr.TheVariants.{Elem}
use Rattle.flux_grammar.specs.Nesting.{level, query_level}
use Rattle.flux_grammar.specs.NormalFaults.{first}
use Rattle.flux_grammar.specs.NormalQueries.{of_all, steps_on, query_form}
use Rattle.flux_normal.specs.Levels.{told, Finds}
use Rattle.flux_normal.proofs.LevelLaws.{joined, of_part, in_list, turns, ends}
use Rattle.flux_normal.proofs.QueryForms.{of_list, of_for, of_let, of_if, of_same, of_less, of_stepped, of_element, of_empty}
use Rattle.flux_normal.proofs.levels.+queries.Goals.{check_query-in-Some, check_query-in-None}
use Rattle.flux_normal.proofs.levels.+queries.Goals as goal

pub check_query-returns-in-List : goal.check_query-returns-in-List
check_query-returns-in-List t c = λ k.
    ap (λ q. first (query_level (q k).0 c.args.levels)) (ap query_form c.in-List.is ∙ of_list c.in-List.items c.in-List.span)
    ∙ ap first (in_list c.in-List.span (of_all (map query_form c.in-List.items) k).0 c.args.levels)
    ∙ c.node.ensures (λ n. flat_map (λ q. query_level q n) (of_all (map query_form c.in-List.items) k).0)
    (of_part (λ qs n. flat_map (λ q. query_level q n) qs) (λ es. of_all (map query_form es)) c.in-List.items _ _ _ _ c.as_slice.ensures c.saturating_sub-below.ensures c.check_queries-items.ensures k)

two : (t : ℕ) (c : goal.check_query-After-node-in-For t) (k : ℕ) → first (level c.in-For.span.from (λ n. query_level (query_form c.in-For.left k).0 n ++ query_level (query_form c.in-For.right (query_form c.in-For.left k).1).0 n) c.args.levels) ≡ told c.node-in-For.result
two t c k =
    let below = c.saturating_sub-below.ensures in
    c.node-in-For.ensures (λ n. query_level (query_form c.in-For.left k).0 n ++ query_level (query_form c.in-For.right (query_form c.in-For.left k).1).0 n)
    (joined _ _ _ _
    (of_part query_level query_form c.in-For.left _ _ _ _ c.get-in-For.ensures below c.check_query-left.ensures k)
    (of_part query_level query_form c.in-For.right _ _ _ _ c.get-in-For-2.ensures below c.check_query-right.ensures _)
    ∙ sym c.both-in-For.ensures)

pub check_query-returns-in-For : goal.check_query-returns-in-For
check_query-returns-in-For t c = elim c.in-For.is [
  | inl p ↦ λ k. ap (λ q. first (query_level (q k).0 c.args.levels)) (ap query_form p.1 ∙ of_for p.0 _ _ _) ∙ two t c k
  | inr (inl p) ↦ λ k. ap (λ q. first (query_level (q k).0 c.args.levels)) (ap query_form p.1 ∙ of_let p.0 _ _ _) ∙ two t c k
  | inr (inr (inl e)) ↦ λ k. ap (λ q. first (query_level (q k).0 c.args.levels)) (ap query_form e ∙ of_same _ _ _) ∙ two t c k
  | inr (inr (inr e)) ↦ λ k. ap (λ q. first (query_level (q k).0 c.args.levels)) (ap query_form e ∙ of_less _ _ _) ∙ two t c k
]

pub check_query-returns-in-If : goal.check_query-returns-in-If
check_query-returns-in-If t c = λ k.
    let below = c.saturating_sub-below.ensures in
    let i = (query_form c.in-If.condition k).1 in
    let j = (query_form c.in-If.yes i).1 in
    ap (λ q. first (query_level (q k).0 c.args.levels)) (ap query_form c.in-If.is ∙ of_if c.in-If.condition c.in-If.yes c.in-If.no c.in-If.span)
    ∙ c.node-in-If.ensures (λ n. query_level (query_form c.in-If.condition k).0 n ++ query_level (query_form c.in-If.yes i).0 n ++ query_level (query_form c.in-If.no j).0 n)
    (joined _ _ _ _
    (joined _ _ _ _ (of_part query_level query_form c.in-If.condition _ _ _ _ c.get.ensures below c.check_query-condition.ensures k)
    (of_part query_level query_form c.in-If.yes _ _ _ _ c.get-in-If.ensures below c.check_query-yes.ensures i)
    ∙ sym c.both.ensures)
    (of_part query_level query_form c.in-If.no _ _ _ _ c.get-in-If-2.ensures below c.check_query-no.ensures j)
    ∙ sym c.both-in-If.ensures)

pub check_query-returns-in-Stepped : goal.check_query-returns-in-Stepped
check_query-returns-in-Stepped t c = λ k.
    ap (λ q. first (query_level (q k).0 c.args.levels)) (ap query_form c.in-Stepped.is ∙ of_stepped c.in-Stepped.from c.in-Stepped.steps _)
    ∙ subst (λ ss. Finds query_level (query_form c.in-Stepped.from) (c.args.levels - length ss) (told c.check_query-from.result) → Finds query_level (steps_on (query_form c.in-Stepped.from) ss) c.args.levels (told c.check_steps.result)) c.as_slice-in-Stepped-2.ensures
    (c.check_steps.ensures (query_form c.in-Stepped.from))
    (of_part query_level query_form c.in-Stepped.from _ _ _ _ c.get-in-Stepped.ensures (c.past.ensures ∙ ap (λ ss. c.args.levels - length ss) c.as_slice-in-Stepped.ensures) c.check_query-from.ensures) k

pub check_queries-loop-query-preserved : goal.check_queries-loop-query-preserved
check_queries-loop-query-preserved t c =
    turns query_level query_form c.args.levels c.args.queries.now c.loop-query.query-index c.query-item.result _ _ _ c.loop-query-test.true c.query-item.is c.check_query.ensures c.both-found.ensures c.loop-query.invariant

pub check_queries-returns : goal.check_queries-returns
check_queries-returns t c = ends query_level query_form c.args.levels c.args.queries.now c.loop-query.query-index _ c.loop-query-test.false c.loop-query.invariant

pub check_query-returns-after-content : goal.check_query-returns-after-content
check_query-returns-after-content t c = elim c.match-content.branch [
  | check_query-in-Some w ↦ λ k.
      ap (λ q. first (query_level (q k).0 c.args.levels)) (ap query_form (c.in-Elem.is ∙ ap (λ o. Elem c.in-Elem.field-0 o c.in-Elem.span) w.in-Some.is) ∙ of_element _ w.in-Some.content _)
      ∙ c.node-in-Elem.ensures (query_level (query_form w.in-Some.content k).0)
      (of_part query_level query_form w.in-Some.content _ _ _ _ w.get-in-Some.ensures c.saturating_sub-below.ensures w.check_query-content.ensures k ∙ ap told (sym w.content-is))
  | check_query-in-None w ↦ λ k.
      ap (λ q. first (query_level (q k).0 c.args.levels)) (ap query_form (c.in-Elem.is ∙ ap (λ o. Elem c.in-Elem.field-0 o c.in-Elem.span) w.in-None.is) ∙ of_empty _ _)
      ∙ c.node-in-Elem.ensures (level c.in-Elem.span.from (λ n. []))
      (ap (λ m. first (level c.in-Elem.span.from (λ n. []) m)) (sym c.saturating_sub-below.ensures) ∙ w.leaf-content.ensures ∙ ap told (sym w.content-is))
]
