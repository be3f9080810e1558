use Rattle.std.proofs.Common.{◌≡◌, ◌∙◌, ◌<◌, ◌++◌, ℕ, length, codes, false, All, OnOk, map, sym, subst, ap, arith}
use Rattle.flux_query.specs.Read.{query_of}
use Rattle.flux_query.proofs.Variants.{of_concat, of_elem, of_let, of_if, of_same, of_less, of_filter, of_for}
use Rattle.flux_grammar.specs.NormalNames.{QueryNames}
use Rattle.flux_report.specs.CoreText.{query_text, with_commas}
use Rattle.flux_report.proofs.Amounts.{weight, total, first_amount, other_amount, listed_weight}
use Rattle.flux_report.proofs.Listing.{holds_first, holds_behind_at}
use Rattle.flux_report.proofs.Texts.{list_names, list_text}
use Rattle.flux_report.proofs.queries.+push_query.Goals as goal

pub push_query-push_list-requires : goal.push_query-push_list-requires
push_query-push_list-requires t c =
    let e = of_concat _ c.in-Concat.queries c.in-Concat.field-1 c.in-Concat.is in
    let same = c.as_slice.ensures in
    let P : ℕ → Type 0 = λ a. a < length c.args.names.now in (
      omega (arith, c.decreases, ap weight e, ap (total weight query_of) same, listed_weight query_of c.in-Concat.field-1 c.in-Concat.queries),
      subst (λ l. All (QueryNames P) (map query_of l)) (sym same) (list_names P c.in-Concat.field-1 _ (subst (QueryNames P) e c.requires)),
    )

pub push_query-returns-in-Concat : goal.push_query-returns-in-Concat
push_query-returns-in-Concat t c =
    let e = of_concat _ c.in-Concat.queries c.in-Concat.field-1 c.in-Concat.is in
    let names = c.args.names.now in
    let old = c.args.out.now.items in
    let text = ap (λ l. codes "(" ++ with_commas (map (query_text names false) (map query_of l)) ++ codes ")") c.as_slice.ensures
    ∙ sym (ap (query_text names false) e ∙ list_text names c.in-Concat.field-1 (map query_of c.in-Concat.queries)) in
    subst (λ l. OnOk c.push_list.result (c.push_list.new.out.items ≡ old ++ l)) text c.push_list.ensures

pub push_query-push_element-requires : goal.push_query-push_element-requires
push_query-push_element-requires t c =
    let e = of_elem _ c.in-Elem.label _ _ c.in-Elem.field-2 c.in-Elem.is c.get.ensures in
    (omega (arith, c.decreases, ap weight e), subst (QueryNames (λ a. a < length c.args.names.now)) e c.requires)

pub push_query-push_let-requires : goal.push_query-push_let-requires
push_query-push_let-requires t c =
    let e = of_let _ c.in-Let.var _ _ _ _ c.in-Let.field-3 c.in-Let.is c.get-in-Let.ensures c.get-in-Let-2.ensures in
    let h = subst (QueryNames (λ a. a < length c.args.names.now)) e c.requires in
    (omega (arith, c.decreases, ap weight e), (h.0, (h.1, h.2)))

pub push_query-push_choice-requires : goal.push_query-push_choice-requires
push_query-push_choice-requires t c =
    let e = of_if _ _ _ _ _ _ _ c.in-If.field-3 c.in-If.is c.get-in-If.ensures c.get-in-If-2.ensures c.get-in-If-3.ensures in
    let h = subst (QueryNames (λ a. a < length c.args.names.now)) e c.requires in
    (omega (arith, c.decreases, ap weight e), (h.0, (h.1, h.2)))

pub push_query-push_pair-requires : goal.push_query-push_pair-requires
push_query-push_pair-requires t c =
    let e = of_same _ _ _ _ _ c.in-Same.field-2 c.in-Same.is c.get-in-Same.ensures c.get-in-Same-2.ensures in
    let h = subst (QueryNames (λ a. a < length c.args.names.now)) e c.requires in
    (omega (arith, c.decreases, ap weight e), h)

pub push_query-push_pair-requires-in-Less : goal.push_query-push_pair-requires-in-Less
push_query-push_pair-requires-in-Less t c =
    let e = of_less _ _ _ _ _ c.in-Less.field-2 c.in-Less.is c.get-in-Less.ensures c.get-in-Less-2.ensures in
    let h = subst (QueryNames (λ a. a < length c.args.names.now)) e c.requires in
    (omega (arith, c.decreases, ap weight e), h)

pub push_query-push_filter-requires : goal.push_query-push_filter-requires
push_query-push_filter-requires t c =
    let e = of_filter _ _ _ c.in-Filter.test c.in-Filter.field-2 c.in-Filter.is c.get-in-Filter.ensures in
    let h = subst (QueryNames (λ a. a < length c.args.names.now)) e c.requires in
    (omega (arith, c.decreases, ap weight e), h)

pub push_query-push_each-requires : goal.push_query-push_each-requires
push_query-push_each-requires t c =
    let e = of_for _ c.in-For.var _ _ _ _ c.in-For.field-3 c.in-For.is c.get-in-For.ensures c.get-in-For-2.ensures in
    let h = subst (QueryNames (λ a. a < length c.args.names.now)) e c.requires in
    (omega (arith, c.decreases, ap weight e), (h.0, (h.1, h.2)))

pub push_queries-push_query-requires : goal.push_queries-push_query-requires
push_queries-push_query-requires t c =
    let split = c.in-Some.ensures.cases.0 in (
      omega (arith, c.decreases, first_amount weight query_of c.args.queries.now c.in-Some.first.now c.in-Some.others.now split),
      holds_first (QueryNames (λ a. a < length c.args.names.now)) query_of c.args.queries.now c.in-Some.first.now c.in-Some.others.now split c.requires,
    )

pub push_queries-push_query-requires-in-loop-query : goal.push_queries-push_query-requires-in-loop-query
push_queries-push_query-requires-in-loop-query t c =
    let split = c.in-Some.ensures.cases.0 in (
      omega (arith, c.decreases, other_amount weight query_of c.args.queries.now c.in-Some.first.now c.in-Some.others.now c.loop-query.query-index c.query-item.result split c.loop-query-test.true c.query-item.is),
      holds_behind_at (QueryNames (λ a. a < length c.args.names.now)) query_of c.args.queries.now c.in-Some.first.now c.query-item.result c.in-Some.others.now c.loop-query.query-index split c.loop-query-test.true c.query-item.is c.requires,
    )
