use Rattle.std.proofs.Common.{◌≡◌, ◌-◌, ℕ, List, [], ◌∷◌, ◌++◌, Option, inl, inr, map, sym, subst, ap, ◌∙◌}
use Rattle.std.specs.Prelude.{flat_map}
use Rattle.flux_calculus.specs.Core.{Core, skip, in_order, insert, delete, rename, children, left, right}
use Rattle.flux_grammar.specs.Nesting.{level, query_level, core_level}
use Rattle.flux_grammar.specs.NormalFaults.{first}
use Rattle.flux_grammar.specs.NormalQueries.{Numbered, plain, of_one, of_all, query_form}
use Rattle.flux_grammar.specs.NormalStatements.{stmt_form, stmts_form}
use Rattle.flux_normal.specs.Levels.{told, Finds}
use Rattle.flux_normal.proofs.LevelLaws.{joined, of_part, begins, turns, ends}
use Rattle.flux_normal.proofs.PathLaws.{on_a_path, in_node, with_skip, alone}
use Rattle.flux_normal.proofs.BodyLaws.{several}
use Rattle.flux_normal.proofs.StatementForms.{of_update, of_if, of_let, of_guarded, of_before, of_behind, of_first, of_last, of_delete, of_delete_from, of_rename, of_replace, of_replace_in, of_call, of_block}
use Rattle.flux_normal.proofs.levels.+statements.Goals as goal

pub check_each-loop-stmt-preserved : goal.check_each-loop-stmt-preserved
check_each-loop-stmt-preserved t c = λ procs.
    turns core_level (stmt_form procs) c.args.levels c.args.stmts.now c.loop-stmt.stmt-index c.stmt-item.result _ _ _ c.loop-stmt-test.true c.stmt-item.is (c.check_statement.ensures procs) c.both-found.ensures (c.loop-stmt.invariant procs)

pub check_each-returns : goal.check_each-returns
check_each-returns t c = λ procs.
    ends core_level (stmt_form procs) c.args.levels c.args.stmts.now c.loop-stmt.stmt-index _ c.loop-stmt-test.false (c.loop-stmt.invariant procs)

pub check_statement-returns-in-Update : goal.check_statement-returns-in-Update
check_statement-returns-in-Update t c = λ procs.
    on_a_path (stmt_form procs c.args.stmt.now) c.in-Update.path (stmt_form procs c.in-Update.body) c.args.levels _ c.check_path-path.result _ _
    (ap (stmt_form procs) c.in-Update.is ∙ of_update procs c.in-Update.path c.in-Update.body _)
    c.check_path-path.ensures c.inner.ensures c.within.ensures
    (subst (λ s. Finds core_level (stmt_form procs s) c.inner.result (told c.check_statement-body.result)) c.get.ensures (c.check_statement-body.ensures procs))

pub check_statement-returns-in-DeleteFrom : goal.check_statement-returns-in-DeleteFrom
check_statement-returns-in-DeleteFrom t c = λ procs.
    let at = c.in-DeleteFrom.span in
    on_a_path (stmt_form procs c.args.stmt.now) c.in-DeleteFrom.path (plain (children at (delete at))) c.args.levels _ c.check_path-path-in-DeleteFrom.result _ _
    (ap (stmt_form procs) c.in-DeleteFrom.is ∙ of_delete_from procs c.in-DeleteFrom.path at)
    c.check_path-path-in-DeleteFrom.ensures c.inner-left.ensures c.within-in-DeleteFrom.ensures
    (in_node at.from _ _ (plain (delete at)) _ _ c.node-in-DeleteFrom.ensures c.saturating_sub.ensures (λ k. c.leaf-deleted.ensures))

pub check_statement-returns-in-Replace : goal.check_statement-returns-in-Replace
check_statement-returns-in-Replace t c = λ procs.
    let at = c.in-Replace.span in
    on_a_path (stmt_form procs c.args.stmt.now) c.in-Replace.path (of_one (λ q. in_order at (delete at ∷ insert at q ∷ [])) (query_form c.in-Replace.value)) c.args.levels _ c.check_path-path-in-Replace.result _ _
    (ap (stmt_form procs) c.in-Replace.is ∙ of_replace procs c.in-Replace.path c.in-Replace.value at)
    c.check_path-path-in-Replace.ensures c.inner-in-Replace.ensures c.within-in-Replace.ensures c.check_replace-replaced.ensures

pub check_statement-returns-in-ReplaceIn : goal.check_statement-returns-in-ReplaceIn
check_statement-returns-in-ReplaceIn t c = λ procs.
    let at = c.in-ReplaceIn.span in
    let replaced : Numbered Core = of_one (λ q. in_order at (delete at ∷ insert at q ∷ [])) (query_form c.in-ReplaceIn.value) in
    on_a_path (stmt_form procs c.args.stmt.now) c.in-ReplaceIn.path (of_one (children at) replaced) c.args.levels _ c.check_path-path-in-ReplaceIn.result _ _
    (ap (stmt_form procs) c.in-ReplaceIn.is ∙ of_replace_in procs c.in-ReplaceIn.path c.in-ReplaceIn.value at)
    c.check_path-path-in-ReplaceIn.ensures c.inner-left-in-ReplaceIn.ensures c.within-in-ReplaceIn.ensures
    (in_node at.from _ _ replaced _ _ c.node-in-ReplaceIn.ensures c.saturating_sub-in-ReplaceIn.ensures c.check_replace-replaced-in-ReplaceIn.ensures)

pub check_statement-returns-in-Delete : goal.check_statement-returns-in-Delete
check_statement-returns-in-Delete t c = elim c.in-Delete.is [
  | inl e ↦ λ procs. on_a_path (stmt_form procs c.args.stmt.now) c.in-Delete.path (plain (delete c.in-Delete.span)) c.args.levels _ c.check_path-path-in-Delete.result _ _
      (ap (stmt_form procs) e ∙ of_delete procs c.in-Delete.path c.in-Delete.span)
      c.check_path-path-in-Delete.ensures c.inner-left-in-Delete.ensures c.within-in-Delete.ensures (λ k. c.leaf-in-Delete.ensures)
  | inr p ↦ λ procs. on_a_path (stmt_form procs c.args.stmt.now) c.in-Delete.path (plain (rename c.in-Delete.span p.0)) c.args.levels _ c.check_path-path-in-Delete.result _ _
      (ap (stmt_form procs) p.1 ∙ of_rename procs c.in-Delete.path p.0 c.in-Delete.span)
      c.check_path-path-in-Delete.ensures c.inner-left-in-Delete.ensures c.within-in-Delete.ensures (λ k. c.leaf-in-Delete.ensures)
]

pub check_statement-returns-in-InsertBefore : goal.check_statement-returns-in-InsertBefore
check_statement-returns-in-InsertBefore t c = elim c.in-InsertBefore.is [
  | inl e ↦ λ procs. on_a_path (stmt_form procs c.args.stmt.now) c.in-InsertBefore.path (of_one (λ q. left c.in-InsertBefore.span (insert c.in-InsertBefore.span q)) (query_form c.in-InsertBefore.value)) c.args.levels _ c.check_path-path-in-InsertBefore.result _ _
      (ap (stmt_form procs) e ∙ of_before procs c.in-InsertBefore.path c.in-InsertBefore.value c.in-InsertBefore.span)
      c.check_path-path-in-InsertBefore.ensures c.inner-in-InsertBefore.ensures c.within-in-InsertBefore.ensures c.check_insert_in-inserted-in-InsertBefore.ensures.before
  | inr e ↦ λ procs. on_a_path (stmt_form procs c.args.stmt.now) c.in-InsertBefore.path (of_one (λ q. right c.in-InsertBefore.span (insert c.in-InsertBefore.span q)) (query_form c.in-InsertBefore.value)) c.args.levels _ c.check_path-path-in-InsertBefore.result _ _
      (ap (stmt_form procs) e ∙ of_behind procs c.in-InsertBefore.path c.in-InsertBefore.value c.in-InsertBefore.span)
      c.check_path-path-in-InsertBefore.ensures c.inner-in-InsertBefore.ensures c.within-in-InsertBefore.ensures c.check_insert_in-inserted-in-InsertBefore.ensures.behind
]

pub check_statement-returns-in-InsertFirst : goal.check_statement-returns-in-InsertFirst
check_statement-returns-in-InsertFirst t c =
    let at = c.in-InsertFirst.span in
    let before : Numbered Core = of_one (λ q. left at (insert at q)) (query_form c.in-InsertFirst.value) in
    let behind : Numbered Core = of_one (λ q. right at (insert at q)) (query_form c.in-InsertFirst.value) in
    elim c.in-InsertFirst.is [
      | inl e ↦ λ procs. on_a_path (stmt_form procs c.args.stmt.now) c.in-InsertFirst.path (of_one (children at) before) c.args.levels _ c.check_path-path-in-InsertFirst.result _ _
          (ap (stmt_form procs) e ∙ of_first procs c.in-InsertFirst.path c.in-InsertFirst.value at)
          c.check_path-path-in-InsertFirst.ensures c.inner-left-in-InsertFirst.ensures c.within-in-InsertFirst.ensures
          (in_node at.from _ _ before _ _ c.node-in-InsertFirst.ensures c.saturating_sub-in-InsertFirst.ensures c.check_insert_in-inserted.ensures.before)
      | inr e ↦ λ procs. on_a_path (stmt_form procs c.args.stmt.now) c.in-InsertFirst.path (of_one (children at) behind) c.args.levels _ c.check_path-path-in-InsertFirst.result _ _
          (ap (stmt_form procs) e ∙ of_last procs c.in-InsertFirst.path c.in-InsertFirst.value at)
          c.check_path-path-in-InsertFirst.ensures c.inner-left-in-InsertFirst.ensures c.within-in-InsertFirst.ensures
          (in_node at.from _ _ behind _ _ c.node-in-InsertFirst.ensures c.saturating_sub-in-InsertFirst.ensures c.check_insert_in-inserted.ensures.behind)
    ]

pub check_statement-returns-in-If : goal.check_statement-returns-in-If
check_statement-returns-in-If t c = λ procs k.
    let below = c.saturating_sub-below.ensures in
    let i = (query_form c.in-If.condition k).1 in
    let j = (stmt_form procs c.in-If.yes i).1 in
    ap (λ s. first (core_level (s k).0 c.args.levels)) (ap (stmt_form procs) c.in-If.is ∙ of_if procs c.in-If.condition c.in-If.yes c.in-If.no c.in-If.span)
    ∙ c.node.ensures (λ n. query_level (query_form c.in-If.condition k).0 n ++ core_level (stmt_form procs c.in-If.yes i).0 n ++ core_level (stmt_form procs c.in-If.no j).0 n)
    (joined _ _ _ _
    (joined _ _ _ _ (subst (λ m. Finds query_level (query_form c.in-If.condition) m (told c.check_query-condition.result)) below c.check_query-condition.ensures k)
    (of_part core_level (stmt_form procs) c.in-If.yes _ _ _ _ c.get-in-If.ensures below (c.check_statement-yes.ensures procs) i)
    ∙ sym c.both.ensures)
    (of_part core_level (stmt_form procs) c.in-If.no _ _ _ _ c.get-in-If-2.ensures below (c.check_statement-no.ensures procs) j)
    ∙ sym c.both-in-If.ensures)

pub check_statement-returns-in-Block : goal.check_statement-returns-in-Block
check_statement-returns-in-Block t c = λ procs k.
    ap (λ s. first (core_level (s k).0 c.args.levels)) (ap (stmt_form procs) c.in-Block.is ∙ of_block procs c.in-Block.parts _ ∙ ap (stmts_form procs) (sym c.as_slice-in-Block.ensures))
    ∙ c.check_statements.ensures procs k

pub check_statement-returns-in-Let : goal.check_statement-returns-in-Let
check_statement-returns-in-Let t c =
    let below = c.saturating_sub-below.ensures in
    elim c.in-Let.is [
      | inl p ↦ λ procs k.
          let i = (query_form c.in-Let.query k).1 in
          ap (λ s. first (core_level (s k).0 c.args.levels)) (ap (stmt_form procs) p.1 ∙ of_let procs p.0 c.in-Let.query c.in-Let.body c.in-Let.span)
          ∙ c.node-in-Let.ensures (λ n. query_level (query_form c.in-Let.query k).0 n ++ core_level (stmt_form procs c.in-Let.body i).0 n)
          (joined _ _ _ _ (subst (λ m. Finds query_level (query_form c.in-Let.query) m (told c.check_query-query.result)) below c.check_query-query.ensures k)
          (of_part core_level (stmt_form procs) c.in-Let.body _ _ _ _ c.get-in-Let.ensures below (c.check_statement-body-in-Let.ensures procs) i)
          ∙ sym c.both-in-Let.ensures)
      | inr e ↦ λ procs k.
          let i = (stmt_form procs c.in-Let.body k).1 in
          ap (λ s. first (core_level (s k).0 c.args.levels)) (ap (stmt_form procs) e ∙ of_guarded procs c.in-Let.body c.in-Let.query c.in-Let.span)
          ∙ c.node-in-Let.ensures (λ n. query_level (query_form c.in-Let.query i).0 n ++ core_level (stmt_form procs c.in-Let.body k).0 n ++ core_level (skip c.in-Let.span) n)
          (with_skip (query_level (query_form c.in-Let.query i).0 (c.args.levels - 1)) (stmt_form procs c.in-Let.body k).0 c.in-Let.span (c.args.levels - 1) _ _
          (subst (λ m. Finds query_level (query_form c.in-Let.query) m (told c.check_query-query.result)) below c.check_query-query.ensures i)
          (of_part core_level (stmt_form procs) c.in-Let.body _ _ _ _ c.get-in-Let.ensures below (c.check_statement-body-in-Let.ensures procs) k)
          ∙ sym c.both-in-Let.ensures)
    ]

pub check_statements-returns-in-len1 : goal.check_statements-returns-in-len1
check_statements-returns-in-len1 t c = λ procs k.
    ap (λ ss. first (core_level (stmts_form procs ss k).0 c.args.levels)) (alone c.args.stmts.now c.only-item.result c.in-len1.len_at_least c.in-len1.len_below c.only-item.is)
    ∙ c.check_statement.ensures procs k

pub check_statements-returns-in-len2-up : goal.check_statements-returns-in-len2-up
check_statements-returns-in-len2-up t c = λ procs k.
    let parts = of_all (map (stmt_form procs) c.args.stmts.now) in
    let nodes : ℕ → List ℕ = λ n. flat_map (λ s. core_level s n) (parts k).0 in
    ap first (several procs c.args.stmts.now c.first-item.result c.args.levels k c.in-len2-up.len_at_least c.first-item.is)
    ∙ ap (λ at. first (level at.from nodes c.args.levels)) (sym c.span.ensures)
    ∙ c.node.ensures nodes (subst (λ m. Finds (λ ss n. flat_map (λ s. core_level s n) ss) parts m (told c.check_each-parts.result)) c.saturating_sub.ensures (c.check_each-parts.ensures procs) k)
