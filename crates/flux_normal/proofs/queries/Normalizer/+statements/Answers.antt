use Rattle.std.proofs.Common.{map, rules, sym, ◌∙◌}
use Rattle.flux_core.specs.Statements.{core_of}
use Rattle.flux_grammar.specs.NormalStatements.{stmt_form}
use Rattle.flux_normal.specs.Heads.{names_in}
use Rattle.flux_normal.specs.Layers.{layer_of}
use Rattle.flux_normal.proofs.LayerLaws.{path_made}
use Rattle.flux_grammar.specs.declared.tree.Stmt.{Stmt-F, the_lemmas}
use Rattle.flux_grammar.specs.declared.tree.Stmt.TheVariants.{rolls-InsertBefore, rolls-InsertAfter, rolls-InsertFirst, rolls-InsertLast, rolls-Replace, rolls-ReplaceIn}
use Rattle.flux_normal.proofs.FormLaws.{form_made, update_fits, yes_fits, no_fits, let_fits, guarded_fits, block_fits, call_fits, one_fits}
use Rattle.flux_normal.proofs.TogetherLaws.{all_together}
use Rattle.flux_normal.proofs.queries.Normalizer.+statements.Goals as goal

pub updated-returns : goal.updated-returns
updated-returns t c =
    path_made c.args.path.now (stmt_form (names_in c.args.procs.now) c.args.inner.now) c.args.self.now.made c.layers.new.self.made c.statement.new.self.made (map layer_of c.in_ok-layers.layers) (core_of c.in_ok-core.core) c.under_layers.result c.in_ok-layers.ensures c.in_ok-core.ensures c.under_layers.ensures

pub statements-returns : goal.statements-returns
statements-returns t c =
    all_together (names_in c.args.procs.now) c.args.stmts.now c.loop-stmt.stmt-index c.args.self.now.made c.loop-stmt.self.made (map core_of c.loop-stmt.cores) (core_of c.together.result) c.loop-stmt-test.false c.loop-stmt.invariant c.together.ensures

pub statement-returns-in-InsertBefore : goal.statement-returns-in-InsertBefore
statement-returns-in-InsertBefore t c =
    form_made (names_in c.args.procs.now) (Stmt-F.InsertBefore c.in-InsertBefore.path c.in-InsertBefore.expr c.in-InsertBefore.span) c.args.stmt.now c.args.self.now.made c.inserted_before.new.self.made c.inserted_before.result (rolls-InsertBefore c.in-InsertBefore.path c.in-InsertBefore.expr c.in-InsertBefore.span ∙ sym c.in-InsertBefore.is) c.inserted_before.ensures

pub statement-returns-in-InsertAfter : goal.statement-returns-in-InsertAfter
statement-returns-in-InsertAfter t c =
    form_made (names_in c.args.procs.now) (Stmt-F.InsertAfter c.in-InsertAfter.path c.in-InsertAfter.expr c.in-InsertAfter.span) c.args.stmt.now c.args.self.now.made c.inserted_after.new.self.made c.inserted_after.result (rolls-InsertAfter c.in-InsertAfter.path c.in-InsertAfter.expr c.in-InsertAfter.span ∙ sym c.in-InsertAfter.is) c.inserted_after.ensures

pub statement-returns-in-InsertFirst : goal.statement-returns-in-InsertFirst
statement-returns-in-InsertFirst t c =
    form_made (names_in c.args.procs.now) (Stmt-F.InsertFirst c.in-InsertFirst.path c.in-InsertFirst.expr c.in-InsertFirst.span) c.args.stmt.now c.args.self.now.made c.inserted_first.new.self.made c.inserted_first.result (rolls-InsertFirst c.in-InsertFirst.path c.in-InsertFirst.expr c.in-InsertFirst.span ∙ sym c.in-InsertFirst.is) c.inserted_first.ensures

pub statement-returns-in-InsertLast : goal.statement-returns-in-InsertLast
statement-returns-in-InsertLast t c =
    form_made (names_in c.args.procs.now) (Stmt-F.InsertLast c.in-InsertLast.path c.in-InsertLast.expr c.in-InsertLast.span) c.args.stmt.now c.args.self.now.made c.inserted_last.new.self.made c.inserted_last.result (rolls-InsertLast c.in-InsertLast.path c.in-InsertLast.expr c.in-InsertLast.span ∙ sym c.in-InsertLast.is) c.inserted_last.ensures

pub statement-returns-in-Replace : goal.statement-returns-in-Replace
statement-returns-in-Replace t c =
    form_made (names_in c.args.procs.now) (Stmt-F.Replace c.in-Replace.path c.in-Replace.expr c.in-Replace.span) c.args.stmt.now c.args.self.now.made c.replaced.new.self.made c.replaced.result (rolls-Replace c.in-Replace.path c.in-Replace.expr c.in-Replace.span ∙ sym c.in-Replace.is) c.replaced.ensures

pub statement-returns-in-ReplaceIn : goal.statement-returns-in-ReplaceIn
statement-returns-in-ReplaceIn t c =
    form_made (names_in c.args.procs.now) (Stmt-F.ReplaceIn c.in-ReplaceIn.path c.in-ReplaceIn.expr c.in-ReplaceIn.span) c.args.stmt.now c.args.self.now.made c.replaced_inside.new.self.made c.replaced_inside.result (rolls-ReplaceIn c.in-ReplaceIn.path c.in-ReplaceIn.expr c.in-ReplaceIn.span ∙ sym c.in-ReplaceIn.is) c.replaced_inside.ensures

pub statement-updated-requires : goal.statement-updated-requires
statement-updated-requires t c =
    (search (rules, the_lemmas), update_fits c.args.procs.now c.args.stmt.now c.in-Update.path c.in-Update.inner c.get.result.now c.in-Update.field-2 c.in-Update.is c.get.ensures c.requires)

pub statement-bound-requires : goal.statement-bound-requires
statement-bound-requires t c =
    (search (rules, the_lemmas), let_fits c.args.procs.now c.args.stmt.now c.in-Let.name c.in-Let.bound c.in-Let.body c.get-in-Let.result.now c.in-Let.span c.in-Let.is c.get-in-Let.ensures c.requires)

pub statement-guarded-requires : goal.statement-guarded-requires
statement-guarded-requires t c =
    (search (rules, the_lemmas), guarded_fits c.args.procs.now c.args.stmt.now c.in-Guarded.inner c.get-in-Guarded.result.now c.in-Guarded.condition c.in-Guarded.span c.in-Guarded.is c.get-in-Guarded.ensures c.requires)

pub statement-statements-requires : goal.statement-statements-requires
statement-statements-requires t c =
    (search (rules, the_lemmas), block_fits c.args.procs.now c.args.stmt.now c.in-Block.stmts c.as_slice-in-Block.result.now c.in-Block.field-1 c.in-Block.is c.as_slice-in-Block.ensures c.requires)

pub statement-boxed_statement-requires : goal.statement-boxed_statement-requires
statement-boxed_statement-requires t c =
    (search (rules, the_lemmas), yes_fits c.args.procs.now c.args.stmt.now c.in-If.condition c.in-If.yes c.in-If.no c.get-in-If.result.now c.in-If.span c.in-If.is c.get-in-If.ensures c.requires)

pub statement-boxed_statement-requires-in-If : goal.statement-boxed_statement-requires-in-If
statement-boxed_statement-requires-in-If t c =
    (search (rules, the_lemmas), no_fits c.args.procs.now c.args.stmt.now c.in-If.condition c.in-If.yes c.in-If.no c.get-in-If-2.result.now c.in-If.span c.in-If.is c.get-in-If-2.ensures c.requires)

pub statements-statement-requires : goal.statements-statement-requires
statements-statement-requires t c =
    (search (rules, the_lemmas), one_fits c.args.procs.now c.args.stmts.now c.loop-stmt.stmt-index c.stmt-item.result c.loop-stmt-test.true c.stmt-item.is c.requires)

pub statement-call-requires : goal.statement-call-requires
statement-call-requires t c =
    call_fits c.args.procs.now c.args.stmt.now c.in-Call.name c.in-Call.exprs c.as_slice.result.now c.in-Call.span c.in-Call.is c.as_slice.ensures c.requires
