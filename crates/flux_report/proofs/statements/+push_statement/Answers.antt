use Rattle.std.proofs.Common.{◌≡◌, ◌∙◌, ◌<◌, ◌++◌, ℕ, length, codes, false, All, OnOk, map, sym, subst, ap, arith}
use Rattle.flux_core.specs.Statements.{core_of, procs_of}
use Rattle.flux_core.specs.WellFormed.{CallsFit}
use Rattle.flux_core.proofs.Variants.{of_seq, of_if, of_let, of_snapshot, of_insert, of_rename, of_test, of_children, of_left, of_right, of_iter, of_call}
use Rattle.flux_grammar.specs.NormalNames.{QueryNames, CoreNames}
use Rattle.flux_query.specs.Read.{query_of}
use Rattle.flux_report.specs.CoreText.{statement_text, separated, with_commas, query_text, procedure_name}
use Rattle.flux_report.proofs.Amounts.{load, total, first_amount, other_amount, ordered_load}
use Rattle.flux_report.proofs.Listing.{holds_first, holds_behind_at}
use Rattle.flux_report.proofs.Texts.{sequence_names, sequence_calls, sequence_text, named_proc}
use Rattle.flux_report.proofs.statements.+push_statement.Goals as goal

pub push_statement-push_sequence-requires : goal.push_statement-push_sequence-requires
push_statement-push_sequence-requires t c =
    let at = c.in-Seq.field-1 in
    let e = of_seq _ c.in-Seq.statements at c.in-Seq.is in
    let same = c.as_slice.ensures in
    let P : ℕ → Type 0 = λ a. a < length c.args.names.now in
    let procs = procs_of c.args.procs.now in (
      omega (arith, c.decreases, ap load e, ap (total load core_of) same, ordered_load core_of at c.in-Seq.statements),
      (
        subst (λ l. All (CoreNames P) (map core_of l)) (sym same) (sequence_names P at _ (subst (CoreNames P) e c.requires.names)),
        (
          subst (λ l. All (CallsFit procs) (map core_of l)) (sym same) (sequence_calls procs at _ (subst (CallsFit procs) e c.requires.calls)),
          c.requires.procs,
        ),
      ),
    )

pub push_statement-returns-in-Seq : goal.push_statement-returns-in-Seq
push_statement-returns-in-Seq t c =
    let at = c.in-Seq.field-1 in
    let e = of_seq _ c.in-Seq.statements at c.in-Seq.is in
    let names = c.args.names.now in
    let procs = procs_of c.args.procs.now in
    let old = c.args.out.now.items in
    let text = ap (λ l. codes "{" ++ separated (codes ";") (map (statement_text names procs false) (map core_of l)) ++ codes "}") c.as_slice.ensures
    ∙ sym (ap (statement_text names procs false) e ∙ sequence_text names procs at (map core_of c.in-Seq.statements)) in
    subst (λ l. OnOk c.push_sequence.result (c.push_sequence.new.out.items ≡ old ++ l)) text c.push_sequence.ensures

pub push_statement-push_choice-requires : goal.push_statement-push_choice-requires
push_statement-push_choice-requires t c =
    let e = of_if _ c.in-If.condition _ _ _ _ c.in-If.field-3 c.in-If.is c.get.ensures c.get-in-If.ensures in
    let n = subst (CoreNames (λ a. a < length c.args.names.now)) e c.requires.names in
    let f = subst (CallsFit (procs_of c.args.procs.now)) e c.requires.calls in
    (omega (arith, c.decreases, ap load e), (n.0, (n.1, (f.0, (n.2, (f.1, c.requires.procs))))))

pub push_statement-push_let-requires : goal.push_statement-push_let-requires
push_statement-push_let-requires t c =
    let e = of_let _ c.in-Let.var c.in-Let.bound _ _ c.in-Let.field-3 c.in-Let.is c.get-in-Let.ensures in
    let n = subst (CoreNames (λ a. a < length c.args.names.now)) e c.requires.names in
    let f = subst (CallsFit (procs_of c.args.procs.now)) e c.requires.calls in
    (omega (arith, c.decreases, ap load e), (n.0, (n.1, (n.2, (f, c.requires.procs)))))

pub push_statement-push_snapshot-requires : goal.push_statement-push_snapshot-requires
push_statement-push_snapshot-requires t c =
    let e = of_snapshot _ c.in-Snapshot.var _ _ c.in-Snapshot.field-2 c.in-Snapshot.is c.get-in-Snapshot.ensures in
    let n = subst (CoreNames (λ a. a < length c.args.names.now)) e c.requires.names in
    let f = subst (CallsFit (procs_of c.args.procs.now)) e c.requires.calls in
    (omega (arith, c.decreases, ap load e), (n.0, (n.1, (f, c.requires.procs))))

pub push_statement-push_tested-requires : goal.push_statement-push_tested-requires
push_statement-push_tested-requires t c =
    let e = of_test _ c.in-Test.test _ _ c.in-Test.field-2 c.in-Test.is c.get-in-Test.ensures in
    let n = subst (CoreNames (λ a. a < length c.args.names.now)) e c.requires.names in
    let f = subst (CallsFit (procs_of c.args.procs.now)) e c.requires.calls in
    (omega (arith, c.decreases, ap load e), (n.0, (n.1, (f, c.requires.procs))))

pub push_statement-push_bracketed-requires : goal.push_statement-push_bracketed-requires
push_statement-push_bracketed-requires t c =
    let e = of_children _ _ _ c.in-Children.field-1 c.in-Children.is c.get-in-Children.ensures in
    let n = subst (CoreNames (λ a. a < length c.args.names.now)) e c.requires.names in
    let f = subst (CallsFit (procs_of c.args.procs.now)) e c.requires.calls in
    (omega (arith, c.decreases, ap load e), (n, (f, c.requires.procs)))

pub push_statement-push_bracketed-requires-in-Left : goal.push_statement-push_bracketed-requires-in-Left
push_statement-push_bracketed-requires-in-Left t c =
    let e = of_left _ _ _ c.in-Left.field-1 c.in-Left.is c.get-in-Left.ensures in
    let n = subst (CoreNames (λ a. a < length c.args.names.now)) e c.requires.names in
    let f = subst (CallsFit (procs_of c.args.procs.now)) e c.requires.calls in
    (omega (arith, c.decreases, ap load e), (n, (f, c.requires.procs)))

pub push_statement-push_bracketed-requires-in-Right : goal.push_statement-push_bracketed-requires-in-Right
push_statement-push_bracketed-requires-in-Right t c =
    let e = of_right _ _ _ c.in-Right.field-1 c.in-Right.is c.get-in-Right.ensures in
    let n = subst (CoreNames (λ a. a < length c.args.names.now)) e c.requires.names in
    let f = subst (CallsFit (procs_of c.args.procs.now)) e c.requires.calls in
    (omega (arith, c.decreases, ap load e), (n, (f, c.requires.procs)))

pub push_statement-push_bracketed-requires-in-Iter : goal.push_statement-push_bracketed-requires-in-Iter
push_statement-push_bracketed-requires-in-Iter t c =
    let e = of_iter _ _ _ c.in-Iter.field-1 c.in-Iter.is c.get-in-Iter.ensures in
    let n = subst (CoreNames (λ a. a < length c.args.names.now)) e c.requires.names in
    let f = subst (CallsFit (procs_of c.args.procs.now)) e c.requires.calls in
    (omega (arith, c.decreases, ap load e), (n, (f, c.requires.procs)))

pub push_statement-push_insert-requires : goal.push_statement-push_insert-requires
push_statement-push_insert-requires t c =
    subst (CoreNames (λ a. a < length c.args.names.now)) (of_insert _ c.in-Insert.query c.in-Insert.field-1 c.in-Insert.is) c.requires.names

pub push_statement-push_rename-requires : goal.push_statement-push_rename-requires
push_statement-push_rename-requires t c =
    subst (CoreNames (λ a. a < length c.args.names.now)) (of_rename _ c.in-Rename.label c.in-Rename.field-1 c.in-Rename.is) c.requires.names

pub push_statement-push_call-requires-clause-arguments : goal.push_statement-push_call-requires-clause-arguments
push_statement-push_call-requires-clause-arguments t c =
    let P : ℕ → Type 0 = λ a. a < length c.args.names.now in
    let h = subst (CoreNames P) (of_call _ c.in-Call.index c.in-Call.arguments c.in-Call.field-2 c.in-Call.is) c.requires.names in
    subst (λ l. All (QueryNames P) (map query_of l)) (sym c.as_slice-in-Call.ensures) h

pub push_statement-push_call-requires-clause-procedure : goal.push_statement-push_call-requires-clause-procedure
push_statement-push_call-requires-clause-procedure t c =
    let procs = procs_of c.args.procs.now in
    named_proc (length c.args.names.now) procs c.in-Call.index _ c.requires.procs
    (subst (CallsFit procs) (of_call _ c.in-Call.index c.in-Call.arguments c.in-Call.field-2 c.in-Call.is) c.requires.calls)

pub push_statement-returns-in-Call : goal.push_statement-returns-in-Call
push_statement-returns-in-Call t c =
    let e = of_call _ c.in-Call.index c.in-Call.arguments c.in-Call.field-2 c.in-Call.is in
    let names = c.args.names.now in
    let procs = procs_of c.args.procs.now in
    let old = c.args.out.now.items in
    let text = ap (λ l. codes "call " ++ procedure_name names procs c.in-Call.index ++ codes "(" ++ with_commas (map (query_text names false) (map query_of l)) ++ codes ")") c.as_slice-in-Call.ensures
    ∙ sym (ap (statement_text names procs false) e) in
    subst (λ l. OnOk c.push_call.result (c.push_call.new.out.items ≡ old ++ l)) text c.push_call.ensures

pub push_statements-push_statement-requires : goal.push_statements-push_statement-requires
push_statements-push_statement-requires t c =
    let split = c.in-Some.ensures.cases.0 in
    let ss = c.args.statements.now in
    let s = c.in-Some.first.now in
    let rest = c.in-Some.others.now in (
      omega (arith, c.decreases, first_amount load core_of ss s rest split),
      (
        holds_first (CoreNames (λ a. a < length c.args.names.now)) core_of ss s rest split c.requires.names,
        (
          holds_first (CallsFit (procs_of c.args.procs.now)) core_of ss s rest split c.requires.calls,
          c.requires.procs,
        ),
      ),
    )

pub push_statements-push_statement-requires-in-loop-statement : goal.push_statements-push_statement-requires-in-loop-statement
push_statements-push_statement-requires-in-loop-statement t c =
    let split = c.in-Some.ensures.cases.0 in
    let ss = c.args.statements.now in
    let s = c.in-Some.first.now in
    let rest = c.in-Some.others.now in
    let i = c.loop-statement.statement-index in
    let r = c.statement-item.result in
    let lt = c.loop-statement-test.true in (
      omega (arith, c.decreases, other_amount load core_of ss s rest i r split lt c.statement-item.is),
      (
        holds_behind_at (CoreNames (λ a. a < length c.args.names.now)) core_of ss s r rest i split lt c.statement-item.is c.requires.names,
        (
          holds_behind_at (CallsFit (procs_of c.args.procs.now)) core_of ss s r rest i split lt c.statement-item.is c.requires.calls,
          c.requires.procs,
        ),
      ),
    )
