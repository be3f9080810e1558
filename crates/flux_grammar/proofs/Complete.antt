-- What reads so is run so: each alternative is what the machine chooses, where what comes behind it
-- can't go on.
use Rattle.std.proofs.Common.{◌≡◌, ℕ, ◌<◌, Option, Some, refl, ap, arith}
use Rattle.flux_grammar.specs.declared.lexeme.Lexeme.{Lexeme}
use Rattle.flux_grammar.specs.declared.lexeme.Piece.{Piece}
use Rattle.flux_grammar.specs.States.{State, head, Takes}
use Rattle.flux_grammar.specs.Grammar.{Part, alts, seqs, marks, tatom, labelled, label, tname, var, test, other, tested, slashes, step, spot, filtered, items, item, compared, steps, qstep, childed, prim, nexts, stmt, guard, simple, inserting, placing, deleting, replacing, typedefs, typedef, procdefs, procdef, params_on, output, Value, Reads, reads-type, reads-no-alts, reads-alts, reads-tseq, reads-no-seqs, reads-seqs, reads-tpost, reads-no-marks, reads-star, reads-plus, reads-opt, reads-group, reads-quoted-elem, reads-any, reads-string, reads-bool, reads-int, reads-named, reads-named-child, reads-alone, reads-elem, reads-no-content, reads-content, reads-word, reads-soft, reads-quoted, reads-tname, reads-tname-child, reads-var, reads-child-label, reads-test, reads-word-label, reads-quoted-label, reads-any-label, reads-every, reads-string-test, reads-bool-test, reads-int-test, reads-label-test, reads-kind-test, reads-path, reads-no-slashes, reads-slashes, reads-bound-step, reads-step, reads-dot, reads-spot, reads-no-filter, reads-filter, reads-expr, reads-no-items, reads-items, reads-for, reads-let, reads-if, reads-item, reads-uncompared, reads-same, reads-less, reads-post, reads-no-steps, reads-slash, reads-keep, reads-child-step, reads-down, reads-down-child, reads-child, reads-paren, reads-literal, reads-variable, reads-element, reads-no-within, reads-within, reads-stmts, reads-no-nexts, reads-nexts, reads-ended, reads-going-on, reads-update, reads-if-stmt, reads-let-stmt, reads-stmt, reads-unguarded, reads-guarded, reads-skip, reads-insert, reads-delete, reads-replace, reads-rename, reads-call, reads-block, reads-insert-value, reads-insert-before, reads-insert-after, reads-insert-as, reads-insert-first, reads-insert-last, reads-delete-from, reads-delete-path, reads-replace-in, reads-replace-path, reads-no-args, reads-args, reads-script, reads-no-typedefs, reads-typedefs, reads-typedef, reads-no-procdefs, reads-procdefs, reads-procdef, reads-no-params, reads-params, reads-no-params-on, reads-params-on, reads-param, reads-no-output, reads-output}
use Rattle.flux_grammar.specs.Machine.{Prog, call, body, Outcome, Runs, runs-take, runs-mark, runs-call}
use Rattle.flux_grammar.proofs.Determined.{takes_head}
use Rattle.flux_grammar.proofs.Follow.{binds, Closes, Finishes, closing, Ends, begins, before, at_head}
use Rattle.flux_grammar.proofs.Choices.{choose_no_alts, choose_no_seqs, choose_no_marks, choose_alone, choose_no_content, choose_content, choose_test, choose_label_test, choose_no_slashes, choose_step, choose_spot, choose_no_filter, choose_no_items, choose_item, choose_uncompared, choose_no_steps, choose_down, choose_down_child, choose_element, choose_no_within, choose_within, choose_no_nexts, choose_ended, choose_going_on, choose_stmt, choose_unguarded, choose_delete_path, choose_replace_path, choose_no_args, choose_args, choose_no_typedefs, choose_no_procdefs, choose_no_params, choose_params, choose_no_params_on, choose_no_output}

pub chosen : {l : Lexeme} {s s' : State} {x : Piece} (p : Part) (f : Value p → Prog) →
    Takes l s x s' → body p (head s) f ≡ body p (Some l) f
chosen p f t = ap (λ h. body p h f) (takes_head t)

pub complete : {w : Option ℕ} {p : Part} {s s' : State} {v : Value p} →
    Reads w p s s' v → Ends p (head s') → (k : Value p → Prog) (o : Outcome) →
    Runs w (k v) s' o → Runs w (call p k) s o
complete (reads-type f p1 p2) e k o run =
    runs-call f refl (complete p1 (before p2 e) _ o (complete p2 e _ o (runs-mark run)))
complete (reads-no-alts {d = d} {a = a}) e k o run =
    runs-call tt (choose_no_alts d (head a) k e) run
complete (reads-alts {d = d} p1 p2 p3) e k o run =
    runs-call tt (chosen (alts d) k p1) (runs-take p1 (complete p2 (before p3 e) _ o (complete p3 e
    _ o run)))
complete (reads-tseq p1 p2) e k o run =
    runs-call tt refl (complete p1 (before p2 e) _ o (complete p2 e _ o (runs-mark run)))
complete (reads-no-seqs {d = d} {a = a}) e k o run =
    runs-call tt (choose_no_seqs d (head a) k e) run
complete (reads-seqs {d = d} p1 p2 p3) e k o run =
    runs-call tt (chosen (seqs d) k p1) (runs-take p1 (complete p2 (before p3 e) _ o (complete p3 e
    _ o run)))
complete (reads-tpost p1 p2) e k o run =
    runs-call tt refl (complete p1 (before p2 e) _ o (complete p2 e _ o (runs-mark run)))
complete (reads-no-marks {from = from} {a = a}) e k o run =
    runs-call tt (choose_no_marks from (head a) k e) run
complete (reads-star {from = from} p1 p2) e k o run =
    runs-call tt (chosen (marks from) k p1) (runs-take p1 (complete p2 e _ o run))
complete (reads-plus {from = from} p1 p2) e k o run =
    runs-call tt (chosen (marks from) k p1) (runs-take p1 (complete p2 e _ o run))
complete (reads-opt {from = from} p1 p2) e k o run =
    runs-call tt (chosen (marks from) k p1) (runs-take p1 (complete p2 e _ o run))
complete (reads-group {d = d} p1 p2 p3) e k o run =
    runs-call tt (chosen (tatom d) k p1) (runs-take p1 (complete p2 (at_head Closes p3 tt) _ o
    (runs-take p3 run)))
complete (reads-quoted-elem {d = d} p1 p2 p3 p4) e k o run =
    runs-call tt (chosen (tatom d) k p1) (runs-take p1 (runs-take p2 (complete p3 (at_head Closes p4
    tt) _ o (runs-take p4 run))))
complete (reads-any {d = d} p1 p2 p3 p4) e k o run =
    runs-call tt (chosen (tatom d) k p1) (runs-take p1 (runs-take p2 (complete p3 (at_head Closes p4
    tt) _ o (runs-take p4 run))))
complete (reads-string {d = d} p1 p2) e k o run =
    runs-call tt (chosen (tatom d) k p1) (runs-take p1 (complete p2 e _ o run))
complete (reads-bool {d = d} p1 p2) e k o run =
    runs-call tt (chosen (tatom d) k p1) (runs-take p1 (complete p2 e _ o run))
complete (reads-int {d = d} p1 p2) e k o run =
    runs-call tt (chosen (tatom d) k p1) (runs-take p1 (complete p2 e _ o run))
complete (reads-named {d = d} p1 p2) e k o run =
    runs-call tt (chosen (tatom d) k p1) (runs-take p1 (complete p2 e _ o run))
complete (reads-named-child {d = d} p1 p2) e k o run =
    runs-call tt (chosen (tatom d) k p1) (runs-take p1 (complete p2 e _ o run))
complete (reads-alone {d = d} {n = n} {at = at} {alone = alone} {a = a}) e k o run =
    runs-call tt (choose_alone d at n alone (head a) k e) run
complete (reads-elem {d = d} {n = n} {at = at} {alone = alone} p1 p2 p3) e k o run =
    runs-call tt (chosen (labelled d at n alone) k p1) (runs-take p1 (complete p2 (at_head Closes p3
    tt) _ o (runs-take p3 run)))
complete (reads-no-content {d = d} {a = a}) e k o run =
    runs-call tt (choose_no_content d (head a) k e) run
complete (reads-content {d = d} {a = a} {b = b} p1) e k o run =
    runs-call tt (choose_content d (head a) k (begins p1)) (complete p1 (omega (
      arith,
      closing (head
          b) e,
    )) _ o run)
complete (reads-word p1) e k o run = runs-call tt (chosen label k p1) (runs-take p1 run)
complete (reads-soft p1) e k o run = runs-call tt (chosen label k p1) (runs-take p1 run)
complete (reads-quoted p1) e k o run = runs-call tt (chosen label k p1) (runs-take p1 run)
complete (reads-tname p1) e k o run = runs-call tt (chosen tname k p1) (runs-take p1 run)
complete (reads-tname-child p1) e k o run = runs-call tt (chosen tname k p1) (runs-take p1 run)
complete (reads-var p1) e k o run = runs-call tt (chosen var k p1) (runs-take p1 run)
complete (reads-child-label p1) e k o run = runs-call tt (chosen test k p1) (runs-take p1 run)
complete (reads-test {a = a} p1) e k o run =
    runs-call tt (choose_test (head a) k (begins p1)) (complete p1 e _ o run)
complete (reads-word-label p1) e k o run = runs-call tt (chosen other k p1) (runs-take p1 run)
complete (reads-quoted-label p1) e k o run = runs-call tt (chosen other k p1) (runs-take p1 run)
complete (reads-any-label p1) e k o run = runs-call tt (chosen other k p1) (runs-take p1 run)
complete (reads-every p1) e k o run = runs-call tt (chosen other k p1) (runs-take p1 run)
complete (reads-string-test p1 p2) e k o run =
    runs-call tt (chosen other k p1) (runs-take p1 (complete p2 e _ o run))
complete (reads-bool-test p1 p2) e k o run =
    runs-call tt (chosen other k p1) (runs-take p1 (complete p2 e _ o run))
complete (reads-int-test p1 p2) e k o run =
    runs-call tt (chosen other k p1) (runs-take p1 (complete p2 e _ o run))
complete (reads-label-test {n = n} {typed = typed} {a = a}) e k o run =
    runs-call tt (choose_label_test n typed (head a) k e) run
complete (reads-kind-test {n = n} {typed = typed} p1 p2) e k o run =
    runs-call tt (chosen (tested n typed) k p1) (runs-take p1 (runs-take p2 run))
complete (reads-path p1 p2) e k o run =
    runs-call tt refl (complete p1 (before p2 e) _ o (complete p2 e _ o run))
complete (reads-no-slashes {d = d} {a = a}) e k o run =
    runs-call tt (choose_no_slashes d (head a) k e) run
complete (reads-slashes {d = d} p1 p2 p3) e k o run =
    runs-call tt (chosen (slashes d) k p1) (runs-take p1 (complete p2 (before p3 e) _ o (complete p3
    e _ o run)))
complete (reads-bound-step {d = d} p1 p2 p3 p4) e k o run =
    runs-call tt (chosen (step d) k p1) (runs-take p1 (runs-take p2 (complete p3 (before p4 e) _ o
    (complete p4 e _ o (runs-mark run)))))
complete (reads-step {d = d} {a = a} p1 p2) e k o run =
    runs-call tt (choose_step d (head a) k (begins p1)) (complete p1 (before p2 e) _ o (complete p2
    e _ o (runs-mark run)))
complete (reads-dot p1) e k o run = runs-call tt (chosen spot k p1) (runs-take p1 run)
complete (reads-spot {a = a} p1) e k o run =
    runs-call tt (choose_spot (head a) k (begins p1)) (complete p1 e _ o run)
complete (reads-no-filter {d = d} {a = a}) e k o run =
    runs-call tt (choose_no_filter d (head a) k e) run
complete (reads-filter {d = d} p1 p2 p3) e k o run =
    runs-call tt (chosen (filtered d) k p1) (runs-take p1 (complete p2 (at_head (λ h. 5 < binds h)
    p3 (omega arith)) _ o (runs-take p3 run)))
complete (reads-expr p1 p2) e k o run =
    runs-call tt refl (complete p1 (before p2 e) _ o (complete p2 e _ o (runs-mark run)))
complete (reads-no-items {d = d} {a = a}) e k o run =
    runs-call tt (choose_no_items d (head a) k e) run
complete (reads-items {d = d} p1 p2 p3) e k o run =
    runs-call tt (chosen (items d) k p1) (runs-take p1 (complete p2 (before p3 e) _ o (complete p3 e
    _ o run)))
complete (reads-for {d = d} f p1 p2 p3 p4 p5 p6) e k o run =
    runs-call f (chosen (item d) k p1) (runs-take p1 (complete p2 tt _ o (runs-take p3 (complete p4
    (at_head (λ h. 5 < binds h) p5 (omega arith)) _ o (runs-take p5 (complete p6 e _ o (runs-mark
    run)))))))
complete (reads-let {d = d} f p1 p2 p3 p4 p5 p6) e k o run =
    runs-call f (chosen (item d) k p1) (runs-take p1 (complete p2 tt _ o (runs-take p3 (complete p4
    (at_head (λ h. 5 < binds h) p5 (omega arith)) _ o (runs-take p5 (complete p6 e _ o (runs-mark
    run)))))))
complete (reads-if {d = d} f p1 p2 p3 p4 p5 p6) e k o run =
    runs-call f (chosen (item d) k p1) (runs-take p1 (complete p2 (at_head (λ h. 5 < binds h) p3
    (omega arith)) _ o (runs-take p3 (complete p4 (at_head (λ h. 4 < binds h) p5 (omega arith)) _
    o (runs-take p5 (complete p6 e _ o (runs-mark run)))))))
complete (reads-item {d = d} {a = a} f p1 p2) e k o run =
    runs-call f (choose_item d (head a) k (begins p1)) (complete p1 (before p2 e) _ o (complete p2 e
    _ o run))
complete (reads-uncompared {d = d} {t = t} {a = a}) e k o run =
    runs-call tt (choose_uncompared d t (head a) k e) run
complete (reads-same {d = d} {t = t} p1 p2) e k o run =
    runs-call tt (chosen (compared d t) k p1) (runs-take p1 (complete p2 (omega arith) _ o
    (runs-mark run)))
complete (reads-less {d = d} {t = t} p1 p2) e k o run =
    runs-call tt (chosen (compared d t) k p1) (runs-take p1 (complete p2 (omega arith) _ o
    (runs-mark run)))
complete (reads-post p1 p2) e k o run =
    runs-call tt refl (complete p1 tt _ o (complete p2 e _ o (runs-mark run)))
complete (reads-no-steps {from = from} {a = a}) e k o run =
    runs-call tt (choose_no_steps from (head a) k e) run
complete (reads-slash {from = from} p1 p2 p3) e k o run =
    runs-call tt (chosen (steps from) k p1) (runs-take p1 (complete p2 (before p3 e) _ o (complete
    p3 e _ o run)))
complete (reads-keep {from = from} p1 p2 p3) e k o run =
    runs-call tt (chosen (steps from) k p1) (runs-take p1 (complete p2 (before p3 e) _ o (runs-mark
    (complete p3 e _ o run))))
complete (reads-child-step {from = from} p1 p2) e k o run =
    runs-call tt (chosen (qstep from) k p1) (runs-take p1 (complete p2 e _ o run))
complete (reads-down {from = from} {a = a} p1) e k o run =
    runs-call tt (choose_down from (head a) k (begins p1)) (complete p1 e _ o (runs-mark run))
complete (reads-down-child {from = from} {n = n} {a = a}) e k o run =
    runs-call tt (choose_down_child from n (head a) k e) (runs-mark run)
complete (reads-child {from = from} {n = n} p1 p2) e k o run =
    runs-call tt (chosen (childed from n) k p1) (runs-take p1 (runs-take p2 run))
complete (reads-paren {d = d} p1 p2 p3) e k o run =
    runs-call tt (chosen (prim d) k p1) (runs-take p1 (complete p2 (at_head Closes p3 tt) _ o
    (runs-take p3 run)))
complete (reads-literal {d = d} p1) e k o run =
    runs-call tt (chosen (prim d) k p1) (runs-take p1 run)
complete (reads-variable {d = d} p1) e k o run =
    runs-call tt (chosen (prim d) k p1) (runs-take p1 run)
complete (reads-element {d = d} {a = a} p1 p2 p3 p4) e k o run =
    runs-call tt (choose_element d (head a) k (begins p1)) (complete p1 tt _ o (runs-take p2
    (complete p3 (at_head Closes p4 tt) _ o (runs-take p4 run))))
complete (reads-no-within {d = d} {a = a}) e k o run =
    runs-call tt (choose_no_within d (head a) k e) run
complete (reads-within {d = d} {a = a} {b = b} p1) e k o run =
    runs-call tt (choose_within d (head a) k (begins p1)) (complete p1 (omega (
      arith,
      closing (head
          b) e,
    )) _ o run)
complete (reads-stmts p1 p2) e k o run =
    runs-call tt refl (complete p1 (before p2 e) _ o (complete p2 e _ o run))
complete (reads-no-nexts {d = d} {a = a}) e k o run =
    runs-call tt (choose_no_nexts d (head a) k e) run
complete (reads-nexts {d = d} p1 p2) e k o run =
    runs-call tt (chosen (nexts d) k p1) (runs-take p1 (complete p2 e _ o run))
complete (reads-ended {d = d} {a = a}) e k o run = runs-call tt (choose_ended d (head a) k e) run
complete (reads-going-on {d = d} {a = a} p1) e k o run =
    runs-call tt (choose_going_on d (head a) k (begins p1)) (complete p1 e _ o run)
complete (reads-update {d = d} f p1 p2 p3 p4) e k o run =
    runs-call f (chosen (stmt d) k p1) (runs-take p1 (complete p2 (at_head (λ h. 3 < binds h) p3
    (omega arith)) _ o (runs-take p3 (complete p4 e _ o (runs-mark run)))))
complete (reads-if-stmt {d = d} f p1 p2 p3 p4 p5 p6) e k o run =
    runs-call f (chosen (stmt d) k p1) (runs-take p1 (complete p2 (at_head (λ h. 5 < binds h) p3
    (omega arith)) _ o (runs-take p3 (complete p4 (at_head (λ h. 7 < binds h) p5 (omega arith)) _
    o (runs-take p5 (complete p6 e _ o (runs-mark run)))))))
complete (reads-let-stmt {d = d} f p1 p2 p3 p4 p5 p6) e k o run =
    runs-call f (chosen (stmt d) k p1) (runs-take p1 (complete p2 tt _ o (runs-take p3 (complete p4
    (at_head (λ h. 5 < binds h) p5 (omega arith)) _ o (runs-take p5 (complete p6 e _ o (runs-mark
    run)))))))
complete (reads-stmt {d = d} {a = a} f p1 p2) e k o run =
    runs-call f (choose_stmt d (head a) k (begins p1)) (complete p1 (before p2 e) _ o (complete p2 e
    _ o run))
complete (reads-unguarded {d = d} {s = s} {a = a}) e k o run =
    runs-call tt (choose_unguarded d s (head a) k e) run
complete (reads-guarded {d = d} {s = s} p1 p2) e k o run =
    runs-call tt (chosen (guard d s) k p1) (runs-take p1 (complete p2 (omega arith) _ o (runs-mark
    run)))
complete (reads-skip {d = d} p1) e k o run =
    runs-call tt (chosen (simple d) k p1) (runs-take p1 run)
complete (reads-insert {d = d} p1 p2) e k o run =
    runs-call tt (chosen (simple d) k p1) (runs-take p1 (complete p2 e _ o run))
complete (reads-delete {d = d} p1 p2) e k o run =
    runs-call tt (chosen (simple d) k p1) (runs-take p1 (complete p2 e _ o run))
complete (reads-replace {d = d} p1 p2) e k o run =
    runs-call tt (chosen (simple d) k p1) (runs-take p1 (complete p2 e _ o run))
complete (reads-rename {d = d} p1 p2 p3 p4) e k o run =
    runs-call tt (chosen (simple d) k p1) (runs-take p1 (complete p2 (at_head (λ h. 3 < binds h) p3
    (omega arith)) _ o (runs-take p3 (complete p4 tt _ o run))))
complete (reads-call {d = d} p1 p2 p3 p4 p5) e k o run =
    runs-call tt (chosen (simple d) k p1) (runs-take p1 (complete p2 tt _ o (runs-take p3 (complete
    p4 (at_head Closes p5 tt) _ o (runs-take p5 run)))))
complete (reads-block {d = d} p1 p2 p3) e k o run =
    runs-call tt (chosen (simple d) k p1) (runs-take p1 (complete p2 (at_head Finishes p3 tt) _ o
    (runs-take p3 run)))
complete (reads-insert-value {d = d} {from = from} p1 p2) e k o run =
    runs-call tt (chosen (inserting d from) k p1) (runs-take p1 (complete p2 (omega arith) _ o
    (runs-mark run)))
complete (reads-insert-before {d = d} {from = from} p1 p2 p3 p4) e k o run =
    runs-call tt (chosen (inserting d from) k p1) (runs-take p1 (complete p2 (at_head (λ h. 3 <
    binds h) p3 (omega arith)) _ o (runs-take p3 (complete p4 (omega arith) _ o (runs-mark
    run)))))
complete (reads-insert-after {d = d} {from = from} p1 p2 p3 p4) e k o run =
    runs-call tt (chosen (inserting d from) k p1) (runs-take p1 (complete p2 (at_head (λ h. 3 <
    binds h) p3 (omega arith)) _ o (runs-take p3 (complete p4 (omega arith) _ o (runs-mark
    run)))))
complete (reads-insert-as {d = d} {from = from} p1 p2) e k o run =
    runs-call tt (chosen (inserting d from) k p1) (runs-take p1 (complete p2 e _ o run))
complete (reads-insert-first {d = d} {from = from} p1 p2 p3 p4 p5) e k o run =
    runs-call tt (chosen (placing d from) k p1) (runs-take p1 (runs-take p2 (complete p3 (at_head (λ
    h. 3 < binds h) p4 (omega arith)) _ o (runs-take p4 (complete p5 (omega arith) _ o (runs-mark
    run))))))
complete (reads-insert-last {d = d} {from = from} p1 p2 p3 p4 p5) e k o run =
    runs-call tt (chosen (placing d from) k p1) (runs-take p1 (runs-take p2 (complete p3 (at_head (λ
    h. 3 < binds h) p4 (omega arith)) _ o (runs-take p4 (complete p5 (omega arith) _ o (runs-mark
    run))))))
complete (reads-delete-from {d = d} {from = from} p1 p2) e k o run =
    runs-call tt (chosen (deleting d from) k p1) (runs-take p1 (complete p2 (omega arith) _ o
    (runs-mark run)))
complete (reads-delete-path {d = d} {from = from} {a = a} p1) e k o run =
    runs-call tt (choose_delete_path d from (head a) k (begins p1)) (complete p1 (omega arith) _ o
    (runs-mark run))
complete (reads-replace-in {d = d} {from = from} p1 p2 p3 p4) e k o run =
    runs-call tt (chosen (replacing d from) k p1) (runs-take p1 (complete p2 (at_head (λ h. 3 <
    binds h) p3 (omega arith)) _ o (runs-take p3 (complete p4 (omega arith) _ o (runs-mark
    run)))))
complete (reads-replace-path {d = d} {from = from} {a = a} p1 p2 p3) e k o run =
    runs-call tt (choose_replace_path d from (head a) k (begins p1)) (complete p1 (at_head (λ h. 3 <
    binds h) p2 (omega arith)) _ o (runs-take p2 (complete p3 (omega arith) _ o (runs-mark run))))
complete (reads-no-args {d = d} {a = a}) e k o run =
    runs-call tt (choose_no_args d (head a) k e) run
complete (reads-args {d = d} {a = a} {c = c} p1 p2) e k o run =
    runs-call tt (choose_args d (head a) k (begins p1)) (complete p1 (before p2 (omega (
      arith,
      closing (head c) e,
    ))) _ o (complete p2 (omega (arith, closing (head c) e)) _ o run))
complete (reads-script p1 p2 p3 p4 p5 p6 p7) e k o run =
    runs-call tt refl (complete p1 (before p2 (at_head (λ h. binds h < 24) p3 (omega arith))) _ o
    (complete p2 (at_head (λ h. binds h < 24) p3 (omega arith)) _ o (runs-take p3 (complete p4
    (before p5 (at_head (λ h. binds h ≡ 15) p6 (omega arith))) _ o (complete p5 (at_head (λ h.
    binds h ≡ 15) p6 (omega arith)) _ o (runs-take p6 (complete p7 e _ o run)))))))
complete (reads-no-typedefs {a = a}) e k o run = runs-call tt (choose_no_typedefs (head a) k e) run
complete (reads-typedefs p1 p2) e k o run =
    runs-call tt (ap (λ h. body typedefs h k) (begins p1)) (complete p1 tt _ o (complete p2 e _ o
    run))
complete (reads-typedef p1 p2 p3 p4 p5) e k o run =
    runs-call tt (chosen typedef k p1) (runs-take p1 (complete p2 tt _ o (runs-take p3 (complete p4
    (at_head (λ h. 6 < binds h) p5 (omega arith)) _ o (runs-take p5 run)))))
complete (reads-no-procdefs {a = a}) e k o run = runs-call tt (choose_no_procdefs (head a) k e) run
complete (reads-procdefs p1 p2) e k o run =
    runs-call tt (ap (λ h. body procdefs h k) (begins p1)) (complete p1 tt _ o (complete p2 e _ o
    run))
complete (reads-procdef p1 p2 p3 p4 p5 p6 p7 p8 p9 p10 p11 p12) e k o run =
    runs-call tt (chosen procdef k p1) (runs-take p1 (complete p2 tt _ o (runs-take p3 (complete p4
    (at_head Closes p5 tt) _ o (runs-take p5 (runs-take p6 (complete p7 (at_head (λ h. 6 < binds
    h) p8 (omega arith)) _ o (runs-take p8 (complete p9 (at_head (λ h. 6 < binds h) p10 (omega
    arith)) _ o (runs-take p10 (complete p11 (at_head Finishes p12 tt) _ o (runs-take p12
    run))))))))))))
complete (reads-no-params {a = a}) e k o run = runs-call tt (choose_no_params (head a) k e) run
complete (reads-params {a = a} p1 p2) e k o run =
    runs-call tt (choose_params (head a) k (begins p1)) (complete p1 (before p2 e) _ o (complete p2
    e _ o run))
complete (reads-no-params-on {a = a}) e k o run =
    runs-call tt (choose_no_params_on (head a) k e) run
complete (reads-params-on p1 p2 p3) e k o run =
    runs-call tt (chosen params_on k p1) (runs-take p1 (complete p2 (before p3 e) _ o (complete p3 e
    _ o run)))
complete (reads-param p1 p2 p3) e k o run =
    runs-call tt refl (complete p1 tt _ o (runs-take p2 (complete p3 e _ o run)))
complete (reads-no-output {a = a}) e k o run = runs-call tt (choose_no_output (head a) k e) run
complete (reads-output p1 p2) e k o run =
    runs-call tt (chosen output k p1) (runs-take p1 (complete p2 (omega arith) _ o run))
