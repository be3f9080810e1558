-- Where the limit of levels is asked of fewer occurrences, what reads still reads.
use Rattle.std.proofs.Common.{ℕ, Option}
use Rattle.flux_grammar.specs.States.{State}
use Rattle.flux_grammar.specs.Grammar.{Watched, Part, Value, Reads, reads-type, reads-no-alts, reads-alts, reads-tseq, reads-no-seqs, reads-seqs, reads-tpost, reads-no-marks, reads-star, reads-plus, reads-opt, reads-group, reads-quoted-elem, reads-any, reads-string, reads-bool, reads-int, reads-named, reads-named-child, reads-alone, reads-elem, reads-no-content, reads-content, reads-word, reads-soft, reads-quoted, reads-tname, reads-tname-child, reads-var, reads-child-label, reads-test, reads-word-label, reads-quoted-label, reads-any-label, reads-every, reads-string-test, reads-bool-test, reads-int-test, reads-label-test, reads-kind-test, reads-path, reads-no-slashes, reads-slashes, reads-bound-step, reads-step, reads-dot, reads-spot, reads-no-filter, reads-filter, reads-expr, reads-no-items, reads-items, reads-for, reads-let, reads-if, reads-item, reads-uncompared, reads-same, reads-less, reads-post, reads-no-steps, reads-slash, reads-keep, reads-child-step, reads-down, reads-down-child, reads-child, reads-paren, reads-literal, reads-variable, reads-element, reads-no-within, reads-within, reads-stmts, reads-no-nexts, reads-nexts, reads-ended, reads-going-on, reads-update, reads-if-stmt, reads-let-stmt, reads-stmt, reads-unguarded, reads-guarded, reads-skip, reads-insert, reads-delete, reads-replace, reads-rename, reads-call, reads-block, reads-insert-value, reads-insert-before, reads-insert-after, reads-insert-as, reads-insert-first, reads-insert-last, reads-delete-from, reads-delete-path, reads-replace-in, reads-replace-path, reads-no-args, reads-args, reads-script, reads-no-typedefs, reads-typedefs, reads-typedef, reads-no-procdefs, reads-procdefs, reads-procdef, reads-no-params, reads-params, reads-no-params-on, reads-params-on, reads-param, reads-no-output, reads-output}

pub weaker : {w z : Option ℕ} → ((s : State) → Watched z s → Watched w s) →
    {p : Part} {s s' : State} {v : Value p} → Reads w p s s' v → Reads z p s s' v
weaker less (reads-type f p1 p2) =
    reads-type (λ watched. f (less _ watched)) (weaker less p1) (weaker less p2)
weaker less reads-no-alts = reads-no-alts
weaker less (reads-alts p1 p2 p3) = reads-alts p1 (weaker less p2) (weaker less p3)
weaker less (reads-tseq p1 p2) = reads-tseq (weaker less p1) (weaker less p2)
weaker less reads-no-seqs = reads-no-seqs
weaker less (reads-seqs p1 p2 p3) = reads-seqs p1 (weaker less p2) (weaker less p3)
weaker less (reads-tpost p1 p2) = reads-tpost (weaker less p1) (weaker less p2)
weaker less reads-no-marks = reads-no-marks
weaker less (reads-star p1 p2) = reads-star p1 (weaker less p2)
weaker less (reads-plus p1 p2) = reads-plus p1 (weaker less p2)
weaker less (reads-opt p1 p2) = reads-opt p1 (weaker less p2)
weaker less (reads-group p1 p2 p3) = reads-group p1 (weaker less p2) p3
weaker less (reads-quoted-elem p1 p2 p3 p4) = reads-quoted-elem p1 p2 (weaker less p3) p4
weaker less (reads-any p1 p2 p3 p4) = reads-any p1 p2 (weaker less p3) p4
weaker less (reads-string p1 p2) = reads-string p1 (weaker less p2)
weaker less (reads-bool p1 p2) = reads-bool p1 (weaker less p2)
weaker less (reads-int p1 p2) = reads-int p1 (weaker less p2)
weaker less (reads-named p1 p2) = reads-named p1 (weaker less p2)
weaker less (reads-named-child p1 p2) = reads-named-child p1 (weaker less p2)
weaker less reads-alone = reads-alone
weaker less (reads-elem p1 p2 p3) = reads-elem p1 (weaker less p2) p3
weaker less reads-no-content = reads-no-content
weaker less (reads-content p1) = reads-content (weaker less p1)
weaker less (reads-word p1) = reads-word p1
weaker less (reads-soft p1) = reads-soft p1
weaker less (reads-quoted p1) = reads-quoted p1
weaker less (reads-tname p1) = reads-tname p1
weaker less (reads-tname-child p1) = reads-tname-child p1
weaker less (reads-var p1) = reads-var p1
weaker less (reads-child-label p1) = reads-child-label p1
weaker less (reads-test p1) = reads-test (weaker less p1)
weaker less (reads-word-label p1) = reads-word-label p1
weaker less (reads-quoted-label p1) = reads-quoted-label p1
weaker less (reads-any-label p1) = reads-any-label p1
weaker less (reads-every p1) = reads-every p1
weaker less (reads-string-test p1 p2) = reads-string-test p1 (weaker less p2)
weaker less (reads-bool-test p1 p2) = reads-bool-test p1 (weaker less p2)
weaker less (reads-int-test p1 p2) = reads-int-test p1 (weaker less p2)
weaker less reads-label-test = reads-label-test
weaker less (reads-kind-test p1 p2) = reads-kind-test p1 p2
weaker less (reads-path p1 p2) = reads-path (weaker less p1) (weaker less p2)
weaker less reads-no-slashes = reads-no-slashes
weaker less (reads-slashes p1 p2 p3) = reads-slashes p1 (weaker less p2) (weaker less p3)
weaker less (reads-bound-step p1 p2 p3 p4) =
    reads-bound-step p1 p2 (weaker less p3) (weaker less p4)
weaker less (reads-step p1 p2) = reads-step (weaker less p1) (weaker less p2)
weaker less (reads-dot p1) = reads-dot p1
weaker less (reads-spot p1) = reads-spot (weaker less p1)
weaker less reads-no-filter = reads-no-filter
weaker less (reads-filter p1 p2 p3) = reads-filter p1 (weaker less p2) p3
weaker less (reads-expr p1 p2) = reads-expr (weaker less p1) (weaker less p2)
weaker less reads-no-items = reads-no-items
weaker less (reads-items p1 p2 p3) = reads-items p1 (weaker less p2) (weaker less p3)
weaker less (reads-for f p1 p2 p3 p4 p5 p6) =
    reads-for (λ watched. f (less _ watched)) p1 (weaker less p2) p3 (weaker less p4) p5 (weaker
    less p6)
weaker less (reads-let f p1 p2 p3 p4 p5 p6) =
    reads-let (λ watched. f (less _ watched)) p1 (weaker less p2) p3 (weaker less p4) p5 (weaker
    less p6)
weaker less (reads-if f p1 p2 p3 p4 p5 p6) =
    reads-if (λ watched. f (less _ watched)) p1 (weaker less p2) p3 (weaker less p4) p5 (weaker less
    p6)
weaker less (reads-item f p1 p2) =
    reads-item (λ watched. f (less _ watched)) (weaker less p1) (weaker less p2)
weaker less reads-uncompared = reads-uncompared
weaker less (reads-same p1 p2) = reads-same p1 (weaker less p2)
weaker less (reads-less p1 p2) = reads-less p1 (weaker less p2)
weaker less (reads-post p1 p2) = reads-post (weaker less p1) (weaker less p2)
weaker less reads-no-steps = reads-no-steps
weaker less (reads-slash p1 p2 p3) = reads-slash p1 (weaker less p2) (weaker less p3)
weaker less (reads-keep p1 p2 p3) = reads-keep p1 (weaker less p2) (weaker less p3)
weaker less (reads-child-step p1 p2) = reads-child-step p1 (weaker less p2)
weaker less (reads-down p1) = reads-down (weaker less p1)
weaker less reads-down-child = reads-down-child
weaker less (reads-child p1 p2) = reads-child p1 p2
weaker less (reads-paren p1 p2 p3) = reads-paren p1 (weaker less p2) p3
weaker less (reads-literal p1) = reads-literal p1
weaker less (reads-variable p1) = reads-variable p1
weaker less (reads-element p1 p2 p3 p4) = reads-element (weaker less p1) p2 (weaker less p3) p4
weaker less reads-no-within = reads-no-within
weaker less (reads-within p1) = reads-within (weaker less p1)
weaker less (reads-stmts p1 p2) = reads-stmts (weaker less p1) (weaker less p2)
weaker less reads-no-nexts = reads-no-nexts
weaker less (reads-nexts p1 p2) = reads-nexts p1 (weaker less p2)
weaker less reads-ended = reads-ended
weaker less (reads-going-on p1) = reads-going-on (weaker less p1)
weaker less (reads-update f p1 p2 p3 p4) =
    reads-update (λ watched. f (less _ watched)) p1 (weaker less p2) p3 (weaker less p4)
weaker less (reads-if-stmt f p1 p2 p3 p4 p5 p6) =
    reads-if-stmt (λ watched. f (less _ watched)) p1 (weaker less p2) p3 (weaker less p4) p5 (weaker
    less p6)
weaker less (reads-let-stmt f p1 p2 p3 p4 p5 p6) =
    reads-let-stmt (λ watched. f (less _ watched)) p1 (weaker less p2) p3 (weaker less p4) p5
    (weaker less p6)
weaker less (reads-stmt f p1 p2) =
    reads-stmt (λ watched. f (less _ watched)) (weaker less p1) (weaker less p2)
weaker less reads-unguarded = reads-unguarded
weaker less (reads-guarded p1 p2) = reads-guarded p1 (weaker less p2)
weaker less (reads-skip p1) = reads-skip p1
weaker less (reads-insert p1 p2) = reads-insert p1 (weaker less p2)
weaker less (reads-delete p1 p2) = reads-delete p1 (weaker less p2)
weaker less (reads-replace p1 p2) = reads-replace p1 (weaker less p2)
weaker less (reads-rename p1 p2 p3 p4) = reads-rename p1 (weaker less p2) p3 (weaker less p4)
weaker less (reads-call p1 p2 p3 p4 p5) = reads-call p1 (weaker less p2) p3 (weaker less p4) p5
weaker less (reads-block p1 p2 p3) = reads-block p1 (weaker less p2) p3
weaker less (reads-insert-value p1 p2) = reads-insert-value p1 (weaker less p2)
weaker less (reads-insert-before p1 p2 p3 p4) =
    reads-insert-before p1 (weaker less p2) p3 (weaker less p4)
weaker less (reads-insert-after p1 p2 p3 p4) =
    reads-insert-after p1 (weaker less p2) p3 (weaker less p4)
weaker less (reads-insert-as p1 p2) = reads-insert-as p1 (weaker less p2)
weaker less (reads-insert-first p1 p2 p3 p4 p5) =
    reads-insert-first p1 p2 (weaker less p3) p4 (weaker less p5)
weaker less (reads-insert-last p1 p2 p3 p4 p5) =
    reads-insert-last p1 p2 (weaker less p3) p4 (weaker less p5)
weaker less (reads-delete-from p1 p2) = reads-delete-from p1 (weaker less p2)
weaker less (reads-delete-path p1) = reads-delete-path (weaker less p1)
weaker less (reads-replace-in p1 p2 p3 p4) =
    reads-replace-in p1 (weaker less p2) p3 (weaker less p4)
weaker less (reads-replace-path p1 p2 p3) = reads-replace-path (weaker less p1) p2 (weaker less p3)
weaker less reads-no-args = reads-no-args
weaker less (reads-args p1 p2) = reads-args (weaker less p1) (weaker less p2)
weaker less (reads-script p1 p2 p3 p4 p5 p6 p7) =
    reads-script (weaker less p1) (weaker less p2) p3 (weaker less p4) (weaker less p5) p6 (weaker
    less p7)
weaker less reads-no-typedefs = reads-no-typedefs
weaker less (reads-typedefs p1 p2) = reads-typedefs (weaker less p1) (weaker less p2)
weaker less (reads-typedef p1 p2 p3 p4 p5) =
    reads-typedef p1 (weaker less p2) p3 (weaker less p4) p5
weaker less reads-no-procdefs = reads-no-procdefs
weaker less (reads-procdefs p1 p2) = reads-procdefs (weaker less p1) (weaker less p2)
weaker less (reads-procdef p1 p2 p3 p4 p5 p6 p7 p8 p9 p10 p11 p12) =
    reads-procdef p1 (weaker less p2) p3 (weaker less p4) p5 p6 (weaker less p7) p8 (weaker less p9)
    p10 (weaker less p11) p12
weaker less reads-no-params = reads-no-params
weaker less (reads-params p1 p2) = reads-params (weaker less p1) (weaker less p2)
weaker less reads-no-params-on = reads-no-params-on
weaker less (reads-params-on p1 p2 p3) = reads-params-on p1 (weaker less p2) (weaker less p3)
weaker less (reads-param p1 p2 p3) = reads-param (weaker less p1) p2 (weaker less p3)
weaker less reads-no-output = reads-no-output
weaker less (reads-output p1 p2) = reads-output p1 (weaker less p2)
