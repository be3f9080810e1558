-- What a fault says of the pieces before it, and what an answer says of those it took.
use Rattle.std.proofs.Common.{◌≡◌, ℕ, List, [], ◌∷◌, ◌++◌, length, Option, Some, None, refl, sym, ap, subst, ◌∙◌, arith}
use Rattle.flux_grammar.specs.declared.lexeme.Keyword.TheVariants as key
use Rattle.flux_grammar.specs.declared.lexeme.Lexeme.{Lexeme}
use Rattle.flux_grammar.specs.declared.lexeme.Lexeme.TheVariants.{Reserved, Sign, Word, Soft, Quoted, Var, Literal}
use Rattle.flux_grammar.specs.declared.lexeme.Piece.{Piece}
use Rattle.flux_grammar.specs.declared.lexeme.Sign.TheVariants as sign
use Rattle.flux_grammar.specs.declared.lexeme.Soft.TheVariants as soft
use Rattle.flux_grammar.specs.States.{State, state, end, left, head, Takes, takes}
use Rattle.flux_grammar.specs.Grammar.{Part, type, alts, tseq, seqs, tpost, marks, tatom, labelled, content, label, tname, var, test, other, tested, path, slashes, step, spot, filtered, expr, items, item, compared, post, steps, qstep, childed, prim, within, stmts, nexts, ending, stmt, guard, simple, inserting, placing, deleting, replacing, args, typedefs, typedef, procdefs, procdef, params, params_on, param, output, script, Value, reads-type, reads-no-alts, reads-alts, reads-tseq, reads-no-seqs, reads-seqs, reads-tpost, reads-no-marks, reads-star, reads-plus, reads-opt, reads-group, reads-quoted-elem, reads-any, reads-string, reads-bool, reads-int, reads-named, reads-named-child, reads-alone, reads-elem, reads-no-content, reads-content, reads-word, reads-soft, reads-quoted, reads-tname, reads-tname-child, reads-var, reads-child-label, reads-test, reads-word-label, reads-quoted-label, reads-any-label, reads-every, reads-string-test, reads-bool-test, reads-int-test, reads-label-test, reads-kind-test, reads-path, reads-no-slashes, reads-slashes, reads-bound-step, reads-step, reads-dot, reads-spot, reads-no-filter, reads-filter, reads-expr, reads-no-items, reads-items, reads-for, reads-let, reads-if, reads-item, reads-uncompared, reads-same, reads-less, reads-post, reads-no-steps, reads-slash, reads-keep, reads-child-step, reads-down, reads-down-child, reads-child, reads-paren, reads-literal, reads-variable, reads-element, reads-no-within, reads-within, reads-stmts, reads-no-nexts, reads-nexts, reads-ended, reads-going-on, reads-update, reads-if-stmt, reads-let-stmt, reads-stmt, reads-unguarded, reads-guarded, reads-skip, reads-insert, reads-delete, reads-replace, reads-rename, reads-call, reads-block, reads-insert-value, reads-insert-before, reads-insert-after, reads-insert-as, reads-insert-first, reads-insert-last, reads-delete-from, reads-delete-path, reads-replace-in, reads-replace-path, reads-no-args, reads-args, reads-script, reads-no-typedefs, reads-typedefs, reads-typedef, reads-no-procdefs, reads-procdefs, reads-procdef, reads-no-params, reads-params, reads-no-params-on, reads-params-on, reads-param, reads-no-output, reads-output}
use Rattle.flux_grammar.specs.Machine.{Prog, done, take, mark, call, body, FreeFor, Outcome, accepts, faults, Lacks, Runs, runs-done, runs-over, runs-take, runs-unfit, runs-mark, runs-call, runs-none, runs-deep}
use Rattle.flux_grammar.proofs.Finishing.{Means, finish}

-- ---- each choice of the machine is an alternative of the grammar

abbrev Backs : Option ℕ → (p : Part) → (Value p → Prog) → State → Outcome → Option Prog → Type 0
Backs w p k here out None = Unit {0}
Backs w p k here out (Some q) =
    FreeFor w p here → Means w q here out → Means w (call p k) here out

backs : (w : Option ℕ) (p : Part) (h : Option Lexeme) (k : Value p → Prog) (here : State)
    (out : Outcome) → Backs w p k here out (body p h k)
backs w (type d) h k here out =
    λ free (t, s1, p1, (ts, s2, p2, rest)). (_, s2, reads-type free p1 p2, rest)
backs w (alts d) (Some (Sign sign.Bar)) k here out =
    λ free (x, s1, p1, (t, s2, p2, (ts, s3, p3, rest))). (_, s3, reads-alts p1 p2 p3, rest)
backs w (alts d) _ k here out = λ free rest. (_, here, reads-no-alts, rest)
backs w (tseq d) h k here out =
    λ free (t, s1, p1, (ts, s2, p2, rest)). (_, s2, reads-tseq p1 p2, rest)
backs w (seqs d) (Some (Sign sign.Comma)) k here out =
    λ free (x, s1, p1, (t, s2, p2, (ts, s3, p3, rest))). (_, s3, reads-seqs p1 p2 p3, rest)
backs w (seqs d) _ k here out = λ free rest. (_, here, reads-no-seqs, rest)
backs w (tpost d) h k here out =
    λ free (t, s1, p1, (ms, s2, p2, rest)). (_, s2, reads-tpost p1 p2, rest)
backs w (marks from) (Some (Sign sign.Star)) k here out =
    λ free (x, s1, p1, (ms, s2, p2, rest)). (_, s2, reads-star p1 p2, rest)
backs w (marks from) (Some (Sign sign.Plus)) k here out =
    λ free (x, s1, p1, (ms, s2, p2, rest)). (_, s2, reads-plus p1 p2, rest)
backs w (marks from) (Some (Sign sign.Question)) k here out =
    λ free (x, s1, p1, (ms, s2, p2, rest)). (_, s2, reads-opt p1 p2, rest)
backs w (marks from) _ k here out = λ free rest. (_, here, reads-no-marks, rest)
backs w (tatom d) (Some (Sign sign.Open)) k here out =
    λ free (x, s1, p1, (o, s2, p2, (y, s3, p3, rest))). (_, s3, reads-group p1 p2 p3, rest)
backs w (tatom d) (Some (Quoted n)) k here out =
    λ free (x, s1, p1, (y, s2, p2, (o, s3, p3, (z, s4, p4, rest)))). (
      _,
      s4,
      reads-quoted-elem p1 p2
          p3 p4,
      rest,
    )
backs w (tatom d) (Some (Soft soft.AnyWord n)) k here out =
    λ free (x, s1, p1, (y, s2, p2, (o, s3, p3, (z, s4, p4, rest)))). (
      _,
      s4,
      reads-any p1 p2 p3 p4,
      rest,
    )
backs w (tatom d) (Some (Soft soft.StringWord n)) k here out =
    λ free (x, s1, p1, (t, s2, p2, rest)). (_, s2, reads-string p1 p2, rest)
backs w (tatom d) (Some (Soft soft.BoolWord n)) k here out =
    λ free (x, s1, p1, (t, s2, p2, rest)). (_, s2, reads-bool p1 p2, rest)
backs w (tatom d) (Some (Soft soft.IntWord n)) k here out =
    λ free (x, s1, p1, (t, s2, p2, rest)). (_, s2, reads-int p1 p2, rest)
backs w (tatom d) (Some (Word n)) k here out =
    λ free (x, s1, p1, (t, s2, p2, rest)). (_, s2, reads-named p1 p2, rest)
backs w (tatom d) (Some (Soft soft.ChildWord n)) k here out =
    λ free (x, s1, p1, (t, s2, p2, rest)). (_, s2, reads-named-child p1 p2, rest)
backs w (tatom d) _ k here out = tt
backs w (labelled d at n alone) (Some (Sign sign.OpenSquare)) k here out =
    λ free (y, s1, p1, (o, s2, p2, (z, s3, p3, rest))). (_, s3, reads-elem p1 p2 p3, rest)
backs w (labelled d at n alone) _ k here out = λ free rest. (_, here, reads-alone, rest)
backs w (content d) (Some (Sign sign.Close)) k here out =
    λ free rest. (_, here, reads-no-content, rest)
backs w (content d) (Some (Sign sign.CloseSquare)) k here out =
    λ free rest. (_, here, reads-no-content, rest)
backs w (content d) _ k here out = λ free (t, s1, p1, rest). (_, s1, reads-content p1, rest)
backs w label (Some (Word n)) k here out = λ free (x, s1, p1, rest). (_, s1, reads-word p1, rest)
backs w label (Some (Soft so n)) k here out = λ free (x, s1, p1, rest). (_, s1, reads-soft p1, rest)
backs w label (Some (Quoted n)) k here out =
    λ free (x, s1, p1, rest). (_, s1, reads-quoted p1, rest)
backs w label _ k here out = tt
backs w tname (Some (Word n)) k here out = λ free (x, s1, p1, rest). (_, s1, reads-tname p1, rest)
backs w tname (Some (Soft soft.ChildWord n)) k here out =
    λ free (x, s1, p1, rest). (_, s1, reads-tname-child p1, rest)
backs w tname _ k here out = tt
backs w var (Some (Var n)) k here out = λ free (x, s1, p1, rest). (_, s1, reads-var p1, rest)
backs w var _ k here out = tt
backs w test (Some (Soft soft.ChildWord n)) k here out =
    λ free (x, s1, p1, rest). (_, s1, reads-child-label p1, rest)
backs w test _ k here out = λ free (φ, s1, p1, rest). (_, s1, reads-test p1, rest)
backs w other (Some (Word n)) k here out =
    λ free (x, s1, p1, rest). (_, s1, reads-word-label p1, rest)
backs w other (Some (Quoted n)) k here out =
    λ free (x, s1, p1, rest). (_, s1, reads-quoted-label p1, rest)
backs w other (Some (Soft soft.AnyWord n)) k here out =
    λ free (x, s1, p1, rest). (_, s1, reads-any-label p1, rest)
backs w other (Some (Sign sign.Star)) k here out =
    λ free (x, s1, p1, rest). (_, s1, reads-every p1, rest)
backs w other (Some (Soft soft.StringWord n)) k here out =
    λ free (x, s1, p1, (ψ, s2, p2, rest)). (_, s2, reads-string-test p1 p2, rest)
backs w other (Some (Soft soft.BoolWord n)) k here out =
    λ free (x, s1, p1, (ψ, s2, p2, rest)). (_, s2, reads-bool-test p1 p2, rest)
backs w other (Some (Soft soft.IntWord n)) k here out =
    λ free (x, s1, p1, (ψ, s2, p2, rest)). (_, s2, reads-int-test p1 p2, rest)
backs w other _ k here out = tt
backs w (tested n typed) (Some (Sign sign.Open)) k here out =
    λ free (x, s1, p1, (y, s2, p2, rest)). (_, s2, reads-kind-test p1 p2, rest)
backs w (tested n typed) _ k here out = λ free rest. (_, here, reads-label-test, rest)
backs w (path d) h k here out =
    λ free (sp, s1, p1, (ps, s2, p2, rest)). (_, s2, reads-path p1 p2, rest)
backs w (slashes d) (Some (Sign sign.Slash)) k here out =
    λ free (x, s1, p1, (sp, s2, p2, (ps, s3, p3, rest))). (_, s3, reads-slashes p1 p2 p3, rest)
backs w (slashes d) _ k here out = λ free rest. (_, here, reads-no-slashes, rest)
backs w (step d) (Some (Var n)) k here out =
    λ free (x, s1, p1, (y, s2, p2, (χ, s3, p3, (oq, s4, p4, rest)))). (
      _,
      s4,
      reads-bound-step p1 p2
          p3 p4,
      rest,
    )
backs w (step d) _ k here out =
    λ free (χ, s1, p1, (oq, s2, p2, rest)). (_, s2, reads-step p1 p2, rest)
backs w spot (Some (Sign sign.Dot)) k here out =
    λ free (x, s1, p1, rest). (_, s1, reads-dot p1, rest)
backs w spot _ k here out = λ free (φ, s1, p1, rest). (_, s1, reads-spot p1, rest)
backs w (filtered d) (Some (Sign sign.OpenSquare)) k here out =
    λ free (x, s1, p1, (q, s2, p2, (y, s3, p3, rest))). (_, s3, reads-filter p1 p2 p3, rest)
backs w (filtered d) _ k here out = λ free rest. (_, here, reads-no-filter, rest)
backs w (expr d) h k here out =
    λ free (q, s1, p1, (qs, s2, p2, rest)). (_, s2, reads-expr p1 p2, rest)
backs w (items d) (Some (Sign sign.Comma)) k here out =
    λ free (x, s1, p1, (q, s2, p2, (qs, s3, p3, rest))). (_, s3, reads-items p1 p2 p3, rest)
backs w (items d) _ k here out = λ free rest. (_, here, reads-no-items, rest)
backs w (item d) (Some (Reserved key.QueryFor)) k here out =
    λ free (x, s1, p1, (n, s2, p2, (y, s3, p3, (q, s4, p4, (z, s5, p5, (v, s6, p6, rest)))))). (
      _,
      s6,
      reads-for free p1 p2 p3 p4 p5 p6,
      rest,
    )
backs w (item d) (Some (Reserved key.QueryLet)) k here out =
    λ free (x, s1, p1, (n, s2, p2, (y, s3, p3, (q, s4, p4, (z, s5, p5, (v, s6, p6, rest)))))). (
      _,
      s6,
      reads-let free p1 p2 p3 p4 p5 p6,
      rest,
    )
backs w (item d) (Some (Reserved key.QueryIf)) k here out =
    λ free (x, s1, p1, (q, s2, p2, (y, s3, p3, (v, s4, p4, (z, s5, p5, (u, s6, p6, rest)))))). (
      _,
      s6,
      reads-if free p1 p2 p3 p4 p5 p6,
      rest,
    )
backs w (item d) _ k here out =
    λ free (q, s1, p1, (v, s2, p2, rest)). (_, s2, reads-item free p1 p2, rest)
backs w (compared d t) (Some (Sign sign.Equal)) k here out =
    λ free (x, s1, p1, (v, s2, p2, rest)). (_, s2, reads-same p1 p2, rest)
backs w (compared d t) (Some (Sign sign.Less)) k here out =
    λ free (x, s1, p1, (v, s2, p2, rest)). (_, s2, reads-less p1 p2, rest)
backs w (compared d t) _ k here out = λ free rest. (_, here, reads-uncompared, rest)
backs w (post d) h k here out =
    λ free (q, s1, p1, (ss, s2, p2, rest)). (_, s2, reads-post p1 p2, rest)
backs w (steps from) (Some (Sign sign.Slash)) k here out =
    λ free (x, s1, p1, (s, s2, p2, (ss, s3, p3, rest))). (_, s3, reads-slash p1 p2 p3, rest)
backs w (steps from) (Some (Sign sign.DoubleColon)) k here out =
    λ free (x, s1, p1, (φ, s2, p2, (ss, s3, p3, rest))). (_, s3, reads-keep p1 p2 p3, rest)
backs w (steps from) _ k here out = λ free rest. (_, here, reads-no-steps, rest)
backs w (qstep from) (Some (Soft soft.ChildWord n)) k here out =
    λ free (x, s1, p1, (s, s2, p2, rest)). (_, s2, reads-child-step p1 p2, rest)
backs w (qstep from) _ k here out = λ free (φ, s1, p1, rest). (_, s1, reads-down p1, rest)
backs w (childed from n) (Some (Sign sign.Open)) k here out =
    λ free (x, s1, p1, (y, s2, p2, rest)). (_, s2, reads-child p1 p2, rest)
backs w (childed from n) _ k here out = λ free rest. (_, here, reads-down-child, rest)
backs w (prim d) (Some (Sign sign.Open)) k here out =
    λ free (x, s1, p1, (oq, s2, p2, (y, s3, p3, rest))). (_, s3, reads-paren p1 p2 p3, rest)
backs w (prim d) (Some (Literal atom)) k here out =
    λ free (x, s1, p1, rest). (_, s1, reads-literal p1, rest)
backs w (prim d) (Some (Var n)) k here out =
    λ free (x, s1, p1, rest). (_, s1, reads-variable p1, rest)
backs w (prim d) _ k here out =
    λ free (n, s1, p1, (y, s2, p2, (oq, s3, p3, (z, s4, p4, rest)))). (
      _,
      s4,
      reads-element p1 p2 p3
          p4,
      rest,
    )
backs w (within d) (Some (Sign sign.Close)) k here out =
    λ free rest. (_, here, reads-no-within, rest)
backs w (within d) (Some (Sign sign.CloseSquare)) k here out =
    λ free rest. (_, here, reads-no-within, rest)
backs w (within d) _ k here out = λ free (q, s1, p1, rest). (_, s1, reads-within p1, rest)
backs w (stmts d) h k here out =
    λ free (s, s1, p1, (ss, s2, p2, rest)). (_, s2, reads-stmts p1 p2, rest)
backs w (nexts d) (Some (Sign sign.Semicolon)) k here out =
    λ free (x, s1, p1, (ss, s2, p2, rest)). (_, s2, reads-nexts p1 p2, rest)
backs w (nexts d) _ k here out = λ free rest. (_, here, reads-no-nexts, rest)
backs w (ending d) None k here out = λ free rest. (_, here, reads-ended, rest)
backs w (ending d) (Some (Sign sign.CloseBrace)) k here out =
    λ free rest. (_, here, reads-ended, rest)
backs w (ending d) _ k here out = λ free (ss, s1, p1, rest). (_, s1, reads-going-on p1, rest)
backs w (stmt d) (Some (Reserved key.Update)) k here out =
    λ free (x, s1, p1, (p, s2, p2, (y, s3, p3, (s, s4, p4, rest)))). (
      _,
      s4,
      reads-update free p1 p2
          p3 p4,
      rest,
    )
backs w (stmt d) (Some (Reserved key.If)) k here out =
    λ free (x, s1, p1, (q, s2, p2, (y, s3, p3, (s, s4, p4, (z, s5, p5, (r, s6, p6, rest)))))). (
      _,
      s6,
      reads-if-stmt free p1 p2 p3 p4 p5 p6,
      rest,
    )
backs w (stmt d) (Some (Reserved key.Let)) k here out =
    λ free (x, s1, p1, (n, s2, p2, (y, s3, p3, (q, s4, p4, (z, s5, p5, (s, s6, p6, rest)))))). (
      _,
      s6,
      reads-let-stmt free p1 p2 p3 p4 p5 p6,
      rest,
    )
backs w (stmt d) _ k here out =
    λ free (s, s1, p1, (r, s2, p2, rest)). (_, s2, reads-stmt free p1 p2, rest)
backs w (guard d s) (Some (Reserved key.Where)) k here out =
    λ free (x, s1, p1, (q, s2, p2, rest)). (_, s2, reads-guarded p1 p2, rest)
backs w (guard d s) _ k here out = λ free rest. (_, here, reads-unguarded, rest)
backs w (simple d) (Some (Reserved key.Skip)) k here out =
    λ free (x, s1, p1, rest). (_, s1, reads-skip p1, rest)
backs w (simple d) (Some (Reserved key.Insert)) k here out =
    λ free (x, s1, p1, (s, s2, p2, rest)). (_, s2, reads-insert p1 p2, rest)
backs w (simple d) (Some (Reserved key.Delete)) k here out =
    λ free (x, s1, p1, (s, s2, p2, rest)). (_, s2, reads-delete p1 p2, rest)
backs w (simple d) (Some (Reserved key.Replace)) k here out =
    λ free (x, s1, p1, (s, s2, p2, rest)). (_, s2, reads-replace p1 p2, rest)
backs w (simple d) (Some (Reserved key.Rename)) k here out =
    λ free (x, s1, p1, (p, s2, p2, (y, s3, p3, (n, s4, p4, rest)))). (
      _,
      s4,
      reads-rename p1 p2 p3
          p4,
      rest,
    )
backs w (simple d) (Some (Reserved key.Call)) k here out =
    λ free (x, s1, p1, (n, s2, p2, (y, s3, p3, (qs, s4, p4, (z, s5, p5, rest))))). (
      _,
      s5,
      reads-call p1 p2 p3 p4 p5,
      rest,
    )
backs w (simple d) (Some (Sign sign.OpenBrace)) k here out =
    λ free (x, s1, p1, (ss, s2, p2, (y, s3, p3, rest))). (_, s3, reads-block p1 p2 p3, rest)
backs w (simple d) _ k here out = tt
backs w (inserting d from) (Some (Reserved key.Value)) k here out =
    λ free (x, s1, p1, (q, s2, p2, rest)). (_, s2, reads-insert-value p1 p2, rest)
backs w (inserting d from) (Some (Reserved key.Before)) k here out =
    λ free (x, s1, p1, (p, s2, p2, (y, s3, p3, (q, s4, p4, rest)))). (
      _,
      s4,
      reads-insert-before p1
          p2 p3 p4,
      rest,
    )
backs w (inserting d from) (Some (Reserved key.After)) k here out =
    λ free (x, s1, p1, (p, s2, p2, (y, s3, p3, (q, s4, p4, rest)))). (
      _,
      s4,
      reads-insert-after p1
          p2 p3 p4,
      rest,
    )
backs w (inserting d from) (Some (Reserved key.As)) k here out =
    λ free (x, s1, p1, (s, s2, p2, rest)). (_, s2, reads-insert-as p1 p2, rest)
backs w (inserting d from) _ k here out = tt
backs w (placing d from) (Some (Reserved key.First)) k here out =
    λ free (x, s1, p1, (y, s2, p2, (p, s3, p3, (z, s4, p4, (q, s5, p5, rest))))). (
      _,
      s5,
      reads-insert-first p1 p2 p3 p4 p5,
      rest,
    )
backs w (placing d from) (Some (Reserved key.Last)) k here out =
    λ free (x, s1, p1, (y, s2, p2, (p, s3, p3, (z, s4, p4, (q, s5, p5, rest))))). (
      _,
      s5,
      reads-insert-last p1 p2 p3 p4 p5,
      rest,
    )
backs w (placing d from) _ k here out = tt
backs w (deleting d from) (Some (Reserved key.From)) k here out =
    λ free (x, s1, p1, (p, s2, p2, rest)). (_, s2, reads-delete-from p1 p2, rest)
backs w (deleting d from) _ k here out =
    λ free (p, s1, p1, rest). (_, s1, reads-delete-path p1, rest)
backs w (replacing d from) (Some (Reserved key.In)) k here out =
    λ free (x, s1, p1, (p, s2, p2, (y, s3, p3, (q, s4, p4, rest)))). (
      _,
      s4,
      reads-replace-in p1 p2
          p3 p4,
      rest,
    )
backs w (replacing d from) _ k here out =
    λ free (p, s1, p1, (y, s2, p2, (q, s3, p3, rest))). (_, s3, reads-replace-path p1 p2 p3, rest)
backs w (args d) (Some (Sign sign.Close)) k here out = λ free rest. (_, here, reads-no-args, rest)
backs w (args d) (Some (Sign sign.CloseSquare)) k here out =
    λ free rest. (_, here, reads-no-args, rest)
backs w (args d) _ k here out =
    λ free (q, s1, p1, (qs, s2, p2, rest)). (_, s2, reads-args p1 p2, rest)
backs w typedefs (Some (Reserved key.Type)) k here out =
    λ free (td, s1, p1, (tds, s2, p2, rest)). (_, s2, reads-typedefs p1 p2, rest)
backs w typedefs _ k here out = λ free rest. (_, here, reads-no-typedefs, rest)
backs w typedef (Some (Reserved key.Type)) k here out =
    λ free (x, s1, p1, (n, s2, p2, (y, s3, p3, (t, s4, p4, (z, s5, p5, rest))))). (
      _,
      s5,
      reads-typedef p1 p2 p3 p4 p5,
      rest,
    )
backs w typedef _ k here out = tt
backs w procdefs (Some (Reserved key.Procedure)) k here out =
    λ free (pd, s1, p1, (pds, s2, p2, rest)). (_, s2, reads-procdefs p1 p2, rest)
backs w procdefs _ k here out = λ free rest. (_, here, reads-no-procdefs, rest)
backs w procdef (Some (Reserved key.Procedure)) k here out =
    λ free (
      x,
      s1,
      p1,
      (
        n,
        s2,
        p2,
        (
          y,
          s3,
          p3,
          (
            pms,
            s4,
            p4,
            (
              z,
              s5,
              p5,
              (
                x',
                s6,
                p6,
                (
                  t,
                  s7,
                  p7,
                  (y', s8, p8, (u, s9, p9, (z', s10, p10, (ss, s11, p11, (z'', s12, p12, rest))))),
                ),
              ),
            ),
          ),
        ),
      ),
    ). (
      _,
      s12,
      reads-procdef p1 p2 p3 p4 p5 p6 p7 p8 p9 p10 p11 p12,
      rest,
    )
backs w procdef _ k here out = tt
backs w params (Some (Sign sign.Close)) k here out = λ free rest. (_, here, reads-no-params, rest)
backs w params (Some (Sign sign.CloseSquare)) k here out =
    λ free rest. (_, here, reads-no-params, rest)
backs w params _ k here out =
    λ free (pm, s1, p1, (pms, s2, p2, rest)). (_, s2, reads-params p1 p2, rest)
backs w params_on (Some (Sign sign.Comma)) k here out =
    λ free (x, s1, p1, (pm, s2, p2, (pms, s3, p3, rest))). (_, s3, reads-params-on p1 p2 p3, rest)
backs w params_on _ k here out = λ free rest. (_, here, reads-no-params-on, rest)
backs w param h k here out =
    λ free (n, s1, p1, (x, s2, p2, (t, s3, p3, rest))). (_, s3, reads-param p1 p2 p3, rest)
backs w output (Some (Reserved key.Output)) k here out =
    λ free (x, s1, p1, (t, s2, p2, rest)). (_, s2, reads-output p1 p2, rest)
backs w output _ k here out = λ free rest. (_, here, reads-no-output, rest)
backs w script h k here out =
    λ free (
      tds,
      s1,
      p1,
      (
        pds,
        s2,
        p2,
        (
          x,
          s3,
          p3,
          (
            t,
            s4,
            p4,
            (
              o,
              s5,
              p5,
              (
                y,
                s6,
                p6,
                (
                  ss,
                  s7,
                  p7,
                  rest,
                ),
              ),
            ),
          ),
        ),
      ),
    ). (_, s7, reads-script p1 p2 p3 p4 p5 p6 p7, rest)

of_body :
    (w : Option ℕ) (p : Part) (k : Value p → Prog) (s : State) (o : Outcome) (b : Option Prog) (q :
    Prog) → b ≡ Some q → Backs w p k s o b → FreeFor w p s → Means w q s o →
    Means w (call p k) s o
of_body w p k s o b q e back = subst (Backs w p k s o) e back

-- one step of the machine, read backwards from any state, whatever the next piece is there
pub back : (w : Option ℕ) (p : Part) (h : Option Lexeme) (k : Value p → Prog) (q : Prog) →
    body p h k ≡ Some q → (s : State) (o : Outcome) → FreeFor w p s → Means w q s o →
    Means w (call p k) s o
back w p h k q e s o = of_body w p k s o (body p h k) q e (backs w p h k s o)

-- what is accepted is read so
pub sound : {w : Option ℕ} {p : Prog} {s : State} {o : Outcome} → Runs w p s o →
    (part : Part) (v : Value part) → o ≡ accepts part v → Means w p s o
sound (runs-done h) part v e = (h, refl)
sound (runs-over n) part v e = cc
sound (runs-take {s' = a} {x = x} t r) part v e = (x, a, t, sound r part v e)
sound (runs-unfit l) part v e = cc
sound (runs-mark r) part v e = sound r part v e
sound {w = w} {o = o} (runs-call {p = p} {k = k} {q = q} {s = s} f b r) part v e =
    back w p (head s) k q b s o f (sound r part v e)
sound (runs-none b) part v e = cc
sound (runs-deep n) part v e = cc

-- ---- faults

-- the pieces before it begin what the program wants
abbrev pub Completes : Prog → State → List Piece → Type 0
Completes p s before =
    (more : List Piece) × (o : Outcome) × Means (Some (length more)) p (state (end s) (before ++
    more)) o

-- with the piece there, whatever comes after it, the program faults there
abbrev pub Refuses : Prog → State → List Piece → State → Type 0
Refuses p s before s' =
    (x : Piece) (q tail : List Piece) → left s' ≡ x ∷ q → Runs (Some (length tail)) p (state (end s)
    (before ++ x ∷ tail)) (faults (state (end s') (x ∷ tail)))

pub record Located (p : Prog) (s s' : State) : Type 0 where
  pub before : List Piece
  pub is : left s ≡ before ++ left s'
  pub completes : Completes p s before
  pub refuses : Refuses p s before s'

eta : (s : State) → state (end s) (left s) ≡ s
eta (state e ts) = refl

head_alike : (e : ℕ) (c : List Piece) (x : Piece) (q tail : List Piece) →
    head (state e (c ++ x ∷ tail)) ≡ head (state e (c ++ x ∷ q))
head_alike e [] x q tail = refl
head_alike e (y ∷ c) x q tail = refl

same_head : (s s' : State) (c : List Piece) (x : Piece) (q tail : List Piece) →
    left s ≡ c ++ left s' → left s' ≡ x ∷ q → head (state (end s) (c ++ x ∷ tail)) ≡ head s
same_head s s' c x q tail e f =
    head_alike (end s) c x q tail ∙ ap (λ ts. head (state (end s) ts)) (sym (e ∙ ap (λ ts. c ++ ts)
    f)) ∙ ap head (eta s)

free_less : (p : Part) (s s' : State) (m : ℕ) → FreeFor None p s → FreeFor (Some m) p s'
free_less (type d) s s' m f = λ watched. f tt
free_less (item d) s s' m f = λ watched. f tt
free_less (stmt d) s s' m f = λ watched. f tt
free_less _ s s' m f = tt

deep_still : (p : Part) (s : State) (e : ℕ) (x : Piece) (tail : List Piece) →
    (FreeFor None p s → ⊥) → FreeFor (Some (length tail)) p (state e (x ∷ tail)) → ⊥
deep_still (type d) s e x tail n f = n (λ any. f (omega arith))
deep_still (item d) s e x tail n f = n (λ any. f (omega arith))
deep_still (stmt d) s e x tail n f = n (λ any. f (omega arith))
deep_still _ s e x tail n f = n tt

here : (p : Prog) (s : State) → Refuses p s [] s → Located p s s
here p s refuses =
    let f = finish p (end s) in record {
      before = [];
      is = refl;
      completes = (
        f.0,
        f.1,
        f.2 (length
            f.0) (omega arith),
      );
      refuses = refuses;
    }

after_piece : (k : Lexeme) (f : Piece → Prog) (s a s' : State) (x : Piece) → Takes k s x a →
    Located (f x) a s' → Located (take k f) s s'
after_piece k f s a s' x (takes e) l = record {
  before = x ∷ l.before;
  is = ap (λ ts. x ∷ ts) l.is;
  completes = (
    l.completes.0,
    l.completes.1,
    (
      x,
      state x.span.to (l.before ++ l.completes.0),
      takes e,
      l.completes.2,
    ),
  );
  refuses = λ y q tail is. runs-take (takes e) (l.refuses y q tail is);
}

after_call : (p : Part) (k : Value p → Prog) (q : Prog) (s s' : State) → FreeFor None p s →
    body p (head s) k ≡ Some q → Located q s s' → Located (call p k) s s'
after_call p k q s s' f b l = record {
  before = l.before;
  is = l.is;
  completes = (
    l.completes.0,
    l.completes.1,
    back _ p (head s) k q b _ _ (free_less p s _ _ f)
        l.completes.2,
  );
  refuses =
      λ x r tail is. runs-call (free_less p s _ _ f) (ap (λ h. body p h k) (same_head s s' l.before
      x r tail l.is is) ∙ b) (l.refuses x r tail is);
}

pub locate : {p : Prog} {s : State} {o : Outcome} → Runs None p s o → (s' : State) → o ≡ faults s' →
    Located p s s'
locate (runs-done h) s' e = cc
locate (runs-over {p = p} {v = v} {s = s} n) s' e = at_over p v s s' (fault_at s s' e)
  where
    fault_at : (s s' : State) → faults s ≡ faults s' → s ≡ s'
    fault_at s s' e = cc

    at_over : (p : Part) (v : Value p) (s s' : State) → s ≡ s' → Located (done p v) s s'
    at_over p v s s' e =
        subst (Located (done p v) s) e (here (done p v) s (λ x q tail is. runs-over (λ h. cc)))
locate (runs-take {l = k} {f = f} {s = s} {s' = a} {x = x} t r) s' e =
    after_piece k f s a s' x t (locate r s' e)
locate (runs-unfit {l = k} {f = f} {s = s} l) s' e = at_unfit k f s s' l (fault_at s s' e)
  where
    fault_at : (s s' : State) → faults s ≡ faults s' → s ≡ s'
    fault_at s s' e = cc

    at_unfit : (k : Lexeme) (f : Piece → Prog) (s s' : State) → Lacks k s → s ≡ s' →
        Located (take k f) s s'
    at_unfit k f s s' l e =
        subst (Located (take k f) s) e (here (take k f) s (λ x q tail is. runs-unfit (λ h. l (sym
        (same_head s s [] x q tail refl is) ∙ h))))
locate (runs-mark r) s' e = of_mark (locate r s' e)
  where
    of_mark : {f : ℕ → Prog} {s s' : State} → Located (f (end s)) s s' → Located (mark f) s s'
    of_mark l =
        record {
          before = l.before;
          is = l.is;
          completes = l.completes;
          refuses = λ x q tail is.
              runs-mark (l.refuses x q tail is);
        }
locate (runs-call {p = p} {k = k} {q = q} {s = s} f b r) s' e =
    after_call p k q s s' f b (locate r s' e)
locate (runs-none {p = p} {k = k} {s = s} b) s' e = at_none p k s s' b (fault_at s s' e)
  where
    fault_at : (s s' : State) → faults s ≡ faults s' → s ≡ s'
    fault_at s s' e = cc

    at_none : (p : Part) (k : Value p → Prog) (s s' : State) → body p (head s) k ≡ None → s ≡ s' →
        Located (call p k) s s'
    at_none p k s s' b e =
        subst (Located (call p k) s) e (here (call p k) s (λ x q tail is. runs-none (ap (λ h. body p
        h k) (same_head s s [] x q tail refl is) ∙ b)))
locate (runs-deep {p = p} {k = k} {s = s} n) s' e = at_deep p k s s' n (fault_at s s' e)
  where
    fault_at : (s s' : State) → faults s ≡ faults s' → s ≡ s'
    fault_at s s' e = cc

    at_deep : (p : Part) (k : Value p → Prog) (s s' : State) → (FreeFor None p s → ⊥) → s ≡ s' →
        Located (call p k) s s'
    at_deep p k s s' n e =
        subst (Located (call p k) s) e (here (call p k) s (λ x q tail is. runs-deep (deep_still p s
        (end s) x tail n)))
