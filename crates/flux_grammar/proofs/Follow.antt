-- What a part begins with, and what may come behind it.
use Rattle.std.proofs.Common.{◌≡◌, ℕ, ◌<◌, ◌≢◌, Option, Some, None, refl, sym, subst, arith}
use Rattle.flux_grammar.specs.declared.lexeme.Keyword.TheVariants as key
use Rattle.flux_grammar.specs.declared.lexeme.Lexeme.{Lexeme}
use Rattle.flux_grammar.specs.declared.lexeme.Lexeme.TheVariants.{Reserved, Sign, Word, Soft, Quoted, Var, Literal}
use Rattle.flux_grammar.specs.declared.lexeme.Piece.{Piece}
use Rattle.flux_grammar.specs.declared.lexeme.Sign.TheVariants as sign
use Rattle.flux_grammar.specs.declared.lexeme.Soft.{Soft as SoftWord}
use Rattle.flux_grammar.specs.declared.lexeme.Soft.TheVariants as soft
use Rattle.flux_grammar.specs.States.{State, head, Takes}
use Rattle.flux_grammar.specs.Grammar.{Part, type, alts, tseq, seqs, tpost, marks, tatom, labelled, content, label, tname, var, test, other, tested, path, slashes, step, spot, filtered, expr, items, item, compared, post, steps, qstep, childed, prim, within, stmts, nexts, ending, stmt, guard, simple, inserting, placing, deleting, replacing, args, typedefs, typedef, procdefs, procdef, params, params_on, param, output, script, Value, Reads, reads-type, reads-no-alts, reads-alts, reads-tseq, reads-no-seqs, reads-seqs, reads-tpost, reads-no-marks, reads-star, reads-plus, reads-opt, reads-group, reads-quoted-elem, reads-any, reads-string, reads-bool, reads-int, reads-named, reads-named-child, reads-alone, reads-elem, reads-no-content, reads-content, reads-word, reads-soft, reads-quoted, reads-tname, reads-tname-child, reads-var, reads-child-label, reads-test, reads-word-label, reads-quoted-label, reads-any-label, reads-every, reads-string-test, reads-bool-test, reads-int-test, reads-label-test, reads-kind-test, reads-path, reads-no-slashes, reads-slashes, reads-bound-step, reads-step, reads-dot, reads-spot, reads-no-filter, reads-filter, reads-expr, reads-no-items, reads-items, reads-for, reads-let, reads-if, reads-item, reads-uncompared, reads-same, reads-less, reads-post, reads-no-steps, reads-slash, reads-keep, reads-child-step, reads-down, reads-down-child, reads-child, reads-paren, reads-literal, reads-variable, reads-element, reads-no-within, reads-within, reads-stmts, reads-no-nexts, reads-nexts, reads-ended, reads-going-on, reads-update, reads-if-stmt, reads-let-stmt, reads-stmt, reads-unguarded, reads-guarded, reads-skip, reads-insert, reads-delete, reads-replace, reads-rename, reads-call, reads-block, reads-insert-value, reads-insert-before, reads-insert-after, reads-insert-as, reads-insert-first, reads-insert-last, reads-delete-from, reads-delete-path, reads-replace-in, reads-replace-path, reads-no-args, reads-args, reads-script, reads-no-typedefs, reads-typedefs, reads-typedef, reads-no-procdefs, reads-procdefs, reads-procdef, reads-no-params, reads-params, reads-no-params-on, reads-params-on, reads-param, reads-no-output, reads-output}
use Rattle.flux_grammar.proofs.Determined.{takes_head}

-- how far out a lexeme belongs: one that goes on with a part belongs to that part, and what closes
-- parts is outermost
abbrev pub binds : Option Lexeme → ℕ
binds (Some (Sign sign.Open)) = 1
binds (Some (Sign sign.OpenSquare)) = 2
binds (Some (Sign sign.Star)) = 3
binds (Some (Sign sign.Plus)) = 3
binds (Some (Sign sign.Question)) = 3
binds (Some (Sign sign.Slash)) = 3
binds (Some (Sign sign.DoubleColon)) = 3
binds (Some (Sign sign.Equal)) = 4
binds (Some (Sign sign.Less)) = 4
binds (Some (Sign sign.Comma)) = 5
binds (Some (Sign sign.Bar)) = 6
binds (Some (Reserved key.Where)) = 7
binds (Some (Sign sign.Semicolon)) = 8
binds (Some (Word n)) = 9
binds (Some (Quoted n)) = 9
binds (Some (Soft soft.ChildWord n)) = 10
binds (Some (Soft so n)) = 9
binds (Some (Reserved key.Skip)) = 13
binds (Some (Reserved key.Insert)) = 13
binds (Some (Reserved key.Delete)) = 13
binds (Some (Reserved key.Rename)) = 13
binds (Some (Reserved key.Replace)) = 13
binds (Some (Reserved key.Call)) = 13
binds (Some (Sign sign.OpenBrace)) = 13
binds (Some (Reserved key.Update)) = 14
binds (Some (Reserved key.If)) = 14
binds (Some (Reserved key.Let)) = 14
binds (Some (Sign sign.Dot)) = 16
binds (Some (Var n)) = 18
binds (Some (Literal atom)) = 18
binds (Some (Reserved key.From)) = 19
binds (Some (Reserved key.In)) = 19
binds (Some (Reserved key.QueryFor)) = 19
binds (Some (Reserved key.QueryIf)) = 19
binds (Some (Reserved key.QueryLet)) = 19
binds (Some (Sign sign.Close)) = 20
binds (Some (Sign sign.CloseSquare)) = 20
binds (Some (Sign sign.CloseBrace)) = 22
binds (Some (Reserved key.Output)) = 23
binds (Some (Reserved key.Type)) = 24
binds (Some (Reserved key.Procedure)) = 25
binds None = 22
binds _ = 15

abbrev pub Closes : Option Lexeme → Type 0
Closes (Some (Sign sign.Close)) = Unit {0}
Closes (Some (Sign sign.CloseSquare)) = Unit {0}
Closes _ = ⊥

abbrev pub Finishes : Option Lexeme → Type 0
Finishes None = Unit {0}
Finishes (Some (Sign sign.CloseBrace)) = Unit {0}
Finishes _ = ⊥

pub closing : (h : Option Lexeme) → Closes h → binds h ≡ 20
closing (Some (Sign sign.Close)) c = refl
closing (Some (Sign sign.CloseSquare)) c = refl
closing _ c = absurd c

pub finishing : (h : Option Lexeme) → Finishes h → binds h ≡ 22
finishing None c = refl
finishing (Some (Sign sign.CloseBrace)) c = refl
finishing _ c = absurd c

-- what may come behind a part
abbrev pub Ends : Part → Option Lexeme → Type 0
Ends (type d) h = 6 < binds h
Ends (alts d) h = 6 < binds h
Ends (tseq d) h = 5 < binds h
Ends (seqs d) h = 5 < binds h
Ends (tpost d) h = 3 < binds h
Ends (marks from) h = 3 < binds h
Ends (tatom d) h = 2 < binds h
Ends (labelled d at n alone) h = 2 < binds h
Ends (content d) h = Closes h
Ends label h = Unit {0}
Ends tname h = Unit {0}
Ends var h = Unit {0}
Ends test h = 1 < binds h
Ends other h = 1 < binds h
Ends (tested n typed) h = 1 < binds h
Ends (path d) h = 3 < binds h
Ends (slashes d) h = 3 < binds h
Ends (step d) h = 2 < binds h
Ends spot h = 1 < binds h
Ends (filtered d) h = 2 < binds h
Ends (expr d) h = 5 < binds h
Ends (items d) h = 5 < binds h
Ends (item d) h = 4 < binds h
Ends (compared d t) h = 4 < binds h
Ends (post d) h = 3 < binds h
Ends (steps from) h = 3 < binds h
Ends (qstep from) h = 1 < binds h
Ends (childed from n) h = 1 < binds h
Ends (prim d) h = Unit {0}
Ends (within d) h = Closes h
Ends (stmts d) h = Finishes h
Ends (nexts d) h = Finishes h
Ends (ending d) h = Finishes h
Ends (stmt d) h = 7 < binds h
Ends (guard d s) h = 7 < binds h
Ends (simple d) h = 6 < binds h
Ends (inserting d from) h = 6 < binds h
Ends (placing d from) h = 6 < binds h
Ends (deleting d from) h = 6 < binds h
Ends (replacing d from) h = 6 < binds h
Ends (args d) h = Closes h
Ends typedefs h = binds h ≢ 24
Ends typedef h = Unit {0}
Ends procdefs h = binds h < 24
Ends procdef h = Unit {0}
Ends params h = Closes h
Ends params_on h = Closes h
Ends param h = 3 < binds h
Ends output h = binds h ≡ 15
Ends script h = Finishes h

-- what a part begins with
abbrev pub Begins : Part → Option Lexeme → Type 0
Begins (type d) h = binds h < 20
Begins (tseq d) h = binds h < 20
Begins (tpost d) h = binds h < 20
Begins (tatom d) h = binds h < 20
Begins label h = (8 < binds h) × (binds h < 11)
Begins var h = binds h < 20
Begins test h = binds h < 11
Begins other h = binds h < 10
Begins (path d) h = binds h < 19
Begins (step d) h = binds h < 19
Begins spot h = binds h < 17
Begins (expr d) h = binds h < 20
Begins (item d) h = binds h < 20
Begins (post d) h = binds h < 19
Begins (prim d) h = binds h < 19
Begins (stmts d) h = binds h < 20
Begins (stmt d) h = binds h < 20
Begins (simple d) h = binds h < 14
Begins typedef h = h ≡ Some (Reserved key.Type)
Begins procdef h = h ≡ Some (Reserved key.Procedure)
Begins param h = binds h < 20
Begins _ h = Unit {0}

pub at_head : {l : Lexeme} {s s' : State} {x : Piece} (P : Option Lexeme → Type 0) →
    Takes l s x s' → P (Some l) → P (head s)
at_head P t = subst P (sym (takes_head t))

soft_begins : (so : SoftWord) (n : ℕ) →
    (8 < binds (Some (Soft so n))) × (binds (Some (Soft so n)) < 11)
soft_begins soft.StringWord n = (omega arith, omega arith)
soft_begins soft.BoolWord n = (omega arith, omega arith)
soft_begins soft.IntWord n = (omega arith, omega arith)
soft_begins soft.ChildWord n = (omega arith, omega arith)
soft_begins soft.AnyWord n = (omega arith, omega arith)

pub begins : {w : Option ℕ} {p : Part} {s s' : State} {v : Value p} →
    Reads w p s s' v → Begins p (head s)
begins (reads-type f p1 p2) = begins p1
begins reads-no-alts = tt
begins (reads-alts p1 p2 p3) = tt
begins (reads-tseq p1 p2) = begins p1
begins reads-no-seqs = tt
begins (reads-seqs p1 p2 p3) = tt
begins (reads-tpost p1 p2) = begins p1
begins reads-no-marks = tt
begins (reads-star p1 p2) = tt
begins (reads-plus p1 p2) = tt
begins (reads-opt p1 p2) = tt
begins (reads-group p1 p2 p3) = at_head (λ h. binds h < 20) p1 (omega arith)
begins (reads-quoted-elem p1 p2 p3 p4) = at_head (λ h. binds h < 20) p1 (omega arith)
begins (reads-any p1 p2 p3 p4) = at_head (λ h. binds h < 20) p1 (omega arith)
begins (reads-string p1 p2) = at_head (λ h. binds h < 20) p1 (omega arith)
begins (reads-bool p1 p2) = at_head (λ h. binds h < 20) p1 (omega arith)
begins (reads-int p1 p2) = at_head (λ h. binds h < 20) p1 (omega arith)
begins (reads-named p1 p2) = at_head (λ h. binds h < 20) p1 (omega arith)
begins (reads-named-child p1 p2) = at_head (λ h. binds h < 20) p1 (omega arith)
begins reads-alone = tt
begins (reads-elem p1 p2 p3) = tt
begins reads-no-content = tt
begins (reads-content p1) = tt
begins (reads-word p1) =
    at_head (λ h. (8 < binds h) × (binds h < 11)) p1 ((omega arith, omega arith))
begins (reads-soft {so = so} p1) =
    at_head (λ h. (8 < binds h) × (binds h < 11)) p1 (soft_begins so _)
begins (reads-quoted p1) =
    at_head (λ h. (8 < binds h) × (binds h < 11)) p1 ((omega arith, omega arith))
begins (reads-tname p1) = tt
begins (reads-tname-child p1) = tt
begins (reads-var p1) = at_head (λ h. binds h < 20) p1 (omega arith)
begins (reads-child-label p1) = at_head (λ h. binds h < 11) p1 (omega arith)
begins (reads-test p1) = let lt = begins p1 in omega (arith, lt)
begins (reads-word-label p1) = at_head (λ h. binds h < 10) p1 (omega arith)
begins (reads-quoted-label p1) = at_head (λ h. binds h < 10) p1 (omega arith)
begins (reads-any-label p1) = at_head (λ h. binds h < 10) p1 (omega arith)
begins (reads-every p1) = at_head (λ h. binds h < 10) p1 (omega arith)
begins (reads-string-test p1 p2) = at_head (λ h. binds h < 10) p1 (omega arith)
begins (reads-bool-test p1 p2) = at_head (λ h. binds h < 10) p1 (omega arith)
begins (reads-int-test p1 p2) = at_head (λ h. binds h < 10) p1 (omega arith)
begins reads-label-test = tt
begins (reads-kind-test p1 p2) = tt
begins (reads-path p1 p2) = begins p1
begins reads-no-slashes = tt
begins (reads-slashes p1 p2 p3) = tt
begins (reads-bound-step p1 p2 p3 p4) = at_head (λ h. binds h < 19) p1 (omega arith)
begins (reads-step p1 p2) = let lt = begins p1 in omega (arith, lt)
begins (reads-dot p1) = at_head (λ h. binds h < 17) p1 (omega arith)
begins (reads-spot p1) = let lt = begins p1 in omega (arith, lt)
begins reads-no-filter = tt
begins (reads-filter p1 p2 p3) = tt
begins (reads-expr p1 p2) = begins p1
begins reads-no-items = tt
begins (reads-items p1 p2 p3) = tt
begins (reads-for f p1 p2 p3 p4 p5 p6) = at_head (λ h. binds h < 20) p1 (omega arith)
begins (reads-let f p1 p2 p3 p4 p5 p6) = at_head (λ h. binds h < 20) p1 (omega arith)
begins (reads-if f p1 p2 p3 p4 p5 p6) = at_head (λ h. binds h < 20) p1 (omega arith)
begins (reads-item f p1 p2) = let lt = begins p1 in omega (arith, lt)
begins reads-uncompared = tt
begins (reads-same p1 p2) = tt
begins (reads-less p1 p2) = tt
begins (reads-post p1 p2) = begins p1
begins reads-no-steps = tt
begins (reads-slash p1 p2 p3) = tt
begins (reads-keep p1 p2 p3) = tt
begins (reads-child-step p1 p2) = tt
begins (reads-down p1) = tt
begins reads-down-child = tt
begins (reads-child p1 p2) = tt
begins (reads-paren p1 p2 p3) = at_head (λ h. binds h < 19) p1 (omega arith)
begins (reads-literal p1) = at_head (λ h. binds h < 19) p1 (omega arith)
begins (reads-variable p1) = at_head (λ h. binds h < 19) p1 (omega arith)
begins (reads-element p1 p2 p3 p4) = let lt = begins p1 in omega (arith, lt.0, lt.1)
begins reads-no-within = tt
begins (reads-within p1) = tt
begins (reads-stmts p1 p2) = begins p1
begins reads-no-nexts = tt
begins (reads-nexts p1 p2) = tt
begins reads-ended = tt
begins (reads-going-on p1) = tt
begins (reads-update f p1 p2 p3 p4) = at_head (λ h. binds h < 20) p1 (omega arith)
begins (reads-if-stmt f p1 p2 p3 p4 p5 p6) = at_head (λ h. binds h < 20) p1 (omega arith)
begins (reads-let-stmt f p1 p2 p3 p4 p5 p6) = at_head (λ h. binds h < 20) p1 (omega arith)
begins (reads-stmt f p1 p2) = let lt = begins p1 in omega (arith, lt)
begins reads-unguarded = tt
begins (reads-guarded p1 p2) = tt
begins (reads-skip p1) = at_head (λ h. binds h < 14) p1 (omega arith)
begins (reads-insert p1 p2) = at_head (λ h. binds h < 14) p1 (omega arith)
begins (reads-delete p1 p2) = at_head (λ h. binds h < 14) p1 (omega arith)
begins (reads-replace p1 p2) = at_head (λ h. binds h < 14) p1 (omega arith)
begins (reads-rename p1 p2 p3 p4) = at_head (λ h. binds h < 14) p1 (omega arith)
begins (reads-call p1 p2 p3 p4 p5) = at_head (λ h. binds h < 14) p1 (omega arith)
begins (reads-block p1 p2 p3) = at_head (λ h. binds h < 14) p1 (omega arith)
begins (reads-insert-value p1 p2) = tt
begins (reads-insert-before p1 p2 p3 p4) = tt
begins (reads-insert-after p1 p2 p3 p4) = tt
begins (reads-insert-as p1 p2) = tt
begins (reads-insert-first p1 p2 p3 p4 p5) = tt
begins (reads-insert-last p1 p2 p3 p4 p5) = tt
begins (reads-delete-from p1 p2) = tt
begins (reads-delete-path p1) = tt
begins (reads-replace-in p1 p2 p3 p4) = tt
begins (reads-replace-path p1 p2 p3) = tt
begins reads-no-args = tt
begins (reads-args p1 p2) = tt
begins (reads-script p1 p2 p3 p4 p5 p6 p7) = tt
begins reads-no-typedefs = tt
begins (reads-typedefs p1 p2) = tt
begins (reads-typedef p1 p2 p3 p4 p5) = takes_head p1
begins reads-no-procdefs = tt
begins (reads-procdefs p1 p2) = tt
begins (reads-procdef p1 p2 p3 p4 p5 p6 p7 p8 p9 p10 p11 p12) = takes_head p1
begins reads-no-params = tt
begins (reads-params p1 p2) = tt
begins reads-no-params-on = tt
begins (reads-params-on p1 p2 p3) = tt
begins (reads-param p1 p2 p3) = begins p1
begins reads-no-output = tt
begins (reads-output p1 p2) = tt

-- what comes behind the part before another part
abbrev pub Before : Part → Option Lexeme → Type 0
Before (alts d) h = 5 < binds h
Before (seqs d) h = 3 < binds h
Before (marks from) h = 2 < binds h
Before (slashes d) h = 2 < binds h
Before (filtered d) h = 1 < binds h
Before (items d) h = 4 < binds h
Before (compared d t) h = 3 < binds h
Before (steps from) h = 1 < binds h
Before (nexts d) h = 7 < binds h
Before (guard d s) h = 6 < binds h
Before procdefs h = binds h ≢ 24
Before params_on h = 3 < binds h
Before output h = 6 < binds h
Before _ h = Unit {0}

pub before : {w : Option ℕ} {p : Part} {s s' : State} {v : Value p} →
    Reads w p s s' v → Ends p (head s') → Before p (head s)
before (reads-type f p1 p2) e = tt
before reads-no-alts e = omega arith
before (reads-alts p1 p2 p3) e = at_head (λ h. 5 < binds h) p1 (omega arith)
before (reads-tseq p1 p2) e = tt
before reads-no-seqs e = omega arith
before (reads-seqs p1 p2 p3) e = at_head (λ h. 3 < binds h) p1 (omega arith)
before (reads-tpost p1 p2) e = tt
before reads-no-marks e = omega arith
before (reads-star p1 p2) e = at_head (λ h. 2 < binds h) p1 (omega arith)
before (reads-plus p1 p2) e = at_head (λ h. 2 < binds h) p1 (omega arith)
before (reads-opt p1 p2) e = at_head (λ h. 2 < binds h) p1 (omega arith)
before (reads-group p1 p2 p3) e = tt
before (reads-quoted-elem p1 p2 p3 p4) e = tt
before (reads-any p1 p2 p3 p4) e = tt
before (reads-string p1 p2) e = tt
before (reads-bool p1 p2) e = tt
before (reads-int p1 p2) e = tt
before (reads-named p1 p2) e = tt
before (reads-named-child p1 p2) e = tt
before reads-alone e = tt
before (reads-elem p1 p2 p3) e = tt
before reads-no-content e = tt
before (reads-content p1) e = tt
before (reads-word p1) e = tt
before (reads-soft p1) e = tt
before (reads-quoted p1) e = tt
before (reads-tname p1) e = tt
before (reads-tname-child p1) e = tt
before (reads-var p1) e = tt
before (reads-child-label p1) e = tt
before (reads-test p1) e = tt
before (reads-word-label p1) e = tt
before (reads-quoted-label p1) e = tt
before (reads-any-label p1) e = tt
before (reads-every p1) e = tt
before (reads-string-test p1 p2) e = tt
before (reads-bool-test p1 p2) e = tt
before (reads-int-test p1 p2) e = tt
before reads-label-test e = tt
before (reads-kind-test p1 p2) e = tt
before (reads-path p1 p2) e = tt
before reads-no-slashes e = omega arith
before (reads-slashes p1 p2 p3) e = at_head (λ h. 2 < binds h) p1 (omega arith)
before (reads-bound-step p1 p2 p3 p4) e = tt
before (reads-step p1 p2) e = tt
before (reads-dot p1) e = tt
before (reads-spot p1) e = tt
before reads-no-filter e = omega arith
before (reads-filter p1 p2 p3) e = at_head (λ h. 1 < binds h) p1 (omega arith)
before (reads-expr p1 p2) e = tt
before reads-no-items e = omega arith
before (reads-items p1 p2 p3) e = at_head (λ h. 4 < binds h) p1 (omega arith)
before (reads-for f p1 p2 p3 p4 p5 p6) e = tt
before (reads-let f p1 p2 p3 p4 p5 p6) e = tt
before (reads-if f p1 p2 p3 p4 p5 p6) e = tt
before (reads-item f p1 p2) e = tt
before reads-uncompared e = omega arith
before (reads-same p1 p2) e = at_head (λ h. 3 < binds h) p1 (omega arith)
before (reads-less p1 p2) e = at_head (λ h. 3 < binds h) p1 (omega arith)
before (reads-post p1 p2) e = tt
before reads-no-steps e = omega arith
before (reads-slash p1 p2 p3) e = at_head (λ h. 1 < binds h) p1 (omega arith)
before (reads-keep p1 p2 p3) e = at_head (λ h. 1 < binds h) p1 (omega arith)
before (reads-child-step p1 p2) e = tt
before (reads-down p1) e = tt
before reads-down-child e = tt
before (reads-child p1 p2) e = tt
before (reads-paren p1 p2 p3) e = tt
before (reads-literal p1) e = tt
before (reads-variable p1) e = tt
before (reads-element p1 p2 p3 p4) e = tt
before reads-no-within e = tt
before (reads-within p1) e = tt
before (reads-stmts p1 p2) e = tt
before (reads-no-nexts {a = a}) e = omega (arith, finishing (head a) e)
before (reads-nexts p1 p2) e = at_head (λ h. 7 < binds h) p1 (omega arith)
before reads-ended e = tt
before (reads-going-on p1) e = tt
before (reads-update f p1 p2 p3 p4) e = tt
before (reads-if-stmt f p1 p2 p3 p4 p5 p6) e = tt
before (reads-let-stmt f p1 p2 p3 p4 p5 p6) e = tt
before (reads-stmt f p1 p2) e = tt
before reads-unguarded e = omega arith
before (reads-guarded p1 p2) e = at_head (λ h. 6 < binds h) p1 (omega arith)
before (reads-skip p1) e = tt
before (reads-insert p1 p2) e = tt
before (reads-delete p1 p2) e = tt
before (reads-replace p1 p2) e = tt
before (reads-rename p1 p2 p3 p4) e = tt
before (reads-call p1 p2 p3 p4 p5) e = tt
before (reads-block p1 p2 p3) e = tt
before (reads-insert-value p1 p2) e = tt
before (reads-insert-before p1 p2 p3 p4) e = tt
before (reads-insert-after p1 p2 p3 p4) e = tt
before (reads-insert-as p1 p2) e = tt
before (reads-insert-first p1 p2 p3 p4 p5) e = tt
before (reads-insert-last p1 p2 p3 p4 p5) e = tt
before (reads-delete-from p1 p2) e = tt
before (reads-delete-path p1) e = tt
before (reads-replace-in p1 p2 p3 p4) e = tt
before (reads-replace-path p1 p2 p3) e = tt
before reads-no-args e = tt
before (reads-args p1 p2) e = tt
before (reads-script p1 p2 p3 p4 p5 p6 p7) e = tt
before reads-no-typedefs e = tt
before (reads-typedefs p1 p2) e = tt
before (reads-typedef p1 p2 p3 p4 p5) e = tt
before reads-no-procdefs e = omega arith
before (reads-procdefs p1 p2) e = subst (λ h. binds h ≢ 24) (sym (begins p1)) (omega arith)
before (reads-procdef p1 p2 p3 p4 p5 p6 p7 p8 p9 p10 p11 p12) e = tt
before reads-no-params e = tt
before (reads-params p1 p2) e = tt
before (reads-no-params-on {a = a}) e = omega (arith, closing (head a) e)
before (reads-params-on p1 p2 p3) e = at_head (λ h. 3 < binds h) p1 (omega arith)
before (reads-param p1 p2 p3) e = tt
before reads-no-output e = omega arith
before (reads-output p1 p2) e = at_head (λ h. 6 < binds h) p1 (omega arith)
