-- What a Rust statement is read as, variant by variant.
use Rattle.std.proofs.Common.{◌≡◌, ◌∙◌, ℕ, List, map, sym, ap, ap₂}
use Rattle.flux_calculus.specs.declared.ask.Test.{Test as Question}
use Rattle.flux_calculus.specs.declared.ask.Var.{Var}
use Rattle.flux_calculus.specs.declared.ask.Span.{Span}
use Rattle.flux_calculus.specs.Core as calculus
use Rattle.flux_calculus.specs.Core.{skip, in_order, choice, binding, snapshot, insert, delete, rename, test, children, left, right, iter, call}
use Rattle.flux_query.specs.declared.query.Query.{Query}
use Rattle.flux_query.specs.Read.{query_of}
use Rattle.flux_core.specs.declared.statement.Core.{Core}
use Rattle.flux_core.specs.declared.statement.Core.TheOpen.{Core-F}
use Rattle.flux_core.specs.declared.statement.Core.TheFolds.{fold-roll-Core}
use Rattle.flux_core.specs.declared.statement.Core.TheVariants.{Skip, Seq, If, Let, Snapshot, Insert, Delete, Rename, Test, Children, Left, Right, Iter, Call, rolls-Skip, rolls-Seq, rolls-If, rolls-Let, rolls-Snapshot, rolls-Insert, rolls-Delete, rolls-Rename, rolls-Test, rolls-Children, rolls-Left, rolls-Right, rolls-Iter, rolls-Call}
use Rattle.flux_core.specs.Statements.{core_step, core_of}

pub of_skip : (x : Core) (at : Span) → x ≡ Skip at → core_of x ≡ skip at
of_skip x at e = ap core_of (e ∙ sym (rolls-Skip at)) ∙ fold-roll-Core calculus.Core core_step (Core-F.Skip at)

pub of_seq : (x : Core) (ss : List Core) (at : Span) → x ≡ Seq ss at → core_of x ≡ in_order at (map core_of ss)
of_seq x ss at e = ap core_of (e ∙ sym (rolls-Seq ss at)) ∙ fold-roll-Core calculus.Core core_step (Core-F.Seq ss at)

pub of_if : (x : Core) (c : Query) (s r a b : Core) (at : Span) → x ≡ If c s r at → a ≡ s → b ≡ r → core_of x ≡ choice at (query_of c) (core_of a) (core_of b)
of_if x c s r a b at e f g = ap core_of (e ∙ sym (rolls-If c s r at)) ∙ fold-roll-Core calculus.Core core_step (Core-F.If c s r at) ∙ ap₂ (choice at (query_of c)) (ap core_of (sym f)) (ap core_of (sym g))

pub of_let : (x : Core) (v : Var) (q : Query) (s a : Core) (at : Span) → x ≡ Let v q s at → a ≡ s → core_of x ≡ binding at v (query_of q) (core_of a)
of_let x v q s a at e f = ap core_of (e ∙ sym (rolls-Let v q s at)) ∙ fold-roll-Core calculus.Core core_step (Core-F.Let v q s at) ∙ ap (binding at v (query_of q)) (ap core_of (sym f))

pub of_snapshot : (x : Core) (v : Var) (s a : Core) (at : Span) → x ≡ Snapshot v s at → a ≡ s → core_of x ≡ snapshot at v (core_of a)
of_snapshot x v s a at e f = ap core_of (e ∙ sym (rolls-Snapshot v s at)) ∙ fold-roll-Core calculus.Core core_step (Core-F.Snapshot v s at) ∙ ap (snapshot at v) (ap core_of (sym f))

pub of_insert : (x : Core) (q : Query) (at : Span) → x ≡ Insert q at → core_of x ≡ insert at (query_of q)
of_insert x q at e = ap core_of (e ∙ sym (rolls-Insert q at)) ∙ fold-roll-Core calculus.Core core_step (Core-F.Insert q at)

pub of_delete : (x : Core) (at : Span) → x ≡ Delete at → core_of x ≡ delete at
of_delete x at e = ap core_of (e ∙ sym (rolls-Delete at)) ∙ fold-roll-Core calculus.Core core_step (Core-F.Delete at)

pub of_rename : (x : Core) (n : ℕ) (at : Span) → x ≡ Rename n at → core_of x ≡ rename at n
of_rename x n at e = ap core_of (e ∙ sym (rolls-Rename n at)) ∙ fold-roll-Core calculus.Core core_step (Core-F.Rename n at)

pub of_test : (x : Core) (t : Question) (s a : Core) (at : Span) → x ≡ Test t s at → a ≡ s → core_of x ≡ test at t (core_of a)
of_test x t s a at e f = ap core_of (e ∙ sym (rolls-Test t s at)) ∙ fold-roll-Core calculus.Core core_step (Core-F.Test t s at) ∙ ap (test at t) (ap core_of (sym f))

pub of_children : (x s a : Core) (at : Span) → x ≡ Children s at → a ≡ s → core_of x ≡ children at (core_of a)
of_children x s a at e f = ap core_of (e ∙ sym (rolls-Children s at)) ∙ fold-roll-Core calculus.Core core_step (Core-F.Children s at) ∙ ap (children at) (ap core_of (sym f))

pub of_left : (x s a : Core) (at : Span) → x ≡ Left s at → a ≡ s → core_of x ≡ left at (core_of a)
of_left x s a at e f = ap core_of (e ∙ sym (rolls-Left s at)) ∙ fold-roll-Core calculus.Core core_step (Core-F.Left s at) ∙ ap (left at) (ap core_of (sym f))

pub of_right : (x s a : Core) (at : Span) → x ≡ Right s at → a ≡ s → core_of x ≡ right at (core_of a)
of_right x s a at e f = ap core_of (e ∙ sym (rolls-Right s at)) ∙ fold-roll-Core calculus.Core core_step (Core-F.Right s at) ∙ ap (right at) (ap core_of (sym f))

pub of_iter : (x s a : Core) (at : Span) → x ≡ Iter s at → a ≡ s → core_of x ≡ iter at (core_of a)
of_iter x s a at e f = ap core_of (e ∙ sym (rolls-Iter s at)) ∙ fold-roll-Core calculus.Core core_step (Core-F.Iter s at) ∙ ap (iter at) (ap core_of (sym f))

pub of_call : (x : Core) (p : ℕ) (qs : List Query) (at : Span) → x ≡ Call p qs at → core_of x ≡ call at p (map query_of qs)
of_call x p qs at e = ap core_of (e ∙ sym (rolls-Call p qs at)) ∙ fold-roll-Core calculus.Core core_step (Core-F.Call p qs at)
