-- What a Rust query is read as, variant by variant.
use Rattle.std.proofs.Common.{◌≡◌, ◌∙◌, ℕ, List, [], ◌∷◌, map, refl, sym, ap, ap₂}
use Rattle.flux_atom.specs.declared.atom.Atom.{Atom}
use Rattle.flux_calculus.specs.declared.ask.Test.{Test}
use Rattle.flux_calculus.specs.declared.ask.Var.{Var as Variable}
use Rattle.flux_calculus.specs.declared.ask.Span.{Span}
use Rattle.flux_calculus.specs.Query as calculus
use Rattle.flux_calculus.specs.Query.{listed, nothing, both, element, literal, variable, binding, choice, alike, less, child, filter, each}
use Rattle.flux_query.specs.declared.query.Query.{Query}
use Rattle.flux_query.specs.declared.query.Query.TheOpen.{Query-F}
use Rattle.flux_query.specs.declared.query.Query.TheFolds.{fold-roll-Query}
use Rattle.flux_query.specs.declared.query.Query.TheVariants.{Concat, Elem, Lit, Var, Let, If, Same, Less, Child, Filter, For, rolls-Concat, rolls-Elem, rolls-Lit, rolls-Var, rolls-Let, rolls-If, rolls-Same, rolls-Less, rolls-Child, rolls-Filter, rolls-For}
use Rattle.flux_query.specs.Read.{query_step, query_of, queries_of}

pub of_concat : (x : Query) (qs : List Query) (s : Span) → x ≡ Concat qs s → query_of x ≡ queries_of s qs
of_concat x qs s e = ap query_of (e ∙ sym (rolls-Concat qs s)) ∙ fold-roll-Query calculus.Query query_step (Query-F.Concat qs s)

pub of_elem : (x : Query) (n : ℕ) (q a : Query) (s : Span) → x ≡ Elem n q s → a ≡ q → query_of x ≡ element s n (query_of a)
of_elem x n q a s e f = ap query_of (e ∙ sym (rolls-Elem n q s)) ∙ fold-roll-Query calculus.Query query_step (Query-F.Elem n q s) ∙ ap (element s n) (ap query_of (sym f))

pub of_lit : (x : Query) (a : Atom) (s : Span) → x ≡ Lit a s → query_of x ≡ literal s a
of_lit x a s e = ap query_of (e ∙ sym (rolls-Lit a s)) ∙ fold-roll-Query calculus.Query query_step (Query-F.Lit a s)

pub of_var : (x : Query) (v : Variable) (s : Span) → x ≡ Var v s → query_of x ≡ variable s v
of_var x v s e = ap query_of (e ∙ sym (rolls-Var v s)) ∙ fold-roll-Query calculus.Query query_step (Query-F.Var v s)

pub of_let : (x : Query) (v : Variable) (q r a b : Query) (s : Span) → x ≡ Let v q r s → a ≡ q → b ≡ r → query_of x ≡ binding s v (query_of a) (query_of b)
of_let x v q r a b s e f g = ap query_of (e ∙ sym (rolls-Let v q r s)) ∙ fold-roll-Query calculus.Query query_step (Query-F.Let v q r s) ∙ ap₂ (binding s v) (ap query_of (sym f)) (ap query_of (sym g))

pub of_if : (x c q r d a b : Query) (s : Span) → x ≡ If c q r s → d ≡ c → a ≡ q → b ≡ r → query_of x ≡ choice s (query_of d) (query_of a) (query_of b)
of_if x c q r d a b s e h f g = ap query_of (e ∙ sym (rolls-If c q r s)) ∙ fold-roll-Query calculus.Query query_step (Query-F.If c q r s) ∙ cc (ap query_of (sym h), ap query_of (sym f), ap query_of (sym g))

pub of_same : (x q r a b : Query) (s : Span) → x ≡ Same q r s → a ≡ q → b ≡ r → query_of x ≡ alike s (query_of a) (query_of b)
of_same x q r a b s e f g = ap query_of (e ∙ sym (rolls-Same q r s)) ∙ fold-roll-Query calculus.Query query_step (Query-F.Same q r s) ∙ ap₂ (alike s) (ap query_of (sym f)) (ap query_of (sym g))

pub of_less : (x q r a b : Query) (s : Span) → x ≡ Less q r s → a ≡ q → b ≡ r → query_of x ≡ less s (query_of a) (query_of b)
of_less x q r a b s e f g = ap query_of (e ∙ sym (rolls-Less q r s)) ∙ fold-roll-Query calculus.Query query_step (Query-F.Less q r s) ∙ ap₂ (less s) (ap query_of (sym f)) (ap query_of (sym g))

pub of_child : (x : Query) (v : Variable) (s : Span) → x ≡ Child v s → query_of x ≡ child s v
of_child x v s e = ap query_of (e ∙ sym (rolls-Child v s)) ∙ fold-roll-Query calculus.Query query_step (Query-F.Child v s)

pub of_filter : (x q a : Query) (t : Test) (s : Span) → x ≡ Filter q t s → a ≡ q → query_of x ≡ filter s (query_of a) t
of_filter x q a t s e f = ap query_of (e ∙ sym (rolls-Filter q t s)) ∙ fold-roll-Query calculus.Query query_step (Query-F.Filter q t s) ∙ ap (λ b. filter s b t) (ap query_of (sym f))

pub of_for : (x : Query) (v : Variable) (q r a b : Query) (s : Span) → x ≡ For v q r s → a ≡ q → b ≡ r → query_of x ≡ each s v (query_of a) (query_of b)
of_for x v q r a b s e f g = ap query_of (e ∙ sym (rolls-For v q r s)) ∙ fold-roll-Query calculus.Query query_step (Query-F.For v q r s) ∙ ap₂ (each s v) (ap query_of (sym f)) (ap query_of (sym g))
