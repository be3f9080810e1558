-- A label that doesn't stand in queries one behind the other stands in none of them.
use Rattle.std.proofs.Common.{◌≡◌, ◌∙◌, ℕ, List, [], ◌∷◌, ◌++◌, append_assoc, ap, sym, subst}
use Rattle.flux_calculus.specs.declared.ask.Span.{Span}
use Rattle.flux_calculus.specs.Query as calculus
use Rattle.flux_query.specs.declared.query.Query.{Query}
use Rattle.flux_query.specs.Read.{query_of, queries_of}
use Rattle.flux_querytype.specs.Answers.{QueryLacks}

pub lacks_listed : (n : ℕ) (q : calculus.Query) (at : Span) (items qs : List Query) → q ≡ queries_of at items → qs ≡ items → QueryLacks n q → QueryLacks n (queries_of at qs)
lacks_listed n q at items qs e f h =
    let P : calculus.Query → Type 0 = λ q. QueryLacks n q in
    subst P (e ∙ ap (queries_of at) (sym f)) h

lacks_split : (n : ℕ) (at : Span) (left rest : List Query) (p : Query) → QueryLacks n (queries_of at (left ++ p ∷ rest)) → QueryLacks n (query_of p)
lacks_split n at [] rest p h = h.0
lacks_split n at (q ∷ left) rest p h = lacks_split n at left rest p h.1

at_split : (n : ℕ) (at : Span) (all left rest : List Query) (p : Query) → all ≡ left ++ p ∷ rest → QueryLacks n (queries_of at all) → QueryLacks n (query_of p)
at_split n at all left rest p e h =
    let P : List Query → Type 0 = λ qs. QueryLacks n (queries_of at qs) in
    lacks_split n at left rest p (subst P e h)

pub lacks_last : (n : ℕ) (at : Span) (all left : List Query) (p : Query) → all ≡ left ++ p ∷ [] → QueryLacks n (queries_of at all) → QueryLacks n (query_of p)
lacks_last n at all left p e h = at_split n at all left [] p e h

pub lacks_inside : (n : ℕ) (at : Span) (all left fewer rest : List Query) (p : Query) → all ≡ left ++ rest → left ≡ fewer ++ p ∷ [] → QueryLacks n (queries_of at all) → QueryLacks n (query_of p)
lacks_inside n at all left fewer rest p e f h =
    at_split n at all fewer rest p (e ∙ ap (λ l. l ++ rest) f ∙ append_assoc fewer (p ∷ []) rest) h
