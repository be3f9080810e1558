-- How much of a query there is to type.
use Rattle.std.proofs.Common.{ℕ, ◌≡◌, ◌≤◌, ◌+◌, List, [], ◌∷◌, ◌++◌, ap, arith}
use Rattle.flux_calculus.specs.declared.ask.Span.{Span}
use Rattle.flux_calculus.specs.Query as calculus
use Rattle.flux_calculus.specs.Query.{nothing, both, element, literal, variable, binding, choice, alike, less, child, filter, each}
use Rattle.flux_query.specs.declared.query.Query.{Query}
use Rattle.flux_query.specs.Read.{query_of, queries_of}

abbrev pub weight : calculus.Query → ℕ
weight (nothing at) = 1
weight (both at q r) = weight q + weight r + 1
weight (element at n q) = weight q + 1
weight (literal at x) = 1
weight (variable at x) = 1
weight (binding at x q r) = weight q + weight r + 1
weight (choice at c q r) = weight c + weight q + weight r + 1
weight (alike at q r) = weight q + weight r + 1
weight (less at q r) = weight q + weight r + 1
weight (child at x) = 1
weight (filter at q t) = weight q + 1
weight (each at x q r) = weight q + weight r + 1

abbrev pub weights : List Query → ℕ
weights [] = 0
weights (q ∷ qs) = weight (query_of q) + weights qs

pub weights-append : (xs ys : List Query) → weights (xs ++ ys) ≡ weights xs + weights ys
weights-append [] ys = omega arith
weights-append (x ∷ xs) ys = omega (arith, weights-append xs ys)

pub weight_last : (all left : List Query) (p : Query) → all ≡ left ++ p ∷ [] → weight (query_of p) ≤ weights all
weight_last all left p e = omega (arith, ap weights e, weights-append left (p ∷ []))

pub weight_inside : (all left fewer rest : List Query) (p : Query) → all ≡ left ++ rest → left ≡ fewer ++ p ∷ [] → weight (query_of p) ≤ weights all
weight_inside all left fewer rest p e f = omega (arith, ap weights e, weights-append left rest, ap weights f, weights-append fewer (p ∷ []))

listed_weight : (at : Span) (qs : List Query) → weights qs + 1 ≤ weight (queries_of at qs)
listed_weight at [] = omega arith
listed_weight at (q ∷ qs) = omega (arith, listed_weight at qs)

pub weights_below : (q : calculus.Query) (at : Span) (items qs : List Query) → q ≡ queries_of at items → qs ≡ items → weights qs + 1 ≤ weight q
weights_below q at items qs e f = omega (arith, ap weight e, ap weights f, listed_weight at items)

pub weight_pos : (q : calculus.Query) → 1 ≤ weight q
weight_pos (nothing at) = omega arith
weight_pos (both at q r) = omega arith
weight_pos (element at n q) = omega arith
weight_pos (literal at x) = omega arith
weight_pos (variable at x) = omega arith
weight_pos (binding at x q r) = omega arith
weight_pos (choice at c q r) = omega arith
weight_pos (alike at q r) = omega arith
weight_pos (less at q r) = omega arith
weight_pos (child at x) = omega arith
weight_pos (filter at q t) = omega arith
weight_pos (each at x q r) = omega arith
