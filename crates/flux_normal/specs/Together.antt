-- Statements one behind the other as one statement.
use Rattle.std.specs.Prelude.{ℕ, List, [], ◌∷◌}
use Rattle.flux_calculus.specs.declared.ask.Span.{Span}
use Rattle.flux_calculus.specs.Core.{Core, in_order}
use Rattle.flux_grammar.specs.Grammar.{spanning}

abbrev pub end_of : Span → List Span → ℕ
end_of at [] = at.to
end_of at (next ∷ spans) = end_of next spans

-- from the start of the first to the end of the last
abbrev pub span_of_all : List Span → Span
span_of_all [] = spanning 0 0
span_of_all (at ∷ spans) = spanning at.from (end_of at spans)

-- one statement alone is that statement; the spans are those of the written ones
abbrev pub together_of : List Span → List Core → Core
together_of spans [] = in_order (span_of_all spans) []
together_of spans (s ∷ []) = s
together_of spans (s ∷ t ∷ ss) = in_order (span_of_all spans) (s ∷ t ∷ ss)
