-- The place of a query, variant by variant.
use Rattle.std.proofs.Common.{◌≡◌, ◌∙◌, ℕ, List, [], ◌∷◌, map, refl, sym, ap}
use Rattle.flux_calculus.specs.declared.ask.Span.{Span}
use Rattle.flux_calculus.specs.Query as calculus
use Rattle.flux_calculus.specs.Query.{listed, place_of}
use Rattle.flux_query.specs.declared.query.Query.{Query}
use Rattle.flux_query.specs.declared.query.Query.TheVariants.{Concat}
use Rattle.flux_query.specs.Read.{query_of}
use Rattle.flux_query.proofs.Variants.{of_concat}

-- the place of queries one behind the other
place-listed : (at : Span) (qs : List calculus.Query) → place_of (listed at qs) ≡ at.from
place-listed at [] = refl
place-listed at (q ∷ qs) = refl

pub place_of_concat : (x : Query) (qs : List Query) (s : Span) → x ≡ Concat qs s → s.from ≡ place_of (query_of x)
place_of_concat x qs s e = sym (ap place_of (of_concat x qs s e) ∙ place-listed s (map query_of qs))

pub place_of_other : (x : Query) (q : calculus.Query) (at : ℕ) → query_of x ≡ q → place_of q ≡ at → at ≡ place_of (query_of x)
place_of_other x q at e f = sym (ap place_of e ∙ f)
