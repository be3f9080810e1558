-- Values that are read where they stand.
use Rattle.std.specs.Prelude.{◌≡◌, Option, Some}
use Rattle.flux_trees.specs.Hedge.{Plain}
use Rattle.flux_trees.specs.Draft.{outer, depth}
use Rattle.flux_calculus.specs.Query.{Environment, found, and_value, content_of_one}
use Rattle.flux_query.specs.declared.value.Value.{Value}
use Rattle.flux_query.specs.declared.value.Value.TheVariants.{Bound, Inside, Own}

-- the trees that are bound to a variable, those inside the one tree bound to it, or trees apart
abbrev pub trees_of : Environment → Value → Option Plain
trees_of γ (Bound x) = found γ x
trees_of γ (Inside x) = and_value (found γ x) content_of_one
trees_of γ (Own d) = Some (outer d)

-- no element is begun in it
abbrev pub IsWholeValue : Value → Type 0
IsWholeValue (Bound x) = Unit {0}
IsWholeValue (Inside x) = Unit {0}
IsWholeValue (Own d) = depth d ≡ 0
