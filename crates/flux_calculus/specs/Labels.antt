-- Which labels stand in queries.
use Rattle.std.specs.Prelude.{ℕ}
use Rattle.flux_calculus.specs.declared.ask.Test.{Test}
use Rattle.flux_calculus.specs.declared.ask.Test.TheVariants.{Label, AnyElement, OfText, OfBool, OfInt}
use Rattle.flux_calculus.specs.Query.{Query, nothing, both, element, literal, variable, binding, choice, alike, less, child, filter, each}

module _ (P : ℕ → Type 0) where
  -- P holds of the label that the test asks for, if it asks for one
  abbrev pub EachLabelOfTest : Test → Type 0
  EachLabelOfTest (Label n) = P n
  EachLabelOfTest AnyElement = Unit {0}
  EachLabelOfTest OfText = Unit {0}
  EachLabelOfTest OfBool = Unit {0}
  EachLabelOfTest OfInt = Unit {0}

  -- P holds of each label that stands in the query, in an element or in a test
  abbrev pub EachLabelOfQuery : Query → Type 0
  EachLabelOfQuery (nothing at) = Unit {0}
  EachLabelOfQuery (both at q r) = EachLabelOfQuery q × EachLabelOfQuery r
  EachLabelOfQuery (element at n q) = P n × EachLabelOfQuery q
  EachLabelOfQuery (literal at x) = Unit {0}
  EachLabelOfQuery (variable at x) = Unit {0}
  EachLabelOfQuery (binding at x q r) = EachLabelOfQuery q × EachLabelOfQuery r
  EachLabelOfQuery (choice at c q r) = EachLabelOfQuery c × EachLabelOfQuery q × EachLabelOfQuery r
  EachLabelOfQuery (alike at q r) = EachLabelOfQuery q × EachLabelOfQuery r
  EachLabelOfQuery (less at q r) = EachLabelOfQuery q × EachLabelOfQuery r
  EachLabelOfQuery (child at x) = Unit {0}
  EachLabelOfQuery (filter at q t) = EachLabelOfQuery q × EachLabelOfTest t
  EachLabelOfQuery (each at x q r) = EachLabelOfQuery q × EachLabelOfQuery r
