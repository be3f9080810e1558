-- What holds of each name of a query holds of each of its labels.
use Rattle.std.proofs.Common.{ℕ}
use Rattle.flux_calculus.specs.Labels.{EachLabelOfQuery}
use Rattle.flux_calculus.specs.Query.{Query, nothing, both, element, literal, variable, binding, choice, alike, less, child, filter, each}
use Rattle.flux_grammar.specs.NormalNames.{QueryNames}

module _ (P : ℕ → Type 0) where
  pub labels_of_query : (q : Query) → QueryNames P q → EachLabelOfQuery P q
  labels_of_query (nothing at) all = tt
  labels_of_query (both at q r) all = (labels_of_query q all.0, labels_of_query r all.1)
  labels_of_query (element at n q) all = (all.0, labels_of_query q all.1)
  labels_of_query (literal at x) all = tt
  labels_of_query (variable at x) all = tt
  labels_of_query (binding at x q r) all = (labels_of_query q all.1, labels_of_query r all.2)
  labels_of_query (choice at c q r) all =
      (labels_of_query c all.0, labels_of_query q all.1, labels_of_query r all.2)
  labels_of_query (alike at q r) all = (labels_of_query q all.0, labels_of_query r all.1)
  labels_of_query (less at q r) all = (labels_of_query q all.0, labels_of_query r all.1)
  labels_of_query (child at x) all = tt
  labels_of_query (filter at q t) all = (labels_of_query q all.0, all.1)
  labels_of_query (each at x q r) all = (labels_of_query q all.1, labels_of_query r all.2)
