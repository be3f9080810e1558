-- Values that are added to a forest.
use Rattle.std.specs.Prelude.{ℕ, ◌∷◌, Option}
use Rattle.std.specs.Option.{option_map}
use Rattle.flux_trees.specs.Hedge.{Plain, nil, elem, trees}
use Rattle.flux_trees.specs.Draft.{Draft, add}
use Rattle.flux_calculus.specs.declared.ask.Var.{Var}
use Rattle.flux_calculus.specs.Query.{Query, Environment, value, value_each}

-- a plain forest that is being written
abbrev pub PlainDraft : Type 0
PlainDraft = Draft (Unit {0})

-- the forest with the trees of a value added at the innermost place; none where there is no value
abbrev pub added : PlainDraft → Option Plain → Option PlainDraft
added d value = option_map (add d) value

-- a value as the content of an element
abbrev pub in_element : ℕ → Option Plain → Option Plain
in_element n value = option_map (λ v. elem tt n v nil) value

-- the value of a query where the variable is bound to these trees
abbrev pub value_under : Environment → Var → Query → Plain → Option Plain
value_under γ x r v = value ((x, v) ∷ γ) r

-- the values of a query where the variable is bound to each tree in turn, joined in order
abbrev pub values_under : Environment → Var → Query → Plain → Option Plain
values_under γ x r v = value_each (value_under γ x r) (trees v)
