-- The environment that the bindings of this crate hold.
use Rattle.std.specs.Prelude.{◌≡◌, List, map, reverse, All}
use Rattle.flux_trees.specs.Hedge.{Plain}
use Rattle.flux_trees.specs.Draft.{outer, depth}
use Rattle.flux_calculus.specs.declared.ask.Var.{Var}
use Rattle.flux_calculus.specs.Query.{Environment}
use Rattle.flux_query.specs.declared.env.Binding.{Binding}

-- a variable and the trees that are bound to it
abbrev pub pair_of : Binding → Var × Plain
pair_of b = (b.var, outer b.value)

-- the last bound first
abbrev pub environment_of : List Binding → Environment
environment_of bs = reverse (map pair_of bs)

-- each forest is whole
abbrev pub AreWhole : List Binding → Type 0
AreWhole bs = All (λ b. depth b.value ≡ 0) bs
