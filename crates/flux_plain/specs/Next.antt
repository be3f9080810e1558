-- The next of several trees that are treated one by one.
use Rattle.std.specs.Prelude.{◌≡◌, ℕ, List, [], ◌∷◌, ◌++◌}
use Rattle.std.proofs.Common.{reverse}
use Rattle.flux_trees.specs.Hedge.{Plain, size, first, others}
use Rattle.flux_forest.specs.declared.node.Node.{Node}
use Rattle.flux_forest.specs.Flat.{flat}
use Rattle.flux_plain.specs.declared.step.Step.{Step}
use Rattle.flux_plain.specs.declared.step.Step.TheVariants.{Each as EachStep}

-- these trees stand first of all that is on the right, whose nodes go from the last to the first
pub record StandFirst (rest : Plain) (right : List Node) : Type 0 where
  pub behind : List Node
  pub right_is : reverse right ≡ flat rest ++ behind

-- the last step brings these trees back
pub record BringsBack (rest : Plain) (steps outer : List Step) (start : ℕ) : Type 0 where
  pub steps_are : steps ≡ outer ++ EachStep start (size rest) ∷ []

-- n nodes are those of the first tree of the rest, which the last step doesn't bring back any more
abbrev pub TakesNext : List Node → List Step → List Step → ℕ → Type 0
TakesNext right old new n =
    (rest : Plain) (outer : List Step) (start : ℕ) →
    StandFirst rest right → BringsBack rest old outer start →
    (n ≡ size (first rest)) × BringsBack (others rest) new outer start
