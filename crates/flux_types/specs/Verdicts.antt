-- What a verdict on the inclusion of types says.
use Rattle.std.specs.Prelude.{◌≡◌, ℕ, [], ◌∷◌}
use Rattle.flux_trees.specs.Hedge.{Plain}
use Rattle.flux_trees.specs.Draft.{Draft, done}
use Rattle.flux_schema.specs.Ty.{Ty}
use Rattle.flux_schema.specs.Definitions.{Definitions, IsKnown}
use Rattle.flux_schema.specs.Member.{Member, Included}
use Rattle.flux_schema.specs.Labels.{IsLabelledBy}
use Rattle.flux_types.specs.declared.decider.Verdict.{Verdict}
use Rattle.flux_types.specs.declared.decider.Verdict.TheVariants.{Yes, No}

-- a type and one that it may be included in
abbrev pub TypePair : Type 0
TypePair = Ty × Ty

-- the names in both are those of definitions
abbrev pub IsKnownPair : Definitions → TypePair → Type 0
IsKnownPair defs p = IsKnown defs p.0 × IsKnown defs p.1

-- a whole forest that is a member of the first type and not of the second. Each of its labels is
-- `other`, or stands in a definition or in one of the types
pub record IsEvidence (defs : Definitions) (other : ℕ) (t u : Ty) (f : Draft (Unit {0})) :
    Type 0 where
  pub forest : Plain
  pub whole : f ≡ done forest
  pub member : Member defs forest t
  pub no_member : ¬ (Member defs forest u)
  pub labels : IsLabelledBy defs other (t ∷ u ∷ []) forest

-- inclusion, or a forest against it
abbrev pub IsVerdict : Definitions → ℕ → Ty → Ty → Verdict → Type 0
IsVerdict defs other t u Yes = Included defs t u
IsVerdict defs other t u (No f) = IsEvidence defs other t u f

abbrev pub IsYes : Verdict → Type 0
IsYes Yes = Unit {0}
IsYes (No f) = ⊥
