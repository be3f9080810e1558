-- A decider by goals, as contracts see it.
use Rattle.std.specs.Prelude.{ℕ, List, [], Vec, Option, Some, None, map, All, refl}
use Rattle.std.specs.Coded.{Coded, code_by, coded×, coded_list, coded_ℕ}
use Rattle.std.specs.declared.alloc.Global.{Global}
use Rattle.flux_trees.specs.Draft.{Draft}
use Rattle.flux_schema.specs.Ty.{Ty}
use Rattle.flux_schema.specs.TyCode.{ty_code}
use Rattle.flux_schema.specs.Definitions.{Definitions}
use Rattle.flux_schema.specs.DefinitionCodes.{definitions_code}
use Rattle.flux_schema.specs.Labels.{BodiesLack}
use Rattle.flux_schema.specs.Member.{Included}
use Rattle.flux_types.specs.Read.{ty_of}
use Rattle.flux_types.specs.Verdicts.{TypePair, IsKnownPair, IsEvidence}
use Rattle.flux_goals.specs.declared.pairs.Pair.{Pair}

-- the definitions, a label that stands for those that no type names, and the pairs of which it
-- remembers that the first is included in the second
pub record Known : Type 0 where
  pub definitions : Definitions
  pub other : ℕ
  pub pairs : List TypePair

abbrev pub pair_of : Pair → TypePair
pair_of p = (ty_of p.left, ty_of p.right)

-- none before the first is kept
abbrev pub pairs_of : Option (Vec Pair Global) → List TypePair
pairs_of None = []
pairs_of (Some ps) = map pair_of ps.items

-- the names in both are those of definitions, and the first is included in the second
abbrev pub IsIncludedPair : Definitions → TypePair → Type 0
IsIncludedPair defs p = IsKnownPair defs p × Included defs p.0 p.1

-- what a decider keeps
pub record IsKept (defs : Definitions) (other : ℕ) (ps : List TypePair) : Type 0 where
  pub lacks : BodiesLack other defs
  pub included : All (IsIncludedPair defs) ps

-- none: inclusion; else a forest against it
abbrev pub IsAnswer : Definitions → ℕ → Ty → Ty → Option (Draft (Unit {0})) → Type 0
IsAnswer defs other t u None = Included defs t u
IsAnswer defs other t u (Some f) = IsEvidence defs other t u f

-- ---- codes

abbrev pub known_code : Coded Known
known_code =
    code_by (Definitions × (ℕ × List (Ty × Ty)))
    (coded× definitions_code (coded× coded_ℕ (coded_list (coded× ty_code ty_code))))
    (λ k. (k.definitions, (k.other, k.pairs)))
    (λ p. record { definitions = p.0; other = p.1.0; pairs = p.1.1 })
    (λ _. refl)
