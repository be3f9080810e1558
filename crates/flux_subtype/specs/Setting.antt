-- What a decider by profiles is made with.
use Rattle.std.specs.Prelude.{ℕ, refl}
use Rattle.std.specs.Coded.{Coded, code_by, coded×, coded_ℕ}
use Rattle.flux_schema.specs.Definitions.{Definitions}
use Rattle.flux_schema.specs.DefinitionCodes.{definitions_code}

-- the definitions, and a label that stands for those that no type names
pub record Setting : Type 0 where
  pub definitions : Definitions
  pub other : ℕ

abbrev pub setting_code : Coded Setting
setting_code =
    code_by (Definitions × ℕ) (coded× definitions_code coded_ℕ)
    (λ s. (s.definitions, s.other)) (λ p. record { definitions = p.0; other = p.1 }) (λ _. refl)
