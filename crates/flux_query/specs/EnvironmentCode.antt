-- The code of an environment.
use Rattle.std.specs.Prelude.{◌≡◌, ◌⊎◌, ℕ, refl}
use Rattle.std.proofs.Common.{inl, inr}
use Rattle.std.specs.Coded.{Coded, code_by, coded_ℕ, coded_list, coded⊎, coded×}
use Rattle.flux_trees.specs.HedgeCode.{plain_code}
use Rattle.flux_calculus.specs.declared.ask.Var.{Var}
use Rattle.flux_calculus.specs.declared.ask.Var.TheVariants.{Named, Made}
use Rattle.flux_calculus.specs.Query.{Environment}

abbrev from_var : Var → ℕ ⊎ ℕ
from_var (Named n) = inl n
from_var (Made i) = inr i

abbrev to_var : ℕ ⊎ ℕ → Var
to_var (inl n) = Named n
to_var (inr i) = Made i

pub to_var-from_var : (x : Var) → to_var (from_var x) ≡ x
to_var-from_var (Named n) = refl
to_var-from_var (Made i) = refl

-- the code of a variable
abbrev pub var_code : Coded Var
var_code = code_by (ℕ ⊎ ℕ) (coded⊎ coded_ℕ coded_ℕ) from_var to_var to_var-from_var

-- the code of an environment, from those of its variables and of their values
abbrev pub environment_code : Coded Environment
environment_code = coded_list (coded× var_code plain_code)
