-- The code of a context.
use Rattle.std.specs.Coded.{Coded, coded_list, coded×}
use Rattle.flux_schema.specs.TyCode.{ty_code}
use Rattle.flux_query.specs.EnvironmentCode.{var_code}
use Rattle.flux_calculus.specs.Typing.{Context}

-- the code of a context, from those of its variables and of their types
abbrev pub context_code : Coded Context
context_code = coded_list (coded× var_code ty_code)
