-- The context that the bindings of this crate hold.
use Rattle.std.specs.Prelude.{List, map, reverse}
use Rattle.flux_schema.specs.Ty.{Ty}
use Rattle.flux_types.specs.Read.{ty_of}
use Rattle.flux_calculus.specs.declared.ask.Var.{Var}
use Rattle.flux_calculus.specs.Typing.{Context}
use Rattle.flux_core.specs.declared.binding.Binding.{Binding}

-- a variable and its type
abbrev pub pair_of : Binding → Var × Ty
pair_of b = (b.var, ty_of b.ty.value)

-- the last bound first
abbrev pub context_of : List Binding → Context
context_of bs = reverse (map pair_of bs)
