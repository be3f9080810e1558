-- The statements, the procedures and the parts of a script of the calculus that Rust ones spell.
use Rattle.std.specs.Prelude.{map, Option}
use Rattle.std.specs.Option.{option_map}
use Rattle.flux_schema.specs.Ty.{Ty}
use Rattle.flux_schema.specs.Definitions.{Definitions}
use Rattle.flux_types.specs.declared.ty.Ty.{Ty as Tree}
use Rattle.flux_types.specs.Read.{ty_of}
use Rattle.flux_calculus.specs.declared.ask.Var.{Var}
use Rattle.flux_calculus.specs.Core as calculus
use Rattle.flux_calculus.specs.Core.{skip, in_order, choice, binding, snapshot, insert, delete, rename, test, children, left, right, iter, call}
use Rattle.flux_query.specs.Read.{query_of}
use Rattle.flux_core.specs.declared.statement.Core.{Core}
use Rattle.flux_core.specs.declared.statement.Core.TheOpen.{Core-F}
use Rattle.flux_core.specs.declared.statement.Core.TheFolds.{fold-Core}
use Rattle.flux_core.specs.declared.param.Param.{Param}
use Rattle.flux_core.specs.declared.procs.Proc.{Proc}
use Rattle.flux_core.specs.declared.procs.Procs.{Procs}
use Rattle.flux_core.specs.declared.declared.Declared.{Declared}

-- each variant as the form of the same meaning, with its span
abbrev pub core_step : Core-F calculus.Core → calculus.Core
core_step (Core-F.Skip at) = skip at
core_step (Core-F.Seq ss at) = in_order at ss
core_step (Core-F.If c s r at) = choice at (query_of c) s r
core_step (Core-F.Let x q s at) = binding at x (query_of q) s
core_step (Core-F.Snapshot x s at) = snapshot at x s
core_step (Core-F.Insert q at) = insert at (query_of q)
core_step (Core-F.Delete at) = delete at
core_step (Core-F.Rename n at) = rename at n
core_step (Core-F.Test t s at) = test at t s
core_step (Core-F.Children s at) = children at s
core_step (Core-F.Left s at) = left at s
core_step (Core-F.Right s at) = right at s
core_step (Core-F.Iter s at) = iter at s
core_step (Core-F.Call p qs at) = call at p (map query_of qs)

abbrev pub core_of : Core → calculus.Core
core_of = fold-Core calculus.Core core_step

-- a parameter and its type
abbrev pub param_of : Param → Var × Ty
param_of p = (p.var, ty_of p.ty)

abbrev pub procedure_of : Proc → calculus.Proc
procedure_of p =
    record {
      name = p.name;
      params = map param_of p.params;
      focus = ty_of p.focus;
      result = ty_of p.result;
      result_at = p.result_at;
      body = core_of p.body;
    }

abbrev pub procs_of : Procs → calculus.Procs
procs_of ps = map procedure_of ps.list

abbrev pub declared_of : Declared → calculus.Declared
declared_of d = record { ty = ty_of d.ty; at = d.at }

-- the script of these parts
abbrev pub normal_from : Definitions → Procs → Tree → Option Declared → Core → calculus.Normal
normal_from defs procs input declared main =
    record {
      defs = defs;
      procs = procs_of procs;
      input = ty_of input;
      declared = option_map declared_of declared;
      main = core_of main;
    }
