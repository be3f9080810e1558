use Rattle.std.proofs.Common.{drop, map}
use Rattle.flux_grammar.specs.declared.tree.ParamDef.{ParamDef}
use Rattle.flux_schema.specs.Definitions.{declared_names}
use Rattle.flux_normal.specs.Headers.{IsParamMade}
use Rattle.flux_normal.specs.Types.{AreFine}
use Rattle.flux_normal.proofs.HeaderLaws.{MadeSoFar}
use Rattle.flux_normal.proofs.headers.read_params.Given as goal

abbrev pub invariant-loop-param : goal.invariant-loop-param
invariant-loop-param l = record {
  fine : AreFine (declared_names l.known) (map (λ (q : ParamDef). q.ty) (drop l.param-index l.params));
  made : MadeSoFar (IsParamMade (declared_names l.known)) l.params l.param-index l.made;
}
