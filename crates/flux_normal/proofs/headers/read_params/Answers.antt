use Rattle.std.proofs.Common.{refl}
use Rattle.flux_grammar.specs.declared.tree.ParamDef.{ParamDef}
use Rattle.flux_schema.specs.Definitions.{declared_names}
use Rattle.flux_normal.specs.Headers.{IsParamMade}
use Rattle.flux_normal.proofs.HeaderLaws.{made_begin, made_one, made_all, fine_one, fine_others}
use Rattle.flux_normal.proofs.headers.read_params.Goals as goal

pub made_within-requires : goal.made_within-requires
made_within-requires c =
    fine_one (declared_names c.args.known.now) (λ (q : ParamDef). q.ty) c.args.params.now c.loop-param.param-index c.param-item.result c.loop-param-test.true c.param-item.is c.loop-param.invariant.fine

pub loop-param-preserved : goal.loop-param-preserved
loop-param-preserved c = record {
  fine = fine_others (declared_names c.args.known.now) (λ (q : ParamDef). q.ty) c.args.params.now c.loop-param.param-index c.param-item.result c.loop-param-test.true c.param-item.is c.loop-param.invariant.fine;
  made = made_one (IsParamMade (declared_names c.args.known.now)) c.args.params.now c.loop-param.param-index c.param-item.result _ c.loop-param.made _ c.loop-param-test.true c.param-item.is (record { var = refl; ty = c.in_ok-ty.ensures }) c.in_ok-push.ensures.ok c.loop-param.invariant.made;
}

pub returns : goal.returns
returns c = made_all (IsParamMade (declared_names c.args.known.now)) c.args.params.now c.loop-param.param-index c.loop-param.made c.loop-param-test.false c.loop-param.invariant.made
