use Rattle.std.proofs.Common.{◌-◌, ◌∷◌, ◌∙◌, refl, sym, ap, subst, arith, Some, IsSome}
use Rattle.flux_trees.specs.Draft.{outer}
use Rattle.flux_core.specs.declared.param.Param.{Param}
use Rattle.flux_calculus.specs.Query.{value}
use Rattle.flux_query.specs.Read.{query_of}
use Rattle.flux_run.proofs.Binding.{as_many, none_bound, has_value, binds_more}
use Rattle.flux_run.proofs.arguments.bound.Goals as goal

pub arguments-init : goal.arguments-init
arguments-init c = record {
  within = omega arith;
  same = refl;
  bound = none_bound c.args.env.now c.args.params.now c.args.args.now c.requires ∙ ap Some (sym c.new-bound.ensures);
}

pub eval-requires : goal.eval-requires
eval-requires c =
    subst (λ γ. IsSome (value γ (query_of c.index-args-left.result))) (sym c.arguments.invariant.same)
    (has_value c.args.env.now c.args.params.now c.args.args.now c.requires (c.arguments.left - 1) c.index-args-left.result (omega (arith, c.arguments.invariant.within, c.arguments-test.true)) c.index-args-left.is)

pub bounds-params-left : goal.bounds-params-left
bounds-params-left c = omega (arith, c.arguments.invariant.within, c.arguments-test.true, as_many c.args.env.now c.args.params.now c.args.args.now c.requires)

pub bounds-params-left-in_ok-value : goal.bounds-params-left-in_ok-value
bounds-params-left-in_ok-value c = omega (arith, c.arguments.invariant.within, c.arguments-test.true, as_many c.args.env.now c.args.params.now c.args.args.now c.requires)

pub arguments-preserved : goal.arguments-preserved
arguments-preserved c = record {
  within = omega (arith, c.arguments.invariant.within);
  same = c.eval.ensures.unchanged ∙ c.arguments.invariant.same;
  bound = binds_more c.args.env.now c.args.params.now c.args.args.now c.requires c.arguments.left c.index-params-left.result c.index-args-left.result _ _ _ c.arguments-test.true c.arguments.invariant.within c.index-params-left.is c.index-args-left.is
      (ap (λ γ. value γ (query_of c.index-args-left.result)) (sym c.arguments.invariant.same) ∙ c.in_ok-value.ensures.value) c.arguments.invariant.bound (c.in_ok-bind.ensures.ok ∙ ap (λ (p : Param). (p.var, outer c.in_ok-value.value) ∷ c.arguments.bound) (sym c.index-params-left.is));
}
