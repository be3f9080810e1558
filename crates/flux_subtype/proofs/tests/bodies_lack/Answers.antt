use Rattle.std.proofs.Common.{◌∙◌, sym, ap, subst, refl, inl, inr, arith}
use Rattle.flux_schema.specs.Definitions.{body_of}
use Rattle.flux_schema.specs.Labels.{Lacks}
use Rattle.flux_schema.proofs.Ranks.{body_within}
use Rattle.flux_types.specs.Read.{ty_of}
use Rattle.flux_auto.proofs.Items.{some_is, below_or_at}
use Rattle.flux_subtype.proofs.tests.bodies_lack.Goals as goal

pub loop-index-preserved : goal.loop-index-preserved
loop-index-preserved c = λ x t lt e. elim (below_or_at x c.loop-index.index lt) [
  | inl l ↦ c.loop-index.invariant x t l e
  | inr at ↦ subst (Lacks c.args.label) (some_is (ty_of c.unfold.result.now) t (sym c.unfold.ensures.body ∙ ap (body_of c.args.defs.now) (sym at) ∙ e)) (c.lacks.ensures c.if-not-lacks.false)
]

pub returns : goal.returns
returns c = λ _ x t e. c.loop-index.invariant x t (omega (arith, body_within c.args.defs.now x t e, c.loop-index-test.false, c.len-index-end.ensures.count)) e
