use Rattle.std.proofs.Common.{refl}
use Rattle.flux_types.specs.Read.{ty_of}
use Rattle.flux_auto.proofs.Items.{read_is}
use Rattle.flux_goals.proofs.GoalLaws.{both_values}
use Rattle.flux_goals.proofs.AnswerLaws.{has_contains, none_known, not_known}
use Rattle.flux_goals.proofs.pairs.is_among.Goals as goal

pub returns-then-is_pair : goal.returns-then-is_pair
returns-then-is_pair c =
    let p = c.index-pairs-index.result in
    ((λ _. has_contains c.args.pairs.now c.loop-index.index p (ty_of c.args.left.now, ty_of c.args.right.now) (read_is c.args.pairs.now c.loop-index.index p p c.loop-index-test.true c.index-pairs-index.is) (c.is_pair.ensures.0 c.if-is_pair.true)), (λ _. refl))

pub loop-index-preserved : goal.loop-index-preserved
loop-index-preserved c =
    let p = c.index-pairs-index.result in
    none_known c.args.pairs.now c.loop-index.index p (ty_of c.args.left.now, ty_of c.args.right.now) c.loop-index.invariant (read_is c.args.pairs.now c.loop-index.index p p c.loop-index-test.true c.index-pairs-index.is)
    (λ e. both_values c.is_pair.result (c.is_pair.ensures.1 e) c.if-is_pair.false)

pub returns : goal.returns
returns c = ((λ e. absurd (both_values _ e refl)), (λ h. absurd (not_known c.args.pairs.now c.loop-index.index (ty_of c.args.left.now, ty_of c.args.right.now) c.loop-index.invariant c.loop-index-test.false h)))
