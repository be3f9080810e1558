use Rattle.std.proofs.Common.{◌<◌, ◌≤◌, ℕ, get_or, below_more, arith}
use Rattle.flux_schema.specs.Definitions.{body_of, Leads}
use Rattle.flux_schema.proofs.Ranks.{body_within}
use Rattle.flux_types.specs.Kept.{definitions_of}
use Rattle.flux_types.proofs.KeptLaws.{kept_here, length-definitions}
use Rattle.flux_types.proofs.RankLaws.{steps_below}
use Rattle.flux_types.proofs.search.never_rises.Goals as goal

pub loop-index-init : goal.loop-index-init
loop-index-init c = λ x lt. absurd (omega (arith, lt))

pub loop-index-preserved : goal.loop-index-preserved
loop-index-preserved c =
    let kept = c.args.kept.now in
    let rank : ℕ → ℕ = λ z. get_or c.args.ranks.now z 0 in
    let i = c.loop-index.index in
    let at = c.index-kept-index in
    below_more (λ x. (y : ℕ) → Leads (body_of (definitions_of kept)) x y → rank y ≤ rank x) i c.loop-index.invariant
    (λ y l.
    let lt : rank y < c.saturating_add-bound.result = steps_below rank (body_of (definitions_of kept)) _ i y _ (kept_here kept i at.result c.loop-index-test.true at.is) (c.are_below.ensures.0 c.if-not-are_below.false) l in
    omega (arith, lt, c.rank_of.ensures, c.saturating_add-bound.ensures))

pub returns : goal.returns
returns c = λ t x y l. c.loop-index.invariant x (omega (arith, body_within (definitions_of c.args.kept.now) x l.0 l.1, length-definitions c.args.kept.now, c.loop-index-test.false)) y l
