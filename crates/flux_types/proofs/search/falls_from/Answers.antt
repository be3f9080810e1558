use Rattle.std.proofs.Common.{ℕ, get_or, subst}
use Rattle.flux_schema.specs.Definitions.{body_of}
use Rattle.flux_types.specs.Read.{ty_of}
use Rattle.flux_types.specs.Kept.{definitions_of}
use Rattle.flux_types.specs.Search.{RanksBelow}
use Rattle.flux_types.proofs.KeptLaws.{kept_at}
use Rattle.flux_types.proofs.RankLaws.{steps_below}
use Rattle.flux_types.proofs.search.falls_from.Goals as goal

pub returns : goal.returns
returns c =
    let kept = c.args.kept.now in
    let rank : ℕ → ℕ = λ z. get_or c.args.ranks.now z 0 in
    let at = c.index-kept-index in
    let body = ty_of (get_or kept c.args.index at.result).body in
    λ t y l. steps_below rank (body_of (definitions_of kept)) (rank c.args.index) c.args.index y body (kept_at kept c.args.index at.result c.requires at.is) (subst (λ n. RanksBelow rank n body) c.rank_of.ensures (c.are_below.ensures.0 t)) l
