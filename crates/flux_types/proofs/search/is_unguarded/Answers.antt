use Rattle.std.proofs.Common.{ℕ, get_or}
use Rattle.flux_schema.specs.Definitions.{body_of}
use Rattle.flux_types.specs.Kept.{definitions_of}
use Rattle.flux_types.proofs.RankLaws.{no_return}
use Rattle.flux_types.proofs.search.is_unguarded.Goals as goal

pub returns-then-falls_from : goal.returns-then-falls_from
returns-then-falls_from c =
    let rank : ℕ → ℕ = λ z. get_or c.args.ranks.now z 0 in
    (λ t. cc, λ r. absurd (no_return rank (body_of (definitions_of c.args.kept.now)) c.args.index (c.requires.ranking c.if-is_ranking.true) (c.falls_from.ensures c.if-falls_from.true) r))
