use Rattle.std.proofs.Common.{Some, ◌∙◌, ap}
use Rattle.std.proofs.Math.ListN.{set}
use Rattle.flux_types.specs.Indices.{index_in}
use Rattle.flux_types.proofs.IndexLaws.{index_in-set, index_in-other}
use Rattle.flux_types.proofs.indices.set_index.Goals as goal

pub returns-clause-here : goal.returns-clause-here
returns-clause-here c = ap (λ k. index_in (set c.args.indices.now.items k (Some c.args.index)) c.args.name) c.number.ensures ∙ index_in-set c.args.indices.now.items c.args.name (Some c.args.index) c.requires

pub returns-clause-others : goal.returns-clause-others
returns-clause-others c = λ n ne. ap (λ k. index_in (set c.args.indices.now.items k (Some c.args.index)) n) c.number.ensures ∙ index_in-other c.args.indices.now.items c.args.name n (Some c.args.index) ne
