use Rattle.std.proofs.Common.{sym, subst}
use Rattle.flux_nodes.specs.Tables.{IsUnlinked}
use Rattle.flux_nodes.proofs.NodeLaws.{taken-out}
use Rattle.flux_nodes.proofs.tests.take_out.Goals as goal

pub returns-clause-unlinked : goal.returns-clause-unlinked
returns-clause-unlinked c =
    subst (λ m. IsUnlinked m c.args.run) (sym (c.unlink_range.ensures c.requires)) (taken-out c.args.table.now c.args.run c.table_is_sound.ensures c.requires)
