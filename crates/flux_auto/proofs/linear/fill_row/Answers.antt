use Rattle.std.proofs.Common.{◌∙◌, true, subst}
use Rattle.flux_auto.specs.Built.{IsSet}
use Rattle.flux_auto.proofs.Tasks.{from_place}
use Rattle.flux_auto.proofs.linear.fill_row.Goals as goal

pub returns-clause-ok : goal.returns-clause-ok
returns-clause-ok c =
    subst (IsSet c.args.table.now c.set_row.new.table c.args.state true) (c.in_ok-own.ensures.items_if_clones_equal (λ x y e. e) ∙ from_place c.args.edges.now c.args.from) c.set_row.ensures
