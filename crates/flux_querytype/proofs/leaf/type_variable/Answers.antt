use Rattle.flux_querytype.proofs.Leaves.{where_found, variable_shared, variable_unbound}
use Rattle.flux_querytype.proofs.leaf.type_variable.Goals as goal

pub get_shared-requires : goal.get_shared-requires
get_shared-requires c = where_found _ (λ t f. (c.requires c.args.var.now t f).limits)

pub returns-in-Some : goal.returns-in-Some
returns-in-Some c =
    variable_shared c.args.defs.now c.args.gamma.now c.args.span.now c.args.var.now c.in_ok-bound.bound c.in-Some.made c.in_ok-bound.ensures c.in-Some.is

pub returns-in-None : goal.returns-in-None
returns-in-None c =
    variable_unbound c.args.defs.now c.args.gamma.now c.args.span.now c.args.var.now c.in_ok-bound.bound c.in_ok-bound.ensures c.in-None.is
