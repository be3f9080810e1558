use Rattle.std.proofs.Common.{arith, ap, ◌∙◌}
use Rattle.flux_plain.specs.NodeLabels.{relabelled_node}
use Rattle.flux_plain.proofs.LabelLaws.{past_the_end, set_is}
use Rattle.flux_plain.proofs.label.relabel.Goals as goal

pub returns-then-place-len-clause-nodes : goal.returns-then-place-len-clause-nodes
returns-then-place-len-clause-nodes c =
    set_is c.args.place c.args.label c.args.nodes.now.items c.index_mut.result.now _ (omega (arith, c.if-place-len.true))
    (c.relabel_node.ensures ∙ ap (relabelled_node c.args.label) c.index_mut.ensures.value)

pub returns-else-place-len-clause-nodes : goal.returns-else-place-len-clause-nodes
returns-else-place-len-clause-nodes c =
    past_the_end c.args.place c.args.label c.args.nodes.now.items (omega (arith, c.if-place-len.false))
