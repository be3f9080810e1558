use Rattle.std.proofs.Common.{ap, ◌∙◌, ◌<◌, length, arith}
use Rattle.flux_trees.specs.Draft.{end, depth}
use Rattle.flux_forest.proofs.Steps.{laid_out, end_step, last_lt, depth-length, draft_of-laid_out}
use Rattle.flux_forest.proofs.forest.Forest.end_element.Goals as goal
use Rattle.flux_forest.proofs.forest.Forest.end_element.Goals.{After-len}

at_lt : (c : After-len) → c.in-Some.at < length c.self.inside.nodes.items
at_lt c =
    last_lt c.pop.new.self.items c.in-Some.at c.self.invariant (omega (arith, ap depth c.self.view_is)) c.in-Some.ensures.items

pub overflow_sub-len : goal.overflow_sub-len
overflow_sub-len c = omega (arith, at_lt c)

pub index_mut-requires : goal.index_mut-requires
index_mut-requires c = omega (arith, at_lt (goal.at.index_mut-requires c).After-len)

pub invariant_of-self : goal.invariant_of-self
invariant_of-self c =
    laid_out (end_step c.self.invariant (omega (arith, ap depth c.self.view_is)) c.in-Some.at c.len.result c.index_mut.result.now c.in-Some.ensures.items (omega arith) c.index_mut.ensures.value)

pub returns-in-Some : goal.returns-in-Some
returns-in-Some c =
    draft_of-laid_out (end_step c.self.invariant (omega (arith, ap depth c.self.view_is)) c.in-Some.at c.len.result c.index_mut.result.now c.in-Some.ensures.items (omega arith) c.index_mut.ensures.value) ∙ ap end c.self.view_is

pub returns-in_default : goal.returns-in_default
returns-in_default c =
    absurd (omega (arith, depth-length c.self.invariant, ap depth c.self.view_is, c.in_default.ensures.cases.0))
