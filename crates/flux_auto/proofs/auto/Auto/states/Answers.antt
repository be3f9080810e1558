use Rattle.std.proofs.Common.{subst}
use Rattle.flux_auto.specs.Automaton.{Automaton, EdgesInside, EdgesGiven}
use Rattle.flux_auto.proofs.Meaning.{edges_inside}
use Rattle.flux_auto.proofs.Adding.{edges_given}
use Rattle.flux_auto.proofs.TakeLaws.{takes_by_edges}
use Rattle.flux_auto.proofs.auto.Auto.states.Goals as goal

pub returns-clause-edges : goal.returns-clause-edges
returns-clause-edges c = subst (λ (a : Automaton). EdgesInside a.states) c.self.view_is (edges_inside c.self.inside.defs c.self.inside.nullable.items c.self.inside.table c.self.invariant.complete)

pub returns-clause-law : goal.returns-clause-law
returns-clause-law c = takes_by_edges c.args.self.now.states

pub returns-clause-labels : goal.returns-clause-labels
returns-clause-labels c =
    subst (λ (a : Automaton). EdgesGiven a) c.self.view_is (edges_given c.self.inside.defs c.self.inside.nullable.items c.self.inside.other c.self.inside.table c.self.inside.added.items c.self.invariant)
