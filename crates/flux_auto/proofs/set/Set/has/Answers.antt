use Rattle.std.proofs.Common.{rules}
use Rattle.flux_auto.proofs.SetLaws.{has_test, past_test}
use Rattle.flux_auto.proofs.set.Set.has.Goals as goal

pub returns-then-state-self : goal.returns-then-state-self
returns-then-state-self c = has_test c.self.inside.words.items c.self.inside.count c.args.state c.index.result.now c.args.self.now c.self.invariant c.self.view_is c.if-state-self.true c.index.ensures

pub returns-else-state-self : goal.returns-else-state-self
returns-else-state-self c = past_test c.self.inside.words.items c.self.inside.count c.args.state _ c.args.self.now c.self.view_is (search rules) c.if-state-self.false
