use Rattle.std.proofs.Common.{arith}
use Rattle.flux_auto.proofs.Blocks.{all_packed, all_is, last_packed, last_is, none_is}
use Rattle.flux_auto.proofs.set.Set.insert_all.Goals as goal

pub invariant_of-self : goal.invariant_of-self
invariant_of-self c = all_packed c.self.inside.words.items c.self.inside.count c.args.states.number c.args.states.bits c.index_mut.result.now c.self.invariant c.if-number-self.true (omega arith) c.index_mut.ensures.value

pub invariant_of-self-then-number-self-2 : goal.invariant_of-self-then-number-self-2
invariant_of-self-then-number-self-2 c =
    last_packed c.self.inside.words.items c.self.inside.count c.args.states.number c.args.states.bits c.index_mut-then-number-self-2.result.now c.self.invariant c.if-number-self-2.true c.index_mut-then-number-self-2.ensures.value

pub returns-then-number-self : goal.returns-then-number-self
returns-then-number-self c = all_is c.self.inside.words.items c.self.inside.count c.index_mut.result.now c.args.states c.args.self.now c.self.invariant c.self.view_is c.if-number-self.true c.index_mut.ensures.value

pub returns-then-number-self-2 : goal.returns-then-number-self-2
returns-then-number-self-2 c =
    last_is c.self.inside.words.items c.self.inside.count c.index_mut-then-number-self-2.result.now c.args.states c.args.self.now c.self.invariant c.self.view_is c.if-number-self-2.true c.index_mut-then-number-self-2.ensures.value

pub returns-else-number-self-2 : goal.returns-else-number-self-2
returns-else-number-self-2 c = none_is c.self.inside.words.items c.self.inside.count c.args.states c.args.self.now c.self.view_is (omega (arith, c.if-number-self.false, c.if-number-self-2.false))
