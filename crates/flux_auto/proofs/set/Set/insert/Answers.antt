use Rattle.std.proofs.Common.{◌∙◌, ◌≡◌, sym, ap, length, true, arith}
use Rattle.std.proofs.lemmas.List.{set_past}
use Rattle.flux_auto.proofs.SetLaws.{length-flags, insert_packed, insert_is}
use Rattle.flux_auto.proofs.set.Set.insert.Goals as goal

pub invariant_of-self : goal.invariant_of-self
invariant_of-self c = insert_packed c.self.inside.words.items c.self.inside.count c.args.state c.index_mut.result.now c.self.invariant c.if-state-self.true c.index_mut.ensures.value

pub returns-then-state-self : goal.returns-then-state-self
returns-then-state-self c = insert_is c.self.inside.words.items c.self.inside.count c.args.state c.index_mut.result.now c.args.self.now c.self.invariant c.self.view_is c.if-state-self.true c.index_mut.ensures.value

pub returns-else-state-self : goal.returns-else-state-self
returns-else-state-self c =
    let past : length c.args.self.now ≡ c.self.inside.count = sym (ap length c.self.view_is) ∙ length-flags c.self.inside.words.items c.self.inside.count in
    sym (set_past c.args.self.now c.args.state true (omega (arith, past, c.if-state-self.false)))
