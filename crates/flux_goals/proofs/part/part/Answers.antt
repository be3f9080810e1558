use Rattle.std.proofs.Common.{◌≡◌, length, subst, refl, arith}
use Rattle.flux_goals.specs.declared.part.Parting.{Parting}
use Rattle.flux_goals.specs.Table.{AreBothAsked, Branches}
use Rattle.flux_goals.proofs.Places.{none_left}
use Rattle.flux_goals.proofs.TableLaws.{asks_refl, asks_trans}
use Rattle.flux_goals.proofs.PartLaws.{covers_first, covers_cut, covers_branch, covers_all, parting_there, both_found, work_less, work_branch}
use Rattle.flux_goals.proofs.part.part.Goals as goal

pub loop-parting-init : goal.loop-parting-init
loop-parting-init c =
    let f : Parting = record { place = 0; inner = c.new.result; outer = c.new-2.result; taken = c.new-3.result } in
    record {
      table = c.requires.table;
      asks = asks_refl c.args.table.now;
      covers = covers_first (length c.args.auto.now.states) c.args.auto.now.states c.args.table.now.goals.entries c.args.element.now f c.new-partings.result.items c.push.new.self.items c.new-partings.ensures.items c.in_ok-push.ensures.items refl c.new.ensures.items c.new-2.ensures.items c.new-3.ensures.items;
    }

pub ask_both-requires-clause-parting : goal.ask_both-requires-clause-parting
ask_both-requires-clause-parting c = parting_there (length c.args.auto.now.states) c.args.auto.now.states c.loop-parting.table.goals.entries c.args.element.now c.in-Some.parting c.loop-parting.partings.items c.pop.new.self.items c.loop-parting.invariant.covers c.in-Some.ensures.items

pub returns-then-parting-len-clause-part : goal.returns-then-parting-len-clause-part
returns-then-parting-len-clause-part c =
    both_found (length c.args.table.now.goals.entries) (length c.args.auto.now.states) c.args.auto.now.states c.ask_both.new.table.goals.entries c.ask_both.new.table.shown.items c.args.element.now c.in-Some.parting c.in-Some-both.both.0 c.in-Some-both.both.1
    (parting_there (length c.args.auto.now.states) c.args.auto.now.states c.loop-parting.table.goals.entries c.args.element.now c.in-Some.parting c.loop-parting.partings.items c.pop.new.self.items c.loop-parting.invariant.covers c.in-Some.ensures.items)
    (omega (arith, c.if-parting-len.true, c.len-in-Some-both.ensures, c.args.element.now.ways.ok))
    (subst (AreBothAsked c.args.auto.now.states c.ask_both.new.table.goals.entries c.ask_both.new.table.shown.items c.args.element.now c.in-Some.parting) c.in-Some-both.is c.in_ok-both.ensures.asked)

pub branch-alloc-requires : goal.branch-alloc-requires
branch-alloc-requires c =
    let p = parting_there (length c.args.auto.now.states) c.args.auto.now.states c.loop-parting.table.goals.entries c.args.element.now c.in-Some.parting c.loop-parting.partings.items c.pop.new.self.items c.loop-parting.invariant.covers c.in-Some.ensures.items in
    let l = p.place in
    let e : length c.deref.result.now ≡ length c.args.element.now.ways.items = omega (arith, c.deref.ensures.len, c.args.element.now.ways.ok) in
    omega (arith, l, e, c.if-parting-len.false, c.len-in-Some-both.ensures, c.args.element.now.ways.ok)

pub loop-parting-smaller-in-Continue-branch-3 : goal.loop-parting-smaller-in-Continue-branch-3
loop-parting-smaller-in-Continue-branch-3 c = work_branch c.args.element.now.ways.items c.in-Some.parting c.loop-parting.partings.items c.pop.new.self.items c.branch-alloc.new.partings.items c.in-Some.ensures.items (subst (λ l. Branches l c.in-Some.parting c.pop.new.self.items c.branch-alloc.new.partings.items) c.deref.ensures.value c.in_ok-branch.ensures)

pub loop-parting-preserved-in-Continue-branch-3 : goal.loop-parting-preserved-in-Continue-branch-3
loop-parting-preserved-in-Continue-branch-3 c = record {
  table = c.in_ok-both.ensures.table;
  asks = asks_trans c.args.table.now c.loop-parting.table c.ask_both.new.table c.loop-parting.invariant.asks c.in_ok-both.ensures.asks;
  covers = covers_branch (length c.args.auto.now.states) c.args.auto.now.states c.loop-parting.table.goals.entries c.ask_both.new.table.goals.entries c.args.element.now c.in-Some.parting c.loop-parting.partings.items c.pop.new.self.items c.branch-alloc.new.partings.items c.in_ok-both.ensures.asks.goals c.requires.element.ways c.loop-parting.invariant.covers c.in-Some.ensures.items (subst (λ l. Branches l c.in-Some.parting c.pop.new.self.items c.branch-alloc.new.partings.items) c.deref.ensures.value c.in_ok-branch.ensures);
}

pub loop-parting-smaller : goal.loop-parting-smaller
loop-parting-smaller c = work_less c.args.element.now.ways.items c.in-Some.parting c.loop-parting.partings.items c.pop.new.self.items c.in-Some.ensures.items

pub loop-parting-preserved : goal.loop-parting-preserved
loop-parting-preserved c = record {
  table = c.in_ok-both.ensures.table;
  asks = asks_trans c.args.table.now c.loop-parting.table c.ask_both.new.table c.loop-parting.invariant.asks c.in_ok-both.ensures.asks;
  covers = covers_cut (length c.args.auto.now.states) c.args.auto.now.states c.loop-parting.table.goals.entries c.ask_both.new.table.goals.entries c.ask_both.new.table.shown.items c.args.element.now c.in-Some.parting c.loop-parting.partings.items c.pop.new.self.items c.in_ok-both.ensures.asks.goals c.loop-parting.invariant.covers c.in-Some.ensures.items
      (subst (AreBothAsked c.args.auto.now.states c.ask_both.new.table.goals.entries c.ask_both.new.table.shown.items c.args.element.now c.in-Some.parting) c.in_default-both.is c.in_ok-both.ensures.asked);
}

pub returns-clause-part : goal.returns-clause-part
returns-clause-part c = covers_all (length c.args.auto.now.states) (length c.args.table.now.goals.entries) c.args.auto.now.states c.loop-parting.table.goals.entries c.loop-parting.table.shown.items c.args.element.now c.loop-parting.partings.items c.loop-parting.invariant.covers (none_left c.loop-parting.partings.items (omega (arith, c.in_default.ensures.cases.0, c.loop-parting.partings.ok)))
