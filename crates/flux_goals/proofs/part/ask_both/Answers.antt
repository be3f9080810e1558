use Rattle.std.proofs.Common.{◌∙◌, length, sym, subst, inl, inr}
use Rattle.flux_goals.specs.Goals.{AllBelow}
use Rattle.flux_goals.specs.Table.{Fine, IsAsked}
use Rattle.flux_goals.proofs.part.ask_both.Goals as goal

pub ask-requires-clause-right : goal.ask-requires-clause-right
ask-requires-clause-right c = subst (AllBelow (length c.args.auto.now.states)) (sym (c.in_ok-inner.ensures ∙ c.deref.ensures.value)) c.requires.parting.inner

pub ask-requires-2-clause-right : goal.ask-requires-2-clause-right
ask-requires-2-clause-right c = subst (AllBelow (length c.args.auto.now.states)) (sym (c.in_ok-outer.ensures ∙ c.deref-2.ensures.value)) c.requires.parting.outer

pub returns-in_default-clause-asked : goal.returns-in_default-clause-asked
returns-in_default-clause-asked c =
    inl (subst (Fine c.args.auto.now.states c.ask.new.table.goals.entries c.args.element.now.content) (c.in_ok-inner.ensures ∙ c.deref.ensures.value)
    (subst (IsAsked c.args.auto.now.states c.ask.new.table.goals.entries c.ask.new.table.shown.items c.args.element.now.content c.in_ok-inner.inner.items) c.in_default.is c.in_ok-first.ensures.asked))

pub returns-in_default-2-clause-asked : goal.returns-in_default-2-clause-asked
returns-in_default-2-clause-asked c =
    inr (subst (Fine c.args.auto.now.states c.ask-2.new.table.goals.entries c.args.element.now.rest) (c.in_ok-outer.ensures ∙ c.deref-2.ensures.value)
    (subst (IsAsked c.args.auto.now.states c.ask-2.new.table.goals.entries c.ask-2.new.table.shown.items c.args.element.now.rest c.in_ok-outer.outer.items) c.in_default-2.is c.in_ok-second.ensures.asked))
