use Rattle.std.proofs.Common.{◌≡◌, ◌∙◌, ◌++◌, ◌∷◌, [], subst, sym, ap, List, slice_get, Some, Bool}
use Rattle.flux_types.specs.Read.{ty_of}
use Rattle.flux_auto.specs.declared.auto.Added.{Added}
use Rattle.flux_auto.specs.Automaton.{Automaton, KeepsStates}
use Rattle.flux_auto.specs.Built.{states_of, Extended}
use Rattle.flux_auto.proofs.Meaning.{states_kept}
use Rattle.flux_auto.proofs.Adding.{right_as, right_more, starts_kept}
use Rattle.flux_auto.proofs.auto.Auto.add.Goals as goal
use Rattle.flux_auto.proofs.auto.Auto.add.Goals.{In_default}

pub invariant_of-self-in_err-state : goal.invariant_of-self-in_err-state
invariant_of-self-in_err-state c =
    right_as c.self.inside.defs c.self.inside.nullable.items c.self.inside.table c.extend_or_stay.new.table c.self.inside.added.items c.try_reserve.new.self.items c.in_err-state.ensures.cells c.in_err-state.ensures.rows c.in_ok-try_reserve.ensures.items c.self.invariant

-- the type that was added comes last
pushed : (c : In_default) → c.push.new.self.items ≡ c.self.inside.added.items ++ record { ty = c.in_ok-copied.copied; state = c.in_ok-state.state } ∷ []
pushed c = c.in_default.ensures.items ∙ ap (λ (l : List Added). l ++ record { ty = c.in_ok-copied.copied; state = c.in_ok-state.state } ∷ []) c.in_ok-try_reserve.ensures.items

extended : (c : In_default) → Extended c.self.inside.defs c.self.inside.nullable.items c.extend_or_stay.new.table (ty_of c.args.ty.now) c.in_ok-state.state
extended c = subst (λ (nullable : List Bool). Extended c.self.inside.defs nullable c.extend_or_stay.new.table (ty_of c.args.ty.now) c.in_ok-state.state) c.deref.ensures.value c.in_ok-state.ensures.ok

pub invariant_of-self-2 : goal.invariant_of-self-2
invariant_of-self-2 c =
    right_more c.self.inside.defs c.self.inside.nullable.items _ c.self.inside.table c.extend_or_stay.new.table c.self.inside.added.items c.push.new.self.items (record { ty = c.in_ok-copied.copied; state = c.in_ok-state.state }) (ty_of c.args.ty.now)
    c.self.invariant c.in_ok-state.ensures.grows (extended c) c.in_ok-state.ensures.labels (ap ty_of c.in_ok-copied.ensures) (pushed c)

pub returns-clause-states : goal.returns-clause-states
returns-clause-states c =
    subst (λ (a : Automaton). KeepsStates a.states (states_of c.extend_or_stay.new.table)) c.self.view_is
    (states_kept c.self.inside.defs c.self.inside.nullable.items c.self.inside.table c.extend_or_stay.new.table c.self.invariant.complete (extended c).complete c.in_ok-state.ensures.grows)

pub returns-clause-starts : goal.returns-clause-starts
returns-clause-starts c i s e =
    starts_kept c.self.inside.added.items c.push.new.self.items (record { ty = c.in_ok-copied.copied; state = c.in_ok-state.state }) i s (pushed c) (subst (λ (a : Automaton). slice_get a.starts i ≡ Some s) (sym c.self.view_is) e)
