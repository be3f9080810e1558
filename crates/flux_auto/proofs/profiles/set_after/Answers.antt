use Rattle.std.proofs.Common.{◌≡◌, ◌∙◌, IfOk, List, Bool, subst}
use Rattle.flux_auto.specs.Profiles.{profiles_of}
use Rattle.flux_auto.proofs.Interning.{atom_turned, element_turned}
use Rattle.flux_auto.proofs.profiles.set_after.Goals as goal

pub returns-in-Atom : goal.returns-in-Atom
returns-in-Atom c =
    subst (λ (p : List Bool). IfOk c.fired.result (λ set. set ≡ p)) (atom_turned c.args.rows.now c.args.arcs.now (profiles_of c.args.profiles.now) c.args.turn.now c.in-Atom.kind c.in-Atom.rest c.for_kind.result.now c.set_at.result.now c.requires.index c.in-Atom.is c.for_kind.ensures c.set_at.ensures)
    c.fired.ensures

pub returns-in_ok-leaps-in-Elem : goal.returns-in_ok-leaps-in-Elem
returns-in_ok-leaps-in-Elem c =
    subst (λ (p : List Bool). IfOk c.fired-in-Elem.result (λ set. set ≡ p)) (element_turned c.args.rows.now c.args.arcs.now (profiles_of c.args.profiles.now) c.args.turn.now c.in-Elem.label c.in-Elem.content c.in-Elem.rest c.deref.result.now c.set_at-in-Elem.result.now c.set_at-in-Elem-2.result.now c.requires.index c.in-Elem.is
    (c.deref.ensures.value ∙ c.in_ok-leaps-in-Elem.ensures) c.set_at-in-Elem.ensures c.set_at-in-Elem-2.ensures) c.fired-in-Elem.ensures
