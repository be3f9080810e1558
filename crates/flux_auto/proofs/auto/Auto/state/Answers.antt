use Rattle.std.proofs.Common.{◌∙◌, ◌<◌, subst, ap, refl, arith, length, IfSome, slice_get, get_or, ℕ}
use Rattle.std.proofs.lemmas.Option.{slice_get_read}
use Rattle.flux_types.specs.Read.{ty_of}
use Rattle.flux_auto.specs.declared.auto.Added.{Added}
use Rattle.flux_auto.specs.Automaton.{Automaton, TakesMembers}
use Rattle.flux_auto.proofs.Meaning.{length-map}
use Rattle.flux_auto.proofs.Adding.{members_shown}
use Rattle.flux_auto.proofs.auto.Auto.state.Goals as goal

pub returns-clause-members : goal.returns-clause-members
returns-clause-members c =
    let added = c.self.inside.added.items in
    let within : c.args.start < length added = omega (arith, c.requires, ap (λ (a : Automaton). length a.types) c.self.view_is, length-map (λ (d : Added). ty_of d.ty) added) in
    let is = slice_get_read added _ c.args.start c.index.result.now refl within (c.index.ensures ∙ ap (λ (i : ℕ). get_or added i c.index.result.now) c.start.view_is) in
    subst (λ (a : Automaton). IfSome (slice_get a.types c.args.start) (TakesMembers a c.index.result.now.state)) c.self.view_is
    (members_shown c.self.inside.defs c.self.inside.other c.self.inside.nullable.items c.self.inside.table added c.args.start c.index.result.now c.self.invariant is)
