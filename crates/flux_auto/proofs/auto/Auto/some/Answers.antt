use Rattle.std.proofs.Common.{◌∙◌, ◌<◌, IfSome, subst, ap, refl, arith, length, slice_get, get_or, map, ℕ, List}
use Rattle.std.proofs.lemmas.Option.{slice_get_read}
use Rattle.std.proofs.lemmas.Result.{IfOk-weaker}
use Rattle.flux_types.specs.Read.{ty_of}
use Rattle.flux_auto.specs.declared.auto.Added.{Added}
use Rattle.flux_auto.specs.declared.table.Row.{Row}
use Rattle.flux_auto.specs.Automaton.{Automaton, IsSomeMember}
use Rattle.flux_auto.specs.Built.{state_of}
use Rattle.flux_auto.specs.Witness.{IsTakenBy}
use Rattle.flux_auto.proofs.Meaning.{length-map}
use Rattle.flux_auto.proofs.Adding.{some_shown}
use Rattle.flux_auto.proofs.auto.Auto.some.Goals as goal

pub returns : goal.returns
returns c =
    let added = c.self.inside.added.items in
    let within : c.args.start < length added = omega (arith, c.requires, ap (λ (a : Automaton). length a.types) c.self.view_is, length-map (λ (d : Added). ty_of d.ty) added) in
    let is = slice_get_read added _ c.args.start c.index.result.now refl within (c.index.ensures ∙ ap (λ (i : ℕ). get_or added i c.index.result.now) c.start.view_is) in
    IfOk-weaker c.some_of.result _ _
    (λ found h. subst (λ (a : Automaton). IfSome (slice_get a.types c.args.start) (λ t. IsSomeMember a t found)) c.self.view_is
    (some_shown c.self.inside.defs c.self.inside.other c.self.inside.nullable.items c.self.inside.table added c.args.start c.index.result.now found c.self.invariant is
    (subst (λ (rows : List Row). IsTakenBy (map state_of rows) c.self.inside.other c.index.result.now.state found) c.as_slice-rows.ensures.value h)))
    c.some_of.ensures
