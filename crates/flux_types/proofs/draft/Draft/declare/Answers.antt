use Rattle.std.proofs.Common.{◌≡◌, ◌∙◌, ◌<◌, ◌-◌, ◌^◌, Some, None, sym, ap, subst, length, arith}
use Rattle.flux_schema.specs.Definitions.{declared_names}
use Rattle.flux_types.specs.Kept.{declarations_of, IsDraft}
use Rattle.flux_types.specs.Indices.{index_in, Locates}
use Rattle.flux_types.proofs.KeptLaws.{IsDraft-push, names-push, length-declarations, length-names}
use Rattle.flux_types.proofs.IndexLaws.{locates-same, locates-push, not_located}
use Rattle.flux_types.proofs.draft.Draft.declare.Goals as goal

pub invariant_of-self-2 : goal.invariant_of-self-2
invariant_of-self-2 c =
    let ds = declarations_of c.self.inside.entries.items in
    let few : length ds < 2 ^ 32 - 1 = rw c.self.view_is c.requires in
    let fresh = not_located c.self.inside.indices.items (declared_names ds) c.args.name _ c.self.invariant.1 (ap (λ ps. index_in ps c.args.name) c.deref.ensures.value) c.index_of.ensures c.in_default.is in
    let here : index_in c.set_index.new.indices.items c.args.name ≡ Some (length (declared_names ds)) =
    c.set_index.ensures.here ∙ ap Some (let e : c.len-index.result ≡ length (declared_names ds) = omega (arith, c.len-index.ensures, c.self.inside.entries.ok, length-declarations c.self.inside.entries.items, length-names ds) in e) in (
      subst IsDraft (sym c.in_ok-push_name.ensures.ok) (IsDraft-push ds c.args.name c.self.invariant.0 few fresh),
      subst (λ d. Locates c.set_index.new.indices.items (declared_names d)) (sym c.in_ok-push_name.ensures.ok)
          (subst (Locates c.set_index.new.indices.items) (sym (names-push ds record { name = c.args.name; body = None }))
          (locates-push c.make_room.new.indices.items c.set_index.new.indices.items (declared_names ds) c.args.name
          (locates-same c.self.inside.indices.items c.make_room.new.indices.items (declared_names ds) c.in_ok-make_room.ensures.same c.self.invariant.1) fresh here c.set_index.ensures.others)),
    )
