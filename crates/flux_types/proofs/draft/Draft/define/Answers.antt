use Rattle.std.proofs.Common.{◌≡◌, ◌∙◌, sym, subst, length, ap, arith}
use Rattle.flux_schema.specs.Ty.{NamesBelow}
use Rattle.flux_schema.specs.Definitions.{with_body, declared_names}
use Rattle.flux_types.specs.Kept.{declarations_of, IsDraft, IsBody}
use Rattle.flux_types.specs.Indices.{Locates}
use Rattle.flux_types.specs.Read.{ty_of}
use Rattle.flux_types.proofs.KeptLaws.{IsDraft-with_body, names-with_body, take_whole}
use Rattle.flux_types.proofs.draft.Draft.define.Goals as goal

pub invariant_of-self : goal.invariant_of-self
invariant_of-self c =
    let ds = declarations_of c.self.inside.entries.items in
    let t = ty_of c.args.body in
    let same : length c.put_body.new.entries ≡ c.self.inside.entries.len = omega (arith, c.put_body.auto.entries, c.deref_mut.ensures.len) in
    let made : declarations_of c.put_body.new.entries ≡ with_body ds c.args.index t = c.put_body.ensures ∙ ap (λ es. with_body (declarations_of es) c.args.index t) c.deref_mut.ensures.value in
    let fits : IsBody (length ds) t = record { known = subst (λ d. NamesBelow (length d) t) (sym c.self.view_is) c.requires.known; limits = c.requires.limits } in
    let whole = sym (take_whole c.put_body.new.entries _ c.self.inside.entries.len same) in (
      subst (λ es. IsDraft (declarations_of es)) whole (subst IsDraft (sym made) (IsDraft-with_body ds c.args.index t c.self.invariant.0 fits)),
      subst (λ es. Locates c.self.inside.indices.items (declared_names (declarations_of es))) whole
          (subst (λ d. Locates c.self.inside.indices.items (declared_names d)) (sym made) (subst (Locates c.self.inside.indices.items) (sym (names-with_body ds c.args.index t)) c.self.invariant.1)),
    )
