use Rattle.std.proofs.Common.{◌<◌, refl, sym, subst, inl, inr}
use Rattle.flux_schema.specs.Ty.{named}
use Rattle.flux_types.specs.Read.{ty_of}
use Rattle.flux_types.proofs.Variants.{of_named, of_atom, of_elem, of_any}
use Rattle.flux_types.proofs.DefsLaws.{Follows, follows_next, known_at_top, steps, steps-fall, self_atom, self_element, self_any}
use Rattle.flux_types.proofs.defs.single.Goals as goal

pub loop-ty-smaller : goal.loop-ty-smaller
loop-ty-smaller c =
    let defs = c.args.defs.now in
    let body = ty_of c.unfold-ty.result.now in
    let fewer : steps defs body < steps defs (named c.in-Named.index) = steps-fall defs c.unfold-ty.ensures.good c.in-Named.index body c.unfold-ty.ensures.body in
    subst (λ t. steps defs body < steps defs t) (sym (of_named c.loop-ty.ty.now c.in-Named.index c.in-Named.is)) fewer

pub loop-ty-preserved : goal.loop-ty-preserved
loop-ty-preserved c =
    let defs = c.args.defs.now in
    let body = ty_of c.unfold-ty.result.now in
    let so_far = subst (Follows defs (ty_of c.args.ty.now)) (of_named c.loop-ty.ty.now c.in-Named.index c.in-Named.is) c.loop-ty.invariant.0 in (
      follows_next defs (ty_of c.args.ty.now) c.in-Named.index body so_far c.unfold-ty.ensures.body,
      known_at_top defs body (c.unfold-ty.ensures.good.known c.in-Named.index body c.unfold-ty.ensures.body),
    )

pub returns-in-Atom : goal.returns-in-Atom
returns-in-Atom c =
    let ty = ty_of c.loop-ty.ty.now in
    elim c.in-Atom.is [
      | inl p ↦ record { found = c.loop-ty.invariant.0.there ty (self_atom c.args.defs.now ty p.0 (of_atom c.loop-ty.ty.now p.0 p.1)); none = tt }
      | inr (inl p) ↦ record { found = c.loop-ty.invariant.0.there ty (self_element c.args.defs.now ty p.0 (ty_of p.1) (of_elem c.loop-ty.ty.now p.0 p.1 p.1 p.2 refl)); none = tt }
      | inr (inr p) ↦ record { found = c.loop-ty.invariant.0.there ty (self_any c.args.defs.now ty (ty_of p.0) (of_any c.loop-ty.ty.now p.0 p.0 p.1 refl)); none = tt }
    ]
