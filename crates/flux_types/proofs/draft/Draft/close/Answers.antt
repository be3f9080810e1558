use Rattle.std.proofs.Common.{◌≡◌, ◌∙◌, ap, subst, map, ℕ}
use Rattle.flux_schema.specs.Definitions.{as_declared, LacksBody, body_of, Reaches, IsFirst}
use Rattle.flux_types.specs.Kept.{declarations_of, definitions_of, IsDraft}
use Rattle.flux_types.proofs.KeptLaws.{known_made, kept_made, unguarded_made}
use Rattle.flux_types.proofs.draft.Draft.close.Goals as goal

pub first_unguarded-requires-clause-known : goal.first_unguarded-requires-clause-known
first_unguarded-requires-clause-known c =
    known_made (definitions_of c.deref-2.result.now) (declarations_of c.self.inside.entries.items) (ap (λ ks. map as_declared (definitions_of ks)) c.deref-2.ensures.value ∙ c.in_ok-kept.ensures) c.self.invariant.0

pub over-requires : goal.over-requires
over-requires c =
    let guarded : (x : ℕ) → Reaches (body_of (definitions_of c.deref-2.result.now)) x x → ⊥ = rw c.in-None.is at c.in_ok-index.ensures in
    kept_made (definitions_of c.in_ok-kept.kept.items) (declarations_of c.self.inside.entries.items) c.in_ok-kept.ensures c.self.invariant.0 (subst (λ ks. (x : ℕ) → Reaches (body_of (definitions_of ks)) x x → ⊥) c.deref-2.ensures.value guarded)

pub returns-in-Some-2-clause-fault : goal.returns-in-Some-2-clause-fault
returns-in-Some-2-clause-fault c =
    let none : (x : ℕ) → LacksBody (declarations_of c.deref.result.now) x → ⊥ = c.in_default.ensures.none in
    let bodies : (x : ℕ) → LacksBody c.args.self x → ⊥ = subst (λ ds. (x : ℕ) → LacksBody ds x → ⊥) (ap declarations_of c.deref.ensures.value ∙ c.self.view_is) none in
    let same : map as_declared (definitions_of c.deref-2.result.now) ≡ c.args.self = ap (λ ks. map as_declared (definitions_of ks)) c.deref-2.ensures.value ∙ c.in_ok-kept.ensures ∙ c.self.view_is in
    let first : IsFirst (λ y. Reaches (body_of (definitions_of c.deref-2.result.now)) y y) c.in-Some-2.index = rw c.in-Some-2.is at c.in_ok-index.ensures in
    (bodies, unguarded_made (definitions_of c.deref-2.result.now) c.args.self same (subst IsDraft c.self.view_is c.self.invariant.0) c.in-Some-2.index first)
