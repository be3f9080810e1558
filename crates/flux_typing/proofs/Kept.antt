-- None of today's rules adds definitions.
use Rattle.std.proofs.Common.{◌≡◌, ◌∙◌, refl}
use Rattle.flux_schema.specs.Ty.{Ty}
use Rattle.flux_schema.specs.Definitions.{Definitions}
use Rattle.flux_calculus.specs.Typing.{Context}
use Rattle.flux_calculus.specs.Core.{Core, Procs}
use Rattle.flux_typing.proofs.Typed.{Typed, Mapped, skips, ends, follows, chooses, binds, notes, inserts, deletes, renames, renames_any, tests, leaves, may_test, enters, enters_any, lefts, rights, iterates, calls, at_one, over_empty, over_seq, over_alt, over_star, over_name}

mutual
  pub kept : {procs : Procs} {Δ Δ' : Definitions} {Γ : Context} {t u : Ty} {s : Core} → Typed procs Δ Γ t s u Δ' → Δ' ≡ Δ
  kept skips = refl
  kept ends = refl
  kept (follows x y) = kept y ∙ kept x
  kept (chooses d i x y) = kept y ∙ kept x
  kept (binds d x) = kept x
  kept (notes x) = kept x
  kept (inserts i d) = refl
  kept deletes = refl
  kept (renames h) = refl
  kept (renames_any h) = refl
  kept (tests h e x) = kept x
  kept (leaves h e) = refl
  kept (may_test h e x) = kept x
  kept (enters h x) = kept x
  kept (enters_any h x) = kept x
  kept (lefts x) = kept x
  kept (rights x) = kept x
  kept (iterates x) = kept_map x
  kept (calls e r i) = refl

  pub kept_map : {procs : Procs} {Δ Δ' : Definitions} {Γ : Context} {t u : Ty} {s : Core} → Mapped procs Δ Γ t s u Δ' → Δ' ≡ Δ
  kept_map (at_one i x) = kept x
  kept_map over_empty = refl
  kept_map (over_seq x y) = kept_map y ∙ kept_map x
  kept_map (over_alt x y) = kept_map y ∙ kept_map x
  kept_map (over_star x) = kept_map x
  kept_map (over_name e x) = kept_map x
