-- The maps of the rules of update typing are maps over a type.
use Rattle.std.proofs.Common.{◌≡◌, ℕ, refl, Result}
use Rattle.flux_trees.specs.Draft.{Draft}
use Rattle.flux_schema.specs.Ty.{Ty, empty, atom, element, any_element, seq, alt, star, named}
use Rattle.flux_schema.specs.Definitions.{Definitions}
use Rattle.flux_calculus.specs.Typing.{Context, Outcome, typed, IsAtomic}
use Rattle.flux_calculus.specs.Core.{Core, Procs}
use Rattle.flux_typing.specs.Update as update
use Rattle.flux_typing.specs.Update.{with_definitions, made, Has, stops, goes_on, of_map, at_atom, at_element, at_any}
use Rattle.flux_core.specs.declared.fault.KindFault.{KindFault}
use Rattle.flux_core.specs.declared.measured.Measured.{Measured}
use Rattle.flux_core.specs.Answers.{IsAnswer}
use Rattle.flux_core.specs.Map.{Mapped, of_tree, fault_of_tree, of_empty, of_seq, left_of_seq, right_of_seq, of_alt, left_of_alt, right_of_alt, of_star, inside_of_star, of_name}
use Rattle.flux_core.proofs.Replies.{answer_carried}
use Rattle.flux_check.specs.Answers.{Comes, MapComes}
use Rattle.flux_check.proofs.Rules.{concludes}

-- what comes of a tree
abbrev pub AtTree : Procs → Definitions → Context → Core → Ty → Outcome → Type 0
AtTree procs defs Γ s a o = Comes procs defs Γ a s o

module _ (procs : Procs) (defs : Definitions) (Γ : Context) (s : Core) (at : ℕ) where
  tree : (a : Ty) (b o : update.Outcome) → IsAtomic a → Has procs (update.of_core defs Γ a s) b → made at (λ u. u) b ≡ o → Has procs (of_map at defs Γ a s) o
  tree (atom k) b o i r c = at_atom r c
  tree (element n t) b o i r c = at_element r c
  tree (any_element t) b o i r c = at_any r c
  tree empty b o i r c = absurd i
  tree (seq t u) b o i r c = absurd i
  tree (alt t u) b o i r c = absurd i
  tree (star t) b o i r c = absurd i
  tree (named x) b o i r c = absurd i

  mapped : {t : Ty} {o : Outcome} → Mapped defs (AtTree procs defs Γ s) at t o → MapComes procs at defs Γ t s o
  mapped (of_tree {a} {t} {o} i r c) = tree a (update.typed t defs) (with_definitions defs o) i r (concludes defs at t o c)
  mapped (fault_of_tree {a} {f} i r) = tree a (update.faulty f) (update.faulty f) i r refl
  mapped of_empty = update.of_empty
  mapped (of_seq {t' = t'} {u'} {o} m k c) = update.of_seq (mapped m) (goes_on (mapped k)) (concludes defs at (seq t' u') o c)
  mapped (left_of_seq m) = update.of_seq (mapped m) stops refl
  mapped (right_of_seq m k) = update.of_seq (mapped m) (goes_on (mapped k)) refl
  mapped (of_alt {t' = t'} {u'} {o} m k c) = update.of_alt (mapped m) (goes_on (mapped k)) (concludes defs at (alt t' u') o c)
  mapped (left_of_alt m) = update.of_alt (mapped m) stops refl
  mapped (right_of_alt m k) = update.of_alt (mapped m) (goes_on (mapped k)) refl
  mapped (of_star {t' = t'} {o} m c) = update.of_star (mapped m) (concludes defs at (star t') o c)
  mapped (inside_of_star m) = update.of_star (mapped m) refl
  mapped (of_name e m) = update.of_name e (mapped m)

  pub map_typed : (t u : Ty) → Mapped defs (AtTree procs defs Γ s) at t (typed u) → MapComes procs at defs Γ t s (typed u)
  map_typed t u m = mapped m

  pub map_answer : (S : Ty → Ty → Draft (Unit {0}) → Type 0) (t : Ty) (r : Result Measured KindFault) → IsAnswer S (Mapped defs (AtTree procs defs Γ s) at t) r → IsAnswer S (MapComes procs at defs Γ t s) r
  map_answer S t r h = answer_carried S (Mapped defs (AtTree procs defs Γ s) at t) (MapComes procs at defs Γ t s) r (λ o m. mapped m) h
