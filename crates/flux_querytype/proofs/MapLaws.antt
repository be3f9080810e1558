-- The maps of the rules of typing are maps over a type.
use Rattle.std.proofs.Common.{◌≡◌, ◌∷◌, ℕ, Bool, true, false, List, sym, subst, Result, if◌then◌else◌}
use Rattle.flux_trees.specs.Draft.{Draft}
use Rattle.flux_schema.specs.Ty.{Ty}
use Rattle.flux_schema.specs.Definitions.{Definitions}
use Rattle.flux_calculus.specs.Fault.{Fault, too_large}
use Rattle.flux_calculus.specs.Typing as rule
use Rattle.flux_calculus.specs.Typing.{Context, Treatment, Outcome, typed, faulty, is_within, concluded, IsAtomic, of_query, of_map, returning, keeping, kept, Types}
use Rattle.flux_core.specs.declared.fault.KindFault.{KindFault}
use Rattle.flux_core.specs.declared.measured.Measured.{Measured}
use Rattle.flux_core.specs.Answers.{IsAnswer}
use Rattle.flux_core.specs.Map.{Mapped, of_tree, fault_of_tree, of_empty, of_seq, left_of_seq, right_of_seq, of_alt, left_of_alt, right_of_alt, of_star, inside_of_star, of_name}
use Rattle.flux_core.specs.Walk.{Frame, AreToBeUsed}
use Rattle.flux_core.proofs.Replies.{answer_carried}

-- what comes of a tree: the type of a query with a variable of it, or what a test leaves of it
abbrev pub Treated : Definitions → ℕ → Treatment → Ty → Outcome → Type 0
Treated defs at (returning Γ x q) a o = Types defs (of_query ((x, a) ∷ Γ) q) o
Treated defs at (keeping p) a o = concluded at (kept p a) ≡ o

module _ (defs : Definitions) (at : ℕ) where
  concluded_by : (n : ℕ) (b : Bool) (t u : Ty) → (if b then typed t else faulty (too_large n)) ≡ typed u → t ≡ u
  concluded_by n true t u e = cc
  concluded_by n false t u e = cc

  tree : (f : Treatment) (a t : Ty) (o : Outcome) → IsAtomic a → Treated defs at f a (typed t) → concluded at t ≡ o → Types defs (of_map at f a) o
  tree (returning Γ x q) a t o i r c = rule.returns i r c
  tree (keeping p) a t o i r c =
      let P : Ty → Type 0 = λ w. concluded at w ≡ o in
      rule.keeps i (subst P (sym (concluded_by at (is_within (kept p a)) (kept p a) t r)) c)

  fault_tree : (f : Treatment) (a : Ty) (e : Fault) → IsAtomic a → Treated defs at f a (faulty e) → Types defs (of_map at f a) (faulty e)
  fault_tree (returning Γ x q) a e i r = rule.body_of_each i r
  fault_tree (keeping p) a e i r = rule.keeps i r

  pub mapped : (f : Treatment) {t : Ty} {o : Outcome} → Mapped defs (Treated defs at f) at t o → Types defs (of_map at f t) o
  mapped f (of_tree {a} {t} {o} i r c) = tree f a t o i r c
  mapped f (fault_of_tree {a} {f = e} i r) = fault_tree f a e i r
  mapped f of_empty = rule.of_empty
  mapped f (of_seq m k c) = rule.of_seq (mapped f m) (mapped f k) c
  mapped f (left_of_seq m) = rule.left_of_seq (mapped f m)
  mapped f (right_of_seq m k) = rule.right_of_seq (mapped f m) (mapped f k)
  mapped f (of_alt m k c) = rule.of_alt (mapped f m) (mapped f k) c
  mapped f (left_of_alt m) = rule.left_of_alt (mapped f m)
  mapped f (right_of_alt m k) = rule.right_of_alt (mapped f m) (mapped f k)
  mapped f (of_star m c) = rule.of_star (mapped f m) c
  mapped f (inside_of_star m) = rule.inside_of_star (mapped f m)
  mapped f (of_name e m) = rule.of_name e (mapped f m)

  pub answer_mapped : (S : Ty → Ty → Draft (Unit {0}) → Type 0) (f : Treatment) (t : Ty) (r : Result Measured KindFault) → IsAnswer S (Mapped defs (Treated defs at f) at t) r → IsAnswer S (Types defs (of_map at f t)) r
  answer_mapped S f t r h =
      let P : Outcome → Type 0 = λ o. Mapped defs (Treated defs at f) at t o in
      let Q : Outcome → Type 0 = λ o. Types defs (of_map at f t) o in
      answer_carried S P Q r (λ o m. mapped f m) h

-- what waits under the same definitions
pub waiting_as : (defs defs' : Definitions) (fs : List Frame) → defs' ≡ defs → AreToBeUsed defs' fs → AreToBeUsed defs fs
waiting_as defs defs' fs e h = let P : Definitions → Type 0 = λ d. AreToBeUsed d fs in subst P e h
