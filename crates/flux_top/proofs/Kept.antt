-- A deletion brings no label and no atom in.
use Rattle.std.proofs.Common.{ℕ, Bool, List, [], ◌∷◌}
use Rattle.flux_atom.specs.declared.atom.Atom.{Atom}
use Rattle.flux_atom.specs.declared.atom.Atom.TheVariants.{Bool as Truth}
use Rattle.flux_trees.specs.Hedge.{Plain, nil, elem, leaf}
use Rattle.flux_trees.specs.Each.{EachLabel, EachAtom}
use Rattle.flux_calculus.specs.Derives.{Derives}
use Rattle.flux_calculus.specs.Brings.{Holds, AllHold, CoreBrings, ProcsBring}
use Rattle.flux_calculus.proofs.EachLaws.{derives-holds}
use Rattle.flux_top.specs.Paths.{standard, delete_on}

module _ (P : ℕ → Type 0) (Q : Atom → Type 0) where
  deletion_brings : (path : List ℕ) → CoreBrings P Q (delete_on path)
  deletion_brings [] = tt
  deletion_brings (n ∷ []) = tt
  deletion_brings (n ∷ m ∷ path) = deletion_brings (m ∷ path)

  no_procs : ProcsBring P Q []
  no_procs p q e = cc

  none_bound : AllHold P Q []
  none_bound x v e = cc

  pub deletion_holds : ((b : Bool) → Q (Truth b)) → (path : List ℕ) {v w : Plain} → Derives [] standard [] v (delete_on path) w → Holds P Q v → Holds P Q w
  deletion_holds truths path d h = derives-holds P Q truths d no_procs none_bound (deletion_brings path) h

atoms_any : (v : Plain) → EachAtom (λ x. Unit {0}) v
atoms_any nil = tt
atoms_any (elem _ n c r) = (atoms_any c, atoms_any r)
atoms_any (leaf _ x r) = (tt, atoms_any r)

-- labels alone
pub deletion_labels : (P : ℕ → Type 0) (path : List ℕ) {v w : Plain} → Derives [] standard [] v (delete_on path) w → EachLabel P v → EachLabel P w
deletion_labels P path {v = v} d h = (deletion_holds P (λ x. Unit {0}) (λ b. tt) path d (h, atoms_any v)).0
