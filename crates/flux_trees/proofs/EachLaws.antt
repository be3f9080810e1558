-- What holds of each label and each atom of two forests holds of those of both in a row.
use Rattle.std.proofs.Common.{ℕ}
use Rattle.flux_atom.specs.declared.atom.Atom.{Atom}
use Rattle.flux_trees.specs.Hedge.{Hedge, nil, elem, leaf, join}
use Rattle.flux_trees.specs.Each.{EachLabel, EachAtom}

module _ {N : Type 0} where
  pub EachLabel-join : (P : ℕ → Type 0) (g h : Hedge N) → EachLabel P g → EachLabel P h → EachLabel P (join g h)
  EachLabel-join P nil h p q = q
  EachLabel-join P (elem n a c r) h p q = (p.0, p.1, EachLabel-join P r h p.2 q)
  EachLabel-join P (leaf n x r) h p q = EachLabel-join P r h p q

  pub EachAtom-join : (P : Atom → Type 0) (g h : Hedge N) → EachAtom P g → EachAtom P h → EachAtom P (join g h)
  EachAtom-join P nil h p q = q
  EachAtom-join P (elem n a c r) h p q = (p.0, EachAtom-join P r h p.1 q)
  EachAtom-join P (leaf n x r) h p q = (p.0, EachAtom-join P r h p.1 q)

  pub EachLabel-more : (P Q : ℕ → Type 0) → ((a : ℕ) → P a → Q a) → (h : Hedge N) → EachLabel P h → EachLabel Q h
  EachLabel-more P Q f nil p = tt
  EachLabel-more P Q f (elem n a c r) p = (f a p.0, EachLabel-more P Q f c p.1, EachLabel-more P Q f r p.2)
  EachLabel-more P Q f (leaf n x r) p = EachLabel-more P Q f r p
