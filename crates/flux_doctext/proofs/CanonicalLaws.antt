-- The canonical text spells its forest, and no other.
use Rattle.std.proofs.Common.{◌≡◌, ◌≢◌, ℕ, List, [], ◌++◌, codes, refl, sym, subst, append_assoc}
use Rattle.std.proofs.lemmas.List.{append-nil}
use Rattle.flux_atom.specs.declared.atom.Atom.{Atom}
use Rattle.flux_atom.specs.Names.{name_text, IsTable}
use Rattle.flux_atom.specs.Literal.{literal}
use Rattle.flux_atom.proofs.StandingLiterals.{canonical_literal}
use Rattle.flux_trees.specs.Hedge.{Plain, nil, elem, leaf, join}
use Rattle.flux_trees.proofs.HedgeLaws.{join-nil}
use Rattle.flux_trees.specs.Each.{EachLabel, EachAtom}
use Rattle.flux_doctext.specs.Text.{comma, trees_text, text, NamesLabel, IsProper}
use Rattle.flux_doctext.specs.Spells.{Spells, Spelled, whole, inside, trees, tree, none, some, nothing, something, last, more, element, atom}
use Rattle.flux_doctext.specs.Documents.{CanonicalTextSpells, SpelledForestIsUnique}
use Rattle.flux_doctext.proofs.ReadLaws.{spelled_once}
use Rattle.flux_doctext.proofs.SpelledLaws.{no_space}
use Rattle.flux_doctext.proofs.TextLaws.{NamesLabel-label, NamesLabel-found}

module _ (names : List (List ℕ)) where
  atom_spelled : (x : Atom) → IsProper x → Spelled names tree (literal x) (leaf tt x nil)
  atom_spelled x proper =
      atom [] (literal x) [] x no_space no_space (canonical_literal x proper) (append-nil (literal x))

  element_spelled : (a : ℕ) (c : Plain) → NamesLabel names a → Spelled names inside (trees_text names c) c → Spelled names tree (name_text names a ++ (codes "[" ++ (trees_text names c ++ codes "]"))) (elem tt a c nil)
  element_spelled a c is x =
      element [] (name_text names a) [] (trees_text names c) [] a no_space no_space no_space (NamesLabel-label names a is) (NamesLabel-found names a is) x refl

  -- a tree, and those behind it
  then_spelled : (bytes : List ℕ) (v r : Plain) → Spelled names tree bytes v → (r ≢ nil → Spelled names trees (trees_text names r) r) → Spelled names trees (bytes ++ (comma r ++ trees_text names r)) (join v r)
  then_spelled bytes v nil x xs =
      subst (λ l. Spelled names trees l (join v nil)) (sym (append-nil bytes)) (subst (Spelled names trees bytes) (sym (join-nil v)) (last x))
  then_spelled bytes v (elem n a c r) x xs =
      more bytes (trees_text names (elem tt a c r)) v (elem tt a c r) x (xs (λ e. cc)) refl refl
  then_spelled bytes v (leaf n y r) x xs =
      more bytes (trees_text names (leaf tt y r)) v (leaf tt y r) x (xs (λ e. cc)) refl refl

  inside_spelled : (c : Plain) → (c ≢ nil → Spelled names trees (trees_text names c) c) → Spelled names inside (trees_text names c) c
  inside_spelled nil xs = nothing no_space
  inside_spelled (elem n a c r) xs = something (some (xs (λ e. cc)))
  inside_spelled (leaf n y r) xs = something (some (xs (λ e. cc)))

  trees_spelled : (v : Plain) → EachLabel (NamesLabel names) v → EachAtom IsProper v → v ≢ nil → Spelled names trees (trees_text names v) v
  trees_spelled nil l p some_tree = absurd (some_tree refl)
  trees_spelled (elem n a c r) l p some_tree =
      subst (λ t. Spelled names trees t (elem tt a c r)) (regroup (name_text names a) (trees_text names c) (comma r) (trees_text names r)) (then_spelled (name_text names a ++ (codes "[" ++ (trees_text names c ++ codes "]"))) (elem tt a c nil) r (element_spelled a c l.0 (inside_spelled c (trees_spelled c l.1 p.0))) (trees_spelled r l.2 p.1))
    where
      regroup : (label inner between behind : List ℕ) → (label ++ (codes "[" ++ (inner ++ codes "]"))) ++ (between ++ behind) ≡ label ++ (codes "[" ++ (inner ++ (codes "]" ++ (between ++ behind))))
      regroup label inner between behind = simp append_assoc
  trees_spelled (leaf n x r) l p some_tree =
      then_spelled (literal x) (leaf tt x nil) r (atom_spelled x p.0) (trees_spelled r l p.1)

  text_spelled : (v : Plain) → EachLabel (NamesLabel names) v → EachAtom IsProper v → Spelled names whole (text names v) v
  text_spelled nil l p = none [] [] [] no_space no_space no_space refl
  text_spelled (elem n a c r) l p = some (trees_spelled (elem n a c r) l p (λ e. cc))
  text_spelled (leaf n x r) l p = some (trees_spelled (leaf n x r) l p (λ e. cc))

pub unique_forest : SpelledForestIsUnique
unique_forest names bytes v w x y = spelled_once names bytes v w x.table x.forest y.forest

pub text_spells : (names : List (List ℕ)) (v : Plain) → IsTable names → EachLabel (NamesLabel names) v → EachAtom IsProper v → Spells names (text names v) v
text_spells names v table labels atoms = record { table = table; forest = text_spelled names v labels atoms }

pub canonical_spells : CanonicalTextSpells
canonical_spells names v over =
    let x = text_spells names v over.table over.labels over.atoms in
    (x, λ w y. unique_forest names (text names v) w v y x)
