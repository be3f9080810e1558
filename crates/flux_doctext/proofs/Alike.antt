-- Forests over two tables that are alike: of one shape, with the same text at each label and the same atoms.
use Rattle.std.proofs.Common.{◌≡◌, ℕ, List, ◌++◌, codes, refl}
use Rattle.flux_atom.specs.declared.atom.Atom.{Atom}
use Rattle.flux_atom.specs.Literal.{literal}
use Rattle.flux_trees.specs.Hedge.{Plain, nil, elem, leaf, join}
use Rattle.flux_doctext.specs.Text.{name_text, comma, trees_text, text}

pub data Alike (names others : List (List ℕ)) : Plain → Plain → Type 0 where
  alike_nil : Alike names others nil nil
  alike_elem : {a b : ℕ} {c d r s : Plain} → name_text names a ≡ name_text others b → Alike names others c d → Alike names others r s
      → Alike names others (elem tt a c r) (elem tt b d s)
  alike_leaf : {x y : Atom} {r s : Plain} → x ≡ y → Alike names others r s → Alike names others (leaf tt x r) (leaf tt y s)

module _ {names others : List (List ℕ)} where
  pub alike_join : {f g v w : Plain} → Alike names others f g → Alike names others v w → Alike names others (join f v) (join g w)
  alike_join alike_nil m = m
  alike_join (alike_elem label c r) m = alike_elem label c (alike_join r m)
  alike_join (alike_leaf atom r) m = alike_leaf atom (alike_join r m)

  comma_alike : {v w : Plain} → Alike names others v w → comma v ≡ comma w
  comma_alike alike_nil = refl
  comma_alike (alike_elem label c r) = refl
  comma_alike (alike_leaf atom r) = refl

  trees_alike : {v w : Plain} → Alike names others v w → trees_text names v ≡ trees_text others w
  trees_alike alike_nil = refl
  trees_alike (alike_elem label c r) =
      let inside = trees_alike c in
      let between = comma_alike r in
      let behind = trees_alike r in
      (λ i. label i ++ (codes "[" ++ (inside i ++ (codes "]" ++ (between i ++ behind i)))))
  trees_alike (alike_leaf atom r) =
      let between = comma_alike r in
      let behind = trees_alike r in
      (λ i. literal (atom i) ++ (between i ++ behind i))

  -- the texts of two forests that are alike are one
  pub alike_text : {v w : Plain} → Alike names others v w → text names v ≡ text others w
  alike_text alike_nil = refl
  alike_text (alike_elem label c r) = trees_alike (alike_elem label c r)
  alike_text (alike_leaf atom r) = trees_alike (alike_leaf atom r)
