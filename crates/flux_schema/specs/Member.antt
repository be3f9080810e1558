-- Which forests are members of a type, and inclusion of types.
use Rattle.std.specs.Prelude.{◌≡◌, ◌↔◌, ℕ, Some}
use Rattle.flux_atom.specs.declared.atom.Atom.{Atom}
use Rattle.flux_atom.specs.declared.atom.AtomKind.{AtomKind}
use Rattle.flux_atom.specs.Atom.{kind_of}
use Rattle.flux_trees.specs.Hedge.{Plain, nil, elem, leaf, join}
use Rattle.flux_schema.specs.Ty.{Ty, empty, atom, element, any_element, seq, alt, star, named}
use Rattle.flux_schema.specs.Definitions.{Definitions, body_of}

pub data Member (defs : Definitions) : Plain → Ty → Type 0 where
  -- the empty forest
  in_empty : Member defs nil empty
  -- one atom of the kind
  in_atom : (x : Atom) {k : AtomKind} → kind_of x ≡ k → Member defs (leaf tt x nil) (atom k)
  -- one element with the label, whose content is a member
  in_element : (n : ℕ) {v : Plain} {t : Ty} →
      Member defs v t → Member defs (elem tt n v nil) (element n t)
  -- one element, of whatever label, whose content is a member
  in_any : (n : ℕ) {v : Plain} {t : Ty} →
      Member defs v t → Member defs (elem tt n v nil) (any_element t)
  -- a member of the first and then one of the second
  in_seq : {z : Plain} (v w : Plain) {t u : Ty} →
      join v w ≡ z → Member defs v t → Member defs w u → Member defs z (seq t u)
  -- a member of either
  in_left : {v : Plain} {t : Ty} (u : Ty) → Member defs v t → Member defs v (alt t u)
  in_right : {v : Plain} (t : Ty) {u : Ty} → Member defs v u → Member defs v (alt t u)
  -- members joined: none, or one and then others
  in_done : (t : Ty) → Member defs nil (star t)
  in_more : {z : Plain} (v w : Plain) {t : Ty} →
      join v w ≡ z → Member defs v t → Member defs w (star t) → Member defs z (star t)
  -- a member of the body
  in_name : {v : Plain} (x : ℕ) {t : Ty} →
      body_of defs x ≡ Some t → Member defs v t → Member defs v (named x)

-- each member of the first is a member of the second
abbrev pub Included : Definitions → Ty → Ty → Type 0
Included defs t u = (v : Plain) → Member defs v t → Member defs v u

-- the two have the same members
abbrev pub SameMembers : Definitions → Ty → Ty → Type 0
SameMembers defs t u = (v : Plain) → Member defs v t ↔ Member defs v u
