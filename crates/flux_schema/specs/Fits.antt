-- Membership as a test that computes.
use Rattle.std.specs.Prelude.{◌↔◌, IsTrue, ℕ, ◌+◌, ◌*◌, zero, suc, Bool, true, false, ◌&&◌, ◌||◌, ◌==◌, length, Option, Some, None}
use Rattle.flux_atom.specs.declared.atom.AtomKind.{AtomKind}
use Rattle.flux_atom.specs.Atom.{kind_of}
use Rattle.flux_trees.specs.Hedge.{Plain, nil, elem, leaf}
use Rattle.flux_trees.specs.Hedge as hedge
use Rattle.flux_schema.specs.Ty.{Ty, empty, atom, element, any_element, seq, alt, star, named}
use Rattle.flux_schema.specs.Definitions.{Definitions, body_of}
use Rattle.flux_schema.specs.Member.{Member}
use Rattle.flux_schema.specs.Tidy.{same_kind}

abbrev pub is_nil : Plain → Bool
is_nil nil = true
is_nil _ = false

-- one atom of the kind
abbrev pub is_atom : AtomKind → Plain → Bool
is_atom k (leaf _ x nil) = same_kind (kind_of x) k
is_atom k _ = false

-- one element with the label, whose content passes
abbrev pub is_element : ℕ → (Plain → Bool) → Plain → Bool
is_element n p (elem _ m v nil) = (m == n) && p v
is_element n p _ = false

-- one element, of whatever label, whose content passes
abbrev pub is_any : (Plain → Bool) → Plain → Bool
is_any p (elem _ m v nil) = p v
is_any p _ = false

-- the forest can be split so that the two parts pass
abbrev pub any_split : (Plain → Plain → Bool) → Plain → Bool
any_split p nil = p nil nil
any_split p (elem n a c r) = p nil (elem n a c r) || any_split (λ v w. p (elem n a c v) w) r
any_split p (leaf n x r) = p nil (leaf n x r) || any_split (λ v w. p (leaf n x v) w) r

-- the forest is at most n forests that pass, joined
abbrev pub repeats : (Plain → Bool) → ℕ → Plain → Bool
repeats p zero z = is_nil z
repeats p (suc n) z = is_nil z || any_split (λ v w. p v && repeats p n w) z

-- a type, where q tests the names
abbrev pub fits : (ℕ → Plain → Bool) → Ty → Plain → Bool
fits q empty z = is_nil z
fits q (atom k) z = is_atom k z
fits q (element n t) z = is_element n (fits q t) z
fits q (any_element t) z = is_any (fits q t) z
fits q (seq t u) z = any_split (λ v w. fits q t v && fits q u w) z
fits q (alt t u) z = fits q t z || fits q u z
fits q (star t) z = repeats (fits q t) (hedge.size z) z
fits q (named x) z = q x z

abbrev pub body_fits : (ℕ → Plain → Bool) → Option Ty → Plain → Bool
body_fits q None z = false
body_fits q (Some t) z = fits q t z

-- a name, where names are unfolded at most n deep
abbrev pub name_fits : Definitions → ℕ → ℕ → Plain → Bool
name_fits defs zero x z = false
name_fits defs (suc n) x z = body_fits (name_fits defs n) (body_of defs x) z

-- whether a forest is a member: for each level of the forest, each name may be unfolded once
abbrev pub is_member : Definitions → Plain → Ty → Bool
is_member defs z t = fits (name_fits defs ((hedge.size z + 1) * (length defs + 1))) t z

-- the test answers membership
abbrev pub MembershipComputes : Definitions → Type 0
MembershipComputes defs = (z : Plain) (t : Ty) → IsTrue (is_member defs z t) ↔ Member defs z t
