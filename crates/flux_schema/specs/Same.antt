-- Equality of kinds of atoms, and of types, as a test.
use Rattle.std.specs.Prelude.{ℕ, Bool, true, false, ◌&&◌, ◌==◌}
use Rattle.flux_atom.specs.declared.atom.AtomKind.{AtomKind}
use Rattle.flux_atom.specs.declared.atom.AtomKind.TheVariants as kind
use Rattle.flux_schema.specs.Ty.{Ty, empty, atom, element, any_element, seq, alt, star, named}

abbrev pub same_kind : AtomKind → AtomKind → Bool
same_kind kind.Bool kind.Bool = true
same_kind kind.Bool kind.Text = false
same_kind kind.Bool kind.Int = false
same_kind kind.Text kind.Bool = false
same_kind kind.Text kind.Text = true
same_kind kind.Text kind.Int = false
same_kind kind.Int kind.Bool = false
same_kind kind.Int kind.Text = false
same_kind kind.Int kind.Int = true

-- the empty type
abbrev pub is_empty : Ty → Bool
is_empty empty = true
is_empty (atom k) = false
is_empty (element n t) = false
is_empty (any_element t) = false
is_empty (seq t u) = false
is_empty (alt t u) = false
is_empty (star t) = false
is_empty (named x) = false

-- the atom type of the kind
abbrev pub is_atom_of : AtomKind → Ty → Bool
is_atom_of k empty = false
is_atom_of k (atom l) = same_kind k l
is_atom_of k (element n t) = false
is_atom_of k (any_element t) = false
is_atom_of k (seq t u) = false
is_atom_of k (alt t u) = false
is_atom_of k (star t) = false
is_atom_of k (named x) = false

-- an element type with the label, whose content passes
abbrev pub is_element_of : ℕ → (Ty → Bool) → Ty → Bool
is_element_of n p empty = false
is_element_of n p (atom k) = false
is_element_of n p (element m t) = (n == m) && p t
is_element_of n p (any_element t) = false
is_element_of n p (seq t u) = false
is_element_of n p (alt t u) = false
is_element_of n p (star t) = false
is_element_of n p (named x) = false

-- an element type of any label, whose content passes
abbrev pub is_any_of : (Ty → Bool) → Ty → Bool
is_any_of p empty = false
is_any_of p (atom k) = false
is_any_of p (element n t) = false
is_any_of p (any_element t) = p t
is_any_of p (seq t u) = false
is_any_of p (alt t u) = false
is_any_of p (star t) = false
is_any_of p (named x) = false

-- a sequence whose parts pass
abbrev pub is_seq_of : (Ty → Bool) → (Ty → Bool) → Ty → Bool
is_seq_of p q empty = false
is_seq_of p q (atom k) = false
is_seq_of p q (element n t) = false
is_seq_of p q (any_element t) = false
is_seq_of p q (seq t u) = p t && q u
is_seq_of p q (alt t u) = false
is_seq_of p q (star t) = false
is_seq_of p q (named x) = false

-- a choice whose parts pass
abbrev pub is_alt_of : (Ty → Bool) → (Ty → Bool) → Ty → Bool
is_alt_of p q empty = false
is_alt_of p q (atom k) = false
is_alt_of p q (element n t) = false
is_alt_of p q (any_element t) = false
is_alt_of p q (seq t u) = false
is_alt_of p q (alt t u) = p t && q u
is_alt_of p q (star t) = false
is_alt_of p q (named x) = false

-- a star whose part passes
abbrev pub is_star_of : (Ty → Bool) → Ty → Bool
is_star_of p empty = false
is_star_of p (atom k) = false
is_star_of p (element n t) = false
is_star_of p (any_element t) = false
is_star_of p (seq t u) = false
is_star_of p (alt t u) = false
is_star_of p (star t) = p t
is_star_of p (named x) = false

-- the name with the index
abbrev pub is_named : ℕ → Ty → Bool
is_named x empty = false
is_named x (atom k) = false
is_named x (element n t) = false
is_named x (any_element t) = false
is_named x (seq t u) = false
is_named x (alt t u) = false
is_named x (star t) = false
is_named x (named y) = x == y

-- whether two types are the same tree
abbrev pub same : Ty → Ty → Bool
same empty = is_empty
same (atom k) = is_atom_of k
same (element n t) = is_element_of n (same t)
same (any_element t) = is_any_of (same t)
same (seq t u) = is_seq_of (same t) (same u)
same (alt t u) = is_alt_of (same t) (same u)
same (star t) = is_star_of (same t)
same (named x) = is_named x
