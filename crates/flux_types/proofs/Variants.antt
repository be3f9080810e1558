-- What a Rust type is read as, variant by variant.
use Rattle.std.proofs.Common.{◌≡◌, ℕ, ap, ap₂, sym, ◌∙◌}
use Rattle.flux_atom.specs.declared.atom.AtomKind.{AtomKind}
use Rattle.flux_schema.specs.Ty.{Ty, empty, atom, element, any_element, seq, alt, star, named}
use Rattle.flux_types.specs.declared.ty.Ty.{Ty as Tree}
use Rattle.flux_types.specs.declared.ty.Ty.TheOpen.{Ty-F}
use Rattle.flux_types.specs.declared.ty.Ty.TheFolds.{fold-roll-Ty}
use Rattle.flux_types.specs.declared.ty.Ty.TheVariants.{Empty, Atom, Elem, AnyElem, Seq, Alt, Star, Named, rolls-Empty, rolls-Atom, rolls-Elem, rolls-AnyElem, rolls-Seq, rolls-Alt, rolls-Star, rolls-Named}
use Rattle.flux_types.specs.Read.{ty_of, ty_step}

pub of_empty : (x : Tree) → x ≡ Empty → ty_of x ≡ empty
of_empty x e = ap ty_of (e ∙ sym rolls-Empty) ∙ fold-roll-Ty Ty ty_step Ty-F.Empty

pub of_atom : (x : Tree) (k : AtomKind) → x ≡ Atom k → ty_of x ≡ atom k
of_atom x k e = ap ty_of (e ∙ sym (rolls-Atom k)) ∙ fold-roll-Ty Ty ty_step (Ty-F.Atom k)

pub of_elem : (x : Tree) (n : ℕ) (t a : Tree) → x ≡ Elem n t → a ≡ t → ty_of x ≡ element n (ty_of a)
of_elem x n t a e f = ap ty_of (e ∙ sym (rolls-Elem n t)) ∙ fold-roll-Ty Ty ty_step (Ty-F.Elem n t) ∙ ap (element n) (ap ty_of (sym f))

pub of_any : (x t a : Tree) → x ≡ AnyElem t → a ≡ t → ty_of x ≡ any_element (ty_of a)
of_any x t a e f = ap ty_of (e ∙ sym (rolls-AnyElem t)) ∙ fold-roll-Ty Ty ty_step (Ty-F.AnyElem t) ∙ ap any_element (ap ty_of (sym f))

pub of_seq : (x t u a b : Tree) → x ≡ Seq t u → a ≡ t → b ≡ u → ty_of x ≡ seq (ty_of a) (ty_of b)
of_seq x t u a b e f g = ap ty_of (e ∙ sym (rolls-Seq t u)) ∙ fold-roll-Ty Ty ty_step (Ty-F.Seq t u) ∙ ap₂ seq (ap ty_of (sym f)) (ap ty_of (sym g))

pub of_alt : (x t u a b : Tree) → x ≡ Alt t u → a ≡ t → b ≡ u → ty_of x ≡ alt (ty_of a) (ty_of b)
of_alt x t u a b e f g = ap ty_of (e ∙ sym (rolls-Alt t u)) ∙ fold-roll-Ty Ty ty_step (Ty-F.Alt t u) ∙ ap₂ alt (ap ty_of (sym f)) (ap ty_of (sym g))

pub of_star : (x t a : Tree) → x ≡ Star t → a ≡ t → ty_of x ≡ star (ty_of a)
of_star x t a e f = ap ty_of (e ∙ sym (rolls-Star t)) ∙ fold-roll-Ty Ty ty_step (Ty-F.Star t) ∙ ap star (ap ty_of (sym f))

pub of_named : (x : Tree) (n : ℕ) → x ≡ Named n → ty_of x ≡ named n
of_named x n e = ap ty_of (e ∙ sym (rolls-Named n)) ∙ fold-roll-Ty Ty ty_step (Ty-F.Named n)
