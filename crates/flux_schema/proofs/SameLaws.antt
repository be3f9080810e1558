-- The test of sameness tells whether two types are equal.
use Rattle.std.proofs.Common.{◌≡◌, true, refl, ap, ap₂}
use Rattle.std.proofs.lemmas.Bool.{eqb-true, and_parts}
use Rattle.flux_atom.specs.declared.atom.AtomKind.{AtomKind}
use Rattle.flux_atom.specs.declared.atom.AtomKind.TheVariants as kind
use Rattle.flux_schema.specs.Ty.{Ty, empty, atom, element, any_element, seq, alt, star, named}
use Rattle.flux_schema.specs.Same.{same_kind, same}

pub same_kind-eq : (k l : AtomKind) → same_kind k l ≡ true → k ≡ l
same_kind-eq kind.Bool kind.Bool e = refl
same_kind-eq kind.Text kind.Text e = refl
same_kind-eq kind.Int kind.Int e = refl
same_kind-eq _ _ e = cc

pub same_kind-same : (k : AtomKind) → same_kind k k ≡ true
same_kind-same kind.Bool = refl
same_kind-same kind.Text = refl
same_kind-same kind.Int = refl

pub same-eq : (t u : Ty) → same t u ≡ true → t ≡ u
same-eq empty empty e = refl
same-eq (atom k) (atom l) e = ap atom (same_kind-eq k l e)
same-eq (element n t) (element m u) e = let p = and_parts _ _ e in ap₂ element (eqb-true n m p.0) (same-eq t u p.1)
same-eq (any_element t) (any_element u) e = ap any_element (same-eq t u e)
same-eq (seq t u) (seq v w) e = let p = and_parts _ _ e in ap₂ seq (same-eq t v p.0) (same-eq u w p.1)
same-eq (alt t u) (alt v w) e = let p = and_parts _ _ e in ap₂ alt (same-eq t v p.0) (same-eq u w p.1)
same-eq (star t) (star u) e = ap star (same-eq t u e)
same-eq (named x) (named y) e = ap named (eqb-true x y e)
same-eq _ _ e = cc
