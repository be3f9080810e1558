-- Types of one tree.
use Rattle.std.proofs.Common.{◌≡◌, ◌∙◌, Bool, true, Some, None, sym, subst, ap}
use Rattle.flux_schema.specs.Ty.{Ty, empty, atom, element, any_element, seq, alt, star, named, IsWithinLimits}
use Rattle.flux_schema.specs.Definitions.{Definitions}
use Rattle.flux_schema.specs.Single.{Single, IsNotSingle, of_atom, of_element, of_any, of_name}
use Rattle.flux_types.specs.declared.ty.Ty.{Ty as Tree}
use Rattle.flux_types.specs.Kept.{AreKept}
use Rattle.flux_types.specs.Read.{ty_of}
use Rattle.flux_typing.specs.Update.{StandsFor, for_one, for_none}
use Rattle.flux_check.specs.Ones.{is_one}

one_single : (defs : Definitions) (t : Ty) → is_one t ≡ true → Single defs t t
one_single defs empty e = cc
one_single defs (atom k) e = of_atom k
one_single defs (element n t) e = of_element n t
one_single defs (any_element t) e = of_any t
one_single defs (seq t u) e = cc
one_single defs (alt t u) e = cc
one_single defs (star t) e = cc
one_single defs (named x) e = cc

-- a type that is one tree is handed on
pub stands_for_itself : (defs : Definitions) (m a : Tree) (b : Bool) → a ≡ m → b ≡ is_one (ty_of a) → b ≡ true → StandsFor defs (ty_of m) (Some (ty_of m))
stands_for_itself defs m a b e f g = for_one (one_single defs (ty_of m) (ap (λ x. is_one (ty_of x)) (sym e) ∙ sym f ∙ g))

pub stands_for_none : (defs : Definitions) (m a : Tree) → a ≡ m → IsNotSingle defs (ty_of a) → StandsFor defs (ty_of m) None
stands_for_none defs m a e h = let P : Tree → Type 0 = λ x. IsNotSingle defs (ty_of x) in for_none (subst P e h)

single_at : (defs : Definitions) (m a : Tree) (t : Ty) → a ≡ m → Single defs (ty_of a) t → Single defs (ty_of m) t
single_at defs m a t e h = let P : Tree → Type 0 = λ x. Single defs (ty_of x) t in subst P e h

pub stands_for_copy : (defs : Definitions) (m a one copy : Tree) → a ≡ m → Single defs (ty_of a) (ty_of one) → copy ≡ one → StandsFor defs (ty_of m) (Some (ty_of copy))
stands_for_copy defs m a one copy e h f =
    let P : Tree → Type 0 = λ x. StandsFor defs (ty_of m) (Some (ty_of x)) in
    subst P (sym f) (for_one (single_at defs m a (ty_of one) e h))

single_within : (defs : Definitions) {t s : Ty} → AreKept defs → Single defs t s → IsWithinLimits t → IsWithinLimits s
single_within defs kept (of_atom k) h = h
single_within defs kept (of_element n t) h = h
single_within defs kept (of_any t) h = h
single_within defs kept (of_name x e s) h = single_within defs kept s (kept.limits x _ e)

pub one_within : (defs : Definitions) (m a one : Tree) → AreKept defs → a ≡ m → Single defs (ty_of a) (ty_of one) → IsWithinLimits (ty_of m) → IsWithinLimits (ty_of one)
one_within defs m a one kept e h limits = single_within defs kept (single_at defs m a (ty_of one) e h) limits
