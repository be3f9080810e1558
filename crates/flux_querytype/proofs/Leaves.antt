-- Variables, and what the one tree of a type contains.
use Rattle.std.proofs.Common.{◌≡◌, ◌∙◌, ◌⊎◌, ℕ, Option, Some, None, IfSome, inl, inr, refl, sym, ap, subst, arith}
use Rattle.std.specs.Option.{option_map}
use Rattle.flux_atom.specs.declared.atom.AtomKind.{AtomKind}
use Rattle.flux_schema.specs.Ty.{Ty, empty, atom, element, any_element, IsWithinLimits}
use Rattle.flux_schema.specs.Definitions.{Definitions}
use Rattle.flux_schema.specs.Single.{Single, of_atom as of_atom_type, of_element, of_any as of_any_type, of_name}
use Rattle.flux_types.specs.declared.ty.Ty.{Ty as Tree}
use Rattle.flux_types.specs.declared.ty.Ty.TheVariants.{Empty, Atom, Elem, AnyElem, Seq, Alt, Star, Named}
use Rattle.flux_types.specs.Kept.{AreKept}
use Rattle.flux_types.specs.Read.{ty_of}
use Rattle.flux_types.proofs.Variants.{of_empty, of_atom, of_elem, of_any, of_seq, of_alt, of_star, of_named}
use Rattle.flux_calculus.specs.declared.ask.Span.{Span}
use Rattle.flux_calculus.specs.declared.ask.Var.{Var}
use Rattle.flux_calculus.specs.Query.{variable, child, found}
use Rattle.flux_calculus.specs.Typing.{Context, typed, faulty, of_query, Types, of_variable, of_no_variable, of_child}
use Rattle.flux_calculus.specs.Fault.{unknown_variable}
use Rattle.flux_core.specs.declared.measured.Measured.{Measured}

pub where_found : (o : Option Ty) → ((t : Ty) → o ≡ Some t → IsWithinLimits t) → IfSome o IsWithinLimits
where_found (Some t) h = h t refl
where_found None h = tt

module _ (defs : Definitions) (Γ : Context) (at : Span) (x : Var) where
  pub variable_shared : (o : Option Measured) (m : Measured) → found Γ x ≡ option_map (λ m. ty_of m.ty.value) o → o ≡ Some m → Types defs (of_query Γ (variable at x)) (typed (ty_of m.ty.value))
  variable_shared o m e f = of_variable (e ∙ ap (option_map (λ m. ty_of m.ty.value)) f)

  pub variable_unbound : (o : Option Measured) → found Γ x ≡ option_map (λ m. ty_of m.ty.value) o → o ≡ None → Types defs (of_query Γ (variable at x)) (faulty (unknown_variable at.from))
  variable_unbound o e f = of_no_variable (e ∙ ap (option_map (λ m. ty_of m.ty.value)) f)

  pub content_copied : (m one a u : Tree) (n : ℕ) (t : Ty) → found Γ x ≡ Some t → Single defs t (ty_of one) → one ≡ Elem n u → a ≡ u → m ≡ a → Types defs (of_query Γ (child at x)) (typed (ty_of m))
  content_copied m one a u n t e h is f g =
      let P : Tree → Type 0 = λ m. Types defs (of_query Γ (child at x)) (typed (ty_of m)) in
      let S : Ty → Type 0 = λ s. Single defs t s in
      subst P (sym g) (of_child e (subst S (of_elem one n u a is f) h))

  pub any_content_copied : (m one a u : Tree) (t : Ty) → found Γ x ≡ Some t → Single defs t (ty_of one) → one ≡ AnyElem u → a ≡ u → m ≡ a → Types defs (of_query Γ (child at x)) (typed (ty_of m))
  any_content_copied m one a u t e h is f g =
      let P : Tree → Type 0 = λ m. Types defs (of_query Γ (child at x)) (typed (ty_of m)) in
      let S : Ty → Type 0 = λ s. Single defs t s in
      subst P (sym g) (of_child e (subst S (of_any one u a is f) h))

  pub atom_content : (m : Tree) (one : Tree) (k : AtomKind) (t : Ty) → found Γ x ≡ Some t → Single defs t (ty_of one) → one ≡ Atom k → ty_of m ≡ empty → Types defs (of_query Γ (child at x)) (typed (ty_of m))
  atom_content m one k t e h is f =
      let P : Ty → Type 0 = λ m. Types defs (of_query Γ (child at x)) (typed m) in
      let S : Ty → Type 0 = λ s. Single defs t s in
      subst P (sym f) (of_child e (subst S (of_atom one k is) h))

single_within : (defs : Definitions) {t s : Ty} → AreKept defs → Single defs t s → IsWithinLimits t → IsWithinLimits s
single_within defs kept (of_atom_type k) h = h
single_within defs kept (of_element n t) h = h
single_within defs kept (of_any_type t) h = h
single_within defs kept (of_name x e s) h = single_within defs kept s (kept.limits x _ e)

inside_within : (n : ℕ) (u t : Ty) → t ≡ element n u → IsWithinLimits t → IsWithinLimits u
inside_within n u t e h =
    let P : Ty → Type 0 = λ w. IsWithinLimits w in
    let g : IsWithinLimits (element n u) = subst P e h in
    record { nodes = omega (arith, g.nodes); levels = omega (arith, g.levels) }

inside_any_within : (u t : Ty) → t ≡ any_element u → IsWithinLimits t → IsWithinLimits u
inside_any_within u t e h =
    let P : Ty → Type 0 = λ w. IsWithinLimits w in
    let g : IsWithinLimits (any_element u) = subst P e h in
    record { nodes = omega (arith, g.nodes); levels = omega (arith, g.levels) }

pub any_content_within : (defs : Definitions) (t : Ty) (one a u : Tree) → AreKept defs → Single defs t (ty_of one) → IsWithinLimits t → one ≡ AnyElem u → a ≡ u → IsWithinLimits (ty_of a)
any_content_within defs t one a u kept h within is e = inside_any_within (ty_of a) (ty_of one) (of_any one u a is e) (single_within defs kept h within)

pub content_within : (defs : Definitions) (t : Ty) (one a u : Tree) (n : ℕ) → AreKept defs → Single defs t (ty_of one) → IsWithinLimits t → one ≡ Elem n u → a ≡ u → IsWithinLimits (ty_of a)
content_within defs t one a u n kept h within is e = inside_within n (ty_of a) (ty_of one) (of_elem one n u a is e) (single_within defs kept h within)

-- an atom type or an element type
abbrev IsOne : Ty → Type 0
IsOne (atom k) = Unit {0}
IsOne (element n t) = Unit {0}
IsOne (any_element t) = Unit {0}
IsOne _ = ⊥

single_one : {defs : Definitions} {t s : Ty} → Single defs t s → IsOne s
single_one (of_atom_type k) = tt
single_one (of_element n t) = tt
single_one (of_any_type t) = tt
single_one (of_name x e s) = single_one s

pub never_many : (defs : Definitions) (t : Ty) (x : Tree) → Single defs t (ty_of x)
    → (x ≡ Empty) ⊎ (((t : Tree) × (u : Tree) × (x ≡ Seq t u)) ⊎ (((t : Tree) × (u : Tree) × (x ≡ Alt t u)) ⊎ (((t : Tree) × (x ≡ Star t)) ⊎ ((n : ℕ) × (x ≡ Named n))))) → ⊥
never_many defs t x s h =
    let P : Ty → Type 0 = λ w. IsOne w in
    let one = single_one s in
    elim h [
      | inl e ↦ subst P (of_empty x e) one
      | inr h1 ↦ elim h1 [
        | inl p ↦ subst P (of_seq x p.0 p.1 p.0 p.1 p.2 refl refl) one
        | inr h2 ↦ elim h2 [
          | inl p ↦ subst P (of_alt x p.0 p.1 p.0 p.1 p.2 refl refl) one
          | inr h3 ↦ elim h3 [
            | inl p ↦ subst P (of_star x p.0 p.0 p.1 refl) one
            | inr p ↦ subst P (of_named x p.0 p.1) one
          ]
        ]
      ]
    ]
