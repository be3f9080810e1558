-- A text is in `string` and in neither `bool` nor `int`; and what holds of
-- the types of variables to which one more is bound.
use Rattle.std.proofs.Common.{◌≡◌, ℕ, Bool, true, false, ◌∷◌, Option, Some, refl, sym, subst, if◌then◌else◌}
use Rattle.std.proofs.lemmas.Option.{same_Some}
use Rattle.flux_atom.specs.declared.word.Word.{Word}
use Rattle.flux_atom.specs.declared.atom.Atom.TheVariants.{Text as Words}
use Rattle.flux_atom.specs.declared.atom.AtomKind.TheVariants as kind
use Rattle.flux_trees.specs.Hedge.{Plain, nil, leaf}
use Rattle.flux_trees.specs.Draft.{Draft, done}
use Rattle.flux_schema.specs.Ty.{Ty, atom}
use Rattle.flux_schema.specs.Definitions.{Definitions}
use Rattle.flux_schema.specs.Member.{Member, in_atom}
use Rattle.flux_types.specs.Verdicts.{IsEvidence}
use Rattle.flux_calculus.specs.declared.ask.Var.{Var}
use Rattle.flux_calculus.specs.Query.{found, same_var}
use Rattle.flux_calculus.specs.Typing.{Context}

of_truth : {defs : Definitions} {w : Word} → Member defs (leaf tt (Words w) nil) (atom kind.Bool) → ⊥
of_truth (in_atom x e) = cc

of_number : {defs : Definitions} {w : Word} → Member defs (leaf tt (Words w) nil) (atom kind.Int) → ⊥
of_number (in_atom x e) = cc

pub no_truth : (defs : Definitions) (w : Word) (t : Ty) → t ≡ atom kind.Bool → ¬ (Member defs (leaf tt (Words w) nil) t)
no_truth defs w t e m = of_truth (subst (Member defs (leaf tt (Words w) nil)) e m)

pub no_number : (defs : Definitions) (w : Word) (t : Ty) → t ≡ atom kind.Int → ¬ (Member defs (leaf tt (Words w) nil) t)
no_number defs w t e m = of_number (subst (Member defs (leaf tt (Words w) nil)) e m)

pub text_is_shown : (defs : Definitions) (other : ℕ) (t u : Ty) (f : Draft (Unit {0})) (w : Word) → t ≡ atom kind.Text → ¬ (Member defs (leaf tt (Words w) nil) u) → f ≡ done (leaf tt (Words w) nil) → IsEvidence defs other t u f
text_is_shown defs other t u f w e against is =
    let v : Plain = leaf tt (Words w) nil in
    let P : Ty → Type 0 = λ s. Member defs v s in
    record { forest = v; whole = is; member = subst P (sym e) (in_atom (Words w) refl); no_member = against; labels = tt }

bound_by : (P : Ty → Type 0) (b : Bool) (t u : Ty) (o : Option Ty) → P t → (o ≡ Some u → P u) → (if b then Some t else o) ≡ Some u → P u
bound_by P true t u o h f e = subst P (same_Some _ _ e) h
bound_by P false t u o h f e = f e

-- what holds of each variable's type, with one variable more
pub all_bound : (P : Ty → Type 0) (Γ Δ : Context) (x : Var) (t : Ty) → Δ ≡ (x, t) ∷ Γ → ((y : Var) (u : Ty) → found Γ y ≡ Some u → P u) → P t → (y : Var) (u : Ty) → found Δ y ≡ Some u → P u
all_bound P Γ Δ x t e all h =
    let Q : Context → Type 0 = λ Δ. (y : Var) (u : Ty) → found Δ y ≡ Some u → P u in
    subst Q (sym e) (λ y u f. bound_by P (same_var x y) t u (found Γ y) h (all y u) f)
