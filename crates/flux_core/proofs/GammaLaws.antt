-- The context as it grows, and what is found in it.
use Rattle.std.proofs.Common.{◌≡◌, Bool, true, false, List, [], ◌∷◌, ◌++◌, Some, ap, ◌∙◌, if◌then◌else◌}
use Rattle.std.proofs.lemmas.List.{map-append, reverse-append}
use Rattle.flux_schema.specs.Ty.{Ty}
use Rattle.flux_types.specs.Read.{ty_of}
use Rattle.flux_calculus.specs.declared.ask.Var.{Var}
use Rattle.flux_calculus.specs.Query.{same_var, found}
use Rattle.flux_calculus.specs.Typing.{Context}
use Rattle.flux_core.specs.declared.binding.Binding.{Binding}
use Rattle.flux_core.specs.Contexts.{pair_of, context_of}

context_of-push : (ps : List Binding) (p : Binding) → context_of (ps ++ p ∷ []) ≡ pair_of p ∷ context_of ps
context_of-push ps p = simp (map-append, reverse-append)

found-at : (b : Var × Ty) (bs : Context) (x : Var) (t : Bool) → same_var b.0 x ≡ t → found (b ∷ bs) x ≡ (if t then Some b.1 else found bs x)
found-at b bs x t e = ap (λ t. if t then Some b.1 else found bs x) e

pub found_last : (ps qs : List Binding) (p : Binding) (x : Var) → ps ≡ qs ++ p ∷ [] → same_var p.var x ≡ true → found (context_of ps) x ≡ Some (ty_of p.ty.value)
found_last ps qs p x e same = ap (λ ps. found (context_of ps) x) e ∙ ap (λ Γ. found Γ x) (context_of-push qs p) ∙ found-at (pair_of p) (context_of qs) x true same

pub found_before : (ps qs : List Binding) (p : Binding) (x : Var) → ps ≡ qs ++ p ∷ [] → same_var p.var x ≡ false → found (context_of ps) x ≡ found (context_of qs) x
found_before ps qs p x e same = ap (λ ps. found (context_of ps) x) e ∙ ap (λ Γ. found Γ x) (context_of-push qs p) ∙ found-at (pair_of p) (context_of qs) x false same
