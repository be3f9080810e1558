-- The environment as it grows, and what is found in it.
use Rattle.std.proofs.Common.{◌≡◌, ◌<◌, Bool, true, false, ◌==◌, List, [], ◌∷◌, ◌++◌, length, length-append, Some, ap, ◌∙◌, sym, arith, if◌then◌else◌}
use Rattle.std.specs.Bool.{Decides}
use Rattle.std.proofs.lemmas.Bool.Decides.{Decides-like, Decides-eqb}
use Rattle.std.proofs.Math.ListN.{get_or}
use Rattle.std.proofs.lemmas.List.{map-append, reverse-append, get_or_append_left}
use Rattle.flux_trees.specs.Hedge.{Plain}
use Rattle.flux_trees.specs.Draft.{outer, depth}
use Rattle.flux_calculus.specs.declared.ask.Var.{Var}
use Rattle.flux_calculus.specs.declared.ask.Var.TheVariants.{Named, Made}
use Rattle.flux_calculus.specs.Query.{Environment, same_var, found}
use Rattle.flux_query.specs.declared.env.Binding.{Binding}
use Rattle.flux_query.specs.Environments.{pair_of, environment_of, AreWhole}

environment_of-push : (bs : List Binding) (b : Binding) → environment_of (bs ++ b ∷ []) ≡ pair_of b ∷ environment_of bs
environment_of-push bs b = simp (map-append, reverse-append)

found-at : (b : Var × Plain) (bs : Environment) (x : Var) (t : Bool) → same_var b.0 x ≡ t → found (b ∷ bs) x ≡ (if t then Some b.1 else found bs x)
found-at b bs x t e = ap (λ t. if t then Some b.1 else found bs x) e

pub found_last : (bs cs : List Binding) (b : Binding) (x : Var) → bs ≡ cs ++ b ∷ [] → same_var b.var x ≡ true → found (environment_of bs) x ≡ Some (outer b.value)
found_last bs cs b x e same = ap (λ bs. found (environment_of bs) x) e ∙ ap (λ env. found env x) (environment_of-push cs b) ∙ found-at (pair_of b) (environment_of cs) x true same

pub found_before : (bs cs : List Binding) (b : Binding) (x : Var) → bs ≡ cs ++ b ∷ [] → same_var b.var x ≡ false → found (environment_of bs) x ≡ found (environment_of cs) x
found_before bs cs b x e same = ap (λ bs. found (environment_of bs) x) e ∙ ap (λ env. found env x) (environment_of-push cs b) ∙ found-at (pair_of b) (environment_of cs) x false same

pub whole_before : (bs cs : List Binding) (b : Binding) → bs ≡ cs ++ b ∷ [] → AreWhole bs → AreWhole cs
whole_before bs cs b e whole k d lt =
    let within : k < length bs = omega (arith, ap length e, length-append cs (b ∷ [])) in
    ap (λ (b : Binding). depth b.value) (sym (get_or_append_left cs (b ∷ []) d k lt) ∙ ap (λ bs. get_or bs k d) (sym e)) ∙ whole k d within
