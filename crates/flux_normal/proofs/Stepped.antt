-- The loop over the steps behind a query.
use Rattle.std.proofs.Common.{◌≡◌, ◌+◌, ◌<◌, ℕ, suc, List, [], ◌∷◌, length, drop, drop-cons, get_or, sym, ap, ap₂, ◌∙◌, add-one}
use Rattle.flux_calculus.specs.Query.{Query, child, filter, each}
use Rattle.flux_calculus.specs.declared.ask.Var.TheVariants.{Made}
use Rattle.flux_grammar.specs.declared.tree.QueryStep.{QueryStep}
use Rattle.flux_grammar.specs.declared.tree.QueryStep.TheVariants.{Down, Child, Filter}
use Rattle.flux_grammar.specs.NormalQueries.{Numbered, plain, test_of, step_on, steps_on}

-- a step goes by what the query stands for where it begins, and not elsewhere
same_step : (e f : Numbered Query) (s : QueryStep) (k m : ℕ) → e k ≡ f m → step_on e s k ≡ step_on f s m
same_step e f (Down t at) k m same = ap (λ p. (each at (Made (suc p.1)) p.0 (filter at (child at (Made (suc p.1))) (test_of t)), suc p.1)) same
same_step e f (Child at) k m same = ap (λ p. (each at (Made (suc p.1)) p.0 (child at (Made (suc p.1))), suc p.1)) same
same_step e f (Filter t at) k m same = ap (λ p. (filter at p.0 (test_of t), p.1)) same

same_steps : (e f : Numbered Query) (ss : List QueryStep) (k m : ℕ) → e k ≡ f m → steps_on e ss k ≡ steps_on f ss m
same_steps e f [] k m same = same
same_steps e f (s ∷ ss) k m same = same_steps (step_on e s) (step_on f s) ss k m (same_step e f s k m same)

pub begun : (e : Numbered Query) (ss : List QueryStep) (q : Query) (k m : ℕ) → e k ≡ (q, m) → steps_on (plain q) ss m ≡ steps_on e ss k
begun e ss q k m one = same_steps (plain q) e ss m k (sym one)

pub stepped : (ss : List QueryStep) (i : ℕ) (s : QueryStep) (q r : Query) (k m : ℕ) → i < length ss → s ≡ get_or ss i s → step_on (plain q) s k ≡ (r, m)
    → steps_on (plain r) (drop (i + 1) ss) m ≡ steps_on (plain q) (drop i ss) k
stepped ss i s q r k m lt is one =
    begun (step_on (plain q) s) (drop (i + 1) ss) r k m one
    ∙ ap (λ l. steps_on (plain q) l k) (sym (drop-cons ss i s lt ∙ ap₂ (λ y n. y ∷ drop n ss) (sym is) (sym (add-one i))))
