use Rattle.std.proofs.Common.{◌≡◌, ℕ, List, ◌++◌, Option, Some, None, Result, Ok, Err, IfOk, IfErr, sym, subst, ap, ◌∙◌}
use Rattle.flux_grammar.specs.Nesting.{core_level}
use Rattle.flux_grammar.specs.NormalStatements.{filtered}
use Rattle.flux_normal.specs.Levels.{told, Finds}
use Rattle.flux_normal.proofs.PathLaws.{under_filter, in_filter}
use Rattle.flux_normal.proofs.levels.check_filter.Goals as goal

pub returns-in-None : goal.returns-in-None
returns-in-None c = λ s o found. subst (λ f. Finds core_level (filtered c.args.at f s) c.args.levels o) (sym c.in-None.is) found

pub returns-in-Ok-check_query : goal.returns-in-Ok-check_query
returns-in-Ok-check_query c = λ s o found. subst (λ f. Finds core_level (filtered c.args.at f s) c.args.levels o) (sym c.in-Some.is)
    (under_filter c.args.at c.in-Some.filter c.args.levels c.in-Ok.left (c.in-Ok.ensures.ok) (λ k. c.check_query.ensures k ∙ ap told c.in-Ok-check_query.is) s o found)

pub returns-in-Err-check_query : goal.returns-in-Err-check_query
returns-in-Err-check_query c = λ s. subst (λ f. Finds core_level (filtered c.args.at f s) c.args.levels (Some c.in-Err-check_query.place)) (sym c.in-Some.is)
    (in_filter c.args.at c.in-Some.filter c.args.levels c.in-Ok.left (c.in-Ok.ensures.ok) c.in-Err-check_query.place (λ k. c.check_query.ensures k ∙ ap told c.in-Err-check_query.is) s)
