use Rattle.std.proofs.Common.{sym, ap, ap₂, subst, ◌∙◌}
use Rattle.flux_calculus.specs.declared.ask.Test.TheVariants.{Label}
use Rattle.flux_calculus.specs.declared.ask.Var.TheVariants.{Made}
use Rattle.flux_calculus.specs.Query.{filter, each}
use Rattle.flux_query.specs.Cases.{HasValue, start}
use Rattle.flux_query.proofs.CaseLaws.{labelled_inside}
use Rattle.flux_query.proofs.tests.labelled_inside.Goals as goal

pub returns : goal.returns
returns c =
    let inside = c.in_ok-inside.ensures ∙ ap (λ q. filter start q (Label c.args.label)) c.child_of.ensures in
    let read = c.in_ok-query.ensures ∙ ap₂ (each start (Made 1)) c.var.ensures inside in
    subst HasValue (sym read) (labelled_inside (Label c.args.label))
