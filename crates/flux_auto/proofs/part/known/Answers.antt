use Rattle.std.proofs.Common.{IfSome, sym, subst, ◌∙◌}
use Rattle.std.proofs.lemmas.Map.Views.{IfSome-lookup}
use Rattle.std.proofs.lemmas.Option.{IfSome_then}
use Rattle.flux_auto.specs.Part.{IsNumber}
use Rattle.flux_auto.proofs.GoingLaws.{equal}
use Rattle.flux_auto.proofs.PartLaws.{found_number}
use Rattle.flux_auto.proofs.part.known.Goals as goal

pub returns : goal.returns
returns c =
    let numbers = c.args.numbers.now in
    subst (λ r. IfSome r (IsNumber numbers.olds.items c.args.state)) (sym (c.copied.ensures ∙ c.get.ensures.value))
    (IfSome_then _ (IfSome-lookup equal c.args.state numbers.news.entries) (λ n h. found_number numbers.olds.items numbers.news.entries c.args.state n c.requires h))
