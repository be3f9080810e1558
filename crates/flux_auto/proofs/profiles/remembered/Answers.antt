use Rattle.std.proofs.Common.{IfSome, Contains, sym, subst, ◌∙◌}
use Rattle.std.proofs.lemmas.Map.Views.{IfSome-lookup}
use Rattle.flux_auto.proofs.Interning.{same_turn}
use Rattle.flux_auto.proofs.profiles.remembered.Goals as goal

pub returns : goal.returns
returns c =
    let entries = c.args.profiles.now.turns.entries in
    subst (λ r. IfSome r (λ n. Contains entries (c.args.turn.now, n))) (sym (c.copied.ensures ∙ c.get.ensures.value)) (IfSome-lookup same_turn c.args.turn.now entries)
