use Rattle.std.proofs.Common.{◌∙◌, ap, List, ℕ}
use Rattle.flux_auto.specs.Set.{flags}
use Rattle.flux_auto.proofs.SetLaws.{flags-zeros}
use Rattle.flux_auto.proofs.set.Set.none.Goals as goal

pub returns : goal.returns
returns c = ap (λ (ws : List ℕ). flags ws c.args.count) (c.in_ok-words.ensures.items_if_clones_equal (λ y e. e)) ∙ flags-zeros _ c.args.count
