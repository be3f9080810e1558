use Rattle.std.proofs.Common.{◌∙◌, ap, sym, refl, subst, length}
use Rattle.flux_auto.specs.Arcs.{fired}
use Rattle.flux_subtype.specs.Kept.{Keeps}
use Rattle.flux_subtype.proofs.Turning.{puts, puts_silent}
use Rattle.flux_subtype.proofs.search.put.Goals as goal

pub returns-then-is_silent : goal.returns-then-is_silent
returns-then-is_silent c = puts_silent _ _ _ _ _ c.requires.kept (ap (fired (length c.args.part.now) c.args.leaps.now) (sym c.set_at-behind.ensures) ∙ c.if-is_silent.ensures refl (length c.args.part.now))

pub returns : goal.returns
returns c =
    puts c.args.part.now c.args.kept.now.entries _ c.args.head.now c.args.leaps.now c.args.rest c.in_ok-set.set c.requires.kept c.requires.tree c.requires.rest
    (c.in_ok-set.ensures ∙ ap (λ n. fired n c.args.leaps.now c.set_at-behind.result.now) c.states.ensures ∙ ap (fired (length c.args.part.now) c.args.leaps.now) c.set_at-behind.ensures)
    (subst (λ r. Keeps c.args.kept.now.entries c.in_ok-set.set r c.keep.new.kept.entries) c.recipe.ensures c.in_ok-keep.ensures)
