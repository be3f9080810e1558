use Rattle.std.proofs.Common.{arith, sym, ◌∙◌}
use Rattle.flux_nodes.proofs.CallLaws.{last-within}
use Rattle.flux_nodes.proofs.EncloseLaws.{behind-within, last-found, last-there, inside_run, enclosed}
use Rattle.flux_nodes.proofs.build.enclose.Goals as goal

pub last_before-requires : goal.last_before-requires
last_before-requires c =
    behind-within c.args.cells.now c.args.first c.args.after c.args.last c.args.parent.0 c.requires

pub returns-in_err-last : goal.returns-in_err-last
returns-in_err-last c h =
    absurd (last-there c.in_ok-first.first c.last_before.result h c.last_before.ensures (c.in_ok-first.was {u = tt}) (c.in_err-last.was {u = tt}))

pub put_parents-requires : goal.put_parents-requires
put_parents-requires c =
    inside_run c.in_ok-first.first c.in_ok-last.last c.requires (c.in_ok-first.was {u = tt}) (sym (c.in_ok-last.was {u = tt}) ∙ last-found c.last_before.result c.requires c.last_before.ensures)

pub put_next-requires : goal.put_next-requires
put_next-requires c =
    omega (arith, c.put_parents.auto.cells, last-within c.args.cells.now (record { first = c.in_ok-first.first; last = c.in_ok-last.last }) (inside_run c.in_ok-first.first c.in_ok-last.last c.requires (c.in_ok-first.was {u = tt}) (sym (c.in_ok-last.was {u = tt}) ∙ last-found c.last_before.result c.requires c.last_before.ensures)))

pub returns : goal.returns
returns c h =
    enclosed c.put_parents.new.cells c.put_next.new.cells c.in_ok-first.first c.in_ok-last.last h (c.in_ok-first.was {u = tt}) (sym (c.in_ok-last.was {u = tt}) ∙ last-found c.last_before.result h c.last_before.ensures) (c.put_parents.ensures (inside_run c.in_ok-first.first c.in_ok-last.last h (c.in_ok-first.was {u = tt}) (sym (c.in_ok-last.was {u = tt}) ∙ last-found c.last_before.result h c.last_before.ensures))) c.put_next.ensures
