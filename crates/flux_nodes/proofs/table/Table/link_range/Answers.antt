use Rattle.std.proofs.Common.{ap, arith, length, refl, sym, subst, ◌∙◌}
use Rattle.flux_nodes.specs.Tables.{PlaceAt, after_link}
use Rattle.flux_nodes.specs.Decoded.{meaning_of}
use Rattle.flux_nodes.specs.Kept.{IsTable, IsHeld}
use Rattle.flux_nodes.proofs.SeenLaws.{seen}
use Rattle.flux_nodes.proofs.CallLaws.{table-place}
use Rattle.flux_nodes.proofs.FrameLaws.{place_seat, loose}
use Rattle.flux_nodes.proofs.TableCalls.{written, keep, linked-now}
use Rattle.flux_nodes.proofs.table.Table.link_range.Goals as goal
use Rattle.flux_nodes.proofs.table.Table.link_range.Goals.{After-self-1}

pub link-requires : goal.link-requires
link-requires c =
    table-place c.self.inside.cells.items c.as_mut_slice.result.now c.self.inside.top c.self.inside.end c.self.inside.free c.args.self.now c.args.place c.args.run c.as_mut_slice.ensures.value c.self.invariant.table c.self.view_is (loose c.requires.run) (place_seat c.requires.place)

now : (c : After-self-1) (at : PlaceAt c.args.self.now.document c.args.place) → IsTable c.link.new.cells c.link.new.top c.link.new.end c.self.inside.free (after_link c.args.self.now c.args.run at.frames)
now c at =
    linked-now c.self.inside.cells.items c.as_mut_slice.result.now c.link.new.cells c.self.inside.top c.self.inside.end c.self.inside.free c.link.new.top c.link.new.end c.self.inside.made c.args.self.now c.args.place c.args.run c.as_mut_slice.ensures.value c.self.invariant c.self.view_is c.requires.run c.link.ensures at

pub invariant_of-self : goal.invariant_of-self
invariant_of-self c =
    subst (λ cs. IsHeld cs c.link.new.top c.link.new.end c.self.inside.free c.self.inside.made) (sym (written c.self.inside.cells.len c.link.new.cells c.self.inside.cells.items (omega (arith, c.as_mut_slice.ensures.len, c.link.auto.cells)))) (keep c.self.inside.cells.items c.link.new.cells c.self.inside.top c.self.inside.end c.self.inside.free c.link.new.top c.link.new.end c.self.inside.made c.args.self.now (after_link c.args.self.now c.args.run c.requires.place.frames) c.self.invariant c.self.view_is (c.link.auto.cells ∙ ap length c.as_mut_slice.ensures.value) refl (now c c.requires.place))

pub returns : goal.returns
returns c at =
    ap (λ cs. meaning_of cs c.link.new.top c.self.inside.free) (written c.self.inside.cells.len c.link.new.cells c.self.inside.cells.items (omega (arith, c.as_mut_slice.ensures.len, c.link.auto.cells))) ∙ seen _ _ _ _ _ (now c at)
