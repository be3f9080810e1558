use Rattle.std.proofs.Common.{ap, arith, length, refl, sym, subst, ◌∙◌}
use Rattle.flux_nodes.specs.Tables.{RunAt, after_unlink}
use Rattle.flux_nodes.specs.Decoded.{meaning_of}
use Rattle.flux_nodes.specs.Kept.{IsTable, IsHeld}
use Rattle.flux_nodes.proofs.SeenLaws.{seen}
use Rattle.flux_nodes.proofs.CallLaws.{table-run}
use Rattle.flux_nodes.proofs.FrameLaws.{run_seat}
use Rattle.flux_nodes.proofs.TableCalls.{written, keep, unlinked-now}
use Rattle.flux_nodes.proofs.table.Table.unlink_range.Goals as goal
use Rattle.flux_nodes.proofs.table.Table.unlink_range.Goals.{After-self-1}

pub unlink-requires : goal.unlink-requires
unlink-requires c =
    table-run c.self.inside.cells.items c.as_mut_slice.result.now c.self.inside.top c.self.inside.end c.self.inside.free c.args.self.now c.args.run c.as_mut_slice.ensures.value c.self.invariant.table c.self.view_is (run_seat c.requires)

now : (c : After-self-1) (at : RunAt c.args.self.now.document c.args.run) → IsTable c.unlink.new.cells c.unlink.new.top c.unlink.new.end c.self.inside.free (after_unlink c.args.self.now c.args.run at.frames at.trees)
now c at =
    unlinked-now c.self.inside.cells.items c.as_mut_slice.result.now c.unlink.new.cells c.self.inside.top c.self.inside.end c.self.inside.free c.unlink.new.top c.unlink.new.end c.self.inside.made c.args.self.now c.args.run c.as_mut_slice.ensures.value c.self.invariant c.self.view_is c.unlink.ensures at

pub invariant_of-self : goal.invariant_of-self
invariant_of-self c =
    subst (λ cs. IsHeld cs c.unlink.new.top c.unlink.new.end c.self.inside.free c.self.inside.made) (sym (written c.self.inside.cells.len c.unlink.new.cells c.self.inside.cells.items (omega (arith, c.as_mut_slice.ensures.len, c.unlink.auto.cells)))) (keep c.self.inside.cells.items c.unlink.new.cells c.self.inside.top c.self.inside.end c.self.inside.free c.unlink.new.top c.unlink.new.end c.self.inside.made c.args.self.now (after_unlink c.args.self.now c.args.run c.requires.frames c.requires.trees) c.self.invariant c.self.view_is (c.unlink.auto.cells ∙ ap length c.as_mut_slice.ensures.value) refl (now c c.requires))

pub returns : goal.returns
returns c at =
    ap (λ cs. meaning_of cs c.unlink.new.top c.self.inside.free) (written c.self.inside.cells.len c.unlink.new.cells c.self.inside.cells.items (omega (arith, c.as_mut_slice.ensures.len, c.unlink.auto.cells))) ∙ seen _ _ _ _ _ (now c at)
