use Rattle.std.proofs.Common.{ap, arith, length, sym, subst, ◌∙◌}
use Rattle.flux_nodes.specs.Tables.{after_free}
use Rattle.flux_nodes.specs.Decoded.{meaning_of}
use Rattle.flux_nodes.specs.Kept.{IsTable, IsHeld}
use Rattle.flux_nodes.proofs.SeenLaws.{seen}
use Rattle.flux_nodes.proofs.TableCalls.{written}
use Rattle.flux_nodes.proofs.FreeCalls.{loose-table, freed-now, freed-fewer, freed-held}
use Rattle.flux_nodes.proofs.table.Table.free_range.Goals as goal
use Rattle.flux_nodes.proofs.table.Table.free_range.Goals.{After-self-1}

pub free_run-requires : goal.free_run-requires
free_run-requires c =
    loose-table c.self.inside.cells.items c.as_mut_slice.result.now c.self.inside.top c.self.inside.end c.self.inside.free c.self.inside.made c.args.self.now c.args.run c.as_mut_slice.ensures.value c.self.invariant c.self.view_is c.requires

now : (c : After-self-1) → IsTable c.free_run.new.cells c.self.inside.top c.self.inside.end c.free_run.new.free (after_free c.args.self.now c.args.run)
now c =
    freed-now c.self.inside.cells.items c.as_mut_slice.result.now c.free_run.new.cells c.self.inside.top c.self.inside.end c.self.inside.free c.free_run.new.free c.self.inside.made c.args.self.now c.args.run c.as_mut_slice.ensures.value c.self.invariant c.self.view_is c.requires c.free_run.ensures.cells

pub invariant_of-self : goal.invariant_of-self
invariant_of-self c =
    subst (λ cs. IsHeld cs c.self.inside.top c.self.inside.end c.free_run.new.free c.free_run.new.made) (sym (written c.self.inside.cells.len c.free_run.new.cells c.self.inside.cells.items (omega (arith, c.as_mut_slice.ensures.len, c.free_run.auto.cells)))) (freed-held c.self.inside.cells.items c.free_run.new.cells c.self.inside.top c.self.inside.end c.self.inside.free c.free_run.new.free c.self.inside.made c.free_run.new.made c.args.self.now c.args.run c.self.invariant c.self.view_is (c.free_run.auto.cells ∙ ap length c.as_mut_slice.ensures.value) (freed-fewer c.self.inside.cells.items c.as_mut_slice.result.now c.self.inside.top c.self.inside.end c.self.inside.free c.self.inside.made c.free_run.new.made c.args.self.now c.args.run c.as_mut_slice.ensures.value c.self.invariant c.self.view_is c.requires c.free_run.ensures.made) (now c))

pub returns : goal.returns
returns c =
    ap (λ cs. meaning_of cs c.self.inside.top c.free_run.new.free) (written c.self.inside.cells.len c.free_run.new.cells c.self.inside.cells.items (omega (arith, c.as_mut_slice.ensures.len, c.free_run.auto.cells))) ∙ seen _ _ _ _ _ (now c)
