use Rattle.std.proofs.Common.{ap, arith, length, refl, sym, subst, ◌<◌, ◌∙◌}
use Rattle.flux_nodes.specs.declared.cell.Kind.TheVariants.{Elem}
use Rattle.flux_nodes.specs.Tables.{ElementAt, after_label}
use Rattle.flux_nodes.specs.Decoded.{meaning_of}
use Rattle.flux_nodes.specs.Laid.{edit, with_kind}
use Rattle.flux_nodes.specs.Kept.{IsTable, IsHeld}
use Rattle.flux_nodes.proofs.SeenLaws.{seen}
use Rattle.flux_nodes.proofs.CallLaws.{label-within}
use Rattle.flux_nodes.proofs.FrameLaws.{element_seat}
use Rattle.flux_nodes.proofs.TableCalls.{written, table_of, keep, labelled-now}
use Rattle.flux_nodes.proofs.table.Table.set_label.Goals as goal
use Rattle.flux_nodes.proofs.table.Table.set_label.Goals.{After-self-1}

pub put_label-requires : goal.put_label-requires
put_label-requires c =
    let lt : c.args.node.0 < length c.self.inside.cells.items = label-within c.self.inside.cells.items c.self.inside.top c.self.inside.end c.self.inside.free c.args.self.now c.args.node (table_of c.self.invariant c.self.view_is) (element_seat c.requires) in
    subst (λ cs. c.args.node.0 < length cs) (sym c.as_mut_slice.ensures.value) lt

now : (c : After-self-1) (at : ElementAt c.args.self.now.document c.args.node) → IsTable c.put_label.new.cells c.self.inside.top c.self.inside.end c.self.inside.free (after_label c.args.self.now c.args.node c.args.name at.frames at.inside)
now c at =
    subst (λ cs. IsTable cs c.self.inside.top c.self.inside.end c.self.inside.free (after_label c.args.self.now c.args.node c.args.name at.frames at.inside)) (sym (c.put_label.ensures ∙ ap (edit (with_kind (Elem c.args.name)) c.args.node.0) c.as_mut_slice.ensures.value)) (labelled-now c.self.inside.cells.items c.self.inside.top c.self.inside.end c.self.inside.free c.self.inside.made c.args.self.now c.args.node c.args.name c.self.invariant c.self.view_is at)

pub invariant_of-self : goal.invariant_of-self
invariant_of-self c =
    subst (λ cs. IsHeld cs c.self.inside.top c.self.inside.end c.self.inside.free c.self.inside.made) (sym (written c.self.inside.cells.len c.put_label.new.cells c.self.inside.cells.items (omega (arith, c.as_mut_slice.ensures.len, c.put_label.auto.cells)))) (keep c.self.inside.cells.items c.put_label.new.cells c.self.inside.top c.self.inside.end c.self.inside.free c.self.inside.top c.self.inside.end c.self.inside.made c.args.self.now (after_label c.args.self.now c.args.node c.args.name c.requires.frames c.requires.inside) c.self.invariant c.self.view_is (c.put_label.auto.cells ∙ ap length c.as_mut_slice.ensures.value) refl (now c c.requires))

pub returns : goal.returns
returns c at =
    ap (λ cs. meaning_of cs c.self.inside.top c.self.inside.free) (written c.self.inside.cells.len c.put_label.new.cells c.self.inside.cells.items (omega (arith, c.as_mut_slice.ensures.len, c.put_label.auto.cells))) ∙ seen _ _ _ _ _ (now c at)
