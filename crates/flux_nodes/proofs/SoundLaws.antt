-- Each number stands just once.
use Rattle.std.proofs.Common.{inl, inr, List, Option, None, ap, sym, ◌∙◌, arith}
use Rattle.std.proofs.Math.ListN.{get_or}
use Rattle.flux_trees.specs.Hedge.{nil}
use Rattle.flux_nodes.specs.declared.cell.NodeId.{NodeId}
use Rattle.flux_nodes.specs.declared.cell.Cell.{Cell}
use Rattle.flux_nodes.specs.Tables.{Meaning, first_or, number_of, IsSound}
use Rattle.flux_nodes.specs.Kept.{IsTable}
use Rattle.flux_nodes.proofs.MoveLaws.{none_past}
use Rattle.flux_nodes.proofs.FrameLaws.{number-ids, first-ids}
use Rattle.flux_nodes.proofs.AddLaws.{sum-past, spare-past}

pub sound : (cs : List Cell) (t e f : Option NodeId) (m : Meaning) → IsTable cs t e f m → IsSound m
sound cs t e f m i = record {
  once = λ k l. i.once k (omega (arith, l, i.runs_length));
  none = λ k g. omega (arith, none_past cs None None m.document None k i.doc.laid (omega (arith, g, i.runs_length)), sum-past cs t e f m k i (omega (arith, g, i.runs_length)), spare-past cs m.spare k i.spare (omega (arith, g, i.runs_length)));
  counted = omega (arith, i.all, i.runs_length);
  listed = λ j. elim (i.runs j).begins [ inl n ↦ inl n | inr s ↦ inr (sym (number-ids (first_or None (get_or m.unlinked j nil))) ∙ ap number_of (sym (first-ids (get_or m.unlinked j nil) None) ∙ s)) ];
}
