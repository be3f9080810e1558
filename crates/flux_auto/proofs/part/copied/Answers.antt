use Rattle.std.proofs.Common.{false, refl, subst, List}
use Rattle.flux_auto.specs.declared.edge.Edge.{Edge}
use Rattle.flux_auto.specs.Part.{AreRenamed}
use Rattle.flux_auto.proofs.Items.{read_is}
use Rattle.flux_auto.proofs.PartLaws.{copied_row, copied_none}
use Rattle.flux_auto.proofs.part.copied.Goals as goal

pub returns-in_ok-edges-in-Some-clause-is : goal.returns-in_ok-edges-in-Some-clause-is
returns-in_ok-edges-in-Some-clause-is c =
    let olds = c.renamed_all.new.numbers.olds.items in
    let row = c.in-Some.row.now in
    let h = c.in-Some.ensures.lookup in
    copied_row olds c.args.rows.now c.args.state row (record { ends = row.ends; edges = c.in_ok-edges-in-Some.edges }) (read_is c.args.rows.now c.args.state row row h.3.0 h.1) refl
    (subst (λ (es : List Edge). AreRenamed olds es c.in_ok-edges-in-Some.edges.items) c.as_slice.ensures.value c.in_ok-edges-in-Some.ensures.are)

pub returns-in-None-clause-is : goal.returns-in-None-clause-is
returns-in-None-clause-is c = copied_none c.args.numbers.now.olds.items c.args.rows.now c.args.state (record { ends = false; edges = c.new.result }) c.in-None.ensures.lookup.3 refl c.new.ensures.items
