use Rattle.std.proofs.Common.{refl}
use Rattle.std.proofs.lemmas.List.{length-set}
use Rattle.flux_auto.specs.declared.table.Row.{Row}
use Rattle.flux_auto.proofs.Items.{get-set_here, get-set_other}
use Rattle.flux_auto.proofs.table.set_row.Goals as goal

pub returns : goal.returns
returns c =
    let row : Row = record { ends = c.args.ends; edges = c.args.edges } in
    record {
      row = row;
      ends_is = refl;
      edges_are = refl;
      cells = refl;
      here = get-set_here c.args.table.now.rows.items c.args.state row c.requires;
      others = λ i ne. get-set_other c.args.table.now.rows.items c.args.state i row ne;
      same_length = length-set c.args.table.now.rows.items c.args.state row;
    }
