use Rattle.std.proofs.Common.{refl, ap, ◌∙◌, ◌++◌, ◌∷◌, []}
use Rattle.flux_auto.proofs.table.put.Goals as goal

pub returns-clause-ok : goal.returns-clause-ok
returns-clause-ok c = record {
  state = c.len-state.ensures ∙ c.args.table.now.cells.ok.0;
  cell = record { head = c.args.head; tail = c.args.tail };
  row = record { ends = c.args.ends; edges = c.args.edges };
  head_is = refl;
  tail_is = refl;
  ends_is = refl;
  edges_are = refl;
  cells = c.in_ok-push.ensures.items;
  rows = c.in_ok-push-2.ensures.items ∙ ap (λ l. l ++ record { ends = c.args.ends; edges = c.args.edges } ∷ []) c.in_ok-try_reserve.ensures.items;
}
