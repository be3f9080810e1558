use Rattle.std.proofs.Common.{◌≡◌, Some, length, sym, subst, arith}
use Rattle.indexmap.specs.Layout.{set_value_at}
use Rattle.flux_goals.specs.Table.{IsTable}
use Rattle.flux_goals.proofs.TableLaws.{marked_grows, table_mark}
use Rattle.flux_goals.proofs.table.mark.Goals as goal

pub returns-clause-table : goal.returns-clause-table
returns-clause-table c =
    let e : c.len-found.result ≡ length c.args.table.now.shown.items = omega (arith, c.len-found.ensures, c.args.table.now.shown.ok) in
    subst (λ m. IsTable c.args.auto.now.states c.args.other (set_value_at c.args.table.now.goals.entries c.args.place (Some m)) c.push.new.self.items) (sym e)
    (subst (λ l. IsTable c.args.auto.now.states c.args.other (set_value_at c.args.table.now.goals.entries c.args.place (Some (length c.args.table.now.shown.items))) l) (sym c.in_ok-push.ensures.items)
    (table_mark c.args.auto.now.states c.args.other c.args.table.now.goals.entries c.args.table.now.shown.items c.args.place c.args.recipe c.requires.table c.requires.place c.requires.found))

pub returns-clause-grows : goal.returns-clause-grows
returns-clause-grows c = marked_grows c.args.table.now.goals.entries c.args.place c.len-found.result
