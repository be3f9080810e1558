use Rattle.std.proofs.Common.{subst, sym}
use Rattle.flux_atom.specs.Fresh.{IsFresh}
use Rattle.flux_atom.proofs.FreshLaws.{fresh_result}
use Rattle.flux_atom.proofs.fresh_name.fresh.Goals as goal

pub returns-clause-added : goal.returns-clause-added
returns-clause-added c =
    fresh_result c.intern.result c.args.names.now c.intern.new.self c.as_str.result.now (subst (IsFresh c.args.names.now) (sym c.as_str.ensures.value) c.in_ok-text.ensures.first) c.intern.ensures.added c.intern.ensures.place c.intern.ensures.table
