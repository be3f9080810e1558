use Rattle.std.proofs.Common.{sym, ◌∙◌}
use Rattle.flux_goals.proofs.AfterLaws.{rest_one, kind_same}
use Rattle.flux_goals.proofs.after.add_rest.Goals as goal

pub returns-in_ok-insert-in-Atom : goal.returns-in_ok-insert-in-Atom
returns-in_ok-insert-in-Atom c = rest_one c.args.kind c.in-Atom.found c.args.edge.now c.in-Atom.rest _ _ c.in-Atom.is (kind_same c.in-Atom.found c.args.kind (sym c.eq.ensures ∙ c.if-eq.true)) c.in_ok-insert-in-Atom.ensures
