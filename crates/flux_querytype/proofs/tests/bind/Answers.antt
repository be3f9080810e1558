use Rattle.std.proofs.Common.{rules}
use Rattle.flux_schema.specs.Labels.{Lacks}
use Rattle.flux_core.specs.Faults.{IsUsable}
use Rattle.flux_querytype.proofs.Shown.{all_bound}
use Rattle.flux_querytype.proofs.tests.bind.Goals as goal

pub returns : goal.returns
returns g c = record {
  usable = all_bound (IsUsable c.args.defs.now) _ _ _ _ c.in_ok-bind.ensures.ok c.requires.usable (c.is_usable-usable.ensures.usable (search rules));
  lacks = all_bound (Lacks c.args.other) _ _ _ _ c.in_ok-bind.ensures.ok c.requires.lacks (c.is_usable-usable.ensures.lacks (search rules));
}
