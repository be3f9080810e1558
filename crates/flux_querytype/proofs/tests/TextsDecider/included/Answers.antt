use Rattle.std.proofs.Common.{rules}
use Rattle.flux_querytype.proofs.tests.TextsDecider.included.Goals as goal

pub returns : goal.returns
returns c = record {
  verdict = c.verdict.ensures _ _;
  remembered = search rules;
  kept = search rules;
  still = search rules;
  same_definitions = search rules;
  same_other = search rules;
  same_keeps = search rules;
}
