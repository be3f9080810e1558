use Rattle.std.proofs.Common.{inl, inr, arith}
use Rattle.flux_auto.proofs.Items.{grows-length}
use Rattle.flux_subtype.proofs.Searching.{next_seen, answered_none}
use Rattle.flux_subtype.proofs.search.saturate.Goals as goal

pub loop-done-preserved : goal.loop-done-preserved
loop-done-preserved c = record {
  so_far = c.in_ok-turn.ensures.done;
  labels = λ n h. elim (c.in_ok-turn.ensures.labels n h) [ inl o ↦ c.loop-done.invariant.labels n o | inr x ↦ inr x ];
  behind = omega arith;
  there = (let le = grows-length c.loop-done.found.kept.entries c.turn.new.found.kept.entries c.in_ok-turn.ensures.grows in omega (arith, le, c.len-seen.ensures.len));
  none = next_seen c.loop-done.found.kept.entries c.turn.new.found.kept.entries c.args.left c.args.right c.loop-done.seen c.len-seen.result c.len-seen.ensures.len c.in_ok-turn.ensures.grows c.loop-done.invariant.none c.in_default.ensures.none;
}

pub returns-clause-found : goal.returns-clause-found
returns-clause-found c = answered_none _ _ _ _ _ _ _ c.loop-done.invariant.so_far (omega arith) c.loop-done.invariant.behind c.loop-done.invariant.none

pub loop-done-init : goal.loop-done-init
loop-done-init c = record { so_far = c.requires.begun; behind = omega arith; there = omega arith; none = λ i l. absurd (omega (arith, l)); labels = λ n h. inl h }
