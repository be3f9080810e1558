use Rattle.std.proofs.Common.{◌≡◌, ◌<◌, ◌≤◌, Some, length, map, slice_get, subst, arith}
use Rattle.flux_auto.specs.Built.{state_of}
use Rattle.flux_auto.proofs.Items.{read_is}
use Rattle.flux_auto.proofs.Meaning.{length-map}
use Rattle.flux_auto.proofs.PartLaws.{more_then, next_copied, is_part}
use Rattle.flux_auto.proofs.part.part_of.Goals as goal

pub loop-alloc-preserved : goal.loop-alloc-preserved
loop-alloc-preserved c =
    let was = c.loop-alloc.numbers.olds.items in
    let now = c.copied.new.numbers.olds.items in
    let part = c.loop-alloc.part.items in
    let state = c.index-state.result.now in
    let place = c.len-in-loop-alloc-2.result in
    let here : place ≡ length part = omega (arith, c.len-in-loop-alloc-2.ensures) in
    let lt : place < length was = omega (arith, here, c.loop-alloc-test.true, c.len.ensures, c.len-in-loop-alloc.ensures) in
    let at = subst (λ k. slice_get was k ≡ Some state) here (read_is was place state state lt c.index-state.ensures) in
    record {
      right = c.in_ok-copy.ensures.right;
      firsts = more_then c.args.states.now was now c.loop-alloc.invariant.firsts c.in_ok-copy.ensures.more;
      copied = next_copied (map state_of c.args.rows.now) was now part c.push.new.self.items state c.in_ok-copy.copy c.loop-alloc.invariant.copied c.in_ok-copy.ensures.more at c.in_ok-copy.ensures.is c.in_ok-push.ensures.items;
    }

pub returns : goal.returns
returns c =
    let olds = c.loop-alloc.numbers.olds.items in
    let part = c.loop-alloc.part.items in
    let whole : length olds ≤ length (map state_of part) = omega (arith, c.loop-alloc-test.false, c.len.ensures, c.len-in-loop-alloc.ensures, length-map state_of part) in
    is_part (map state_of c.args.rows.now) (map state_of part) olds c.loop-alloc.invariant.copied whole c.args.states.now c.loop-alloc.invariant.firsts
