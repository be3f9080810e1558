use Rattle.std.proofs.Common.{◌≡◌, ◌≤◌, ◌+◌, length, ◌-◌, ◌*◌, ◌++◌}
use Rattle.flux_grammar.specs.Grammar.{items}
use Rattle.flux_grammar.specs.Machine.{call}
use Rattle.flux_syntax.specs.At.{at}
use Rattle.flux_syntax.proofs.Leads.{Leads}
use Rattle.flux_syntax.proofs.reader.Reader.+queries.Given as goal

abbrev pub decreases-for_item : goal.decreases-for_item
decreases-for_item l = (200 - l.depth) * 16 + 0

abbrev pub decreases-let_item : goal.decreases-let_item
decreases-let_item l = (200 - l.depth) * 16 + 0

abbrev pub decreases-if_item : goal.decreases-if_item
decreases-if_item l = (200 - l.depth) * 16 + 0

abbrev pub decreases-item : goal.decreases-item
decreases-item l = (200 - l.depth) * 16 + 1

abbrev pub decreases-items : goal.decreases-items
decreases-items l = (200 - l.depth) * 16 + 2

abbrev pub decreases-query : goal.decreases-query
decreases-query l = (200 - l.depth) * 16 + 3

abbrev pub decreases-within : goal.decreases-within
decreases-within l = (200 - l.depth) * 16 + 4

abbrev pub decreases-query_group : goal.decreases-query_group
decreases-query_group l = (200 - l.depth) * 16 + 5

abbrev pub decreases-query_element : goal.decreases-query_element
decreases-query_element l = (200 - l.depth) * 16 + 5

abbrev pub decreases-primary : goal.decreases-primary
decreases-primary l = (200 - l.depth) * 16 + 6

abbrev pub decreases-post : goal.decreases-post
decreases-post l = (200 - l.depth) * 16 + 7

abbrev pub decreases-compared : goal.decreases-compared
decreases-compared l = (200 - l.depth) * 16 + 8

abbrev pub invariant-items-loop-self : goal.invariant-items-loop-self
invariant-items-loop-self l = record {
  same : l.depth ≡ l.fn.depth;
  shorter : length l.self.left.now ≤ length l.fn.self.left.now;
  on : Leads (call (items l.depth)) (at l.fn.self) (λ k. call (items l.depth) (λ ts. k (l.all ++ ts))) (at l.self);
}

abbrev pub decreases-items-loop-self : goal.decreases-items-loop-self
decreases-items-loop-self l = length l.self.left.now

abbrev pub decreases-boxed_query : goal.decreases-boxed_query
decreases-boxed_query l = (200 - l.depth) * 16 + 4

abbrev pub decreases-boxed_item : goal.decreases-boxed_item
decreases-boxed_item l = (200 - l.depth) * 16 + 2
