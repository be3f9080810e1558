use Rattle.std.proofs.Common.{◌≡◌, ◌≤◌, ◌+◌, length, ◌-◌, ◌*◌, ◌++◌}
use Rattle.flux_grammar.specs.Grammar.{alts, seqs}
use Rattle.flux_grammar.specs.Machine.{call}
use Rattle.flux_syntax.specs.At.{at}
use Rattle.flux_syntax.proofs.Leads.{Leads}
use Rattle.flux_syntax.proofs.reader.Reader.+types.Given as goal

abbrev pub decreases-type_text : goal.decreases-type_text
decreases-type_text l = (200 - l.depth) * 16 + 0

abbrev pub decreases-content : goal.decreases-content
decreases-content l = (200 - l.depth) * 16 + 1

abbrev pub decreases-labelled : goal.decreases-labelled
decreases-labelled l = (200 - l.depth) * 16 + 2

abbrev pub decreases-group : goal.decreases-group
decreases-group l = (200 - l.depth) * 16 + 2

abbrev pub decreases-quoted_element : goal.decreases-quoted_element
decreases-quoted_element l = (200 - l.depth) * 16 + 2

abbrev pub decreases-any_element : goal.decreases-any_element
decreases-any_element l = (200 - l.depth) * 16 + 2

abbrev pub decreases-named : goal.decreases-named
decreases-named l = (200 - l.depth) * 16 + 3

abbrev pub decreases-soft_atom : goal.decreases-soft_atom
decreases-soft_atom l = (200 - l.depth) * 16 + 3

abbrev pub decreases-atom : goal.decreases-atom
decreases-atom l = (200 - l.depth) * 16 + 4

abbrev pub decreases-repeated : goal.decreases-repeated
decreases-repeated l = (200 - l.depth) * 16 + 5

abbrev pub decreases-followers : goal.decreases-followers
decreases-followers l = (200 - l.depth) * 16 + 6

abbrev pub decreases-sequence : goal.decreases-sequence
decreases-sequence l = (200 - l.depth) * 16 + 7

abbrev pub decreases-alternatives : goal.decreases-alternatives
decreases-alternatives l = (200 - l.depth) * 16 + 8

abbrev pub invariant-alternatives-loop-self : goal.invariant-alternatives-loop-self
invariant-alternatives-loop-self l = record {
  same : l.depth ≡ l.fn.depth;
  shorter : length l.self.left.now ≤ length l.fn.self.left.now;
  on : Leads (call (alts l.depth)) (at l.fn.self) (λ k. call (alts l.depth) (λ ts. k (l.all ++ ts))) (at l.self);
}

abbrev pub decreases-alternatives-loop-self : goal.decreases-alternatives-loop-self
decreases-alternatives-loop-self l = length l.self.left.now

abbrev pub invariant-followers-loop-self : goal.invariant-followers-loop-self
invariant-followers-loop-self l = record {
  same : l.depth ≡ l.fn.depth;
  shorter : length l.self.left.now ≤ length l.fn.self.left.now;
  on : Leads (call (seqs l.depth)) (at l.fn.self) (λ k. call (seqs l.depth) (λ ts. k (l.all ++ ts))) (at l.self);
}

abbrev pub decreases-followers-loop-self : goal.decreases-followers-loop-self
decreases-followers-loop-self l = length l.self.left.now
