use Rattle.std.proofs.Common.{◌≡◌, ◌≤◌, length, ◌++◌}
use Rattle.flux_grammar.specs.Grammar.{slashes}
use Rattle.flux_grammar.specs.Machine.{call}
use Rattle.flux_syntax.specs.At.{at}
use Rattle.flux_syntax.proofs.Leads.{Leads}
use Rattle.flux_syntax.proofs.reader.Reader.slashes.Given as goal

abbrev pub invariant-loop-self : goal.invariant-loop-self
invariant-loop-self l = record {
  same : l.depth ≡ l.fn.depth;
  shorter : length l.self.left.now ≤ length l.fn.self.left.now;
  on : Leads (call (slashes l.depth)) (at l.fn.self) (λ k. call (slashes l.depth) (λ ts. k (l.all ++ ts))) (at l.self);
}

abbrev pub decreases-loop-self : goal.decreases-loop-self
decreases-loop-self l = length l.self.left.now
