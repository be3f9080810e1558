use Rattle.std.proofs.Common.{◌≡◌, ◌≤◌, ◌++◌, length}
use Rattle.flux_grammar.specs.Grammar.{marks}
use Rattle.flux_grammar.specs.Machine.{call}
use Rattle.flux_syntax.specs.At.{at}
use Rattle.flux_syntax.proofs.Leads.{Leads}
use Rattle.flux_syntax.proofs.reader.Reader.marks.Given as goal

abbrev pub invariant-loop-repetition : goal.invariant-loop-repetition
invariant-loop-repetition l = record {
  same : l.from ≡ l.fn.from;
  shorter : length l.self.left.now ≤ length l.fn.self.left.now;
  on : Leads (call (marks l.from)) (at l.fn.self) (λ k. call (marks l.from) (λ ms. k (l.all ++ ms))) (at l.self);
}

abbrev pub decreases-loop-repetition : goal.decreases-loop-repetition
decreases-loop-repetition l = length l.self.left.now
