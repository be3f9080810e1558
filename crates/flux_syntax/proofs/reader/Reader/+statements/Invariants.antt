use Rattle.std.proofs.Common.{◌≡◌, ◌≤◌, ◌+◌, length, ◌-◌, ◌*◌, ◌++◌}
use Rattle.flux_grammar.specs.Grammar.{stmts, nexts}
use Rattle.flux_grammar.specs.Machine.{call}
use Rattle.flux_syntax.specs.At.{at}
use Rattle.flux_syntax.proofs.Leads.{Leads}
use Rattle.flux_syntax.proofs.reader.Reader.+statements.Given as goal

abbrev pub decreases-update : goal.decreases-update
decreases-update l = (200 - l.depth) * 16 + 0

abbrev pub decreases-conditional : goal.decreases-conditional
decreases-conditional l = (200 - l.depth) * 16 + 0

abbrev pub decreases-binding : goal.decreases-binding
decreases-binding l = (200 - l.depth) * 16 + 0

abbrev pub decreases-statement : goal.decreases-statement
decreases-statement l = (200 - l.depth) * 16 + 1

abbrev pub decreases-boxed_statement : goal.decreases-boxed_statement
decreases-boxed_statement l = (200 - l.depth) * 16 + 2

abbrev pub decreases-statements : goal.decreases-statements
decreases-statements l = (200 - l.depth) * 16 + 2

abbrev pub decreases-block : goal.decreases-block
decreases-block l = (200 - l.depth) * 16 + 3

abbrev pub decreases-simple : goal.decreases-simple
decreases-simple l = (200 - l.depth) * 16 + 4

abbrev pub invariant-statements-loop-self : goal.invariant-statements-loop-self
invariant-statements-loop-self l = record {
  same : l.depth ≡ l.fn.depth;
  shorter : length l.self.left.now ≤ length l.fn.self.left.now;
  on : Leads (call (stmts l.depth)) (at l.fn.self) (λ k. call (nexts l.depth) (λ ts. k (l.all ++ ts))) (at l.self);
}

abbrev pub decreases-statements-loop-self : goal.decreases-statements-loop-self
decreases-statements-loop-self l = length l.self.left.now
