use Rattle.std.proofs.Common.{◌≤◌, ◌-◌, ◌^◌, length}
use Rattle.flux_normal.proofs.Declared.{AreDeclared}
use Rattle.flux_normal.proofs.types.declare.Given as goal

abbrev pub invariant-loop-definition : goal.invariant-loop-definition
invariant-loop-definition l = AreDeclared l.types l.draft l.definition-index
