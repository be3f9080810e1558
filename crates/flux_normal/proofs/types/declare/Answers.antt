use Rattle.flux_normal.proofs.Declared.{names_declared, all_declared, all_differ, few_declared, one_declared, declared_twice, none_declared}
use Rattle.flux_normal.proofs.types.declare.Goals as goal

pub returns-clause-names : goal.returns-clause-names
returns-clause-names c =
    names_declared c.args.types.now c.loop-definition.draft c.loop-definition.definition-index c.loop-definition-test.false c.loop-definition.invariant
