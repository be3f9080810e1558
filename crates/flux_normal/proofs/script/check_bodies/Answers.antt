use Rattle.flux_grammar.specs.NormalFaults.{CallsFit, nested, wrong_calls}
use Rattle.flux_normal.proofs.Firsts.{first_none}
use Rattle.flux_normal.proofs.NormalLaws.{calls_fit}
use Rattle.flux_normal.proofs.script.check_bodies.Goals as goal

pub returns-in-Ok-check_nesting-clause-ok : goal.returns-in-Ok-check_nesting-clause-ok
returns-in-Ok-check_nesting-clause-ok c = record {
  before = record { before = c.requires.guarded; fit = first_none (wrong_calls c.args.script.now) c.in-Ok.ensures };
  nesting = first_none (nested c.args.script.now) c.in-Ok-check_nesting.ensures;
}

pub returns-in-Ok-check_nesting-clause-fits : goal.returns-in-Ok-check_nesting-clause-fits
returns-in-Ok-check_nesting-clause-fits c =
    calls_fit c.args.script.now c.args.procedures.now c.requires.procedures (first_none (wrong_calls c.args.script.now) c.in-Ok.ensures)

pub returns-in-Err-clause-fault : goal.returns-in-Err-clause-fault
returns-in-Err-clause-fault c =
    (record { before = c.requires.guarded; fit = first_none (wrong_calls c.args.script.now) c.in-Ok.ensures }, c.in-Err.ensures)
