use Rattle.flux_run.proofs.tests.ending_of.Goals as goal

pub run-outcome-requires-clause-fits : goal.run-outcome-requires-clause-fits
run-outcome-requires-clause-fits g c = c.requires.runs _ _
