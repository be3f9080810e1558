use Rattle.std.proofs.Common.{Result, Ok, Err, OnOk}
use Rattle.flux_forest.specs.View.{forest_of}
use Rattle.flux_doctext.proofs.CanonicalLaws.{text_spells}
use Rattle.flux_doctext.proofs.write.write_forest.Goals as goal

-- what follows where it is Ok
on_ok : {A E : Type 0} (r : Result A E) (P Q : Type 0) → (P → Q) → OnOk r P → OnOk r Q
on_ok (Ok a) P Q f h = f h
on_ok (Err e) P Q f h = h

pub returns-else-is_err-clause-spells : goal.returns-else-is_err-clause-spells
returns-else-is_err-clause-spells c =
    on_ok c.push_forest-written.result _ _ (λ atoms table labels. text_spells c.args.names.now (forest_of c.args.view) table labels atoms) c.push_forest-written.ensures.proper
