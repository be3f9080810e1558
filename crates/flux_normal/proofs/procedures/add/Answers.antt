use Rattle.std.proofs.Common.{[], map, sym, ap, ◌∙◌}
use Rattle.flux_grammar.specs.NormalFaults.{first, repeated}
use Rattle.flux_normal.specs.Procedures.{mention_of_param}
use Rattle.flux_normal.proofs.ProcedureLaws.{stood_before, not_before, still_first}
use Rattle.flux_normal.proofs.procedures.add.Goals as goal

pub returns-then-contains_key-clause-fault : goal.returns-then-contains_key-clause-fault
returns-then-contains_key-clause-fault c =
    stood_before c.args.proc.now.name c.number-name.result c.args.parameters.now.entries c.args.proc.now.at.from c.contains_key.result c.number-name.ensures c.contains_key.ensures c.if-contains_key.true _

pub returns-in-Err-clause-fault : goal.returns-in-Err-clause-fault
returns-in-Err-clause-fault c =
    still_first _ _ c.in-Err.fault
    (λ place found.
    ap first (not_before c.args.proc.now.name c.number-name.result c.args.parameters.now.entries c.args.proc.now.at.from c.contains_key.result c.number-name.ensures c.contains_key.ensures c.if-contains_key.false _)
    ∙ ap (λ ps. first (repeated [] (map mention_of_param ps))) (sym c.as_slice.ensures) ∙ found)
    c.in-Err.ensures.fault

pub returns-clause-differ : goal.returns-clause-differ
returns-clause-differ c =
    not_before c.args.proc.now.name c.number-name.result c.args.parameters.now.entries c.args.proc.now.at.from c.contains_key.result c.number-name.ensures c.contains_key.ensures c.if-contains_key.false _
    ∙ ap (λ ps. repeated [] (map mention_of_param ps)) (sym c.as_slice.ensures) ∙ c.in_default.ensures.differ
