use Rattle.std.proofs.Common.{◌<◌, length}
use Rattle.flux_core.specs.Statements.{procedure_of, procs_of}
use Rattle.flux_grammar.specs.NormalNames.{ProcNames}
use Rattle.flux_report.specs.CoreText.{procedure_text}
use Rattle.flux_report.proofs.Listing.{holds_of, more_texts}
use Rattle.flux_report.proofs.core_text.push_procedures.Goals as goal

pub push_procedure-requires-clause-names : goal.push_procedure-requires-clause-names
push_procedure-requires-clause-names c =
    holds_of (ProcNames (λ a. a < length c.args.names.now)) (procs_of c.args.procs.now) c.loop-index.index (procedure_of c.get.result.now) c.get.ensures c.requires.procs

pub push_procedure-requires-clause-kept : goal.push_procedure-requires-clause-kept
push_procedure-requires-clause-kept c = c.requires.kept c.loop-index.index (procedure_of c.get.result.now) c.get.ensures

pub loop-index-preserved : goal.loop-index-preserved
loop-index-preserved c =
    more_texts (procedure_text c.args.names.now c.args.defs.now (procs_of c.args.procs.now)) (procs_of c.args.procs.now) c.loop-index.index (procedure_of c.get.result.now) c.loop-index.out.items _ _ c.get.ensures c.in_ok-push_procedure.ensures c.loop-index.invariant
