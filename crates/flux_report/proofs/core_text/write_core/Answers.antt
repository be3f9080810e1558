use Rattle.std.proofs.Common.{◌≡◌, ◌∙◌, ◌<◌, ℕ, All, Some, length, sym, subst, ap}
use Rattle.flux_calculus.specs.Core.{proc_of}
use Rattle.flux_core.specs.Statements.{procs_of}
use Rattle.flux_core.specs.Normals.{normal_of}
use Rattle.flux_core.specs.WellFormed.{IsWellFormedProc}
use Rattle.flux_grammar.specs.NormalNames.{CoreNames, ProcNames}
use Rattle.flux_report.proofs.core_text.write_core.Goals as goal

pub push_procedures-requires-clause-procs : goal.push_procedures-requires-clause-procs
push_procedures-requires-clause-procs c =
    subst (All (ProcNames (λ a. a < length c.args.names.now))) (sym (c.procs.ensures ∙ ap (λ n. n.procs) c.as_kept-normal.ensures.same)) c.requires.procs

pub push_procedures-requires-clause-kept : goal.push_procedures-requires-clause-kept
push_procedures-requires-clause-kept c = λ p q is.
    let n = normal_of c.args.normal.now in
    let same = c.as_kept-normal.ensures.same in
    let procs = c.procs.ensures ∙ ap (λ n. n.procs) same in
    subst (λ ds. IsWellFormedProc ds (procs_of c.procs.result.now) q) (sym (c.defs.ensures ∙ ap (λ n. n.defs) same))
    (subst (λ ps. IsWellFormedProc n.defs ps q) (sym procs)
    (c.as_kept-normal.ensures.kept.procs p q (subst (λ ps. proc_of ps p ≡ Some q) procs is)))

pub push_statement-requires-clause-names : goal.push_statement-requires-clause-names
push_statement-requires-clause-names c =
    subst (CoreNames (λ a. a < length c.args.names.now)) (sym (c.main.ensures ∙ ap (λ n. n.main) c.as_kept-normal.ensures.same)) c.requires.main
