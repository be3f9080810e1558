use Rattle.std.proofs.Common.{refl, ap, map, length}
use Rattle.flux_types.specs.Read.{ty_of}
use Rattle.flux_types.specs.Verdicts.{IsEvidence}
use Rattle.flux_schema.specs.Member.{Included}
use Rattle.flux_query.specs.Read.{query_of}
use Rattle.flux_calculus.specs.Core.{call}
use Rattle.flux_core.specs.Faults.{IsUsable}
use Rattle.flux_core.specs.Statements.{procs_of, procedure_of}
use Rattle.flux_core.proofs.Replies.{passed_on}
use Rattle.flux_querytype.proofs.Left.{left_by_both}
use Rattle.flux_check.specs.Answers.{Comes, ArgumentsCome}
use Rattle.flux_check.specs.Ones.{measured_type}
use Rattle.flux_check.proofs.Scenes.{as_before, as_behind, against, agreed}
use Rattle.flux_check.proofs.CallLaws.{call_argument, call_shown, called, passable_as, some_proc, arguments_as, fault_arguments_as}
use Rattle.flux_check.proofs.call.type_call.Goals as goal

pub type_arguments-requires-clause-passable : goal.type_arguments-requires-clause-passable
type_arguments-requires-clause-passable g c =
    let q = procedure_of c.get-proc.result.now in
    let s = c.requires.stage in
    passable_as (g.D.Decider.definitions c.args.decider.now) (g.D.Decider.unnamed c.args.decider.now) c.get-proc.result.now.params c.as_slice.result.now c.args.called.now.args.now c.as_slice.ensures (some_proc (procs_of c.args.procs.now) c.args.called.now.proc (length (map query_of c.args.called.now.args.now)) q c.get-proc.ensures c.requires.fits) (s.procs_usable c.args.called.now.proc q c.get-proc.ensures).params (s.procs_lack c.args.called.now.proc q c.get-proc.ensures).params c.requires.args_lack

pub returns-in_err-type_arguments-clause-answer : goal.returns-in_err-type_arguments-clause-answer
returns-in_err-type_arguments-clause-answer g c =
    let defs = g.D.Decider.definitions c.args.decider.now in
    let other = g.D.Decider.unnamed c.args.decider.now in
    let procs = procs_of c.args.procs.now in
    let t = measured_type c.args.focus.now in
    let k = c.args.called.now in
    let q = procedure_of c.get-proc.result.now in
    let qs = map query_of k.args.now in
    let fault = fault_arguments_as defs other c.args.gamma.now c.get-proc.result.now.params c.as_slice.result.now qs c.in_err-type_arguments.field-0.0 c.as_slice.ensures c.in_err-type_arguments.ensures.fault in
    passed_on (IsEvidence defs other) (ArgumentsCome defs c.args.gamma.now q.params qs) (Comes procs defs c.args.gamma.now t (call k.span k.proc qs)) c.in_err-type_arguments.field-0.0 c.from_residual.result (λ f a. call_argument defs other c.args.gamma.now procs t k.span k.proc qs q c.get-proc.ensures f a) fault c.from_residual.ensures.1

pub compare-requires-clause-wanted : goal.compare-requires-clause-wanted
compare-requires-clause-wanted g c =
    let q = procedure_of c.get-proc.result.now in
    as_behind (λ e n G. IsUsable e q.focus) c.in_ok-type_arguments.ensures.left (c.requires.stage.procs_usable c.args.called.now.proc q c.get-proc.ensures).focus

pub returns-in_err-compare-clause-left : goal.returns-in_err-compare-clause-left
returns-in_err-compare-clause-left g c = left_by_both c.in_ok-type_arguments.ensures.left (c.in_err-compare.ensures.left _)

pub copied-requires : goal.copied-requires
copied-requires g c = (c.requires.stage.procs_usable c.args.called.now.proc (procedure_of c.get-proc.result.now) c.get-proc.ensures).result.limits

pub returns-in_err-copied-in-Yes-clause-left : goal.returns-in_err-copied-in-Yes-clause-left
returns-in_err-copied-in-Yes-clause-left g c = left_by_both c.in_ok-type_arguments.ensures.left (c.in_ok-compare.ensures.left _)

pub returns-in_ok-copied-in-Yes-clause-left : goal.returns-in_ok-copied-in-Yes-clause-left
returns-in_ok-copied-in-Yes-clause-left g c = left_by_both c.in_ok-type_arguments.ensures.left (c.in_ok-compare.ensures.left _)

pub returns-in-No-clause-left : goal.returns-in-No-clause-left
returns-in-No-clause-left g c = left_by_both c.in_ok-type_arguments.ensures.left (c.in_ok-compare.ensures.left _)

pub returns-in_ok-copied-in-Yes-clause-answer : goal.returns-in_ok-copied-in-Yes-clause-answer
returns-in_ok-copied-in-Yes-clause-answer g c =
    let D = g.D.Decider in
    let defs = D.definitions c.args.decider.now in
    let other = D.unnamed c.args.decider.now in
    let procs = procs_of c.args.procs.now in
    let t = measured_type c.args.focus.now in
    let k = c.args.called.now in
    let q = procedure_of c.get-proc.result.now in
    let qs = map query_of k.args.now in
    let passed = arguments_as defs c.args.gamma.now c.get-proc.result.now.params c.as_slice.result.now qs c.as_slice.ensures c.in_ok-type_arguments.ensures.answer in
    let fits = agreed _ _ (ty_of c.as_ref.result.now) q.focus t q.focus c.in_ok-compare.field-0 (ap ty_of c.as_ref.ensures) refl c.in-Yes.is c.in_ok-compare.ensures.verdict in
    called defs other c.args.gamma.now procs t k.span k.proc qs q c.get-proc.ensures (measured_type c.in_ok-copied-in-Yes.field-0) passed (as_before (λ e n G. Included e t q.focus) c.in_ok-type_arguments.ensures.left fits) (ap ty_of c.in_ok-copied-in-Yes.ensures) (c.requires.stage.procs_usable k.proc q c.get-proc.ensures).result.limits

pub returns-in-No-clause-answer : goal.returns-in-No-clause-answer
returns-in-No-clause-answer g c =
    let D = g.D.Decider in
    let defs = D.definitions c.args.decider.now in
    let other = D.unnamed c.args.decider.now in
    let procs = procs_of c.args.procs.now in
    let t = measured_type c.args.focus.now in
    let k = c.args.called.now in
    let q = procedure_of c.get-proc.result.now in
    let qs = map query_of k.args.now in
    let passed = arguments_as defs c.args.gamma.now c.get-proc.result.now.params c.as_slice.result.now qs c.as_slice.ensures c.in_ok-type_arguments.ensures.answer in
    let shown = against _ _ (ty_of c.as_ref.result.now) q.focus t q.focus c.in_ok-compare.field-0 c.in-No.shown (ap ty_of c.as_ref.ensures) refl c.in-No.is c.in_ok-compare.ensures.verdict in
    call_shown defs other c.args.gamma.now procs t k.span k.proc qs q c.get-proc.ensures c.in-No.shown passed (as_before (λ e n G. IsEvidence e n t q.focus c.in-No.shown) c.in_ok-type_arguments.ensures.left shown)
