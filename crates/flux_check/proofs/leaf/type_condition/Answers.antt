use Rattle.std.proofs.Common.{refl}
use Rattle.flux_atom.specs.declared.atom.AtomKind.TheVariants as kind
use Rattle.flux_schema.specs.Ty.{atom}
use Rattle.flux_types.specs.declared.ty.Ty.TheVariants.{Atom}
use Rattle.flux_types.specs.Read.{ty_of}
use Rattle.flux_types.specs.Verdicts.{IsEvidence}
use Rattle.flux_types.proofs.Variants.{of_atom}
use Rattle.flux_query.specs.Read.{query_of}
use Rattle.flux_calculus.specs.Typing.{Types, of_query}
use Rattle.flux_querytype.proofs.Left.{left_by_both}
use Rattle.flux_check.specs.Answers.{InAnyChoice}
use Rattle.flux_check.proofs.Scenes.{as_before, passed_by, against}
use Rattle.flux_check.proofs.Rules.{condition_faulty}
use Rattle.flux_check.proofs.LeafLaws.{condition_shown}
use Rattle.flux_check.proofs.leaf.type_condition.Goals as goal

pub returns-in_err-found-clause-fault : goal.returns-in_err-found-clause-fault
returns-in_err-found-clause-fault g c = λ procs t.
    let defs = g.D.Decider.definitions c.args.decider.now in
    let q = query_of c.args.condition.now in
    passed_by (IsEvidence defs (g.D.Decider.unnamed c.args.decider.now)) (Types defs (of_query c.args.gamma.now q)) (InAnyChoice procs defs c.args.gamma.now t q) c.in_err-found.field-0.0 c.from_residual.result (λ f d. condition_faulty d) c.in_err-found.ensures.fault c.from_residual.ensures.1

pub returns-in_err-compare-clause-left : goal.returns-in_err-compare-clause-left
returns-in_err-compare-clause-left g c = left_by_both c.in_ok-found.ensures.left (c.in_err-compare.ensures.left _)

pub returns-in-Yes-clause-left : goal.returns-in-Yes-clause-left
returns-in-Yes-clause-left g c = left_by_both c.in_ok-found.ensures.left (c.in_ok-compare.ensures.left _)

pub returns-clause-left : goal.returns-clause-left
returns-clause-left g c = left_by_both c.in_ok-found.ensures.left (c.in_ok-compare.ensures.left _)

pub returns-clause-fault : goal.returns-clause-fault
returns-clause-fault g c = λ procs t.
    let D = g.D.Decider in
    let u = ty_of c.in_ok-found.found in
    let q = query_of c.args.condition.now in
    let shown = against _ _ u _ u (atom kind.Bool) c.in_ok-compare.field-0 c.in-No.shown refl (of_atom (Atom kind.Bool) kind.Bool refl) c.in-No.is c.in_ok-compare.ensures.verdict in
    condition_shown (D.definitions c.args.decider.now) (D.unnamed c.args.decider.now) c.args.gamma.now procs t q u c.place.result c.in-No.shown c.in_ok-found.ensures.typed c.place.ensures
    (as_before (λ e n G. IsEvidence e n u (atom kind.Bool) c.in-No.shown) c.in_ok-found.ensures.left shown)
