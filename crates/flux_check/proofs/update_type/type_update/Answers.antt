use Rattle.std.proofs.Common.{ap, subst, sym}
use Rattle.flux_schema.specs.Labels.{Lacks}
use Rattle.flux_types.specs.Read.{ty_of}
use Rattle.flux_core.specs.Faults.{IsUsable}
use Rattle.flux_core.specs.Statements.{core_of}
use Rattle.flux_check.specs.Ones.{measured_type}
use Rattle.flux_check.proofs.Stages.{stage_made}
use Rattle.flux_check.proofs.update_type.type_update.Goals as goal

pub returns-clause-usable : goal.returns-clause-usable
returns-clause-usable g c =
    let defs = g.D.Decider.definitions c.args.decider.now in
    let made = stage_made (ty_of c.args.focus.now) (measured_type c.in_ok-at.at) (measured_type c.in_ok-made.made) (core_of c.args.core.now)
    (record { kept = c.defs-defs.ensures.good; lacks = c.other-other.ensures.lacks; usable = c.requires.gamma_usable; gamma = c.requires.gamma_lacks }) c.requires.procs_usable c.requires.procs_lack
    c.requires.focus_usable c.requires.focus_lacks (ap ty_of c.in_ok-at.ensures) c.requires.core_lacks c.in_ok-made.ensures.answer c.in_ok-made.made.limits in
    subst (λ t. IsUsable defs (ty_of t)) (sym c.in_ok-ty.ensures) made.usable

pub returns-clause-lacks : goal.returns-clause-lacks
returns-clause-lacks g c =
    let other = g.D.Decider.unnamed c.args.decider.now in
    let made = stage_made (ty_of c.args.focus.now) (measured_type c.in_ok-at.at) (measured_type c.in_ok-made.made) (core_of c.args.core.now)
    (record { kept = c.defs-defs.ensures.good; lacks = c.other-other.ensures.lacks; usable = c.requires.gamma_usable; gamma = c.requires.gamma_lacks }) c.requires.procs_usable c.requires.procs_lack
    c.requires.focus_usable c.requires.focus_lacks (ap ty_of c.in_ok-at.ensures) c.requires.core_lacks c.in_ok-made.ensures.answer c.in_ok-made.made.limits in
    subst (λ t. Lacks other (ty_of t)) (sym c.in_ok-ty.ensures) made.lacks
