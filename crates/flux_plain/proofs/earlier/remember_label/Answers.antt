use Rattle.std.proofs.Common.{Some, None, ◌≡◌, ap₂, sym, ◌∙◌}
use Rattle.flux_plain.specs.declared.earlier.Earlier.TheVariants.{Label}
use Rattle.flux_plain.specs.Moves.{whole, relabelled}
use Rattle.flux_plain.proofs.MoveLaws.{element_parts}
use Rattle.flux_plain.proofs.PastLaws.{label_kept}
use Rattle.flux_plain.proofs.earlier.remember_label.Goals as goal

pub returns-in_ok-push-in-Some-clause-ok : goal.returns-in_ok-push-in-Some-clause-ok
returns-in_ok-push-in-Some-clause-ok c =
    let parts = element_parts c.args.document.now.focus c.requires in
    let told : Some c.in-Some.label ≡ Some (parts.0) = sym c.in-Some.is ∙ c.label.ensures parts.0 parts.1 parts.2 in
    let same : c.in-Some.label ≡ parts.0 = cc told in (
      Label c.place.result c.in-Some.label,
      c.in_ok-push-in-Some.ensures.items,
      λ b d r.
          ap₂ (λ i a. relabelled i a (whole d)) c.place.ensures same ∙ label_kept c.args.document.now d parts.0 b parts.1 parts.2 r,
    )

pub returns-in-None-clause-ok : goal.returns-in-None-clause-ok
returns-in-None-clause-ok c =
    let parts = element_parts c.args.document.now.focus c.requires in
    let told : None ≡ Some (parts.0) = sym c.in-None.is ∙ c.label.ensures parts.0 parts.1 parts.2 in
    cc told
