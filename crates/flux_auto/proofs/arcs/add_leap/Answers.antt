use Rattle.std.proofs.Common.{◌∷◌, [], refl, sym, subst}
use Rattle.flux_atom.specs.declared.atom.AtomKind.TheVariants as kind
use Rattle.flux_auto.specs.declared.arcs.Arcs.{Arcs}
use Rattle.flux_auto.specs.declared.edge.Edge.TheVariants.{Atom}
use Rattle.flux_auto.specs.Arcs.{Adds}
use Rattle.flux_auto.proofs.ArcLaws.{adds_leap}
use Rattle.flux_auto.proofs.arcs.add_leap.Goals as goal

pub returns-in_ok-push_leap-in-Bool : goal.returns-in_ok-push_leap-in-Bool
returns-in_ok-push_leap-in-Bool c =
    let b : Arcs = record { by_label = c.args.arcs.now.by_label; labels = c.args.arcs.now.labels; any_label = c.args.arcs.now.any_label; texts = c.args.arcs.now.texts; truths = c.push_leap.new.leaps; numbers = c.args.arcs.now.numbers } in
    subst (λ k. Adds c.args.arcs.now b c.args.source (Atom k c.args.next ∷ [])) (sym c.in-Bool.is)
    (adds_leap c.args.arcs.now b kind.Bool c.args.source c.args.next c.of-sources.result c.of-sources.ensures c.in_ok-push_leap-in-Bool.ensures (elim [ kind.Bool ↦ (λ ne. absurd (ne refl)) | kind.Text ↦ (λ ne. refl) | kind.Int ↦ (λ ne. refl) ]) refl refl refl)

pub returns-in_ok-push_leap-in-Text : goal.returns-in_ok-push_leap-in-Text
returns-in_ok-push_leap-in-Text c =
    let b : Arcs = record { by_label = c.args.arcs.now.by_label; labels = c.args.arcs.now.labels; any_label = c.args.arcs.now.any_label; texts = c.push_leap-in-Text.new.leaps; truths = c.args.arcs.now.truths; numbers = c.args.arcs.now.numbers } in
    subst (λ k. Adds c.args.arcs.now b c.args.source (Atom k c.args.next ∷ [])) (sym c.in-Text.is)
    (adds_leap c.args.arcs.now b kind.Text c.args.source c.args.next c.of-sources.result c.of-sources.ensures c.in_ok-push_leap-in-Text.ensures (elim [ kind.Bool ↦ (λ ne. refl) | kind.Text ↦ (λ ne. absurd (ne refl)) | kind.Int ↦ (λ ne. refl) ]) refl refl refl)

pub returns-in_ok-push_leap-in-Int : goal.returns-in_ok-push_leap-in-Int
returns-in_ok-push_leap-in-Int c =
    let b : Arcs = record { by_label = c.args.arcs.now.by_label; labels = c.args.arcs.now.labels; any_label = c.args.arcs.now.any_label; texts = c.args.arcs.now.texts; truths = c.args.arcs.now.truths; numbers = c.push_leap-in-Int.new.leaps } in
    subst (λ k. Adds c.args.arcs.now b c.args.source (Atom k c.args.next ∷ [])) (sym c.in-Int.is)
    (adds_leap c.args.arcs.now b kind.Int c.args.source c.args.next c.of-sources.result c.of-sources.ensures c.in_ok-push_leap-in-Int.ensures (elim [ kind.Bool ↦ (λ ne. refl) | kind.Text ↦ (λ ne. refl) | kind.Int ↦ (λ ne. absurd (ne refl)) ]) refl refl refl)
