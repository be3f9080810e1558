use Rattle.std.proofs.Common.{◌≡◌, ◌∙◌, ◌++◌, ◌∷◌, ◌-◌, [], Vec, refl, ap, arith}
use Rattle.std.specs.Vec.{vec_len}
use Rattle.std.specs.declared.alloc.Global.{Global}
use Rattle.std.proofs.Math.ListN.{set}
use Rattle.flux_auto.specs.declared.arcs.Arc.{Arc}
use Rattle.flux_auto.proofs.Items.{read_is, set-same}
use Rattle.flux_auto.proofs.ArcLaws.{arc_pushed, arc_joined}
use Rattle.flux_auto.proofs.arcs.push_arc.Goals as goal
use Rattle.flux_auto.proofs.arcs.push_arc.Goals.{in-Some+else-join_arc, in_default}

pub returns-then-join_arc : goal.returns-then-join_arc
returns-then-join_arc c =
    let old = c.args.arcs.now.items in
    let i = vec_len c.args.arcs.now - 1 in
    let at = read_is old i c.in-Some.last.now c.in-Some.last.now (let some = c.in-Some.ensures.variant.0 refl in omega (arith, some)) c.in-Some.ensures.value in
    arc_joined old (set old i c.join_arc.new.last) i c.args.arc c.in-Some.last.now c.join_arc.new.last at refl (c.if-join_arc.ensures.joined refl)

pub returns : goal.returns
returns c =
    let old = c.args.arcs.now.items in
    let same : c.match-last_mut.arcs.items ≡ old = elim c.match-last_mut.branch [
      | in-Some+else-join_arc w ↦ (
          let at = read_is old (vec_len c.args.arcs.now - 1) w.in-Some.last.now w.in-Some.last.now (let some = w.in-Some.ensures.variant.0 refl in omega (arith, some)) w.in-Some.ensures.value in
          ap (λ (v : Vec Arc Global). v.items) w.arcs-is ∙ ap (set old (vec_len c.args.arcs.now - 1)) (w.if-join_arc.ensures.same refl) ∙ set-same old (vec_len c.args.arcs.now - 1) w.in-Some.last.now at)
      | in_default w ↦ ap (λ (v : Vec Arc Global). v.items) w.arcs-is
    ] in
    arc_pushed old c.push.new.self.items c.args.arc (c.in_ok-push.ensures.items ∙ ap (λ l. l ++ c.args.arc ∷ []) same)
