use Rattle.std.proofs.Common.{◌≡◌, ◌∙◌, ◌++◌, ◌∷◌, ◌-◌, [], Vec, refl, ap, arith}
use Rattle.std.specs.Vec.{vec_len}
use Rattle.std.specs.declared.alloc.Global.{Global}
use Rattle.std.proofs.Math.ListN.{set}
use Rattle.flux_auto.specs.declared.arcs.Leap.{Leap}
use Rattle.flux_auto.proofs.Items.{read_is, set-same}
use Rattle.flux_auto.proofs.ArcLaws.{leap_pushed, leap_joined}
use Rattle.flux_auto.proofs.arcs.push_leap.Goals as goal
use Rattle.flux_auto.proofs.arcs.push_leap.Goals.{in-Some+else-join_leap, in_default}

pub returns-then-join_leap : goal.returns-then-join_leap
returns-then-join_leap c =
    let old = c.args.leaps.now.items in
    let i = vec_len c.args.leaps.now - 1 in
    let at = read_is old i c.in-Some.last.now c.in-Some.last.now (let some = c.in-Some.ensures.variant.0 refl in omega (arith, some)) c.in-Some.ensures.value in
    leap_joined old (set old i c.join_leap.new.last) i c.args.leap c.in-Some.last.now c.join_leap.new.last at refl (c.if-join_leap.ensures.joined refl)

pub returns : goal.returns
returns c =
    let old = c.args.leaps.now.items in
    let same : c.match-last_mut.leaps.items ≡ old = elim c.match-last_mut.branch [
      | in-Some+else-join_leap w ↦ (
          let at = read_is old (vec_len c.args.leaps.now - 1) w.in-Some.last.now w.in-Some.last.now (let some = w.in-Some.ensures.variant.0 refl in omega (arith, some)) w.in-Some.ensures.value in
          ap (λ (v : Vec Leap Global). v.items) w.leaps-is ∙ ap (set old (vec_len c.args.leaps.now - 1)) (w.if-join_leap.ensures.same refl) ∙ set-same old (vec_len c.args.leaps.now - 1) w.in-Some.last.now at)
      | in_default w ↦ ap (λ (v : Vec Leap Global). v.items) w.leaps-is
    ] in
    leap_pushed old c.push.new.self.items c.args.leap (c.in_ok-push.ensures.items ∙ ap (λ l. l ++ c.args.leap ∷ []) same)
