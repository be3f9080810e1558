use Rattle.std.proofs.Common.{◌≡◌, ◌-◌, ◌∷◌, ◌++◌, [], length, suc, ap, ◌∙◌, arith, append_assoc}
use Rattle.flux_plain.specs.Moves.{whole}
use Rattle.flux_plain.specs.PlainStates.{documents}
use Rattle.flux_plain.proofs.PastLaws.{back_once, kept_all}
use Rattle.flux_plain.proofs.earlier.go_back.Goals as goal

pub loop-earlier-preserved : goal.loop-earlier-preserved
loop-earlier-preserved c =
    let es = c.loop-earlier.earlier.items in
    let n = c.len-last.result - 1 in
    let long : length es ≡ suc n = omega (arith, c.len-last.ensures, c.len.ensures, c.loop-earlier-test.true) in
    let more = c.loop-earlier.invariant.1.0 in
    let once = back_once es c.truncate.new.self.items n c.index_mut.result.now c.restore.new.earlier (whole c.loop-earlier.current) (whole c.restore.new.current) long c.index_mut.ensures.value c.restore.ensures c.truncate.ensures.items in (
      omega (arith, c.len.ensures, c.loop-earlier-test.true, c.len-last.ensures, c.loop-earlier.invariant.0),
      (
        whole c.loop-earlier.current ∷ more,
        c.loop-earlier.invariant.1.1 ∙ ap (λ ds. ds ++ more) once ∙ append_assoc (documents c.truncate.new.self.items (whole c.restore.new.current)) (whole c.loop-earlier.current ∷ []) more,
      ),
    )

pub returns : goal.returns
returns c =
    kept_all c.loop-earlier.earlier.items (whole c.loop-earlier.current) (documents c.args.earlier.now.items (whole c.args.current.now)) c.loop-earlier.invariant.1.0 c.args.changes
    (omega (arith, c.len.ensures, c.loop-earlier-test.false, c.loop-earlier.invariant.0)) c.loop-earlier.invariant.1.1
