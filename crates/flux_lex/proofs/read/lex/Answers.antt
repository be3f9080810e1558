use Rattle.std.proofs.Common.{◌≡◌, ◌+◌, length, ap, arith, option_map, subst, sym, ◌∙◌}
use Rattle.flux_grammar.specs.Tokens.{AreTokens}
use Rattle.flux_grammar.specs.TokenSteps.{told}
use Rattle.flux_lex.specs.declared.read.LexFault.TheVariants.{Bad}
use Rattle.flux_lex.specs.Fault.{IsLexFault}
use Rattle.flux_lex.specs.Stages.{stage_of}
use Rattle.flux_lex.proofs.ReadLaws.{HasRead, byte_misfits, byte_stuck, read_whole, unended, went_on, went_over}
use Rattle.flux_lex.proofs.read.lex.Goals as goal
use Rattle.flux_lex.proofs.read.lex.Goals.{in-On, in-Ends+in_ok-tell-in-Ends+in-Some}

pub returns-in_default-clause-fault : goal.returns-in_default-clause-fault
returns-in_default-clause-fault c =
    let over = rw c.in-Ends.is at c.in_ok-next.ensures in
    subst (IsLexFault c.args.bytes.now) (sym c.bad.ensures)
    (byte_misfits c.args.bytes.now c.loop-place.place c.loop-place.from (stage_of c.loop-place.state) c.loop-place.tokens c.loop-place.invariant c.in-Ends.kind c.loop-place-test.true (sym over) (sym c.begin.ensures ∙ ap (option_map stage_of) c.in_default.is))

pub returns-in-Stuck-clause-fault : goal.returns-in-Stuck-clause-fault
returns-in-Stuck-clause-fault c =
    let fits_not = rw c.in-Stuck.is at c.in_ok-next.ensures in
    subst (IsLexFault c.args.bytes.now) (sym c.bad-in-Stuck.ensures)
    (byte_stuck c.args.bytes.now c.loop-place.place c.loop-place.from (stage_of c.loop-place.state) c.loop-place.tokens c.loop-place.invariant c.loop-place-test.true (sym fits_not))

pub loop-place-preserved : goal.loop-place-preserved
loop-place-preserved c =
    elim c.match-branch-2.branch [ in-On w ↦ let on = rw w.in-On.is at c.in_ok-next.ensures in rw (w.from-is, w.state-is, w.tokens-is) (went_on c.args.bytes.now c.loop-place.place c.loop-place.from (stage_of c.loop-place.state) c.loop-place.tokens c.loop-place.invariant c.loop-place-test.true (stage_of w.in-On.next) (sym on)) | in-Ends+in_ok-tell-in-Ends+in-Some w ↦ let over = rw w.in-Ends.is at c.in_ok-next.ensures in rw (w.from-is, w.state-is, w.tokens-is) (subst (HasRead c.args.bytes.now (c.loop-place.place + 1) c.loop-place.place (stage_of w.in-Some.next)) (sym w.in_ok-tell-in-Ends.ensures) (went_over c.args.bytes.now c.loop-place.place c.loop-place.from (stage_of c.loop-place.state) c.loop-place.tokens c.loop-place.invariant c.loop-place-test.true w.in-Ends.kind (stage_of w.in-Some.next) (sym over) (sym w.begin.ensures ∙ ap (option_map stage_of) w.in-Some.is))) ]

pub returns-in_default-end : goal.returns-in_default-end
returns-in_default-end c =
    let whole : c.loop-place.place ≡ length c.args.bytes.now = omega (arith, c.loop-place-test.false, c.loop-place.invariant.within) in
    record {
      ok = tt;
      fault = subst (IsLexFault c.args.bytes.now) (ap Bad whole ∙ sym c.bad-in_default-end.ensures)
          (unended c.args.bytes.now c.loop-place.place c.loop-place.from (stage_of c.loop-place.state) c.loop-place.tokens c.loop-place.invariant whole c.end.result c.in_default-end.not-Ends c.end.ensures);
    }

pub returns-clause-ok : goal.returns-clause-ok
returns-clause-ok c =
    let whole : c.loop-place.place ≡ length c.args.bytes.now = omega (arith, c.loop-place-test.false, c.loop-place.invariant.within) in
    let over = rw c.in-Ends-end.is at c.end.ensures in
    subst (AreTokens c.args.bytes.now) (ap (told c.in-Ends-end.kind c.loop-place.tokens c.loop-place.from) whole ∙ sym c.in_ok-tell.ensures)
    (read_whole c.args.bytes.now c.loop-place.place c.loop-place.from (stage_of c.loop-place.state) c.loop-place.tokens c.loop-place.invariant whole c.in-Ends-end.kind (sym over))
