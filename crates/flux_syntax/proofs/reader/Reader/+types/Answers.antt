use Rattle.std.proofs.Common.{Some, Ok, Err, refl, ap, ◌∙◌, arith}
use Rattle.std.proofs.lemmas.Result.{err_from_is_err_and}
use Rattle.flux_grammar.specs.declared.lexeme.Lexeme.TheVariants.{Sign, Word, Quoted, Soft}
use Rattle.flux_grammar.specs.declared.lexeme.Sign.TheVariants as sign
use Rattle.flux_grammar.specs.declared.lexeme.Soft.TheVariants as soft
use Rattle.flux_grammar.specs.Grammar.{type, alts, tseq, seqs, tpost, tatom, labelled, content}
use Rattle.flux_grammar.specs.States.{head}
use Rattle.flux_grammar.specs.Machine.{call}
use Rattle.flux_syntax.specs.At.{at}
use Rattle.flux_syntax.proofs.Chosen.{is_here, not_here, marks_from, no_bar, no_comma, no_atom, alone_here, some_content}
use Rattle.flux_syntax.proofs.Leads.{deep_here, here, into, into_at, took, given, past_mark, begun, turned, gives, gives_as, gives_all, makes, ends, part_stops, piece_stops, none_here}
use Rattle.flux_syntax.proofs.reader.Reader.+types.Goals as goal

pub alternatives-loop-self-init : goal.alternatives-loop-self-init
alternatives-loop-self-init t c =
    record { same = refl; shorter = omega arith; on = begun (call (alts c.args.depth)) c.new-all.ensures }

pub alternatives-returns-in_err-next-clause-parses : goal.alternatives-returns-in_err-next-clause-parses
alternatives-returns-in_err-next-clause-parses t c =
    part_stops (at c.sequence.new.self) c.from_residual.result c.in_err-next.field-0.0 (took (into_at c.loop-self.invariant.on tt (is_here c.is_at.ensures.here c.loop-self-test.true) (λ k. refl)) (c.advance.ensures.took (Sign sign.Bar) (is_here c.is_at.ensures.here c.loop-self-test.true))) (err_from_is_err_and _ c.from_residual.ensures.1) c.in_err-next.ensures.parses

pub alternatives-loop-self-preserved : goal.alternatives-loop-self-preserved
alternatives-loop-self-preserved t c =
    record {
      same = c.loop-self.invariant.same;
      shorter = omega arith;
      on = turned (call (alts c.args.depth)) c.loop-self.all c.in_ok-next.next c.in_ok-push.ensures.ok (given (took (into_at c.loop-self.invariant.on tt (is_here c.is_at.ensures.here c.loop-self-test.true) (λ k. refl)) (c.advance.ensures.took (Sign sign.Bar) (is_here c.is_at.ensures.here c.loop-self-test.true))) c.in_ok-next.ensures.parses);
    }

pub alternatives-returns-clause-parses : goal.alternatives-returns-clause-parses
alternatives-returns-clause-parses t c =
    gives_all (into c.loop-self.invariant.on tt (no_bar c.args.depth (head (at c.loop-self.self)) (not_here c.is_at.ensures.here c.loop-self-test.false)))

pub any_element-returns-in_err-take-clause-parses : goal.any_element-returns-in_err-take-clause-parses
any_element-returns-in_err-take-clause-parses t c =
    piece_stops (at c.take.new.self) c.from_residual.result c.in_err-take.field-0.0 (took (into_at (here (call (tatom c.args.depth)) (at c.args.self.now)) tt c.requires.any (λ k. refl)) (c.advance-from.ensures.took (Soft soft.AnyWord c.args.name) c.requires.any)) (err_from_is_err_and _ c.from_residual.ensures.1) c.in_err-take.ensures.took

pub any_element-returns-in_err-inside-clause-parses : goal.any_element-returns-in_err-inside-clause-parses
any_element-returns-in_err-inside-clause-parses t c =
    part_stops (at c.content.new.self) c.from_residual-in_err-inside.result c.in_err-inside.field-0.0 (took (took (into_at (here (call (tatom c.args.depth)) (at c.args.self.now)) tt c.requires.any (λ k. refl)) (c.advance-from.ensures.took (Soft soft.AnyWord c.args.name) c.requires.any)) c.in_ok-take.ensures.took) (err_from_is_err_and _ c.from_residual-in_err-inside.ensures.1) c.in_err-inside.ensures.parses

pub any_element-returns-in_err-to-clause-parses : goal.any_element-returns-in_err-to-clause-parses
any_element-returns-in_err-to-clause-parses t c =
    piece_stops (at c.take-2.new.self) c.from_residual-in_err-to.result c.in_err-to.field-0.0 (given (took (took (into_at (here (call (tatom c.args.depth)) (at c.args.self.now)) tt c.requires.any (λ k. refl)) (c.advance-from.ensures.took (Soft soft.AnyWord c.args.name) c.requires.any)) c.in_ok-take.ensures.took) c.in_ok-inside.ensures.parses) (err_from_is_err_and _ c.from_residual-in_err-to.ensures.1) c.in_err-to.ensures.took

pub any_element-returns-clause-parses : goal.any_element-returns-clause-parses
any_element-returns-clause-parses t c =
    gives (took (given (took (took (into_at (here (call (tatom c.args.depth)) (at c.args.self.now)) tt c.requires.any (λ k. refl)) (c.advance-from.ensures.took (Soft soft.AnyWord c.args.name) c.requires.any)) c.in_ok-take.ensures.took) c.in_ok-inside.ensures.parses) c.in_ok-to.ensures.took)

pub atom-returns-in-None-clause-parses : goal.atom-returns-in-None-clause-parses
atom-returns-in-None-clause-parses t c =
    none_here (tatom c.args.depth) (at c.args.self.now) (no_atom c.args.depth (head (at c.args.self.now)) (not_here c.is_at.ensures.here c.if-is_at.false) c.in_default.ensures.name c.in_default-soft.ensures.name c.in-None.ensures.name)

pub content-returns-then-is_at-clause-parses : goal.content-returns-then-is_at-clause-parses
content-returns-then-is_at-clause-parses t c =
    gives (into_at (here (call (content c.args.depth)) (at c.args.self.now)) tt (is_here c.is_at.ensures.here c.if-is_at.true) (λ k. refl))

pub content-returns-then-is_at-2-clause-parses : goal.content-returns-then-is_at-2-clause-parses
content-returns-then-is_at-2-clause-parses t c =
    gives (into_at (here (call (content c.args.depth)) (at c.args.self.now)) tt (is_here c.is_at-2.ensures.here c.if-is_at-2.true) (λ k. refl))

pub content-returns-in_err-inside-clause-parses : goal.content-returns-in_err-inside-clause-parses
content-returns-in_err-inside-clause-parses t c =
    part_stops (at c.type_text.new.self) c.from_residual.result c.in_err-inside.field-0.0 (into (here (call (content c.args.depth)) (at c.args.self.now)) tt (some_content c.args.depth (head (at c.args.self.now)) (not_here c.is_at.ensures.here c.if-is_at.false) (not_here c.is_at-2.ensures.here c.if-is_at-2.false))) (err_from_is_err_and _ c.from_residual.ensures.1) c.in_err-inside.ensures.parses

pub content-returns-clause-parses : goal.content-returns-clause-parses
content-returns-clause-parses t c =
    gives_as (ap Some c.in_ok-new.ensures) (given (into (here (call (content c.args.depth)) (at c.args.self.now)) tt (some_content c.args.depth (head (at c.args.self.now)) (not_here c.is_at.ensures.here c.if-is_at.false) (not_here c.is_at-2.ensures.here c.if-is_at-2.false))) c.in_ok-inside.ensures.parses)

pub followers-loop-self-init : goal.followers-loop-self-init
followers-loop-self-init t c =
    record { same = refl; shorter = omega arith; on = begun (call (seqs c.args.depth)) c.new-all.ensures }

pub followers-returns-in_err-next-clause-parses : goal.followers-returns-in_err-next-clause-parses
followers-returns-in_err-next-clause-parses t c =
    part_stops (at c.repeated.new.self) c.from_residual.result c.in_err-next.field-0.0 (took (into_at c.loop-self.invariant.on tt (is_here c.is_at.ensures.here c.loop-self-test.true) (λ k. refl)) (c.advance.ensures.took (Sign sign.Comma) (is_here c.is_at.ensures.here c.loop-self-test.true))) (err_from_is_err_and _ c.from_residual.ensures.1) c.in_err-next.ensures.parses

pub followers-loop-self-preserved : goal.followers-loop-self-preserved
followers-loop-self-preserved t c =
    record {
      same = c.loop-self.invariant.same;
      shorter = omega arith;
      on = turned (call (seqs c.args.depth)) c.loop-self.all c.in_ok-next.next c.in_ok-push.ensures.ok (given (took (into_at c.loop-self.invariant.on tt (is_here c.is_at.ensures.here c.loop-self-test.true) (λ k. refl)) (c.advance.ensures.took (Sign sign.Comma) (is_here c.is_at.ensures.here c.loop-self-test.true))) c.in_ok-next.ensures.parses);
    }

pub followers-returns-clause-parses : goal.followers-returns-clause-parses
followers-returns-clause-parses t c =
    gives_all (into c.loop-self.invariant.on tt (no_comma c.args.depth (head (at c.loop-self.self)) (not_here c.is_at.ensures.here c.loop-self-test.false)))

pub group-returns-in_err-inside-clause-parses : goal.group-returns-in_err-inside-clause-parses
group-returns-in_err-inside-clause-parses t c =
    part_stops (at c.content.new.self) c.from_residual.result c.in_err-inside.field-0.0 (took (into_at (here (call (tatom c.args.depth)) (at c.args.self.now)) tt c.requires.open (λ k. refl)) (c.advance-from.ensures.took (Sign sign.Open) c.requires.open)) (err_from_is_err_and _ c.from_residual.ensures.1) c.in_err-inside.ensures.parses

pub group-returns-in_err-to-clause-parses : goal.group-returns-in_err-to-clause-parses
group-returns-in_err-to-clause-parses t c =
    piece_stops (at c.take.new.self) c.from_residual-in_err-to.result c.in_err-to.field-0.0 (given (took (into_at (here (call (tatom c.args.depth)) (at c.args.self.now)) tt c.requires.open (λ k. refl)) (c.advance-from.ensures.took (Sign sign.Open) c.requires.open)) c.in_ok-inside.ensures.parses) (err_from_is_err_and _ c.from_residual-in_err-to.ensures.1) c.in_err-to.ensures.took

pub group-returns-clause-parses : goal.group-returns-clause-parses
group-returns-clause-parses t c =
    gives (took (given (took (into_at (here (call (tatom c.args.depth)) (at c.args.self.now)) tt c.requires.open (λ k. refl)) (c.advance-from.ensures.took (Sign sign.Open) c.requires.open)) c.in_ok-inside.ensures.parses) c.in_ok-to.ensures.took)

pub labelled-returns-then-not-is_at-clause-parses : goal.labelled-returns-then-not-is_at-clause-parses
labelled-returns-then-not-is_at-clause-parses t c =
    gives (into (here (call (labelled c.args.depth c.args.word c.args.name c.args.bare)) (at c.args.self.now)) tt (alone_here c.args.depth c.args.word c.args.name c.args.bare (head (at c.args.self.now)) (not_here c.is_at.ensures.here c.if-not-is_at.true)))

pub labelled-returns-in_err-inside-clause-parses : goal.labelled-returns-in_err-inside-clause-parses
labelled-returns-in_err-inside-clause-parses t c =
    part_stops (at c.content.new.self) c.from_residual.result c.in_err-inside.field-0.0 (took (into_at (here (call (labelled c.args.depth c.args.word c.args.name c.args.bare)) (at c.args.self.now)) tt (is_here c.is_at.ensures.here c.if-not-is_at.false) (λ k. refl)) (c.advance.ensures.took (Sign sign.OpenSquare) (is_here c.is_at.ensures.here c.if-not-is_at.false))) (err_from_is_err_and _ c.from_residual.ensures.1) c.in_err-inside.ensures.parses

pub labelled-returns-in_err-to-clause-parses : goal.labelled-returns-in_err-to-clause-parses
labelled-returns-in_err-to-clause-parses t c =
    piece_stops (at c.take.new.self) c.from_residual-in_err-to.result c.in_err-to.field-0.0 (given (took (into_at (here (call (labelled c.args.depth c.args.word c.args.name c.args.bare)) (at c.args.self.now)) tt (is_here c.is_at.ensures.here c.if-not-is_at.false) (λ k. refl)) (c.advance.ensures.took (Sign sign.OpenSquare) (is_here c.is_at.ensures.here c.if-not-is_at.false))) c.in_ok-inside.ensures.parses) (err_from_is_err_and _ c.from_residual-in_err-to.ensures.1) c.in_err-to.ensures.took

pub labelled-returns-clause-parses : goal.labelled-returns-clause-parses
labelled-returns-clause-parses t c =
    gives (took (given (took (into_at (here (call (labelled c.args.depth c.args.word c.args.name c.args.bare)) (at c.args.self.now)) tt (is_here c.is_at.ensures.here c.if-not-is_at.false) (λ k. refl)) (c.advance.ensures.took (Sign sign.OpenSquare) (is_here c.is_at.ensures.here c.if-not-is_at.false))) c.in_ok-inside.ensures.parses) c.in_ok-to.ensures.took)

pub named-returns-clause-parses : goal.named-returns-clause-parses
named-returns-clause-parses t c =
    ends (at c.labelled.new.self) c.labelled.result (took (into_at (here (call (tatom c.args.depth)) (at c.args.self.now)) tt c.requires.word (λ k. refl)) (c.advance-at.ensures.took (Word c.args.name) c.requires.word)) c.labelled.ensures.parses

pub quoted_element-returns-in_err-take-clause-parses : goal.quoted_element-returns-in_err-take-clause-parses
quoted_element-returns-in_err-take-clause-parses t c =
    piece_stops (at c.take.new.self) c.from_residual.result c.in_err-take.field-0.0 (took (into_at (here (call (tatom c.args.depth)) (at c.args.self.now)) tt c.requires.label (λ k. refl)) (c.advance-from.ensures.took (Quoted c.args.name) c.requires.label)) (err_from_is_err_and _ c.from_residual.ensures.1) c.in_err-take.ensures.took

pub quoted_element-returns-in_err-inside-clause-parses : goal.quoted_element-returns-in_err-inside-clause-parses
quoted_element-returns-in_err-inside-clause-parses t c =
    part_stops (at c.content.new.self) c.from_residual-in_err-inside.result c.in_err-inside.field-0.0 (took (took (into_at (here (call (tatom c.args.depth)) (at c.args.self.now)) tt c.requires.label (λ k. refl)) (c.advance-from.ensures.took (Quoted c.args.name) c.requires.label)) c.in_ok-take.ensures.took) (err_from_is_err_and _ c.from_residual-in_err-inside.ensures.1) c.in_err-inside.ensures.parses

pub quoted_element-returns-in_err-to-clause-parses : goal.quoted_element-returns-in_err-to-clause-parses
quoted_element-returns-in_err-to-clause-parses t c =
    piece_stops (at c.take-2.new.self) c.from_residual-in_err-to.result c.in_err-to.field-0.0 (given (took (took (into_at (here (call (tatom c.args.depth)) (at c.args.self.now)) tt c.requires.label (λ k. refl)) (c.advance-from.ensures.took (Quoted c.args.name) c.requires.label)) c.in_ok-take.ensures.took) c.in_ok-inside.ensures.parses) (err_from_is_err_and _ c.from_residual-in_err-to.ensures.1) c.in_err-to.ensures.took

pub quoted_element-returns-clause-parses : goal.quoted_element-returns-clause-parses
quoted_element-returns-clause-parses t c =
    gives (took (given (took (took (into_at (here (call (tatom c.args.depth)) (at c.args.self.now)) tt c.requires.label (λ k. refl)) (c.advance-from.ensures.took (Quoted c.args.name) c.requires.label)) c.in_ok-take.ensures.took) c.in_ok-inside.ensures.parses) c.in_ok-to.ensures.took)

pub repeated-returns-in_err-inner-clause-parses : goal.repeated-returns-in_err-inner-clause-parses
repeated-returns-in_err-inner-clause-parses t c =
    part_stops (at c.atom.new.self) c.from_residual.result c.in_err-inner.field-0.0 (into (here (call (tpost c.args.depth)) (at c.args.self.now)) tt (λ k. refl)) (err_from_is_err_and _ c.from_residual.ensures.1) c.in_err-inner.ensures.parses

pub repeated-returns-in_err-marks-clause-parses : goal.repeated-returns-in_err-marks-clause-parses
repeated-returns-in_err-marks-clause-parses t c =
    part_stops (at c.marks.new.self) c.from_residual-in_err-marks.result c.in_err-marks.field-0.0 (given (into (here (call (tpost c.args.depth)) (at c.args.self.now)) tt (λ k. refl)) c.in_ok-inner.ensures.parses) (err_from_is_err_and _ c.from_residual-in_err-marks.ensures.1) (marks_from (at c.atom.new.self) (at c.marks.new.self) (Err c.in_err-marks.field-0.0) (ap (λ at. at.from) c.span.ensures) c.in_err-marks.ensures.parses)

pub repeated-returns-clause-parses : goal.repeated-returns-clause-parses
repeated-returns-clause-parses t c =
    makes c.made_marked.result c.made_marked.ensures (past_mark (given (given (into (here (call (tpost c.args.depth)) (at c.args.self.now)) tt (λ k. refl)) c.in_ok-inner.ensures.parses) (marks_from (at c.atom.new.self) (at c.marks.new.self) (Ok c.in_ok-marks.marks) (ap (λ at. at.from) c.span.ensures) c.in_ok-marks.ensures.parses)))

pub sequence-returns-in_err-first-clause-parses : goal.sequence-returns-in_err-first-clause-parses
sequence-returns-in_err-first-clause-parses t c =
    part_stops (at c.repeated.new.self) c.from_residual.result c.in_err-first.field-0.0 (into (here (call (tseq c.args.depth)) (at c.args.self.now)) tt (λ k. refl)) (err_from_is_err_and _ c.from_residual.ensures.1) c.in_err-first.ensures.parses

pub sequence-returns-in_err-rest-clause-parses : goal.sequence-returns-in_err-rest-clause-parses
sequence-returns-in_err-rest-clause-parses t c =
    part_stops (at c.followers.new.self) c.from_residual-in_err-rest.result c.in_err-rest.field-0.0 (given (into (here (call (tseq c.args.depth)) (at c.args.self.now)) tt (λ k. refl)) c.in_ok-first.ensures.parses) (err_from_is_err_and _ c.from_residual-in_err-rest.ensures.1) c.in_err-rest.ensures.parses

pub sequence-returns-clause-parses : goal.sequence-returns-clause-parses
sequence-returns-clause-parses t c =
    makes c.made_seq.result c.made_seq.ensures (past_mark (given (given (into (here (call (tseq c.args.depth)) (at c.args.self.now)) tt (λ k. refl)) c.in_ok-first.ensures.parses) c.in_ok-rest.ensures.parses))

pub soft_atom-returns-in-StringWord-clause-parses : goal.soft_atom-returns-in-StringWord-clause-parses
soft_atom-returns-in-StringWord-clause-parses t c =
    ends (at c.labelled.new.self) c.labelled.result (took (into_at (here (call (tatom c.args.depth)) (at c.args.self.now)) tt (c.requires.soft ∙ ap (λ w. Some (Soft w c.args.name)) c.in-StringWord.is) (λ k. refl)) (c.advance-at.ensures.took (Soft soft.StringWord c.args.name) (c.requires.soft ∙ ap (λ w. Some (Soft w c.args.name)) c.in-StringWord.is))) c.labelled.ensures.parses

pub soft_atom-returns-in-BoolWord-clause-parses : goal.soft_atom-returns-in-BoolWord-clause-parses
soft_atom-returns-in-BoolWord-clause-parses t c =
    ends (at c.labelled-in-BoolWord.new.self) c.labelled-in-BoolWord.result (took (into_at (here (call (tatom c.args.depth)) (at c.args.self.now)) tt (c.requires.soft ∙ ap (λ w. Some (Soft w c.args.name)) c.in-BoolWord.is) (λ k. refl)) (c.advance-at-in-BoolWord.ensures.took (Soft soft.BoolWord c.args.name) (c.requires.soft ∙ ap (λ w. Some (Soft w c.args.name)) c.in-BoolWord.is))) c.labelled-in-BoolWord.ensures.parses

pub soft_atom-returns-in-IntWord-clause-parses : goal.soft_atom-returns-in-IntWord-clause-parses
soft_atom-returns-in-IntWord-clause-parses t c =
    ends (at c.labelled-in-IntWord.new.self) c.labelled-in-IntWord.result (took (into_at (here (call (tatom c.args.depth)) (at c.args.self.now)) tt (c.requires.soft ∙ ap (λ w. Some (Soft w c.args.name)) c.in-IntWord.is) (λ k. refl)) (c.advance-at-in-IntWord.ensures.took (Soft soft.IntWord c.args.name) (c.requires.soft ∙ ap (λ w. Some (Soft w c.args.name)) c.in-IntWord.is))) c.labelled-in-IntWord.ensures.parses

pub soft_atom-returns-in-ChildWord-clause-parses : goal.soft_atom-returns-in-ChildWord-clause-parses
soft_atom-returns-in-ChildWord-clause-parses t c =
    ends (at c.labelled-in-ChildWord.new.self) c.labelled-in-ChildWord.result (took (into_at (here (call (tatom c.args.depth)) (at c.args.self.now)) tt (c.requires.soft ∙ ap (λ w. Some (Soft w c.args.name)) c.in-ChildWord.is) (λ k. refl)) (c.advance-at-in-ChildWord.ensures.took (Soft soft.ChildWord c.args.name) (c.requires.soft ∙ ap (λ w. Some (Soft w c.args.name)) c.in-ChildWord.is))) c.labelled-in-ChildWord.ensures.parses

pub type_text-returns-then-depth-ge-LIMIT-clause-parses : goal.type_text-returns-then-depth-ge-LIMIT-clause-parses
type_text-returns-then-depth-ge-LIMIT-clause-parses t c =
    deep_here (type c.args.depth) (at c.args.self.now) c.args.depth c.if-depth-ge-LIMIT.true (λ free. free tt)

pub type_text-returns-in_err-first-clause-parses : goal.type_text-returns-in_err-first-clause-parses
type_text-returns-in_err-first-clause-parses t c =
    part_stops (at c.sequence.new.self) c.from_residual.result c.in_err-first.field-0.0 (into (here (call (type c.args.depth)) (at c.args.self.now)) (λ _. c.if-depth-ge-LIMIT.false) (λ k. refl)) (err_from_is_err_and _ c.from_residual.ensures.1) c.in_err-first.ensures.parses

pub type_text-returns-in_err-rest-clause-parses : goal.type_text-returns-in_err-rest-clause-parses
type_text-returns-in_err-rest-clause-parses t c =
    part_stops (at c.alternatives.new.self) c.from_residual-in_err-rest.result c.in_err-rest.field-0.0 (given (into (here (call (type c.args.depth)) (at c.args.self.now)) (λ _. c.if-depth-ge-LIMIT.false) (λ k. refl)) c.in_ok-first.ensures.parses) (err_from_is_err_and _ c.from_residual-in_err-rest.ensures.1) c.in_err-rest.ensures.parses

pub type_text-returns-clause-parses : goal.type_text-returns-clause-parses
type_text-returns-clause-parses t c =
    makes c.made_alt.result c.made_alt.ensures (past_mark (given (given (into (here (call (type c.args.depth)) (at c.args.self.now)) (λ _. c.if-depth-ge-LIMIT.false) (λ k. refl)) c.in_ok-first.ensures.parses) c.in_ok-rest.ensures.parses))
