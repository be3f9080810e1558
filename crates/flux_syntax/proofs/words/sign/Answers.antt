use Rattle.std.proofs.Common.{sym, ◌∙◌}
use Rattle.flux_grammar.specs.Lexemes.{sign_text}
use Rattle.flux_syntax.specs.declared.words.TheConstants.{SIGNS}
use Rattle.flux_syntax.proofs.KnownWords.{each_sign, missed, none_of_all}
use Rattle.flux_syntax.proofs.words.sign.Goals as goal

pub loop-sign-preserved : goal.loop-sign-preserved
loop-sign-preserved c =
    missed sign_text c.args.text.now SIGNS c.loop-sign.sign-index _ c.sign_text.result.now c.loop-sign-test.true c.sign_text.ensures (sym c.eq.ensures ∙ c.if-eq.false) c.loop-sign.invariant

pub returns-clause-none : goal.returns-clause-none
returns-clause-none c =
    none_of_all sign_text c.args.text.now SIGNS c.loop-sign.sign-index c.loop-sign-test.false each_sign c.loop-sign.invariant
