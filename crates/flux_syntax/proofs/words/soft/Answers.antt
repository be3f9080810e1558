use Rattle.std.proofs.Common.{sym, ◌∙◌}
use Rattle.flux_grammar.specs.Lexemes.{soft_text}
use Rattle.flux_syntax.specs.declared.words.TheConstants.{SOFT_WORDS}
use Rattle.flux_syntax.proofs.KnownWords.{each_soft, missed, none_of_all}
use Rattle.flux_syntax.proofs.words.soft.Goals as goal

pub loop-word-preserved : goal.loop-word-preserved
loop-word-preserved c =
    missed soft_text c.args.text.now SOFT_WORDS c.loop-word.word-index _ c.soft_text.result.now c.loop-word-test.true c.soft_text.ensures (sym c.eq.ensures ∙ c.if-eq.false) c.loop-word.invariant

pub returns-clause-none : goal.returns-clause-none
returns-clause-none c =
    none_of_all soft_text c.args.text.now SOFT_WORDS c.loop-word.word-index c.loop-word-test.false each_soft c.loop-word.invariant
