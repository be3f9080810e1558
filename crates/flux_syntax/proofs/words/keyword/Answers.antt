use Rattle.std.proofs.Common.{sym, ◌∙◌}
use Rattle.flux_grammar.specs.Lexemes.{keyword_text}
use Rattle.flux_syntax.specs.declared.words.TheConstants.{KEYWORDS}
use Rattle.flux_syntax.proofs.KnownWords.{each_keyword, missed, none_of_all}
use Rattle.flux_syntax.proofs.words.keyword.Goals as goal

pub loop-word-preserved : goal.loop-word-preserved
loop-word-preserved c =
    missed keyword_text c.args.text.now KEYWORDS c.loop-word.word-index _ c.keyword_text.result.now c.loop-word-test.true c.keyword_text.ensures (sym c.eq.ensures ∙ c.if-eq.false) c.loop-word.invariant

pub returns-clause-none : goal.returns-clause-none
returns-clause-none c =
    none_of_all keyword_text c.args.text.now KEYWORDS c.loop-word.word-index c.loop-word-test.false each_keyword c.loop-word.invariant
