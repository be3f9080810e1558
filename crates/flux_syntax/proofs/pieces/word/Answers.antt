use Rattle.flux_grammar.specs.Lexemes.{a_reserved, a_soft, a_truth}
use Rattle.flux_syntax.proofs.OneToken.{word_learnt, word_lexeme}
use Rattle.flux_syntax.proofs.pieces.word.Goals as goal

pub returns-in-Some-clause-lexeme : goal.returns-in-Some-clause-lexeme
returns-in-Some-clause-lexeme c = a_reserved c.in-Some.word c.in-Some.ensures.found

pub returns-in-Some-truth-clause-lexeme : goal.returns-in-Some-truth-clause-lexeme
returns-in-Some-truth-clause-lexeme c = a_truth c.in-Some-truth.truth c.in-Some-truth.ensures.found

pub returns-in-Some-soft-clause-lexeme : goal.returns-in-Some-soft-clause-lexeme
returns-in-Some-soft-clause-lexeme c =
    a_soft c.in-Some-soft.word c.in-Some-soft.ensures.found c.in_ok-name.ensures.place

pub returns-in-None-clause-lexeme : goal.returns-in-None-clause-lexeme
returns-in-None-clause-lexeme c =
    word_lexeme c.learn.new.names c.args.text.now c.in_ok-name.name c.in_default.ensures.none c.in_default-truth.ensures.none c.in-None.ensures.none c.in_ok-name.ensures.place

pub returns-in-None-clause-learnt : goal.returns-in-None-clause-learnt
returns-in-None-clause-learnt c =
    word_learnt c.args.names.now c.learn.new.names c.args.text.now c.in_default.ensures.none c.in_default-truth.ensures.none c.in_ok-name.ensures.added
