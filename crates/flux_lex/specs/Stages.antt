-- The states of the code that reads tokens, as the steps of tokens have them.
use Rattle.flux_lex.specs.declared.state.State.{State}
use Rattle.flux_lex.specs.declared.state.State.TheVariants.{Blank, Comment, Word, Dollar, Variable, Opened, Label, Text, Number, Sign, Closed}
use Rattle.flux_lex.specs.declared.state.Move.{Move}
use Rattle.flux_lex.specs.declared.state.Move.TheVariants.{On, Ends, Stuck}
use Rattle.flux_grammar.specs.TokenSteps.{Stage, blank, remark, word, dollar, variable, opened, label, string, number, sign, closed, goes_on, ends, stuck}
use Rattle.flux_grammar.specs.TokenSteps.{Move as StageMove}

abbrev pub stage_of : State → Stage
stage_of Blank = blank
stage_of Comment = remark
stage_of Word = word
stage_of Dollar = dollar
stage_of Variable = variable
stage_of Opened = opened
stage_of Label = label
stage_of (Text r) = string r
stage_of (Number s) = number s
stage_of (Sign a) = sign a
stage_of (Closed kind) = closed kind

abbrev pub move_of : Move → StageMove
move_of (On state) = goes_on (stage_of state)
move_of (Ends kind) = ends kind
move_of Stuck = stuck
