use Rattle.std.proofs.Common.{ap, sym, ◌∙◌}
use Rattle.std.specs.Char.{is_ascii_digit}
use Rattle.flux_grammar.specs.TokenSteps.{number_move}
use Rattle.flux_lex.proofs.state.in_number.Goals as goal

pub returns-in-Some : goal.returns-in-Some
returns-in-Some c = ap (λ o. number_move c.args.number o (is_ascii_digit c.args.byte)) (sym c.in-Some.is ∙ c.step.ensures)

pub returns-in-None : goal.returns-in-None
returns-in-None c =
    c.behind_number.ensures ∙ ap (λ o. number_move c.args.number o (is_ascii_digit c.args.byte)) (sym c.in-None.is ∙ c.step.ensures)
