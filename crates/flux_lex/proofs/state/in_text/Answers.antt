use Rattle.std.proofs.Common.{ap, sym}
use Rattle.flux_grammar.specs.TokenSteps.{string_move}
use Rattle.flux_lex.proofs.TextMoves.{text_on}
use Rattle.flux_lex.proofs.state.in_text.Goals as goal

pub returns-in-On : goal.returns-in-On
returns-in-On c =
    let taken = rw c.in-On.is at c.in_ok-take.ensures.ok in
    text_on c.args.reader c.take.new.self c.args.byte taken

pub returns-in-Closes : goal.returns-in-Closes
returns-in-Closes c =
    let taken = rw c.in-Closes.is at c.in_ok-take.ensures.ok in
    sym (ap (string_move c.args.reader) taken.0)

pub returns-in-Misfits : goal.returns-in-Misfits
returns-in-Misfits c =
    let taken = rw c.in-Misfits.is at c.in_ok-take.ensures.ok in
    sym (ap (string_move c.args.reader) taken.0)
