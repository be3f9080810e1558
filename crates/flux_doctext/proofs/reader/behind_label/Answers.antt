use Rattle.flux_doctext.proofs.Taken.{entered}
use Rattle.flux_doctext.proofs.reader.behind_label.Goals as goal

pub returns-in_ok-begin_element-in-LeftBracket : goal.returns-in_ok-begin_element-in-LeftBracket
returns-in_ok-begin_element-in-LeftBracket c = λ names table below.
    entered names c.args.name c.args.sign c.args.forest.now c.begin_element.new.self table below c.in-LeftBracket.is c.in_ok-begin_element-in-LeftBracket.ensures.ok
