use Rattle.flux_doctext.proofs.reader.behind_parentheses.Goals as goal

pub returns-in-RightBracket : goal.returns-in-RightBracket
returns-in-RightBracket c = λ names.
    let is = c.in-RightBracket.is in
    rw is (c.end_element.ensures names)
