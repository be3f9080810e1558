use Rattle.flux_doctext.proofs.Taken.{content_tree, passed}
use Rattle.flux_doctext.proofs.reader.in_content.Goals as goal

pub returns-in-RightBracket : goal.returns-in-RightBracket
returns-in-RightBracket c = λ names.
    let is = c.in-RightBracket.is in
    rw is (c.end_element.ensures names)

pub returns-in_default : goal.returns-in_default
returns-in_default c = λ names.
    passed names names _ _ c.args.forest.now c.args.forest.now c.at_tree.result (content_tree _ c.args.byte c.args.sign c.in_default.not-RightBracket c.in_default.not-LeftParen) (c.at_tree.ensures names c.args.forest.now tt)
