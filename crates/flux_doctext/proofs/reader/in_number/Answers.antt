use Rattle.std.proofs.Common.{sym, ap, ◌∙◌}
use Rattle.flux_trees.specs.Draft.{depth}
use Rattle.flux_doctext.specs.Reading.{digit_step}
use Rattle.flux_doctext.proofs.Taken.{passed}
use Rattle.flux_doctext.proofs.reader.in_number.Goals as goal

pub returns-in-None : goal.returns-in-None
returns-in-None c = λ names.
    passed names names _ _ c.args.forest.now c.behind_number.new.forest c.behind_number.result (ap (λ o. digit_step c.args.number o (depth c.args.forest.now) c.args.sign) (sym c.in-None.is ∙ c.step.ensures)) (c.behind_number.ensures names)
