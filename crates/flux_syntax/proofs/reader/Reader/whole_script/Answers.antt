use Rattle.std.proofs.lemmas.Result.{err_from_is_err_and}
use Rattle.flux_grammar.specs.Grammar.{script}
use Rattle.flux_syntax.specs.At.{at}
use Rattle.flux_syntax.proofs.Whole.{ran_whole, ran_over, ran_stops}
use Rattle.flux_syntax.proofs.reader.Reader.whole_script.Goals as goal

pub returns-in_err-tree : goal.returns-in_err-tree
returns-in_err-tree c =
    ran_stops script (at c.args.self.now) (at c.script.new.self) c.from_residual.result c.in_err-tree.field-0.0 (err_from_is_err_and _ c.from_residual.ensures.1) c.in_err-tree.ensures.parses

pub returns-in-empty : goal.returns-in-empty
returns-in-empty c =
    ran_whole script (at c.args.self.now) (at c.script.new.self) c.in_ok-tree.tree c.in_ok-tree.ensures.parses c.in-empty.len_below

pub returns-in-len1-up : goal.returns-in-len1-up
returns-in-len1-up c =
    ran_over script (at c.args.self.now) (at c.script.new.self) c.in_ok-tree.tree c.in_ok-tree.ensures.parses c.in-len1-up.len_at_least
