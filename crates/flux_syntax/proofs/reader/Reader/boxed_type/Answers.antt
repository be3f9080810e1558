use Rattle.std.proofs.lemmas.Result.{err_from_is_err_and}
use Rattle.flux_grammar.specs.Grammar.{type}
use Rattle.flux_grammar.specs.Machine.{call}
use Rattle.flux_syntax.specs.At.{at}
use Rattle.flux_syntax.proofs.Leads.{passes, same_tree}
use Rattle.flux_syntax.proofs.reader.Reader.boxed_type.Goals as goal

pub returns-in_err-tree-clause-parses : goal.returns-in_err-tree-clause-parses
returns-in_err-tree-clause-parses c =
    passes (call (type 0)) (at c.args.self.now) (at c.type_text.new.self) c.from_residual.result c.in_err-tree.field-0.0 (err_from_is_err_and _ c.from_residual.ensures.1) c.in_err-tree.ensures.parses

pub returns-clause-parses : goal.returns-clause-parses
returns-clause-parses c =
    same_tree c.in_ok-new.ensures c.in_ok-tree.ensures.parses
