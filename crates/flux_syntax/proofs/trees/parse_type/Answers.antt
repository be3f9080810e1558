use Rattle.std.proofs.Common.{subst, sym, arith}
use Rattle.flux_grammar.specs.Grammar.{type}
use Rattle.flux_grammar.specs.Lexemes.{ArePieces}
use Rattle.flux_grammar.proofs.Final.{same_type}
use Rattle.flux_syntax.specs.At.{at}
use Rattle.flux_syntax.proofs.Whole.{is_tree, is_fault}
use Rattle.flux_syntax.proofs.trees.parse_type.Goals as goal

pub returns-in-Ok-clause-ok : goal.returns-in-Ok-clause-ok
returns-in-Ok-clause-ok c =
    is_tree (type 0) same_type c.pieces.new.names c.args.bytes.now c.args.tokens.now c.as_slice-2.result.now (at c.whole_type.new.self) c.in-Ok.tree (subst (λ ps. ArePieces c.pieces.new.names c.args.bytes.now c.args.tokens.now ps) (sym c.as_slice-2.ensures.value) (subst (λ ts. ArePieces c.pieces.new.names c.args.bytes.now ts c.in_ok-pieces.pieces.items) c.as_slice.ensures c.in_ok-pieces.ensures.ok)) c.in-Ok.ensures

pub returns-in-Err-Unfit-clause-fault : goal.returns-in-Err-Unfit-clause-fault
returns-in-Err-Unfit-clause-fault c =
    is_fault (type 0) (omega arith) c.pieces.new.names c.args.bytes.now c.args.tokens.now c.as_slice-2.result.now (at c.whole_type.new.self) c.misfit.result c.in-Err-Unfit.field-0 (subst (λ ps. ArePieces c.pieces.new.names c.args.bytes.now c.args.tokens.now ps) (sym c.as_slice-2.ensures.value) (subst (λ ts. ArePieces c.pieces.new.names c.args.bytes.now ts c.in_ok-pieces.pieces.items) c.as_slice.ensures c.in_ok-pieces.ensures.ok)) c.in-Err-Unfit.field-0-is c.in-Err-Unfit.ensures c.misfit.ensures
