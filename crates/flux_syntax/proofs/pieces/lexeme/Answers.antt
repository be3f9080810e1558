use Rattle.std.proofs.Common.{subst, sym}
use Rattle.flux_grammar.specs.declared.lexeme.Lexeme.TheVariants.{Sign}
use Rattle.flux_grammar.specs.Lexemes.{a_sign, IsLexeme}
use Rattle.flux_grammar.specs.Tokens.{IsToken}
use Rattle.flux_syntax.proofs.KnownWords.{sign_known}
use Rattle.flux_syntax.proofs.OneToken.{literal_lexeme, some_literal}
use Rattle.flux_syntax.proofs.pieces.lexeme.Goals as goal

pub literal-requires-clause-literal : goal.literal-requires-clause-literal
literal-requires-clause-literal c =
    some_literal c.args.kind c.args.text.now c.in-Str.is c.requires.token

pub unreachable-requires : goal.unreachable-requires
unreachable-requires c =
    sign_known c.args.text.now (subst (λ kind. IsToken kind c.args.text.now) c.in-Sign.is c.requires.token) c.in-None.ensures.none

pub returns-in_ok-atom-in-Str-clause-lexeme : goal.returns-in_ok-atom-in-Str-clause-lexeme
returns-in_ok-atom-in-Str-clause-lexeme c =
    literal_lexeme c.args.names.now c.args.kind c.args.text.now c.in_ok-atom-in-Str.atom c.in-Str.is c.requires.token c.in_ok-atom-in-Str.ensures

pub returns-in-Some-clause-lexeme : goal.returns-in-Some-clause-lexeme
returns-in-Some-clause-lexeme c =
    subst (λ kind. IsLexeme c.args.names.now kind c.args.text.now (Sign c.in-Some.sign)) (sym c.in-Sign.is) (a_sign c.in-Some.sign c.in-Some.ensures.found)
