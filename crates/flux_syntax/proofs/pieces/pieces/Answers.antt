use Rattle.std.proofs.Common.{refl, rules, subst, sym}
use Rattle.flux_grammar.specs.Tokens.{IsToken}
use Rattle.flux_syntax.proofs.SoFar.{IsSoFar, none_yet, one_more, room_kept, room_left, room_then, still_grown}
use Rattle.flux_syntax.proofs.Standing.{each_stands}
use Rattle.flux_syntax.proofs.pieces.pieces.Goals as goal

pub loop-token-init : goal.loop-token-init
loop-token-init c =
    subst (IsSoFar c.args.bytes.now c.args.tokens.now c.args.names.now 0 c.args.names.now) (sym c.in_ok-pieces.ensures.items) (none_yet c.args.bytes.now c.args.tokens.now c.args.names.now c.len-held.ensures.table)

pub text_of-text-requires-clause-ordered : goal.text_of-text-requires-clause-ordered
text_of-text-requires-clause-ordered c =
    let stands = each_stands c.args.bytes.now c.args.tokens.now c.requires.tokens c.loop-token.token-index _ c.loop-token-test.true in
    stands.ordered

pub text_of-text-requires-clause-within : goal.text_of-text-requires-clause-within
text_of-text-requires-clause-within c =
    let stands = each_stands c.args.bytes.now c.args.tokens.now c.requires.tokens c.loop-token.token-index _ c.loop-token-test.true in
    stands.within

pub lexeme-requires-clause-token : goal.lexeme-requires-clause-token
lexeme-requires-clause-token c =
    let stands = each_stands c.args.bytes.now c.args.tokens.now c.requires.tokens c.loop-token.token-index _ c.loop-token-test.true in
    subst (IsToken _) (sym c.text_of-text.ensures.text) stands.is

pub lexeme-requires-clause-room : goal.lexeme-requires-clause-room
lexeme-requires-clause-room c =
    room_left c.args.bytes.now c.args.tokens.now c.args.names.now c.loop-token.names c.loop-token.token-index c.loop-token.pieces.items c.loop-token.invariant c.requires.tokens c.loop-token-test.true c.requires.room

pub returns-in_err-lexeme-clause-room : goal.returns-in_err-lexeme-clause-room
returns-in_err-lexeme-clause-room c =
    room_kept c.args.bytes.now c.args.tokens.now c.args.names.now c.loop-token.names c.loop-token.token-index c.loop-token.pieces.items c.loop-token.invariant c.requires.tokens c.lexeme.new.names (search rules) c.in_err-lexeme.ensures.unchanged

pub returns-in_err-push-clause-grown : goal.returns-in_err-push-clause-grown
returns-in_err-push-clause-grown c =
    still_grown c.args.bytes.now c.args.tokens.now c.args.names.now c.loop-token.names c.lexeme.new.names c.loop-token.token-index c.loop-token.pieces.items _ c.text_of-text.result.now c.loop-token.invariant c.loop-token-test.true c.text_of-text.ensures.text c.in_ok-lexeme.ensures.learnt

pub returns-in_err-push-clause-room : goal.returns-in_err-push-clause-room
returns-in_err-push-clause-room c =
    room_then c.args.bytes.now c.args.tokens.now c.args.names.now c.loop-token.names c.lexeme.new.names c.loop-token.token-index c.loop-token.pieces.items _ c.text_of-text.result.now c.loop-token.invariant c.loop-token-test.true c.text_of-text.ensures.text c.in_ok-lexeme.ensures.learnt c.requires.tokens

pub loop-token-preserved : goal.loop-token-preserved
loop-token-preserved c =
    subst (IsSoFar c.args.bytes.now c.args.tokens.now c.args.names.now _ c.lexeme.new.names) (sym c.in_ok-push.ensures.items)
    (one_more c.args.bytes.now c.args.tokens.now c.args.names.now c.loop-token.names c.lexeme.new.names c.loop-token.token-index c.loop-token.pieces.items _ c.text_of-text.result.now c.loop-token.invariant c.loop-token-test.true c.text_of-text.ensures.text c.in_ok-lexeme.ensures.learnt _ c.in_ok-lexeme.ensures.table refl c.in_ok-lexeme.ensures.lexeme)

pub returns-clause-room : goal.returns-clause-room
returns-clause-room c =
    room_kept c.args.bytes.now c.args.tokens.now c.args.names.now c.loop-token.names c.loop-token.token-index c.loop-token.pieces.items c.loop-token.invariant c.requires.tokens c.loop-token.names c.loop-token.auto.token-index-end refl
