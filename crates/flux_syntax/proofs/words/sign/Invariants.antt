use Rattle.std.proofs.Common.{◌≢◌, All, take}
use Rattle.flux_grammar.specs.Lexemes.{sign_text}
use Rattle.flux_syntax.proofs.words.sign.Given as goal

-- the signs before have other texts
abbrev pub invariant-loop-sign : goal.invariant-loop-sign
invariant-loop-sign l = All (λ sign. l.text ≢ sign_text sign) (take l.sign-index l.sign-items)
