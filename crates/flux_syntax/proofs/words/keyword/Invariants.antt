use Rattle.std.proofs.Common.{◌≢◌, All, take}
use Rattle.flux_grammar.specs.Lexemes.{keyword_text}
use Rattle.flux_syntax.proofs.words.keyword.Given as goal

-- the words before have other texts
abbrev pub invariant-loop-word : goal.invariant-loop-word
invariant-loop-word l = All (λ word. l.text ≢ keyword_text word) (take l.word-index l.word-items)
