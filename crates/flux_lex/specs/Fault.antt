-- What it means that bytes give no tokens.
use Rattle.std.specs.Prelude.{ℕ, List}
use Rattle.flux_atom.specs.Spelling.{IsLongest}
use Rattle.flux_grammar.specs.declared.token.Token.{Token}
use Rattle.flux_grammar.specs.Tokens.{AreTokens, BeginTokens}
use Rattle.flux_lex.specs.declared.read.LexFault.{LexFault}
use Rattle.flux_lex.specs.declared.read.LexFault.TheVariants.{Bad, Memory}

-- the bytes are no list of tokens, and the place is the length of their longest prefix that more
-- bytes can make one; of want of memory nothing is said
abbrev pub IsLexFault : List ℕ → LexFault → Type 0
IsLexFault bytes (Bad place) =
    ((tokens : List Token) → ¬ (AreTokens bytes tokens)) × IsLongest BeginTokens bytes place
IsLexFault bytes (Memory error) = Unit {0}
