-- What it means that tokens have a reading, and that they have none.
use Rattle.std.specs.Prelude.{◌≡◌, ℕ, List, length, Result, Ok, Err}
use Rattle.flux_grammar.specs.declared.lexeme.Piece.{Piece}
use Rattle.flux_grammar.specs.declared.token.Token.{Token}
use Rattle.flux_grammar.specs.Grammar.{Part, Value}
use Rattle.flux_grammar.specs.Lexemes.{ArePieces}
use Rattle.flux_grammar.specs.Readings.{IsRead, Misfit}
use Rattle.flux_syntax.specs.declared.trees.SynFault.{SynFault}
use Rattle.flux_syntax.specs.declared.trees.SynFault.TheVariants.{Syntax, Memory}

-- the tokens of the bytes are pieces that read as the part, with this tree
abbrev pub IsTree : (p : Part) → List (List ℕ) → List ℕ → List Token → Value p → Type 0
IsTree p texts bytes tokens tree =
    (ps : List Piece) × ArePieces texts bytes tokens ps × IsRead p ps tree

-- the tokens of the bytes are pieces without a reading, of which the first that doesn't fit begins
-- at the place; of want of memory nothing is said
abbrev pub IsSynFault : Part → List (List ℕ) → List ℕ → List Token → SynFault → Type 0
IsSynFault p texts bytes tokens (Syntax place) =
    (ps : List Piece) × ArePieces texts bytes tokens ps × Misfit p ps (length bytes) place
IsSynFault p texts bytes tokens (Memory error) = Unit {0}

-- the table is this one, unless memory ran out
abbrev pub Learns : {A : Type 0} → List (List ℕ) → List (List ℕ) → Result A SynFault → Type 0
Learns wanted texts (Ok tree) = texts ≡ wanted
Learns wanted texts (Err (Syntax place)) = texts ≡ wanted
Learns wanted texts (Err (Memory error)) = Unit {0}
