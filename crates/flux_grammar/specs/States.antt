-- Where a reading stands: the end of the last piece that was taken, and the pieces that are left.
use Rattle.std.specs.Prelude.{◌≡◌, ℕ, List, [], ◌∷◌, Option, Some, None}
use Rattle.flux_grammar.specs.declared.lexeme.Lexeme.{Lexeme}
use Rattle.flux_grammar.specs.declared.lexeme.Piece.{Piece}

pub data State : Type 0 where
  state : ℕ → List Piece → State

abbrev pub end : State → ℕ
end (state e ps) = e

abbrev pub left : State → List Piece
left (state e ps) = ps

-- the next lexeme, if there is one
abbrev pub head : State → Option Lexeme
head (state e []) = None
head (state e (x ∷ ps)) = Some x.lexeme

-- the next piece is x, of this lexeme; the state behind it
pub data Takes (l : Lexeme) : State → Piece → State → Type 0 where
  takes : {e : ℕ} {x : Piece} {ps : List Piece} →
      x.lexeme ≡ l → Takes l (state e (x ∷ ps)) x (state x.span.to ps)
