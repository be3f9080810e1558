-- Which pieces read as a script, a type or a query, and where others stop doing so.
use Rattle.std.specs.Prelude.{◌≡◌, ℕ, List, [], ◌∷◌, ◌++◌, length, Some, None}
use Rattle.flux_grammar.specs.declared.lexeme.Piece.{Piece}
use Rattle.flux_grammar.specs.declared.tree.Expr.{Expr}
use Rattle.flux_grammar.specs.declared.tree.Script.{Script}
use Rattle.flux_grammar.specs.declared.tree.TypeText.{TypeText}
use Rattle.flux_grammar.specs.States.{state}
use Rattle.flux_grammar.specs.Grammar.{Part, Value, type, expr, script, Reads}

-- the pieces read as the part, with this tree
abbrev pub IsRead : (p : Part) → List Piece → Value p → Type 0
IsRead p ps v = (e : ℕ) × Reads None p (state 0 ps) (state e []) v

abbrev pub IsScript : List Piece → Script → Type 0
IsScript ps t = IsRead script ps t

abbrev pub IsType : List Piece → TypeText → Type 0
IsType ps t = IsRead (type 0) ps t

abbrev pub IsQuery : List Piece → Expr → Type 0
IsQuery ps q = IsRead (expr 0) ps q

-- the pieces begin some that read as the part, where the limit of levels is asked only of what
-- begins within them
abbrev pub Fits : Part → List Piece → Type 0
Fits p ps =
    (more : List Piece) × (v : Value p) × (e : ℕ) ×
    Reads (Some (length more)) p (state 0 (ps ++ more)) (state e []) v

-- where the pieces begin, or the length of the text that they end
abbrev pub start_of : List Piece → ℕ → ℕ
start_of [] size = size
start_of (x ∷ ps) size = x.span.from

-- the pieces of a text of this size have no reading, and this is the place of the first that
-- doesn't fit, or the size where each one does
pub record Misfit (p : Part) (ps : List Piece) (size place : ℕ) : Type 0 where
  pub before : List Piece
  pub after : List Piece
  pub is : ps ≡ before ++ after
  pub fits : Fits p before
  pub misfit : (x : Piece) (more : List Piece) → after ≡ x ∷ more → ¬ (Fits p (before ++ x ∷ []))
  pub unread : (v : Value p) → ¬ (IsRead p ps v)
  pub there : place ≡ start_of after size

-- pieces read as one tree at most
abbrev pub ReadingIsUnique : Part → Type 0
ReadingIsUnique p =
    (ps : List Piece) (t u : Value p) → IsRead p ps t → IsRead p ps u → t ≡ u

-- what stands before pieces that fit fits
abbrev pub PrefixesFit : Part → Type 0
PrefixesFit p = (ps qs : List Piece) → Fits p (ps ++ qs) → Fits p ps

-- what has a reading fits
abbrev pub ReadingsFit : Part → Type 0
ReadingsFit p = (ps : List Piece) (v : Value p) → IsRead p ps v → Fits p ps
