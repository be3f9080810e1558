-- What holds of each name of pieces holds of each name of what they read as, and the pieces of a
-- text name texts of its table.
use Rattle.std.proofs.Common.{◌<◌, ℕ, List, length, flat_map, All, Contains}
use Rattle.std.proofs.lemmas.List.Elements.{All-nil, All-cons, All-contains_itself}
use Rattle.std.proofs.lemmas.Option.{slice_get_within}
use Rattle.flux_grammar.specs.declared.lexeme.Lexeme.{Lexeme}
use Rattle.flux_grammar.specs.declared.lexeme.Piece.{Piece}
use Rattle.flux_grammar.specs.declared.token.Token.{Token}
use Rattle.flux_grammar.specs.declared.token.TokenKind.{TokenKind}
use Rattle.flux_grammar.specs.declared.tree.Expr.{Expr}
use Rattle.flux_grammar.specs.declared.tree.Script.{Script}
use Rattle.flux_grammar.specs.declared.tree.TypeText.{TypeText}
use Rattle.flux_grammar.specs.Grammar.{Part, Value, type, expr, script}
use Rattle.flux_grammar.specs.Lexemes.{ArePieces, no_pieces, more_pieces, IsLexeme, a_reserved, a_truth, a_soft, a_word, a_quoted, a_variable, a_string, a_number, a_sign}
use Rattle.flux_grammar.specs.Names.{names_in_lexeme, names_in_piece, PieceNames, TypeTextNames, ExprNames, ScriptNames, NamesAreOfPieces}
use Rattle.flux_grammar.specs.Readings.{IsRead, IsScript, IsType, IsQuery}
use Rattle.flux_grammar.proofs.NameLists.{all_one, all_parts}
use Rattle.flux_grammar.proofs.NamesRead.{names, names_before, kept}

module _ (P : ℕ → Type 0) where
  of_pieces : (p : Part) → All P (names_before p) → (ps : List Piece) (v : Value p) → IsRead p ps v → All (PieceNames P) ps → All P (names p v)
  of_pieces p given ps v reads all = ((kept P reads.1 given).holds all).0

  pub each_of_script : (ps : List Piece) (t : Script) → IsScript ps t → All (PieceNames P) ps → ScriptNames P t
  each_of_script = of_pieces script (All-nil P)

  pub each_of_type : (ps : List Piece) (t : TypeText) → IsType ps t → All (PieceNames P) ps → TypeTextNames P t
  each_of_type = of_pieces (type 0) (All-nil P)

  pub each_of_query : (ps : List Piece) (q : Expr) → IsQuery ps q → All (PieceNames P) ps → ExprNames P q
  each_of_query = of_pieces (expr 0) (All-nil P)

-- each name of pieces is one of theirs
own_names : (ps : List Piece) → All (PieceNames (Contains (flat_map names_in_piece ps))) ps
own_names ps =
    let ns = flat_map names_in_piece ps in all_parts (Contains ns) names_in_piece ps (All-contains_itself ns)

pub names_of_script : NamesAreOfPieces script ScriptNames
names_of_script ps t reads =
    each_of_script (Contains (flat_map names_in_piece ps)) ps t reads (own_names ps)

pub names_of_type : NamesAreOfPieces (type 0) TypeTextNames
names_of_type ps t reads =
    each_of_type (Contains (flat_map names_in_piece ps)) ps t reads (own_names ps)

pub names_of_query : NamesAreOfPieces (expr 0) ExprNames
names_of_query ps q reads =
    each_of_query (Contains (flat_map names_in_piece ps)) ps q reads (own_names ps)

-- a lexeme names a text of the table, and so do all pieces
module _ (texts : List (List ℕ)) where
  abbrev pub IsOfTable : ℕ → Type 0
  IsOfTable n = n < length texts

  lexeme_known : {kind : TokenKind} {text : List ℕ} {l : Lexeme} → IsLexeme texts kind text l → All IsOfTable (names_in_lexeme l)
  lexeme_known (a_reserved k is) = All-nil IsOfTable
  lexeme_known (a_truth b is) = All-nil IsOfTable
  lexeme_known {text = text} (a_soft {n = n} s is named) = all_one IsOfTable n (slice_get_within texts n text named)
  lexeme_known {text = text} (a_word {n = n} free hard named) = all_one IsOfTable n (slice_get_within texts n text named)
  lexeme_known (a_quoted {n = n} label is named) = all_one IsOfTable n (slice_get_within texts n label named)
  lexeme_known (a_variable {n = n} name is named) = all_one IsOfTable n (slice_get_within texts n name named)
  lexeme_known (a_string is) = All-nil IsOfTable
  lexeme_known (a_number is) = All-nil IsOfTable
  lexeme_known (a_sign s is) = All-nil IsOfTable

  pub pieces_known : {bytes : List ℕ} {ts : List Token} {xs : List Piece} → ArePieces texts bytes ts xs → All (PieceNames IsOfTable) xs
  pieces_known no_pieces = All-nil (PieceNames IsOfTable)
  pieces_known (more_pieces {x = x} {xs = xs} same is rest) =
      All-cons (PieceNames IsOfTable) x xs (lexeme_known is) (pieces_known rest)
