-- The names that the tokens of a script write, and a table that learns them.
use Rattle.std.specs.Prelude.{ℕ, ◌-◌, List, [], ◌∷◌, Option, Some, None, length, drop, slice_range, if◌then◌else◌}
use Rattle.flux_atom.specs.Names.{with_text}
use Rattle.flux_atom.specs.Reserved.{is_reserved}
use Rattle.flux_grammar.specs.declared.token.Token.{Token}
use Rattle.flux_grammar.specs.declared.token.TokenKind.{TokenKind}
use Rattle.flux_grammar.specs.declared.token.TokenKind.TheVariants.{Word, Quoted, Var, Str, Number, Sign}

-- the name that a token of the kind and the text writes: a word that isn't reserved, a quoted label
-- without its quotes, a variable without its `$`
abbrev pub written_name : TokenKind → List ℕ → Option (List ℕ)
written_name Word text = if is_reserved text then None else Some text
written_name Quoted text = Some (slice_range text 1 (length text - 1))
written_name Var text = Some (drop 1 text)
written_name Str text = None
written_name Number text = None
written_name Sign text = None

-- the table that was shown the name, if there is one
abbrev pub with_name : List (List ℕ) → Option (List ℕ) → List (List ℕ)
with_name texts None = texts
with_name texts (Some name) = with_text texts name

-- the table that was shown the names of the tokens, in their order
abbrev pub learnt : List ℕ → List Token → List (List ℕ) → List (List ℕ)
learnt bytes [] texts = texts
learnt bytes (t ∷ ts) texts =
    let name = written_name t.kind (slice_range bytes t.span.from t.span.to) in
    learnt bytes ts (with_name texts name)
