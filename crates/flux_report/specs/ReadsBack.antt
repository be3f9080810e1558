-- A type that is printed reads back.
use Rattle.std.specs.Prelude.{◌≡◌, ◌≢◌, ◌<◌, ℕ, ◌+◌, max, Bool, false, List, All, Some, length, codes, if◌then◌else◌}
use Rattle.flux_atom.specs.Names.{IsName, IsLabel}
use Rattle.flux_atom.specs.Reserved.{is_reserved}
use Rattle.flux_grammar.specs.declared.token.Token.{Token}
use Rattle.flux_grammar.specs.declared.tree.TypeText.{TypeText}
use Rattle.flux_grammar.specs.Grammar.{limit, type}
use Rattle.flux_grammar.specs.Tokens.{AreTokens}
use Rattle.flux_grammar.specs.TypeOf.{type_of}
use Rattle.flux_schema.specs.Definitions.{Definitions, Differ, names_of}
use Rattle.flux_schema.specs.Member.{SameMembers}
use Rattle.flux_schema.specs.Tidy.{tidy}
use Rattle.flux_schema.specs.Ty.{Ty, empty, atom, element, any_element, seq, alt, star, named}
use Rattle.flux_schema.specs.TypeText.{IsWritable, is_choice, is_empty, is_list, name_text, text_of}
use Rattle.flux_syntax.specs.Learnt.{learnt}
use Rattle.flux_syntax.specs.Trees.{IsTree}

-- a word that can be the name of a type
abbrev pub IsTypeName : List ℕ → Type 0
IsTypeName text =
    IsName text × (is_reserved text ≡ false)
    × (text ≢ codes "string") × (text ≢ codes "bool") × (text ≢ codes "int") × (text ≢ codes "any")

-- the text of each label of the type is a label
abbrev pub HasLabels : List (List ℕ) → Ty → Type 0
HasLabels texts empty = Unit {0}
HasLabels texts (atom k) = Unit {0}
HasLabels texts (element n t) = IsLabel (name_text texts n) × HasLabels texts t
HasLabels texts (any_element t) = HasLabels texts t
HasLabels texts (seq t u) = HasLabels texts t × HasLabels texts u
HasLabels texts (alt t u) = HasLabels texts t × HasLabels texts u
HasLabels texts (star t) = HasLabels texts t
HasLabels texts (named x) = Unit {0}

-- one more where brackets stand round a text
abbrev pub enclosing : Bool → ℕ → ℕ
enclosing brackets d = if brackets then d + 1 else d

-- how many brackets and parentheses with a type between them lie inside one another in the text of
-- a type
abbrev pub depth : Ty → ℕ
depth empty = 0
depth (atom k) = 0
depth (element n t) = if is_empty t then 0 else depth t + 1
depth (any_element t) = if is_empty t then 0 else depth t + 1
depth (seq t u) = max (enclosing (is_choice t) (depth t)) (enclosing (is_choice u) (depth u))
depth (alt t u) = max (depth t) (depth u)
depth (star t) = enclosing (is_list t) (depth t)
depth (named x) = 0

-- the type can be written so that it is read: its labels and the names of definitions stand in the
-- table of names, its labels are labels, the names of definitions differ and can be names of types,
-- and its text needs no more levels than may lie inside one another
pub record CanBeRead (texts : List (List ℕ)) (defs : Definitions) (t : Ty) : Type 0 where
  pub differ : Differ (names_of defs)
  pub written : IsWritable (length texts) defs t
  pub labels : HasLabels texts t
  pub names : All (λ n. IsTypeName (name_text texts n)) (names_of defs)
  pub levels : depth (tidy t) < limit

-- the bytes read as a type, over the table that was shown their names, and that type has the same
-- members
pub record IsTextOf (texts : List (List ℕ)) (defs : Definitions) (t : Ty) (bytes : List ℕ)
    : Type 0 where
  pub tokens : List Token
  pub are : AreTokens bytes tokens
  pub tree : TypeText
  pub reads : IsTree (type 0) (learnt bytes tokens texts) bytes tokens tree
  pub other : Ty
  pub is : type_of defs tree ≡ Some other
  pub same : SameMembers defs t other

-- the text of a type, tidied, reads as a type with the same members
abbrev pub TypesReadBack : Type 0
TypesReadBack =
    (texts : List (List ℕ)) (defs : Definitions) (t : Ty) → CanBeRead texts defs t →
    IsTextOf texts defs t (text_of texts defs (tidy t))
