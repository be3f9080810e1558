-- The signs and words that a type is printed as, and pieces that are these.
use Rattle.std.proofs.Common.{ℕ, Bool, Option, Some, None, List, [], ◌∷◌, ◌++◌, slice_get, if◌then◌else◌}
use Rattle.flux_atom.specs.declared.atom.AtomKind.{AtomKind}
use Rattle.flux_atom.specs.declared.atom.AtomKind.TheVariants as kind
use Rattle.flux_grammar.specs.declared.lexeme.Lexeme.{Lexeme}
use Rattle.flux_grammar.specs.declared.lexeme.Lexeme.TheVariants.{Sign, Word, Soft, Quoted}
use Rattle.flux_grammar.specs.declared.lexeme.Piece.{Piece}
use Rattle.flux_grammar.specs.declared.lexeme.Sign.{Sign as Mark}
use Rattle.flux_grammar.specs.declared.lexeme.Sign.TheVariants as sign
use Rattle.flux_grammar.specs.declared.lexeme.Soft.{Soft as SoftWord}
use Rattle.flux_grammar.specs.declared.lexeme.Soft.TheVariants as soft
use Rattle.flux_grammar.specs.States.{State, Takes}
use Rattle.flux_schema.specs.Definitions.{Definition, Definitions}
use Rattle.flux_schema.specs.Ty.{Ty, empty, atom, element, any_element, seq, alt, star, named}
use Rattle.flux_schema.specs.TypeText.{is_choice, is_empty, is_list}

-- a sign, the label with a number, the word of a kind, `any`, the name of a definition
pub data Item : Type 0 where
  mark : (s : Mark) → Item
  label : (n : ℕ) → Item
  typed : (k : AtomKind) → Item
  any_word : Item
  name : (n : ℕ) → Item

abbrev pub grouped : Bool → List Item → List Item
grouped wanted is = if wanted then mark sign.Open ∷ (is ++ mark sign.Close ∷ []) else is

abbrev pub bracketed : Bool → List Item → List Item
bracketed bare is = mark sign.OpenSquare ∷ ((if bare then [] else is) ++ mark sign.CloseSquare ∷ [])

abbrev pub named_items : Option Definition → List Item
named_items None = []
named_items (Some d) = name d.name ∷ []

abbrev pub items_of : Definitions → Ty → List Item
items_of defs empty = mark sign.Open ∷ mark sign.Close ∷ []
items_of defs (atom k) = typed k ∷ []
items_of defs (element n t) = label n ∷ bracketed (is_empty t) (items_of defs t)
items_of defs (any_element t) = any_word ∷ bracketed (is_empty t) (items_of defs t)
items_of defs (seq t u) =
    grouped (is_choice t) (items_of defs t) ++ mark sign.Comma ∷ grouped (is_choice u) (items_of defs u)
items_of defs (alt t u) = items_of defs t ++ mark sign.Bar ∷ items_of defs u
items_of defs (star t) = grouped (is_list t) (items_of defs t) ++ mark sign.Star ∷ []
items_of defs (named x) = named_items (slice_get defs x)

abbrev pub soft_of : AtomKind → SoftWord
soft_of kind.Text = soft.StringWord
soft_of kind.Bool = soft.BoolWord
soft_of kind.Int = soft.IntWord

-- what a sign or a word is to the grammar. A label may be a word that is something else too
pub data Means : Item → Lexeme → Type 0 where
  is_mark : (s : Mark) → Means (mark s) (Sign s)
  is_label : (n : ℕ) → Means (label n) (Word n)
  is_string_label : (n : ℕ) → Means (label n) (Soft soft.StringWord n)
  is_bool_label : (n : ℕ) → Means (label n) (Soft soft.BoolWord n)
  is_int_label : (n : ℕ) → Means (label n) (Soft soft.IntWord n)
  is_child_label : (n : ℕ) → Means (label n) (Soft soft.ChildWord n)
  is_quoted : (n : ℕ) → Means (label n) (Quoted n)
  is_typed : (k : AtomKind) (n : ℕ) → Means (typed k) (Soft (soft_of k) n)
  is_any : (n : ℕ) → Means any_word (Soft soft.AnyWord n)
  is_name : (n : ℕ) → Means (name n) (Word n)
  is_child_name : (n : ℕ) → Means (name n) (Soft soft.ChildWord n)

-- from a state up to a state the pieces are these
pub data Follows : List Item → State → State → Type 0 where
  over : {a : State} → Follows [] a a
  on : {i : Item} {is : List Item} {l : Lexeme} {x : Piece} {a b c : State} →
      Means i l → Takes l a x b → Follows is b c → Follows (i ∷ is) a c

pub record Parted (is js : List Item) (a c : State) : Type 0 where
  pub between : State
  pub front : Follows is a between
  pub back : Follows js between c

pub part : (is js : List Item) {a c : State} → Follows (is ++ js) a c → Parted is js a c
part [] js f = record { between = _; front = over; back = f }
part (i ∷ is) js (on m t f) =
    let rest = part is js f in record { between = rest.between; front = on m t rest.front; back = rest.back }

-- the sign comes, as a sign of the grammar
pub sign_taken : {s : Mark} {l : Lexeme} {a b : State} {x : Piece} → Means (mark s) l → Takes l a x b → Takes (Sign s) a x b
sign_taken (is_mark s) t = t
