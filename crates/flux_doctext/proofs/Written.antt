-- What is read of a text: the beginning of a document, with the forest so far.
use Rattle.std.proofs.Common.{◌≡◌, ℕ, List, [], ◌∷◌, ◌++◌, slice_get, codes, Some}
use Rattle.flux_atom.specs.Names.{IsName, IsLabel}
use Rattle.flux_atom.specs.Literal.{quote}
use Rattle.flux_atom.specs.NumberSteps.{read_number}
use Rattle.flux_atom.specs.TextSteps.{TextRead, no_text, read_text}
use Rattle.flux_atom.specs.Space.{IsSpace}
use Rattle.flux_trees.specs.Hedge.{Plain, nil}
use Rattle.flux_trees.specs.Draft.{done, begun}
use Rattle.flux_doctext.specs.Spells.{whole, trees, Spelled}
use Rattle.flux_doctext.specs.Reading.{Shape, content, next, name, label, opened, closed, string, number, behind, number_of, PlainDraft}

-- what stands before a tree: nothing, or the trees before it and a comma
pub data Ahead (names : List (List ℕ)) (bytes : List ℕ) (h : Plain) : Type 0 where
  first : bytes ≡ [] → h ≡ nil → Ahead names bytes h
  further : (front : List ℕ) → Spelled names trees front h → front ++ codes "," ≡ bytes → Ahead names bytes h

-- that, white space, and the token that the reader is in
pub record Begun (names : List (List ℕ)) (P : List ℕ → Type 0) (bytes : List ℕ) (h : Plain) : Type 0 where
  pub front : List ℕ
  pub spaces : List ℕ
  pub token : List ℕ
  pub ahead : Ahead names front h
  pub is_space : IsSpace spaces
  pub is_token : P token
  pub split : front ++ (spaces ++ token) ≡ bytes

pub record IsLabelled (names : List (List ℕ)) (text token : List ℕ) : Type 0 where
  pub spaces : List ℕ
  pub is_space : IsSpace spaces
  pub is_label : IsLabel text
  pub held : slice_get names (number_of names text) ≡ Some text
  pub token_is : token ≡ text ++ spaces

pub record IsQuoted (r : TextRead) (token : List ℕ) : Type 0 where
  pub items : List ℕ
  pub are : read_text no_text items ≡ Some r
  pub token_is : token ≡ quote ∷ items

pub record IsOpening (names : List (List ℕ)) (a : ℕ) (token : List ℕ) : Type 0 where
  pub text : List ℕ
  pub spaces : List ℕ
  pub is_space : IsSpace spaces
  pub is_label : IsLabel text
  pub at : slice_get names a ≡ Some text
  pub token_is : token ≡ text ++ (spaces ++ codes "[")

pub record IsParenthesis (bytes : List ℕ) : Type 0 where
  pub before : List ℕ
  pub spaces : List ℕ
  pub before_space : IsSpace before
  pub is_space : IsSpace spaces
  pub split : before ++ (codes "(" ++ spaces) ≡ bytes

-- what is read at the innermost place
abbrev pub Core : List (List ℕ) → Shape → List ℕ → Plain → Type 0
Core names content bytes h = IsSpace bytes × (h ≡ nil)
Core names next bytes h = Begun names (λ t. t ≡ []) bytes h
Core names (name text) bytes h = Begun names (λ t. (t ≡ text) × IsName text) bytes h
Core names (label text) bytes h = Begun names (IsLabelled names text) bytes h
Core names opened bytes h = IsParenthesis bytes × (h ≡ nil)
Core names closed bytes h = Spelled names whole bytes nil × (h ≡ nil)
Core names (string r) bytes h = Begun names (IsQuoted r) bytes h
Core names (number at) bytes h = Begun names (λ t. read_number t ≡ Some at) bytes h
Core names behind bytes h = Spelled names trees bytes h

-- an element that is begun: what stands before it and its bracket, and what is read in it
pub record Level (names : List (List ℕ)) (b : Plain) (a : ℕ) (Inner : List ℕ → Type 0) (bytes : List ℕ) : Type 0 where
  pub outer : List ℕ
  pub inner : List ℕ
  pub begins : Begun names (IsOpening names a) outer b
  pub goes_on : Inner inner
  pub split : outer ++ inner ≡ bytes

-- what is read of the whole text, where C holds of the innermost place
abbrev pub Written : List (List ℕ) → (List ℕ → Plain → Type 0) → List ℕ → PlainDraft → Type 0
Written names C bytes (done h) = C bytes h
Written names C bytes (begun b n a d) = Level names b a (λ l. Written names C l d) bytes
