-- The text of a type, whose labels and names are read through a table of names.
use Rattle.std.specs.Prelude.{◌<◌, ℕ, Bool, true, false, ◌||◌, List, [], ◌++◌, codes, bytes_eq, slice_get, unwrap_or, IsSomeAnd, if◌then◌else◌}
use Rattle.std.specs.Option.{option_map}
use Rattle.flux_atom.specs.declared.atom.AtomKind.{AtomKind}
use Rattle.flux_atom.specs.declared.atom.AtomKind.TheVariants as kind
use Rattle.flux_schema.specs.Ty.{Ty, empty, atom, element, any_element, seq, alt, star, named}
use Rattle.flux_schema.specs.Definitions.{Definitions}
pub use Rattle.flux_atom.specs.Names.{name_text}
pub use Rattle.flux_schema.specs.Same.{is_empty}
use Rattle.flux_atom.specs.Reserved.{is_reserved}

-- a label as a type has it: between quotes where it is a reserved word or `any`
abbrev pub quoted : List ℕ → List ℕ
quoted text =
    if is_reserved text || bytes_eq text (codes "any") then codes "'" ++ text ++ codes "'" else text

-- the name of a definition
abbrev pub definition_text : List (List ℕ) → Definitions → ℕ → List ℕ
definition_text names defs x =
    unwrap_or (option_map (λ d. name_text names d.name) (slice_get defs x)) []

abbrev pub kind_text : AtomKind → List ℕ
kind_text kind.Bool = codes "bool"
kind_text kind.Text = codes "string"
kind_text kind.Int = codes "int"

abbrev pub in_parentheses : List ℕ → List ℕ
in_parentheses text = codes "(" ++ text ++ codes ")"

-- a type that has parentheses inside a sequence: a choice
abbrev pub is_choice : Ty → Bool
is_choice empty = false
is_choice (atom k) = false
is_choice (element n t) = false
is_choice (any_element t) = false
is_choice (seq t u) = false
is_choice (alt t u) = true
is_choice (star t) = false
is_choice (named x) = false

-- a type that has parentheses inside a star: a choice or a sequence
abbrev pub is_list : Ty → Bool
is_list empty = false
is_list (atom k) = false
is_list (element n t) = false
is_list (any_element t) = false
is_list (seq t u) = true
is_list (alt t u) = true
is_list (star t) = false
is_list (named x) = false

-- with parentheses where they are wanted
abbrev pub enclosed : Bool → List ℕ → List ℕ
enclosed wanted text = if wanted then in_parentheses text else text

-- the content of an element, between brackets: it is left out where it is empty
abbrev pub content_text : Ty → List ℕ → List ℕ
content_text t text = codes "[" ++ (if is_empty t then [] else text) ++ codes "]"

-- the text of a type as it is
abbrev pub text_of : List (List ℕ) → Definitions → Ty → List ℕ
text_of names defs empty = codes "()"
text_of names defs (atom k) = kind_text k
text_of names defs (element n t) =
    quoted (name_text names n) ++ content_text t (text_of names defs t)
text_of names defs (any_element t) = codes "any" ++ content_text t (text_of names defs t)
text_of names defs (seq t u) =
    enclosed (is_choice t) (text_of names defs t) ++ codes ","
    ++ enclosed (is_choice u) (text_of names defs u)
text_of names defs (alt t u) = text_of names defs t ++ codes "|" ++ text_of names defs u
text_of names defs (star t) = enclosed (is_list t) (text_of names defs t) ++ codes "*"
text_of names defs (named x) = definition_text names defs x

-- each label of the type, and each name of a definition that it names, is one of n names of a table
abbrev pub IsWritable : ℕ → Definitions → Ty → Type 0
IsWritable n defs empty = Unit {0}
IsWritable n defs (atom k) = Unit {0}
IsWritable n defs (element m t) = (m < n) × IsWritable n defs t
IsWritable n defs (any_element t) = IsWritable n defs t
IsWritable n defs (seq t u) = IsWritable n defs t × IsWritable n defs u
IsWritable n defs (alt t u) = IsWritable n defs t × IsWritable n defs u
IsWritable n defs (star t) = IsWritable n defs t
IsWritable n defs (named x) = IsSomeAnd (slice_get defs x) (λ d. d.name < n)
