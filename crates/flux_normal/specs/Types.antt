-- What is asked of the types of a script.
use Rattle.std.specs.Prelude.{◌≡◌, ℕ, Bool, true, List, [], ◌∷◌, Option, Some, None, length, map, flat_map, filter_map, slice_get}
use Rattle.std.specs.Option.{option_map}
use Rattle.flux_grammar.specs.declared.tree.Script.{Script}
use Rattle.flux_grammar.specs.declared.tree.TypeDef.{TypeDef}
use Rattle.flux_grammar.specs.declared.tree.TypeText.{TypeText}
use Rattle.flux_grammar.specs.NormalFaults.{first, mentions, unknown, unless_within, is_among, repeated, Mention, declarations}
use Rattle.flux_grammar.specs.NormalForm.{type_names}
use Rattle.flux_grammar.specs.Spans.{type_span}
use Rattle.flux_grammar.specs.TypeOf.{type_in}
use Rattle.flux_schema.specs.Ty.{Ty, IsWithinLimits}
use Rattle.flux_schema.specs.Definitions.{Declared, declared_names, ReachesItself, IsFirst}
use Rattle.flux_normal.specs.declared.fault.NormFault.{NormFault}
use Rattle.flux_normal.specs.declared.fault.NormFault.TheVariants.{Duplicate, UnknownType, BigType, Unguarded, UnknownProc, Arity, TooNested, Memory}
use Rattle.flux_normal.specs.declared.walk.Question.{Question}
use Rattle.flux_normal.specs.declared.walk.Question.TheVariants.{Unknown, Big}
use Rattle.flux_normal.specs.Written.{unknowns, IsTypeOf}

-- unknown names in several types, and types among them that are over the limits
abbrev pub all_unknown : List ℕ → List TypeText → List ℕ
all_unknown names ts = filter_map (unknown names) (flat_map mentions ts)

abbrev pub if_big : List ℕ → TypeText → Option ℕ
if_big names t = unless_within (type_span t).from (type_in names t)

-- the place in a type, in several, that answers a question. Types are asked for their size where
-- no name is unknown
abbrev pub Answers : Question → TypeText → Option ℕ → Type 0
Answers (Unknown known) t r = r ≡ first (unknowns (declared_names known.now) t)
Answers Big t r = (names : List ℕ) → unknowns names t ≡ [] → r ≡ if_big names t

abbrev pub AnswersAll : Question → List TypeText → Option ℕ → Type 0
AnswersAll (Unknown known) ts r = r ≡ first (all_unknown (declared_names known.now) ts)
AnswersAll Big ts r =
    (names : List ℕ) → all_unknown names ts ≡ [] → r ≡ first (filter_map (if_big names) ts)

-- a definition as the mention of its name, as a name without a body, and with its body
abbrev pub mention_of : TypeDef → Mention
mention_of d = (d.name, d.at.from)

abbrev pub without_body : TypeDef → Declared
without_body d = record { name = d.name; body = None }

abbrev pub with_type : List ℕ → TypeDef → Declared
with_type names d = record { name = d.name; body = type_in names d.body }

-- a name at a place is one of those before, or memory is wanting
abbrev pub IsAgain : List ℕ → ℕ → ℕ → NormFault → Type 0
IsAgain names name place (Duplicate at) = (at ≡ place) × (is_among name names ≡ true)
IsAgain names name place (UnknownType at) = ⊥
IsAgain names name place (BigType at) = ⊥
IsAgain names name place (Unguarded at) = ⊥
IsAgain names name place (UnknownProc at) = ⊥
IsAgain names name place (Arity at) = ⊥
IsAgain names name place (TooNested at) = ⊥
IsAgain names name place (Memory error) = Unit {0}

-- a definition has the name of an earlier one, or memory is wanting
abbrev pub IsRepeated : List TypeDef → NormFault → Type 0
IsRepeated ds (Duplicate at) = first (repeated [] (map mention_of ds)) ≡ Some at
IsRepeated ds (UnknownType at) = ⊥
IsRepeated ds (BigType at) = ⊥
IsRepeated ds (Unguarded at) = ⊥
IsRepeated ds (UnknownProc at) = ⊥
IsRepeated ds (Arity at) = ⊥
IsRepeated ds (TooNested at) = ⊥
IsRepeated ds (Memory error) = Unit {0}

-- a definition reaches itself, or memory is wanting
abbrev pub IsCyclic : Script → NormFault → Type 0
IsCyclic s (Duplicate at) = ⊥
IsCyclic s (UnknownType at) = ⊥
IsCyclic s (BigType at) = ⊥
IsCyclic s (Unguarded at) =
    (x : ℕ) × IsFirst (ReachesItself (declarations s)) x
    × (option_map (λ d. d.at.from) (slice_get s.types x) ≡ Some at)
IsCyclic s (UnknownProc at) = ⊥
IsCyclic s (Arity at) = ⊥
IsCyclic s (TooNested at) = ⊥
IsCyclic s (Memory error) = Unit {0}

-- no name in a type is unknown, and it isn't over the limits
pub record IsFine (names : List ℕ) (t : TypeText) : Type 0 where
  pub known : unknowns names t ≡ []
  pub within : if_big names t ≡ None

abbrev pub AreFine : List ℕ → List TypeText → Type 0
AreFine names [] = Unit {0}
AreFine names (t ∷ ts) = IsFine names t × AreFine names ts

-- this is the type, within the limits, and each index that it names is one of a name
pub record IsMade (names : List ℕ) (o : Option Ty) (t : Ty) : Type 0 where
  pub ty : IsTypeOf (length names) o t
  pub limits : IsWithinLimits t

-- the place of the definition at an index
abbrev pub IsPlaceOf : List TypeDef → ℕ → NormFault → Type 0
IsPlaceOf ds x (Duplicate at) = ⊥
IsPlaceOf ds x (UnknownType at) = ⊥
IsPlaceOf ds x (BigType at) = ⊥
IsPlaceOf ds x (Unguarded at) = option_map (λ d. d.at.from) (slice_get ds x) ≡ Some at
IsPlaceOf ds x (UnknownProc at) = ⊥
IsPlaceOf ds x (Arity at) = ⊥
IsPlaceOf ds x (TooNested at) = ⊥
IsPlaceOf ds x (Memory error) = Unit {0}
