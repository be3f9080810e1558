-- What can be wrong with a script that is read, and in which order it is found. Places of one kind
-- of fault are listed in the order of the text.
use Rattle.std.specs.Prelude.{◌≡◌, ℕ, Bool, ◌==◌, List, [], ◌∷◌, ◌++◌, length, Option, Some, None, map, flat_map, filter_map, find, slice_get, if◌then◌else◌}
use Rattle.std.specs.List.{list_any}
use Rattle.std.specs.Option.{option_map}
use Rattle.flux_calculus.specs.declared.ask.Span.{Span}
use Rattle.flux_calculus.specs.Typing.{is_within}
use Rattle.flux_grammar.specs.declared.tree.ProcDef.{ProcDef}
use Rattle.flux_grammar.specs.declared.tree.Script.{Script}
use Rattle.flux_grammar.specs.declared.tree.Stmt.{Stmt}
use Rattle.flux_grammar.specs.declared.tree.Stmt.TheOpen.{Stmt-F}
use Rattle.flux_grammar.specs.declared.tree.Stmt.TheFolds.{fold-Stmt}
use Rattle.flux_grammar.specs.declared.tree.TypeText.{TypeText}
use Rattle.flux_grammar.specs.declared.tree.TypeText.TheOpen.{TypeText-F}
use Rattle.flux_grammar.specs.declared.tree.TypeText.TheFolds.{fold-TypeText}
use Rattle.flux_grammar.specs.Nesting.{core_level, most_nested}
use Rattle.flux_grammar.specs.NormalForm.{type_names, bodies}
use Rattle.flux_grammar.specs.Spans.{type_span}
use Rattle.flux_grammar.specs.TypeOf.{type_in}
use Rattle.flux_schema.specs.Definitions.{Declarations, ReachesItself, IsFirst}
use Rattle.flux_schema.specs.Ty.{Ty}

abbrev pub first : {A : Type 0} → List A → Option A
first xs = slice_get xs 0

abbrev pub joined : {A : Type 0} → List (List A) → List A
joined xs = flat_map (λ x. x) xs

abbrev pub is_among : ℕ → List ℕ → Bool
is_among n names = list_any (λ m. m == n) names

-- a name, and the place where it stands
abbrev pub Mention : Type 0
Mention = ℕ × ℕ

-- names that stood before as the same: of a list, where these stood before it
abbrev pub again : List ℕ → Mention → List ℕ
again before m = if is_among m.0 before then m.1 ∷ [] else []

abbrev pub repeated : List ℕ → List Mention → List ℕ
repeated before [] = []
repeated before (m ∷ ms) = again before m ++ repeated (m.0 ∷ before) ms

-- of procedures, and of the parameters of each
abbrev pub repeated_procs : List ℕ → List ProcDef → List ℕ
repeated_procs before [] = []
repeated_procs before (p ∷ ps) =
    again before (p.name, p.at.from)
    ++ repeated [] (map (λ q. (q.var, q.at.from)) p.params)
    ++ repeated_procs (p.name ∷ before) ps

abbrev pub duplicates : Script → List ℕ
duplicates s =
    repeated [] (map (λ d. (d.name, d.at.from)) s.types) ++ repeated_procs [] s.procs

-- the types that a script writes
abbrev pub written_in : ProcDef → List TypeText
written_in p = map (λ q. q.ty) p.params ++ p.focus ∷ p.result ∷ []

abbrev pub output_types : Option TypeText → List TypeText
output_types None = []
output_types (Some t) = t ∷ []

abbrev pub written_types : Script → List TypeText
written_types s =
    map (λ d. d.body) s.types ++ flat_map written_in s.procs ++ s.input ∷ output_types s.output

-- the names of types that a written type mentions
abbrev pub mentioned_inside : Option (List Mention) → List Mention
mentioned_inside None = []
mentioned_inside (Some ms) = ms

abbrev pub mentions_step : TypeText-F (List Mention) → List Mention
mentions_step (TypeText-F.Alt ts at) = joined ts
mentions_step (TypeText-F.Seq ts at) = joined ts
mentions_step (TypeText-F.Marked t ms at) = t
mentions_step (TypeText-F.Group t at) = mentioned_inside t
mentions_step (TypeText-F.Elem n t at) = mentioned_inside t
mentions_step (TypeText-F.AnyElem t at) = mentioned_inside t
mentions_step (TypeText-F.Kind k at) = []
mentions_step (TypeText-F.Named n at) = (n, at.from) ∷ []

abbrev pub mentions : TypeText → List Mention
mentions = fold-TypeText (List Mention) mentions_step

-- names of types without a definition
abbrev pub unknown : List ℕ → Mention → Option ℕ
unknown names m = if is_among m.0 names then None else Some m.1

abbrev pub unknown_types : Script → List ℕ
unknown_types s = filter_map (unknown (type_names s)) (flat_map mentions (written_types s))

-- types over the limits
abbrev pub unless_within : ℕ → Option Ty → Option ℕ
unless_within at None = None
unless_within at (Some t) = if is_within t then None else Some at

abbrev pub big_types : Script → List ℕ
big_types s =
    filter_map (λ t. unless_within (type_span t).from (type_in (type_names s) t)) (written_types s)

-- the names of types with what they stand for, of which a name may reach itself
abbrev pub declarations : Script → Declarations
declarations s =
    map (λ d. record { name = d.name; body = type_in (type_names s) d.body }) s.types

-- a CALL: the name, how many arguments it has, where it stands
pub record Call : Type 0 where
  pub name : ℕ
  pub arguments : ℕ
  pub place : ℕ

abbrev pub calls_step : Stmt-F (List Call) → List Call
calls_step (Stmt-F.Update p s at) = s
calls_step (Stmt-F.If e s t at) = s ++ t
calls_step (Stmt-F.Let x e s at) = s
calls_step (Stmt-F.Guarded s e at) = s
calls_step (Stmt-F.Skip at) = []
calls_step (Stmt-F.Insert e at) = []
calls_step (Stmt-F.InsertBefore p e at) = []
calls_step (Stmt-F.InsertAfter p e at) = []
calls_step (Stmt-F.InsertFirst p e at) = []
calls_step (Stmt-F.InsertLast p e at) = []
calls_step (Stmt-F.Delete p at) = []
calls_step (Stmt-F.DeleteFrom p at) = []
calls_step (Stmt-F.Rename p n at) = []
calls_step (Stmt-F.Replace p e at) = []
calls_step (Stmt-F.ReplaceIn p e at) = []
calls_step (Stmt-F.Call n es at) =
    record { name = n; arguments = length es; place = at.from } ∷ []
calls_step (Stmt-F.Block ss at) = joined ss

abbrev pub calls : Stmt → List Call
calls = fold-Stmt (List Call) calls_step

abbrev pub all_calls : Script → List Call
all_calls s = flat_map calls (flat_map (λ p. p.body) s.procs ++ s.body)

-- CALLs of a name without a procedure, or with another number of arguments than its parameters
pub data WrongCall : Type 0 where
  no_procedure : ℕ → WrongCall
  other_number : ℕ → WrongCall

abbrev pub unless_fits : Call → Option ProcDef → Option WrongCall
unless_fits c None = Some (no_procedure c.place)
unless_fits c (Some p) =
    if length p.params == c.arguments then None else Some (other_number c.place)

abbrev pub wrong_call : List ProcDef → Call → Option WrongCall
wrong_call procs c = unless_fits c (find (λ p. p.name == c.name) procs)

abbrev pub wrong_calls : Script → List WrongCall
wrong_calls s = filter_map (wrong_call s.procs) (all_calls s)

-- nodes of the normal form that lie under 200 others
abbrev pub nested : Script → List ℕ
nested s = flat_map (λ c. core_level c most_nested) (bodies s 0).0

-- a kind of fault is looked for where there is none of those before it
abbrev pub NamesDiffer : Script → Type 0
NamesDiffer s = duplicates s ≡ []

pub record TypesAreKnown (s : Script) : Type 0 where
  pub names : NamesDiffer s
  pub known : unknown_types s ≡ []

pub record TypesAreWithin (s : Script) : Type 0 where
  pub before : TypesAreKnown s
  pub within : big_types s ≡ []

pub record TypesAreGuarded (s : Script) : Type 0 where
  pub before : TypesAreWithin s
  pub guarded : (x : ℕ) → ¬ (ReachesItself (declarations s) x)

pub record CallsFit (s : Script) : Type 0 where
  pub before : TypesAreGuarded s
  pub fit : wrong_calls s ≡ []

pub record HasNoFault (s : Script) : Type 0 where
  pub before : CallsFit s
  pub nesting : nested s ≡ []

-- the first fault of each kind
abbrev pub IsDuplicate : Script → ℕ → Type 0
IsDuplicate s at = first (duplicates s) ≡ Some at

abbrev pub IsUnknownType : Script → ℕ → Type 0
IsUnknownType s at = NamesDiffer s × (first (unknown_types s) ≡ Some at)

abbrev pub IsBigType : Script → ℕ → Type 0
IsBigType s at = TypesAreKnown s × (first (big_types s) ≡ Some at)

abbrev pub IsUnguarded : Script → ℕ → Type 0
IsUnguarded s at =
    TypesAreWithin s × (x : ℕ) × IsFirst (ReachesItself (declarations s)) x
    × (option_map (λ d. d.at.from) (slice_get s.types x) ≡ Some at)

abbrev pub IsUnknownProc : Script → ℕ → Type 0
IsUnknownProc s at = TypesAreGuarded s × (first (wrong_calls s) ≡ Some (no_procedure at))

abbrev pub IsArity : Script → ℕ → Type 0
IsArity s at = TypesAreGuarded s × (first (wrong_calls s) ≡ Some (other_number at))

abbrev pub IsTooNested : Script → ℕ → Type 0
IsTooNested s at = CallsFit s × (first (nested s) ≡ Some at)
