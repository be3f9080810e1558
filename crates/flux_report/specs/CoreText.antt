-- The text of a script in the core language, which isn't read back. Names are read through a table.
use Rattle.std.specs.Prelude.{ℕ, Bool, true, false, List, [], ◌∷◌, ◌++◌, map, flat_map, codes, unwrap_or, if◌then◌else◌}
use Rattle.std.specs.Option.{option_map}
use Rattle.std.specs.Fmt.{decimal}
use Rattle.flux_atom.specs.Literal as atoms
use Rattle.flux_atom.specs.Names.{name_text}
use Rattle.flux_schema.specs.Ty.{Ty}
use Rattle.flux_schema.specs.Definitions.{Definitions}
use Rattle.flux_schema.specs.Tidy.{tidy}
use Rattle.flux_schema.specs.TypeText.{text_of}
use Rattle.flux_calculus.specs.declared.ask.Test.{Test}
use Rattle.flux_calculus.specs.declared.ask.Test.TheVariants.{Label, AnyElement, OfText, OfBool, OfInt}
use Rattle.flux_calculus.specs.declared.ask.Var.{Var}
use Rattle.flux_calculus.specs.declared.ask.Var.TheVariants.{Named, Made}
use Rattle.flux_calculus.specs.Query as query
use Rattle.flux_calculus.specs.Query.{Query, element, literal, variable, alike, less, child, filter, each}
use Rattle.flux_calculus.specs.Core as core
use Rattle.flux_calculus.specs.Core.{Core, skip, snapshot, insert, delete, rename, test, children, left, right, iter, call, Proc, Procs, proc_of, Normal}

-- texts with a sign before each but the first
abbrev pub separated : List ℕ → List (List ℕ) → List ℕ
separated sign [] = []
separated sign (t ∷ ts) = t ++ flat_map (λ u. sign ++ u) ts

abbrev pub with_commas : List (List ℕ) → List ℕ
with_commas = separated (codes ",")

abbrev pub is_nothing : Query → Bool
is_nothing (query.nothing at) = true
is_nothing (query.both at q r) = false
is_nothing (element at n q) = false
is_nothing (literal at x) = false
is_nothing (variable at x) = false
is_nothing (query.binding at x q r) = false
is_nothing (query.choice at c q r) = false
is_nothing (alike at q r) = false
is_nothing (less at q r) = false
is_nothing (child at x) = false
is_nothing (filter at q t) = false
is_nothing (each at x q r) = false

-- the content of an element, between brackets: it is left out where it is no query
abbrev pub content_text : Query → List ℕ → List ℕ
content_text q text = codes "[" ++ (if is_nothing q then [] else text) ++ codes "]"

module _ (names : List (List ℕ)) where
  -- a variable that is made has its number
  abbrev pub var_text : Var → List ℕ
  var_text (Named x) = codes "$" ++ name_text names x
  var_text (Made i) = codes "$" ++ decimal i

  abbrev pub test_text : Test → List ℕ
  test_text (Label n) = name_text names n
  test_text AnyElement = codes "*"
  test_text OfText = codes "string()"
  test_text OfBool = codes "bool()"
  test_text OfInt = codes "int()"

  -- a query. Queries one behind the other are a list between parentheses, with commas: what is left
  -- of one, behind its first queries, goes on with a comma, or with the sign that ends it
  abbrev pub query_text : (behind_others : Bool) → Query → List ℕ
  query_text false (query.nothing at) = codes "()"
  query_text true (query.nothing at) = codes ")"
  query_text false (query.both at q r) = codes "(" ++ query_text false q ++ query_text true r
  query_text true (query.both at q r) = codes "," ++ query_text false q ++ query_text true r
  query_text behind_others (element at n q) =
      name_text names n ++ content_text q (query_text false q)
  query_text behind_others (literal at x) = atoms.literal x
  query_text behind_others (variable at x) = var_text x
  query_text behind_others (query.binding at x q r) =
      codes "(let " ++ var_text x ++ codes "=" ++ query_text false q ++ codes " in "
      ++ query_text false r ++ codes ")"
  query_text behind_others (query.choice at c q r) =
      codes "(if " ++ query_text false c ++ codes " then " ++ query_text false q ++ codes " else "
      ++ query_text false r ++ codes ")"
  query_text behind_others (alike at q r) =
      codes "(" ++ query_text false q ++ codes "=" ++ query_text false r ++ codes ")"
  query_text behind_others (less at q r) =
      codes "(" ++ query_text false q ++ codes "<" ++ query_text false r ++ codes ")"
  query_text behind_others (child at x) = var_text x ++ codes "/child"
  query_text behind_others (filter at q t) = query_text false q ++ codes "::" ++ test_text t
  query_text behind_others (each at x q r) =
      codes "(for " ++ var_text x ++ codes " in " ++ query_text false q ++ codes " return "
      ++ query_text false r ++ codes ")"

  abbrev pub procedure_name : Procs → ℕ → List ℕ
  procedure_name procs p = unwrap_or (option_map (λ q. name_text names q.name) (proc_of procs p)) []

  -- a statement. Statements one behind the other are a list between braces, with semicolons
  abbrev pub statement_text : Procs → (behind_others : Bool) → Core → List ℕ
  statement_text procs behind_others (skip at) = codes "skip"
  statement_text procs false (core.nothing at) = codes "{}"
  statement_text procs true (core.nothing at) = codes "}"
  statement_text procs false (core.both at s r) =
      codes "{" ++ statement_text procs false s ++ statement_text procs true r
  statement_text procs true (core.both at s r) =
      codes ";" ++ statement_text procs false s ++ statement_text procs true r
  statement_text procs behind_others (core.choice at c s r) =
      codes "if(" ++ query_text false c ++ codes ")then " ++ statement_text procs false s
      ++ codes " else " ++ statement_text procs false r
  statement_text procs behind_others (core.binding at x q s) =
      codes "let " ++ var_text x ++ codes "=" ++ query_text false q ++ codes " in "
      ++ statement_text procs false s
  statement_text procs behind_others (snapshot at x s) =
      codes "snapshot " ++ var_text x ++ codes " in " ++ statement_text procs false s
  statement_text procs behind_others (insert at q) =
      codes "insert(" ++ query_text false q ++ codes ")"
  statement_text procs behind_others (delete at) = codes "delete"
  statement_text procs behind_others (rename at n) = codes "rename " ++ name_text names n
  statement_text procs behind_others (test at t s) =
      test_text t ++ codes "?" ++ statement_text procs false s
  statement_text procs behind_others (children at s) =
      codes "children[" ++ statement_text procs false s ++ codes "]"
  statement_text procs behind_others (left at s) =
      codes "left[" ++ statement_text procs false s ++ codes "]"
  statement_text procs behind_others (right at s) =
      codes "right[" ++ statement_text procs false s ++ codes "]"
  statement_text procs behind_others (iter at s) =
      codes "iter[" ++ statement_text procs false s ++ codes "]"
  statement_text procs behind_others (call at p qs) =
      codes "call " ++ procedure_name procs p ++ codes "("
      ++ with_commas (map (query_text false) qs) ++ codes ")"

  abbrev pub type_text : Definitions → Ty → List ℕ
  type_text defs t = text_of names defs (tidy t)

  abbrev pub param_text : Definitions → Var × Ty → List ℕ
  param_text defs p = var_text p.0 ++ codes ":" ++ type_text defs p.1

  -- a line for each procedure
  abbrev pub procedure_text : Definitions → Procs → Proc → List ℕ
  procedure_text defs procs p =
      codes "procedure " ++ name_text names p.name ++ codes "("
      ++ with_commas (map (param_text defs) p.params) ++ codes "):" ++ type_text defs p.focus
      ++ codes "=>" ++ type_text defs p.result ++ codes "{"
      ++ statement_text procs false p.body ++ codes "}\n"

  -- the procedures in their order, and the main statement
  abbrev pub core_text : Normal → List ℕ
  core_text n =
      flat_map (procedure_text n.defs n.procs) n.procs
      ++ statement_text n.procs false n.main ++ codes "\n"
