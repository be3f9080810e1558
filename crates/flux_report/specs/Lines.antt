-- The lines that tell why a script is refused.
use Rattle.std.specs.Prelude.{◌≤◌, ℕ, List, [], ◌∷◌, ◌++◌, length, codes}
use Rattle.std.specs.Fmt.{decimal}
use Rattle.flux_lex.specs.declared.read.LexFault.TheVariants.{Bad, Memory as NoRoom}
use Rattle.flux_normal.specs.declared.fault.NormFault.{NormFault}
use Rattle.flux_normal.specs.declared.fault.NormFault.TheVariants.{Duplicate, UnknownType, BigType, Unguarded, UnknownProc, Arity, TooNested, Memory as NoSpace}
use Rattle.flux_syntax.specs.declared.trees.SynFault.TheVariants.{Syntax, Memory}
use Rattle.flux_report.specs.declared.line.ScriptFault.{ScriptFault}
use Rattle.flux_report.specs.declared.line.ScriptFault.TheVariants.{TooLong, Lex, Syn, Norm}
use Rattle.flux_report.specs.Positions.{line_of_place, column_of_place}

-- the script, a line and a column, a text
abbrev pub placed_line : List ℕ → ℕ → List ℕ → List ℕ
placed_line bytes place text =
    codes "script:" ++ (decimal (line_of_place bytes place)
    ++ (codes ":" ++ (decimal (column_of_place bytes place)
    ++ (codes ": " ++ (text ++ 10 ∷ [])))))

-- the line of a fault of names, types, calls and nesting, with the newline that ends it; want of
-- memory has none
abbrev pub norm_text : List ℕ → NormFault → List ℕ
norm_text bytes (Duplicate place) = placed_line bytes place (codes "Duplicate")
norm_text bytes (UnknownType place) = placed_line bytes place (codes "UnknownType")
norm_text bytes (BigType place) = placed_line bytes place (codes "BigType")
norm_text bytes (Unguarded place) = placed_line bytes place (codes "Unguarded")
norm_text bytes (UnknownProc place) = placed_line bytes place (codes "UnknownProc")
norm_text bytes (Arity place) = placed_line bytes place (codes "Arity")
norm_text bytes (TooNested place) = placed_line bytes place (codes "TooNested")
norm_text bytes (NoSpace error) = []

-- it isn't want of memory
abbrev pub HasLine : NormFault → Type 0
HasLine (Duplicate place) = Unit {0}
HasLine (UnknownType place) = Unit {0}
HasLine (BigType place) = Unit {0}
HasLine (Unguarded place) = Unit {0}
HasLine (UnknownProc place) = Unit {0}
HasLine (Arity place) = Unit {0}
HasLine (TooNested place) = Unit {0}
HasLine (NoSpace error) = ⊥

-- the line of a fault in the script of these bytes
abbrev pub script_text : List ℕ → ScriptFault → List ℕ
script_text bytes TooLong = codes "script: longer than 1048576 bytes" ++ 10 ∷ []
script_text bytes (Lex (Bad place)) = placed_line bytes place (codes "Bad")
script_text bytes (Lex (NoRoom error)) = []
script_text bytes (Syn (Syntax place)) = placed_line bytes place (codes "Syntax")
script_text bytes (Syn (Memory error)) = []
script_text bytes (Norm fault) = norm_text bytes fault

-- it isn't want of memory, and the place where tokens or a reading fail lies in these bytes
abbrev pub IsShown : List ℕ → ScriptFault → Type 0
IsShown bytes TooLong = Unit {0}
IsShown bytes (Lex (Bad place)) = place ≤ length bytes
IsShown bytes (Lex (NoRoom error)) = ⊥
IsShown bytes (Syn (Syntax place)) = place ≤ length bytes
IsShown bytes (Syn (Memory error)) = ⊥
IsShown bytes (Norm fault) = HasLine fault
