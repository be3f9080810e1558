-- The procedures that a script writes, and the names that stand twice among them.
use Rattle.std.specs.Prelude.{◌≡◌, ℕ, List, Some, length}
use Rattle.flux_grammar.specs.declared.tree.ParamDef.{ParamDef}
use Rattle.flux_grammar.specs.declared.tree.ProcDef.{ProcDef}
use Rattle.flux_grammar.specs.NormalFaults.{first, Mention}
use Rattle.flux_normal.specs.declared.fault.NormFault.{NormFault}
use Rattle.flux_normal.specs.declared.fault.NormFault.TheVariants.{Duplicate, UnknownType, BigType, Unguarded, UnknownProc, Arity, TooNested, Memory}
use Rattle.flux_normal.specs.Heads.{Head}

abbrev pub head_written : ProcDef → Head
head_written p = (p.name, length p.params)

abbrev pub mention_of_param : ParamDef → Mention
mention_of_param q = (q.var, q.at.from)

-- the first of these places is that of a name that stood before, or memory is wanting
abbrev pub IsRepeat : List ℕ → NormFault → Type 0
IsRepeat places (Duplicate place) = first places ≡ Some place
IsRepeat places (UnknownType place) = ⊥
IsRepeat places (BigType place) = ⊥
IsRepeat places (Unguarded place) = ⊥
IsRepeat places (UnknownProc place) = ⊥
IsRepeat places (Arity place) = ⊥
IsRepeat places (TooNested place) = ⊥
IsRepeat places (Memory error) = Unit {0}
