-- Calls of a script that don't fit its procedures.
use Rattle.std.specs.Prelude.{◌≡◌, ℕ, ◌==◌, List, Option, Some, None, Result, Ok, Err, flat_map, filter_map, find, if◌then◌else◌}
use Rattle.flux_grammar.specs.declared.tree.Stmt.{Stmt}
use Rattle.flux_grammar.specs.NormalFaults.{Call, calls, WrongCall, no_procedure, other_number}
use Rattle.flux_normal.specs.declared.calls.Misfit.{Misfit}
use Rattle.flux_normal.specs.declared.calls.Misfit.TheVariants.{NoProcedure, OtherNumber}
use Rattle.flux_normal.specs.Heads.{Head, has_name}

abbrev pub misfit : Call → Option Head → Option WrongCall
misfit c None = Some (no_procedure c.place)
misfit c (Some h) = if h.1 == c.arguments then None else Some (other_number c.place)

-- what is wrong with a call, where procedures have these heads; with those of statements
abbrev pub misfit_of : List Head → Call → Option WrongCall
misfit_of heads c = misfit c (find (has_name c.name) heads)

abbrev pub misfits : List Head → List Call → List WrongCall
misfits heads cs = filter_map (misfit_of heads) cs

abbrev pub misfits_in : List Head → List Stmt → List WrongCall
misfits_in heads ss = misfits heads (flat_map calls ss)

-- the misfit that is told, if one is
abbrev pub told_misfit : Result (Unit {0}) Misfit → Option WrongCall
told_misfit (Ok done) = None
told_misfit (Err (NoProcedure place)) = Some (no_procedure place)
told_misfit (Err (OtherNumber place)) = Some (other_number place)
