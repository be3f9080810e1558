-- The procedures of a script as its calls see them.
use Rattle.std.specs.Prelude.{◌≡◌, ℕ, Bool, ◌==◌, List, Some, length, map, find}
use Rattle.flux_calculus.specs.Core.{Core, Proc, Procs}
use Rattle.flux_core.specs.WellFormed.{CallsFit}
use Rattle.flux_grammar.specs.NormalFaults.{Call}

-- a procedure's name, and how many parameters it has
abbrev pub Head : Type 0
Head = ℕ × ℕ

abbrev pub has_name : ℕ → Head → Bool
has_name n h = h.0 == n

abbrev pub names_in : List Head → List ℕ
names_in heads = map (λ h. h.0) heads

-- the call names a procedure, and has an argument for each of its parameters
abbrev pub Fits : List Head → Call → Type 0
Fits heads c = find (has_name c.name) heads ≡ Some (c.name, c.arguments)

abbrev pub head_of : Proc → Head
head_of p = (p.name, length p.params)

-- the calls in the statement fit to whatever procedures have these heads
abbrev pub AllFit : List Head → Core → Type 0
AllFit heads s = (procs : Procs) → map head_of procs ≡ heads → CallsFit procs s
