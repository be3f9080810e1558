-- Which nodes of a form lie under so many others.
use Rattle.std.specs.Prelude.{◌≡◌, ℕ, Bool, List, Option, Some, None, Result, Ok, Err, if◌then◌else◌}
use Rattle.flux_calculus.specs.Core.{Core, children}
use Rattle.flux_grammar.specs.declared.tree.Step.{Step}
use Rattle.flux_grammar.specs.Nesting.{core_level}
use Rattle.flux_grammar.specs.NormalFaults.{first}
use Rattle.flux_grammar.specs.NormalQueries.{Numbered, of_one}

-- the place that is told, if one is
abbrev pub told : Result (Unit {0}) ℕ → Option ℕ
told (Ok done) = None
told (Err place) = Some place

-- the first of two places, if there is one
abbrev pub either : Option ℕ → Option ℕ → Option ℕ
either None o = o
either (Some place) o = Some place

-- the first node of the form that lies under n others, whatever variables are made before it
abbrev pub Finds : {A : Type 0} → (A → ℕ → List ℕ) → Numbered A → ℕ → Option ℕ → Type 0
Finds nodes form n o = (k : ℕ) → first (nodes (form k).0 n) ≡ o

-- what stands round a statement has the first such node, or leaves so many levels to the statement
abbrev pub Leaves : (Numbered Core → Numbered Core) → ℕ → Result ℕ ℕ → Type 0
Leaves round n (Ok m) =
    (s : Numbered Core) (o : Option ℕ) → Finds core_level s m o → Finds core_level (round s) n o
Leaves round n (Err place) = (s : Numbered Core) → Finds core_level (round s) n (Some place)

abbrev pub levels_left : Result ℕ ℕ → ℕ
levels_left (Ok m) = m
levels_left (Err place) = 0

-- what is found in it and in the statement inside
abbrev pub found_round : Result ℕ ℕ → Option ℕ → Option ℕ
found_round (Ok m) o = o
found_round (Err place) o = Some place

-- what the slash behind a step stands round, if one does
abbrev pub behind_step : Step → Bool → Numbered Core → Numbered Core
behind_step p goes_on s = if goes_on then of_one (children p.span) s else s
