-- What a script that deletes a path asks for, as a statement of the core language.
use Rattle.std.specs.Prelude.{ℕ, List, [], ◌∷◌}
use Rattle.flux_calculus.specs.declared.ask.Test.TheVariants.{Label}
use Rattle.flux_calculus.specs.declared.ask.Span.{Span}
use Rattle.flux_calculus.specs.Core.{Core, delete, test, children, iter}

-- how many calls deep a statement may go
abbrev pub standard : ℕ
standard = 1000

-- where the statements stand in a script: without calls this plays no part in what they do
abbrev pub unplaced : Span
unplaced = record { from = 0; to = 0 }

-- on each tree with this label
abbrev pub on_step : ℕ → Core → Core
on_step n s = iter unplaced (test unplaced (Label n) s)

-- on each element whose label is the last of the path, at each level inside one with the label
-- before it
abbrev pub on_path : List ℕ → Core → Core
on_path [] s = s
on_path (n ∷ []) s = on_step n s
on_path (n ∷ m ∷ path) s = on_step n (children unplaced (on_path (m ∷ path) s))

-- `DELETE` and the path
abbrev pub delete_on : List ℕ → Core
delete_on path = on_path path (delete unplaced)
