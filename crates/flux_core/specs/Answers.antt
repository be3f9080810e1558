-- What typing answers, and what a conclusion does.
use Rattle.std.specs.Prelude.{◌≡◌, ℕ, Result, Ok, Err}
use Rattle.flux_trees.specs.Draft.{Draft}
use Rattle.flux_schema.specs.Ty.{Ty}
use Rattle.flux_types.specs.Read.{ty_of}
use Rattle.flux_calculus.specs.Typing.{Outcome, typed, concluded}
use Rattle.flux_core.specs.declared.fault.KindFault.{KindFault}
use Rattle.flux_core.specs.declared.measured.Measured.{Measured}
use Rattle.flux_core.specs.Faults.{ShowsNothing, IsFault}

-- the outcome is this type or this fault; S says which forests show a fault of an inclusion
abbrev pub IsAnswer : (Ty → Ty → Draft (Unit {0}) → Type 0) → (Outcome → Type 0)
    → Result Measured KindFault → Type 0
IsAnswer S Comes (Ok made) = Comes (typed (ty_of made.ty.value))
IsAnswer S Comes (Err fault) = IsFault S Comes fault

-- the type is concluded, or it is too large
abbrev pub IsConclusion : ℕ → Ty → Result Measured KindFault → Type 0
IsConclusion at t = IsAnswer ShowsNothing (λ o. concluded at t ≡ o)
