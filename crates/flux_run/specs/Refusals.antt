-- What a run answers: that it is done, or why it is refused. Want of memory may come at any time.
use Rattle.std.specs.Prelude.{◌≡◌, ℕ, Result, Ok, Err}
use Rattle.flux_run.specs.declared.fault.RunFault.{RunFault}
use Rattle.flux_run.specs.declared.fault.RunFault.TheVariants.{TooDeep, Memory}

abbrev pub IsDone : Result (Unit {0}) RunFault → Type 0
IsDone (Ok u) = Unit {0}
IsDone (Err (TooDeep at)) = ⊥
IsDone (Err (Memory error)) = Unit {0}

-- too many calls inside one another, and the first one too many is there
abbrev pub IsRefusedAt : Result (Unit {0}) RunFault → ℕ → Type 0
IsRefusedAt (Ok u) place = ⊥
IsRefusedAt (Err (TooDeep at)) place = at ≡ place
IsRefusedAt (Err (Memory error)) place = Unit {0}
