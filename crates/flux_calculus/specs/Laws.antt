-- Laws of the judgement of updates.
use Rattle.std.specs.Prelude.{◌≡◌, ◌↔◌, ◌≤◌, ℕ, ◌+◌, List, ◌++◌}
use Rattle.flux_trees.specs.Hedge.{Hedge, Plain, erase}
use Rattle.flux_trees.specs.Frame.{Frame}
use Rattle.flux_trees.specs.Edits.{Edit, inserted}
use Rattle.flux_calculus.specs.Query.{Environment}
use Rattle.flux_calculus.specs.Core.{Core, Procs}
use Rattle.flux_calculus.specs.Derives.{Derives, Exceeds}
use Rattle.flux_calculus.specs.Ending.{Gives, TooDeep, ending}
use Rattle.flux_calculus.specs.Notation.{Later, Numbering, numbering}
use Rattle.flux_calculus.specs.Noted.{DerivesNoted, DerivesNumbered}
use Rattle.flux_calculus.specs.NotedEnding.{GivesNoted, noted_ending}

-- the rules derive what the function gives, and nothing else
abbrev pub DerivationIsComputed : Type 0
DerivationIsComputed =
    (procs : Procs) (d : ℕ) (γ : Environment) (v : Plain) (s : Core) (w : Plain) →
    Derives procs d γ v s w ↔ (ending procs d γ s v ≡ Gives w)

-- they exceed the depth where the function says so, and nowhere else
abbrev pub ExcessIsComputed : Type 0
ExcessIsComputed =
    (procs : Procs) (d : ℕ) (γ : Environment) (v : Plain) (s : Core) (place : ℕ) →
    Exceeds procs d γ v s place ↔ (ending procs d γ s v ≡ TooDeep place)

-- at most one forest is derived
abbrev pub DerivationIsUnique : Type 0
DerivationIsUnique =
    (procs : Procs) (d : ℕ) (γ : Environment) (v : Plain) (s : Core) (w x : Plain) →
    Derives procs d γ v s w → Derives procs d γ v s x → w ≡ x

-- the depth is exceeded at one place at most
abbrev pub ExcessIsUnique : Type 0
ExcessIsUnique =
    (procs : Procs) (d : ℕ) (γ : Environment) (v : Plain) (s : Core) (at place : ℕ) →
    Exceeds procs d γ v s at → Exceeds procs d γ v s place → at ≡ place

-- not both
abbrev pub DerivedIsNoExcess : Type 0
DerivedIsNoExcess =
    (procs : Procs) (d : ℕ) (γ : Environment) (v : Plain) (s : Core) (w : Plain) (place : ℕ) →
    Derives procs d γ v s w → ¬ (Exceeds procs d γ v s place)

-- a derivation is one with more calls to go
abbrev pub DerivationGoesDeeper : Type 0
DerivationGoesDeeper =
    (procs : Procs) (d e : ℕ) (γ : Environment) (v : Plain) (s : Core) (w : Plain) →
    d ≤ e → Derives procs d γ v s w → Derives procs e γ v s w

-- the numbered rules derive what the function gives, and nothing else
abbrev pub NumberedDerivationIsComputed : Type 0
NumberedDerivationIsComputed =
    (procs : Procs) (d : ℕ) (γ : Environment) (fs : List (Frame ℕ)) (v : Hedge ℕ) (m : Numbering) →
    (s : Core) (w : Hedge ℕ) (n : Numbering) →
    DerivesNoted numbering procs d γ fs v m s w n
    ↔ (noted_ending numbering procs d γ s fs v m ≡ GivesNoted w n)

-- at most one numbered forest is derived, with one numbering
abbrev pub NumberedDerivationIsUnique : Type 0
NumberedDerivationIsUnique =
    (procs : Procs) (d : ℕ) (γ : Environment) (fs : List (Frame ℕ)) (v : Hedge ℕ) (m : Numbering) →
    (s : Core) (w x : Hedge ℕ) (n o : Numbering) →
    DerivesNoted numbering procs d γ fs v m s w n →
    DerivesNoted numbering procs d γ fs v m s x o → (w ≡ x) × (n ≡ o)

-- without the numbers it is the derivation over plain forests; and each of these is one with
-- numbers, under any frames and whatever numbers are to come
abbrev pub NumbersAreErased : Type 0
NumbersAreErased =
    (procs : Procs) (d : ℕ) (γ : Environment) (fs : List (Frame ℕ)) (v : Hedge ℕ) (m : Numbering) →
    (s : Core) (w : Hedge ℕ) (n : Numbering) →
    DerivesNoted numbering procs d γ fs v m s w n → Derives procs d γ (erase v) s (erase w)

abbrev pub NumbersAreFound : Type 0
NumbersAreFound =
    (procs : Procs) (d : ℕ) (γ : Environment) (fs : List (Frame ℕ)) (v : Hedge ℕ) (m : Numbering) →
    (s : Core) (x : Plain) → Derives procs d γ (erase v) s x →
    (w : Hedge ℕ) × (n : Numbering) × DerivesNoted numbering procs d γ fs v m s w n
    × (erase w ≡ x)

-- the edits of a statement follow those before, and don't depend on them
abbrev pub EditsFollow : Type 0
EditsFollow =
    (procs : Procs) (d : ℕ) (γ : Environment) (fs : List (Frame ℕ)) (v : Hedge ℕ) (m : Numbering) →
    (s : Core) (w : Hedge ℕ) (n : Numbering) → DerivesNoted numbering procs d γ fs v m s w n →
    (h : List Edit) × DerivesNumbered procs d γ fs m.supply v s w n.supply h
    × (n.edits ≡ m.edits ++ h) × (n.first_supply ≡ m.first_supply)

-- a later numbering has more edits, and as many numbers fewer to come as they put nodes in; the
-- numbers that were to come before all edits stay
pub record Grown (m n : Numbering) : Type 0 where
  pub more : List Edit
  pub edits : n.edits ≡ m.edits ++ more
  pub first : n.first_supply ≡ m.first_supply
  pub numbers : (i : ℕ) → n.supply i ≡ m.supply (inserted more + i)

abbrev pub EditsGrow : Type 0
EditsGrow = (m n : Numbering) → Later numbering m n → Grown m n
