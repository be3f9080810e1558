-- What typing answers where there is no type, and which types it can be asked of.
use Rattle.std.specs.Prelude.{◌≡◌, Some}
use Rattle.flux_trees.specs.Draft.{Draft}
use Rattle.flux_schema.specs.Ty.{Ty, IsWithinLimits}
use Rattle.flux_schema.specs.Definitions.{Definitions, IsKnown}
use Rattle.flux_calculus.specs.declared.ask.Var.{Var}
use Rattle.flux_calculus.specs.Query.{found}
use Rattle.flux_calculus.specs.Fault.{Fault, unknown_variable, not_single, not_element, too_large, not_bool, not_int, not_empty, bad_argument, bad_focus, bad_body, bad_output}
use Rattle.flux_calculus.specs.Typing.{Context, Outcome, faulty}
use Rattle.flux_core.specs.declared.fault.KindFault.{KindFault}
use Rattle.flux_core.specs.declared.fault.KindFault.TheVariants.{UnknownVar, NotSingle, NotElement, NotEmpty, NotBool, NotInt, BadArgument, BadFocus, BadBody, BadOutput, TypeTooLarge, Memory}

-- the outcome is this fault of an inclusion, and a forest shows that it is one: S says which show
-- that the first of two types isn't included in the second
abbrev pub IsShown : (Ty → Ty → Draft (Unit {0}) → Type 0) → (Outcome → Type 0)
    → (Ty → Ty → Fault) → Draft (Unit {0}) → Type 0
IsShown S Comes fault shown = (t : Ty) × (u : Ty) × Comes (faulty (fault t u)) × S t u shown

-- no forest shows anything
abbrev pub ShowsNothing : Ty → Ty → Draft (Unit {0}) → Type 0
ShowsNothing t u shown = ⊥

-- the outcome is this fault, with its place. Memory may be wanting whatever the outcome is
abbrev pub IsFault : (Ty → Ty → Draft (Unit {0}) → Type 0) → (Outcome → Type 0) → KindFault → Type 0
IsFault S Comes (UnknownVar place) = Comes (faulty (unknown_variable place))
IsFault S Comes (NotSingle place) = Comes (faulty (not_single place))
IsFault S Comes (NotElement place) = Comes (faulty (not_element place))
IsFault S Comes (NotEmpty place shown) = IsShown S Comes (not_empty place) shown
IsFault S Comes (NotBool place shown) = IsShown S Comes (not_bool place) shown
IsFault S Comes (NotInt place shown) = IsShown S Comes (not_int place) shown
IsFault S Comes (BadArgument place shown) = IsShown S Comes (bad_argument place) shown
IsFault S Comes (BadFocus place shown) = IsShown S Comes (bad_focus place) shown
IsFault S Comes (BadBody place shown) = IsShown S Comes (bad_body place) shown
IsFault S Comes (BadOutput place shown) = IsShown S Comes (bad_output place) shown
IsFault S Comes (TypeTooLarge place) = Comes (faulty (too_large place))
IsFault S Comes (Memory error) = Unit {0}

-- a type that is known under the definitions and within the limits
pub record IsUsable (defs : Definitions) (t : Ty) : Type 0 where
  pub known : IsKnown defs t
  pub limits : IsWithinLimits t

-- so is the type of each variable
abbrev pub AreUsable : Definitions → Context → Type 0
AreUsable defs Γ = (x : Var) (t : Ty) → found Γ x ≡ Some t → IsUsable defs t
