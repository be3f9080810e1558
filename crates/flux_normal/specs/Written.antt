-- What is asked of one written type.
use Rattle.std.specs.Prelude.{◌≡◌, ℕ, ◌+◌, ◌-◌, ◌^◌, min, max, Bool, not, List, [], Option, Some, None, map, filter_map}
use Rattle.flux_schema.specs.Ty.{Ty, empty, seq, alt, star, size, height, NamesBelow}
use Rattle.flux_calculus.specs.Typing.{is_within}
use Rattle.flux_grammar.specs.declared.tree.TypeText.{TypeText}
use Rattle.flux_grammar.specs.NormalFaults.{mentions, unknown, joined}
use Rattle.flux_grammar.specs.TypeOf.{type_in}
use Rattle.flux_normal.specs.declared.written.Extent.{Extent}
use Rattle.flux_normal.specs.declared.written.Join.{Join}
use Rattle.flux_normal.specs.declared.written.Join.TheVariants.{Comma, Bar}

-- where the names stand in a type, in several, in what may be between brackets, that are none of
-- these names
abbrev pub unknowns : List ℕ → TypeText → List ℕ
unknowns names t = filter_map (unknown names) (mentions t)

abbrev pub unknowns_among : List ℕ → List TypeText → List ℕ
unknowns_among names ts = filter_map (unknown names) (joined (map mentions ts))

abbrev pub unknowns_inside : List ℕ → Option TypeText → List ℕ
unknowns_inside names None = []
unknowns_inside names (Some t) = unknowns names t

-- what may be between brackets is empty where it is left out
abbrev pub type_inside : List ℕ → Option TypeText → Option Ty
type_inside names None = Some empty
type_inside names (Some t) = type_in names t

-- how the parts of a list are joined
abbrev pub join_of : Join → Ty → Ty → Ty
join_of Comma = seq
join_of Bar = alt

-- the nodes and the levels of a type, as far as 64 bits count them
abbrev pub extent_of : Ty → Extent
extent_of t = record { nodes = min (size t) (2 ^ 64 - 1); levels = min (height t) (2 ^ 64 - 1) }

-- with one more node above, and of two types with one more node above them
abbrev pub above : Extent → Extent
above e = record { nodes = min (e.nodes + 1) (2 ^ 64 - 1); levels = min (e.levels + 1) (2 ^ 64 - 1) }

abbrev pub above_both : Extent → Extent → Extent
above_both e f = record {
  nodes = min (min (e.nodes + f.nodes) (2 ^ 64 - 1) + 1) (2 ^ 64 - 1);
  levels = min (max e.levels f.levels + 1) (2 ^ 64 - 1);
}

-- the node above two types counts the same in a list and in a choice
abbrev pub IsJoin : (Ty → Ty → Ty) → Type 0
IsJoin join = (t u : Ty) → extent_of (join t u) ≡ above_both (extent_of t) (extent_of u)

-- what is measured where there is this type, or none since there are these unknown names: without
-- one, nothing is measured where there is no type
abbrev pub Measures : Option Extent → Option Ty → List ℕ → Type 0
Measures r (Some t) us = r ≡ Some (extent_of t)
Measures None None us = Unit {0}
Measures (Some e) None us = ¬ (us ≡ [])

-- whether a type is over the limits, where there is one. Without an unknown name, none that isn't
-- there is
abbrev pub TellsBig : Bool → Option Ty → List ℕ → Type 0
TellsBig r (Some t) us = r ≡ not (is_within t)
TellsBig r None us = us ≡ [] → r ≡ Bool.false

-- this is the type, and each index that it names is below n
pub record IsTypeOf (n : ℕ) (o : Option Ty) (t : Ty) : Type 0 where
  pub same : o ≡ Some t
  pub below : NamesBelow n t
