-- What an automaton shows of its parts.
use Rattle.std.specs.Prelude.{◌≡◌, ℕ, Bool, List, Some, map, slice_get}
use Rattle.flux_schema.specs.Definitions.{Definitions}
use Rattle.flux_schema.specs.Labels.{IsGiven}
use Rattle.flux_types.specs.Read.{ty_of}
use Rattle.flux_auto.specs.declared.table.Table.{Table}
use Rattle.flux_auto.specs.declared.auto.Added.{Added}
use Rattle.flux_auto.specs.Automaton.{Automaton}
use Rattle.flux_auto.specs.Standing.{IsContent, IsTableLabel}
use Rattle.flux_auto.specs.Built.{states_of, IsComplete}

abbrev pub shown : Definitions → ℕ → Table → List Added → Automaton
shown defs other table added = record {
  definitions = defs;
  other = other;
  types = map (λ d. ty_of d.ty) added;
  starts = map (λ d. d.state) added;
  states = states_of table;
}

-- the table is complete, each type that was added has its state, and each label stands in a body or
-- in one of these types
pub record IsRight (defs : Definitions) (nullable : List Bool) (table : Table)
    (added : List Added) : Type 0 where
  pub complete : IsComplete defs nullable table
  pub contents : (i : ℕ) (d : Added) → slice_get added i ≡ Some d
      → IsContent table.cells.items d.state (ty_of d.ty)
  pub labels : (n : ℕ) → IsTableLabel defs table.cells.items n
      → IsGiven defs (map (λ d. ty_of d.ty) added) n
