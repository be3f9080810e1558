use Rattle.std.proofs.Common.{◌≡◌, ◌++◌, map}
use Rattle.flux_schema.specs.Definitions.{as_declared}
use Rattle.flux_types.specs.Kept.{declarations_of, definitions_of}
use Rattle.flux_types.proofs.draft.with_bodies.Given as goal

-- what is made and what is left give the whole
abbrev pub invariant-loop-entry : goal.invariant-loop-entry
invariant-loop-entry l = map as_declared (definitions_of l.kept.items) ++ declarations_of l.entry-iterator.rest.items ≡ declarations_of l.fn.entries.items
