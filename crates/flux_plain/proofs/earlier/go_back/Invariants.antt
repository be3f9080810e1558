use Rattle.std.proofs.Common.{◌≡◌, ◌≤◌, ◌++◌, List, length}
use Rattle.flux_trees.specs.Hedge.{Plain}
use Rattle.flux_plain.specs.Moves.{whole}
use Rattle.flux_plain.specs.PlainStates.{documents}
use Rattle.flux_plain.proofs.earlier.go_back.Given as goal

abbrev pub invariant-loop-earlier : goal.invariant-loop-earlier
invariant-loop-earlier l =
    (l.fn.changes ≤ length l.earlier.items) × ((more : List Plain) × (documents l.fn.earlier.items (whole l.fn.current) ≡ documents l.earlier.items (whole l.current) ++ more))

abbrev pub decreases-loop-earlier : goal.decreases-loop-earlier
decreases-loop-earlier l = length l.earlier.items
