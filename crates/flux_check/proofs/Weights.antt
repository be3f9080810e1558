-- How much of a statement there is to type.
use Rattle.std.proofs.Common.{ℕ, ◌≡◌, ◌≤◌, ◌+◌, List, [], ◌∷◌, ap, map, arith}
use Rattle.flux_calculus.specs.declared.ask.Span.{Span}
use Rattle.flux_calculus.specs.Core as calculus
use Rattle.flux_calculus.specs.Core.{skip, nothing, both, choice, binding, snapshot, insert, delete, rename, test, children, left, right, iter, call, in_order}
use Rattle.flux_core.specs.declared.statement.Core.{Core}
use Rattle.flux_core.specs.Statements.{core_of}

abbrev pub weight : calculus.Core → ℕ
weight (skip at) = 1
weight (nothing at) = 1
weight (both at s r) = weight s + weight r + 1
weight (choice at c s r) = weight s + weight r + 1
weight (binding at x q s) = weight s + 1
weight (snapshot at x s) = weight s + 1
weight (insert at q) = 1
weight (delete at) = 1
weight (rename at n) = 1
weight (test at t s) = weight s + 1
weight (children at s) = weight s + 1
weight (left at s) = weight s + 1
weight (right at s) = weight s + 1
weight (iter at s) = weight s + 1
weight (call at p args) = 1

abbrev pub weights : List Core → ℕ
weights [] = 0
weights (s ∷ ss) = weight (core_of s) + weights ss

listed_weight : (at : Span) (ss : List Core) → weights ss + 1 ≤ weight (in_order at (map core_of ss))
listed_weight at [] = omega arith
listed_weight at (s ∷ ss) = omega (arith, listed_weight at ss)

pub weights_below : (s : calculus.Core) (at : Span) (items ss : List Core) → s ≡ in_order at (map core_of items) → ss ≡ items → weights ss + 1 ≤ weight s
weights_below s at items ss e f = omega (arith, ap weight e, ap weights f, listed_weight at items)

pub weight_pos : (s : calculus.Core) → 1 ≤ weight s
weight_pos (skip at) = omega arith
weight_pos (nothing at) = omega arith
weight_pos (both at s r) = omega arith
weight_pos (choice at c s r) = omega arith
weight_pos (binding at x q s) = omega arith
weight_pos (snapshot at x s) = omega arith
weight_pos (insert at q) = omega arith
weight_pos (delete at) = omega arith
weight_pos (rename at n) = omega arith
weight_pos (test at t s) = omega arith
weight_pos (children at s) = omega arith
weight_pos (left at s) = omega arith
weight_pos (right at s) = omega arith
weight_pos (iter at s) = omega arith
weight_pos (call at p args) = omega arith
