-- How much of a query and of a statement there is to write.
use Rattle.std.proofs.Common.{◌≡◌, ◌∙◌, ◌+◌, ◌<◌, ◌≤◌, ℕ, zero, suc, List, [], ◌∷◌, length, get_or, map, refl, sym, subst, ap, arith}
use Rattle.flux_calculus.specs.declared.ask.Span.{Span}
use Rattle.flux_calculus.specs.Query as query
use Rattle.flux_calculus.specs.Query.{Query, listed, element, literal, variable, alike, less, child, filter, each}
use Rattle.flux_calculus.specs.Core as core
use Rattle.flux_calculus.specs.Core.{Core, in_order, skip, snapshot, insert, delete, rename, test, children, left, right, iter, call}

abbrev pub weight : Query → ℕ
weight (query.nothing at) = 1
weight (query.both at q r) = weight q + weight r + 1
weight (element at n q) = weight q + 1
weight (literal at x) = 1
weight (variable at x) = 1
weight (query.binding at x q r) = weight q + weight r + 1
weight (query.choice at c q r) = weight c + weight q + weight r + 1
weight (alike at q r) = weight q + weight r + 1
weight (less at q r) = weight q + weight r + 1
weight (child at x) = 1
weight (filter at q t) = weight q + 1
weight (each at x q r) = weight q + weight r + 1

-- of a statement without its queries
abbrev pub load : Core → ℕ
load (skip at) = 1
load (core.nothing at) = 1
load (core.both at s r) = load s + load r + 1
load (core.choice at c s r) = load s + load r + 1
load (core.binding at x q s) = load s + 1
load (snapshot at x s) = load s + 1
load (insert at q) = 1
load (delete at) = 1
load (rename at n) = 1
load (test at t s) = load s + 1
load (children at s) = load s + 1
load (left at s) = load s + 1
load (right at s) = load s + 1
load (iter at s) = load s + 1
load (call at p qs) = 1

-- of all that the list stands for
module _ {X Y : Type 0} (w : Y → ℕ) (v : X → Y) where
  abbrev pub total : List X → ℕ
  total [] = 0
  total (x ∷ xs) = w (v x) + total xs

  pub at_most_total : (xs : List X) (i : ℕ) (x : X) → i < length xs → x ≡ get_or xs i x → w (v x) ≤ total xs
  at_most_total [] i x lt is = absurd (omega (arith, lt))
  at_most_total (y ∷ ys) zero x lt is = omega (arith, ap (λ z. w (v z)) is)
  at_most_total (y ∷ ys) (suc i) x lt is = omega (arith, at_most_total ys i x (omega (arith, lt)) is)

  pub first_amount : (xs : List X) (x : X) (rest : List X) → xs ≡ x ∷ rest → w (v x) ≤ total xs
  first_amount xs x rest e = omega (arith, ap total e)

  pub other_amount : (xs : List X) (x : X) (rest : List X) (i : ℕ) (y : X) → xs ≡ x ∷ rest → i < length rest → y ≡ get_or rest i y → w (v y) ≤ total xs
  other_amount xs x rest i y e lt is = omega (arith, ap total e, at_most_total rest i y lt is)

pub listed_weight : {X : Type 0} (v : X → Query) (at : Span) (xs : List X) → total weight v xs + 1 ≤ weight (listed at (map v xs))
listed_weight v at [] = omega arith
listed_weight v at (x ∷ xs) = omega (arith, listed_weight v at xs)

pub ordered_load : {X : Type 0} (v : X → Core) (at : Span) (xs : List X) → total load v xs + 1 ≤ load (in_order at (map v xs))
ordered_load v at [] = omega arith
ordered_load v at (x ∷ xs) = omega (arith, ordered_load v at xs)
