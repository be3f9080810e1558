-- How deep the nodes of a core statement lie inside one another.
use Rattle.std.specs.Prelude.{ℕ, zero, suc, List, [], ◌∷◌, ◌++◌, flat_map}
use Rattle.flux_calculus.specs.Core as core
use Rattle.flux_calculus.specs.Core.{Core, skip, snapshot, insert, delete, rename, test, children, left, right, iter, call}
use Rattle.flux_calculus.specs.Query as query
use Rattle.flux_calculus.specs.Query.{Query, element, literal, variable, alike, less, child, filter, each}

-- the places of the nodes that lie under so many others, in preorder: of a node at a place, where
-- its parts have these
abbrev pub level : ℕ → (ℕ → List ℕ) → ℕ → List ℕ
level place parts zero = place ∷ []
level place parts (suc n) = parts n

-- of a query; those behind a query in a list are parts of the same list
abbrev pub query_level : Query → ℕ → List ℕ
query_level (query.nothing at) = level at.from (λ n. [])
query_level (query.both at q r) = level at.from (λ n. query_level q n ++ query_level r (suc n))
query_level (element at n q) = level at.from (query_level q)
query_level (literal at x) = level at.from (λ n. [])
query_level (variable at x) = level at.from (λ n. [])
query_level (query.binding at x q r) = level at.from (λ n. query_level q n ++ query_level r n)
query_level (query.choice at c q r) =
    level at.from (λ n. query_level c n ++ query_level q n ++ query_level r n)
query_level (alike at q r) = level at.from (λ n. query_level q n ++ query_level r n)
query_level (less at q r) = level at.from (λ n. query_level q n ++ query_level r n)
query_level (child at x) = level at.from (λ n. [])
query_level (filter at q t) = level at.from (query_level q)
query_level (each at x q r) = level at.from (λ n. query_level q n ++ query_level r n)

-- of a statement, the queries in it among its parts
abbrev pub core_level : Core → ℕ → List ℕ
core_level (skip at) = level at.from (λ n. [])
core_level (core.nothing at) = level at.from (λ n. [])
core_level (core.both at s t) = level at.from (λ n. core_level s n ++ core_level t (suc n))
core_level (core.choice at c s t) =
    level at.from (λ n. query_level c n ++ core_level s n ++ core_level t n)
core_level (core.binding at x q s) = level at.from (λ n. query_level q n ++ core_level s n)
core_level (snapshot at x s) = level at.from (core_level s)
core_level (insert at q) = level at.from (query_level q)
core_level (delete at) = level at.from (λ n. [])
core_level (rename at n) = level at.from (λ n. [])
core_level (test at t s) = level at.from (core_level s)
core_level (children at s) = level at.from (core_level s)
core_level (left at s) = level at.from (core_level s)
core_level (right at s) = level at.from (core_level s)
core_level (iter at s) = level at.from (core_level s)
core_level (call at p qs) = level at.from (λ n. flat_map (λ q. query_level q n) qs)

-- no node may lie under so many others
abbrev pub most_nested : ℕ
most_nested = 200
