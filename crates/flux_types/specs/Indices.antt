-- The indices of names, by the numbers of the names.
use Rattle.std.specs.Prelude.{◌≡◌, ◌↔◌, ℕ, List, Option, Some, None, slice_get, slice_index_or}

-- the index at a number, if there is one
abbrev pub index_in : List (Option ℕ) → ℕ → Option ℕ
index_in indices n = slice_index_or indices n None

-- each name of a list has its index there at its number, and nothing else has one
abbrev pub Locates : List (Option ℕ) → List ℕ → Type 0
Locates indices names = (n x : ℕ) → (index_in indices n ≡ Some x) ↔ (slice_get names x ≡ Some n)
