-- Where a place stands in a text: in which line, and in which column of it.
use Rattle.std.specs.Prelude.{ℕ, ◌+◌, Bool, ◌==◌, List, length, take}
use Rattle.std.specs.List.{count_by, after_last}

abbrev pub is_newline : ℕ → Bool
is_newline b = b == 10

-- one more than the newlines before the place
abbrev pub line_of_place : List ℕ → ℕ → ℕ
line_of_place bytes place = count_by is_newline (take place bytes) + 1

-- one more than the bytes between the last newline before the place, or the start, and the place
abbrev pub column_of_place : List ℕ → ℕ → ℕ
column_of_place bytes place = length (after_last is_newline (take place bytes)) + 1
