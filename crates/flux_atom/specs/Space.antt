-- White space.
use Rattle.std.specs.Prelude.{ℕ, Bool, ◌||◌, ◌==◌, List}
use Rattle.std.specs.List.{AllPass}

-- space, tab, carriage return, newline
abbrev pub is_space : ℕ → Bool
is_space b = b == 32 || (b == 9 || (b == 13 || b == 10))

abbrev pub IsSpace : List ℕ → Type 0
IsSpace bytes = AllPass is_space bytes
