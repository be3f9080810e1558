-- A number byte by byte. `IsLiteral` is what it follows.
use Rattle.std.specs.Prelude.{ℕ, ◌+◌, ◌-◌, ◌*◌, ◌^◌, ◌&&◌, ◌==◌, nat_lt, ℤ, pos, negsuc, List, [], ◌∷◌, Option, Some, None, if◌then◌else◌}
use Rattle.std.specs.Char.{is_ascii_digit}
use Rattle.std.specs.Int.{is_in_range}
use Rattle.flux_atom.specs.declared.number.NumberState.{NumberState}
use Rattle.flux_atom.specs.declared.number.NumberState.TheVariants.{Minus, Digits}

-- `-`
abbrev pub minus : ℕ
minus = 45

-- the first byte: `-` or a digit
abbrev pub number_begin : ℕ → Option NumberState
number_begin b =
    if b == minus then Some Minus else
    if is_ascii_digit b then Some (Digits (pos (b - 48))) else None

-- one more digit behind a number: none behind 0, and none that leads out of the range from -2^63 to
-- 2^63 - 1
abbrev pub digit_behind : ℤ → ℕ → Option NumberState
digit_behind (pos n) d =
    if nat_lt 0 n && nat_lt (10 * n + d) (2 ^ 63) then Some (Digits (pos (10 * n + d))) else None
digit_behind (negsuc n) d =
    if nat_lt (10 * n + 9 + d) (2 ^ 63) then Some (Digits (negsuc (10 * n + 9 + d))) else None

-- a byte that a number goes on with: behind `-` a digit other than `0`, and else a digit
abbrev pub number_step : NumberState → ℕ → Option NumberState
number_step Minus b = if is_in_range 49 57 b then Some (Digits (negsuc (b - 49))) else None
number_step (Digits z) b = if is_ascii_digit b then digit_behind z (b - 48) else None

-- the bytes, behind those that led there; none where one of them fits nowhere
abbrev pub number_from : Option NumberState → List ℕ → Option NumberState
number_from s [] = s
number_from None (b ∷ bs) = None
number_from (Some s) (b ∷ bs) = number_from (number_step s b) bs

-- the bytes, of which there is one at least
abbrev pub read_number : List ℕ → Option NumberState
read_number [] = None
read_number (b ∷ bs) = number_from (number_begin b) bs
