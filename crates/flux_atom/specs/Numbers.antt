-- The machine that reads numbers byte by byte, and the grammar of their literals.
use Rattle.std.specs.Prelude.{◌≡◌, ◌↔◌, ℕ, ℤ, List, ◌∷◌, ◌++◌, Some, None, IsSome}
use Rattle.flux_atom.specs.declared.atom.Atom.TheVariants.{Int as Number}
use Rattle.flux_atom.specs.declared.number.NumberState.{NumberState}
use Rattle.flux_atom.specs.declared.number.NumberState.TheVariants.{Digits}
use Rattle.flux_atom.specs.NumberSteps.{number_step, read_number}
use Rattle.flux_atom.specs.Spelling.{EndsDigits, IsLiteral}

-- more bytes can make them the literal of a number
abbrev pub BeginNumber : List ℕ → Type 0
BeginNumber bytes = (more : List ℕ) × (z : ℤ) × IsLiteral (bytes ++ more) (Number z)

-- the machine and the grammar agree on which bytes are the literal of a number, begin one, and may
-- stand behind one
pub record NumberReaderFollowsGrammar : Type 0 where
  -- bytes lead to the digits of a number exactly where they are its literal
  pub numbers : (bytes : List ℕ) (z : ℤ) →
      (read_number bytes ≡ Some (Digits z)) ↔ IsLiteral bytes (Number z)
  -- bytes can be read at all exactly where more bytes can make them the literal of a number
  pub begins : (b : ℕ) (bytes : List ℕ) →
      IsSome (read_number (b ∷ bytes)) ↔ BeginNumber (b ∷ bytes)
  -- a byte that ends digits leads no number on
  pub ends : (s : NumberState) (b : ℕ) (behind : List ℕ) →
      EndsDigits (b ∷ behind) → number_step s b ≡ None
