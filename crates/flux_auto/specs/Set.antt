-- Sets of states as the bits of words.
use Rattle.std.specs.Prelude.{◌≡◌, ℕ, zero, suc, ◌+◌, ◌*◌, ◌/◌, ◌%◌, ◌^◌, ◌<◌, ◌≤◌, ◌==◌, ◌&&◌, ◌||◌, List, [], ◌∷◌, ◌++◌, Bool, true, false, length, slice_index}
use Rattle.std.specs.Int.{bit_at}
use Rattle.flux_auto.specs.declared.block.Block.{Block}
use Rattle.flux_auto.specs.Takes.{has}

-- the bit of a state, 64 in a word
abbrev pub flag : List ℕ → ℕ → Bool
flag words s = bit_at (slice_index words (s / 64)) (s % 64) == 1

-- whether f holds of each number below a count, in order
abbrev pub told : (ℕ → Bool) → ℕ → List Bool
told f zero = []
told f (suc n) = told f n ++ f n ∷ []

-- the bits of the states below a count
abbrev pub flags : List ℕ → ℕ → List Bool
flags words n = told (flag words) n

-- the words are those that the states take, and no bit is set beyond the states
pub record IsPacked (words : List ℕ) (count : ℕ) : Type 0 where
  pub long : length words ≡ count / 64 + 1
  pub small : (k : ℕ) → slice_index words k < 2 ^ 64
  pub beyond : (s : ℕ) → count ≤ s → flag words s ≡ false

abbrev pub digit : Bool → ℕ
digit true = 1
digit false = 0

-- the word of n states from the state s on
unfoldable pub word : List Bool → ℕ → ℕ → ℕ
word p s zero = 0
word p s (suc n) = digit (has p s) + 2 * word p (suc s) n

-- so many words, from the state s on
abbrev pub words_from : List Bool → ℕ → ℕ → List ℕ
words_from p s zero = []
words_from p s (suc n) = word p s 64 ∷ words_from p (s + 64) n

-- the words of a set
abbrev pub words_of : List Bool → List ℕ
words_of p = words_from p 0 (length p / 64 + 1)

-- whether a block has a state: it is one of the block's 64, and its bit is set
abbrev pub in_block : Block → ℕ → Bool
in_block b s = (s / 64 == b.number) && (bit_at b.bits (s % 64) == 1)

-- a set, and the states of a block that are below its count
abbrev pub with_block : List Bool → Block → List Bool
with_block p b = told (λ s. has p s || in_block b s) (length p)
