-- The machine that reads strings byte by byte, and the grammar of their items.
use Rattle.std.specs.Prelude.{◌≡◌, ◌↔◌, ℕ, List, ◌++◌, Some, IsSome}
use Rattle.flux_atom.specs.declared.text.TextState.TheVariants.{Between}
use Rattle.flux_atom.specs.Literal.{quote}
use Rattle.flux_atom.specs.Spelling.{AreItems}
use Rattle.flux_atom.specs.TextSteps.{closes, text_step, TextRead, no_text, read_text}

-- more bytes can make them items
abbrev pub BeginItems : List ℕ → Type 0
BeginItems bytes = (more : List ℕ) × (text : List ℕ) × AreItems (bytes ++ more) text

-- the machine and the grammar agree on which bytes are items, begin some, and stand before the
-- quote that closes a string
pub record TextReaderFollowsGrammar : Type 0 where
  -- bytes lead between two items, with a text, exactly where they are items that stand for the text
  pub items : (bytes text : List ℕ) →
      (read_text no_text bytes ≡ Some (Between, text)) ↔ AreItems bytes text
  -- bytes can be read at all exactly where more bytes can make them items
  pub begins : (bytes : List ℕ) → IsSome (read_text no_text bytes) ↔ BeginItems bytes
  -- behind them a byte closes the string exactly where it is the quote, and they are items
  pub closing : (bytes : List ℕ) (r : TextRead) (b : ℕ) → read_text no_text bytes ≡ Some r →
      (text_step r.0 b ≡ closes) ↔ ((b ≡ quote) × AreItems bytes r.1)
