-- What a reader of strings that takes a byte says of the step of tokens.
use Rattle.std.proofs.Common.{◌≡◌, ℕ, ◌++◌, Some, sym, ap}
use Rattle.flux_atom.specs.TextSteps.{TextStep, on, closes, misfits, text_step, TextRead, read_on}
use Rattle.flux_grammar.specs.TokenSteps.{string, goes_on, string_move}

pub text_on : (r s : TextRead) (b : ℕ) → read_on (text_step r.0 b) r.1 ≡ Some s → goes_on (string s) ≡ string_move r (text_step r.0 b)
text_on r s b e = by (text_step r.0 b) e
  where
    by : (x : TextStep) → read_on x r.1 ≡ Some s → goes_on (string s) ≡ string_move r x
    by (on next added) e = let same : ◌≡◌ {A = TextRead} (next, r.1 ++ added) s = cc in ap (λ t. goes_on (string t)) (sym same)
    by closes e = absurd cc
    by misfits e = absurd cc
