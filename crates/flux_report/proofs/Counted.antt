-- Lines and columns, counted byte by byte.
use Rattle.std.proofs.Common.{◌≡◌, ◌+◌, ◌-◌, ◌≤◌, ◌<◌, ◌∙◌, refl, ap, sym, ℕ, true, false, List, length, take, arith}
use Rattle.std.specs.Prelude.{not}
use Rattle.std.proofs.Math.ListN.{get_or}
use Rattle.std.specs.List.{after_last, suffix_len}
use Rattle.std.proofs.lemmas.List.{length-drop, take_all}
use Rattle.std.proofs.lemmas.Bool.{ne_eqb}
use Rattle.std.proofs.lemmas.List.Sums.{count_by_more_yes, count_by_more_no, suffix_len-le-length, suffix_len-take_yes, suffix_len-take_no}
use Rattle.flux_report.specs.Positions.{is_newline, line_of_place, column_of_place}

-- how many bytes other than newlines end these bytes
abbrev open_bytes : List ℕ → ℕ
open_bytes bytes = suffix_len (λ b. not (is_newline b)) bytes

behind : (bytes : List ℕ) → length (after_last is_newline bytes) ≡ open_bytes bytes
behind bytes =
    length-drop (length bytes - open_bytes bytes) bytes ∙ omega (arith, suffix_len-le-length (λ b. not (is_newline b)) bytes)

last_of : (i : ℕ) → i + 1 - 1 ≡ i
last_of i = omega arith

-- what is counted in the first i of the bytes
pub record AreCounted (bytes : List ℕ) (i line column : ℕ) : Type 0 where
  pub lines : line ≡ line_of_place bytes i
  pub columns : column ≡ column_of_place bytes i
  pub line_bound : line ≤ i + 1
  pub column_bound : column ≤ i + 1

pub counted_none : (bytes : List ℕ) → AreCounted bytes 0 1 1
counted_none bytes = record { lines = refl; columns = refl; line_bound = omega arith; column_bound = omega arith }

pub counted_newline : (bytes : List ℕ) (i line column : ℕ) → i < length bytes → get_or bytes i 0 ≡ 10 → AreCounted bytes i line column → AreCounted bytes (i + 1) (line + 1) 1
counted_newline bytes i line column below is before =
    let none = suffix_len-take_no (λ b. not (is_newline b)) bytes (i + 1) 0 (omega arith) (omega (arith, below)) (ap (λ n. not (is_newline (get_or bytes n 0))) (last_of i) ∙ ap (λ b. not (is_newline b)) is) in
    record {
      lines = ap (λ n. n + 1) (before.lines ∙ sym (count_by_more_yes is_newline bytes i 0 below (ap is_newline is)));
      columns = ap (λ n. n + 1) (sym (behind (take (i + 1) bytes) ∙ none));
      line_bound = omega (arith, before.line_bound);
      column_bound = omega arith;
    }

pub counted_other : (bytes : List ℕ) (i line column : ℕ) → i < length bytes → ¬ (get_or bytes i 0 ≡ 10) → AreCounted bytes i line column → AreCounted bytes (i + 1) line (column + 1)
counted_other bytes i line column below isnt before =
    let other = ne_eqb (get_or bytes i 0) 10 isnt in
    let more = suffix_len-take_yes (λ b. not (is_newline b)) bytes (i + 1) 0 (omega arith) (omega (arith, below)) (ap (λ n. not (is_newline (get_or bytes n 0))) (last_of i) ∙ ap not other) ∙ ap (λ n. 1 + open_bytes (take n bytes)) (last_of i) in
    record {
      lines = before.lines ∙ ap (λ n. n + 1) (sym (count_by_more_no is_newline bytes i 0 below other));
      columns = omega (arith, before.columns, behind (take i bytes), behind (take (i + 1) bytes), more);
      line_bound = omega (arith, before.line_bound);
      column_bound = omega (arith, before.column_bound);
    }
