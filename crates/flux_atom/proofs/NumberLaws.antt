-- The machine of numbers and the grammar of their literals agree.
use Rattle.std.proofs.Common.{◌≡◌, ℕ, suc, ◌+◌, ◌-◌, ◌*◌, ◌/◌, ◌%◌, ◌^◌, ◌<◌, ◌≤◌, Bool, true, false, List, [], ◌∷◌, ◌++◌, Option, Some, None, IsSome, refl, sym, ap, ap₂, subst, ◌∙◌, arith, append_assoc, append-nil}
use Rattle.std.specs.Prelude.{ℤ, pos, negsuc, nat_lt, ◌==◌, ◌&&◌, if◌then◌else◌}
use Rattle.std.proofs.lemmas.Bool.{false≢true}
use Rattle.std.proofs.lemmas.Bool.Decides.{nat_tests}
use Rattle.std.proofs.lemmas.Fmt.{decimal_by_steps, decimal_digit, decimal_step}
use Rattle.std.specs.Char.{is_ascii_digit}
use Rattle.std.specs.Fmt.{decimal, signed_decimal}
use Rattle.std.specs.Int.{w64, is_in_range}
use Rattle.std.specs.Int.RustNames.{FitsSigned}
use Rattle.flux_atom.specs.declared.atom.Atom.TheVariants.{Int as Number}
use Rattle.flux_atom.specs.declared.number.NumberState.{NumberState}
use Rattle.flux_atom.specs.declared.number.NumberState.TheVariants.{Minus, Digits}
use Rattle.flux_atom.specs.Numbers.{BeginNumber, NumberReaderFollowsGrammar}
use Rattle.flux_atom.specs.NumberSteps.{digit_behind, minus, number_begin, number_from, number_step, read_number}
use Rattle.flux_atom.specs.Spelling.{IsLiteral}

-- one part after another
pub number_from-append : (x : Option NumberState) (p q : List ℕ) → number_from x (p ++ q) ≡ number_from (number_from x p) q
number_from-append x [] q = refl
number_from-append None (b ∷ p) q = none q
  where
    none : (q : List ℕ) → None ≡ number_from None q
    none [] = refl
    none (c ∷ q) = refl
number_from-append (Some s) (b ∷ p) q = number_from-append (number_step s b) p q

read_number-append : (b : ℕ) (p q : List ℕ) (x : Option NumberState) → read_number (b ∷ p) ≡ x → read_number (b ∷ (p ++ q)) ≡ number_from x q
read_number-append b p q x e = number_from-append (number_begin b) p q ∙ ap (λ y. number_from y q) e

-- what a digit behind a number makes
pos_fits : (n d : ℕ) → 0 < n → 10 * n + d < 2 ^ 63 → digit_behind (pos n) d ≡ Some (Digits (pos (10 * n + d)))
pos_fits n d some fits = grind (arith, nat_tests)

negsuc_fits : (n d : ℕ) → 10 * n + 9 + d < 2 ^ 63 → digit_behind (negsuc n) d ≡ Some (Digits (negsuc (10 * n + 9 + d)))
negsuc_fits n d fits = grind (arith, nat_tests)

is_digit : (d : ℕ) → d < 10 → is_ascii_digit (48 + d) ≡ true
is_digit d small = grind (arith, nat_tests)

pub digit_from : (b : ℕ) → is_ascii_digit b ≡ true → (48 ≤ b) × (b ≤ 57)
digit_from b is = (grind (arith, nat_tests), grind (arith, nat_tests))

step_digit : (z : ℤ) (d : ℕ) → d < 10 → number_step (Digits z) (48 + d) ≡ digit_behind z d
step_digit z d small =
    let same : 48 + d - 48 ≡ d = omega arith in
    ap₂ (λ t n. if t then digit_behind z n else None) (is_digit d small) same

begin_digit : (d : ℕ) → d < 10 → number_begin (48 + d) ≡ Some (Digits (pos d))
begin_digit d small =
    let other : (48 + d == minus) ≡ false = grind (arith, nat_tests) in
    let same : 48 + d - 48 ≡ d = omega arith in
    ap (λ t. if t then Some Minus else (if is_ascii_digit (48 + d) then Some (Digits (pos (48 + d - 48))) else None)) other
    ∙ ap₂ (λ t n. if t then Some (Digits (pos n)) else None) (is_digit d small) same

first_digit : (d : ℕ) → 0 < d → d < 10 → number_step Minus (48 + d) ≡ Some (Digits (negsuc (d - 1)))
first_digit d some small =
    let digit : is_in_range 49 57 (48 + d) ≡ true = grind (arith, nat_tests) in
    let same : 48 + d - 49 ≡ d - 1 = omega arith in
    ap₂ (λ t n. if t then Some (Digits (negsuc n)) else None) digit same

-- one more byte
pub read_push : (bytes : List ℕ) (b : ℕ) (s : NumberState) → read_number bytes ≡ Some s → read_number (bytes ++ b ∷ []) ≡ number_step s b
read_push [] b s e = absurd cc
read_push (c ∷ bytes) b s e = read_number-append c bytes (b ∷ []) (Some s) e

-- the literal of each number in range is read
pos_read : (n : ℕ) → n < 2 ^ 63 → read_number (decimal n) ≡ Some (Digits (pos n))
pos_read n fits = decimal_by_steps (λ m ds. m < 2 ^ 63 → read_number ds ≡ Some (Digits (pos m))) one more n (omega arith) fits
  where
    one : (m : ℕ) → m < 10 → m < 2 ^ 63 → read_number ((48 + m) ∷ []) ≡ Some (Digits (pos m))
    one m small fits = begin_digit m small

    more : (m : ℕ) (ds : List ℕ) → 10 ≤ m → (m / 10 < 2 ^ 63 → read_number ds ≡ Some (Digits (pos (m / 10)))) → m < 2 ^ 63 → read_number (ds ++ ((48 + m % 10) ∷ [])) ≡ Some (Digits (pos m))
    more m ds large before fits =
        let whole : 10 * (m / 10) + m % 10 ≡ m = omega arith in
        read_push ds (48 + m % 10) (Digits (pos (m / 10))) (before (omega arith))
        ∙ step_digit (pos (m / 10)) (m % 10) (omega arith)
        ∙ pos_fits (m / 10) (m % 10) (omega arith) (omega arith)
        ∙ ap (λ k. Some (Digits (pos k))) whole

negsuc_read : (n : ℕ) → n < 2 ^ 63 → read_number (minus ∷ decimal (suc n)) ≡ Some (Digits (negsuc n))
negsuc_read n fits = decimal_by_steps (λ m ds. 0 < m → m ≤ 2 ^ 63 → read_number (minus ∷ ds) ≡ Some (Digits (negsuc (m - 1)))) one more (suc n) (omega arith) (omega arith) (omega arith) ∙ ap (λ k. Some (Digits (negsuc k))) (omega arith)
  where
    one : (m : ℕ) → m < 10 → 0 < m → m ≤ 2 ^ 63 → read_number (minus ∷ (48 + m) ∷ []) ≡ Some (Digits (negsuc (m - 1)))
    one m small some fits = first_digit m some small

    more : (m : ℕ) (ds : List ℕ) → 10 ≤ m → (0 < m / 10 → m / 10 ≤ 2 ^ 63 → read_number (minus ∷ ds) ≡ Some (Digits (negsuc (m / 10 - 1)))) → 0 < m → m ≤ 2 ^ 63 → read_number (minus ∷ (ds ++ ((48 + m % 10) ∷ []))) ≡ Some (Digits (negsuc (m - 1)))
    more m ds large before some fits =
        let whole : 10 * (m / 10 - 1) + 9 + m % 10 ≡ m - 1 = omega arith in
        read_push (minus ∷ ds) (48 + m % 10) (Digits (negsuc (m / 10 - 1))) (before (omega arith) (omega arith))
        ∙ step_digit (negsuc (m / 10 - 1)) (m % 10) (omega arith)
        ∙ negsuc_fits (m / 10 - 1) (m % 10) (omega arith)
        ∙ ap (λ k. Some (Digits (negsuc k))) whole

pub literal_read : (z : ℤ) → FitsSigned w64 z → read_number (signed_decimal z) ≡ Some (Digits z)
literal_read (pos n) fits = pos_read n (omega arith)
literal_read (negsuc n) fits = negsuc_read n (omega arith)

-- what a state says of the bytes that lead to it
abbrev pub Says : List ℕ → NumberState → Type 0
Says bytes Minus = bytes ≡ minus ∷ []
Says bytes (Digits z) = IsLiteral bytes (Number z)

abbrev pub SaysAny : List ℕ → Option NumberState → Type 0
SaysAny bytes None = Unit {0}
SaysAny bytes (Some s) = Says bytes s

pos_says : (bytes : List ℕ) (n d : ℕ) → d < 10 → IsLiteral bytes (Number (pos n)) → SaysAny (bytes ++ (48 + d) ∷ []) (digit_behind (pos n) d)
pos_says bytes n d small (fits, is) = by (nat_lt 0 n) refl (nat_lt (10 * n + d) (2 ^ 63)) refl
  where
    by : (t : Bool) → nat_lt 0 n ≡ t → (u : Bool) → nat_lt (10 * n + d) (2 ^ 63) ≡ u → SaysAny (bytes ++ (48 + d) ∷ []) (digit_behind (pos n) d)
    by false e u f = subst (λ v. SaysAny (bytes ++ (48 + d) ∷ []) (if v && nat_lt (10 * n + d) (2 ^ 63) then Some (Digits (pos (10 * n + d))) else None)) (sym e) tt
    by true e false f = subst (λ v. SaysAny (bytes ++ (48 + d) ∷ []) (if v then Some (Digits (pos (10 * n + d))) else None)) (sym (ap₂ (λ x y. x && y) e f)) tt
    by true e true f =
        let some : 0 < n = grind (arith, nat_tests) in
        let below : 10 * n + d < 2 ^ 63 = grind (arith, nat_tests) in
        let front : (10 * n + d) / 10 ≡ n = omega arith in
        let last : 48 + (10 * n + d) % 10 ≡ 48 + d = omega arith in
        let spelled : decimal (10 * n + d) ≡ decimal n ++ (48 + d) ∷ [] = decimal_step (10 * n + d) (omega arith) (omega arith) ∙ ap₂ (λ k b. decimal k ++ b ∷ []) front last in
        subst (λ v. SaysAny (bytes ++ (48 + d) ∷ []) (if v then Some (Digits (pos (10 * n + d))) else None)) (sym (ap₂ (λ x y. x && y) e f)) (record { sfits = omega arith }, ap (λ l. l ++ (48 + d) ∷ []) is ∙ sym spelled)

negsuc_says : (bytes : List ℕ) (n d : ℕ) → d < 10 → IsLiteral bytes (Number (negsuc n)) → SaysAny (bytes ++ (48 + d) ∷ []) (digit_behind (negsuc n) d)
negsuc_says bytes n d small (fits, is) = by (nat_lt (10 * n + 9 + d) (2 ^ 63)) refl
  where
    by : (u : Bool) → nat_lt (10 * n + 9 + d) (2 ^ 63) ≡ u → SaysAny (bytes ++ (48 + d) ∷ []) (digit_behind (negsuc n) d)
    by false f = subst (λ v. SaysAny (bytes ++ (48 + d) ∷ []) (if v then Some (Digits (negsuc (10 * n + 9 + d))) else None)) (sym f) tt
    by true f =
        let below : 10 * n + 9 + d < 2 ^ 63 = grind (arith, nat_tests) in
        let front : suc (10 * n + 9 + d) / 10 ≡ suc n = omega arith in
        let last : 48 + suc (10 * n + 9 + d) % 10 ≡ 48 + d = omega arith in
        let spelled : decimal (suc (10 * n + 9 + d)) ≡ decimal (suc n) ++ (48 + d) ∷ [] = decimal_step (suc (10 * n + 9 + d)) (omega arith) (omega arith) ∙ ap₂ (λ k b. decimal k ++ b ∷ []) front last in
        subst (λ v. SaysAny (bytes ++ (48 + d) ∷ []) (if v then Some (Digits (negsuc (10 * n + 9 + d))) else None)) (sym f) (record { sfits = omega arith }, ap (λ l. l ++ (48 + d) ∷ []) is ∙ ap (λ l. minus ∷ l) (sym spelled))

digit_says : (bytes : List ℕ) (z : ℤ) (d : ℕ) → d < 10 → IsLiteral bytes (Number z) → SaysAny (bytes ++ (48 + d) ∷ []) (digit_behind z d)
digit_says bytes (pos n) d small is = pos_says bytes n d small is
digit_says bytes (negsuc n) d small is = negsuc_says bytes n d small is

below_zero_says : (b : ℕ) → SaysAny (minus ∷ b ∷ []) (number_step Minus b)
below_zero_says b = by (is_in_range 49 57 b) refl
  where
    by : (t : Bool) → is_in_range 49 57 b ≡ t → SaysAny (minus ∷ b ∷ []) (number_step Minus b)
    by false e = subst (λ v. SaysAny (minus ∷ b ∷ []) (if v then Some (Digits (negsuc (b - 49))) else None)) (sym e) tt
    by true e =
        let low : 49 ≤ b = grind (arith, nat_tests) in
        let high : b ≤ 57 = grind (arith, nat_tests) in
        let spelled : decimal (suc (b - 49)) ≡ b ∷ [] = decimal_digit (suc (b - 49)) (omega arith) ∙ ap (λ k. k ∷ []) (omega arith) in
        subst (λ v. SaysAny (minus ∷ b ∷ []) (if v then Some (Digits (negsuc (b - 49))) else None)) (sym e) (record { sfits = omega arith }, ap (λ l. minus ∷ l) (sym spelled))

step_says : (bytes : List ℕ) (s : NumberState) (b : ℕ) → Says bytes s → SaysAny (bytes ++ b ∷ []) (number_step s b)
step_says bytes Minus b is = subst (λ l. SaysAny (l ++ b ∷ []) (number_step Minus b)) (sym is) (below_zero_says b)
step_says bytes (Digits z) b is = by (is_ascii_digit b) refl
  where
    by : (t : Bool) → is_ascii_digit b ≡ t → SaysAny (bytes ++ b ∷ []) (number_step (Digits z) b)
    by false e = subst (λ v. SaysAny (bytes ++ b ∷ []) (if v then digit_behind z (b - 48) else None)) (sym e) tt
    by true e =
        let range = digit_from b e in
        let same : 48 + (b - 48) ≡ b = omega arith in
        subst (λ v. SaysAny (bytes ++ b ∷ []) (if v then digit_behind z (b - 48) else None)) (sym e)
        (subst (λ c. SaysAny (bytes ++ c ∷ []) (digit_behind z (b - 48))) same (digit_says bytes z (b - 48) (omega arith) is))

begin_says : (b : ℕ) → SaysAny (b ∷ []) (number_begin b)
begin_says b = by (b == minus) refl (is_ascii_digit b) refl
  where
    other : (t u : Bool) → (b == minus) ≡ t → is_ascii_digit b ≡ u → (if t then Some Minus else (if u then Some (Digits (pos (b - 48))) else None)) ≡ number_begin b
    other t u e f = sym (ap₂ (λ v w. if v then Some Minus else (if w then Some (Digits (pos (b - 48))) else None)) e f)

    by : (t : Bool) → (b == minus) ≡ t → (u : Bool) → is_ascii_digit b ≡ u → SaysAny (b ∷ []) (number_begin b)
    by true e u f =
        let same : b ≡ minus = grind (arith, nat_tests) in
        subst (SaysAny (b ∷ [])) (other true u e f) (ap (λ c. c ∷ []) same)
    by false e true f =
        let range = digit_from b f in
        let spelled : decimal (b - 48) ≡ b ∷ [] = decimal_digit (b - 48) (omega arith) ∙ ap (λ k. k ∷ []) (omega arith) in
        subst (SaysAny (b ∷ [])) (other false true e f) (record { sfits = omega arith }, sym spelled)
    by false e false f = subst (SaysAny (b ∷ [])) (other false false e f) tt

pub none_stays : (bs : List ℕ) → number_from None bs ≡ None
none_stays [] = refl
none_stays (b ∷ bs) = refl

says_from : (bytes bs : List ℕ) (x : Option NumberState) (t : NumberState) → SaysAny bytes x → number_from x bs ≡ Some t → Says (bytes ++ bs) t
says_from bytes bs None t is e = let none : ◌≡◌ {A = Option NumberState} None (Some t) = sym (none_stays bs) ∙ e in absurd cc
says_from bytes [] (Some s) t is e =
    let same : s ≡ t = cc in
    subst (λ l. Says l t) (sym (append-nil bytes)) (subst (Says bytes) same is)
says_from bytes (b ∷ bs) (Some s) t is e =
    subst (λ l. Says l t) (append_assoc bytes (b ∷ []) bs) (says_from (bytes ++ b ∷ []) bs (number_step s b) t (step_says bytes s b is) e)

pub says : (bytes : List ℕ) (s : NumberState) → read_number bytes ≡ Some s → Says bytes s
says [] s e = absurd cc
says (b ∷ bytes) s e = says_from (b ∷ []) bytes (number_begin b) s (begin_says b) e

-- some of the bytes that are read are read
some_before : (x : Option NumberState) (more : List ℕ) (s : NumberState) → number_from x more ≡ Some s → IsSome x
some_before None more s e = let none : ◌≡◌ {A = Option NumberState} None (Some s) = sym (none_stays more) ∙ e in absurd cc
some_before (Some t) more s e = refl

pub begins_from : (bytes : List ℕ) (x : Option NumberState) → read_number bytes ≡ x → IsSome x → BeginNumber bytes
begins_from bytes None e is = absurd (false≢true is)
begins_from bytes (Some Minus) e is =
    let front : bytes ≡ minus ∷ [] = says bytes Minus e in
    (49 ∷ [], negsuc 0, (record { sfits = omega arith }, ap (λ l. l ++ 49 ∷ []) front ∙ ap (λ l. minus ∷ l) (sym (decimal_digit 1 (omega arith)))))
begins_from bytes (Some (Digits z)) e is =
    let literal = says bytes (Digits z) e in
    ([], z, (literal.0, append-nil bytes ∙ literal.1))

pub literal_reads : (bytes : List ℕ) (z : ℤ) → IsLiteral bytes (Number z) → read_number bytes ≡ Some (Digits z)
literal_reads bytes z is = ap read_number is.1 ∙ literal_read z is.0

pub no_digit_fits : (s : NumberState) (b : ℕ) → is_ascii_digit b ≡ false → number_step s b ≡ None
no_digit_fits Minus b e =
    let other : is_in_range 49 57 b ≡ false = grind (arith, nat_tests) in
    ap (λ t. if t then Some (Digits (negsuc (b - 49))) else None) other
no_digit_fits (Digits z) b e = ap (λ t. if t then digit_behind z (b - 48) else None) e

pub follows_grammar : NumberReaderFollowsGrammar
follows_grammar = record {
  numbers = λ bytes z. (says bytes (Digits z), literal_reads bytes z);
  begins = λ b bytes. (
    begins_from (b ∷ bytes) (read_number (b ∷ bytes)) refl,
    λ h. some_before (read_number (b ∷ bytes)) h.0 (Digits h.1) (sym (read_number-append b bytes h.0 (read_number (b ∷ bytes)) refl) ∙ literal_reads ((b ∷ bytes) ++ h.0) h.1 h.2),
  );
  ends = λ s b behind e. no_digit_fits s b e;
}
