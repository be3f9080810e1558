-- A literal tells which atom it is of, and where it ends, a number's before no digit; a name ends at the first byte that continues none.
use Rattle.std.proofs.Common.{◌≡◌, ◌≢◌, ℕ, ◌+◌, ◌-◌, ◌*◌, ◌/◌, ◌%◌, ◌<◌, ◌≤◌, Bool, true, false, List, [], ◌∷◌, ◌++◌, get_or, drop, codes, ◌⊎◌, inl, inr, refl, sym, ap, ap₂, subst, ◌∙◌, nat_lt, ◌==◌, if◌then◌else◌, arith, append_assoc}
use Rattle.std.proofs.lemmas.Bool.{cases_eq, cases_lt, ne_eqb, lt-ltb, le-ltb, ltb-true, eqb-true, or_cases, false≢true}
use Rattle.std.proofs.lemmas.Bool.Decides.{nat_tests}
use Rattle.std.proofs.lemmas.List.{append_cancel_left}
use Rattle.std.proofs.lemmas.List.Elements.{All-head, All-tail, All-cons}
use Rattle.std.specs.List.{AllPass, flat_map}
use Rattle.flux_atom.specs.declared.atom.Atom.{Atom}
use Rattle.flux_atom.specs.declared.atom.Atom.TheVariants.{Bool as Truth, Text, Int as Number}
use Rattle.flux_atom.specs.Names.{begins_name, continues_name, EndsName, IsName}
use Rattle.flux_atom.specs.declared.number.NumberState.{NumberState}
use Rattle.flux_atom.specs.declared.number.NumberState.TheVariants.{Digits}
use Rattle.flux_atom.specs.Literal.{quote, backslash, newline, tab, is_control, hex_digit, hex_digits, escaped, literal}
use Rattle.flux_atom.specs.Spelling.{EndsDigits}
use Rattle.flux_atom.proofs.NumberRuns.{not_number, number_first, number_stands}
use Rattle.flux_atom.proofs.StandingLiterals.{apart}
use Rattle.flux_doctext.specs.Text.{HasRange}
use Rattle.flux_doctext.proofs.Signs.{begins-continues, no_digit}

-- what a hexadecimal digit is worth
abbrev hex_value : ℕ → ℕ
hex_value d = if nat_lt d 58 then d - 48 else d - 87

-- the byte that a code with these digits in front stands for, and what is behind it
abbrev unescape_code : List ℕ → ℕ × List ℕ
unescape_code s =
    if get_or s 1 0 == 125 then (hex_value (get_or s 0 0), drop 2 s) else
    (16 * hex_value (get_or s 0 0) + hex_value (get_or s 1 0), drop 3 s)

-- the same of what stands behind a backslash and c
abbrev unescape_after : ℕ → List ℕ → ℕ × List ℕ
unescape_after c s =
    if c == quote then (quote, s) else
    if c == backslash then (backslash, s) else
    if c == 110 then (newline, s) else
    if c == 116 then (tab, s) else
    unescape_code (drop 1 s)

-- the first byte that an escaped text stands for, and what is behind it
abbrev unescape : List ℕ → ℕ × List ℕ
unescape s =
    if get_or s 0 0 == backslash then unescape_after (get_or s 1 0) (drop 2 s) else
    (get_or s 0 0, drop 1 s)

hex_value-hex_digit : (d : ℕ) → d < 16 → hex_value (hex_digit d) ≡ d
hex_value-hex_digit d small = by (cases_lt d 10)
  where
    by : (d < 10) ⊎ (10 ≤ d) → hex_value (hex_digit d) ≡ d
    by (inl l) = rw (lt-ltb d 10 l, lt-ltb (48 + d) 58 (omega arith)) (omega arith)
    by (inr g) = rw (le-ltb d 10 g, le-ltb (87 + d) 58 (omega arith)) (omega arith)

hex_digit-brace : (d : ℕ) → d < 16 → (hex_digit d == 125) ≡ false
hex_digit-brace d small = by (cases_lt d 10)
  where
    by : (d < 10) ⊎ (10 ≤ d) → (hex_digit d == 125) ≡ false
    by (inl l) = rw (lt-ltb d 10 l) (ne_eqb (48 + d) 125 (λ e. omega arith))
    by (inr g) = rw (le-ltb d 10 g) (ne_eqb (87 + d) 125 (λ e. omega arith))

unescape-code : (b : ℕ) (r : List ℕ) → b < 256 → unescape ((codes "\\u{" ++ hex_digits b ++ codes "}") ++ r) ≡ (b, r)
unescape-code b r small = by (nat_lt b 16) refl
  where
    by : (t : Bool) → nat_lt b 16 ≡ t → unescape ((codes "\\u{" ++ hex_digits b ++ codes "}") ++ r) ≡ (b, r)
    by true e = rw (e, hex_value-hex_digit b (ltb-true b 16 e)) refl
    by false e =
        let high : b / 16 < 16 = omega arith in
        let low : b % 16 < 16 = omega arith in
        rw (e, hex_digit-brace (b % 16) low, hex_value-hex_digit (b / 16) high, hex_value-hex_digit (b % 16) low) (ap (λ n. (n, r)) (omega arith))

control_small : (b : ℕ) → is_control b ≡ true → b < 256
control_small b e = by (or_cases (nat_lt b 32) (b == 127) e)
  where
    by : (nat_lt b 32 ≡ true) ⊎ ((b == 127) ≡ true) → b < 256
    by (inl l) = let low = ltb-true b 32 l in omega arith
    by (inr d) = let same = eqb-true b 127 d in omega arith

-- an escaped byte is read back, whatever is behind it
unescape-escaped : (b : ℕ) (r : List ℕ) → unescape (escaped b ++ r) ≡ (b, r)
unescape-escaped b r = first (cases_eq b quote)
  where
    at : (c : ℕ) → b ≡ c → unescape (escaped c ++ r) ≡ (c, r) → unescape (escaped b ++ r) ≡ (b, r)
    at c e h = subst (λ n. unescape (escaped n ++ r) ≡ (n, r)) (sym e) h

    plain : b ≢ backslash → (t : Bool) → is_control b ≡ t → unescape ((if t then codes "\\u{" ++ hex_digits b ++ codes "}" else b ∷ []) ++ r) ≡ (b, r)
    plain q true e = unescape-code b r (control_small b e)
    plain q false e = rw (ne_eqb b backslash q) refl

    fourth : b ≢ quote → b ≢ backslash → b ≢ newline → (b ≡ tab) ⊎ (b ≢ tab) → unescape (escaped b ++ r) ≡ (b, r)
    fourth p q u (inl e) = at tab e refl
    fourth p q u (inr v) =
        rw (ne_eqb b quote p, ne_eqb b backslash q, ne_eqb b newline u, ne_eqb b tab v) (plain q (is_control b) refl)

    third : b ≢ quote → b ≢ backslash → (b ≡ newline) ⊎ (b ≢ newline) → unescape (escaped b ++ r) ≡ (b, r)
    third p q (inl e) = at newline e refl
    third p q (inr u) = fourth p q u (cases_eq b tab)

    second : b ≢ quote → (b ≡ backslash) ⊎ (b ≢ backslash) → unescape (escaped b ++ r) ≡ (b, r)
    second p (inl e) = at backslash e refl
    second p (inr q) = third p q (cases_eq b newline)

    first : (b ≡ quote) ⊎ (b ≢ quote) → unescape (escaped b ++ r) ≡ (b, r)
    first (inl e) = at quote e refl
    first (inr p) = second p (cases_eq b backslash)

-- a quote begins no escaped byte
quote_ends : (b : ℕ) (r s : List ℕ) → quote ∷ r ≡ escaped b ++ s → ⊥
quote_ends b r s e =
    let same : quote ≡ b = ap (λ p. p.0) (ap unescape e ∙ unescape-escaped b s) in
    let there : quote ∷ r ≡ escaped quote ++ s = e ∙ ap (λ n. escaped n ++ s) (sym same) in
    cc

-- the escaped text before a quote is that of one text
escaped_end : (x y r s : List ℕ) → flat_map escaped x ++ quote ∷ r ≡ flat_map escaped y ++ quote ∷ s → (x ≡ y) × (r ≡ s)
escaped_end [] [] r s e = (refl, ap (drop 1) e)
escaped_end [] (b ∷ y) r s e =
    absurd (quote_ends b r (flat_map escaped y ++ quote ∷ s) (e ∙ append_assoc (escaped b) (flat_map escaped y) (quote ∷ s)))
escaped_end (a ∷ x) [] r s e =
    absurd (quote_ends a s (flat_map escaped x ++ quote ∷ r) (sym e ∙ append_assoc (escaped a) (flat_map escaped x) (quote ∷ r)))
escaped_end (a ∷ x) (b ∷ y) r s e =
    let joined = sym (append_assoc (escaped a) (flat_map escaped x) (quote ∷ r)) ∙ e ∙ append_assoc (escaped b) (flat_map escaped y) (quote ∷ s) in
    let read = sym (unescape-escaped a (flat_map escaped x ++ quote ∷ r)) ∙ ap unescape joined ∙ unescape-escaped b (flat_map escaped y ++ quote ∷ s) in
    let rest = escaped_end x y r s (ap (λ p. p.1) read) in
    (ap₂ (λ n l. n ∷ l) (ap (λ p. p.0) read) rest.0, rest.1)

ends_digits : (r : List ℕ) → EndsName r → EndsDigits r
ends_digits [] ends = tt
ends_digits (b ∷ r) ends = no_digit b ends

-- two literals in front of one list, with no byte behind that a name goes on with, are of one atom
pub literal_end : (x y : Atom) (r s : List ℕ) → HasRange x → HasRange y → EndsName r → EndsName s → literal x ++ r ≡ literal y ++ s → (x ≡ y) × (r ≡ s)
literal_end (Truth true) (Truth true) r s p q f g e = (refl, append_cancel_left (codes "true") r s e)
literal_end (Truth false) (Truth false) r s p q f g e = (refl, append_cancel_left (codes "false") r s e)
literal_end (Truth true) (Truth false) r s p q f g e = absurd (apart 116 102 _ _ (λ same. omega arith) e)
literal_end (Truth false) (Truth true) r s p q f g e = absurd (apart 102 116 _ _ (λ same. omega arith) e)
literal_end (Truth true) (Text y) r s p q f g e = absurd (apart 116 34 _ _ (λ same. omega arith) e)
literal_end (Truth false) (Text y) r s p q f g e = absurd (apart 102 34 _ _ (λ same. omega arith) e)
literal_end (Text x) (Truth true) r s p q f g e = absurd (apart 34 116 _ _ (λ same. omega arith) e)
literal_end (Text x) (Truth false) r s p q f g e = absurd (apart 34 102 _ _ (λ same. omega arith) e)
literal_end (Text x) (Text y) r s p q f g e =
    let rest : flat_map escaped x ++ quote ∷ r ≡ flat_map escaped y ++ quote ∷ s = sym (append_assoc (flat_map escaped x) (quote ∷ []) r) ∙ ap (drop 1) e ∙ append_assoc (flat_map escaped y) (quote ∷ []) s in
    let same = escaped_end x y r s rest in
    (ap Text same.0, same.1)
literal_end (Truth true) (Number z) r s p q f g e = absurd (not_number 116 _ (literal (Number z)) s z refl e (q, refl))
literal_end (Truth false) (Number z) r s p q f g e = absurd (not_number 102 _ (literal (Number z)) s z refl e (q, refl))
literal_end (Text x) (Number z) r s p q f g e = absurd (not_number quote _ (literal (Number z)) s z refl e (q, refl))
literal_end (Number z) (Truth true) r s p q f g e = absurd (not_number 116 _ (literal (Number z)) r z refl (sym e) (p, refl))
literal_end (Number z) (Truth false) r s p q f g e = absurd (not_number 102 _ (literal (Number z)) r z refl (sym e) (p, refl))
literal_end (Number z) (Text y) r s p q f g e = absurd (not_number quote _ (literal (Number z)) r z refl (sym e) (p, refl))
literal_end (Number y) (Number z) r s p q f g e =
    let begun = number_first (literal (Number y) ++ r) (literal (Number y)) r y refl (p, refl) in
    let here = number_stands begun.0 begun.1 (literal (Number y)) r begun.2 y begun.4 (sym begun.3) (p, refl) (ends_digits r f) in
    let there = number_stands begun.0 begun.1 (literal (Number z)) s begun.2 z begun.4 (sym begun.3 ∙ e) (q, refl) (ends_digits s g) in
    let same : ◌≡◌ {A = NumberState × List ℕ} (Digits y, r) (Digits z, s) = sym here ∙ there in
    let states : Digits y ≡ Digits z = ap (λ k. k.0) same in
    let values : y ≡ z = cc in
    (ap Number values, ap (λ k. k.1) same)

-- the bytes before such an end are those of one name
pub name_end : (p q r s : List ℕ) → AllPass continues_name p → AllPass continues_name q → EndsName r → EndsName s → p ++ r ≡ q ++ s → (p ≡ q) × (r ≡ s)
name_end [] [] r s p_name q_name r_end s_end e = (refl, e)
name_end [] (b ∷ q) [] s p_name q_name r_end s_end e = absurd cc
name_end [] (b ∷ q) (a ∷ r) s p_name q_name r_end s_end e =
    let same : a ≡ b = cc in
    absurd (false≢true (sym r_end ∙ ap continues_name same ∙ All-head (λ c. continues_name c ≡ true) b q q_name))
name_end (a ∷ p) [] r [] p_name q_name r_end s_end e = absurd cc
name_end (a ∷ p) [] r (b ∷ s) p_name q_name r_end s_end e =
    let same : b ≡ a = cc in
    absurd (false≢true (sym s_end ∙ ap continues_name same ∙ All-head (λ c. continues_name c ≡ true) a p p_name))
name_end (a ∷ p) (b ∷ q) r s p_name q_name r_end s_end e =
    let same : a ≡ b = cc in
    let tails : p ++ r ≡ q ++ s = ap (drop 1) e in
    let rest = name_end p q r s (All-tail (λ c. continues_name c ≡ true) a p p_name) (All-tail (λ c. continues_name c ≡ true) b q q_name) r_end s_end tails in
    (ap₂ (λ n l. n ∷ l) same rest.0, rest.1)

pub IsName-continues : (p : List ℕ) → IsName p → AllPass continues_name p
IsName-continues [] name = absurd name
IsName-continues (b ∷ p) name = All-cons (λ c. continues_name c ≡ true) b p (begins-continues b name.0) name.1

-- a name in front of a list begins with no byte but one that begins names
pub IsName-first : (p : List ℕ) (b : ℕ) (r s : List ℕ) → IsName p → b ∷ r ≡ p ++ s → begins_name b ≡ true
IsName-first [] b r s name e = absurd name
IsName-first (a ∷ p) b r s name e = let same : b ≡ a = cc in ap begins_name same ∙ name.0
