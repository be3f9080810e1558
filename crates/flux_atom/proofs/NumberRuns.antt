-- Where the machine of numbers stops: one number stands in front of bytes.
use Rattle.std.proofs.Common.{◌≡◌, ℕ, List, [], ◌∷◌, ◌++◌, get_or, drop, Option, Some, None, refl, sym, ap, ◌∙◌}
use Rattle.std.specs.Prelude.{ℤ}
use Rattle.flux_atom.specs.declared.atom.Atom.TheVariants.{Int as Number}
use Rattle.flux_atom.specs.declared.number.NumberState.{NumberState}
use Rattle.flux_atom.specs.declared.number.NumberState.TheVariants.{Digits}
use Rattle.flux_atom.specs.NumberSteps.{number_begin, number_from, number_step, read_number}
use Rattle.flux_atom.specs.Spelling.{EndsDigits, IsLiteral}
use Rattle.flux_atom.proofs.NumberLaws.{literal_reads, no_digit_fits, none_stays}

-- where it stops, and the bytes before which it does
abbrev stop_of : Option NumberState → NumberState → ℕ → List ℕ → (NumberState → NumberState × List ℕ) → NumberState × List ℕ
stop_of None s b bs go = (s, b ∷ bs)
stop_of (Some t) s b bs go = go t

abbrev pub number_stop : NumberState → List ℕ → NumberState × List ℕ
number_stop s [] = (s, [])
number_stop s (b ∷ bs) = stop_of (number_step s b) s b bs (λ t. number_stop t bs)

pub stop_read : (p q : List ℕ) (s t : NumberState) → number_from (Some s) p ≡ Some t → number_stop s (p ++ q) ≡ number_stop t q
stop_read [] q s t e = let same : s ≡ t = cc in ap (λ u. number_stop u q) same
stop_read (b ∷ p) q s t e = by (number_step s b) refl (λ u f. stop_read p q u t f)
  where
    by : (x : Option NumberState) → number_step s b ≡ x → ((u : NumberState) → number_from (Some u) p ≡ Some t → number_stop u (p ++ q) ≡ number_stop t q) → number_stop s (b ∷ (p ++ q)) ≡ number_stop t q
    by None f rest = let none : ◌≡◌ {A = Option NumberState} None (Some t) = sym (none_stays p) ∙ sym (ap (λ x. number_from x p) f) ∙ e in absurd cc
    by (Some u) f rest = ap (λ x. stop_of x s b (p ++ q) (λ v. number_stop v (p ++ q))) f ∙ rest u (sym (ap (λ x. number_from x p) f) ∙ e)

pub stop_stuck : (s : NumberState) (b : ℕ) (q : List ℕ) → number_step s b ≡ None → number_stop s (b ∷ q) ≡ (s, b ∷ q)
stop_stuck s b q e = ap (λ x. stop_of x s b q (λ v. number_stop v q)) e

stop_ended : (s : NumberState) (behind : List ℕ) → EndsDigits behind → number_stop s behind ≡ (s, behind)
stop_ended s [] ended = refl
stop_ended s (b ∷ behind) ended = stop_stuck s b behind (no_digit_fits s b ended)

-- the literal of a number, and no digit behind it
pub number_stands : (b : ℕ) (l spelled behind : List ℕ) (s : NumberState) (z : ℤ) → number_begin b ≡ Some s → b ∷ l ≡ spelled ++ behind → IsLiteral spelled (Number z) → EndsDigits behind → number_stop s l ≡ (Digits z, behind)
number_stands b l spelled behind s z begins split is ended = by spelled split (literal_reads spelled z is)
  where
    by : (m : List ℕ) → b ∷ l ≡ m ++ behind → read_number m ≡ Some (Digits z) → number_stop s l ≡ (Digits z, behind)
    by [] e read = absurd cc
    by (c ∷ m) e read =
        let same : b ≡ c = ap (λ k. get_or k 0 0) e in
        let begun : number_begin c ≡ Some s = sym (ap number_begin same) ∙ begins in
        ap (λ k. number_stop s (drop 1 k)) e
        ∙ stop_read m behind s (Digits z) (sym (ap (λ x. number_from x m) begun) ∙ read)
        ∙ stop_ended (Digits z) behind ended

-- what the first byte tells
pub number_first : (l spelled behind : List ℕ) (z : ℤ) → l ≡ spelled ++ behind → IsLiteral spelled (Number z) → (b : ℕ) × (rest : List ℕ) × (s : NumberState) × (l ≡ b ∷ rest) × (number_begin b ≡ Some s)
number_first l spelled behind z split is = by spelled split (literal_reads spelled z is)
  where
    first : (b : ℕ) (m : List ℕ) (x : Option NumberState) → number_begin b ≡ x → l ≡ b ∷ (m ++ behind) → number_from x m ≡ Some (Digits z) → (c : ℕ) × (rest : List ℕ) × (s : NumberState) × (l ≡ c ∷ rest) × (number_begin c ≡ Some s)
    first b m None f e read = let none : ◌≡◌ {A = Option NumberState} None (Some (Digits z)) = sym (none_stays m) ∙ read in absurd cc
    first b m (Some s) f e read = (b, m ++ behind, s, e, f)

    by : (m : List ℕ) → l ≡ m ++ behind → read_number m ≡ Some (Digits z) → (c : ℕ) × (rest : List ℕ) × (s : NumberState) × (l ≡ c ∷ rest) × (number_begin c ≡ Some s)
    by [] e read = absurd cc
    by (b ∷ m) e read = first b m (number_begin b) refl e read

pub not_number : (b : ℕ) (l spelled behind : List ℕ) (z : ℤ) → number_begin b ≡ None → b ∷ l ≡ spelled ++ behind → IsLiteral spelled (Number z) → ⊥
not_number b l spelled behind z none split is =
    let first = number_first (b ∷ l) spelled behind z split is in
    let same : b ≡ first.0 = ap (λ k. get_or k 0 0) first.3 in
    let both : ◌≡◌ {A = Option NumberState} None (Some first.2) = sym none ∙ ap number_begin same ∙ first.4 in
    cc

pub number_not_empty : (spelled behind : List ℕ) (z : ℤ) → [] ≡ spelled ++ behind → IsLiteral spelled (Number z) → ⊥
number_not_empty spelled behind z split is = let first = number_first [] spelled behind z split is in let e = first.3 in cc
