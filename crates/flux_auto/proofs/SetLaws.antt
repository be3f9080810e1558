-- Sets as the bits of words, and what changes them.
use Rattle.std.proofs.Common.{◌≡◌, ℕ, zero, suc, ◌+◌, ◌*◌, ◌/◌, ◌%◌, ◌^◌, ◌<◌, ◌≤◌, ◌==◌, ◌||◌, List, [], ◌∷◌, ◌++◌, length, get_or, replicate, Bool, true, false, refl, sym, ap, ap₂, subst, ◌∙◌, inl, inr, arith, w64, length-append}
use Rattle.std.specs.Prelude.{bit_and, bit_or, Decides}
use Rattle.std.specs.Bool.{beq}
use Rattle.std.specs.Cmp.{both_ways, booleans_Decides}
use Rattle.std.specs.Cmp.Lexicographic.{pointwise, pointwise_decides}
use Rattle.std.specs.Int.{bit_at}
use Rattle.std.proofs.Math.ListN.{set}
use Rattle.std.proofs.Math.Nat.{pow-suc}
use Rattle.std.proofs.lemmas.List.{get_or_append_left, get_or_push, get_or_past, ext_get_or, get_or-set_same, get_or-set_other, get_or-replicate, length-replicate, length-set}
use Rattle.std.proofs.lemmas.Grind.{get_or_default_zero, replicate_next}
use Rattle.std.proofs.lemmas.Nat.{or_lt}
use Rattle.std.proofs.lemmas.Nat.Bits.{bit_at-lt, bit_at_lowest, bit_at-suc, bit_at-zero, shr_and_one, bit_at_set_same, bit_at_set_other, same_from_bits_below}
use Rattle.flux_atom.proofs.Plain.{same_or_not}
use Rattle.flux_auto.specs.Takes.{has}
use Rattle.flux_auto.specs.declared.block.Block.{Block}
use Rattle.flux_auto.specs.Set.{told, in_block, with_block, flag, flags, IsPacked, digit, word, words_from, words_of}
use Rattle.flux_auto.proofs.Growing.{below_or_not}

-- ---- what a test tells of the numbers below a count

pub length-told : (f : ℕ → Bool) (n : ℕ) → length (told f n) ≡ n
length-told f zero = refl
length-told f (suc n) = omega (arith, length-append (told f n) (f n ∷ []), length-told f n)

pub has-told : (f : ℕ → Bool) (n s : ℕ) → s < n → has (told f n) s ≡ f s
has-told f zero s h = absurd (omega (arith, h))
has-told f (suc n) s h = elim (below_or_not s n) [
  | inl lt ↦ get_or_append_left (told f n) (f n ∷ []) false s (omega (arith, lt, length-told f n)) ∙ has-told f n s lt
  | inr le ↦
      let e : n ≡ s = omega (arith, le, h) in
      get_or_push (told f n) (f n) false s (length-told f n ∙ e) ∙ ap f e
]

pub told_same : (f g : ℕ → Bool) (n : ℕ) → ((s : ℕ) → s < n → f s ≡ g s) → told f n ≡ told g n
told_same f g zero same = refl
told_same f g (suc n) same = ap₂ (λ l b. l ++ b ∷ []) (told_same f g n (λ s lt. same s (omega (arith, lt)))) (same n (omega arith))

pub told-none : (n : ℕ) → told (λ s. false) n ≡ replicate n false
told-none zero = refl
told-none (suc n) = let e : n + 1 ≡ suc n = omega arith in ap (λ l. l ++ false ∷ []) (told-none n) ∙ sym (replicate_next n false) ∙ ap (λ k. replicate k false) e

-- the states of a block more
pub with_block-told : (f : ℕ → Bool) (n : ℕ) (b : Block) → with_block (told f n) b ≡ told (λ s. f s || in_block b s) n
with_block-told f n b = ap (told (λ s. has (told f n) s || in_block b s)) (length-told f n) ∙ told_same (λ s. has (told f n) s || in_block b s) (λ s. f s || in_block b s) n (λ s lt. ap (λ x. x || in_block b s) (has-told f n s lt))

-- ---- the states of words

pub length-flags : (ws : List ℕ) (n : ℕ) → length (flags ws n) ≡ n
length-flags ws n = length-told (flag ws) n

has_below : (ws : List ℕ) (n s : ℕ) → s < n → has (flags ws n) s ≡ flag ws s
has_below ws n s h = has-told (flag ws) n s h

pub has-past : (ws : List ℕ) (n s : ℕ) → n ≤ s → has (flags ws n) s ≡ false
has-past ws n s h = get_or_past (flags ws n) s false (omega (arith, h, length-flags ws n))

pub has-flags : (ws : List ℕ) (n : ℕ) → IsPacked ws n → (s : ℕ) → has (flags ws n) s ≡ flag ws s
has-flags ws n packed s = elim (below_or_not s n) [
  | inl lt ↦ has_below ws n s lt
  | inr le ↦ has-past ws n s le ∙ sym (packed.beyond s le)
]

pub word_inside : (ws : List ℕ) (n s : ℕ) → IsPacked ws n → s < n → s / 64 < length ws
word_inside ws n s packed h = omega (arith, h, packed.long)

pub word_at : (ws : List ℕ) (n s w : ℕ) → IsPacked ws n → s < n → w ≡ get_or ws (s / 64) w → w ≡ get_or ws (s / 64) 0
word_at ws n s w packed h is = is ∙ get_or_default_zero ws (s / 64) w (word_inside ws n s packed h)

-- the test of a bit
pub has_test : (ws : List ℕ) (n s w : ℕ) (p : List Bool) → IsPacked ws n → flags ws n ≡ p → s < n → w ≡ get_or ws (s / 64) w → (bit_and (w / 2 ^ (s % 64)) 1 == 1) ≡ has p s
has_test ws n s w p packed e h is =
    ap (λ x. x == 1) (shr_and_one w (s % 64)) ∙ ap (λ x. bit_at x (s % 64) == 1) (word_at ws n s w packed h is) ∙ sym (has_below ws n s h) ∙ ap (λ q. has q s) e

pub past_test : (ws : List ℕ) (n s : ℕ) (b : Bool) (p : List Bool) → flags ws n ≡ p → b ≡ false → n ≤ s → b ≡ has p s
past_test ws n s b p e f h = f ∙ sym (has-past ws n s h) ∙ ap (λ q. has q s) e

-- ---- the words of the states

digit-lt : (b : Bool) → digit b < 2
digit-lt true = omega arith
digit-lt false = omega arith

digit-is : (x : ℕ) → x < 2 → digit (x == 1) ≡ x
digit-is zero h = refl
digit-is (suc zero) h = refl
digit-is (suc (suc x)) h = absurd (omega (arith, h))

word-lt : (p : List Bool) (s n : ℕ) → word p s n < 2 ^ n
unfolding word
word-lt p s zero = omega arith
word-lt p s (suc n) = omega (arith, digit-lt (has p s), word-lt p (suc s) n, pow-suc 2 n)

bit_at-word : (p : List Bool) (s n i : ℕ) → i < n → bit_at (word p s n) i ≡ digit (has p (s + i))
unfolding word
bit_at-word p s zero i h = absurd (omega (arith, h))
bit_at-word p s (suc n) zero h =
    let e : s ≡ s + 0 = omega arith in
    bit_at_lowest _ ∙ omega (arith, digit-lt (has p s)) ∙ ap (λ k. digit (has p k)) e
bit_at-word p s (suc n) (suc i) h =
    let half : (digit (has p s) + 2 * word p (suc s) n) / 2 ≡ word p (suc s) n = omega (arith, digit-lt (has p s)) in
    let e : suc s + i ≡ s + suc i = omega arith in
    bit_at-suc _ i ∙ ap (λ x. bit_at x i) half ∙ bit_at-word p (suc s) n i (omega (arith, h)) ∙ ap (λ k. digit (has p k)) e

length-words : (p : List Bool) (s n : ℕ) → length (words_from p s n) ≡ n
length-words p s zero = refl
length-words p s (suc n) = ap suc (length-words p (s + 64) n)

get_or-words : (p : List Bool) (s n k : ℕ) → k < n → get_or (words_from p s n) k 0 ≡ word p (s + 64 * k) 64
get_or-words p s zero k h = absurd (omega (arith, h))
get_or-words p s (suc n) zero h = let e : s ≡ s + 64 * 0 = omega arith in ap (λ x. word p x 64) e
get_or-words p s (suc n) (suc k) h = let e : s + 64 + 64 * k ≡ s + 64 * suc k = omega arith in get_or-words p (s + 64) n k (omega (arith, h)) ∙ ap (λ x. word p x 64) e

flag_at : (ws : List ℕ) (k i : ℕ) → i < 64 → flag ws (0 + 64 * k + i) ≡ (bit_at (get_or ws k 0) i == 1)
flag_at ws k i h =
    let q : (0 + 64 * k + i) / 64 ≡ k = omega arith in
    let r : (0 + 64 * k + i) % 64 ≡ i = omega arith in
    ap (λ j. bit_at (get_or ws j 0) ((0 + 64 * k + i) % 64) == 1) q ∙ ap (λ j. bit_at (get_or ws k 0) j == 1) r

pub words-flags : (ws : List ℕ) (n : ℕ) → IsPacked ws n → words_of (flags ws n) ≡ ws
words-flags ws n packed = ext_get_or 0 (words_of p) ws (length-words p 0 many ∙ same) (λ k h. get_or-words p 0 many k (omega (arith, h, length-words p 0 many)) ∙ same_from_bits_below 64 (word p (0 + 64 * k) 64) (get_or ws k 0) (word-lt p (0 + 64 * k) 64) (packed.small k) (λ i l.
    bit_at-word p (0 + 64 * k) 64 i l ∙ ap digit (has-flags ws n packed (0 + 64 * k + i) ∙ flag_at ws k i l) ∙ digit-is _ (bit_at-lt (get_or ws k 0) i)))
  where
    p : List Bool
    p = flags ws n

    many : ℕ
    many = length p / 64 + 1

    same : many ≡ length ws
    same = ap (λ x. x / 64 + 1) (length-flags ws n) ∙ sym packed.long

-- equal sets are the same
pub same_set : (p q : List Bool) → pointwise beq p q ≡ true → p ≡ q
same_set p q h = (pointwise_decides booleans_Decides p q).0 h

-- the test of sets whose words are compared
pub same_test : (ws vs : List ℕ) (m n : ℕ) (b : Bool) (p q : List Bool) → IsPacked ws m → IsPacked vs n → flags ws m ≡ p → flags vs n ≡ q → m ≡ n → Decides b (ws ≡ vs) → b ≡ pointwise beq p q
same_test ws vs m n b p q one two e f same d = both_ways b (pointwise beq p q)
    (λ h. (pointwise_decides booleans_Decides p q).1 (sym e ∙ ap₂ flags (d.0 h) same ∙ f))
    (λ h. d.1 (sym (words-flags ws m one) ∙ ap words_of (e ∙ same_set p q h ∙ sym f) ∙ words-flags vs n two))

pub other_test : (ws vs : List ℕ) (m n : ℕ) (b : Bool) (p q : List Bool) → flags ws m ≡ p → flags vs n ≡ q → (m ≡ n → ⊥) → (b ≡ true → ⊥) → b ≡ pointwise beq p q
other_test ws vs m n b p q e f ne off = both_ways b (pointwise beq p q) (λ h. absurd (off h))
    (λ h. absurd (ne (let l : length (flags ws m) ≡ length (flags vs n) = ap length (e ∙ same_set p q h ∙ sym f) in omega (arith, l, length-flags ws m, length-flags vs n))))

-- ---- no states

zeros : (m k : ℕ) → ◌≡◌ {A = ℕ} (get_or (replicate m 0) k 0) 0
zeros m k = elim (below_or_not k m) [ inl lt ↦ get_or-replicate m k 0 0 lt | inr le ↦ get_or_past (replicate m 0) k 0 (omega (arith, le, length-replicate {A = ℕ} m 0)) ]

flag-zeros : (m s : ℕ) → flag (replicate m 0) s ≡ false
flag-zeros m s = ap (λ w. bit_at w (s % 64) == 1) (zeros m (s / 64)) ∙ ap (λ b. b == 1) (bit_at-zero (s % 64))

pub packed-zeros : (n : ℕ) → IsPacked (replicate (n / 64 + 1) 0) n
packed-zeros n = record {
  long = length-replicate (n / 64 + 1) 0;
  small = λ k. omega (arith, zeros (n / 64 + 1) k);
  beyond = λ s h. flag-zeros (n / 64 + 1) s;
}

pub flags-zeros : (m n : ℕ) → flags (replicate m 0) n ≡ replicate n false
flags-zeros m zero = refl
flags-zeros m (suc n) =
    let e : n + 1 ≡ suc n = omega arith in
    ap₂ (λ l b. l ++ b ∷ []) (flags-zeros m n) (flag-zeros m n) ∙ sym (replicate_next n false) ∙ ap (λ k. replicate k false) e

-- ---- one state more

flag-insert_same : (ws : List ℕ) (s : ℕ) → s / 64 < length ws → flag (set ws (s / 64) (bit_or (get_or ws (s / 64) 0) (1 * 2 ^ (s % 64) % 2 ^ 64))) s ≡ true
flag-insert_same ws s h =
    ap (λ w. bit_at w (s % 64) == 1) (get_or-set_same ws (s / 64) (bit_or (get_or ws (s / 64) 0) (1 * 2 ^ (s % 64) % 2 ^ 64)) 0 h)
    ∙ ap (λ b. b == 1) (bit_at_set_same w64 (get_or ws (s / 64) 0) (s % 64) (omega arith))

flag-insert_other : (ws : List ℕ) (s t : ℕ) → s / 64 < length ws → (t ≡ s → ⊥) → flag (set ws (s / 64) (bit_or (get_or ws (s / 64) 0) (1 * 2 ^ (s % 64) % 2 ^ 64))) t ≡ flag ws t
flag-insert_other ws s t h ne = elim (same_or_not (t / 64) (s / 64)) [
  | inr other ↦ ap (λ w. bit_at w (t % 64) == 1) (get_or-set_other ws (s / 64) (t / 64) (bit_or (get_or ws (s / 64) 0) (1 * 2 ^ (s % 64) % 2 ^ 64)) 0 other)
  | inl e ↦
      ap (λ k. bit_at (get_or (set ws (s / 64) (bit_or (get_or ws (s / 64) 0) (1 * 2 ^ (s % 64) % 2 ^ 64))) k 0) (t % 64) == 1) e
      ∙ ap (λ w. bit_at w (t % 64) == 1) (get_or-set_same ws (s / 64) (bit_or (get_or ws (s / 64) 0) (1 * 2 ^ (s % 64) % 2 ^ 64)) 0 h)
      ∙ ap (λ b. b == 1) (bit_at_set_other w64 (get_or ws (s / 64) 0) (s % 64) (omega arith) (t % 64) (λ f. ne (omega (arith, e, f))))
      ∙ ap (λ k. bit_at (get_or ws k 0) (t % 64) == 1) (sym e)
]

-- the words with the bit of a state more
abbrev pub inserted : List ℕ → ℕ → List ℕ
inserted ws s = set ws (s / 64) (bit_or (get_or ws (s / 64) 0) (1 * 2 ^ (s % 64) % 2 ^ 64))

pub packed-insert : (ws : List ℕ) (n s : ℕ) → IsPacked ws n → s < n → IsPacked (inserted ws s) n
packed-insert ws n s packed h = record {
  long = length-set ws (s / 64) _ ∙ packed.long;
  small = small;
  beyond = λ t le. flag-insert_other ws s t inside (λ e. omega (arith, e, le, h)) ∙ packed.beyond t le;
}
  where
    inside : s / 64 < length ws
    inside = omega (arith, h, packed.long)

    small : (k : ℕ) → get_or (inserted ws s) k 0 < 2 ^ 64
    small k = elim (same_or_not k (s / 64)) [
      | inl e ↦ subst (λ x. x < 2 ^ 64) (sym (ap (λ j. get_or (inserted ws s) j 0) e ∙ get_or-set_same ws (s / 64) _ 0 inside)) (or_lt 64 _ _ (packed.small (s / 64)) (omega arith))
      | inr ne ↦ subst (λ x. x < 2 ^ 64) (sym (get_or-set_other ws (s / 64) k _ 0 ne)) (packed.small k)
    ]

flags-insert : (ws : List ℕ) (n s : ℕ) → IsPacked ws n → s < n → flags (inserted ws s) n ≡ set (flags ws n) s true
flags-insert ws n s packed h =
    ext_get_or false (flags (inserted ws s) n) (set (flags ws n) s true) (length-flags (inserted ws s) n ∙ sym (length-flags ws n) ∙ sym (length-set (flags ws n) s true)) (λ t l. elim (same_or_not t s) [
      | inl e ↦ ap (has (flags (inserted ws s) n)) e ∙ has-flags (inserted ws s) n more s ∙ flag-insert_same ws s inside ∙ sym (ap (has (set (flags ws n) s true)) e ∙ get_or-set_same (flags ws n) s true false (omega (arith, h, length-flags ws n)))
      | inr ne ↦ has-flags (inserted ws s) n more t ∙ flag-insert_other ws s t inside ne ∙ sym (has-flags ws n packed t) ∙ sym (get_or-set_other (flags ws n) s t true false ne)
    ])
  where
    inside : s / 64 < length ws
    inside = omega (arith, h, packed.long)

    more : IsPacked (inserted ws s) n
    more = packed-insert ws n s packed h

-- ---- sets behind references

pub insert_packed : (ws : List ℕ) (n s w : ℕ) → IsPacked ws n → s < n → w ≡ get_or ws (s / 64) w → IsPacked (set ws (s / 64) (bit_or w (1 * 2 ^ (s % 64) % 2 ^ 64))) n
insert_packed ws n s w packed h is =
    subst (λ x. IsPacked (set ws (s / 64) (bit_or x (1 * 2 ^ (s % 64) % 2 ^ 64))) n) (sym (word_at ws n s w packed h is)) (packed-insert ws n s packed h)

pub insert_is : (ws : List ℕ) (n s w : ℕ) (p : List Bool) → IsPacked ws n → flags ws n ≡ p → s < n → w ≡ get_or ws (s / 64) w → flags (set ws (s / 64) (bit_or w (1 * 2 ^ (s % 64) % 2 ^ 64))) n ≡ set p s true
insert_is ws n s w p packed e h is =
    ap (λ x. flags (set ws (s / 64) (bit_or x (1 * 2 ^ (s % 64) % 2 ^ 64))) n) (word_at ws n s w packed h is) ∙ flags-insert ws n s packed h ∙ ap (λ q. set q s true) e
