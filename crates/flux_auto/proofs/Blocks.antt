-- Blocks of states, and sets with the states of one more.
use Rattle.std.proofs.Common.{◌≡◌, ℕ, zero, suc, ◌+◌, ◌-◌, ◌*◌, ◌/◌, ◌%◌, ◌^◌, ◌<◌, ◌≤◌, ◌==◌, ◌&&◌, ◌||◌, List, length, get_or, Bool, true, false, refl, sym, ap, ap₂, subst, ◌∙◌, inl, inr, arith, min, max}
use Rattle.std.proofs.Math.Bool.{or-false}
use Rattle.std.specs.Prelude.{bit_and, bit_or}
use Rattle.std.specs.Int.{bit_at}
use Rattle.std.proofs.Math.ListN.{set}
use Rattle.std.proofs.lemmas.List.{get_or-set_same, get_or-set_other, length-set}
use Rattle.std.proofs.lemmas.Nat.{or_lt, one_shl}
use Rattle.std.proofs.lemmas.Nat.Bits.{bit_at_and, bit_at_or, bit_at_ones, bit_at_ones_above, bit_at-pow_same, bit_at-pow_other, bit_at-lt}
use Rattle.std.proofs.lemmas.Bool.Decides.{eqb_tells}
use Rattle.std.specs.Int.Bits.{mask_lt}
use Rattle.std.proofs.Math.Pow.{pow-lt}
use Rattle.std.proofs.lemmas.Grind.{get_or_default_zero}
use Rattle.flux_atom.proofs.Plain.{same_or_not}
use Rattle.flux_auto.specs.declared.block.Block.{Block}
use Rattle.flux_auto.specs.Set.{flag, flags, IsPacked, in_block, with_block}
use Rattle.flux_auto.proofs.SetLaws.{told_same, with_block-told}

-- ---- more bits of a word

or_digit : (a b : ℕ) → a < 2 → b < 2 → (max a b == 1) ≡ (a == 1) || (b == 1)
or_digit zero zero h g = refl
or_digit zero (suc zero) h g = refl
or_digit (suc zero) zero h g = refl
or_digit (suc zero) (suc zero) h g = refl
or_digit (suc (suc a)) b h g = absurd (omega (arith, h))
or_digit a (suc (suc b)) h g = absurd (omega (arith, g))

-- the words with more bits of one
abbrev pub ored : List ℕ → ℕ → ℕ → List ℕ
ored ws k x = set ws k (bit_or (get_or ws k 0) x)

-- the state is that of one of these bits
abbrev is_more : ℕ → ℕ → ℕ → Bool
is_more k x s = (s / 64 == k) && (bit_at x (s % 64) == 1)

flag-or : (ws : List ℕ) (k x s : ℕ) → k < length ws → flag (ored ws k x) s ≡ flag ws s || is_more k x s
flag-or ws k x s h = elim (eqb_tells (s / 64) k) [
  | inl p ↦
      ap (λ j. bit_at (get_or (ored ws k x) j 0) (s % 64) == 1) p.1 ∙ ap (λ w. bit_at w (s % 64) == 1) (get_or-set_same ws k (bit_or (get_or ws k 0) x) 0 h)
      ∙ ap (λ d. d == 1) (bit_at_or (get_or ws k 0) x (s % 64)) ∙ or_digit (bit_at (get_or ws k 0) (s % 64)) (bit_at x (s % 64)) (bit_at-lt (get_or ws k 0) (s % 64)) (bit_at-lt x (s % 64))
      ∙ ap₂ (λ j b. (bit_at (get_or ws j 0) (s % 64) == 1) || (b && (bit_at x (s % 64) == 1))) (sym p.1) (sym p.0)
  | inr p ↦
      ap (λ w. bit_at w (s % 64) == 1) (get_or-set_other ws k (s / 64) (bit_or (get_or ws k 0) x) 0 p.1) ∙ sym (or-false (flag ws s))
      ∙ ap (λ b. flag ws s || (b && (bit_at x (s % 64) == 1))) (sym p.0)
]

-- the bits are those of states below the count
abbrev pub AreBelow : ℕ → ℕ → ℕ → Type 0
AreBelow n k x = (i : ℕ) → i < 64 → n ≤ 64 * k + i → bit_at x i ≡ 0

not_beyond : (n k x s : ℕ) → AreBelow n k x → n ≤ s → is_more k x s ≡ false
not_beyond n k x s below le = elim (eqb_tells (s / 64) k) [
  | inl p ↦ (let at = p.1 in ap₂ (λ b d. b && (d == 1)) p.0 (below (s % 64) (omega arith) (omega (arith, at, le))))
  | inr p ↦ ap (λ b. b && (bit_at x (s % 64) == 1)) p.0
]

pub packed-or : (ws : List ℕ) (n k x : ℕ) → IsPacked ws n → k < length ws → x < 2 ^ 64 → AreBelow n k x → IsPacked (ored ws k x) n
packed-or ws n k x packed h lt below = record {
  long = length-set ws k _ ∙ packed.long;
  small = λ j. elim (same_or_not j k) [
    | inl e ↦ subst (λ y. y < 2 ^ 64) (sym (ap (λ i. get_or (ored ws k x) i 0) e ∙ get_or-set_same ws k _ 0 h)) (or_lt 64 _ _ (packed.small k) lt)
    | inr ne ↦ subst (λ y. y < 2 ^ 64) (sym (get_or-set_other ws k j _ 0 ne)) (packed.small j)
  ];
  beyond = λ s le. flag-or ws k x s h ∙ ap₂ (λ a b. a || b) (packed.beyond s le) (not_beyond n k x s below le);
}

-- the bits of a block that are those of states below a count
abbrev pub AreOf : ℕ → Block → ℕ → Type 0
AreOf n b x = (i : ℕ) → i < 64 → 64 * b.number + i < n → bit_at x i ≡ bit_at b.bits i

flags-or : (ws : List ℕ) (n x : ℕ) (b : Block) → b.number < length ws → AreOf n b x → flags (ored ws b.number x) n ≡ with_block (flags ws n) b
flags-or ws n x b h same = told_same (flag (ored ws b.number x)) (λ s. flag ws s || in_block b s) n (λ s lt. flag-or ws b.number x s h ∙ ap (λ y. flag ws s || y) (one s lt)) ∙ sym (with_block-told (flag ws) n b)
  where
    one : (s : ℕ) → s < n → is_more b.number x s ≡ in_block b s
    one s lt = elim (eqb_tells (s / 64) b.number) [
      | inl p ↦ (let at = p.1 in ap (λ d. (s / 64 == b.number) && (d == 1)) (same (s % 64) (omega arith) (omega (arith, at, lt))))
      | inr p ↦ ap (λ y. y && (bit_at x (s % 64) == 1)) p.0 ∙ sym (ap (λ y. y && (bit_at b.bits (s % 64) == 1)) p.0)
    ]

-- ---- blocks

-- the block of one state
pub one_state : (t s : ℕ) → ((s / 64 == t / 64) && (bit_at (1 * 2 ^ (t % 64) % 2 ^ 64) (s % 64) == 1)) ≡ (s == t)
one_state t s = ap (λ x. (s / 64 == t / 64) && (bit_at x (s % 64) == 1)) (one_shl (t % 64) 64 (omega arith)) ∙ elim (eqb_tells s t) [
  | inl p ↦ ap₂ (λ b d. b && (d == 1)) (equal_is (s / 64) (t / 64) (ap (λ k. k / 64) p.1)) (ap (bit_at (2 ^ (t % 64))) (ap (λ k. k % 64) p.1) ∙ bit_at-pow_same (t % 64)) ∙ sym p.0
  | inr p ↦ elim (eqb_tells (s / 64) (t / 64)) [
    | inl q ↦ (let at = q.1 in let ne = p.1 in ap₂ (λ b d. b && (d == 1)) q.0 (bit_at-pow_other (t % 64) (s % 64) (λ e. ne (omega (arith, at, e)))) ∙ sym p.0)
    | inr q ↦ ap (λ b. b && (bit_at (2 ^ (t % 64)) (s % 64) == 1)) q.0 ∙ sym p.0
  ]
]
  where
    equal_is : (m n : ℕ) → m ≡ n → (m == n) ≡ true
    equal_is m n e = elim (eqb_tells m n) [ inl h ↦ h.0 | inr h ↦ absurd (h.1 e) ]

and_or : (x a b : Bool) → x && (a || b) ≡ (x && a) || (x && b)
and_or true a b = refl
and_or false a b = refl

-- the states of two blocks with one number
joined_block : (k a b s : ℕ) → ((s / 64 == k) && (bit_at (bit_or a b) (s % 64) == 1)) ≡ ((s / 64 == k) && (bit_at a (s % 64) == 1)) || ((s / 64 == k) && (bit_at b (s % 64) == 1))
joined_block k a b s =
    ap (λ d. (s / 64 == k) && (d == 1)) (bit_at_or a b (s % 64)) ∙ ap (λ x. (s / 64 == k) && x) (or_digit (bit_at a (s % 64)) (bit_at b (s % 64)) (bit_at-lt a (s % 64)) (bit_at-lt b (s % 64)))
    ∙ and_or (s / 64 == k) (bit_at a (s % 64) == 1) (bit_at b (s % 64) == 1)

pub joined_blocks : (a b : Block) (s : ℕ) → a.number ≡ b.number → in_block (record { number = a.number; bits = bit_or a.bits b.bits }) s ≡ in_block a s || in_block b s
joined_blocks a b s e = joined_block a.number a.bits b.bits s ∙ ap (λ k. in_block a s || ((s / 64 == k) && (bit_at b.bits (s % 64) == 1))) e

-- ---- the bits of a block that are below a count, in the last word

abbrev masked : ℕ → ℕ → ℕ
masked n x = bit_and x (1 * 2 ^ (n % 64) % 2 ^ 64 - 1)

masked_is : (n x : ℕ) → masked n x ≡ bit_and x (2 ^ (n % 64) - 1)
masked_is n x = ap (λ y. bit_and x (y - 1)) (one_shl (n % 64) 64 (omega arith))

min_one : (a : ℕ) → a < 2 → min a 1 ≡ a
min_one zero h = refl
min_one (suc zero) h = refl
min_one (suc (suc a)) h = absurd (omega (arith, h))

min_none : (a : ℕ) → min a 0 ≡ 0
min_none a = omega arith

masked-lt : (n x : ℕ) → masked n x < 2 ^ 64
masked-lt n x = subst (λ y. y < 2 ^ 64) (sym (masked_is n x)) (omega (arith, mask_lt x (n % 64), small (n % 64) (omega arith)))
  where
    small : (k : ℕ) → k < 64 → 2 ^ k < 2 ^ 64
    small k h = pow-lt h

masked-below : (n k x : ℕ) → k ≡ n / 64 → AreBelow n k (masked n x)
masked-below n k x at i h le = ap (λ y. bit_at y i) (masked_is n x) ∙ bit_at_and x (2 ^ (n % 64) - 1) i ∙ ap (min (bit_at x i)) (bit_at_ones_above (n % 64) i (omega (arith, at, le))) ∙ min_none (bit_at x i)

masked-of : (n : ℕ) (b : Block) → b.number ≡ n / 64 → AreOf n b (masked n b.bits)
masked-of n b at i h lt = ap (λ y. bit_at y i) (masked_is n b.bits) ∙ bit_at_and b.bits (2 ^ (n % 64) - 1) i ∙ ap (min (bit_at b.bits i)) (bit_at_ones (n % 64) i (omega (arith, at, lt))) ∙ min_one (bit_at b.bits i) (bit_at-lt b.bits i)

all-below : (n k x : ℕ) → k < n / 64 → AreBelow n k x
all-below n k x lt i h le = absurd (omega (arith, lt, h, le))

-- ---- sets behind references

word_is : (ws : List ℕ) (k w : ℕ) → k < length ws → w ≡ get_or ws k w → w ≡ get_or ws k 0
word_is ws k w h is = is ∙ get_or_default_zero ws k w h

inside : (ws : List ℕ) (n k : ℕ) → IsPacked ws n → k ≤ n / 64 → k < length ws
inside ws n k packed le = omega (arith, le, packed.long)

pub all_packed : (ws : List ℕ) (n k x w : ℕ) → IsPacked ws n → k < n / 64 → x < 2 ^ 64 → w ≡ get_or ws k w → IsPacked (set ws k (bit_or w x)) n
all_packed ws n k x w packed lt small is = subst (λ y. IsPacked (set ws k (bit_or y x)) n) (sym (word_is ws k w (inside ws n k packed (omega (arith, lt))) is)) (packed-or ws n k x packed (inside ws n k packed (omega (arith, lt))) small (all-below n k x lt))

pub all_is : (ws : List ℕ) (n w : ℕ) (b : Block) (p : List Bool) → IsPacked ws n → flags ws n ≡ p → b.number < n / 64 → w ≡ get_or ws b.number w → flags (set ws b.number (bit_or w b.bits)) n ≡ with_block p b
all_is ws n w b p packed e lt is =
    let at = inside ws n b.number packed (omega (arith, lt)) in
    ap (λ y. flags (set ws b.number (bit_or y b.bits)) n) (word_is ws b.number w at is) ∙ flags-or ws n b.bits b at (λ i h l. refl) ∙ ap (λ q. with_block q b) e

pub last_packed : (ws : List ℕ) (n k x w : ℕ) → IsPacked ws n → k ≡ n / 64 → w ≡ get_or ws k w → IsPacked (set ws k (bit_or w (bit_and x (1 * 2 ^ (n % 64) % 2 ^ 64 - 1)))) n
last_packed ws n k x w packed at is = subst (λ y. IsPacked (set ws k (bit_or y (masked n x))) n) (sym (word_is ws k w (inside ws n k packed (omega (arith, at))) is)) (packed-or ws n k (masked n x) packed (inside ws n k packed (omega (arith, at))) (masked-lt n x) (masked-below n k x at))

pub last_is : (ws : List ℕ) (n w : ℕ) (b : Block) (p : List Bool) → IsPacked ws n → flags ws n ≡ p → b.number ≡ n / 64 → w ≡ get_or ws b.number w → flags (set ws b.number (bit_or w (bit_and b.bits (1 * 2 ^ (n % 64) % 2 ^ 64 - 1)))) n ≡ with_block p b
last_is ws n w b p packed e at is =
    let in_words = inside ws n b.number packed (omega (arith, at)) in
    ap (λ y. flags (set ws b.number (bit_or y (masked n b.bits))) n) (word_is ws b.number w in_words is) ∙ flags-or ws n (masked n b.bits) b in_words (masked-of n b at) ∙ ap (λ q. with_block q b) e

-- a block beyond the count has no states of the set
pub none_is : (ws : List ℕ) (n : ℕ) (b : Block) (p : List Bool) → flags ws n ≡ p → n / 64 < b.number → p ≡ with_block p b
none_is ws n b p e lt = sym e ∙ told_same (flag ws) (λ s. flag ws s || in_block b s) n (λ s l. sym (or-false (flag ws s)) ∙ ap (λ x. flag ws s || x) (sym (off s l))) ∙ sym (with_block-told (flag ws) n b) ∙ ap (λ q. with_block q b) e
  where
    off : (s : ℕ) → s < n → in_block b s ≡ false
    off s l = elim (eqb_tells (s / 64) b.number) [
      | inl q ↦ absurd (let at = q.1 in omega (arith, at, l, lt))
      | inr q ↦ ap (λ y. y && (bit_at b.bits (s % 64) == 1)) q.0
    ]
