-- Which bytes are signs, and how a reader of tokens meets them.
use Rattle.std.proofs.Common.{◌≡◌, ℕ, true, ◌&&◌, ◌==◌, ◌⊎◌, inl, inr, List, [], ◌∷◌, All, codes, Contains, None, Some, refl, sym, ap, subst, subst₂, arith}
use Rattle.std.proofs.lemmas.Bool.{and_parts, eqb-true, or_cases}
use Rattle.std.proofs.lemmas.List.Elements.{All-contains, All-from_recursion}
use Rattle.std.proofs.lemmas.List.Folds.{Any-from_list_any}
use Rattle.flux_atom.specs.NumberSteps.{number_begin}
use Rattle.flux_grammar.specs.Tokens.{signs}
use Rattle.flux_grammar.specs.TokenSteps.{sign, begin_stage, is_sign, is_longer_sign}

-- the bytes that are signs
abbrev sign_bytes : List ℕ
sign_bytes = codes "()[]{},;:=</*+?|."

-- what holds of each of them
each_sign : (P : ℕ → Type 0) → All P sign_bytes → (b : ℕ) → is_sign b ≡ true → P b
each_sign P each b e =
    let found = Any-from_list_any (λ c. c == b) sign_bytes e in
    subst P (eqb-true found.1 b found.4) (All-contains P sign_bytes found.1 each (found.0, found.2, found.3))

pub sign_in : (b : ℕ) → is_sign b ≡ true → Contains signs (b ∷ [])
sign_in b e =
    each_sign (λ c. Contains signs (c ∷ []))
    (All-from_recursion (λ c. Contains signs (c ∷ [])) sign_bytes ((0, omega arith, refl), ((1, omega arith, refl), ((2, omega arith, refl), ((3, omega arith, refl), ((4, omega arith, refl), ((5, omega arith, refl), ((6, omega arith, refl), ((7, omega arith, refl), ((8, omega arith, refl), ((10, omega arith, refl), ((12, omega arith, refl), ((13, omega arith, refl), ((14, omega arith, refl), ((15, omega arith, refl), ((16, omega arith, refl), ((17, omega arith, refl), ((18, omega arith, refl), tt))))))))))))))))))
    b e

pub sign_begins : (b : ℕ) → is_sign b ≡ true → begin_stage b ≡ Some (sign b)
sign_begins b e =
    each_sign (λ c. begin_stage c ≡ Some (sign c))
    (All-from_recursion (λ c. begin_stage c ≡ Some (sign c)) sign_bytes (refl, (refl, (refl, (refl, (refl, (refl, (refl, (refl, (refl, (refl, (refl, (refl, (refl, (refl, (refl, (refl, (refl, tt))))))))))))))))))
    b e

pub sign_no_number : (b : ℕ) → is_sign b ≡ true → number_begin b ≡ None
sign_no_number b e =
    each_sign (λ c. number_begin c ≡ None)
    (All-from_recursion (λ c. number_begin c ≡ None) sign_bytes (refl, (refl, (refl, (refl, (refl, (refl, (refl, (refl, (refl, (refl, (refl, (refl, (refl, (refl, (refl, (refl, (refl, tt))))))))))))))))))
    b e

-- a sign is one such byte, or two that make a longer one
abbrev pub IsShape : List ℕ → Type 0
IsShape [] = ⊥
IsShape (a ∷ []) = is_sign a ≡ true
IsShape (a ∷ b ∷ []) = is_longer_sign a b ≡ true
IsShape (a ∷ b ∷ c ∷ l) = ⊥

pub sign_shape : (text : List ℕ) → Contains signs text → IsShape text
sign_shape text at =
    All-contains IsShape signs text
    (All-from_recursion IsShape signs (refl, (refl, (refl, (refl, (refl, (refl, (refl, (refl, (refl, (refl, (refl, (refl, (refl, (refl, (refl, (refl, (refl, (refl, (refl, tt))))))))))))))))))))
    at

-- the bytes of a longer sign
longer_bytes : (a b : ℕ) → is_longer_sign a b ≡ true → ((a ≡ 58) × (b ≡ 58)) ⊎ ((a ≡ 61) × (b ≡ 62))
longer_bytes a b e = by (or_cases (a == 58 && b == 58) (a == 61 && b == 62) e)
  where
    by : ((a == 58 && b == 58) ≡ true) ⊎ ((a == 61 && b == 62) ≡ true) → ((a ≡ 58) × (b ≡ 58)) ⊎ ((a ≡ 61) × (b ≡ 62))
    by (inl f) = let both = and_parts (a == 58) (b == 58) f in inl (eqb-true a 58 both.0, eqb-true b 58 both.1)
    by (inr f) = let both = and_parts (a == 61) (b == 62) f in inr (eqb-true a 61 both.0, eqb-true b 62 both.1)

pub longer_in : (a b : ℕ) → is_longer_sign a b ≡ true → Contains signs (a ∷ b ∷ [])
longer_in a b e = by (longer_bytes a b e)
  where
    by : ((a ≡ 58) × (b ≡ 58)) ⊎ ((a ≡ 61) × (b ≡ 62)) → Contains signs (a ∷ b ∷ [])
    by (inl (p, q)) = subst₂ (λ x y. Contains signs (x ∷ y ∷ [])) (sym p) (sym q) (9, omega arith, refl)
    by (inr (p, q)) = subst₂ (λ x y. Contains signs (x ∷ y ∷ [])) (sym p) (sym q) (11, omega arith, refl)

-- its first byte is a sign too
pub longer_first : (a b : ℕ) → is_longer_sign a b ≡ true → is_sign a ≡ true
longer_first a b e = by (longer_bytes a b e)
  where
    by : ((a ≡ 58) × (b ≡ 58)) ⊎ ((a ≡ 61) × (b ≡ 62)) → is_sign a ≡ true
    by (inl (p, q)) = ap is_sign p
    by (inr (p, q)) = ap is_sign p
