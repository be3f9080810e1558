-- Signs of one byte that begin no longer sign.
use Rattle.std.proofs.Common.{◌≡◌, ℕ, true, false, List, [], ◌∷◌, ◌++◌, Contains, refl, sym, ◌∙◌, arith}
use Rattle.std.proofs.lemmas.Bool.{false≢true}
use Rattle.std.proofs.lemmas.List.Elements.{All-contains, All-from_recursion}
use Rattle.flux_atom.specs.Names.{EndsName}
use Rattle.flux_grammar.specs.declared.lexeme.Sign.{Sign as Mark}
use Rattle.flux_grammar.specs.declared.lexeme.Sign.TheVariants as sign
use Rattle.flux_grammar.specs.Lexemes.{sign_text}
use Rattle.flux_grammar.specs.Tokens.{signs, EndsSign}
use Rattle.flux_grammar.specs.TokenSteps.{is_longer_sign}

-- two bytes that are a sign
abbrev IsPair : List ℕ → Type 0
IsPair [] = Unit {0}
IsPair (a ∷ []) = Unit {0}
IsPair (a ∷ b ∷ []) = is_longer_sign a b ≡ true
IsPair (a ∷ b ∷ c ∷ l) = Unit {0}

each_pair : (text : List ℕ) → Contains signs text → IsPair text
each_pair text at =
    All-contains IsPair signs text
    (All-from_recursion IsPair signs (tt, (tt, (tt, (tt, (tt, (tt, (tt, (tt, (tt, (refl, (tt, (refl, (tt, (tt, (tt, (tt, (tt, (tt, (tt, tt))))))))))))))))))))
    at

no_pair : (a b : ℕ) → is_longer_sign a b ≡ false → ¬ (Contains signs (a ∷ b ∷ []))
no_pair a b e at = false≢true (sym e ∙ each_pair (a ∷ b ∷ []) at)

ends : (a : ℕ) → ((b : ℕ) → is_longer_sign a b ≡ false) → (rest : List ℕ) → EndsSign (a ∷ []) rest
ends a never [] = tt
ends a never (b ∷ rest) = no_pair a b (never b)

-- it is a sign, whatever stands behind it, and a name ends before it
pub record Single (s : Mark) : Type 0 where
  pub is : Contains signs (sign_text s)
  pub ends : (rest : List ℕ) → EndsSign (sign_text s) rest
  pub stops : (rest : List ℕ) → EndsName (sign_text s ++ rest)

pub open_single : Single sign.Open
open_single = record { is = (0, omega arith, refl); ends = ends 40 (λ b. refl); stops = λ rest. refl }

pub close_single : Single sign.Close
close_single = record { is = (1, omega arith, refl); ends = ends 41 (λ b. refl); stops = λ rest. refl }

pub open_square_single : Single sign.OpenSquare
open_square_single = record { is = (2, omega arith, refl); ends = ends 91 (λ b. refl); stops = λ rest. refl }

pub close_square_single : Single sign.CloseSquare
close_square_single = record { is = (3, omega arith, refl); ends = ends 93 (λ b. refl); stops = λ rest. refl }

pub comma_single : Single sign.Comma
comma_single = record { is = (6, omega arith, refl); ends = ends 44 (λ b. refl); stops = λ rest. refl }

pub star_single : Single sign.Star
star_single = record { is = (14, omega arith, refl); ends = ends 42 (λ b. refl); stops = λ rest. refl }

pub bar_single : Single sign.Bar
bar_single = record { is = (17, omega arith, refl); ends = ends 124 (λ b. refl); stops = λ rest. refl }
