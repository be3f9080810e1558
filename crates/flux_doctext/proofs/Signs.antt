-- What a sign says of its byte.
use Rattle.std.proofs.Common.{◌≡◌, ℕ, ◌<◌, Bool, true, false, ◌==◌, List, [], ◌∷◌, ◌++◌, ◌⊎◌, inl, inr, if◌then◌else◌, refl, sym, ap, ap₂, ◌∙◌, arith}
use Rattle.std.proofs.lemmas.Bool.{eqb-true, false≢true}
use Rattle.std.proofs.lemmas.Bool.Decides.{nat_tests}
use Rattle.std.specs.Char.{is_ascii_digit}
use Rattle.std.specs.Prelude.{◌-◌, Option, Some, None, pos}
use Rattle.flux_atom.specs.declared.number.NumberState.{NumberState}
use Rattle.flux_atom.specs.declared.number.NumberState.TheVariants.{Minus, Digits}
use Rattle.flux_atom.specs.NumberSteps.{minus, number_begin}
use Rattle.flux_atom.specs.Names.{begins_name, continues_name, EndsName}
use Rattle.flux_atom.specs.Literal.{quote}
use Rattle.flux_atom.specs.Space.{is_space, IsSpace}
use Rattle.flux_doctext.specs.declared.sign.Sign.{Sign}
use Rattle.flux_doctext.specs.declared.sign.Sign.TheVariants.{Space, Comma, LeftBracket, RightBracket, LeftParen, RightParen, Quote, Letter, Digit, Other}
use Rattle.flux_doctext.specs.Reading.{sign_of}
use Rattle.std.proofs.lemmas.List.Elements.{All-head}

abbrev pub IsSignOf : ℕ → Sign → Type 0
IsSignOf b Space = is_space b ≡ true
IsSignOf b Comma = b ≡ 44
IsSignOf b LeftBracket = b ≡ 91
IsSignOf b RightBracket = b ≡ 93
IsSignOf b LeftParen = b ≡ 40
IsSignOf b RightParen = b ≡ 41
IsSignOf b Quote = b ≡ quote
IsSignOf b Letter = begins_name b ≡ true
IsSignOf b Digit = continues_name b ≡ true
IsSignOf b Other = continues_name b ≡ false

-- the tests one after the other
sign_by : Bool → Bool → Bool → Bool → Bool → Bool → Bool → Bool → Bool → Sign
sign_by a b c d e f g h i =
    if a then Space else if b then Comma else if c then LeftBracket else if d then RightBracket else
    if e then LeftParen else if f then RightParen else if g then Quote else if h then Letter else
    if i then Digit else Other

signs : (x : ℕ) (a b c d e f g h i : Bool) → is_space x ≡ a → (x == 44) ≡ b → (x == 91) ≡ c → (x == 93) ≡ d → (x == 40) ≡ e → (x == 41) ≡ f → (x == quote) ≡ g → begins_name x ≡ h → continues_name x ≡ i → IsSignOf x (sign_by a b c d e f g h i)
unfolding sign_by
signs x true b c d e f g h i p0 p1 p2 p3 p4 p5 p6 p7 p8 = p0
signs x false true c d e f g h i p0 p1 p2 p3 p4 p5 p6 p7 p8 = eqb-true x 44 p1
signs x false false true d e f g h i p0 p1 p2 p3 p4 p5 p6 p7 p8 = eqb-true x 91 p2
signs x false false false true e f g h i p0 p1 p2 p3 p4 p5 p6 p7 p8 = eqb-true x 93 p3
signs x false false false false true f g h i p0 p1 p2 p3 p4 p5 p6 p7 p8 = eqb-true x 40 p4
signs x false false false false false true g h i p0 p1 p2 p3 p4 p5 p6 p7 p8 = eqb-true x 41 p5
signs x false false false false false false true h i p0 p1 p2 p3 p4 p5 p6 p7 p8 = eqb-true x quote p6
signs x false false false false false false false true i p0 p1 p2 p3 p4 p5 p6 p7 p8 = p7
signs x false false false false false false false false true p0 p1 p2 p3 p4 p5 p6 p7 p8 = p8
signs x false false false false false false false false false p0 p1 p2 p3 p4 p5 p6 p7 p8 = p8

pub sign_is : (x : ℕ) → IsSignOf x (sign_of x)
unfolding sign_by
sign_is x = signs x (is_space x) (x == 44) (x == 91) (x == 93) (x == 40) (x == 41) (x == quote) (begins_name x) (continues_name x) refl refl refl refl refl refl refl refl refl

pub space_sign : (b : ℕ) → is_space b ≡ true → sign_of b ≡ Space
space_sign b e = rw e refl

-- a space continues no name
pub space_ends : (b : ℕ) → is_space b ≡ true → continues_name b ≡ false
space_ends b e = grind (arith, nat_tests)

begin_tests : (b : ℕ) → begins_name b ≡ true → (is_space b ≡ false) × ((b == 44) ≡ false) × ((b == 91) ≡ false) × ((b == 93) ≡ false) × ((b == 40) ≡ false) × ((b == 41) ≡ false) × ((b == 34) ≡ false)
begin_tests b e = (grind (arith, nat_tests), grind (arith, nat_tests), grind (arith, nat_tests), grind (arith, nat_tests), grind (arith, nat_tests), grind (arith, nat_tests), grind (arith, nat_tests))

pub letter_sign : (b : ℕ) → begins_name b ≡ true → sign_of b ≡ Letter
letter_sign b e = let t = begin_tests b e in rw (t.0, t.1, t.2, t.3, t.4, t.5, t.6, e) refl

continue_tests : (b : ℕ) → continues_name b ≡ true → (is_space b ≡ false) × ((b == 44) ≡ false) × ((b == 91) ≡ false) × ((b == 93) ≡ false) × ((b == 40) ≡ false) × ((b == 41) ≡ false) × ((b == 34) ≡ false)
continue_tests b e = (grind (arith, nat_tests), grind (arith, nat_tests), grind (arith, nat_tests), grind (arith, nat_tests), grind (arith, nat_tests), grind (arith, nat_tests), grind (arith, nat_tests))

pub named_sign : (b : ℕ) → continues_name b ≡ true → (sign_of b ≡ Letter) ⊎ (sign_of b ≡ Digit)
named_sign b e = by (begins_name b) refl
  where
    by : (t : Bool) → begins_name b ≡ t → (sign_of b ≡ Letter) ⊎ (sign_of b ≡ Digit)
    by true h = inl (letter_sign b h)
    by false h =
        let t = continue_tests b e in
        inr (rw (t.0, t.1, t.2, t.3, t.4, t.5, t.6, h, e) refl)

-- the first byte of a number continues a name, and begins none
pub digit_sign : (b : ℕ) (at : NumberState) → number_begin b ≡ Some at → sign_of b ≡ Digit
digit_sign b at e = by (b == minus) refl (is_ascii_digit b) refl
  where
    signed : continues_name b ≡ true → begins_name b ≡ false → sign_of b ≡ Digit
    signed f h = let t = continue_tests b f in rw (t.0, t.1, t.2, t.3, t.4, t.5, t.6, h, f) refl

    neither : (x y : Bool) → (b == minus) ≡ x → is_ascii_digit b ≡ y → (if x then Some Minus else (if y then Some (Digits (pos (b - 48))) else None)) ≡ Some at
    neither x y f h = sym (ap₂ (λ v w. if v then Some Minus else (if w then Some (Digits (pos (b - 48))) else None)) f h) ∙ e

    by : (x : Bool) → (b == minus) ≡ x → (y : Bool) → is_ascii_digit b ≡ y → sign_of b ≡ Digit
    by true f y h = let is : b ≡ minus = eqb-true b minus f in ap sign_of is
    by false f true h = signed (grind (arith, nat_tests)) (grind (arith, nat_tests))
    by false f false h = let none : ◌≡◌ {A = Option NumberState} None (Some at) = neither false false f h in absurd cc

-- and no digit goes on where no name does
pub no_digit : (b : ℕ) → continues_name b ≡ false → is_ascii_digit b ≡ false
no_digit b e = grind (arith, nat_tests)

-- what a sign that is in no name says of its byte
abbrev pub IsNamed : Sign → Type 0
IsNamed Letter = Unit {0}
IsNamed Digit = Unit {0}
IsNamed _ = ⊥

pub begins-continues : (b : ℕ) → begins_name b ≡ true → continues_name b ≡ true
begins-continues b e = grind (arith, nat_tests)

pub named_continues : (b : ℕ) → IsNamed (sign_of b) → continues_name b ≡ true
named_continues b n = by (sign_of b) n (sign_is b)
  where
    by : (s : Sign) → IsNamed s → IsSignOf b s → continues_name b ≡ true
    by Letter n is = begins-continues b is
    by Digit n is = is
    by Space n is = absurd n
    by Comma n is = absurd n
    by LeftBracket n is = absurd n
    by RightBracket n is = absurd n
    by LeftParen n is = absurd n
    by RightParen n is = absurd n
    by Quote n is = absurd n
    by Other n is = absurd n

pub not_named : (b : ℕ) → continues_name b ≡ false → IsNamed (sign_of b) → ⊥
not_named b e n = false≢true (sym e ∙ named_continues b n)

pub spaces_end : (u more : List ℕ) → IsSpace u → EndsName more → EndsName (u ++ more)
spaces_end [] more space ends = ends
spaces_end (b ∷ u) more space ends =
    space_ends b (All-head (λ x. is_space x ≡ true) b u space)

-- bytes of names are ASCII
pub continues_ascii : (b : ℕ) → continues_name b ≡ true → b < 128
continues_ascii b e = grind (arith, nat_tests)
