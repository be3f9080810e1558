-- The place of a name among names that differ.
use Rattle.std.proofs.Common.{◌≡◌, ◌<◌, ◌+◌, ℕ, zero, suc, Bool, true, false, not, cond, ◌==◌, nat_lt, Some, None, List, [], ◌∷◌, length, slice_get, refl, ap, ◌∙◌, arith, option_map}
use Rattle.std.specs.List.{prefix_len}
use Rattle.std.proofs.lemmas.Bool.{eq-eqb, eqb-true, lt-ltb}
use Rattle.std.proofs.lemmas.Option.{slice_get-map, slice_get_within}
use Rattle.flux_grammar.specs.TypeOf.{named_by}
use Rattle.flux_schema.specs.Definitions.{Definition, Definitions, names_of, Differ}
use Rattle.flux_schema.specs.Ty.{named}

abbrev before : ℕ → List ℕ → ℕ
before n names = prefix_len (λ m. not (m == n)) names

one_more : (n m i k : ℕ) (b : Bool) → (m == n) ≡ b → (m ≡ n → ⊥) → k ≡ i → cond (not (m == n)) (1 + k) 0 ≡ suc i
one_more n m i k true e other same = absurd (other (eqb-true m n e))
one_more n m i k false e other same = ap (λ b. cond (not b) (1 + k) 0) e ∙ omega arith

first_at : (names : List ℕ) (i n : ℕ) → slice_get names i ≡ Some n → ((j : ℕ) → slice_get names j ≡ Some n → j ≡ i) → before n names ≡ i
first_at [] i n at only = absurd cc
first_at (m ∷ ms) zero n at only =
    let same : m ≡ n = cc in
    ap (λ b. cond (not b) (1 + before n ms) 0) (eq-eqb m n same)
first_at (m ∷ ms) (suc i) n at only =
    one_more n m i (before n ms) (m == n) refl (λ e. omega (arith, only 0 (ap Some e)))
    (first_at ms i n at (λ j e. omega (arith, only (suc j) e)))

-- a definition is the one that its name names
pub named_here : (defs : Definitions) → Differ (names_of defs) → (x : ℕ) (d : Definition) → slice_get defs x ≡ Some d → named_by (names_of defs) d.name ≡ Some (named x)
named_here defs apart x d at =
    let there : slice_get (names_of defs) x ≡ Some d.name = slice_get-map (λ (e : Definition). e.name) defs x ∙ ap (option_map (λ (e : Definition). e.name)) at in
    let first : before d.name (names_of defs) ≡ x = first_at (names_of defs) x d.name there (λ j e. apart j x d.name e there) in
    let within : x < length (names_of defs) = slice_get_within (names_of defs) x d.name there in
    ap (λ i. option_map named (cond (nat_lt i (length (names_of defs))) (Some i) None)) first
    ∙ ap (λ b. option_map named (cond b (Some x) None)) (lt-ltb x (length (names_of defs)) within)
