-- The texts of names, over a table with more names behind.
use Rattle.std.proofs.Common.{◌≡◌, ◌<◌, ap, ap₂, refl, ℕ, List, [], ◌∷◌, ◌++◌, length, map}
use Rattle.std.specs.Prelude.{All, unwrap_or}
use Rattle.std.proofs.lemmas.List.Elements.{All-head, All-tail}
use Rattle.flux_doctext.specs.Text.{name_text}
use Rattle.flux_doctext.proofs.TextLaws.{slice_get-more}

-- each name is one of the table's
abbrev pub Within : List (List ℕ) → List ℕ → Type 0
Within names path = All (λ n. n < length names) path

-- they stay the same
pub path-more : (names more : List (List ℕ)) (path : List ℕ) → Within names path → map (name_text (names ++ more)) path ≡ map (name_text names) path
path-more names more [] within = refl
path-more names more (a ∷ path) within =
    ap₂ (λ t l. t ∷ l) (ap (λ o. unwrap_or o []) (slice_get-more names more a (All-head (λ b. b < length names) a path within))) (path-more names more path (All-tail (λ b. b < length names) a path within))
