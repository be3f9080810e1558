-- The first of the names `other`, `other1`, `other2` and so on that a table lacks.
use Rattle.std.specs.Prelude.{◌≡◌, ℕ, ◌<◌, List, ◌++◌, Contains, codes}
use Rattle.std.proofs.Common.{zero, suc}
use Rattle.std.specs.Fmt.{decimal}

-- the names that are tried, in order
abbrev pub candidate : ℕ → List ℕ
candidate zero = codes "other"
candidate (suc k) = codes "other" ++ decimal (suc k)

-- the text is the first of them that is not among the texts
pub record IsFresh (texts : List (List ℕ)) (text : List ℕ) : Type 0 where
  pub number : ℕ
  pub is_candidate : text ≡ candidate number
  pub lacked : ¬ (Contains texts text)
  pub first : (k : ℕ) → k < number → Contains texts (candidate k)
