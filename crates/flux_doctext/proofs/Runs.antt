-- Whole runs of the reader: whether a text fits, and the forest that it gives.
use Rattle.std.specs.Prelude.{◌-◌, ℕ, Bool, false, List, [], ◌∷◌, Option, Some, None}
use Rattle.std.proofs.Common.{suc}
use Rattle.flux_trees.specs.Draft.{depth}
use Rattle.flux_doctext.specs.Reading.{Shape, Event, enter, leave, Step, step, end_step, end_fits, PlainDraft, draft_after}

-- how many elements are open then
abbrev pub depth_after : List Event → ℕ → ℕ
depth_after [] n = n
depth_after (enter text ∷ es) n = depth_after es (suc n)
depth_after (leave ∷ es) n = depth_after es (n - 1)
depth_after (_ ∷ es) n = depth_after es n

-- whether a text may go on so, and end
abbrev pub and_fits : Step → ℕ → (Shape → ℕ → Bool) → Bool
and_fits None n go = false
and_fits (Some s) n go = go s.0 (depth_after s.1 n)

abbrev pub fits : Shape → ℕ → List ℕ → Bool
fits s n [] = end_fits (end_step s) n
fits s n (b ∷ bs) = and_fits (step s n b) n (λ t m. fits t m bs)

-- the forest that a text gives so, over a table that has its labels
abbrev pub and_read : List (List ℕ) → Step → PlainDraft → (Shape → PlainDraft → Option PlainDraft) → Option PlainDraft
and_read names None d go = None
and_read names (Some s) d go = go s.0 (draft_after names s.1 d)

abbrev pub end_read : List (List ℕ) → Option (List Event) → PlainDraft → Option PlainDraft
end_read names None d = None
end_read names (Some es) d = Some (draft_after names es d)

abbrev pub read : List (List ℕ) → Shape → PlainDraft → List ℕ → Option PlainDraft
read names s d [] = end_read names (end_step s) d
read names s d (b ∷ bs) = and_read names (step s (depth d) b) d (λ t e. read names t e bs)
