-- A law of the answers.
use Rattle.std.specs.Prelude.{◌≡◌, ℕ, List}
use Rattle.flux_io.specs.Outside.{Held}
use Rattle.flux_top.specs.Answer.{Answer}
use Rattle.flux_top.specs.declared.status.Status.{Status}

-- two answers to the same words, over the same files, have one status, one output and one line
abbrev pub AnswerIsUnique : Type 0
AnswerIsUnique =
    (held : Held) (words : List (List ℕ)) (s t : Status) (o p l m : List ℕ) →
    Answer held words s o l → Answer held words t p m → (s ≡ t) × (o ≡ p) × (l ≡ m)
