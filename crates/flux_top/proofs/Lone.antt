-- The labels that are all of steps, one after the other.
use Rattle.std.proofs.Common.{◌≡◌, ◌≢◌, ◌<◌, ◌+◌, ◌∙◌, sym, ap, ap₂, ℕ, List, [], ◌∷◌, ◌++◌, length, map, take, Some, None, get_or, arith}
use Rattle.std.proofs.lemmas.List.{get_or-map, length-map, map-append, take_more}
use Rattle.flux_grammar.specs.declared.tree.Step.{Step}
use Rattle.flux_top.specs.Script.{lone_label}

-- one step more
pub lone_next : (steps : List Step) (path : List ℕ) (i n : ℕ) (d : Step) → i < length steps → map lone_label (take i steps) ≡ map Some path → lone_label (get_or steps i d) ≡ Some n → map lone_label (take (i + 1) steps) ≡ map Some (path ++ n ∷ [])
lone_next steps path i n d below before is =
    ap (map lone_label) (take_more steps i d below) ∙ map-append lone_label (take i steps) (get_or steps i d ∷ []) ∙ ap₂ (λ l o. l ++ o ∷ []) before is ∙ sym (map-append Some path (n ∷ []))

-- a step that is more than a label
pub lone_none : (steps : List Step) (i : ℕ) (d : Step) → i < length steps → lone_label (get_or steps i d) ≡ None → (path : List ℕ) → map lone_label steps ≢ map Some path
lone_none steps i d below none path is =
    let long : i < length path = omega (arith, below, ap length is, length-map steps lone_label, length-map path Some) in
    let both : None ≡ Some (get_or path i 0) =
    sym none ∙ sym (get_or-map lone_label steps i d (Some 0) below) ∙ ap (λ l. get_or l i (Some 0)) is ∙ get_or-map Some path i 0 (Some 0) long in
    cc
