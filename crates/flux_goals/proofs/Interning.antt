-- Goals that are found by hash, and new ones.
use Rattle.std.proofs.Common.{◌≡◌, ℕ, List, [], ◌∷◌, ◌++◌, length, map, true, false, Option, Some, None, is_some, slice_get, refl, sym, ap, ◌∙◌, rules, arith}
use Rattle.std.specs.List.{position}
use Rattle.std.proofs.lemmas.List.Quantifiers.{position-Some}
use Rattle.std.proofs.lemmas.Option.{get_or_from_slice_get}
use Rattle.flux_auto.proofs.Meaning.{get-map, length-map, got}
use Rattle.flux_goals.specs.declared.goal.Goal.{Goal}
use Rattle.flux_goals.specs.contracts.goal.GoalPartialEq.TheImpl.{eq-value}
use Rattle.flux_goals.specs.Table.{Entry, IsAt}
use Rattle.flux_auto.proofs.Items.{get-end}

same_goal : (x y : Goal) → eq-value.it x y ≡ true → (x.left ≡ y.left) × (x.right.items ≡ y.right.items)
same_goal x y h = search rules

-- the goal at the place that was found
pub at_position : (es : List Entry) (g : Goal) (i : ℕ) → position (eq-value.it g) (map (λ (e : Entry). e.0) es) ≡ Some i → IsAt es i g.left g.right.items
at_position es g i e =
    let p = position-Some (eq-value.it g) (map (λ (e : Entry). e.0) es) i g e in
    let x = got es i (omega (arith, p.0, length-map (λ (e : Entry). e.0) es)) in
    let is = get_or_from_slice_get (map (λ (e : Entry). e.0) es) i x.0.0 g (get-map (λ (e : Entry). e.0) es i x.0 x.1) in
    let same = same_goal g x.0.0 (ap (eq-value.it g) (sym is) ∙ p.1) in
    (x.0, x.1, sym same.0, sym same.1)

pub not_some : {X : Type 0} (r : Option X) → ((x : X) → r ≡ Some x → ⊥) → is_some r ≡ false
not_some None no_some = refl
not_some (Some x) no_some = absurd (no_some x refl)

pub added_at : (gs hs : List Entry) (g : Goal) (n : ℕ) → hs ≡ gs ++ (g, None) ∷ [] → n ≡ length gs → IsAt hs n g.left g.right.items
added_at gs hs g n is e = ((g, None), ap (slice_get hs) e ∙ ap (λ l. slice_get l (length gs)) is ∙ get-end gs (g, None) [], refl, refl)
