-- What nodes that move from one side to the other leave on each.
use Rattle.std.proofs.Common.{◌≡◌, ℕ, ◌+◌, List, ◌++◌, length, take, drop, reverse, refl, ap, ◌∙◌, sym, arith, length-append, append_assoc}
use Rattle.flux_forest.specs.declared.node.Node.{Node}
use Rattle.flux_plain.specs.Layout.{HasMoved}
use Rattle.std.proofs.lemmas.List.{reverse-append, reverse-reverse, length-reverse, take_at, drop_at}

-- lists that end as long as each other are the same part by part
same_parts : {A : Type 0} (a b c d : List A) → length a ≡ length b → a ++ c ≡ b ++ d → (a ≡ b) × (c ≡ d)
same_parts a b c d e same = (
  sym (take_at a c (length a) refl) ∙ ap (take (length a)) same ∙ take_at b d (length a) (sym e),
  sym (drop_at a c (length a) refl) ∙ ap (drop (length a)) same ∙ drop_at b d (length a) (sym e),
)

-- the last nodes on the left, b, go to the right
pub moved_right : {left right new_left new_right : List Node} {count : ℕ} → HasMoved left right new_left new_right count → (a b : List Node) → left ≡ a ++ b → length b ≡ count → (new_left ≡ a) × (reverse new_right ≡ b ++ reverse right)
moved_right {left} {right} {new_left} {new_right} m a b is l =
    let joined : new_left ++ reverse new_right ≡ a ++ (b ++ reverse right) = m.order ∙ ap (λ ns. ns ++ reverse right) is ∙ append_assoc a b (reverse right) in
    let long : length new_left ≡ length a = omega (arith, ap length joined, length-append new_left (reverse new_right), length-append a (b ++ reverse right), length-append b (reverse right), length-reverse new_right, length-reverse right, m.moved) in
    same_parts new_left a (reverse new_right) (b ++ reverse right) long joined

-- the first nodes on the right, b, go to the left
pub moved_left : {left right new_left new_right : List Node} {count : ℕ} → HasMoved right left new_right new_left count → (b c : List Node) → reverse right ≡ b ++ c → length b ≡ count → (new_left ≡ left ++ b) × (reverse new_right ≡ c)
moved_left {left} {right} {new_left} {new_right} m b c is l =
    let turned : new_left ++ reverse new_right ≡ left ++ reverse right = ap (λ ns. ns ++ reverse new_right) (sym (reverse-reverse new_left)) ∙ sym (reverse-append new_right (reverse new_left)) ∙ ap reverse m.order ∙ reverse-append right (reverse left) ∙ ap (λ ns. ns ++ reverse right) (reverse-reverse left) in
    let joined : new_left ++ reverse new_right ≡ (left ++ b) ++ c = turned ∙ ap (λ ns. left ++ ns) is ∙ sym (append_assoc left b c) in
    let long : length new_left ≡ length (left ++ b) = omega (arith, length-append left b, m.moved) in
    same_parts new_left (left ++ b) (reverse new_right) c long joined

-- they are as many as before
pub moved_length : {from to new_from new_to : List Node} {count : ℕ} → HasMoved from to new_from new_to count → length new_from + length new_to ≡ length from + length to
moved_length {from} {to} {new_from} {new_to} m =
    omega (arith, ap length m.order, length-append new_from (reverse new_to), length-append from (reverse to), length-reverse new_to, length-reverse to)
