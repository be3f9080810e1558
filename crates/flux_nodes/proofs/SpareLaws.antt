-- The free list and the numbers to come.
use Rattle.std.proofs.Common.{◌≡◌, ℕ, ◌+◌, ◌-◌, ◌<◌, ◌≤◌, zero, suc, List, [], ◌∷◌, length, drop, Option, Some, None, refl, ap, ◌∙◌, sym, subst, arith}
use Rattle.std.specs.List.{slice_get}
use Rattle.std.proofs.lemmas.Option.{slice_get_within}
use Rattle.flux_trees.specs.Edits.{Supply, preceded}
use Rattle.flux_nodes.specs.declared.cell.NodeId.{NodeId}
use Rattle.flux_nodes.specs.declared.cell.Cell.{Cell}
use Rattle.flux_nodes.specs.Tables.{Meaning, made_in, supply}
use Rattle.flux_nodes.specs.Decoded.{meaning_of}
use Rattle.flux_nodes.specs.Kept.{IsSpare, spare_head, free_cell, HasSpare, IsTable, IsHeld}
use Rattle.flux_nodes.proofs.LaidLaws.{number_or}
use Rattle.flux_nodes.proofs.SeenLaws.{one_cell}
use Rattle.flux_nodes.proofs.TableCalls.{table_of}

drop-nothing : (k : ℕ) → drop {A = ℕ} k [] ≡ []
drop-nothing zero = refl
drop-nothing (suc k) = refl

pub drop-more : (k : ℕ) (ms : List ℕ) → drop (k + 1) ms ≡ drop 1 (drop k ms)
drop-more k [] = drop-nothing (k + 1) ∙ sym (ap (drop {A = ℕ} 1) (drop-nothing k))
drop-more zero (m ∷ ms) = refl
drop-more (suc k) (m ∷ ms) =
    let e : suc k + 1 ≡ suc (k + 1) = omega arith in
    ap (λ n. drop n (m ∷ ms)) e ∙ drop-more k ms

pub spare-drop : (cs : List Cell) (k : ℕ) (ms : List ℕ) → IsSpare cs ms → IsSpare cs (drop k ms)
spare-drop cs zero ms s = s
spare-drop cs (suc k) [] s = tt
spare-drop cs (suc k) (m ∷ ms) s = spare-drop cs k ms s.1

-- the first free cell is a cell, and leads to the one after it
pub spare-first : (cs : List Cell) (ms : List ℕ) (node : NodeId) → IsSpare cs ms → spare_head ms ≡ Some node → (node.0 < length cs) × ((c : Cell) → slice_get cs node.0 ≡ Some c → c.next ≡ spare_head (drop 1 ms))
spare-first cs [] node s e = cc
spare-first cs (m ∷ ms) node s e =
    let same : m ≡ node.0 = ap number_or e in
    let is : slice_get cs node.0 ≡ Some (free_cell (spare_head ms)) = ap (slice_get cs) (sym same) ∙ s.0 in
    (slice_get_within cs node.0 (free_cell (spare_head ms)) is, λ c g. ap (λ (d : Cell). d.next) (one_cell c (free_cell (spare_head ms)) (slice_get cs node.0) g is))

-- what the walk along the free list keeps
abbrev pub Walked : List Cell → Option NodeId → Option NodeId → ℕ → Type 0
Walked cs f at k = (h : HasSpare cs f) → at ≡ spare_head (drop k h.spare)

pub walk-within : (cs : List Cell) (f at : Option NodeId) (k : ℕ) (node : NodeId) → HasSpare cs f → Walked cs f at k → at ≡ Some node → node.0 < length cs
walk-within cs f at k node h w e =
    (spare-first cs (drop k h.spare) node (spare-drop cs k h.spare h.chain) (sym (w h) ∙ e)).0

pub walk-next : (cs : List Cell) (f at next : Option NodeId) (k : ℕ) (node : NodeId) → Walked cs f at k → at ≡ Some node → ((c : Cell) → slice_get cs node.0 ≡ Some c → next ≡ c.next) → Walked cs f next (k + 1)
walk-next cs f at next k node w e look h =
    let there = spare-first cs (drop k h.spare) node (spare-drop cs k h.spare h.chain) (sym (w h) ∙ e) in
    let g = slice_get-some cs node.0 there.0 in
    look g.0 g.1 ∙ there.1 g.0 g.1 ∙ ap spare_head (sym (drop-more k h.spare))
  where
    slice_get-some : (cs : List Cell) (i : ℕ) → i < length cs → (c : Cell) × (slice_get cs i ≡ Some c)
    slice_get-some [] i l = absurd (omega arith)
    slice_get-some (c ∷ cs) zero l = (c, refl)
    slice_get-some (c ∷ cs) (suc i) l = slice_get-some cs i (omega arith)

head-none : (ms : List ℕ) → None ≡ spare_head ms → ms ≡ []
head-none [] e = refl
head-none (m ∷ ms) e = cc

drop-none : (k j : ℕ) (ms : List ℕ) → k ≤ j → drop k ms ≡ [] → drop j ms ≡ []
drop-none zero j ms l e = ap (drop j) e ∙ drop-nothing j
drop-none (suc k) zero ms l e = absurd (omega arith)
drop-none (suc k) (suc j) [] l e = refl
drop-none (suc k) (suc j) (m ∷ ms) l e = drop-none k j ms (omega arith) e

pub walk-none : (cs : List Cell) (f at : Option NodeId) (k i : ℕ) → k ≤ i → Walked cs f at k → at ≡ None → Walked cs f None i
walk-none cs f at k i l w e h =
    ap spare_head (sym (drop-none k i h.spare l (head-none (drop k h.spare) (sym e ∙ w h))))

pub preceded-past : (ms : List ℕ) (s : Supply) (j : ℕ) → preceded ms s (length ms + j) ≡ s j
preceded-past [] s j = ap s (omega arith)
preceded-past (m ∷ ms) s j =
    let e : suc (length ms + j) ≡ suc (length ms) + j = omega arith in
    subst (λ n. preceded (m ∷ ms) s n ≡ s j) e (preceded-past ms s j)

pub preceded-at : (ms : List ℕ) (s : Supply) (i : ℕ) (node : NodeId) → Some node ≡ spare_head (drop i ms) → preceded ms s i ≡ node.0
preceded-at [] s zero node e = cc
preceded-at [] s (suc i) node e = cc
preceded-at (m ∷ ms) s zero node e = sym (ap number_or e)
preceded-at (m ∷ ms) s (suc i) node e = preceded-at ms s i node e

-- as many cells are free as aren't made
pub spare-length : (cs : List Cell) (t e f : Option NodeId) (made : ℕ) (m : Meaning) → IsHeld cs t e f made → meaning_of cs t f ≡ m → (made + length m.spare ≡ length cs) × (length m.unlinked ≡ length cs)
spare-length cs t e f made m i v =
    let table : IsTable cs t e f m = table_of i v in
    let made_is : made ≡ made_in m = i.made_is ∙ ap made_in v in
    (omega (arith, made_is, table.all), table.runs_length)

unfoldable pub has_spare : (items slice : List Cell) (t e f : Option NodeId) (made : ℕ) (m : Meaning) → slice ≡ items → IsHeld items t e f made → meaning_of items t f ≡ m → HasSpare slice f
has_spare items slice t e f made m s i v =
    let table : IsTable items t e f m = table_of i v in
    record { spare = m.spare; chain = subst (λ cs. IsSpare cs m.spare) (sym s) table.spare; head_is = table.spare_is }

pub supply-some : (items slice : List Cell) (t e f : Option NodeId) (made : ℕ) (m : Meaning) (i : ℕ) (node : NodeId) (read : Option NodeId) → slice ≡ items → IsHeld items t e f made → meaning_of items t f ≡ m → ((h : HasSpare slice f) → read ≡ spare_head (drop i h.spare)) → read ≡ Some node → node.0 ≡ supply m i
unfolding has_spare
supply-some items slice t e f made m i node read s held v look is =
    sym (preceded-at m.spare (λ j. length m.unlinked + j) i node (sym is ∙ look (has_spare items slice t e f made m s held v)))

pub supply-none : (items slice : List Cell) (t e f : Option NodeId) (made : ℕ) (m : Meaning) (i : ℕ) (read : Option NodeId) → slice ≡ items → IsHeld items t e f made → meaning_of items t f ≡ m → ((h : HasSpare slice f) → read ≡ spare_head (drop i h.spare)) → read ≡ None → i + made < length items → ⊥
unfolding has_spare
supply-none items slice t e f made m i read s held v look is lt =
    go i m.spare (omega (arith, (spare-length items t e f made m held v).0)) (sym is ∙ look (has_spare items slice t e f made m s held v))
  where
    go : (i : ℕ) (ms : List ℕ) → i < length ms → None ≡ spare_head (drop i ms) → ⊥
    go i [] l e = omega arith
    go zero (m ∷ ms) l e = cc
    go (suc i) (m ∷ ms) l e = go i ms (omega arith) e

pub supply-past : (cs : List Cell) (t e f : Option NodeId) (made : ℕ) (m : Meaning) (i r : ℕ) → IsHeld cs t e f made → meaning_of cs t f ≡ m → length cs ≤ i + made → r ≡ i + made → r ≡ supply m i
supply-past cs t e f made m i r held v le is =
    let n = spare-length cs t e f made m held v in
    let at : i ≡ length m.spare + (i - length m.spare) = omega (arith, n.0) in
    let sum : length m.unlinked + (i - length m.spare) ≡ r = omega (arith, n.0, n.1) in
    sym (ap (supply m) at ∙ preceded-past m.spare (λ j. length m.unlinked + j) (i - length m.spare) ∙ sum)
