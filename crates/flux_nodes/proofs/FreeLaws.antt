use Rattle.flux_nodes.specs.Tables.{one_if, times, times_in}
use Rattle.std.proofs.Common.{◌≡◌, ◌≢◌, ◌⊎◌, inl, inr, ℕ, ◌+◌, ◌<◌, ◌≤◌, zero, suc, List, [], ◌∷◌, ◌++◌, length, Bool, true, false, cond, Option, Some, None, refl, ap, ◌∙◌, sym, subst, arith, append_assoc}
use Rattle.flux_nodes.proofs.SeenLaws.{split2}
use Rattle.std.proofs.Common.{length-append}
use Rattle.std.proofs.lemmas.List.{append-nil}
use Rattle.std.specs.List.{slice_get}
use Rattle.flux_atom.specs.declared.atom.Atom.{Atom}
use Rattle.flux_trees.specs.Hedge.{Hedge, nil, elem, leaf, join, size, notes}
use Rattle.std.proofs.lemmas.Option.{slice_get_within}
use Rattle.flux_trees.proofs.HedgeLaws.{notes-join}
use Rattle.flux_nodes.specs.declared.cell.NodeId.{NodeId}
use Rattle.flux_nodes.specs.declared.cell.Cell.{Cell}
use Rattle.flux_nodes.specs.Laid.{id, first_id, last_id, elem_cell, leaf_cell, IsLaid, edit, with_next}
use Rattle.flux_nodes.specs.Decoded.{is_kept}
use Rattle.flux_nodes.specs.Kept.{free_cell, held, going_on, freed, IsWithin, IsSpare, spare_head}
use Rattle.flux_nodes.proofs.LaidLaws.{one_if-same, one_if-is, edit-same, edit-other, first_id-join, first_id-any, last_some, last_within, number_or, times-join}

pub record Node (cs : List Cell) (m : ℕ) (w f b : Option NodeId) : Type 0 where
  pub cell : Cell
  pub is : slice_get cs m ≡ Some cell
  pub kept : is_kept cell.kind ≡ true
  pub next_is : cell.next ≡ w
  pub first_is : cell.first ≡ f
  pub last_is : cell.last ≡ b

-- trees that are linked forwards
abbrev pub IsStrung : List Cell → Hedge ℕ → Option NodeId → Type 0
IsStrung cs nil w = Unit {0}
IsStrung cs (elem m a c r) w = Node cs m (first_id r w) (first_id c None) (last_id c None) × IsStrung cs c None × IsStrung cs r w
IsStrung cs (leaf m x r) w = Node cs m (first_id r w) None None × IsStrung cs r w

pub laid-strung : (cs : List Cell) (p v : Option NodeId) (h : Hedge ℕ) (w : Option NodeId) → IsLaid cs p v h w → IsStrung cs h w
laid-strung cs p v nil w l = tt
laid-strung cs p v (elem m a c r) w l =
    (record { cell = elem_cell a p v (first_id r w) (first_id c None) (last_id c None); is = l.0; kept = refl; next_is = refl; first_is = refl; last_is = refl }, laid-strung cs (Some (id m)) None c None l.1, laid-strung cs p (Some (id m)) r w l.2)
laid-strung cs p v (leaf m x r) w l =
    (record { cell = leaf_cell x p v (first_id r w); is = l.0; kept = refl; next_is = refl; first_is = refl; last_is = refl }, laid-strung cs p (Some (id m)) r w l.1)

node-kept : (cs bs : List Cell) (m : ℕ) (w f b : Option NodeId) → slice_get bs m ≡ slice_get cs m → Node cs m w f b → Node bs m w f b
node-kept cs bs m w f b e n =
    record { cell = n.cell; is = e ∙ n.is; kept = n.kept; next_is = n.next_is; first_is = n.first_is; last_is = n.last_is }

pub strung-kept : (cs bs : List Cell) (h : Hedge ℕ) (w : Option NodeId) → ((k : ℕ) → 0 < times k h → slice_get bs k ≡ slice_get cs k) → IsStrung cs h w → IsStrung bs h w
strung-kept cs bs nil w same l = tt
strung-kept cs bs (elem m a c r) w same l =
    (node-kept cs bs m (first_id r w) (first_id c None) (last_id c None) (same m (omega (arith, one_if-same m))) l.0, strung-kept cs bs c None (λ k t. same k (omega arith)) l.1, strung-kept cs bs r w (λ k t. same k (omega arith)) l.2)
strung-kept cs bs (leaf m x r) w same l =
    (node-kept cs bs m (first_id r w) None None (same m (omega (arith, one_if-same m))) l.0, strung-kept cs bs r w (λ k t. same k (omega arith)) l.1)

pub strung-kept-edit : (g : Cell → Cell) (i : ℕ) (cs : List Cell) (h : Hedge ℕ) (w : Option NodeId) → times i h ≡ 0 → IsStrung cs h w → IsStrung (edit g i cs) h w
strung-kept-edit g i cs h w z l =
    strung-kept cs (edit g i cs) h w (λ k t. edit-other g i k cs (λ e. let at : 0 < times i h = subst (λ j. 0 < times j h) e t in absurd (omega arith))) l

pub join-strung : (cs : List Cell) (f g : Hedge ℕ) (w : Option NodeId) → IsStrung cs f (first_id g w) → IsStrung cs g w → IsStrung cs (join f g) w
join-strung cs nil g w l k = k
join-strung cs (elem m a c r) g w l k =
    (subst (λ o. Node cs m o (first_id c None) (last_id c None)) (sym (first_id-join r g w)) l.0, l.1, join-strung cs r g w l.2 k)
join-strung cs (leaf m x r) g w l k =
    (subst (λ o. Node cs m o None None) (sym (first_id-join r g w)) l.0, join-strung cs r g w l.1 k)

node-next : (cs : List Cell) (m q : ℕ) (w x f b : Option NodeId) → m ≡ q → Node cs m w f b → Node (edit (with_next x) q cs) m x f b
node-next cs m q w x f b e n =
    subst (λ j. Node (edit (with_next x) j cs) m x f b) e (record { cell = with_next x n.cell; is = edit-same (with_next x) m cs n.cell n.is; kept = n.kept; next_is = refl; first_is = n.first_is; last_is = n.last_is })

apart : (q m : ℕ) (n k : ℕ) → one_if q m + (n + k) ≤ 1 → 0 < k → m ≢ q
apart q m n k d h e = let one : one_if q m ≡ 1 = ap (one_if q) e ∙ one_if-same q in absurd (omega arith)

-- the next of the last tree is changed
pub restring : (cs : List Cell) (h : Hedge ℕ) (w x : Option NodeId) (q : ℕ) → last_id h None ≡ Some (id q) → IsStrung cs h w → times q h ≤ 1 → IsStrung (edit (with_next x) q cs) h x
restring cs nil w x q e l d = cc
restring cs (elem m a c nil) w x q e l d =
    (node-next cs m q w x (first_id c None) (last_id c None) (ap number_or e) l.0, strung-kept-edit (with_next x) q cs c None (let one : one_if q m ≡ 1 = ap (one_if q) (ap number_or e) ∙ one_if-same q in omega arith) l.1, tt)
restring cs (elem m a c (elem n b g s)) w x q e l d =
    let rest : 0 < times q (elem n b g s) = last_within (elem n b g s) q e in
    (node-kept cs (edit (with_next x) q cs) m (Some (id n)) (first_id c None) (last_id c None) (edit-other (with_next x) q m cs (apart q m (times q c) (times q (elem n b g s)) d rest)) l.0, strung-kept-edit (with_next x) q cs c None (omega arith) l.1, restring cs (elem n b g s) w x q e l.2 (omega arith))
restring cs (elem m a c (leaf n z s)) w x q e l d =
    let rest : 0 < times q (leaf n z s) = last_within (leaf n z s) q e in
    (node-kept cs (edit (with_next x) q cs) m (Some (id n)) (first_id c None) (last_id c None) (edit-other (with_next x) q m cs (apart q m (times q c) (times q (leaf n z s)) d rest)) l.0, strung-kept-edit (with_next x) q cs c None (omega arith) l.1, restring cs (leaf n z s) w x q e l.2 (omega arith))
restring cs (leaf m y nil) w x q e l d = (node-next cs m q w x None None (ap number_or e) l.0, tt)
restring cs (leaf m y (elem n b g s)) w x q e l d =
    let rest : 0 < times q (elem n b g s) = last_within (elem n b g s) q e in
    (node-kept cs (edit (with_next x) q cs) m (Some (id n)) None None (edit-other (with_next x) q m cs (apart q m 0 (times q (elem n b g s)) (omega arith) rest)) l.0, restring cs (elem n b g s) w x q e l.1 (omega arith))
restring cs (leaf m y (leaf n z s)) w x q e l d =
    let rest : 0 < times q (leaf n z s) = last_within (leaf n z s) q e in
    (node-kept cs (edit (with_next x) q cs) m (Some (id n)) None None (edit-other (with_next x) q m cs (apart q m 0 (times q (leaf n z s)) (omega arith) rest)) l.0, restring cs (leaf n z s) w x q e l.1 (omega arith))

-- the first node freed: its content takes its place
pub record IsOpened (cs bs : List Cell) (m : ℕ) (rest : Hedge ℕ) (on : Option NodeId) : Type 0 where
  pub strung : IsStrung bs rest None
  pub on_is : on ≡ first_id rest None
  pub free : slice_get bs m ≡ Some (free_cell on)
  pub others : (k : ℕ) → k ≢ m → times k rest ≡ 0 → slice_get bs k ≡ slice_get cs k

open-some : (cs : List Cell) (m : ℕ) (z : Cell) (c r : Hedge ℕ) (q : ℕ) → last_id c None ≡ Some (id q) → slice_get cs m ≡ Some z → IsStrung cs c None → IsStrung cs r None → ((k : ℕ) → one_if k m + (times k c + times k r) ≤ 1) → IsOpened cs (freed cs m (first_id r None) (first_id c None) (last_id c None)) m (join c r) (going_on (last_id c None) (first_id c None) (first_id r None))
open-some cs m z c r q e g l k d =
    let here : 0 < times q c = last_within c q e in
    let other : m ≢ q = λ x. let one : one_if q m ≡ 1 = ap (one_if q) x ∙ one_if-same q in absurd (omega (arith, d q)) in
    let mid = join-strung (edit (with_next (first_id r None)) q cs) c r None (restring cs c None (first_id r None) q e l (omega (arith, d q))) (strung-kept-edit (with_next (first_id r None)) q cs r None (omega (arith, d q)) k) in
    let same : first_id (join c r) None ≡ first_id c None = first_id-join c r None ∙ first_id-any c (first_id r None) None q here in
    subst (λ b. IsOpened cs (freed cs m (first_id r None) (first_id c None) b) m (join c r) (going_on b (first_id c None) (first_id r None))) (sym e) (record {
      strung =
          strung-kept-edit (λ _. free_cell (first_id c None)) m (edit (with_next (first_id r None)) q cs) (join c r) None (omega (arith, d m, one_if-same m, times-join m c r)) mid;
      on_is = sym same;
      free = edit-same (λ _. free_cell (first_id c None)) m (edit (with_next (first_id r None)) q cs) z (edit-other (with_next (first_id r None)) q m cs other ∙ g);
      others =
          λ j n t. edit-other (λ _. free_cell (first_id c None)) m j (edit (with_next (first_id r None)) q cs) n ∙ edit-other (with_next (first_id r None)) q j cs (λ x. let at : 0 < times j c = subst (λ i. 0 < times i c) (sym x) here in absurd (omega (arith, times-join j c r)));
    })

open-none : (cs : List Cell) (m : ℕ) (z : Cell) (r : Hedge ℕ) → slice_get cs m ≡ Some z → IsStrung cs r None → ((k : ℕ) → one_if k m + times k r ≤ 1) → IsOpened cs (freed cs m (first_id r None) None None) m r (first_id r None)
open-none cs m z r g k d = record {
  strung =
      strung-kept-edit (λ _. free_cell (first_id r None)) m cs r None (omega (arith, d m, one_if-same m)) k;
  on_is = refl;
  free = edit-same (λ _. free_cell (first_id r None)) m cs z g;
  others = λ j n t. edit-other (λ _. free_cell (first_id r None)) m j cs n;
}

pub open-elem : (cs : List Cell) (m a : ℕ) (c r : Hedge ℕ) → IsStrung cs (elem m a c r) None → ((k : ℕ) → one_if k m + (times k c + times k r) ≤ 1) → IsOpened cs (freed cs m (first_id r None) (first_id c None) (last_id c None)) m (join c r) (going_on (last_id c None) (first_id c None) (first_id r None))
open-elem cs m a nil r l d = open-none cs m l.0.cell r l.0.is l.2 (λ k. omega (arith, d k))
open-elem cs m a (elem n b g s) r l d = open-some cs m l.0.cell (elem n b g s) r (last_some s n).0 (last_some s n).1 l.0.is l.1 l.2 d
open-elem cs m a (leaf n y s) r l d = open-some cs m l.0.cell (leaf n y s) r (last_some s n).0 (last_some s n).1 l.0.is l.1 l.2 d

pub open-leaf : (cs : List Cell) (m : ℕ) (x : Atom) (r : Hedge ℕ) → IsStrung cs (leaf m x r) None → ((k : ℕ) → one_if k m + times k r ≤ 1) → IsOpened cs (freed cs m (first_id r None) None None) m r (first_id r None)
open-leaf cs m x r l d = open-none cs m l.0.cell r l.0.is l.1 d

-- cells that lead one to the next, and the last one to o
abbrev pub head_or : List ℕ → Option NodeId → Option NodeId
head_or [] o = o
head_or (m ∷ ms) o = Some (id m)

abbrev pub IsChain : List Cell → List ℕ → Option NodeId → Type 0
IsChain cs [] o = Unit {0}
IsChain cs (m ∷ ms) o = (slice_get cs m ≡ Some (free_cell (head_or ms o))) × IsChain cs ms o

pub chain-kept : (cs bs : List Cell) (ms : List ℕ) (o : Option NodeId) → ((k : ℕ) → 0 < times_in k ms → slice_get bs k ≡ slice_get cs k) → IsChain cs ms o → IsChain bs ms o
chain-kept cs bs [] o same l = tt
chain-kept cs bs (m ∷ ms) o same l =
    (same m (omega (arith, one_if-same m)) ∙ l.0, chain-kept cs bs ms o (λ k t. same k (omega arith)) l.1)

pub head_or-append : (ms ns : List ℕ) (o : Option NodeId) → head_or (ms ++ ns) o ≡ head_or ms (head_or ns o)
head_or-append [] ns o = refl
head_or-append (m ∷ ms) ns o = refl

pub chain-append : (cs : List Cell) (ms ns : List ℕ) (o : Option NodeId) → IsChain cs ms (head_or ns o) → IsChain cs ns o → IsChain cs (ms ++ ns) o
chain-append cs [] ns o l k = k
chain-append cs (m ∷ ms) ns o l k =
    (l.0 ∙ ap (λ w. Some (free_cell w)) (sym (head_or-append ms ns o)), chain-append cs ms ns o l.1 k)

-- a free cell fewer are held
pub held-next : (x : Option NodeId) (i : ℕ) (cs : List Cell) → held (edit (with_next x) i cs) ≡ held cs
held-next x i [] = refl
held-next x zero (c ∷ cs) = refl
held-next x (suc i) (c ∷ cs) = ap (λ n. cond (is_kept c.kind) 1 0 + n) (held-next x i cs)

one-more : (t : Bool) (n : ℕ) → t ≡ true → (0 + n) + 1 ≡ cond t 1 0 + n
one-more true n e = omega arith
one-more false n e = cc

pub held-free : (w : Option NodeId) (i : ℕ) (cs : List Cell) (c : Cell) → slice_get cs i ≡ Some c → is_kept c.kind ≡ true → held (edit (λ _. free_cell w) i cs) + 1 ≡ held cs
held-free w i [] c e k = cc
held-free w zero (b ∷ cs) c e k =
    let same : b ≡ c = cc in
    let yes_b : is_kept b.kind ≡ true = ap (λ (x : Cell). is_kept x.kind) same ∙ k in
    one-more (is_kept b.kind) (held cs) yes_b
held-free w (suc i) (b ∷ cs) c e k = omega (arith, held-free w i cs c e k)

pub length-notes : (h : Hedge ℕ) → length (notes h) ≡ size h
length-notes nil = refl
length-notes (elem m a c r) =
    omega (arith, length-append (notes c) (notes r), length-notes c, length-notes r)
length-notes (leaf m x r) = omega (arith, length-notes r)

pub record Freeing (old now : List Cell) (h : Hedge ℕ) (at : Option NodeId) (tail left total : ℕ) : Type 0 where
  pub done : List ℕ
  pub rest : Hedge ℕ
  pub order : done ++ notes rest ≡ notes h
  pub chain : IsChain now done at
  pub strung : IsStrung now rest None
  pub at_is : at ≡ first_id rest None
  pub tail_is : (done ≡ []) ⊎ ((ms : List ℕ) × (done ≡ ms ++ tail ∷ []))
  pub counted : (k : ℕ) → times_in k done + times k rest ≡ times k h
  pub others : (k : ℕ) → times k h ≡ 0 → slice_get now k ≡ slice_get old k
  pub left_is : left + length done ≡ total

pub times_in-append : (k : ℕ) (ms ns : List ℕ) → times_in k (ms ++ ns) ≡ times_in k ms + times_in k ns
times_in-append k [] ns = omega arith
times_in-append k (m ∷ ms) ns = omega (arith, times_in-append k ms ns)

-- what the next node to be freed is, and what there is after it
pub record Turn (old now : List Cell) (h : Hedge ℕ) (node left total : ℕ) : Type 0 where
  pub cell : Cell
  pub is : slice_get now node ≡ Some cell
  pub kept : is_kept cell.kind ≡ true
  pub last_in : IsWithin cell.last (length now)
  pub some : size h ≤ total → 0 < left
  pub then_ : (bs : List Cell) (on : Option NodeId) (l : ℕ) → l + 1 ≡ left → bs ≡ freed now node cell.next cell.first cell.last → on ≡ going_on cell.last cell.first cell.next → Freeing old bs h on node l total

after-open : (old now bs : List Cell) (h : Hedge ℕ) (fewer total : ℕ) (m : ℕ) (left : Hedge ℕ) (on : Option NodeId) (done : List ℕ) → done ++ m ∷ notes left ≡ notes h → IsChain now done (Some (id m)) → ((k : ℕ) → times_in k done + (one_if k m + times k left) ≡ times k h) → ((k : ℕ) → times k h ≤ 1) → ((k : ℕ) → times k h ≡ 0 → slice_get now k ≡ slice_get old k) → IsOpened now bs m left on → fewer + suc (length done) ≡ total → Freeing old bs h on m fewer total
after-open old now bs h fewer total m left on done order chain counted d others o is = record {
  done = done ++ m ∷ [];
  rest = left;
  order = append_assoc done (m ∷ []) (notes left) ∙ order;
  chain =
      chain-append bs done (m ∷ []) on (chain-kept now bs done (Some (id m)) (λ k t. o.others k (λ e. let one : one_if k m ≡ 1 = ap (one_if k) (sym e) ∙ one_if-same k in absurd (omega (arith, counted k, d k))) (omega (arith, counted k, d k))) chain) (o.free, tt);
  strung = o.strung;
  at_is = o.on_is;
  tail_is = inr (done, refl);
  counted = λ k. omega (arith, counted k, times_in-append k done (m ∷ []));
  others =
      λ k z. o.others k (λ e. let one : one_if k m ≡ 1 = ap (one_if k) (sym e) ∙ one_if-same k in absurd (omega (arith, counted k))) (omega (arith, counted k)) ∙ others k z;
  left_is = omega (arith, is, length-append done (m ∷ []));
}

strung-last : (cs : List Cell) (h : Hedge ℕ) (w : Option NodeId) (k : ℕ) → IsStrung cs h w → 0 < times k h → k < length cs
strung-last cs nil w k l t = absurd (omega arith)
strung-last cs (elem m a c r) w k l t = elim (split2 (one_if k m) (times k c + times k r) t) [
  | inl x ↦ subst (λ j. j < length cs) (sym (one_if-is k m x)) (slice_get_within cs m l.0.cell l.0.is)
  | inr y ↦ elim (split2 (times k c) (times k r) y) [ inl x ↦ strung-last cs c None k l.1 x | inr x ↦ strung-last cs r w k l.2 x ]
]
strung-last cs (leaf m y r) w k l t = elim (split2 (one_if k m) (times k r) t) [
  | inl x ↦ subst (λ j. j < length cs) (sym (one_if-is k m x)) (slice_get_within cs m l.0.cell l.0.is)
  | inr x ↦ strung-last cs r w k l.1 x
]

last-in : (cs : List Cell) (h : Hedge ℕ) (w o : Option NodeId) → IsStrung cs h w → o ≡ last_id h None → IsWithin o (length cs)
last-in cs h w None l e = tt
last-in cs h w (Some q) l e = strung-last cs h w q.0 l (last_within h q.0 (sym e))

pub turn : (old now : List Cell) (h : Hedge ℕ) (node tail left total : ℕ) → ((k : ℕ) → times k h ≤ 1) → Freeing old now h (Some (id node)) tail left total → Turn old now h node left total
turn old now h node tail left total d f = go f.rest f.order f.strung f.at_is f.counted
  where
    go : (g : Hedge ℕ) → f.done ++ notes g ≡ notes h → IsStrung now g None → Some (id node) ≡ first_id g None → ((k : ℕ) → times_in k f.done + times k g ≡ times k h) → Turn old now h node left total
    go nil order l e counted = cc
    go (elem m a c r) order l e counted =
        let same : m ≡ node = sym (ap number_or e) in
        let chain : IsChain now f.done (Some (id m)) = subst (λ j. IsChain now f.done (Some (id j))) (sym same) f.chain in
        subst (λ j. Turn old now h j left total) same (record {
          cell = l.0.cell;
          is = l.0.is;
          kept = l.0.kept;
          last_in = last-in now c None l.0.cell.last l.1 l.0.last_is;
          some = λ enough. omega (arith, f.left_is, ap length order, length-append f.done (notes (elem m a c r)), length-notes (elem m a c r), length-notes h, enough);
          then_ = λ bs on less is be oe.
              let o = open-elem now m a c r l (λ k. omega (arith, counted k, d k)) in
              let bs_is : bs ≡ freed now m (first_id r None) (first_id c None) (last_id c None) = be ∙ ap (λ w. freed now m w l.0.cell.first l.0.cell.last) l.0.next_is ∙ ap (λ x. freed now m (first_id r None) x l.0.cell.last) l.0.first_is ∙ ap (freed now m (first_id r None) (first_id c None)) l.0.last_is in
              let on_is : on ≡ going_on (last_id c None) (first_id c None) (first_id r None) = oe ∙ ap (going_on l.0.cell.last l.0.cell.first) l.0.next_is ∙ ap (λ x. going_on l.0.cell.last x (first_id r None)) l.0.first_is ∙ ap (λ b. going_on b (first_id c None) (first_id r None)) l.0.last_is in
              after-open old now bs h less total m (join c r) on f.done (ap (λ ns. f.done ++ m ∷ ns) (notes-join c r) ∙ order) chain (λ k. omega (arith, counted k, times-join k c r)) d f.others (subst (λ x. IsOpened now x m (join c r) on) (sym bs_is) (subst (λ x. IsOpened now (freed now m (first_id r None) (first_id c None) (last_id c None)) m (join c r) x) (sym on_is) o)) (omega (arith, f.left_is));
        })
    go (leaf m y r) order l e counted =
        let same : m ≡ node = sym (ap number_or e) in
        let chain : IsChain now f.done (Some (id m)) = subst (λ j. IsChain now f.done (Some (id j))) (sym same) f.chain in
        subst (λ j. Turn old now h j left total) same (record {
          cell = l.0.cell;
          is = l.0.is;
          kept = l.0.kept;
          last_in = subst (λ o. IsWithin o (length now)) (sym l.0.last_is) tt;
          some = λ enough. omega (arith, f.left_is, ap length order, length-append f.done (notes (leaf m y r)), length-notes (leaf m y r), length-notes h, enough);
          then_ = λ bs on less is be oe.
              let o = open-leaf now m y r l (λ k. omega (arith, counted k, d k)) in
              let bs_is : bs ≡ freed now m (first_id r None) None None = be ∙ ap (λ w. freed now m w l.0.cell.first l.0.cell.last) l.0.next_is ∙ ap (λ x. freed now m (first_id r None) x l.0.cell.last) l.0.first_is ∙ ap (freed now m (first_id r None) None) l.0.last_is in
              let on_is : on ≡ first_id r None = oe ∙ ap (going_on l.0.cell.last l.0.cell.first) l.0.next_is ∙ ap (λ b. going_on b l.0.cell.first (first_id r None)) l.0.last_is in
              after-open old now bs h less total m r on f.done order chain counted d f.others (subst (λ x. IsOpened now x m r on) (sym bs_is) (subst (λ x. IsOpened now (freed now m (first_id r None) None None) m r x) (sym on_is) o)) (omega (arith, f.left_is));
        })

pub begin : (cs : List Cell) (h : Hedge ℕ) (at : NodeId) (total : ℕ) → first_id h None ≡ Some at → IsLaid cs None None h None → Freeing cs cs h (Some at) at.0 total total
begin cs h at total e l = record {
  done = [];
  rest = h;
  order = refl;
  chain = tt;
  strung = laid-strung cs None None h None l;
  at_is = sym e;
  tail_is = inl refl;
  counted = λ k. omega arith;
  others = λ k z. refl;
  left_is = omega arith;
}

head_or-any : (ms : List ℕ) (t : ℕ) (o w : Option NodeId) → head_or (ms ++ t ∷ []) o ≡ head_or (ms ++ t ∷ []) w
head_or-any [] t o w = refl
head_or-any (m ∷ ms) t o w = refl

-- the last free cell leads elsewhere
chain-last : (cs : List Cell) (ms : List ℕ) (t : ℕ) (w : Option NodeId) → times_in t ms ≡ 0 → IsChain cs (ms ++ t ∷ []) None → IsChain (edit (with_next w) t cs) (ms ++ t ∷ []) w
chain-last cs [] t w z l = (edit-same (with_next w) t cs (free_cell None) l.0, tt)
chain-last cs (m ∷ ms) t w z l =
    let other : m ≢ t = λ e. let one : one_if t m ≡ 1 = ap (one_if t) e ∙ one_if-same t in absurd (omega arith) in
    (edit-other (with_next w) t m cs other ∙ l.0 ∙ ap (λ o. Some (free_cell o)) (head_or-any ms t None w), chain-last cs ms t w (omega arith) l.1)

pub times_in-notes : (k : ℕ) (h : Hedge ℕ) → times_in k (notes h) ≡ times k h
times_in-notes k nil = refl
times_in-notes k (elem m a c r) =
    omega (arith, times_in-append k (notes c) (notes r), times_in-notes k c, times_in-notes k r)
times_in-notes k (leaf m x r) = omega (arith, times_in-notes k r)

pub chain-spare : (cs : List Cell) (ms ns : List ℕ) → IsChain cs ms (spare_head ns) → IsSpare cs ns → IsSpare cs (ms ++ ns)
chain-spare cs [] ns l s = s
chain-spare cs (m ∷ ms) ns l s =
    (l.0 ∙ ap (λ o. Some (free_cell o)) (same ms ns), chain-spare cs ms ns l.1 s)
  where
    same : (ms ns : List ℕ) → head_or ms (spare_head ns) ≡ spare_head (ms ++ ns)
    same [] ns = refl
    same (m ∷ ms) ns = refl

pub record IsAllFree (old bs : List Cell) (h : Hedge ℕ) (w : Option NodeId) : Type 0 where
  pub chain : IsChain bs (notes h) w
  pub others : (k : ℕ) → times k h ≡ 0 → slice_get bs k ≡ slice_get old k

none-first : (g : Hedge ℕ) → None ≡ first_id g None → g ≡ nil
none-first nil e = refl
none-first (elem m a c r) e = cc
none-first (leaf m x r) e = cc

-- after the last node
pub over : (old now : List Cell) (h : Hedge ℕ) (at : Option NodeId) (tail left total : ℕ) (w : Option NodeId) (q : ℕ) → 0 < times q h → ((k : ℕ) → times k h ≤ 1) → at ≡ None → Freeing old now h at tail left total → IsAllFree old (edit (with_next w) tail now) h w × (tail < length now) × (left + size h ≡ total)
over old now h at tail left total w q some d e f =
    let both = go f.tail_is in (both.0, both.1, omega (arith, f.left_is, ap length all, length-notes h))
  where
    empty : f.rest ≡ nil
    empty = none-first f.rest (sym e ∙ f.at_is)

    all : f.done ≡ notes h
    all = sym (append-nil f.done) ∙ ap (λ g. f.done ++ notes g) (sym empty) ∙ f.order

    go : (f.done ≡ []) ⊎ ((ms : List ℕ) × (f.done ≡ ms ++ tail ∷ [])) → IsAllFree old (edit (with_next w) tail now) h w × (tail < length now)
    go (inl n) =
        let none : times q h ≡ 0 = sym (times_in-notes q h) ∙ ap (times_in q) (sym all ∙ n) in
        absurd (omega arith)
    go (inr s) =
        let whole : s.0 ++ tail ∷ [] ≡ notes h = sym s.1 ∙ all in
        let count : times_in tail s.0 + (one_if tail tail + 0) ≡ times tail h = sym (times_in-append tail s.0 (tail ∷ [])) ∙ ap (times_in tail) whole ∙ times_in-notes tail h in
        let before : times_in tail s.0 ≡ 0 = omega (arith, d tail, one_if-same tail) in
        let here : 0 < times tail h = omega (arith, one_if-same tail) in
        let chain : IsChain now (s.0 ++ tail ∷ []) None = subst (λ ms. IsChain now ms None) s.1 (subst (IsChain now f.done) e f.chain) in (
          record {
            chain = subst (λ ms. IsChain (edit (with_next w) tail now) ms w) whole (chain-last now s.0 tail w before chain);
            others =
                λ k z. edit-other (with_next w) tail k now (λ x. let at : 0 < times k h = subst (λ j. 0 < times j h) (sym x) here in absurd (omega arith)) ∙ f.others k z;
          },
          chain-in now s.0 tail None chain,
        )
      where
        chain-in : (cs : List Cell) (ms : List ℕ) (t : ℕ) (o : Option NodeId) → IsChain cs (ms ++ t ∷ []) o → t < length cs
        chain-in cs [] t o l = slice_get_within cs t _ l.0
        chain-in cs (m ∷ ms) t o l = chain-in cs ms t o l.1
