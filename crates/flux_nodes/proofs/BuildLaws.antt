-- A node put before the trees behind it.
use Rattle.flux_nodes.specs.Tables.{one_if, times}
use Rattle.std.proofs.Common.{◌≡◌, ℕ, ◌+◌, ◌<◌, ◌≤◌, zero, suc, List, length, Option, Some, None, refl, ap, ◌∙◌, sym, subst, arith}
use Rattle.std.specs.List.{slice_get}
use Rattle.std.proofs.Math.ListN.{get_or}
use Rattle.std.proofs.lemmas.Option.{slice_get-get_or, get_or_from_slice_get}
use Rattle.flux_atom.specs.declared.atom.Atom.{Atom}
use Rattle.flux_trees.specs.Hedge.{Hedge, Plain, nil, elem, leaf, join, size, opened}
use Rattle.flux_trees.specs.Edits.{Supply, beyond, number}
use Rattle.flux_forest.specs.declared.node.Node.{Node}
use Rattle.flux_nodes.specs.declared.cell.NodeId.{NodeId}
use Rattle.flux_nodes.specs.declared.cell.Kind.{Kind}
use Rattle.flux_nodes.specs.declared.cell.Kind.TheVariants.{Elem, Leaf}
use Rattle.flux_nodes.specs.declared.cell.Cell.{Cell}
use Rattle.flux_nodes.specs.Laid.{numbers_of, id, first_id, last_id, elem_cell, leaf_cell, IsLaid, edit}
use Rattle.flux_nodes.specs.Seats.{behind, behind_top}
use Rattle.flux_nodes.specs.Built.{kind_of, IsHeadNode, IsBuilt, HasTrees, IsEnclosed, HasNode}
use Rattle.flux_nodes.proofs.LaidLaws.{one_if-same, kept}
use Rattle.flux_nodes.proofs.NumberLaws.{number-opened, number-behind, first-some, first-none, size-number, same_at}
use Rattle.flux_nodes.proofs.EncloseLaws.{IsFront, front, front-last}

pub read-number : (ns : List NodeId) (i : ℕ) (at : NodeId) → at ≡ get_or ns i at → i < length ns → at ≡ id (numbers_of ns i)
read-number ns i at e l =
    let g : slice_get ns i ≡ Some (get_or ns i at) = slice_get-get_or ns i at l in
    let same : get_or ns i (id 0) ≡ get_or ns i at = get_or_from_slice_get ns i (get_or ns i at) (id 0) g in
    e ∙ sym same

-- what was read: the node's number, that of the node inside, and that of the tree behind
pub record AreNumbers (numbers : List NodeId) (i size : ℕ) (at : NodeId) (first after : Option NodeId) : Type 0 where
  pub at_is : at ≡ id (numbers_of numbers i)
  pub first_some : 1 < size → first ≡ Some (id (numbers_of numbers (i + 1)))
  pub first_none : size ≤ 1 → first ≡ None
  pub after_some : i + size < length numbers → after ≡ Some (id (numbers_of numbers (i + size)))
  pub after_none : length numbers ≤ i + size → after ≡ None

pub below : (n k : ℕ) (A : Type 0) → (n < k → A) → (k ≤ n → A) → A
below n zero A l g = g (omega arith)
below zero (suc k) A l g = l (omega arith)
below (suc n) (suc k) A l g = below n k A (λ h. l (omega arith)) (λ h. g (omega arith))

pub first-is : (numbers : List NodeId) (i size_of : ℕ) (at : NodeId) (first after : Option NodeId) (c : Plain) → AreNumbers numbers i size_of at first after → size_of ≡ suc (size c) → first ≡ first_id (number c (beyond 1 (beyond i (numbers_of numbers)))) None
first-is numbers i size_of at first after c a e =
    below 0 (size c) _ (λ l. a.first_some (omega arith) ∙ ap (λ n. Some (id n)) (same_at (numbers_of numbers) (i + 1) (i + (1 + 0)) (omega arith)) ∙ sym (first-some c (beyond 1 (beyond i (numbers_of numbers))) l)) (λ g. a.first_none (omega arith) ∙ sym (first-none c (beyond 1 (beyond i (numbers_of numbers))) (omega arith)))

pub after-is : (numbers : List NodeId) (i n : ℕ) (at : NodeId) (first after : Option NodeId) (r : Plain) → AreNumbers numbers i n at first after → i + (n + size r) ≡ length numbers → after ≡ first_id (number r (beyond n (beyond i (numbers_of numbers)))) None
after-is numbers i n at first after r a e =
    below 0 (size r) _ (λ l. a.after_some (omega arith) ∙ ap (λ k. Some (id k)) (same_at (numbers_of numbers) (i + n) (i + (n + 0)) (omega arith)) ∙ sym (first-some r (beyond n (beyond i (numbers_of numbers))) l)) (λ g. a.after_none (omega arith) ∙ sym (first-none r (beyond n (beyond i (numbers_of numbers))) (omega arith)))

abbrev pub content_of : Supply → ℕ → Plain → Hedge ℕ
content_of s i c = number c (beyond 1 (beyond i s))

abbrev pub rest_of : Supply → ℕ → ℕ → Plain → Hedge ℕ
rest_of s i n r = number r (beyond n (beyond i s))

pub zero_at : (s : Supply) (i : ℕ) → s i ≡ beyond i s 0
zero_at s i = same_at s i (i + 0) (omega arith)

unfoldable pub elem-trees : (cs : List Cell) (numbers : List NodeId) (i : ℕ) (at : NodeId) (first after last : Option NodeId) (a : ℕ) (c r : Plain) → AreNumbers numbers i (suc (size c)) at first after → i + (suc (size c + size r)) ≡ length numbers → length numbers ≤ length cs → ((k : ℕ) → times k (number (elem tt a c r) (beyond i (numbers_of numbers))) ≤ 1) → IsLaid cs None None (number (opened (elem tt a c r)) (beyond (suc i) (numbers_of numbers))) None → last ≡ last_id (number (opened (elem tt a c r)) (beyond (suc i) (numbers_of numbers))) None → HasTrees cs first after last at.0
elem-trees cs numbers i at first after last a c r read sized fits once laid last_is =
    let s : Supply = numbers_of numbers in
    let same : at.0 ≡ beyond i s 0 = ap (λ (n : NodeId). n.0) read.at_is ∙ zero_at s i in
    record {
      inside = content_of (numbers_of numbers) i c;
      rest = rest_of (numbers_of numbers) i (suc (size c)) r;
      laid = subst (λ h. IsLaid cs None None h None) (number-opened a c r s i) laid;
      first_is = first-is numbers i (suc (size c)) at first after c read refl;
      after_is = after-is numbers i (suc (size c)) at first after r read (omega arith);
      last_is = last_is ∙ ap (λ h. last_id h None) (number-opened a c r s i);
      once = λ k. omega (arith, once k, ap (one_if k) same);
      fits = omega (arith, size-number c (beyond 1 (beyond i s)));
    }

unfoldable pub leaf-trees : (cs : List Cell) (numbers : List NodeId) (i : ℕ) (at : NodeId) (first after last : Option NodeId) (x : Atom) (r : Plain) → AreNumbers numbers i 1 at first after → i + (suc (size r)) ≡ length numbers → ((k : ℕ) → times k (number (leaf tt x r) (beyond i (numbers_of numbers))) ≤ 1) → IsLaid cs None None (number r (beyond (suc i) (numbers_of numbers))) None → last ≡ last_id (number r (beyond (suc i) (numbers_of numbers))) None → HasTrees cs first after last at.0
leaf-trees cs numbers i at first after last x r read sized once laid last_is =
    let s : Supply = numbers_of numbers in
    let same : at.0 ≡ beyond i s 0 = ap (λ (n : NodeId). n.0) read.at_is ∙ zero_at s i in
    record {
      inside = nil;
      rest = rest_of (numbers_of numbers) i 1 r;
      laid = subst (λ h. IsLaid cs None None h None) (number-behind r s i) laid;
      first_is = read.first_none (omega arith);
      after_is = after-is numbers i 1 at first after r read (omega arith);
      last_is = last_is ∙ ap (λ h. last_id h None) (number-behind r s i);
      once = λ k. omega (arith, once k, ap (one_if k) same);
      fits = omega arith;
    }

size-of-head : (node : Node) (tree : Plain) (n : ℕ) → IsHeadNode node tree → node.size ≡ n → n ≤ size tree × (0 < n)
size-of-head node nil n h e = absurd h
size-of-head node (elem _ a c r) n h e = let is : node.size ≡ suc (size c) = ap (λ (m : Node). m.size) h in (omega arith, omega arith)
size-of-head node (leaf _ x r) n h e = let is : node.size ≡ 1 = ap (λ (m : Node). m.size) h in (omega arith, omega arith)

-- a node's tree is among the nodes that are left
pub node-fits : {cs : List Cell} {last : Option NodeId} {numbers : List NodeId} {i : ℕ} {node : Node} → HasNode cs last numbers i node → (i + node.size ≤ length numbers) × (i < length numbers)
node-fits {cs} {last} {numbers} {i} {node} h =
    let s = size-of-head node h.tree node.size h.head_is refl in
    (omega (arith, s.0, h.sized), omega (arith, s.0, s.1, h.sized))

pub node-trees : {cs : List Cell} {last : Option NodeId} {numbers : List NodeId} {i : ℕ} {node : Node} (at : NodeId) (first after : Option NodeId) → HasNode cs last numbers i node → AreNumbers numbers i node.size at first after → HasTrees cs first after last at.0
node-trees {cs} {last} {numbers} {i} {node} at first after h read = go h.tree h.head_is h.sized h.once h.laid h.last_is
  where
    go : (tree : Plain) → IsHeadNode node tree → i + size tree ≡ length numbers → ((k : ℕ) → times k (number tree (beyond i (numbers_of numbers))) ≤ 1) → IsLaid cs None None (number (opened tree) (beyond (suc i) (numbers_of numbers))) None → last ≡ last_id (number (opened tree) (beyond (suc i) (numbers_of numbers))) None → HasTrees cs first after last at.0
    go nil e sized once laid last_is = absurd e
    go (elem _ a c r) e sized once laid last_is =
        elem-trees cs numbers i at first after last a c r (subst (λ n. AreNumbers numbers i n at first after) (ap (λ (m : Node). m.size) e) read) sized h.fits once laid last_is
    go (leaf _ x r) e sized once laid last_is =
        leaf-trees cs numbers i at first after last x r (subst (λ n. AreNumbers numbers i n at first after) (ap (λ (m : Node). m.size) e) read) sized once laid last_is

-- the cell that is written
abbrev pub cell_with : Kind → Option NodeId → Option NodeId → Option NodeId → Cell
cell_with k w f b = record { kind = k; parent = None; prev = None; next = w; first = f; last = b }

front-elem : (cs c2 : List Cell) (m a : ℕ) (c r : Hedge ℕ) (first after inside last : Option NodeId) → first ≡ first_id c None → after ≡ first_id r None → last ≡ last_id (join c r) None → m < length c2 → ((k : ℕ) → one_if k m + (times k c + times k r) ≤ 1) → IsEnclosed cs c2 c r m inside → IsBuilt cs (behind (edit (λ _. cell_with (Elem a) after first inside) m c2) None after (Some (id m))) (elem m a c r) (behind_top last None after (Some (id m)))
front-elem cs c2 m a c r first after inside last fe ae le lt once i =
    let z : Cell = cell_with (Elem a) after first inside in
    let f : IsFront c2 (behind (edit (λ _. cell_with (Elem a) after first inside) m c2) None (first_id r None) (Some (id m))) m (cell_with (Elem a) after first inside) r = front c2 m (cell_with (Elem a) after first inside) r i.prev i.behind lt (λ k. omega (arith, once k)) in
    let g : IsFront c2 (behind (edit (λ _. cell_with (Elem a) after first inside) m c2) None after (Some (id m))) m (cell_with (Elem a) after first inside) r = subst (λ o. IsFront c2 (behind (edit (λ _. cell_with (Elem a) after first inside) m c2) None o (Some (id m))) m (cell_with (Elem a) after first inside) r) (sym ae) f in
    let same : cell_with (Elem a) after first inside ≡ elem_cell a None None (first_id r None) (first_id c None) (last_id c None) = ap (λ w. cell_with (Elem a) w first inside) ae ∙ ap (λ x. cell_with (Elem a) (first_id r None) x inside) fe ∙ ap (cell_with (Elem a) (first_id r None) (first_id c None)) i.last_is in
    record {
      laid = (g.cell ∙ ap Some same, kept c2 (behind (edit (λ _. cell_with (Elem a) after first inside) m c2) None after (Some (id m))) (Some (id m)) None c None (λ k t. g.others k (λ e. let one : one_if k m ≡ 1 = ap (one_if k) (sym e) ∙ one_if-same k in absurd (omega (arith, once k))) (omega (arith, once k))) i.laid, g.laid);
      last_is = ap (λ o. behind_top last None o (Some (id m))) ae ∙ front-last c r m last le;
      others = λ k t. g.others k (λ e. let one : one_if k m ≡ 1 = ap (one_if k) (sym e) ∙ one_if-same k in absurd (omega arith)) (omega arith) ∙ i.others k (omega arith);
    }

front-leaf : (cs c2 : List Cell) (m : ℕ) (x : Atom) (r : Hedge ℕ) (first after inside last : Option NodeId) → first ≡ None → after ≡ first_id r None → last ≡ last_id r None → m < length c2 → ((k : ℕ) → one_if k m + times k r ≤ 1) → IsEnclosed cs c2 nil r m inside → IsBuilt cs (behind (edit (λ _. cell_with (Leaf x) after first inside) m c2) None after (Some (id m))) (leaf m x r) (behind_top last None after (Some (id m)))
front-leaf cs c2 m x r first after inside last fe ae le lt once i =
    let f : IsFront c2 (behind (edit (λ _. cell_with (Leaf x) after first inside) m c2) None (first_id r None) (Some (id m))) m (cell_with (Leaf x) after first inside) r = front c2 m (cell_with (Leaf x) after first inside) r i.prev i.behind lt once in
    let g : IsFront c2 (behind (edit (λ _. cell_with (Leaf x) after first inside) m c2) None after (Some (id m))) m (cell_with (Leaf x) after first inside) r = subst (λ o. IsFront c2 (behind (edit (λ _. cell_with (Leaf x) after first inside) m c2) None o (Some (id m))) m (cell_with (Leaf x) after first inside) r) (sym ae) f in
    let same : cell_with (Leaf x) after first inside ≡ leaf_cell x None None (first_id r None) = ap (λ w. cell_with (Leaf x) w first inside) ae ∙ ap (λ y. cell_with (Leaf x) (first_id r None) y inside) fe ∙ ap (cell_with (Leaf x) (first_id r None) None) i.last_is in
    record {
      laid = (g.cell ∙ ap Some same, g.laid);
      last_is = ap (λ o. behind_top last None o (Some (id m))) ae ∙ front-last nil r m last le;
      others = λ k t. g.others k (λ e. let one : one_if k m ≡ 1 = ap (one_if k) (sym e) ∙ one_if-same k in absurd (omega arith)) (omega arith) ∙ i.others k (omega arith);
    }

pub put-node : {cs : List Cell} {last : Option NodeId} {numbers : List NodeId} {i : ℕ} {node : Node} (c2 : List Cell) (at : NodeId) (first after inside : Option NodeId) (kind : Kind) → kind ≡ kind_of node.item → length c2 ≡ length cs → (h : HasNode cs last numbers i node) → AreNumbers numbers i node.size at first after → ((t : HasTrees cs first after last at.0) → IsEnclosed cs c2 t.inside t.rest at.0 inside) → IsBuilt cs (behind (edit (λ _. cell_with kind after first inside) at.0 c2) None after (Some at)) (number h.tree (beyond i (numbers_of numbers))) (behind_top last None after (Some at))
unfolding elem-trees leaf-trees
put-node {cs} {last} {numbers} {i} {node} c2 at first after inside kind ke len h read done = go h.tree h.head_is h.sized h.once h.laid h.last_is
  where
    go : (tree : Plain) → IsHeadNode node tree → i + size tree ≡ length numbers → ((k : ℕ) → times k (number tree (beyond i (numbers_of numbers))) ≤ 1) → IsLaid cs None None (number (opened tree) (beyond (suc i) (numbers_of numbers))) None → last ≡ last_id (number (opened tree) (beyond (suc i) (numbers_of numbers))) None → IsBuilt cs (behind (edit (λ _. cell_with kind after first inside) at.0 c2) None after (Some at)) (number tree (beyond i (numbers_of numbers))) (behind_top last None after (Some at))
    go nil e sized once laid last_is = absurd e
    go (elem _ a c r) e sized once laid last_is =
        let reads : AreNumbers numbers i (suc (size c)) at first after = subst (λ n. AreNumbers numbers i n at first after) (ap (λ (m : Node). m.size) e) read in
        let t : HasTrees cs first after last at.0 = elem-trees cs numbers i at first after last a c r reads sized h.fits once laid last_is in
        let same : at.0 ≡ beyond i (numbers_of numbers) 0 = ap (λ (n : NodeId). n.0) reads.at_is ∙ zero_at (numbers_of numbers) i in
        let is : kind ≡ Elem a = ke ∙ ap (λ (m : Node). kind_of m.item) e in
        let lt : at.0 < length c2 = subst (λ n. n < length c2) (sym (ap (λ (n : NodeId). n.0) reads.at_is)) (omega (arith, len, h.within i (omega arith))) in
        subst (λ k. IsBuilt cs (behind (edit (λ _. cell_with k after first inside) at.0 c2) None after (Some at)) (number (elem tt a c r) (beyond i (numbers_of numbers))) (behind_top last None after (Some at))) (sym is) (subst (λ n. IsBuilt cs (behind (edit (λ _. cell_with (Elem a) after first inside) at.0 c2) None after (Some at)) (elem n a (content_of (numbers_of numbers) i c) (rest_of (numbers_of numbers) i (suc (size c)) r)) (behind_top last None after (Some at))) same (front-elem cs c2 at.0 a (content_of (numbers_of numbers) i c) (rest_of (numbers_of numbers) i (suc (size c)) r) first after inside last t.first_is t.after_is t.last_is lt t.once (done t)))
    go (leaf _ x r) e sized once laid last_is =
        let reads : AreNumbers numbers i 1 at first after = subst (λ n. AreNumbers numbers i n at first after) (ap (λ (m : Node). m.size) e) read in
        let t : HasTrees cs first after last at.0 = leaf-trees cs numbers i at first after last x r reads sized once laid last_is in
        let same : at.0 ≡ beyond i (numbers_of numbers) 0 = ap (λ (n : NodeId). n.0) reads.at_is ∙ zero_at (numbers_of numbers) i in
        let is : kind ≡ Leaf x = ke ∙ ap (λ (m : Node). kind_of m.item) e in
        let lt : at.0 < length c2 = subst (λ n. n < length c2) (sym (ap (λ (n : NodeId). n.0) reads.at_is)) (omega (arith, len, h.within i (omega arith))) in
        subst (λ k. IsBuilt cs (behind (edit (λ _. cell_with k after first inside) at.0 c2) None after (Some at)) (number (leaf tt x r) (beyond i (numbers_of numbers))) (behind_top last None after (Some at))) (sym is) (subst (λ n. IsBuilt cs (behind (edit (λ _. cell_with (Leaf x) after first inside) at.0 c2) None after (Some at)) (leaf n x (rest_of (numbers_of numbers) i 1 r)) (behind_top last None after (Some at))) same (front-leaf cs c2 at.0 x (rest_of (numbers_of numbers) i 1 r) first after inside last t.first_is t.after_is t.last_is lt (λ k. omega (arith, t.once k)) (done t)))

pub are_numbers : (numbers : List NodeId) (i size : ℕ) (first after : Option NodeId) → (1 < size → first ≡ Some (id (numbers_of numbers (i + 1)))) → (size ≤ 1 → first ≡ None) → (i + size < length numbers → after ≡ Some (id (numbers_of numbers (i + size)))) → (length numbers ≤ i + size → after ≡ None) → AreNumbers numbers i size (get_or numbers i (id 0)) first after
are_numbers numbers i size first after a b c d =
    record { at_is = refl; first_some = a; first_none = b; after_some = c; after_none = d }

pub built-as : {old : List Cell} {h : Hedge ℕ} (new bs : List Cell) (last l : Option NodeId) → new ≡ bs → last ≡ l → IsBuilt old bs h l → IsBuilt old new h last
built-as {old} {h} new bs last l e g i =
    subst (λ x. IsBuilt old x h last) (sym e) (subst (IsBuilt old bs h) (sym g) i)
