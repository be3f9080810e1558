-- Nodes laid out from the last to the first.
use Rattle.flux_nodes.specs.Tables.{times}
use Rattle.flux_forest.proofs.ViewLaws.{size-zero}
use Rattle.std.proofs.Common.{◌≡◌, ℕ, ◌+◌, ◌<◌, ◌≤◌, zero, suc, List, [], ◌∷◌, ◌++◌, length, take, drop, Option, None, refl, ap, ap₂, ◌∙◌, sym, subst, arith, length-append}
use Rattle.std.specs.List.{slice_get}
use Rattle.std.specs.Option.{IsSome}
use Rattle.std.proofs.lemmas.List.{length-drop}
use Rattle.flux_trees.specs.Hedge.{Plain, nil, elem, leaf, size, opened}
use Rattle.flux_trees.specs.Edits.{Supply, beyond, number}
use Rattle.flux_forest.specs.declared.node.Node.{Node}
use Rattle.flux_forest.specs.Flat.{element_node, leaf_node, flat, hedge_of}
use Rattle.flux_forest.proofs.FlatLaws.{flat-join, length-flat}
use Rattle.flux_nodes.specs.declared.cell.NodeId.{NodeId}
use Rattle.flux_nodes.specs.declared.cell.Cell.{Cell}
use Rattle.flux_nodes.specs.Laid.{numbers_of, last_id, IsLaid}
use Rattle.flux_nodes.specs.Built.{IsHeadNode, IsBuilt, HasNode, CanBuild}
use Rattle.flux_nodes.proofs.LaidLaws.{times-join}
use Rattle.flux_nodes.proofs.NumberLaws.{number-opened, number-behind, number-same, same_at, times-number, hits, hits-add}

-- the forest with the first k nodes taken away
abbrev pub rest_at : ℕ → Plain → Plain
rest_at zero h = h
rest_at (suc k) h = rest_at k (opened h)

pub rest-more : (k : ℕ) (h : Plain) → rest_at (suc k) h ≡ opened (rest_at k h)
rest-more zero h = refl
rest-more (suc k) h = rest-more k (opened h)

pub flat-opened : (h : Plain) → flat (opened h) ≡ drop 1 (flat h)
flat-opened nil = refl
flat-opened (elem _ a c r) = flat-join c r
flat-opened (leaf _ x r) = refl

pub drop-first : (k : ℕ) (ns : List Node) → drop k (drop 1 ns) ≡ drop (suc k) ns
drop-first zero [] = refl
drop-first (suc k) [] = refl
drop-first k (n ∷ ns) = refl

pub flat-rest : (k : ℕ) (h : Plain) → flat (rest_at k h) ≡ drop k (flat h)
flat-rest zero h = refl
flat-rest (suc k) h =
    flat-rest k (opened h) ∙ ap (drop k) (flat-opened h) ∙ drop-first k (flat h)

pub size-rest : (k : ℕ) (h : Plain) → k ≤ size h → k + size (rest_at k h) ≡ size h
size-rest k h l =
    omega (arith, l, length-flat (rest_at k h), ap length (flat-rest k h), length-drop k (flat h), length-flat h)

-- the last of the first nodes is the first of those behind
pub snoc-drop : (init xs : List Node) (x : Node) → take (suc (length init)) xs ≡ init ++ x ∷ [] → drop (length init) xs ≡ x ∷ drop (suc (length init)) xs
snoc-drop [] [] x e = cc
snoc-drop [] (y ∷ ys) x e = let same : y ≡ x = cc in ap (λ z. z ∷ ys) same
snoc-drop (n ∷ init) [] x e = cc
snoc-drop (n ∷ init) (y ∷ ys) x e =
    let rest : take (suc (length init)) ys ≡ init ++ x ∷ [] = cc in snoc-drop init ys x rest

pub snoc-take : (init xs : List Node) (x : Node) → take (suc (length init)) xs ≡ init ++ x ∷ [] → take (length init) xs ≡ init
snoc-take [] xs x e = refl
snoc-take (n ∷ init) [] x e = cc
snoc-take (n ∷ init) (y ∷ ys) x e =
    let rest : take (suc (length init)) ys ≡ init ++ x ∷ [] = cc in
    let same : y ≡ n = cc in
    ap₂ (λ z zs. z ∷ zs) same (snoc-take init ys x rest)

pub head-node : (node : Node) (g : Plain) (rest : List Node) → flat g ≡ node ∷ rest → IsHeadNode node g
head-node node nil rest e = cc
head-node node (elem _ a c r) rest e = let same : node ≡ element_node a (suc (size c)) = cc in same
head-node node (leaf _ x r) rest e = let same : node ≡ leaf_node x = cc in same

-- what the loop keeps: the forest v behind the nodes that are left is laid out
pub record Building (old now : List Cell) (last : Option NodeId) (v : Plain) (numbers : List NodeId) (left : List Node) : Type 0 where
  pub left_is : take (length left) (flat v) ≡ left
  pub few : length left ≤ size v
  pub laid : IsLaid now None None (number (rest_at (length left) v) (beyond (length left) (numbers_of numbers))) None
  pub last_is : last ≡ last_id (number (rest_at (length left) v) (beyond (length left) (numbers_of numbers))) None
  pub others : (k : ℕ) → times k (number (rest_at (length left) v) (beyond (length left) (numbers_of numbers))) ≡ 0 → slice_get now k ≡ slice_get old k
  pub length_is : length now ≡ length old

pub take-all : (ns : List Node) → take (length ns) ns ≡ ns
take-all [] = refl
take-all (n ∷ ns) = ap (λ ms. n ∷ ms) (take-all ns)

pub build-start : {cs : List Cell} {nodes : List Node} {numbers : List NodeId} → CanBuild cs nodes numbers → Building cs cs None (hedge_of nodes) numbers nodes
build-start {cs} {nodes} {numbers} can =
    let len : length nodes ≡ size (hedge_of nodes) = sym (ap length can.flat) ∙ length-flat (hedge_of nodes) in
    let empty : rest_at (length nodes) (hedge_of nodes) ≡ nil = size-zero (rest_at (length nodes) (hedge_of nodes)) (omega (arith, len, size-rest (length nodes) (hedge_of nodes) (omega (arith, len)))) in
    record {
      left_is = ap (take (length nodes)) can.flat ∙ take-all nodes;
      few = omega (arith, len);
      laid = subst (λ g. IsLaid cs None None (number g (beyond (length nodes) (numbers_of numbers))) None) (sym empty) tt;
      last_is = ap (λ g. last_id (number g (beyond (length nodes) (numbers_of numbers))) None) (sym empty);
      others = λ k z. refl;
      length_is = refl;
    }

pub suffix-once : (v : Plain) (s : Supply) (i k : ℕ) → i ≤ size v → times k (number v s) ≤ 1 → times k (number (rest_at i v) (beyond i s)) ≤ 1
suffix-once v s i k l once =
    let sum : i + size (rest_at i v) ≡ size v = size-rest i v l in
    omega (arith, once, times-number k v s, ap (hits k s) sum, hits-add k s i (size (rest_at i v)), times-number k (rest_at i v) (beyond i s))

unfoldable pub build-node : {old now : List Cell} {last : Option NodeId} {nodes : List Node} {numbers : List NodeId} (left init : List Node) (node : Node) (i : ℕ) → CanBuild old nodes numbers → Building old now last (hedge_of nodes) numbers left → left ≡ init ++ node ∷ [] → i ≡ length init → HasNode now last numbers i node
build-node {old} {now} {last} {nodes} {numbers} left init node i can b e n =
    let v : Plain = hedge_of nodes in
    let len : length left ≡ suc i = ap length e ∙ length-append init (node ∷ []) ∙ (omega (arith, n)) in
    let init_len : length left ≡ suc (length init) = omega (arith, len, n) in
    let took : take (suc (length init)) (flat (hedge_of nodes)) ≡ init ++ node ∷ [] = ap (λ k. take k (flat (hedge_of nodes))) (sym init_len) ∙ b.left_is ∙ e in
    let dropped : flat (rest_at i (hedge_of nodes)) ≡ node ∷ drop (suc (length init)) (flat (hedge_of nodes)) = flat-rest i (hedge_of nodes) ∙ ap (λ k. drop k (flat (hedge_of nodes))) n ∙ snoc-drop init (flat (hedge_of nodes)) node took in
    let all : length numbers ≡ size (hedge_of nodes) = can.length_is ∙ sym (ap length can.flat) ∙ length-flat (hedge_of nodes) in
    let few : i ≤ size (hedge_of nodes) = omega (arith, len, b.few) in
    let behind : rest_at (suc i) (hedge_of nodes) ≡ opened (rest_at i (hedge_of nodes)) = rest-more i (hedge_of nodes) in
    record {
      tree = rest_at i (hedge_of nodes);
      head_is = head-node node (rest_at i (hedge_of nodes)) (drop (suc (length init)) (flat (hedge_of nodes))) dropped;
      laid = subst (λ g. IsLaid now None None (number g (beyond (suc i) (numbers_of numbers))) None) behind (subst (λ k. IsLaid now None None (number (rest_at k (hedge_of nodes)) (beyond k (numbers_of numbers))) None) len b.laid);
      last_is = b.last_is ∙ ap (λ k. last_id (number (rest_at k (hedge_of nodes)) (beyond k (numbers_of numbers))) None) len ∙ ap (λ g. last_id (number g (beyond (suc i) (numbers_of numbers))) None) behind;
      sized = size-rest i (hedge_of nodes) few ∙ sym all;
      fits = omega (arith, can.fits, b.length_is);
      within = λ k l. omega (arith, can.within k l, b.length_is);
      once = λ k. suffix-once (hedge_of nodes) (numbers_of numbers) i k few (can.once k);
    }

pub times-opened : (k i : ℕ) (g : Plain) (s : Supply) → times k (number (opened g) (beyond (suc i) s)) ≤ times k (number g (beyond i s))
times-opened k i nil s = omega arith
times-opened k i (elem _ a c r) s =
    omega (arith, ap (times k) (number-opened a c r s i), times-join k (number c (beyond 1 (beyond i s))) (number r (beyond (suc (size c)) (beyond i s))))
times-opened k i (leaf _ x r) s = omega (arith, ap (times k) (number-behind r s i))

pub build-next : {old now new : List Cell} {last next : Option NodeId} {nodes : List Node} {numbers : List NodeId} (left init : List Node) (node : Node) (i : ℕ) (can : CanBuild old nodes numbers) (b : Building old now last (hedge_of nodes) numbers left) (e : left ≡ init ++ node ∷ []) (n : i ≡ length init) → length new ≡ length now → ((h : HasNode now last numbers i node) → IsBuilt now new (number h.tree (beyond i (numbers_of numbers))) next) → Building old new next (hedge_of nodes) numbers init
unfolding build-node
build-next {old} {now} {new} {last} {next} {nodes} {numbers} left init node i can b e n len_new done =
    let built : IsBuilt now new (number (rest_at i (hedge_of nodes)) (beyond i (numbers_of numbers))) next = done (build-node left init node i can b e n) in
    let len : length left ≡ suc i = ap length e ∙ length-append init (node ∷ []) ∙ (omega (arith, n)) in
    let init_len : length left ≡ suc (length init) = omega (arith, len, n) in
    let took : take (suc (length init)) (flat (hedge_of nodes)) ≡ init ++ node ∷ [] = ap (λ k. take k (flat (hedge_of nodes))) (sym init_len) ∙ b.left_is ∙ e in
    let behind : rest_at (suc i) (hedge_of nodes) ≡ opened (rest_at i (hedge_of nodes)) = rest-more i (hedge_of nodes) in
    let old_times : (k : ℕ) → times k (number (rest_at (length left) (hedge_of nodes)) (beyond (length left) (numbers_of numbers))) ≡ times k (number (opened (rest_at i (hedge_of nodes))) (beyond (suc i) (numbers_of numbers))) = λ k. ap (λ j. times k (number (rest_at j (hedge_of nodes)) (beyond j (numbers_of numbers)))) len ∙ ap (λ g. times k (number g (beyond (suc i) (numbers_of numbers)))) behind in
    record {
      left_is = snoc-take init (flat (hedge_of nodes)) node took;
      few = omega (arith, init_len, b.few);
      laid = subst (λ j. IsLaid new None None (number (rest_at j (hedge_of nodes)) (beyond j (numbers_of numbers))) None) n built.laid;
      last_is = built.last_is ∙ ap (λ j. last_id (number (rest_at j (hedge_of nodes)) (beyond j (numbers_of numbers))) None) n;
      others = λ k z.
          let here : times k (number (rest_at i (hedge_of nodes)) (beyond i (numbers_of numbers))) ≡ 0 = ap (λ j. times k (number (rest_at j (hedge_of nodes)) (beyond j (numbers_of numbers)))) n ∙ z in
          built.others k here ∙ b.others k (omega (arith, old_times k, times-opened k i (rest_at i (hedge_of nodes)) (numbers_of numbers), here));
      length_is = len_new ∙ b.length_is;
    }

pub build-end : {old now : List Cell} {last : Option NodeId} (nodes : List Node) {numbers : List NodeId} (left : List Node) → left ≡ [] → Building old now last (hedge_of nodes) numbers left → IsBuilt old now (number (hedge_of nodes) (numbers_of numbers)) last
build-end {old} {now} {last} nodes {numbers} left e b =
    let none : length left ≡ 0 = ap length e in
    let same : number (rest_at (length left) (hedge_of nodes)) (beyond (length left) (numbers_of numbers)) ≡ number (hedge_of nodes) (numbers_of numbers) = ap (λ k. number (rest_at k (hedge_of nodes)) (beyond k (numbers_of numbers))) none ∙ number-same (hedge_of nodes) (beyond 0 (numbers_of numbers)) (numbers_of numbers) (λ k l. same_at (numbers_of numbers) (0 + k) k (omega arith)) in
    record {
      laid = subst (λ h. IsLaid now None None h None) same b.laid;
      last_is = b.last_is ∙ ap (λ h. last_id h None) same;
      others = λ k z. b.others k (ap (times k) same ∙ z);
    }

pub popped-none : (left : List Node) (n : ℕ) (r : Option Node) → n ≡ length left → (0 < n → IsSome r) → r ≡ None → left ≡ []
popped-none [] n r e some none = refl
popped-none (x ∷ xs) n r e some none =
    let there : IsSome r = some (omega arith) in
    let empty : Option Node = None in
    let no : IsSome empty = subst (λ (o : Option Node). IsSome o) none there in
    cc
