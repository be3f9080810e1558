-- Another label on a node, in a document and in the nodes that it is laid out as.
use Rattle.std.proofs.Common.{◌≡◌, ℕ, zero, suc, ◌+◌, ◌-◌, ◌<◌, ◌≤◌, arith, nat_lt, Bool, true, false, List, [], ◌∷◌, ◌++◌, length, get_or, slice_set, length-append, append_assoc, refl, sym, ap, ap₂, ◌∙◌, if◌then◌else◌}
use Rattle.std.proofs.lemmas.Bool.{ltb-true, ltb-false}
use Rattle.std.proofs.lemmas.List.{append-nil}
use Rattle.flux_trees.specs.Hedge.{Plain, nil, elem, leaf, join, size}
use Rattle.flux_trees.specs.Frame.{Down, Before, After, Each, framed, plug}
use Rattle.flux_trees.proofs.HedgeLaws.{size-join}
use Rattle.flux_forest.specs.declared.node.Node.{Node}
use Rattle.flux_forest.specs.Flat.{flat, hedge_of, element_node, leaf_node}
use Rattle.flux_forest.proofs.FlatLaws.{hedge_of-flat, length-flat, flat-join}
use Rattle.flux_plain.specs.Focused.{PlainFrame}
use Rattle.flux_plain.specs.Layout.{before, behind}
use Rattle.flux_plain.specs.Moves.{relabelled}
use Rattle.flux_plain.specs.NodeLabels.{relabelled_node, relabelled_nodes}

-- ---- in lists of nodes

on_front : (i b : ℕ) (xs ys : List Node) → i < length xs → relabelled_nodes i b (xs ++ ys) ≡ relabelled_nodes i b xs ++ ys
on_front i b [] ys h = absurd (omega (arith, h))
on_front zero b (x ∷ xs) ys h = refl
on_front (suc i) b (x ∷ xs) ys h = ap (λ zs. x ∷ zs) (on_front i b xs ys (omega (arith, h)))

on_back : (i j b : ℕ) (xs ys : List Node) → i ≡ length xs + j → relabelled_nodes i b (xs ++ ys) ≡ xs ++ relabelled_nodes j b ys
on_back i j b [] ys e = ap (λ k. relabelled_nodes k b ys) (e ∙ omega arith)
on_back zero j b (x ∷ xs) ys e = absurd (omega (arith, e))
on_back (suc i) j b (x ∷ xs) ys e = ap (λ zs. x ∷ zs) (on_back i j b xs ys (omega (arith, e)))

pub past_the_end : (i b : ℕ) (xs : List Node) → length xs ≤ i → xs ≡ relabelled_nodes i b xs
past_the_end i b [] h = refl
past_the_end zero b (x ∷ xs) h = absurd (omega (arith, h))
past_the_end (suc i) b (x ∷ xs) h = ap (λ zs. x ∷ zs) (past_the_end i b xs (omega (arith, h)))

pub set_is : (i b : ℕ) (xs : List Node) (x y : Node) → i < length xs → y ≡ relabelled_node b (get_or xs i x) → slice_set xs i y ≡ relabelled_nodes i b xs
set_is i b [] x y h e = absurd (omega (arith, h))
set_is zero b (z ∷ xs) x y h e = ap (λ n. n ∷ xs) e
set_is (suc i) b (z ∷ xs) x y h e = ap (λ ns. z ∷ ns) (set_is i b xs x y (omega (arith, h)) e)

pub length-relabelled : (i b : ℕ) (xs : List Node) → length (relabelled_nodes i b xs) ≡ length xs
length-relabelled i b [] = refl
length-relabelled zero b (x ∷ xs) = refl
length-relabelled (suc i) b (x ∷ xs) = ap suc (length-relabelled i b xs)

-- ---- in documents

chosen : {A : Type 0} (f : Plain → A) (b : Bool) (h k : Plain) (z : A) → (b ≡ true → f h ≡ z) → (b ≡ false → f k ≡ z) → f (if b then h else k) ≡ z
chosen f true h k z e g = e refl
chosen f false h k z e g = g refl

size-relabelled : (i b : ℕ) (h : Plain) → size (relabelled i b h) ≡ size h
size-relabelled i b nil = refl
size-relabelled zero b (elem m a c r) = refl
size-relabelled (suc i) b (elem m a c r) =
    chosen size (nat_lt i (size c)) (elem m a (relabelled i b c) r) (elem m a c (relabelled (i - size c) b r)) (size (elem m a c r))
    (λ _. ap (λ n. suc (n + size r)) (size-relabelled i b c)) (λ _. ap (λ n. suc (size c + n)) (size-relabelled (i - size c) b r))
size-relabelled zero b (leaf m x r) = refl
size-relabelled (suc i) b (leaf m x r) = ap suc (size-relabelled i b r)

below_size : (i n : ℕ) → nat_lt i n ≡ true → i < n
below_size i n e = ltb-true i n e

from_size : (i n : ℕ) → nat_lt i n ≡ false → n ≤ i
from_size i n e = ltb-false i n e

pub flat-relabelled : (i b : ℕ) (h : Plain) → flat (relabelled i b h) ≡ relabelled_nodes i b (flat h)
flat-relabelled i b nil = refl
flat-relabelled zero b (elem m a c r) = refl
flat-relabelled (suc i) b (elem m a c r) =
    chosen flat (nat_lt i (size c)) (elem m a (relabelled i b c) r) (elem m a c (relabelled (i - size c) b r)) (relabelled_nodes (suc i) b (flat (elem m a c r)))
    (λ e. ap₂ (λ n ns. element_node a (suc n) ∷ (ns ++ flat r)) (size-relabelled i b c) (flat-relabelled i b c) ∙ ap (λ ns. element_node a (suc (size c)) ∷ ns) (sym (on_front i b (flat c) (flat r) (omega (arith, below_size i (size c) e, length-flat c)))))
    (λ e.
    let k = i - size c in
    let place : i ≡ length (flat c) + k = omega (arith, from_size i (size c) e, length-flat c) in
    ap (λ ns. element_node a (suc (size c)) ∷ (flat c ++ ns)) (flat-relabelled k b r) ∙ ap (λ ns. element_node a (suc (size c)) ∷ ns) (sym (on_back i k b (flat c) (flat r) place)))
flat-relabelled zero b (leaf m x r) = refl
flat-relabelled (suc i) b (leaf m x r) = ap (λ ns. leaf_node x ∷ ns) (flat-relabelled i b r)

-- ---- in the focus

-- what a frame puts before the trees in it, and what all frames do
abbrev front : PlainFrame → Plain → List Node
front (Down _ a) v = element_node a (suc (size v)) ∷ []
front (Before w) v = []
front (After w) v = flat w
front (Each done rest) v = flat done

abbrev outer : List PlainFrame → Plain → List Node
outer [] v = []
outer (f ∷ fs) v = outer fs (framed f v) ++ front f v

framed_flat : (f : PlainFrame) (fs : List PlainFrame) (v : Plain) → flat (framed f v) ++ behind fs ≡ front f v ++ (flat v ++ behind (f ∷ fs))
framed_flat (Down _ a) fs v = ap (λ ns. element_node a (suc (size v)) ∷ (ns ++ behind fs)) (append-nil (flat v))
framed_flat (Before w) fs v = ap (λ ns. ns ++ behind fs) (flat-join v w) ∙ append_assoc (flat v) (flat w) (behind fs)
framed_flat (After w) fs v = ap (λ ns. ns ++ behind fs) (flat-join w v) ∙ append_assoc (flat w) (flat v) (behind fs)
framed_flat (Each done rest) fs v =
    ap (λ ns. ns ++ behind fs) (flat-join done (join v rest) ∙ ap (λ ns. flat done ++ ns) (flat-join v rest)) ∙ append_assoc (flat done) (flat v ++ flat rest) (behind fs)
    ∙ ap (λ ns. flat done ++ ns) (append_assoc (flat v) (flat rest) (behind fs))

plug_flat : (fs : List PlainFrame) (v : Plain) → flat (plug fs v) ≡ outer fs v ++ (flat v ++ behind fs)
plug_flat [] v = sym (append-nil (flat v))
plug_flat (f ∷ fs) v =
    plug_flat fs (framed f v) ∙ ap (λ ns. outer fs (framed f v) ++ ns) (framed_flat f fs v) ∙ sym (append_assoc (outer fs (framed f v)) (front f v) (flat v ++ behind (f ∷ fs)))

framed_size : (f : PlainFrame) (v w : Plain) → size v ≡ size w → size (framed f v) ≡ size (framed f w)
framed_size (Down _ a) v w e = ap (λ n. suc (n + 0)) e
framed_size (Before u) v w e = size-join v u ∙ ap (λ n. n + size u) e ∙ sym (size-join w u)
framed_size (After u) v w e = size-join u v ∙ ap (λ n. size u + n) e ∙ sym (size-join u w)
framed_size (Each done rest) v w e =
    size-join done (join v rest) ∙ ap (λ n. size done + n) (size-join v rest ∙ ap (λ n. n + size rest) e ∙ sym (size-join w rest)) ∙ sym (size-join done (join w rest))

front_size : (f : PlainFrame) (v w : Plain) → size v ≡ size w → front f v ≡ front f w
front_size (Down _ a) v w e = ap (λ n. element_node a (suc n) ∷ []) e
front_size (Before u) v w e = refl
front_size (After u) v w e = refl
front_size (Each done rest) v w e = refl

outer_size : (fs : List PlainFrame) (v w : Plain) → size v ≡ size w → outer fs v ≡ outer fs w
outer_size [] v w e = refl
outer_size (f ∷ fs) v w e =
    ap₂ (λ ms ns. ms ++ ns) (outer_size fs (framed f v) (framed f w) (framed_size f v w e)) (front_size f v w e)

outer_before : (fs : List PlainFrame) (v : Plain) → length (outer fs v) ≡ length (before fs)
outer_before [] v = refl
outer_before (Down _ a ∷ fs) v =
    length-append (outer fs (framed (Down tt a) v)) (front (Down tt a) v) ∙ ap (λ n. n + 1) (outer_before fs (framed (Down tt a) v)) ∙ sym (length-append (before fs) (element_node a 0 ∷ []))
outer_before (Before w ∷ fs) v =
    ap length (append-nil (outer fs (framed (Before w) v))) ∙ outer_before fs (framed (Before w) v)
outer_before (After w ∷ fs) v =
    length-append (outer fs (framed (After w) v)) (flat w) ∙ ap (λ n. n + length (flat w)) (outer_before fs (framed (After w) v)) ∙ sym (length-append (before fs) (flat w))
outer_before (Each done rest ∷ fs) v =
    length-append (outer fs (framed (Each done rest) v)) (flat done) ∙ ap (λ n. n + length (flat done)) (outer_before fs (framed (Each done rest) v)) ∙ sym (length-append (before fs) (flat done))

-- the one element in the focus has its label again where the node there gets it
pub label_again : (fs : List PlainFrame) (a b : ℕ) (w : Plain) → relabelled (length (before fs)) a (plug fs (elem tt b w nil)) ≡ plug fs (elem tt a w nil)
label_again fs a b w =
    let old = elem tt a w nil in
    let new = elem tt b w nil in
    let xs = outer fs new in
    let place : length (before fs) ≡ length xs + 0 = omega (arith, outer_before fs new) in
    let nodes : flat (relabelled (length (before fs)) a (plug fs new)) ≡ flat (plug fs old) =
    flat-relabelled (length (before fs)) a (plug fs new) ∙ ap (relabelled_nodes (length (before fs)) a) (plug_flat fs new) ∙ on_back (length (before fs)) 0 a xs (flat new ++ behind fs) place
    ∙ ap (λ ns. ns ++ (flat old ++ behind fs)) (outer_size fs new old refl) ∙ sym (plug_flat fs old) in
    sym (hedge_of-flat (relabelled (length (before fs)) a (plug fs new))) ∙ ap hedge_of nodes ∙ hedge_of-flat (plug fs old)
