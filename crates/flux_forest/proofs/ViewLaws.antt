-- What the nodes of a forest say of its first tree.
use Rattle.std.proofs.Common.{◌≡◌, ℕ, ◌-◌, ◌<◌, ◌≤◌, suc, List, [], ◌++◌, length, take, drop, refl, ap, ap₂, ◌∙◌, sym, arith}
use Rattle.std.proofs.Math.Seq.{take-append_seam, drop-append_seam, take-length}
use Rattle.std.proofs.Math.ListN.{get_or}
use Rattle.std.proofs.lemmas.List.{length-drop}
use Rattle.flux_trees.specs.Hedge.{Plain, nil, elem, leaf, size, first, others, content, opened, trees, IsElement}
use Rattle.flux_trees.specs.Draft.{done, depth, outer}
use Rattle.flux_trees.proofs.HedgeLaws.{join-first, join-nil}
use Rattle.flux_trees.proofs.DraftLaws.{whole_is, IsWhole-depth}
use Rattle.flux_atom.specs.declared.atom.Atom.{Atom}
use Rattle.flux_forest.specs.declared.node.Item.TheVariants.{Element, Leaf}
use Rattle.flux_forest.specs.declared.node.Node.{Node}
use Rattle.flux_forest.specs.declared.view.View.{View}
use Rattle.flux_forest.specs.View.{forest_of}
use Rattle.flux_forest.specs.Flat.{PlainDraft, flat, flat_draft, places, hedge_of, IsFlat, draft_of, IsDraft}
use Rattle.flux_forest.proofs.FlatLaws.{hedge_of-flat, draft_of-flat_draft, flat-join, length-flat}

-- the nodes are those of h
pub record AreNodes (h : Plain) (ns : List Node) : Type 0 where
  pub same : ns ≡ flat h

pub view_is : {h : Plain} {ns : List Node} → AreNodes h ns → hedge_of ns ≡ h
view_is {h} i = ap hedge_of i.same ∙ hedge_of-flat h

pub is_flat : {h : Plain} {ns : List Node} → AreNodes h ns → IsFlat ns
is_flat {h} i = ap flat (view_is i) ∙ sym i.same

-- the nodes of a view are those of the forest that it shows
pub shown : (v : View) → AreNodes (forest_of v) v.nodes.now
shown v = record { same = sym v.is_flat }

pub whole_nodes : {ns : List Node} {ps : List ℕ} (d : PlainDraft) → IsDraft (draft_of ns) ns ps → draft_of ns ≡ d → depth d ≡ 0 → AreNodes (outer d) ns
whole_nodes d i e w = record { same = i.nodes ∙ ap flat_draft (e ∙ whole_is d (IsWhole-depth d w)) }

-- nodes with the sizes of their trees are those of a forest that is written whole
pub draft_of-nodes : (ns : List Node) → IsFlat ns → draft_of ns ≡ done (hedge_of ns)
draft_of-nodes ns i = ap draft_of (sym i) ∙ draft_of-flat_draft (done (hedge_of ns))

pub is_draft : (ns : List Node) (ps : List ℕ) → IsFlat ns → ps ≡ [] → IsDraft (draft_of ns) ns ps
is_draft ns ps i e = record {
  nodes = sym i ∙ ap flat_draft (sym (draft_of-nodes ns i));
  begun_at = e ∙ ap (places 0) (sym (draft_of-nodes ns i));
}

pub length-nodes : {h : Plain} {ns : List Node} → AreNodes h ns → length ns ≡ size h
length-nodes {h} i = ap length i.same ∙ length-flat h

pub size-zero : (h : Plain) → size h ≡ 0 → h ≡ nil
size-zero nil e = refl
size-zero (elem _ a c r) e = absurd (omega (arith, e))
size-zero (leaf _ x r) e = absurd (omega (arith, e))

pub IsElement-not_nil : (h : Plain) → IsElement h → h ≡ nil → ⊥
IsElement-not_nil nil e = absurd e
IsElement-not_nil (elem _ a c r) e = λ n. cc
IsElement-not_nil (leaf _ x r) e = absurd e

-- an element has no tree behind it that would stand behind its content
pub opened-element : (h : Plain) → IsElement h → opened h ≡ content h
opened-element nil e = absurd e
opened-element (elem _ a c nil) e = join-nil c
opened-element (elem _ a c (elem _ b d r)) e = absurd e
opened-element (elem _ a c (leaf _ x r)) e = absurd e
opened-element (leaf _ x r) e = absurd e

flat-split : (h : Plain) → flat h ≡ flat (first h) ++ flat (others h)
flat-split h = ap flat (sym (join-first h)) ∙ flat-join (first h) (others h)

pub first_step : {h : Plain} {ns ms : List Node} {n : ℕ} → AreNodes h ns → n ≡ size (first h) → ms ≡ take n ns → AreNodes (first h) ms
first_step {h} i e front = record {
  same = front ∙ ap₂ take (e ∙ sym (length-flat (first h))) (i.same ∙ flat-split h) ∙ take-append_seam (flat (first h)) (flat (others h));
}

pub others_step : {h : Plain} {ns ms : List Node} {n : ℕ} → AreNodes h ns → n ≡ size (first h) → ms ≡ drop n ns → AreNodes (others h) ms
others_step {h} i e back = record {
  same = back ∙ ap₂ drop (e ∙ sym (length-flat (first h))) (i.same ∙ flat-split h) ∙ drop-append_seam (flat (first h)) (flat (others h));
}

-- z is the first node of h
pub IsFirstNode : Node → Plain → Type 0
IsFirstNode z h = z ≡ get_or (flat h) 0 z

pub first_node : {h : Plain} {ns : List Node} {z : Node} → AreNodes h ns → z ≡ get_or ns 0 z → IsFirstNode z h
unfolding IsFirstNode
first_node {z = z} i e = e ∙ ap (λ ms. get_or ms 0 z) i.same

pub size-first_node : (h : Plain) (z : Node) → IsFirstNode z h → 1 ≤ size h → z.size ≡ size (first h)
unfolding IsFirstNode
size-first_node nil z f n = absurd (omega (arith, n))
size-first_node (elem _ a c r) z f n = ap (λ y. y.size) f ∙ ap suc (omega arith)
size-first_node (leaf _ x r) z f n = ap (λ y. y.size) f

pub many : (h : Plain) (n : ℕ) → n ≡ size (first h) → 1 ≤ size h → n < size h → 2 ≤ length (trees h)
many nil n e p l = absurd (omega (arith, p))
many (elem _ a c nil) n e p l = absurd (omega arith)
many (elem _ a c (elem _ b d r)) n e p l = omega arith
many (elem _ a c (leaf _ x r)) n e p l = omega arith
many (leaf _ x nil) n e p l = absurd (omega arith)
many (leaf _ y (elem _ b d r)) n e p l = omega arith
many (leaf _ y (leaf _ x r)) n e p l = omega arith

pub one_element : (h : Plain) (z : Node) (b : ℕ) → IsFirstNode z h → 1 ≤ size h → size h ≤ z.size → z.item ≡ Element b → h ≡ elem tt b (content h) nil
unfolding IsFirstNode
one_element nil z b f n l e = absurd (omega (arith, n))
one_element (elem _ a c r) z b f n l e =
    let label : a ≡ b = let i : Element a ≡ Element b = sym (ap (λ y. y.item) f) ∙ e in cc in
    let whole : z.size ≡ suc (size c) = ap (λ y. y.size) f in
    ap₂ (λ a r. elem tt a c r) label (size-zero r (omega arith))
one_element (leaf _ x r) z b f n l e = let i : Leaf x ≡ Element b = sym (ap (λ y. y.item) f) ∙ e in cc

opened_nodes : (h : Plain) → drop 1 (flat h) ≡ flat (opened h)
opened_nodes nil = refl
opened_nodes (elem _ a c r) = sym (flat-join c r)
opened_nodes (leaf _ x r) = refl

-- a slice from 1 on, as the goals write it
pub opened_slice : {h : Plain} (ns : List Node) → AreNodes h ns → AreNodes (opened h) (take (length ns - 1) (drop 1 ns))
opened_slice {h} ns i =
    let span : length ns - 1 ≡ length (drop 1 ns) = sym (length-drop 1 ns) in
    record { same = ap (λ n. take n (drop 1 ns)) span ∙ take-length (drop 1 ns) ∙ ap (drop 1) i.same ∙ opened_nodes h }
