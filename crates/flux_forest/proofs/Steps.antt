-- What each step of writing does to the nodes of a forest that is laid out.
use Rattle.std.proofs.Common.{◌≡◌, ℕ, ◌+◌, ◌-◌, ◌<◌, List, [], ◌∷◌, ◌++◌, length, ap, ap₂, ◌∙◌, sym, subst, arith}
use Rattle.std.proofs.Math.ListN.{set, get_or}
use Rattle.std.proofs.lemmas.List.{same_from_push}
use Rattle.flux_atom.specs.declared.atom.Atom.{Atom}
use Rattle.flux_trees.specs.Hedge.{Plain, nil, leaf}
use Rattle.flux_trees.specs.Draft.{add, begin, end, depth}
use Rattle.flux_forest.specs.declared.node.Node.{Node}
use Rattle.flux_forest.specs.Flat.{PlainDraft, element_node, leaf_node, flat, flat_draft, places, draft_of, IsDraft}
use Rattle.flux_forest.proofs.FlatLaws.{draft_of-flat_draft, flat_draft-add, flat_draft-begin, places-add, places-begin, length-places, places-end, last_place, last_label, last_place-lt, get_or-last_place, set-last_place}

pub draft_of-laid_out : {d : PlainDraft} {ns : List Node} {ps : List ℕ} → IsDraft d ns ps → draft_of ns ≡ d
draft_of-laid_out {d} i = ap draft_of i.nodes ∙ draft_of-flat_draft d

-- the nodes are laid out as what they are read as
pub laid_out : {d : PlainDraft} {ns : List Node} {ps : List ℕ} → IsDraft d ns ps → IsDraft (draft_of ns) ns ps
laid_out {ns = ns} {ps} i = let P : PlainDraft → Type 0 = λ e. IsDraft e ns ps in subst P (sym (draft_of-laid_out i)) i

pub leaf_step : {d : PlainDraft} {ns ms : List Node} {ps : List ℕ} → IsDraft d ns ps → (x : Atom) → ms ≡ ns ++ leaf_node x ∷ [] → IsDraft (add d (leaf tt x nil)) ms ps
leaf_step {d} i x e = record {
  nodes = e ∙ ap (λ ns. ns ++ leaf_node x ∷ []) i.nodes ∙ sym (flat_draft-add d (leaf tt x nil));
  begun_at = i.begun_at ∙ sym (places-add d (leaf tt x nil) 0);
}

pub begin_step : {d : PlainDraft} {ns ms : List Node} {ps qs : List ℕ} → IsDraft d ns ps → (a n : ℕ) → ms ≡ ns ++ element_node a 0 ∷ [] → n ≡ length ns → qs ≡ ps ++ n ∷ [] → IsDraft (begin d tt a) ms qs
begin_step {d} {ns} i a n e k p =
    let there : n ≡ 0 + length (flat_draft d) = omega (arith, k, ap length i.nodes) in
    record {
      nodes = e ∙ ap (λ ns. ns ++ element_node a 0 ∷ []) i.nodes ∙ sym (flat_draft-begin d a);
      begun_at = p ∙ ap₂ (λ ps n. ps ++ n ∷ []) i.begun_at there ∙ sym (places-begin d a 0);
    }

pub depth-length : {d : PlainDraft} {ns : List Node} {ps : List ℕ} → IsDraft d ns ps → length ps ≡ depth d
depth-length {d} i = ap length i.begun_at ∙ length-places d 0

-- what is taken from the end of the places is that of the innermost element
pub last_step : {d : PlainDraft} {ns : List Node} {ps qs : List ℕ} (n : ℕ) → IsDraft d ns ps → 0 < depth d → ps ≡ qs ++ n ∷ [] → (qs ≡ places 0 (end d)) × (n ≡ last_place d)
last_step {d} {ns} {ps} {qs} n i h p =
    let both = same_from_push qs (places 0 (end d)) n (0 + last_place d) (sym p ∙ i.begun_at ∙ places-end d 0 h) in
    (both.0, both.1 ∙ (omega arith))

pub last_lt : {d : PlainDraft} {ns : List Node} {ps : List ℕ} (qs : List ℕ) (n : ℕ) → IsDraft d ns ps → 0 < depth d → ps ≡ qs ++ n ∷ [] → n < length ns
last_lt {d} {ns} qs n i h p =
    let last = (last_step n i h p).1 in
    let low = last_place-lt d h in
    omega (arith, last, low, ap length i.nodes)

pub end_step : {d : PlainDraft} {ns : List Node} {ps qs : List ℕ} → IsDraft d ns ps → 0 < depth d → (n k : ℕ) (z : Node) → ps ≡ qs ++ n ∷ [] → k ≡ length ns → z ≡ get_or ns n z → IsDraft (end d) (set ns n (record { item = z.item; size = k - n })) qs
end_step {d} {ns} i h n k z p e g =
    let last = last_step n i h p in
    let found : z ≡ element_node (last_label d) 0 = g ∙ ap₂ (λ ns n. get_or ns n z) i.nodes last.1 ∙ get_or-last_place d z h in
    let span : k - n ≡ length (flat_draft d) - last_place d = omega (arith, e, last.1, ap length i.nodes) in
    let written : Node = record { item = z.item; size = k - n } in
    let same : written ≡ element_node (last_label d) (length (flat_draft d) - last_place d) = ap₂ (λ (y : Node) m. record { item = y.item; size = m }) found span in
    record {
      nodes = ap₂ (λ ns n. set ns n written) i.nodes last.1 ∙ ap (λ y. set (flat_draft d) (last_place d) y) same ∙ set-last_place d h;
      begun_at = last.0;
    }

pub add_step : {d : PlainDraft} {ns ms os : List Node} {ps : List ℕ} → IsDraft d ns ps → (h : Plain) → os ≡ flat h → ms ≡ ns ++ os → IsDraft (add d h) ms ps
add_step {d} i h f e = record {
  nodes = e ∙ ap₂ ◌++◌ i.nodes f ∙ sym (flat_draft-add d h);
  begun_at = i.begun_at ∙ sym (places-add d h 0);
}
