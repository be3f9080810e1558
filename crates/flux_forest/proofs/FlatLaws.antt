-- Decoding undoes encoding, and what each step of writing does to the nodes.
use Rattle.std.proofs.Common.{◌≡◌, ℕ, ◌+◌, ◌-◌, ◌<◌, suc, List, [], ◌∷◌, ◌++◌, length, refl, ap, ap₂, ◌∙◌, sym, arith, append_assoc, length-append}
use Rattle.std.proofs.Math.ListN.{set, get_or}
use Rattle.std.proofs.lemmas.List.{append-nil, set-append_right, get_or-append_right}
use Rattle.std.proofs.Math.Seq.{set-append_seam, get_or-append_seam}
use Rattle.flux_trees.specs.Hedge.{Plain, nil, elem, leaf, join, size}
use Rattle.flux_trees.specs.Draft.{done, begun, add, begin, end, depth}
use Rattle.flux_trees.proofs.HedgeLaws.{join-nil}
use Rattle.flux_forest.specs.declared.node.Item.TheVariants.{Element}
use Rattle.flux_forest.specs.declared.node.Node.{Node}
use Rattle.flux_forest.specs.Flat.{PlainDraft, element_node, leaf_node, flat, flat_draft, places, take_size, drop_size, put, hedge_of, on_outer, draft_of}

pub flat-join : (f g : Plain) → flat (join f g) ≡ flat f ++ flat g
flat-join nil g = refl
flat-join (elem _ a c r) g =
    ap (λ ns. element_node a (suc (size c)) ∷ ns) (ap (λ ns. flat c ++ ns) (flat-join r g) ∙ sym (append_assoc (flat c) (flat r) (flat g)))
flat-join (leaf _ x r) g = ap (λ ns. leaf_node x ∷ ns) (flat-join r g)

pub length-flat : (h : Plain) → length (flat h) ≡ size h
length-flat nil = refl
length-flat (elem _ a c r) =
    ap suc (length-append (flat c) (flat r) ∙ ap₂ ◌+◌ (length-flat c) (length-flat r))
length-flat (leaf _ x r) = ap suc (length-flat r)

pub take_size-join : (c r : Plain) → take_size (size c) (join c r) ≡ c
take_size-join nil nil = refl
take_size-join nil (elem _ a d e) = refl
take_size-join nil (leaf _ x e) = refl
take_size-join (elem _ a d e) r =
    let same : (size d + size e) - size d ≡ size e = omega arith in
    ap (λ n. elem tt a d (take_size n (join e r))) same ∙ ap (elem tt a d) (take_size-join e r)
take_size-join (leaf _ x e) r = ap (leaf tt x) (take_size-join e r)

pub drop_size-join : (c r : Plain) → drop_size (size c) (join c r) ≡ r
drop_size-join nil nil = refl
drop_size-join nil (elem _ a d e) = refl
drop_size-join nil (leaf _ x e) = refl
drop_size-join (elem _ a d e) r =
    let same : (size d + size e) - size d ≡ size e = omega arith in
    ap (λ n. drop_size n (join e r)) same ∙ drop_size-join e r
drop_size-join (leaf _ x e) r = drop_size-join e r

put-join : (a : ℕ) (c r h : Plain) → h ≡ join c r → put (Element a) (suc (size c)) h ≡ elem tt a c r
put-join a c r h e =
    ap (put (Element a) (suc (size c))) e ∙ ap₂ (elem tt a) (take_size-join c r) (drop_size-join c r)

pub hedge_of-append : (f : Plain) (ns : List Node) → hedge_of (flat f ++ ns) ≡ join f (hedge_of ns)
hedge_of-append nil ns = refl
hedge_of-append (elem _ a c r) ns =
    put-join a c (join r (hedge_of ns)) _ (ap hedge_of (append_assoc (flat c) (flat r) ns) ∙ hedge_of-append c (flat r ++ ns) ∙ ap (join c) (hedge_of-append r ns))
hedge_of-append (leaf _ x r) ns = ap (leaf tt x) (hedge_of-append r ns)

before_outer-nil : (d : PlainDraft) → on_outer (join nil) d ≡ d
before_outer-nil (done h) = refl
before_outer-nil (begun b _ a d) = refl

on_outer-twice : (f g : Plain → Plain) (d : PlainDraft) → on_outer f (on_outer g d) ≡ on_outer (λ h. f (g h)) d
on_outer-twice f g (done h) = refl
on_outer-twice f g (begun b _ a d) = refl

put-element : (a : ℕ) (c r : Plain) (d : PlainDraft) → on_outer (put (Element a) (suc (size c))) (on_outer (join c) (on_outer (join r) d)) ≡ on_outer (join (elem tt a c r)) d
put-element a c r (done h) = ap done (put-join a c (join r h) _ refl)
put-element a c r (begun b _ e d) = ap (λ g. begun g tt e d) (put-join a c (join r b) _ refl)

pub draft_of-append : (f : Plain) (ns : List Node) → draft_of (flat f ++ ns) ≡ on_outer (join f) (draft_of ns)
draft_of-append nil ns = sym (before_outer-nil (draft_of ns))
draft_of-append (elem _ a c r) ns =
    ap (on_outer (put (Element a) (suc (size c)))) (ap draft_of (append_assoc (flat c) (flat r) ns) ∙ draft_of-append c (flat r ++ ns) ∙ ap (on_outer (join c)) (draft_of-append r ns)) ∙ put-element a c r (draft_of ns)
draft_of-append (leaf _ x r) ns =
    ap (on_outer (leaf tt x)) (draft_of-append r ns) ∙ on_outer-twice (leaf tt x) (join r) (draft_of ns)

pub hedge_of-flat : (h : Plain) → hedge_of (flat h) ≡ h
hedge_of-flat h = ap hedge_of (sym (append-nil (flat h))) ∙ hedge_of-append h [] ∙ join-nil h

pub draft_of-flat_draft : (d : PlainDraft) → draft_of (flat_draft d) ≡ d
draft_of-flat_draft (done h) =
    ap draft_of (sym (append-nil (flat h))) ∙ draft_of-append h [] ∙ ap done (join-nil h)
draft_of-flat_draft (begun b _ a d) =
    draft_of-append b (element_node a 0 ∷ flat_draft d) ∙ ap₂ (λ h e. begun h tt a e) (join-nil b) (draft_of-flat_draft d)

-- what each step of writing does

pub flat_draft-add : (d : PlainDraft) (h : Plain) → flat_draft (add d h) ≡ flat_draft d ++ flat h
flat_draft-add (done g) h = flat-join g h
flat_draft-add (begun b _ a d) h =
    ap (λ ns. flat b ++ element_node a 0 ∷ ns) (flat_draft-add d h) ∙ sym (append_assoc (flat b) (element_node a 0 ∷ flat_draft d) (flat h))

pub flat_draft-begin : (d : PlainDraft) (a : ℕ) → flat_draft (begin d tt a) ≡ flat_draft d ++ element_node a 0 ∷ []
flat_draft-begin (done g) a = refl
flat_draft-begin (begun b _ e d) a =
    ap (λ ns. flat b ++ element_node e 0 ∷ ns) (flat_draft-begin d a) ∙ sym (append_assoc (flat b) (element_node e 0 ∷ flat_draft d) (element_node a 0 ∷ []))

pub places-add : (d : PlainDraft) (h : Plain) (i : ℕ) → places i (add d h) ≡ places i d
places-add (done g) h i = refl
places-add (begun b _ a d) h i = ap (λ ps. (i + size b) ∷ ps) (places-add d h (i + size b + 1))

pub places-begin : (d : PlainDraft) (a i : ℕ) → places i (begin d tt a) ≡ places i d ++ (i + length (flat_draft d)) ∷ []
places-begin (done g) a i = ap (λ n. (i + n) ∷ []) (sym (length-flat g))
places-begin (begun b _ e d) a i =
    let there : i + size b + 1 + length (flat_draft d) ≡ i + length (flat_draft (begun b tt e d)) = omega (arith, length-append (flat b) (element_node e 0 ∷ flat_draft d), length-flat b) in
    ap (λ ps. (i + size b) ∷ ps) (places-begin d a (i + size b + 1) ∙ ap (λ n. places (i + size b + 1) d ++ n ∷ []) there)

pub length-places : (d : PlainDraft) (i : ℕ) → length (places i d) ≡ depth d
length-places (done g) i = refl
length-places (begun b _ a d) i = ap suc (length-places d (i + size b + 1))

-- where the innermost begun element stands, and its label
abbrev pub last_place : PlainDraft → ℕ
last_place (done g) = 0
last_place (begun b _ a (done g)) = size b
last_place (begun b _ a (begun c _ e d)) = size b + 1 + last_place (begun c tt e d)

abbrev pub last_label : PlainDraft → ℕ
last_label (done g) = 0
last_label (begun b _ a (done g)) = a
last_label (begun b _ a (begun c _ e d)) = last_label (begun c tt e d)

pub places-end : (d : PlainDraft) (i : ℕ) → 0 < depth d → places i d ≡ places i (end d) ++ (i + last_place d) ∷ []
places-end (done g) i h = absurd (omega (arith, h))
places-end (begun b _ a (done g)) i h = refl
places-end (begun b _ a (begun c _ e d)) i h =
    let there : i + size b + 1 + last_place (begun c tt e d) ≡ i + (size b + 1 + last_place (begun c tt e d)) = omega arith in
    ap (λ ps. (i + size b) ∷ ps) (places-end (begun c tt e d) (i + size b + 1) (omega arith) ∙ ap (λ n. places (i + size b + 1) (end (begun c tt e d)) ++ n ∷ []) there)

pub last_place-lt : (d : PlainDraft) → 0 < depth d → last_place d < length (flat_draft d)
last_place-lt (done g) h = absurd (omega (arith, h))
last_place-lt (begun b _ a (done g)) h =
    omega (arith, length-append (flat b) (element_node a 0 ∷ flat g), length-flat b)
last_place-lt (begun b _ a (begun c _ e d)) h =
    let inner : last_place (begun c tt e d) < length (flat_draft (begun c tt e d)) = last_place-lt (begun c tt e d) (omega arith) in
    omega (arith, length-append (flat b) (element_node a 0 ∷ flat_draft (begun c tt e d)), length-flat b)

pub get_or-last_place : (d : PlainDraft) (z : Node) → 0 < depth d → get_or (flat_draft d) (last_place d) z ≡ element_node (last_label d) 0
get_or-last_place (done g) z h = absurd (omega (arith, h))
get_or-last_place (begun b _ a (done g)) z h =
    ap (λ n. get_or (flat b ++ element_node a 0 ∷ flat g) n z) (sym (length-flat b)) ∙ get_or-append_seam (flat b) (element_node a 0) (flat g) z
get_or-last_place (begun b _ a (begun c _ e d)) z h =
    let inner : List Node = flat_draft (begun c tt e d) in
    let there : (size b + 1 + last_place (begun c tt e d)) - size b ≡ suc (last_place (begun c tt e d)) = omega arith in
    get_or-append_right (flat b) (element_node a 0 ∷ flat_draft (begun c tt e d)) (size b) (size b + 1 + last_place (begun c tt e d)) z (length-flat b) (omega arith) ∙ ap (λ n. get_or (element_node a 0 ∷ flat_draft (begun c tt e d)) n z) there ∙ get_or-last_place (begun c tt e d) z (omega arith)

pub set-last_place : (d : PlainDraft) → 0 < depth d → set (flat_draft d) (last_place d) (element_node (last_label d) (length (flat_draft d) - last_place d)) ≡ flat_draft (end d)
set-last_place (done g) h = absurd (omega (arith, h))
set-last_place (begun b _ a (done g)) h =
    let span : length (flat b ++ element_node a 0 ∷ flat g) - size b ≡ suc (size g) = omega (arith, length-append (flat b) (element_node a 0 ∷ flat g), length-flat b, length-flat g) in
    ap₂ (λ n k. set (flat b ++ element_node a 0 ∷ flat g) n (element_node a k)) (sym (length-flat b)) span ∙ set-append_seam (flat b) (element_node a 0) (flat g) (element_node a (suc (size g))) ∙ ap (λ ns. flat b ++ element_node a (suc (size g)) ∷ ns) (sym (append-nil (flat g))) ∙ sym (flat-join b (elem tt a g nil))
set-last_place (begun b _ a (begun c _ e d)) h =
    let there : (size b + 1 + last_place (begun c tt e d)) - size b ≡ suc (last_place (begun c tt e d)) = omega arith in
    let span : length (flat b ++ element_node a 0 ∷ flat_draft (begun c tt e d)) - (size b + 1 + last_place (begun c tt e d)) ≡ length (flat_draft (begun c tt e d)) - last_place (begun c tt e d) = omega (arith, length-append (flat b) (element_node a 0 ∷ flat_draft (begun c tt e d)), length-flat b) in
    let last : ℕ = last_label (begun c tt e d) in
    set-append_right (flat b) (element_node a 0 ∷ flat_draft (begun c tt e d)) (size b) (size b + 1 + last_place (begun c tt e d)) _ (length-flat b) (omega arith) ∙ ap₂ (λ n k. flat b ++ set (element_node a 0 ∷ flat_draft (begun c tt e d)) n (element_node (last_label (begun c tt e d)) k)) there span ∙ ap (λ ns. flat b ++ element_node a 0 ∷ ns) (set-last_place (begun c tt e d) (omega arith))
