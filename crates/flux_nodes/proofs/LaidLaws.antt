use Rattle.flux_nodes.specs.Tables.{one_if, times}
use Rattle.std.proofs.Common.{◌≡◌, ◌≢◌, ℕ, ◌+◌, ◌<◌, ◌≤◌, zero, suc, List, [], ◌∷◌, length, Option, Some, None, refl, ap, ◌∙◌, sym, subst, arith}
use Rattle.std.proofs.Common.{◌⊎◌, inl, inr}
use Rattle.std.proofs.Math.ListN.{set, get_or}
use Rattle.std.proofs.lemmas.Bool.Decides.{nat_tests}
use Rattle.std.specs.List.{slice_get}
use Rattle.flux_trees.specs.Hedge.{Hedge, nil, elem, leaf, join}
use Rattle.flux_nodes.specs.declared.cell.NodeId.{NodeId}
use Rattle.flux_nodes.specs.declared.cell.Cell.{Cell}
use Rattle.flux_nodes.specs.Laid.{id, first_id, last_id, elem_cell, leaf_cell, IsLaid, edit, with_next, with_prev}

pub one_if-same : (k : ℕ) → one_if k k ≡ 1
one_if-same k = grind (arith, nat_tests)

pub one_if-other : (k m : ℕ) → k ≢ m → one_if k m ≡ 0
one_if-other k m n = grind (arith, nat_tests)

pub one_if-is : (k m : ℕ) → 0 < one_if k m → k ≡ m
one_if-is k m h = grind (arith, nat_tests)

pub edit-length : (f : Cell → Cell) (i : ℕ) (cs : List Cell) → length (edit f i cs) ≡ length cs
edit-length f i [] = refl
edit-length f zero (c ∷ cs) = refl
edit-length f (suc i) (c ∷ cs) = ap suc (edit-length f i cs)

pub edit-same : (f : Cell → Cell) (i : ℕ) (cs : List Cell) (c : Cell) → slice_get cs i ≡ Some c → slice_get (edit f i cs) i ≡ Some (f c)
edit-same f i [] c e = cc
edit-same f zero (b ∷ cs) c e = let same : b ≡ c = cc in ap (λ x. Some (f x)) same
edit-same f (suc i) (b ∷ cs) c e = edit-same f i cs c e

pub edit-other : (f : Cell → Cell) (i k : ℕ) (cs : List Cell) → k ≢ i → slice_get (edit f i cs) k ≡ slice_get cs k
edit-other f i k [] n = refl
edit-other f zero zero (b ∷ cs) n = absurd (n refl)
edit-other f zero (suc k) (b ∷ cs) n = refl
edit-other f (suc i) zero (b ∷ cs) n = refl
edit-other f (suc i) (suc k) (b ∷ cs) n = edit-other f i k cs (λ e. n (ap suc e))

-- the frame: only the cells of its own numbers matter
pub kept : (cs bs : List Cell) (p v : Option NodeId) (h : Hedge ℕ) (w : Option NodeId) → ((k : ℕ) → 0 < times k h → slice_get bs k ≡ slice_get cs k) → IsLaid cs p v h w → IsLaid bs p v h w
kept cs bs p v nil w same l = tt
kept cs bs p v (elem m a c r) w same l =
    (same m (omega (arith, one_if-same m)) ∙ l.0, kept cs bs (Some (id m)) None c None (λ k t. same k (omega arith)) l.1, kept cs bs p (Some (id m)) r w (λ k t. same k (omega arith)) l.2)
kept cs bs p v (leaf m x r) w same l =
    (same m (omega (arith, one_if-same m)) ∙ l.0, kept cs bs p (Some (id m)) r w (λ k t. same k (omega arith)) l.1)

-- a write to a cell of another number
pub kept-edit : (f : Cell → Cell) (i : ℕ) (cs : List Cell) (p v : Option NodeId) (h : Hedge ℕ) (w : Option NodeId) → times i h ≡ 0 → IsLaid cs p v h w → IsLaid (edit f i cs) p v h w
kept-edit f i cs p v h w z l =
    kept cs (edit f i cs) p v h w (λ k t. edit-other f i k cs (λ e. let at : 0 < times i h = subst (λ j. 0 < times j h) e t in absurd (omega arith))) l

pub first_id-join : (f g : Hedge ℕ) (o : Option NodeId) → first_id (join f g) o ≡ first_id f (first_id g o)
first_id-join nil g o = refl
first_id-join (elem m a c r) g o = refl
first_id-join (leaf m x r) g o = refl

pub last_id-join : (f g : Hedge ℕ) (o : Option NodeId) → last_id (join f g) o ≡ last_id g (last_id f o)
last_id-join nil g o = refl
last_id-join (elem m a c r) g o = last_id-join r g (Some (id m))
last_id-join (leaf m x r) g o = last_id-join r g (Some (id m))

pub times-join : (k : ℕ) (f g : Hedge ℕ) → times k (join f g) ≡ times k f + times k g
times-join k nil g = omega arith
times-join k (elem m a c r) g = omega (arith, times-join k r g)
times-join k (leaf m x r) g = omega (arith, times-join k r g)

pub laid-join : (cs : List Cell) (p v : Option NodeId) (f g : Hedge ℕ) (w : Option NodeId) → IsLaid cs p v (join f g) w → IsLaid cs p v f (first_id g w) × IsLaid cs p (last_id f v) g w
laid-join cs p v nil g w l = (tt, l)
laid-join cs p v (elem m a c r) g w l =
    let rest = laid-join cs p (Some (id m)) r g w l.2 in
    ((l.0 ∙ ap (λ o. Some (elem_cell a p v o (first_id c None) (last_id c None))) (first_id-join r g w), l.1, rest.0), rest.1)
laid-join cs p v (leaf m x r) g w l =
    let rest = laid-join cs p (Some (id m)) r g w l.1 in
    ((l.0 ∙ ap (λ o. Some (leaf_cell x p v o)) (first_id-join r g w), rest.0), rest.1)

pub join-laid : (cs : List Cell) (p v : Option NodeId) (f g : Hedge ℕ) (w : Option NodeId) → IsLaid cs p v f (first_id g w) → IsLaid cs p (last_id f v) g w → IsLaid cs p v (join f g) w
join-laid cs p v nil g w l k = k
join-laid cs p v (elem m a c r) g w l k =
    (l.0 ∙ ap (λ o. Some (elem_cell a p v o (first_id c None) (last_id c None))) (sym (first_id-join r g w)), l.1, join-laid cs p (Some (id m)) r g w l.2 k)
join-laid cs p v (leaf m x r) g w l k =
    (l.0 ∙ ap (λ o. Some (leaf_cell x p v o)) (sym (first_id-join r g w)), join-laid cs p (Some (id m)) r g w l.1 k)

pub set-edit : (f : Cell → Cell) (i : ℕ) (cs : List Cell) (z : Cell) → set cs i (f (get_or cs i z)) ≡ edit f i cs
set-edit f i [] z = refl
set-edit f zero (c ∷ cs) z = refl
set-edit f (suc i) (c ∷ cs) z = ap (λ bs. c ∷ bs) (set-edit f i cs z)

abbrev pub number_or : Option NodeId → ℕ
number_or None = 0
number_or (Some n) = n.0

pub last_some : (h : Hedge ℕ) (m : ℕ) → (q : ℕ) × (last_id h (Some (id m)) ≡ Some (id q))
last_some nil m = (m, refl)
last_some (elem n a c r) m = last_some r n
last_some (leaf n x r) m = last_some r n

pub last_in : (h : Hedge ℕ) (o : Option NodeId) (q : ℕ) → last_id h o ≡ Some (id q) → (0 < times q h) ⊎ (o ≡ Some (id q))
last_in nil o q e = inr e
last_in (elem m a c r) o q e =
    elim (last_in r (Some (id m)) q e) [ inl h ↦ inl (omega arith) | inr h ↦ inl (let same : q ≡ m = sym (ap number_or h) in let one : one_if q m ≡ 1 = ap (one_if q) (sym same) ∙ one_if-same q in omega arith) ]
last_in (leaf m x r) o q e =
    elim (last_in r (Some (id m)) q e) [ inl h ↦ inl (omega arith) | inr h ↦ inl (let same : q ≡ m = sym (ap number_or h) in let one : one_if q m ≡ 1 = ap (one_if q) (sym same) ∙ one_if-same q in omega arith) ]

pub last_within : (h : Hedge ℕ) (q : ℕ) → last_id h None ≡ Some (id q) → 0 < times q h
last_within h q e = elim (last_in h None q e) [ inl k ↦ k | inr k ↦ cc ]

-- a forest whose first cell is another than q, where q is in the rest
apart : (q m : ℕ) (n k : ℕ) → one_if q m + (n + k) ≤ 1 → 0 < k → m ≢ q
apart q m n k d h e = let one : one_if q m ≡ 1 = ap (one_if q) e ∙ one_if-same q in absurd (omega arith)

-- the next of the last tree is changed
pub relink_next : (cs : List Cell) (p v : Option NodeId) (h : Hedge ℕ) (w x : Option NodeId) (q : ℕ) → last_id h None ≡ Some (id q) → IsLaid cs p v h w → ((k : ℕ) → times k h ≤ 1) → IsLaid (edit (with_next x) q cs) p v h x
relink_next cs p v nil w x q e l d = cc
relink_next cs p v (elem m a c nil) w x q e l d =
    subst (λ j. IsLaid (edit (with_next x) j cs) p v (elem m a c nil) x) (ap number_or e) (edit-same (with_next x) m cs (elem_cell a p v w (first_id c None) (last_id c None)) l.0, kept-edit (with_next x) m cs (Some (id m)) None c None (omega (arith, d m, one_if-same m)) l.1, tt)
relink_next cs p v (elem m a c (elem n b g s)) w x q e l d =
    let rest : 0 < times q (elem n b g s) = last_within (elem n b g s) q e in
    (edit-other (with_next x) q m cs (apart q m (times q c) (times q (elem n b g s)) (d q) rest) ∙ l.0, kept-edit (with_next x) q cs (Some (id m)) None c None (omega (arith, d q, rest)) l.1, relink_next cs p (Some (id m)) (elem n b g s) w x q e l.2 (λ k. omega (arith, d k)))
relink_next cs p v (elem m a c (leaf n y s)) w x q e l d =
    let rest : 0 < times q (leaf n y s) = last_within (leaf n y s) q e in
    (edit-other (with_next x) q m cs (apart q m (times q c) (times q (leaf n y s)) (d q) rest) ∙ l.0, kept-edit (with_next x) q cs (Some (id m)) None c None (omega (arith, d q, rest)) l.1, relink_next cs p (Some (id m)) (leaf n y s) w x q e l.2 (λ k. omega (arith, d k)))
relink_next cs p v (leaf m y nil) w x q e l d =
    subst (λ j. IsLaid (edit (with_next x) j cs) p v (leaf m y nil) x) (ap number_or e) (edit-same (with_next x) m cs (leaf_cell y p v w) l.0, tt)
relink_next cs p v (leaf m y (elem n b g s)) w x q e l d =
    let rest : 0 < times q (elem n b g s) = last_within (elem n b g s) q e in
    (edit-other (with_next x) q m cs (apart q m 0 (times q (elem n b g s)) (omega (arith, d q)) rest) ∙ l.0, relink_next cs p (Some (id m)) (elem n b g s) w x q e l.1 (λ k. omega (arith, d k)))
relink_next cs p v (leaf m y (leaf n z s)) w x q e l d =
    let rest : 0 < times q (leaf n z s) = last_within (leaf n z s) q e in
    (edit-other (with_next x) q m cs (apart q m 0 (times q (leaf n z s)) (omega (arith, d q)) rest) ∙ l.0, relink_next cs p (Some (id m)) (leaf n z s) w x q e l.1 (λ k. omega (arith, d k)))

-- the previous of the first tree is changed
pub relink_prev : (cs : List Cell) (p v : Option NodeId) (h : Hedge ℕ) (w x : Option NodeId) (q : ℕ) → first_id h None ≡ Some (id q) → IsLaid cs p v h w → ((k : ℕ) → times k h ≤ 1) → IsLaid (edit (with_prev x) q cs) p x h w
relink_prev cs p v nil w x q e l d = cc
relink_prev cs p v (elem m a c r) w x q e l d =
    subst (λ j. IsLaid (edit (with_prev x) j cs) p x (elem m a c r) w) (ap number_or e) (edit-same (with_prev x) m cs (elem_cell a p v (first_id r w) (first_id c None) (last_id c None)) l.0, kept-edit (with_prev x) m cs (Some (id m)) None c None (omega (arith, d m, one_if-same m)) l.1, kept-edit (with_prev x) m cs p (Some (id m)) r w (omega (arith, d m, one_if-same m)) l.2)
relink_prev cs p v (leaf m y r) w x q e l d =
    subst (λ j. IsLaid (edit (with_prev x) j cs) p x (leaf m y r) w) (ap number_or e) (edit-same (with_prev x) m cs (leaf_cell y p v (first_id r w)) l.0, kept-edit (with_prev x) m cs p (Some (id m)) r w (omega (arith, d m, one_if-same m)) l.1)

pub first_within : (h : Hedge ℕ) (q : ℕ) → first_id h None ≡ Some (id q) → 0 < times q h
first_within nil q e = cc
first_within (elem m a c r) q e =
    let one : one_if q m ≡ 1 = ap (one_if q) (ap number_or e) ∙ one_if-same q in omega arith
first_within (leaf m x r) q e =
    let one : one_if q m ≡ 1 = ap (one_if q) (ap number_or e) ∙ one_if-same q in omega arith

-- with a tree, what comes behind or before the forest is not its first or last
pub first_id-any : (h : Hedge ℕ) (o w : Option NodeId) (q : ℕ) → 0 < times q h → first_id h o ≡ first_id h w
first_id-any nil o w q t = absurd (omega arith)
first_id-any (elem m a c r) o w q t = refl
first_id-any (leaf m x r) o w q t = refl

pub last_id-any : (h : Hedge ℕ) (o w : Option NodeId) (q : ℕ) → 0 < times q h → last_id h o ≡ last_id h w
last_id-any nil o w q t = absurd (omega arith)
last_id-any (elem m a c r) o w q t = refl
last_id-any (leaf m x r) o w q t = refl
