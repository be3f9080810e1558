-- Numbers taken from the supply.
use Rattle.std.proofs.Common.{◌≡◌, ◌⊎◌, inl, inr, ℕ, ◌+◌, ◌-◌, ◌<◌, ◌≤◌, zero, suc, List, [], ◌∷◌, ◌++◌, length, drop, Option, Some, None, refl, ap, ◌∙◌, sym, subst, arith, length-append, append_assoc}
use Rattle.std.specs.List.{slice_get}
use Rattle.std.proofs.Common.{Result, Err}
use Rattle.std.specs.Result.{IsOk}
use Rattle.std.proofs.Math.ListN.{get_or-append}
use Rattle.std.proofs.Math.Seq.{get_or-append_seam}
use Rattle.std.proofs.lemmas.List.{append-nil}
use Rattle.flux_trees.specs.Edits.{preceded}
use Rattle.flux_nodes.specs.declared.cell.NodeId.{NodeId}
use Rattle.flux_nodes.specs.declared.cell.Cell.{Cell}
use Rattle.flux_nodes.specs.Tables.{copies}
use Rattle.flux_nodes.specs.Laid.{id, numbers_of}
use Rattle.flux_nodes.specs.Kept.{IsSpare, spare_head, free_cell, HasSpare, IsTaken, AreTaken}
use Rattle.flux_nodes.proofs.TableLaws.{spare-kept, spare-within}
use Rattle.flux_nodes.proofs.SpareLaws.{spare-drop, drop-more, preceded-past, preceded-at}

pub slice_get-left : (cs xs : List Cell) (i : ℕ) → i < length cs → slice_get (cs ++ xs) i ≡ slice_get cs i
slice_get-left [] xs i l = absurd (omega arith)
slice_get-left (c ∷ cs) xs zero l = refl
slice_get-left (c ∷ cs) xs (suc i) l = slice_get-left cs xs i (omega arith)

pub copies-more : {X : Type 0} (n : ℕ) (x : X) → copies n x ++ x ∷ [] ≡ copies (suc n) x
copies-more zero x = refl
copies-more (suc n) x = ap (λ xs. x ∷ xs) (copies-more n x)

pub length-copies : {X : Type 0} (n : ℕ) (x : X) → length (copies n x) ≡ n
length-copies zero x = refl
length-copies (suc n) x = ap suc (length-copies n x)

pub spare-appended : (cs xs : List Cell) (ms : List ℕ) → IsSpare cs ms → IsSpare (cs ++ xs) ms
spare-appended cs xs ms s =
    spare-kept cs (cs ++ xs) ms (λ k t. slice_get-left cs xs k (spare-within cs ms k s t)) s

-- the free list in the middle of the taking
unfoldable pub taken-spare : (old now : List Cell) (f g : Option NodeId) (numbers : List NodeId) (k : ℕ) (h : HasSpare old f) → AreTaken old now h.spare g numbers k → HasSpare now g
taken-spare old now f g numbers k h a = record {
  spare = drop k h.spare;
  chain = subst (λ cs. IsSpare cs (drop k h.spare)) (sym a.cells_are) (spare-appended old (copies (k - length h.spare) (free_cell None)) (drop k h.spare) (spare-drop old k h.spare h.chain));
  head_is = a.free_is;
}

pub taken-start : (old : List Cell) (f : Option NodeId) (h : HasSpare old f) → AreTaken old old h.spare f [] 0
taken-start old f h = record {
  cells_are =
      let none : 0 - length h.spare ≡ 0 = omega arith in
      sym (append-nil old) ∙ ap (λ n. old ++ copies n (free_cell None)) (sym none);
  free_is = h.head_is;
  length_is = refl;
  numbers_are = λ i l. absurd (omega arith);
}

numbers-old : (ns : List NodeId) (n : NodeId) (i : ℕ) → i < length ns → numbers_of (ns ++ n ∷ []) i ≡ numbers_of ns i
numbers-old ns n i l = ap (λ (x : NodeId). x.0) (get_or-append ns (n ∷ []) (id 0) i l)

numbers-new : (ns : List NodeId) (n : NodeId) (i : ℕ) → i ≡ length ns → numbers_of (ns ++ n ∷ []) i ≡ n.0
numbers-new ns n i e =
    ap (λ j. numbers_of (ns ++ n ∷ []) j) e ∙ ap (λ (x : NodeId). x.0) (get_or-append_seam ns n [] (id 0))

split-last : (i k : ℕ) → i < suc k → (i < k) ⊎ (i ≡ k)
split-last zero zero l = inr refl
split-last zero (suc k) l = inl (omega arith)
split-last (suc i) zero l = absurd (omega arith)
split-last (suc i) (suc k) l =
    elim (split-last i k (omega arith)) [ inl h ↦ inl (omega arith) | inr h ↦ inr (ap suc h) ]

drop-nil-length : (k : ℕ) (ms : List ℕ) → drop k ms ≡ [] → length ms ≤ k
drop-nil-length zero ms e = omega (arith, ap length e)
drop-nil-length (suc k) [] e = omega arith
drop-nil-length (suc k) (m ∷ ms) e = omega (arith, drop-nil-length k ms e)

drop-cons-length : (k m : ℕ) (ms ns : List ℕ) → drop k ms ≡ m ∷ ns → k < length ms
drop-cons-length zero m [] ns e = cc
drop-cons-length zero m (x ∷ xs) ns e = omega arith
drop-cons-length (suc k) m [] ns e = cc
drop-cons-length (suc k) m (x ∷ xs) ns e = omega (arith, drop-cons-length k m xs ns e)

-- one number more
grow-numbers : (old : List Cell) (ms : List ℕ) (numbers : List NodeId) (k : ℕ) (node : NodeId) → length numbers ≡ k → ((i : ℕ) → i < k → numbers_of numbers i ≡ preceded ms (λ j. length old + j) i) → node.0 ≡ preceded ms (λ j. length old + j) k → (i : ℕ) → i < suc k → numbers_of (numbers ++ node ∷ []) i ≡ preceded ms (λ j. length old + j) i
grow-numbers old ms numbers k node len are is i l = elim (split-last i k l) [
  | inl h ↦ numbers-old numbers node i (omega (arith, len)) ∙ are i h
  | inr h ↦ numbers-new numbers node i (h ∙ sym len) ∙ is ∙ ap (preceded ms (λ j. length old + j)) (sym h)
]

pub taken-next : (old now new : List Cell) (f g next : Option NodeId) (numbers more : List NodeId) (node : NodeId) (k : ℕ) (h : HasSpare old f) → AreTaken old now h.spare g numbers k → ((s : HasSpare now g) → IsTaken now new s.spare next node) → more ≡ numbers ++ node ∷ [] → AreTaken old new h.spare next more (suc k)
unfolding taken-spare
taken-next old now new f g next numbers more node k h a taken e =
    go (drop k h.spare) refl (taken (taken-spare old now f g numbers k h a))
  where
    longer : length more ≡ suc k
    longer = omega (arith, ap length e, length-append numbers (node ∷ []), a.length_is)

    go : (left : List ℕ) → drop k h.spare ≡ left → IsTaken now new left next node → AreTaken old new h.spare next more (suc k)
    go [] d t =
        let past : length h.spare ≤ k = drop-nil-length k h.spare d in
        let one : suc k - length h.spare ≡ suc (k - length h.spare) = omega arith in
        let at : k ≡ length h.spare + (k - length h.spare) = omega arith in
        let here : node.0 ≡ length old + (k - length h.spare) = omega (arith, t.0, ap length a.cells_are, length-append old (copies (k - length h.spare) (free_cell None)), length-copies (k - length h.spare) (free_cell None)) in
        let number : node.0 ≡ preceded h.spare (λ j. length old + j) k = here ∙ sym (preceded-past h.spare (λ j. length old + j) (k - length h.spare)) ∙ ap (preceded h.spare (λ j. length old + j)) (sym at) in
        record {
          cells_are = t.1 ∙ ap (λ cs. cs ++ free_cell None ∷ []) a.cells_are ∙ append_assoc old (copies (k - length h.spare) (free_cell None)) (free_cell None ∷ []) ∙ ap (λ xs. old ++ xs) (copies-more (k - length h.spare) (free_cell None)) ∙ ap (λ n. old ++ copies n (free_cell None)) (sym one);
          free_is = t.2 ∙ ap spare_head (sym (drop-suc d));
          length_is = longer;
          numbers_are = subst (λ ns. (i : ℕ) → i < suc k → numbers_of ns i ≡ preceded h.spare (λ j. length old + j) i) (sym e) (grow-numbers old h.spare numbers k node a.length_is a.numbers_are number);
        }
      where
        drop-suc : drop k h.spare ≡ [] → drop (suc k) h.spare ≡ []
        drop-suc d =
            let s : suc k ≡ k + 1 = omega arith in
            ap (λ n. drop n h.spare) s ∙ drop-more k h.spare ∙ ap (drop 1) d
    go (m ∷ ms) d t =
        let before : k < length h.spare = drop-cons-length k m h.spare ms d in
        let same : suc k - length h.spare ≡ k - length h.spare = omega arith in
        let number : node.0 ≡ preceded h.spare (λ j. length old + j) k = sym (preceded-at h.spare (λ j. length old + j) k node (ap (λ j. Some (id j)) t.0 ∙ ap spare_head (sym d))) in
        let s : suc k ≡ k + 1 = omega arith in
        record {
          cells_are = t.1 ∙ a.cells_are ∙ ap (λ n. old ++ copies n (free_cell None)) (sym same);
          free_is = t.2 ∙ ap spare_head (sym (ap (λ n. drop n h.spare) s ∙ drop-more k h.spare ∙ ap (drop 1) d));
          length_is = longer;
          numbers_are = subst (λ ns. (i : ℕ) → i < suc k → numbers_of ns i ≡ preceded h.spare (λ j. length old + j) i) (sym e) (grow-numbers old h.spare numbers k node a.length_is a.numbers_are number);
        }

-- where nothing is free any more, there is room for the cells that are to come
pub taken-room : (old now : List Cell) (f g : Option NodeId) (numbers : List NodeId) (k count room : ℕ) (h : HasSpare old f) → AreTaken old now h.spare g numbers k → k < count → length old + (count - length h.spare) ≤ room → g ≡ None → length now < room
taken-room old now f g numbers k count room h a l enough none =
    let past : length h.spare ≤ k = go (drop k h.spare) refl (sym none ∙ a.free_is) in
    omega (arith, ap length a.cells_are, length-append old (copies (k - length h.spare) (free_cell None)), length-copies (k - length h.spare) (free_cell None))
  where
    go : (left : List ℕ) → drop k h.spare ≡ left → None ≡ spare_head left → length h.spare ≤ k
    go [] d e = drop-nil-length k h.spare d
    go (m ∷ ms) d e = cc

pub taken-turn : (old now new : List Cell) (f g next : Option NodeId) (numbers more : List NodeId) (node : NodeId) (k : ℕ) → ((h : HasSpare old f) → AreTaken old now h.spare g numbers k) → ((s : HasSpare now g) → IsTaken now new s.spare next node) → more ≡ numbers ++ node ∷ [] → (h : HasSpare old f) → AreTaken old new h.spare next more (k + 1)
taken-turn old now new f g next numbers more node k a taken e h =
    let s : suc k ≡ k + 1 = omega arith in
    subst (λ n. AreTaken old new h.spare next more n) s (taken-next old now new f g next numbers more node k h (a h) taken e)

pub taken-length : (old now : List Cell) (f g : Option NodeId) (numbers : List NodeId) (k : ℕ) (h : HasSpare old f) → AreTaken old now h.spare g numbers k → length numbers ≡ k
taken-length old now f g numbers k h a = a.length_is

pub err-not_ok : {A E : Type 0} (r : Result A E) (x : E) → IsOk r → r ≡ Err x → ⊥
err-not_ok {A} {E} r x ok e =
    let bad : Result A E = Err x in
    let no : IsOk bad = subst (λ (s : Result A E). IsOk s) e ok in
    cc
