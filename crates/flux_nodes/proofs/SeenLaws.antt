-- What a table shows is what its cells hold.
use Rattle.flux_nodes.specs.Tables.{one_if, times, times_in}
use Rattle.std.proofs.Math.Bool.{and-false}
use Rattle.std.proofs.Common.{◌≡◌, ◌⊎◌, inl, inr, ℕ, ◌+◌, ◌<◌, ◌≤◌, zero, suc, List, [], ◌∷◌, length, Bool, true, false, ◌&&◌, cond, Option, Some, None, refl, ap, ap₂, ◌∙◌, sym, subst, arith}
use Rattle.std.proofs.lemmas.Bool.Decides.{nat_tests}
use Rattle.std.specs.List.{slice_get, sum_by}
use Rattle.std.proofs.Math.ListN.{get_or}
use Rattle.std.proofs.lemmas.Option.{slice_get_within}
use Rattle.std.proofs.lemmas.List.Sums.{sum_by-cons}
use Rattle.flux_trees.specs.Hedge.{Hedge, nil, elem, leaf, size}
use Rattle.flux_nodes.specs.declared.cell.NodeId.{NodeId}
use Rattle.flux_nodes.specs.declared.cell.Cell.{Cell}
use Rattle.flux_nodes.specs.Laid.{id, first_id, last_id, elem_cell, leaf_cell, IsLaid}
use Rattle.flux_nodes.specs.Tables.{Meaning}
use Rattle.flux_nodes.specs.Decoded.{meaning_of, hedge_from, grow, runs_from, run_at, spare_from, next_in, is_none, is_id, is_alone}
use Rattle.flux_nodes.specs.Kept.{IsTable, IsSpare, spare_head, free_cell}
use Rattle.flux_nodes.proofs.LaidLaws.{one_if-is, first_within, number_or}
use Rattle.flux_nodes.proofs.TableLaws.{get-or-sum}
use Rattle.flux_nodes.proofs.MoveLaws.{apart}

pub hedge-seen : (cs : List Cell) (p v : Option NodeId) (h : Hedge ℕ) (k : ℕ) → IsLaid cs p v h None → size h ≤ k → hedge_from cs k (first_id h None) ≡ h
hedge-seen cs p v nil zero l s = refl
hedge-seen cs p v nil (suc k) l s = refl
hedge-seen cs p v (elem m a c r) zero l s = absurd (omega arith)
hedge-seen cs p v (elem m a c r) (suc k) l s =
    ap (λ o. grow m o (λ q. hedge_from cs k q)) l.0 ∙ ap₂ (elem m a) (hedge-seen cs (Some (id m)) None c k l.1 (omega arith)) (hedge-seen cs p (Some (id m)) r k l.2 (omega arith))
hedge-seen cs p v (leaf m x r) zero l s = absurd (omega arith)
hedge-seen cs p v (leaf m x r) (suc k) l s =
    ap (λ o. grow m o (λ q. hedge_from cs k q)) l.0 ∙ ap (leaf m x) (hedge-seen cs p (Some (id m)) r k l.1 (omega arith))

pub spare-seen : (cs : List Cell) (ms : List ℕ) (k : ℕ) → IsSpare cs ms → length ms ≤ k → spare_from cs k (spare_head ms) ≡ ms
spare-seen cs [] zero s h = refl
spare-seen cs [] (suc k) s h = refl
spare-seen cs (m ∷ ms) zero s h = absurd (omega arith)
spare-seen cs (m ∷ ms) (suc k) s h =
    ap (λ o. m ∷ spare_from cs k (next_in o)) s.0 ∙ ap (λ ns. m ∷ ns) (spare-seen cs ms k s.1 (omega arith))

pub runs-seen : (all : List Cell) (t : Option NodeId) (i : ℕ) (cs : List Cell) (hs : List (Hedge ℕ)) → length hs ≡ length cs → ((j : ℕ) (c : Cell) → slice_get cs j ≡ Some c → run_at all t (i + j) c ≡ get_or hs j nil) → runs_from all t i cs ≡ hs
runs-seen all t i [] [] n e = refl
runs-seen all t i [] (h ∷ hs) n e = absurd (omega arith)
runs-seen all t i (c ∷ cs) [] n e = absurd (omega arith)
runs-seen all t i (c ∷ cs) (h ∷ hs) n e =
    ap₂ (λ x xs. x ∷ xs) (subst (λ j. run_at all t j c ≡ h) (omega arith) (e 0 c refl)) (runs-seen all t (i + 1) cs hs (omega arith) (λ j d g. subst (λ q. run_at all t q d ≡ get_or hs j nil) (omega arith) (e (suc j) d g)))

pub split2 : (x y : ℕ) → 0 < x + y → (0 < x) ⊎ (0 < y)
split2 zero y h = inr (omega arith)
split2 (suc x) y h = inl (omega arith)

pub one_cell : (c d : Cell) (o : Option Cell) → o ≡ Some c → o ≡ Some d → c ≡ d
one_cell c d o e g = let both : Some c ≡ Some d = sym e ∙ g in cc

-- a cell with a parent or a tree before it begins no run
pub not-alone : (cs : List Cell) (p v : Option NodeId) (h : Hedge ℕ) (w : Option NodeId) (k : ℕ) (c : Cell) → IsLaid cs p v h w → (is_none p && is_none v) ≡ false → 0 < times k h → slice_get cs k ≡ Some c → is_alone c ≡ false
not-alone cs p v nil w k c l n t g = absurd (omega arith)
not-alone cs p v (elem m a d r) w k c l n t g = elim (split2 (one_if k m) (times k d + times k r) t) [
  | inl x ↦ ap is_alone (one_cell c (elem_cell a p v (first_id r w) (first_id d None) (last_id d None)) (slice_get cs k) g (ap (slice_get cs) (one_if-is k m x) ∙ l.0)) ∙ n
  | inr y ↦ elim (split2 (times k d) (times k r) y) [ inl x ↦ not-alone cs (Some (id m)) None d None k c l.1 refl x g | inr x ↦ not-alone cs p (Some (id m)) r w k c l.2 (and-false (is_none p)) x g ]
]
not-alone cs p v (leaf m y r) w k c l n t g = elim (split2 (one_if k m) (times k r) t) [
  | inl x ↦ ap is_alone (one_cell c (leaf_cell y p v (first_id r w)) (slice_get cs k) g (ap (slice_get cs) (one_if-is k m x) ∙ l.0)) ∙ n
  | inr x ↦ not-alone cs p (Some (id m)) r w k c l.1 (and-false (is_none p)) x g
]

pub alone-first : (cs : List Cell) (h : Hedge ℕ) (k : ℕ) (c : Cell) → IsLaid cs None None h None → 0 < times k h → slice_get cs k ≡ Some c → is_alone c ≡ true → first_id h None ≡ Some (id k)
alone-first cs nil k c l t g a = absurd (omega arith)
alone-first cs (elem m b d r) k c l t g a = elim (split2 (one_if k m) (times k d + times k r) t) [
  | inl x ↦ ap (λ j. Some (id j)) (sym (one_if-is k m x))
  | inr y ↦ elim (split2 (times k d) (times k r) y) [ inl x ↦ let no : is_alone c ≡ false = not-alone cs (Some (id m)) None d None k c l.1 refl x g in cc | inr x ↦ let no : is_alone c ≡ false = not-alone cs None (Some (id m)) r None k c l.2 refl x g in cc ]
]
alone-first cs (leaf m y r) k c l t g a = elim (split2 (one_if k m) (times k r) t) [
  | inl x ↦ ap (λ j. Some (id j)) (sym (one_if-is k m x))
  | inr x ↦ let no : is_alone c ≡ false = not-alone cs None (Some (id m)) r None k c l.1 refl x g in cc
]

pub first-alone : (cs : List Cell) (h : Hedge ℕ) (k : ℕ) (c : Cell) → IsLaid cs None None h None → first_id h None ≡ Some (id k) → slice_get cs k ≡ Some c → is_alone c ≡ true
first-alone cs nil k c l e g = cc
first-alone cs (elem m b d r) k c l e g =
    ap is_alone (one_cell c (elem_cell b None None (first_id r None) (first_id d None) (last_id d None)) (slice_get cs k) g (ap (slice_get cs) (sym (ap number_or e)) ∙ l.0))
first-alone cs (leaf m y r) k c l e g =
    ap is_alone (one_cell c (leaf_cell y None None (first_id r None)) (slice_get cs k) g (ap (slice_get cs) (sym (ap number_or e)) ∙ l.0))

pub spare-not-alone : (cs : List Cell) (ms : List ℕ) (k : ℕ) (c : Cell) → IsSpare cs ms → 0 < times_in k ms → slice_get cs k ≡ Some c → is_alone c ≡ false
spare-not-alone cs [] k c s t g = absurd (omega arith)
spare-not-alone cs (m ∷ ms) k c s t g = elim (split2 (one_if k m) (times_in k ms) t) [
  | inl x ↦ ap is_alone (one_cell c (free_cell (spare_head ms)) (slice_get cs k) g (ap (slice_get cs) (one_if-is k m x) ∙ s.0))
  | inr x ↦ spare-not-alone cs ms k c s.1 x g
]

pub is_id-true : (t : Option NodeId) (k : ℕ) → is_id t k ≡ true → t ≡ Some (id k)
is_id-true None k e = cc
is_id-true (Some n) k e = let same : n.0 ≡ k = grind (arith, nat_tests) in ap (λ j. Some (id j)) same

pub is_id-same : (k : ℕ) → is_id (Some (id k)) k ≡ true
is_id-same k = grind (arith, nat_tests)

pub some-term : (f : Hedge ℕ → ℕ) → f nil ≡ 0 → (hs : List (Hedge ℕ)) → 0 < sum_by f hs → (j : ℕ) × (0 < f (get_or hs j nil))
some-term f z [] h = absurd (omega arith)
some-term f z (x ∷ xs) h = elim (split2 (f x) (sum_by f xs) (omega (arith, sum_by-cons f x xs))) [
  | inl a ↦ (0, a)
  | inr b ↦ let rest : (j : ℕ) × (0 < f (get_or xs j nil)) = some-term f z xs b in (suc rest.0, rest.1)
]

pub run-seen : (cs : List Cell) (t e f : Option NodeId) (m : Meaning) (k : ℕ) (c : Cell) → IsTable cs t e f m → slice_get cs k ≡ Some c → run_at cs t k c ≡ get_or m.unlinked k nil
run-seen cs t e f m k c i g = go (i.runs k).begins
  where
    shown : (b d : Bool) → is_id t k ≡ b → is_alone c ≡ d → run_at cs t k c ≡ cond (cond b false d) (hedge_from cs (length cs) (Some (id k))) nil
    shown b d x y =
        ap₂ (λ p q. cond (cond p false q) (hedge_from cs (length cs) (Some (id k))) nil) x y

    -- a cell that stands alone is the first of the document or of a run
    none : get_or m.unlinked k nil ≡ nil → is_id t k ≡ false → is_alone c ≡ true → ⊥
    none empty isnt is =
        let within : k < length cs = slice_get_within cs k c g in
        elim (split2 (times k m.document) (sum_by (times k) m.unlinked + times_in k m.spare) (omega (arith, i.once k within))) [
          | inl x ↦ (let first : t ≡ Some (id k) = i.doc.first_is ∙ alone-first cs m.document k c i.doc.laid x g is in
              let true_too : is_id t k ≡ true = ap (λ o. is_id o k) first ∙ is_id-same k in cc)
          | inr y ↦ elim (split2 (sum_by (times k) m.unlinked) (times_in k m.spare) y) [
            | inl x ↦ (let found : (j : ℕ) × (0 < times k (get_or m.unlinked j nil)) = some-term (times k) refl m.unlinked x in
                let first : first_id (get_or m.unlinked found.0 nil) None ≡ Some (id k) = alone-first cs (get_or m.unlinked found.0 nil) k c (i.runs found.0).laid found.1 g is in
                elim (i.runs found.0).begins [
                  | inl n ↦ absurd (omega (arith, ap (times k) n, found.1))
                  | inr s ↦ (let same : k ≡ found.0 = ap number_or (sym first ∙ s) in
                      let here : 0 < times k (get_or m.unlinked k nil) = subst (λ j. 0 < times k (get_or m.unlinked j nil)) (sym same) found.1 in
                      absurd (omega (arith, ap (times k) empty)))
                ])
            | inr x ↦ (let no_too : is_alone c ≡ false = spare-not-alone cs m.spare k c i.spare x g in cc)
          ]
        ]

    empty-case : get_or m.unlinked k nil ≡ nil → (b d : Bool) → is_id t k ≡ b → is_alone c ≡ d → run_at cs t k c ≡ get_or m.unlinked k nil
    empty-case n true d x y = shown true d x y ∙ sym n
    empty-case n false true x y = absurd (none n x y)
    empty-case n false false x y = shown false false x y ∙ sym n

    full-case : first_id (get_or m.unlinked k nil) None ≡ Some (id k) → (b : Bool) → is_id t k ≡ b → run_at cs t k c ≡ get_or m.unlinked k nil
    full-case s true x =
        let first : first_id m.document None ≡ Some (id k) = sym i.doc.first_is ∙ is_id-true t k x in
        absurd (omega (arith, first_within m.document k first, first_within (get_or m.unlinked k nil) k s, apart cs t e f m k k i))
    full-case s false x =
        shown false true x (first-alone cs (get_or m.unlinked k nil) k c (i.runs k).laid s g) ∙ ap (hedge_from cs (length cs)) (sym s) ∙ hedge-seen cs None None (get_or m.unlinked k nil) (length cs) (i.runs k).laid (omega (arith, i.all, get-or-sum size nil refl m.unlinked k))

    go : (get_or m.unlinked k nil ≡ nil) ⊎ (first_id (get_or m.unlinked k nil) None ≡ Some (id k)) → run_at cs t k c ≡ get_or m.unlinked k nil
    go (inl n) = empty-case n (is_id t k) (is_alone c) refl refl
    go (inr s) = full-case s (is_id t k) refl

abbrev meaning : Hedge ℕ → List (Hedge ℕ) → List ℕ → Meaning
meaning d u s = record { document = d; unlinked = u; spare = s }

pub seen : (cs : List Cell) (t e f : Option NodeId) (m : Meaning) → IsTable cs t e f m → meaning_of cs t f ≡ m
seen cs t e f m i =
    let d : hedge_from cs (length cs) t ≡ m.document = ap (hedge_from cs (length cs)) i.doc.first_is ∙ hedge-seen cs None None m.document (length cs) i.doc.laid (omega (arith, i.all)) in
    let s : spare_from cs (length cs) f ≡ m.spare = ap (spare_from cs (length cs)) i.spare_is ∙ spare-seen cs m.spare (length cs) i.spare (omega (arith, i.all)) in
    let u : runs_from cs t 0 cs ≡ m.unlinked = runs-seen cs t 0 cs m.unlinked i.runs_length (λ j c g. subst (λ q. run_at cs t q c ≡ get_or m.unlinked j nil) (omega arith) (run-seen cs t e f m j c i g)) in
    ap (λ x. meaning x (runs_from cs t 0 cs) (spare_from cs (length cs) f)) d ∙ ap (λ x. meaning m.document x (spare_from cs (length cs) f)) u ∙ ap (meaning m.document m.unlinked) s

-- the invariant of a table: what its cells show is what they hold
pub holds : (cs : List Cell) (t e f : Option NodeId) (m : Meaning) → IsTable cs t e f m → IsTable cs t e f (meaning_of cs t f)
holds cs t e f m i = subst (IsTable cs t e f) (sym (seen cs t e f m i)) i
