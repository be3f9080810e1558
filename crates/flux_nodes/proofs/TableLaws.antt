use Rattle.flux_nodes.specs.Tables.{one_if, times, times_in}
use Rattle.std.proofs.Common.{◌≡◌, ◌≢◌, ◌⊎◌, inl, inr, ℕ, ◌+◌, ◌<◌, ◌≤◌, zero, suc, List, [], ◌∷◌, length, Option, Some, None, refl, ap, ◌∙◌, sym, subst, arith}
use Rattle.std.specs.List.{slice_get, sum_by}
use Rattle.std.proofs.Math.ListN.{set, get_or}
use Rattle.std.proofs.lemmas.List.{get_or-set_other, get_or-set_same, length-set}
use Rattle.std.proofs.lemmas.List.Sums.{sum_by-set, sum_by-cons}
use Rattle.std.proofs.lemmas.Option.{slice_get_within}
use Rattle.flux_trees.specs.Hedge.{Hedge, nil, elem, leaf, size}
use Rattle.flux_nodes.specs.declared.cell.NodeId.{NodeId}
use Rattle.flux_nodes.specs.declared.cell.Cell.{Cell}
use Rattle.flux_nodes.specs.Laid.{id, IsLaid}
use Rattle.flux_nodes.specs.Seats.{IsDoc}
use Rattle.flux_nodes.specs.Tables.{Meaning}
use Rattle.flux_nodes.specs.Kept.{IsTable, HoldsRun, IsSpare}
use Rattle.flux_nodes.proofs.LaidLaws.{one_if-same, one_if-is, kept}

pub get-or-sum : {X : Type 0} (f : X → ℕ) (d : X) → f d ≡ 0 → (xs : List X) (i : ℕ) → f (get_or xs i d) ≤ sum_by f xs
get-or-sum f d z [] i = omega arith
get-or-sum f d z (x ∷ xs) zero = omega (arith, sum_by-cons f x xs)
get-or-sum f d z (x ∷ xs) (suc i) = omega (arith, sum_by-cons f x xs, get-or-sum f d z xs i)

pub get-or-two : {X : Type 0} (f : X → ℕ) (d : X) → f d ≡ 0 → (xs : List X) (i j : ℕ) → i ≢ j → j < length xs → f (get_or xs i d) + f (get_or xs j d) ≤ sum_by f xs
get-or-two f d z xs i j n h =
    let less : f (get_or (set xs j d) i d) ≤ sum_by f (set xs j d) = get-or-sum f d z (set xs j d) i in
    let same : f (get_or (set xs j d) i d) ≡ f (get_or xs i d) = ap f (get_or-set_other xs j i d d n) in
    omega (arith, sum_by-set f xs j d d h)

-- each number of a forest that is laid out is a cell's
pub laid-within : (cs : List Cell) (p v : Option NodeId) (h : Hedge ℕ) (w : Option NodeId) (k : ℕ) → IsLaid cs p v h w → 0 < times k h → k < length cs
laid-within cs p v nil w k l t = absurd (omega arith)
laid-within cs p v (elem m a c r) w k l t = elim (split (one_if k m) (times k c) (times k r) t) [
  | inl a ↦ subst (λ j. j < length cs) (sym (one_if-is k m a)) (slice_get_within cs m _ l.0)
  | inr b ↦ elim b [ inl x ↦ laid-within cs (Some (id m)) None c None k l.1 x | inr y ↦ laid-within cs p (Some (id m)) r w k l.2 y ]
]
  where
    split : (x y z : ℕ) → 0 < x + (y + z) → (0 < x) ⊎ ((0 < y) ⊎ (0 < z))
    split zero zero z h = inr (inr (omega arith))
    split zero (suc y) z h = inr (inl (omega arith))
    split (suc x) y z h = inl (omega arith)
laid-within cs p v (leaf m x r) w k l t = elim (split (one_if k m) (times k r) t) [
  | inl a ↦ subst (λ j. j < length cs) (sym (one_if-is k m a)) (slice_get_within cs m _ l.0)
  | inr y ↦ laid-within cs p (Some (id m)) r w k l.1 y
]
  where
    split : (x y : ℕ) → 0 < x + y → (0 < x) ⊎ (0 < y)
    split zero y h = inr (omega arith)
    split (suc x) y h = inl (omega arith)

pub spare-kept : (cs bs : List Cell) (ms : List ℕ) → ((k : ℕ) → 0 < times_in k ms → slice_get bs k ≡ slice_get cs k) → IsSpare cs ms → IsSpare bs ms
spare-kept cs bs [] same s = tt
spare-kept cs bs (m ∷ ms) same s =
    (same m (omega (arith, one_if-same m)) ∙ s.0, spare-kept cs bs ms (λ k h. same k (omega arith)) s.1)

pub spare-within : (cs : List Cell) (ms : List ℕ) (k : ℕ) → IsSpare cs ms → 0 < times_in k ms → k < length cs
spare-within cs [] k s t = absurd (omega arith)
spare-within cs (m ∷ ms) k s t = elim (split (one_if k m) (times_in k ms) t) [
  | inl a ↦ subst (λ j. j < length cs) (sym (one_if-is k m a)) (slice_get_within cs m _ s.0)
  | inr y ↦ spare-within cs ms k s.1 y
]
  where
    split : (x y : ℕ) → 0 < x + y → (0 < x) ⊎ (0 < y)
    split zero y h = inr (omega arith)
    split (suc x) y h = inl (omega arith)

pub same_or_not : (i j : ℕ) → (i ≡ j) ⊎ (i ≢ j)
same_or_not zero zero = inl refl
same_or_not zero (suc j) = inr (λ e. absurd (omega arith))
same_or_not (suc i) zero = inr (λ e. absurd (omega arith))
same_or_not (suc i) (suc j) =
    elim (same_or_not i j) [ inl e ↦ inl (ap suc e) | inr n ↦ inr (λ e. n (omega arith)) ]

-- trees go from the document to the run that begins at a, or back
pub moved : (cs bs : List Cell) (t e x y f : Option NodeId) (m : Meaning) (d g : Hedge ℕ) (a : ℕ) → IsTable cs t e f m → length bs ≡ length cs → a < length cs → IsDoc bs x y d → HoldsRun bs a g → ((k : ℕ) → times k d + times k g ≡ times k m.document + times k (get_or m.unlinked a nil)) → size d + size g ≡ size m.document + size (get_or m.unlinked a nil) → ((k : ℕ) → times k m.document + times k (get_or m.unlinked a nil) ≡ 0 → slice_get bs k ≡ slice_get cs k) → IsTable bs x y f (record { document = d; unlinked = set m.unlinked a g; spare = m.spare })
moved cs bs t e x y f m d g a i len lt doc run bal sizes others =
    let within : a < length m.unlinked = omega (arith, i.runs_length) in
    record {
      doc = doc;
      runs_length = length-set m.unlinked a g ∙ i.runs_length ∙ sym len;
      runs = λ j. elim (same_or_not j a) [
        | inl s ↦ subst (λ n. HoldsRun bs n (get_or (set m.unlinked a g) n nil)) (sym s) (subst (λ h. HoldsRun bs a h) (sym (get_or-set_same m.unlinked a g nil within)) run)
        | inr n ↦ subst (λ h. HoldsRun bs j h) (sym (get_or-set_other m.unlinked a j g nil n)) (record {
          laid =
              kept cs bs None None (get_or m.unlinked j nil) None (λ k h. others k (let two : times k (get_or m.unlinked j nil) + times k (get_or m.unlinked a nil) ≤ sum_by (times k) m.unlinked = get-or-two (times k) nil refl m.unlinked j a n within in omega (arith, i.once k (laid-within cs None None (get_or m.unlinked j nil) None k (i.runs j).laid h)))) (i.runs j).laid;
          begins = (i.runs j).begins;
        })
      ];
      spare =
          spare-kept cs bs m.spare (λ k h. others k (let one : times k (get_or m.unlinked a nil) ≤ sum_by (times k) m.unlinked = get-or-sum (times k) nil refl m.unlinked a in omega (arith, i.once k (spare-within cs m.spare k i.spare h)))) i.spare;
      spare_is = i.spare_is;
      once =
          λ k h. omega (arith, i.once k (omega (arith, len)), sum_by-set (times k) m.unlinked a g nil within, bal k);
      all = omega (arith, i.all, sum_by-set size m.unlinked a g nil within, sizes, len);
    }
