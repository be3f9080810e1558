-- Trees that were built in a table, as an unlinked run.
use Rattle.flux_nodes.specs.Tables.{one_if, times, times_in}
use Rattle.std.proofs.Common.{◌≡◌, ◌≢◌, inl, inr, ℕ, ◌+◌, ◌-◌, ◌<◌, ◌≤◌, zero, suc, List, [], ◌∷◌, ◌++◌, Bool, false, length, take, drop, Option, Some, None, refl, ap, ◌∙◌, sym, subst, arith, length-append}
use Rattle.std.specs.List.{slice_get, sum_by}
use Rattle.std.specs.Bool.{IsTrue}
use Rattle.std.proofs.Math.ListN.{set, get_or}
use Rattle.std.proofs.lemmas.List.{get_or-set_other, get_or-set_same, length-set, length-drop}
use Rattle.std.proofs.lemmas.List.Sums.{sum_by-set, sum_by-cons, sum_by-append}
use Rattle.flux_trees.specs.Hedge.{Hedge, Plain, nil, elem, leaf, size}
use Rattle.flux_trees.specs.Edits.{Supply, preceded, beyond, number}
use Rattle.flux_nodes.specs.declared.cell.NodeId.{NodeId}
use Rattle.flux_nodes.specs.declared.cell.Cell.{Cell}
use Rattle.flux_nodes.specs.Tables.{Meaning, supply, made_in, copies, with_trees, after_add}
use Rattle.flux_nodes.specs.Decoded.{meaning_of}
use Rattle.flux_nodes.specs.Laid.{id, numbers_of, first_id, IsLaid}
use Rattle.flux_nodes.specs.Kept.{IsTable, HoldsRun, IsSpare, IsHeld, AreTaken, free_cell}
use Rattle.flux_nodes.specs.Built.{IsBuilt}
use Rattle.flux_trees.specs.Edits.{last_or}
use Rattle.flux_forest.specs.declared.node.Node.{Node}
use Rattle.flux_forest.specs.Flat.{hedge_of, IsFlat}
use Rattle.flux_forest.proofs.FlatLaws.{length-flat}
use Rattle.std.proofs.lemmas.Option.{slice_get_within}
use Rattle.flux_nodes.specs.declared.run.Run.{Run}
use Rattle.flux_nodes.specs.Tables.{AreEnds, IsRunOf, IsNewRun, first_or, number_of}
use Rattle.flux_nodes.specs.Laid.{last_id}
use Rattle.flux_nodes.specs.Built.{CanBuild}
use Rattle.flux_nodes.specs.Kept.{HasSpare}
use Rattle.flux_nodes.specs.Decoded.{spare_from}
use Rattle.flux_nodes.proofs.SeenLaws.{spare-seen}
use Rattle.flux_nodes.proofs.SpareLaws.{has_spare}
use Rattle.flux_nodes.proofs.FrameLaws.{number-ids, first-ids, last-ids}
use Rattle.flux_nodes.proofs.LaidLaws.{last_some, number_or, one_if-same, one_if-other, kept, first_within}
use Rattle.flux_nodes.proofs.TableLaws.{laid-within, get-or-sum, spare-kept, spare-within, same_or_not}
use Rattle.flux_nodes.proofs.MoveLaws.{none_past}
use Rattle.std.proofs.lemmas.Bool.{cases_lt}
use Rattle.flux_nodes.proofs.SeenLaws.{seen, holds, some-term}
use Rattle.flux_nodes.proofs.TableCalls.{table_of}
use Rattle.flux_nodes.proofs.NumberLaws.{number-same, same_at, hits, hits-same, times-number, first-some, size-number}
use Rattle.flux_nodes.proofs.SpareLaws.{spare-drop}
use Rattle.flux_nodes.proofs.TakingLaws.{slice_get-left, length-copies}

-- how often a number is among the first of the supply

take-nothing : (j n : ℕ) → times_in j (take n []) ≡ 0
take-nothing j zero = refl
take-nothing j (suc n) = refl

hits-listed : (j : ℕ) (ms : List ℕ) (s : Supply) (n : ℕ) → hits j (preceded ms s) n ≡ times_in j (take n ms) + hits j s (n - length ms)
hits-listed j [] s n =
    let all : n - 0 ≡ n = omega arith in
    hits-same j (preceded [] s) s n (λ k l. refl) ∙ ap (hits j s) (sym all) ∙ (omega (arith, take-nothing j n))
hits-listed j (m ∷ ms) s zero =
    let none : 0 - suc (length ms) ≡ 0 = omega arith in
    ap (hits j s) (sym none) ∙ omega arith
hits-listed j (m ∷ ms) s (suc n) =
    let less : suc n - suc (length ms) ≡ n - length ms = omega arith in
    let rest : hits j (beyond 1 (preceded (m ∷ ms) s)) n ≡ hits j (preceded ms s) n = hits-same j (beyond 1 (preceded (m ∷ ms) s)) (preceded ms s) n (λ k l. same_at (preceded (m ∷ ms) s) (1 + k) (suc k) (omega arith)) in
    omega (arith, rest, hits-listed j ms s n, ap (hits j s) less)

times_in-cut : (j n : ℕ) (ms : List ℕ) → times_in j (take n ms) + times_in j (drop n ms) ≡ times_in j ms
times_in-cut j zero ms = omega arith
times_in-cut j (suc n) [] = omega arith
times_in-cut j (suc n) (m ∷ ms) = omega (arith, times_in-cut j n ms)

abbrev from : ℕ → Supply
from b i = b + i

from-next : (j b n : ℕ) → hits j (beyond 1 (from b)) n ≡ hits j (from (suc b)) n
from-next j b n = hits-same j (beyond 1 (from b)) (from (suc b)) n (λ k l. omega arith)

hits-low : (j b n : ℕ) → j < b → hits j (from b) n ≡ 0
hits-low j b zero l = refl
hits-low j b (suc n) l =
    let other : one_if j (b + 0) ≡ 0 = one_if-other j (b + 0) (λ e. absurd (omega arith)) in
    omega (arith, other, from-next j b n, hits-low j (suc b) n (omega arith))

hits-in : (j b n : ℕ) → b ≤ j → j < b + n → hits j (from b) n ≡ 1
hits-in j b zero g l = absurd (omega arith)
hits-in j b (suc n) g l = elim (same_or_not j b) [
  | inl e ↦ (let here : b + 0 ≡ j = omega arith in
      let one : one_if j (b + 0) ≡ 1 = ap (one_if j) here ∙ one_if-same j in
      omega (arith, one, from-next j b n, hits-low j (suc b) n (omega arith)))
  | inr d ↦ (let further : suc b ≤ j = go d in
      let other : one_if j (b + 0) ≡ 0 = one_if-other j (b + 0) (λ e. absurd (omega arith)) in
      omega (arith, other, from-next j b n, hits-in j (suc b) n further (omega arith)))
]
  where
    go : j ≢ b → suc b ≤ j
    go d = elim (cases_lt b j) [ inl h ↦ omega arith | inr h ↦ absurd (d (omega arith)) ]

hits-high : (j b n : ℕ) → b + n ≤ j → hits j (from b) n ≡ 0
hits-high j b zero l = refl
hits-high j b (suc n) l =
    let other : one_if j (b + 0) ≡ 0 = one_if-other j (b + 0) (λ e. absurd (omega arith)) in
    omega (arith, other, from-next j b n, hits-high j (suc b) n (omega arith))

-- the trees of a meaning, once they are numbered
abbrev pub numbered : Meaning → Plain → Hedge ℕ
numbered m v = number v (supply m)

times-numbered : (m : Meaning) (v : Plain) (k : ℕ) → times k (numbered m v) ≡ times_in k (take (size v) m.spare) + hits k (from (length m.unlinked)) (size v - length m.spare)
times-numbered m v k =
    times-number k v (supply m) ∙ hits-listed k m.spare (λ i. length m.unlinked + i) (size v)

trees-free : (m : Meaning) (v : Plain) (k : ℕ) → k < length m.unlinked → times k (numbered m v) + times_in k (drop (size v) m.spare) ≡ times_in k m.spare
trees-free m v k l =
    omega (arith, times-numbered m v k, hits-low k (length m.unlinked) (size v - length m.spare) l, times_in-cut k (size v) m.spare)

trees-new : (m : Meaning) (v : Plain) (k : ℕ) → length m.unlinked ≤ k → k < length m.unlinked + (size v - length m.spare) → times_in k m.spare ≡ 0 → times k (numbered m v) ≡ 1
trees-new m v k g l none =
    omega (arith, times-numbered m v k, hits-in k (length m.unlinked) (size v - length m.spare) g l, times_in-cut k (size v) m.spare)

get_or-copies : (n i : ℕ) → get_or (copies {X = Hedge ℕ} n nil) i nil ≡ nil
get_or-copies zero i = refl
get_or-copies (suc n) zero = refl
get_or-copies (suc n) (suc i) = get_or-copies n i

padded : (us : List (Hedge ℕ)) (n i : ℕ) → get_or (us ++ copies n nil) i nil ≡ get_or us i nil
padded [] n i = get_or-copies n i
padded (u ∷ us) n zero = refl
padded (u ∷ us) n (suc i) = padded us n i

sum-copies : (f : Hedge ℕ → ℕ) → f nil ≡ 0 → (n : ℕ) → sum_by f (copies n nil) ≡ 0
sum-copies f z zero = refl
sum-copies f z (suc n) = omega (arith, z, sum_by-cons f nil (copies n nil), sum-copies f z n)

sum-padded : (f : Hedge ℕ → ℕ) → f nil ≡ 0 → (us : List (Hedge ℕ)) (n : ℕ) → sum_by f (us ++ copies n nil) ≡ sum_by f us
sum-padded f z us n =
    omega (arith, sum_by-append f us (copies n nil), sum-copies f z n)

-- a number past the last cell is nowhere
pub sum-past : (cs : List Cell) (t e f : Option NodeId) (m : Meaning) (k : ℕ) → IsTable cs t e f m → length cs ≤ k → sum_by (times k) m.unlinked ≡ 0
sum-past cs t e f m k i past = go (sum_by (times k) m.unlinked) refl
  where
    go : (n : ℕ) → sum_by (times k) m.unlinked ≡ n → sum_by (times k) m.unlinked ≡ 0
    go zero s = s
    go (suc n) s =
        let found : (j : ℕ) × (0 < times k (get_or m.unlinked j nil)) = some-term (times k) refl m.unlinked (omega arith) in
        let here : k < length cs = laid-within cs None None (get_or m.unlinked found.0 nil) None k (i.runs found.0).laid found.1 in
        absurd (omega arith)

pub spare-past : (cs : List Cell) (ms : List ℕ) (k : ℕ) → IsSpare cs ms → length cs ≤ k → times_in k ms ≡ 0
spare-past cs ms k s past = go (times_in k ms) refl
  where
    go : (n : ℕ) → times_in k ms ≡ n → times_in k ms ≡ 0
    go zero e = e
    go (suc n) e = let here : k < length cs = spare-within cs ms k s (omega arith) in absurd (omega arith)

-- the numbers that were taken are those of the supply
pub number-taken : (cs mid : List Cell) (t e f g : Option NodeId) (m : Meaning) (numbers : List NodeId) (v : Plain) → IsTable cs t e f m → AreTaken cs mid m.spare g numbers (size v) → number v (numbers_of numbers) ≡ numbered m v
number-taken cs mid t e f g m numbers v i a =
    number-same v (numbers_of numbers) (supply m) (λ k l. a.numbers_are k l ∙ ap (λ n. preceded m.spare (λ j. n + j) k) (sym i.runs_length))

pub added : (cs mid bs : List Cell) (t e f g last : Option NodeId) (m : Meaning) (numbers : List NodeId) (v : Plain) → IsTable cs t e f m → AreTaken cs mid m.spare g numbers (size v) → 0 < size v → length bs ≡ length mid → IsBuilt mid bs (number v (numbers_of numbers)) last → IsTable bs t e g (with_trees m v)
added cs mid bs t e f g last m numbers v i a some len b =
    let new : ℕ = size v - length m.spare in
    let us : List (Hedge ℕ) = m.unlinked ++ copies (size v - length m.spare) nil in
    let same : number v (numbers_of numbers) ≡ numbered m v = number-taken cs mid t e f g m numbers v i a in
    let laid : IsLaid bs None None (numbered m v) None = subst (λ h. IsLaid bs None None h None) same b.laid in
    let first : first_id (numbered m v) None ≡ Some (id (supply m 0)) = first-some v (supply m) some in
    let here : 0 < times (supply m 0) (numbered m v) = first_within (numbered m v) (supply m 0) first in
    let long : length (m.unlinked ++ copies (size v - length m.spare) nil) ≡ length bs = omega (arith, length-append m.unlinked (copies (size v - length m.spare) nil), length-copies {X = Hedge ℕ} (size v - length m.spare) nil, i.runs_length, len, ap length a.cells_are, length-append cs (copies (size v - length m.spare) (free_cell None)), length-copies (size v - length m.spare) (free_cell None)) in
    let bs_long : length bs ≡ length cs + (size v - length m.spare) = omega (arith, len, ap length a.cells_are, length-append cs (copies (size v - length m.spare) (free_cell None)), length-copies (size v - length m.spare) (free_cell None)) in
    let within : supply m 0 < length (m.unlinked ++ copies (size v - length m.spare) nil) = omega (arith, long, laid-within bs None None (numbered m v) None (supply m 0) laid here) in
    let apart : (k : ℕ) → k < length cs → times k (numbered m v) ≡ 0 → slice_get bs k ≡ slice_get cs k = λ k l z. b.others k (ap (times k) same ∙ z) ∙ ap (λ xs. slice_get xs k) a.cells_are ∙ slice_get-left cs (copies (size v - length m.spare) (free_cell None)) k l in
    let others : (k : ℕ) → k < length cs → times_in k m.spare ≡ 0 → slice_get bs k ≡ slice_get cs k = λ k l z. apart k l (omega (arith, z, trees-free m v k (omega (arith, l, i.runs_length)))) in
    let empty : get_or m.unlinked (supply m 0) nil ≡ nil = elim (i.runs (supply m 0)).begins [
      | inl n ↦ n
      | inr s ↦ (let there : 0 < times (supply m 0) (get_or m.unlinked (supply m 0) nil) = first_within (get_or m.unlinked (supply m 0) nil) (supply m 0) s in
          let lt : supply m 0 < length cs = laid-within cs None None (get_or m.unlinked (supply m 0) nil) None (supply m 0) (i.runs (supply m 0)).laid there in
          absurd (omega (arith, there, here, i.once (supply m 0) lt, get-or-sum (times (supply m 0)) nil refl m.unlinked (supply m 0), trees-free m v (supply m 0) (omega (arith, lt, i.runs_length)))))
    ] in
    let at : get_or (m.unlinked ++ copies (size v - length m.spare) nil) (supply m 0) nil ≡ nil = padded m.unlinked (size v - length m.spare) (supply m 0) ∙ empty in
    record {
      doc = record {
        laid = kept cs bs None None m.document None (λ k h. let l : k < length cs = laid-within cs None None m.document None k i.doc.laid h in others k l (omega (arith, h, i.once k l))) i.doc.laid;
        first_is = i.doc.first_is;
        last_is = i.doc.last_is;
      };
      runs_length = length-set (m.unlinked ++ copies (size v - length m.spare) nil) (supply m 0) (numbered m v) ∙ long;
      runs = λ j. elim (same_or_not j (supply m 0)) [
        | inl s ↦ subst (λ n. HoldsRun bs n (get_or (set (m.unlinked ++ copies (size v - length m.spare) nil) (supply m 0) (numbered m v)) n nil)) (sym s) (subst (λ h. HoldsRun bs (supply m 0) h) (sym (get_or-set_same (m.unlinked ++ copies (size v - length m.spare) nil) (supply m 0) (numbered m v) nil within)) (record { laid = laid; begins = inr first }))
        | inr n ↦ subst (λ h. HoldsRun bs j h) (sym (get_or-set_other (m.unlinked ++ copies (size v - length m.spare) nil) (supply m 0) j (numbered m v) nil n ∙ padded m.unlinked (size v - length m.spare) j)) (record {
          laid = kept cs bs None None (get_or m.unlinked j nil) None (λ k h. let l : k < length cs = laid-within cs None None (get_or m.unlinked j nil) None k (i.runs j).laid h in others k l (omega (arith, h, i.once k l, get-or-sum (times k) nil refl m.unlinked j))) (i.runs j).laid;
          begins = (i.runs j).begins;
        })
      ];
      spare = spare-kept cs bs (drop (size v) m.spare) (λ k h. let l : k < length cs = spare-within cs (drop (size v) m.spare) k (spare-drop cs (size v) m.spare i.spare) h in apart k l (omega (arith, h, i.once k l, trees-free m v k (omega (arith, l, i.runs_length))))) (spare-drop cs (size v) m.spare i.spare);
      spare_is = a.free_is;
      once = λ k l. elim (cases_lt k (length cs)) [
        | inl h ↦ omega (arith, i.once k h, sum_by-set (times k) (m.unlinked ++ copies (size v - length m.spare) nil) (supply m 0) (numbered m v) nil within, ap (times k) at, sum-padded (times k) refl m.unlinked (size v - length m.spare), trees-free m v k (omega (arith, h, i.runs_length)))
        | inr h ↦ omega (arith, none_past cs None None m.document None k i.doc.laid h, sum-past cs t e f m k i h, sum_by-set (times k) (m.unlinked ++ copies (size v - length m.spare) nil) (supply m 0) (numbered m v) nil within, ap (times k) at, sum-padded (times k) refl m.unlinked (size v - length m.spare), spare-past cs m.spare k i.spare h, times_in-cut k (size v) m.spare, trees-new m v k (omega (arith, h, i.runs_length)) (omega (arith, l, bs_long, i.runs_length)) (spare-past cs m.spare k i.spare h))
      ];
      all = omega (arith, i.all, bs_long, sum_by-set size (m.unlinked ++ copies (size v - length m.spare) nil) (supply m 0) (numbered m v) nil within, ap size at, sum-padded size refl m.unlinked (size v - length m.spare), size-number v (supply m), length-drop (size v) m.spare);
    }

pub add-held : (cs bs : List Cell) (t e f g : Option NodeId) (made more : ℕ) (m : Meaning) (v : Plain) → IsHeld cs t e f made → meaning_of cs t f ≡ m → length bs ≡ length cs + (size v - length m.spare) → more ≡ made + size v → IsTable bs t e g (with_trees m v) → IsHeld bs t e g more
add-held cs bs t e f g made more m v i held len sum j =
    let old : IsTable cs t e f m = table_of i held in
    let made_is : made ≡ made_in m = i.made_is ∙ ap made_in held in
    let is : more ≡ made_in (with_trees m v) = omega (arith, made_is, old.all, j.all, len, sum, length-drop (size v) m.spare) in
    record { table = holds bs t e g (with_trees m v) j; made_is = is ∙ ap made_in (sym (seen bs t e g (with_trees m v) j)) }

numbered-once : (cs : List Cell) (t e f : Option NodeId) (m : Meaning) (v : Plain) (k : ℕ) → IsTable cs t e f m → times k (numbered m v) ≤ 1
numbered-once cs t e f m v k i = elim (cases_lt k (length cs)) [
  | inl h ↦ omega (arith, i.once k h, trees-free m v k (omega (arith, h, i.runs_length)))
  | inr h ↦ elim (cases_lt k (length m.unlinked + (size v - length m.spare))) [
    | inl l ↦ omega (arith, trees-new m v k (omega (arith, h, i.runs_length)) l (spare-past cs m.spare k i.spare h))
    | inr g ↦ omega (arith, times-numbered m v k, hits-high k (length m.unlinked) (size v - length m.spare) g, times_in-cut k (size v) m.spare, spare-past cs m.spare k i.spare h)
  ]
]

preceded-within : (cs : List Cell) (ms : List ℕ) (b k n all : ℕ) → IsSpare cs ms → length cs ≤ all → b + (n - length ms) ≤ all → k < n → preceded ms (from b) k < all
preceded-within cs [] b k n all s c l h = omega arith
preceded-within cs (m ∷ ms) b zero n all s c l h = omega (arith, slice_get_within cs m _ s.0)
preceded-within cs (m ∷ ms) b (suc k) n all s c l h =
    preceded-within cs ms b k (n - 1) all s.1 c (omega arith) (omega arith)

pub can-build : (cs mid : List Cell) (t e f g : Option NodeId) (made : ℕ) (m : Meaning) (numbers : List NodeId) (nodes : List Node) (v : Plain) → IsHeld cs t e f made → meaning_of cs t f ≡ m → IsFlat nodes → hedge_of nodes ≡ v → AreTaken cs mid m.spare g numbers (size v) → CanBuild mid nodes numbers
can-build cs mid t e f g made m numbers nodes v held seen_as flat is a =
    let i : IsTable cs t e f m = table_of held seen_as in
    let count : length nodes ≡ size v = sym (ap length flat) ∙ length-flat (hedge_of nodes) ∙ ap size is in
    let long : length mid ≡ length cs + (size v - length m.spare) = omega (arith, ap length a.cells_are, length-append cs (copies (size v - length m.spare) (free_cell None)), length-copies (size v - length m.spare) (free_cell None)) in
    record {
      flat = flat;
      length_is = a.length_is ∙ sym count;
      fits = omega (arith, a.length_is, long, i.all);
      within = λ k l. subst (λ n. n < length mid) (sym (a.numbers_are k (omega (arith, l, a.length_is)))) (preceded-within cs m.spare (length cs) k (size v) (length mid) i.spare (omega (arith, long)) (omega (arith, long)) (omega (arith, l, a.length_is)));
      once = λ k. subst (λ h. times k h ≤ 1) (sym (ap (λ h. number h (numbers_of numbers)) is ∙ number-taken cs mid t e f g m numbers v i a)) (numbered-once cs t e f m v k i);
    }

pub built-of : {mid bs : List Cell} {last : Option NodeId} (numbers : List NodeId) (nodes : List Node) (v : Plain) → hedge_of nodes ≡ v → IsBuilt mid bs (number (hedge_of nodes) (numbers_of numbers)) last → IsBuilt mid bs (number v (numbers_of numbers)) last
built-of {mid} {bs} {last} numbers nodes v e b =
    subst (λ h. IsBuilt mid bs (number h (numbers_of numbers)) last) e b

last-there : (h : Hedge ℕ) → 0 < size h → (l : NodeId) × (last_id h None ≡ Some l)
last-there nil s = absurd (omega arith)
last-there (elem m a c r) s = let l = last_some r m in (id l.0, l.1)
last-there (leaf m x r) s = let l = last_some r m in (id l.0, l.1)

pub add-some : (m : Meaning) (v : Plain) → 0 < size v → with_trees m v ≡ after_add m v
add-some m nil l = absurd (omega arith)
add-some m (elem n a c r) l = refl
add-some m (leaf n x r) l = refl

-- the run that is told
pub run-told : (cs mid bs : List Cell) (t e f g : Option NodeId) (m : Meaning) (numbers : List NodeId) (v : Plain) (first : NodeId) (last : Option NodeId) (run : Option Run) → IsTable cs t e f m → AreTaken cs mid m.spare g numbers (size v) → 0 < size v → IsTable bs t e g (with_trees m v) → IsBuilt mid bs (number v (numbers_of numbers)) last → first ≡ id (numbers_of numbers 0) → ((l : NodeId) → last ≡ Some l → run ≡ Some (record { first = first; last = l })) → IsNewRun run (after_add m v) (number v (supply m))
run-told cs mid bs t e f g m numbers v first last run i a some new b fe told =
    let same : number v (numbers_of numbers) ≡ numbered m v = number-taken cs mid t e f g m numbers v i a in
    let l = last-there (numbered m v) (omega (arith, some, size-number v (supply m))) in
    let last_is : last ≡ Some l.0 = b.last_is ∙ ap (λ h. last_id h None) same ∙ l.1 in
    let first_is : first_id (numbered m v) None ≡ Some first = ap (λ h. first_id h None) (sym same) ∙ first-some v (numbers_of numbers) some ∙ ap Some (sym fe) in
    let ends : AreEnds (record { first = first; last = l.0 }) (numbered m v) = record {
      first_is = sym (number-ids (first_or None (numbered m v))) ∙ ap number_of (sym (first-ids (numbered m v) None) ∙ first_is);
      last_is = sym (number-ids (last_or None (numbered m v))) ∙ ap number_of (sym (last-ids (numbered m v) None) ∙ l.1);
    } in
    let at : first.0 ≡ supply m 0 = ap number_or (sym first_is ∙ first-some v (supply m) some) in
    let laid : IsLaid bs None None (numbered m v) None = subst (λ h. IsLaid bs None None h None) same b.laid in
    let lt : supply m 0 < length bs = laid-within bs None None (numbered m v) None (supply m 0) laid (first_within (numbered m v) (supply m 0) (first-some v (supply m) some)) in
    let within : supply m 0 < length (m.unlinked ++ copies (size v - length m.spare) nil) = omega (arith, lt, new.runs_length, length-set (m.unlinked ++ copies (size v - length m.spare) nil) (supply m 0) (numbered m v)) in
    let there : get_or (with_trees m v).unlinked first.0 nil ≡ numbered m v = ap (λ k. get_or (with_trees m v).unlinked k nil) at ∙ get_or-set_same (m.unlinked ++ copies (size v - length m.spare) nil) (supply m 0) (numbered m v) nil within in
    let all : get_or (after_add m v).unlinked first.0 nil ≡ numbered m v = ap (λ (n : Meaning). get_or n.unlinked first.0 nil) (sym (add-some m v some)) ∙ there in
    subst (λ r. IsNewRun r (after_add m v) (number v (supply m))) (sym (told l.0 last_is)) (ends, all)

pub size-some : (v : Plain) → (v ≡ nil → ⊥) → 0 < size v
size-some nil n = absurd (n refl)
size-some (elem _ a c r) n = omega arith
size-some (leaf _ x r) n = omega arith

pub nothing-added : (m n : Meaning) (v : Plain) → v ≡ nil → n ≡ m → (n ≡ after_add m v) × IsRunOf None (number v (supply m))
nothing-added m n v e s =
    (s ∙ ap (after_add m) (sym e), ap (λ h. number h (supply m)) e)

-- what the nodes that were copied show
pub record AreCopied (nodes : List Node) (v : Plain) (count : ℕ) : Type 0 where
  pub flat : IsFlat nodes
  pub is : hedge_of nodes ≡ v
  pub count_is : count ≡ size v

pub copied : (old new from : List Node) (v : Plain) (len count : ℕ) → old ≡ [] → new ≡ old ++ from → IsFlat from → hedge_of from ≡ v → count ≡ len → len ≡ length new → AreCopied new v count
copied old new from v len count none e flat is c l =
    let same : new ≡ from = e ∙ ap (λ ns. ns ++ from) none in
    subst (λ ns. AreCopied ns v count) (sym same) (record {
      flat = flat;
      is = is;
      count_is = c ∙ l ∙ ap length same ∙ sym (ap length flat) ∙ length-flat (hedge_of from) ∙ ap size is;
    })

pub taken-now : (cs mid : List Cell) (t e f g : Option NodeId) (made count : ℕ) (m : Meaning) (numbers : List NodeId) (v : Plain) → IsHeld cs t e f made → meaning_of cs t f ≡ m → count ≡ size v → ((h : HasSpare cs f) → AreTaken cs mid h.spare g numbers count) → AreTaken cs mid m.spare g numbers (size v)
unfolding has_spare
taken-now cs mid t e f g made count m numbers v i held c taken =
    subst (λ n. AreTaken cs mid m.spare g numbers n) c (taken (has_spare cs cs t e f made m refl i held))

pub taken-long : (cs mid : List Cell) (ms : List ℕ) (g : Option NodeId) (numbers : List NodeId) (k : ℕ) → AreTaken cs mid ms g numbers k → length mid ≡ length cs + (k - length ms)
taken-long cs mid ms g numbers k a =
    omega (arith, ap length a.cells_are, length-append cs (copies (k - length ms) (free_cell None)), length-copies (k - length ms) (free_cell None))

-- as many cells are free as a free list has
pub spare-counted : (cs : List Cell) (t e f : Option NodeId) (made len : ℕ) (m : Meaning) → IsHeld cs t e f made → meaning_of cs t f ≡ m → len ≡ length cs → (h : HasSpare cs f) → len - made ≡ length h.spare
spare-counted cs t e f made len m i v l h =
    let table : IsTable cs t e f m = table_of i v in
    let made_is : made ≡ made_in m = i.made_is ∙ ap made_in v in
    let same : h.spare ≡ m.spare = sym (spare-seen cs h.spare (length cs + length h.spare) h.chain (omega arith)) ∙ ap (spare_from cs (length cs + length h.spare)) (sym h.head_is ∙ table.spare_is) ∙ spare-seen cs m.spare (length cs + length h.spare) table.spare (omega (arith, table.all)) in
    omega (arith, made_is, table.all, l, ap length same)

-- what is known before the trees are built
pub record Adding (cs mid : List Cell) (t e f g : Option NodeId) (m : Meaning) (numbers : List NodeId) (nodes : List Node) (v : Plain) (count : ℕ) : Type 0 where
  pub table : IsTable cs t e f m
  pub copies_are : AreCopied nodes v count
  pub taken : AreTaken cs mid m.spare g numbers (size v)
  pub some : 0 < size v
  pub can : CanBuild mid nodes numbers

pub adding : (cs mid : List Cell) (t e f g : Option NodeId) (made : ℕ) (m : Meaning) (numbers : List NodeId) (old nodes from : List Node) (v : Plain) (count : ℕ) (empty : Bool) → IsHeld cs t e f made → meaning_of cs t f ≡ m → old ≡ [] → nodes ≡ old ++ from → IsFlat from → hedge_of from ≡ v → count ≡ length nodes → empty ≡ false → (v ≡ nil → IsTrue empty) → ((h : HasSpare cs f) → AreTaken cs mid h.spare g numbers count) → Adding cs mid t e f g m numbers nodes v count
adding cs mid t e f g made m numbers old nodes from v count empty i held none all flat is c isnt test taken =
    let c_are : AreCopied nodes v count = copied old nodes from v count count none all flat is refl c in
    let some : 0 < size v = size-some v (λ n. let no : IsTrue false = subst IsTrue isnt (test n) in cc) in
    let a : AreTaken cs mid m.spare g numbers (size v) = taken-now cs mid t e f g made count m numbers v i held c_are.count_is taken in
    record {
      table = table_of i held;
      copies_are = c_are;
      taken = a;
      some = some;
      can = can-build cs mid t e f g made m numbers nodes v i held c_are.flat c_are.is a;
    }

pub added-now : {cs mid : List Cell} {t e f g : Option NodeId} {m : Meaning} {numbers : List NodeId} {nodes : List Node} {v : Plain} {count : ℕ} (bs slice : List Cell) (list : List NodeId) (last : Option NodeId) → Adding cs mid t e f g m numbers nodes v count → slice ≡ mid → list ≡ numbers → length bs ≡ length slice → IsBuilt slice bs (number (hedge_of nodes) (numbers_of list)) last → IsTable bs t e g (with_trees m v) × (length bs ≡ length cs + (size v - length m.spare)) × IsBuilt mid bs (number v (numbers_of numbers)) last
added-now {cs} {mid} {t} {e} {f} {g} {m} {numbers} {nodes} {v} {count} bs slice list last a s n len b =
    let b1 : IsBuilt mid bs (number (hedge_of nodes) (numbers_of numbers)) last = subst (λ ns. IsBuilt mid bs (number (hedge_of nodes) (numbers_of ns)) last) n (subst (λ xs. IsBuilt xs bs (number (hedge_of nodes) (numbers_of list)) last) s b) in
    let b2 : IsBuilt mid bs (number v (numbers_of numbers)) last = built-of numbers nodes v a.copies_are.is b1 in
    let len2 : length bs ≡ length mid = len ∙ ap length s in
    (added cs mid bs t e f g last m numbers v a.table a.taken a.some len2 b2, len2 ∙ taken-long cs mid m.spare g numbers (size v) a.taken, b2)
