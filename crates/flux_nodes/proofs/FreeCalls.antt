-- A run freed, in a table.
use Rattle.flux_nodes.specs.Tables.{times}
use Rattle.std.proofs.Common.{◌≡◌, inl, inr, ℕ, ◌+◌, ◌<◌, ◌≤◌, List, ◌++◌, length, true, Option, Some, None, refl, ap, ◌∙◌, sym, subst, arith, length-append}
use Rattle.std.specs.List.{slice_get, sum_by}
use Rattle.std.proofs.Math.ListN.{set, get_or}
use Rattle.std.proofs.lemmas.Option.{slice_get-get_or}
use Rattle.std.proofs.lemmas.List.{get_or-set_other, get_or-set_same, length-set}
use Rattle.std.proofs.lemmas.List.Sums.{sum_by-set}
use Rattle.flux_trees.specs.Hedge.{Hedge, nil, elem, leaf, size, notes}
use Rattle.flux_nodes.specs.declared.cell.NodeId.{NodeId}
use Rattle.flux_nodes.specs.declared.cell.Cell.{Cell}
use Rattle.flux_nodes.specs.declared.run.Run.{Run}
use Rattle.flux_nodes.specs.Laid.{first_id, edit, with_next}
use Rattle.flux_nodes.specs.Tables.{Meaning, trees_at, after_free}
use Rattle.flux_nodes.specs.Kept.{IsTable, HoldsRun, IsLoose, HasLoose, held, freed, going_on, IsFreed, IsWithin, spare_head, spliced, free_cell}
use Rattle.flux_nodes.specs.Decoded.{meaning_of, is_kept}
use Rattle.flux_nodes.proofs.LaidLaws.{kept, first_within, edit-same, edit-other}
use Rattle.flux_nodes.proofs.TableLaws.{laid-within, get-or-sum, get-or-two, spare-kept, spare-within, same_or_not}
use Rattle.flux_nodes.proofs.MoveLaws.{apart}
use Rattle.flux_nodes.specs.Kept.{IsHeld}
use Rattle.flux_nodes.specs.Tables.{IsUnlinked, made_in}
use Rattle.flux_nodes.proofs.CallLaws.{loose-first}
use Rattle.flux_nodes.proofs.SeenLaws.{seen, holds}
use Rattle.flux_nodes.proofs.FrameLaws.{loose}
use Rattle.flux_nodes.proofs.TableCalls.{table_of}
use Rattle.flux_nodes.proofs.FreeLaws.{Freeing, Turn, IsAllFree, begin, turn, over, chain-spare, times_in-append, times_in-notes, length-notes, IsChain, held-next, held-free}

pub free-table : (cs bs : List Cell) (t e f : Option NodeId) (m : Meaning) (run : Run) → IsTable cs t e f m → IsLoose m run → length bs ≡ length cs → IsAllFree cs bs (trees_at m run) f → IsTable bs t e (Some run.first) (after_free m run)
free-table cs bs t e f m run i l len a =
    let first = loose-first cs t e f m run i l in
    let h_in : 0 < times run.first.0 (trees_at m run) = first_within (trees_at m run) run.first.0 first in
    let lt : run.first.0 < length cs = laid-within cs None None (trees_at m run) None run.first.0 (i.runs run.first.0).laid h_in in
    let within : run.first.0 < length m.unlinked = omega (arith, i.runs_length) in
    let spare_f : f ≡ spare_head m.spare = i.spare_is in
    record {
      doc = record {
        laid =
            kept cs bs None None m.document None (λ k h. a.others k (omega (arith, apart cs t e f m run.first.0 k i))) i.doc.laid;
        first_is = i.doc.first_is;
        last_is = i.doc.last_is;
      };
      runs_length = length-set m.unlinked run.first.0 nil ∙ i.runs_length ∙ sym len;
      runs = λ j. elim (same_or_not j run.first.0) [
        | inl s ↦ subst (λ n. HoldsRun bs n (get_or (set m.unlinked run.first.0 nil) n nil)) (sym s) (subst (λ h. HoldsRun bs run.first.0 h) (sym (get_or-set_same m.unlinked run.first.0 nil nil within)) (record { laid = tt; begins = inl refl }))
        | inr n ↦ subst (λ h. HoldsRun bs j h) (sym (get_or-set_other m.unlinked run.first.0 j nil nil n)) (record {
          laid =
              kept cs bs None None (get_or m.unlinked j nil) None (λ k h. a.others k (let two : times k (get_or m.unlinked j nil) + times k (get_or m.unlinked run.first.0 nil) ≤ sum_by (times k) m.unlinked = get-or-two (times k) nil refl m.unlinked j run.first.0 n within in omega (arith, i.once k (laid-within cs None None (get_or m.unlinked j nil) None k (i.runs j).laid h)))) (i.runs j).laid;
          begins = (i.runs j).begins;
        })
      ];
      spare =
          chain-spare bs (notes (trees_at m run)) m.spare (subst (IsChain bs (notes (trees_at m run))) spare_f a.chain) (spare-kept cs bs m.spare (λ k h. a.others k (let one : times k (get_or m.unlinked run.first.0 nil) ≤ sum_by (times k) m.unlinked = get-or-sum (times k) nil refl m.unlinked run.first.0 in omega (arith, i.once k (spare-within cs m.spare k i.spare h)))) i.spare);
      spare_is = headed (trees_at m run) first;
      once =
          λ k h. omega (arith, i.once k (omega (arith, len)), sum_by-set (times k) m.unlinked run.first.0 nil nil within, times_in-append k (notes (trees_at m run)) m.spare, times_in-notes k (trees_at m run));
      all =
          omega (arith, i.all, sum_by-set size m.unlinked run.first.0 nil nil within, length-append (notes (trees_at m run)) m.spare, length-notes (trees_at m run), len);
    }
  where
    headed : (h : Hedge ℕ) → first_id h None ≡ Some run.first → Some run.first ≡ spare_head (notes h ++ m.spare)
    headed nil x = cc
    headed (elem n b c r) x = sym x
    headed (leaf n y r) x = sym x

-- what the loop keeps
abbrev pub FreeingAll : List Cell → List Cell → Option NodeId → Run → Option NodeId → ℕ → ℕ → ℕ → Type 0
FreeingAll old now f run at tail left total =
    (h : HasLoose old f total run) → Freeing old now (trees_at h.meaning run) at tail left total

pub loop-begin : (cs : List Cell) (f : Option NodeId) (run : Run) (total : ℕ) → FreeingAll cs cs f run (Some run.first) run.first.0 total total
loop-begin cs f run total h =
    begin cs (trees_at h.meaning run) run.first total (loose-first cs h.top h.end f h.meaning run h.table h.loose) (h.table.runs run.first.0).laid

pub loop-turn : (old now : List Cell) (f : Option NodeId) (run : Run) (node : NodeId) (at : Option NodeId) (tail left total : ℕ) → at ≡ Some node → FreeingAll old now f run at tail left total → (h : HasLoose old f total run) → Turn old now (trees_at h.meaning run) node.0 left total
loop-turn old now f run node at tail left total e s h =
    turn old now (trees_at h.meaning run) node.0 tail left total (λ k. omega (arith, apart old h.top h.end f h.meaning run.first.0 k h.table)) (subst (λ o. Freeing old now (trees_at h.meaning run) o tail left total) e (s h))

pub loop-some : (old now : List Cell) (f : Option NodeId) (run : Run) (node : NodeId) (at : Option NodeId) (tail left total : ℕ) → at ≡ Some node → FreeingAll old now f run at tail left total → HasLoose old f total run → 0 < left
loop-some old now f run node at tail left total e s h =
    (loop-turn old now f run node at tail left total e s h).some h.enough

pub loop-next : (old now bs : List Cell) (f : Option NodeId) (run : Run) (node : NodeId) (at on : Option NodeId) (tail left less total : ℕ) → at ≡ Some node → less + 1 ≡ left → FreeingAll old now f run at tail left total → IsFreed now bs node.0 on → FreeingAll old bs f run on node.0 less total
loop-next old now bs f run node at on tail left less total e l s done h =
    let t = loop-turn old now f run node at tail left total e s h in
    let d = done t.cell t.is in t.then_ bs on less l d.0 d.1

pub loop-over : (old now : List Cell) (f : Option NodeId) (run : Run) (at : Option NodeId) (tail left total : ℕ) → at ≡ None → FreeingAll old now f run at tail left total → (h : HasLoose old f total run) → IsAllFree old (edit (with_next f) tail now) (trees_at h.meaning run) f × (tail < length now) × (left + size (trees_at h.meaning run) ≡ total)
loop-over old now f run at tail left total e s h =
    over old now (trees_at h.meaning run) at tail left total f run.first.0 (first_within (trees_at h.meaning run) run.first.0 (loose-first old h.top h.end f h.meaning run h.table h.loose)) (λ k. omega (arith, apart old h.top h.end f h.meaning run.first.0 k h.table)) e (s h)

-- what was read and written is what freeing a node does
pub freed-some : (cs mid bs : List Cell) (m : ℕ) (next first last on : Option NodeId) (q : NodeId) → ((c : Cell) → slice_get cs m ≡ Some c → next ≡ c.next) → ((c : Cell) → slice_get cs m ≡ Some c → first ≡ c.first) → ((c : Cell) → slice_get cs m ≡ Some c → last ≡ c.last) → last ≡ Some q → bs ≡ freed cs m next first (Some q) → on ≡ first → IsFreed cs bs m on
freed-some cs mid bs m next first last on q n f l some be oe c g =
    let last_is : Some q ≡ c.last = sym some ∙ l c g in
    (be ∙ ap (λ w. freed cs m w first (Some q)) (n c g) ∙ ap (λ x. freed cs m c.next x (Some q)) (f c g) ∙ ap (freed cs m c.next c.first) last_is, oe ∙ f c g ∙ ap (λ b. going_on b c.first c.next) last_is)

pub freed-none : (cs bs : List Cell) (m : ℕ) (next first last on : Option NodeId) → ((c : Cell) → slice_get cs m ≡ Some c → next ≡ c.next) → ((c : Cell) → slice_get cs m ≡ Some c → first ≡ c.first) → ((c : Cell) → slice_get cs m ≡ Some c → last ≡ c.last) → last ≡ None → bs ≡ freed cs m next first None → on ≡ next → IsFreed cs bs m on
freed-none cs bs m next first last on n f l none be oe c g =
    let last_is : None ≡ c.last = sym none ∙ l c g in
    (be ∙ ap (λ w. freed cs m w first None) (n c g) ∙ ap (λ x. freed cs m c.next x None) (f c g) ∙ ap (freed cs m c.next c.first) last_is, oe ∙ n c g ∙ ap (λ b. going_on b c.first c.next) last_is)

held-spliced : (b w : Option NodeId) (cs : List Cell) → held (spliced cs b w) ≡ held cs
held-spliced None w cs = refl
held-spliced (Some q) w cs = held-next w q.0 cs

-- each turn leaves a cell fewer
pub loop-smaller : (old now bs : List Cell) (f : Option NodeId) (run : Run) (node : NodeId) (at on : Option NodeId) (tail left total : ℕ) → at ≡ Some node → FreeingAll old now f run at tail left total → IsFreed now bs node.0 on → HasLoose old f total run → held bs < held now
loop-smaller old now bs f run node at on tail left total e s done h =
    let t = loop-turn old now f run node at tail left total e s h in
    let d = done t.cell t.is in
    let fewer = fall t.cell.last t.cell.next t.cell.first now node.0 t.cell t.is t.kept in
    omega (arith, ap held d.0, fewer)
  where
    fall : (b w f : Option NodeId) (cs : List Cell) (m : ℕ) (c : Cell) → slice_get cs m ≡ Some c → is_kept c.kind ≡ true → held (freed cs m w f b) + 1 ≡ held cs
    fall None w f cs m c g k = held-free w m cs c g k
    fall (Some q) w f cs m c g k = elim (same_or_not m q.0) [
      | inl s ↦ held-free f m (edit (with_next w) q.0 cs) (with_next w c) (subst (λ j. slice_get (edit (with_next w) j cs) m ≡ Some (with_next w c)) s (edit-same (with_next w) m cs c g)) k ∙ held-next w q.0 cs
      | inr n ↦ held-free f m (edit (with_next w) q.0 cs) c (edit-other (with_next w) q.0 m cs n ∙ g) k ∙ held-next w q.0 cs
    ]

unfoldable pub loose-table : (items slice : List Cell) (t e f : Option NodeId) (made : ℕ) (m : Meaning) (run : Run) → slice ≡ items → IsHeld items t e f made → meaning_of items t f ≡ m → IsUnlinked m run → HasLoose slice f made run
loose-table items slice t e f made m run s i v l =
    record { top = t; end = e; meaning = m; table = subst (λ cs. IsTable cs t e f m) (sym s) (table_of i v); loose = loose l; enough = omega (arith, i.made_is, ap made_in v, get-or-sum size nil refl m.unlinked run.first.0) }

pub freed-now : (items slice bs : List Cell) (t e f g : Option NodeId) (made : ℕ) (m : Meaning) (run : Run) → slice ≡ items → IsHeld items t e f made → meaning_of items t f ≡ m → IsUnlinked m run → ((h : HasLoose slice f made run) → IsTable bs h.top h.end g (after_free h.meaning run)) → IsTable bs t e g (after_free m run)
unfolding loose-table
freed-now items slice bs t e f g made m run s i v l done = done (loose-table items slice t e f made m run s i v l)

pub freed-fewer : (items slice : List Cell) (t e f : Option NodeId) (made left : ℕ) (m : Meaning) (run : Run) → slice ≡ items → IsHeld items t e f made → meaning_of items t f ≡ m → IsUnlinked m run → ((h : HasLoose slice f made run) → left + size (trees_at h.meaning run) ≡ made) → left + size (trees_at m run) ≡ made
unfolding loose-table
freed-fewer items slice t e f made left m run s i v l done = done (loose-table items slice t e f made m run s i v l)

pub freed-held : (items bs : List Cell) (t e f g : Option NodeId) (made left : ℕ) (m : Meaning) (run : Run) → IsHeld items t e f made → meaning_of items t f ≡ m → length bs ≡ length items → left + size (trees_at m run) ≡ made → IsTable bs t e g (after_free m run) → IsHeld bs t e g left
freed-held items bs t e f g made left m run i v len fewer j =
    let old : IsTable items t e f m = table_of i v in
    let made_is : made ≡ made_in m = i.made_is ∙ ap made_in v in
    let is : left ≡ made_in (after_free m run) = omega (arith, made_is, old.all, j.all, len, fewer, length-append (notes (trees_at m run)) m.spare, length-notes (trees_at m run)) in
    record { table = holds bs t e g (after_free m run) j; made_is = is ∙ ap made_in (sym (seen bs t e g (after_free m run) j)) }

pub last-within : (cs : List Cell) (m : ℕ) (last : Option NodeId) (q : NodeId) → m < length cs → ((c : Cell) → slice_get cs m ≡ Some c → IsWithin c.last (length cs)) → ((c : Cell) → slice_get cs m ≡ Some c → last ≡ c.last) → last ≡ Some q → q.0 < length cs
last-within cs m last q lt within l some =
    let g = slice_get-get_or cs m (free_cell None) lt in
    subst (λ o. IsWithin o (length cs)) (sym (l (get_or cs m (free_cell None)) g) ∙ some) (within (get_or cs m (free_cell None)) g)
