-- A walk along the links of trees.
use Rattle.std.proofs.Common.{◌≡◌, ◌≢◌, ◌⊎◌, inl, inr, ℕ, ◌+◌, ◌<◌, ◌≤◌, zero, suc, List, length, Option, Some, None, refl, ap, ◌∙◌, sym, subst, arith}
use Rattle.std.specs.List.{slice_get}
use Rattle.std.specs.Bool.{IsTrue}
use Rattle.std.proofs.Common.{Bool, true, false}
use Rattle.std.proofs.lemmas.Option.{slice_get_within, get_or_from_slice_get}
use Rattle.std.proofs.Math.ListN.{get_or}
use Rattle.flux_nodes.specs.Kept.{IsWithin}
use Rattle.flux_nodes.proofs.CallLaws.{within-first, first_cell}
use Rattle.flux_atom.specs.declared.atom.Atom.{Atom}
use Rattle.flux_trees.specs.Hedge.{Hedge, Plain, nil, elem, leaf, join, size, erase}
use Rattle.flux_trees.specs.Draft.{done, begun, depth, add, begin, end}
use Rattle.flux_trees.proofs.HedgeLaws.{join-nil, join_assoc, size-join, erase-join, size-erase}
use Rattle.flux_forest.specs.Flat.{PlainDraft}
use Rattle.flux_nodes.specs.declared.cell.NodeId.{NodeId}
use Rattle.flux_nodes.specs.declared.cell.Kind.TheVariants.{Elem, Leaf, Free}
use Rattle.flux_nodes.specs.declared.cell.Cell.{Cell}
use Rattle.flux_nodes.specs.declared.run.Run.{Run}
use Rattle.flux_nodes.specs.declared.copying.Walk.{Walk}
use Rattle.flux_nodes.specs.Tables.{times, one_if}
use Rattle.flux_nodes.specs.Laid.{id, first_id, last_id, elem_cell, leaf_cell, IsLaid, RunLaid}
use Rattle.flux_nodes.specs.Seats.{Above, top, under, fill}
use Rattle.flux_nodes.specs.Copied.{parent_from, begun_around, written_in, steps_to, IsWalk, HasWalk, WentOn}
use Rattle.flux_nodes.proofs.LaidLaws.{one_if-same, laid-join, last_id-join, times-join, last_in, last_within, first_id-any, last_id-any, number_or}
use Rattle.flux_nodes.proofs.TableLaws.{same_or_not}
use Rattle.flux_nodes.proofs.TableCalls.{none-nil}

-- what is begun around a draft

pub around-add : (u : Above) (d : PlainDraft) (h : Plain) → add (begun_around u d) h ≡ begun_around u (add d h)
around-add top d h = refl
around-add (under u l m a r) d h = around-add u (begun (erase l) tt a d) h

pub around-begin : (u : Above) (d : PlainDraft) (a : ℕ) → begin (begun_around u d) tt a ≡ begun_around u (begin d tt a)
around-begin top d a = refl
around-begin (under u l m b r) d a = around-begin u (begun (erase l) tt b d) a

pub around-end : (u : Above) (b : Plain) (a : ℕ) (d : PlainDraft) → end (begun_around u (begun b tt a d)) ≡ begun_around u (end (begun b tt a d))
around-end top b a d = refl
around-end (under u l m c r) b a d = around-end u (erase l) c (begun b tt a d)

abbrev pub levels : Above → ℕ
levels top = 0
levels (under u l m a r) = suc (levels u)

pub depth-around : (u : Above) (d : PlainDraft) → depth (begun_around u d) ≡ levels u + depth d
depth-around top d = omega arith
depth-around (under u l m a r) d = omega (arith, depth-around u (begun (erase l) tt a d))

abbrev pub before_in : Above → ℕ
before_in top = 0
before_in (under u l m a r) = suc (size l) + before_in u

pub written-around : (u : Above) (d : PlainDraft) → written_in (begun_around u d) ≡ before_in u + written_in d
written-around top d = omega arith
written-around (under u l m a r) d =
    omega (arith, written-around u (begun (erase l) tt a d), size-erase l)

before-fill : (u : Above) (h : Hedge ℕ) → before_in u + size h ≤ size (fill u h)
before-fill top h = omega arith
before-fill (under u l m a r) h =
    omega (arith, before-fill u (join l (elem m a h r)), size-join l (elem m a h r))

-- the cells of a place in trees

abbrev pub prev_from : Above → Option NodeId → Option NodeId
prev_from top v = v
prev_from (under u l m a r) v = None

abbrev pub next_from : Above → Option NodeId → Option NodeId
next_from top w = w
next_from (under u l m a r) w = None

pub laid-inside : (cs : List Cell) (p v w : Option NodeId) (u : Above) (h : Hedge ℕ) → IsLaid cs p v (fill u h) w → IsLaid cs (parent_from u p) (prev_from u v) h (next_from u w)
laid-inside cs p v w top h l = l
laid-inside cs p v w (under u b m a r) h l =
    let inner = laid-inside cs p v w u (join b (elem m a h r)) l in
    (laid-join cs (parent_from u p) (prev_from u v) b (elem m a h r) (next_from u w) inner).1.1

laid-behind : (cs : List Cell) (p v w : Option NodeId) (u : Above) (b g : Hedge ℕ) → IsLaid cs p v (fill u (join b g)) w → IsLaid cs (parent_from u p) (last_id b (prev_from u v)) g (next_from u w)
laid-behind cs p v w u b g l =
    (laid-join cs (parent_from u p) (prev_from u v) b g (next_from u w) (laid-inside cs p v w u (join b g) l)).1

-- the last tree stands at no deeper level
inner-twice : (u : Above) (b : Hedge ℕ) (m a : ℕ) (r h : Hedge ℕ) (k : ℕ) → 0 < times k h → last_id (fill (under u b m a r) h) None ≡ Some (id k) → 2 ≤ times k (fill (under u b m a r) h)
inner-twice top b m a r h k t e =
    let last : last_id r (Some (id m)) ≡ Some (id k) = sym (last_id-join b (elem m a h r) None) ∙ e in
    elim (last_in r (Some (id m)) k last) [
      | inl i ↦ omega (arith, t, i, times-join k b (elem m a h r))
      | inr s ↦ (let same : m ≡ k = ap number_or s in
          let one : one_if k m ≡ 1 = ap (one_if k) same ∙ one_if-same k in
          omega (arith, t, one, times-join k b (elem m a h r)))
    ]
inner-twice (under u c n d q) b m a r h k t e =
    inner-twice u c n d q (join b (elem m a h r)) k (omega (arith, t, times-join k b (elem m a h r))) e

-- a tree with the trees behind it at a place
pub record IsTreeAt (u : Above) (b : Hedge ℕ) (m : ℕ) (g r : Hedge ℕ) : Type 0 where
  pub last_or_not : (o : Option NodeId) → last_id g o ≡ last_id r (Some (id m))
  pub times_are : (k : ℕ) → one_if k m + times k r ≤ times k g

nonempty : (r : Hedge ℕ) → (r ≡ nil) ⊎ ((q : ℕ) × (0 < times q r))
nonempty nil = inl refl
nonempty (elem m a c r) = inr (m, omega (arith, one_if-same m))
nonempty (leaf m x r) = inr (m, omega (arith, one_if-same m))

twice-at : (u : Above) (b : Hedge ℕ) (m : ℕ) (g r : Hedge ℕ) → IsTreeAt u b m g r → (q : ℕ) → 0 < times q r → last_id (fill u (join b g)) None ≡ Some (id m) → 2 ≤ times m (fill u (join b g))
twice-at top b m g r i q t e =
    let last : last_id r (Some (id m)) ≡ Some (id m) = sym (i.last_or_not (last_id b None)) ∙ sym (last_id-join b g None) ∙ e in
    let here : 0 < times m r = last_within r m (last_id-any r None (Some (id m)) q t ∙ last) in
    omega (arith, here, i.times_are m, one_if-same m, times-join m b g)
twice-at (under u c n d s) b m g r i q t e =
    inner-twice u c n d s (join b g) m (omega (arith, i.times_are m, one_if-same m, times-join m b g)) e

under-twice : (u : Above) (c : Hedge ℕ) (n d : ℕ) (s b : Hedge ℕ) (m : ℕ) (g r : Hedge ℕ) → IsTreeAt (under u c n d s) b m g r → last_id (fill (under u c n d s) (join b g)) None ≡ Some (id m) → 2 ≤ times m (fill (under u c n d s) (join b g))
under-twice u c n d s b m g r i e =
    inner-twice u c n d s (join b g) m (omega (arith, i.times_are m, one_if-same m, times-join m b g)) e

-- the tree behind, within the run
pub next-is : (u : Above) (b : Hedge ℕ) (m : ℕ) (g r : Hedge ℕ) (trees : Hedge ℕ) (last : NodeId) (w next read : Option NodeId) → IsTreeAt u b m g r → trees ≡ fill u (join b g) → last_id trees None ≡ Some last → ((k : ℕ) → times k trees ≤ 1) → next ≡ first_id r (next_from u w) → (m ≡ last.0 → read ≡ None) → (m ≢ last.0 → read ≡ next) → read ≡ first_id r None
next-is u b m g r trees last w next read i are last_is once n stops goes =
    elim (same_or_not m last.0) [ inl e ↦ at_last e | inr d ↦ further u i are n d ]
  where
    at_last : m ≡ last.0 → read ≡ first_id r None
    at_last e =
        let is : last_id (fill u (join b g)) None ≡ Some (id m) = ap (λ h. last_id h None) (sym are) ∙ last_is ∙ ap (λ k. Some (id k)) (sym e) in
        elim (nonempty r) [
          | inl none ↦ stops e ∙ ap (λ h. first_id h None) (sym none)
          | inr q ↦ absurd (omega (arith, twice-at u b m g r i q.0 q.1 is, once m, ap (times m) are))
        ]

    further : (u : Above) → IsTreeAt u b m g r → trees ≡ fill u (join b g) → next ≡ first_id r (next_from u w) → m ≢ last.0 → read ≡ first_id r None
    further (under u c k d s) i are n d2 = goes d2 ∙ n
    further top i are n d = elim (nonempty r) [
      | inl none ↦ absurd (d (ap number_or (ap (λ h. last_id h (Some (id m))) (sym none) ∙ sym (i.last_or_not (last_id b None)) ∙ sym (last_id-join b g None) ∙ ap (λ h. last_id h None) (sym are) ∙ last_is)))
      | inr q ↦ goes d ∙ n ∙ first_id-any r w None q.0 q.1
    ]

-- the steps of the walk

read-cell : (cs : List Cell) (m : ℕ) (z y : Cell) → z ≡ get_or cs m z → slice_get cs m ≡ Some y → z ≡ y
read-cell cs m z y e g = e ∙ get_or_from_slice_get cs m y z g

walk-written : (walk : Walk) (trees : Hedge ℕ) (p : Option NodeId) (d : PlainDraft) (s : IsWalk walk trees p d) → (written_in d ≡ before_in s.above + size s.left) × (depth d ≡ levels s.above) × (before_in s.above + (size s.left + size s.rest) ≤ size trees)
walk-written walk trees p d s =
    (ap written_in s.draft_is ∙ written-around s.above (done (erase s.left)) ∙ ap (λ n. before_in s.above + n) (size-erase s.left), ap depth s.draft_is ∙ depth-around s.above (done (erase s.left)) ∙ omega arith, omega (arith, before-fill s.above (join s.left s.rest), size-join s.left s.rest, ap size s.trees_are))

pub enter-elem : (cs : List Cell) (walk : Walk) (node : NodeId) (z : Cell) (name : ℕ) (d new : PlainDraft) (r : RunLaid cs walk.run) → IsWalk walk r.trees r.parent d → walk.at ≡ Some node → z ≡ get_or cs node.0 z → z.kind ≡ Elem name → new ≡ begin d tt name → IsWalk (record { at = z.first; parent = Some node; run = walk.run }) r.trees r.parent new × (steps_to (length cs) new < steps_to (length cs) d)
enter-elem cs walk node z name d new r s at zg kind e =
    go s.rest s.trees_are (sym at ∙ s.at_is) (laid-behind cs r.parent r.prev r.next s.above s.left s.rest (subst (λ h. IsLaid cs r.parent r.prev h r.next) s.trees_are r.laid)) (walk-written walk r.trees r.parent d s).2
  where
    go : (g : Hedge ℕ) → r.trees ≡ fill s.above (join s.left g) → Some node ≡ first_id g None → IsLaid cs (parent_from s.above r.parent) (last_id s.left (prev_from s.above r.prev)) g (next_from s.above r.next) → before_in s.above + (size s.left + size g) ≤ size r.trees → IsWalk (record { at = z.first; parent = Some node; run = walk.run }) r.trees r.parent new × (steps_to (length cs) new < steps_to (length cs) d)
    go nil are f l few = cc
    go (leaf m x q) are f l few =
        let same : m ≡ node.0 = sym (ap number_or f) in
        let is : z ≡ leaf_cell x (parent_from s.above r.parent) (last_id s.left (prev_from s.above r.prev)) (first_id q (next_from s.above r.next)) = read-cell cs node.0 z _ zg (ap (slice_get cs) (sym same) ∙ l.0) in
        let bad : Leaf x ≡ Elem name = sym (ap (λ (y : Cell). y.kind) is) ∙ kind in
        cc
    go (elem m a c q) are f l few =
        let same : m ≡ node.0 = sym (ap number_or f) in
        let is : z ≡ elem_cell a (parent_from s.above r.parent) (last_id s.left (prev_from s.above r.prev)) (first_id q (next_from s.above r.next)) (first_id c None) (last_id c None) = read-cell cs node.0 z _ zg (ap (slice_get cs) (sym same) ∙ l.0) in
        let kinds : Elem a ≡ Elem name = sym (ap (λ (y : Cell). y.kind) is) ∙ kind in
        let label : a ≡ name = cc in
        let draft : new ≡ begun_around s.above (begun (erase s.left) tt a (done nil)) = e ∙ ap (λ x. begin x tt name) s.draft_is ∙ around-begin s.above (done (erase s.left)) name ∙ ap (λ b. begun_around s.above (begun (erase s.left) tt b (done nil))) (sym label) in
        let t : IsWalk (record { at = z.first; parent = Some node; run = walk.run }) r.trees r.parent new = record {
          above = under s.above s.left m a q;
          left = nil;
          rest = c;
          trees_are = are;
          draft_is = draft;
          at_is = ap (λ (y : Cell). y.first) is;
          parent_is = ap (λ k. Some (id k)) (sym same);
        } in
        let old = walk-written walk r.trees r.parent d s in
        let wrote : written_in new ≡ before_in s.above + suc (size s.left) = ap written_in draft ∙ written-around s.above (begun (erase s.left) tt a (done nil)) ∙ (omega (arith, size-erase s.left)) in
        let deep : depth new ≡ levels s.above + 1 = ap depth draft ∙ depth-around s.above (begun (erase s.left) tt a (done nil)) in
        (t, omega (arith, old.0, old.1, wrote, deep, few, r.fits))

pub enter-leaf : (cs : List Cell) (walk : Walk) (node : NodeId) (z : Cell) (x : Atom) (d new : PlainDraft) (read : Option NodeId) (r : RunLaid cs walk.run) → IsWalk walk r.trees r.parent d → walk.at ≡ Some node → z ≡ get_or cs node.0 z → z.kind ≡ Leaf x → new ≡ add d (leaf tt x nil) → (node.0 ≡ walk.run.last.0 → read ≡ None) → (node.0 ≢ walk.run.last.0 → (c : Cell) → slice_get cs node.0 ≡ Some c → read ≡ c.next) → IsWalk (record { at = read; parent = walk.parent; run = walk.run }) r.trees r.parent new × (steps_to (length cs) new < steps_to (length cs) d)
enter-leaf cs walk node z x d new read r s at zg kind e stops goes =
    go s.rest s.trees_are (sym at ∙ s.at_is) (laid-behind cs r.parent r.prev r.next s.above s.left s.rest (subst (λ h. IsLaid cs r.parent r.prev h r.next) s.trees_are r.laid)) (walk-written walk r.trees r.parent d s).2
  where
    go : (g : Hedge ℕ) → r.trees ≡ fill s.above (join s.left g) → Some node ≡ first_id g None → IsLaid cs (parent_from s.above r.parent) (last_id s.left (prev_from s.above r.prev)) g (next_from s.above r.next) → before_in s.above + (size s.left + size g) ≤ size r.trees → IsWalk (record { at = read; parent = walk.parent; run = walk.run }) r.trees r.parent new × (steps_to (length cs) new < steps_to (length cs) d)
    go nil are f l few = cc
    go (elem m a c q) are f l few =
        let same : m ≡ node.0 = sym (ap number_or f) in
        let is : z ≡ elem_cell a (parent_from s.above r.parent) (last_id s.left (prev_from s.above r.prev)) (first_id q (next_from s.above r.next)) (first_id c None) (last_id c None) = read-cell cs node.0 z _ zg (ap (slice_get cs) (sym same) ∙ l.0) in
        let bad : Elem a ≡ Leaf x = sym (ap (λ (y : Cell). y.kind) is) ∙ kind in
        cc
    go (leaf m y q) are f l few =
        let same : m ≡ node.0 = sym (ap number_or f) in
        let there : slice_get cs node.0 ≡ Some (leaf_cell y (parent_from s.above r.parent) (last_id s.left (prev_from s.above r.prev)) (first_id q (next_from s.above r.next))) = ap (slice_get cs) (sym same) ∙ l.0 in
        let is : z ≡ leaf_cell y (parent_from s.above r.parent) (last_id s.left (prev_from s.above r.prev)) (first_id q (next_from s.above r.next)) = read-cell cs node.0 z _ zg there in
        let kinds : Leaf y ≡ Leaf x = sym (ap (λ (c : Cell). c.kind) is) ∙ kind in
        let value : y ≡ x = cc in
        let draft : new ≡ begun_around s.above (done (erase (join s.left (leaf m y nil)))) = e ∙ ap (λ w. add w (leaf tt x nil)) s.draft_is ∙ around-add s.above (done (erase s.left)) (leaf tt x nil) ∙ ap (λ w. begun_around s.above (done (join (erase s.left) (leaf tt w nil)))) (sym value) ∙ ap (λ h. begun_around s.above (done h)) (sym (erase-join s.left (leaf m y nil))) in
        let tree : IsTreeAt s.above s.left m (leaf m y q) q = record { last_or_not = λ o. refl; times_are = λ k. omega arith } in
        let t : IsWalk (record { at = read; parent = walk.parent; run = walk.run }) r.trees r.parent new = record {
          above = s.above;
          left = join s.left (leaf m y nil);
          rest = q;
          trees_are = are ∙ ap (fill s.above) (sym (join_assoc s.left (leaf m y nil) q));
          draft_is = draft;
          at_is = next-is s.above s.left m (leaf m y q) q r.trees walk.run.last r.next (first_id q (next_from s.above r.next)) read tree are r.last_is r.once refl (λ k. stops (sym same ∙ k)) (λ n. goes (λ k. n (same ∙ k)) _ there);
          parent_is = s.parent_is;
        } in
        let old = walk-written walk r.trees r.parent d s in
        let wrote : written_in new ≡ before_in s.above + (size s.left + 1) = ap written_in draft ∙ written-around s.above (done (erase (join s.left (leaf m y nil)))) ∙ (omega (arith, size-erase (join s.left (leaf m y nil)), size-join s.left (leaf m y nil))) in
        let deep : depth new ≡ levels s.above = ap depth draft ∙ depth-around s.above (done (erase (join s.left (leaf m y nil)))) ∙ omega arith in
        (t, omega (arith, old.0, old.1, wrote, deep, few, r.fits))

-- a free cell is no node
pub no-free : (cs : List Cell) (walk : Walk) (node : NodeId) (z : Cell) (d : PlainDraft) (r : RunLaid cs walk.run) → IsWalk walk r.trees r.parent d → walk.at ≡ Some node → z ≡ get_or cs node.0 z → z.kind ≡ Free → ⊥
no-free cs walk node z d r s at zg kind =
    go s.rest (sym at ∙ s.at_is) (laid-behind cs r.parent r.prev r.next s.above s.left s.rest (subst (λ h. IsLaid cs r.parent r.prev h r.next) s.trees_are r.laid))
  where
    go : (g : Hedge ℕ) → Some node ≡ first_id g None → IsLaid cs (parent_from s.above r.parent) (last_id s.left (prev_from s.above r.prev)) g (next_from s.above r.next) → ⊥
    go nil f l = cc
    go (elem m a c q) f l =
        let same : m ≡ node.0 = sym (ap number_or f) in
        let is : z ≡ elem_cell a (parent_from s.above r.parent) (last_id s.left (prev_from s.above r.prev)) (first_id q (next_from s.above r.next)) (first_id c None) (last_id c None) = read-cell cs node.0 z _ zg (ap (slice_get cs) (sym same) ∙ l.0) in
        let bad : Elem a ≡ Free = sym (ap (λ (y : Cell). y.kind) is) ∙ kind in
        cc
    go (leaf m x q) f l =
        let same : m ≡ node.0 = sym (ap number_or f) in
        let is : z ≡ leaf_cell x (parent_from s.above r.parent) (last_id s.left (prev_from s.above r.prev)) (first_id q (next_from s.above r.next)) = read-cell cs node.0 z _ zg (ap (slice_get cs) (sym same) ∙ l.0) in
        let bad : Leaf x ≡ Free = sym (ap (λ (y : Cell). y.kind) is) ∙ kind in
        cc

pub at-within : (cs : List Cell) (walk : Walk) (node : NodeId) (d : PlainDraft) (r : RunLaid cs walk.run) → IsWalk walk r.trees r.parent d → walk.at ≡ Some node → node.0 < length cs
at-within cs walk node d r s at =
    subst (λ o. IsWithin o (length cs)) (sym (sym at ∙ s.at_is)) (within-first cs (parent_from s.above r.parent) (last_id s.left (prev_from s.above r.prev)) s.rest (next_from s.above r.next) (laid-behind cs r.parent r.prev r.next s.above s.left s.rest (subst (λ h. IsLaid cs r.parent r.prev h r.next) s.trees_are r.laid)))

-- where no tree is left and the walk isn't over, it is in an element
pub leave-none : (cs : List Cell) (walk : Walk) (d : PlainDraft) (r : RunLaid cs walk.run) → IsWalk walk r.trees r.parent d → walk.at ≡ None → ((walk.at ≡ None) × (depth d ≡ 0) → ⊥) → walk.parent ≡ None → ⊥
leave-none cs walk d r s at on none = go s.above s.draft_is s.parent_is
  where
    go : (u : Above) → d ≡ begun_around u (done (erase s.left)) → walk.parent ≡ parent_from u r.parent → ⊥
    go top e p = on (at, ap depth e)
    go (under u l m a q) e p = let no : None ≡ Some (id m) = sym none ∙ p in cc

pub leave-deep : (cs : List Cell) (walk : Walk) (d : PlainDraft) → HasWalk cs walk d → walk.at ≡ None → 0 < depth d
leave-deep cs walk d h at = go (depth d) refl
  where
    go : (n : ℕ) → depth d ≡ n → 0 < n
    go zero e = absurd (h.goes_on (at, e))
    go (suc n) e = omega arith

pub leave-at : (cs : List Cell) (walk : Walk) (node : NodeId) (d new : PlainDraft) (read up : Option NodeId) (r : RunLaid cs walk.run) → IsWalk walk r.trees r.parent d → walk.at ≡ None → ((walk.at ≡ None) × (depth d ≡ 0) → ⊥) → walk.parent ≡ Some node → new ≡ end d → (node.0 ≡ walk.run.last.0 → read ≡ None) → (node.0 ≢ walk.run.last.0 → (c : Cell) → slice_get cs node.0 ≡ Some c → read ≡ c.next) → ((c : Cell) → slice_get cs node.0 ≡ Some c → up ≡ c.parent) → (node.0 < length cs) × IsWalk (record { at = read; parent = up; run = walk.run }) r.trees r.parent new × (steps_to (length cs) new < steps_to (length cs) d)
leave-at cs walk node d new read up r s at on inside e stops goes look =
    go s.above (s.trees_are ∙ ap (λ g. fill s.above (join s.left g)) (none-nil s.rest (sym at ∙ s.at_is)) ∙ ap (fill s.above) (join-nil s.left)) s.draft_is (sym inside ∙ s.parent_is)
  where
    go : (u : Above) → r.trees ≡ fill u s.left → d ≡ begun_around u (done (erase s.left)) → Some node ≡ parent_from u r.parent → (node.0 < length cs) × IsWalk (record { at = read; parent = up; run = walk.run }) r.trees r.parent new × (steps_to (length cs) new < steps_to (length cs) d)
    go top are draft p = absurd (on (at, ap depth draft))
    go (under u l m a q) are draft p =
        let same : m ≡ node.0 = sym (ap number_or p) in
        let laid = laid-behind cs r.parent r.prev r.next u l (elem m a s.left q) (subst (λ h. IsLaid cs r.parent r.prev h r.next) are r.laid) in
        let there : slice_get cs node.0 ≡ Some (elem_cell a (parent_from u r.parent) (last_id l (prev_from u r.prev)) (first_id q (next_from u r.next)) (first_id s.left None) (last_id s.left None)) = ap (slice_get cs) (sym same) ∙ laid.0 in
        let ended : new ≡ begun_around u (done (erase (join l (elem m a s.left nil)))) = e ∙ ap end draft ∙ around-end u (erase l) a (done (erase s.left)) ∙ ap (λ h. begun_around u (done h)) (sym (erase-join l (elem m a s.left nil))) in
        let tree : IsTreeAt u l m (elem m a s.left q) q = record { last_or_not = λ o. refl; times_are = λ k. omega arith } in
        let t : IsWalk (record { at = read; parent = up; run = walk.run }) r.trees r.parent new = record {
          above = u;
          left = join l (elem m a s.left nil);
          rest = q;
          trees_are = are ∙ ap (fill u) (sym (join_assoc l (elem m a s.left nil) q));
          draft_is = ended;
          at_is = next-is u l m (elem m a s.left q) q r.trees walk.run.last r.next (first_id q (next_from u r.next)) read tree are r.last_is r.once refl (λ k. stops (sym same ∙ k)) (λ n. goes (λ k. n (same ∙ k)) _ there);
          parent_is = look _ there;
        } in
        let old : written_in d ≡ suc (size l) + before_in u + size s.left = ap written_in draft ∙ written-around u (begun (erase l) tt a (done (erase s.left))) ∙ (omega (arith, size-erase l, size-erase s.left)) in
        let was : depth d ≡ levels u + 1 = ap depth draft ∙ depth-around u (begun (erase l) tt a (done (erase s.left))) in
        let wrote : written_in new ≡ before_in u + (size l + suc (size s.left)) = ap written_in ended ∙ written-around u (done (erase (join l (elem m a s.left nil)))) ∙ (omega (arith, size-erase (join l (elem m a s.left nil)), size-join l (elem m a s.left nil))) in
        let deep : depth new ≡ levels u = ap depth ended ∙ depth-around u (done (erase (join l (elem m a s.left nil)))) ∙ omega arith in
        let few : before_in u + (size l + suc (size s.left)) ≤ size r.trees = omega (arith, before-fill u (join l (elem m a s.left q)), size-join l (elem m a s.left q), ap size are) in
        (slice_get_within cs node.0 _ there, t, omega (arith, old, was, wrote, deep, few, r.fits))

-- the beginning and the end of the walk

pub walk-start : (cs : List Cell) (run : Run) (up : Option NodeId) (d : PlainDraft) (r : RunLaid cs run) → ((c : Cell) → slice_get cs run.first.0 ≡ Some c → up ≡ c.parent) → d ≡ done nil → IsWalk (record { at = Some run.first; parent = up; run = run }) r.trees r.parent d
walk-start cs run up d r look e =
    let there = first_cell cs r.parent r.prev r.trees r.next run.first r.laid r.first_is in
    record {
      above = top;
      left = nil;
      rest = r.trees;
      trees_are = refl;
      draft_is = e;
      at_is = sym r.first_is;
      parent_is = look there.0 there.1 ∙ there.2;
    }

pub walk-end : (walk : Walk) (trees : Hedge ℕ) (p : Option NodeId) (d : PlainDraft) → IsWalk walk trees p d → walk.at ≡ None → depth d ≡ 0 → d ≡ done (erase trees)
walk-end walk trees p d s at deep = go s.above s.trees_are s.draft_is
  where
    go : (u : Above) → trees ≡ fill u (join s.left s.rest) → d ≡ begun_around u (done (erase s.left)) → d ≡ done (erase trees)
    go top are e =
        e ∙ ap (λ h. done (erase h)) (sym (are ∙ ap (join s.left) (none-nil s.rest (sym at ∙ s.at_is)) ∙ join-nil s.left))
    go (under u l m a q) are e =
        absurd (omega (arith, deep, ap depth e, depth-around u (begun (erase l) tt a (done (erase s.left)))))

pub inside-within : (cs : List Cell) (walk : Walk) (node : NodeId) (d : PlainDraft) → HasWalk cs walk d → walk.at ≡ None → walk.parent ≡ Some node → node.0 < length cs
inside-within cs walk node d h at inside = go h.walk_is.above h.walk_is.trees_are h.walk_is.draft_is (sym inside ∙ h.walk_is.parent_is)
  where
    go : (u : Above) → h.run.trees ≡ fill u (join h.walk_is.left h.walk_is.rest) → d ≡ begun_around u (done (erase h.walk_is.left)) → Some node ≡ parent_from u h.run.parent → node.0 < length cs
    go top are draft p = absurd (h.goes_on (at, ap depth draft))
    go (under u l m a q) are draft p =
        let laid = laid-behind cs h.run.parent h.run.prev h.run.next u l (elem m a (join h.walk_is.left h.walk_is.rest) q) (subst (λ g. IsLaid cs h.run.parent h.run.prev g h.run.next) are h.run.laid) in
        slice_get_within cs node.0 _ (ap (slice_get cs) (ap number_or p) ∙ laid.0)

pub walk-has : (cs : List Cell) (run : Run) (walk : Walk) (d : PlainDraft) → walk.run ≡ run → RunLaid cs run → ((r : RunLaid cs run) → IsWalk walk r.trees r.parent d) → ((walk.at ≡ None) × (depth d ≡ 0) → ⊥) → HasWalk cs walk d
walk-has cs run walk d e r w on =
    subst (λ q. RunLaid cs q → ((s : RunLaid cs q) → IsWalk walk s.trees s.parent d) → HasWalk cs walk d) e (λ s v. record { run = s; walk_is = v s; goes_on = on }) r w

pub walk-on : (cs : List Cell) (run : Run) (walk next : Walk) (d new : PlainDraft) → walk.run ≡ run → ((r : RunLaid cs run) → IsWalk walk r.trees r.parent d) → WentOn cs walk next d new → (r : RunLaid cs run) → IsWalk next r.trees r.parent new
walk-on cs run walk next d new e w went =
    subst (λ q. ((s : RunLaid cs q) → IsWalk walk s.trees s.parent d) → (s : RunLaid cs q) → IsWalk next s.trees s.parent new) e (λ v s. went.walk_is s (v s)) w

pub test-false : {A : Type 0} (b : Bool) → b ≡ false → (A → IsTrue b) → A → ⊥
test-false b e f x = let no : IsTrue false = subst IsTrue e (f x) in cc

pub test-true : {A : Type 0} (b : Bool) → b ≡ true → (IsTrue b → A) → A
test-true b e f = f e
