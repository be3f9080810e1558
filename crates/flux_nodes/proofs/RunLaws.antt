use Rattle.flux_nodes.specs.Tables.{one_if, times}
use Rattle.std.proofs.Common.{◌≡◌, ◌≢◌, ℕ, ◌+◌, ◌<◌, ◌≤◌, suc, List, length, Option, Some, None, refl, ap, ◌∙◌, sym, subst, arith}
use Rattle.std.specs.List.{slice_get}
use Rattle.std.proofs.lemmas.Option.{slice_get_within}
use Rattle.flux_atom.specs.declared.atom.Atom.{Atom}
use Rattle.flux_trees.specs.Hedge.{Hedge, nil, elem, leaf, join, size}
use Rattle.flux_trees.proofs.HedgeLaws.{join-nil, join_assoc, size-join}
use Rattle.flux_nodes.specs.declared.cell.NodeId.{NodeId}
use Rattle.flux_nodes.specs.declared.cell.Cell.{Cell}
use Rattle.flux_nodes.specs.Laid.{id, first_id, last_id, elem_cell, leaf_cell, IsLaid, edit, with_parent, count, RunLaid, IsUnder}
use Rattle.flux_nodes.specs.declared.run.Run.{Run}
use Rattle.flux_nodes.proofs.LaidLaws.{one_if-same, edit-same, edit-other, kept-edit, last_id-join, times-join, join-laid, last_within, number_or}

pub record Passed (old now : List Cell) (h : Hedge ℕ) (p v w o : Option NodeId) (at i : ℕ) : Type 0 where
  pub done : Hedge ℕ
  pub todo : Hedge ℕ
  pub split : join done todo ≡ h
  pub front : IsLaid now o v done (first_id todo w)
  pub back : IsLaid now p (last_id done v) todo w
  pub at_is : first_id todo None ≡ Some (id at)
  pub others : (k : ℕ) → times k h ≡ 0 → slice_get now k ≡ slice_get old k
  pub counted : count done ≡ i

pub record Advanced (old now : List Cell) (h : Hedge ℕ) (p v w o : Option NodeId) (at i : ℕ) : Type 0 where
  pub done : Hedge ℕ
  pub todo : Hedge ℕ
  pub split : join done todo ≡ h
  pub front : IsLaid now o v done (first_id todo w)
  pub back : IsLaid now p (last_id done v) todo w
  pub last_is : last_id done None ≡ Some (id at)
  pub cell : Cell
  pub cell_is : slice_get now at ≡ Some cell
  pub next_is : cell.next ≡ first_id todo w
  pub others : (k : ℕ) → times k h ≡ 0 → slice_get now k ≡ slice_get old k
  pub counted : count done ≡ suc i

pub count-join : (f g : Hedge ℕ) → count (join f g) ≡ count f + count g
count-join nil g = omega arith
count-join (elem m a c r) g = omega (arith, count-join r g)
count-join (leaf m x r) g = omega (arith, count-join r g)

pub count-le : (h : Hedge ℕ) → count h ≤ size h
count-le nil = omega arith
count-le (elem m a c r) = omega (arith, count-le r)
count-le (leaf m x r) = omega (arith, count-le r)

-- the tree at which the pass stands is put under o
advance-elem : (old now : List Cell) (h : Hedge ℕ) (p v w o : Option NodeId) (at i : ℕ) (f : Hedge ℕ) (m a : ℕ) (c r : Hedge ℕ) → m ≡ at → join f (elem m a c r) ≡ h → IsLaid now o v f (Some (id m)) → IsLaid now p (last_id f v) (elem m a c r) w → ((k : ℕ) → times k h ≡ 0 → slice_get now k ≡ slice_get old k) → count f ≡ i → ((k : ℕ) → times k h ≤ 1) → Advanced old (edit (with_parent o) at now) h p v w o at i
advance-elem old now h p v w o at i f m a c r e s l b others n d =
    let once : (k : ℕ) → times k f + (one_if k m + (times k c + times k r)) ≤ 1 = λ k. subst (λ j. j ≤ 1) (ap (times k) (sym s) ∙ times-join k f (elem m a c r)) (d k) in
    let new : List Cell = edit (with_parent o) m now in
    let same : slice_get (edit (with_parent o) m now) m ≡ Some (elem_cell a o (last_id f v) (first_id r w) (first_id c None) (last_id c None)) = edit-same (with_parent o) m now (elem_cell a p (last_id f v) (first_id r w) (first_id c None) (last_id c None)) b.0 in
    subst (λ j. Advanced old (edit (with_parent o) j now) h p v w o j i) e (record {
      done = join f (elem m a c nil);
      todo = r;
      split = join_assoc f (elem m a c nil) r ∙ s;
      front =
          join-laid (edit (with_parent o) m now) o v f (elem m a c nil) (first_id r w) (kept-edit (with_parent o) m now o v f (Some (id m)) (omega (arith, once m, one_if-same m)) l) (same, kept-edit (with_parent o) m now (Some (id m)) None c None (omega (arith, once m, one_if-same m)) b.1, tt);
      back =
          subst (λ q. IsLaid (edit (with_parent o) m now) p q r w) (sym (last_id-join f (elem m a c nil) v)) (kept-edit (with_parent o) m now p (Some (id m)) r w (omega (arith, once m, one_if-same m)) b.2);
      last_is = last_id-join f (elem m a c nil) None;
      cell = elem_cell a o (last_id f v) (first_id r w) (first_id c None) (last_id c None);
      cell_is = same;
      next_is = refl;
      others =
          λ k z. edit-other (with_parent o) m k now (λ q. let one : one_if k m ≡ 1 = ap (one_if k) (sym q) ∙ one_if-same k in let all : times k h ≡ times k f + (one_if k m + (times k c + times k r)) = ap (times k) (sym s) ∙ times-join k f (elem m a c r) in absurd (omega arith)) ∙ others k z;
      counted = count-join f (elem m a c nil) ∙ (omega arith);
    })

advance-leaf : (old now : List Cell) (h : Hedge ℕ) (p v w o : Option NodeId) (at i : ℕ) (f : Hedge ℕ) (m : ℕ) (x : Atom) (r : Hedge ℕ) → m ≡ at → join f (leaf m x r) ≡ h → IsLaid now o v f (Some (id m)) → IsLaid now p (last_id f v) (leaf m x r) w → ((k : ℕ) → times k h ≡ 0 → slice_get now k ≡ slice_get old k) → count f ≡ i → ((k : ℕ) → times k h ≤ 1) → Advanced old (edit (with_parent o) at now) h p v w o at i
advance-leaf old now h p v w o at i f m x r e s l b others n d =
    let once : (k : ℕ) → times k f + (one_if k m + times k r) ≤ 1 = λ k. subst (λ j. j ≤ 1) (ap (times k) (sym s) ∙ times-join k f (leaf m x r)) (d k) in
    let same : slice_get (edit (with_parent o) m now) m ≡ Some (leaf_cell x o (last_id f v) (first_id r w)) = edit-same (with_parent o) m now (leaf_cell x p (last_id f v) (first_id r w)) b.0 in
    subst (λ j. Advanced old (edit (with_parent o) j now) h p v w o j i) e (record {
      done = join f (leaf m x nil);
      todo = r;
      split = join_assoc f (leaf m x nil) r ∙ s;
      front =
          join-laid (edit (with_parent o) m now) o v f (leaf m x nil) (first_id r w) (kept-edit (with_parent o) m now o v f (Some (id m)) (omega (arith, once m, one_if-same m)) l) (same, tt);
      back =
          subst (λ q. IsLaid (edit (with_parent o) m now) p q r w) (sym (last_id-join f (leaf m x nil) v)) (kept-edit (with_parent o) m now p (Some (id m)) r w (omega (arith, once m, one_if-same m)) b.1);
      last_is = last_id-join f (leaf m x nil) None;
      cell = leaf_cell x o (last_id f v) (first_id r w);
      cell_is = same;
      next_is = refl;
      others =
          λ k z. edit-other (with_parent o) m k now (λ q. let one : one_if k m ≡ 1 = ap (one_if k) (sym q) ∙ one_if-same k in let all : times k h ≡ times k f + (one_if k m + times k r) = ap (times k) (sym s) ∙ times-join k f (leaf m x r) in absurd (omega arith)) ∙ others k z;
      counted = count-join f (leaf m x nil) ∙ (omega arith);
    })

pub advance : (old now : List Cell) (h : Hedge ℕ) (p v w o : Option NodeId) (at i : ℕ) → Passed old now h p v w o at i → ((k : ℕ) → times k h ≤ 1) → Advanced old (edit (with_parent o) at now) h p v w o at i
advance old now h p v w o at i s d = go s.done s.todo s.split s.front s.back s.at_is s.others s.counted
  where
    go : (f g : Hedge ℕ) → join f g ≡ h → IsLaid now o v f (first_id g w) → IsLaid now p (last_id f v) g w → first_id g None ≡ Some (id at) → ((k : ℕ) → times k h ≡ 0 → slice_get now k ≡ slice_get old k) → count f ≡ i → Advanced old (edit (with_parent o) at now) h p v w o at i
    go f nil s l b e others n = cc
    go f (elem m a c r) s l b e others n = advance-elem old now h p v w o at i f m a c r (ap number_or e) s l b others n d
    go f (leaf m x r) s l b e others n = advance-leaf old now h p v w o at i f m x r (ap number_or e) s l b others n d

pub start : (cs : List Cell) (h : Hedge ℕ) (p v w o : Option NodeId) (at : ℕ) → first_id h None ≡ Some (id at) → IsLaid cs p v h w → Passed cs cs h p v w o at 0
start cs h p v w o at e l = record { done = nil; todo = h; split = refl; front = tt; back = l; at_is = e; others = λ k z. refl; counted = refl }

pub within : (cs : List Cell) (p v : Option NodeId) (h : Hedge ℕ) (w : Option NodeId) (q : ℕ) → first_id h None ≡ Some (id q) → IsLaid cs p v h w → q < length cs
within cs p v nil w q e l = cc
within cs p v (elem m a c r) w q e l = subst (λ j. j < length cs) (ap number_or e) (slice_get_within cs m _ l.0)
within cs p v (leaf m x r) w q e l = subst (λ j. j < length cs) (ap number_or e) (slice_get_within cs m _ l.0)

-- nothing follows the last tree
pub ended : (f g : Hedge ℕ) (q : ℕ) → last_id f None ≡ Some (id q) → last_id (join f g) None ≡ Some (id q) → times q (join f g) ≤ 1 → g ≡ nil
ended f nil q e l d = refl
ended f (elem n a c r) q e l d =
    let here : 0 < times q (elem n a c r) = last_within (elem n a c r) q (sym (last_id-join f (elem n a c r) None) ∙ l) in
    absurd (omega (arith, last_within f q e, times-join q f (elem n a c r)))
ended f (leaf n x r) q e l d =
    let here : 0 < times q (leaf n x r) = last_within (leaf n x r) q (sym (last_id-join f (leaf n x r) None) ∙ l) in
    absurd (omega (arith, last_within f q e, times-join q f (leaf n x r)))

pub finish : {old now : List Cell} {h : Hedge ℕ} {p v w o : Option NodeId} {at i : ℕ} → Advanced old now h p v w o at i → last_id h None ≡ Some (id at) → times at h ≤ 1 → IsLaid now o v h w
finish {old} {now} {h} {p} {v} {w} {o} {at} {i} s e d =
    let last : last_id (join s.done s.todo) None ≡ Some (id at) = ap (λ k. last_id k None) s.split ∙ e in
    let none : s.todo ≡ nil = ended s.done s.todo at s.last_is last (subst (λ k. times at k ≤ 1) (sym s.split) d) in
    let all : s.done ≡ h = sym (join-nil s.done) ∙ ap (join s.done) (sym none) ∙ s.split in
    subst (λ k. IsLaid now o v k w) all (subst (λ k. IsLaid now o v s.done (first_id k w)) none s.front)

-- where the pass is not at the last tree there is a next one
go_on : (f g : Hedge ℕ) (w : Option NodeId) (at last : ℕ) → last_id f None ≡ Some (id at) → last_id (join f g) None ≡ Some (id last) → at ≢ last → first_id g w ≡ first_id g None × ((n : ℕ) × (first_id g None ≡ Some (id n)))
go_on f nil w at last e l n = absurd (n (ap number_or (sym e ∙ ap (λ k. last_id k None) (sym (join-nil f)) ∙ l)))
go_on f (elem m a c r) w at last e l n = (refl, (m, refl))
go_on f (leaf m x r) w at last e l n = (refl, (m, refl))

pub onward : {old now : List Cell} {h : Hedge ℕ} {p v w o : Option NodeId} {at i : ℕ} (last : ℕ) → (s : Advanced old now h p v w o at i) → last_id h None ≡ Some (id last) → at ≢ last → first_id s.todo w ≡ first_id s.todo None × ((n : ℕ) × (first_id s.todo None ≡ Some (id n)))
onward {old} {now} {h} {p} {v} {w} {o} {at} {i} last s e n =
    go_on s.done s.todo w at last s.last_is (ap (λ k. last_id k None) s.split ∙ e) n

pub step : {old now : List Cell} {h : Hedge ℕ} {p v w o : Option NodeId} {at i : ℕ} (last next : ℕ) (z : Cell) → Advanced old now h p v w o at i → last_id h None ≡ Some (id last) → at ≢ last → slice_get now at ≡ Some z → z.next ≡ Some (id next) → Passed old now h p v w o next (suc i)
step {old} {now} {h} {p} {v} {w} {o} {at} {i} last next z s e n g x =
    let same : z ≡ s.cell = let both : Some z ≡ Some s.cell = sym g ∙ s.cell_is in cc in
    let on = onward last s e n in
    record {
      done = s.done;
      todo = s.todo;
      split = s.split;
      front = s.front;
      back = s.back;
      at_is = sym on.0 ∙ sym s.next_is ∙ ap (λ (c : Cell). c.next) (sym same) ∙ x;
      others = s.others;
      counted = s.counted;
    }

pub never : {old now : List Cell} {h : Hedge ℕ} {p v w o : Option NodeId} {at i : ℕ} (last : ℕ) (z : Cell) → Advanced old now h p v w o at i → last_id h None ≡ Some (id last) → at ≢ last → slice_get now at ≡ Some z → z.next ≡ None → ⊥
never {old} {now} {h} {p} {v} {w} {o} {at} {i} last z s e n g x =
    let same : z ≡ s.cell = let both : Some z ≡ Some s.cell = sym g ∙ s.cell_is in cc in
    let on = onward last s e n in
    let none : None ≡ Some (id on.1.0) = sym x ∙ ap (λ (c : Cell). c.next) same ∙ s.next_is ∙ on.0 ∙ on.1.1 in
    cc

pub over : {old now : List Cell} {h : Hedge ℕ} {p v w o : Option NodeId} {at i : ℕ} (n : ℕ) → Passed old now h p v w o at i → size h ≤ n → n ≤ i → ⊥
over {old} {now} {h} {p} {v} {w} {o} {at} {i} n s f g =
    let some : 0 < size s.todo = go s.todo s.at_is in
    omega (arith, ap size s.split, size-join s.done s.todo, count-le s.done, s.counted)
  where
    go : (g : Hedge ℕ) → first_id g None ≡ Some (id at) → 0 < size g
    go nil e = cc
    go (elem m a c r) e = omega arith
    go (leaf m x r) e = omega arith

-- what `put_parents` keeps from turn to turn
abbrev pub PassedAll : List Cell → List Cell → Run → Option NodeId → ℕ → ℕ → Type 0
PassedAll old now run o at i =
    (r : RunLaid old run) → Passed old now r.trees r.parent r.prev r.next o at i

pub turn : (old now new : List Cell) (run : Run) (o : Option NodeId) (at i : ℕ) → new ≡ edit (with_parent o) at now → PassedAll old now run o at i → (r : RunLaid old run) → Advanced old new r.trees r.parent r.prev r.next o at i
turn old now new run o at i e s r =
    subst (λ cs. Advanced old cs r.trees r.parent r.prev r.next o at i) (sym e) (advance old now r.trees r.parent r.prev r.next o at i (s r) r.once)

pub turn-within : (old now : List Cell) (run : Run) (o : Option NodeId) (at i : ℕ) → PassedAll old now run o at i → RunLaid old run → at < length now
turn-within old now run o at i s r =
    let p = s r in within now r.parent (last_id p.done r.prev) p.todo r.next at p.at_is p.back

pub turn-done : (old now new : List Cell) (run : Run) (o : Option NodeId) (at i : ℕ) → new ≡ edit (with_parent o) at now → PassedAll old now run o at i → at ≡ run.last.0 → (r : RunLaid old run) → IsUnder old new run o r
turn-done old now new run o at i e s l r =
    let a = turn old now new run o at i e s r in
    record { laid = finish a (r.last_is ∙ ap (λ n. Some (id n)) (sym l)) (r.once at); others = a.others }

pub turn-next : (old now new : List Cell) (run : Run) (o : Option NodeId) (at i : ℕ) (read : Option NodeId) (next : NodeId) → new ≡ edit (with_parent o) at now → PassedAll old now run o at i → at ≢ run.last.0 → ((c : Cell) → slice_get new at ≡ Some c → read ≡ c.next) → read ≡ Some next → PassedAll old new run o next.0 (i + 1)
turn-next old now new run o at i read next e s n look is r =
    let a = turn old now new run o at i e s r in
    subst (λ j. Passed old new r.trees r.parent r.prev r.next o next.0 j) (omega arith) (step run.last.0 next.0 a.cell a r.last_is n a.cell_is (sym (look a.cell a.cell_is) ∙ is))

pub turn-never : (old now new : List Cell) (run : Run) (o : Option NodeId) (at i : ℕ) (read : Option NodeId) → new ≡ edit (with_parent o) at now → PassedAll old now run o at i → at ≢ run.last.0 → ((c : Cell) → slice_get new at ≡ Some c → read ≡ c.next) → read ≡ None → RunLaid old run → ⊥
turn-never old now new run o at i read e s n look is r =
    let a = turn old now new run o at i e s r in
    never run.last.0 a.cell a r.last_is n a.cell_is (sym (look a.cell a.cell_is) ∙ is)

pub turn-over : (old now : List Cell) (run : Run) (o : Option NodeId) (at i : ℕ) → PassedAll old now run o at i → length old ≤ i → RunLaid old run → ⊥
turn-over old now run o at i s l r = over (length old) (s r) r.fits l
