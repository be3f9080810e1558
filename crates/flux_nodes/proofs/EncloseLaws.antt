-- Trees that are laid out, put into a parent.
use Rattle.flux_nodes.specs.Tables.{one_if, times}
use Rattle.std.proofs.Common.{◌≡◌, ◌≢◌, ℕ, ◌+◌, ◌<◌, ◌≤◌, List, length, Option, Some, None, refl, ap, ◌∙◌, sym, subst, arith}
use Rattle.std.specs.List.{slice_get}
use Rattle.std.proofs.Math.ListN.{get_or}
use Rattle.std.proofs.lemmas.Option.{slice_get-get_or}
use Rattle.flux_trees.specs.Hedge.{Hedge, nil, elem, leaf, join}
use Rattle.flux_nodes.specs.declared.cell.NodeId.{NodeId}
use Rattle.flux_nodes.specs.declared.cell.Cell.{Cell}
use Rattle.flux_nodes.specs.Laid.{id, first_id, last_id, IsLaid, edit, with_next, with_prev, RunLaid, IsUnder}
use Rattle.flux_nodes.specs.Seats.{behind, behind_top}
use Rattle.flux_nodes.specs.Kept.{IsWithin}
use Rattle.flux_nodes.specs.Built.{HasTrees, IsEnclosed, IsLastBefore}
use Rattle.flux_nodes.proofs.LaidLaws.{one_if-same, edit-same, edit-other, kept, kept-edit, last_id-join, laid-join, first_within, last_within, relink_next, relink_prev}
use Rattle.flux_nodes.proofs.CallLaws.{first_cell, within-first}
use Rattle.flux_nodes.proofs.TableCalls.{none-nil, no_last-nil}

pub behind-within : (cs : List Cell) (first after last : Option NodeId) (parent : ℕ) → HasTrees cs first after last parent → IsWithin after (length cs)
behind-within cs first after last parent h =
    subst (λ o. IsWithin o (length cs)) (sym h.after_is) (within-first cs None (last_id h.inside None) h.rest None (laid-join cs None None h.inside h.rest None h.laid).1)

last-read : (cs : List Cell) (inside rest : Hedge ℕ) (after last read : Option NodeId) → IsLaid cs None (last_id inside None) rest None → after ≡ first_id rest None → last ≡ last_id (join inside rest) None → IsLastBefore cs after last read → read ≡ last_id inside None
last-read cs inside rest None last read l a e look =
    look ∙ e ∙ last_id-join inside rest None ∙ ap (λ g. last_id g (last_id inside None)) (none-nil rest a)
last-read cs inside rest (Some q) last read l a e look =
    let there = first_cell cs None (last_id inside None) rest None q l (sym a) in
    look there.0 there.1 ∙ there.3

pub last-found : {cs : List Cell} {first after last : Option NodeId} {parent : ℕ} (read : Option NodeId) → (h : HasTrees cs first after last parent) → IsLastBefore cs after last read → read ≡ last_id h.inside None
last-found {cs} {first} {after} {last} {parent} read h look =
    last-read cs h.inside h.rest after last read (laid-join cs None None h.inside h.rest None h.laid).1 h.after_is h.last_is look

-- with a first tree there is a last one
pub last-there : {cs : List Cell} {first after last : Option NodeId} {parent : ℕ} (f : NodeId) (read : Option NodeId) → (h : HasTrees cs first after last parent) → IsLastBefore cs after last read → first ≡ Some f → read ≡ None → ⊥
last-there {cs} {first} {after} {last} {parent} f read h look is none =
    let empty : h.inside ≡ nil = no_last-nil h.inside (sym none ∙ last-found read h look) in
    let no : None ≡ Some f = sym (h.first_is ∙ ap (λ g. first_id g None) empty) ∙ is in
    cc

abbrev pub inside_run : {cs : List Cell} {first after last : Option NodeId} {parent : ℕ} (f l : NodeId) (h : HasTrees cs first after last parent) → first ≡ Some f → Some l ≡ last_id h.inside None → RunLaid cs (record { first = f; last = l })
inside_run {cs} {first} {after} {last} {parent} f l h fe le = record {
  trees = h.inside;
  parent = None;
  prev = None;
  next = first_id h.rest None;
  laid = (laid-join cs None None h.inside h.rest None h.laid).0;
  first_is = sym h.first_is ∙ fe;
  last_is = sym le;
  once = λ k. omega (arith, h.once k);
  fits = h.fits;
}

pub enclosed : {cs : List Cell} {first after last : Option NodeId} {parent : ℕ} (c1 bs : List Cell) (f l : NodeId) (h : HasTrees cs first after last parent) (fe : first ≡ Some f) (le : Some l ≡ last_id h.inside None) → IsUnder cs c1 (record { first = f; last = l }) (Some (id parent)) (inside_run f l h fe le) → bs ≡ edit (with_next None) l.0 c1 → IsEnclosed cs bs h.inside h.rest parent (Some l)
enclosed {cs} {first} {after} {last} {parent} c1 bs f l h fe le u be =
    let here : 0 < times l.0 h.inside = last_within h.inside l.0 (sym le) in
    let others : (k : ℕ) → times k h.inside ≡ 0 → slice_get (edit (with_next None) l.0 c1) k ≡ slice_get cs k = λ k z. edit-other (with_next None) l.0 k c1 (λ e. let at : 0 < times k h.inside = subst (λ j. 0 < times j h.inside) (sym e) here in absurd (omega arith)) ∙ u.others k z in
    subst (λ x. IsEnclosed cs x h.inside h.rest parent (Some l)) (sym be) (record {
      laid = relink_next c1 (Some (id parent)) None h.inside (first_id h.rest None) None l.0 (sym le) u.laid (λ k. omega (arith, h.once k));
      prev = last_id h.inside None;
      behind = kept cs (edit (with_next None) l.0 c1) None (last_id h.inside None) h.rest None (λ k t. others k (omega (arith, h.once k))) (laid-join cs None None h.inside h.rest None h.laid).1;
      last_is = le;
      others = others;
    })

pub nothing-enclosed : {cs : List Cell} {first after last : Option NodeId} {parent : ℕ} (h : HasTrees cs first after last parent) → first ≡ None → IsEnclosed cs cs h.inside h.rest parent None
nothing-enclosed {cs} {first} {after} {last} {parent} h none =
    let empty : h.inside ≡ nil = none-nil h.inside (sym none ∙ h.first_is) in
    record {
      laid = subst (λ g. IsLaid cs (Some (id parent)) None g None) (sym empty) tt;
      prev = last_id h.inside None;
      behind = (laid-join cs None None h.inside h.rest None h.laid).1;
      last_is = ap (λ g. last_id g None) (sym empty);
      others = λ k z. refl;
    }

-- a cell written, in front of the trees r
pub record IsFront (cs bs : List Cell) (m : ℕ) (z : Cell) (r : Hedge ℕ) : Type 0 where
  pub cell : slice_get bs m ≡ Some z
  pub laid : IsLaid bs None (Some (id m)) r None
  pub others : (k : ℕ) → k ≢ m → times k r ≡ 0 → slice_get bs k ≡ slice_get cs k

front-some : (cs : List Cell) (m q : ℕ) (z : Cell) (r : Hedge ℕ) (v : Option NodeId) → first_id r None ≡ Some (id q) → IsLaid cs None v r None → m < length cs → ((k : ℕ) → one_if k m + times k r ≤ 1) → IsFront cs (behind (edit (λ _. z) m cs) None (first_id r None) (Some (id m))) m z r
front-some cs m q z r v e l lt once =
    let here : 0 < times q r = first_within r q e in
    let apart : m ≢ q = λ s. let one : one_if q m ≡ 1 = ap (one_if q) s ∙ one_if-same q in absurd (omega (arith, once q)) in
    let old : slice_get cs m ≡ Some (get_or cs m z) = slice_get-get_or cs m z lt in
    let none : times m r ≡ 0 = omega (arith, once m, one_if-same m) in
    subst (λ o. IsFront cs (behind (edit (λ _. z) m cs) None o (Some (id m))) m z r) (sym e) (record {
      cell = edit-other (with_prev (Some (id m))) q m (edit (λ _. z) m cs) apart ∙ edit-same (λ _. z) m cs (get_or cs m z) old;
      laid = relink_prev (edit (λ _. z) m cs) None v r None (Some (id m)) q e (kept-edit (λ _. z) m cs None v r None none l) (λ k. omega (arith, once k));
      others = λ k n t. edit-other (with_prev (Some (id m))) q k (edit (λ _. z) m cs) (λ s. let at : 0 < times k r = subst (λ j. 0 < times j r) (sym s) here in absurd (omega arith)) ∙ edit-other (λ _. z) m k cs n;
    })

pub front : (cs : List Cell) (m : ℕ) (z : Cell) (r : Hedge ℕ) (v : Option NodeId) → IsLaid cs None v r None → m < length cs → ((k : ℕ) → one_if k m + times k r ≤ 1) → IsFront cs (behind (edit (λ _. z) m cs) None (first_id r None) (Some (id m))) m z r
front cs m z nil v l lt once = record {
  cell = edit-same (λ _. z) m cs (get_or cs m z) (slice_get-get_or cs m z lt);
  laid = tt;
  others = λ k n t. edit-other (λ _. z) m k cs n;
}
front cs m z (elem n a c r) v l lt once = front-some cs m n z (elem n a c r) v refl l lt once
front cs m z (leaf n x r) v l lt once = front-some cs m n z (leaf n x r) v refl l lt once

-- which tree is the last then
pub front-last : (c r : Hedge ℕ) (m : ℕ) (last : Option NodeId) → last ≡ last_id (join c r) None → behind_top last None (first_id r None) (Some (id m)) ≡ last_id r (Some (id m))
front-last c nil m last e = refl
front-last c (elem n a d r) m last e = e ∙ last_id-join c (elem n a d r) None
front-last c (leaf n x r) m last e = e ∙ last_id-join c (leaf n x r) None
