-- What callers of a table have at hand: runs and nodes that follow from others, and the numbers to
-- come after each call.
use Rattle.flux_nodes.proofs.SeenLaws.{split2}
use Rattle.flux_nodes.specs.Laid.{id}
use Rattle.std.proofs.Common.{◌≡◌, inl, inr, ℕ, ◌+◌, ◌-◌, ◌<◌, zero, suc, List, [], ◌∷◌, length, drop, Option, Some, None, refl, ap, ◌∙◌, sym, subst, arith, ◌++◌}
use Rattle.std.proofs.lemmas.List.{get_or-set_same}
use Rattle.flux_trees.specs.Hedge.{Hedge, Plain, nil, elem, leaf, content, others}
use Rattle.flux_trees.specs.Frame.{Frame, Down, plug, Before, After, framed}
use Rattle.flux_trees.specs.Edits.{Supply, preceded, beyond, last_or}
use Rattle.flux_nodes.specs.declared.cell.NodeId.{NodeId}
use Rattle.flux_nodes.specs.declared.cell.Kind.{Kind}
use Rattle.flux_nodes.specs.declared.cell.Kind.TheVariants.{Elem, Leaf}
use Rattle.flux_nodes.specs.declared.cell.Cell.{Cell}
use Rattle.flux_nodes.specs.declared.run.Run.{Run}
use Rattle.flux_nodes.specs.Tables.{Meaning, number_of, first_or, AreEnds, RunAt, PlaceAt, NodeAt, ElementAt, IsKindOf, IsCellOf, IsUnlinked, IsNewRun, IsSound, trees_at, times, after_unlink, after_add, one_if}
use Rattle.flux_nodes.proofs.LaidLaws.{first_within, one_if-is}
use Rattle.std.proofs.lemmas.Bool.{cases_lt}
use Rattle.flux_nodes.proofs.SeatLaws.{times-seated}
use Rattle.flux_nodes.proofs.FrameLaws.{seat_of, plug-seat, first-end}

-- the trees of the whole document are a run
abbrev pub whole_run : {h : Hedge ℕ} {run : Run} → AreEnds run h → RunAt h run
whole_run {h} {run} e = record { frames = []; trees = h; forest_is = refl; ends = e }

-- before an empty document there is a place
abbrev pub empty_place : {h : Hedge ℕ} → h ≡ nil → PlaceAt h (record { parent = None; after = None })
empty_place {h} e = record { frames = []; forest_is = e; place_is = refl }

-- the content of an element is a run
pub content-run : (h : Hedge ℕ) (node : NodeId) (c : Cell) (f l : NodeId) (at : NodeAt h node) → IsCellOf c at.frames at.tree → c.first ≡ Some f → c.last ≡ Some l → RunAt h (record { first = f; last = l })
content-run h node c f l at i fe le = go at.tree at.forest_is at.alone i.first_is i.last_is
  where
    go : (tree : Hedge ℕ) → h ≡ plug at.frames tree → (others tree ≡ nil) → number_of c.first ≡ first_or None (content tree) → number_of c.last ≡ last_or None (content tree) → RunAt h (record { first = f; last = l })
    go nil e r a b = let bad : Some f.0 ≡ None = sym (ap number_of fe) ∙ a in cc
    go (leaf m x q) e r a b = let bad : Some f.0 ≡ None = sym (ap number_of fe) ∙ a in cc
    go (elem m n d q) e r a b = record {
      frames = Down m n ∷ at.frames;
      trees = d;
      forest_is = e ∙ ap (λ k. plug at.frames (elem m n d k)) r;
      ends = record { first_is = sym a ∙ ap number_of fe; last_is = sym b ∙ ap number_of le };
    }

-- a node whose cell says so is an element
pub element-of : (h : Hedge ℕ) (node : NodeId) (kind : Kind) (name : ℕ) (at : NodeAt h node) → IsKindOf kind at.tree → kind ≡ Elem name → ElementAt h node
element-of h node kind name at i e = go at.tree at.forest_is at.alone at.number_is i
  where
    go : (tree : Hedge ℕ) → h ≡ plug at.frames tree → (others tree ≡ nil) → first_or None tree ≡ Some node.0 → IsKindOf kind tree → ElementAt h node
    go nil are r n k = absurd k
    go (leaf m x q) are r n k = let bad : Leaf x ≡ Elem name = sym k ∙ e in cc
    go (elem m a d q) are r n k =
        let same : m ≡ node.0 = let both : Some m ≡ Some node.0 = n in cc in
        record {
          frames = at.frames;
          label = a;
          inside = d;
          forest_is = are ∙ ap (λ w. plug at.frames (elem m a d w)) r ∙ ap (λ j. plug at.frames (elem j a d nil)) same;
        }

-- a run that was taken out is an unlinked one
pub taken-out : (m : Meaning) (run : Run) → IsSound m → (at : RunAt m.document run) → IsUnlinked (after_unlink m run at.frames at.trees) run
taken-out m run s at =
    let here : 0 < times run.first.0 at.trees = first_within at.trees run.first.0 (first-end run at.trees at.ends) in
    let in_document : 0 < times run.first.0 m.document = omega (arith, here, ap (times run.first.0) (at.forest_is ∙ plug-seat at.frames at.trees), times-seated run.first.0 (seat_of at.frames).above (seat_of at.frames).left at.trees (seat_of at.frames).right) in
    let within : run.first.0 < length m.unlinked = elim (cases_lt run.first.0 (length m.unlinked)) [ inl l ↦ l | inr g ↦ absurd (omega (arith, in_document, s.none run.first.0 g)) ] in
    let is : trees_at (after_unlink m run at.frames at.trees) run ≡ at.trees = get_or-set_same m.unlinked run.first.0 at.trees nil within in
    subst (AreEnds run) (sym is) at.ends

-- a run of new nodes is an unlinked one
pub new-run : (m : Meaning) (run : Run) (h : Hedge ℕ) (o : Option Run) → IsNewRun o m h → o ≡ Some run → IsUnlinked m run
new-run m run h o i e =
    let n : IsNewRun (Some run) m h = subst (λ r. IsNewRun r m h) e i in
    subst (AreEnds run) (sym n.1) n.0

pub add-document : (m : Meaning) (v : Plain) → (after_add m v).document ≡ m.document
add-document m nil = refl
add-document m (elem n a c r) = refl
add-document m (leaf n x r) = refl

pub preceded-more : (ms : List ℕ) (s : Supply) (k i : ℕ) → preceded ms s (k + i) ≡ preceded (drop k ms) (beyond (k - length ms) s) i
preceded-more ms s zero i = here ms i
  where
    here : (ms : List ℕ) (i : ℕ) → preceded ms s (0 + i) ≡ preceded ms (beyond (0 - length ms) s) i
    here ms i =
        let none : 0 + i ≡ i = omega arith in
        ap (preceded ms s) none ∙ same ms i
      where
        same : (ms : List ℕ) (i : ℕ) → preceded ms s i ≡ preceded ms (beyond (0 - length ms) s) i
        same [] i = let e : i ≡ (0 - 0) + i = omega arith in ap s e
        same (m ∷ ms) zero = refl
        same (m ∷ ms) (suc i) =
            let e : 0 - length ms ≡ 0 - suc (length ms) = omega arith in
            same ms i ∙ ap (λ j. preceded ms (beyond j s) i) e
preceded-more [] s (suc k) i = let e : suc k + i ≡ (suc k - 0) + i = omega arith in ap s e
preceded-more (m ∷ ms) s (suc k) i =
    let e : suc k + i ≡ suc (k + i) = omega arith in
    let d : k - length ms ≡ suc k - suc (length ms) = omega arith in
    ap (preceded (m ∷ ms) s) e ∙ preceded-more ms s k i ∙ ap (λ j. preceded (drop k ms) (beyond j s) i) d

pub same_run : (f l : NodeId) (run : Run) → Some (record { first = f; last = l }) ≡ Some run → record { first = f; last = l } ≡ run
same_run f l run e = cc

plug-append : (fs gs : List (Frame ℕ)) (v : Hedge ℕ) → plug (fs ++ gs) v ≡ plug gs (plug fs v)
plug-append [] gs v = refl
plug-append (f ∷ fs) gs v = plug-append fs gs (framed f v)

outside : (h g : Hedge ℕ) (gs : List (Frame ℕ)) (node : NodeId) → h ≡ plug gs g → NodeAt g node → NodeAt h node
outside h g gs node e at = record {
  frames = at.frames ++ gs;
  tree = at.tree;
  forest_is = e ∙ ap (plug gs) at.forest_is ∙ sym (plug-append at.frames gs at.tree);
  alone = at.alone;
  number_is = at.number_is;
}

-- a number that stands in a forest is that of a node there
pub node-of : (k : ℕ) (h : Hedge ℕ) → 0 < times k h → NodeAt h (id k)
node-of k nil t = absurd (omega arith)
node-of k (elem m a c r) t = elim (split2 (one_if k m) (times k c + times k r) t) [
  | inl x ↦ record { frames = Before r ∷ []; tree = elem m a c nil; forest_is = refl; alone = refl; number_is = ap (λ j. Some j) (sym (one_if-is k m x)) }
  | inr y ↦ elim (split2 (times k c) (times k r) y) [
    | inl x ↦ outside (elem m a c r) c (Down m a ∷ Before r ∷ []) (id k) refl (node-of k c x)
    | inr x ↦ outside (elem m a c r) r (After (elem m a c nil) ∷ []) (id k) refl (node-of k r x)
  ]
]
node-of k (leaf m x r) t = elim (split2 (one_if k m) (times k r) t) [
  | inl y ↦ record { frames = Before r ∷ []; tree = leaf m x nil; forest_is = refl; alone = refl; number_is = ap (λ j. Some j) (sym (one_if-is k m y)) }
  | inr y ↦ outside (leaf m x r) r (After (leaf m x nil) ∷ []) (id k) refl (node-of k r y)
]
