-- What comes of the marks: change after change, and of a numbering the edits and the numbers.
use Rattle.std.proofs.Common.{◌≡◌, ◌∙◌, refl, sym, ap, ap₂, subst, ℕ, ◌+◌, suc, arith, List, [], ◌∷◌, ◌++◌, append_assoc}
use Rattle.std.proofs.lemmas.List.{append-nil}
use Rattle.flux_trees.specs.Hedge.{Hedge, Plain, nil, elem, leaf, size, erase}
use Rattle.flux_trees.specs.Frame.{Frame}
use Rattle.flux_trees.specs.Edits.{Supply, beyond, Edit, Insert, Delete, Rename, inserted, number, place_in}
use Rattle.flux_calculus.specs.Query.{Environment}
use Rattle.flux_calculus.specs.Core.{Core, insert, Procs}
use Rattle.flux_calculus.specs.Notation.{Notation, insertion, deletion, Later, now, put, taken, labelled, Numbering, numbering, unedited, with_edit, used}
use Rattle.flux_calculus.specs.Noted.{DerivesNoted, EachNoted, DerivesNumbered, skips, ends, follows, takes_yes, takes_no, binds, notes, inserts, deletes, renames, tests, passes, enters, goes_left, goes_right, iterates, calls, each_end, each_elem, each_leaf}
use Rattle.flux_calculus.specs.Laws.{Grown}
use Rattle.flux_calculus.proofs.NotedAgree.{noted_one}
use Rattle.flux_calculus.proofs.Erased.{noted-derives, derives-noted}

module _ {N M : Type 0} (notation : Notation N M) where
  pub later-trans : {l m n : M} → Later notation l m → Later notation m n → Later notation l n
  later-trans a now = a
  later-trans a (put b) = put (later-trans a b)
  later-trans a (taken b) = taken (later-trans a b)
  later-trans a (labelled b) = labelled (later-trans a b)

  pub later-insertion : {l m : M} (fs : List (Frame N)) (w : Plain) → Later notation l m → Later notation l (insertion notation fs w m).1
  later-insertion fs nil a = a
  later-insertion fs (elem n b c r) a = put a
  later-insertion fs (leaf n x r) a = put a

  pub later-deletion : {l m : M} (fs : List (Frame N)) (v : Hedge N) → Later notation l m → Later notation l (deletion notation fs v m)
  later-deletion fs nil a = a
  later-deletion fs (elem n b c r) a = taken a
  later-deletion fs (leaf n x r) a = taken a

  mutual
    pub noted-later : {procs : Procs} {d : ℕ} {γ : Environment} {fs : List (Frame N)} {v w : Hedge N} {m n : M} {s : Core} → DerivesNoted notation procs d γ fs v m s w n → Later notation m n
    noted-later skips = now
    noted-later ends = now
    noted-later (follows a b) = later-trans (noted-later a) (noted-later b)
    noted-later (takes_yes e a) = noted-later a
    noted-later (takes_no e a) = noted-later a
    noted-later (binds e a) = noted-later a
    noted-later (notes a) = noted-later a
    noted-later (inserts {fs = fs} {u = u} e) = later-insertion fs u now
    noted-later (deletes {fs = fs} {v = v}) = later-deletion fs v now
    noted-later renames = labelled now
    noted-later (tests one fits a) = noted-later a
    noted-later (passes one misses) = now
    noted-later (enters a) = noted-later a
    noted-later (goes_left a) = noted-later a
    noted-later (goes_right a) = noted-later a
    noted-later (iterates a) = each-later a
    noted-later (calls e f a) = noted-later a

    each-later : {procs : Procs} {d : ℕ} {γ : Environment} {fs : List (Frame N)} {done rest w : Hedge N} {m n : M} {s : Core} → EachNoted notation procs d γ fs done rest m s w n → Later notation m n
    each-later each_end = now
    each-later (each_elem a b) = later-trans (noted-later a) (each-later b)
    each-later (each_leaf a b) = later-trans (noted-later a) (each-later b)

-- ---- a numbering

inserted-append : (g h : List Edit) → inserted (g ++ h) ≡ inserted g + inserted h
inserted-append [] h = omega arith
inserted-append (Insert place v ∷ g) h = omega (arith, inserted-append g h)
inserted-append (Delete place v ∷ g) h = inserted-append g h
inserted-append (Rename node from to ∷ g) h = inserted-append g h

-- one edit more
edit_more : (m : Numbering) (n : Numbering) (e : Edit) → Grown m n → (s : Supply) → ((i : ℕ) → s i ≡ n.supply (inserted (e ∷ []) + i)) →
    Grown m (record { supply = s; edits = n.edits ++ e ∷ []; first_supply = n.first_supply })
edit_more m n e g s f = record {
  more = g.more ++ e ∷ [];
  edits = ap (λ h. h ++ e ∷ []) g.edits ∙ append_assoc m.edits g.more (e ∷ []);
  first = g.first;
  numbers = λ i. f i ∙ g.numbers (inserted (e ∷ []) + i) ∙ ap m.supply (omega (arith, inserted-append g.more (e ∷ [])));
}

size-number : (w : Plain) (s : Supply) → size (number w s) ≡ size w
size-number nil s = refl
size-number (elem n a c r) s = ap suc (ap₂ ◌+◌ (size-number c _) (size-number r _))
size-number (leaf n x r) s = ap suc (size-number r _)

pub later-grows : {m n : Numbering} → Later numbering m n → Grown m n
later-grows {m} now = record { more = []; edits = sym (append-nil m.edits); first = refl; numbers = λ i. ap m.supply (omega arith) }
later-grows {m} (put {m' = k} {fs = fs} {w = w} a) =
    edit_more m k (Insert (place_in fs) (number w k.supply)) (later-grows a) (beyond (size w) k.supply) (λ i. ap k.supply (omega (arith, size-number w k.supply)))
later-grows {m} (taken {m' = k} {fs = fs} {v = v} a) =
    edit_more m k (Delete (place_in fs) v) (later-grows a) k.supply (λ i. ap k.supply (omega arith))
later-grows {m} (labelled {m' = k} {note} {from} {to} a) =
    edit_more m k (Rename note from to) (later-grows a) k.supply (λ i. ap k.supply (omega arith))

-- behind other edits, and with other numbers to come before them
abbrev behind : List Edit → Supply → Numbering → Numbering
behind g s m = record { supply = m.supply; edits = g ++ m.edits; first_supply = s }

behind-edit : (g : List Edit) (s : Supply) (e : Edit) (m : Numbering) → with_edit e (behind g s m) ≡ behind g s (with_edit e m)
behind-edit g s e m = ap (λ h. record { supply = m.supply; edits = h; first_supply = s }) (append_assoc g m.edits (e ∷ []))

behind-insertion : (g : List Edit) (s : Supply) (fs : List (Frame ℕ)) (w : Plain) (m : Numbering) → insertion numbering fs w (behind g s m) ≡ ((insertion numbering fs w m).0, behind g s (insertion numbering fs w m).1)
behind-insertion g s fs nil m = refl
behind-insertion g s fs (elem n a c r) m =
    ap (λ k. (number (elem n a c r) m.supply, k)) (behind-edit g s (Insert (place_in fs) (number (elem n a c r) m.supply)) (used (size (elem n a c r)) m))
behind-insertion g s fs (leaf n x r) m =
    ap (λ k. (number (leaf n x r) m.supply, k)) (behind-edit g s (Insert (place_in fs) (number (leaf n x r) m.supply)) (used (size (leaf n x r)) m))

behind-deletion : (g : List Edit) (s : Supply) (fs : List (Frame ℕ)) (v : Hedge ℕ) (m : Numbering) → deletion numbering fs v (behind g s m) ≡ behind g s (deletion numbering fs v m)
behind-deletion g s fs nil m = refl
behind-deletion g s fs (elem n a c r) m = behind-edit g s (Delete (place_in fs) (elem n a c r)) m
behind-deletion g s fs (leaf n x r) m = behind-edit g s (Delete (place_in fs) (leaf n x r)) m

with_marks : {procs : Procs} {d : ℕ} {γ : Environment} {fs : List (Frame ℕ)} {v w : Hedge ℕ} {m n o : Numbering} {s : Core} → n ≡ o → DerivesNoted numbering procs d γ fs v m s w n → DerivesNoted numbering procs d γ fs v m s w o
with_marks {procs} {d} {γ} {fs} {v} {w} {m} {s = s} e a = subst (λ k. DerivesNoted numbering procs d γ fs v m s w k) e a

module _ (g : List Edit) (k : Supply) where
  mutual
    noted-behind : {procs : Procs} {d : ℕ} {γ : Environment} {fs : List (Frame ℕ)} {v w : Hedge ℕ} {m n : Numbering} {s : Core} → DerivesNoted numbering procs d γ fs v m s w n → DerivesNoted numbering procs d γ fs v (behind g k m) s w (behind g k n)
    noted-behind skips = skips
    noted-behind ends = ends
    noted-behind (follows a b) = follows (noted-behind a) (noted-behind b)
    noted-behind (takes_yes e a) = takes_yes e (noted-behind a)
    noted-behind (takes_no e a) = takes_no e (noted-behind a)
    noted-behind (binds e a) = binds e (noted-behind a)
    noted-behind (notes a) = notes (noted-behind a)
    noted-behind {procs} {d} {γ} {fs} {m = m} (inserts {u = u} {at = at} {q = q} e) =
        subst (λ r. DerivesNoted numbering procs d γ fs nil (behind g k m) (insert at q) r.0 r.1) (behind-insertion g k fs u m) (inserts {at = at} {q = q} e)
    noted-behind {fs = fs} {v} {m = m} deletes = with_marks (behind-deletion g k fs v m) deletes
    noted-behind {m = m} (renames {note = note} {a} {b}) = with_marks (behind-edit g k (Rename note a b) m) renames
    noted-behind (tests one fits a) = tests one fits (noted-behind a)
    noted-behind (passes one misses) = passes one misses
    noted-behind (enters a) = enters (noted-behind a)
    noted-behind (goes_left a) = goes_left (noted-behind a)
    noted-behind (goes_right a) = goes_right (noted-behind a)
    noted-behind (iterates a) = iterates (each-behind a)
    noted-behind (calls e f a) = calls e f (noted-behind a)

    each-behind : {procs : Procs} {d : ℕ} {γ : Environment} {fs : List (Frame ℕ)} {done rest w : Hedge ℕ} {m n : Numbering} {s : Core} → EachNoted numbering procs d γ fs done rest m s w n → EachNoted numbering procs d γ fs done rest (behind g k m) s w (behind g k n)
    each-behind each_end = each_end
    each-behind (each_elem a b) = each_elem (noted-behind a) (each-behind b)
    each-behind (each_leaf a b) = each_leaf (noted-behind a) (each-behind b)

-- the edits of a statement follow those before, and don't depend on them
pub edits-follow : (procs : Procs) (d : ℕ) (γ : Environment) (fs : List (Frame ℕ)) (v : Hedge ℕ) (m : Numbering) (s : Core) (w : Hedge ℕ) (n : Numbering) → DerivesNoted numbering procs d γ fs v m s w n →
    (h : List Edit) × DerivesNumbered procs d γ fs m.supply v s w n.supply h × (n.edits ≡ m.edits ++ h) × (n.first_supply ≡ m.first_supply)
edits-follow procs d γ fs v m s w n a =
    let x : (x : Hedge ℕ) × (o : Numbering) × DerivesNoted numbering procs d γ fs v (unedited m.supply) s x o × (erase x ≡ erase w) = derives-noted numbering (noted-derives numbering a) fs (unedited m.supply) in
    let start : behind m.edits m.first_supply (unedited m.supply) ≡ m = ap (λ h. record { supply = m.supply; edits = h; first_supply = m.first_supply }) (append-nil m.edits) in
    let b : DerivesNoted numbering procs d γ fs v m s x.0 (behind m.edits m.first_supply x.1) = subst (λ k. DerivesNoted numbering procs d γ fs v k s x.0 (behind m.edits m.first_supply x.1)) start (noted-behind m.edits m.first_supply x.2) in
    let one : (x.0 ≡ w) × (behind m.edits m.first_supply x.1 ≡ n) = noted_one numbering procs b a in
    let c : DerivesNoted numbering procs d γ fs v (unedited m.supply) s w x.1 = subst (λ y. DerivesNoted numbering procs d γ fs v (unedited m.supply) s y x.1) one.0 x.2 in
    (x.1.edits, (x.1, c, ap (λ k. k.supply) one.1, refl), sym (ap (λ k. k.edits) one.1), sym (ap (λ k. k.first_supply) one.1))
