-- A forest without the elements on a path, tree by tree, and how a loop over the levels writes it.
use Rattle.std.proofs.Common.{◌≡◌, ◌≢◌, ◌∙◌, refl, sym, ap, ℕ, suc, ◌+◌, ◌<◌, Bool, true, false, ◌==◌, List, [], ◌∷◌, ◌++◌, length, drop, get_or, if◌then◌else◌, arith, length-append}
use Rattle.std.proofs.Math.Seq.{drop-cons, drop-nil}
use Rattle.std.proofs.lemmas.List.{drop_all}
use Rattle.std.proofs.lemmas.Bool.Decides.{nat_tests}
use Rattle.flux_atom.specs.declared.atom.Atom.{Atom}
use Rattle.flux_trees.specs.Hedge.{Plain, nil, elem, leaf, join, first, others, trees}
use Rattle.flux_trees.specs.Draft.{Draft, done, depth, add, begin, end}
use Rattle.flux_trees.proofs.DraftLaws.{depth-add, depth-begin, depth-end, end-begin, add-add, add-nil}
use Rattle.flux_calculus.specs.declared.ask.Test.TheVariants.{Label}
use Rattle.flux_calculus.specs.Query.{Environment}
use Rattle.flux_calculus.specs.Core.{Core, Procs, delete, test, children}
use Rattle.flux_calculus.specs.Derives.{Derives, DerivesEach, deletes, tests, passes, enters, iterates, each_end, each_more}
use Rattle.flux_top.specs.Paths.{unplaced, delete_on}

abbrev pub PlainDraft : Type 0
PlainDraft = Draft (Unit {0})

-- what becomes of an element: it stays, or goes where the path ends, or its content becomes inner
abbrev pub pruned_element : List ℕ → ℕ → Plain → Plain → Plain
pruned_element [] a c inner = elem tt a c nil
pruned_element (n ∷ []) a c inner = if a == n then nil else elem tt a c nil
pruned_element (n ∷ m ∷ path) a c inner = if a == n then elem tt a inner nil else elem tt a c nil

abbrev pub pruned : List ℕ → Plain → Plain
pruned path nil = nil
pruned path (elem _ a c r) = join (pruned_element path a c (pruned (drop 1 path) c)) (pruned path r)
pruned path (leaf _ x r) = leaf tt x (pruned path r)

module _ (procs : Procs) (d : ℕ) (γ : Environment) where
  -- an element, by a statement that is carried out where its label is n
  element_derives : (n a : ℕ) (c w : Plain) (s : Core) → (a ≡ n → Derives procs d γ (elem tt a c nil) s w) → Derives procs d γ (elem tt a c nil) (test unplaced (Label n) s) (if a == n then w else elem tt a c nil)
  element_derives n a c w s f = by (a == n) refl
    where
      by : (b : Bool) → (a == n) ≡ b → Derives procs d γ (elem tt a c nil) (test unplaced (Label n) s) (if b then w else elem tt a c nil)
      by true e = tests refl e (f (grind (arith, nat_tests)))
      by false e = passes refl e

  last_derives : (n : ℕ) (v : Plain) → DerivesEach procs d γ (trees v) (test unplaced (Label n) (delete unplaced)) (pruned (n ∷ []) v)
  last_derives n nil = each_end
  last_derives n (elem _ a c r) = each_more (element_derives n a c nil (delete unplaced) (λ e. deletes)) (last_derives n r) refl
  last_derives n (leaf _ x r) = each_more (passes refl refl) (last_derives n r) refl

  step_derives : (n m : ℕ) (path : List ℕ) → ((c : Plain) → Derives procs d γ c (delete_on (m ∷ path)) (pruned (m ∷ path) c)) → (v : Plain) → DerivesEach procs d γ (trees v) (test unplaced (Label n) (children unplaced (delete_on (m ∷ path)))) (pruned (n ∷ m ∷ path) v)
  step_derives n m path ih nil = each_end
  step_derives n m path ih (elem _ a c r) =
      each_more (element_derives n a c (elem tt a (pruned (m ∷ path) c) nil) (children unplaced (delete_on (m ∷ path))) (λ e. enters (ih c))) (step_derives n m path ih r) refl
  step_derives n m path ih (leaf _ x r) = each_more (passes refl refl) (step_derives n m path ih r) refl

  -- the deletion of a path makes the pruned forest
  pub pruned_derives : (path : List ℕ) → 0 < length path → (v : Plain) → Derives procs d γ v (delete_on path) (pruned path v)
  pruned_derives [] some v = absurd (omega (arith, some))
  pruned_derives (n ∷ []) some v = iterates (last_derives n v)
  pruned_derives (n ∷ m ∷ path) some v = iterates (step_derives n m path (λ c. pruned_derives (m ∷ path) (omega arith) c) v)

-- the elements that are begun are ended, and behind each stands what is left at its level, innermost last
abbrev pub closed : List ℕ → List Plain → PlainDraft → PlainDraft
closed path [] d = d
closed path (run ∷ outer) d = add (end (closed (drop 1 path) outer d)) (pruned path run)

-- with what is left the forest d becomes the whole without what stands on the path
pub record IsPruning (path : List ℕ) (whole : Plain) (d : PlainDraft) (rest : Plain) (outer : List Plain) : Type 0 where
  pub written : closed path outer (add d (pruned (drop (length outer) path) rest)) ≡ done (pruned path whole)
  pub open_elements : depth d ≡ length outer
  pub level : length outer < length path

drop_one : (path : List ℕ) (k : ℕ) → drop k (drop 1 path) ≡ drop (suc k) path
drop_one [] k = drop-nil k
drop_one (n ∷ path) k = refl

pub closed-push : (path : List ℕ) (outer : List Plain) (run : Plain) (d : PlainDraft) → closed path (outer ++ run ∷ []) d ≡ closed path outer (add (end d) (pruned (drop (length outer) path) run))
closed-push path [] run d = refl
closed-push path (o ∷ outer) run d =
    ap (λ e. add (end e) (pruned path o)) (closed-push (drop 1 path) outer run d ∙ ap (λ p. closed (drop 1 path) outer (add (end d) (pruned p run))) (drop_one path (length outer)))

-- the path from a level on: the label there, and the path from the next level on
from_level : (path : List ℕ) (k n : ℕ) → k < length path → n ≡ get_or path k n → drop k path ≡ n ∷ drop (suc k) path
from_level path k n below at = drop-cons path k n below ∙ ap (λ m. m ∷ drop (suc k) path) (sym at)

other_element : (n a : ℕ) (path : List ℕ) (c inner : Plain) → (a == n) ≡ false → pruned_element (n ∷ path) a c inner ≡ elem tt a c nil
other_element n a [] c inner differ = rw differ refl
other_element n a (m ∷ path) c inner differ = rw differ refl

last_element : (n a : ℕ) (c inner : Plain) → (a == n) ≡ true → pruned_element (n ∷ []) a c inner ≡ nil
last_element n a c inner same = rw same refl

inner_element : (n m a : ℕ) (path : List ℕ) (c inner : Plain) → (a == n) ≡ true → pruned_element (n ∷ m ∷ path) a c inner ≡ elem tt a inner nil
inner_element n m a path c inner same = rw same refl

pub pruning_starts : (path : List ℕ) (v : Plain) → 0 < length path → IsPruning path v (done nil) v []
pruning_starts path v some = record { written = refl; open_elements = refl; level = some }

pub pruning_ends : (path : List ℕ) (whole : Plain) (d : PlainDraft) → IsPruning path whole d nil [] → d ≡ done (pruned path whole)
pruning_ends path whole d i = sym (add-nil d) ∙ i.written

module _ (path : List ℕ) (whole : Plain) where
  -- the innermost element ends
  pub end_step : (d : PlainDraft) (run : Plain) (outer : List Plain) → IsPruning path whole d nil (outer ++ run ∷ []) → IsPruning path whole (end d) run outer
  end_step d run outer i = record {
    written = sym (closed-push path outer run d) ∙ ap (closed path (outer ++ run ∷ [])) (sym (add-nil d)) ∙ i.written;
    open_elements = omega (arith, i.open_elements, depth-end d, length-append outer (run ∷ []));
    level = omega (arith, i.level, length-append outer (run ∷ []));
  }

  -- the first tree is kept
  kept : (d : PlainDraft) (v : Plain) (outer : List Plain) → pruned (drop (length outer) path) v ≡ join (first v) (pruned (drop (length outer) path) (others v)) → IsPruning path whole d v outer → IsPruning path whole (add d (first v)) (others v) outer
  kept d v outer e i = record {
    written = ap (closed path outer) (add-add d (first v) (pruned (drop (length outer) path) (others v)) ∙ ap (add d) (sym e)) ∙ i.written;
    open_elements = depth-add d (first v) ∙ i.open_elements;
    level = i.level;
  }

  pub atom_step : (d : PlainDraft) (x : Atom) (r : Plain) (outer : List Plain) → IsPruning path whole d (leaf tt x r) outer → IsPruning path whole (add d (leaf tt x nil)) r outer
  atom_step d x r outer i = kept d (leaf tt x r) outer refl i

  module _ (d : PlainDraft) (a n : ℕ) (c r : Plain) (outer : List Plain) (at : n ≡ get_or path (length outer) n) (i : IsPruning path whole d (elem tt a c r) outer) where
    -- the path from this level on, and the element's content without what stands on the path
    abbrev here : List ℕ
    here = drop (length outer) path

    abbrev inner : Plain
    inner = pruned (drop 1 here) c

    -- that content, by the level of an outer run more
    abbrev below : Plain
    below = pruned (drop (length (outer ++ r ∷ [])) path) c

    here_is : here ≡ n ∷ drop (suc (length outer)) path
    here_is = from_level path (length outer) n i.level at

    -- an element with another label than the path has here
    pub other_step : (a == n) ≡ false → IsPruning path whole (add d (elem tt a c nil)) r outer
    other_step differ = kept d (elem tt a c r) outer (ap (λ t. join t (pruned here r)) stays) i
      where
        stays : pruned_element here a c inner ≡ elem tt a c nil
        stays =
            ap (λ p. pruned_element p a c inner) here_is ∙ other_element n a (drop (suc (length outer)) path) c inner differ

    -- an element on which the path ends
    pub last_step : (a == n) ≡ true → length outer + 1 ≡ length path → IsPruning path whole d r outer
    last_step same ends = record {
      written = ap (λ t. closed path outer (add d (join t (pruned here r)))) (sym goes) ∙ i.written;
      open_elements = i.open_elements;
      level = i.level;
    }
      where
        ended : drop (suc (length outer)) path ≡ []
        ended = drop_all (suc (length outer)) path (omega (arith, ends))

        goes : pruned_element here a c inner ≡ nil
        goes =
            ap (λ p. pruned_element p a c inner) (here_is ∙ ap (λ p. n ∷ p) ended) ∙ last_element n a c inner same

    -- an element that the path goes into
    pub inner_step : (a == n) ≡ true → length outer + 1 ≢ length path → IsPruning path whole (begin d tt a) c (outer ++ r ∷ [])
    inner_step same goes_on = record {
      written = closed-push path outer r (add (begin d tt a) below) ∙ ap (λ e. closed path outer (add e (pruned here r))) (end-begin d tt a below) ∙ ap (closed path outer) (add-add d (elem tt a below nil) (pruned here r)) ∙ ap (λ t. closed path outer (add d (join t (pruned here r)))) (ap (λ p. elem tt a (pruned p c) nil) next ∙ sym becomes) ∙ i.written;
      open_elements = omega (arith, depth-begin d tt a, i.open_elements, count);
      level = omega (arith, i.level, goes_on, count);
    }
      where
        count : length (outer ++ r ∷ []) ≡ suc (length outer)
        count = omega (arith, length-append outer (r ∷ []))

        deeper : suc (length outer) < length path
        deeper = omega (arith, i.level, goes_on)

        next : drop (length (outer ++ r ∷ [])) path ≡ drop 1 here
        next = ap (λ k. drop k path) count ∙ sym (ap (drop 1) here_is)

        becomes : pruned_element here a c inner ≡ elem tt a inner nil
        becomes =
            ap (λ p. pruned_element p a c inner) (here_is ∙ ap (λ p. n ∷ p) (drop-cons path (suc (length outer)) n deeper)) ∙ inner_element n (get_or path (suc (length outer)) n) a (drop (suc (suc (length outer))) path) c inner same
