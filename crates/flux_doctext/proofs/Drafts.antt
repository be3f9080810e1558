-- Forests that are being written, whose labels are below a bound.
use Rattle.std.proofs.Common.{◌≡◌, ℕ, ◌<◌, ◌≤◌, Bool, true, false, if◌then◌else◌, List, [], ◌∷◌, ◌++◌, length, Some, slice_get, bytes_eq, sym, ap, subst, arith}
use Rattle.std.proofs.lemmas.Option.{slice_get_within}
use Rattle.flux_atom.specs.Names.{with_text}
use Rattle.flux_atom.proofs.Tables.{length-with_text-le}
use Rattle.flux_trees.specs.Hedge.{Plain, nil, elem, leaf, join}
use Rattle.flux_trees.specs.Draft.{Draft, done, begun, add, begin, end}
use Rattle.flux_trees.specs.Each.{EachLabel}

abbrev pub EachDraftLabel : ℕ → Draft (Unit {0}) → Type 0
EachDraftLabel n (done h) = EachLabel (λ a. a < n) h
EachDraftLabel n (begun b _ a d) = EachLabel (λ a. a < n) b × (a < n) × EachDraftLabel n d

labels_grow : (m n : ℕ) (h : Plain) → m ≤ n → EachLabel (λ a. a < m) h → EachLabel (λ a. a < n) h
labels_grow m n nil l e = tt
labels_grow m n (elem _ a c r) l e =
    (omega (arith, e.0), labels_grow m n c l e.1, labels_grow m n r l e.2)
labels_grow m n (leaf _ x r) l e = labels_grow m n r l e

draft_grows : (m n : ℕ) (d : Draft (Unit {0})) → m ≤ n → EachDraftLabel m d → EachDraftLabel n d
draft_grows m n (done h) l e = labels_grow m n h l e
draft_grows m n (begun b _ a d) l e =
    (labels_grow m n b l e.0, omega (arith, e.1), draft_grows m n d l e.2)

labels_join : (n : ℕ) (f g : Plain) → EachLabel (λ a. a < n) f → EachLabel (λ a. a < n) g → EachLabel (λ a. a < n) (join f g)
labels_join n nil g e k = k
labels_join n (elem _ a c r) g e k = (e.0, e.1, labels_join n r g e.2 k)
labels_join n (leaf _ x r) g e k = labels_join n r g e k

-- each step of writing keeps it

pub EachDraftLabel-add : (n : ℕ) (d : Draft (Unit {0})) (h : Plain) → EachDraftLabel n d → EachLabel (λ a. a < n) h → EachDraftLabel n (add d h)
EachDraftLabel-add n (done g) h e k = labels_join n g h e k
EachDraftLabel-add n (begun b _ a d) h e k = (e.0, e.1, EachDraftLabel-add n d h e.2 k)

draft_begin : (n a : ℕ) (d : Draft (Unit {0})) → EachDraftLabel n d → a < n → EachDraftLabel n (begin d tt a)
draft_begin n a (done g) e l = (e, l, tt)
draft_begin n a (begun b _ c d) e l = (e.0, e.1, draft_begin n a d e.2 l)

pub EachDraftLabel-end : (n : ℕ) (d : Draft (Unit {0})) → EachDraftLabel n d → EachDraftLabel n (end d)
EachDraftLabel-end n (done g) e = e
EachDraftLabel-end n (begun b _ a (done g)) e =
    labels_join n b (elem tt a g nil) e.0 (e.1, e.2, tt)
EachDraftLabel-end n (begun b _ a (begun c _ m d)) e =
    (e.0, e.1, EachDraftLabel-end n (begun c tt m d) e.2)

-- the beginning of an element whose label the table was shown
pub EachDraftLabel-begin : (names new : List (List ℕ)) (t : List ℕ) (a : ℕ) (d : Draft (Unit {0})) → EachDraftLabel (length names) d → new ≡ with_text names t → slice_get new a ≡ Some t → EachDraftLabel (length new) (begin d tt a)
EachDraftLabel-begin names new t a d e same at =
    let grown : length names ≤ length new = omega (arith, ap length same, length-with_text-le names t) in
    draft_begin (length new) a d (draft_grows (length names) (length new) d grown e) (slice_get_within new a t at)

-- the same of an equal table and an equal forest
pub EachDraftLabel-same : (names new : List (List ℕ)) (d e : Draft (Unit {0})) → names ≡ new → d ≡ e → EachDraftLabel (length new) e → EachDraftLabel (length names) d
EachDraftLabel-same names new d e p q i =
    subst (λ ns. EachDraftLabel (length ns) d) (sym p) (subst (EachDraftLabel (length new)) (sym q) i)
