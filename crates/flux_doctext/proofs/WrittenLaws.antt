-- What is read stays read, byte by byte.
use Rattle.std.proofs.Common.{◌≡◌, ℕ, suc, ◌<◌, Bool, true, false, List, [], ◌∷◌, ◌++◌, slice_get, codes, bytes_eq, Some, if◌then◌else◌, refl, sym, ap, subst, ◌∙◌, append_assoc, arith}
use Rattle.std.proofs.lemmas.Bool.{false≢true}
use Rattle.std.proofs.lemmas.List.{append-nil}
use Rattle.std.proofs.lemmas.Slice.Eq.{bytes_eq-Decides}
use Rattle.std.specs.List.{list_any}
use Rattle.flux_atom.specs.Names.{with_text}
use Rattle.flux_trees.specs.Hedge.{Plain, nil, elem, join}
use Rattle.flux_trees.specs.Draft.{done, begun, depth, add, begin, end}
use Rattle.flux_doctext.specs.Spells.{inside, trees, tree, Spelled, last, element}
use Rattle.flux_doctext.specs.Reading.{Shape, content, next, name, label, opened, closed, string, number, behind, step, number_of, PlainDraft}
use Rattle.flux_doctext.proofs.ReadLaws.{number_found}
use Rattle.flux_doctext.proofs.SpelledLaws.{no_space, held_more, spelled-more, trees_push}
use Rattle.flux_doctext.proofs.Written.{Ahead, first, further, Begun, IsLabelled, IsOpening, Core, Written}

-- the same over a table with more names

module _ (names others : List (List ℕ)) where
  ahead-more : {bytes : List ℕ} {h : Plain} → Ahead names bytes h → Ahead (names ++ others) bytes h
  ahead-more (first none_yet nothing_yet) = first none_yet nothing_yet
  ahead-more (further front x split) = further front (spelled-more others x) split

  begun-more : {P Q : List ℕ → Type 0} {bytes : List ℕ} {h : Plain} → ((t : List ℕ) → P t → Q t) → Begun names P bytes h → Begun (names ++ others) Q bytes h
  begun-more step i = record {
    front = i.front;
    spaces = i.spaces;
    token = i.token;
    ahead = ahead-more i.ahead;
    is_space = i.is_space;
    is_token = step i.token i.is_token;
    split = i.split;
  }

  labelled-more : (text t : List ℕ) → IsLabelled names text t → IsLabelled (names ++ others) text t
  labelled-more text t i = record {
    spaces = i.spaces;
    is_space = i.is_space;
    is_label = i.is_label;
    held = number_found (names ++ others) (number_of names text) text (held_more names others (number_of names text) text i.held);
    token_is = i.token_is;
  }

  opening-more : (a : ℕ) (t : List ℕ) → IsOpening names a t → IsOpening (names ++ others) a t
  opening-more a t i = record {
    text = i.text;
    spaces = i.spaces;
    is_space = i.is_space;
    is_label = i.is_label;
    at = held_more names others a i.text i.at;
    token_is = i.token_is;
  }

  core-more : (s : Shape) (bytes : List ℕ) (h : Plain) → Core names s bytes h → Core (names ++ others) s bytes h
  core-more content bytes h c = c
  core-more next bytes h c = begun-more (λ t p. p) c
  core-more (name text) bytes h c = begun-more (λ t p. p) c
  core-more (label text) bytes h c = begun-more (labelled-more text) c
  core-more opened bytes h c = c
  core-more closed bytes h c = (spelled-more others c.0, c.1)
  core-more (string r) bytes h c = begun-more (λ t p. p) c
  core-more (number at) bytes h c = begun-more (λ t p. p) c
  core-more behind bytes h c = spelled-more others c

  pub written-more : (s : Shape) (bytes : List ℕ) (d : PlainDraft) → Written names (Core names s) bytes d → Written (names ++ others) (Core (names ++ others) s) bytes d
  written-more s bytes (done h) w = core-more s bytes h w
  written-more s bytes (begun b n a d) w = record {
    outer = w.outer;
    inner = w.inner;
    begins = begun-more (opening-more a) w.begins;
    goes_on = written-more s w.inner d w.goes_on;
    split = w.split;
  }

-- a table that was shown a text holds it, behind the names that it had
record IsShown (names : List (List ℕ)) (text : List ℕ) (new : List (List ℕ)) : Type 0 where
  others : List (List ℕ)
  split : new ≡ names ++ others
  held : (a : ℕ) × (slice_get new a ≡ Some text)

any_at : (names : List (List ℕ)) (text : List ℕ) → list_any (bytes_eq text) names ≡ true → (a : ℕ) × (slice_get names a ≡ Some text)
any_at [] text e = absurd (false≢true e)
any_at (n ∷ names) text e = by (bytes_eq text n) refl (any_at names text)
  where
    by : (held : Bool) → bytes_eq text n ≡ held → (list_any (bytes_eq text) names ≡ true → (a : ℕ) × (slice_get names a ≡ Some text)) → (a : ℕ) × (slice_get (n ∷ names) a ≡ Some text)
    by true h later = (0, ap Some (sym ((bytes_eq-Decides text n).0 h)))
    by false h later =
        let there = later (rw h at e) in
        (suc there.0, there.1)

last_at : (names : List (List ℕ)) (text : List ℕ) → (a : ℕ) × (slice_get (names ++ text ∷ []) a ≡ Some text)
last_at [] text = (0, refl)
last_at (n ∷ names) text =
    let there = last_at names text in
    (suc there.0, there.1)

shown : (names : List (List ℕ)) (text : List ℕ) → IsShown names text (with_text names text)
shown names text = by (list_any (bytes_eq text) names) refl
  where
    by : (held : Bool) → list_any (bytes_eq text) names ≡ held → IsShown names text (if held then names else names ++ text ∷ [])
    by true e = record { others = []; split = sym (append-nil names); held = any_at names text e }
    by false e = record { others = text ∷ []; split = refl; held = last_at names text }

pub written-with_text : (names : List (List ℕ)) (text : List ℕ) (s : Shape) (bytes : List ℕ) (d : PlainDraft) → Written names (Core names s) bytes d → Written (with_text names text) (Core (with_text names text) s) bytes d
written-with_text names text s bytes d w =
    let i = shown names text in
    subst (λ ns. Written ns (Core ns s) bytes d) (sym i.split) (written-more names i.others s bytes d w)

pub with_text-number : (names : List (List ℕ)) (text : List ℕ) → slice_get (with_text names text) (number_of (with_text names text) text) ≡ Some text
with_text-number names text =
    let i = shown names text in
    number_found (with_text names text) i.held.0 text i.held.1

-- what happens at the innermost place happens to the whole

module _ (names : List (List ℕ)) where
  pub lifted : (C D : List ℕ → Plain → Type 0) (m : List ℕ) → ((x : List ℕ) (h : Plain) → C x h → D (x ++ m) h) → (bytes : List ℕ) (d : PlainDraft) → Written names C bytes d → Written names D (bytes ++ m) d
  lifted C D m f bytes (done h) w = f bytes h w
  lifted C D m f bytes (begun b n a d) w = record {
    outer = w.outer;
    inner = w.inner ++ m;
    begins = w.begins;
    goes_on = lifted C D m f w.inner d w.goes_on;
    split = sym (append_assoc w.outer w.inner m) ∙ ap (λ l. l ++ m) w.split;
  }

  pub lifted_add : (C D : List ℕ → Plain → Type 0) (m : List ℕ) (g : Plain) → ((x : List ℕ) (h : Plain) → C x h → D (x ++ m) (join h g)) → (bytes : List ℕ) (d : PlainDraft) → Written names C bytes d → Written names D (bytes ++ m) (add d g)
  lifted_add C D m g f bytes (done h) w = f bytes h w
  lifted_add C D m g f bytes (begun b n a d) w = record {
    outer = w.outer;
    inner = w.inner ++ m;
    begins = w.begins;
    goes_on = lifted_add C D m g f w.inner d w.goes_on;
    split = sym (append_assoc w.outer w.inner m) ∙ ap (λ l. l ++ m) w.split;
  }

  pub lifted_begin : (C D : List ℕ → Plain → Type 0) (m : List ℕ) (a : ℕ) → D [] nil → ((x : List ℕ) (h : Plain) → C x h → Begun names (IsOpening names a) (x ++ m) h) → (bytes : List ℕ) (d : PlainDraft) → Written names C bytes d → Written names D (bytes ++ m) (begin d tt a)
  lifted_begin C D m a z f bytes (done h) w = record {
    outer = bytes ++ m;
    inner = [];
    begins = f bytes h w;
    goes_on = z;
    split = append-nil (bytes ++ m);
  }
  lifted_begin C D m a z f bytes (begun b n c d) w = record {
    outer = w.outer;
    inner = w.inner ++ m;
    begins = w.begins;
    goes_on = lifted_begin C D m a z f w.inner d w.goes_on;
    split = sym (append_assoc w.outer w.inner m) ∙ ap (λ l. l ++ m) w.split;
  }

  -- a tree behind what stands before it
  pub tree_behind : {front new : List ℕ} {h w : Plain} → Ahead names front h → Spelled names tree new w → Spelled names trees (front ++ new) (join h w)
  tree_behind {front} {new} {h} {w} (first none_yet nothing_yet) x =
      subst (λ l. Spelled names trees (l ++ new) (join h w)) (sym none_yet) (subst (λ g. Spelled names trees new (join g w)) (sym nothing_yet) (last x))
  tree_behind {front} {new} {h} {w} (further before y split) x =
      subst (λ l. Spelled names trees l (join h w)) (sym (append_assoc before (codes ",") new) ∙ ap (λ l. l ++ new) split) (trees_push y x)

  -- an element, from its beginning and what stands in it
  element_behind : {outer inner : List ℕ} {b g : Plain} (a : ℕ) → Begun names (IsOpening names a) outer b → Spelled names inside inner g → Spelled names trees (outer ++ (inner ++ codes "]")) (join b (elem tt a g nil))
  element_behind {outer} {inner} {b} {g} a i x =
      let o = i.is_token in
      let one : Spelled names tree _ (elem tt a g nil) = element i.spaces o.text o.spaces inner [] a i.is_space o.is_space no_space o.is_label o.at x refl in
      subst (λ l. Spelled names trees l (join b (elem tt a g nil))) (regroup i.front i.spaces o.text o.spaces ∙ ap (λ t. (i.front ++ (i.spaces ++ t)) ++ (inner ++ codes "]")) (sym o.token_is) ∙ ap (λ l. l ++ (inner ++ codes "]")) i.split) (tree_behind i.ahead one)
    where
      regroup : (front spaces text between : List ℕ) → front ++ (spaces ++ (text ++ (between ++ (codes "[" ++ (inner ++ (codes "]" ++ [])))))) ≡ (front ++ (spaces ++ (text ++ (between ++ codes "[")))) ++ (inner ++ codes "]")
      regroup front spaces text between = simp append_assoc

  pub lifted_end : (C : List ℕ → Plain → Type 0) → ((x : List ℕ) (h : Plain) → C x h → Spelled names inside x h) → (bytes : List ℕ) (d : PlainDraft) → 0 < depth d → Written names C bytes d → Written names (Core names behind) (bytes ++ codes "]") (end d)
  lifted_end C f bytes (done h) some_open w = absurd (omega (arith, some_open))
  lifted_end C f bytes (begun b n a (done g)) some_open w =
      subst (λ l. Spelled names trees l (join b (elem tt a g nil))) (sym (append_assoc w.outer w.inner (codes "]")) ∙ ap (λ l. l ++ codes "]") w.split) (element_behind a w.begins (f w.inner g w.goes_on))
  lifted_end C f bytes (begun b n a (begun c m e d)) some_open w = record {
    outer = w.outer;
    inner = w.inner ++ codes "]";
    begins = w.begins;
    goes_on = lifted_end C f w.inner (begun c m e d) (omega arith) w.goes_on;
    split = sym (append_assoc w.outer w.inner (codes "]")) ∙ ap (λ l. l ++ codes "]") w.split;
  }
