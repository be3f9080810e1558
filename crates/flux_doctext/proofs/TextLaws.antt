-- The laws of the canonical text.
use Rattle.std.proofs.Common.{◌≡◌, ◌≢◌, ℕ, zero, suc, ◌<◌, true, false, List, [], ◌∷◌, ◌++◌, length, get_or, drop, codes, slice_get, unwrap_or, Some, None, Option, IsSomeAnd, refl, sym, ap, ap₂, subst, ◌∙◌, append_assoc, arith}
use Rattle.std.proofs.lemmas.Bool.{false≢true}
use Rattle.std.proofs.lemmas.Bool.Decides.{nat_tests}
use Rattle.std.proofs.lemmas.List.{append-nil}
use Rattle.std.proofs.lemmas.List.Sums.{AllPass-from_list_all}
use Rattle.std.proofs.lemmas.Option.{slice_get_within}
use Rattle.std.specs.List.{flat_map}
use Rattle.flux_atom.specs.declared.atom.Atom.{Atom}
use Rattle.flux_atom.specs.declared.atom.Atom.TheVariants.{Bool as Truth, Text, Int as Number}
use Rattle.flux_atom.specs.Names.{begins_name, continues_name, EndsName, IsName, IsLabel, IsTable}
use Rattle.flux_atom.specs.Literal.{quote, escaped, literal}
use Rattle.flux_atom.specs.declared.number.NumberState.{NumberState}
use Rattle.flux_atom.specs.NumberSteps.{number_begin}
use Rattle.flux_atom.proofs.NumberRuns.{not_number, number_first, number_not_empty}
use Rattle.flux_trees.specs.Hedge.{Plain, nil, elem, leaf}
use Rattle.flux_trees.specs.Each.{EachAtom, EachLabel}
use Rattle.flux_doctext.specs.Text.{name_text, comma, trees_text, text, HasRange, NamesLabel, TextTellsForest}
use Rattle.flux_doctext.proofs.Alike.{Alike, alike_nil, alike_elem, alike_leaf}
use Rattle.flux_doctext.proofs.Literals.{literal_end, name_end, IsName-continues, IsName-first}

-- a name of the table: its text is a label, and is found at its number

names_label : (o : Option (List ℕ)) → IsSomeAnd o IsLabel → IsLabel (unwrap_or o []) × (o ≡ Some (unwrap_or o []))
names_label None l = absurd l
names_label (Some t) l = (l, refl)

pub NamesLabel-label : (names : List (List ℕ)) (a : ℕ) → NamesLabel names a → IsLabel (name_text names a)
NamesLabel-label names a l = (names_label (slice_get names a) l).0

pub NamesLabel-found : (names : List (List ℕ)) (a : ℕ) → NamesLabel names a → slice_get names a ≡ Some (name_text names a)
NamesLabel-found names a l = (names_label (slice_get names a) l).1

pub NamesLabel-within : (names : List (List ℕ)) (a : ℕ) → NamesLabel names a → a < length names
NamesLabel-within names a l =
    slice_get_within names a (name_text names a) (NamesLabel-found names a l)

pub labels_within : (names : List (List ℕ)) (v : Plain) → EachLabel (NamesLabel names) v → EachLabel (λ a. a < length names) v
labels_within names nil l = tt
labels_within names (elem n a c r) l =
    (NamesLabel-within names a l.0, labels_within names c l.1, labels_within names r l.2)
labels_within names (leaf n x r) l = labels_within names r l

-- the text of trees, with a text behind it

-- nothing, or the bracket that ends an element
abbrev pub EndsTrees : List ℕ → Type 0
EndsTrees [] = Unit {0}
EndsTrees (b ∷ r) = b ≡ 93

-- what stands behind a tree, in front of those behind it and of r
behind : List (List ℕ) → Plain → List ℕ → List ℕ
behind names v r = comma v ++ (trees_text names v ++ r)

behind-EndsName : (names : List (List ℕ)) (v : Plain) (r : List ℕ) → EndsTrees r → EndsName (behind names v r)
unfolding behind
behind-EndsName names nil [] r_end = tt
behind-EndsName names nil (b ∷ r) r_end = ap continues_name r_end
behind-EndsName names (elem n a c t) r r_end = refl
behind-EndsName names (leaf n x t) r r_end = refl

behind_end : (names others : List (List ℕ)) (v w : Plain) (r s : List ℕ) → EndsTrees r → EndsTrees s → behind names v r ≡ behind others w s → trees_text names v ++ r ≡ trees_text others w ++ s
unfolding behind
behind_end names others nil nil r s r_end s_end e = e
behind_end names others nil (elem n a c t) [] s r_end s_end e = absurd cc
behind_end names others nil (elem n a c t) (b ∷ r) s r_end s_end e =
    let same : b ≡ 44 = ap (λ l. get_or l 0 0) e in
    absurd (omega arith)
behind_end names others nil (leaf n x t) [] s r_end s_end e = absurd cc
behind_end names others nil (leaf n x t) (b ∷ r) s r_end s_end e =
    let same : b ≡ 44 = ap (λ l. get_or l 0 0) e in
    absurd (omega arith)
behind_end names others (elem n a c t) nil r [] r_end s_end e = absurd cc
behind_end names others (elem n a c t) nil r (b ∷ s) r_end s_end e =
    let same : 44 ≡ b = ap (λ l. get_or l 0 0) e in
    absurd (omega arith)
behind_end names others (leaf n x t) nil r [] r_end s_end e = absurd cc
behind_end names others (leaf n x t) nil r (b ∷ s) r_end s_end e =
    let same : 44 ≡ b = ap (λ l. get_or l 0 0) e in
    absurd (omega arith)
behind_end names others (elem n a c t) (elem m b d u) r s r_end s_end e = ap (drop 1) e
behind_end names others (elem n a c t) (leaf m y u) r s r_end s_end e = ap (drop 1) e
behind_end names others (leaf n x t) (elem m b d u) r s r_end s_end e = ap (drop 1) e
behind_end names others (leaf n x t) (leaf m y u) r s r_end s_end e = ap (drop 1) e

-- the text of an element, and of an atom, as its label or its literal and what is behind
element_split : (names : List (List ℕ)) (a : ℕ) (c t : Plain) (r : List ℕ) → trees_text names (elem tt a c t) ++ r ≡ name_text names a ++ 91 ∷ (trees_text names c ++ 93 ∷ behind names t r)
unfolding behind
element_split names a c t r = regroup (name_text names a) (trees_text names c) (comma t) (trees_text names t)
  where
    regroup : (label inside between others : List ℕ) → (label ++ (codes "[" ++ (inside ++ (codes "]" ++ (between ++ others))))) ++ r ≡ label ++ 91 ∷ (inside ++ 93 ∷ (between ++ (others ++ r)))
    regroup label inside between others = simp append_assoc

atom_split : (names : List (List ℕ)) (x : Atom) (t : Plain) (r : List ℕ) → trees_text names (leaf tt x t) ++ r ≡ literal x ++ behind names t r
unfolding behind
atom_split names x t r =
    append_assoc (literal x) (comma t ++ trees_text names t) r ∙ ap (λ l. literal x ++ l) (append_assoc (comma t) (trees_text names t) r)

-- a byte that begins a name begins no number
letter_number : (b : ℕ) → begins_name b ≡ true → number_begin b ≡ None
letter_number b e = grind (arith, nat_tests)

-- an element's text is no literal's
element_atom : (p : List ℕ) (x : Atom) (r s : List ℕ) → HasRange x → IsLabel p → EndsName s → p ++ 91 ∷ r ≡ literal x ++ s → ⊥
element_atom p (Truth true) r s in_range label s_end e =
    label.1 (name_end p (codes "true") (91 ∷ r) s (IsName-continues p label.0) (AllPass-from_list_all continues_name (codes "true") refl) refl s_end e).0
element_atom p (Truth false) r s in_range label s_end e =
    label.2 (name_end p (codes "false") (91 ∷ r) s (IsName-continues p label.0) (AllPass-from_list_all continues_name (codes "false") refl) refl s_end e).0
element_atom p (Text t) r s in_range label s_end e =
    let first = IsName-first p quote ((flat_map escaped t ++ quote ∷ []) ++ s) (91 ∷ r) label.0 (sym e) in
    absurd cc
element_atom p (Number z) r s in_range label s_end e =
    let begun = number_first (p ++ 91 ∷ r) (literal (Number z)) s z e (in_range, refl) in
    let first = IsName-first p begun.0 begun.1 (91 ∷ r) label.0 (sym begun.3) in
    let both : ◌≡◌ {A = Option NumberState} None (Some begun.2) = sym (letter_number begun.0 first) ∙ begun.4 in
    cc

-- nothing, or a byte that begins no tree
abbrev BeginsNoTree : List ℕ → Type 0
BeginsNoTree [] = Unit {0}
BeginsNoTree (b ∷ r) = (begins_name b ≡ false) × (b ≢ quote) × (number_begin b ≡ None)

EndsTrees-BeginsNoTree : (r : List ℕ) → EndsTrees r → BeginsNoTree r
EndsTrees-BeginsNoTree [] e = tt
EndsTrees-BeginsNoTree (b ∷ r) e = (ap begins_name e, λ q. omega (arith, e), ap number_begin e)

name_apart : (p r s : List ℕ) → IsName p → BeginsNoTree r → r ≡ p ++ s → ⊥
name_apart [] r s name none e = absurd name
name_apart (b ∷ p) [] s name none e = absurd cc
name_apart (b ∷ p) (a ∷ r) s name none e =
    false≢true (sym none.0 ∙ IsName-first (b ∷ p) a r s name e)

literal_apart : (x : Atom) (r s : List ℕ) → HasRange x → BeginsNoTree r → r ≡ literal x ++ s → ⊥
literal_apart (Truth true) [] s in_range none e = absurd cc
literal_apart (Truth false) [] s in_range none e = absurd cc
literal_apart (Text t) [] s in_range none e = absurd cc
literal_apart (Truth true) (a ∷ r) s in_range none e =
    false≢true (sym none.0 ∙ ap (λ l. begins_name (get_or l 0 0)) e)
literal_apart (Truth false) (a ∷ r) s in_range none e =
    false≢true (sym none.0 ∙ ap (λ l. begins_name (get_or l 0 0)) e)
literal_apart (Text t) (a ∷ r) s in_range none e = none.1 (ap (λ l. get_or l 0 0) e)
literal_apart (Number z) [] s in_range none e = number_not_empty (literal (Number z)) s z e (in_range, refl)
literal_apart (Number z) (a ∷ r) s in_range none e = not_number a r (literal (Number z)) s z none.2 e (in_range, refl)

module _ (names others : List (List ℕ)) where
  -- two labels in front of brackets are one, and what is behind is the same
  label_end : (a b : ℕ) (r s : List ℕ) → NamesLabel names a → NamesLabel others b → name_text names a ++ 91 ∷ r ≡ name_text others b ++ 91 ∷ s → (name_text names a ≡ name_text others b) × (r ≡ s)
  label_end a b r s a_label b_label e =
      let p = IsName-continues (name_text names a) (NamesLabel-label names a a_label).0 in
      let q = IsName-continues (name_text others b) (NamesLabel-label others b b_label).0 in
      let same = name_end (name_text names a) (name_text others b) (91 ∷ r) (91 ∷ s) p q refl refl e in
      (same.0, ap (drop 1) same.1)

  -- the text of trees, in front of an end of trees, is that of trees that are alike
  pub trees_end : (v w : Plain) (r s : List ℕ) → EachLabel (NamesLabel names) v → EachLabel (NamesLabel others) w → EachAtom HasRange v → EachAtom HasRange w → EndsTrees r → EndsTrees s → trees_text names v ++ r ≡ trees_text others w ++ s → Alike names others v w × (r ≡ s)
  trees_end nil nil r s k l p q r_end s_end e = (alike_nil, e)
  trees_end nil (elem m b d u) r s k l p q r_end s_end e =
      absurd (name_apart (name_text others b) r _ (NamesLabel-label others b l.0).0 (EndsTrees-BeginsNoTree r r_end) (e ∙ element_split others b d u s))
  trees_end nil (leaf m y u) r s k l p q r_end s_end e =
      absurd (literal_apart y r _ q.0 (EndsTrees-BeginsNoTree r r_end) (e ∙ atom_split others y u s))
  trees_end (elem n a c t) nil r s k l p q r_end s_end e =
      absurd (name_apart (name_text names a) s _ (NamesLabel-label names a k.0).0 (EndsTrees-BeginsNoTree s s_end) (sym e ∙ element_split names a c t r))
  trees_end (leaf n x t) nil r s k l p q r_end s_end e =
      absurd (literal_apart x s _ p.0 (EndsTrees-BeginsNoTree s s_end) (sym e ∙ atom_split names x t r))
  trees_end (elem n a c t) (leaf m y u) r s k l p q r_end s_end e =
      absurd (element_atom (name_text names a) y _ (behind others u s) q.0 (NamesLabel-label names a k.0) (behind-EndsName others u s s_end) (sym (element_split names a c t r) ∙ e ∙ atom_split others y u s))
  trees_end (leaf n x t) (elem m b d u) r s k l p q r_end s_end e =
      absurd (element_atom (name_text others b) x _ (behind names t r) p.0 (NamesLabel-label others b l.0) (behind-EndsName names t r r_end) (sym (element_split others b d u s) ∙ sym e ∙ atom_split names x t r))
  trees_end (leaf n x t) (leaf m y u) r s k l p q r_end s_end e =
      let first = literal_end x y (behind names t r) (behind others u s) p.0 q.0 (behind-EndsName names t r r_end) (behind-EndsName others u s s_end) (sym (atom_split names x t r) ∙ e ∙ atom_split others y u s) in
      let rest = trees_end t u r s k l p.1 q.1 r_end s_end (behind_end names others t u r s r_end s_end first.1) in
      (alike_leaf first.0 rest.0, rest.1)
  trees_end (elem n a c t) (elem m b d u) r s k l p q r_end s_end e =
      let label = label_end a b (trees_text names c ++ 93 ∷ behind names t r) (trees_text others d ++ 93 ∷ behind others u s) k.0 l.0 (sym (element_split names a c t r) ∙ e ∙ element_split others b d u s) in
      let inside = trees_end c d (93 ∷ behind names t r) (93 ∷ behind others u s) k.1 l.1 p.0 q.0 refl refl label.1 in
      let rest = trees_end t u r s k.2 l.2 p.1 q.1 r_end s_end (behind_end names others t u r s r_end s_end (ap (drop 1) inside.1)) in
      (alike_elem label.0 inside.0 rest.0, rest.1)

  -- so is that of trees alone
  trees_alone : (v w : Plain) → EachLabel (NamesLabel names) v → EachLabel (NamesLabel others) w → EachAtom HasRange v → EachAtom HasRange w → trees_text names v ≡ trees_text others w → Alike names others v w
  trees_alone v w k l p q e =
      (trees_end v w [] [] k l p q tt tt (append-nil (trees_text names v) ∙ e ∙ sym (append-nil (trees_text others w)))).0

-- `()` begins no tree
none_apart : BeginsNoTree (codes "()")
none_apart = (refl, λ e. omega (arith, e), refl)

module _ (names others : List (List ℕ)) where
  -- where the text of each label is a label, forests with one text are alike
  pub text_alike : (v w : Plain) → EachLabel (NamesLabel names) v → EachLabel (NamesLabel others) w → EachAtom HasRange v → EachAtom HasRange w → text names v ≡ text others w → Alike names others v w
  text_alike nil nil k l p q e = alike_nil
  text_alike nil (elem m b d u) k l p q e =
      absurd (name_apart (name_text others b) (codes "()") _ (NamesLabel-label others b l.0).0 none_apart e)
  text_alike nil (leaf m y u) k l p q e = absurd (literal_apart y (codes "()") _ q.0 none_apart e)
  text_alike (elem n a c t) nil k l p q e =
      absurd (name_apart (name_text names a) (codes "()") _ (NamesLabel-label names a k.0).0 none_apart (sym e))
  text_alike (leaf n x t) nil k l p q e = absurd (literal_apart x (codes "()") _ p.0 none_apart (sym e))
  text_alike (elem n a c t) (elem m b d u) k l p q e =
      trees_alone names others (elem n a c t) (elem m b d u) k l p q e
  text_alike (elem n a c t) (leaf m y u) k l p q e =
      trees_alone names others (elem n a c t) (leaf m y u) k l p q e
  text_alike (leaf n x t) (elem m b d u) k l p q e =
      trees_alone names others (leaf n x t) (elem m b d u) k l p q e
  text_alike (leaf n x t) (leaf m y u) k l p q e =
      trees_alone names others (leaf n x t) (leaf m y u) k l p q e

-- forests over one table that are alike are one
alike_same : (names : List (List ℕ)) → IsTable names → {v w : Plain} → Alike names names v w → EachLabel (NamesLabel names) v → EachLabel (NamesLabel names) w → v ≡ w
alike_same names table alike_nil k l = refl
alike_same names table (alike_elem {a} {b} label c r) k l =
    let found = NamesLabel-found names b l.0 ∙ ap Some (sym label) in
    let same = table.differ a b (name_text names a) (NamesLabel-found names a k.0) found in
    let inside = alike_same names table c k.1 l.1 in
    let rest = alike_same names table r k.2 l.2 in
    (λ i. elem tt (same i) (inside i) (rest i))
alike_same names table (alike_leaf atom r) k l = ap₂ (leaf tt) atom (alike_same names table r k l)

-- where the text of each label is a label, the text of a forest is that of no other
pub text_tells : TextTellsForest
text_tells names table v w k l p q e = alike_same names table (text_alike names names v w k l p q e) k l

-- the text stays where the table grows

pub slice_get-more : (names more : List (List ℕ)) (a : ℕ) → a < length names → slice_get (names ++ more) a ≡ slice_get names a
slice_get-more [] more a l = absurd (omega arith)
slice_get-more (n ∷ names) more zero l = refl
slice_get-more (n ∷ names) more (suc a) l = slice_get-more names more a (omega arith)

-- a label stays one, too
pub NamesLabel-more : (names more : List (List ℕ)) (a : ℕ) → NamesLabel names a → NamesLabel (names ++ more) a
NamesLabel-more names more a l =
    subst (λ o. IsSomeAnd o IsLabel) (sym (slice_get-more names more a (NamesLabel-within names a l))) l

pub labels-more : (names more : List (List ℕ)) (v : Plain) → EachLabel (NamesLabel names) v → EachLabel (NamesLabel (names ++ more)) v
labels-more names more nil l = tt
labels-more names more (elem n a c r) l =
    (NamesLabel-more names more a l.0, labels-more names more c l.1, labels-more names more r l.2)
labels-more names more (leaf n x r) l = labels-more names more r l

-- no text ends in a newline, whatever the names are

-- it is not empty, and its last byte is no newline
record EndsWell (t : List ℕ) : Type 0 where
  before : List ℕ
  last : ℕ
  split : t ≡ before ++ last ∷ []
  differs : last ≢ 10
