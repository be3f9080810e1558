-- What is spelled is read: a reader goes from the beginning of each part to its end, and gives the forest.
use Rattle.std.proofs.Common.{◌≡◌, ℕ, zero, suc, Bool, true, false, ◌==◌, List, [], ◌∷◌, ◌++◌, slice_get, codes, drop, bytes_eq, Option, Some, None, ◌⊎◌, inl, inr, if◌then◌else◌, refl, sym, ap, subst, ◌∙◌, append_assoc}
use Rattle.std.proofs.lemmas.Bool.{false≢true}
use Rattle.std.proofs.lemmas.List.{append-nil}
use Rattle.std.proofs.lemmas.List.Elements.{All-head, All-tail}
use Rattle.std.proofs.lemmas.List.Sums.{AllPass-from_list_all}
use Rattle.std.proofs.lemmas.Slice.Eq.{bytes_eq-Decides}
use Rattle.std.specs.List.{AllPass}
use Rattle.std.specs.Prelude.{ℤ}
use Rattle.flux_atom.specs.declared.atom.Atom.{Atom}
use Rattle.flux_atom.specs.declared.atom.Atom.TheVariants.{Bool as Truth, Text, Int as Number}
use Rattle.flux_atom.specs.declared.text.TextState.TheVariants.{Between}
use Rattle.flux_atom.specs.declared.number.NumberState.{NumberState}
use Rattle.flux_atom.specs.declared.number.NumberState.TheVariants.{Minus, Digits}
use Rattle.flux_atom.specs.NumberSteps.{number_begin, number_from, number_step, read_number}
use Rattle.flux_atom.specs.Names.{continues_name, EndsName, IsName, IsLabel, IsTable}
use Rattle.flux_atom.specs.Literal.{quote}
use Rattle.flux_atom.specs.Space.{is_space, IsSpace}
use Rattle.flux_atom.specs.Spelling.{IsLiteral, AreItems}
use Rattle.flux_atom.specs.TextSteps.{TextStep, on, closes, misfits, TextRead, text_step, no_text, read_on, and_read as and_text, read_text}
use Rattle.flux_trees.specs.Hedge.{Plain, nil, elem, leaf}
use Rattle.flux_trees.specs.Draft.{done, depth, add, begin, end}
use Rattle.flux_trees.proofs.DraftLaws.{depth-add, depth-begin, depth-end, add-nil, add-add, end-begin}
use Rattle.flux_doctext.specs.declared.sign.Sign.{Sign}
use Rattle.flux_doctext.specs.declared.sign.Sign.TheVariants.{Space, Letter, Digit, Quote, Comma, LeftBracket, RightBracket, LeftParen, RightParen, Other}
use Rattle.flux_doctext.specs.Spells.{Part, whole, inside, trees, tree, Spelled, none, some, nothing, something, last, more, element, atom}
use Rattle.flux_doctext.specs.Reading.{sign_of, Shape, content, next, name, label, opened, closed, string, number, behind, Event, learn, enter, push, leave, Step, told, close_step, content_step, tree_step, behind_step, label_step, closed_step, opened_step, named_step, name_step, string_step, begin_step, digit_step, truth_of, step, end_named, end_step, number_of, PlainDraft, draft_after, end_fits}
use Rattle.flux_doctext.proofs.Runs.{depth_after, and_fits, fits, and_read, end_read, read}
use Rattle.flux_atom.proofs.NumberLaws.{literal_reads, no_digit_fits, none_stays}
use Rattle.flux_atom.proofs.TextLaws.{read_items}
use Rattle.flux_doctext.proofs.TextLaws.{EndsTrees}
use Rattle.flux_doctext.proofs.Signs.{space_sign, letter_sign, digit_sign, no_digit, named_sign, not_named, spaces_end, IsNamed}

-- the number of a text that the table holds
pub number_found : (names : List (List ℕ)) (a : ℕ) (t : List ℕ) → slice_get names a ≡ Some t → slice_get names (number_of names t) ≡ Some t
number_found [] a t at = absurd cc
number_found (n ∷ names) a t at = by (bytes_eq t n) refl a at (number_found names)
  where
    later : (i : ℕ) → slice_get (n ∷ names) i ≡ Some t → bytes_eq t n ≡ false → ((a : ℕ) (t : List ℕ) → slice_get names a ≡ Some t → slice_get names (number_of names t) ≡ Some t) → slice_get names (number_of names t) ≡ Some t
    later zero e differs found =
        let same : t ≡ n = cc in
        absurd (false≢true (sym differs ∙ (bytes_eq-Decides t n).1 same))
    later (suc i) e differs found = found i t e

    by : (held : Bool) → bytes_eq t n ≡ held → (i : ℕ) → slice_get (n ∷ names) i ≡ Some t → ((a : ℕ) (t : List ℕ) → slice_get names a ≡ Some t → slice_get names (number_of names t) ≡ Some t) → slice_get (n ∷ names) (if held then 0 else suc (number_of names t)) ≡ Some t
    by true e i there found = ap Some (sym ((bytes_eq-Decides t n).0 e))
    by false e i there found = later i there e found

pub number_is : (names : List (List ℕ)) (a : ℕ) (t : List ℕ) → IsTable names → slice_get names a ≡ Some t → number_of names t ≡ a
number_is names a t table at = table.differ (number_of names t) a t (number_found names a t at) at

bytes_apart : (s t : List ℕ) → (s ≡ t → ⊥) → bytes_eq s t ≡ false
bytes_apart s t differ = by (bytes_eq s t) refl
  where
    by : (held : Bool) → bytes_eq s t ≡ held → held ≡ false
    by true e = absurd (differ ((bytes_eq-Decides s t).0 e))
    by false e = refl

-- a label is no atom
pub label_no_truth : (t : List ℕ) → IsLabel t → truth_of t ≡ None
label_no_truth t l = rw (bytes_apart t (codes "true") l.1, bytes_apart t (codes "false") l.2) refl

-- where a tree is awaited
pub record Awaits (s : Shape) : Type 0 where
  pub space : (n b : ℕ) → sign_of b ≡ Space → step s n b ≡ Some (s, [])
  pub letter : (n b : ℕ) → sign_of b ≡ Letter → step s n b ≡ Some (name (b ∷ []), [])
  pub quoted : (n b : ℕ) → sign_of b ≡ Quote → step s n b ≡ Some (string no_text, [])
  pub digit : (n b : ℕ) → sign_of b ≡ Digit → step s n b ≡ begin_step (number_begin b)

pub awaits_content : Awaits content
awaits_content = record {
  space = λ n b e. ap (content_step n b) e;
  letter = λ n b e. ap (content_step n b) e;
  quoted = λ n b e. ap (content_step n b) e;
  digit = λ n b e. ap (content_step n b) e;
}

pub awaits_next : Awaits next
awaits_next = record {
  space = λ n b e. ap (tree_step next b) e;
  letter = λ n b e. ap (tree_step next b) e;
  quoted = λ n b e. ap (tree_step next b) e;
  digit = λ n b e. ap (tree_step next b) e;
}

-- the depth that events leave
pub depth-draft_after : (names : List (List ℕ)) (es : List Event) (d : PlainDraft) → depth (draft_after names es d) ≡ depth_after es (depth d)
depth-draft_after names [] d = refl
depth-draft_after names (learn text ∷ es) d = depth-draft_after names es d
depth-draft_after names (enter text ∷ es) d =
    depth-draft_after names es (begin d tt (number_of names text)) ∙ ap (depth_after es) (depth-begin d tt (number_of names text))
depth-draft_after names (push x ∷ es) d =
    depth-draft_after names es (add d (leaf tt x nil)) ∙ ap (depth_after es) (depth-add d (leaf tt x nil))
depth-draft_after names (leave ∷ es) d =
    depth-draft_after names es (end d) ∙ ap (depth_after es) (depth-end d)

module _ (names : List (List ℕ)) where
  -- a step by a sign that is known
  stepped : (s : Shape) (d : PlainDraft) (b : ℕ) (bs : List ℕ) (o : Step) → step s (depth d) b ≡ o → read names s d (b ∷ bs) ≡ and_read names o d (λ t e. read names t e bs)
  stepped s d b bs o e = ap (λ o. and_read names o d (λ t e. read names t e bs)) e

  -- white space where it leads nowhere
  read_space : (s : Shape) → ((n b : ℕ) → sign_of b ≡ Space → step s n b ≡ Some (s, [])) → (u rest : List ℕ) (d : PlainDraft) → IsSpace u → read names s d (u ++ rest) ≡ read names s d rest
  read_space s stays [] rest d space = refl
  read_space s stays (b ∷ u) rest d space =
      stepped s d b (u ++ rest) (Some (s, [])) (stays (depth d) b (space_sign b (All-head (λ x. is_space x ≡ true) b u space)))
      ∙ read_space s stays u rest d (All-tail (λ x. is_space x ≡ true) b u space)

  -- the rest of a name
  read_more : (front text rest : List ℕ) (d : PlainDraft) → AllPass continues_name text → read names (name front) d (text ++ rest) ≡ read names (name (front ++ text)) d rest
  read_more front [] rest d all = ap (λ t. read names (name t) d rest) (sym (append-nil front))
  read_more front (b ∷ text) rest d all =
      by (named_sign b (All-head (λ x. continues_name x ≡ true) b text all))
      ∙ read_more (front ++ b ∷ []) text rest d (All-tail (λ x. continues_name x ≡ true) b text all)
      ∙ ap (λ t. read names (name t) d rest) (append_assoc front (b ∷ []) text)
    where
      by : (sign_of b ≡ Letter) ⊎ (sign_of b ≡ Digit) → read names (name front) d (b ∷ (text ++ rest)) ≡ read names (name (front ++ b ∷ [])) d (text ++ rest)
      by (inl e) = stepped (name front) d b (text ++ rest) (Some (name (front ++ b ∷ []), [])) (ap (name_step front (depth d) b) e)
      by (inr e) = stepped (name front) d b (text ++ rest) (Some (name (front ++ b ∷ []), [])) (ap (name_step front (depth d) b) e)

  -- a name
  read_name : (s : Shape) → Awaits s → (text rest : List ℕ) (d : PlainDraft) → IsName text → read names s d (text ++ rest) ≡ read names (name text) d rest
  read_name s awaits [] rest d is = absurd is
  read_name s awaits (b ∷ text) rest d is =
      stepped s d b (text ++ rest) (Some (name (b ∷ []), [])) (awaits.letter (depth d) b (letter_sign b is.0)) ∙ read_more (b ∷ []) text rest d is.1

  -- a name that is an atom ends
  ended_by : (text : List ℕ) (x : Atom) (d : PlainDraft) (b : ℕ) (bs : List ℕ) (s : Sign) → truth_of text ≡ Some x → (s ≡ Letter → ⊥) → (s ≡ Digit → ⊥) → and_read names (name_step text (depth d) b s) d (λ t e. read names t e bs) ≡ and_read names (behind_step (depth (add d (leaf tt x nil))) s) (add d (leaf tt x nil)) (λ t e. read names t e bs)
  ended_by text x d b bs Letter is no_letter no_digit = absurd (no_letter refl)
  ended_by text x d b bs Digit is no_letter no_digit = absurd (no_digit refl)
  ended_by text x d b bs Space is no_letter no_digit = rw is refl
  ended_by text x d b bs Comma is no_letter no_digit = rw is refl
  ended_by text x d b bs RightBracket is no_letter no_digit =
      rw (is, depth-add d (leaf tt x nil)) (by (depth d))
    where
      by : (n : ℕ) → and_read names (told (push x) (close_step n)) d (λ t e. read names t e bs) ≡ and_read names (close_step n) (add d (leaf tt x nil)) (λ t e. read names t e bs)
      by zero = refl
      by (suc n) = refl
  ended_by text x d b bs LeftBracket is no_letter no_digit = rw is refl
  ended_by text x d b bs LeftParen is no_letter no_digit = rw is refl
  ended_by text x d b bs RightParen is no_letter no_digit = rw is refl
  ended_by text x d b bs Quote is no_letter no_digit = rw is refl
  ended_by text x d b bs Other is no_letter no_digit = rw is refl

  pub read_truth : (text : List ℕ) (x : Atom) (d : PlainDraft) (rest : List ℕ) → truth_of text ≡ Some x → EndsName rest → read names (name text) d rest ≡ read names behind (add d (leaf tt x nil)) rest
  read_truth text x d [] is ends = ap (λ o. end_read names (end_named o) d) is
  read_truth text x d (b ∷ bs) is ends =
      ended_by text x d b bs (sign_of b) is (λ e. not_named b ends (subst IsNamed (sym e) tt)) (λ e. not_named b ends (subst IsNamed (sym e) tt))

  -- a label, white space and the bracket
  read_label : (text t rest : List ℕ) (d : PlainDraft) → IsLabel text → IsSpace t → read names (name text) d (t ++ 91 ∷ rest) ≡ read names content (begin d tt (number_of names text)) rest
  read_label text [] rest d is space = rw (label_no_truth text is) refl
  read_label text (b ∷ t) rest d is space =
      stepped (name text) d b (t ++ 91 ∷ rest) (Some (label text, learn text ∷ [])) (ap (name_step text (depth d) b) (space_sign b (All-head (λ x. is_space x ≡ true) b t space)) ∙ ap (λ o. named_step text o (depth d) Space) (label_no_truth text is))
      ∙ read_space (label text) (λ n c e. ap (label_step text) e) t (91 ∷ rest) d (All-tail (λ x. is_space x ≡ true) b t space)

  -- the items of a string
  read_string : (r s : TextRead) (items rest : List ℕ) (d : PlainDraft) → read_text r items ≡ Some s → read names (string r) d (items ++ rest) ≡ read names (string s) d rest
  read_string r s [] rest d is = let same : r ≡ s = cc in ap (λ q. read names (string q) d rest) same
  read_string r s (b ∷ items) rest d is =
      by (text_step r.0 b) refl (λ q e. read_string q s items rest d e)
    where
      by : (o : TextStep) → text_step r.0 b ≡ o → ((q : TextRead) → read_text q items ≡ Some s → read names (string q) d (items ++ rest) ≡ read names (string s) d rest) → read names (string r) d (b ∷ (items ++ rest)) ≡ read names (string s) d rest
      by (on state added) e further =
          stepped (string r) d b (items ++ rest) (Some (string (state, r.1 ++ added), [])) (ap (string_step r) e)
          ∙ further (state, r.1 ++ added) (sym (ap (λ o. and_text (read_on o r.1) (λ q. read_text q items)) e) ∙ is)
      by closes e further =
          let wrong : None ≡ Some s = sym (ap (λ o. and_text (read_on o r.1) (λ q. read_text q items)) e) ∙ is in
          absurd cc
      by misfits e further =
          let wrong : None ≡ Some s = sym (ap (λ o. and_text (read_on o r.1) (λ q. read_text q items)) e) ∙ is in
          absurd cc

  -- the digits of a number
  read_digits : (at to : NumberState) (digits rest : List ℕ) (d : PlainDraft) → number_from (Some at) digits ≡ Some to → read names (number at) d (digits ++ rest) ≡ read names (number to) d rest
  read_digits at to [] rest d is = let same : at ≡ to = cc in ap (λ s. read names (number s) d rest) same
  read_digits at to (b ∷ digits) rest d is =
      by (number_step at b) refl (λ s e. read_digits s to digits rest d e)
    where
      by : (o : Option NumberState) → number_step at b ≡ o → ((s : NumberState) → number_from (Some s) digits ≡ Some to → read names (number s) d (digits ++ rest) ≡ read names (number to) d rest) → read names (number at) d (b ∷ (digits ++ rest)) ≡ read names (number to) d rest
      by None e further =
          let wrong : ◌≡◌ {A = Option NumberState} None (Some to) = sym (none_stays digits) ∙ sym (ap (λ o. number_from o digits) e) ∙ is in
          absurd cc
      by (Some s) e further =
          stepped (number at) d b (digits ++ rest) (Some (number s, [])) (ap (λ o. digit_step at o (depth d) (sign_of b)) e)
          ∙ further s (sym (ap (λ o. number_from o digits) e) ∙ is)

  push_read : (x : Atom) (o : Step) (d : PlainDraft) (bs : List ℕ) → and_read names (told (push x) o) d (λ t e. read names t e bs) ≡ and_read names o (add d (leaf tt x nil)) (λ t e. read names t e bs)
  push_read x None d bs = refl
  push_read x (Some o) d bs = refl

  -- a number ends
  read_numbered : (z : ℤ) (d : PlainDraft) (rest : List ℕ) → EndsName rest → read names (number (Digits z)) d rest ≡ read names behind (add d (leaf tt (Number z) nil)) rest
  read_numbered z d [] ends = refl
  read_numbered z d (b ∷ bs) ends =
      stepped (number (Digits z)) d b bs (told (push (Number z)) (behind_step (depth d) (sign_of b))) (ap (λ o. digit_step (Digits z) o (depth d) (sign_of b)) (no_digit_fits (Digits z) b (no_digit b ends)))
      ∙ push_read (Number z) (behind_step (depth d) (sign_of b)) d bs
      ∙ ap (λ n. and_read names (behind_step n (sign_of b)) (add d (leaf tt (Number z) nil)) (λ t e. read names t e bs)) (sym (depth-add d (leaf tt (Number z) nil)))

  -- a number
  read_signed : (s : Shape) → Awaits s → (bytes : List ℕ) (z : ℤ) (d : PlainDraft) (rest : List ℕ) → read_number bytes ≡ Some (Digits z) → EndsName rest → read names s d (bytes ++ rest) ≡ read names behind (add d (leaf tt (Number z) nil)) rest
  read_signed s awaits [] z d rest is ends = absurd cc
  read_signed s awaits (b ∷ digits) z d rest is ends = by (number_begin b) refl
    where
      by : (o : Option NumberState) → number_begin b ≡ o → read names s d (b ∷ (digits ++ rest)) ≡ read names behind (add d (leaf tt (Number z) nil)) rest
      by None e =
          let wrong : ◌≡◌ {A = Option NumberState} None (Some (Digits z)) = sym (none_stays digits) ∙ sym (ap (λ o. number_from o digits) e) ∙ is in
          absurd cc
      by (Some at) e =
          stepped s d b (digits ++ rest) (Some (number at, [])) (awaits.digit (depth d) b (digit_sign b at e) ∙ ap begin_step e)
          ∙ read_digits at (Digits z) digits rest d (sym (ap (λ o. number_from o digits) e) ∙ is)
          ∙ read_numbered z d rest ends

  -- what each part of a document does
  abbrev IsReadTo : Part → List ℕ → Plain → Type 0
  IsReadTo tree bytes v = (s : Shape) → Awaits s → (d : PlainDraft) (rest : List ℕ) → EndsName rest → read names s d (bytes ++ rest) ≡ read names behind (add d v) rest
  IsReadTo trees bytes v = (s : Shape) → Awaits s → (d : PlainDraft) (rest : List ℕ) → EndsName rest → read names s d (bytes ++ rest) ≡ read names behind (add d v) rest
  IsReadTo whole bytes v = (d : PlainDraft) (rest : List ℕ) → EndsTrees rest → read names content d (bytes ++ rest) ≡ read names behind (add d v) rest
  IsReadTo inside bytes v = (d : PlainDraft) (rest : List ℕ) → read names content d (bytes ++ 93 ∷ rest) ≡ read names behind (add d v) (93 ∷ rest)

  trees_name : (rest : List ℕ) → EndsTrees rest → EndsName rest
  trees_name [] ends = tt
  trees_name (b ∷ rest) ends = ap continues_name ends

  -- an end behind `()` is as behind a tree
  closed_behind : (d : PlainDraft) (rest : List ℕ) → EndsTrees rest → read names closed d rest ≡ read names behind d rest
  closed_behind d [] ends = refl
  closed_behind d (b ∷ rest) ends =
      subst (λ n. read names closed d (n ∷ rest) ≡ read names behind d (n ∷ rest)) (sym ends) refl

  read_none : (d : PlainDraft) (s t u rest : List ℕ) → IsSpace s → IsSpace t → IsSpace u → EndsTrees rest → read names content d ((s ++ (codes "(" ++ (t ++ (codes ")" ++ u)))) ++ rest) ≡ read names behind (add d nil) rest
  read_none d s t u rest s_space t_space u_space ends =
      ap (read names content d) (regroup s t u rest)
      ∙ read_space content awaits_content.space s _ d s_space
      ∙ read_space opened (λ n b e. ap opened_step e) t (41 ∷ (u ++ rest)) d t_space
      ∙ read_space closed (λ n b e. ap (closed_step n) e) u rest d u_space
      ∙ closed_behind d rest ends
      ∙ ap (λ e. read names behind e rest) (sym (add-nil d))
    where
      regroup : (s t u rest : List ℕ) → (s ++ (codes "(" ++ (t ++ (codes ")" ++ u)))) ++ rest ≡ s ++ 40 ∷ (t ++ 41 ∷ (u ++ rest))
      regroup s t u rest = simp append_assoc

  read_nothing : (d : PlainDraft) (u rest : List ℕ) → IsSpace u → read names content d (u ++ 93 ∷ rest) ≡ read names behind (add d nil) (93 ∷ rest)
  read_nothing d u rest space =
      read_space content awaits_content.space u (93 ∷ rest) d space
      ∙ ap (λ e. read names behind e (93 ∷ rest)) (sym (add-nil d))

  -- the end of an element
  read_end : (d : PlainDraft) (a : ℕ) (v : Plain) (rest : List ℕ) → read names behind (add (begin d tt a) v) (93 ∷ rest) ≡ read names behind (add d (elem tt a v nil)) rest
  read_end d a v rest =
      ap (λ n. and_read names (close_step n) (add (begin d tt a) v) (λ t e. read names t e rest)) (depth-add (begin d tt a) v ∙ depth-begin d tt a)
      ∙ ap (λ e. read names behind e rest) (end-begin d tt a v)

  read_literal : (s : Shape) → Awaits s → (bytes : List ℕ) (x : Atom) → IsLiteral bytes x → (d : PlainDraft) (rest : List ℕ) → EndsName rest → read names s d (bytes ++ rest) ≡ read names behind (add d (leaf tt x nil)) rest
  read_literal s awaits bytes (Truth true) is d rest ends =
      ap (λ l. read names s d (l ++ rest)) is
      ∙ read_name s awaits (codes "true") rest d (refl, AllPass-from_list_all continues_name (drop 1 (codes "true")) refl)
      ∙ read_truth (codes "true") (Truth true) d rest refl ends
  read_literal s awaits bytes (Truth false) is d rest ends =
      ap (λ l. read names s d (l ++ rest)) is
      ∙ read_name s awaits (codes "false") rest d (refl, AllPass-from_list_all continues_name (drop 1 (codes "false")) refl)
      ∙ read_truth (codes "false") (Truth false) d rest refl ends
  read_literal s awaits bytes (Number z) is d rest ends =
      read_signed s awaits bytes z d rest (literal_reads bytes z is) ends
  read_literal s awaits bytes (Text text) is d rest ends =
      ap (λ l. read names s d (l ++ rest)) is.2
      ∙ ap (λ l. read names s d (quote ∷ l)) (append_assoc is.0 (quote ∷ []) rest)
      ∙ stepped s d quote (is.0 ++ quote ∷ rest) _ (awaits.quoted (depth d) quote refl)
      ∙ read_string no_text (Between, text) is.0 (quote ∷ rest) d (items_text is.0 text is.1)
    where
      items_text : (items text : List ℕ) → AreItems items text → read_text no_text items ≡ Some (Between, text)
      items_text items text are = read_items items text [] are

  read_part : {part : Part} {bytes : List ℕ} {v : Plain} → IsTable names → Spelled names part bytes v → IsReadTo part bytes v
  read_part table (none {bytes} s t u s_space t_space u_space split) = λ d rest ends.
      ap (λ l. read names content d (l ++ rest)) (sym split) ∙ read_none d s t u rest s_space t_space u_space ends
  read_part table (some x) = λ d rest ends.
      read_part table x content awaits_content d rest (trees_name rest ends)
  read_part table (nothing {bytes} space) = λ d rest. read_nothing d bytes rest space
  read_part table (something x) = λ d rest. read_part table x d (93 ∷ rest) refl
  read_part table (last x) = read_part table x
  read_part table (more {bytes} {z} front back v w x xs split joined) = λ s awaits d rest ends.
      ap (λ l. read names s d (l ++ rest)) (sym split)
      ∙ ap (read names s d) (append_assoc front (44 ∷ back) rest)
      ∙ read_part table x s awaits d (44 ∷ (back ++ rest)) refl
      ∙ read_part table xs next awaits_next (add d v) rest ends
      ∙ ap (λ e. read names behind e rest) (add-add d v w ∙ ap (add d) joined)
  read_part table (element {bytes} s text t inner u a {v} s_space t_space u_space is at x split) = λ q awaits d rest ends.
      let number = number_is names a text table at in
      ap (λ l. read names q d (l ++ rest)) (sym split)
      ∙ ap (read names q d) (regroup s text t inner u rest)
      ∙ read_space q awaits.space s _ d s_space
      ∙ read_name q awaits text _ d is.0
      ∙ read_label text t _ d is t_space
      ∙ ap (λ n. read names content (begin d tt n) (inner ++ 93 ∷ (u ++ rest))) number
      ∙ read_part table x (begin d tt a) (u ++ rest)
      ∙ read_end d a v (u ++ rest)
      ∙ read_space behind (λ n b e. ap (behind_step n) e) u rest (add d (elem tt a v nil)) u_space
    where
      regroup : (s text t inner u rest : List ℕ) → (s ++ (text ++ (t ++ (codes "[" ++ (inner ++ (codes "]" ++ u)))))) ++ rest ≡ s ++ (text ++ (t ++ 91 ∷ (inner ++ 93 ∷ (u ++ rest))))
      regroup s text t inner u rest = simp append_assoc
  read_part table (atom {bytes} s spelled u x s_space u_space is split) = λ q awaits d rest ends.
      ap (λ l. read names q d (l ++ rest)) (sym split)
      ∙ ap (read names q d) (regroup s spelled u rest)
      ∙ read_space q awaits.space s _ d s_space
      ∙ read_literal q awaits spelled x is d (u ++ rest) (spaces_end u rest u_space ends)
      ∙ read_space behind (λ n b e. ap (behind_step n) e) u rest (add d (leaf tt x nil)) u_space
    where
      regroup : (s spelled u rest : List ℕ) → (s ++ (spelled ++ u)) ++ rest ≡ s ++ (spelled ++ (u ++ rest))
      regroup s spelled u rest = simp append_assoc

  -- a text that spells a forest gives it
  pub read_spelled : (bytes : List ℕ) (v : Plain) → IsTable names → Spelled names whole bytes v → read names content (done nil) bytes ≡ Some (done v)
  read_spelled bytes v table x =
      ap (read names content (done nil)) (sym (append-nil bytes)) ∙ read_part table x (done nil) [] tt

  end_depth : (d : PlainDraft) (v : Plain) → Some d ≡ Some (done v) → (depth d == 0) ≡ true
  end_depth d v is = let same : d ≡ done v = cc in ap (λ e. depth e == 0) same

  end_taken : (s : Shape) (d : PlainDraft) (v : Plain) → end_read names (end_step s) d ≡ Some (done v) → end_fits (end_step s) (depth d) ≡ true
  end_taken content d v is = absurd cc
  end_taken next d v is = absurd cc
  end_taken (label text) d v is = absurd cc
  end_taken opened d v is = absurd cc
  end_taken (string r) d v is = absurd cc
  end_taken closed d v is = end_depth d v is
  end_taken behind d v is = end_depth d v is
  end_taken (number Minus) d v is = absurd cc
  end_taken (number (Digits z)) d v is =
      ap (λ n. n == 0) (sym (depth-add d (leaf tt (Number z) nil))) ∙ end_depth (add d (leaf tt (Number z) nil)) v is
  end_taken (name text) d v is = by (truth_of text) is
    where
      by : (o : Option Atom) → end_read names (end_named o) d ≡ Some (done v) → end_fits (end_named o) (depth d) ≡ true
      by None e = absurd cc
      by (Some x) e = ap (λ n. n == 0) (sym (depth-add d (leaf tt x nil))) ∙ end_depth (add d (leaf tt x nil)) v e

  -- and fits
  read_fits : (bytes : List ℕ) (s : Shape) (d : PlainDraft) (v : Plain) → read names s d bytes ≡ Some (done v) → fits s (depth d) bytes ≡ true
  read_fits [] s d v is = end_taken s d v is
  read_fits (b ∷ bs) s d v is =
      by (step s (depth d) b) is (λ t e further. read_fits bs t e v further)
    where
      by : (o : Step) → and_read names o d (λ t e. read names t e bs) ≡ Some (done v) → ((t : Shape) (e : PlainDraft) → read names t e bs ≡ Some (done v) → fits t (depth e) bs ≡ true) → and_fits o (depth d) (λ t m. fits t m bs) ≡ true
      by None e further = absurd cc
      by (Some o) e further =
          ap (λ n. fits o.0 n bs) (sym (depth-draft_after names o.1 d)) ∙ further o.0 (draft_after names o.1 d) e

  -- a text that spells a forest fits
  pub spelled_fits : (bytes : List ℕ) (v : Plain) → IsTable names → Spelled names whole bytes v → fits content 0 bytes ≡ true
  spelled_fits bytes v table x =
      read_fits bytes content (done nil) v (read_spelled bytes v table x)

  -- a text spells one forest at most
  pub spelled_once : (bytes : List ℕ) (v w : Plain) → IsTable names → Spelled names whole bytes v → Spelled names whole bytes w → v ≡ w
  spelled_once bytes v w table x y =
      let same : Some (done v) ≡ Some (done w) = sym (read_spelled bytes v table x) ∙ read_spelled bytes w table y in
      cc
