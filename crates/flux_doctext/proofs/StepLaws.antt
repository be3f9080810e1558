-- A byte that fits leaves what is read well read.
use Rattle.std.proofs.Common.{◌≡◌, ℕ, zero, suc, Bool, true, false, List, [], ◌∷◌, ◌++◌, codes, bytes_eq, Option, Some, None, if◌then◌else◌, refl, sym, ap, subst, ◌∙◌, append_assoc, arith}
use Rattle.std.specs.Prelude.{ℤ}
use Rattle.std.proofs.lemmas.Bool.{false≢true}
use Rattle.std.proofs.lemmas.List.{append-nil}
use Rattle.std.proofs.lemmas.List.Elements.{All-push, All-nil}
use Rattle.std.proofs.lemmas.Slice.Eq.{bytes_eq-Decides}
use Rattle.flux_atom.specs.declared.atom.Atom.{Atom}
use Rattle.flux_atom.specs.declared.atom.Atom.TheVariants.{Bool as Truth, Text, Int as Number}
use Rattle.flux_atom.specs.Names.{continues_name, IsName, with_text}
use Rattle.flux_atom.specs.declared.number.NumberState.{NumberState}
use Rattle.flux_atom.specs.declared.number.NumberState.TheVariants.{Minus, Digits}
use Rattle.flux_atom.specs.Literal.{quote}
use Rattle.flux_atom.specs.NumberSteps.{number_begin, number_step, read_number}
use Rattle.flux_atom.specs.Space.{is_space}
use Rattle.flux_atom.specs.Spelling.{IsLiteral}
use Rattle.flux_atom.specs.TextSteps.{TextStep, on, closes, misfits, TextRead, text_step, no_text, read_on, and_read as and_text}
use Rattle.flux_atom.proofs.NumberLaws.{read_push, says}
use Rattle.flux_atom.proofs.TextLaws.{read_then, items_read, closes_at_quote}
use Rattle.flux_trees.specs.Hedge.{Plain, nil, leaf, join}
use Rattle.flux_trees.specs.Draft.{depth, add, end}
use Rattle.flux_trees.proofs.DraftLaws.{depth-add}
use Rattle.flux_doctext.specs.declared.sign.Sign.{Sign}
use Rattle.flux_doctext.specs.declared.sign.Sign.TheVariants.{Space, Letter, Digit, Quote, Comma, LeftBracket, RightBracket, LeftParen, RightParen, Other}
use Rattle.flux_doctext.specs.Spells.{inside, trees, Spelled, none, some, nothing, something, atom}
use Rattle.flux_doctext.specs.Reading.{sign_of, Shape, content, next, name, label, opened, closed, string, number, behind, learn, push, Step, told, close_step, content_step, tree_step, behind_step, label_step, closed_step, opened_step, named_step, name_step, string_step, begin_step, numbered_step, digit_step, truth_of, step, number_of, PlainDraft, draft_after, names_after}
use Rattle.flux_doctext.proofs.Signs.{IsSignOf, sign_is, begins-continues}
use Rattle.flux_doctext.proofs.SpelledLaws.{no_space, one_space, trees_space, whole_space}
use Rattle.flux_doctext.proofs.WrittenLaws.{written-with_text, with_text-number, lifted, lifted_add, lifted_begin, lifted_end, tree_behind}
use Rattle.flux_doctext.proofs.Written.{first, further, Begun, IsLabelled, IsQuoted, IsOpening, Core, Written}

-- what is read where a reader is so
abbrev pub IsRead : List (List ℕ) → Shape → List ℕ → PlainDraft → Type 0
IsRead names s bytes d = Written names (Core names s) bytes d

-- the same once a step is taken
abbrev pub IsKept : List (List ℕ) → PlainDraft → List ℕ → Step → Type 0
IsKept names d bytes None = Unit {0}
IsKept names d bytes (Some o) = IsRead (names_after o.1 names) o.0 bytes (draft_after (names_after o.1 names) o.1 d)

pub begun_more : (names : List (List ℕ)) (P Q : List ℕ → Type 0) (m : List ℕ) → ((t : List ℕ) → P t → Q (t ++ m)) → (x : List ℕ) (h : Plain) → Begun names P x h → Begun names Q (x ++ m) h
begun_more names P Q m grown x h i = record {
  front = i.front;
  spaces = i.spaces;
  token = i.token ++ m;
  ahead = i.ahead;
  is_space = i.is_space;
  is_token = grown i.token i.is_token;
  split = regroup i.front i.spaces i.token ∙ ap (λ l. l ++ m) i.split;
}
  where
    regroup : (front spaces token : List ℕ) → front ++ (spaces ++ (token ++ m)) ≡ (front ++ (spaces ++ token)) ++ m
    regroup front spaces token = simp append_assoc

begun_space : (names : List (List ℕ)) (b : ℕ) → is_space b ≡ true → (x : List ℕ) (h : Plain) → Begun names (λ t. t ≡ []) x h → Begun names (λ t. t ≡ []) (x ++ b ∷ []) h
begun_space names b is x h i = record {
  front = i.front;
  spaces = i.spaces ++ b ∷ [];
  token = [];
  ahead = i.ahead;
  is_space = one_space i.spaces b i.is_space is;
  is_token = refl;
  split = regroup i.front i.spaces ∙ ap (λ t. (i.front ++ (i.spaces ++ t)) ++ b ∷ []) (sym i.is_token) ∙ ap (λ l. l ++ b ∷ []) i.split;
}
  where
    regroup : (front spaces : List ℕ) → front ++ ((spaces ++ b ∷ []) ++ []) ≡ (front ++ (spaces ++ [])) ++ b ∷ []
    regroup front spaces = simp (append_assoc, append-nil)

content_next : (names : List (List ℕ)) (x : List ℕ) (h : Plain) → Core names content x h → Core names next x h
content_next names x h c = record {
  front = [];
  spaces = x;
  token = [];
  ahead = first refl c.1;
  is_space = c.0;
  is_token = refl;
  split = append-nil x;
}

-- the token is a literal
pub literal_behind : (names : List (List ℕ)) (atom : Atom) (P : List ℕ → Type 0) → ((t : List ℕ) → P t → IsLiteral t atom) → (x : List ℕ) (h : Plain) → Begun names P x h → Spelled names trees x (join h (leaf tt atom nil))
literal_behind names y P is x h i =
    subst (λ l. Spelled names trees l (join h (leaf tt y nil))) i.split (tree_behind names i.ahead (atom i.spaces i.token [] y i.is_space no_space (is i.token i.is_token) (ap (λ l. i.spaces ++ l) (append-nil i.token))))

pub truth_literal : (text : List ℕ) (x : Atom) → truth_of text ≡ Some x → IsLiteral text x
truth_literal text x = by (bytes_eq text (codes "true")) (bytes_eq text (codes "false")) refl refl
  where
    by : (p q : Bool) → bytes_eq text (codes "true") ≡ p → bytes_eq text (codes "false") ≡ q → (if p then Some (Truth true) else if q then Some (Truth false) else None) ≡ Some x → IsLiteral text x
    by true q e f is = let same : Truth true ≡ x = cc in subst (IsLiteral text) same ((bytes_eq-Decides text (codes "true")).0 e)
    by false true e f is = let same : Truth false ≡ x = cc in subst (IsLiteral text) same ((bytes_eq-Decides text (codes "false")).0 f)
    by false false e f is = absurd cc

pub no_truth : (text : List ℕ) → truth_of text ≡ None → (text ≡ codes "true" → ⊥) × (text ≡ codes "false" → ⊥)
no_truth text = by (bytes_eq text (codes "true")) (bytes_eq text (codes "false")) refl refl
  where
    by : (p q : Bool) → bytes_eq text (codes "true") ≡ p → bytes_eq text (codes "false") ≡ q → (if p then Some (Truth true) else if q then Some (Truth false) else None) ≡ None → (text ≡ codes "true" → ⊥) × (text ≡ codes "false" → ⊥)
    by true q e f is = absurd cc
    by false true e f is = absurd cc
    by false false e f is = (λ s. false≢true (sym e ∙ (bytes_eq-Decides text (codes "true")).1 s), λ s. false≢true (sym f ∙ (bytes_eq-Decides text (codes "false")).1 s))

-- a name that is an atom is a tree
pub named_behind : (names : List (List ℕ)) (text : List ℕ) (x : Atom) (bytes : List ℕ) (d : PlainDraft) → truth_of text ≡ Some x → IsRead names (name text) bytes d → IsRead names behind bytes (add d (leaf tt x nil))
named_behind names text x bytes d is w =
    subst (λ l. IsRead names behind l (add d (leaf tt x nil))) (append-nil bytes) (lifted_add names (Core names (name text)) (Core names behind) [] (leaf tt x nil) (λ y h c. subst (λ l. Spelled names trees l (join h (leaf tt x nil))) (sym (append-nil y)) (literal_behind names x (λ t. (t ≡ text) × IsName text) (λ t p. subst (λ l. IsLiteral l x) (sym p.0) (truth_literal text x is)) y h c)) bytes d w)

-- and so is a number
pub numbered_behind : (names : List (List ℕ)) (z : ℤ) (bytes : List ℕ) (d : PlainDraft) → IsRead names (number (Digits z)) bytes d → IsRead names behind bytes (add d (leaf tt (Number z) nil))
numbered_behind names z bytes d w =
    subst (λ l. IsRead names behind l (add d (leaf tt (Number z) nil))) (append-nil bytes) (lifted_add names (Core names (number (Digits z))) (Core names behind) [] (leaf tt (Number z) nil) (λ y h c. subst (λ l. Spelled names trees l (join h (leaf tt (Number z) nil))) (sym (append-nil y)) (literal_behind names (Number z) (λ t. read_number t ≡ Some (Digits z)) (λ t e. says t (Digits z) e) y h c)) bytes d w)

-- another is a label, which the table is shown
pub named_label : (names : List (List ℕ)) (text : List ℕ) (bytes : List ℕ) (d : PlainDraft) → truth_of text ≡ None → IsRead names (name text) bytes d → IsRead (with_text names text) (label text) bytes d
named_label names text bytes d is w =
    let new = with_text names text in
    subst (λ l. IsRead new (label text) l d) (append-nil bytes) (lifted new (Core new (name text)) (Core new (label text)) [] (λ y h c. begun_more new (λ t. (t ≡ text) × IsName text) (IsLabelled new text) [] labelled y h c) bytes d (written-with_text names text (name text) bytes d w))
  where
    labelled : (t : List ℕ) → (t ≡ text) × IsName text → IsLabelled (with_text names text) text (t ++ [])
    labelled t p = record {
      spaces = [];
      is_space = no_space;
      is_label = (p.1, (no_truth text is).0, (no_truth text is).1);
      held = with_text-number names text;
      token_is = ap (λ l. l ++ []) p.0;
    }

module _ (names : List (List ℕ)) (d : PlainDraft) (bytes : List ℕ) (b : ℕ) where
  -- the end of an element
  close_kept : (s : Shape) → b ≡ 93 → ((x : List ℕ) (h : Plain) → Core names s x h → Spelled names inside x h) → IsRead names s bytes d → IsKept names d (bytes ++ b ∷ []) (close_step (depth d))
  close_kept s is f w = by (depth d) refl
    where
      by : (n : ℕ) → depth d ≡ n → IsKept names d (bytes ++ b ∷ []) (close_step n)
      by zero e = tt
      by (suc n) e =
          subst (λ c. IsRead names behind (bytes ++ c ∷ []) (end d)) (sym is) (lifted_end names (Core names s) f bytes d (omega arith) w)

  tree_kept : (stay : Shape) → ((x : List ℕ) (h : Plain) → Core names stay x h → Core names next x h) → (is_space b ≡ true → (x : List ℕ) (h : Plain) → Core names stay x h → Core names stay (x ++ b ∷ []) h) → IsRead names stay bytes d → (s : Sign) → IsSignOf b s → IsKept names d (bytes ++ b ∷ []) (tree_step stay b s)
  tree_kept stay to_next to_stay w Space is =
      lifted names (Core names stay) (Core names stay) (b ∷ []) (to_stay is) bytes d w
  tree_kept stay to_next to_stay w Quote is =
      lifted names (Core names stay) (Core names (string no_text)) (b ∷ []) (λ x h c. begun_more names (λ t. t ≡ []) (IsQuoted no_text) (b ∷ []) (λ t e. record { items = []; are = refl; token_is = ap (λ l. l ++ b ∷ []) e ∙ ap (λ c. c ∷ []) is }) x h (to_next x h c)) bytes d w
  tree_kept stay to_next to_stay w Letter is =
      lifted names (Core names stay) (Core names (name (b ∷ []))) (b ∷ []) (λ x h c. begun_more names (λ t. t ≡ []) (λ t. (t ≡ b ∷ []) × IsName (b ∷ [])) (b ∷ []) (λ t e. (ap (λ l. l ++ b ∷ []) e, (is, All-nil (λ c. continues_name c ≡ true)))) x h (to_next x h c)) bytes d w
  tree_kept stay to_next to_stay w Comma is = tt
  tree_kept stay to_next to_stay w LeftBracket is = tt
  tree_kept stay to_next to_stay w RightBracket is = tt
  tree_kept stay to_next to_stay w LeftParen is = tt
  tree_kept stay to_next to_stay w RightParen is = tt
  tree_kept stay to_next to_stay w Digit is = begun (number_begin b) refl
    where
      begun : (o : Option NumberState) → number_begin b ≡ o → IsKept names d (bytes ++ b ∷ []) (begin_step o)
      begun None e = tt
      begun (Some at) e =
          lifted names (Core names stay) (Core names (number at)) (b ∷ []) (λ x h c. begun_more names (λ t. t ≡ []) (λ t. read_number t ≡ Some at) (b ∷ []) (λ t nothing_yet. ap (λ l. read_number (l ++ b ∷ [])) nothing_yet ∙ e) x h (to_next x h c)) bytes d w
  tree_kept stay to_next to_stay w Other is = tt

  empty_inside : (x : List ℕ) (h : Plain) → Core names content x h → Spelled names inside x h
  empty_inside x h c = subst (Spelled names inside x) (sym c.1) (nothing c.0)

  content_space : is_space b ≡ true → (x : List ℕ) (h : Plain) → Core names content x h → Core names content (x ++ b ∷ []) h
  content_space is x h c = (one_space x b c.0 is, c.1)

  content_kept : IsRead names content bytes d → (s : Sign) → IsSignOf b s → IsKept names d (bytes ++ b ∷ []) (content_step (depth d) b s)
  content_kept w RightBracket is = close_kept content is empty_inside w
  content_kept w LeftParen is =
      lifted names (Core names content) (Core names opened) (b ∷ []) (λ x h c. (record { before = x; spaces = []; before_space = c.0; is_space = no_space; split = ap (λ e. x ++ e ∷ []) (sym is) }, c.1)) bytes d w
  content_kept w Space is = tree_kept content (content_next names) content_space w Space is
  content_kept w Quote is = tree_kept content (content_next names) content_space w Quote is
  content_kept w Letter is = tree_kept content (content_next names) content_space w Letter is
  content_kept w Comma is = tt
  content_kept w LeftBracket is = tt
  content_kept w RightParen is = tt
  content_kept w Digit is = tree_kept content (content_next names) content_space w Digit is
  content_kept w Other is = tt

  opened_kept : IsRead names opened bytes d → (s : Sign) → IsSignOf b s → IsKept names d (bytes ++ b ∷ []) (opened_step s)
  opened_kept w Space is =
      lifted names (Core names opened) (Core names opened) (b ∷ []) (λ x h c. (record { before = c.0.before; spaces = c.0.spaces ++ b ∷ []; before_space = c.0.before_space; is_space = one_space c.0.spaces b c.0.is_space is; split = sym (append_assoc c.0.before (40 ∷ c.0.spaces) (b ∷ [])) ∙ ap (λ l. l ++ b ∷ []) c.0.split }, c.1)) bytes d w
  opened_kept w RightParen is =
      lifted names (Core names opened) (Core names closed) (b ∷ []) (λ x h c. (none c.0.before c.0.spaces [] c.0.before_space c.0.is_space no_space (sym (append_assoc c.0.before (40 ∷ c.0.spaces) (41 ∷ [])) ∙ ap (λ l. l ++ 41 ∷ []) c.0.split ∙ ap (λ e. x ++ e ∷ []) (sym is)), c.1)) bytes d w
  opened_kept w LeftParen is = tt
  opened_kept w RightBracket is = tt
  opened_kept w Quote is = tt
  opened_kept w Letter is = tt
  opened_kept w Comma is = tt
  opened_kept w LeftBracket is = tt
  opened_kept w Digit is = tt
  opened_kept w Other is = tt

  closed_kept : IsRead names closed bytes d → (s : Sign) → IsSignOf b s → IsKept names d (bytes ++ b ∷ []) (closed_step (depth d) s)
  closed_kept w Space is =
      lifted names (Core names closed) (Core names closed) (b ∷ []) (λ x h c. (whole_space b is c.0, c.1)) bytes d w
  closed_kept w RightBracket is =
      close_kept closed is (λ x h c. subst (Spelled names inside x) (sym c.1) (something c.0)) w
  closed_kept w LeftParen is = tt
  closed_kept w RightParen is = tt
  closed_kept w Quote is = tt
  closed_kept w Letter is = tt
  closed_kept w Comma is = tt
  closed_kept w LeftBracket is = tt
  closed_kept w Digit is = tt
  closed_kept w Other is = tt

  behind_kept : IsRead names behind bytes d → (s : Sign) → IsSignOf b s → IsKept names d (bytes ++ b ∷ []) (behind_step (depth d) s)
  behind_kept w Space is =
      lifted names (Core names behind) (Core names behind) (b ∷ []) (λ x h c. trees_space b is c) bytes d w
  behind_kept w Comma is =
      lifted names (Core names behind) (Core names next) (b ∷ []) (λ x h c. record { front = x ++ b ∷ []; spaces = []; token = []; ahead = further x c (ap (λ e. x ++ e ∷ []) (sym is)); is_space = no_space; is_token = refl; split = append-nil (x ++ b ∷ []) }) bytes d w
  behind_kept w RightBracket is = close_kept behind is (λ x h c. something (some c)) w
  behind_kept w LeftParen is = tt
  behind_kept w RightParen is = tt
  behind_kept w Quote is = tt
  behind_kept w Letter is = tt
  behind_kept w LeftBracket is = tt
  behind_kept w Digit is = tt
  behind_kept w Other is = tt

  label_kept : (text : List ℕ) → IsRead names (label text) bytes d → (s : Sign) → IsSignOf b s → IsKept names d (bytes ++ b ∷ []) (label_step text s)
  label_kept text w Space is =
      lifted names (Core names (label text)) (Core names (label text)) (b ∷ []) (begun_more names (IsLabelled names text) (IsLabelled names text) (b ∷ []) (λ t i. record { spaces = i.spaces ++ b ∷ []; is_space = one_space i.spaces b i.is_space is; is_label = i.is_label; held = i.held; token_is = ap (λ l. l ++ b ∷ []) i.token_is ∙ append_assoc text i.spaces (b ∷ []) })) bytes d w
  label_kept text w LeftBracket is =
      lifted_begin names (Core names (label text)) (Core names content) (b ∷ []) (number_of names text) (no_space, refl) (begun_more names (IsLabelled names text) (IsOpening names (number_of names text)) (b ∷ []) (λ t i. record { text = text; spaces = i.spaces; is_space = i.is_space; is_label = i.is_label; at = i.held; token_is = ap (λ l. l ++ b ∷ []) i.token_is ∙ append_assoc text i.spaces (b ∷ []) ∙ ap (λ e. text ++ (i.spaces ++ e ∷ [])) is })) bytes d w
  label_kept text w RightBracket is = tt
  label_kept text w Comma is = tt
  label_kept text w LeftParen is = tt
  label_kept text w RightParen is = tt
  label_kept text w Quote is = tt
  label_kept text w Letter is = tt
  label_kept text w Digit is = tt
  label_kept text w Other is = tt

  string_kept : (r : TextRead) → IsRead names (string r) bytes d → (o : TextStep) → text_step r.0 b ≡ o → IsKept names d (bytes ++ b ∷ []) (string_step r o)
  string_kept r w (on state added) e =
      lifted names (Core names (string r)) (Core names (string (state, r.1 ++ added))) (b ∷ []) (begun_more names (IsQuoted r) (IsQuoted (state, r.1 ++ added)) (b ∷ []) (λ t i. record { items = i.items ++ b ∷ []; are = read_then no_text i.items (b ∷ []) r i.are ∙ ap (λ o. and_text (read_on o r.1) (λ q. Some q)) e; token_is = ap (λ l. l ++ b ∷ []) i.token_is })) bytes d w
  string_kept r w closes e =
      lifted_add names (Core names (string r)) (Core names behind) (b ∷ []) (leaf tt (Text r.1) nil) (λ x h c. literal_behind names (Text r.1) (λ t. IsLiteral t (Text r.1)) (λ t i. i) (x ++ b ∷ []) h (begun_more names (IsQuoted r) (λ t. IsLiteral t (Text r.1)) (b ∷ []) (λ t i. (i.items, items_read i.items r.1 (i.are ∙ ap (λ s. Some (s, r.1)) (closes_at_quote r.0 b e).0), ap (λ l. l ++ b ∷ []) i.token_is ∙ ap (λ c. quote ∷ (i.items ++ c ∷ [])) (closes_at_quote r.0 b e).1)) x h c)) bytes d w
  string_kept r w misfits e = tt

-- the same with an event before
push_kept : (names : List (List ℕ)) (d : PlainDraft) (bytes : List ℕ) (x : Atom) (o : Step) → IsKept names (add d (leaf tt x nil)) bytes o → IsKept names d bytes (told (push x) o)
push_kept names d bytes x None k = tt
push_kept names d bytes x (Some o) k = k

learn_kept : (names : List (List ℕ)) (d : PlainDraft) (bytes text : List ℕ) (o : Step) → IsKept (with_text names text) d bytes o → IsKept names d bytes (told (learn text) o)
learn_kept names d bytes text None k = tt
learn_kept names d bytes text (Some o) k = k

named_kept : (names : List (List ℕ)) (d : PlainDraft) (bytes : List ℕ) (b : ℕ) (text : List ℕ) → IsRead names (name text) bytes d → (s : Sign) → IsSignOf b s → (o : Option Atom) → truth_of text ≡ o → IsKept names d (bytes ++ b ∷ []) (named_step text o (depth d) s)
named_kept names d bytes b text w s is (Some x) e =
    push_kept names d (bytes ++ b ∷ []) x (behind_step (depth d) s) (subst (λ n. IsKept names (add d (leaf tt x nil)) (bytes ++ b ∷ []) (behind_step n s)) (depth-add d (leaf tt x nil)) (behind_kept names (add d (leaf tt x nil)) bytes b (named_behind names text x bytes d e w) s is))
named_kept names d bytes b text w s is None e =
    learn_kept names d (bytes ++ b ∷ []) text (label_step text s) (label_kept (with_text names text) d bytes b text (named_label names text bytes d e w) s is)

numbered_kept : (names : List (List ℕ)) (d : PlainDraft) (bytes : List ℕ) (b : ℕ) (at : NumberState) → IsRead names (number at) bytes d → (s : Sign) → IsSignOf b s → IsKept names d (bytes ++ b ∷ []) (numbered_step at (depth d) s)
numbered_kept names d bytes b Minus w s is = tt
numbered_kept names d bytes b (Digits z) w s is =
    let x = Number z in
    push_kept names d (bytes ++ b ∷ []) x (behind_step (depth d) s) (subst (λ n. IsKept names (add d (leaf tt x nil)) (bytes ++ b ∷ []) (behind_step n s)) (depth-add d (leaf tt x nil)) (behind_kept names (add d (leaf tt x nil)) bytes b (numbered_behind names z bytes d w) s is))

digit_kept : (names : List (List ℕ)) (d : PlainDraft) (bytes : List ℕ) (b : ℕ) (at : NumberState) → IsRead names (number at) bytes d → (o : Option NumberState) → number_step at b ≡ o → (s : Sign) → IsSignOf b s → IsKept names d (bytes ++ b ∷ []) (digit_step at o (depth d) s)
digit_kept names d bytes b at w None e s is = numbered_kept names d bytes b at w s is
digit_kept names d bytes b at w (Some to) e s is =
    lifted names (Core names (number at)) (Core names (number to)) (b ∷ []) (begun_more names (λ t. read_number t ≡ Some at) (λ t. read_number t ≡ Some to) (b ∷ []) (λ t f. read_push t b at f ∙ e)) bytes d w

module _ (names : List (List ℕ)) (d : PlainDraft) (bytes : List ℕ) (b : ℕ) where
  longer : (text : List ℕ) → continues_name b ≡ true → IsRead names (name text) bytes d → IsRead names (name (text ++ b ∷ [])) (bytes ++ b ∷ []) d
  longer text is w =
      lifted names (Core names (name text)) (Core names (name (text ++ b ∷ []))) (b ∷ []) (begun_more names (λ t. (t ≡ text) × IsName text) (λ t. (t ≡ text ++ b ∷ []) × IsName (text ++ b ∷ [])) (b ∷ []) (λ t p. (ap (λ l. l ++ b ∷ []) p.0, grown text p.1))) bytes d w
    where
      grown : (l : List ℕ) → IsName l → IsName (l ++ b ∷ [])
      grown [] n = absurd n
      grown (a ∷ l) n = (n.0, All-push (λ c. continues_name c ≡ true) l b n.1 is)

  name_kept : (text : List ℕ) → IsRead names (name text) bytes d → (s : Sign) → IsSignOf b s → IsKept names d (bytes ++ b ∷ []) (name_step text (depth d) b s)
  name_kept text w Letter is = longer text (begins-continues b is) w
  name_kept text w Digit is = longer text is w
  name_kept text w Space is = named_kept names d bytes b text w Space is (truth_of text) refl
  name_kept text w Comma is = named_kept names d bytes b text w Comma is (truth_of text) refl
  name_kept text w LeftBracket is = named_kept names d bytes b text w LeftBracket is (truth_of text) refl
  name_kept text w RightBracket is = named_kept names d bytes b text w RightBracket is (truth_of text) refl
  name_kept text w LeftParen is = named_kept names d bytes b text w LeftParen is (truth_of text) refl
  name_kept text w RightParen is = named_kept names d bytes b text w RightParen is (truth_of text) refl
  name_kept text w Quote is = named_kept names d bytes b text w Quote is (truth_of text) refl
  name_kept text w Other is = named_kept names d bytes b text w Other is (truth_of text) refl

  -- each step keeps what is read
  pub step_kept : (s : Shape) → IsRead names s bytes d → IsKept names d (bytes ++ b ∷ []) (step s (depth d) b)
  step_kept content w = content_kept names d bytes b w (sign_of b) (sign_is b)
  step_kept next w = tree_kept names d bytes b next (λ x h c. c) (begun_space names b) w (sign_of b) (sign_is b)
  step_kept (name text) w = name_kept text w (sign_of b) (sign_is b)
  step_kept (label text) w = label_kept names d bytes b text w (sign_of b) (sign_is b)
  step_kept opened w = opened_kept names d bytes b w (sign_of b) (sign_is b)
  step_kept closed w = closed_kept names d bytes b w (sign_of b) (sign_is b)
  step_kept (string r) w = string_kept names d bytes b r w (text_step r.0 b) refl
  step_kept (number at) w = digit_kept names d bytes b at w (number_step at b) refl (sign_of b) (sign_is b)
  step_kept behind w = behind_kept names d bytes b w (sign_of b) (sign_is b)
