-- The table learns the labels in the order of the text.
use Rattle.std.proofs.Common.{◌≡◌, ℕ, zero, suc, ◌<◌, Bool, true, false, List, [], ◌∷◌, ◌++◌, length, slice_get, unwrap_or, bytes_eq, Option, Some, None, if◌then◌else◌, refl, sym, ap, ap₂, subst, ◌∙◌, append_assoc}
use Rattle.std.proofs.lemmas.List.{append-nil}
use Rattle.std.proofs.lemmas.Option.{slice_get_within}
use Rattle.std.specs.Prelude.{IsSomeAnd}
use Rattle.std.specs.List.{list_any}
use Rattle.flux_atom.specs.declared.atom.Atom.{Atom}
use Rattle.flux_atom.specs.declared.atom.Atom.TheVariants.{Bool as Truth, Text, Int as Number}
use Rattle.flux_atom.specs.declared.number.NumberState.{NumberState}
use Rattle.flux_atom.specs.declared.number.NumberState.TheVariants.{Minus, Digits}
use Rattle.flux_atom.specs.NumberSteps.{number_begin, number_step}
use Rattle.flux_atom.specs.Names.{name_text, IsLabel, with_text}
use Rattle.flux_atom.specs.Spelling.{IsLiteral}
use Rattle.flux_atom.specs.TextSteps.{TextStep, on, closes, misfits, TextRead, text_step}
use Rattle.flux_atom.proofs.TextLaws.{items_utf8}
use Rattle.flux_trees.specs.Hedge.{Plain, nil, elem, leaf, join}
use Rattle.flux_trees.specs.Draft.{done, begun, add, begin, end}
use Rattle.flux_trees.specs.Each.{EachLabel, EachAtom}
use Rattle.flux_trees.proofs.EachLaws.{EachLabel-join, EachAtom-join}
use Rattle.flux_doctext.specs.declared.sign.Sign.{Sign}
use Rattle.flux_doctext.specs.declared.sign.Sign.TheVariants.{Space, Letter, Digit, Quote, Comma, LeftBracket, RightBracket, LeftParen, RightParen, Other}
use Rattle.flux_doctext.specs.Spells.{Part, Spelled, none, some, nothing, something, last, more, element, atom}
use Rattle.flux_doctext.specs.Text.{NamesLabel, IsProper}
use Rattle.flux_doctext.specs.Documents.{SpelledForestIsOverTable}
use Rattle.flux_doctext.specs.Labels.{labels, learnt}
use Rattle.flux_doctext.specs.Reading.{sign_of, Shape, content, next, name, label, opened, closed, string, number, behind, Event, learn, enter, push, leave, Step, told, close_step, content_step, tree_step, behind_step, label_step, closed_step, opened_step, named_step, name_step, string_step, begin_step, numbered_step, digit_step, truth_of, step, end_named, end_step, number_of, PlainDraft, draft_after, names_after}
use Rattle.flux_doctext.proofs.TextLaws.{slice_get-more, labels_within}
use Rattle.flux_doctext.proofs.Drafts.{EachDraftLabel}
use Rattle.flux_doctext.proofs.Written.{Ahead, first, further, Core}
use Rattle.flux_doctext.proofs.WrittenLaws.{with_text-number}
use Rattle.flux_doctext.proofs.StepLaws.{IsRead}
use Rattle.flux_doctext.proofs.ReadLaws.{number_found}

-- a forest that is spelled is one over the table

pub spelled_labels : {names : List (List ℕ)} {part : Part} {bytes : List ℕ} {v : Plain} → Spelled names part bytes v → EachLabel (NamesLabel names) v
spelled_labels (none s t u s_space t_space u_space split) = tt
spelled_labels (some x) = spelled_labels x
spelled_labels (nothing space) = tt
spelled_labels (something x) = spelled_labels x
spelled_labels (last x) = spelled_labels x
spelled_labels {names} (more front back v w x xs split joined) =
    subst (EachLabel (NamesLabel names)) joined (EachLabel-join (NamesLabel names) v w (spelled_labels x) (spelled_labels xs))
spelled_labels {names} (element s text t inner u a s_space t_space u_space is at x split) =
    (subst (λ o. IsSomeAnd o IsLabel) (sym at) is, spelled_labels x, tt)
spelled_labels (atom s spelled u x s_space u_space is split) = tt

pub proper : (x : Atom) (spelled : List ℕ) → IsLiteral spelled x → IsProper x
proper (Truth b) spelled is = tt
proper (Text text) spelled is = items_utf8 is.0 text is.1
proper (Number z) spelled is = is.0

pub spelled_atoms : {names : List (List ℕ)} {part : Part} {bytes : List ℕ} {v : Plain} → Spelled names part bytes v → EachAtom IsProper v
spelled_atoms (none s t u s_space t_space u_space split) = tt
spelled_atoms (some x) = spelled_atoms x
spelled_atoms (nothing space) = tt
spelled_atoms (something x) = spelled_atoms x
spelled_atoms (last x) = spelled_atoms x
spelled_atoms (more front back v w x xs split joined) =
    subst (EachAtom IsProper) joined (EachAtom-join IsProper v w (spelled_atoms x) (spelled_atoms xs))
spelled_atoms (element s text t inner u a s_space t_space u_space is at x split) =
    (spelled_atoms x, tt)
spelled_atoms (atom s spelled u x s_space u_space is split) = (proper x spelled is, tt)

pub spelled_over : SpelledForestIsOverTable
spelled_over names bytes v x = record {
  table = x.table;
  labels = spelled_labels x.forest;
  atoms = spelled_atoms x.forest;
}

-- the labels of what is read are below the number of names

ahead_labels : (names : List (List ℕ)) (bytes : List ℕ) (h : Plain) → Ahead names bytes h → EachLabel (λ a. a < length names) h
ahead_labels names bytes h (first none_yet nothing_yet) =
    subst (EachLabel (λ a. a < length names)) (sym nothing_yet) tt
ahead_labels names bytes h (further front x split) = labels_within names h (spelled_labels x)

core_labels : (names : List (List ℕ)) (s : Shape) (bytes : List ℕ) (h : Plain) → Core names s bytes h → EachLabel (λ a. a < length names) h
core_labels names content bytes h c =
    subst (EachLabel (λ a. a < length names)) (sym c.1) tt
core_labels names next bytes h c = ahead_labels names c.front h c.ahead
core_labels names (name text) bytes h c = ahead_labels names c.front h c.ahead
core_labels names (label text) bytes h c = ahead_labels names c.front h c.ahead
core_labels names opened bytes h c =
    subst (EachLabel (λ a. a < length names)) (sym c.1) tt
core_labels names closed bytes h c =
    subst (EachLabel (λ a. a < length names)) (sym c.1) tt
core_labels names (string r) bytes h c = ahead_labels names c.front h c.ahead
core_labels names (number at) bytes h c = ahead_labels names c.front h c.ahead
core_labels names behind bytes h c = labels_within names h (spelled_labels c)

read_labels : (names : List (List ℕ)) (s : Shape) (bytes : List ℕ) (d : PlainDraft) → IsRead names s bytes d → EachDraftLabel (length names) d
read_labels names s bytes (done h) w = core_labels names s bytes h w
read_labels names s bytes (begun b n a d) w =
    (ahead_labels names w.begins.front b w.begins.ahead, slice_get_within names a w.begins.is_token.text w.begins.is_token.at, read_labels names s w.inner d w.goes_on)

-- the texts of the labels of a forest that is being written, in document order
abbrev pub draft_labels : List (List ℕ) → PlainDraft → List (List ℕ)
draft_labels names (done h) = labels names h
draft_labels names (begun b n a d) = labels names b ++ (name_text names a ∷ draft_labels names d)

labels-join : (names : List (List ℕ)) (g h : Plain) → labels names (join g h) ≡ labels names g ++ labels names h
labels-join names nil h = refl
labels-join names (elem n a c r) h =
    ap (λ l. name_text names a ∷ (labels names c ++ l)) (labels-join names r h) ∙ ap (λ l. name_text names a ∷ l) (sym (append_assoc (labels names c) (labels names r) (labels names h)))
labels-join names (leaf n x r) h = labels-join names r h

module _ (names : List (List ℕ)) where
  draft_labels-push : (d : PlainDraft) (x : Atom) → draft_labels names (add d (leaf tt x nil)) ≡ draft_labels names d
  draft_labels-push (done h) x = labels-join names h (leaf tt x nil) ∙ append-nil (labels names h)
  draft_labels-push (begun b n a d) x = ap (λ l. labels names b ++ (name_text names a ∷ l)) (draft_labels-push d x)

  draft_labels-begin : (d : PlainDraft) (a : ℕ) → draft_labels names (begin d tt a) ≡ draft_labels names d ++ name_text names a ∷ []
  draft_labels-begin (done h) a = refl
  draft_labels-begin (begun b n c d) a =
      ap (λ l. labels names b ++ (name_text names c ∷ l)) (draft_labels-begin d a) ∙ sym (append_assoc (labels names b) (name_text names c ∷ draft_labels names d) (name_text names a ∷ []))

  draft_labels-end : (d : PlainDraft) → draft_labels names (end d) ≡ draft_labels names d
  draft_labels-end (done h) = refl
  draft_labels-end (begun b n a (done g)) =
      labels-join names b (elem n a g nil) ∙ ap (λ l. labels names b ++ (name_text names a ∷ l)) (append-nil (labels names g))
  draft_labels-end (begun b n a (begun c m e d)) =
      ap (λ l. labels names b ++ (name_text names a ∷ l)) (draft_labels-end (begun c m e d))

-- they stay the same over a table with more names
module _ (names others : List (List ℕ)) where
  text-more : (a : ℕ) → a < length names → name_text (names ++ others) a ≡ name_text names a
  text-more a l = ap (λ o. unwrap_or o []) (slice_get-more names others a l)

  labels-more : (h : Plain) → EachLabel (λ a. a < length names) h → labels (names ++ others) h ≡ labels names h
  labels-more nil e = refl
  labels-more (elem n a c r) e =
      ap₂ (λ t l. t ∷ l) (text-more a e.0) (ap₂ (λ l m. l ++ m) (labels-more c e.1) (labels-more r e.2))
  labels-more (leaf n x r) e = labels-more r e

  draft_labels-more : (d : PlainDraft) → EachDraftLabel (length names) d → draft_labels (names ++ others) d ≡ draft_labels names d
  draft_labels-more (done h) e = labels-more h e
  draft_labels-more (begun b n a d) e =
      ap₂ (λ l m. l ++ m) (labels-more b e.0) (ap₂ (λ t l. t ∷ l) (text-more a e.1) (draft_labels-more d e.2))

-- a table that learns more has more names behind

with_text_more : (names : List (List ℕ)) (text : List ℕ) → (others : List (List ℕ)) × (with_text names text ≡ names ++ others)
with_text_more names text = by (list_any (bytes_eq text) names)
  where
    by : (held : Bool) → (others : List (List ℕ)) × ((if held then names else names ++ text ∷ []) ≡ names ++ others)
    by true = ([], sym (append-nil names))
    by false = (text ∷ [], refl)

pub learnt_more : (names texts : List (List ℕ)) → (others : List (List ℕ)) × (learnt names texts ≡ names ++ others)
learnt_more names [] = ([], sym (append-nil names))
learnt_more names (text ∷ texts) =
    let one = with_text_more names text in
    let rest = learnt_more (with_text names text) texts in
    (one.0 ++ rest.0, rest.1 ∙ ap (λ l. l ++ rest.0) one.1 ∙ append_assoc names one.0 rest.0)

learnt-append : (names texts others : List (List ℕ)) → learnt names (texts ++ others) ≡ learnt (learnt names texts) others
learnt-append names [] others = refl
learnt-append names (text ∷ texts) others = learnt-append (with_text names text) texts others

-- what it learnt it holds
abbrev IsHeld : List (List ℕ) → List ℕ → Type 0
IsHeld names text = slice_get names (number_of names text) ≡ Some text

abbrev AreHeld : List (List ℕ) → List (List ℕ) → Type 0
AreHeld names [] = Unit {0}
AreHeld names (text ∷ texts) = IsHeld names text × AreHeld names texts

held_on : (names texts : List (List ℕ)) (text : List ℕ) → IsHeld names text → IsHeld (learnt names texts) text
held_on names texts text held =
    let grown = learnt_more names texts in
    let there : slice_get (names ++ grown.0) (number_of names text) ≡ Some text = slice_get-more names grown.0 (number_of names text) (slice_get_within names (number_of names text) text held) ∙ held in
    number_found (learnt names texts) (number_of names text) text (ap (λ l. slice_get l (number_of names text)) grown.1 ∙ there)

learnt_held : (names texts : List (List ℕ)) → AreHeld (learnt names texts) texts
learnt_held names [] = tt
learnt_held names (text ∷ texts) =
    (held_on (with_text names text) texts text (with_text-number names text), learnt_held (with_text names text) texts)

held_front : (names texts others : List (List ℕ)) → AreHeld names (texts ++ others) → AreHeld names texts
held_front names [] others held = tt
held_front names (text ∷ texts) others held = (held.0, held_front names texts others held.1)

held_back : (names texts others : List (List ℕ)) → AreHeld names (texts ++ others) → AreHeld names others
held_back names [] others held = held
held_back names (text ∷ texts) others held = held_back names texts others held.1

-- what events say of labels

abbrev learns_of : List Event → List (List ℕ)
learns_of [] = []
learns_of (learn text ∷ es) = text ∷ learns_of es
learns_of (_ ∷ es) = learns_of es

abbrev enters_of : List Event → List (List ℕ)
enters_of [] = []
enters_of (enter text ∷ es) = text ∷ enters_of es
enters_of (_ ∷ es) = enters_of es

-- the label that is learnt and not yet entered
abbrev pub pending : Shape → List (List ℕ)
pending (label text) = text ∷ []
pending _ = []

names_after-learnt : (es : List Event) (names : List (List ℕ)) → names_after es names ≡ learnt names (learns_of es)
names_after-learnt [] names = refl
names_after-learnt (learn text ∷ es) names = names_after-learnt es (with_text names text)
names_after-learnt (enter text ∷ es) names = names_after-learnt es names
names_after-learnt (push x ∷ es) names = names_after-learnt es names
names_after-learnt (leave ∷ es) names = names_after-learnt es names

drawn_labels : (names : List (List ℕ)) (es : List Event) (d : PlainDraft) → AreHeld names (enters_of es) → draft_labels names (draft_after names es d) ≡ draft_labels names d ++ enters_of es
drawn_labels names [] d held = sym (append-nil (draft_labels names d))
drawn_labels names (learn text ∷ es) d held = drawn_labels names es d held
drawn_labels names (enter text ∷ es) d held =
    drawn_labels names es (begin d tt (number_of names text)) held.1
    ∙ ap (λ l. l ++ enters_of es) (draft_labels-begin names d (number_of names text) ∙ ap (λ o. draft_labels names d ++ unwrap_or o [] ∷ []) held.0)
    ∙ append_assoc (draft_labels names d) (text ∷ []) (enters_of es)
drawn_labels names (push x ∷ es) d held =
    drawn_labels names es (add d (leaf tt x nil)) held ∙ ap (λ l. l ++ enters_of es) (draft_labels-push names d x)
drawn_labels names (leave ∷ es) d held =
    drawn_labels names es (end d) held ∙ ap (λ l. l ++ enters_of es) (draft_labels-end names d)

-- each label is entered once it is learnt
abbrev InOrder : List (List ℕ) → Step → Type 0
InOrder before None = Unit {0}
InOrder before (Some o) = before ++ learns_of o.1 ≡ enters_of o.1 ++ pending o.0

close_order : (n : ℕ) → InOrder [] (close_step n)
close_order zero = tt
close_order (suc n) = refl

begin_order : (o : Option NumberState) → InOrder [] (begin_step o)
begin_order None = tt
begin_order (Some at) = refl

tree_order : (stay : Shape) (b : ℕ) → [] ≡ pending stay → (s : Sign) → InOrder [] (tree_step stay b s)
tree_order stay b e Space = e
tree_order stay b e Quote = refl
tree_order stay b e Letter = refl
tree_order stay b e Digit = begin_order (number_begin b)
tree_order stay b e _ = tt

content_order : (n b : ℕ) (s : Sign) → InOrder [] (content_step n b s)
content_order n b RightBracket = close_order n
content_order n b LeftParen = refl
content_order n b Space = refl
content_order n b Quote = refl
content_order n b Letter = refl
content_order n b Digit = begin_order (number_begin b)
content_order n b _ = tt

opened_order : (s : Sign) → InOrder [] (opened_step s)
opened_order Space = refl
opened_order RightParen = refl
opened_order _ = tt

closed_order : (n : ℕ) (s : Sign) → InOrder [] (closed_step n s)
closed_order n Space = refl
closed_order n RightBracket = close_order n
closed_order n _ = tt

behind_order : (n : ℕ) (s : Sign) → InOrder [] (behind_step n s)
behind_order n Space = refl
behind_order n Comma = refl
behind_order n RightBracket = close_order n
behind_order n _ = tt

label_order : (text : List ℕ) (s : Sign) → InOrder (text ∷ []) (label_step text s)
label_order text Space = refl
label_order text LeftBracket = refl
label_order text _ = tt

push_order : (x : Atom) (o : Step) → InOrder [] o → InOrder [] (told (push x) o)
push_order x None e = tt
push_order x (Some o) e = e

learn_order : (text : List ℕ) (o : Step) → InOrder (text ∷ []) o → InOrder [] (told (learn text) o)
learn_order text None e = tt
learn_order text (Some o) e = e

named_order : (text : List ℕ) (o : Option Atom) (n : ℕ) (s : Sign) → InOrder [] (named_step text o n s)
named_order text (Some x) n s = push_order x (behind_step n s) (behind_order n s)
named_order text None n s = learn_order text (label_step text s) (label_order text s)

name_order : (text : List ℕ) (n b : ℕ) (s : Sign) → InOrder [] (name_step text n b s)
name_order text n b Letter = refl
name_order text n b Digit = refl
name_order text n b Space = named_order text (truth_of text) n Space
name_order text n b Comma = named_order text (truth_of text) n Comma
name_order text n b LeftBracket = named_order text (truth_of text) n LeftBracket
name_order text n b RightBracket = named_order text (truth_of text) n RightBracket
name_order text n b LeftParen = named_order text (truth_of text) n LeftParen
name_order text n b RightParen = named_order text (truth_of text) n RightParen
name_order text n b Quote = named_order text (truth_of text) n Quote
name_order text n b Other = named_order text (truth_of text) n Other

string_order : (r : TextRead) (o : TextStep) → InOrder [] (string_step r o)
string_order r (on state added) = refl
string_order r closes = refl
string_order r misfits = tt

numbered_order : (at : NumberState) (n : ℕ) (s : Sign) → InOrder [] (numbered_step at n s)
numbered_order Minus n s = tt
numbered_order (Digits z) n s = push_order (Number z) (behind_step n s) (behind_order n s)

digit_order : (at : NumberState) (o : Option NumberState) (n : ℕ) (s : Sign) → InOrder [] (digit_step at o n s)
digit_order at None n s = numbered_order at n s
digit_order at (Some to) n s = refl

step_order : (s : Shape) (n b : ℕ) → InOrder (pending s) (step s n b)
step_order content n b = content_order n b (sign_of b)
step_order next n b = tree_order next b refl (sign_of b)
step_order (name text) n b = name_order text n b (sign_of b)
step_order (label text) n b = label_order text (sign_of b)
step_order opened n b = opened_order (sign_of b)
step_order closed n b = closed_order n (sign_of b)
step_order (string r) n b = string_order r (text_step r.0 b)
step_order (number at) n b = digit_order at (number_step at b) n (sign_of b)
step_order behind n b = behind_order n (sign_of b)

-- the table has learnt the labels that are read
abbrev pub HasLearnt : List (List ℕ) → List (List ℕ) → Shape → PlainDraft → Type 0
HasLearnt old names s d = names ≡ learnt old (draft_labels names d ++ pending s)

-- a step keeps that
pub learnt_kept : (old names new : List (List ℕ)) (s t : Shape) (bytes : List ℕ) (d : PlainDraft) (es : List Event) (n b : ℕ) → IsRead names s bytes d → HasLearnt old names s d → step s n b ≡ Some (t, es) → new ≡ names_after es names → HasLearnt old new t (draft_after new es d)
learnt_kept old names new s t bytes d es n b w has fits is =
    is_learnt ∙ ap (λ l. learnt old (l ++ pending t)) (sym drawn)
  where
    order : pending s ++ learns_of es ≡ enters_of es ++ pending t
    order = subst (InOrder (pending s)) fits (step_order s n b)

    learns : new ≡ learnt names (learns_of es)
    learns = is ∙ names_after-learnt es names

    same : draft_labels new d ≡ draft_labels names d
    same =
        let grown = learnt_more names (learns_of es) in
        ap (λ ns. draft_labels ns d) (learns ∙ grown.1) ∙ draft_labels-more names grown.0 d (read_labels names s bytes d w)

    before : new ≡ learnt old (draft_labels names d ++ (enters_of es ++ pending t))
    before = learns ∙ ap (λ ns. learnt ns (learns_of es)) has ∙ sym (learnt-append old (draft_labels names d ++ pending s) (learns_of es)) ∙ ap (learnt old) (append_assoc (draft_labels names d) (pending s) (learns_of es) ∙ ap (λ l. draft_labels names d ++ l) order)

    held : AreHeld new (enters_of es)
    held = held_front new (enters_of es) (pending t) (held_back new (draft_labels names d) (enters_of es ++ pending t) (subst (λ ns. AreHeld ns (draft_labels names d ++ (enters_of es ++ pending t))) (sym before) (learnt_held old (draft_labels names d ++ (enters_of es ++ pending t)))))

    drawn : draft_labels new (draft_after new es d) ≡ draft_labels names d ++ enters_of es
    drawn = drawn_labels new es d held ∙ ap (λ l. l ++ enters_of es) same

    is_learnt : new ≡ learnt old ((draft_labels names d ++ enters_of es) ++ pending t)
    is_learnt = before ∙ ap (learnt old) (sym (append_assoc (draft_labels names d) (enters_of es) (pending t)))

-- so does the end of the text
pub learnt_end : (old names : List (List ℕ)) (s : Shape) (d : PlainDraft) (es : List Event) → HasLearnt old names s d → end_step s ≡ Some es → names ≡ learnt old (draft_labels names (draft_after names es d))
learnt_end old names content d es has e = absurd cc
learnt_end old names next d es has e = absurd cc
learnt_end old names (label text) d es has e = absurd cc
learnt_end old names opened d es has e = absurd cc
learnt_end old names (string r) d es has e = absurd cc
learnt_end old names closed d es has e =
    let none_more : [] ≡ es = cc in
    has ∙ ap (learnt old) (append-nil (draft_labels names d)) ∙ ap (λ l. learnt old (draft_labels names (draft_after names l d))) none_more
learnt_end old names behind d es has e =
    let none_more : [] ≡ es = cc in
    has ∙ ap (learnt old) (append-nil (draft_labels names d)) ∙ ap (λ l. learnt old (draft_labels names (draft_after names l d))) none_more
learnt_end old names (number Minus) d es has e = absurd cc
learnt_end old names (number (Digits z)) d es has e =
    let pushed : push (Number z) ∷ [] ≡ es = cc in
    has ∙ ap (learnt old) (append-nil (draft_labels names d) ∙ sym (draft_labels-push names d (Number z))) ∙ ap (λ l. learnt old (draft_labels names (draft_after names l d))) pushed
learnt_end old names (name text) d es has e = by (truth_of text) e
  where
    by : (o : Option Atom) → end_named o ≡ Some es → names ≡ learnt old (draft_labels names (draft_after names es d))
    by None e = absurd cc
    by (Some x) e =
        let pushed : push x ∷ [] ≡ es = cc in
        has ∙ ap (learnt old) (append-nil (draft_labels names d) ∙ sym (draft_labels-push names d x)) ∙ ap (λ l. learnt old (draft_labels names (draft_after names l d))) pushed
