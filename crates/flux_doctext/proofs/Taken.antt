-- The steps of the reader, as its functions take them.
use Rattle.std.proofs.Common.{◌≡◌, ℕ, ◌<◌, Bool, true, false, List, [], ◌∷◌, ◌++◌, length, slice_get, unwrap_or, Option, ◌⊎◌, inl, inr, Some, None, Result, Ok, Err, IfOk, IsTrue, refl, sym, ap, subst, ◌∙◌}
use Rattle.std.specs.Prelude.{◌↔◌, ℤ}
use Rattle.std.proofs.lemmas.Bool.{false≢true, ne_eqb}
use Rattle.std.proofs.lemmas.List.Elements.{All-push}
use Rattle.std.proofs.lemmas.Option.{slice_get-get_or, unwrap_or-slice_get}
use Rattle.flux_atom.specs.declared.atom.Atom.{Atom}
use Rattle.flux_atom.specs.declared.text.TextState.TheVariants.{Between}
use Rattle.flux_atom.specs.declared.atom.Atom.TheVariants.{Int as Number}
use Rattle.flux_atom.specs.declared.number.NumberState.{NumberState}
use Rattle.flux_atom.specs.declared.number.NumberState.TheVariants.{Digits}
use Rattle.flux_atom.specs.Names.{name_text, continues_name, IsName, IsTable, with_text}
use Rattle.flux_atom.specs.TextSteps.{TextStep, on, closes, misfits, TextRead, text_step, no_text, read_on, and_read as and_text, read_text}
use Rattle.flux_atom.proofs.TextLaws.{read_then, closes_at_quote}
use Rattle.flux_trees.specs.Hedge.{nil, leaf}
use Rattle.flux_trees.specs.Draft.{depth, add, begin}
use Rattle.flux_trees.proofs.DraftLaws.{depth-add}
use Rattle.flux_doctext.specs.declared.reader.State.{State}
use Rattle.flux_doctext.specs.declared.reader.State.TheVariants.{Content, Text}
use Rattle.flux_doctext.specs.declared.sign.Sign.{Sign}
use Rattle.flux_doctext.specs.declared.sign.Sign.TheVariants.{Space, Letter, Digit, Quote, Comma, LeftBracket, RightBracket, LeftParen, RightParen, Other}
use Rattle.flux_doctext.specs.Reading.{sign_of, content, name, string, learn, enter, push, Step, told, behind_step, content_step, tree_step, label_step, named_step, name_step, string_step, numbered_step, truth_of, end_named, end_numbered, PlainDraft, names_after}
use Rattle.flux_doctext.specs.Steps.{shape_of, IsSound, IsTaken, Follows, Ends}
use Rattle.flux_doctext.proofs.ReadLaws.{number_is}
use Rattle.flux_doctext.proofs.Signs.{IsNamed, named_continues}

-- a name of a table is found at its number
pub name_found : (names : List (List ℕ)) (a : ℕ) → a < length names → slice_get names a ≡ Some (name_text names a)
name_found names a below =
    slice_get-get_or names a [] below ∙ ap Some (sym (unwrap_or-slice_get names a []))

pub content_tree : (n b : ℕ) (s : Sign) → (s ≡ RightBracket → ⊥) → (s ≡ LeftParen → ⊥) → tree_step content b s ≡ content_step n b s
content_tree n b RightBracket p q = absurd (p refl)
content_tree n b LeftParen p q = absurd (q refl)
content_tree n b Space p q = refl
content_tree n b Comma p q = refl
content_tree n b LeftBracket p q = refl
content_tree n b RightParen p q = refl
content_tree n b Quote p q = refl
content_tree n b Letter p q = refl
content_tree n b Digit p q = refl
content_tree n b Other p q = refl

-- the same step under another name
pub passed : {E : Type 0} (names new : List (List ℕ)) (o p : Step) (d e : PlainDraft) (r : Result (Option State) E) → o ≡ p → IfOk r (Follows names o d new e) → IfOk r (Follows names p d new e)
passed names new o p d e r is follows =
    subst (λ q. IfOk r (Follows names q d new e)) is follows

push_follows : (names new : List (List ℕ)) (x : Atom) (o : Step) (d e : PlainDraft) (r : Option State) → Follows names o (add d (leaf tt x nil)) new e r → Follows names (told (push x) o) d new e r
push_follows names new x o d e None f = ap (told (push x)) f
push_follows names new x o d e (Some state) i = record {
  events = push x ∷ i.events;
  fits = ap (told (push x)) i.fits;
  learns = i.learns;
  draws = i.draws;
  sound = i.sound;
}

-- an atom, and a byte behind it
pushed_follows : (names : List (List ℕ)) (x : Atom) (s : Sign) (d pushed e : PlainDraft) (r : Option State) → pushed ≡ add d (leaf tt x nil) → Follows names (behind_step (depth pushed) s) pushed names e r → Follows names (told (push x) (behind_step (depth d) s)) d names e r
pushed_follows names x s d pushed e r added f =
    push_follows names names x (behind_step (depth d) s) d e r (subst (λ n. Follows names (behind_step n s) (add d (leaf tt x nil)) names e r) (depth-add d (leaf tt x nil)) (subst (λ p. Follows names (behind_step (depth p) s) p names e r) added f))

-- a name that is an atom
pub atom_follows : (names : List (List ℕ)) (text : List ℕ) (x : Atom) (s : Sign) (d pushed e : PlainDraft) (r : Option State) → truth_of text ≡ Some x → pushed ≡ add d (leaf tt x nil) → Follows names (behind_step (depth pushed) s) pushed names e r → Follows names (named_step text (truth_of text) (depth d) s) d names e r
atom_follows names text x s d pushed e r is added f =
    subst (λ o. Follows names (named_step text o (depth d) s) d names e r) (sym is) (pushed_follows names x s d pushed e r added f)

-- a number
pub number_follows : (names : List (List ℕ)) (at : NumberState) (z : ℤ) (s : Sign) (d pushed e : PlainDraft) (r : Option State) → at ≡ Digits z → pushed ≡ add d (leaf tt (Number z) nil) → Follows names (behind_step (depth pushed) s) pushed names e r → Follows names (numbered_step at (depth d) s) d names e r
number_follows names at z s d pushed e r is added f =
    subst (λ a. Follows names (numbered_step a (depth d) s) d names e r) (sym is) (pushed_follows names (Number z) s d pushed e r added f)

learn_follows : (old new : List (List ℕ)) (text : List ℕ) (o : Step) (d e : PlainDraft) (r : Option State) → new ≡ with_text old text → Follows new o d new e r → Follows old (told (learn text) o) d new e r
learn_follows old new text o d e None is f = ap (told (learn text)) f
learn_follows old new text o d e (Some state) is i = record {
  events = learn text ∷ i.events;
  fits = ap (told (learn text)) i.fits;
  learns = i.learns ∙ ap (names_after i.events) is;
  draws = i.draws;
  sound = i.sound;
}

-- a name that is a label, and a byte behind it
pub label_follows : {E : Type 0} (old new : List (List ℕ)) (text : List ℕ) (a n : ℕ) (s : Sign) (d e : PlainDraft) (r : Result (Option State) E) → truth_of text ≡ None → new ≡ with_text old text → slice_get new a ≡ Some text → IfOk r (Follows new (label_step (name_text new a) s) d new e) → IfOk r (Follows old (named_step text (truth_of text) n s) d new e)
label_follows old new text a n s d e (Err error) is learns at f = tt
label_follows old new text a n s d e (Ok r) is learns at f =
    subst (λ o. Follows old (named_step text o n s) d new e r) (sym is) (learn_follows old new text (label_step text s) d e r learns (subst (λ t. Follows new (label_step t s) d new e r) (ap (λ o. unwrap_or o []) at) f))

pub entered : (names : List (List ℕ)) (a : ℕ) (s : Sign) (d e : PlainDraft) → IsTable names → a < length names → s ≡ LeftBracket → e ≡ begin d tt a → IsTaken names (label_step (name_text names a) s) d names e Content
entered names a s d e table below is begins = record {
  events = enter (name_text names a) ∷ [];
  fits = ap (label_step (name_text names a)) is;
  learns = refl;
  draws = begins ∙ ap (begin d tt) (sym (number_is names a (name_text names a) table (name_found names a below)));
  sound = tt;
}

-- a name goes on

pub named_byte : (b : ℕ) (s : Sign) → s ≡ sign_of b → (s ≡ Letter) ⊎ (s ≡ Digit) → continues_name b ≡ true
named_byte b s is (inl e) = named_continues b (subst IsNamed (sym e ∙ is) tt)
named_byte b s is (inr e) = named_continues b (subst IsNamed (sym e ∙ is) tt)

pub name_taken : (names : List (List ℕ)) (text : List ℕ) (b n : ℕ) (s : Sign) (d : PlainDraft) (state : State) → (s ≡ Letter) ⊎ (s ≡ Digit) → shape_of names state ≡ name (text ++ b ∷ []) → IsSound names state → IsTaken names (name_step text n b s) d names d state
name_taken names text b n s d state is shape sound = record {
  events = [];
  fits = by is ∙ ap (λ t. Some (t, [])) (sym shape);
  learns = refl;
  draws = refl;
  sound = sound;
}
  where
    by : (s ≡ Letter) ⊎ (s ≡ Digit) → name_step text n b s ≡ Some (name (text ++ b ∷ []), [])
    by (inl e) = ap (name_step text n b) e
    by (inr e) = ap (name_step text n b) e

-- the string goes on
string_on : (r s : TextRead) (b : ℕ) → read_on (text_step r.0 b) r.1 ≡ Some s → string_step r (text_step r.0 b) ≡ Some (string s, [])
string_on r s b e = by (text_step r.0 b) e
  where
    by : (o : TextStep) → read_on o r.1 ≡ Some s → string_step r o ≡ Some (string s, [])
    by (on state added) e = let same : (state, r.1 ++ added) ≡ s = cc in ap (λ q. Some (string q, [])) same
    by closes e = absurd cc
    by misfits e = absurd cc

items_on : (r s : TextRead) (b : ℕ) → (items : List ℕ) × (read_text no_text items ≡ Some r) → read_on (text_step r.0 b) r.1 ≡ Some s → (items : List ℕ) × (read_text no_text items ≡ Some s)
items_on r s b (items, are) e =
    (items ++ b ∷ [], read_then no_text items (b ∷ []) r are ∙ ap (λ o. and_text o (λ q. Some q)) e)

pub text_taken : (names : List (List ℕ)) (r s : TextRead) (b : ℕ) (d : PlainDraft) → (items : List ℕ) × (read_text no_text items ≡ Some r) → read_on (text_step r.0 b) r.1 ≡ Some s → IsTaken names (string_step r (text_step r.0 b)) d names d (Text s)
text_taken names r s b d are e = record {
  events = [];
  fits = string_on r s b e;
  learns = refl;
  draws = refl;
  sound = items_on r s b are e;
}

-- a string is closed between two items
pub text_closed : (r s : TextRead) (b : ℕ) → (text_step r.0 b ≡ closes) × (s ≡ r) → s.0 ≡ Between
text_closed r s b (ends, same) = ap (λ q. q.0) same ∙ (closes_at_quote r.0 b ends).0

-- the end of the text, behind an atom
atom_ends : (x : Atom) (d pushed : PlainDraft) (whole : Bool) → pushed ≡ add d (leaf tt x nil) → (IsTrue whole ↔ (depth pushed ≡ 0)) → Ends (Some (push x ∷ [])) d pushed whole
atom_ends x d pushed whole added w = by whole w
  where
    same : depth pushed ≡ depth d
    same = ap depth added ∙ depth-add d (leaf tt x nil)

    by : (t : Bool) → (IsTrue t ↔ (depth pushed ≡ 0)) → Ends (Some (push x ∷ [])) d pushed t
    by true w = record { events = push x ∷ []; fits = refl; whole = sym same ∙ w.0 refl; draws = λ names. added }
    by false w = ne_eqb (depth d) 0 (λ e. false≢true (w.1 (same ∙ e)))

pub name_ends : (text : List ℕ) (x : Atom) (d pushed : PlainDraft) (whole : Bool) → truth_of text ≡ Some x → pushed ≡ add d (leaf tt x nil) → (IsTrue whole ↔ (depth pushed ≡ 0)) → Ends (end_named (truth_of text)) d pushed whole
name_ends text x d pushed whole is added w =
    subst (λ o. Ends (end_named o) d pushed whole) (sym is) (atom_ends x d pushed whole added w)

pub number_ends : (at : NumberState) (z : ℤ) (d pushed : PlainDraft) (whole : Bool) → at ≡ Digits z → pushed ≡ add d (leaf tt (Number z) nil) → (IsTrue whole ↔ (depth pushed ≡ 0)) → Ends (end_numbered at) d pushed whole
number_ends at z d pushed whole is added w =
    subst (λ a. Ends (end_numbered a) d pushed whole) (sym is) (atom_ends (Number z) d pushed whole added w)
