-- What a reader has read, from the beginning of the text to its end.
use Rattle.std.proofs.Common.{◌≡◌, ◌⊎◌, ℕ, ◌+◌, ◌-◌, ◌<◌, ◌≤◌, true, false, List, [], ◌∷◌, ◌++◌, length, take, drop, get_or, Option, Some, None, refl, sym, ap, subst, ◌∙◌, inl, inr, append_assoc, arith, string_bytes}
use Rattle.std.proofs.lemmas.Bool.{false≢true}
use Rattle.std.proofs.Math.Seq.{take-add}
use Rattle.std.specs.List.{AllPass}
use Rattle.std.proofs.lemmas.List.Elements.{All-cons, All-head, All-tail}
use Rattle.std.proofs.lemmas.List.{append-nil, take-append-drop, take-take, take_more, take_all, length-drop}
use Rattle.flux_atom.specs.declared.atom.Atom.{Atom}
use Rattle.flux_atom.specs.declared.atom.Atom.TheVariants.{Int as Number}
use Rattle.flux_atom.specs.declared.number.NumberState.TheVariants.{Minus, Digits}
use Rattle.flux_atom.specs.Names.{continues_name, IsName, IsTable}
use Rattle.flux_atom.specs.TextSteps.{TextStep, on, closes, misfits, TextRead, text_step, no_text, read_on, and_read as and_text, read_text}
use Rattle.flux_atom.proofs.TextLaws.{read_then}
use Rattle.flux_trees.specs.Hedge.{Plain, nil, leaf}
use Rattle.flux_trees.specs.Draft.{done, begun, depth, add}
use Rattle.flux_trees.proofs.DraftLaws.{depth-add}
use Rattle.flux_doctext.specs.declared.reader.State.{State}
use Rattle.flux_doctext.specs.declared.reader.State.TheVariants.{Content, Tree, Name, Label, Opened, Closed, Text, Number as Numbered, Behind}
use Rattle.flux_doctext.specs.Spells.{Spelled, whole, some, Spells, IsViable}
use Rattle.flux_doctext.specs.Labels.{learnt}
use Rattle.flux_doctext.specs.Documents.{IsDocument, IsNoDocument}
use Rattle.flux_doctext.specs.Reading.{Shape, content, next, name, label, opened, closed, string, number, behind, Event, push, truth_of, sign_of, step, name_step, string_step, end_named, end_step, PlainDraft, draft_after, names_after, end_fits}
use Rattle.flux_doctext.specs.declared.sign.Sign.TheVariants.{Letter, Digit}
use Rattle.flux_doctext.proofs.Signs.{named_sign}
use Rattle.flux_doctext.proofs.Runs.{and_fits, fits}
use Rattle.flux_doctext.specs.Steps.{shape_of, IsSound, IsTaken, IsEnded, Passes}
use Rattle.flux_doctext.proofs.ReadLaws.{spelled_fits, depth-draft_after}
use Rattle.flux_doctext.proofs.SpelledLaws.{no_space}
use Rattle.flux_doctext.proofs.StepLaws.{IsRead, IsKept, begun_more, step_kept, named_behind, numbered_behind}
use Rattle.flux_doctext.proofs.Written.{IsQuoted, Core}
use Rattle.flux_doctext.proofs.WrittenLaws.{lifted}
use Rattle.flux_doctext.proofs.ViableLaws.{read_viable}
use Rattle.flux_doctext.proofs.LabelLaws.{HasLearnt, learnt_kept, learnt_end, draft_labels, spelled_labels, spelled_atoms}

-- a run of a string fits where it leads
fits_run : (r s : TextRead) (run rest : List ℕ) (n : ℕ) → read_text r run ≡ Some s → fits (string r) n (run ++ rest) ≡ fits (string s) n rest
fits_run r s [] rest n e = let same : r ≡ s = cc in ap (λ q. fits (string q) n rest) same
fits_run r s (b ∷ run) rest n e =
    by (text_step r.0 b) e (λ q further. fits_run q s run rest n further)
  where
    by : (o : TextStep) → and_text (read_on o r.1) (λ q. read_text q run) ≡ Some s → ((q : TextRead) → read_text q run ≡ Some s → fits (string q) n (run ++ rest) ≡ fits (string s) n rest) → and_fits (string_step r o) n (λ u m. fits u m (run ++ rest)) ≡ fits (string s) n rest
    by (on state added) e further = further (state, r.1 ++ added) e
    by closes e further = absurd cc
    by misfits e further = absurd cc

-- the bytes are read, over a table that began as old: what fits behind them fits where the reader is
pub record IsReader (old names : List (List ℕ)) (s : Shape) (bytes : List ℕ) (d : PlainDraft) : Type 0 where
  pub table : IsTable names
  pub is_read : IsRead names s bytes d
  pub fitted : (rest : List ℕ) → fits content 0 (bytes ++ rest) ≡ fits s (depth d) rest
  pub learns : HasLearnt old names s d

reader_new : (names : List (List ℕ)) → IsTable names → IsReader names names content [] (done nil)
reader_new names table = record {
  table = table;
  is_read = (no_space, refl);
  fitted = λ rest. refl;
  learns = refl;
}

reader_step : (old names new : List (List ℕ)) (s : Shape) (b : ℕ) (bytes : List ℕ) (d e : PlainDraft) (state : State) → IsReader old names s bytes d → IsTable new → IsTaken names (step s (depth d) b) d new e state → IsReader old new (shape_of new state) (bytes ++ b ∷ []) e
reader_step old names new s b bytes d e state i table t = record {
  table = table;
  is_read = is_read;
  fitted = fitted;
  learns = subst (HasLearnt old new (shape_of new state)) (sym t.draws) (learnt_kept old names new s (shape_of new state) bytes d t.events (depth d) b i.is_read i.learns t.fits t.learns);
}
  where
    kept : IsRead (names_after t.events names) (shape_of new state) (bytes ++ b ∷ []) (draft_after (names_after t.events names) t.events d)
    kept = subst (IsKept names d (bytes ++ b ∷ [])) t.fits (step_kept names d bytes b s i.is_read)

    is_read : IsRead new (shape_of new state) (bytes ++ b ∷ []) e
    is_read =
        subst (IsRead new (shape_of new state) (bytes ++ b ∷ [])) (sym t.draws) (subst (λ ns. IsRead ns (shape_of new state) (bytes ++ b ∷ []) (draft_after ns t.events d)) (sym t.learns) kept)

    fitted : (rest : List ℕ) → fits content 0 ((bytes ++ b ∷ []) ++ rest) ≡ fits (shape_of new state) (depth e) rest
    fitted rest =
        ap (fits content 0) (append_assoc bytes (b ∷ []) rest)
        ∙ i.fitted (b ∷ rest)
        ∙ ap (λ o. and_fits o (depth d) (λ u m. fits u m rest)) t.fits
        ∙ ap (λ n. fits (shape_of new state) n rest) (sym (ap depth t.draws ∙ depth-draft_after new t.events d))

-- a run of a string
reader_passes : (old names : List (List ℕ)) (r s : TextRead) (run bytes : List ℕ) (d : PlainDraft) → IsReader old names (string r) bytes d → read_text r run ≡ Some s → IsReader old names (string s) (bytes ++ run) d
reader_passes old names r s run bytes d i e = record {
  table = i.table;
  is_read = lifted names (Core names (string r)) (Core names (string s)) run (begun_more names (IsQuoted r) (IsQuoted s) run (λ t q. record { items = q.items ++ run; are = read_then no_text q.items run r q.are ∙ e; token_is = ap (λ l. l ++ run) q.token_is })) bytes d i.is_read;
  fitted = λ rest. ap (fits content 0) (append_assoc bytes run rest) ∙ i.fitted (run ++ rest) ∙ fits_run r s run rest (depth d) e;
  learns = i.learns;
}

-- a byte that tells nothing
reader_on : (old names : List (List ℕ)) (s u : Shape) (b : ℕ) (bytes : List ℕ) (d : PlainDraft) → IsReader old names s bytes d → step s (depth d) b ≡ Some (u, []) → IsReader old names u (bytes ++ b ∷ []) d
reader_on old names s u b bytes d i fits_here = record {
  table = i.table;
  is_read = subst (IsKept names d (bytes ++ b ∷ [])) fits_here (step_kept names d bytes b s i.is_read);
  fitted = λ rest. ap (fits content 0) (append_assoc bytes (b ∷ []) rest) ∙ i.fitted (b ∷ rest) ∙ ap (λ o. and_fits o (depth d) (λ v m. fits v m rest)) fits_here;
  learns = learnt_kept old names names s u bytes d [] (depth d) b i.is_read i.learns fits_here refl;
}

-- a run of a name
reader_named : (old names : List (List ℕ)) (text run bytes : List ℕ) (d : PlainDraft) → IsReader old names (name text) bytes d → AllPass continues_name run → IsReader old names (name (text ++ run)) (bytes ++ run) d
reader_named old names text [] bytes d i all = subst (λ l. IsReader old names (name l) (bytes ++ []) d) (sym (append-nil text)) (subst (λ l. IsReader old names (name text) l d) (sym (append-nil bytes)) i)
reader_named old names text (b ∷ run) bytes d i all =
    subst (λ l. IsReader old names (name l) (bytes ++ b ∷ run) d) (append_assoc text (b ∷ []) run)
    (subst (λ l. IsReader old names (name ((text ++ b ∷ []) ++ run)) l d) (append_assoc bytes (b ∷ []) run)
    (reader_named old names (text ++ b ∷ []) run (bytes ++ b ∷ []) d (by (named_sign b (All-head (λ x. continues_name x ≡ true) b run all))) (All-tail (λ x. continues_name x ≡ true) b run all)))
  where
    by : (sign_of b ≡ Letter) ⊎ (sign_of b ≡ Digit) → IsReader old names (name (text ++ b ∷ [])) (bytes ++ b ∷ []) d
    by (inl e) = reader_on old names (name text) (name (text ++ b ∷ [])) b bytes d i (ap (name_step text (depth d) b) e)
    by (inr e) = reader_on old names (name text) (name (text ++ b ∷ [])) b bytes d i (ap (name_step text (depth d) b) e)

-- a byte more that goes on with a name
pub named_next : (text : List ℕ) (start more bytes : List ℕ) (i : ℕ) → i < length bytes → continues_name (get_or bytes i 0) ≡ true → AllPass continues_name (take i bytes) → text ≡ start ++ take i bytes → more ≡ text ++ get_or bytes i 0 ∷ []
    → AllPass continues_name (take (i + 1) bytes) × (more ≡ start ++ take (i + 1) bytes)
named_next text start more bytes i below goes_on all is grown =
    let b = get_or bytes i 0 in
    let here : take (i + 1) bytes ≡ take i bytes ++ b ∷ [] = take_more bytes i 0 below in (
      subst (AllPass continues_name) (sym here) (all_and (take i bytes) b all goes_on),
      grown ∙ ap (λ l. l ++ b ∷ []) is ∙ append_assoc start (take i bytes) (b ∷ []) ∙ ap (λ l. start ++ l) (sym here),
    )
  where
    all_and : (run : List ℕ) (c : ℕ) → AllPass continues_name run → continues_name c ≡ true → AllPass continues_name (run ++ c ∷ [])
    all_and [] c all e = All-cons (λ x. continues_name x ≡ true) c [] e all
    all_and (x ∷ run) c all e = All-cons (λ y. continues_name y ≡ true) x (run ++ c ∷ []) (All-head (λ y. continues_name y ≡ true) x run all) (all_and run c (All-tail (λ y. continues_name y ≡ true) x run all) e)

-- a name that goes on is a name
longer_name : (text run : List ℕ) → IsName text → AllPass continues_name run → IsName (text ++ run)
longer_name [] run is all = absurd is
longer_name (b ∷ text) run is all = (is.0, both text run is.1 all)
  where
    both : (text run : List ℕ) → AllPass continues_name text → AllPass continues_name run → AllPass continues_name (text ++ run)
    both [] run one two = two
    both (c ∷ text) run one two = All-cons (λ x. continues_name x ≡ true) c (text ++ run) (All-head (λ x. continues_name x ≡ true) c text one) (both text run (All-tail (λ x. continues_name x ≡ true) c text one) two)

-- the bytes in front of more, and those behind them
front_of : (bytes : List ℕ) (i m : ℕ) → i < m → m ≤ length bytes → take m bytes ≡ take i bytes ++ (get_or bytes i 0 ∷ drop (i + 1) (take m bytes))
front_of bytes i m below within =
    sym (take-append-drop (i + 1) (take m bytes))
    ∙ ap (λ l. l ++ drop (i + 1) (take m bytes)) (take-take (i + 1) m bytes (omega arith) ∙ take_more bytes i 0 (omega arith))
    ∙ append_assoc (take i bytes) (get_or bytes i 0 ∷ []) (drop (i + 1) (take m bytes))

-- a byte that fits nowhere
misfit_at : (old names : List (List ℕ)) (s : Shape) (bytes : List ℕ) (i : ℕ) (d : PlainDraft) → IsReader old names s (take i bytes) d → i < length bytes → step s (depth d) (get_or bytes i 0) ≡ None → IsNoDocument bytes i
misfit_at old names s bytes i d r below none = record {
  spells_none = λ table v x. never table v (drop (i + 1) (take (length bytes) bytes)) (subst (λ l. Spells table l v) (sym (take_all (length bytes) bytes (omega arith)) ∙ front_of bytes i (length bytes) below (omega arith)) x);
  longest = record {
    within = omega arith;
    holds = read_viable names s (take i bytes) d r.table r.is_read;
    longest = λ m more within viable. never viable.names viable.forest (drop (i + 1) (take m bytes) ++ viable.more) (subst (λ l. Spells viable.names l viable.forest) (ap (λ l. l ++ viable.more) (front_of bytes i m more within) ∙ append_assoc (take i bytes) (get_or bytes i 0 ∷ drop (i + 1) (take m bytes)) viable.more) viable.spells);
  };
}
  where
    never : (table : List (List ℕ)) (v : Plain) (rest : List ℕ) → Spells table (take i bytes ++ (get_or bytes i 0 ∷ rest)) v → ⊥
    never table v rest x =
        false≢true (sym (r.fitted (get_or bytes i 0 ∷ rest) ∙ ap (λ o. and_fits o (depth d) (λ u m. fits u m rest)) none) ∙ spelled_fits table (take i bytes ++ (get_or bytes i 0 ∷ rest)) v x.table x.forest)

-- a text that ends too early
unended : (old names : List (List ℕ)) (s : Shape) (bytes : List ℕ) (d : PlainDraft) → IsReader old names s bytes d → end_fits (end_step s) (depth d) ≡ false → IsNoDocument bytes (length bytes)
unended old names s bytes d r open_still = record {
  spells_none = λ table v x. false≢true (sym (ap (fits content 0) (sym (append-nil bytes)) ∙ r.fitted [] ∙ open_still) ∙ spelled_fits table bytes v x.table x.forest);
  longest = record {
    within = omega arith;
    holds = subst IsViable (sym (take_all (length bytes) bytes (omega arith))) (read_viable names s bytes d r.table r.is_read);
    longest = λ m more within viable. omega arith;
  };
}

-- what is read at the end of the text
pub record IsWhole (names : List (List ℕ)) (bytes : List ℕ) (d : PlainDraft) : Type 0 where
  pub forest : Plain
  pub is_done : d ≡ done forest
  pub spelled : Spelled names whole bytes forest

whole_behind : (names : List (List ℕ)) (bytes : List ℕ) (d : PlainDraft) → IsRead names behind bytes d → depth d ≡ 0 → IsWhole names bytes d
whole_behind names bytes (done h) w shut = record { forest = h; is_done = refl; spelled = some w }
whole_behind names bytes (begun b n a d) w shut = absurd (omega (arith, shut))

whole_closed : (names : List (List ℕ)) (bytes : List ℕ) (d : PlainDraft) → IsRead names closed bytes d → depth d ≡ 0 → IsWhole names bytes d
whole_closed names bytes (done h) w shut = record { forest = h; is_done = refl; spelled = subst (Spelled names whole bytes) (sym w.1) w.0 }
whole_closed names bytes (begun b n a d) w shut = absurd (omega (arith, shut))

ended : (names : List (List ℕ)) (s : Shape) (bytes : List ℕ) (d : PlainDraft) (es : List Event) → IsRead names s bytes d → end_step s ≡ Some es → depth d ≡ 0 → IsWhole names bytes (draft_after names es d)
ended names content bytes d es w e shut = absurd cc
ended names next bytes d es w e shut = absurd cc
ended names (label text) bytes d es w e shut = absurd cc
ended names opened bytes d es w e shut = absurd cc
ended names (string r) bytes d es w e shut = absurd cc
ended names closed bytes d es w e shut =
    let nothing_more : [] ≡ es = cc in
    subst (λ l. IsWhole names bytes (draft_after names l d)) nothing_more (whole_closed names bytes d w shut)
ended names behind bytes d es w e shut =
    let nothing_more : [] ≡ es = cc in
    subst (λ l. IsWhole names bytes (draft_after names l d)) nothing_more (whole_behind names bytes d w shut)
ended names (number Minus) bytes d es w e shut = absurd cc
ended names (number (Digits z)) bytes d es w e shut =
    let pushed : push (Number z) ∷ [] ≡ es = cc in
    subst (λ l. IsWhole names bytes (draft_after names l d)) pushed (whole_behind names bytes (add d (leaf tt (Number z) nil)) (numbered_behind names z bytes d w) (depth-add d (leaf tt (Number z) nil) ∙ shut))
ended names (name text) bytes d es w e shut = by (truth_of text) refl e
  where
    by : (o : Option Atom) → truth_of text ≡ o → end_named o ≡ Some es → IsWhole names bytes (draft_after names es d)
    by None is e = absurd cc
    by (Some x) is e =
        let pushed : push x ∷ [] ≡ es = cc in
        subst (λ l. IsWhole names bytes (draft_after names l d)) pushed (whole_behind names bytes (add d (leaf tt x nil)) (named_behind names text x bytes d is w) (depth-add d (leaf tt x nil) ∙ shut))

-- a text that is read to its end
document_read : (old names : List (List ℕ)) (s : Shape) (bytes : List ℕ) (d new : PlainDraft) (es : List Event) → IsReader old names s bytes d → end_step s ≡ Some es → depth d ≡ 0 → new ≡ draft_after names es d → (v : Plain) × (new ≡ done v) × IsDocument old names bytes v
document_read old names s bytes d new es r e shut draws = by (ended names s bytes d es r.is_read e shut)
  where
    by : IsWhole names bytes (draft_after names es d) → (v : Plain) × (new ≡ done v) × IsDocument old names bytes v
    by i = (
      i.forest,
      draws ∙ i.is_done,
      record {
        spells = record { table = r.table; forest = i.spelled };
        over = record { table = r.table; labels = spelled_labels i.spelled; atoms = spelled_atoms i.spelled };
        learns = learnt_end old names s d es r.learns e ∙ ap (λ f. learnt old (draft_labels names f)) i.is_done;
      },
    )

-- the reader is at a place of the whole text
pub record HasPassed (old names : List (List ℕ)) (bytes : List ℕ) (i : ℕ) (d : PlainDraft) (state : State) : Type 0 where
  pub reader : IsReader old names (shape_of names state) (take i bytes) d
  pub sound : IsSound names state
  pub within : i ≤ length bytes

reader_next : (old names new : List (List ℕ)) (s : Shape) (bytes : List ℕ) (i : ℕ) (d e : PlainDraft) (state : State) → IsReader old names s (take i bytes) d → i < length bytes → IsTable new → IsTaken names (step s (depth d) (get_or bytes i 0)) d new e state → IsReader old new (shape_of new state) (take (i + 1) bytes) e
reader_next old names new s bytes i d e state r below table t =
    subst (λ l. IsReader old new (shape_of new state) l e) (sym (take_more bytes i 0 below)) (reader_step old names new s (get_or bytes i 0) (take i bytes) d e state r table t)

-- a byte is taken
pub byte_taken : (old names new : List (List ℕ)) (bytes : List ℕ) (i : ℕ) (d e : PlainDraft) (state after : State) → HasPassed old names bytes i d state → i < length bytes → IsTable new → IsTaken names (step (shape_of names state) (depth d) (get_or bytes i 0)) d new e after → HasPassed old new bytes (i + 1) e after
byte_taken old names new bytes i d e state after has below table t = record {
  reader = reader_next old names new (shape_of names state) bytes i d e after has.reader below table t;
  sound = t.sound;
  within = omega arith;
}

-- a run of bytes is passed
module _ (old names : List (List ℕ)) (bytes : List ℕ) (i n : ℕ) (d : PlainDraft) where
  unpassed : (state new : State) → HasPassed old names bytes i d state → (n ≡ 0) × (new ≡ state) → HasPassed old names bytes (i + n) d new
  unpassed state new has (none, is) =
      let same : i + n ≡ i = omega (arith, none) in
      subst (λ k. HasPassed old names bytes k d new) (sym same) (subst (HasPassed old names bytes i d) (sym is) has)

  passed_over : (state new : State) → HasPassed old names bytes i d state → Passes state (drop i bytes) n new → HasPassed old names bytes (i + n) d new
  passed_over (Text r) new has (few, s, run, is) = subst (HasPassed old names bytes (i + n) d) (sym is) (record {
    reader = subst (λ l. IsReader old names (string s) l d) (sym (take-add i n bytes)) (reader_passes old names r s (take n (drop i bytes)) (take i bytes) d has.reader run);
    sound = (has.sound.0 ++ take n (drop i bytes), read_then no_text has.sound.0 (take n (drop i bytes)) r has.sound.1 ∙ run);
    within = omega (arith, length-drop i bytes, few, has.within);
  })
  passed_over Content new has p = unpassed Content new has p
  passed_over Tree new has p = unpassed Tree new has p
  passed_over (Name text) (Name longer) has (few, (all, is)) = record {
    reader =
        subst (λ l. IsReader old names (name (string_bytes longer)) l d) (sym (take-add i n bytes))
        (subst (λ l. IsReader old names (name l) (take i bytes ++ take n (drop i bytes)) d) (sym is) (reader_named old names (string_bytes text) (take n (drop i bytes)) (take i bytes) d has.reader all));
    sound = subst IsName (sym is) (longer_name (string_bytes text) (take n (drop i bytes)) has.sound all);
    within = omega (arith, length-drop i bytes, few, has.within);
  }
  passed_over (Name text) Content has p = absurd p.1
  passed_over (Name text) Tree has p = absurd p.1
  passed_over (Name text) (Label a) has p = absurd p.1
  passed_over (Name text) Opened has p = absurd p.1
  passed_over (Name text) Closed has p = absurd p.1
  passed_over (Name text) (Text r) has p = absurd p.1
  passed_over (Name text) (Numbered at) has p = absurd p.1
  passed_over (Name text) Behind has p = absurd p.1
  passed_over (Label a) new has p = unpassed (Label a) new has p
  passed_over Opened new has p = unpassed Opened new has p
  passed_over Closed new has p = unpassed Closed new has p
  passed_over (Numbered at) new has p = unpassed (Numbered at) new has p
  passed_over Behind new has p = unpassed Behind new has p

  pub run_passed : (state new : State) → HasPassed old names bytes i d state → Passes state (take (length bytes - i) (drop i bytes)) n new → HasPassed old names bytes (i + n) d new
  run_passed state new has p =
      passed_over state new has (subst (λ l. Passes state l n new) (take_all (length bytes - i) (drop i bytes) (omega (arith, length-drop i bytes))) p)

module _ (old names : List (List ℕ)) (bytes : List ℕ) (i : ℕ) (d : PlainDraft) where
  -- a byte that fits nowhere
  pub misfit : (state : State) → HasPassed old names bytes i d state → i < length bytes → step (shape_of names state) (depth d) (get_or bytes i 0) ≡ None → IsNoDocument bytes i
  misfit state has below none = misfit_at old names (shape_of names state) bytes i d has.reader below none

  at_end : (state : State) → HasPassed old names bytes i d state → length bytes ≤ i → IsReader old names (shape_of names state) bytes d
  at_end state has past =
      subst (λ l. IsReader old names (shape_of names state) l d) (take_all i bytes past) has.reader

module _ (old names : List (List ℕ)) (bytes : List ℕ) (i : ℕ) (d : PlainDraft) where
  -- the end of the text
  pub document_ends : (new : PlainDraft) (state : State) → HasPassed old names bytes i d state → length bytes ≤ i → IsEnded (end_step (shape_of names state)) d new → (v : Plain) × (new ≡ done v) × IsDocument old names bytes v
  document_ends new state has past e =
      document_read old names (shape_of names state) bytes d new e.events (at_end old names bytes i d state has past) e.fits e.whole (e.draws names)

  pub document_unended : (state : State) → HasPassed old names bytes i d state → length bytes ≤ i → end_fits (end_step (shape_of names state)) (depth d) ≡ false → IsNoDocument bytes (length bytes)
  document_unended state has past e =
      unended old names (shape_of names state) bytes d (at_end old names bytes i d state has past) e

-- nothing is read yet
pub begins_reading : (names : List (List ℕ)) (bytes : List ℕ) (d : PlainDraft) → IsTable names → d ≡ done nil → HasPassed names names bytes 0 d Content
begins_reading names bytes d table new = record {
  reader = subst (IsReader names names content []) (sym new) (reader_new names table);
  sound = tt;
  within = omega arith;
}
