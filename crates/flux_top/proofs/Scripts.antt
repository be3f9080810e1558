-- A script is one tree at most, over one table, or has one fault.
use Rattle.std.proofs.Common.{◌≡◌, ◌⊎◌, ◌+◌, ◌-◌, ◌≤◌, ◌<◌, ◌∙◌, inl, inr, refl, ap, ap₂, sym, subst, ℕ, true, false, Bool, List, [], ◌∷◌, ◌++◌, length, take, drop, map, Option, Some, None, if◌then◌else◌, arith, length-append}
use Rattle.std.specs.Prelude.{All, slice_range}
use Rattle.std.proofs.lemmas.Bool.{cases_lt}
use Rattle.std.proofs.lemmas.List.{length-map, take_at}
use Rattle.std.proofs.lemmas.List.Elements.{All-head, All-tail, All-nil, All-cons}
use Rattle.flux_atom.specs.Names.{IsName, IsTable, name_text}
use Rattle.flux_atom.specs.Reserved.{is_reserved}
use Rattle.flux_atom.specs.Spelling.{IsLongest}
use Rattle.flux_doctext.proofs.ViableLaws.{IsTable-with_text}
use Rattle.flux_grammar.specs.declared.lexeme.Piece.{Piece}
use Rattle.flux_grammar.specs.declared.token.Token.{Token}
use Rattle.flux_grammar.specs.declared.token.TokenKind.{TokenKind}
use Rattle.flux_grammar.specs.declared.token.TokenKind.TheVariants.{Word, Quoted, Var, Str, Number, Sign}
use Rattle.flux_grammar.specs.declared.tree.Path.{Path}
use Rattle.flux_grammar.specs.declared.tree.Script.{Script}
use Rattle.flux_grammar.specs.declared.tree.Stmt.{Stmt}
use Rattle.flux_grammar.specs.declared.tree.Stmt.TheVariants.{Delete}
use Rattle.flux_grammar.specs.Grammar.{script}
use Rattle.flux_grammar.specs.Lexemes.{ArePieces, no_pieces, more_pieces}
use Rattle.flux_grammar.specs.Readings.{Fits, IsRead, Misfit, start_of}
use Rattle.flux_grammar.specs.Tokens.{AreTokens, BeginTokens, IsToken, Lexed, ended, space, comment, token}
use Rattle.flux_grammar.proofs.Final.{one_script, prefixes_fit}
use Rattle.flux_grammar.proofs.OnePiece.{one_list}
use Rattle.flux_grammar.proofs.TokenReads.{tokens_unique}
use Rattle.flux_lex.specs.declared.read.LexFault.TheVariants.{Bad, Memory as NoRoom}
use Rattle.flux_syntax.specs.declared.trees.SynFault.TheVariants.{Syntax, Memory}
use Rattle.flux_syntax.specs.Learnt.{learnt, with_name, written_name}
use Rattle.flux_syntax.proofs.Standing.{StandsIn, each_stands}
use Rattle.flux_report.specs.declared.line.ScriptFault.{ScriptFault}
use Rattle.flux_report.specs.declared.line.ScriptFault.TheVariants.{TooLong, Lex, Syn, Norm}
use Rattle.flux_report.specs.Lines.{script_text, IsShown}
use Rattle.flux_top.specs.Script.{script_limit, lone_label, IsScriptOf, HasNoReading, IsScriptFault, IsDeletion, DeletesNone, DeletesPath}
use Rattle.flux_grammar.specs.NormalFaults.{HasNoFault}
use Rattle.flux_normal.specs.Faults.{IsNormFault}
use Rattle.flux_top.proofs.Deleted.{one_deleted}
use Rattle.flux_top.proofs.Labelled.{deletion_known}
use Rattle.flux_top.proofs.Normals.{no_norm_fault, norm_line_one}

-- ---- the table of the names that a script writes

-- a name without the byte before it, and a label without its quotes
behind_one : (b : ℕ) (name : List ℕ) → drop 1 (b ∷ name) ≡ name
behind_one b name = refl

between_two : (b c : ℕ) (label text : List ℕ) → text ≡ (b ∷ []) ++ (label ++ c ∷ []) → slice_range text 1 (length text - 1) ≡ label
between_two b c label text is =
    let long : length text - 1 - 1 ≡ length label = omega (arith, ap length is, length-append label (c ∷ [])) in
    ap (λ t. take (length text - 1 - 1) (drop 1 t)) is ∙ take_at label (c ∷ []) (length text - 1 - 1) (sym long)

module _ (texts : List (List ℕ)) (table : IsTable texts) where
  shown_word : (text : List ℕ) (held : Bool) → IsName text → IsTable (with_name texts (if held then None else Some text))
  shown_word text true is = table
  shown_word text false is = IsTable-with_text texts text table is

  shown : (kind : TokenKind) (text : List ℕ) → IsToken kind text → IsTable (with_name texts (written_name kind text))
  shown Word text is = shown_word text (is_reserved text) is
  shown Quoted text (label, is, split) =
      IsTable-with_text texts (slice_range text 1 (length text - 1)) table (subst IsName (sym (between_two 39 39 label text split)) is.0)
  shown Var text (name, is, split) =
      IsTable-with_text texts (drop 1 text) table (subst IsName (sym (ap (drop 1) split)) is)
  shown Str text is = table
  shown Number text is = table
  shown Sign text is = table

learnt_table : (bytes : List ℕ) (ts : List Token) (texts : List (List ℕ)) → All (StandsIn bytes) ts → IsTable texts → IsTable (learnt bytes ts texts)
learnt_table bytes [] texts all table = table
learnt_table bytes (t ∷ ts) texts all table =
    let stands = All-head (StandsIn bytes) t ts all in
    learnt_table bytes ts (with_name texts (written_name t.kind (slice_range bytes t.span.from t.span.to))) (All-tail (StandsIn bytes) t ts all) (shown texts table t.kind (slice_range bytes t.span.from t.span.to) stands.is)

empty_table : IsTable []
empty_table = record { names = All-nil IsName; differ = λ i j text is. absurd cc }

written_table : (bytes : List ℕ) (ts : List Token) → AreTokens bytes ts → IsTable (learnt bytes ts [])
written_table bytes ts are = learnt_table bytes ts [] (each_stands bytes ts are) empty_table

-- ---- where a reading stops

-- the longest prefix has one length
pub longest_one : (P : List ℕ → Type 0) (bytes : List ℕ) (m n : ℕ) → IsLongest P bytes m → IsLongest P bytes n → m ≡ n
longest_one P bytes m n is are = by (cases_lt m n) (cases_lt n m)
  where
    by : (m < n) ⊎ (n ≤ m) → (n < m) ⊎ (m ≤ n) → m ≡ n
    by (inl less) _ = absurd (is.longest n less are.within are.holds)
    by (inr _) (inl more) = absurd (are.longest m more is.within is.holds)
    by (inr first) (inr second) = omega (arith, first, second)

-- two ways to cut a list: at one place, or one cut lies before the other
data Cuts (xs ys us vs : List Piece) : Type 0 where
  same_cut : ys ≡ vs → Cuts xs ys us vs
  first_before : (x : Piece) (mid more : List Piece) → ys ≡ x ∷ more → us ≡ (xs ++ x ∷ []) ++ mid → Cuts xs ys us vs
  second_before : (x : Piece) (mid more : List Piece) → vs ≡ x ∷ more → xs ≡ (us ++ x ∷ []) ++ mid → Cuts xs ys us vs

cons_cuts : (a b : Piece) (xs ys us vs : List Piece) → a ≡ b → Cuts xs ys us vs → Cuts (a ∷ xs) ys (b ∷ us) vs
cons_cuts a b xs ys us vs e (same_cut is) = same_cut is
cons_cuts a b xs ys us vs e (first_before x mid more is split) = first_before x mid more is (ap (λ l. b ∷ l) split ∙ ap (λ c. c ∷ ((xs ++ x ∷ []) ++ mid)) (sym e))
cons_cuts a b xs ys us vs e (second_before x mid more is split) = second_before x mid more is (ap (λ l. a ∷ l) split ∙ ap (λ c. c ∷ ((us ++ x ∷ []) ++ mid)) e)

first_same : (a b : Piece) (xs ys : List Piece) → a ∷ xs ≡ b ∷ ys → a ≡ b
first_same a b xs ys e = cc

rest_same : (a b : Piece) (xs ys : List Piece) → a ∷ xs ≡ b ∷ ys → xs ≡ ys
rest_same a b xs ys e = cc

cuts : (xs ys us vs : List Piece) → xs ++ ys ≡ us ++ vs → Cuts xs ys us vs
cuts [] ys [] vs e = same_cut e
cuts [] ys (b ∷ us) vs e = first_before b us (us ++ vs) e refl
cuts (a ∷ xs) ys [] vs e = second_before a xs (xs ++ ys) (sym e) refl
cuts (a ∷ xs) ys (b ∷ us) vs e =
    cons_cuts a b xs ys us vs (first_same a b (xs ++ ys) (us ++ vs) e) (cuts xs ys us vs (rest_same a b (xs ++ ys) (us ++ vs) e))

-- pieces stop fitting at one place
misfit_one : (ps : List Piece) (size m n : ℕ) → Misfit script ps size m → Misfit script ps size n → m ≡ n
misfit_one ps size m n is are = by (cuts is.before is.after are.before are.after (sym is.is ∙ are.is))
  where
    by : Cuts is.before is.after are.before are.after → m ≡ n
    by (same_cut e) = is.there ∙ ap (λ l. start_of l size) e ∙ sym are.there
    by (first_before x mid more e split) =
        absurd (is.misfit x more e (prefixes_fit script (is.before ++ x ∷ []) mid (subst (Fits script) split are.fits)))
    by (second_before x mid more e split) =
        absurd (are.misfit x more e (prefixes_fit script (are.before ++ x ∷ []) mid (subst (Fits script) split is.fits)))

-- ---- one script, or one fault

module _ (bytes : List ℕ) where
  pieces_one : (ts us : List Token) (xs ys : List Piece) → AreTokens bytes ts → AreTokens bytes us → ArePieces (learnt bytes ts []) bytes ts xs → ArePieces (learnt bytes us []) bytes us ys → xs ≡ ys
  pieces_one ts us xs ys are again is others =
      let same = tokens_unique bytes us ts again are in
      one_list (learnt bytes ts []) bytes ts xs ys (written_table bytes ts are) is (subst (λ l. ArePieces (learnt bytes l []) bytes l ys) same others)

  pub tree_one : (t u : Script) (texts others : List (List ℕ)) → IsScriptOf bytes t texts → IsScriptOf bytes u others → (t ≡ u) × (texts ≡ others)
  tree_one t u texts others is are =
      let first = subst (λ l. ArePieces l bytes is.tokens is.reads.0) is.texts_are is.reads.1 in
      let second = subst (λ l. ArePieces l bytes are.tokens are.reads.0) are.texts_are are.reads.1 in
      let pieces = pieces_one is.tokens are.tokens is.reads.0 are.reads.0 is.are are.are first second in
      (one_script are.reads.0 t u (subst (λ l. IsRead script l t) pieces is.reads.2) are.reads.2, is.texts_are ∙ ap (λ l. learnt bytes l []) (tokens_unique bytes is.tokens are.tokens is.are are.are) ∙ sym are.texts_are)

  pub no_reading_one : (m n : ℕ) → HasNoReading bytes m → HasNoReading bytes n → m ≡ n
  no_reading_one m n is are =
      let pieces = pieces_one is.tokens are.tokens is.misfit.0 are.misfit.0 is.are are.are is.misfit.1 are.misfit.1 in
      misfit_one are.misfit.0 (length bytes) m n (subst (λ l. Misfit script l (length bytes) m) pieces is.misfit.2) are.misfit.2

  pub read_or_not : (t : Script) (texts : List (List ℕ)) (n : ℕ) → IsScriptOf bytes t texts → HasNoReading bytes n → ⊥
  read_or_not t texts n is none =
      let first = subst (λ l. ArePieces l bytes is.tokens is.reads.0) is.texts_are is.reads.1 in
      let pieces = pieces_one is.tokens none.tokens is.reads.0 none.misfit.0 is.are none.are first none.misfit.1 in
      none.misfit.2.unread t (subst (λ l. IsRead script l t) pieces is.reads.2)

  -- a script with a normal form has no fault, where it is within the limit
  pub no_fault : (f : ScriptFault) (t : Script) (texts : List (List ℕ)) → IsScriptFault bytes f → length bytes ≤ script_limit → IsScriptOf bytes t texts → HasNoFault t → ⊥
  no_fault TooLong t texts long short is none = omega (arith, long, short)
  no_fault (Lex (Bad place)) t texts (within, fault) short is none = fault.0 is.tokens is.are
  no_fault (Lex (NoRoom error)) t texts fault short is none = fault
  no_fault (Syn (Syntax place)) t texts (within, fault) short is none = read_or_not t texts place is fault
  no_fault (Syn (Memory error)) t texts fault short is none = fault
  no_fault (Norm g) t texts (shows, within, fault) short is none =
      no_norm_fault t g shows (subst (λ u. IsNormFault u g) (tree_one fault.tree t fault.texts texts fault.reads is).0 fault.faulty) none

  -- the line of its fault is one
  pub fault_line_one : (f g : ScriptFault) → IsScriptFault bytes f → IsScriptFault bytes g → script_text bytes f ≡ script_text bytes g
  fault_line_one TooLong TooLong long again = refl
  fault_line_one TooLong (Lex (Bad place)) long (within, fault) = absurd (omega (arith, long, within))
  fault_line_one TooLong (Syn (Syntax place)) long (within, fault) = absurd (omega (arith, long, within))
  fault_line_one (Lex (Bad place)) TooLong (within, fault) long = absurd (omega (arith, long, within))
  fault_line_one (Syn (Syntax place)) TooLong (within, fault) long = absurd (omega (arith, long, within))
  fault_line_one (Lex (Bad m)) (Lex (Bad n)) (within, fault) (again, other) =
      ap (λ p. script_text bytes (Lex (Bad p))) (longest_one BeginTokens bytes m n fault.1 other.1)
  fault_line_one (Lex (Bad m)) (Syn (Syntax n)) (within, fault) (again, other) = absurd (fault.0 other.tokens other.are)
  fault_line_one (Syn (Syntax m)) (Lex (Bad n)) (within, fault) (again, other) = absurd (other.0 fault.tokens fault.are)
  fault_line_one (Syn (Syntax m)) (Syn (Syntax n)) (within, fault) (again, other) =
      ap (λ p. script_text bytes (Syn (Syntax p))) (no_reading_one m n fault other)
  fault_line_one TooLong (Norm g) long (shows, within, fault) = absurd (omega (arith, long, within))
  fault_line_one (Norm f) TooLong (shows, within, fault) long = absurd (omega (arith, long, within))
  fault_line_one (Lex (Bad m)) (Norm g) (within, fault) (shows, again, other) = absurd (fault.0 other.reads.tokens other.reads.are)
  fault_line_one (Norm f) (Lex (Bad n)) (shows, within, fault) (again, other) = absurd (other.0 fault.reads.tokens fault.reads.are)
  fault_line_one (Syn (Syntax m)) (Norm g) (within, fault) (shows, again, other) = absurd (read_or_not other.tree other.texts m other.reads fault)
  fault_line_one (Norm f) (Syn (Syntax n)) (shows, within, fault) (again, other) = absurd (read_or_not fault.tree fault.texts n fault.reads other)
  fault_line_one (Norm f) (Norm g) (shows, within, fault) (visible, again, other) =
      norm_line_one other.tree bytes f g shows visible (subst (λ t. IsNormFault t f) (tree_one fault.tree other.tree fault.texts other.texts fault.reads other.reads).0 fault.faulty) other.faulty
  fault_line_one (Lex (NoRoom error)) g fault other = absurd fault
  fault_line_one (Syn (Memory error)) g fault other = absurd fault
  fault_line_one f (Lex (NoRoom error)) fault other = absurd other
  fault_line_one f (Syn (Memory error)) fault other = absurd other

-- ---- deletions

first_stmt : (a b : Stmt) (xs ys : List Stmt) → a ∷ xs ≡ b ∷ ys → a ≡ b
first_stmt a b xs ys e = cc

all_some : (path other : List ℕ) → map Some path ≡ map Some other → path ≡ other
all_some [] [] e = refl
all_some [] (m ∷ other) e = absurd cc
all_some (n ∷ path) [] e = absurd cc
all_some (n ∷ path) (m ∷ other) e =
    ap₂ (λ k l. k ∷ l) (first_some n m (map Some path) (map Some other) e) (all_some path other (rest_some n m (map Some path) (map Some other) e))
  where
    first_some : (a b : ℕ) (xs ys : List (Option ℕ)) → Some a ∷ xs ≡ Some b ∷ ys → a ≡ b
    first_some a b xs ys e = cc

    rest_some : (a b : ℕ) (xs ys : List (Option ℕ)) → Some a ∷ xs ≡ Some b ∷ ys → xs ≡ ys
    rest_some a b xs ys e = cc

-- a tree deletes one path at most
path_one : (tree : Script) (path other : List ℕ) → IsDeletion tree path → IsDeletion tree other → path ≡ other
path_one tree path other is are =
    let stmts = first_stmt (Delete is.deleted is.at) (Delete are.deleted are.at) [] [] (sym is.body_is ∙ are.body_is) in
    let paths = one_deleted (Delete is.deleted is.at) is.deleted are.deleted is.at are.at refl stmts in
    all_some path other (sym is.labels_are ∙ ap (λ (p : Path). map lone_label p.steps) paths ∙ are.labels_are)

-- so do bytes
pub steps_one : (bytes : List ℕ) (steps others : List (List ℕ)) → DeletesPath bytes steps → DeletesPath bytes others → steps ≡ others
steps_one bytes steps others is are =
    let one = tree_one bytes is.tree are.tree is.texts are.texts is.reads are.reads in
    let path = path_one are.tree is.path are.path (subst (λ t. IsDeletion t is.path) one.0 is.deletion) are.deletion in
    is.steps_are ∙ ap₂ (λ l p. map (name_text l) p) one.1 path ∙ sym are.steps_are

pub deletes_or_none : (bytes : List ℕ) (tree : Script) (texts : List (List ℕ)) (steps : List (List ℕ)) → IsScriptOf bytes tree texts → DeletesNone tree → DeletesPath bytes steps → ⊥
deletes_or_none bytes tree texts steps reads none deletes =
    none deletes.path (subst (λ t. IsDeletion t deletes.path) (tree_one bytes deletes.tree tree deletes.texts texts deletes.reads reads).0 deletes.deletion)

pub steps_some : (bytes : List ℕ) (names : List (List ℕ)) (path : List ℕ) → DeletesPath bytes (map (name_text names) path) → 0 < length path
steps_some bytes names path deletes =
    let known = deletion_known bytes deletes.tree deletes.texts deletes.path deletes.reads deletes.deletion in
    omega (arith, known.0, ap length deletes.steps_are, length-map path (name_text names), length-map deletes.path (name_text deletes.texts))

-- ---- where a fault is shown

-- tokens begin within the bytes
begin_within : (n : ℕ) {at : ℕ} {rest : List ℕ} {ts : List Token} → Lexed at rest ts → at + length rest ≤ n → All (λ t. t.span.from ≤ n) ts
begin_within n ended within = All-nil (λ t. t.span.from ≤ n)
begin_within n (space b is l) within = begin_within n l (omega (arith, within))
begin_within n (comment remark rest all over split l) within =
    begin_within n l (omega (arith, within, ap length split, length-append remark rest))
begin_within n (token {tokens = ts} kind text rest is ends split l) within =
    All-cons (λ t. t.span.from ≤ n) _ ts (omega arith) (begin_within n l (omega (arith, within, ap length split, length-append text rest)))

pieces_within : (n : ℕ) {texts : List (List ℕ)} {bytes : List ℕ} {ts : List Token} {xs : List Piece} → ArePieces texts bytes ts xs → All (λ t. t.span.from ≤ n) ts → All (λ x. x.span.from ≤ n) xs
pieces_within n no_pieces all = All-nil (λ x. x.span.from ≤ n)
pieces_within n (more_pieces {t = t} {ts = ts} {x = x} {xs = xs} same is rest) all =
    All-cons (λ x. x.span.from ≤ n) x xs (omega (arith, ap (λ s. s.from) same, All-head (λ t. t.span.from ≤ n) t ts all)) (pieces_within n rest (All-tail (λ t. t.span.from ≤ n) t ts all))

start_within : (n : ℕ) (before after : List Piece) → All (λ x. x.span.from ≤ n) (before ++ after) → start_of after n ≤ n
start_within n [] [] all = omega arith
start_within n [] (x ∷ after) all = All-head (λ x. x.span.from ≤ n) x after all
start_within n (y ∷ before) after all = start_within n before after (All-tail (λ x. x.span.from ≤ n) y (before ++ after) all)

misfit_within : (bytes : List ℕ) (place : ℕ) → HasNoReading bytes place → place ≤ length bytes
misfit_within bytes place none =
    let m = none.misfit.2 in
    let begin = pieces_within (length bytes) none.misfit.1 (begin_within (length bytes) none.are (omega arith)) in
    omega (arith, m.there, start_within (length bytes) m.before m.after (subst (All (λ x. x.span.from ≤ length bytes)) m.is begin))

-- the place of a fault lies in the script
pub fault_shown : (bytes : List ℕ) (f : ScriptFault) → IsScriptFault bytes f → IsShown bytes f
fault_shown bytes TooLong long = tt
fault_shown bytes (Lex (Bad place)) (within, fault) = fault.1.within
fault_shown bytes (Lex (NoRoom error)) fault = fault
fault_shown bytes (Syn (Syntax place)) (within, fault) = misfit_within bytes place fault
fault_shown bytes (Syn (Memory error)) fault = fault
fault_shown bytes (Norm f) (shows, within, fault) = shows
