-- The machine of tokens reads each list of tokens.
use Rattle.std.proofs.Common.{◌≡◌, ◌≢◌, ℕ, ◌+◌, Bool, true, false, not, ◌&&◌, ◌==◌, List, [], ◌∷◌, ◌++◌, length, All, codes, Option, Some, None, refl, sym, ap, ap₂, subst, ◌∙◌, arith, append_assoc, append-nil, add-zero, if◌then◌else◌, bytes_eq}
use Rattle.std.specs.Prelude.{ℤ, pos, ◌-◌}
use Rattle.std.proofs.lemmas.Bool.{eqb-true, ne_eqb, or_from}
use Rattle.std.proofs.lemmas.Bool.Decides.{nat_tests}
use Rattle.std.proofs.lemmas.List.Elements.{All-head, All-tail}
use Rattle.std.proofs.lemmas.Slice.Eq.{bytes_eq-Decides}
use Rattle.std.specs.Char.{is_ascii_digit}
use Rattle.flux_atom.specs.declared.atom.Atom.TheVariants.{Int as Whole}
use Rattle.flux_atom.specs.declared.number.NumberState.{NumberState}
use Rattle.flux_atom.specs.declared.number.NumberState.TheVariants.{Minus, Digits}
use Rattle.flux_atom.specs.declared.text.TextState.TheVariants.{Between}
use Rattle.flux_atom.specs.Literal.{quote, newline}
use Rattle.flux_atom.specs.Names.{begins_name, continues_name, EndsName, IsLabel, IsName}
use Rattle.flux_atom.specs.NumberSteps.{minus, number_begin, number_from, number_step, read_number}
use Rattle.flux_atom.specs.Space.{is_space}
use Rattle.flux_atom.specs.Spelling.{AreItems, EndsDigits, IsLiteral}
use Rattle.flux_atom.specs.TextSteps.{TextStep, on, closes, misfits, text_step, TextRead, and_read, no_text, read_on, read_text}
use Rattle.flux_atom.proofs.NumberLaws.{literal_reads, no_digit_fits, none_stays}
use Rattle.flux_atom.proofs.TextLaws.{read_items}
use Rattle.flux_grammar.specs.declared.token.TokenKind.{TokenKind}
use Rattle.flux_grammar.specs.declared.token.TokenKind.TheVariants.{Word, Quoted, Var, Str, Number, Sign}
use Rattle.flux_grammar.specs.declared.token.Token.{Token}
use Rattle.flux_grammar.specs.Tokens.{AreTokens, EndsComment, EndsToken, IsToken, Lexed, ended, space, comment, token, token_at}
use Rattle.flux_grammar.specs.TokenSteps.{Stage, blank, remark, word, dollar, variable, opened, label, string, number, sign, closed, goes_on, ends, stuck, begin_stage, is_longer_sign, is_quoted_truth, is_sign, move, number_move, number_stage, string_move, told}
use Rattle.flux_grammar.proofs.TokenRuns.{IsEnd, ends_anew, lexes, lexes_moves, lexes_over, moves, moves_append, moves_step}
use Rattle.flux_grammar.proofs.TokenSigns.{IsShape, longer_first, longer_in, sign_begins, sign_no_number, sign_shape}

-- from their first byte on, the bytes lead there
pub record Leads (text : List ℕ) (s : Stage) : Type 0 where
  pub first : ℕ
  pub others : List ℕ
  pub start : Stage
  pub split : text ≡ first ∷ others
  pub begins : begin_stage first ≡ Some start
  pub reached : moves start (first ∷ []) others ≡ Some s

-- a run over bytes that lead somewhere and end there
pub reads : (ts : List Token) (at : ℕ) (text rest : List ℕ) (s : Stage) (k : Option TokenKind) → Leads text s → IsEnd s text rest k → lexes ts at blank [] (text ++ rest) ≡ lexes (told k ts at (at + length text)) (at + length text) blank [] rest
reads ts at text rest s k l over =
    ap (λ m. lexes ts at blank [] (m ++ rest)) l.split
    ∙ lexes_over ts at blank l.start None [] l.first (l.others ++ rest) refl l.begins
    ∙ ap (λ n. lexes ts n l.start (l.first ∷ []) (l.others ++ rest)) (add-zero at)
    ∙ lexes_moves ts at l.start s (l.first ∷ []) l.others rest l.reached
    ∙ ap (λ m. lexes ts at s m rest) (sym l.split)
    ∙ ends_anew ts at s text rest k over

-- what stays where it is
stays : (P : ℕ → Type 0) (s : Stage) → ((text : List ℕ) (b : ℕ) → P b → move s text b ≡ goes_on s) → (bs text : List ℕ) → All P bs → moves s text bs ≡ Some s
stays P s stay [] text all = refl
stays P s stay (b ∷ bs) text all =
    moves_step s s text b bs (stay text b (All-head P b bs all))
    ∙ stays P s stay bs (text ++ b ∷ []) (All-tail P b bs all)

abbrev Continues : ℕ → Type 0
Continues b = continues_name b ≡ true

word_stays : (text : List ℕ) (b : ℕ) → Continues b → move word text b ≡ goes_on word
word_stays text b e = ap (λ t. if t then goes_on word else ends (Some Word)) e

variable_stays : (text : List ℕ) (b : ℕ) → Continues b → move variable text b ≡ goes_on variable
variable_stays text b e = ap (λ t. if t then goes_on variable else ends (Some Var)) e

label_stays : (text : List ℕ) (b : ℕ) → Continues b → move label text b ≡ goes_on label
label_stays text b e = ap (λ t. if t then goes_on label else (if b == 39 && not (is_quoted_truth text) then goes_on (closed Quoted) else stuck)) e

remark_stays : (text : List ℕ) (b : ℕ) → b ≢ newline → move remark text b ≡ goes_on remark
remark_stays text b other = ap (λ t. if t then ends None else goes_on remark) (ne_eqb b newline other)

-- the first bytes
word_begins : (b : ℕ) → begins_name b ≡ true → begin_stage b ≡ Some word
word_begins b e =
    let no_space : is_space b ≡ false = grind (arith, nat_tests) in
    let no_hash : (b == 35) ≡ false = grind (arith, nat_tests) in
    rw (no_space, no_hash, e) refl

space_begins : (b : ℕ) → is_space b ≡ true → begin_stage b ≡ Some blank
space_begins b e = rw e refl

number_begins : (b : ℕ) (s : NumberState) → number_begin b ≡ Some s → begin_stage b ≡ Some (number s)
number_begins b s e = by (b == minus) refl (is_ascii_digit b) refl
  where
    unsigned : (t : Bool) → is_sign b ≡ t → (if is_sign b then Some (sign b) else number_stage (number_begin b)) ≡ number_stage (number_begin b)
    unsigned true f = let none : ◌≡◌ {A = Option NumberState} None (Some s) = sym (sign_no_number b f) ∙ e in absurd cc
    unsigned false f = ap (λ t. if t then Some (sign b) else number_stage (number_begin b)) f

    neither : (x y : Bool) → (b == minus) ≡ x → is_ascii_digit b ≡ y → (if x then Some Minus else (if y then Some (Digits (pos (b - 48))) else None)) ≡ Some s
    neither x y f h = sym (ap₂ (λ v w. if v then Some Minus else (if w then Some (Digits (pos (b - 48))) else None)) f h) ∙ e

    begun : (t : Bool) → (b == minus) ≡ t → is_ascii_digit b ≡ true → begin_stage b ≡ number_stage (number_begin b)
    begun t f h =
        let no_space : is_space b ≡ false = grind (arith, nat_tests) in
        let no_hash : (b == 35) ≡ false = grind (arith, nat_tests) in
        let no_letter : begins_name b ≡ false = grind (arith, nat_tests) in
        let no_single : (b == 39) ≡ false = grind (arith, nat_tests) in
        let no_dollar : (b == 36) ≡ false = grind (arith, nat_tests) in
        let no_quote : (b == quote) ≡ false = grind (arith, nat_tests) in
        rw (no_space, no_hash, no_letter, no_single, no_dollar, no_quote) (unsigned (is_sign b) refl)

    by : (x : Bool) → (b == minus) ≡ x → (y : Bool) → is_ascii_digit b ≡ y → begin_stage b ≡ Some (number s)
    by true f y h =
        let is : b ≡ minus = eqb-true b minus f in
        subst (λ c. begin_stage c ≡ number_stage (number_begin c)) (sym is) refl ∙ ap number_stage e
    by false f true h = begun false f h ∙ ap number_stage e
    by false f false h = let none : ◌≡◌ {A = Option NumberState} None (Some s) = neither false false f h in absurd cc

-- strings and numbers go on as their own machines do
pub text_moves : (p text : List ℕ) (r s : TextRead) → read_text r p ≡ Some s → moves (string r) text p ≡ Some (string s)
text_moves [] text r s e = let same : r ≡ s = cc in ap (λ t. Some (string t)) same
text_moves (b ∷ p) text r s e = by (text_step r.0 b) refl (λ t f. text_moves p (text ++ b ∷ []) t s f)
  where
    by : (x : TextStep) → text_step r.0 b ≡ x → ((t : TextRead) → read_text t p ≡ Some s → moves (string t) (text ++ b ∷ []) p ≡ Some (string s)) → moves (string r) text (b ∷ p) ≡ Some (string s)
    by (on next added) f rest =
        moves_step (string r) (string (next, r.1 ++ added)) text b p (ap (string_move r) f)
        ∙ rest (next, r.1 ++ added) (sym (ap (λ x. and_read (read_on x r.1) (λ t. read_text t p)) f) ∙ e)
    by closes f rest = let none : ◌≡◌ {A = Option TextRead} None (Some s) = sym (ap (λ x. and_read (read_on x r.1) (λ t. read_text t p)) f) ∙ e in absurd cc
    by misfits f rest = let none : ◌≡◌ {A = Option TextRead} None (Some s) = sym (ap (λ x. and_read (read_on x r.1) (λ t. read_text t p)) f) ∙ e in absurd cc

number_moves : (p text : List ℕ) (s t : NumberState) → number_from (Some s) p ≡ Some t → moves (number s) text p ≡ Some (number t)
number_moves [] text s t e = let same : s ≡ t = cc in ap (λ u. Some (number u)) same
number_moves (b ∷ p) text s t e = by (number_step s b) refl (λ u f. number_moves p (text ++ b ∷ []) u t f)
  where
    by : (x : Option NumberState) → number_step s b ≡ x → ((u : NumberState) → number_from (Some u) p ≡ Some t → moves (number u) (text ++ b ∷ []) p ≡ Some (number t)) → moves (number s) text (b ∷ p) ≡ Some (number t)
    by (Some u) f rest =
        moves_step (number s) (number u) text b p (ap (λ x. number_move s x (is_ascii_digit b)) f)
        ∙ rest u (sym (ap (λ x. number_from x p) f) ∙ e)
    by None f rest = let none : ◌≡◌ {A = Option NumberState} None (Some t) = sym (none_stays p) ∙ sym (ap (λ x. number_from x p) f) ∙ e in absurd cc

-- a token is read, and ends
pub record IsRead (kind : TokenKind) (text rest : List ℕ) : Type 0 where
  pub stage : Stage
  pub leads : Leads text stage
  pub over : IsEnd stage text rest (Some kind)

word_ends : (text rest : List ℕ) → EndsName rest → IsEnd word text rest (Some Word)
word_ends text [] e = refl
word_ends text (b ∷ rest) e = ap (λ t. if t then goes_on word else ends (Some Word)) e

word_read : (text rest : List ℕ) → IsName text → EndsName rest → IsRead Word text rest
word_read [] rest name over = absurd name
word_read (b ∷ text) rest name over = record {
  stage = word;
  leads = record {
    first = b;
    others = text;
    start = word;
    split = refl;
    begins = word_begins b name.0;
    reached = stays Continues word word_stays text (b ∷ []) name.1;
  };
  over = word_ends (b ∷ text) rest over;
}

variable_ends : (text rest : List ℕ) → EndsName rest → IsEnd variable text rest (Some Var)
variable_ends text [] e = refl
variable_ends text (b ∷ rest) e = ap (λ t. if t then goes_on variable else ends (Some Var)) e

variable_read : (text name rest : List ℕ) → IsName name → text ≡ codes "$" ++ name → EndsName rest → IsRead Var text rest
variable_read text [] rest is e over = absurd is
variable_read text (b ∷ name) rest is e over = record {
  stage = variable;
  leads = record {
    first = 36;
    others = b ∷ name;
    start = dollar;
    split = e;
    begins = refl;
    reached =
        moves_step dollar variable (36 ∷ []) b name (ap (λ t. if t then goes_on variable else stuck) is.0)
        ∙ stays Continues variable variable_stays name (36 ∷ b ∷ []) is.1;
  };
  over = variable_ends text rest over;
}

closed_ends : (kind : TokenKind) (text rest : List ℕ) → IsEnd (closed kind) text rest (Some kind)
closed_ends kind text [] = refl
closed_ends kind text (b ∷ rest) = refl

-- a quoted label is none of the quoted truth values
not_truth : (name : List ℕ) → IsLabel name → is_quoted_truth (39 ∷ name) ≡ false
not_truth name is =
    or_from (bytes_eq (39 ∷ name) (codes "'true")) (bytes_eq (39 ∷ name) (codes "'false"))
    (differs (codes "true") is.1 (bytes_eq (39 ∷ name) (codes "'true")) refl)
    (differs (codes "false") is.2 (bytes_eq (39 ∷ name) (codes "'false")) refl)
  where
    differs : (w : List ℕ) → name ≢ w → (t : Bool) → bytes_eq (39 ∷ name) (39 ∷ w) ≡ t → bytes_eq (39 ∷ name) (39 ∷ w) ≡ false
    differs w other true e = let same = (bytes_eq-Decides (39 ∷ name) (39 ∷ w)).0 e in absurd (other cc)
    differs w other false e = e

label_closes : (name : List ℕ) → IsLabel name → move label (39 ∷ name) 39 ≡ goes_on (closed Quoted)
label_closes name is = ap (λ t. if not t then goes_on (closed Quoted) else stuck) (not_truth name is)

quoted_read : (text name rest : List ℕ) → IsLabel name → text ≡ codes "'" ++ (name ++ codes "'") → IsRead Quoted text rest
quoted_read text name rest is e = by name refl is.0
  where
    by : (l : List ℕ) → name ≡ l → IsName l → IsRead Quoted text rest
    by [] f name_is = absurd name_is
    by (b ∷ l) f name_is = record {
      stage = closed Quoted;
      leads = record {
        first = 39;
        others = b ∷ (l ++ 39 ∷ []);
        start = opened;
        split = e ∙ ap (λ m. 39 ∷ (m ++ 39 ∷ [])) f;
        begins = refl;
        reached =
            moves_step opened label (39 ∷ []) b (l ++ 39 ∷ []) (ap (λ t. if t then goes_on label else stuck) name_is.0)
            ∙ moves_append label label (39 ∷ b ∷ []) l (39 ∷ []) (stays Continues label label_stays l (39 ∷ b ∷ []) name_is.1)
            ∙ moves_step label (closed Quoted) (39 ∷ b ∷ l) 39 [] (label_closes (b ∷ l) (subst IsLabel f is));
      };
      over = closed_ends Quoted text rest;
    }

string_read : (text items string_text rest : List ℕ) → AreItems items string_text → text ≡ quote ∷ (items ++ quote ∷ []) → IsRead Str text rest
string_read text items t rest are e = record {
  stage = closed Str;
  leads = record {
    first = quote;
    others = items ++ quote ∷ [];
    start = string no_text;
    split = e;
    begins = refl;
    reached =
        moves_append (string no_text) (string (Between, t)) (quote ∷ []) items (quote ∷ []) (text_moves items (quote ∷ []) no_text (Between, t) (read_items items t [] are))
        ∙ moves_step (string (Between, t)) (closed Str) (quote ∷ items) quote [] refl;
  };
  over = closed_ends Str text rest;
}

number_ends : (text rest : List ℕ) (z : ℤ) → EndsDigits rest → IsEnd (number (Digits z)) text rest (Some Number)
number_ends text [] z e = refl
number_ends text (b ∷ rest) z e = ap₂ (number_move (Digits z)) (no_digit_fits (Digits z) b e) e

number_read : (text rest : List ℕ) (z : ℤ) → IsLiteral text (Whole z) → EndsDigits rest → IsRead Number text rest
number_read text rest z is over = by text refl (literal_reads text z is)
  where
    first : (b : ℕ) (l : List ℕ) → text ≡ b ∷ l → (x : Option NumberState) → number_begin b ≡ x → number_from x l ≡ Some (Digits z) → IsRead Number text rest
    first b l split None e read = let none : ◌≡◌ {A = Option NumberState} None (Some (Digits z)) = sym (none_stays l) ∙ read in absurd cc
    first b l split (Some s) e read = record {
      stage = number (Digits z);
      leads = record {
        first = b;
        others = l;
        start = number s;
        split = split;
        begins = number_begins b s e;
        reached = number_moves l (b ∷ []) s (Digits z) read;
      };
      over = number_ends text rest z over;
    }

    by : (l : List ℕ) → text ≡ l → read_number l ≡ Some (Digits z) → IsRead Number text rest
    by [] split read = absurd cc
    by (b ∷ l) split read = first b l split (number_begin b) refl read

sign_read : (text rest : List ℕ) → IsToken Sign text → EndsToken Sign text rest → IsRead Sign text rest
sign_read text rest is over = by text refl (sign_shape text is) is over
  where
    short_ends : (a : ℕ) (rest : List ℕ) → EndsToken Sign (a ∷ []) rest → IsEnd (sign a) (a ∷ []) rest (Some Sign)
    short_ends a [] over = refl
    short_ends a (b ∷ rest) over = tested (is_longer_sign a b) refl
      where
        tested : (t : Bool) → is_longer_sign a b ≡ t → IsEnd (sign a) (a ∷ []) (b ∷ rest) (Some Sign)
        tested true e = absurd (over (longer_in a b e))
        tested false e = ap (λ t. if t then goes_on (closed Sign) else ends (Some Sign)) e

    by : (l : List ℕ) → text ≡ l → IsShape l → IsToken Sign l → EndsToken Sign l rest → IsRead Sign text rest
    by [] e shape is over = absurd shape
    by (a ∷ []) e shape is over = record {
      stage = sign a;
      leads = record { first = a; others = []; start = sign a; split = e; begins = sign_begins a shape; reached = refl };
      over = subst (λ l. IsEnd (sign a) l rest (Some Sign)) (sym e) (short_ends a rest over);
    }
    by (a ∷ b ∷ []) e shape is over = record {
      stage = closed Sign;
      leads = record {
        first = a;
        others = b ∷ [];
        start = sign a;
        split = e;
        begins = sign_begins a (longer_first a b shape);
        reached = moves_step (sign a) (closed Sign) (a ∷ []) b [] (ap (λ t. if t then goes_on (closed Sign) else ends (Some Sign)) shape);
      };
      over = closed_ends Sign text rest;
    }
    by (a ∷ b ∷ c ∷ l) e shape is over = absurd shape

token_read : (kind : TokenKind) (text rest : List ℕ) → IsToken kind text → EndsToken kind text rest → IsRead kind text rest
token_read Word text rest is over = word_read text rest is over
token_read Quoted text rest is over = quoted_read text is.0 rest is.1 is.2
token_read Var text rest is over = variable_read text is.0 rest is.1 is.2 over
token_read Str text rest is over = string_read text is.1.0 is.0 rest is.1.1 is.1.2
token_read Number text rest is over = number_read text rest is.0 is.1 over
token_read Sign text rest is over = sign_read text rest is over

-- and so are white space and comments
blank_ends : (text rest : List ℕ) → IsEnd blank text rest None
blank_ends text [] = refl
blank_ends text (b ∷ rest) = refl

space_leads : (b : ℕ) → is_space b ≡ true → Leads (b ∷ []) blank
space_leads b e = record { first = b; others = []; start = blank; split = refl; begins = space_begins b e; reached = refl }

remark_ends : (text rest : List ℕ) → EndsComment rest → IsEnd remark text rest None
remark_ends text [] e = refl
remark_ends text (b ∷ rest) e = ap (λ n. if n == newline then ends None else goes_on remark) e

remark_leads : (text : List ℕ) → All (λ b. b ≢ newline) text → Leads (35 ∷ text) remark
remark_leads text all = record {
  first = 35;
  others = text;
  start = remark;
  split = refl;
  begins = refl;
  reached = stays (λ b. b ≢ newline) remark remark_stays text (35 ∷ []) all;
}

-- what bytes are is what the machine gives
pub tokens_read : {at : ℕ} {bytes : List ℕ} {us : List Token} → Lexed at bytes us → (ts : List Token) → lexes ts at blank [] bytes ≡ Some (ts ++ us)
tokens_read ended ts = ap Some (sym (append-nil ts))
tokens_read {at} (space {rest = rest} b is l) ts =
    reads ts at (b ∷ []) rest blank None (space_leads b is) (blank_ends (b ∷ []) rest) ∙ tokens_read l ts
tokens_read {at} (comment {tokens = us} text rest all over e l) ts =
    ap (lexes ts at blank []) (sym e)
    ∙ reads ts at (35 ∷ text) rest remark None (remark_leads text all) (remark_ends (35 ∷ text) rest over)
    ∙ ap (λ n. lexes ts n blank [] rest) (omega arith)
    ∙ tokens_read l ts
tokens_read {at} (token {tokens = us} kind text rest is over e l) ts =
    let read = token_read kind text rest is over in
    ap (lexes ts at blank []) (sym e)
    ∙ reads ts at text rest read.stage (Some kind) read.leads read.over
    ∙ tokens_read l (ts ++ token_at kind at (at + length text) ∷ [])
    ∙ ap Some (append_assoc ts (token_at kind at (at + length text) ∷ []) us)

pub tokens_unique : (bytes : List ℕ) (ts us : List Token) → AreTokens bytes ts → AreTokens bytes us → ts ≡ us
tokens_unique bytes ts us are too =
    let same : ◌≡◌ {A = Option (List Token)} (Some ts) (Some us) = sym (tokens_read are []) ∙ tokens_read too [] in
    cc
