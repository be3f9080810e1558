-- What the machine of tokens reads is tokens, and each of its stages can end.
use Rattle.std.proofs.Common.{◌≡◌, ◌≢◌, ℕ, ◌+◌, Bool, true, false, not, ◌&&◌, ◌==◌, ◌⊎◌, inl, inr, List, [], ◌∷◌, ◌++◌, length, All, Contains, codes, Option, Some, None, refl, sym, ap, subst, ◌∙◌, arith, append_assoc, append-nil, add-zero, if◌then◌else◌, bytes_eq}
use Rattle.std.specs.Prelude.{negsuc}
use Rattle.std.proofs.lemmas.Bool.{and_parts, eqb-true, eqb-false, false≢true, or_from, or_parts}
use Rattle.std.proofs.lemmas.List.{same_from_push}
use Rattle.std.proofs.lemmas.List.Elements.{All-cons, All-head, All-nil, All-push, All-tail}
use Rattle.std.proofs.lemmas.Slice.Eq.{bytes_eq-Decides}
use Rattle.std.specs.Char.{is_ascii_digit}
use Rattle.flux_atom.specs.declared.number.NumberState.{NumberState}
use Rattle.flux_atom.specs.declared.number.NumberState.TheVariants.{Minus, Digits}
use Rattle.flux_atom.specs.declared.text.TextState.TheVariants.{Between}
use Rattle.flux_atom.specs.Literal.{quote, newline}
use Rattle.flux_atom.specs.Names.{begins_name, continues_name, IsName}
use Rattle.flux_atom.specs.NumberSteps.{number_begin, number_step, read_number}
use Rattle.flux_atom.specs.Space.{is_space, IsSpace}
use Rattle.flux_atom.specs.TextSteps.{TextStep, on, closes, misfits, text_step, TextRead, and_read, no_text, read_on, read_text}
use Rattle.flux_atom.proofs.Plain.{name_push}
use Rattle.flux_atom.proofs.NumberLaws.{read_push, says}
use Rattle.flux_atom.proofs.TextLaws.{closes_at_quote, items_read, read_then, text_can_end}
use Rattle.flux_grammar.specs.declared.token.TokenKind.{TokenKind}
use Rattle.flux_grammar.specs.declared.token.TokenKind.TheVariants.{Word, Quoted, Var, Str, Number, Sign}
use Rattle.flux_grammar.specs.declared.token.Token.{Token}
use Rattle.flux_grammar.specs.Tokens.{EndsComment, EndsToken, IsToken, Lexed, ended, space, comment, token, signs, token_at}
use Rattle.flux_grammar.specs.TokenSteps.{Stage, blank, remark, word, dollar, variable, opened, label, string, number, sign, closed, Move, goes_on, ends, stuck, begin_stage, end_move, is_longer_sign, is_quoted_truth, is_sign, move, number_end, number_move, number_stage, string_move, told}
use Rattle.flux_grammar.proofs.TokenRuns.{begun, finished, lexes, lexes_moves, moved, moves, moves_append, moves_step}
use Rattle.flux_grammar.proofs.TokenReads.{text_moves}
use Rattle.flux_grammar.proofs.TokenSigns.{longer_in, sign_in, sign_shape}

-- what a stage says of the bytes that are read of a token
abbrev pub IsSound : Stage → List ℕ → Type 0
IsSound blank text = IsSpace text
IsSound remark text =
    (said : List ℕ) × All (λ b. b ≢ newline) said × (text ≡ codes "#" ++ said)
IsSound word text = IsName text
IsSound dollar text = text ≡ codes "$"
IsSound variable text = (name : List ℕ) × IsName name × (text ≡ codes "$" ++ name)
IsSound opened text = text ≡ codes "'"
IsSound label text = (name : List ℕ) × IsName name × (text ≡ codes "'" ++ name)
IsSound (string r) text =
    (items : List ℕ) × (read_text no_text items ≡ Some r) × (text ≡ quote ∷ items)
IsSound (number s) text = read_number text ≡ Some s
IsSound (sign a) text = (text ≡ a ∷ []) × (is_sign a ≡ true)
IsSound (closed kind) text =
    IsToken kind text × ((rest : List ℕ) → EndsToken kind text rest)

-- what is read ends before these bytes: white space, a comment, or a token of the kind
abbrev pub Completes : Option TokenKind → List ℕ → List ℕ → Type 0
Completes None text rest =
    IsSpace text
    ⊎ ((said : List ℕ) × All (λ b. b ≢ newline) said × (text ≡ codes "#" ++ said) × EndsComment rest)
Completes (Some kind) text rest = IsToken kind text × EndsToken kind text rest

abbrev IsSoundMove : List ℕ → ℕ → Move → Type 0
IsSoundMove text b (goes_on t) = IsSound t (text ++ b ∷ [])
IsSoundMove text b (ends k) = (rest : List ℕ) → Completes k text (b ∷ rest)
IsSoundMove text b stuck = Unit {0}

abbrev IsSoundEnd : List ℕ → Move → Type 0
IsSoundEnd text (goes_on t) = Unit {0}
IsSoundEnd text (ends k) = Completes k text []
IsSoundEnd text stuck = Unit {0}

abbrev IsSoundBegin : ℕ → Option Stage → Type 0
IsSoundBegin b None = Unit {0}
IsSoundBegin b (Some t) = IsSound t (b ∷ [])

-- what holds on both sides of a test
either : {A : Type 0} (P : A → Type 0) (t : Bool) (x y : A) → (t ≡ true → P x) → (t ≡ false → P y) → P (if t then x else y)
either P true x y passed failed = passed refl
either P false x y passed failed = failed refl

name_one : (b : ℕ) → begins_name b ≡ true → IsName (b ∷ [])
name_one b e = (e, All-nil (λ c. continues_name c ≡ true))

-- a name between single quotes that is no truth value
quoted : (text name : List ℕ) (b : ℕ) → IsName name → text ≡ codes "'" ++ name → b ≡ 39 → is_quoted_truth text ≡ false → IsToken Quoted (text ++ b ∷ [])
quoted text name b is e single other =
    let parts = or_parts (bytes_eq text (codes "'true")) (bytes_eq text (codes "'false")) other in
    let differs : (w : List ℕ) → bytes_eq text (39 ∷ w) ≡ false → name ≢ w = λ w f same. false≢true (sym f ∙ (bytes_eq-Decides text (39 ∷ w)).1 (e ∙ ap (λ l. 39 ∷ l) same)) in
    (name, (is, differs (codes "true") parts.0, differs (codes "false") parts.1), ap (λ l. l ++ b ∷ []) e ∙ ap (λ c. 39 ∷ (name ++ c ∷ [])) single)

string_sound : (text items : List ℕ) (r : TextRead) (b : ℕ) → read_text no_text items ≡ Some r → text ≡ quote ∷ items → (x : TextStep) → text_step r.0 b ≡ x → IsSoundMove text b (string_move r x)
string_sound text items r b read e (on next added) step =
    (items ++ b ∷ [], read_then no_text items (b ∷ []) r read ∙ ap (λ x. and_read (read_on x r.1) (λ s. read_text s [])) step, ap (λ l. l ++ b ∷ []) e)
string_sound text items r b read e closes step =
    let at_quote = closes_at_quote r.0 b step in
    let are = items_read items r.1 (read ∙ ap (λ s. Some (s, r.1)) at_quote.0) in
    ((r.1, (items, are, ap (λ l. l ++ b ∷ []) e ∙ ap (λ c. quote ∷ (items ++ c ∷ [])) at_quote.1)), λ rest. tt)
string_sound text items r b read e misfits step = tt

number_over : (text : List ℕ) (s : NumberState) (b : ℕ) → read_number text ≡ Some s → is_ascii_digit b ≡ false → IsSoundMove text b (number_end s)
number_over text Minus b read e = tt
number_over text (Digits z) b read e = λ rest. ((z, says text (Digits z) read), e)

number_sound : (text : List ℕ) (s : NumberState) (b : ℕ) → read_number text ≡ Some s → (x : Option NumberState) → number_step s b ≡ x → IsSoundMove text b (number_move s x (is_ascii_digit b))
number_sound text s b read (Some next) step = read_push text b s read ∙ step
number_sound text s b read None step =
    either (IsSoundMove text b) (is_ascii_digit b) stuck (number_end s) (λ e. tt) (λ e. number_over text s b read e)

sign_sound : (text : List ℕ) (a b : ℕ) → text ≡ a ∷ [] → is_sign a ≡ true → IsSoundMove text b (move (sign a) text b)
sign_sound text a b e is =
    either (IsSoundMove text b) (is_longer_sign a b) (goes_on (closed Sign)) (ends (Some Sign))
    (λ longer. (subst (λ l. IsToken Sign (l ++ b ∷ [])) (sym e) (longer_in a b longer), λ rest. subst (λ l. EndsToken Sign (l ++ b ∷ []) rest) (sym e) (no_longer rest)))
    (λ short rest. (subst (IsToken Sign) (sym e) (sign_in a is), λ at. false≢true (sym short ∙ sign_shape (a ∷ b ∷ []) (subst (λ l. Contains signs (l ++ b ∷ [])) e at))))
  where
    no_longer : (rest : List ℕ) → EndsToken Sign (a ∷ b ∷ []) rest
    no_longer [] = tt
    no_longer (c ∷ rest) = λ at. sign_shape (a ∷ b ∷ c ∷ []) at

-- a byte behind what is read
move_sound : (s : Stage) (text : List ℕ) (b : ℕ) → IsSound s text → IsSoundMove text b (move s text b)
move_sound blank text b is = λ rest. inl is
move_sound remark text b is =
    either (IsSoundMove text b) (b == newline) (ends None) (goes_on remark)
    (λ e rest. inr (is.0, is.1, is.2, eqb-true b newline e))
    (λ e. (is.0 ++ b ∷ [], All-push (λ c. c ≢ newline) is.0 b is.1 (eqb-false b newline e), ap (λ l. l ++ b ∷ []) is.2))
move_sound word text b is =
    either (IsSoundMove text b) (continues_name b) (goes_on word) (ends (Some Word))
    (λ e. name_push text b is e)
    (λ e rest. (is, e))
move_sound dollar text b is =
    either (IsSoundMove text b) (begins_name b) (goes_on variable) stuck
    (λ e. (b ∷ [], name_one b e, ap (λ l. l ++ b ∷ []) is))
    (λ e. tt)
move_sound variable text b is =
    either (IsSoundMove text b) (continues_name b) (goes_on variable) (ends (Some Var))
    (λ e. (is.0 ++ b ∷ [], name_push is.0 b is.1 e, ap (λ l. l ++ b ∷ []) is.2))
    (λ e rest. (is, e))
move_sound opened text b is =
    either (IsSoundMove text b) (begins_name b) (goes_on label) stuck
    (λ e. (b ∷ [], name_one b e, ap (λ l. l ++ b ∷ []) is))
    (λ e. tt)
move_sound label text b is =
    either (IsSoundMove text b) (continues_name b) (goes_on label) (if b == 39 && not (is_quoted_truth text) then goes_on (closed Quoted) else stuck)
    (λ e. (is.0 ++ b ∷ [], name_push is.0 b is.1 e, ap (λ l. l ++ b ∷ []) is.2))
    (λ e. either (IsSoundMove text b) (b == 39 && not (is_quoted_truth text)) (goes_on (closed Quoted)) stuck
    (λ f. let both = and_parts (b == 39) (not (is_quoted_truth text)) f in (quoted text is.0 b is.1 is.2 (eqb-true b 39 both.0) (other (is_quoted_truth text) both.1), λ rest. tt))
    (λ f. tt))
  where
    other : (t : Bool) → not t ≡ true → t ≡ false
    other true e = absurd (false≢true e)
    other false e = refl
move_sound (string r) text b is = string_sound text is.0 r b is.1 is.2 (text_step r.0 b) refl
move_sound (number s) text b is = number_sound text s b is (number_step s b) refl
move_sound (sign a) text b is = sign_sound text a b is.0 is.1
move_sound (closed kind) text b is = λ rest. (is.0, is.1 (b ∷ rest))

-- the first byte
number_begin_sound : (b : ℕ) (x : Option NumberState) → number_begin b ≡ x → IsSoundBegin b (number_stage x)
number_begin_sound b None e = tt
number_begin_sound b (Some s) e = e

-- the tests of `begin_stage`, from one of them on
abbrev from_sign : ℕ → Option Stage
from_sign b = if is_sign b then Some (sign b) else number_stage (number_begin b)

abbrev from_quote : ℕ → Option Stage
from_quote b = if b == quote then Some (string no_text) else from_sign b

abbrev from_dollar : ℕ → Option Stage
from_dollar b = if b == 36 then Some dollar else from_quote b

abbrev from_single : ℕ → Option Stage
from_single b = if b == 39 then Some opened else from_dollar b

abbrev from_letter : ℕ → Option Stage
from_letter b = if begins_name b then Some word else from_single b

abbrev from_hash : ℕ → Option Stage
from_hash b = if b == 35 then Some remark else from_letter b

sign_begun : (b : ℕ) → IsSoundBegin b (from_sign b)
sign_begun b =
    either (IsSoundBegin b) (is_sign b) (Some (sign b)) (number_stage (number_begin b))
    (λ e. (refl, e))
    (λ e. number_begin_sound b (number_begin b) refl)

quote_begun : (b : ℕ) → IsSoundBegin b (from_quote b)
quote_begun b =
    either (IsSoundBegin b) (b == quote) (Some (string no_text)) (from_sign b)
    (λ e. ([], refl, ap (λ c. c ∷ []) (eqb-true b quote e)))
    (λ e. sign_begun b)

dollar_begun : (b : ℕ) → IsSoundBegin b (from_dollar b)
dollar_begun b =
    either (IsSoundBegin b) (b == 36) (Some dollar) (from_quote b)
    (λ e. ap (λ c. c ∷ []) (eqb-true b 36 e))
    (λ e. quote_begun b)

single_begun : (b : ℕ) → IsSoundBegin b (from_single b)
single_begun b =
    either (IsSoundBegin b) (b == 39) (Some opened) (from_dollar b)
    (λ e. ap (λ c. c ∷ []) (eqb-true b 39 e))
    (λ e. dollar_begun b)

letter_begun : (b : ℕ) → IsSoundBegin b (from_letter b)
letter_begun b =
    either (IsSoundBegin b) (begins_name b) (Some word) (from_single b)
    (λ e. name_one b e)
    (λ e. single_begun b)

hash_begun : (b : ℕ) → IsSoundBegin b (from_hash b)
hash_begun b =
    either (IsSoundBegin b) (b == 35) (Some remark) (from_letter b)
    (λ e. ([], All-nil (λ c. c ≢ newline), ap (λ c. c ∷ []) (eqb-true b 35 e)))
    (λ e. letter_begun b)

begin_sound : (b : ℕ) → IsSoundBegin b (begin_stage b)
begin_sound b =
    either (IsSoundBegin b) (is_space b) (Some blank) (from_hash b)
    (λ e. All-cons (λ c. is_space c ≡ true) b [] e (All-nil (λ c. is_space c ≡ true)))
    (λ e. hash_begun b)

-- the end of the bytes
number_end_sound : (text : List ℕ) (s : NumberState) → read_number text ≡ Some s → IsSoundEnd text (number_end s)
number_end_sound text Minus read = tt
number_end_sound text (Digits z) read = ((z, says text (Digits z) read), tt)

end_sound : (s : Stage) (text : List ℕ) → IsSound s text → IsSoundEnd text (end_move s)
end_sound blank text is = inl is
end_sound remark text is = inr (is.0, is.1, is.2, tt)
end_sound word text is = (is, tt)
end_sound dollar text is = tt
end_sound variable text is = (is, tt)
end_sound opened text is = tt
end_sound label text is = tt
end_sound (string r) text is = tt
end_sound (number s) text is = number_end_sound text s is
end_sound (sign a) text is = (subst (IsToken Sign) (sym is.0) (sign_in a is.1), tt)
end_sound (closed kind) text is = (is.0, is.1 [])

-- by the moves
pub goes_on_sound : (s t : Stage) (text : List ℕ) (b : ℕ) → IsSound s text → move s text b ≡ goes_on t → IsSound t (text ++ b ∷ [])
goes_on_sound s t text b is e = subst (IsSoundMove text b) e (move_sound s text b is)

pub begun_sound : (b : ℕ) (t : Stage) → begin_stage b ≡ Some t → IsSound t (b ∷ [])
begun_sound b t e = subst (IsSoundBegin b) e (begin_sound b)

-- what ends, with the tokens behind it
abbrev with_first : Option TokenKind → ℕ → List ℕ → List Token → List Token
with_first None from text us = us
with_first (Some kind) from text us = token_at kind from (from + length text) ∷ us

told_first : (k : Option TokenKind) (ts us : List Token) (from : ℕ) (text : List ℕ) → told k ts from (from + length text) ++ us ≡ ts ++ with_first k from text us
told_first None ts us from text = refl
told_first (Some kind) ts us from text = append_assoc ts (token_at kind from (from + length text) ∷ []) us

spaces_lexed : (text rest : List ℕ) (from : ℕ) (us : List Token) → IsSpace text → Lexed (from + length text) rest us → Lexed from (text ++ rest) us
spaces_lexed [] rest from us is l = subst (λ n. Lexed n rest us) (add-zero from) l
spaces_lexed (b ∷ text) rest from us is l =
    space b (All-head (λ c. is_space c ≡ true) b text is)
    (spaces_lexed text rest (from + 1) us (All-tail (λ c. is_space c ≡ true) b text is) (subst (λ n. Lexed n rest us) (omega arith) l))

completed : (k : Option TokenKind) (text rest : List ℕ) (from : ℕ) (us : List Token) → Completes k text rest → Lexed (from + length text) rest us → Lexed from (text ++ rest) (with_first k from text us)
completed None text rest from us (inl is) l = spaces_lexed text rest from us is l
completed None text rest from us (inr (said, all, e, over)) l =
    comment said rest all over (ap (λ t. t ++ rest) (sym e)) (subst (λ n. Lexed n rest us) (omega (arith, ap length e)) l)
completed (Some kind) text rest from us (is, over) l = token kind text rest is over refl l

-- what a run gives from a place on
pub record IsRun (ts us : List Token) (from : ℕ) (bytes : List ℕ) : Type 0 where
  pub behind : List Token
  pub gives : us ≡ ts ++ behind
  pub lexed : Lexed from bytes behind

abbrev Onward : List ℕ → List Token → Type 0
Onward bs us =
    (ts : List Token) (from : ℕ) (s : Stage) (text : List ℕ) →
    IsSound s text → lexes ts from s text bs ≡ Some us → IsRun ts us from (text ++ bs)

run_sound : (bytes : List ℕ) (ts us : List Token) (from : ℕ) (s : Stage) (text : List ℕ) → IsSound s text → lexes ts from s text bytes ≡ Some us → IsRun ts us from (text ++ bytes)
run_sound [] ts us from s text is e = by (end_move s) refl (end_sound s text is)
  where
    by : (m : Move) → end_move s ≡ m → IsSoundEnd text m → IsRun ts us from (text ++ [])
    by (goes_on t) f sound = let none : ◌≡◌ {A = Option (List Token)} None (Some us) = sym (ap (λ m. finished m ts from text) f) ∙ e in absurd cc
    by stuck f sound = let none : ◌≡◌ {A = Option (List Token)} None (Some us) = sym (ap (λ m. finished m ts from text) f) ∙ e in absurd cc
    by (ends k) f sound =
        let some : ◌≡◌ {A = Option (List Token)} (Some (told k ts from (from + length text))) (Some us) = sym (ap (λ m. finished m ts from text) f) ∙ e in
        let same : told k ts from (from + length text) ≡ us = cc in
        record {
          behind = with_first k from text [];
          gives = sym same ∙ sym (append-nil (told k ts from (from + length text))) ∙ told_first k ts [] from text;
          lexed = completed k text [] from [] sound ended;
        }
run_sound (b ∷ bs) ts us from s text is e =
    by (move s text b) refl (move_sound s text b is) (λ vs at t part sound f. run_sound bs vs us at t part sound f)
  where
    anew : (k : Option TokenKind) → Completes k text (b ∷ bs) → Onward bs us → (x : Option Stage) → begin_stage b ≡ x → begun x (told k ts from (from + length text)) (from + length text) b (λ vs at t part. lexes vs at t part bs) ≡ Some us → IsRun ts us from (text ++ b ∷ bs)
    anew k done rest None f run = absurd cc
    anew k done rest (Some t) f run =
        let r = rest (told k ts from (from + length text)) (from + length text) t (b ∷ []) (begun_sound b t f) run in
        record {
          behind = with_first k from text r.behind;
          gives = r.gives ∙ told_first k ts r.behind from text;
          lexed = completed k text (b ∷ bs) from r.behind done r.lexed;
        }

    by : (m : Move) → move s text b ≡ m → IsSoundMove text b m → Onward bs us → IsRun ts us from (text ++ b ∷ bs)
    by (goes_on t) f sound rest =
        let r = rest ts from t (text ++ b ∷ []) sound (sym (ap (λ m. moved m ts from text b (λ vs at u part. lexes vs at u part bs)) f) ∙ e) in
        subst (IsRun ts us from) (append_assoc text (b ∷ []) bs) r
    by (ends k) f sound rest =
        anew k (sound bs) rest (begin_stage b) refl (sym (ap (λ m. moved m ts from text b (λ vs at u part. lexes vs at u part bs)) f) ∙ e)
    by stuck f sound rest = let none : ◌≡◌ {A = Option (List Token)} None (Some us) = sym (ap (λ m. moved m ts from text b (λ vs at u part. lexes vs at u part bs)) f) ∙ e in absurd cc

pub no_bytes_sound : IsSound blank []
no_bytes_sound = All-nil (λ c. is_space c ≡ true)

-- what a run over all bytes gives
pub tokens_given : (bytes : List ℕ) (us : List Token) → lexes [] 0 blank [] bytes ≡ Some us → Lexed 0 bytes us
tokens_given bytes us e =
    let r = run_sound bytes [] us 0 blank [] no_bytes_sound e in
    subst (Lexed 0 bytes) (sym r.gives) r.lexed

-- bytes that lead to the end of what is read
record CanEnd (s : Stage) (text : List ℕ) : Type 0 where
  more : List ℕ
  stage : Stage
  kind : Option TokenKind
  leads : moves s text more ≡ Some stage
  over : end_move stage ≡ ends kind

ends_here : (s : Stage) (text : List ℕ) (k : Option TokenKind) → end_move s ≡ ends k → CanEnd s text
ends_here s text k e = record { more = []; stage = s; kind = k; leads = refl; over = e }

-- `a'` behind what may be a truth value
no_truth : (text : List ℕ) → is_quoted_truth (text ++ 97 ∷ []) ≡ false
no_truth text =
    or_from (bytes_eq (text ++ 97 ∷ []) (codes "'true")) (bytes_eq (text ++ 97 ∷ []) (codes "'false"))
    (differs (codes "'tru") (bytes_eq (text ++ 97 ∷ []) (codes "'true")) refl)
    (differs (codes "'fals") (bytes_eq (text ++ 97 ∷ []) (codes "'false")) refl)
  where
    differs : (w : List ℕ) (t : Bool) → bytes_eq (text ++ 97 ∷ []) (w ++ 101 ∷ []) ≡ t → bytes_eq (text ++ 97 ∷ []) (w ++ 101 ∷ []) ≡ false
    differs w true e =
        let same = same_from_push text w 97 101 ((bytes_eq-Decides (text ++ 97 ∷ []) (w ++ 101 ∷ [])).0 e) in
        absurd (omega (arith, same.1))
    differs w false e = e

label_ends : (text : List ℕ) → moves label (text ++ 97 ∷ []) (39 ∷ []) ≡ Some (closed Quoted)
label_ends text =
    moves_step label (closed Quoted) (text ++ 97 ∷ []) 39 [] (ap (λ t. if not t then goes_on (closed Quoted) else stuck) (no_truth text))

number_can_end : (s : NumberState) (text : List ℕ) → CanEnd (number s) text
number_can_end Minus text = record {
  more = 49 ∷ [];
  stage = number (Digits (negsuc 0));
  kind = Some Number;
  leads = refl;
  over = refl;
}
number_can_end (Digits z) text = ends_here (number (Digits z)) text (Some Number) refl

string_can_end : (r : TextRead) (text items : List ℕ) → read_text no_text items ≡ Some r → CanEnd (string r) text
string_can_end r text items read =
    let can = text_can_end items r read in
    record {
      more = can.0 ++ quote ∷ [];
      stage = closed Str;
      kind = Some Str;
      leads =
          moves_append (string r) (string (Between, can.1)) text can.0 (quote ∷ []) (text_moves can.0 text r (Between, can.1) can.2)
          ∙ moves_step (string (Between, can.1)) (closed Str) (text ++ can.0) quote [] refl;
      over = refl;
    }

can_end : (s : Stage) (text : List ℕ) → IsSound s text → CanEnd s text
can_end blank text is = ends_here blank text None refl
can_end remark text is = ends_here remark text None refl
can_end word text is = ends_here word text (Some Word) refl
can_end dollar text is = record { more = 97 ∷ []; stage = variable; kind = Some Var; leads = refl; over = refl }
can_end variable text is = ends_here variable text (Some Var) refl
can_end opened text is = record { more = 97 ∷ 39 ∷ []; stage = closed Quoted; kind = Some Quoted; leads = label_ends text; over = refl }
can_end label text is = record { more = 97 ∷ 39 ∷ []; stage = closed Quoted; kind = Some Quoted; leads = label_ends text; over = refl }
can_end (string r) text is = string_can_end r text is.0 is.1
can_end (number s) text is = number_can_end s text
can_end (sign a) text is = ends_here (sign a) text (Some Sign) refl
can_end (closed kind) text is = ends_here (closed kind) text (Some kind) refl

-- a run can end wherever it is
pub run_can_end : (ts : List Token) (from : ℕ) (s : Stage) (text : List ℕ) → IsSound s text → (more : List ℕ) × (us : List Token) × (lexes ts from s text more ≡ Some us)
run_can_end ts from s text is =
    let can = can_end s text is in (
      can.more,
      told can.kind ts from (from + length (text ++ can.more)),
      ap (lexes ts from s text) (sym (append-nil can.more))
          ∙ lexes_moves ts from s can.stage text can.more [] can.leads
          ∙ ap (λ m. finished m ts from (text ++ can.more)) can.over,
    )
