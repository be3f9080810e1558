-- How far the tokens of bytes are read.
use Rattle.std.proofs.Common.{◌≡◌, ℕ, suc, ◌+◌, ◌-◌, ◌<◌, ◌≤◌, List, [], ◌∷◌, ◌++◌, length, take, drop, get_or, Option, Some, None, refl, sym, ap, subst, ◌∙◌, arith, append_assoc, append-nil, length-drop, length-take-le, get_or-drop, take-append-drop, take_all}
use Rattle.std.proofs.lemmas.List.{drop_more, take_more}
use lib.Seq.{take-append-add}
use Rattle.flux_grammar.specs.declared.token.TokenKind.{TokenKind}
use Rattle.flux_grammar.specs.declared.token.Token.{Token}
use Rattle.flux_grammar.specs.Tokens.{AreTokens, BeginTokens}
use Rattle.flux_grammar.specs.TokenSteps.{Stage, blank, goes_on, ends, stuck, begin_stage, end_move, move, told}
use Rattle.flux_grammar.proofs.TokenReads.{tokens_read}
use Rattle.flux_grammar.proofs.TokenRuns.{finished, lexes, lexes_misfit, lexes_on, lexes_over, lexes_stuck}
use Rattle.flux_grammar.proofs.TokenSound.{IsSound, begun_sound, goes_on_sound, no_bytes_sound, run_can_end, tokens_given}
use Rattle.flux_lex.specs.declared.read.LexFault.TheVariants.{Bad}
use Rattle.flux_lex.specs.declared.state.Move.{Move}
use Rattle.flux_lex.specs.declared.state.Move.TheVariants.{On, Ends, Stuck}
use Rattle.flux_lex.specs.Fault.{IsLexFault}
use Rattle.flux_lex.specs.Stages.{move_of}

-- the bytes from one place to another
abbrev pub part : List ℕ → ℕ → ℕ → List ℕ
part bytes from to = take (to - from) (drop from bytes)

-- the bytes before a place are read: the tokens so far, and where the stage began
pub record HasRead (bytes : List ℕ) (place from : ℕ) (s : Stage) (ts : List Token) : Type 0 where
  pub within : place ≤ length bytes
  pub start : from ≤ place
  pub sound : IsSound s (part bytes from place)
  pub runs : (rest : List ℕ) →
      lexes [] 0 blank [] (take place bytes ++ rest) ≡ lexes ts from s (part bytes from place) rest

pub nothing_read : (bytes : List ℕ) → HasRead bytes 0 0 blank []
nothing_read bytes = record {
  within = omega arith;
  start = omega arith;
  sound = no_bytes_sound;
  runs = λ rest. refl;
}

module _ (bytes : List ℕ) (place from : ℕ) (s : Stage) (ts : List Token) (read : HasRead bytes place from s ts) where
  part_length : from + length (part bytes from place) ≡ place
  part_length = omega (arith, length-take-le (place - from) (drop from bytes) (omega (arith, length-drop from bytes, read.within, read.start)), read.start)

  module _ (below : place < length bytes) where
    -- one more byte
    longer : (rest : List ℕ) → take (place + 1) bytes ++ rest ≡ take place bytes ++ (get_or bytes place 0 ∷ rest)
    longer rest = ap (λ l. l ++ rest) (take_more bytes place 0 below) ∙ append_assoc (take place bytes) (get_or bytes place 0 ∷ []) rest

    here : get_or (drop from bytes) (place - from) 0 ≡ get_or bytes place 0
    here =
        let there : from + (place - from) ≡ place = omega (arith, read.start) in
        get_or-drop from bytes (place - from) 0 ∙ ap (λ n. get_or bytes n 0) there

    longer_part : part bytes from (place + 1) ≡ part bytes from place ++ get_or bytes place 0 ∷ []
    longer_part =
        let more : place + 1 - from ≡ place - from + 1 = omega (arith, read.start) in
        ap (λ n. take n (drop from bytes)) more
        ∙ take_more (drop from bytes) (place - from) 0 (omega (arith, length-drop from bytes, read.start))
        ∙ ap (λ b. part bytes from place ++ b ∷ []) here

    new_part : part bytes place (place + 1) ≡ get_or bytes place 0 ∷ []
    new_part =
        let one : place + 1 - place ≡ 1 = omega arith in
        ap (λ n. take n (drop place bytes)) one
        ∙ ap (take 1) (drop_more bytes place 0 below)

    pub went_on : (t : Stage) → move s (part bytes from place) (get_or bytes place 0) ≡ goes_on t → HasRead bytes (place + 1) from t ts
    went_on t e = record {
      within = omega arith;
      start = omega (arith, read.start);
      sound = subst (IsSound t) (sym longer_part) (goes_on_sound s t (part bytes from place) (get_or bytes place 0) read.sound e);
      runs = λ rest.
          ap (lexes [] 0 blank []) (longer rest)
          ∙ read.runs (get_or bytes place 0 ∷ rest)
          ∙ lexes_on ts from s t (part bytes from place) (get_or bytes place 0) rest e
          ∙ ap (λ l. lexes ts from t l rest) (sym longer_part);
    }

    pub went_over : (k : Option TokenKind) (t : Stage) → move s (part bytes from place) (get_or bytes place 0) ≡ ends k → begin_stage (get_or bytes place 0) ≡ Some t → HasRead bytes (place + 1) place t (told k ts from place)
    went_over k t e f = record {
      within = omega arith;
      start = omega arith;
      sound = subst (IsSound t) (sym new_part) (begun_sound (get_or bytes place 0) t f);
      runs = λ rest.
          ap (lexes [] 0 blank []) (longer rest)
          ∙ read.runs (get_or bytes place 0 ∷ rest)
          ∙ lexes_over ts from s t k (part bytes from place) (get_or bytes place 0) rest e f
          ∙ ap (λ n. lexes (told k ts from n) n t (get_or bytes place 0 ∷ []) rest) part_length
          ∙ ap (λ l. lexes (told k ts from place) place t l rest) (sym new_part);
    }

  -- what is read begins tokens
  front_length : length (take place bytes) ≡ place
  front_length = length-take-le place bytes read.within

  begins : BeginTokens (take place bytes)
  begins =
      let can = run_can_end ts from s (part bytes from place) read.sound in
      (can.0, can.1, tokens_given (take place bytes ++ can.0) can.1 (read.runs can.0 ∙ can.2))

  module _ (below : place < length bytes) (none : (rest : List ℕ) → lexes ts from s (part bytes from place) (get_or bytes place 0 ∷ rest) ≡ None) where
    no_tokens : (rest : List ℕ) (us : List Token) → AreTokens (take place bytes ++ (get_or bytes place 0 ∷ rest)) us → ⊥
    no_tokens rest us are =
        let same : ◌≡◌ {A = Option (List Token)} None (Some us) = sym (none rest) ∙ sym (read.runs (get_or bytes place 0 ∷ rest)) ∙ tokens_read are [] in
        cc

    split : bytes ≡ take place bytes ++ (get_or bytes place 0 ∷ drop (place + 1) bytes)
    split = sym (take-append-drop place bytes) ∙ ap (λ l. take place bytes ++ l) (drop_more bytes place 0 below)

    prefix : (k : ℕ) → take (place + suc k) bytes ≡ take place bytes ++ (get_or bytes place 0 ∷ take k (drop (place + 1) bytes))
    prefix k =
        ap (take (place + suc k)) split
        ∙ ap (λ n. take (n + suc k) (take place bytes ++ (get_or bytes place 0 ∷ drop (place + 1) bytes))) (sym front_length)
        ∙ take-append-add (take place bytes) (get_or bytes place 0 ∷ drop (place + 1) bytes) (suc k)

    not_longer : (k : ℕ) → BeginTokens (take (place + suc k) bytes) → ⊥
    not_longer k (more, us, are) =
        no_tokens (take k (drop (place + 1) bytes) ++ more) us
        (subst (λ l. AreTokens l us) (ap (λ l. l ++ more) (prefix k) ∙ append_assoc (take place bytes) (get_or bytes place 0 ∷ take k (drop (place + 1) bytes)) more) are)

    misfits : IsLexFault bytes (Bad place)
    misfits = (
      λ us are. no_tokens (drop (place + 1) bytes) us (subst (λ l. AreTokens l us) split are),
      record {
        within = read.within;
        holds = begins;
        longest = λ m above within h. not_longer (m - place - 1) (subst (λ n. BeginTokens (take n bytes)) (omega arith) h);
      },
    )

  pub byte_stuck : place < length bytes → move s (part bytes from place) (get_or bytes place 0) ≡ stuck → IsLexFault bytes (Bad place)
  byte_stuck below e = misfits below (λ rest. lexes_stuck ts from s (part bytes from place) (get_or bytes place 0) rest e)

  pub byte_misfits : (k : Option TokenKind) → place < length bytes → move s (part bytes from place) (get_or bytes place 0) ≡ ends k → begin_stage (get_or bytes place 0) ≡ None → IsLexFault bytes (Bad place)
  byte_misfits k below e f = misfits below (λ rest. lexes_misfit ts from s k (part bytes from place) (get_or bytes place 0) rest e f)

  -- all bytes are read
  module _ (whole : place ≡ length bytes) where
    all_read : take place bytes ≡ bytes
    all_read = take_all place bytes (omega arith)

    at_end : lexes [] 0 blank [] bytes ≡ finished (end_move s) ts from (part bytes from place)
    at_end = ap (lexes [] 0 blank []) (sym (append-nil (take place bytes) ∙ all_read)) ∙ read.runs []

    pub read_whole : (k : Option TokenKind) → end_move s ≡ ends k → AreTokens bytes (told k ts from place)
    read_whole k e =
        tokens_given bytes (told k ts from place)
        (at_end ∙ ap (λ m. finished m ts from (part bytes from place)) e ∙ ap (λ n. Some (told k ts from n)) part_length)

    unfinished : finished (end_move s) ts from (part bytes from place) ≡ None → IsLexFault bytes (Bad place)
    unfinished e = (
      λ us are. absent us (sym e ∙ sym at_end ∙ tokens_read are []),
      record {
        within = read.within;
        holds = begins;
        longest = λ m above within h. absurd (omega arith);
      },
    )
      where
        absent : (us : List Token) → ◌≡◌ {A = Option (List Token)} None (Some us) → ⊥
        absent us same = cc

    pub unended : (m : Move) → ((k : Option TokenKind) → m ≡ Ends k → ⊥) → move_of m ≡ end_move s → IsLexFault bytes (Bad place)
    unended m none e = unfinished (ap (λ n. finished n ts from (part bytes from place)) (sym e) ∙ by m none)
      where
        by : (m : Move) → ((k : Option TokenKind) → m ≡ Ends k → ⊥) → finished (move_of m) ts from (part bytes from place) ≡ None
        by (On state) none = refl
        by (Ends k) none = absurd (none k refl)
        by Stuck none = refl
