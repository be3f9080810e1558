-- Whole runs of the machine of tokens: the tokens that bytes give.
use Rattle.std.proofs.Common.{◌≡◌, ℕ, ◌+◌, List, [], ◌∷◌, ◌++◌, length, Option, Some, None, refl, sym, ap, ap₂, ◌∙◌, append_assoc, append-nil, add-zero}
use Rattle.flux_grammar.specs.declared.token.TokenKind.{TokenKind}
use Rattle.flux_grammar.specs.declared.token.Token.{Token}
use Rattle.flux_grammar.specs.TokenSteps.{Stage, blank, Move, goes_on, ends, stuck, begin_stage, end_move, move, told}

-- the rest of a run: the tokens so far, where what is read began, what it is, and its bytes
abbrev pub Go : Type 0
Go = List Token → ℕ → Stage → List ℕ → Option (List Token)

abbrev pub begun : Option Stage → List Token → ℕ → ℕ → Go → Option (List Token)
begun None ts at b go = None
begun (Some t) ts at b go = go ts at t (b ∷ [])

abbrev pub moved : Move → List Token → ℕ → List ℕ → ℕ → Go → Option (List Token)
moved (goes_on t) ts from text b go = go ts from t (text ++ b ∷ [])
moved (ends k) ts from text b go =
    begun (begin_stage b) (told k ts from (from + length text)) (from + length text) b go
moved stuck ts from text b go = None

abbrev pub finished : Move → List Token → ℕ → List ℕ → Option (List Token)
finished (goes_on t) ts from text = None
finished (ends k) ts from text = Some (told k ts from (from + length text))
finished stuck ts from text = None

abbrev pub lexes : List Token → ℕ → Stage → List ℕ → List ℕ → Option (List Token)
lexes ts from s text [] = finished (end_move s) ts from text
lexes ts from s text (b ∷ bs) =
    moved (move s text b) ts from text b (λ us at t part. lexes us at t part bs)

-- what the byte does, in a run
pub lexes_on : (ts : List Token) (from : ℕ) (s t : Stage) (text : List ℕ) (b : ℕ) (bs : List ℕ) → move s text b ≡ goes_on t → lexes ts from s text (b ∷ bs) ≡ lexes ts from t (text ++ b ∷ []) bs
lexes_on ts from s t text b bs e = ap (λ m. moved m ts from text b (λ us at u part. lexes us at u part bs)) e

pub lexes_over : (ts : List Token) (from : ℕ) (s t : Stage) (k : Option TokenKind) (text : List ℕ) (b : ℕ) (bs : List ℕ) → move s text b ≡ ends k → begin_stage b ≡ Some t → lexes ts from s text (b ∷ bs) ≡ lexes (told k ts from (from + length text)) (from + length text) t (b ∷ []) bs
lexes_over ts from s t k text b bs e f =
    ap (λ m. moved m ts from text b (λ us at u part. lexes us at u part bs)) e
    ∙ ap (λ x. begun x (told k ts from (from + length text)) (from + length text) b (λ us at u part. lexes us at u part bs)) f

pub lexes_stuck : (ts : List Token) (from : ℕ) (s : Stage) (text : List ℕ) (b : ℕ) (bs : List ℕ) → move s text b ≡ stuck → lexes ts from s text (b ∷ bs) ≡ None
lexes_stuck ts from s text b bs e = ap (λ m. moved m ts from text b (λ us at u part. lexes us at u part bs)) e

pub lexes_misfit : (ts : List Token) (from : ℕ) (s : Stage) (k : Option TokenKind) (text : List ℕ) (b : ℕ) (bs : List ℕ) → move s text b ≡ ends k → begin_stage b ≡ None → lexes ts from s text (b ∷ bs) ≡ None
lexes_misfit ts from s k text b bs e f =
    ap (λ m. moved m ts from text b (λ us at u part. lexes us at u part bs)) e
    ∙ ap (λ x. begun x (told k ts from (from + length text)) (from + length text) b (λ us at u part. lexes us at u part bs)) f

-- where what is read ends before other bytes, the run begins anew there
abbrev pub IsEnd : Stage → List ℕ → List ℕ → Option TokenKind → Type 0
IsEnd s text [] k = end_move s ≡ ends k
IsEnd s text (b ∷ bs) k = move s text b ≡ ends k

pub ends_anew : (ts : List Token) (from : ℕ) (s : Stage) (text rest : List ℕ) (k : Option TokenKind) → IsEnd s text rest k → lexes ts from s text rest ≡ lexes (told k ts from (from + length text)) (from + length text) blank [] rest
ends_anew ts from s text [] k e = ap (λ m. finished m ts from text) e
ends_anew ts from s text (b ∷ bs) k e =
    ap (λ m. moved m ts from text b (λ us at u part. lexes us at u part bs)) e
    ∙ ap (λ n. begun (begin_stage b) (told k ts from (from + length text)) n b (λ us at u part. lexes us at u part bs)) (sym (add-zero (from + length text)))

-- bytes with which what is read goes on
abbrev pub and_moves : Move → (Stage → Option Stage) → Option Stage
and_moves (goes_on t) go = go t
and_moves (ends k) go = None
and_moves stuck go = None

abbrev pub moves : Stage → List ℕ → List ℕ → Option Stage
moves s text [] = Some s
moves s text (b ∷ bs) = and_moves (move s text b) (λ t. moves t (text ++ b ∷ []) bs)

pub moves_step : (s t : Stage) (text : List ℕ) (b : ℕ) (bs : List ℕ) → move s text b ≡ goes_on t → moves s text (b ∷ bs) ≡ moves t (text ++ b ∷ []) bs
moves_step s t text b bs e = ap (λ m. and_moves m (λ u. moves u (text ++ b ∷ []) bs)) e

-- a run over such bytes, and then others
pub moves_append : (s t : Stage) (text p q : List ℕ) → moves s text p ≡ Some t → moves s text (p ++ q) ≡ moves t (text ++ p) q
moves_append s t text [] q e =
    let same : s ≡ t = cc in
    ap₂ (λ u l. moves u l q) same (sym (append-nil text))
moves_append s t text (b ∷ p) q e = by (move s text b) refl (λ u f. moves_append u t (text ++ b ∷ []) p q f)
  where
    by : (m : Move) → move s text b ≡ m → ((u : Stage) → moves u (text ++ b ∷ []) p ≡ Some t → moves u (text ++ b ∷ []) (p ++ q) ≡ moves t ((text ++ b ∷ []) ++ p) q) → moves s text (b ∷ (p ++ q)) ≡ moves t (text ++ b ∷ p) q
    by (goes_on u) f rest =
        moves_step s u text b (p ++ q) f
        ∙ rest u (sym (moves_step s u text b p f) ∙ e)
        ∙ ap (λ l. moves t l q) (append_assoc text (b ∷ []) p)
    by (ends k) f rest = let none : ◌≡◌ {A = Option Stage} None (Some t) = sym (ap (λ m. and_moves m (λ u. moves u (text ++ b ∷ []) p)) f) ∙ e in absurd cc
    by stuck f rest = let none : ◌≡◌ {A = Option Stage} None (Some t) = sym (ap (λ m. and_moves m (λ u. moves u (text ++ b ∷ []) p)) f) ∙ e in absurd cc

pub lexes_moves : (ts : List Token) (from : ℕ) (s t : Stage) (text p q : List ℕ) → moves s text p ≡ Some t → lexes ts from s text (p ++ q) ≡ lexes ts from t (text ++ p) q
lexes_moves ts from s t text [] q e =
    let same : s ≡ t = cc in
    ap₂ (λ u l. lexes ts from u l q) same (sym (append-nil text))
lexes_moves ts from s t text (b ∷ p) q e = by (move s text b) refl (λ u f. lexes_moves ts from u t (text ++ b ∷ []) p q f)
  where
    by : (m : Move) → move s text b ≡ m → ((u : Stage) → moves u (text ++ b ∷ []) p ≡ Some t → lexes ts from u (text ++ b ∷ []) (p ++ q) ≡ lexes ts from t ((text ++ b ∷ []) ++ p) q) → lexes ts from s text (b ∷ (p ++ q)) ≡ lexes ts from t (text ++ b ∷ p) q
    by (goes_on u) f rest =
        lexes_on ts from s u text b (p ++ q) f
        ∙ rest u (sym (moves_step s u text b p f) ∙ e)
        ∙ ap (λ l. lexes ts from t l q) (append_assoc text (b ∷ []) p)
    by (ends k) f rest = let none : ◌≡◌ {A = Option Stage} None (Some t) = sym (ap (λ m. and_moves m (λ u. moves u (text ++ b ∷ []) p)) f) ∙ e in absurd cc
    by stuck f rest = let none : ◌≡◌ {A = Option Stage} None (Some t) = sym (ap (λ m. and_moves m (λ u. moves u (text ++ b ∷ []) p)) f) ∙ e in absurd cc
