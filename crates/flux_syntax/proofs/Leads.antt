-- How runs of the machine go on, step by step.
use Rattle.std.proofs.Common.{◌≡◌, ℕ, List, [], ◌∷◌, ◌++◌, Some, None, Result, Ok, Err, sym, ap, subst, ◌∙◌, append_assoc, ◌↔◌, ◌<◌, ◌≤◌, ◌-◌, Bool, false, IsTrue, length, get_or, take as take-first, drop, arith}
use Rattle.std.proofs.lemmas.List.{append-nil, take_all}
use Rattle.std.proofs.lemmas.Option.{same_Some}
use mathlib.Core.Path.{fun_ext}
use Rattle.flux_grammar.specs.declared.lexeme.Lexeme.{Lexeme}
use Rattle.flux_grammar.specs.declared.lexeme.Piece.{Piece}
use Rattle.flux_grammar.specs.States.{State, state, end, head, Takes, takes}
use Rattle.flux_grammar.specs.Grammar.{limit, Part, Value}
use Rattle.flux_grammar.specs.Machine.{Prog, take, mark, call, body, FreeFor, Outcome, Runs, runs-take, runs-mark, runs-call, runs-none, runs-unfit, runs-deep}
use Rattle.flux_syntax.specs.declared.reader.Fault.{Fault}
use Rattle.flux_syntax.specs.declared.reader.Fault.TheVariants.{Unfit, Memory}
use Rattle.flux_syntax.specs.Parses.{Reading, Gives, Refused, Gets, Parses, Stops, Took, Made, piece}

-- whatever is to be read behind them, a run of one program from one state is, behind what it takes
-- first, a run of another one from another state
pub data Leads {K : Type 0} (g : K → Prog) (z : State) : (K → Prog) → State → Type 0 where
  leads : {f : K → Prog} {s : State} →
      ((k : K) (o : Outcome) → Runs None (f k) s o → Runs None (g k) z o) → Leads g z f s

pub here : {K : Type 0} (g : K → Prog) (z : State) → Leads g z g z
here g z = leads (λ k o r. r)

pub runs_on : {K : Type 0} {g f : K → Prog} {z s : State} → Leads g z f s → (k : K) (o : Outcome) → Runs None (f k) s o → Runs None (g k) z o
runs_on (leads l) = l

-- into a part, as the next lexeme says
pub into : {K : Type 0} {g : K → Prog} {z s : State} {p : Part} {h : K → Value p → Prog} {f : (Value p → Prog) → Prog} → Leads g z (λ k. call p (h k)) s → FreeFor None p s → ((k : Value p → Prog) → body p (head s) k ≡ Some (f k)) → Leads g z (λ k. f (h k)) s
into {h = h} l free is = leads (λ k o r. runs_on l k o (runs-call free (is (h k)) r))

pub into_at : {K : Type 0} {g : K → Prog} {z s : State} {p : Part} {x : Lexeme} {h : K → Value p → Prog} {f : (Value p → Prog) → Prog} → Leads g z (λ k. call p (h k)) s → FreeFor None p s → head s ≡ Some x → ((k : Value p → Prog) → body p (Some x) k ≡ Some (f k)) → Leads g z (λ k. f (h k)) s
into_at {p = p} l free at is = into l free (λ k. ap (λ y. body p y k) at ∙ is k)

-- over a piece, a part and a mark
pub took : {K : Type 0} {g : K → Prog} {z s s' : State} {x : Lexeme} {y : Piece} {f : K → Piece → Prog} → Leads g z (λ k. take x (f k)) s → Takes x s y s' → Leads g z (λ k. f k y) s'
took l t = leads (λ k o r. runs_on l k o (runs-take t r))

pub given : {K : Type 0} {g : K → Prog} {z s s' : State} {p : Part} {v : Value p} {f : K → Value p → Prog} → Leads g z (λ k. call p (f k)) s → Gives (call p) s s' v → Leads g z (λ k. f k v) s'
given {f = f} l t = leads (λ k o r. runs_on l k o (t (f k) o r))

pub given_by : {A B : Type 0} {g : Reading A} {z s s' : State} {v : B} (q : Reading B) (h : (A → Prog) → B → Prog) → Leads g z (λ k. q (h k)) s → Gives q s s' v → Leads g z (λ k. h k v) s'
given_by q h l t = leads (λ k o r. runs_on l k o (t (h k) o r))

pub past_mark : {K : Type 0} {g : K → Prog} {z s : State} {f : K → ℕ → Prog} → Leads g z (λ k. mark (f k)) s → Leads g z (λ k. f k (end s)) s
past_mark l = leads (λ k o r. runs_on l k o (runs-mark r))

-- what was read, and what is to be read, of a list
pub begun : {A : Type 0} {z : State} {all : List A} (again : Reading (List A)) → all ≡ [] → Leads again z (λ k. again (λ ts. k (all ++ ts))) z
begun {z = z} again e = leads (λ k o r. subst (λ xs. Runs None (again (λ ts. k (xs ++ ts))) z o → Runs None (again k) z o) (sym e) (λ q. q) r)

pub turned : {A : Type 0} {g : (List A → Prog) → Prog} {z s : State} {more : List A} (again : Reading (List A)) (all : List A) (t : A) → more ≡ all ++ t ∷ [] → Leads g z (λ k. again (λ ts. k (all ++ (t ∷ ts)))) s → Leads g z (λ k. again (λ ts. k (more ++ ts))) s
turned {A = A} {s = s} {more = more} again all t e l = leads (λ k o r. runs_on l k o (subst (λ f. Runs None (again f) s o) (fun_ext (λ ts. ap k (ap (λ xs. xs ++ ts) e ∙ append_assoc all (t ∷ []) ts))) r))

-- ---- results

pub gives : {A : Type 0} {g : Reading A} {z s : State} {v : A} → Leads g z (λ k. k v) s → Gives g z s v
gives l = λ k o r. runs_on l k o r

pub gives_as : {A : Type 0} {g : Reading A} {z s : State} {v w : A} → w ≡ v → Leads g z (λ k. k v) s → Gives g z s w
gives_as {g = g} {z = z} {s = s} e l = subst (Gives g z s) (sym e) (gives l)

pub gives_all : {A : Type 0} {g : Reading (List A)} {z s : State} {all : List A} → Leads g z (λ k. k (all ++ [])) s → Gives g z s all
gives_all {s = s} {all = all} l = λ k o r. runs_on l k o (subst (λ xs. Runs None (k xs) s o) (sym (append-nil all)) r)

pub makes : {A : Type 0} {g : Reading A} {z s : State} {v : A} (r : Result A Fault) → Made v r → Leads g z (λ k. k v) s → Gets g z s r
makes {g = g} {z = z} {s = s} (Ok w) m l = subst (Gives g z s) (sym m) (gives l)
makes (Err Unfit) m l = absurd m
makes (Err (Memory error)) m l = tt

-- a part that ends another one
pub ends : {A : Type 0} {g f : Reading A} {z s : State} (s' : State) (r : Result A Fault) → Leads g z f s → Gets f s s' r → Gets g z s' r
ends s' (Ok v) l h = λ k o r. runs_on l k o (h k o r)
ends s' (Err Unfit) l h = λ k. runs_on l k _ (h k)
ends s' (Err (Memory error)) l h = tt

abbrev pub Exits : {A : Type 0} → Result A Fault → Fault → Type 0
Exits r e = (y : Fault) × (r ≡ Err y) × (y ≡ e)

-- a part that stops in another one
pub reading_stops : {A B : Type 0} {g : Reading A} {z s : State} (q : Reading B) (h : (A → Prog) → B → Prog) (s' : State) (r : Result A Fault) (e : Fault) → Leads g z (λ k. q (h k)) s → Exits r e → Gets q s s' (Err e) → Gets g z s' r
reading_stops {g = g} {z = z} {s = s} q h s' r e l x t = subst (Gets g z s') (sym (x.1 ∙ ap Err x.2)) (passed e t)
  where
    passed : (e : Fault) → Gets q s s' (Err e) → Gets g z s' (Err e)
    passed Unfit t = λ k. runs_on l k _ (t (h k))
    passed (Memory error) t = tt

pub part_stops : {A : Type 0} {g : Reading A} {z s : State} {p : Part} {f : (A → Prog) → Value p → Prog} (s' : State) (r : Result A Fault) (e : Fault) → Leads g z (λ k. call p (f k)) s → Exits r e → Parses p s s' (Err e) → Gets g z s' r
part_stops {p = p} {f = f} s' r e l x h = reading_stops (call p) f s' r e l x h

pub piece_stops : {A : Type 0} {g : Reading A} {z s : State} {x : Lexeme} {f : (A → Prog) → Piece → Prog} (s' : State) (r : Result A Fault) (e : Fault) → Leads g z (λ k. take x (f k)) s → Exits r e → Took x s s' (Err e) → Gets g z s' r
piece_stops {g = g} {z = z} {s = s} {x = x} {f = f} s' r e l y h = subst (Gets g z s') (sym (y.1 ∙ ap Err y.2)) (passed e h)
  where
    passed : (e : Fault) → Took x s s' (Err e) → Gets g z s' (Err e)
    passed Unfit h = λ k. runs_on l k _ (h (f k))
    passed (Memory error) h = absurd h

-- the same reading
pub passes : {A : Type 0} (g : Reading A) (z s' : State) (r : Result A Fault) (e : Fault) → Exits r e → Gets g z s' (Err e) → Gets g z s' r
passes g z s' r e x h = subst (Gets g z s') (sym (x.1 ∙ ap Err x.2)) h

pub same_tree : {A : Type 0} {g : Reading A} {z s : State} {v w : A} → w ≡ v → Gives g z s v → Gives g z s w
same_tree {g = g} {z = z} {s = s} e l = subst (Gives g z s) (sym e) l

-- the part lies too deep to begin here
pub deep_here : (p : Part) (s : State) (d : ℕ) → limit ≤ d → (FreeFor None p s → d < limit) → Refused (call p) s s
deep_here p s d deep free = λ k. runs-deep (λ f. let below = free f in omega (arith, deep, below))

-- nothing of the part can begin here
pub none_here : (p : Part) (s : State) → ((k : Value p → Prog) → body p (head s) k ≡ None) → Refused (call p) s s
none_here p s is = λ k. runs-none (is k)

-- ---- single pieces

pub takes_first : (e : ℕ) (ps : List Piece) (d : Piece) (l : Lexeme) → 0 < length ps → head (state e ps) ≡ Some l → Takes l (state e ps) (piece l (get_or ps 0 d).span) (state (get_or ps 0 d).span.to (take-first (length ps - 1) (drop 1 ps)))
takes_first e [] d l some at = absurd (omega (arith, some))
takes_first e (x ∷ ps) d l some at =
    let is : x.lexeme ≡ l = same_Some x.lexeme l at in
    subst (λ k. Takes l (state e (x ∷ ps)) (piece k x.span) (rest (take-first (length (x ∷ ps) - 1) (drop 1 (x ∷ ps))))) is (subst (λ qs. Takes l (state e (x ∷ ps)) x (rest qs)) (sym (take_all (length (x ∷ ps) - 1) ps (omega arith))) (takes is))
  where
    rest : List Piece → State
    rest qs = state x.span.to qs

pub stops_here : {b : Bool} (l : Lexeme) (s : State) → IsTrue b ↔ (head s ≡ Some l) → b ≡ false → Stops l s s
stops_here l s here e = λ f. runs-unfit (λ at. let yes = here.1 at in cc)
