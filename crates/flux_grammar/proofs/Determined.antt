-- A program has one outcome.
use Rattle.std.proofs.Common.{◌≡◌, ℕ, ◌⊎◌, inl, inr, [], ◌∷◌, Option, Some, None, refl, sym, ap, subst, ◌∙◌}
use Rattle.flux_grammar.specs.declared.lexeme.Lexeme.{Lexeme}
use Rattle.flux_grammar.specs.declared.lexeme.Piece.{Piece}
use Rattle.flux_grammar.specs.States.{State, state, end, head, Takes, takes}
use Rattle.flux_grammar.specs.Grammar.{Part, Value}
use Rattle.flux_grammar.specs.Machine.{Prog, done, take, mark, call, body, FreeFor, Outcome, accepts, faults, Lacks, Runs, runs-done, runs-over, runs-take, runs-unfit, runs-mark, runs-call, runs-none, runs-deep}

abbrev pub first : State → Option Piece
first (state e []) = None
first (state e (x ∷ ts)) = Some x

abbrev pub rest : State → State
rest (state e []) = state e []
rest (state e (x ∷ ts)) = state x.span.to ts

takes_first : {k : Lexeme} {s s' : State} {x : Piece} → Takes k s x s' → first s ≡ Some x
takes_first (takes e) = refl

takes_rest : {k : Lexeme} {s s' : State} {x : Piece} → Takes k s x s' → rest s ≡ s'
takes_rest (takes e) = refl

pub takes_head : {k : Lexeme} {s s' : State} {x : Piece} → Takes k s x s' → head s ≡ Some k
takes_head (takes e) = ap Some e

same_token : {k : Lexeme} {s a b : State} {x y : Piece} → Takes k s x a → Takes k s y b → y ≡ x
same_token t u = let e = takes_first t in let f = takes_first u in cc

same_state : {k : Lexeme} {s a b : State} {x y : Piece} → Takes k s x a → Takes k s y b → b ≡ a
same_state t u = sym (takes_rest u) ∙ takes_rest t

abbrev pub Inverse : Option ℕ → Prog → State → Outcome → Type 0
Inverse w (done p v) s o =
    ((head s ≡ None) × (accepts p v ≡ o)) ⊎ ((head s ≡ None → ⊥) × (faults s ≡ o))
Inverse w (take k f) s o =
    ((x : Piece) × (s' : State) × Takes k s x s' × Runs w (f x) s' o) ⊎ (Lacks k s × (faults s ≡ o))
Inverse w (mark f) s o = Runs w (f (end s)) s o
Inverse w (call p k) s o =
    ((q : Prog) × FreeFor w p s × (body p (head s) k ≡ Some q) × Runs w q s o) ⊎ (((body p (head s)
    k ≡ None) ⊎ (FreeFor w p s → ⊥)) × (faults s ≡ o))

pub inverse : {w : Option ℕ} {p : Prog} {s : State} {o : Outcome} → Runs w p s o → Inverse w p s o
inverse (runs-done e) = inl (e, refl)
inverse (runs-over n) = inr (n, refl)
inverse (runs-take t r) = inl (_, _, t, r)
inverse (runs-unfit l) = inr (l, refl)
inverse (runs-mark r) = r
inverse (runs-call f e r) = inl (_, f, e, r)
inverse (runs-none e) = inr (inl e, refl)
inverse (runs-deep d) = inr (inr d, refl)

abbrev Decides : Option ℕ → Prog → State → Outcome → Type 0
Decides w p s o = (o' : Outcome) → Runs w p s o' → o ≡ o'

at_take : (w : Option ℕ) (k : Lexeme) (f : Piece → Prog) (s s' : State) (x : Piece) (o : Outcome) →
    Takes k s x s' → Decides w (f x) s' o → (o' : Outcome) → Inverse w (take k f) s o' → o ≡ o'
at_take w k f s s' x o t d o' (inl (y, s'', u, r)) =
    d o' (subst (λ a. Runs w (f x) a o') (same_state t u) (subst (λ y. Runs w (f y) s'' o')
    (same_token t u) r))
at_take w k f s s' x o t d o' (inr (l, e)) = absurd (l (takes_head t))

at_unfit : (w : Option ℕ) (k : Lexeme) (f : Piece → Prog) (s : State) (o' : Outcome) → Lacks k s →
    Inverse w (take k f) s o' → faults s ≡ o'
at_unfit w k f s o' l (inl (y, s'', u, r)) = absurd (l (takes_head u))
at_unfit w k f s o' l (inr (m, e)) = e

at_call : (w : Option ℕ) (p : Part) (k : Value p → Prog) (q : Prog) (s : State) (o : Outcome) →
    FreeFor w p s → body p (head s) k ≡ Some q → Decides w q s o → (o' : Outcome) →
    Inverse w (call p k) s o' → o ≡ o'
at_call w p k q s o f e d o' (inl (q', f', e', r)) =
    let same : q' ≡ q = cc in d o' (subst (λ q. Runs w q s o') same r)
at_call w p k q s o f e d o' (inr (inl e', _)) = cc
at_call w p k q s o f e d o' (inr (inr n, _)) = absurd (n f)

at_none : (w : Option ℕ) (p : Part) (k : Value p → Prog) (s : State) (o' : Outcome) →
    body p (head s) k ≡ None → Inverse w (call p k) s o' → faults s ≡ o'
at_none w p k s o' e (inl (q', f', e', r)) = cc
at_none w p k s o' e (inr (_, same)) = same

at_deep : (w : Option ℕ) (p : Part) (k : Value p → Prog) (s : State) (o' : Outcome) →
    (FreeFor w p s → ⊥) → Inverse w (call p k) s o' → faults s ≡ o'
at_deep w p k s o' n (inl (q', f', e', r)) = absurd (n f')
at_deep w p k s o' n (inr (_, same)) = same

at_done : (w : Option ℕ) (p : Part) (v : Value p) (s : State) (o' : Outcome) → head s ≡ None →
    Inverse w (done p v) s o' → accepts p v ≡ o'
at_done w p v s o' e (inl (_, same)) = same
at_done w p v s o' e (inr (n, _)) = absurd (n e)

at_over : (w : Option ℕ) (p : Part) (v : Value p) (s : State) (o' : Outcome) → (head s ≡ None → ⊥) →
    Inverse w (done p v) s o' → faults s ≡ o'
at_over w p v s o' n (inl (e, _)) = absurd (n e)
at_over w p v s o' n (inr (_, same)) = same

pub determined : {w : Option ℕ} {p : Prog} {s : State} {o : Outcome} → Runs w p s o →
    (o' : Outcome) → Runs w p s o' → o ≡ o'
determined {w = w} (runs-done {p = p} {v = v} {s = s} e) o' r' = at_done w p v s o' e (inverse r')
determined {w = w} (runs-over {p = p} {v = v} {s = s} n) o' r' = at_over w p v s o' n (inverse r')
determined {w = w} (runs-take {l = k} {f = f} {s = s} {s' = s'} {x = x} {o = o} t r) o' r' =
    at_take w k f s s' x o t (determined r) o' (inverse r')
determined {w = w} (runs-unfit {l = k} {f = f} {s = s} l) o' r' = at_unfit w k f s o' l (inverse r')
determined (runs-mark r) o' r' = determined r o' (inverse r')
determined {w = w} (runs-call {p = p} {k = k} {q = q} {s = s} {o = o} f e r) o' r' =
    at_call w p k q s o f e (determined r) o' (inverse r')
determined {w = w} (runs-none {p = p} {k = k} {s = s} e) o' r' = at_none w p k s o' e (inverse r')
determined {w = w} (runs-deep {p = p} {k = k} {s = s} n) o' r' = at_deep w p k s o' n (inverse r')
