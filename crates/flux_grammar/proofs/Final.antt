-- From runs of the machine to readings, for a part behind which nothing stands.
use Rattle.std.proofs.Common.{◌≡◌, ℕ, List, [], ◌∷◌, ◌++◌, length, Option, Some, None, refl, sym, ap, subst, arith, append_assoc, length-append}
use Rattle.std.proofs.lemmas.List.{append-nil}
use Rattle.std.proofs.lemmas.Option.{same_Some}
use Rattle.flux_grammar.specs.declared.lexeme.Piece.{Piece}
use Rattle.flux_grammar.specs.declared.tree.Expr.{Expr}
use Rattle.flux_grammar.specs.declared.tree.Script.{Script}
use Rattle.flux_grammar.specs.declared.tree.TypeText.{TypeText}
use Rattle.flux_grammar.specs.States.{State, state, end, left, head}
use Rattle.flux_grammar.specs.Grammar.{Watched, Part, type, expr, script, Value, Reads}
use Rattle.flux_grammar.specs.Machine.{Prog, done, call, Outcome, accepts, faults, Runs, runs-done}
use Rattle.flux_grammar.specs.Readings.{IsRead, start_of, Misfit, ReadingIsUnique, PrefixesFit, ReadingsFit}
use Rattle.flux_grammar.proofs.Determined.{determined}
use Rattle.flux_grammar.proofs.Finishing.{Means}
use Rattle.flux_grammar.proofs.Follow.{Ends}
use Rattle.flux_grammar.proofs.Located.{sound, locate, Located}
use Rattle.flux_grammar.proofs.Complete.{complete}
use Rattle.flux_grammar.proofs.Weaker.{weaker}

abbrev pub whole : Part → Prog
whole p = call p (λ v. done p v)

-- where the outcomes of two trees of the part are the same, the trees are
abbrev pub Faithful : Part → Type 0
Faithful p = (t u : Value p) → accepts p t ≡ accepts p u → t ≡ u

abbrev type_in : Outcome → Option TypeText
type_in (accepts (type d) t) = Some t
type_in _ = None

abbrev query_in : Outcome → Option Expr
query_in (accepts (expr d) q) = Some q
query_in _ = None

abbrev script_in : Outcome → Option Script
script_in (accepts script t) = Some t
script_in _ = None

pub same_type : Faithful (type 0)
same_type t u e = same_Some t u (ap type_in e)

pub same_query : Faithful (expr 0)
same_query t u e = same_Some t u (ap query_in e)

pub same_script : Faithful script
same_script t u e = same_Some t u (ap script_in e)

none_left : (s : State) → head s ≡ None → s ≡ state (end s) []
none_left (state e []) h = refl
none_left (state e (x ∷ ps)) h = cc

read_of : (p : Part) (w : Option ℕ) (s : State) (o : Outcome) → Means w (whole p) s o →
    (t : Value p) × (e : ℕ) × Reads w p s (state e []) t × (accepts p t ≡ o)
read_of p w s o (t, s', r, (h, e)) =
    (t, end s', subst (λ z. Reads w p s z t) (none_left s' h) r, e)

run_of : (p : Part) → Ends p None → (w : Option ℕ) (s : State) (e : ℕ) (t : Value p) →
    Reads w p s (state e []) t → Runs w (whole p) s (accepts p t)
run_of p ends w s e t r =
    complete r ends (λ t. done p t) (accepts p t) (runs-done refl)

-- where the machine accepts, the tree is read
pub accepted : (p : Part) → Faithful p → (ps : List Piece) (t : Value p) →
    Runs None (whole p) (state 0 ps) (accepts p t) → IsRead p ps t
accepted p same ps t run = of_read (read_of p None (state 0 ps) (accepts p t) (sound run p t refl))
  where
    of_read :
        (u : Value p) × (e : ℕ) × Reads None p (state 0 ps) (state e []) u × (accepts p u ≡ accepts
        p t) → IsRead p ps t
    of_read (u, e, r, alike) =
        (e, subst (λ v. Reads None p (state 0 ps) (state e []) v) (same u t alike) r)

one_reading : (p : Part) → Ends p None → Faithful p → ReadingIsUnique p
one_reading p ends same ps t u (e, r) (e', r') =
    same t u (determined (run_of p ends None (state 0 ps) e t r) (accepts p u) (run_of p ends None
    (state 0 ps) e' u r'))

pub one_script : ReadingIsUnique script
one_script = one_reading script tt same_script

pub one_type : ReadingIsUnique (type 0)
one_type = one_reading (type 0) (omega arith) same_type

pub one_query : ReadingIsUnique (expr 0)
one_query = one_reading (expr 0) (omega arith) same_query

longer : (more qs : List Piece) (s : State) → Watched (Some (length (qs ++ more))) s →
    Watched (Some (length more)) s
longer more qs s h = let e = length-append qs more in omega (arith, e, h)

pub prefixes_fit : (p : Part) → PrefixesFit p
prefixes_fit p ps qs (more, v, e, r) = (
  qs ++ more,
  v,
  e,
  weaker (longer more qs) (subst (λ us. Reads (Some (length more)) p (state 0
      us) (state e []) v) (append_assoc ps qs more) r),
)

pub readings_fit : (p : Part) → ReadingsFit p
readings_fit p ps v (e, r) = (
  [],
  v,
  e,
  weaker (λ s h. tt) (subst (λ us. Reads None p (state 0 us) (state e []) v) (sym
      (append-nil ps)) r),
)

misfit_of : (p : Part) → Ends p None →
    (before : List Piece) (s' : State) (x : Piece) (more : List Piece) →
    Runs (Some (length more)) (whole p) (state 0 (before ++ x ∷ more)) (faults s') →
    (t : Value p) (e : ℕ) →
    Reads (Some (length more)) p (state 0 ((before ++ x ∷ []) ++ more)) (state e []) t → ⊥
misfit_of p ends before s' x more run t e r =
    let q : Reads (Some (length more)) p (state 0 (before ++ x ∷ more)) (state e []) t = subst (λ
    us. Reads (Some (length more)) p (state 0 us) (state e []) t) (append_assoc before (x ∷ [])
    more) r in
    let both = determined (run_of p ends (Some (length more)) (state 0 (before ++ x ∷ more)) e t q)
    (faults s') run in cc

differ : (p : Part) (t : Value p) (s' : State) → accepts p t ≡ faults s' → ⊥
differ p t s' e = cc

-- where the machine faults there is no reading, and the place is that of the first misfit
pub faulted : (p : Part) → Ends p None → (ps : List Piece) (s' : State) (size place : ℕ) →
    place ≡ start_of (left s') size → Runs None (whole p) (state 0 ps) (faults s') → Misfit p ps
    size place
faulted p ends ps s' size place at run = of_located (locate run s' refl)
  where
    of_located : Located (whole p) (state 0 ps) s' → Misfit p ps size place
    of_located l = record {
      before = l.before;
      after = left s';
      is = l.is;
      fits = let r = read_of p _ _ _ l.completes.2 in (l.completes.0, r.0, r.1, r.2);
      misfit =
          λ x q is (more, t, e, r). misfit_of p ends l.before (state (end s') (x ∷ more)) x more
          (l.refuses x q more is) t e r;
      unread =
          λ t (e, r). differ p t s' (determined (run_of p ends None (state 0 ps) e t r) (faults s')
          run);
      there = at;
    }
