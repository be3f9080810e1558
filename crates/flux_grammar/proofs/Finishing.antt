-- Each program can be finished, where the pieces that come are not watched.
use Rattle.std.proofs.Common.{◌≡◌, ℕ, ◌≤◌, List, [], ◌∷◌, ◌++◌, length, Option, Some, None, true, refl, arith, length-append}
use Rattle.flux_atom.specs.declared.atom.AtomKind.TheVariants as kind
use Rattle.flux_grammar.specs.declared.lexeme.Keyword.TheVariants as key
use Rattle.flux_grammar.specs.declared.lexeme.Lexeme.{Lexeme}
use Rattle.flux_grammar.specs.declared.lexeme.Lexeme.TheVariants.{Reserved, Sign, Word, Soft, Var, Literal}
use Rattle.flux_grammar.specs.declared.lexeme.Piece.{Piece}
use Rattle.flux_grammar.specs.declared.lexeme.Sign.TheVariants as sign
use Rattle.flux_grammar.specs.declared.lexeme.Soft.TheVariants as soft
use Rattle.flux_grammar.specs.declared.tree.Expr.{Expr}
use Rattle.flux_grammar.specs.declared.tree.Expr.TheVariants as ex
use Rattle.flux_grammar.specs.declared.tree.Path.{Path}
use Rattle.flux_grammar.specs.declared.tree.QueryStep.TheVariants as go
use Rattle.flux_grammar.specs.declared.tree.Step.{Step}
use Rattle.flux_grammar.specs.declared.tree.Stmt.{Stmt}
use Rattle.flux_grammar.specs.declared.tree.Stmt.TheVariants as st
use Rattle.flux_grammar.specs.declared.tree.TestText.TheVariants as te
use Rattle.flux_grammar.specs.declared.tree.TypeText.{TypeText}
use Rattle.flux_grammar.specs.declared.tree.TypeText.TheVariants as ty
use Rattle.flux_atom.specs.declared.atom.Atom.TheVariants.{Bool as Truth}
use Rattle.flux_grammar.specs.States.{State, state, end, head, Takes, takes}
use Rattle.flux_grammar.specs.Grammar.{spanning, Part, type, alts, tseq, seqs, tpost, marks, tatom, labelled, content, label, tname, var, test, other, tested, path, slashes, step, spot, filtered, expr, items, item, compared, post, steps, qstep, childed, prim, within, stmts, nexts, ending, stmt, guard, simple, inserting, placing, deleting, replacing, args, typedefs, typedef, procdefs, procdef, params, params_on, param, output, script, Value, Reads, reads-type, reads-no-alts, reads-tseq, reads-no-seqs, reads-tpost, reads-no-marks, reads-string, reads-alone, reads-content, reads-word, reads-tname, reads-var, reads-test, reads-every, reads-label-test, reads-path, reads-no-slashes, reads-step, reads-dot, reads-no-filter, reads-expr, reads-no-items, reads-item, reads-uncompared, reads-post, reads-no-steps, reads-down, reads-down-child, reads-literal, reads-within, reads-stmts, reads-no-nexts, reads-ended, reads-stmt, reads-unguarded, reads-skip, reads-insert-value, reads-insert-first, reads-delete-path, reads-replace-path, reads-no-args, reads-script, reads-no-typedefs, reads-typedef, reads-no-procdefs, reads-procdef, reads-no-params, reads-no-params-on, reads-param, reads-no-output}
use Rattle.flux_grammar.specs.Machine.{Prog, done, take, mark, call, Outcome, accepts}

-- the pieces from s on read as the program wants, up to the outcome
abbrev pub Means : Option ℕ → Prog → State → Outcome → Type 0
Means w (done p v) s o = (head s ≡ None) × (accepts p v ≡ o)
Means w (take l f) s o =
    (x : Piece) × (s' : State) × Takes l s x s' × Means w (f x) s' o
Means w (mark f) s o = Means w (f (end s)) s o
Means w (call p k) s o =
    (v : Value p) × (s' : State) × Reads w p s s' v × Means w (k v) s' o

abbrev pub piece : Lexeme → Piece
piece l = record { lexeme = l; span = spanning 0 0 }

-- the shortest of a part, from a state that ends at e
abbrev Short : Part → ℕ → Type 0
Short p e =
    (ws : List Piece) × (e' : ℕ) × (v : Value p) ×
    ((m : ℕ) (more : List Piece) → length (ws ++ more) ≤ m →
    Reads (Some m) p (state e (ws ++ more)) (state e' more) v)

abbrev string : List Piece
string = piece (Soft soft.StringWord 0) ∷ []

abbrev truth : List Piece
truth = piece (Literal (Truth true)) ∷ []

abbrev skip : List Piece
skip = piece (Reserved key.Skip) ∷ []

abbrev dot : List Piece
dot = piece (Sign sign.Dot) ∷ []

abbrev a_type : TypeText
a_type = ty.Kind kind.Text (spanning 0 0)

abbrev a_query : Expr
a_query = ex.Lit (Truth true) (spanning 0 0)

abbrev a_stmt : Stmt
a_stmt = st.Skip (spanning 0 0)

abbrev a_step : Step
a_step = record { var = None; test = None; filter = None; span = spanning 0 0 }

abbrev a_path : Path
a_path = record { steps = a_step ∷ [] }

short : (p : Part) (e : ℕ) → Short p e
short (type d) e = (
  string,
  0,
  a_type,
  λ m more h. reads-type (λ lt. absurd (omega arith)) (reads-tseq (reads-tpost
      (reads-string (takes refl) reads-alone) reads-no-marks) reads-no-seqs) reads-no-alts,
)
short (alts d) e = ([], e, [], λ m more h. reads-no-alts)
short (tseq d) e = (
  string,
  0,
  a_type,
  λ m more h. reads-tseq (reads-tpost (reads-string (takes refl) reads-alone)
      reads-no-marks) reads-no-seqs,
)
short (seqs d) e = ([], e, [], λ m more h. reads-no-seqs)
short (tpost d) e = (
  string,
  0,
  a_type,
  λ m more h. reads-tpost (reads-string (takes refl) reads-alone)
      reads-no-marks,
)
short (marks from) e = ([], e, [], λ m more h. reads-no-marks)
short (tatom d) e = (string, 0, a_type, λ m more h. reads-string (takes refl) reads-alone)
short (labelled d at n alone) e = ([], e, alone, λ m more h. reads-alone)
short (content d) e = (
  string,
  0,
  Some a_type,
  λ m more h. reads-content (reads-type (λ lt. absurd (omega arith))
      (reads-tseq (reads-tpost (reads-string (takes refl) reads-alone) reads-no-marks)
      reads-no-seqs) reads-no-alts),
)
short label e = (piece (Word 0) ∷ [], 0, (0, spanning 0 0), λ m more h. reads-word (takes refl))
short tname e = (piece (Word 0) ∷ [], 0, (0, spanning 0 0), λ m more h. reads-tname (takes refl))
short var e = (piece (Var 0) ∷ [], 0, (0, spanning 0 0), λ m more h. reads-var (takes refl))
short test e = (
  piece (Sign sign.Star) ∷ [],
  0,
  (te.AnyElement, 0),
  λ m more h. reads-test (reads-every (takes
      refl)),
)
short other e =
    (piece (Sign sign.Star) ∷ [], 0, (te.AnyElement, 0), λ m more h. reads-every (takes refl))
short (tested n typed) e = ([], e, te.Label n, λ m more h. reads-label-test)
short (path d) e = (
  dot,
  0,
  a_path,
  λ m more h. reads-path (reads-step (reads-dot (takes refl)) reads-no-filter)
      reads-no-slashes,
)
short (slashes d) e = ([], e, [], λ m more h. reads-no-slashes)
short (step d) e = (dot, 0, a_step, λ m more h. reads-step (reads-dot (takes refl)) reads-no-filter)
short spot e = (dot, 0, (None, 0), λ m more h. reads-dot (takes refl))
short (filtered d) e = ([], e, None, λ m more h. reads-no-filter)
short (expr d) e = (
  truth,
  0,
  a_query,
  λ m more h. reads-expr (reads-item (λ lt. absurd (omega arith)) (reads-post
      (reads-literal (takes refl)) reads-no-steps) reads-uncompared) reads-no-items,
)
short (items d) e = ([], e, [], λ m more h. reads-no-items)
short (item d) e = (
  truth,
  0,
  a_query,
  λ m more h. reads-item (λ lt. absurd (omega arith)) (reads-post
      (reads-literal (takes refl)) reads-no-steps) reads-uncompared,
)
short (compared d t) e = ([], e, t, λ m more h. reads-uncompared)
short (post d) e =
    (truth, 0, a_query, λ m more h. reads-post (reads-literal (takes refl)) reads-no-steps)
short (steps from) e = ([], e, [], λ m more h. reads-no-steps)
short (qstep from) e = (
  piece (Sign sign.Star) ∷ [],
  0,
  go.Down te.AnyElement (spanning from 0),
  λ m more h. reads-down (reads-every (takes refl)),
)
short (childed from n) e =
    ([], e, go.Down (te.Label n) (spanning from e), λ m more h. reads-down-child)
short (prim d) e = (truth, 0, a_query, λ m more h. reads-literal (takes refl))
short (within d) e = (
  truth,
  0,
  Some a_query,
  λ m more h. reads-within (reads-expr (reads-item (λ lt. absurd (omega
      arith)) (reads-post (reads-literal (takes refl)) reads-no-steps) reads-uncompared)
      reads-no-items),
)
short (stmts d) e = (
  skip,
  0,
  a_stmt ∷ [],
  λ m more h. reads-stmts (reads-stmt (λ lt. absurd (omega arith))
      (reads-skip (takes refl)) reads-unguarded) reads-no-nexts,
)
short (nexts d) e = ([], e, [], λ m more h. reads-no-nexts)
short (ending d) e = ([], e, [], λ m more h. reads-ended)
short (stmt d) e = (
  skip,
  0,
  a_stmt,
  λ m more h. reads-stmt (λ lt. absurd (omega arith)) (reads-skip (takes refl))
      reads-unguarded,
)
short (guard d s) e = ([], e, s, λ m more h. reads-unguarded)
short (simple d) e = (skip, 0, a_stmt, λ m more h. reads-skip (takes refl))
short (inserting d from) e = (
  piece (Reserved key.Value) ∷ truth,
  0,
  st.Insert a_query (spanning from 0),
  λ m more h.
      reads-insert-value (takes refl) (reads-expr (reads-item (λ lt. absurd (omega arith))
      (reads-post (reads-literal (takes refl)) reads-no-steps) reads-uncompared) reads-no-items),
)
short (placing d from) e = (
  piece (Reserved key.First) ∷ piece (Reserved key.Into) ∷ (dot ++ piece (Reserved key.Value) ∷
      truth),
  0,
  st.InsertFirst a_path a_query (spanning from 0),
  λ m more h. reads-insert-first
      (takes refl) (takes refl) (reads-path (reads-step (reads-dot (takes refl)) reads-no-filter)
      reads-no-slashes) (takes refl) (reads-expr (reads-item (λ lt. absurd (omega arith))
      (reads-post (reads-literal (takes refl)) reads-no-steps) reads-uncompared) reads-no-items),
)
short (deleting d from) e = (
  dot,
  0,
  st.Delete a_path (spanning from 0),
  λ m more h. reads-delete-path (reads-path
      (reads-step (reads-dot (takes refl)) reads-no-filter) reads-no-slashes),
)
short (replacing d from) e = (
  dot ++ piece (Reserved key.With) ∷ truth,
  0,
  st.Replace a_path a_query (spanning from 0),
  λ m
      more h. reads-replace-path (reads-path (reads-step (reads-dot (takes refl)) reads-no-filter)
      reads-no-slashes) (takes refl) (reads-expr (reads-item (λ lt. absurd (omega arith))
      (reads-post (reads-literal (takes refl)) reads-no-steps) reads-uncompared) reads-no-items),
)
short (args d) e = ([], e, [], λ m more h. reads-no-args)
short typedefs e = ([], e, [], λ m more h. reads-no-typedefs)
short typedef e = (
  piece (Reserved key.Type) ∷ piece (Word 0) ∷ piece (Sign sign.Equal) ∷ (string ++ piece (Sign
      sign.Semicolon) ∷ []),
  0,
  record { name = 0; at = spanning 0 0; body = a_type },
  λ m more h.
      reads-typedef (takes refl) (reads-tname (takes refl)) (takes refl) (reads-type (λ lt. absurd
      (omega arith)) (reads-tseq (reads-tpost (reads-string (takes refl) reads-alone)
      reads-no-marks) reads-no-seqs) reads-no-alts) (takes refl),
)
short procdefs e = ([], e, [], λ m more h. reads-no-procdefs)
short procdef e = (
  piece (Reserved key.Procedure) ∷ piece (Word 0) ∷ piece (Sign sign.Open) ∷ piece (Sign
      sign.Close) ∷ piece (Sign sign.Colon) ∷ (string ++ piece (Sign sign.Arrow) ∷ (string ++ piece
      (Sign sign.OpenBrace) ∷ (skip ++ piece (Sign sign.CloseBrace) ∷ []))),
  0,
  record {
    name = 0;
    at = spanning 0 0;
    params = [];
    focus = a_type;
    result = a_type;
    body = a_stmt ∷ [];
  },
  λ m
      more h. reads-procdef (takes refl) (reads-word (takes refl)) (takes refl) reads-no-params
      (takes refl) (takes refl) (reads-type (λ lt. absurd (omega arith)) (reads-tseq (reads-tpost
      (reads-string (takes refl) reads-alone) reads-no-marks) reads-no-seqs) reads-no-alts) (takes
      refl) (reads-type (λ lt. absurd (omega arith)) (reads-tseq (reads-tpost (reads-string (takes
      refl) reads-alone) reads-no-marks) reads-no-seqs) reads-no-alts) (takes refl) (reads-stmts
      (reads-stmt (λ lt. absurd (omega arith)) (reads-skip (takes refl)) reads-unguarded)
      reads-no-nexts) (takes refl),
)
short params e = ([], e, [], λ m more h. reads-no-params)
short params_on e = ([], e, [], λ m more h. reads-no-params-on)
short param e = (
  piece (Var 0) ∷ piece (Sign sign.Colon) ∷ string,
  0,
  record {
    var = 0;
    at = spanning 0 0;
    ty =
        a_type;
  },
  λ m more h. reads-param (reads-var (takes refl)) (takes refl) (reads-tpost
      (reads-string (takes refl) reads-alone) reads-no-marks),
)
short output e = ([], e, None, λ m more h. reads-no-output)
short script e = (
  piece (Reserved key.Input) ∷ (string ++ piece (Reserved key.Do) ∷ skip),
  0,
  record {
    types =
        [];
    procs = [];
    input = a_type;
    output = None;
    body = a_stmt ∷ [];
  },
  λ m more h. reads-script
      reads-no-typedefs reads-no-procdefs (takes refl) (reads-type (λ lt. absurd (omega arith))
      (reads-tseq (reads-tpost (reads-string (takes refl) reads-alone) reads-no-marks)
      reads-no-seqs) reads-no-alts) reads-no-output (takes refl) (reads-stmts (reads-stmt (λ lt.
      absurd (omega arith)) (reads-skip (takes refl)) reads-unguarded) reads-no-nexts),
)

abbrev pub Finishable : Prog → ℕ → Type 0
Finishable p e =
    (more : List Piece) × (o : Outcome) × ((m : ℕ) → length more ≤ m → Means (Some m) p (state e
    more) o)

with_piece : (k : Lexeme) (f : Piece → Prog) (e : ℕ) → Finishable (f (piece k)) 0 →
    Finishable (take k f) e
with_piece k f e (more, o, r) =
    (piece k ∷ more, o, λ m h. (piece k, state 0 more, takes refl, r m (omega arith)))

with_part : (p : Part) (k : Value p → Prog) (e : ℕ) (ws : List Piece) (e' : ℕ) (v : Value p) →
    ((m : ℕ) (more : List Piece) → length (ws ++ more) ≤ m → Reads (Some m) p (state e (ws ++ more))
    (state e' more) v) → Finishable (k v) e' → Finishable (call p k) e
with_part p k e ws e' v reads (more, o, r) = (
  ws ++ more,
  o,
  λ m h. (
    v,
    state e' more,
    reads m more h,
    r m (omega (
      arith,
      length-append ws
          more,
    )),
  ),
)

pub finish : (p : Prog) (e : ℕ) → Finishable p e
finish (done p v) e = ([], accepts p v, λ m h. (refl, refl))
finish (take k f) e = with_piece k f e (finish (f (piece k)) 0)
finish (mark f) e = finish (f e) e
finish (call p k) e = let w = short p e in with_part p k e w.0 w.1 w.2 w.3 (finish (k w.2) w.1)
