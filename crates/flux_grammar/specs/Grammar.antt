-- The grammar: which pieces of a script read as which tree. Each alternative is one rule, and the
-- line of the grammar stands above the rules that it makes. Signs and words stand between double
-- quotes; `x?` is an optional part and `x*` a repeated one.
use Rattle.std.specs.Prelude.{ℕ, ◌+◌, ◌<◌, List, [], ◌∷◌, length, Option, Some, None}
use Rattle.flux_atom.specs.declared.atom.Atom.{Atom}
use Rattle.flux_atom.specs.declared.atom.AtomKind.TheVariants as kind
use Rattle.flux_calculus.specs.declared.ask.Span.{Span}
use Rattle.flux_grammar.specs.declared.lexeme.Keyword.TheVariants as key
use Rattle.flux_grammar.specs.declared.lexeme.Lexeme.TheVariants.{Reserved, Sign, Word, Soft, Quoted, Var, Literal}
use Rattle.flux_grammar.specs.declared.lexeme.Piece.{Piece}
use Rattle.flux_grammar.specs.declared.lexeme.Sign.TheVariants as sign
use Rattle.flux_grammar.specs.declared.lexeme.Soft.{Soft as SoftWord}
use Rattle.flux_grammar.specs.declared.lexeme.Soft.TheVariants as soft
use Rattle.flux_grammar.specs.declared.tree.Expr.{Expr}
use Rattle.flux_grammar.specs.declared.tree.Expr.TheVariants as ex
use Rattle.flux_grammar.specs.declared.tree.Mark.{Mark}
use Rattle.flux_grammar.specs.declared.tree.ParamDef.{ParamDef}
use Rattle.flux_grammar.specs.declared.tree.Path.{Path}
use Rattle.flux_grammar.specs.declared.tree.ProcDef.{ProcDef}
use Rattle.flux_grammar.specs.declared.tree.QueryStep.{QueryStep}
use Rattle.flux_grammar.specs.declared.tree.QueryStep.TheVariants as go
use Rattle.flux_grammar.specs.declared.tree.Repetition.{Repetition}
use Rattle.flux_grammar.specs.declared.tree.Repetition.TheVariants as re
use Rattle.flux_grammar.specs.declared.tree.Script.{Script}
use Rattle.flux_grammar.specs.declared.tree.Step.{Step}
use Rattle.flux_grammar.specs.declared.tree.Stmt.{Stmt}
use Rattle.flux_grammar.specs.declared.tree.Stmt.TheVariants as st
use Rattle.flux_grammar.specs.declared.tree.TestText.{TestText}
use Rattle.flux_grammar.specs.declared.tree.TestText.TheVariants as te
use Rattle.flux_grammar.specs.declared.tree.TypeDef.{TypeDef}
use Rattle.flux_grammar.specs.declared.tree.TypeText.{TypeText}
use Rattle.flux_grammar.specs.declared.tree.TypeText.TheVariants as ty
use Rattle.flux_grammar.specs.Spans.{type_span, expr_span, stmt_span}
use Rattle.flux_grammar.specs.States.{State, end, left, Takes}

-- the chain of statements, items of queries and types, each inside the one before, has at most so
-- many of them
abbrev pub limit : ℕ
limit = 200

-- of which of them this is asked: of all, or of those that begin before the last m pieces
abbrev pub Watched : Option ℕ → State → Type 0
Watched None s = Unit {0}
Watched (Some m) s = m < length (left s)

-- a statement, item or type that lies inside d others may begin here
abbrev pub Free : Option ℕ → ℕ → State → Type 0
Free w d s = Watched w s → d < limit

abbrev pub spanning : ℕ → ℕ → Span
spanning from to = record { from = from; to = to }

-- one part alone is that part
abbrev pub alt_of : TypeText → List TypeText → ℕ → TypeText
alt_of t [] to = t
alt_of t (u ∷ us) to = ty.Alt (t ∷ u ∷ us) (spanning (type_span t).from to)

abbrev pub seq_of : TypeText → List TypeText → ℕ → TypeText
seq_of t [] to = t
seq_of t (u ∷ us) to = ty.Seq (t ∷ u ∷ us) (spanning (type_span t).from to)

abbrev pub mark_of : Repetition → ℕ → ℕ → Mark
mark_of r from to = record { repetition = r; span = spanning from to }

-- a type without marks, and a query without steps, is as it is
abbrev pub marked_of : TypeText → List Mark → ℕ → TypeText
marked_of t [] to = t
marked_of t (m ∷ ms) to = ty.Marked t (m ∷ ms) (spanning (type_span t).from to)

abbrev pub stepped_of : Expr → List QueryStep → ℕ → Expr
stepped_of q [] to = q
stepped_of q (s ∷ ss) to = ex.Stepped q (s ∷ ss) (spanning (expr_span q).from to)

abbrev pub list_of : Expr → List Expr → ℕ → Expr
list_of q [] to = q
list_of q (r ∷ rs) to = ex.List (q ∷ r ∷ rs) (spanning (expr_span q).from to)

-- the step with this variable, test and filter, from one place to another
abbrev pub step_of : Option ℕ → Option TestText → Option Expr → ℕ → ℕ → Step
step_of x φ q from to = record { var = x; test = φ; filter = q; span = spanning from to }

-- the parts of the grammar. A number d says how many statements, items and types a part lies
-- inside; a part that stands behind others, and makes one tree with them, has what they gave
pub data Part : Type 0 where
  -- types
  type : (d : ℕ) → Part
  alts : (d : ℕ) → Part
  tseq : (d : ℕ) → Part
  seqs : (d : ℕ) → Part
  tpost : (d : ℕ) → Part
  marks : (from : ℕ) → Part
  tatom : (d : ℕ) → Part
  labelled : (d : ℕ) → (at : Span) → (n : ℕ) → (alone : TypeText) → Part
  content : (d : ℕ) → Part
  -- labels, names of types, variables
  label : Part
  tname : Part
  var : Part
  -- tests
  test : Part
  other : Part
  tested : (n : ℕ) → (typed : TestText) → Part
  -- paths
  path : (d : ℕ) → Part
  slashes : (d : ℕ) → Part
  step : (d : ℕ) → Part
  spot : Part
  filtered : (d : ℕ) → Part
  -- queries
  expr : (d : ℕ) → Part
  items : (d : ℕ) → Part
  item : (d : ℕ) → Part
  compared : (d : ℕ) → (t : Expr) → Part
  post : (d : ℕ) → Part
  steps : (from : ℕ) → Part
  qstep : (from : ℕ) → Part
  childed : (from : ℕ) → (n : ℕ) → Part
  prim : (d : ℕ) → Part
  within : (d : ℕ) → Part
  -- statements
  stmts : (d : ℕ) → Part
  nexts : (d : ℕ) → Part
  ending : (d : ℕ) → Part
  stmt : (d : ℕ) → Part
  guard : (d : ℕ) → (s : Stmt) → Part
  simple : (d : ℕ) → Part
  inserting : (d : ℕ) → (from : ℕ) → Part
  placing : (d : ℕ) → (from : ℕ) → Part
  deleting : (d : ℕ) → (from : ℕ) → Part
  replacing : (d : ℕ) → (from : ℕ) → Part
  args : (d : ℕ) → Part
  -- scripts
  typedefs : Part
  typedef : Part
  procdefs : Part
  procdef : Part
  params : Part
  params_on : Part
  param : Part
  output : Part
  script : Part

-- what a part is read as
abbrev pub Value : Part → Type 0
Value (type d) = TypeText
Value (alts d) = List TypeText
Value (tseq d) = TypeText
Value (seqs d) = List TypeText
Value (tpost d) = TypeText
Value (marks from) = List Mark
Value (tatom d) = TypeText
Value (labelled d at n alone) = TypeText
Value (content d) = Option TypeText
Value label = ℕ × Span
Value tname = ℕ × Span
Value var = ℕ × Span
Value test = TestText × ℕ
Value other = TestText × ℕ
Value (tested n typed) = TestText
Value (path d) = Path
Value (slashes d) = List Step
Value (step d) = Step
Value spot = Option TestText × ℕ
Value (filtered d) = Option Expr
Value (expr d) = Expr
Value (items d) = List Expr
Value (item d) = Expr
Value (compared d t) = Expr
Value (post d) = Expr
Value (steps from) = List QueryStep
Value (qstep from) = QueryStep
Value (childed from n) = QueryStep
Value (prim d) = Expr
Value (within d) = Option Expr
Value (stmts d) = List Stmt
Value (nexts d) = List Stmt
Value (ending d) = List Stmt
Value (stmt d) = Stmt
Value (guard d s) = Stmt
Value (simple d) = Stmt
Value (inserting d from) = Stmt
Value (placing d from) = Stmt
Value (deleting d from) = Stmt
Value (replacing d from) = Stmt
Value (args d) = List Expr
Value typedefs = List TypeDef
Value typedef = TypeDef
Value procdefs = List ProcDef
Value procdef = ProcDef
Value params = List ParamDef
Value params_on = List ParamDef
Value param = ParamDef
Value output = Option TypeText
Value script = Script

-- from a state up to a state the pieces are the part, with this tree
pub data Reads (w : Option ℕ) : (p : Part) → State → State → Value p → Type 0 where
  -- ---- types
  -- type = tseq ("|" tseq)*
  reads-type : {d : ℕ} {a b c : State} {t : TypeText} {ts : List TypeText} →
      Free w d a → Reads w (tseq (d + 1)) a b t → Reads w (alts (d + 1)) b c ts →
      Reads w (type d) a c (alt_of t ts (end c))
  reads-no-alts : {d : ℕ} {a : State} → Reads w (alts d) a a []
  reads-alts : {d : ℕ} {a b c e : State} {x : Piece} {t : TypeText} {ts : List TypeText} →
      Takes (Sign sign.Bar) a x b → Reads w (tseq d) b c t → Reads w (alts d) c e ts →
      Reads w (alts d) a e (t ∷ ts)
  -- tseq = tpost ("," tpost)*
  reads-tseq : {d : ℕ} {a b c : State} {t : TypeText} {ts : List TypeText} →
      Reads w (tpost d) a b t → Reads w (seqs d) b c ts →
      Reads w (tseq d) a c (seq_of t ts (end c))
  reads-no-seqs : {d : ℕ} {a : State} → Reads w (seqs d) a a []
  reads-seqs : {d : ℕ} {a b c e : State} {x : Piece} {t : TypeText} {ts : List TypeText} →
      Takes (Sign sign.Comma) a x b → Reads w (tpost d) b c t → Reads w (seqs d) c e ts →
      Reads w (seqs d) a e (t ∷ ts)
  -- tpost = tatom ("*" | "+" | "?")*
  reads-tpost : {d : ℕ} {a b c : State} {t : TypeText} {ms : List Mark} →
      Reads w (tatom d) a b t → Reads w (marks (type_span t).from) b c ms →
      Reads w (tpost d) a c (marked_of t ms (end c))
  reads-no-marks : {from : ℕ} {a : State} → Reads w (marks from) a a []
  reads-star : {from : ℕ} {ms : List Mark} {a b c : State} {x : Piece} →
      Takes (Sign sign.Star) a x b → Reads w (marks from) b c ms →
      Reads w (marks from) a c (mark_of re.Star from x.span.to ∷ ms)
  reads-plus : {from : ℕ} {ms : List Mark} {a b c : State} {x : Piece} →
      Takes (Sign sign.Plus) a x b → Reads w (marks from) b c ms →
      Reads w (marks from) a c (mark_of re.Plus from x.span.to ∷ ms)
  reads-opt : {from : ℕ} {ms : List Mark} {a b c : State} {x : Piece} →
      Takes (Sign sign.Question) a x b → Reads w (marks from) b c ms →
      Reads w (marks from) a c (mark_of re.Optional from x.span.to ∷ ms)
  -- tatom = "(" type? ")" | label "[" type? "]" | "any" "[" type? "]"
  --       | "string" | "bool" | "int" | tname
  -- A name of a type, `string`, `bool` and `int` are labels where a square bracket follows them, so
  -- what follows is read by itself: `("[" type? "]")?`
  reads-group : {d : ℕ} {a b c e : State} {x y : Piece} {o : Option TypeText} →
      Takes (Sign sign.Open) a x b → Reads w (content d) b c o → Takes (Sign sign.Close) c y e →
      Reads w (tatom d) a e (ty.Group o (spanning x.span.from y.span.to))
  reads-quoted-elem : {d n : ℕ} {a b c e f : State} {x y z : Piece} {o : Option TypeText} →
      Takes (Quoted n) a x b → Takes (Sign sign.OpenSquare) b y c → Reads w (content d) c e o →
      Takes (Sign sign.CloseSquare) e z f →
      Reads w (tatom d) a f (ty.Elem n o (spanning x.span.from z.span.to))
  reads-any : {d n : ℕ} {a b c e f : State} {x y z : Piece} {o : Option TypeText} →
      Takes (Soft soft.AnyWord n) a x b → Takes (Sign sign.OpenSquare) b y c →
      Reads w (content d) c e o → Takes (Sign sign.CloseSquare) e z f →
      Reads w (tatom d) a f (ty.AnyElem o (spanning x.span.from z.span.to))
  reads-string : {d n : ℕ} {a b c : State} {x : Piece} {t : TypeText} →
      Takes (Soft soft.StringWord n) a x b →
      Reads w (labelled d x.span n (ty.Kind kind.Text x.span)) b c t →
      Reads w (tatom d) a c t
  reads-bool : {d n : ℕ} {a b c : State} {x : Piece} {t : TypeText} →
      Takes (Soft soft.BoolWord n) a x b →
      Reads w (labelled d x.span n (ty.Kind kind.Bool x.span)) b c t →
      Reads w (tatom d) a c t
  reads-int : {d n : ℕ} {a b c : State} {x : Piece} {t : TypeText} →
      Takes (Soft soft.IntWord n) a x b →
      Reads w (labelled d x.span n (ty.Kind kind.Int x.span)) b c t →
      Reads w (tatom d) a c t
  reads-named : {d n : ℕ} {a b c : State} {x : Piece} {t : TypeText} →
      Takes (Word n) a x b → Reads w (labelled d x.span n (ty.Named n x.span)) b c t →
      Reads w (tatom d) a c t
  reads-named-child : {d n : ℕ} {a b c : State} {x : Piece} {t : TypeText} →
      Takes (Soft soft.ChildWord n) a x b →
      Reads w (labelled d x.span n (ty.Named n x.span)) b c t →
      Reads w (tatom d) a c t
  reads-alone : {d n : ℕ} {at : Span} {alone : TypeText} {a : State} →
      Reads w (labelled d at n alone) a a alone
  reads-elem : {d n : ℕ} {at : Span} {alone : TypeText} {a b c e : State} {y z : Piece}
      {o : Option TypeText} →
      Takes (Sign sign.OpenSquare) a y b → Reads w (content d) b c o →
      Takes (Sign sign.CloseSquare) c z e →
      Reads w (labelled d at n alone) a e (ty.Elem n o (spanning at.from z.span.to))
  -- type?
  reads-no-content : {d : ℕ} {a : State} → Reads w (content d) a a None
  reads-content : {d : ℕ} {a b : State} {t : TypeText} →
      Reads w (type d) a b t →
      Reads w (content d) a b (Some t)
  -- ---- labels, names of types, variables
  -- a label: a word that isn't reserved, or a quoted label
  reads-word : {a b : State} {x : Piece} {n : ℕ} →
      Takes (Word n) a x b →
      Reads w label a b (n, x.span)
  reads-soft : {a b : State} {x : Piece} {so : SoftWord} {n : ℕ} →
      Takes (Soft so n) a x b →
      Reads w label a b (n, x.span)
  reads-quoted : {a b : State} {x : Piece} {n : ℕ} →
      Takes (Quoted n) a x b →
      Reads w label a b (n, x.span)
  -- tname = word, not reserved, not string, not bool, not int, not any
  reads-tname : {a b : State} {x : Piece} {n : ℕ} →
      Takes (Word n) a x b →
      Reads w tname a b (n, x.span)
  reads-tname-child : {a b : State} {x : Piece} {n : ℕ} →
      Takes (Soft soft.ChildWord n) a x b →
      Reads w tname a b (n, x.span)
  -- a variable
  reads-var : {a b : State} {x : Piece} {n : ℕ} → Takes (Var n) a x b → Reads w var a b (n, x.span)
  -- ---- tests
  -- test = label | "*" | "string" "(" ")" | "bool" "(" ")" | "int" "(" ")"
  -- `child` stands apart, since a query's step may go on behind it
  reads-child-label : {a b : State} {x : Piece} {n : ℕ} →
      Takes (Soft soft.ChildWord n) a x b →
      Reads w test a b (te.Label n, x.span.from)
  reads-test : {a b : State} {φ : TestText × ℕ} → Reads w other a b φ → Reads w test a b φ
  -- `string`, `bool` and `int` are labels where no parenthesis follows them, so what follows is
  -- read by itself: `("(" ")")?`
  reads-word-label : {a b : State} {x : Piece} {n : ℕ} →
      Takes (Word n) a x b →
      Reads w other a b (te.Label n, x.span.from)
  reads-quoted-label : {a b : State} {x : Piece} {n : ℕ} →
      Takes (Quoted n) a x b →
      Reads w other a b (te.Label n, x.span.from)
  reads-any-label : {a b : State} {x : Piece} {n : ℕ} →
      Takes (Soft soft.AnyWord n) a x b →
      Reads w other a b (te.Label n, x.span.from)
  reads-every : {a b : State} {x : Piece} →
      Takes (Sign sign.Star) a x b →
      Reads w other a b (te.AnyElement, x.span.from)
  reads-string-test : {a b c : State} {x : Piece} {n : ℕ} {ψ : TestText} →
      Takes (Soft soft.StringWord n) a x b → Reads w (tested n te.OfText) b c ψ →
      Reads w other a c (ψ, x.span.from)
  reads-bool-test : {a b c : State} {x : Piece} {n : ℕ} {ψ : TestText} →
      Takes (Soft soft.BoolWord n) a x b → Reads w (tested n te.OfBool) b c ψ →
      Reads w other a c (ψ, x.span.from)
  reads-int-test : {a b c : State} {x : Piece} {n : ℕ} {ψ : TestText} →
      Takes (Soft soft.IntWord n) a x b → Reads w (tested n te.OfInt) b c ψ →
      Reads w other a c (ψ, x.span.from)
  reads-label-test : {n : ℕ} {typed : TestText} {a : State} →
      Reads w (tested n typed) a a (te.Label n)
  reads-kind-test : {n : ℕ} {typed : TestText} {a b c : State} {x y : Piece} →
      Takes (Sign sign.Open) a x b → Takes (Sign sign.Close) b y c →
      Reads w (tested n typed) a c typed
  -- ---- paths
  -- path = step ("/" step)*
  reads-path : {d : ℕ} {a b c : State} {sp : Step} {ps : List Step} →
      Reads w (step d) a b sp → Reads w (slashes d) b c ps →
      Reads w (path d) a c (record { steps = sp ∷ ps })
  reads-no-slashes : {d : ℕ} {a : State} → Reads w (slashes d) a a []
  reads-slashes : {d : ℕ} {a b c e : State} {x : Piece} {sp : Step} {ps : List Step} →
      Takes (Sign sign.Slash) a x b → Reads w (step d) b c sp → Reads w (slashes d) c e ps →
      Reads w (slashes d) a e (sp ∷ ps)
  -- step = (var "AS")? ("." | test) ("[" expr "]")?
  reads-bound-step : {d n : ℕ} {a b c e f : State} {x y : Piece} {χ : Option TestText × ℕ}
      {oq : Option Expr} →
      Takes (Var n) a x b → Takes (Reserved key.As) b y c → Reads w spot c e χ →
      Reads w (filtered d) e f oq →
      Reads w (step d) a f (step_of (Some n) χ.0 oq x.span.from (end f))
  reads-step : {d : ℕ} {a b c : State} {χ : Option TestText × ℕ} {oq : Option Expr} →
      Reads w spot a b χ → Reads w (filtered d) b c oq →
      Reads w (step d) a c (step_of None χ.0 oq χ.1 (end c))
  reads-dot : {a b : State} {x : Piece} →
      Takes (Sign sign.Dot) a x b →
      Reads w spot a b (None, x.span.from)
  reads-spot : {a b : State} {φ : TestText × ℕ} →
      Reads w test a b φ →
      Reads w spot a b (Some φ.0, φ.1)
  reads-no-filter : {d : ℕ} {a : State} → Reads w (filtered d) a a None
  reads-filter : {d : ℕ} {a b c e : State} {x y : Piece} {q : Expr} →
      Takes (Sign sign.OpenSquare) a x b → Reads w (expr d) b c q →
      Takes (Sign sign.CloseSquare) c y e →
      Reads w (filtered d) a e (Some q)
  -- ---- queries
  -- expr = item ("," item)*
  reads-expr : {d : ℕ} {a b c : State} {q : Expr} {qs : List Expr} →
      Reads w (item d) a b q → Reads w (items d) b c qs →
      Reads w (expr d) a c (list_of q qs (end c))
  reads-no-items : {d : ℕ} {a : State} → Reads w (items d) a a []
  reads-items : {d : ℕ} {a b c e : State} {x : Piece} {q : Expr} {qs : List Expr} →
      Takes (Sign sign.Comma) a x b → Reads w (item d) b c q → Reads w (items d) c e qs →
      Reads w (items d) a e (q ∷ qs)
  -- item = "for" var "in" expr "return" item | "let" var "=" expr "in" item
  --      | "if" expr "then" item "else" item | post (("=" | "<") post)?
  reads-for : {d : ℕ} {a b c e f g h : State} {x y z : Piece} {n : ℕ × Span} {q v : Expr} →
      Free w d a → Takes (Reserved key.QueryFor) a x b → Reads w var b c n →
      Takes (Reserved key.QueryIn) c y e → Reads w (expr (d + 1)) e f q →
      Takes (Reserved key.QueryReturn) f z g → Reads w (item (d + 1)) g h v →
      Reads w (item d) a h (ex.For n.0 q v (spanning x.span.from (end h)))
  reads-let : {d : ℕ} {a b c e f g h : State} {x y z : Piece} {n : ℕ × Span} {q v : Expr} →
      Free w d a → Takes (Reserved key.QueryLet) a x b → Reads w var b c n →
      Takes (Sign sign.Equal) c y e → Reads w (expr (d + 1)) e f q →
      Takes (Reserved key.QueryIn) f z g → Reads w (item (d + 1)) g h v →
      Reads w (item d) a h (ex.Let n.0 q v (spanning x.span.from (end h)))
  reads-if : {d : ℕ} {a b c e f g h : State} {x y z : Piece} {q v u : Expr} →
      Free w d a → Takes (Reserved key.QueryIf) a x b → Reads w (expr (d + 1)) b c q →
      Takes (Reserved key.QueryThen) c y e → Reads w (item (d + 1)) e f v →
      Takes (Reserved key.QueryElse) f z g → Reads w (item (d + 1)) g h u →
      Reads w (item d) a h (ex.If q v u (spanning x.span.from (end h)))
  reads-item : {d : ℕ} {a b c : State} {q v : Expr} →
      Free w d a → Reads w (post (d + 1)) a b q → Reads w (compared (d + 1) q) b c v →
      Reads w (item d) a c v
  reads-uncompared : {d : ℕ} {t : Expr} {a : State} → Reads w (compared d t) a a t
  reads-same : {d : ℕ} {t v : Expr} {a b c : State} {x : Piece} →
      Takes (Sign sign.Equal) a x b → Reads w (post d) b c v →
      Reads w (compared d t) a c (ex.Same t v (spanning (expr_span t).from (end c)))
  reads-less : {d : ℕ} {t v : Expr} {a b c : State} {x : Piece} →
      Takes (Sign sign.Less) a x b → Reads w (post d) b c v →
      Reads w (compared d t) a c (ex.Less t v (spanning (expr_span t).from (end c)))
  -- post = prim ("/" qstep | "::" test)*
  reads-post : {d : ℕ} {a b c : State} {q : Expr} {ss : List QueryStep} →
      Reads w (prim d) a b q → Reads w (steps (expr_span q).from) b c ss →
      Reads w (post d) a c (stepped_of q ss (end c))
  reads-no-steps : {from : ℕ} {a : State} → Reads w (steps from) a a []
  reads-slash : {from : ℕ} {s : QueryStep} {ss : List QueryStep} {a b c e : State} {x : Piece} →
      Takes (Sign sign.Slash) a x b → Reads w (qstep from) b c s → Reads w (steps from) c e ss →
      Reads w (steps from) a e (s ∷ ss)
  reads-keep : {from : ℕ} {ss : List QueryStep} {a b c e : State} {x : Piece} {φ : TestText × ℕ} →
      Takes (Sign sign.DoubleColon) a x b → Reads w test b c φ → Reads w (steps from) c e ss →
      Reads w (steps from) a e (go.Filter φ.0 (spanning from (end c)) ∷ ss)
  -- qstep = test | "child" "(" ")"
  -- `child` is a label where no parenthesis follows it, so what follows is read by itself:
  -- `("(" ")")?`
  reads-child-step : {from n : ℕ} {s : QueryStep} {a b c : State} {x : Piece} →
      Takes (Soft soft.ChildWord n) a x b → Reads w (childed from n) b c s →
      Reads w (qstep from) a c s
  reads-down : {from : ℕ} {a b : State} {φ : TestText × ℕ} →
      Reads w other a b φ →
      Reads w (qstep from) a b (go.Down φ.0 (spanning from (end b)))
  reads-down-child : {from n : ℕ} {a : State} →
      Reads w (childed from n) a a (go.Down (te.Label n) (spanning from (end a)))
  reads-child : {from n : ℕ} {a b c : State} {x y : Piece} →
      Takes (Sign sign.Open) a x b → Takes (Sign sign.Close) b y c →
      Reads w (childed from n) a c (go.Child (spanning from y.span.to))
  -- prim = "(" expr? ")" | string | number | "true" | "false" | var | label "[" expr? "]"
  reads-paren : {d : ℕ} {a b c e : State} {x y : Piece} {oq : Option Expr} →
      Takes (Sign sign.Open) a x b → Reads w (within d) b c oq → Takes (Sign sign.Close) c y e →
      Reads w (prim d) a e (ex.Group oq (spanning x.span.from y.span.to))
  reads-literal : {d : ℕ} {a b : State} {x : Piece} {atom : Atom} →
      Takes (Literal atom) a x b →
      Reads w (prim d) a b (ex.Lit atom x.span)
  reads-variable : {d n : ℕ} {a b : State} {x : Piece} →
      Takes (Var n) a x b →
      Reads w (prim d) a b (ex.Var n x.span)
  reads-element : {d : ℕ} {a b c e f : State} {y z : Piece} {n : ℕ × Span} {oq : Option Expr} →
      Reads w label a b n → Takes (Sign sign.OpenSquare) b y c → Reads w (within d) c e oq →
      Takes (Sign sign.CloseSquare) e z f →
      Reads w (prim d) a f (ex.Elem n.0 oq (spanning n.1.from z.span.to))
  -- expr?
  reads-no-within : {d : ℕ} {a : State} → Reads w (within d) a a None
  reads-within : {d : ℕ} {a b : State} {q : Expr} →
      Reads w (expr d) a b q →
      Reads w (within d) a b (Some q)
  -- ---- statements
  -- stmts = stmt (";" stmt)* ";"?
  reads-stmts : {d : ℕ} {a b c : State} {s : Stmt} {ss : List Stmt} →
      Reads w (stmt d) a b s → Reads w (nexts d) b c ss →
      Reads w (stmts d) a c (s ∷ ss)
  reads-no-nexts : {d : ℕ} {a : State} → Reads w (nexts d) a a []
  reads-nexts : {d : ℕ} {a b c : State} {x : Piece} {ss : List Stmt} →
      Takes (Sign sign.Semicolon) a x b → Reads w (ending d) b c ss →
      Reads w (nexts d) a c ss
  reads-ended : {d : ℕ} {a : State} → Reads w (ending d) a a []
  reads-going-on : {d : ℕ} {a b : State} {ss : List Stmt} →
      Reads w (stmts d) a b ss →
      Reads w (ending d) a b ss
  -- stmt = broad | simple ("WHERE" expr)?
  -- broad = "UPDATE" path "BY" stmt | "IF" expr "THEN" stmt "ELSE" stmt
  --       | "LET" var "=" expr "IN" stmt
  reads-update : {d : ℕ} {a b c e f : State} {x y : Piece} {p : Path} {s : Stmt} →
      Free w d a → Takes (Reserved key.Update) a x b → Reads w (path (d + 1)) b c p →
      Takes (Reserved key.By) c y e → Reads w (stmt (d + 1)) e f s →
      Reads w (stmt d) a f (st.Update p s (spanning x.span.from (end f)))
  reads-if-stmt : {d : ℕ} {a b c e f g h : State} {x y z : Piece} {q : Expr} {s r : Stmt} →
      Free w d a → Takes (Reserved key.If) a x b → Reads w (expr (d + 1)) b c q →
      Takes (Reserved key.Then) c y e → Reads w (stmt (d + 1)) e f s →
      Takes (Reserved key.Else) f z g → Reads w (stmt (d + 1)) g h r →
      Reads w (stmt d) a h (st.If q s r (spanning x.span.from (end h)))
  reads-let-stmt : {d : ℕ} {a b c e f g h : State} {x y z : Piece} {n : ℕ × Span} {q : Expr}
      {s : Stmt} →
      Free w d a → Takes (Reserved key.Let) a x b → Reads w var b c n →
      Takes (Sign sign.Equal) c y e → Reads w (expr (d + 1)) e f q → Takes (Reserved key.In) f z g →
      Reads w (stmt (d + 1)) g h s →
      Reads w (stmt d) a h (st.Let n.0 q s (spanning x.span.from (end h)))
  reads-stmt : {d : ℕ} {a b c : State} {s r : Stmt} →
      Free w d a → Reads w (simple (d + 1)) a b s → Reads w (guard (d + 1) s) b c r →
      Reads w (stmt d) a c r
  reads-unguarded : {d : ℕ} {s : Stmt} {a : State} → Reads w (guard d s) a a s
  reads-guarded : {d : ℕ} {s : Stmt} {a b c : State} {x : Piece} {q : Expr} →
      Takes (Reserved key.Where) a x b → Reads w (expr d) b c q →
      Reads w (guard d s) a c (st.Guarded s q (spanning (stmt_span s).from (end c)))
  -- simple = "SKIP" | "INSERT" .. | "DELETE" .. | "RENAME" path "TO" label | "REPLACE" ..
  --        | "CALL" label "(" (item ("," item)*)? ")" | "{" stmts "}"
  reads-skip : {d : ℕ} {a b : State} {x : Piece} →
      Takes (Reserved key.Skip) a x b →
      Reads w (simple d) a b (st.Skip x.span)
  reads-insert : {d : ℕ} {a b c : State} {x : Piece} {s : Stmt} →
      Takes (Reserved key.Insert) a x b → Reads w (inserting d x.span.from) b c s →
      Reads w (simple d) a c s
  reads-delete : {d : ℕ} {a b c : State} {x : Piece} {s : Stmt} →
      Takes (Reserved key.Delete) a x b → Reads w (deleting d x.span.from) b c s →
      Reads w (simple d) a c s
  reads-replace : {d : ℕ} {a b c : State} {x : Piece} {s : Stmt} →
      Takes (Reserved key.Replace) a x b → Reads w (replacing d x.span.from) b c s →
      Reads w (simple d) a c s
  reads-rename : {d : ℕ} {a b c e f : State} {x y : Piece} {p : Path} {n : ℕ × Span} →
      Takes (Reserved key.Rename) a x b → Reads w (path d) b c p → Takes (Reserved key.To) c y e →
      Reads w label e f n →
      Reads w (simple d) a f (st.Rename p n.0 (spanning x.span.from n.1.to))
  reads-call : {d : ℕ} {a b c e f g : State} {x y z : Piece} {n : ℕ × Span} {qs : List Expr} →
      Takes (Reserved key.Call) a x b → Reads w label b c n → Takes (Sign sign.Open) c y e →
      Reads w (args d) e f qs → Takes (Sign sign.Close) f z g →
      Reads w (simple d) a g (st.Call n.0 qs (spanning x.span.from z.span.to))
  reads-block : {d : ℕ} {a b c e : State} {x y : Piece} {ss : List Stmt} →
      Takes (Sign sign.OpenBrace) a x b → Reads w (stmts d) b c ss →
      Takes (Sign sign.CloseBrace) c y e →
      Reads w (simple d) a e (st.Block ss (spanning x.span.from y.span.to))
  -- "INSERT" "VALUE" expr | "INSERT" ("BEFORE" | "AFTER") path "VALUE" expr
  -- | "INSERT" "AS" ("FIRST" | "LAST") "INTO" path "VALUE" expr
  reads-insert-value : {d from : ℕ} {a b c : State} {x : Piece} {q : Expr} →
      Takes (Reserved key.Value) a x b → Reads w (expr d) b c q →
      Reads w (inserting d from) a c (st.Insert q (spanning from (end c)))
  reads-insert-before : {d from : ℕ} {a b c e f : State} {x y : Piece} {p : Path} {q : Expr} →
      Takes (Reserved key.Before) a x b → Reads w (path d) b c p →
      Takes (Reserved key.Value) c y e → Reads w (expr d) e f q →
      Reads w (inserting d from) a f (st.InsertBefore p q (spanning from (end f)))
  reads-insert-after : {d from : ℕ} {a b c e f : State} {x y : Piece} {p : Path} {q : Expr} →
      Takes (Reserved key.After) a x b → Reads w (path d) b c p → Takes (Reserved key.Value) c y e →
      Reads w (expr d) e f q →
      Reads w (inserting d from) a f (st.InsertAfter p q (spanning from (end f)))
  reads-insert-as : {d from : ℕ} {a b c : State} {x : Piece} {s : Stmt} →
      Takes (Reserved key.As) a x b → Reads w (placing d from) b c s →
      Reads w (inserting d from) a c s
  reads-insert-first : {d from : ℕ} {a b c e f g : State} {x y z : Piece} {p : Path} {q : Expr} →
      Takes (Reserved key.First) a x b → Takes (Reserved key.Into) b y c → Reads w (path d) c e p →
      Takes (Reserved key.Value) e z f → Reads w (expr d) f g q →
      Reads w (placing d from) a g (st.InsertFirst p q (spanning from (end g)))
  reads-insert-last : {d from : ℕ} {a b c e f g : State} {x y z : Piece} {p : Path} {q : Expr} →
      Takes (Reserved key.Last) a x b → Takes (Reserved key.Into) b y c → Reads w (path d) c e p →
      Takes (Reserved key.Value) e z f → Reads w (expr d) f g q →
      Reads w (placing d from) a g (st.InsertLast p q (spanning from (end g)))
  -- "DELETE" path | "DELETE" "FROM" path
  reads-delete-from : {d from : ℕ} {a b c : State} {x : Piece} {p : Path} →
      Takes (Reserved key.From) a x b → Reads w (path d) b c p →
      Reads w (deleting d from) a c (st.DeleteFrom p (spanning from (end c)))
  reads-delete-path : {d from : ℕ} {a b : State} {p : Path} →
      Reads w (path d) a b p →
      Reads w (deleting d from) a b (st.Delete p (spanning from (end b)))
  -- "REPLACE" path "WITH" expr | "REPLACE" "IN" path "WITH" expr
  reads-replace-in : {d from : ℕ} {a b c e f : State} {x y : Piece} {p : Path} {q : Expr} →
      Takes (Reserved key.In) a x b → Reads w (path d) b c p → Takes (Reserved key.With) c y e →
      Reads w (expr d) e f q →
      Reads w (replacing d from) a f (st.ReplaceIn p q (spanning from (end f)))
  reads-replace-path : {d from : ℕ} {a b c e : State} {y : Piece} {p : Path} {q : Expr} →
      Reads w (path d) a b p → Takes (Reserved key.With) b y c → Reads w (expr d) c e q →
      Reads w (replacing d from) a e (st.Replace p q (spanning from (end e)))
  -- (item ("," item)*)?
  reads-no-args : {d : ℕ} {a : State} → Reads w (args d) a a []
  reads-args : {d : ℕ} {a b c : State} {q : Expr} {qs : List Expr} →
      Reads w (item d) a b q → Reads w (items d) b c qs →
      Reads w (args d) a c (q ∷ qs)
  -- ---- scripts
  -- script = typedef* procdef* "INPUT" type ("OUTPUT" type)? "DO" stmts
  reads-script : {a b c e f g h i : State} {x y : Piece} {tds : List TypeDef} {pds : List ProcDef}
      {t : TypeText} {o : Option TypeText} {ss : List Stmt} →
      Reads w typedefs a b tds → Reads w procdefs b c pds → Takes (Reserved key.Input) c x e →
      Reads w (type 0) e f t → Reads w output f g o → Takes (Reserved key.Do) g y h →
      Reads w (stmts 0) h i ss →
      Reads w script a i (record { types = tds; procs = pds; input = t; output = o; body = ss })
  reads-no-typedefs : {a : State} → Reads w typedefs a a []
  reads-typedefs : {a b c : State} {td : TypeDef} {tds : List TypeDef} →
      Reads w typedef a b td → Reads w typedefs b c tds →
      Reads w typedefs a c (td ∷ tds)
  -- typedef = "TYPE" tname "=" type ";"
  reads-typedef : {a b c e f g : State} {x y z : Piece} {n : ℕ × Span} {t : TypeText} →
      Takes (Reserved key.Type) a x b → Reads w tname b c n → Takes (Sign sign.Equal) c y e →
      Reads w (type 0) e f t → Takes (Sign sign.Semicolon) f z g →
      Reads w typedef a g (record { name = n.0; at = n.1; body = t })
  reads-no-procdefs : {a : State} → Reads w procdefs a a []
  reads-procdefs : {a b c : State} {pd : ProcDef} {pds : List ProcDef} →
      Reads w procdef a b pd → Reads w procdefs b c pds →
      Reads w procdefs a c (pd ∷ pds)
  -- procdef = "PROCEDURE" label "(" (param ("," param)*)? ")"
  --           ":" type "=>" type "{" stmts "}"
  reads-procdef : {a b c e f g h i j l m a' b' : State} {x y z x' y' z' z'' : Piece} {n : ℕ × Span}
      {pms : List ParamDef} {t u : TypeText} {ss : List Stmt} →
      Takes (Reserved key.Procedure) a x b → Reads w label b c n → Takes (Sign sign.Open) c y e →
      Reads w params e f pms → Takes (Sign sign.Close) f z g → Takes (Sign sign.Colon) g x' h →
      Reads w (type 0) h i t → Takes (Sign sign.Arrow) i y' j → Reads w (type 0) j l u →
      Takes (Sign sign.OpenBrace) l z' m → Reads w (stmts 0) m a' ss →
      Takes (Sign sign.CloseBrace) a' z'' b' →
      Reads w procdef a b' (record {
        name = n.0;
        at = n.1;
        params = pms;
        focus = t;
        result = u;
        body = ss;
      })
  reads-no-params : {a : State} → Reads w params a a []
  reads-params : {a b c : State} {pm : ParamDef} {pms : List ParamDef} →
      Reads w param a b pm → Reads w params_on b c pms →
      Reads w params a c (pm ∷ pms)
  reads-no-params-on : {a : State} → Reads w params_on a a []
  reads-params-on : {a b c e : State} {x : Piece} {pm : ParamDef} {pms : List ParamDef} →
      Takes (Sign sign.Comma) a x b → Reads w param b c pm → Reads w params_on c e pms →
      Reads w params_on a e (pm ∷ pms)
  -- param = var ":" tpost
  reads-param : {a b c e : State} {x : Piece} {n : ℕ × Span} {t : TypeText} →
      Reads w var a b n → Takes (Sign sign.Colon) b x c → Reads w (tpost 0) c e t →
      Reads w param a e (record { var = n.0; at = n.1; ty = t })
  reads-no-output : {a : State} → Reads w output a a None
  -- ("OUTPUT" type)?
  reads-output : {a b c : State} {x : Piece} {t : TypeText} →
      Takes (Reserved key.Output) a x b → Reads w (type 0) b c t →
      Reads w output a c (Some t)
