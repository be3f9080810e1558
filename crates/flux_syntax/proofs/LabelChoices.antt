-- What is chosen of labels, names of types, variables and tests.
use Rattle.std.proofs.Common.{◌≡◌, ℕ, Option, Some, None, refl, sym, ap, subst}
use Rattle.std.proofs.lemmas.Option.{same_Some}
use Rattle.flux_grammar.specs.declared.lexeme.Lexeme.{Lexeme}
use Rattle.flux_grammar.specs.declared.lexeme.Lexeme.TheVariants.{Sign, Word, Soft, Quoted, Var}
use Rattle.flux_grammar.specs.declared.lexeme.Piece.{Piece}
use Rattle.flux_grammar.specs.declared.lexeme.Sign.TheVariants as sign
use Rattle.flux_grammar.specs.declared.lexeme.Soft.{Soft as SoftWord}
use Rattle.flux_grammar.specs.declared.lexeme.Soft.TheVariants as soft
use Rattle.flux_grammar.specs.declared.tree.TestText.{TestText}
use Rattle.flux_grammar.specs.declared.tree.TestText.TheVariants as te
use Rattle.flux_grammar.specs.Grammar.{Part, Value, label, tname, var, test, other, tested}
use Rattle.flux_grammar.specs.Machine.{Prog, take, call, body}
use Rattle.flux_syntax.specs.At.{next_label, next_tname, next_var, next_child, next_plain, next_typed}

-- the next lexeme, which the part takes first
abbrev pub Takes-first : (p : Part) → Option Lexeme → (Piece → (Value p → Prog) → Prog) → Type 0
Takes-first p h then = (l : Lexeme) × (h ≡ Some l) ×
    ((k : Value p → Prog) → body p (Some l) k ≡ Some (take l (λ x. then x k)))

pub label_first : (h : Option Lexeme) (n : ℕ) → Some n ≡ next_label h → Takes-first label h (λ x k. k (n, x.span))
label_first (Some (Word m)) n e = (Word n, ap (λ m. Some (Word m)) (same_Some m n (sym e)), λ k. refl)
label_first (Some (Quoted m)) n e = (Quoted n, ap (λ m. Some (Quoted m)) (same_Some m n (sym e)), λ k. refl)
label_first (Some (Soft soft.StringWord m)) n e = (Soft soft.StringWord n, ap (λ m. Some (Soft soft.StringWord m)) (same_Some m n (sym e)), λ k. refl)
label_first (Some (Soft soft.BoolWord m)) n e = (Soft soft.BoolWord n, ap (λ m. Some (Soft soft.BoolWord m)) (same_Some m n (sym e)), λ k. refl)
label_first (Some (Soft soft.IntWord m)) n e = (Soft soft.IntWord n, ap (λ m. Some (Soft soft.IntWord m)) (same_Some m n (sym e)), λ k. refl)
label_first (Some (Soft soft.ChildWord m)) n e = (Soft soft.ChildWord n, ap (λ m. Some (Soft soft.ChildWord m)) (same_Some m n (sym e)), λ k. refl)
label_first (Some (Soft soft.AnyWord m)) n e = (Soft soft.AnyWord n, ap (λ m. Some (Soft soft.AnyWord m)) (same_Some m n (sym e)), λ k. refl)
label_first _ n e = cc

pub tname_first : (h : Option Lexeme) (n : ℕ) → Some n ≡ next_tname h → Takes-first tname h (λ x k. k (n, x.span))
tname_first (Some (Word m)) n e = (Word n, ap (λ m. Some (Word m)) (same_Some m n (sym e)), λ k. refl)
tname_first (Some (Soft soft.ChildWord m)) n e = (Soft soft.ChildWord n, ap (λ m. Some (Soft soft.ChildWord m)) (same_Some m n (sym e)), λ k. refl)
tname_first _ n e = cc

pub var_first : (h : Option Lexeme) (n : ℕ) → Some n ≡ next_var h → Takes-first var h (λ x k. k (n, x.span))
var_first (Some (Var m)) n e = (Var n, ap (λ m. Some (Var m)) (same_Some m n (sym e)), λ k. refl)
var_first _ n e = cc

pub child_first : (h : Option Lexeme) (n : ℕ) → Some n ≡ next_child h → Takes-first test h (λ x k. k (te.Label n, x.span.from))
child_first (Some (Soft soft.ChildWord m)) n e = (Soft soft.ChildWord n, ap (λ m. Some (Soft soft.ChildWord m)) (same_Some m n (sym e)), λ k. refl)
child_first _ n e = cc

pub plain_first : (h : Option Lexeme) (n : ℕ) → Some n ≡ next_plain h → Takes-first other h (λ x k. k (te.Label n, x.span.from))
plain_first (Some (Word m)) n e = (Word n, ap (λ m. Some (Word m)) (same_Some m n (sym e)), λ k. refl)
plain_first (Some (Quoted m)) n e = (Quoted n, ap (λ m. Some (Quoted m)) (same_Some m n (sym e)), λ k. refl)
plain_first (Some (Soft soft.AnyWord m)) n e = (Soft soft.AnyWord n, ap (λ m. Some (Soft soft.AnyWord m)) (same_Some m n (sym e)), λ k. refl)
plain_first _ n e = cc

-- the word of a type, before what stands behind it
typed_at : (word : SoftWord) (φ ψ : TestText) (m n : ℕ) → ((i : ℕ) (k : Value other → Prog) → body other (Some (Soft word i)) k ≡ Some (take (Soft word i) (λ x. call (tested i φ) (λ χ. k (χ, x.span.from))))) → ◌≡◌ {A = TestText × ℕ} (φ, m) (ψ, n) → Takes-first other (Some (Soft word m)) (λ x k. call (tested n ψ) (λ χ. k (χ, x.span.from)))
typed_at word φ ψ m n reads same = subst (λ both. Takes-first other (Some (Soft word m)) (λ x k. call (tested both.1 both.0) (λ χ. k (χ, x.span.from)))) same (Soft word m, refl, reads m)

pub typed_first : (h : Option Lexeme) (ψ : TestText) (n : ℕ) → Some (ψ, n) ≡ next_typed h → Takes-first other h (λ x k. call (tested n ψ) (λ φ. k (φ, x.span.from)))
typed_first (Some (Soft soft.StringWord m)) ψ n e = typed_at soft.StringWord te.OfText ψ m n (λ i k. refl) (same_Some (te.OfText, m) (ψ, n) (sym e))
typed_first (Some (Soft soft.BoolWord m)) ψ n e = typed_at soft.BoolWord te.OfBool ψ m n (λ i k. refl) (same_Some (te.OfBool, m) (ψ, n) (sym e))
typed_first (Some (Soft soft.IntWord m)) ψ n e = typed_at soft.IntWord te.OfInt ψ m n (λ i k. refl) (same_Some (te.OfInt, m) (ψ, n) (sym e))
typed_first _ ψ n e = cc

pub child_here : (h : Option Lexeme) (n : ℕ) → Some n ≡ next_child h → h ≡ Some (Soft soft.ChildWord n)
child_here (Some (Soft soft.ChildWord m)) n e = ap (λ m. Some (Soft soft.ChildWord m)) (same_Some m n (sym e))
child_here _ n e = cc

pub no_label : (h : Option Lexeme) → None ≡ next_label h → (k : Value label → Prog) → body label h k ≡ None
no_label (Some (Word m)) e k = cc
no_label (Some (Soft s m)) e k = cc
no_label (Some (Quoted m)) e k = cc
no_label _ e k = refl

pub no_tname : (h : Option Lexeme) → None ≡ next_tname h → (k : Value tname → Prog) → body tname h k ≡ None
no_tname (Some (Word m)) e k = cc
no_tname (Some (Soft soft.ChildWord m)) e k = cc
no_tname _ e k = refl

pub no_var : (h : Option Lexeme) → None ≡ next_var h → (k : Value var → Prog) → body var h k ≡ None
no_var (Some (Var m)) e k = cc
no_var _ e k = refl

pub no_child : (h : Option Lexeme) → None ≡ next_child h → (k : Value test → Prog) → body test h k ≡ Some (call other k)
no_child (Some (Soft soft.ChildWord m)) e k = cc
no_child _ e k = refl

pub no_other : (h : Option Lexeme) → (h ≡ Some (Sign sign.Star) → ⊥) → None ≡ next_plain h → None ≡ next_typed h → (k : Value other → Prog) → body other h k ≡ None
no_other (Some (Sign sign.Star)) n e f k = absurd (n refl)
no_other (Some (Word m)) n e f k = cc
no_other (Some (Quoted m)) n e f k = cc
no_other (Some (Soft soft.AnyWord m)) n e f k = cc
no_other (Some (Soft soft.StringWord m)) n e f k = cc
no_other (Some (Soft soft.BoolWord m)) n e f k = cc
no_other (Some (Soft soft.IntWord m)) n e f k = cc
no_other _ n e f k = refl

pub label_alone : (n : ℕ) (ψ : TestText) (h : Option Lexeme) → (h ≡ Some (Sign sign.Open) → ⊥) → (k : TestText → Prog) → body (tested n ψ) h k ≡ Some (k (te.Label n))
label_alone n ψ (Some (Sign sign.Open)) e k = absurd (e refl)
label_alone n ψ _ e k = refl
