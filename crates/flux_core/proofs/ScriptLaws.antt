-- That a script of one procedure and one call of it is well formed.
use Rattle.std.proofs.Common.{◌≡◌, ℕ, zero, suc, arith, List, [], ◌∷◌, ◌++◌, Some, length, map, sym, subst, ap, ◌∙◌, IsSomeAnd}
use Rattle.flux_atom.specs.declared.atom.AtomKind.TheVariants as kind
use Rattle.flux_schema.specs.Ty.{Ty, atom}
use Rattle.flux_schema.specs.Definitions.{Definitions}
use Rattle.flux_types.specs.Kept.{AreKept}
use Rattle.flux_calculus.specs.declared.ask.Span.{Span}
use Rattle.flux_calculus.specs.Query.{Query}
use Rattle.flux_calculus.specs.Core.{Core, Proc, Procs, proc_of, call}
use Rattle.flux_query.specs.declared.query.Query.{Query as Argument}
use Rattle.flux_query.specs.Read.{query_of}
use Rattle.flux_core.specs.Faults.{IsUsable}
use Rattle.flux_core.specs.WellFormed.{CallsFit, IsWellFormedProc, IsWellFormed}

text_usable : (defs : Definitions) (t : Ty) → t ≡ atom kind.Text → IsUsable defs t
text_usable defs t e =
    let P : Ty → Type 0 = λ t. IsUsable defs t in
    subst P (sym e) (record { known = tt; limits = record { nodes = omega arith; levels = omega arith } })

only_one : (p q : Proc) (i : ℕ) → proc_of (p ∷ []) i ≡ Some q → p ≡ q
only_one p q zero e = cc
only_one p q (suc i) e = cc

pub one_argument : (qs none : List Argument) (q : Argument) → none ≡ [] → qs ≡ none ++ q ∷ [] → length (map query_of qs) ≡ 1
one_argument qs none q e f = ap (λ qs. length (map query_of qs)) (f ∙ ap (λ qs. qs ++ q ∷ []) e)

pub one_call : (defs : Definitions) (procs empty : Procs) (p : Proc) (t u : Ty) (place : ℕ) (at : Span) (args : List Query) (main : Core)
    → AreKept defs → empty ≡ [] → procs ≡ empty ++ p ∷ [] → length p.params ≡ 1 → ((defs : Definitions) (procs : Procs) → IsWellFormedProc defs procs p)
    → t ≡ atom kind.Text → u ≡ atom kind.Text → length args ≡ 1 → main ≡ call at 0 args
    → IsWellFormed (record { defs = defs; procs = procs; input = t; declared = Some (record { ty = u; at = place }); main = main })
one_call defs procs empty p t u place at args main kept e f one formed is also count calls =
    let P : Procs → Type 0 = λ ps. IsSomeAnd (proc_of ps 0) (λ q. length args ≡ length q.params) in
    let alone : procs ≡ p ∷ [] = f ∙ ap (λ ps. ps ++ p ∷ []) e in
    let fits : length args ≡ length p.params = count ∙ sym one in
    record {
      defs = kept;
      procs = λ i q found. let R : Proc → Type 0 = λ q. IsWellFormedProc defs procs q in subst R (only_one p q i (ap (λ ps. proc_of ps i) (sym alone) ∙ found)) (formed defs procs);
      input = text_usable defs t is;
      declared = text_usable defs u also;
      calls = let S : Core → Type 0 = λ s. CallsFit procs s in subst S (sym calls) (subst P (sym alone) fits);
    }
