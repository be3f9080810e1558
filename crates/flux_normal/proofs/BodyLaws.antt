-- Nodes of statements one behind the other, and of the bodies of a script.
use Rattle.std.proofs.Common.{◌≡◌, ◌≤◌, ℕ, zero, suc, List, [], ◌∷◌, ◌++◌, append_assoc, append-nil, length, get_or, map, Option, refl, sym, ap, ap₂, ◌∙◌, arith}
use Rattle.std.specs.Prelude.{flat_map}
use Rattle.std.proofs.lemmas.List.{map-append}
use Rattle.flux_calculus.specs.Core.{Core, in_order}
use Rattle.flux_grammar.specs.declared.tree.ProcDef.{ProcDef}
use Rattle.flux_grammar.specs.declared.tree.Stmt.{Stmt}
use Rattle.flux_grammar.specs.Grammar.{spanning}
use Rattle.flux_grammar.specs.Nesting.{level, core_level}
use Rattle.flux_grammar.specs.NormalFaults.{first}
use Rattle.flux_grammar.specs.NormalQueries.{Numbered, of_all}
use Rattle.flux_grammar.specs.NormalStatements.{last_end, placed, stmt_form, stmts_form}
use Rattle.flux_grammar.specs.Spans.{stmt_span}
use Rattle.flux_normal.specs.Levels.{either, Finds}
use Rattle.flux_normal.proofs.LevelLaws.{joined, Parts}
use Rattle.flux_normal.proofs.PathLaws.{in_sequence}
use Rattle.flux_normal.proofs.TogetherLaws.{span_placed, forms}

abbrev nodes_of : List Core → ℕ → List ℕ
nodes_of cs n = flat_map (λ c. core_level c n) cs

-- several statements are one node with these parts
pub several : (procs : List ℕ) (all : List Stmt) (x : Stmt) (n k : ℕ) → 2 ≤ length all → x ≡ get_or all 0 x → core_level (stmts_form procs all k).0 n ≡ level (stmt_span x).from (nodes_of (of_all (map (stmt_form procs) all) k).0) n
several procs [] x n k ge is = absurd (omega (arith, ge))
several procs (s ∷ []) x n k ge is = absurd (omega (arith, ge))
several procs (s ∷ t ∷ ss) x n k ge is =
    let all = s ∷ t ∷ ss in
    in_sequence (spanning (placed procs s).0.from (last_end (placed procs t) (map (placed procs) ss))) (of_all (map (λ p. p.1) (map (placed procs) all)) k).0 n
    ∙ ap₂ (λ (place : ℕ) (l : List (Numbered Core)). level place (nodes_of (of_all l k).0) n) (ap (λ at. at.from) (span_placed procs s ∙ ap stmt_span (sym is))) (forms procs all)

pub of_last : {A : Type 0} (xs : List (Numbered A)) (y : Numbered A) (k : ℕ) → (of_all (xs ++ y ∷ []) k).0 ≡ (of_all xs k).0 ++ (y (of_all xs k).1).0 ∷ []
of_last [] y k = refl
of_last (x ∷ xs) y k = ap (λ l. (x k).0 ∷ l) (of_last xs y (x k).1)

nodes_last : (cs : List Core) (c : Core) (n : ℕ) → nodes_of (cs ++ c ∷ []) n ≡ nodes_of cs n ++ core_level c n
nodes_last [] c n = append-nil (core_level c n)
nodes_last (b ∷ cs) c n = ap (λ l. core_level b n ++ l) (nodes_last cs c n) ∙ sym (append_assoc (core_level b n) (nodes_of cs n) (core_level c n))

pub mapped : (names : List ℕ) (procs : List ProcDef) → map (stmts_form names) (map (λ p. p.body) procs) ≡ map (λ (p : ProcDef). stmts_form names p.body) procs
mapped names [] = refl
mapped names (p ∷ ps) = ap (λ l. stmts_form names p.body ∷ l) (mapped names ps)

-- the bodies of procedures, and the main statements behind them
pub with_main : (names : List ℕ) (procs : List ProcDef) (main : List Stmt) (n : ℕ) (a b : Option ℕ) → Parts core_level (λ (p : ProcDef). stmts_form names p.body) n procs a → Finds core_level (stmts_form names main) n b
    → first (nodes_of (of_all (map (stmts_form names) (map (λ p. p.body) procs ++ main ∷ [])) 0).0 n) ≡ either a b
with_main names procs main n a b before behind =
    let xs : List (Numbered Core) = map (λ (p : ProcDef). stmts_form names p.body) procs in
    ap (λ l. first (nodes_of (of_all l 0).0 n)) (map-append (stmts_form names) (map (λ p. p.body) procs) (main ∷ []) ∙ ap (λ l. l ++ stmts_form names main ∷ []) (mapped names procs))
    ∙ ap (λ l. first (nodes_of l n)) (of_last xs (stmts_form names main) 0)
    ∙ ap first (nodes_last (of_all xs 0).0 (stmts_form names main (of_all xs 0).1).0 n)
    ∙ joined (nodes_of (of_all xs 0).0 n) (core_level (stmts_form names main (of_all xs 0).1).0 n) a b (before 0) (behind (of_all xs 0).1)
