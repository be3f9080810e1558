-- What a part of the grammar leaves stands behind what it takes.
use Rattle.std.proofs.Common.{◌≡◌, refl, subst, None, List, [], ◌∷◌, ◌++◌, arith}
use Rattle.std.specs.Prelude.{All}
use Rattle.std.proofs.lemmas.List.Elements.{All-tail}
use Rattle.flux_grammar.specs.declared.lexeme.Lexeme.{Lexeme}
use Rattle.flux_grammar.specs.declared.lexeme.Piece.{Piece}
use Rattle.flux_grammar.specs.States.{State, left, head, Takes, takes}
use Rattle.flux_grammar.specs.Grammar.{limit, Part, type, Value, Reads}
use Rattle.flux_grammar.specs.Machine.{Prog, done, call, faults, Runs, runs-deep}
use Rattle.flux_grammar.proofs.Complete.{complete}
use Rattle.flux_grammar.proofs.Follow.{Ends}
use Rattle.flux_grammar.proofs.Located.{locate}

-- a program that faults wherever it begins
abbrev too_deep : Prog
too_deep = call (type limit) (λ t. done (type limit) t)

stops : (s : State) → Runs None too_deep s (faults s)
stops s = runs-deep (λ free. let lt = free tt in omega (arith, lt))

behind : {p : Part} {a b : State} {v : Value p} → Reads None p a b v → Ends p (head b) → (taken : List Piece) × (left a ≡ taken ++ left b)
behind {b = b} r e =
    let l = locate (complete r e (λ v. too_deep) (faults b) (stops b)) b refl in
    (l.before, l.is)

module _ (P : Piece → Type 0) where
  of_rest : (taken rest : List Piece) → All P (taken ++ rest) → All P rest
  of_rest [] rest all = all
  of_rest (x ∷ taken) rest all = of_rest taken rest (All-tail P x (taken ++ rest) all)

  -- what holds of each piece holds of those that are left
  pub all_behind : {p : Part} {a b : State} {v : Value p} → Reads None p a b v → Ends p (head b) → All P (left a) → All P (left b)
  all_behind {b = b} r e all =
      let l = behind r e in
      of_rest l.0 (left b) (subst (All P) l.1 all)

  pub all_taken : {l : Lexeme} {a b : State} {x : Piece} → Takes l a x b → All P (left a) → All P (left b)
  all_taken (takes {x = x} {ps = ps} e) all = All-tail P x ps all
