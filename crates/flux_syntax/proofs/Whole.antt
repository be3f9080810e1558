-- From runs for a whole text to its tree, or to the place where it has none.
use Rattle.std.proofs.Common.{◌≡◌, ◌<◌, ◌≤◌, ℕ, List, [], ◌∷◌, None, Result, Ok, Err, length, refl, sym, ap, subst, ◌∙◌, arith}
use Rattle.flux_grammar.specs.declared.lexeme.Piece.{Piece}
use Rattle.flux_grammar.specs.declared.token.Token.{Token}
use Rattle.flux_grammar.specs.States.{State, state, left, head}
use Rattle.flux_grammar.specs.Grammar.{Part, Value}
use Rattle.flux_grammar.specs.Lexemes.{ArePieces}
use Rattle.flux_grammar.specs.Machine.{done, call, accepts, faults, runs-done, runs-over}
use Rattle.flux_grammar.specs.Readings.{start_of}
use Rattle.flux_grammar.proofs.Final.{Faithful, accepted, faulted}
use Rattle.flux_grammar.proofs.Follow.{Ends}
use Rattle.flux_syntax.specs.declared.trees.SynFault.{SynFault}
use Rattle.flux_syntax.specs.declared.trees.SynFault.TheVariants.{Syntax}
use Rattle.flux_syntax.specs.declared.reader.Fault.{Fault}
use Rattle.flux_syntax.specs.declared.reader.Fault.TheVariants.{Unfit, Memory}
use Rattle.flux_syntax.specs.Parses.{Gives, Parses, Ran}
use Rattle.flux_syntax.specs.Trees.{IsTree, IsSynFault}
use Rattle.flux_syntax.proofs.Leads.{Exits}

none_left : (s : State) → length (left s) < 1 → head s ≡ None
none_left (state e []) lt = refl
none_left (state e (x ∷ ps)) lt = absurd (omega (arith, lt))

some_left : (s : State) → 1 ≤ length (left s) → head s ≡ None → ⊥
some_left (state e []) le h = absurd (omega (arith, le))
some_left (state e (x ∷ ps)) le h = cc

pub ran_whole : (p : Part) (s s' : State) (v : Value p) → Gives (call p) s s' v → length (left s') < 1 → Ran p s s' (Ok v)
ran_whole p s s' v g lt = g (λ v. done p v) (accepts p v) (runs-done (none_left s' lt))

pub ran_over : (p : Part) (s s' : State) (v : Value p) → Gives (call p) s s' v → 1 ≤ length (left s') → Ran p s s' (Err Unfit)
ran_over p s s' v g le = g (λ v. done p v) (faults s') (runs-over (some_left s' le))

pub ran_stops : (p : Part) (s s' : State) (r : Result (Value p) Fault) (e : Fault) → Exits r e → Parses p s s' (Err e) → Ran p s s' r
ran_stops p s s' r e x h = subst (Ran p s s') (sym (x.1 ∙ ap Err x.2)) (passed e h)
  where
    passed : (e : Fault) → Parses p s s' (Err e) → Ran p s s' (Err e)
    passed Unfit h = h (λ v. done p v)
    passed (Memory error) h = tt

pub is_tree : (p : Part) → Faithful p → (texts : List (List ℕ)) (bytes : List ℕ) (tokens : List Token) (ps : List Piece) (s' : State) (tree : Value p) → ArePieces texts bytes tokens ps → Ran p (state 0 ps) s' (Ok tree) → IsTree p texts bytes tokens tree
is_tree p same texts bytes tokens ps s' tree pieces run = (ps, pieces, accepted p same ps tree run)

pub is_fault : (p : Part) → Ends p None → (texts : List (List ℕ)) (bytes : List ℕ) (tokens : List Token) (ps : List Piece) (s' : State) (fault : SynFault) (e : Fault) → ArePieces texts bytes tokens ps → e ≡ Unfit → Ran p (state 0 ps) s' (Err e) → fault ≡ Syntax (start_of (left s') (length bytes)) → IsSynFault p texts bytes tokens fault
is_fault p ends texts bytes tokens ps s' fault e pieces unfit run is =
    let stopped = subst (λ e. Ran p (state 0 ps) s' (Err e)) unfit run in
    subst (IsSynFault p texts bytes tokens) (sym is) (ps, pieces, faulted p ends ps s' (length bytes) (start_of (left s') (length bytes)) refl stopped)
