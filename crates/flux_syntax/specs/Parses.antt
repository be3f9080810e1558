-- What the functions of the reader promise, whatever is to be read behind them.
use Rattle.std.specs.Prelude.{◌≡◌, None, Result, Ok, Err}
use Rattle.flux_calculus.specs.declared.ask.Span.{Span}
use Rattle.flux_grammar.specs.declared.lexeme.Lexeme.{Lexeme}
use Rattle.flux_grammar.specs.declared.lexeme.Piece.{Piece}
use Rattle.flux_grammar.specs.States.{State, Takes}
use Rattle.flux_grammar.specs.Grammar.{Part, Value}
use Rattle.flux_grammar.specs.Machine.{Prog, done, take, call, Outcome, accepts, faults, Runs}
use Rattle.flux_syntax.specs.declared.reader.Fault.{Fault}
use Rattle.flux_syntax.specs.declared.reader.Fault.TheVariants.{Unfit, Memory}

-- what reads a tree and goes on with it
abbrev pub Reading : Type 0 → Type 0
Reading A = (A → Prog) → Prog

-- behind this reading, with this tree, the machine goes on at the second state
abbrev pub Gives : {A : Type 0} → Reading A → State → State → A → Type 0
Gives {A = A} g s s' v =
    (k : A → Prog) (o : Outcome) → Runs None (k v) s' o → Runs None (g k) s o

-- in this reading the machine faults at the second state
abbrev pub Refused : {A : Type 0} → Reading A → State → State → Type 0
Refused {A = A} g s s' = (k : A → Prog) → Runs None (g k) s (faults s')

-- the result is a tree that the machine gives, or the machine faults
abbrev pub Gets : {A : Type 0} → Reading A → State → State → Result A Fault → Type 0
Gets g s s' (Ok v) = Gives g s s' v
Gets g s s' (Err Unfit) = Refused g s s'
Gets g s s' (Err (Memory error)) = Unit {0}

-- the result is a reading of the part
abbrev pub Parses : (p : Part) → State → State → Result (Value p) Fault → Type 0
Parses p s s' r = Gets (call p) s s' r

-- the result is that of a run for the part, behind which nothing stands
abbrev pub Ran : (p : Part) → State → State → Result (Value p) Fault → Type 0
Ran p s s' (Ok v) = Runs None (call p (λ v. done p v)) s (accepts p v)
Ran p s s' (Err Unfit) = Runs None (call p (λ v. done p v)) s (faults s')
Ran p s s' (Err (Memory error)) = Unit {0}

abbrev pub piece : Lexeme → Span → Piece
piece l at = record { lexeme = l; span = at }

-- the machine can't take this lexeme, and faults at the second state
abbrev pub Stops : Lexeme → State → State → Type 0
Stops l s s' = (f : Piece → Prog) → Runs None (take l f) s (faults s')

-- the lexeme is taken, or the machine faults there
abbrev pub Took : Lexeme → State → State → Result Span Fault → Type 0
Took l s s' (Ok at) = Takes l s (piece l at) s'
Took l s s' (Err Unfit) = Stops l s s'
Took l s s' (Err (Memory error)) = ⊥

-- a tree, unless memory ran out
abbrev pub Made : {A : Type 0} → A → Result A Fault → Type 0
Made a (Ok v) = v ≡ a
Made a (Err Unfit) = ⊥
Made a (Err (Memory error)) = Unit {0}
