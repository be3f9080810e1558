-- The names of a normal form, whose script was read with a table.
use Rattle.std.proofs.Common.{◌<◌, ℕ, List, length}
use Rattle.flux_calculus.specs.Core.{Normal}
use Rattle.flux_grammar.specs.declared.token.Token.{Token}
use Rattle.flux_grammar.specs.declared.tree.Script.{Script}
use Rattle.flux_grammar.specs.Grammar.{script}
use Rattle.flux_grammar.specs.NormalForm.{IsNormalForm}
use Rattle.flux_grammar.specs.NormalNames.{NormalNames}
use Rattle.flux_grammar.proofs.NamesOfForm.{form_keeps}
use Rattle.flux_grammar.proofs.NamesOfPieces.{each_of_script, pieces_known}
use Rattle.flux_syntax.specs.Trees.{IsTree}

-- they are names of the table
pub names_known : (texts : List (List ℕ)) (bytes : List ℕ) (ts : List Token) (s : Script) (n : Normal) → IsTree script texts bytes ts s → IsNormalForm s n → NormalNames (λ a. a < length texts) n
names_known texts bytes ts s n tree form =
    let P : ℕ → Type 0 = λ a. a < length texts in
    form_keeps P s n form (each_of_script P tree.0 s tree.2 (pieces_known texts tree.1))
