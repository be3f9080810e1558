-- That a script has one normal form at most.
use Rattle.std.specs.Prelude.{◌≡◌}
use Rattle.flux_calculus.specs.Core.{Normal}
use Rattle.flux_grammar.specs.declared.tree.Script.{Script}
use Rattle.flux_grammar.specs.NormalForm.{IsNormalForm}

abbrev pub NormalFormIsUnique : Type 0
NormalFormIsUnique = (s : Script) (n m : Normal) → IsNormalForm s n → IsNormalForm s m → n ≡ m
