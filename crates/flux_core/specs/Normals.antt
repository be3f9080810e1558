-- The script of the calculus that a normal form spells.
use Rattle.flux_calculus.specs.Core as calculus
use Rattle.flux_core.specs.declared.normal.Normal.{Normal}
use Rattle.flux_core.specs.Statements.{normal_from}

abbrev pub normal_of : Normal → calculus.Normal
normal_of n = normal_from n.defs n.procs n.input n.declared n.main
