-- When each fault comes.
use Rattle.flux_grammar.specs.declared.tree.Script.{Script}
use Rattle.flux_grammar.specs.NormalFaults.{IsDuplicate, IsUnknownType, IsBigType, IsUnguarded, IsUnknownProc, IsArity, IsTooNested}
use Rattle.flux_normal.specs.declared.fault.NormFault.{NormFault}
use Rattle.flux_normal.specs.declared.fault.NormFault.TheVariants.{Duplicate, UnknownType, BigType, Unguarded, UnknownProc, Arity, TooNested, Memory}

-- memory may be wanting whatever the script is
abbrev pub IsNormFault : Script → NormFault → Type 0
IsNormFault s (Duplicate place) = IsDuplicate s place
IsNormFault s (UnknownType place) = IsUnknownType s place
IsNormFault s (BigType place) = IsBigType s place
IsNormFault s (Unguarded place) = IsUnguarded s place
IsNormFault s (UnknownProc place) = IsUnknownProc s place
IsNormFault s (Arity place) = IsArity s place
IsNormFault s (TooNested place) = IsTooNested s place
IsNormFault s (Memory error) = Unit {0}
