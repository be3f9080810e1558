-- Which types a filter keeps as they are.
use Rattle.std.specs.Prelude.{Bool, false}
use Rattle.flux_schema.specs.Ty.{Ty, empty, atom, element, any_element, seq, alt, star, named}
use Rattle.flux_calculus.specs.declared.ask.Test.{Test}
use Rattle.flux_calculus.specs.Tests.{element_matches, kind_matches}

-- an atom type, or an element type of one label, of which every tree passes
abbrev pub stays : Test → Ty → Bool
stays p empty = false
stays p (atom k) = kind_matches p k
stays p (element n t) = element_matches p n
stays p (any_element t) = false
stays p (seq t u) = false
stays p (alt t u) = false
stays p (star t) = false
stays p (named x) = false
