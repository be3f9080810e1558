-- Whether one tree passes a test, by what an editor shows of it.
use Rattle.std.specs.Prelude.{Bool, false}
use Rattle.flux_calculus.specs.declared.ask.Test.{Test}
use Rattle.flux_calculus.specs.Tests.{element_matches, kind_matches}
use Rattle.flux_editor.specs.declared.look.Look.{Look}
use Rattle.flux_editor.specs.declared.look.Look.TheVariants.{Nothing, Elem, Atom, Many}

abbrev pub look_matches : Test → Look → Bool
look_matches t Nothing = false
look_matches t (Elem a) = element_matches t a
look_matches t (Atom k) = kind_matches t k
look_matches t Many = false
