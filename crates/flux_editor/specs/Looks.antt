-- What a run of trees is, if it is no more than one.
use Rattle.flux_trees.specs.Hedge.{Hedge, nil, elem, leaf}
use Rattle.flux_atom.specs.Atom.{kind_of}
use Rattle.flux_editor.specs.declared.look.Look.{Look}
use Rattle.flux_editor.specs.declared.look.Look.TheVariants.{Nothing, Elem, Atom, Many}

module _ {N : Type 0} where
  abbrev pub look_of : Hedge N → Look
  look_of nil = Nothing
  look_of (elem n a c nil) = Elem a
  look_of (leaf n x nil) = Atom (kind_of x)
  look_of _ = Many
