-- How a table of names grows.
use Rattle.std.proofs.lemmas.Option.{slice_get_within}
use Rattle.flux_atom.proofs.Tables.{length-with_text-le, length-with_text-bound}

pub ruleset tables = (length-with_text-le, length-with_text-bound, slice_get_within)
