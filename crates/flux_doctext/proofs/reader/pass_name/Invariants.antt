use Rattle.std.proofs.Common.{◌≡◌, ◌++◌, take, string_bytes}
use Rattle.std.specs.List.{AllPass}
use Rattle.flux_atom.specs.Names.{continues_name}
use Rattle.flux_doctext.proofs.reader.pass_name.Given as goal

-- the bytes before go on with the name
abbrev pub invariant-loop-place : goal.invariant-loop-place
invariant-loop-place l = record {
  name : AllPass continues_name (take l.place l.bytes);
  longer : string_bytes l.text ≡ string_bytes l.fn.text ++ take l.place l.bytes;
}
