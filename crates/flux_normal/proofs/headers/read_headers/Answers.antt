use Rattle.std.proofs.Common.{◌∷◌, ◌++◌, map, flat_map, subst, sym}
use Rattle.flux_grammar.specs.declared.tree.TypeDef.{TypeDef}
use Rattle.flux_grammar.specs.NormalFaults.{written_in, output_types}
use Rattle.flux_schema.specs.Definitions.{declared_names}
use Rattle.flux_normal.specs.Types.{AreFine}
use Rattle.flux_normal.proofs.HeaderLaws.{fine_left, fine_right}
use Rattle.flux_normal.proofs.headers.read_headers.Goals as goal

pub read_procs-requires : goal.read_procs-requires
read_procs-requires c =
    let s = c.args.script.now in
    subst (λ ps. AreFine (declared_names c.args.known.now) (flat_map written_in ps)) (sym c.as_slice.ensures)
    (fine_right (declared_names c.args.known.now) (map (λ (d : TypeDef). d.body) s.types) (flat_map written_in s.procs)
    (fine_left (declared_names c.args.known.now) (map (λ (d : TypeDef). d.body) s.types ++ flat_map written_in s.procs) (s.input ∷ output_types s.output) c.requires))

pub made_within-requires : goal.made_within-requires
made_within-requires c =
    let s = c.args.script.now in
    (fine_right (declared_names c.args.known.now) (map (λ (d : TypeDef). d.body) s.types ++ flat_map written_in s.procs) (s.input ∷ output_types s.output) c.requires).0

pub read_output-requires : goal.read_output-requires
read_output-requires c =
    let s = c.args.script.now in
    (fine_right (declared_names c.args.known.now) (map (λ (d : TypeDef). d.body) s.types ++ flat_map written_in s.procs) (s.input ∷ output_types s.output) c.requires).1
