use Rattle.std.proofs.Common.{[], ◌∷◌, map, subst, sym}
use Rattle.flux_grammar.specs.declared.tree.ParamDef.{ParamDef}
use Rattle.flux_grammar.specs.declared.tree.TypeText.{TypeText}
use Rattle.flux_schema.specs.Definitions.{declared_names}
use Rattle.flux_normal.specs.Types.{AreFine}
use Rattle.flux_normal.proofs.HeaderLaws.{fine_left, fine_right}
use Rattle.flux_normal.proofs.headers.read_proc.Goals as goal

pub read_params-requires : goal.read_params-requires
read_params-requires c =
    subst (λ ps. AreFine (declared_names c.args.known.now) (map (λ (q : ParamDef). q.ty) ps)) (sym c.as_slice.ensures)
    (fine_left (declared_names c.args.known.now) (map (λ (q : ParamDef). q.ty) c.args.proc.now.params) (c.args.proc.now.focus ∷ c.args.proc.now.result ∷ []) c.requires)

pub made_within-requires : goal.made_within-requires
made_within-requires c =
    (fine_right (declared_names c.args.known.now) (map (λ (q : ParamDef). q.ty) c.args.proc.now.params) (c.args.proc.now.focus ∷ c.args.proc.now.result ∷ []) c.requires).0

pub made_within-requires-2 : goal.made_within-requires-2
made_within-requires-2 c =
    (fine_right (declared_names c.args.known.now) (map (λ (q : ParamDef). q.ty) c.args.proc.now.params) (c.args.proc.now.focus ∷ c.args.proc.now.result ∷ []) c.requires).1.0
