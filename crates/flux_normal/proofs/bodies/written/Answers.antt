use Rattle.std.proofs.Common.{All, flat_map, sym, subst, ap, ◌∙◌}
use Rattle.flux_calculus.specs.Core as calculus
use Rattle.flux_core.specs.Normals.{normal_of}
use Rattle.flux_core.specs.Statements.{core_of, procs_of}
use Rattle.flux_types.specs.Read.{ty_of}
use Rattle.flux_grammar.specs.NormalFaults.{calls}
use Rattle.flux_grammar.specs.NormalForm.{IsNormalForm}
use Rattle.flux_grammar.specs.NormalStatements.{stmts_form}
use Rattle.flux_normal.specs.Heads.{names_in, Fits}
use Rattle.flux_normal.proofs.WholeLaws.{procs_fit, main_fits, well_formed, is_normal}
use Rattle.flux_normal.proofs.bodies.written.Goals as goal

pub written_procs-requires-clause-fit : goal.written_procs-requires-clause-fit
written_procs-requires-clause-fit c = procs_fit c.args.procedures.now c.args.script.now c.requires.fit

pub body-requires : goal.body-requires
body-requires c = subst (λ ss. All (Fits c.args.procedures.now) (flat_map calls ss)) (sym c.as_slice.ensures) (main_fits c.args.procedures.now c.args.script.now c.requires.fit)

pub new-requires : goal.new-requires
new-requires c =
    well_formed c.args.script.now c.args.procedures.now c.args.defs (procs_of c.in_ok-procs.procs) (ty_of c.args.headers.input) c.args.headers.declared (core_of c.in_ok-main.main)
    c.requires.procedures c.requires.defs c.in_ok-procs.ensures.written c.requires.input c.requires.declared c.as_kept-kept.ensures.kept c.in_ok-main.ensures.fit

pub returns : goal.returns
returns c =
    subst (IsNormalForm c.args.script.now) (sym c.new.ensures)
    (is_normal c.args.script.now c.args.procedures.now c.args.defs (procs_of c.in_ok-procs.procs) (ty_of c.args.headers.input) c.args.headers.declared (core_of c.in_ok-main.main)
    c.requires.procedures c.requires.defs c.in_ok-procs.ensures.written c.requires.input c.requires.declared _ _ c.in_ok-procs.ensures.bodies
    (ap (λ ss. stmts_form (names_in c.args.procedures.now) ss c.written_procs.new.normalizer.made) (sym c.as_slice.ensures) ∙ c.in_ok-main.ensures.form))
