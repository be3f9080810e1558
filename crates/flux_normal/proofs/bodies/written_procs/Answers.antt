use Rattle.std.specs.List.{AllZip}
use Rattle.std.proofs.Common.{map, ◌≡◌, ◌∷◌, [], All, ◌+◌, length, length-append, flat_map, refl, subst, sym, ap, ◌∙◌}
use Rattle.flux_calculus.specs.Core as calculus
use Rattle.flux_core.specs.Statements.{core_of, procs_of, procedure_of}
use Rattle.flux_grammar.specs.declared.tree.ProcDef.{ProcDef}
use Rattle.flux_grammar.specs.NormalFaults.{calls}
use Rattle.flux_grammar.specs.NormalForm.{type_names}
use Rattle.flux_grammar.specs.NormalQueries.{of_all}
use Rattle.flux_grammar.specs.NormalStatements.{stmts_form}
use Rattle.flux_normal.specs.Bodies.{IsWritten}
use Rattle.flux_normal.specs.Headers.{IsHeaderOf}
use Rattle.flux_normal.specs.Heads.{names_in, Fits}
use Rattle.flux_normal.proofs.Counted.{turn}
use Rattle.flux_normal.proofs.HeaderLaws.{made_one}
use Rattle.flux_normal.proofs.ProcLaws.{zip_within, zip_next, zip_made, all_numbered, calls_here, calls_later}
use Rattle.flux_normal.proofs.bodies.written_procs.Goals as goal

pub body-requires : goal.body-requires
body-requires c =
    let within = zip_within (IsHeaderOf (type_names c.args.script.now)) c.as_slice-procs.result.now c.loop-header.index c.in-Some.header c.next.new.self.rest.items c.loop-header.header-iterator.rest.items c.in-Some.ensures.steps.0 c.loop-header.invariant.zip in
    subst (λ ss. All (Fits c.args.procedures.now) (flat_map calls ss)) (sym (c.as_slice.ensures ∙ ap (λ (p : ProcDef). p.body) (sym c.index-procs-index.is)))
    (calls_here (Fits c.args.procedures.now) c.as_slice-procs.result.now c.loop-header.index c.index-procs-index.result within c.index-procs-index.is c.loop-header.invariant.fits)

pub loop-header-preserved : goal.loop-header-preserved
loop-header-preserved c =
    let within = zip_within (IsHeaderOf (type_names c.args.script.now)) c.as_slice-procs.result.now c.loop-header.index c.in-Some.header c.next.new.self.rest.items c.loop-header.header-iterator.rest.items c.in-Some.ensures.steps.0 c.loop-header.invariant.zip in
    let p = zip_next (IsHeaderOf (type_names c.args.script.now)) c.as_slice-procs.result.now c.loop-header.index c.index-procs-index.result c.in-Some.header c.next.new.self.rest.items c.loop-header.header-iterator.rest.items c.in-Some.ensures.steps.0 c.index-procs-index.is c.loop-header.invariant.zip in
    record {
      zip = p.1;
      fits = calls_later (Fits c.args.procedures.now) c.as_slice-procs.result.now c.loop-header.index c.index-procs-index.result within c.index-procs-index.is c.loop-header.invariant.fits;
      written = made_one (IsWritten (type_names c.args.script.now) c.args.procedures.now) c.as_slice-procs.result.now c.loop-header.index c.index-procs-index.result (procedure_of c.with_body.result) (procs_of c.loop-header.written) (procs_of c.push.new.self) within c.index-procs-index.is
          (c.with_body.ensures.written (type_names c.args.script.now) c.index-procs-index.result c.args.procedures.now p.0 c.in_ok-body.ensures.fit) c.in_ok-push.ensures.ok c.loop-header.invariant.written;
      numbered =
          turn (λ (p : ProcDef). stmts_form (names_in c.args.procedures.now) p.body) (λ (p : calculus.Proc). p.body) c.as_slice-procs.result.now c.loop-header.index c.index-procs-index.result (procedure_of c.with_body.result) (procs_of c.loop-header.written) (procs_of c.push.new.self) c.loop-header.normalizer.made c.body.new.self.made within c.index-procs-index.is
          (ap (λ ss. stmts_form (names_in c.args.procedures.now) ss c.loop-header.normalizer.made) (sym (c.as_slice.ensures ∙ ap (λ (p : ProcDef). p.body) (sym c.index-procs-index.is))) ∙ c.in_ok-body.ensures.form ∙ ap (λ s. (s, c.body.new.self.made)) (sym c.with_body.ensures.body))
          c.in_ok-push.ensures.ok
          ∙ c.loop-header.invariant.numbered;
      counted = ap length c.in_ok-push.ensures.ok ∙ length-append (procs_of c.loop-header.written) (procedure_of c.with_body.result ∷ []) ∙ ap (λ n. n + 1) c.loop-header.invariant.counted;
    }

pub returns-clause-written : goal.returns-clause-written
returns-clause-written c =
    let r = c.loop-header.header-iterator.rest in
    subst (λ ps. AllZip (IsWritten (type_names c.args.script.now) c.args.procedures.now) ps (procs_of c.loop-header.written)) c.as_slice-procs.ensures
    (zip_made (IsHeaderOf (type_names c.args.script.now)) (IsWritten (type_names c.args.script.now) c.args.procedures.now) c.as_slice-procs.result.now c.loop-header.index r.items (sym r.ok.0 ∙ c.in-None.ensures.steps.0) c.loop-header.invariant.zip (procs_of c.loop-header.written) c.loop-header.invariant.written)

pub returns-clause-bodies : goal.returns-clause-bodies
returns-clause-bodies c =
    let r = c.loop-header.header-iterator.rest in
    ap (λ ps. of_all (map (λ (p : ProcDef). stmts_form (names_in c.args.procedures.now) p.body) ps) c.args.normalizer.now.made) (sym c.as_slice-procs.ensures)
    ∙ all_numbered (IsHeaderOf (type_names c.args.script.now)) (IsWritten (type_names c.args.script.now) c.args.procedures.now) c.as_slice-procs.result.now c.loop-header.index r.items (sym r.ok.0 ∙ c.in-None.ensures.steps.0) c.loop-header.invariant.zip (λ (p : ProcDef). stmts_form (names_in c.args.procedures.now) p.body) (λ (p : calculus.Proc). p.body) (procs_of c.loop-header.written) c.loop-header.normalizer.made c.args.normalizer.now.made c.loop-header.invariant.numbered
