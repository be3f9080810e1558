use Rattle.std.proofs.Common.{◌≡◌, All, length, drop, map, flat_map}
use Rattle.std.specs.List.{AllZip}
use Rattle.flux_calculus.specs.Core as calculus
use Rattle.flux_core.specs.Statements.{procs_of}
use Rattle.flux_grammar.specs.declared.tree.ProcDef.{ProcDef}
use Rattle.flux_grammar.specs.NormalFaults.{calls}
use Rattle.flux_grammar.specs.NormalForm.{type_names}
use Rattle.flux_grammar.specs.NormalQueries.{of_all}
use Rattle.flux_grammar.specs.NormalStatements.{stmts_form}
use Rattle.flux_normal.specs.Bodies.{IsWritten}
use Rattle.flux_normal.specs.Headers.{IsHeaderOf}
use Rattle.flux_normal.specs.Heads.{names_in, Fits}
use Rattle.flux_normal.proofs.Counted.{behind}
use Rattle.flux_normal.proofs.HeaderLaws.{MadeSoFar}
use Rattle.flux_normal.proofs.bodies.written_procs.Given as goal

abbrev pub invariant-loop-header : goal.invariant-loop-header
invariant-loop-header l = record {
  zip : AllZip (IsHeaderOf (type_names l.fn.script)) (drop l.index l.procs) l.header-iterator.rest.items;
  fits : All (Fits l.procedures) (flat_map calls (flat_map (λ (p : ProcDef). p.body) (drop l.index l.procs)));
  written : MadeSoFar (IsWritten (type_names l.fn.script) l.procedures) l.procs l.index (procs_of l.written);
  numbered : behind (map (λ (p : calculus.Proc). p.body) (procs_of l.written)) (of_all (map (λ (p : ProcDef). stmts_form (names_in l.procedures) p.body) (drop l.index l.procs)) l.normalizer.made)
      ≡ of_all (map (λ (p : ProcDef). stmts_form (names_in l.procedures) p.body) l.procs) l.fn.normalizer.made;
  counted : length (procs_of l.written) ≡ l.index;
}
