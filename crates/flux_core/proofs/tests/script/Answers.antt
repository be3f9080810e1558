use Rattle.std.proofs.Common.{map, refl}
use Rattle.flux_query.specs.Read.{query_of}
use Rattle.flux_core.specs.Statements.{core_of, procedure_of, procs_of}
use Rattle.flux_core.specs.declared.statement.Core.TheVariants.{Call}
use Rattle.flux_core.proofs.Variants.{of_call}
use Rattle.flux_core.proofs.ScriptLaws.{one_argument, one_call}
use Rattle.flux_core.proofs.tests.script.Goals as goal

pub new-requires-2 : goal.new-requires-2
new-requires-2 c =
    let main = Call 0 c.push-2.new.self c.span-2.result in
    one_call c.in_ok-defs.defs (procs_of c.push.new.self) (procs_of c.new-procs.result) (procedure_of c.in_ok-keeping.field-0) _ _ 77 c.span-2.result (map query_of c.push-2.new.self) (core_of main)
    c.len-count.ensures.kept c.new-procs.ensures c.in_ok-push.ensures.ok c.in_ok-keeping.ensures.count c.in_ok-keeping.ensures.formed
    c.text-2.ensures c.text.ensures (one_argument c.push-2.new.self c.new-arguments.result _ c.new-arguments.ensures c.in_ok-push-2.ensures.ok)
    (of_call main 0 c.push-2.new.self c.span-2.result refl)
