use Rattle.std.proofs.Common.{◌∙◌}
use Rattle.flux_grammar.specs.NormalForm.{type_names}
use Rattle.flux_grammar.specs.NormalFaults.{declarations}
use Rattle.flux_schema.specs.Definitions.{declared_names}
use Rattle.flux_normal.proofs.Defined.{bodies_fine, as_declarations, definitions_made, never_reaches, cyclic}
use Rattle.flux_normal.proofs.types.defined.Goals as goal

pub define_all-requires-clause-fine : goal.define_all-requires-clause-fine
define_all-requires-clause-fine c =
    bodies_fine c.args.script.now (declared_names c.args.known) c.as_slice.result.now c.requires.names c.as_slice.ensures c.requires.no_unknown c.requires.no_big

pub returns-in-Ok-clause-ok : goal.returns-in-Ok-clause-ok
returns-in-Ok-clause-ok c =
    let s = c.args.script.now in
    let made = as_declarations s (declared_names c.args.known) c.as_slice.result.now c.define_all.new.known c.requires.names c.as_slice.ensures c.in_ok-define_all.ensures in
    definitions_made (type_names s) s.types c.in-Ok.defs (c.in-Ok.ensures.ok ∙ made)

pub returns-in-Ok-clause-guarded : goal.returns-in-Ok-clause-guarded
returns-in-Ok-clause-guarded c =
    let s = c.args.script.now in
    let made = as_declarations s (declared_names c.args.known) c.as_slice.result.now c.define_all.new.known c.requires.names c.as_slice.ensures c.in_ok-define_all.ensures in
    never_reaches (declarations s) c.in-Ok.defs (c.in-Ok.ensures.ok ∙ made) c.in-Ok.ensures.good.guarded

pub returns-in-Err-Unguarded-clause-fault : goal.returns-in-Err-Unguarded-clause-fault
returns-in-Err-Unguarded-clause-fault c =
    let s = c.args.script.now in
    let made = as_declarations s (declared_names c.args.known) c.as_slice.result.now c.define_all.new.known c.requires.names c.as_slice.ensures c.in_ok-define_all.ensures in
    let fault = rw c.in-Err-Unguarded.field-0-is at c.in-Err-Unguarded.ensures.fault in
    cyclic s c.define_all.new.known c.as_slice-in-Err-Unguarded.result.now c.in-Err-Unguarded.index c.unguarded.result made
    c.as_slice-in-Err-Unguarded.ensures fault.1 c.unguarded.ensures
