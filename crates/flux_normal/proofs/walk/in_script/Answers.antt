use Rattle.flux_normal.proofs.Walks.{in_definitions_of, in_procs_of, in_input_of, in_output_of}
use Rattle.flux_normal.proofs.walk.in_script.Goals as goal

pub returns-in-Some : goal.returns-in-Some
returns-in-Some c =
    in_definitions_of c.args.question.now c.args.script.now c.as_slice.result.now c.in-Some.place c.as_slice.ensures c.in-Some.ensures

pub returns-in-Some-in_procs : goal.returns-in-Some-in_procs
returns-in-Some-in_procs c =
    in_procs_of c.args.question.now c.args.script.now c.as_slice.result.now c.as_slice-2.result.now c.in_definitions.result c.in-Some-in_procs.place c.as_slice.ensures c.in_default.is c.in_definitions.ensures c.as_slice-2.ensures c.in-Some-in_procs.ensures

pub returns-in-Some-in_type : goal.returns-in-Some-in_type
returns-in-Some-in_type c =
    in_input_of c.args.question.now c.args.script.now c.as_slice.result.now c.as_slice-2.result.now c.in_definitions.result c.in_procs.result c.in-Some-in_type.place c.as_slice.ensures c.in_default.is c.in_definitions.ensures c.as_slice-2.ensures c.in_default-in_procs.is c.in_procs.ensures c.in-Some-in_type.ensures.alone

pub returns : goal.returns
returns c =
    in_output_of c.args.question.now c.args.script.now c.as_slice.result.now c.as_slice-2.result.now c.in_definitions.result c.in_procs.result c.in_type.result c.in_output.result c.as_slice.ensures c.in_default.is c.in_definitions.ensures c.as_slice-2.ensures c.in_default-in_procs.is c.in_procs.ensures c.in_default-in_type.is c.in_type.ensures.alone c.in_output.ensures
