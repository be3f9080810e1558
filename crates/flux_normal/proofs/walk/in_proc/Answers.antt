use Rattle.flux_normal.proofs.Walks.{in_params_of, in_focus_of, in_result_of}
use Rattle.flux_normal.proofs.walk.in_proc.Goals as goal

pub returns-in-Some : goal.returns-in-Some
returns-in-Some c =
    in_params_of c.args.question.now c.args.definition.now c.as_slice.result.now c.in-Some.place c.as_slice.ensures c.in-Some.ensures

pub returns-in-Some-in_type : goal.returns-in-Some-in_type
returns-in-Some-in_type c =
    in_focus_of c.args.question.now c.args.definition.now c.as_slice.result.now c.in_params.result c.in-Some-in_type.place c.as_slice.ensures c.in_default.is c.in_params.ensures c.in-Some-in_type.ensures.alone

pub returns : goal.returns
returns c =
    in_result_of c.args.question.now c.args.definition.now c.as_slice.result.now c.in_params.result c.in_type.result c.in_type-2.result c.as_slice.ensures c.in_default.is c.in_default-in_type.is c.in_params.ensures c.in_type.ensures.alone c.in_type-2.ensures.alone
