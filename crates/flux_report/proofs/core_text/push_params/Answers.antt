use Rattle.std.proofs.Common.{◌∙◌, ◌<◌, length, sym, codes, ap}
use Rattle.flux_core.specs.Statements.{param_of}
use Rattle.flux_grammar.specs.NormalNames.{ParamNames}
use Rattle.flux_schema.specs.Definitions.{IsKnown}
use Rattle.flux_report.specs.CoreText.{param_text}
use Rattle.flux_report.proofs.Listing.{holds_first, holds_behind_at, none_listed, first_listed}
use Rattle.flux_report.proofs.core_text.push_params.Goals as goal

pub push_param-requires-clause-names : goal.push_param-requires-clause-names
push_param-requires-clause-names c =
    holds_first (ParamNames (λ a. a < length c.args.names.now)) param_of c.args.proc.now.params c.in-Some.first.now c.in-Some.others.now (sym c.as_slice.ensures ∙ c.in-Some.ensures.cases.0) c.requires.names

pub push_param-requires-clause-known : goal.push_param-requires-clause-known
push_param-requires-clause-known c =
    holds_first (λ x. IsKnown c.args.defs.now x.1) param_of c.args.proc.now.params c.in-Some.first.now c.in-Some.others.now (sym c.as_slice.ensures ∙ c.in-Some.ensures.cases.0) c.requires.known

pub loop-param-init : goal.loop-param-init
loop-param-init c =
    first_listed (param_text c.args.names.now c.args.defs.now) param_of (codes ",") c.args.proc.now.params c.in-Some.first.now c.in-Some.others.now c.args.out.now.items _ (sym c.as_slice.ensures ∙ c.in-Some.ensures.cases.0) c.in_ok-push_param.ensures

pub push_param-requires-in-loop-param-clause-names : goal.push_param-requires-in-loop-param-clause-names
push_param-requires-in-loop-param-clause-names c =
    holds_behind_at (ParamNames (λ a. a < length c.args.names.now)) param_of c.args.proc.now.params c.in-Some.first.now c.param-item.result c.in-Some.others.now c.loop-param.param-index (sym c.as_slice.ensures ∙ c.in-Some.ensures.cases.0) c.loop-param-test.true c.param-item.is c.requires.names

pub push_param-requires-in-loop-param-clause-known : goal.push_param-requires-in-loop-param-clause-known
push_param-requires-in-loop-param-clause-known c =
    holds_behind_at (λ x. IsKnown c.args.defs.now x.1) param_of c.args.proc.now.params c.in-Some.first.now c.param-item.result c.in-Some.others.now c.loop-param.param-index (sym c.as_slice.ensures ∙ c.in-Some.ensures.cases.0) c.loop-param-test.true c.param-item.is c.requires.known
