use Rattle.std.proofs.Common.{◌≡◌, ◌++◌, drop, codes}
use Rattle.flux_core.specs.Statements.{param_of}
use Rattle.flux_report.specs.CoreText.{param_text}
use Rattle.flux_report.proofs.Listing.{behind, whole}
use Rattle.flux_report.proofs.core_text.push_params.Given as goal

abbrev pub invariant-loop-param : goal.invariant-loop-param
invariant-loop-param l = l.out.items ++ behind (param_text l.names l.defs) param_of (codes ",") (drop l.param-index l.others) ≡ l.fn.out.items ++ whole (param_text l.names l.defs) param_of (codes ",") l.proc.params
