use Rattle.std.proofs.Common.{◌≡◌, ◌+◌, ◌*◌, ◌++◌, drop, codes, false}
use Rattle.flux_core.specs.Statements.{core_of, procs_of}
use Rattle.flux_report.specs.CoreText.{statement_text}
use Rattle.flux_report.proofs.Amounts.{load, total}
use Rattle.flux_report.proofs.Listing.{behind, whole}
use Rattle.flux_report.proofs.statements.+push_statement.Given as goal

abbrev pub decreases-push_statement : goal.decreases-push_statement
decreases-push_statement l = 3 * load (core_of l.statement.now)

abbrev pub decreases-push_sequence : goal.decreases-push_sequence
decreases-push_sequence l = 3 * total load core_of l.statements.now + 2

abbrev pub decreases-push_statements : goal.decreases-push_statements
decreases-push_statements l = 3 * total load core_of l.statements.now + 1

abbrev pub decreases-push_choice : goal.decreases-push_choice
decreases-push_choice l = 3 * (load (core_of l.yes.now) + load (core_of l.no.now)) + 1

abbrev pub decreases-push_let : goal.decreases-push_let
decreases-push_let l = 3 * load (core_of l.body.now) + 1

abbrev pub decreases-push_snapshot : goal.decreases-push_snapshot
decreases-push_snapshot l = 3 * load (core_of l.body.now) + 1

abbrev pub decreases-push_tested : goal.decreases-push_tested
decreases-push_tested l = 3 * load (core_of l.body.now) + 1

abbrev pub decreases-push_bracketed : goal.decreases-push_bracketed
decreases-push_bracketed l = 3 * load (core_of l.body.now) + 1

abbrev pub invariant-push_statements-loop-statement : goal.invariant-push_statements-loop-statement
invariant-push_statements-loop-statement l = l.out.items ++ behind (statement_text l.names (procs_of l.procs) false) core_of (codes ";") (drop l.statement-index l.others) ≡ l.fn.out.items ++ whole (statement_text l.names (procs_of l.procs) false) core_of (codes ";") l.statements
