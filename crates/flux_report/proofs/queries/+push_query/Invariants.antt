use Rattle.std.proofs.Common.{◌≡◌, ◌+◌, ◌*◌, ◌++◌, drop, codes, false}
use Rattle.flux_calculus.specs.Query.{Query}
use Rattle.flux_query.specs.Read.{query_of}
use Rattle.flux_report.specs.CoreText.{query_text}
use Rattle.flux_report.proofs.Amounts.{weight, total}
use Rattle.flux_report.proofs.Listing.{behind, whole}
use Rattle.flux_report.proofs.queries.+push_query.Given as goal

abbrev pub decreases-push_query : goal.decreases-push_query
decreases-push_query l = 3 * weight (query_of l.query.now)

abbrev pub decreases-push_list : goal.decreases-push_list
decreases-push_list l = 3 * total weight query_of l.queries.now + 2

abbrev pub decreases-push_queries : goal.decreases-push_queries
decreases-push_queries l = 3 * total weight query_of l.queries.now + 1

abbrev pub decreases-push_element : goal.decreases-push_element
decreases-push_element l = 3 * weight (query_of l.content.now) + 1

abbrev pub decreases-push_let : goal.decreases-push_let
decreases-push_let l = 3 * (weight (query_of l.bound.now) + weight (query_of l.body.now)) + 1

abbrev pub decreases-push_choice : goal.decreases-push_choice
decreases-push_choice l = 3 * (weight (query_of l.condition.now) + weight (query_of l.yes.now) + weight (query_of l.no.now)) + 1

abbrev pub decreases-push_each : goal.decreases-push_each
decreases-push_each l = 3 * (weight (query_of l.over.now) + weight (query_of l.body.now)) + 1

abbrev pub decreases-push_filter : goal.decreases-push_filter
decreases-push_filter l = 3 * weight (query_of l.from.now) + 1

abbrev pub decreases-push_pair : goal.decreases-push_pair
decreases-push_pair l = 3 * (weight (query_of l.left.now) + weight (query_of l.right.now)) + 1

abbrev pub invariant-push_queries-loop-query : goal.invariant-push_queries-loop-query
invariant-push_queries-loop-query l = l.out.items ++ behind (query_text l.names false) query_of (codes ",") (drop l.query-index l.others) ≡ l.fn.out.items ++ whole (query_text l.names false) query_of (codes ",") l.queries
