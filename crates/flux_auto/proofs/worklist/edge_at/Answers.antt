use Rattle.std.proofs.Common.{◌≡◌, ◌≤◌, ◌<◌, ℕ, List, length, Option, Some, None, Bor, IfSome, MatchOption, slice_get, get_or, refl, subst}
use Rattle.std.proofs.lemmas.Option.{slice_get_read}
use Rattle.flux_auto.specs.declared.edge.Edge.{Edge}
use Rattle.flux_auto.specs.declared.table.Row.{Row}
use Rattle.flux_auto.specs.Witness.{IsEdgeOf}
use Rattle.flux_auto.proofs.worklist.edge_at.Goals as goal

-- the edge that stands at a place of a row's
edge_of : (rows : List Row) (s : ℕ) (row : Row) (edges : List Edge) (i : ℕ) (r : Option (Bor Edge)) → s < length rows → row ≡ get_or rows s row → edges ≡ row.edges.items
    → MatchOption r (length edges ≤ i) (λ x. (i < length edges) × ((d : Edge) → x.now ≡ get_or edges i d)) → IfSome r (λ x. IsEdgeOf rows s x.now)
edge_of rows s row edges i None lt at e h = tt
edge_of rows s row edges i (Some x) lt at e h =
    (row, i, slice_get_read rows (length rows) s row refl lt at, subst (λ l. slice_get l i ≡ Some x.now) e (slice_get_read edges (length edges) i x.now refl h.0 (h.1 x.now)))

pub returns : goal.returns
returns c =
    let h = c.in_ok-row.ensures.lookup in
    edge_of c.args.rows.now c.args.step.now.state c.in_ok-row.row.now c.deref.result.now c.args.step.now.edge c.get-2.result h.3.0 h.1 c.deref.ensures.value c.get-2.ensures.lookup.3
