-- Where a run of trees stands in a forest.
use Rattle.std.specs.Prelude.{ℕ, List, [], ◌∷◌}
use Rattle.flux_trees.specs.Hedge.{Hedge, nil, elem, join}

-- what stands around the trees: they are the content of an element with this note and label; they
-- stand before other trees, or behind them; they are one of several trees that are treated one by
-- one, behind the results of those before it and before those still to come
pub data Frame (N : Type 0) : Type 0 where
  Down : (note : N) (label : ℕ) → Frame N
  Before : (w : Hedge N) → Frame N
  After : (w : Hedge N) → Frame N
  Each : (done rest : Hedge N) → Frame N

module _ {N : Type 0} where
  -- the trees with what stands around them
  abbrev pub framed : Frame N → Hedge N → Hedge N
  framed (Down m n) v = elem m n v nil
  framed (Before w) v = join v w
  framed (After w) v = join w v
  framed (Each done rest) v = join done (join v rest)

  -- the whole forest in which the trees stand, by the frames around them, the innermost first
  abbrev pub plug : List (Frame N) → Hedge N → Hedge N
  plug [] v = v
  plug (f ∷ fs) v = plug fs (framed f v)
