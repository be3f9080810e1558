-- The laws of frames and of numbers.
use Rattle.std.proofs.Common.{◌≡◌, ℕ, List, [], ◌∷◌, suc, refl, ap, ap₂, ◌∙◌}
use Rattle.flux_trees.specs.Hedge.{Hedge, Plain, nil, elem, leaf, join, size, erase}
use Rattle.flux_trees.specs.Frame.{Frame, Down, Before, After, Each, plug}
use Rattle.flux_trees.specs.Edits.{Supply, beyond, number}
use Rattle.flux_trees.proofs.HedgeLaws.{join-nil, join_assoc}

-- a plain forest has nothing to erase
pub erase-plain : (h : Plain) → erase h ≡ h
erase-plain nil = refl
erase-plain (elem n a c r) = ap₂ (elem tt a) (erase-plain c) (erase-plain r)
erase-plain (leaf n x r) = ap (leaf tt x) (erase-plain r)

-- numbers change nothing else
pub erase-number : (h : Plain) (s : Supply) → erase (number h s) ≡ h
erase-number nil s = refl
erase-number (elem n a c r) s =
    ap₂ (elem tt a) (erase-number c (beyond 1 s)) (erase-number r (beyond (suc (size c)) s))
erase-number (leaf n x r) s = ap (leaf tt x) (erase-number r (beyond 1 s))

module _ {N : Type 0} where
  -- one behind all stands where it stood
  pub plug-right : (fs : List (Frame N)) (v : Hedge N) → plug (After v ∷ fs) nil ≡ plug fs v
  plug-right fs v = ap (plug fs) (join-nil v)

  -- from one tree to the next, and back to all of them, the whole forest stays
  pub plug-next : (fs : List (Frame N)) (done v t rest : Hedge N) →
      plug (Each (join done v) rest ∷ fs) t ≡ plug (Each done (join t rest) ∷ fs) v
  plug-next fs done v t rest = ap (plug fs) (join_assoc done v (join t rest))

  pub plug-gather : (fs : List (Frame N)) (done v : Hedge N) → plug (Each done nil ∷ fs) v ≡ plug fs (join done v)
  plug-gather fs done v = ap (λ w. plug fs (join done w)) (join-nil v)
