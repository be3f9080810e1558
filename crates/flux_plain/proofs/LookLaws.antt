-- What the first node of a run tells of what the run looks like.
use Rattle.std.proofs.Common.{◌≡◌, ◌≤◌, ℕ, length, arith, refl, sym, ap}
use Rattle.flux_trees.specs.Hedge.{Plain, nil, elem, leaf, trees, content}
use Rattle.flux_editor.specs.declared.look.Look.TheVariants.{Elem, Many}
use Rattle.flux_editor.specs.Looks.{look_of}

pub looks_many : (h : Plain) → 2 ≤ length (trees h) → Many ≡ look_of h
looks_many nil e = absurd (omega (arith, e))
looks_many (elem n a c nil) e = absurd (omega (arith, e))
looks_many (elem n a c (elem n' a' c' r)) e = refl
looks_many (elem n a c (leaf n' x r)) e = refl
looks_many (leaf n x nil) e = absurd (omega (arith, e))
looks_many (leaf n x (elem n' a' c' r)) e = refl
looks_many (leaf n x (leaf n' y r)) e = refl

pub looks_element : (h : Plain) (b : ℕ) → h ≡ elem tt b (content h) nil → Elem b ≡ look_of h
looks_element h b e = ap look_of (sym e)
