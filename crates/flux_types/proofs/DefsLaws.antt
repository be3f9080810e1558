-- The laws of the search for the one tree that a type stands for.
use Rattle.std.proofs.Common.{◌≡◌, ◌<◌, ℕ, suc, Some, length, refl, sym, subst, arith}
use Rattle.flux_atom.specs.declared.atom.AtomKind.{AtomKind}
use Rattle.flux_schema.specs.Ty.{Ty, empty, atom, element, any_element, seq, alt, star, named, NamesBelow}
use Rattle.flux_schema.specs.Definitions.{Definitions, body_of, IsGood}
use Rattle.flux_schema.specs.Single.{Single, of_atom, of_element, of_any, of_name}
use Rattle.flux_schema.proofs.Ranks.{rank_of, rank-falls}
use Rattle.flux_schema.proofs.Singles.{single-unfolded}
use Rattle.flux_types.specs.Kept.{IsKnownAtTop}

-- t and u stand for the same
pub record Follows (defs : Definitions) (t u : Ty) : Type 0 where
  pub there : (s : Ty) → Single defs u s → Single defs t s
  pub back : (s : Ty) → Single defs t s → Single defs u s

pub follows_next : (defs : Definitions) (t : Ty) (x : ℕ) (u : Ty) → Follows defs t (named x) → body_of defs x ≡ Some u → Follows defs t u
follows_next defs t x u f e = record {
  there = λ s h. f.there s (of_name x e h);
  back = λ s h. single-unfolded defs x u s e (f.back s h);
}

pub known_at_top : (defs : Definitions) (t : Ty) → NamesBelow (length defs) t → IsKnownAtTop defs t
known_at_top defs empty b = tt
known_at_top defs (atom k) b = tt
known_at_top defs (element n t) b = tt
known_at_top defs (any_element t) b = tt
known_at_top defs (seq t u) b = tt
known_at_top defs (alt t u) b = tt
known_at_top defs (star t) b = tt
known_at_top defs (named x) b = b

-- how often a type is unfolded
abbrev pub steps : Definitions → Ty → ℕ
steps defs (named x) = suc (rank_of defs x)
steps defs _ = 0

pub steps-fall : (defs : Definitions) → IsGood defs → (x : ℕ) (t : Ty) → body_of defs x ≡ Some t → steps defs t < suc (rank_of defs x)
steps-fall defs good x empty e = omega arith
steps-fall defs good x (atom k) e = omega arith
steps-fall defs good x (element n t) e = omega arith
steps-fall defs good x (any_element t) e = omega arith
steps-fall defs good x (seq t u) e = omega arith
steps-fall defs good x (alt t u) e = omega arith
steps-fall defs good x (star t) e = omega arith
steps-fall defs good x (named y) e = omega (arith, rank-falls defs good x y (named y, e, refl))

pub self_atom : (defs : Definitions) (t : Ty) (k : AtomKind) → t ≡ atom k → Single defs t t
self_atom defs t k e = subst (λ u. Single defs u u) (sym e) (of_atom k)

pub self_element : (defs : Definitions) (t : Ty) (n : ℕ) (u : Ty) → t ≡ element n u → Single defs t t
self_element defs t n u e = subst (λ u. Single defs u u) (sym e) (of_element n u)

pub self_any : (defs : Definitions) (t u : Ty) → t ≡ any_element u → Single defs t t
self_any defs t u e = subst (λ u. Single defs u u) (sym e) (of_any u)
