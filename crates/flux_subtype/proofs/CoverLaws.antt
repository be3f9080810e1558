-- Where each kept profile is taken up, the profile of each forest is kept.
use Rattle.std.proofs.Common.{◌≡◌, ℕ, zero, suc, ◌<◌, ◌≤◌, List, [], ◌∷◌, length, map, replicate, Bool, true, false, ◌||◌, ◌&&◌, ◌==◌, refl, sym, ap, ap₂, subst, ◌∙◌, inl, inr, arith}
use Rattle.std.proofs.Math.Bool.{and-false}
use Rattle.std.specs.List.{list_any}
use Rattle.flux_atom.specs.declared.atom.AtomKind.{AtomKind}
use Rattle.flux_atom.specs.Atom.{kind_of}
use Rattle.flux_trees.specs.Hedge.{Plain, nil, elem, leaf}
use Rattle.flux_schema.specs.Tidy.{same_kind}
use Rattle.flux_auto.specs.declared.arcs.Leap.{Leap}
use Rattle.flux_auto.specs.declared.edge.Edge.{Edge}
use Rattle.flux_auto.specs.declared.edge.Edge.TheVariants.{Atom, Elem, AnyElem}
use Rattle.flux_auto.specs.Takes.{State, has, goes_by_element, goes_by_atom, profile, profile_element, profile_atom, takes}
use Rattle.flux_auto.specs.Arcs.{fired}
use Rattle.flux_subtype.specs.Kept.{Kept, set_at}
use Rattle.flux_subtype.specs.Search.{Tree, dead, Stands, Answered, AllAnswered, IsDone, IsCovered, IsAgainst}

-- ---- what no state takes

pub has-none : (n s : ℕ) → has (replicate n false) s ≡ false
has-none zero s = refl
has-none (suc n) zero = refl
has-none (suc n) (suc s) = has-none n s

any_off : (f : Edge → Bool) → ((e : Edge) → f e ≡ false) → (es : List Edge) → list_any f es ≡ false
any_off f off [] = refl
any_off f off (e ∷ es) = ap₂ (λ a b. a || b) (off e) (any_off f off es)

-- no state takes a tree by which no edge goes
none_takes : (f : Edge → Bool) → ((e : Edge) → f e ≡ false) → (a : List State) → map (λ (s : State). list_any f s.edges) a ≡ dead a
none_takes f off [] = refl
none_takes f off (s ∷ a) = ap₂ (λ b l. b ∷ l) (any_off f off s.edges) (none_takes f off a)

dead_content : (a : List State) (n : ℕ) (q : List Bool) → profile_element a n (dead a) q ≡ dead a
dead_content a n q = none_takes (goes_by_element n (dead a) q) (elim [
  | Atom k r ↦ refl
  | Elem m c r ↦ ap (λ b. (m == n) && (b && has q r)) (has-none (length a) c) ∙ and-false (m == n)
  | AnyElem c r ↦ ap (λ b. b && has q r) (has-none (length a) c)
]) a

dead_rest : (a : List State) (n : ℕ) (p : List Bool) → profile_element a n p (dead a) ≡ dead a
dead_rest a n p = none_takes (goes_by_element n p (dead a)) (elim [
  | Atom k r ↦ refl
  | Elem m c r ↦ ap (λ b. (m == n) && (has p c && b)) (has-none (length a) r) ∙ ap (λ b. (m == n) && b) (and-false (has p c)) ∙ and-false (m == n)
  | AnyElem c r ↦ ap (λ b. has p c && b) (has-none (length a) r) ∙ and-false (has p c)
]) a

dead_atom : (a : List State) (k : AtomKind) → profile_atom a k (dead a) ≡ dead a
dead_atom a k = none_takes (goes_by_atom k (dead a)) (elim [
  | Atom j r ↦ ap (λ b. same_kind j k && b) (has-none (length a) r) ∙ and-false (same_kind j k)
  | Elem m c r ↦ refl
  | AnyElem c r ↦ refl
]) a

-- ---- what is kept

-- the profile of a tree that is kept, before a profile that was taken up
tree_covered : (a : List State) (ks : List Kept) (ts : List Tree) (n j : ℕ) (leaps : List Leap) (p : List Bool) → Stands ts leaps → AllAnswered a ks ts n → j < n → fired (length a) leaps (set_at ks j) ≡ p → IsCovered a ks p
tree_covered a ks ts n j leaps p (t, at, is) all l e = subst (IsCovered a ks) e (subst (λ ls. Answered a ks ls (set_at ks j)) is (all t j at l))

pub all_covered : (a : List State) (ks : List Kept) (ts : List Tree) (n : ℕ) → length ks ≤ n → IsDone a ks ts n → (v : Plain) → IsCovered a ks (profile a v)
all_covered a ks ts n le done nil = inr done.first
all_covered a ks ts n le done (leaf _ x w) = at (all_covered a ks ts n le done w)
  where
    at : IsCovered a ks (profile a w) → IsCovered a ks (profile_atom a (kind_of x) (profile a w))
    at (inl off) = inl (ap (profile_atom a (kind_of x)) off ∙ dead_atom a (kind_of x))
    at (inr (j, l, is)) = let k = done.kinds (kind_of x) in tree_covered a ks ts n j k.0 (profile_atom a (kind_of x) (profile a w)) k.2 done.answered (omega arith) (k.1 (set_at ks j) ∙ ap (profile_atom a (kind_of x)) is)
all_covered a ks ts n le done (elem _ m c w) = at (all_covered a ks ts n le done c) (all_covered a ks ts n le done w)
  where
    at : IsCovered a ks (profile a c) → IsCovered a ks (profile a w) → IsCovered a ks (profile_element a m (profile a c) (profile a w))
    at (inl off) r = inl (ap (λ p. profile_element a m p (profile a w)) off ∙ dead_content a m (profile a w))
    at (inr p) (inl off) = inl (ap (profile_element a m (profile a c)) off ∙ dead_rest a m (profile a c))
    at (inr (i, h, in_content)) (inr (j, l, is)) =
        let k = done.labels i (omega arith) m in
        tree_covered a ks ts n j k.0 (profile_element a m (profile a c) (profile a w)) k.2 done.answered (omega arith) (k.1 (set_at ks j) ∙ ap₂ (profile_element a m) in_content is)

right_or_against : (ks : List Kept) (left right i : ℕ) (b : Bool) → has (set_at ks i) right ≡ b → has (set_at ks i) left ≡ true → (IsAgainst ks left right i → ⊥) → has (set_at ks i) right ≡ true
right_or_against ks left right i true e h f = e
right_or_against ks left right i false e h f = absurd (f (h, e))

-- where no kept profile is against it, the right state takes what the left one takes
pub covered_right : (a : List State) (ks : List Kept) (left right : ℕ) → ((i : ℕ) → i < length ks → IsAgainst ks left right i → ⊥) → (v : Plain) → IsCovered a ks (profile a v) → takes a left v ≡ true → takes a right v ≡ true
covered_right a ks left right f v (inl off) t = absurd (let x : true ≡ false = sym t ∙ ap (λ p. has p left) off ∙ has-none (length a) left in cc)
covered_right a ks left right f v (inr (i, l, is)) t =
    ap (λ p. has p right) (sym is) ∙ right_or_against ks left right i (has (set_at ks i) right) refl (ap (λ p. has p left) is ∙ t) (f i l)
