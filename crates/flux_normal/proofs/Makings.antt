-- The types that written types stand for.
use Rattle.std.proofs.Common.{◌≡◌, ◌==◌, ℕ, zero, suc, ◌+◌, ◌<◌, ◌≤◌, List, [], ◌∷◌, length, take, drop, get_or, Option, Some, None, map, refl, sym, ap, ap₂, ◌∙◌, subst, option_map, arith}
use Rattle.std.specs.List.{slice_get}
use Rattle.std.specs.Prelude.{Result, Ok, Err, IfOk}
use Rattle.std.specs.declared.alloc.AllocError.{AllocError}
use Rattle.std.proofs.lemmas.List.{drop_all}
use Rattle.std.proofs.lemmas.Option.{slice_get_within}
use Rattle.flux_atom.specs.declared.atom.AtomKind.{AtomKind}
use Rattle.flux_calculus.specs.declared.ask.Span.{Span}
use Rattle.flux_grammar.specs.declared.tree.Mark.{Mark}
use Rattle.flux_grammar.specs.declared.tree.Repetition.{Repetition}
use Rattle.flux_grammar.specs.declared.tree.Repetition.TheVariants.{Star, Plus, Optional}
use Rattle.flux_grammar.specs.declared.tree.TypeText.{TypeText}
use Rattle.flux_grammar.specs.TypeOf.{type_in, named_by, nested, both, under_marks, repeated}
use Rattle.flux_schema.specs.Ty.{Ty, empty, atom, element, any_element, seq, alt, star, named, NamesBelow}
use Rattle.flux_types.specs.declared.ty.Ty.{Ty as Tree}
use Rattle.flux_types.specs.Read.{ty_of}
use Rattle.flux_normal.specs.declared.written.Join.{Join}
use Rattle.flux_normal.specs.declared.written.Join.TheVariants.{Comma, Bar}
use Rattle.flux_normal.specs.Written.{join_of, IsTypeOf}
use Rattle.flux_normal.proofs.Named.{Locates, named_located}
use Rattle.flux_normal.proofs.Extents.{drop_here, nested_more, length_left}

pub made_same : (n : ℕ) (o p : Option Ty) (t u : Ty) → p ≡ o → u ≡ t → IsTypeOf n o t → IsTypeOf n p u
made_same n o p t u e f h = let Q : Ty → Type 0 = λ w. IsTypeOf n p w in
    let R : Option Ty → Type 0 = λ q. IsTypeOf n q t in subst Q (sym f) (subst R (sym e) h)

pub made_kind : (n : ℕ) (o : Option Ty) (t : Ty) (k : AtomKind) → o ≡ Some (atom k) → t ≡ atom k → IsTypeOf n o t
made_kind n o t k e f = made_same n (Some (atom k)) o (atom k) t e f record { same = refl; below = tt }

pub made_empty : (n : ℕ) (o : Option Ty) (t : Ty) → o ≡ Some empty → t ≡ empty → IsTypeOf n o t
made_empty n o t e f = made_same n (Some empty) o empty t e f record { same = refl; below = tt }

pub made_element : (n l : ℕ) (o p : Option Ty) (t u : Ty) → p ≡ option_map (element l) o → u ≡ element l t → IsTypeOf n o t → IsTypeOf n p u
made_element n l o p t u e f h =
    made_same n (option_map (element l) o) p (element l t) u e f record { same = ap (option_map (element l)) h.same; below = h.below }

pub made_any : (n : ℕ) (o p : Option Ty) (t u : Ty) → p ≡ option_map any_element o → u ≡ any_element t → IsTypeOf n o t → IsTypeOf n p u
made_any n o p t u e f h =
    made_same n (option_map any_element o) p (any_element t) u e f record { same = ap (option_map any_element) h.same; below = h.below }

pub made_named : (names : List ℕ) (name x : ℕ) (r : Option ℕ) (p : Option Ty) (u : Ty) → p ≡ named_by names name → u ≡ named x → Locates names name r → r ≡ Some x → IsTypeOf (length names) p u
made_named names name x r p u e f h g =
    made_same (length names) (named_by names name) p (named x) u e f record { same = named_located names name r x h g; below = slice_get_within names x name ((h x).0 g) }

-- marks
below_repeated : (n : ℕ) (t : Ty) (r : Repetition) → NamesBelow n t → NamesBelow n (repeated t r)
below_repeated n t Star h = h
below_repeated n t Plus h = (h, h)
below_repeated n t Optional h = (h, tt)

below_marks : (n : ℕ) (t : Ty) (ms : List Mark) → NamesBelow n t → NamesBelow n (under_marks t ms)
below_marks n t [] h = h
below_marks n t (m ∷ ms) h = below_marks n (repeated t m.repetition) ms (below_repeated n t m.repetition h)

pub made_marked : (n : ℕ) (o p : Option Ty) (t u : Ty) (ms : List Mark) → p ≡ option_map (λ w. under_marks w ms) o → u ≡ under_marks t ms → IsTypeOf n o t → IsTypeOf n p u
made_marked n o p t u ms e f h =
    made_same n (option_map (λ w. under_marks w ms) o) p (under_marks t ms) u e f record { same = ap (option_map (λ w. under_marks w ms)) h.same; below = below_marks n t ms h.below }

-- ---- lists

abbrev pub Keeps : (Ty → Ty → Ty) → Type 0
Keeps join = (n : ℕ) (t u : Ty) → NamesBelow n t → NamesBelow n u → NamesBelow n (join t u)

pub join_keeps : (j : Join) → Keeps (join_of j)
join_keeps Comma n t u h g = (h, g)
join_keeps Bar n t u h g = (h, g)

-- nothing stands behind the last part, and a type is made behind each other part
abbrev pub IsMadeSoFar : List ℕ → (Ty → Ty → Ty) → List TypeText → ℕ → Option Tree → Type 0
IsMadeSoFar names join ts i None = length ts ≤ i
IsMadeSoFar names join ts i (Some t) = (i < length ts) × IsTypeOf (length names) (nested join (map (type_in names) (drop i ts))) (ty_of t)

only_made : (names : List ℕ) (join : Ty → Ty → Ty) (t : TypeText) (ts : List TypeText) (u : Ty) → ts ≡ [] → IsTypeOf (length names) (type_in names t) u → IsTypeOf (length names) (nested join (map (type_in names) (t ∷ ts))) u
only_made names join t [] u e h = h
only_made names join t (v ∷ ts) u e h = absurd (cc)

made_so_far : (names : List ℕ) (j : Join) (ts : List TypeText) (i : ℕ) (t : TypeText) (p r : Tree) (whole : Option Tree) → i < length ts → t ≡ get_or ts i t → IsMadeSoFar names (join_of j) ts (i + 1) whole → IsTypeOf (length names) (type_in names t) (ty_of p) → (whole ≡ None → r ≡ p) → ((w : Tree) → whole ≡ Some w → ty_of r ≡ join_of j (ty_of p) (ty_of w)) → IsMadeSoFar names (join_of j) ts i (Some r)
made_so_far names j ts i t p r None lt is h m f g = (
  lt,
  let P : List TypeText → Type 0 = λ us. IsTypeOf (length names) (nested (join_of j) (map (type_in names) us)) (ty_of r) in
      let Q : Tree → Type 0 = λ x. IsTypeOf (length names) (type_in names t) (ty_of x) in
      subst P (sym (drop_here ts i t lt is)) (only_made names (join_of j) t (drop (i + 1) ts) (ty_of r) (drop_all (i + 1) ts h) (subst Q (sym (f refl)) m)),
)
made_so_far names j ts i t p r (Some w) lt is h m f g = (
  lt,
  let us = drop (i + 1) ts in
      let P : List TypeText → Type 0 = λ us. IsTypeOf (length names) (nested (join_of j) (map (type_in names) us)) (ty_of r) in
      let more = nested_more (join_of j) (type_in names) t us (length_left ts (i + 1) h.0) in
      let joined = ap₂ (both (join_of j)) m.same h.1.same in
      subst P (sym (drop_here ts i t lt is)) record {
        same = more ∙ joined ∙ ap Some (sym (g w refl));
        below = let Q : Ty → Type 0 = λ x. NamesBelow (length names) x in subst Q (sym (g w refl)) (join_keeps j (length names) (ty_of p) (ty_of w) m.below h.1.below);
      },
)

pub made_before : (names : List ℕ) (j : Join) (ts : List TypeText) (k i : ℕ) (t : TypeText) (p r : Tree) (whole : Option Tree) → k ≡ i + 1 → i < length ts → t ≡ get_or ts i t → IsMadeSoFar names (join_of j) ts k whole → IsTypeOf (length names) (type_in names t) (ty_of p) → (whole ≡ None → r ≡ p) → ((w : Tree) → whole ≡ Some w → ty_of r ≡ join_of j (ty_of p) (ty_of w)) → IsMadeSoFar names (join_of j) ts i (Some r)
made_before names j ts k i t p r whole s lt is h = let P : ℕ → Type 0 = λ n. IsMadeSoFar names (join_of j) ts n whole in made_so_far names j ts i t p r whole lt is (subst P s h)

pub marked_made : (n : ℕ) (o p : Option Ty) (inner : Tree) (ms ns : List Mark) (r : Result Tree AllocError) → p ≡ option_map (λ w. under_marks w ms) o → ns ≡ ms → IsTypeOf n o (ty_of inner) → IfOk r (λ m. ty_of m ≡ under_marks (ty_of inner) ns) → IfOk r (λ m. IsTypeOf n p (ty_of m))
marked_made n o p inner ms ns (Ok m) e f h g = made_marked n o p (ty_of inner) (ty_of m) ms e (g ∙ ap (under_marks (ty_of inner)) f) h
marked_made n o p inner ms ns (Err x) e f h g = tt
