-- How many nodes and levels a written type has.
use Rattle.std.proofs.Common.{◌≡◌, ◌==◌, ◌&&◌, ℕ, ◌+◌, ◌-◌, ◌^◌, ◌<◌, ◌≤◌, min, max, zero, suc, Bool, true, false, not, ◌||◌, ltb, List, [], ◌∷◌, ◌++◌, length, take, drop, get_or, Option, Some, None, map, refl, sym, ap, ap₂, ◌∙◌, subst, option_map, arith, length-drop, drop-cons, add-one, append-nil}
use Rattle.std.specs.List.{position, filter_map}
use Rattle.std.proofs.lemmas.List.{drop_all}
use Rattle.std.proofs.lemmas.Bool.Decides.{nat_tests}
use Rattle.flux_atom.specs.declared.atom.AtomKind.{AtomKind}
use Rattle.flux_schema.specs.Ty.{Ty, empty, atom, element, any_element, seq, alt, star, named, size, height}
use Rattle.flux_calculus.specs.Typing.{is_within}
use Rattle.flux_grammar.specs.declared.tree.Mark.{Mark}
use Rattle.flux_grammar.specs.declared.tree.Repetition.{Repetition}
use Rattle.flux_grammar.specs.declared.tree.Repetition.TheVariants.{Star, Plus, Optional}
use Rattle.flux_grammar.specs.declared.tree.TypeText.{TypeText}
use Rattle.flux_grammar.specs.NormalFaults.{unknown}
use Rattle.flux_grammar.specs.TypeOf.{type_in, named_by, nested, both, under_marks, repeated}
use Rattle.flux_normal.specs.declared.written.Extent.{Extent}
use Rattle.flux_normal.specs.Written.{unknowns, unknowns_among, extent_of, above, above_both, IsJoin, Measures, TellsBig}
use Rattle.flux_normal.proofs.TypeTexts.{among-cons}
use Rattle.flux_normal.proofs.Named.{not_placed}
use Rattle.flux_normal.proofs.Firsts.{append_nil_left, append_nil_right}

-- ---- extents

capped_one : (a m : ℕ) → min (min a m + 1) m ≡ min (a + 1) m
capped_one a m = omega arith

capped_sum : (a b m : ℕ) → min (min (min a m + min b m) m + 1) m ≡ min (a + b + 1) m
capped_sum a b m = omega arith

capped_max : (a b m : ℕ) → min (max (min a m) (min b m) + 1) m ≡ min (max a b + 1) m
capped_max a b m = omega arith

made_of : ℕ → ℕ → Extent
made_of n l = record { nodes = n; levels = l }

pub above_is : (t : Ty) → above (extent_of t) ≡ extent_of (star t)
unfolding made_of
above_is t = ap₂ made_of (capped_one (size t) (2 ^ 64 - 1)) (capped_one (height t) (2 ^ 64 - 1))

pub above_both_is : (t u : Ty) → above_both (extent_of t) (extent_of u) ≡ extent_of (seq t u)
unfolding made_of
above_both_is t u = ap₂ made_of (capped_sum (size t) (size u) (2 ^ 64 - 1)) (capped_max (height t) (height u) (2 ^ 64 - 1))

pub join_seq : IsJoin seq
join_seq t u = sym (above_both_is t u)

pub join_alt : IsJoin alt
join_alt t u = sym (above_both_is t u)

pub leaf_is : (e : Extent) → e.nodes ≡ 1 → e.levels ≡ 1 → e ≡ extent_of empty
unfolding made_of
leaf_is e n l = ap₂ made_of n l

-- ---- marks

pub star_is : (t : Ty) (e r : Extent) → e ≡ extent_of t → r ≡ above e → r ≡ extent_of (repeated t Star)
star_is t e r h s = s ∙ ap above h ∙ above_is t

pub plus_is : (t : Ty) (e f r : Extent) → e ≡ extent_of t → f ≡ above e → r ≡ above_both e f → r ≡ extent_of (repeated t Plus)
plus_is t e f r h g s = s ∙ ap₂ above_both h (g ∙ ap above h ∙ above_is t) ∙ above_both_is t (star t)

pub optional_is : (t : Ty) (e f r : Extent) → e ≡ extent_of t → f ≡ extent_of empty → r ≡ above_both e f → r ≡ extent_of (repeated t Optional)
optional_is t e f r h g s = s ∙ ap₂ above_both h g ∙ above_both_is t empty

under_suc : (t : Ty) (ms : List Mark) (i : ℕ) (d : Mark) → i < length ms → under_marks t (take (suc i) ms) ≡ repeated (under_marks t (take i ms)) (get_or ms i d).repetition
under_suc t [] i d lt = absurd (omega arith)
under_suc t (n ∷ ms) zero d lt = refl
under_suc t (n ∷ ms) (suc i) d lt = under_suc (repeated t n.repetition) ms i d (omega arith)

pub under_more : (t : Ty) (ms : List Mark) (i : ℕ) (d : Mark) → i < length ms → under_marks t (take (i + 1) ms) ≡ repeated (under_marks t (take i ms)) (get_or ms i d).repetition
under_more t ms i d lt = ap (λ n. under_marks t (take n ms)) (add-one i) ∙ under_suc t ms i d lt

pub mark_more : (t w u : Ty) (ms : List Mark) (i : ℕ) (d : Mark) → i < length ms → u ≡ repeated w (get_or ms i d).repetition → w ≡ under_marks t (take i ms) → u ≡ under_marks t (take (i + 1) ms)
mark_more t w u ms i d lt e f = e ∙ ap (λ x. repeated x (get_or ms i d).repetition) f ∙ sym (under_more t ms i d lt)

-- ---- measures

pub measures_kind : (e : Extent) (o : Option Ty) (us : List ℕ) (k : AtomKind) → e ≡ extent_of empty → o ≡ Some (atom k) → Measures (Some e) o us
measures_kind e o us k h g = subst (λ p. Measures (Some e) p us) (sym g) (ap Some h)

-- a name that isn't there is unknown
measures_by : (names : List ℕ) (n place : ℕ) (e : Extent) (r : Option ℕ) → e ≡ extent_of empty → position (λ m. m == n) names ≡ r → Measures (Some e) (option_map named r) (filter_map (unknown names) ((n, place) ∷ []))
measures_by names n place e (Some x) h g = ap Some h
measures_by names n place e None h g = not_placed names n place g

pub measures_named : (names : List ℕ) (n place : ℕ) (e : Extent) → e ≡ extent_of empty → Measures (Some e) (named_by names n) (filter_map (unknown names) ((n, place) ∷ []))
measures_named names n place e h = measures_by names n place e (position (λ m. m == n) names) h refl

-- one more node above
pub measures_over : (r s : Option Extent) (o : Option Ty) (us : List ℕ) (over : Ty → Ty) → ((t : Ty) → extent_of (over t) ≡ extent_of (star t)) → (r ≡ None → s ≡ None) → ((e : Extent) → r ≡ Some e → s ≡ Some (above e)) → Measures r o us → Measures s (option_map over o) us
measures_over r s (Some t) us over h f g m = g (extent_of t) m ∙ ap Some (above_is t ∙ sym (h t))
measures_over None s None us over h f g m = subst (λ p. Measures p None us) (sym (f refl)) tt
measures_over (Some e) s None us over h f g m = subst (λ p. Measures p None us) (sym (g e refl)) m

pub measures_marked : (r s : Option Extent) (o : Option Ty) (us : List ℕ) (ms : List Mark) → (r ≡ None → s ≡ None) → ((t : Ty) → r ≡ Some (extent_of t) → s ≡ Some (extent_of (under_marks t ms))) → Measures r o us → Measures s (option_map (λ u. under_marks u ms) o) us
measures_marked r s (Some t) us ms f g m = g t m
measures_marked None s None us ms f g m = subst (λ p. Measures p None us) (sym (f refl)) tt
measures_marked (Some e) None None us ms f g m = tt
measures_marked (Some e) (Some e') None us ms f g m = m

-- ---- lists

some_is : {e f : Extent} → Some e ≡ Some f → e ≡ f
some_is h = cc

-- what a part and those behind it measure
both_measures : (e f r : Extent) (join : Ty → Ty → Ty) (o p : Option Ty) (us vs : List ℕ) → IsJoin join → r ≡ above_both e f → Measures (Some e) o us → Measures (Some f) p vs → Measures (Some r) (both join o p) (us ++ vs)
both_measures e f r join (Some t) (Some u) us vs j g a b = ap Some (g ∙ ap₂ above_both (some_is a) (some_is b) ∙ sym (j t u))
both_measures e f r join (Some t) None us vs j g a b = λ h. b (append_nil_right us vs h)
both_measures e f r join None p us vs j g a b = λ h. a (append_nil_left us vs h)

-- nothing stands behind the last part, and something is measured behind each other part
abbrev pub IsSoFar : List TypeText → ℕ → Option Extent → Type 0
IsSoFar ts i None = length ts ≤ i
IsSoFar ts i (Some e) = (i < length ts) × ((names : List ℕ) (join : Ty → Ty → Ty) → IsJoin join → Measures (Some e) (nested join (map (type_in names) (drop i ts))) (unknowns_among names (drop i ts)))

pub drop_here : (ts : List TypeText) (i : ℕ) (t : TypeText) → i < length ts → t ≡ get_or ts i t → drop i ts ≡ t ∷ drop (i + 1) ts
drop_here ts i t lt e = drop-cons ts i t lt ∙ ap₂ (λ x n. x ∷ drop n ts) (sym e) (sym (add-one i))

pub nested_more : (join : Ty → Ty → Ty) (f : TypeText → Option Ty) (t : TypeText) (ts : List TypeText) → 0 < length ts → nested join (map f (t ∷ ts)) ≡ both join (f t) (nested join (map f ts))
nested_more join f t [] lt = absurd (omega arith)
nested_more join f t (u ∷ ts) lt = refl

pub length_left : (ts : List TypeText) (i : ℕ) → i < length ts → 0 < length (drop i ts)
length_left ts i lt = omega (arith, length-drop i ts)

only_part : (names : List ℕ) (join : Ty → Ty → Ty) (t : TypeText) (ts : List TypeText) (e : Extent) → ts ≡ [] → Measures (Some e) (type_in names t) (unknowns names t) → Measures (Some e) (nested join (map (type_in names) (t ∷ ts))) (unknowns_among names (t ∷ ts))
only_part names join t [] e h m = subst (λ us. Measures (Some e) (type_in names t) us) (sym (among-cons names t [] ∙ append-nil (unknowns names t))) m
only_part names join t (u ∷ ts) e h m = absurd (cc)

so_far : (ts : List TypeText) (i : ℕ) (t : TypeText) (e r : Extent) (whole : Option Extent) → i < length ts → t ≡ get_or ts i t → IsSoFar ts (i + 1) whole → ((names : List ℕ) → Measures (Some e) (type_in names t) (unknowns names t)) → (whole ≡ None → r ≡ e) → ((f : Extent) → whole ≡ Some f → r ≡ above_both e f) → IsSoFar ts i (Some r)
so_far ts i t e r None lt is h m f g = (
  lt,
  λ names join j.
      let P : List TypeText → Type 0 = λ us. Measures (Some r) (nested join (map (type_in names) us)) (unknowns_among names us) in
      let Q : Extent → Type 0 = λ x. Measures (Some x) (type_in names t) (unknowns names t) in
      subst P (sym (drop_here ts i t lt is)) (only_part names join t (drop (i + 1) ts) r (drop_all (i + 1) ts h) (subst Q (sym (f refl)) (m names))),
)
so_far ts i t e r (Some w) lt is h m f g = (
  lt,
  λ names join j.
      let P : List TypeText → Type 0 = λ us. Measures (Some r) (nested join (map (type_in names) us)) (unknowns_among names us) in
      let us = drop (i + 1) ts in
      let one = both_measures e w r join (type_in names t) (nested join (map (type_in names) us)) (unknowns names t) (unknowns_among names us) j (g w refl) (m names) (h.1 names join j) in
      let Q : Option Ty → Type 0 = λ o. Measures (Some r) o (unknowns names t ++ unknowns_among names us) in
      let R : List ℕ → Type 0 = λ vs. Measures (Some r) (nested join (map (type_in names) (t ∷ us))) vs in
      subst P (sym (drop_here ts i t lt is)) (subst R (sym (among-cons names t us)) (subst Q (sym (nested_more join (type_in names) t us (length_left ts (i + 1) h.0))) one)),
)

pub so_far_before : (ts : List TypeText) (k i : ℕ) (t : TypeText) (e r : Extent) (whole : Option Extent) → k ≡ i + 1 → i < length ts → t ≡ get_or ts i t → IsSoFar ts k whole → ((names : List ℕ) → Measures (Some e) (type_in names t) (unknowns names t)) → (whole ≡ None → r ≡ e) → ((f : Extent) → whole ≡ Some f → r ≡ above_both e f) → IsSoFar ts i (Some r)
so_far_before ts k i t e r whole s lt is h = let P : ℕ → Type 0 = λ n. IsSoFar ts n whole in so_far ts i t e r whole lt is (subst P s h)

pub all_so_far : (ts : List TypeText) (i : ℕ) (whole : Option Extent) → i ≤ 0 → IsSoFar ts i whole → (names : List ℕ) (join : Ty → Ty → Ty) → IsJoin join → Measures whole (nested join (map (type_in names) ts)) (unknowns_among names ts)
all_so_far [] i None le h names join j = tt
all_so_far (t ∷ ts) i None le h names join j = absurd (omega (arith, h))
all_so_far ts zero (Some e) le h names join j = h.1 names join j
all_so_far ts (suc i) (Some e) le h names join j = absurd (omega (arith, le))

-- where a part has no type, the list has none
no_join : (join : Ty → Ty → Ty) (o : Option Ty) → both join o None ≡ None
no_join join None = refl
no_join join (Some t) = refl

pub nested_none : (join : Ty → Ty → Ty) (f : TypeText → Option Ty) (ts : List TypeText) (i : ℕ) (t : TypeText) → i < length ts → t ≡ get_or ts i t → f t ≡ None → nested join (map f ts) ≡ None
nested_none join f [] i t lt e h = absurd (omega arith)
nested_none join f (u ∷ []) zero t lt e h = ap f (sym e) ∙ h
nested_none join f (u ∷ []) (suc i) t lt e h = absurd (omega arith)
nested_none join f (u ∷ v ∷ us) zero t lt e h = ap (λ o. both join o (nested join (map f (v ∷ us)))) (ap f (sym e) ∙ h)
nested_none join f (u ∷ v ∷ us) (suc i) t lt e h = ap (both join (f u)) (nested_none join f (v ∷ us) i t (omega arith) e h) ∙ no_join join (f u)

measures_nothing : (o : Option Ty) (us : List ℕ) → Measures None o us → o ≡ None
measures_nothing None us m = refl
measures_nothing (Some t) us m = absurd (cc)

measured_none : (o : Option Ty) (us : List ℕ) → o ≡ None → Measures None o us
measured_none None us e = tt
measured_none (Some t) us e = absurd (cc)

stops : (ts : List TypeText) (i : ℕ) (t : TypeText) → i < length ts → t ≡ get_or ts i t → ((names : List ℕ) → Measures None (type_in names t) (unknowns names t)) → (names : List ℕ) (join : Ty → Ty → Ty) → IsJoin join → Measures None (nested join (map (type_in names) ts)) (unknowns_among names ts)
stops ts i t lt e m names join j = measured_none _ (unknowns_among names ts) (nested_none join (type_in names) ts i t lt e (measures_nothing _ (unknowns names t) (m names)))

pub stops_as : (ts : List TypeText) (i : ℕ) (t : TypeText) (r : Option Extent) → r ≡ None → i < length ts → t ≡ get_or ts i t → ((names : List ℕ) → Measures None (type_in names t) (unknowns names t)) → (names : List ℕ) (join : Ty → Ty → Ty) → IsJoin join → Measures r (nested join (map (type_in names) ts)) (unknowns_among names ts)
stops_as ts i t r s lt e m names join j =
    let P : Option Extent → Type 0 = λ x. Measures x (nested join (map (type_in names) ts)) (unknowns_among names ts) in
    subst P (sym s) (stops ts i t lt e m names join j)

-- ---- limits

over_limit : (s k m : ℕ) → k < m → ltb k (min s m) ≡ not (ltb s (suc k))
over_limit s k m lt = grind (arith, nat_tests)

either_over : (a b : Bool) → (not a || not b) ≡ not (a && b)
either_over true b = refl
either_over false b = refl

pub tells_big : (e : Extent) (r : Bool) (o : Option Ty) (us : List ℕ) → r ≡ (ltb 65536 e.nodes || ltb 500 e.levels) → Measures (Some e) o us → TellsBig r o us
tells_big e r (Some t) us h m =
    let is : e ≡ extent_of t = some_is m in
    h ∙ ap (λ (x : Extent). ltb 65536 x.nodes || ltb 500 x.levels) is
    ∙ ap₂ ◌||◌ (over_limit (size t) 65536 (2 ^ 64 - 1) (omega arith)) (over_limit (height t) 500 (2 ^ 64 - 1) (omega arith))
    ∙ either_over (ltb (size t) 65537) (ltb (height t) 501)
tells_big e r None us h m = λ none. absurd (m none)

pub tells_nothing : (o : Option Ty) (us : List ℕ) → Measures None o us → TellsBig false o us
tells_nothing None us m = λ none. refl
tells_nothing (Some t) us m = absurd (cc)
