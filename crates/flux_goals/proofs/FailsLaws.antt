-- A goal fails by a forest exactly where the forest is against it.
use Rattle.std.proofs.Common.{◌≡◌, ◌⊎◌, ℕ, zero, suc, ◌<◌, List, [], ◌∷◌, length, Bool, true, false, refl, sym, subst, inl, inr, arith}
use Rattle.flux_atom.specs.declared.atom.Atom.{Atom as Value}
use Rattle.flux_atom.specs.Atom.{kind_of}
use Rattle.flux_trees.specs.Hedge.{Plain, nil, elem, leaf}
use Rattle.flux_auto.specs.declared.edge.Edge.TheVariants.{Atom}
use Rattle.flux_auto.specs.Takes.{State, takes}
use Rattle.flux_auto.specs.Automaton.{EdgesInside}
use Rattle.flux_auto.specs.Going.{Has}
use Rattle.flux_goals.specs.Goals.{Shows, NoneTakes}
use Rattle.flux_goals.specs.Fails.{Fails, by_nothing, by_atom, by_element, Reach, PartAll, FailsWhereShown}
use Rattle.flux_auto.proofs.Items.{below_or_at}
use Rattle.flux_auto.proofs.GoingLaws.{takes_goes, goes_takes}
use Rattle.flux_goals.proofs.GoalLaws.{not_taken, both_values}
use Rattle.flux_goals.proofs.AfterLaws.{edge_below, element_below}

pub fails_shows : {a : List State} {s : ℕ} {S : List ℕ} {v : Plain} → Fails a s S v → Shows a s S v
fails_shows (by_nothing s S is none) = record { taken = is; none = none }
fails_shows {a} (by_atom s S x r R w edge reach f) =
    let g = fails_shows f in
    record {
      taken = goes_takes a s (leaf tt x w) r edge g.taken;
      none = λ t h. not_taken a t (leaf tt x w) (λ e. let o = takes_goes a t (leaf tt x w) (λ e. cc) e in both_values (takes a o.0 w) o.2 (g.none o.0 (reach t o.0 h o.1)));
    }
fails_shows {a} (by_element s S n c r I J v w edge parts f h) =
    let inner = fails_shows f in
    let after = fails_shows h in
    record {
      taken = goes_takes a s (elem tt n v w) r (c, edge, inner.taken) after.taken;
      none = λ t k. not_taken a t (elem tt n v w) (λ e.
          let o = takes_goes a t (elem tt n v w) (λ e. cc) e in
          elim (parts t o.1.0 o.0 k o.1.1) [
            | inl i ↦ both_values (takes a o.1.0 v) o.1.2 (inner.none o.1.0 i)
            | inr j ↦ both_values (takes a o.0 w) o.2 (after.none o.0 j)
          ]);
    }

-- ---- the states that don't take a forest

keep_if : Bool → ℕ → List ℕ → List ℕ
keep_if true n S = S
keep_if false n S = n ∷ S

-- those below n
untaken : List State → Plain → ℕ → List ℕ
untaken a v zero = []
untaken a v (suc n) = keep_if (takes a n v) n (untaken a v n)

kept_is : (a : List State) (v : Plain) (n : ℕ) (S : List ℕ) (b : Bool) (t : ℕ) → takes a n v ≡ b → ((u : ℕ) → Has S u → takes a u v ≡ false) → Has (keep_if b n S) t → takes a t v ≡ false
unfolding keep_if
kept_is a v n S true t e before h = before t h
kept_is a v n S false t e before (zero, g) = (let same : n ≡ t = cc in subst (λ x. takes a x v ≡ false) same e)
kept_is a v n S false t e before (suc k, g) = before t (k, g)

untaken_none : (a : List State) (v : Plain) (n t : ℕ) → Has (untaken a v n) t → takes a t v ≡ false
unfolding untaken
untaken_none a v zero t (k, e) = cc
untaken_none a v (suc n) t h = kept_is a v n (untaken a v n) (takes a n v) t refl (untaken_none a v n) h

old_kept : (b : Bool) (n t : ℕ) (S : List ℕ) → Has S t → Has (keep_if b n S) t
unfolding keep_if
old_kept true n t S h = h
old_kept false n t S h = (suc h.0, h.1)

new_kept : (b : Bool) (n : ℕ) (S : List ℕ) → b ≡ false → Has (keep_if b n S) n
unfolding keep_if
new_kept true n S e = cc
new_kept false n S e = (0, refl)

untaken_has : (a : List State) (v : Plain) (n t : ℕ) → t < n → takes a t v ≡ false → Has (untaken a v n) t
unfolding untaken
untaken_has a v zero t lt e = absurd (omega (arith, lt))
untaken_has a v (suc n) t lt e = elim (below_or_at t n (omega arith)) [
  | inl below ↦ old_kept (takes a n v) n t (untaken a v n) (untaken_has a v n t below e)
  | inr same ↦ subst (λ x. Has (keep_if (takes a n v) n (untaken a v n)) x) (sym same) (new_kept (takes a n v) n (untaken a v n) (subst (λ x. takes a x v ≡ false) same e))
]

parted : (a : List State) (S : List ℕ) (n : ℕ) (v w : Plain) → EdgesInside a → NoneTakes a S (elem tt n v w) → PartAll a n S (untaken a v (length a)) (untaken a w (length a))
parted a S n v w inside none t d q h edge = by (takes a d v) (takes a q w) refl refl
  where
    by : (b c : Bool) → takes a d v ≡ b → takes a q w ≡ c → Has (untaken a v (length a)) d ⊎ Has (untaken a w (length a)) q
    by false c e f = inl (untaken_has a v (length a) d (element_below a t n d q inside edge).0 e)
    by true false e f = inr (untaken_has a w (length a) q (element_below a t n d q inside edge).1 f)
    by true true e f = absurd (both_values (takes a t (elem tt n v w)) (goes_takes a t (elem tt n v w) q (d, edge, e) f) (none t h))

reached : (a : List State) (S : List ℕ) (x : Value) (w : Plain) → EdgesInside a → NoneTakes a S (leaf tt x w) → Reach a x S (untaken a w (length a))
reached a S x w inside none t q h edge =
    untaken_has a w (length a) q (edge_below a t (Atom (kind_of x) q) inside edge) (not_taken a q w (λ e. both_values (takes a t (leaf tt x w)) (goes_takes a t (leaf tt x w) q edge e) (none t h)))

pub shows_fails : (a : List State) → EdgesInside a → (v : Plain) (s : ℕ) (S : List ℕ) → Shows a s S v → Fails a s S v
shows_fails a inside nil s S is = by_nothing s S is.taken is.none
shows_fails a inside (leaf _ x w) s S is =
    let g = takes_goes a s (leaf tt x w) (λ e. cc) is.taken in
    by_atom s S x g.0 (untaken a w (length a)) w g.1 (reached a S x w inside is.none) (shows_fails a inside w g.0 (untaken a w (length a)) (record { taken = g.2; none = untaken_none a w (length a) }))
shows_fails a inside (elem _ n v w) s S is =
    let g = takes_goes a s (elem tt n v w) (λ e. cc) is.taken in
    by_element s S n g.1.0 g.0 (untaken a v (length a)) (untaken a w (length a)) v w g.1.1 (parted a S n v w inside is.none)
    (shows_fails a inside v g.1.0 (untaken a v (length a)) (record { taken = g.1.2; none = untaken_none a v (length a) }))
    (shows_fails a inside w g.0 (untaken a w (length a)) (record { taken = g.2; none = untaken_none a w (length a) }))

-- a goal fails by a forest exactly where the forest is against it
pub fails_iff : FailsWhereShown
fails_iff a inside v s S = (fails_shows, shows_fails a inside v s S)
