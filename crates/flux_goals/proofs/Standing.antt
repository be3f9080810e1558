-- Goals that rest on each other hold.
use Rattle.std.proofs.Common.{◌≡◌, ◌⊎◌, ℕ, List, length, true, false, refl, sym, subst, inl, inr}
use Rattle.std.proofs.lemmas.Bool.{cases_lt}
use Rattle.std.proofs.lemmas.Option.{slice_get_within}
use Rattle.flux_atom.specs.declared.atom.Atom.{Atom as Value}
use Rattle.flux_atom.specs.Atom.{kind_of}
use Rattle.flux_trees.specs.Hedge.{Plain, nil, elem, leaf}
use Rattle.flux_auto.specs.declared.edge.Edge.TheVariants.{Atom, Elem, AnyElem}
use Rattle.flux_auto.specs.Takes.{State, takes}
use Rattle.flux_goals.specs.declared.goal.Way.{Way}
use Rattle.flux_auto.specs.Going.{Has, HasEdge, HasElement, LacksEdge}
use Rattle.flux_goals.specs.Goals.{Shows, Holds, AreWays}
use Rattle.flux_goals.specs.Table.{Entry, Open, Fine, Reaches, ElementStands, Stands, Settled, StandFrom}
use Rattle.flux_auto.proofs.GoingLaws.{takes_goes, goes_takes}
use Rattle.flux_goals.proofs.GoalLaws.{not_taken, both_values, edge_element}

-- no forest that is v is against a goal of the table
abbrev NotAgainst : List State → List Entry → Plain → Type 0
NotAgainst a goals v = (s : ℕ) (S : List ℕ) → Fine a goals s S → Shows a s S v → ⊥

open_stands : (a : List State) (other : ℕ) (goals : List Entry) (n s : ℕ) (S : List ℕ) → Settled a goals n → StandFrom a other goals n (length goals) → Open goals s S → Stands a other goals s S ⊎ Holds a s S
open_stands a other goals n s S settled stand (g, (i, at), left, right, none) =
    elim (cases_lt i n) [
      | inl lt ↦ inr (subst (λ T. Holds a s T) right (subst (λ t. Holds a t g.0.right.items) left (settled i g lt at none)))
      | inr le ↦ inl (subst (λ T. Stands a other goals s T) right (subst (λ t. Stands a other goals t g.0.right.items) left (stand i g le (slice_get_within goals i g at) at none)))
    ]

leaf_step : (a : List State) (other : ℕ) (goals : List Entry) (s : ℕ) (S : List ℕ) (x : Value) (w : Plain) → Stands a other goals s S → NotAgainst a goals w → Shows a s S (leaf tt x w) → ⊥
leaf_step a other goals s S x w st rest is =
    let g = takes_goes a s (leaf tt x w) (λ e. cc) is.taken in
    let e = st.edges (Atom (kind_of x) g.0) g.1 in
    rest g.0 e.0 e.2 (record {
      taken = g.2;
      none = λ q h. not_taken a q w (λ t.
          let o = (e.1 q).0 h in
          both_values (takes a o.0 (leaf tt x w)) (goes_takes a o.0 (leaf tt x w) q (subst (HasEdge a o.0) o.4 o.3) t) (is.none o.0 o.1));
    })

-- an element of the label m goes by each way of the label n, as of the label that no edge names
abbrev GoesAs : List State → ℕ → ℕ → Type 0
GoesAs a n m = (t c r : ℕ) → HasElement a t n c r → HasElement a t m c r

as_other : (a : List State) (other m : ℕ) → LacksEdge a other → GoesAs a other m
as_other a other m lacks t c r (inl h) = absurd (lacks t c r h)
as_other a other m lacks t c r (inr h) = inr h

rest_untaken : (a : List State) (s : ℕ) (S : List ℕ) (n m : ℕ) (c w : Plain) (ways : List Way) (J : List ℕ) → GoesAs a n m → AreWays a n S ways → Shows a s S (elem tt m c w) → Reaches (λ x. takes a x c) ways J → (q : ℕ) → Has J q → takes a q w ≡ false
rest_untaken a s S n m c w ways J goes are is reaches q h = not_taken a q w (λ t.
    let x = reaches q h in
    let o = (are x.0).0 x.1 in
    both_values (takes a o.0 (elem tt m c w)) (goes_takes a o.0 (elem tt m c w) x.0.rest (x.0.content, goes o.0 x.0.content x.0.rest (edge_element a o.0 n x.0 o.2 o.3 o.4), x.3) (subst (λ y. takes a y w ≡ true) (sym x.2) t)) (is.none o.0 o.1))

element_step : (a : List State) (goals : List Entry) (s : ℕ) (S : List ℕ) (n m d r : ℕ) (c w : Plain) → GoesAs a n m → ElementStands a goals S n d r → NotAgainst a goals c → NotAgainst a goals w → takes a d c ≡ true → takes a r w ≡ true → Shows a s S (elem tt m c w) → ⊥
element_step a goals s S n m d r c w goes (ways, are, blocked) inner rest taken after is =
    elim (blocked (λ x. takes a x c)) [
      | inl (I, leaves, fine) ↦ inner d I fine (record { taken = taken; none = leaves })
      | inr (J, reaches, fine) ↦ rest r J fine (record { taken = after; none = rest_untaken a s S n m c w ways J goes are is reaches })
    ]

elem_step : (a : List State) (other : ℕ) (goals : List Entry) (s : ℕ) (S : List ℕ) (m : ℕ) (c w : Plain) → LacksEdge a other → Stands a other goals s S → NotAgainst a goals c → NotAgainst a goals w → Shows a s S (elem tt m c w) → ⊥
elem_step a other goals s S m c w lacks st inner rest is =
    let g = takes_goes a s (elem tt m c w) (λ e. cc) is.taken in
    by g.0 g.1.0 g.1.1 g.1.2 g.2
  where
    by : (r d : ℕ) → HasElement a s m d r → takes a d c ≡ true → takes a r w ≡ true → ⊥
    by r d (inl h) taken after = element_step a goals s S m m d r c w (λ t x y k. k) (st.edges (Elem m d r) h) inner rest taken after is
    by r d (inr h) taken after = element_step a goals s S other m d r c w (as_other a other m lacks) (st.edges (AnyElem d r) h) inner rest taken after is

-- by induction over the forest
not_against : (a : List State) (other : ℕ) (goals : List Entry) (n : ℕ) → LacksEdge a other → Settled a goals n → StandFrom a other goals n (length goals) → (v : Plain) → NotAgainst a goals v
not_against a other goals n lacks settled stand v s S (inr holds) is = holds v is
not_against a other goals n lacks settled stand nil s S (inl opened) is = elim (open_stands a other goals n s S settled stand opened) [ inl st ↦ st.nothing is | inr holds ↦ holds nil is ]
not_against a other goals n lacks settled stand (leaf _ x w) s S (inl opened) is = elim (open_stands a other goals n s S settled stand opened) [
  | inl st ↦ leaf_step a other goals s S x w st (not_against a other goals n lacks settled stand w) is
  | inr holds ↦ holds (leaf tt x w) is
]
not_against a other goals n lacks settled stand (elem _ m c w) s S (inl opened) is = elim (open_stands a other goals n s S settled stand opened) [
  | inl st ↦ elem_step a other goals s S m c w lacks st (not_against a other goals n lacks settled stand c) (not_against a other goals n lacks settled stand w) is
  | inr holds ↦ holds (elem tt m c w) is
]

-- where each goal from n on rests on the table, all of it is settled
pub all_settled : (a : List State) (other : ℕ) (goals : List Entry) (n : ℕ) → LacksEdge a other → Settled a goals n → StandFrom a other goals n (length goals) → Settled a goals (length goals)
all_settled a other goals n lacks settled stand i g lt at none v is = not_against a other goals n lacks settled stand v g.0.left g.0.right.items (inl (g, (i, at), refl, refl, none)) is
