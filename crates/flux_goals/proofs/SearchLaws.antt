-- Forests against goals, edge by edge, and goals in turn.
use Rattle.std.proofs.Common.{◌≡◌, ℕ, ◌+◌, ◌<◌, ◌≤◌, List, length, Bool, true, false, not, Option, Some, None, slice_get, refl, sym, ap, subst, ◌∙◌, inl, inr, arith}
use Rattle.std.specs.Option.{option_map}
use Rattle.std.proofs.lemmas.Option.{slice_get_within}
use Rattle.flux_atom.specs.declared.atom.AtomKind.{AtomKind}
use Rattle.flux_trees.specs.Hedge.{nil}
use Rattle.flux_auto.specs.declared.edge.Edge.{Edge}
use Rattle.flux_auto.specs.declared.edge.Edge.TheVariants.{Atom, Elem, AnyElem}
use Rattle.flux_auto.specs.declared.recipe.Recipe.{Recipe}
use Rattle.flux_auto.specs.declared.recipe.Recipe.TheVariants as recipe
use Rattle.flux_auto.specs.Takes.{State, takes}
use Rattle.flux_auto.specs.Witness.{IsShownBy, IsEdgeLabel}
use Rattle.flux_goals.specs.declared.goal.Goal.{Goal}
use Rattle.flux_goals.specs.declared.goal.Element.{Element}
use Rattle.flux_goals.specs.declared.search.Looked.{Looked}
use Rattle.flux_goals.specs.declared.search.Looked.TheVariants.{Against, Stopped, Over}
use Rattle.flux_goals.specs.declared.search.Visited.TheVariants.{Stood}
use Rattle.flux_goals.specs.declared.table.Table.{Table}
use Rattle.flux_auto.specs.Going.{HasEdge, HasElement, LacksEdge}
use Rattle.flux_goals.specs.Goals.{NoneTakes, Shows, Holds, AllBelow, AreRests, AreWays}
use Rattle.flux_goals.specs.Table.{Entry, EdgeStands, ElementStands, Stands, Quiet, Asks, Searches, Grows, IsAsked, IsElementTried, IsFound, IsFoundAt, IsTried, AreTried, IsLooked, IsTable, IsRight, IsVisited, IsDriven, IsMore, IsRound, IsDone, Settled, StandFrom, IsAt, FoundAt, IsDecided, shown_at}
use Rattle.flux_auto.proofs.Items.{some_is, below_or_at, grows-refl, grows-get}
use Rattle.flux_goals.proofs.GoalLaws.{shows_leaf, shows_elem}
use Rattle.flux_goals.proofs.AfterLaws.{edge_has}
use Rattle.flux_goals.proofs.TableLaws.{edge_quiet, stands_quiet, right_searches}
use Rattle.flux_goals.proofs.Standing.{all_settled}

-- ---- the empty forest

pub ends_shows : (a : List State) (s : ℕ) (S : List ℕ) (b : Bool) → takes a s nil ≡ true → (b ≡ false → NoneTakes a S nil) → not b ≡ true → Shows a s S nil
ends_shows a s S true taken none e = cc
ends_shows a s S false taken none e = record { taken = taken; none = none refl }

-- ---- one edge

pub tried_atom_none : (k0 : ℕ) (a : List State) (other : ℕ) (goals : List Entry) (shown : List Recipe) (s : ℕ) (S R : List ℕ) (e : Edge) (k : AtomKind) (r : ℕ) → e ≡ Atom k r → AreRests a k S R → IsAsked a goals shown r R None → IsTried k0 a other goals shown s S e None
tried_atom_none k0 a other goals shown s S R e k r is are fine = λ _. subst (EdgeStands a other goals S) (sym is) (R, are, fine)

pub tried_atom : (k0 : ℕ) (a : List State) (other : ℕ) (goals : List Entry) (shown : List Recipe) (s : ℕ) (S R : List ℕ) (e : Edge) (k : AtomKind) (r m : ℕ) → e ≡ Atom k r → HasEdge a s e → AreRests a k S R → IsAsked a goals shown r R (Some m)
    → IsTried k0 a other goals shown s S e (Some (recipe.Atom k m))
tried_atom k0 a other goals shown s S R e k r m is edge are (lt, shows) = record {
  older = lt;
  labels = tt;
  shows = shows_leaf a s S R k r (shown_at shown m) (subst (HasEdge a s) is edge) are shows;
}

-- an element of the edge
element_found : (k0 : ℕ) (a : List State) (other : ℕ) (goals : List Entry) (shown : List Recipe) (s : ℕ) (S : List ℕ) (el : Element) (r : Recipe) → HasElement a s el.label el.content el.rest → IsShownBy a other el.label → AreWays a el.label S el.ways.items
    → IsElementTried k0 a goals shown el (Some r) → IsFound a other shown s S r
element_found k0 a other goals shown s S el r edge label are (i, j, is, (I, J, parts, inner, after)) =
    subst (IsFound a other shown s S) (sym is) (record {
      older = (inner.0, after.0);
      labels = label;
      shows = shows_elem a s S el.label el.content el.rest el.ways.items I J (shown_at shown i) (shown_at shown j) edge are parts inner.1 after.1;
    })

has_label : (a : List State) (s n c r : ℕ) → HasEdge a s (Elem n c r) → IsEdgeLabel a n
has_label a s n c r (st, at, (k, is)) = (s, st, at, k, c, r, is)

pub tried_elem : (k0 : ℕ) (a : List State) (other : ℕ) (goals : List Entry) (shown : List Recipe) (s : ℕ) (S : List ℕ) (e : Edge) (el : Element) (res : Option Recipe) → e ≡ Elem el.label el.content el.rest → HasEdge a s e → AreWays a el.label S el.ways.items → IsElementTried k0 a goals shown el res
    → IsTried k0 a other goals shown s S e res
tried_elem k0 a other goals shown s S e el None is edge are tried = λ z. subst (EdgeStands a other goals S) (sym is) (el.ways.items, are, tried z)
tried_elem k0 a other goals shown s S e el (Some r) is edge are tried =
    let h = subst (HasEdge a s) is edge in
    element_found k0 a other goals shown s S el r (inl h) (inr (has_label a s el.label el.content el.rest h)) are tried

pub tried_any : (k0 : ℕ) (a : List State) (other : ℕ) (goals : List Entry) (shown : List Recipe) (s : ℕ) (S : List ℕ) (e : Edge) (el : Element) (res : Option Recipe) → e ≡ AnyElem el.content el.rest → el.label ≡ other → HasEdge a s e → AreWays a el.label S el.ways.items → IsElementTried k0 a goals shown el res
    → IsTried k0 a other goals shown s S e res
tried_any k0 a other goals shown s S e el None is label edge are tried = λ z. subst (EdgeStands a other goals S) (sym is) (subst (λ n. ElementStands a goals S n el.content el.rest) label (el.ways.items, are, tried z))
tried_any k0 a other goals shown s S e el (Some r) is label edge are tried = element_found k0 a other goals shown s S el r (inr (subst (HasEdge a s) is edge)) (inl label) are tried

-- ---- all edges

-- the edges from one place to another stand
abbrev pub AllStand : List State → ℕ → List Entry → List ℕ → List Edge → ℕ → ℕ → Type 0
AllStand a other goals S es from n = (i : ℕ) (e : Edge) → from ≤ i → i < n → slice_get es i ≡ Some e → EdgeStands a other goals S e

pub stand_none : (a : List State) (other : ℕ) (goals : List Entry) (S : List ℕ) (es : List Edge) (from : ℕ) → AllStand a other goals S es from from
stand_none a other goals S es from i e le lt at = absurd (omega (arith, le, lt))

pub stand_more : (a : List State) (other : ℕ) (gs hs : List Entry) (S : List ℕ) (es : List Edge) (from n : ℕ) (d : Edge) → AllStand a other gs S es from n → Quiet gs hs → slice_get es n ≡ Some d → EdgeStands a other hs S d → AllStand a other hs S es from (n + 1)
stand_more a other gs hs S es from n d before q is st i e le lt at = elim (below_or_at i n lt) [
  | inl below ↦ edge_quiet a other gs hs S e q (before i e le below at)
  | inr same ↦ subst (EdgeStands a other hs S) (some_is d e (sym is ∙ ap (slice_get es) (sym same) ∙ at)) st
]

pub all_stand : (a : List State) (other : ℕ) (goals : List Entry) (s : ℕ) (S : List ℕ) (es : List Edge) (from n : ℕ) → option_map (λ (st : State). st.edges) (slice_get a s) ≡ Some es → AllStand a other goals S es from n → length es ≤ n
    → from ≡ 0 → (e : Edge) → HasEdge a s e → EdgeStands a other goals S e
all_stand a other goals s S es from n edges stand le start e h =
    let at = (edge_has a s es e edges).0 h in
    stand at.0 e (omega (arith, start)) (let l = slice_get_within es at.0 e at.1 in omega (arith, l, le)) at.1

pub found_nothing : (a : List State) (other : ℕ) (shown : List Recipe) (s : ℕ) (S : List ℕ) → Shows a s S nil → IsFound a other shown s S recipe.End
found_nothing a other shown s S is = record { older = tt; labels = tt; shows = is }

pub looked : (k0 : ℕ) (a : List State) (other : ℕ) (goals : List Entry) (shown : List Recipe) (g : Goal) (from : ℕ) (res : Looked) → (Shows a g.left g.right.items nil → ⊥) → AreTried k0 a other goals shown g from res → IsLooked k0 a other goals shown g from res
looked k0 a other goals shown g from (Against r) ends tried = tried
looked k0 a other goals shown g from (Stopped edge) ends tried = tried
looked k0 a other goals shown g from Over ends tried = λ z. record { nothing = ends; edges = tried z }

-- ---- one goal

same_entry : (gs hs : List Entry) (i : ℕ) (g h : Entry) → Quiet gs hs → slice_get gs i ≡ Some g → slice_get hs i ≡ Some h → g ≡ h
same_entry gs hs i g h q at then = some_is g h (sym at ∙ sym (grows-get gs hs i q (slice_get_within gs i g at)) ∙ then)

pub visited_found : (a : List State) (other : ℕ) (t : Table) (i from : ℕ) (o : Option ℕ) → FoundAt t.goals.entries i o → (o ≡ None → ⊥) → IsVisited a other t t i from Stood
visited_found a other t i from o (g, at, is) found =
    (grows-refl t.goals.entries, λ _ h then none. absurd (found (sym is ∙ ap (λ (z : Entry). z.1) (some_is g h (sym at ∙ then)) ∙ none)))

-- the goal that was looked at is that of the table
pub visited_stands : (a : List State) (other k0 : ℕ) (t u : Table) (i from : ℕ) (g : Goal) → Quiet t.goals.entries u.goals.entries → IsAt t.goals.entries i g.left g.right.items → IsLooked k0 a other u.goals.entries u.shown.items g from Over → IsVisited a other t u i from Stood
visited_stands a other k0 t u i from g q (x, at, left, right) st = (
  q,
  λ z h then none.
      let same = same_entry t.goals.entries u.goals.entries i x h q at then in
      let l : h.0.left ≡ g.left = ap (λ (y : Entry). y.0.left) (sym same) ∙ left in
      let r : h.0.right.items ≡ g.right.items = ap (λ (y : Entry). y.0.right.items) (sym same) ∙ right in
      subst (Stands a other u.goals.entries h.0.left) (sym r) (subst (λ s. Stands a other u.goals.entries s g.right.items) (sym l) (st z)),
)

pub found_here : (a : List State) (other : ℕ) (gs hs : List Entry) (shown : List Recipe) (i : ℕ) (g : Goal) (r : Recipe) → Quiet gs hs → IsAt gs i g.left g.right.items → IsFound a other shown g.left g.right.items r → IsFoundAt a other hs shown i r
found_here a other gs hs shown i g r q (x, at, left, right) is h then =
    let same = same_entry gs hs i x h q at then in
    let l : h.0.left ≡ g.left = ap (λ (y : Entry). y.0.left) (sym same) ∙ left in
    let e : h.0.right.items ≡ g.right.items = ap (λ (y : Entry). y.0.right.items) (sym same) ∙ right in
    subst (λ S. IsFound a other shown h.0.left S r) (sym e) (subst (λ s. IsFound a other shown s g.right.items r) (sym l) is)

pub goal_inside : (a : List State) (other : ℕ) (gs : List Entry) (shown : List Recipe) (i s : ℕ) (S : List ℕ) → IsTable a other gs shown → IsAt gs i s S → (s < length a) × AllBelow (length a) S
goal_inside a other gs shown i s S table (g, at, left, right) =
    let x = table.inside i g at in
    (subst (λ t. t < length a) left x.0, subst (AllBelow (length a)) right x.1)

-- a goal and then what was found against it
pub searches_mark : (a : List State) (other : ℕ) (t u v : Table) → Asks t u → IsTable a other v.goals.entries v.shown.items → Grows u.goals.entries v.goals.entries → length u.shown.items ≤ length v.shown.items → v.settled ≡ u.settled → Searches a other u v
searches_mark a other t u v asks table grows more settled = record { table = table; goals = grows; shown = more; settled = settled }

-- ---- all goals

-- goals that stand do so as goals alone are added
stand_quiet : (a : List State) (other : ℕ) (gs hs : List Entry) (n m : ℕ) → m ≤ length gs → Quiet gs hs → StandFrom a other gs n m → StandFrom a other hs n m
stand_quiet a other gs hs n m inside q st i h le lt at none =
    let at_gs : slice_get gs i ≡ Some h = sym (grows-get gs hs i q (omega (arith, lt, inside))) ∙ at in
    stands_quiet a other gs hs h.0.left h.0.right.items q (st i h le lt at_gs none)

pub stand_from_none : (a : List State) (other : ℕ) (goals : List Entry) (n : ℕ) → StandFrom a other goals n n
stand_from_none a other goals n i g le lt = absurd (omega (arith, le, lt))

pub stand_next : (a : List State) (other : ℕ) (t u : Table) (n i : ℕ) → i < length t.goals.entries → StandFrom a other t.goals.entries n i → IsDriven a other t u i false → StandFrom a other u.goals.entries n (i + 1)
stand_next a other t u n i inside st (q, one) j h le lt at none = elim (below_or_at j i lt) [
  | inl below ↦ stand_quiet a other t.goals.entries u.goals.entries n i (omega (arith, inside)) q st j h le below at none
  | inr same ↦ one refl h (ap (slice_get u.goals.entries) (sym same) ∙ at) none
]

pub stand_to : (a : List State) (other : ℕ) (goals : List Entry) (n m : ℕ) → length goals ≤ m → StandFrom a other goals n m → StandFrom a other goals n (length goals)
stand_to a other goals n m le st i g from lt at none = st i g from (omega (arith, lt, le)) at none

-- a round after which all goals stand
pub round_settles : (a : List State) (other : ℕ) (t : Table) → LacksEdge a other → IsRight a other t → StandFrom a other t.goals.entries t.settled (length t.goals.entries) → Settled a t.goals.entries (length t.goals.entries)
round_settles a other t lacks right stand = all_settled a other t.goals.entries t.settled lacks right.settled stand

-- ---- the answer

decided_by : (a : List State) (other : ℕ) (goals : List Entry) (shown : List Recipe) (n i s : ℕ) (S : List ℕ) (x : Entry) (o : Option ℕ) → IsTable a other goals shown → Settled a goals n → (o ≡ None → i < n) → slice_get goals i ≡ Some x → x.0.left ≡ s → x.0.right.items ≡ S → x.1 ≡ o
    → IsDecided a shown s S o
decided_by a other goals shown n i s S x None table settled lt at l r f = subst (Holds a s) r (subst (λ t. Holds a t x.0.right.items) l (settled i x (lt refl) at f))
decided_by a other goals shown n i s S x (Some m) table settled lt at l r f =
    let y = table.sound i x m at f in
    (y.0, subst (λ T. Shows a s T (shown_at shown m)) r (subst (λ t. Shows a t x.0.right.items (shown_at shown m)) l y.1))

pub decided_at : (a : List State) (other : ℕ) (t : Table) (i s : ℕ) (S : List ℕ) (o : Option ℕ) → IsRight a other t → IsDone t i → IsAt t.goals.entries i s S → FoundAt t.goals.entries i o → IsDecided a t.shown.items s S o
decided_at a other t i s S o right done (g, at, l, r) (x, here, f) =
    let same : g ≡ x = some_is g x (sym at ∙ here) in
    decided_by a other t.goals.entries t.shown.items t.settled i s S x o right.table right.settled (λ e. elim done [ inl never ↦ absurd (never x here (f ∙ e)) | inr lt ↦ lt ]) here
    (subst (λ (z : Entry). z.0.left ≡ s) same l) (subst (λ (z : Entry). z.0.right.items ≡ S) same r) f

pub found_done : (t : Table) (i : ℕ) (o : Option ℕ) → FoundAt t.goals.entries i o → (o ≡ None → ⊥) → IsDone t i
found_done t i o (g, at, f) found = inl (λ h then none. found (sym f ∙ ap (λ (z : Entry). z.1) (some_is g h (sym at ∙ then)) ∙ none))

-- ---- rounds

pub more_then : (a : List State) (other : ℕ) (t u v : Table) → Searches a other t u → IsMore u v → IsMore t v
more_then a other t u v s more = let l = s.goals.long in let k = s.shown in omega (arith, l, k, more)

pub more_later : (a : List State) (other : ℕ) (t u v : Table) → IsMore t u → Searches a other u v → IsMore t v
more_later a other t u v more s = let l = s.goals.long in let k = s.shown in omega (arith, l, k, more)

pub round_is : (a : List State) (other : ℕ) (t u : Table) (n : ℕ) (more : Bool) → length u.goals.entries ≤ n → (more ≡ true → IsMore t u) → (more ≡ false → StandFrom a other u.goals.entries u.settled n) → IsRound a other t u more
round_is a other t u n true le grown still = grown refl
round_is a other t u n false le grown still = stand_to a other u.goals.entries u.settled n le (still refl)

-- all goals are settled now
pub right_settled : (a : List State) (other : ℕ) (t u v : Table) → LacksEdge a other → IsRight a other t → Searches a other t u → StandFrom a other u.goals.entries u.settled (length u.goals.entries) → v.goals.entries ≡ u.goals.entries → v.shown.items ≡ u.shown.items → v.settled ≡ length u.goals.entries → IsRight a other v
right_settled a other t u v lacks right searches stand goals shown settled =
    let r = right_searches a other t u right searches in
    record {
      table = subst (λ l. IsTable a other l v.shown.items) (sym goals) (subst (λ l. IsTable a other u.goals.entries l) (sym shown) r.table);
      settled = subst (λ l. Settled a l v.settled) (sym goals) (subst (Settled a u.goals.entries) (sym settled) (round_settles a other u lacks r stand));
      inside = omega (arith, settled, ap length goals);
    }
