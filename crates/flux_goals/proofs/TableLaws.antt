-- What a table of goals keeps as it grows.
use Rattle.std.proofs.Common.{◌≡◌, ◌⊎◌, ℕ, ◌<◌, ◌≤◌, List, [], ◌∷◌, ◌++◌, length, Bool, Option, Some, None, slice_get, refl, sym, ap, subst, ◌∙◌, inl, inr, arith, length-append}
use Rattle.std.proofs.lemmas.Option.{slice_get_within}
use Rattle.indexmap.specs.Layout.{set_value_at, length-set_value_at}
use Rattle.flux_auto.specs.declared.edge.Edge.{Edge}
use Rattle.flux_auto.specs.declared.edge.Edge.TheVariants.{Atom, Elem, AnyElem}
use Rattle.flux_auto.specs.declared.recipe.Recipe.{Recipe}
use Rattle.flux_auto.specs.Takes.{State}
use Rattle.flux_auto.specs.Witness.{IsOlder, IsLabelled}
use Rattle.flux_auto.proofs.Recipes.{forest-grows, forest-last}
use Rattle.flux_goals.specs.declared.goal.Goal.{Goal}
use Rattle.flux_goals.specs.declared.goal.Way.{Way}
use Rattle.flux_goals.specs.Goals.{Shows, Holds, AllBelow}
use Rattle.flux_goals.specs.declared.table.Table.{Table}
use Rattle.flux_goals.specs.Table.{Asks, Searches, IsRight, Entry, Open, Fine, Blocked, EdgeStands, Stands, shown_at, IsAgainst, IsTable, Settled, Quiet, Same, Grows, IsAt, IsAsked, IsFound, IsFoundAt, FoundAt}
use Rattle.flux_goals.proofs.Places.{value_here, value_elsewhere}
use Rattle.flux_atom.proofs.Plain.{same_or_not}
use Rattle.flux_auto.proofs.Meaning.{got}
use Rattle.flux_auto.proofs.Items.{get-push, grows-refl, grows-trans, grows-length, grows-get, grows-has, some_is}

-- ---- goals are added

pub open_quiet : (gs hs : List Entry) (s : ℕ) (S : List ℕ) → Quiet gs hs → Open gs s S → Open hs s S
open_quiet gs hs s S q o = (o.0, grows-has gs hs o.0 q o.1, o.2, o.3, o.4)

pub fine_quiet : (a : List State) (gs hs : List Entry) (s : ℕ) (S : List ℕ) → Quiet gs hs → Fine a gs s S → Fine a hs s S
fine_quiet a gs hs s S q (inl o) = inl (open_quiet gs hs s S q o)
fine_quiet a gs hs s S q (inr h) = inr h

pub blocked_quiet : (a : List State) (gs hs : List Entry) (ways : List Way) (c r : ℕ) (p : ℕ → Bool) → Quiet gs hs → Blocked a gs ways c r p → Blocked a hs ways c r p
blocked_quiet a gs hs ways c r p q (inl (I, l, f)) = inl (I, l, fine_quiet a gs hs c I q f)
blocked_quiet a gs hs ways c r p q (inr (J, l, f)) = inr (J, l, fine_quiet a gs hs r J q f)

pub edge_quiet : (a : List State) (other : ℕ) (gs hs : List Entry) (S : List ℕ) (e : Edge) → Quiet gs hs → EdgeStands a other gs S e → EdgeStands a other hs S e
edge_quiet a other gs hs S (Atom k r) q (R, are, f) = (R, are, fine_quiet a gs hs r R q f)
edge_quiet a other gs hs S (Elem n c r) q (ways, are, f) = (ways, are, λ p. blocked_quiet a gs hs ways c r p q (f p))
edge_quiet a other gs hs S (AnyElem c r) q (ways, are, f) = (ways, are, λ p. blocked_quiet a gs hs ways c r p q (f p))

pub stands_quiet : (a : List State) (other : ℕ) (gs hs : List Entry) (s : ℕ) (S : List ℕ) → Quiet gs hs → Stands a other gs s S → Stands a other hs s S
stands_quiet a other gs hs s S q st = record { nothing = st.nothing; edges = λ e h. edge_quiet a other gs hs S e q (st.edges e h) }

-- a goal is added against which nothing was found
pub table_push : (a : List State) (other : ℕ) (gs hs : List Entry) (shown : List Recipe) (g : Entry) → IsTable a other gs shown → g.0.left < length a → AllBelow (length a) g.0.right.items → g.1 ≡ None → hs ≡ gs ++ g ∷ [] → IsTable a other hs shown
table_push a other gs hs shown g table left right none is = record {
  older = table.older;
  labels = table.labels;
  sound = λ i h m at found. elim (get-push gs g i h (sym (ap (λ l. slice_get l i) is) ∙ at)) [
    | inl p ↦ table.sound i h m p.1 found
    | inr p ↦ absurd (let x : None ≡ Some m = sym none ∙ ap (λ (z : Entry). z.1) p.1 ∙ found in cc)
  ];
  inside = λ i h at. elim (get-push gs g i h (sym (ap (λ l. slice_get l i) is) ∙ at)) [
    | inl p ↦ table.inside i h p.1
    | inr p ↦ subst (λ (z : Entry). (z.0.left < length a) × AllBelow (length a) z.0.right.items) p.1 (left, right)
  ];
}

-- ---- tables that grow

pub grows_quiet : (gs hs : List Entry) → Quiet gs hs → Grows gs hs
grows_quiet gs hs q = record {
  long = grows-length gs hs q;
  same = λ i g h at then.
      let e : g ≡ h = some_is g h (sym at ∙ sym (grows-get gs hs i q (slice_get_within gs i g at)) ∙ then) in
      subst (Same g) e (record { left = refl; right = refl; none = λ x. x });
}

same_trans : (g h k : Entry) → Same g h → Same h k → Same g k
same_trans g h k p q = record { left = q.left ∙ p.left; right = q.right ∙ p.right; none = λ e. p.none (q.none e) }

pub grows_refl : (gs : List Entry) → Grows gs gs
grows_refl gs = grows_quiet gs gs (grows-refl gs)

pub grows_trans : (gs hs ks : List Entry) → Grows gs hs → Grows hs ks → Grows gs ks
grows_trans gs hs ks p q = record {
  long = (let l = p.long in let m = q.long in omega (arith, l, m));
  same = λ i g k at then.
      let in_gs : i < length gs = slice_get_within gs i g at in
      let mid = got hs i (let l = p.long in omega (arith, l, in_gs)) in
      same_trans g mid.0 k (p.same i g mid.0 at mid.1) (q.same i mid.0 k mid.1 then);
}

holds_same : (a : List State) (g h : Entry) → Same g h → Holds a g.0.left g.0.right.items → Holds a h.0.left h.0.right.items
holds_same a g h s holds = subst (λ T. Holds a h.0.left T) (sym s.right) (subst (λ t. Holds a t g.0.right.items) (sym s.left) holds)

pub settled_grows : (a : List State) (gs hs : List Entry) (n : ℕ) → n ≤ length gs → Grows gs hs → Settled a gs n → Settled a hs n
settled_grows a gs hs n le p settled i h lt at none =
    let g = got gs i (omega (arith, le, lt)) in
    let s = p.same i g.0 h g.1 at in
    holds_same a g.0 h s (settled i g.0 lt g.1 (s.none none))

-- ---- something is found against a goal

pub marked_grows : (gs : List Entry) (at m : ℕ) → Grows gs (set_value_at gs at (Some m))
marked_grows gs at m = record {
  long = omega (arith, length-set_value_at gs at (Some m));
  same = λ i x y e f. elim (same_or_not i at) [
    | inl same ↦
        let here = value_here gs at x (Some m) (ap (slice_get gs) (sym same) ∙ e) in
        let y_is : (x.0, Some m) ≡ y = some_is (x.0, Some m) y (sym here ∙ ap (slice_get (set_value_at gs at (Some m))) (sym same) ∙ f) in
        subst (Same x) y_is (record { left = refl; right = refl; none = λ o. absurd (let w : Some m ≡ None = o in cc) })
    | inr off ↦
        let e : x ≡ y = some_is x y (sym e ∙ sym (value_elsewhere gs at i (Some m) off) ∙ f) in
        subst (Same x) e (record { left = refl; right = refl; none = λ o. o })
  ];
}

shown_more : (a : List State) (shown : List Recipe) (r : Recipe) (s : ℕ) (S : List ℕ) (m : ℕ) → IsAgainst a shown s S m → IsAgainst a (shown ++ r ∷ []) s S m
shown_more a shown r s S m (lt, is) = (omega (arith, lt, length-append shown (r ∷ [])), subst (Shows a s S) (sym (forest-grows shown (r ∷ []) m lt)) is)

pub table_mark : (a : List State) (other : ℕ) (gs : List Entry) (shown : List Recipe) (at : ℕ) (r : Recipe) → IsTable a other gs shown → at < length gs → IsFoundAt a other gs shown at r → IsTable a other (set_value_at gs at (Some (length shown))) (shown ++ r ∷ [])
table_mark a other gs shown at r table within found = record {
  older = λ i j e. elim (get-push shown r i j e) [
    | inl p ↦ table.older i j p.1
    | inr p ↦ subst (IsOlder i) p.1 (subst (λ n. IsOlder n r) (sym p.0) is.older)
  ];
  labels = λ i j e. elim (get-push shown r i j e) [
    | inl p ↦ table.labels i j p.1
    | inr p ↦ subst (IsLabelled a other) p.1 is.labels
  ];
  sound = λ i x m e f. sound_at i x m e f (same_or_not i at);
  inside = λ i x e. inside_at i x e (same_or_not i at);
}
  where
    g : (x : Entry) × (slice_get gs at ≡ Some x)
    g = got gs at within

    is : IsFound a other shown g.0.0.left g.0.0.right.items r
    is = found g.0 g.1

    x_is : (i : ℕ) (x : Entry) → slice_get (set_value_at gs at (Some (length shown))) i ≡ Some x → i ≡ at → (g.0.0, Some (length shown)) ≡ x
    x_is i x e same = some_is (g.0.0, Some (length shown)) x (sym (value_here gs at g.0 (Some (length shown)) g.1) ∙ ap (slice_get (set_value_at gs at (Some (length shown)))) (sym same) ∙ e)

    new_shown : IsAgainst a (shown ++ r ∷ []) g.0.0.left g.0.0.right.items (length shown)
    new_shown = (omega (arith, length-append shown (r ∷ [])), subst (Shows a g.0.0.left g.0.0.right.items) (sym (forest-last shown r)) is.shows)

    sound_at : (i : ℕ) (x : Entry) (m : ℕ) → slice_get (set_value_at gs at (Some (length shown))) i ≡ Some x → x.1 ≡ Some m → (i ≡ at) ⊎ (i ≡ at → ⊥) → IsAgainst a (shown ++ r ∷ []) x.0.left x.0.right.items m
    sound_at i x m e f (inl same) =
        let y = x_is i x e same in
        let m_is : length shown ≡ m = some_is (length shown) m (ap (λ (z : Entry). z.1) y ∙ f) in
        subst (λ n. IsAgainst a (shown ++ r ∷ []) x.0.left x.0.right.items n) m_is
        (subst (λ (z : Entry). IsAgainst a (shown ++ r ∷ []) z.0.left z.0.right.items (length shown)) y new_shown)
    sound_at i x m e f (inr off) = shown_more a shown r x.0.left x.0.right.items m (table.sound i x m (sym (value_elsewhere gs at i (Some (length shown)) off) ∙ e) f)

    inside_at : (i : ℕ) (x : Entry) → slice_get (set_value_at gs at (Some (length shown))) i ≡ Some x → (i ≡ at) ⊎ (i ≡ at → ⊥) → (x.0.left < length a) × AllBelow (length a) x.0.right.items
    inside_at i x e (inl same) = subst (λ (z : Entry). (z.0.left < length a) × AllBelow (length a) z.0.right.items) (x_is i x e same) (table.inside at g.0 g.1)
    inside_at i x e (inr off) = table.inside i x (sym (value_elsewhere gs at i (Some (length shown)) off) ∙ e)

-- ---- a goal is put into a table

pub table_interned : (a : List State) (other : ℕ) (gs hs : List Entry) (shown : List Recipe) (g : Goal) → IsTable a other gs shown → g.left < length a → AllBelow (length a) g.right.items → (hs ≡ gs) ⊎ (hs ≡ gs ++ (g, None) ∷ []) → IsTable a other hs shown
table_interned a other gs hs shown g table left right (inl e) = subst (λ l. IsTable a other l shown) (sym e) table
table_interned a other gs hs shown g table left right (inr e) = table_push a other gs hs shown (g, None) table left right refl e

pub quiet_interned : (gs hs : List Entry) (g : Goal) → (hs ≡ gs) ⊎ (hs ≡ gs ++ (g, None) ∷ []) → Quiet gs hs
quiet_interned gs hs g (inl e) = subst (Quiet gs) (sym e) (grows-refl gs)
quiet_interned gs hs g (inr e) = ((g, None) ∷ [], e)

pub asked_by : (a : List State) (other : ℕ) (goals : List Entry) (shown : List Recipe) (i s : ℕ) (S : List ℕ) (x : Entry) (o : Option ℕ) → IsTable a other goals shown → slice_get goals i ≡ Some x → x.0.left ≡ s → x.0.right.items ≡ S → x.1 ≡ o → IsAsked a goals shown s S o
asked_by a other goals shown i s S x None table at l r f = inl (x, (i, at), l, r, f)
asked_by a other goals shown i s S x (Some m) table at l r f =
    let y = table.sound i x m at f in
    (y.0, subst (λ T. Shows a s T (shown_at shown m)) r (subst (λ t. Shows a t x.0.right.items (shown_at shown m)) l y.1))

pub asked_at : (a : List State) (other : ℕ) (goals : List Entry) (shown : List Recipe) (i s : ℕ) (S : List ℕ) (o : Option ℕ) → IsTable a other goals shown → IsAt goals i s S → FoundAt goals i o → IsAsked a goals shown s S o
asked_at a other goals shown i s S o table (g, at, l, r) (x, here, f) =
    let same : g ≡ x = some_is g x (sym at ∙ here) in
    asked_by a other goals shown i s S x o table here (subst (λ (z : Entry). z.0.left ≡ s) same l) (subst (λ (z : Entry). z.0.right.items ≡ S) same r) f

pub at_within : (gs : List Entry) (i s : ℕ) (S : List ℕ) → IsAt gs i s S → i < length gs
at_within gs i s S (g, at, l, r) = slice_get_within gs i g at

pub grown_at : (gs hs : List Entry) (i s : ℕ) (S : List ℕ) → Grows gs hs → IsAt gs i s S → IsAt hs i s S
grown_at gs hs i s S p (g, at, l, r) =
    let h = got hs i (let m = p.long in let k = slice_get_within gs i g at in omega (arith, m, k)) in
    let e = p.same i g h.0 at h.1 in
    (h.0, h.1, e.left ∙ l, e.right ∙ r)

-- ---- whole tables

pub asks_refl : (t : Table) → Asks t t
asks_refl t = record { goals = grows-refl t.goals.entries; shown = refl; settled = refl }

pub asks_trans : (t u v : Table) → Asks t u → Asks u v → Asks t v
asks_trans t u v p q = record {
  goals = grows-trans t.goals.entries u.goals.entries v.goals.entries p.goals q.goals;
  shown = q.shown ∙ p.shown;
  settled = q.settled ∙ p.settled;
}

-- a table in which goals alone were added
pub searches_asks : (a : List State) (other : ℕ) (t u : Table) → IsTable a other u.goals.entries u.shown.items → Asks t u → Searches a other t u
searches_asks a other t u table asks = record {
  table = table;
  goals = grows_quiet t.goals.entries u.goals.entries asks.goals;
  shown = omega (arith, ap length asks.shown);
  settled = asks.settled;
}

pub searches_refl : (a : List State) (other : ℕ) (t : Table) → IsTable a other t.goals.entries t.shown.items → Searches a other t t
searches_refl a other t table = searches_asks a other t t table (asks_refl t)

pub searches_trans : (a : List State) (other : ℕ) (t u v : Table) → Searches a other t u → Searches a other u v → Searches a other t v
searches_trans a other t u v p q = record {
  table = q.table;
  goals = grows_trans t.goals.entries u.goals.entries v.goals.entries p.goals q.goals;
  shown = (let l = p.shown in let m = q.shown in omega (arith, l, m));
  settled = q.settled ∙ p.settled;
}

-- a table stays right as the search goes on
pub right_searches : (a : List State) (other : ℕ) (t u : Table) → IsRight a other t → Searches a other t u → IsRight a other u
right_searches a other t u right s = record {
  table = s.table;
  settled = subst (Settled a u.goals.entries) (sym s.settled) (settled_grows a t.goals.entries u.goals.entries t.settled right.inside s.goals right.settled);
  inside = (let l = right.inside in let m = s.goals.long in let e = s.settled in omega (arith, l, m, e));
}

-- a goal is put into a table that is right
pub right_interned : (a : List State) (other : ℕ) (t u : Table) (g : Goal) → IsRight a other t → g.left < length a → AllBelow (length a) g.right.items → (u.goals.entries ≡ t.goals.entries) ⊎ (u.goals.entries ≡ t.goals.entries ++ (g, None) ∷ []) → u.shown.items ≡ t.shown.items → u.settled ≡ t.settled → IsRight a other u
right_interned a other t u g right left states kept shown settled =
    right_searches a other t u right
    (searches_asks a other t u (subst (λ l. IsTable a other u.goals.entries l) (sym shown) (table_interned a other t.goals.entries u.goals.entries t.shown.items g right.table left states kept))
    (record { goals = quiet_interned t.goals.entries u.goals.entries g kept; shown = shown; settled = settled }))
