-- What a turn of the search leaves.
use Rattle.std.proofs.Common.{◌≡◌, ◌⊎◌, ℕ, ◌+◌, ◌<◌, ◌≤◌, List, [], ◌∷◌, ◌++◌, length, take, get_or, Bool, false, replicate, Some, slice_get, refl, sym, ap, ap₂, subst, ◌∙◌, inl, inr, arith}
use Rattle.std.proofs.lemmas.Option.{slice_get_within}
use Rattle.flux_auto.specs.declared.arcs.Leap.{Leap}
use Rattle.flux_auto.specs.declared.arcs.Arcs.{Arcs}
use Rattle.flux_auto.specs.Takes.{State, has, profile, profile_nil, profile_atom, profile_element}
use Rattle.flux_auto.specs.Arcs.{IsIndex, arcs_at, leaps_along, leaps_by, fired}
use Rattle.flux_auto.specs.Witness.{made, forests, IsOlder, IsShownBy}
use Rattle.flux_auto.proofs.ArcLaws.{element_fires, index_label, silent_more}
use Rattle.flux_auto.proofs.Items.{some_is, get-push, has-last, has-push, below_or_at, grows-refl, grows-trans, grows-length, grows-get, grows-has}
use Rattle.flux_auto.proofs.Recipes.{kind_of-sample}
use Rattle.flux_subtype.specs.declared.trees.Head.{Head}
use Rattle.flux_subtype.specs.declared.trees.Head.TheVariants.{Atom, Elem}
use Rattle.flux_auto.specs.Going.{Has, LacksEdge}
use Rattle.flux_subtype.specs.Kept.{Kept, recipes, set_at, IsRecipeLabel, IsKeptLabel, AreKept, Grows, IsKept, Keeps}
use Rattle.flux_subtype.specs.Search.{Tree, dead, ByElement, MovesBy, AreTrees, Stands, TreesGrow, AddsTree, IsHeadLabel, IsTreeLabel, IsUsed, IsElementOf, AddsElements, LabelsDone, Answered, AllAnswered, AnsweredBelow, recipe_of, Puts, Fills, FillsAll, IsDone, Turned}
use Rattle.flux_subtype.proofs.KeptLaws.{grows-set_at, keeps_more}

-- ---- a tree and a rest

-- no leap goes to a state of the set, so none marks
pub silent_next : (leaps : List Leap) (q : List Bool) (i : ℕ) (l : Leap) → ((n : ℕ) → fired n (take i leaps) q ≡ replicate n false) → i < length leaps → has q (get_or leaps i l).next ≡ false → (n : ℕ) → fired n (take (i + 1) leaps) q ≡ replicate n false
silent_next leaps q i l before lt off n = silent_more q n leaps i l lt off ∙ before n

names_older : (a : List State) (ks : List Kept) (head : Head) (leaps : List Leap) (r : ℕ) → MovesBy a ks head leaps → r < length ks → IsOlder (length ks) (recipe_of head r)
names_older a ks (Atom k) leaps r by h = h
names_older a ks (Elem n c) leaps r by h = (by.0, h)

recipe_profile : (a : List State) (ks : List Kept) (head : Head) (leaps : List Leap) (r : ℕ) → AreKept a ks → MovesBy a ks head leaps → r < length ks → fired (length a) leaps (set_at ks r) ≡ profile a (made (forests (recipes ks)) (recipe_of head r))
recipe_profile a ks (Atom k) leaps r are by h = by (set_at ks r) ∙ ap₂ (profile_atom a) (sym (kind_of-sample k)) (are.profiles r h)
recipe_profile a ks (Elem n c) leaps r are by h = by.1 (set_at ks r) ∙ ap₂ (profile_element a n) (are.profiles c by.0) (are.profiles r h)

pub puts_silent : (a : List State) (ks : List Kept) (head : Head) (leaps : List Leap) (q : List Bool) → AreKept a ks → fired (length a) leaps q ≡ dead a → Puts a ks ks head leaps q
puts_silent a ks head leaps q are silent = record { kept = are; grows = grows-refl ks; answered = inl silent; labels = λ n h. inl h }

-- the label of a recipe is that of its head
recipe-label : (head : Head) (r n : ℕ) → IsRecipeLabel (recipe_of head r) n → IsHeadLabel head n
recipe-label (Atom k) r n h = absurd h
recipe-label (Elem m c) r n h = h

keeps-labels : (ks ls : List Kept) (p : List Bool) (head : Head) (r : ℕ) → Keeps ks p (recipe_of head r) ls → (n : ℕ) → IsKeptLabel ls n → IsKeptLabel ks n ⊎ IsHeadLabel head n
keeps-labels ks ls p head r (inl (e, there)) n h = inl (subst (λ l. IsKeptLabel l n) e h)
keeps-labels ks ls p head r (inr e) n (i, x, at, l) =
    elim (get-push ks (p, recipe_of head r) i x (ap (λ l. slice_get l i) (sym e) ∙ at)) [
      | inl o ↦ inl (i, x, o.1, l)
      | inr q ↦ inr (recipe-label head r n (subst (λ (z : Kept). IsRecipeLabel z.1 n) (sym q.1) l))
    ]

pub puts : (a : List State) (ks ls : List Kept) (head : Head) (leaps : List Leap) (r : ℕ) (p : List Bool) → AreKept a ks → MovesBy a ks head leaps → r < length ks → p ≡ fired (length a) leaps (set_at ks r) → Keeps ks p (recipe_of head r) ls
    → Puts a ks ls head leaps (set_at ks r)
puts a ks ls head leaps r p are by h f keeps =
    let k = keeps_more a ks ls p (recipe_of head r) are (names_older a ks head leaps r by h) (f ∙ recipe_profile a ks head leaps r are by h) keeps in
    record { kept = k.kept; grows = k.grows; answered = inr (subst (IsKept ls) f k.there); labels = keeps-labels ks ls p head r keeps }

-- ---- as more is kept

pub within-grows : (ks ls : List Kept) (i : ℕ) → Grows ks ls → i < length ks → i < length ls
within-grows ks ls i g h = let le = grows-length ks ls g in omega (arith, le, h)

pub moves_by-grows : (a : List State) (ks ls : List Kept) (head : Head) (leaps : List Leap) → Grows ks ls → MovesBy a ks head leaps → MovesBy a ls head leaps
moves_by-grows a ks ls (Atom k) leaps g by = by
moves_by-grows a ks ls (Elem n c) leaps g by = (within-grows ks ls c g by.0, subst (λ p. ByElement a n p leaps) (sym (grows-set_at ks ls c g by.0)) by.1)

pub kept-grows : (ks ls : List Kept) (p : List Bool) → Grows ks ls → IsKept ks p → IsKept ls p
kept-grows ks ls p g (i, l, e) = (i, within-grows ks ls i g l, grows-set_at ks ls i g l ∙ e)

answered-grows : (a : List State) (ks ls : List Kept) (leaps : List Leap) (q : List Bool) → Grows ks ls → Answered a ks leaps q → Answered a ls leaps q
answered-grows a ks ls leaps q g (inl silent) = inl silent
answered-grows a ks ls leaps q g (inr kept) = inr (kept-grows ks ls (fired (length a) leaps q) g kept)

answered_at-grows : (a : List State) (ks ls : List Kept) (leaps : List Leap) (i : ℕ) → Grows ks ls → i < length ks → Answered a ks leaps (set_at ks i) → Answered a ls leaps (set_at ls i)
answered_at-grows a ks ls leaps i g l h = answered-grows a ks ls leaps (set_at ls i) g (subst (Answered a ks leaps) (sym (grows-set_at ks ls i g l)) h)

-- ---- a tree before a range of profiles

pub no_fill : (a : List State) (ks : List Kept) (head : Head) (leaps : List Leap) (i : ℕ) → AreKept a ks → Fills a ks ks head leaps i i
no_fill a ks head leaps i are = record { kept = are; grows = grows-refl ks; answered = λ k le lt. absurd (omega (arith, le, lt)); labels = λ n h. inl h }

pub next_fill : (a : List State) (ks ls ms : List Kept) (head : Head) (leaps : List Leap) (i j : ℕ) → Fills a ks ls head leaps i j → j < length ks → Puts a ls ms head leaps (set_at ls j) → Fills a ks ms head leaps i (j + 1)
next_fill a ks ls ms head leaps i j before l put = record {
  labels = λ n h. elim (put.labels n h) [ inl o ↦ before.labels n o | inr x ↦ inr x ];
  kept = put.kept;
  grows = grows-trans ks ls ms before.grows put.grows;
  answered = λ k le lt. at k le (below_or_at k j lt);
}
  where
    at : (k : ℕ) → i ≤ k → (k < j) ⊎ (k ≡ j) → Answered a ms leaps (set_at ms k)
    at k le (inl lt) = answered_at-grows a ls ms leaps k put.grows (within-grows ks ls k before.grows (omega (arith, lt, l))) (before.answered k le lt)
    at k le (inr e) =
        subst (λ x. Answered a ms leaps (set_at ms x)) (sym e)
        (subst (Answered a ms leaps) (sym (grows-set_at ls ms j put.grows (within-grows ks ls j before.grows l))) put.answered)

-- ---- every tree

pub no_fill_all : (a : List State) (ks : List Kept) (ts : List Tree) (n : ℕ) → AreKept a ks → FillsAll a ks ks ts n 0
no_fill_all a ks ts n are = record { kept = are; grows = grows-refl ks; answered = λ k i t lt. absurd (omega (arith, lt)); labels = λ b h. inl h }

-- the tree was before each profile below n, or is put before it now
abbrev pub Begins : ℕ → ℕ → ℕ → ℕ → Type 0
Begins k before n from = ((k < before) × (from ≡ n)) ⊎ (from ≡ 0)

pub next_fill_all : (a : List State) (ks ls ms : List Kept) (ts : List Tree) (n m before from : ℕ) (t : Tree) → n < length ks → AnsweredBelow a ks ts before n → FillsAll a ks ls ts n m → slice_get ts m ≡ Some t
    → Begins m before n from → Fills a ls ms t.1 t.0.items from (n + 1) → FillsAll a ks ms ts n (m + 1)
next_fill_all a ks ls ms ts n m before from t inside old so_far is begins fill = record {
  labels = λ b h. elim (fill.labels b h) [ inl o ↦ so_far.labels b o | inr x ↦ inr (t, (m, is), x) ];
  kept = fill.kept;
  grows = grows;
  answered = λ k i u lt at l. one k i u at l (below_or_at k m lt);
}
  where
    grows : Grows ks ms
    grows = grows-trans ks ls ms so_far.grows fill.grows

    here : (i : ℕ) → i < n + 1 → (from ≤ i) ⊎ ((i < n) × (m < before))
    here i l = elim begins [
      | inr e ↦ inl (omega (arith, e))
      | inl p ↦ elim (below_or_at i n l) [ inl lt ↦ inr (lt, p.0) | inr e ↦ inl (let f = p.1 in omega (arith, e, f)) ]
    ]

    same : (i : ℕ) → i < n + 1 → Answered a ms t.0.items (set_at ms i)
    same i l = elim (here i l) [
      | inl le ↦ fill.answered i le l
      | inr p ↦ answered_at-grows a ks ms t.0.items i grows (let lt = p.0 in omega (arith, lt, inside)) (old m i t p.1 is p.0)
    ]

    one : (k i : ℕ) (u : Tree) → slice_get ts k ≡ Some u → i < n + 1 → (k < m) ⊎ (k ≡ m) → Answered a ms u.0.items (set_at ms i)
    one k i u at l (inl lt) = answered_at-grows a ls ms u.0.items i fill.grows (within-grows ks ls i so_far.grows (omega (arith, l, inside))) (so_far.answered k i u lt at l)
    one k i u at l (inr e) = subst (λ (z : Tree). Answered a ms z.0.items (set_at ms i)) (some_is t u (sym is ∙ ap (slice_get ts) (sym e) ∙ at)) (same i l)

-- ---- trees

pub stands-grows : (ts us : List Tree) (leaps : List Leap) → TreesGrow ts us → Stands ts leaps → Stands us leaps
stands-grows ts us leaps g (t, h, e) = (t, grows-has ts us t g h, e)

pub tree_answers : (a : List State) (ks : List Kept) (ts us : List Tree) (n : ℕ) → TreesGrow ts us → AllAnswered a ks ts n → AnsweredBelow a ks us (length ts) n
tree_answers a ks ts us n g all k i t lt at l = all t i (k, sym (grows-get ts us k g lt) ∙ at) l

pub added_trees : (a : List State) (arcs : Arcs) (other : ℕ) (ks : List Kept) (ts us : List Tree) (n : ℕ) → IsIndex a arcs → n < length ks → AreTrees a ks ts → AddsElements arcs other (set_at ks n) n ts us → AreTrees a ks us
added_trees a arcs other ks ts us n is inside trees adds t h = elim (adds.new t h) [
  | inl old ↦ trees t old
  | inr (m, tried, e, by) ↦ subst (λ head. MovesBy a ks head t.0.items) (sym e) (inside, subst (ByElement a m (set_at ks n)) (sym by) (λ q. element_fires a arcs m (set_at ks n) q is))
]

-- the labels of trees that were added are shown
added-labels : (a : List State) (arcs : Arcs) (other : ℕ) (p : List Bool) (c : ℕ) (ts us : List Tree) → IsIndex a arcs → AddsElements arcs other p c ts us → (n : ℕ) → IsTreeLabel us n → IsTreeLabel ts n ⊎ IsShownBy a other n
added-labels a arcs other p c ts us is adds n (t, h, l) = elim (adds.new t h) [
  | inl old ↦ inl (t, old, l)
  | inr (m, tried, e, by) ↦ inr (subst (IsShownBy a other) (sym (subst (λ head. IsHeadLabel head n) e l)) (elim tried [ inl same ↦ inl same | inr there ↦ inr (index_label a arcs m is there) ]))
]

-- the elements of each label have trees: one that isn't listed has that of `other`
added_done : (a : List State) (arcs : Arcs) (other : ℕ) (p : List Bool) (c : ℕ) (ts us : List Tree) → IsIndex a arcs → LacksEdge a other → AddsElements arcs other p c ts us → LabelsDone a us p
added_done a arcs other p c ts us is lacks adds n = elim (is.listed n) [
  | inr there ↦ (leaps_by arcs n p, (λ q. element_fires a arcs n p q is), adds.stand n (inr there))
  | inl none ↦ (leaps_by arcs other p, (λ q. ap (λ xs. fired (length a) (leaps_along p xs ++ leaps_along p arcs.any_label.items) q) (bare ∙ sym none) ∙ element_fires a arcs n p q is), adds.stand other (inl refl))
]
  where
    bare : arcs_at arcs.by_label.items other ≡ []
    bare = elim (is.listed other) [ inl none ↦ none | inr there ↦ absurd (let l = index_label a arcs other is there in lacks l.0 l.4 l.5 (l.1, l.2, (l.3, l.6))) ]

trees-grow : (a : List State) (ks ls : List Kept) (ts : List Tree) → Grows ks ls → AreTrees a ks ts → AreTrees a ls ts
trees-grow a ks ls ts g trees t h = moves_by-grows a ks ls t.1 t.0.items g (trees t h)

pub turned : (a : List State) (arcs : Arcs) (other : ℕ) (ks ls : List Kept) (ts us : List Tree) (n : ℕ) → IsIndex a arcs → LacksEdge a other → n < length ks → IsDone a ks ts n → AddsElements arcs other (set_at ks n) n ts us
    → FillsAll a ks ls us n (length us) → Turned a other ks ls ts us n
turned a arcs other ks ls ts us n is lacks inside done adds fill = record {
  labels = λ m h. elim h [ inl k ↦ elim (fill.labels m k) [ inl o ↦ inl (inl o) | inr t ↦ tree m t ] | inr t ↦ tree m t ];
  grows = fill.grows;
  done = record {
    kept = fill.kept;
    trees = trees-grow a ks ls us fill.grows (added_trees a arcs other ks ts us n is inside done.trees adds);
    first = kept-grows ks ls (profile_nil a) fill.grows done.first;
    kinds = λ k. let m = done.kinds k in (m.0, m.1, stands-grows ts us m.0 adds.grows m.2);
    labels = λ i l. at i (below_or_at i n l);
    answered = λ t i h l. fill.answered h.0 i t (slice_get_within us h.0 t h.1) h.1 l;
  };
}
  where
    tree : (m : ℕ) → IsTreeLabel us m → IsUsed ks ts m ⊎ IsShownBy a other m
    tree m t = elim (added-labels a arcs other (set_at ks n) n ts us is adds m t) [ inl o ↦ inl (inr o) | inr x ↦ inr x ]

    at : (i : ℕ) → (i < n) ⊎ (i ≡ n) → LabelsDone a us (set_at ls i)
    at i (inl lt) = subst (LabelsDone a us) (sym (grows-set_at ks ls i fill.grows (omega (arith, lt, inside)))) (λ m. let x = done.labels i lt m in (x.0, x.1, stands-grows ts us x.0 adds.grows x.2))
    at i (inr e) = subst (λ j. LabelsDone a us (set_at ls j)) (sym e) (subst (LabelsDone a us) (sym (grows-set_at ks ls n fill.grows inside)) (added_done a arcs other (set_at ks n) n ts us is lacks adds))

-- ---- trees are added

pub adds_known : (ts : List Tree) (head : Head) (leaps : List Leap) → Stands ts leaps → AddsTree ts ts head leaps
adds_known ts head leaps k = record { grows = grows-refl ts; stands = k; new = λ t h. inl h }

pub adds_new : (ts us : List Tree) (t : Tree) → us ≡ ts ++ t ∷ [] → AddsTree ts us t.1 t.0.items
adds_new ts us t e = record {
  grows = (t ∷ [], e);
  stands = (t, subst (λ l. Has l t) (sym e) (has-last ts t), refl);
  new = λ u h. elim (has-push ts t u (subst (λ l. Has l u) e h)) [ inl old ↦ inl old | inr same ↦ inr (ap (λ (z : Tree). z.1) (sym same), ap (λ (z : Tree). z.0.items) (sym same)) ];
}

-- elements of the first k labels
pub record AddsBelow (arcs : Arcs) (other : ℕ) (p : List Bool) (c : ℕ) (ts us : List Tree) (k : ℕ) : Type 0 where
  pub grows : TreesGrow ts us
  pub stand : (j n : ℕ) → j < k → slice_get arcs.labels.items j ≡ Some n → Stands us (leaps_by arcs n p)
  pub new : (t : Tree) → Has us t → Has ts t ⊎ IsElementOf arcs other p c t

pub adds_below_none : (arcs : Arcs) (other : ℕ) (p : List Bool) (c : ℕ) (ts : List Tree) → AddsBelow arcs other p c ts ts 0
adds_below_none arcs other p c ts = record { grows = grows-refl ts; stand = λ j n l. absurd (omega (arith, l)); new = λ t h. inl h }

pub adds_below_next : (arcs : Arcs) (other : ℕ) (p : List Bool) (c : ℕ) (ts us vs : List Tree) (k n : ℕ) (leaps : List Leap) → AddsBelow arcs other p c ts us k → slice_get arcs.labels.items k ≡ Some n → leaps ≡ leaps_by arcs n p → AddsTree us vs (Elem n c) leaps → AddsBelow arcs other p c ts vs (k + 1)
adds_below_next arcs other p c ts us vs k n leaps before is by adds = record {
  grows = grows-trans ts us vs before.grows adds.grows;
  stand = λ j m l at. elim (below_or_at j k l) [
    | inl lt ↦ stands-grows us vs (leaps_by arcs m p) adds.grows (before.stand j m lt at)
    | inr e ↦ subst (Stands vs) (by ∙ ap (λ i. leaps_by arcs i p) (some_is n m (sym is ∙ ap (slice_get arcs.labels.items) (sym e) ∙ at))) adds.stands
  ];
  new = λ t h. elim (adds.new t h) [ inl old ↦ before.new t old | inr e ↦ inr (n, inr (k, is), e.0, e.1 ∙ by) ];
}

-- the elements of all labels, and one with the label `other`
pub adds_all : (arcs : Arcs) (other : ℕ) (p : List Bool) (c : ℕ) (ts us vs : List Tree) (k : ℕ) (leaps : List Leap) → length arcs.labels.items ≤ k → AddsBelow arcs other p c ts us k → leaps ≡ leaps_by arcs other p → AddsTree us vs (Elem other c) leaps → AddsElements arcs other p c ts vs
adds_all arcs other p c ts us vs k leaps le below by adds = record {
  grows = grows-trans ts us vs below.grows adds.grows;
  stand = λ n h. elim h [
    | inl e ↦ subst (Stands vs) (by ∙ ap (λ i. leaps_by arcs i p) (sym e)) adds.stands
    | inr (j, at) ↦ stands-grows us vs (leaps_by arcs n p) adds.grows (below.stand j n (let l = slice_get_within arcs.labels.items j n at in omega (arith, l, le)) at)
  ];
  new = λ t h. elim (adds.new t h) [ inl old ↦ below.new t old | inr e ↦ inr (other, inl refl, e.0, e.1 ∙ by) ];
}
