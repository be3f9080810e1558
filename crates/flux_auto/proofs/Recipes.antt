-- The laws of recipes, and of the search for a forest of each state.
use Rattle.std.proofs.Common.{◌≡◌, ◌⊎◌, ℕ, zero, suc, ◌+◌, ◌<◌, ◌≤◌, List, [], ◌∷◌, ◌++◌, Bool, true, false, ◌&&◌, ◌||◌, ◌==◌, Option, Some, None, length, map, slice_get, option_and_then, refl, sym, ap, ap₂, subst, ◌∙◌, inl, inr, arith, append_assoc, length-append}
use Rattle.std.specs.List.{list_any}
use Rattle.std.specs.Option.{option_map, is_some}
use Rattle.std.proofs.lemmas.Bool.{eq-eqb}
use Rattle.std.proofs.Math.ListN.{set}
use Rattle.std.proofs.lemmas.List.{append-nil, length-set}
use Rattle.std.proofs.lemmas.Option.{slice_get_within}
use Rattle.std.specs.Cmp.Derive.{both_true as two}
use Rattle.std.proofs.lemmas.Map.Keys.{any_passes_from_place}
use Rattle.flux_atom.specs.declared.atom.AtomKind.{AtomKind}
use Rattle.flux_atom.specs.declared.atom.AtomKind.TheVariants as kind
use Rattle.flux_atom.specs.Atom.{kind_of}
use Rattle.flux_trees.specs.Hedge.{Plain, nil, elem, leaf}
use Rattle.flux_trees.specs.Draft.{Draft, done, IsWhole, outer}
use Rattle.flux_trees.specs.Each.{EachLabel}
use Rattle.flux_schema.specs.Tidy.{same_kind}
use Rattle.flux_schema.proofs.SameLaws.{same_kind-same}
use Rattle.flux_auto.specs.declared.edge.Edge.{Edge}
use Rattle.flux_auto.specs.declared.edge.Edge.TheVariants as edge
use Rattle.flux_auto.specs.declared.table.Row.{Row}
use Rattle.flux_auto.specs.declared.recipe.Recipe.{Recipe}
use Rattle.flux_auto.specs.declared.recipe.Recipe.TheVariants.{End, Atom, Elem}
use Rattle.flux_auto.specs.declared.witness.Witnesses.{Witnesses}
use Rattle.flux_auto.specs.Takes.{State, has, goes_by_element, goes_by_atom, profile, takes}
use Rattle.flux_auto.specs.Built.{state_of}
use Rattle.flux_auto.specs.Witness.{sample, forest_at, made, forests_after, forests, IsOlder, place, element_by, recipe_by, IsRecipe, unplaced, IsShownBy, IsLabelled, Knows, Settled, Tried, IsTakenBy}
use Rattle.flux_auto.proofs.Items.{some_is, get-append, get-end, split_at}
use Rattle.flux_auto.proofs.Growing.{below_or_not}
use Rattle.flux_auto.proofs.Meaning.{got, get-map, has-map}

-- ---- the forests of recipes

forests_after-append : (hs : List Plain) (rs qs : List Recipe) → forests_after hs (rs ++ qs) ≡ forests_after (forests_after hs rs) qs
forests_after-append hs [] qs = refl
forests_after-append hs (r ∷ rs) qs = forests_after-append (hs ++ made hs r ∷ []) rs qs

length-forests_after : (hs : List Plain) (rs : List Recipe) → length (forests_after hs rs) ≡ length hs + length rs
length-forests_after hs [] = omega arith
length-forests_after hs (r ∷ rs) = omega (arith, length-forests_after (hs ++ made hs r ∷ []) rs, length-append hs (made hs r ∷ []))

pub length-forests : (rs : List Recipe) → length (forests rs) ≡ length rs
length-forests rs = omega (arith, length-forests_after [] rs)

forests_after-more : (hs : List Plain) (rs : List Recipe) → (more : List Plain) × (forests_after hs rs ≡ hs ++ more)
forests_after-more hs [] = ([], sym (append-nil hs))
forests_after-more hs (r ∷ rs) =
    let p = forests_after-more (hs ++ made hs r ∷ []) rs in
    (made hs r ∷ p.0, p.1 ∙ append_assoc hs (made hs r ∷ []) p.0)

at_append : (hs gs : List Plain) (i : ℕ) → i < length hs → forest_at (hs ++ gs) i ≡ forest_at hs i
at_append [] gs i lt = absurd (omega (arith, lt))
at_append (h ∷ hs) gs zero lt = refl
at_append (h ∷ hs) gs (suc i) lt = at_append hs gs i (omega (arith, lt))

at_end : (hs : List Plain) (h : Plain) (gs : List Plain) → forest_at (hs ++ h ∷ gs) (length hs) ≡ h
at_end [] h gs = refl
at_end (g ∷ hs) h gs = at_end hs h gs

pub forest-grows : (rs qs : List Recipe) (i : ℕ) → i < length rs → forest_at (forests (rs ++ qs)) i ≡ forest_at (forests rs) i
forest-grows rs qs i lt =
    let p = forests_after-more (forests rs) qs in
    ap (λ l. forest_at l i) (forests_after-append [] rs qs ∙ p.1) ∙ at_append (forests rs) p.0 i (omega (arith, lt, length-forests rs))

pub forest-last : (rs : List Recipe) (r : Recipe) → forest_at (forests (rs ++ r ∷ [])) (length rs) ≡ made (forests rs) r
forest-last rs r =
    ap (λ l. forest_at l (length rs)) (forests_after-append [] rs (r ∷ [])) ∙ ap (forest_at (forests rs ++ made (forests rs) r ∷ [])) (sym (length-forests rs)) ∙ at_end (forests rs) (made (forests rs) r) []

made-grows : (rs qs : List Recipe) (r : Recipe) → IsOlder (length rs) r → made (forests (rs ++ qs)) r ≡ made (forests rs) r
made-grows rs qs End o = refl
made-grows rs qs (Atom k j) o = ap (leaf tt (sample k)) (forest-grows rs qs j o)
made-grows rs qs (Elem n a b) o = ap₂ (elem tt n) (forest-grows rs qs a o.0) (forest-grows rs qs b o.1)

-- the forest at a place is that of the recipe there
pub forest-made : (rs : List Recipe) (i : ℕ) (r : Recipe) → slice_get rs i ≡ Some r → IsOlder i r → forest_at (forests rs) i ≡ made (forests rs) r
forest-made rs i r e o =
    let p = split_at rs i r e in
    let whole : (p.0 ++ r ∷ []) ++ p.1 ≡ rs = append_assoc p.0 (r ∷ []) p.1 ∙ sym p.2 in
    let front : forest_at (forests rs) i ≡ made (forests p.0) r =
    ap (forest_at (forests rs)) (sym p.3) ∙ ap (λ l. forest_at (forests l) (length p.0)) (sym whole)
    ∙ forest-grows (p.0 ++ r ∷ []) p.1 (length p.0) (omega (arith, length-append p.0 (r ∷ []))) ∙ forest-last p.0 r in
    front ∙ sym (ap (λ l. made (forests l) r) p.2 ∙ made-grows p.0 (r ∷ p.1) r (subst (λ n. IsOlder n r) (sym p.3) o))

-- ---- what a recipe gives is taken

pub kind_of-sample : (k : AtomKind) → kind_of (sample k) ≡ k
kind_of-sample kind.Bool = refl
kind_of-sample kind.Text = refl
kind_of-sample kind.Int = refl

-- each place of an option
placed : (o : Option ℕ) → (o ≡ None) ⊎ ((i : ℕ) × (o ≡ Some i))
placed None = inl refl
placed (Some i) = inr (i, refl)

module _ (rows : List Row) (other : ℕ) (known : Witnesses) (k : Knows rows other known) where
  abbrev hs : List Plain
  hs = forests known.recipes.items

  abbrev states : List State
  states = map state_of rows

  -- the recipe is older than the next one, its label is one that is shown, and the state takes its
  -- forest
  abbrev Suits : ℕ → Recipe → Type 0
  Suits s r = IsOlder (length known.recipes.items) r × IsLabelled states other r × (takes states s (made hs r) ≡ true)

  by_atom : (s : ℕ) (row : Row) (i : ℕ) (a : AtomKind) (q j : ℕ) → slice_get rows s ≡ Some row → slice_get row.edges.items i ≡ Some (edge.Atom a q) → place known.places.items q ≡ Some j → Suits s (Atom a j)
  by_atom s row i a q j e f p =
      let sound = k.sound q j p in
      let test : goes_by_atom (kind_of (sample a)) (profile states (forest_at hs j)) (edge.Atom a q) ≡ true = two (ap (same_kind a) (kind_of-sample a) ∙ same_kind-same a) sound.1 in
      (sound.0, tt, has-map (λ st. list_any (goes_by_atom (kind_of (sample a)) (profile states (forest_at hs j))) st.edges) rows s row e ∙ any_passes_from_place (goes_by_atom (kind_of (sample a)) (profile states (forest_at hs j))) row.edges.items i (edge.Atom a q) f test)

  -- an edge by an element with the label n
  by_element : (s : ℕ) (row : Row) (x : ℕ) (edge : Edge) (n c q i j : ℕ) → slice_get rows s ≡ Some row → slice_get row.edges.items x ≡ Some edge → IsShownBy states other n
      → ((u v : List Bool) → has u c ≡ true → has v q ≡ true → goes_by_element n u v edge ≡ true) → place known.places.items c ≡ Some i → place known.places.items q ≡ Some j → Suits s (Elem n i j)
  by_element s row x edge n c q i j e f shown goes p r =
      let first = k.sound c i p in
      let rest = k.sound q j r in
      let test : goes_by_element n (profile states (forest_at hs i)) (profile states (forest_at hs j)) edge ≡ true = goes (profile states (forest_at hs i)) (profile states (forest_at hs j)) first.1 rest.1 in (
        (first.0, rest.0),
        shown,
        has-map (λ st. list_any (goes_by_element n (profile states (forest_at hs i)) (profile states (forest_at hs j))) st.edges) rows s row e
            ∙ any_passes_from_place (goes_by_element n (profile states (forest_at hs i)) (profile states (forest_at hs j))) row.edges.items x edge f test,
      )

  -- the recipe of an element
  element_taken : (s : ℕ) (row : Row) (x : ℕ) (edge : Edge) (n c q : ℕ) (r : Recipe) → slice_get rows s ≡ Some row → slice_get row.edges.items x ≡ Some edge → IsShownBy states other n
      → ((u v : List Bool) → has u c ≡ true → has v q ≡ true → goes_by_element n u v edge ≡ true) → element_by known.places.items n c q ≡ Some r → Suits s r
  element_taken s row x edge n c q r at get shown goes is =
      elim (placed (place known.places.items c)) [
        | inl e ↦ (let no_recipe : None ≡ Some r = ap (option_and_then (λ i. option_map (λ j. Elem n i j) (place known.places.items q))) (sym e) ∙ is in cc)
        | inr p ↦ elim (placed (place known.places.items q)) [
          | inl e ↦ (let no_recipe : None ≡ Some r = ap₂ (λ o l. option_and_then (λ i. option_map (λ j. Elem n i j) l) o) (sym p.1) (sym e) ∙ is in cc)
          | inr o ↦
              let same : Elem n p.0 o.0 ≡ r = some_is (Elem n p.0 o.0) r (ap₂ (λ o l. option_and_then (λ i. option_map (λ j. Elem n i j) l) o) (sym p.1) (sym o.1) ∙ is) in
              subst (Suits s) same (by_element s row x edge n c q p.0 o.0 at get shown goes p.1 o.1)
        ]
      ]

  edge_taken : (s : ℕ) (row : Row) (x : ℕ) (e : Edge) (r : Recipe) → slice_get rows s ≡ Some row → slice_get row.edges.items x ≡ Some e → recipe_by other known.places.items e ≡ Some r → Suits s r
  edge_taken s row x (edge.Atom a q) r at get is =
      elim (placed (place known.places.items q)) [
        | inl e ↦ (let no_recipe : None ≡ Some r = ap (option_map (λ j. Atom a j)) (sym e) ∙ is in cc)
        | inr p ↦
            let same : Atom a p.0 ≡ r = some_is (Atom a p.0) r (ap (option_map (λ j. Atom a j)) (sym p.1) ∙ is) in
            subst (Suits s) same (by_atom s row x a q p.0 at get p.1)
      ]
  edge_taken s row x (edge.Elem n c q) r at get is =
      element_taken s row x (edge.Elem n c q) n c q r at get (inr (s, state_of row, get-map state_of rows s row at, x, c, q, get)) (λ u v f g. two (eq-eqb n n refl) (two f g)) is
  edge_taken s row x (edge.AnyElem c q) r at get is = element_taken s row x (edge.AnyElem c q) other c q r at get (inl refl) (λ u v f g. two f g) is

  recipe_taken : (s : ℕ) (row : Row) (r : Recipe) → slice_get rows s ≡ Some row → IsRecipe row other known.places.items r → Suits s r
  recipe_taken s row r at (inl e) = subst (Suits s) (sym e.1) (tt, tt, has-map (λ st. st.ends) rows s row at ∙ e.0)
  recipe_taken s row r at (inr (x, e, get, is)) = edge_taken s row x e r at get is

-- ---- a state more has a place

unplaced-set : (places : List (Option ℕ)) (s i : ℕ) → s < length places → place places s ≡ None → unplaced (set places s (Some i)) + 1 ≡ unplaced places
unplaced-set [] s i lt e = absurd (omega (arith, lt))
unplaced-set (None ∷ places) zero i lt e = omega arith
unplaced-set (Some j ∷ places) zero i lt e = cc
unplaced-set (None ∷ places) (suc s) i lt e = omega (arith, unplaced-set places s i (omega (arith, lt)) e)
unplaced-set (Some j ∷ places) (suc s) i lt e = unplaced-set places s i (omega (arith, lt)) e

place-set : (places : List (Option ℕ)) (s i t j : ℕ) → place (set places s (Some i)) t ≡ Some j → ((t ≡ s) × (j ≡ i)) ⊎ (place places t ≡ Some j)
place-set [] s i t j e = inr e
place-set (o ∷ places) zero i zero j e = (let same : i ≡ j = cc in inl (refl, sym same))
place-set (o ∷ places) zero i (suc t) j e = inr e
place-set (o ∷ places) (suc s) i zero j e = inr e
place-set (o ∷ places) (suc s) i (suc t) j e = elim (place-set places s i t j e) [ inl p ↦ inl (ap suc p.0, p.1) | inr h ↦ inr h ]

pub tried_found : (rows : List Row) (other : ℕ) (old new : Witnesses) (s : ℕ) (row : Row) (r : Recipe) → Knows rows other old → s < length rows → slice_get rows s ≡ Some row → place old.places.items s ≡ None → IsRecipe row other old.places.items r
    → new.recipes.items ≡ old.recipes.items ++ r ∷ [] → new.places.items ≡ set old.places.items s (Some (length old.recipes.items)) → Tried rows other old new s true
tried_found rows other old new s row r k lt at bare is e f =
    let n = length old.recipes.items in
    let taken = recipe_taken rows other old k s row r at is in
    let in_places : s < length old.places.items = omega (arith, lt, k.len) in
    record {
      knows = record {
        len = ap length f ∙ length-set old.places.items s (Some n) ∙ k.len;
        older = λ i q g.
            let get : slice_get (old.recipes.items ++ r ∷ []) i ≡ Some q = ap (λ l. slice_get l i) (sym e) ∙ g in
            elim (below_or_not i n) [
              | inl l ↦ k.older i q (sym (get-append old.recipes.items (r ∷ []) i l) ∙ get)
              | inr l ↦
                  let here : i ≡ n = omega (arith, l, slice_get_within (old.recipes.items ++ r ∷ []) i q get, length-append old.recipes.items (r ∷ [])) in
                  let same : r ≡ q = some_is r q (sym (get-end old.recipes.items r []) ∙ ap (slice_get (old.recipes.items ++ r ∷ [])) (sym here) ∙ get) in
                  subst (λ j. IsOlder j q) (sym here) (subst (IsOlder n) same taken.0)
            ];
        labels = λ i q g.
            let get : slice_get (old.recipes.items ++ r ∷ []) i ≡ Some q = ap (λ l. slice_get l i) (sym e) ∙ g in
            elim (below_or_not i n) [
              | inl l ↦ k.labels i q (sym (get-append old.recipes.items (r ∷ []) i l) ∙ get)
              | inr l ↦
                  let here : i ≡ n = omega (arith, l, slice_get_within (old.recipes.items ++ r ∷ []) i q get, length-append old.recipes.items (r ∷ [])) in
                  let same : r ≡ q = some_is r q (sym (get-end old.recipes.items r []) ∙ ap (slice_get (old.recipes.items ++ r ∷ [])) (sym here) ∙ get) in
                  subst (IsLabelled (map state_of rows) other) same taken.1
            ];
        sound = λ t i g.
            let size : length new.recipes.items ≡ n + 1 = ap length e ∙ length-append old.recipes.items (r ∷ []) in
            elim (place-set old.places.items s n t i (ap (λ l. place l t) (sym f) ∙ g)) [
              | inl p ↦ (
                omega (arith, p.1, size),
                ap₂ (λ j x. takes (map state_of rows) j (forest_at (forests new.recipes.items) x)) p.0 p.1 ∙ ap (λ l. takes (map state_of rows) s (forest_at (forests l) n)) e ∙ ap (takes (map state_of rows) s) (forest-last old.recipes.items r) ∙ taken.2,
              )
              | inr h ↦
                  let before = k.sound t i h in (
                    omega (arith, before.0, size),
                    ap (λ l. takes (map state_of rows) t (forest_at (forests l) i)) e ∙ ap (takes (map state_of rows) t) (forest-grows old.recipes.items (r ∷ []) i before.0) ∙ before.1,
                  )
            ];
      };
      fewer = λ _. omega (arith, ap unplaced f, unplaced-set old.places.items s n in_places bare);
      same = λ h. cc;
      lacks = λ h. cc;
    }

-- ---- rounds

-- ---- nothing is left out

none_any : {A : Type 0} (p : A → Bool) (xs : List A) → ((i : ℕ) (x : A) → slice_get xs i ≡ Some x → p x ≡ false) → list_any p xs ≡ false
none_any p [] f = refl
none_any p (x ∷ xs) f = ap₂ (λ a b. a || b) (f 0 x refl) (none_any p xs (λ i y e. f (suc i) y e))

not_left : (a b : Bool) → a ≡ false → a && b ≡ false
not_left false b e = refl
not_left true b e = cc

not_right : (a b : Bool) → b ≡ false → a && b ≡ false
not_right false b e = refl
not_right true b e = e

has-past : (f : State → Bool) (rows : List Row) (s : ℕ) → length rows ≤ s → has (map f (map state_of rows)) s ≡ false
has-past f [] s le = refl
has-past f (r ∷ rows) zero le = absurd (omega (arith, le))
has-past f (r ∷ rows) (suc s) le = has-past f rows s (omega (arith, le))

module _ (rows : List Row) (other : ℕ) (places : List (Option ℕ)) (settled : Settled rows other places) where
  -- a state that has no place takes no forest
  abbrev Untaken : Plain → Type 0
  Untaken v = (s : ℕ) → place places s ≡ None → takes (map state_of rows) s v ≡ false

  atom_untaken : (k : AtomKind) (q : List Bool) → ((s : ℕ) → place places s ≡ None → has q s ≡ false) → (e : Edge) → recipe_by other places e ≡ None → goes_by_atom k q e ≡ false
  atom_untaken k q f (edge.Elem n c r) e = refl
  atom_untaken k q f (edge.AnyElem c r) e = refl
  atom_untaken k q f (edge.Atom a r) e =
      elim (placed (place places r)) [
        | inl bare ↦ not_right (same_kind a k) (has q r) (f r bare)
        | inr p ↦ (let x : Some (Atom a p.0) ≡ None = ap (option_map (λ j. Atom a j)) (sym p.1) ∙ e in cc)
      ]

  -- the content or the rest has no place
  parts_untaken : (n c r : ℕ) (p q : List Bool) → ((s : ℕ) → place places s ≡ None → has p s ≡ false) → ((s : ℕ) → place places s ≡ None → has q s ≡ false) → element_by places n c r ≡ None → has p c && has q r ≡ false
  parts_untaken n c r p q f g e =
      elim (placed (place places c)) [
        | inl bare ↦ not_left (has p c) (has q r) (f c bare)
        | inr i ↦ elim (placed (place places r)) [
          | inl bare ↦ not_right (has p c) (has q r) (g r bare)
          | inr j ↦ (let x : Some (Elem n i.0 j.0) ≡ None = ap₂ (λ o l. option_and_then (λ i. option_map (λ j. Elem n i j) l) o) (sym i.1) (sym j.1) ∙ e in cc)
        ]
      ]

  element_untaken : (n : ℕ) (p q : List Bool) → ((s : ℕ) → place places s ≡ None → has p s ≡ false) → ((s : ℕ) → place places s ≡ None → has q s ≡ false) → (e : Edge) → recipe_by other places e ≡ None → goes_by_element n p q e ≡ false
  element_untaken n p q f g (edge.Atom a r) e = refl
  element_untaken n p q f g (edge.Elem m c r) e = not_right (m == n) (has p c && has q r) (parts_untaken m c r p q f g e)
  element_untaken n p q f g (edge.AnyElem c r) e = parts_untaken other c r p q f g e

  tree_untaken : (test : Edge → Bool) → ((e : Edge) → recipe_by other places e ≡ None → test e ≡ false) → (s : ℕ) → place places s ≡ None → has (map (λ st. list_any test st.edges) (map state_of rows)) s ≡ false
  tree_untaken test f s bare =
      elim (below_or_not s (length rows)) [
        | inr le ↦ has-past (λ st. list_any test st.edges) rows s le
        | inl lt ↦
            let r = got rows s lt in
            let lacks = settled s r.0 lt r.1 bare in
            has-map (λ st. list_any test st.edges) rows s r.0 r.1 ∙ none_any test r.0.edges.items (λ i e g. f e (lacks.1 i e g))
      ]

  pub untaken : (v : Plain) → Untaken v
  untaken nil s bare =
      elim (below_or_not s (length rows)) [
        | inr le ↦ has-past (λ st. st.ends) rows s le
        | inl lt ↦ let r = got rows s lt in has-map (λ st. st.ends) rows s r.0 r.1 ∙ (settled s r.0 lt r.1 bare).0
      ]
  untaken (elem _ n c r) s bare =
      tree_untaken (goes_by_element n (profile (map state_of rows) c) (profile (map state_of rows) r)) (element_untaken n (profile (map state_of rows) c) (profile (map state_of rows) r) (untaken c) (untaken r)) s bare
  untaken (leaf _ x r) s bare =
      tree_untaken (goes_by_atom (kind_of x) (profile (map state_of rows) r)) (atom_untaken (kind_of x) (profile (map state_of rows) r) (untaken r)) s bare

pub bare_of : (o : Option ℕ) → is_some o ≡ false → o ≡ None
bare_of None e = refl
bare_of (Some i) e = cc

-- the labels of the forests are those of their recipes
pub forests_labelled : (P : ℕ → Type 0) (hs : List Plain) (rs : List Recipe) → ((i : ℕ) → EachLabel P (forest_at hs i)) → ((i n a b : ℕ) → slice_get rs i ≡ Some (Elem n a b) → P n) → (i : ℕ) → EachLabel P (forest_at (forests_after hs rs) i)
forests_labelled P _ [] old f = old
forests_labelled P hs (r ∷ rs) old f = forests_labelled P (hs ++ made hs r ∷ []) rs (more hs (made hs r) old (made_labelled r (λ n a b e. f 0 n a b (ap Some e)))) (λ i n a b e. f (suc i) n a b e)
  where
    made_labelled : (r : Recipe) → ((n a b : ℕ) → r ≡ Elem n a b → P n) → EachLabel P (made hs r)
    made_labelled End g = tt
    made_labelled (Atom k j) g = old j
    made_labelled (Elem n a b) g = (g n a b refl, old a, old b)

    more : (gs : List Plain) (h : Plain) → ((i : ℕ) → EachLabel P (forest_at gs i)) → EachLabel P h → (i : ℕ) → EachLabel P (forest_at (gs ++ h ∷ []) i)
    more [] h g each zero = each
    more [] h g each (suc i) = tt
    more (x ∷ gs) h g each zero = g 0
    more (x ∷ gs) h g each (suc i) = more gs h (λ j. g (suc j)) each i

-- a state that has a place takes the forest there
pub taken_at : (rows : List Row) (other : ℕ) (known : Witnesses) (s i : ℕ) (made : Draft (Unit {0})) → Knows rows other known → place known.places.items s ≡ Some i → made ≡ done (forest_at (forests known.recipes.items) i) → IsTakenBy (map state_of rows) other s (Some made)
taken_at rows other known s i made k e f =
    subst (λ m. IsWhole m × (takes (map state_of rows) s (outer m) ≡ true) × EachLabel (IsShownBy (map state_of rows) other) (outer m)) (sym f)
    (tt, (k.sound s i e).1, forests_labelled (IsShownBy (map state_of rows) other) [] known.recipes.items (λ j. tt) (λ j n a b g. k.labels j (Elem n a b) g) i)
