-- Forests that states take, told by recipes.
use Rattle.std.specs.Prelude.{◌≡◌, ◌⊎◌, ℕ, ◌<◌, ◌≤◌, List, [], ◌∷◌, ◌++◌, Bool, true, false, pos, Option, Some, None, length, map, slice_get, slice_index_or, option_and_then}
use Rattle.std.proofs.Common.{suc}
use Rattle.std.specs.Option.{option_map}
use Rattle.flux_atom.specs.declared.atom.Atom.{Atom as Value}
use Rattle.flux_atom.specs.declared.atom.Atom.TheVariants.{Bool as Truth, Text as Words, Int as Number}
use Rattle.flux_atom.specs.declared.atom.AtomKind.{AtomKind}
use Rattle.flux_atom.specs.declared.atom.AtomKind.TheVariants as kind
use Rattle.flux_trees.specs.Hedge.{Plain, nil, elem, leaf}
use Rattle.flux_trees.specs.Draft.{Draft, IsWhole, outer}
use Rattle.flux_trees.specs.Each.{EachLabel}
use Rattle.flux_auto.specs.declared.edge.Edge.{Edge}
use Rattle.flux_auto.specs.declared.edge.Edge.TheVariants as edge
use Rattle.flux_auto.specs.declared.table.Row.{Row}
use Rattle.flux_auto.specs.declared.recipe.Recipe.{Recipe}
use Rattle.flux_auto.specs.declared.recipe.Recipe.TheVariants.{End, Atom, Elem}
use Rattle.flux_auto.specs.declared.witness.Witnesses.{Witnesses}
use Rattle.flux_auto.specs.Takes.{State, takes}
use Rattle.flux_auto.specs.Built.{state_of}

-- an atom of a kind
abbrev pub sample : AtomKind → Value
sample kind.Bool = Truth false
sample kind.Text = Words []
sample kind.Int = Number (pos 0)

abbrev pub forest_at : List Plain → ℕ → Plain
forest_at hs i = slice_index_or hs i nil

-- the forest of a recipe, over those that were found before
abbrev pub made : List Plain → Recipe → Plain
made hs End = nil
made hs (Atom k j) = leaf tt (sample k) (forest_at hs j)
made hs (Elem n i j) = elem tt n (forest_at hs i) (forest_at hs j)

abbrev pub forests_after : List Plain → List Recipe → List Plain
forests_after hs [] = hs
forests_after hs (r ∷ rs) = forests_after (hs ++ made hs r ∷ []) rs

-- the forests of the recipes
abbrev pub forests : List Recipe → List Plain
forests rs = forests_after [] rs

-- the recipe names places below i
abbrev pub IsOlder : ℕ → Recipe → Type 0
IsOlder i End = Unit {0}
IsOlder i (Atom k j) = j < i
IsOlder i (Elem n a b) = (a < i) × (b < i)

abbrev pub AreOlder : List Recipe → Type 0
AreOlder rs = (i : ℕ) (r : Recipe) → slice_get rs i ≡ Some r → IsOlder i r

-- the place of a forest that a state takes
abbrev pub place : List (Option ℕ) → ℕ → Option ℕ
place places s = slice_index_or places s None

-- the recipe of an element with the label, whose content and rest have places
abbrev pub element_by : List (Option ℕ) → ℕ → ℕ → ℕ → Option Recipe
element_by places n c q =
    option_and_then (λ i. option_map (λ j. Elem n i j) (place places q)) (place places c)

-- the recipe of an edge whose states have places; an element of any label has the label `other`
abbrev pub recipe_by : ℕ → List (Option ℕ) → Edge → Option Recipe
recipe_by other places (edge.Atom k q) = option_map (λ j. Atom k j) (place places q)
recipe_by other places (edge.Elem n c q) = element_by places n c q
recipe_by other places (edge.AnyElem c q) = element_by places other c q

-- the recipe is of a state's end or of one of its edges
abbrev pub IsRecipe : Row → ℕ → List (Option ℕ) → Recipe → Type 0
IsRecipe row other places r = ((row.ends ≡ true) × (r ≡ End))
    ⊎ ((i : ℕ) × (e : Edge) × (slice_get row.edges.items i ≡ Some e)
    × (recipe_by other places e ≡ Some r))

-- a state doesn't end, and no edge has a recipe
abbrev pub Lacks : Row → ℕ → List (Option ℕ) → Type 0
Lacks row other places = (row.ends ≡ false)
    × ((i : ℕ) (e : Edge) → slice_get row.edges.items i ≡ Some e → recipe_by other places e ≡ None)

-- the edge is one of the state's
abbrev pub IsEdgeOf : List Row → ℕ → Edge → Type 0
IsEdgeOf rows s e = (row : Row) × (i : ℕ) × (slice_get rows s ≡ Some row)
    × (slice_get row.edges.items i ≡ Some e)

-- how many states have no place
abbrev pub unplaced : List (Option ℕ) → ℕ
unplaced [] = 0
unplaced (None ∷ places) = suc (unplaced places)
unplaced (Some i ∷ places) = unplaced places

-- an edge of a state is by an element with the label
abbrev pub IsEdgeLabel : List State → ℕ → Type 0
IsEdgeLabel states n =
    (s : ℕ) × (state : State) × (slice_get states s ≡ Some state)
    × (i : ℕ) × (c : ℕ) × (q : ℕ) × (slice_get state.edges i ≡ Some (edge.Elem n c q))

-- a label that is shown: `other`, or that of an edge
abbrev pub IsShownBy : List State → ℕ → ℕ → Type 0
IsShownBy states other n = (n ≡ other) ⊎ IsEdgeLabel states n

abbrev pub IsLabelled : List State → ℕ → Recipe → Type 0
IsLabelled states other End = Unit {0}
IsLabelled states other (Atom k j) = Unit {0}
IsLabelled states other (Elem n a b) = IsShownBy states other n

-- each state that has a place takes the forest there
pub record Knows (rows : List Row) (other : ℕ) (known : Witnesses) : Type 0 where
  pub len : length known.places.items ≡ length rows
  pub older : AreOlder known.recipes.items
  pub labels : (i : ℕ) (r : Recipe) → slice_get known.recipes.items i ≡ Some r
      → IsLabelled (map state_of rows) other r
  pub sound : (s i : ℕ) → place known.places.items s ≡ Some i → (i < length known.recipes.items)
      × (takes (map state_of rows) s (forest_at (forests known.recipes.items) i) ≡ true)

-- a state that has no place lacks a forest, as far as is known
abbrev pub SettledBelow : List Row → ℕ → List (Option ℕ) → ℕ → Type 0
SettledBelow rows other places n =
    (s : ℕ) (r : Row) → s < n → slice_get rows s ≡ Some r → place places s ≡ None
    → Lacks r other places

abbrev pub Settled : List Row → ℕ → List (Option ℕ) → Type 0
Settled rows other places = SettledBelow rows other places (length rows)

-- a state was tried, and whether it has a place now that had none
pub record Tried (rows : List Row) (other : ℕ) (old new : Witnesses) (s : ℕ) (more : Bool) :
    Type 0 where
  pub knows : Knows rows other new
  pub fewer : more ≡ true → unplaced new.places.items < unplaced old.places.items
  pub same : more ≡ false → new.places.items ≡ old.places.items
  pub lacks : more ≡ false → (r : Row) → slice_get rows s ≡ Some r → place new.places.items s ≡ None
      → Lacks r other new.places.items

-- the states below n were tried
pub record Round (rows : List Row) (other : ℕ) (old new : Witnesses) (n : ℕ) (more : Bool) :
    Type 0 where
  pub knows : Knows rows other new
  pub no_more : unplaced new.places.items ≤ unplaced old.places.items
  pub fewer : more ≡ true → unplaced new.places.items < unplaced old.places.items
  pub settled : more ≡ false → SettledBelow rows other new.places.items n

-- a forest that is whole and taken by the state, each label of which is `other` or that of an edge;
-- none where the state takes no forest
abbrev pub IsTakenBy : List State → ℕ → ℕ → Option (Draft (Unit {0})) → Type 0
IsTakenBy states other s (Some d) =
    IsWhole d × (takes states s (outer d) ≡ true) × EachLabel (IsShownBy states other) (outer d)
IsTakenBy states other s None = (v : Plain) → takes states s v ≡ false
