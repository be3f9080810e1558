-- The search, from its beginning to its answer.
use Rattle.std.proofs.Common.{◌≡◌, ℕ, ◌<◌, ◌≤◌, List, [], ◌∷◌, length, Bool, true, false, Option, Some, None, slice_get, refl, sym, ap, subst, ◌∙◌, inl, inr, arith}
use Rattle.std.proofs.lemmas.List.{length-map}
use Rattle.flux_atom.specs.declared.atom.AtomKind.{AtomKind}
use Rattle.flux_atom.specs.declared.atom.AtomKind.TheVariants as kind
use Rattle.flux_trees.specs.Hedge.{Plain}
use Rattle.flux_trees.specs.Draft.{Draft, done}
use Rattle.flux_schema.proofs.MarkLaws.{le_or}
use Rattle.flux_auto.specs.declared.arcs.Arcs.{Arcs}
use Rattle.flux_auto.specs.declared.arcs.Leap.{Leap}
use Rattle.flux_auto.specs.declared.recipe.Recipe.{Recipe}
use Rattle.flux_auto.specs.declared.recipe.Recipe.TheVariants.{End, Elem}
use Rattle.flux_auto.specs.Takes.{State, has, takes, profile_nil}
use Rattle.flux_auto.specs.Going.{LacksEdge}
use Rattle.flux_auto.specs.Arcs.{IsIndex, leaps_at}
use Rattle.flux_auto.specs.Part.{IsPartOf}
use Rattle.flux_auto.specs.Witness.{forests, forest_at, AreOlder, IsShownBy}
use Rattle.flux_auto.proofs.ArcLaws.{atom_fires}
use Rattle.flux_auto.proofs.Items.{has-nil, get-push}
use Rattle.flux_auto.proofs.Meaning.{get_of-map}
use Rattle.flux_auto.proofs.Recipes.{forests_labelled}
use Rattle.flux_subtype.specs.declared.trees.Head.TheVariants.{Atom}
use Rattle.flux_subtype.specs.Kept.{Kept, recipes, forest_of, IsRecipeLabel, IsKeptLabel, AreKept, Grows, Keeps}
use Rattle.flux_subtype.specs.Search.{Tree, ByAtom, IsFound, IsAnswer, IsHeadLabel, IsUsed, LabelsGrow, MovesBy, AddsTree, IsDone, IsAgainst}
use Rattle.flux_subtype.proofs.KeptLaws.{grows-set_at, keeps_more}
use Rattle.flux_subtype.proofs.Turning.{stands-grows}
use Rattle.flux_subtype.proofs.CoverLaws.{all_covered, covered_right}

none_kept : (a : List State) → AreKept a []
none_kept a = record {
  older = λ i r e. absurd (let x : slice_get {X = Recipe} [] i ≡ slice_get {X = Recipe} [] i = refl in cc);
  profiles = λ i h. absurd (omega (arith, h));
}

-- trees that are the atoms of each kind, and the empty forest alone
pub record IsBegun (arcs : Arcs) (ks : List Kept) (t1 t2 t3 : List Tree) (bools texts numbers : List Leap) (p : List Bool) : Type 0 where
  pub for_bool : bools ≡ leaps_at arcs kind.Bool
  pub for_text : texts ≡ leaps_at arcs kind.Text
  pub for_int : numbers ≡ leaps_at arcs kind.Int
  pub one : AddsTree [] t1 (Atom kind.Bool) bools
  pub two : AddsTree t1 t2 (Atom kind.Text) texts
  pub three : AddsTree t2 t3 (Atom kind.Int) numbers
  pub kept : Keeps [] p End ks

pub begun : (a : List State) (arcs : Arcs) (ks : List Kept) (t1 t2 t3 : List Tree) (bools texts numbers : List Leap) (p : List Bool) → IsIndex a arcs → p ≡ profile_nil a → IsBegun arcs ks t1 t2 t3 bools texts numbers p → IsDone a ks t3 0
begun a arcs ks t1 t2 t3 bools texts numbers p is nothing b =
    let more = keeps_more a [] ks p End (none_kept a) tt nothing b.kept in
    record {
      kept = more.kept;
      trees = λ t h. elim (b.three.new t h) [
        | inr e ↦ atom kind.Int numbers b.for_int t e
        | inl older ↦ elim (b.two.new t older) [
          | inr e ↦ atom kind.Text texts b.for_text t e
          | inl old ↦ elim (b.one.new t old) [ inr e ↦ atom kind.Bool bools b.for_bool t e | inl none ↦ absurd (has-nil t none) ]
        ]
      ];
      first = (more.there.0, more.there.1, more.there.2 ∙ nothing);
      kinds = elim [
        | kind.Bool ↦ (bools, by kind.Bool bools b.for_bool, stands-grows t2 t3 bools b.three.grows (stands-grows t1 t2 bools b.two.grows b.one.stands))
        | kind.Text ↦ (texts, by kind.Text texts b.for_text, stands-grows t2 t3 texts b.three.grows b.two.stands)
        | kind.Int ↦ (numbers, by kind.Int numbers b.for_int, b.three.stands)
      ];
      labels = λ i l. absurd (omega (arith, l));
      answered = λ t i h l. absurd (omega (arith, l));
    }
  where
    by : (k : AtomKind) (leaps : List Leap) → leaps ≡ leaps_at arcs k → ByAtom a k leaps
    by k leaps e = subst (ByAtom a k) (sym e) (λ q. atom_fires a arcs k q is)

    -- a tree that is an atom of a kind
    atom : (k : AtomKind) (leaps : List Leap) → leaps ≡ leaps_at arcs k → (t : Tree) → (t.1 ≡ Atom k) × (t.0.items ≡ leaps) → MovesBy a ks t.1 t.0.items
    atom k leaps same t e = subst (λ head. MovesBy a ks head t.0.items) (sym e.0) (subst (ByAtom a k) (sym e.1) (by k leaps same))

-- the empty forest and atoms have no labels
pub none_used : (ks : List Kept) (t1 t2 t3 : List Tree) (bools texts numbers : List Leap) (p : List Bool) → AddsTree [] t1 (Atom kind.Bool) bools → AddsTree t1 t2 (Atom kind.Text) texts → AddsTree t2 t3 (Atom kind.Int) numbers → Keeps [] p End ks → (n : ℕ) → IsUsed ks t3 n → ⊥
none_used ks t1 t2 t3 bools texts numbers p one two three (inl (e, there)) n (inl (i, k, at, l)) = (let none : slice_get {X = Kept} [] i ≡ Some k = ap (λ x. slice_get x i) (sym e) ∙ at in cc)
none_used ks t1 t2 t3 bools texts numbers p one two three (inr e) n (inl (i, k, at, l)) = elim (get-push [] (p, End) i k (ap (λ y. slice_get y i) (sym e) ∙ at)) [
  | inl o ↦ (let none : slice_get {X = Kept} [] i ≡ Some k = o.1 in cc)
  | inr q ↦ subst (λ (z : Kept). IsRecipeLabel z.1 n) (sym q.1) l
]
none_used ks t1 t2 t3 bools texts numbers p one two three keeps n (inr (t, h, l)) = elim (three.new t h) [
  | inr e ↦ subst (λ head. IsHeadLabel head n) e.0 l
  | inl older ↦ elim (two.new t older) [
    | inr e ↦ subst (λ head. IsHeadLabel head n) e.0 l
    | inl old ↦ elim (one.new t old) [ inr e ↦ subst (λ head. IsHeadLabel head n) e.0 l | inl none ↦ has-nil t none ]
  ]
]

-- the profiles that were looked at, and those that are looked at now
pub next_seen : (ks ls : List Kept) (left right seen n : ℕ) → n ≡ length ks → Grows ks ls → ((i : ℕ) → i < seen → IsAgainst ks left right i → ⊥)
    → ((i : ℕ) → seen ≤ i → i < length ks → IsAgainst ks left right i → ⊥) → (i : ℕ) → i < n → IsAgainst ls left right i → ⊥
next_seen ks ls left right seen n f g old new i l against =
    let inside : i < length ks = omega (arith, l, f) in
    let was : IsAgainst ks left right i = subst (λ p. (has p left ≡ true) × (has p right ≡ false)) (grows-set_at ks ls i g inside) against in
    elim (le_or seen i) [
      | inr lt ↦ old i lt was
      | inl le ↦ new i le inside was
    ]

pub answered_none : (a : List State) (ks : List Kept) (ts : List Tree) (left right upto seen : ℕ) → IsDone a ks ts upto → length ks ≤ upto → upto ≤ seen → ((i : ℕ) → i < seen → IsAgainst ks left right i → ⊥)
    → (v : Plain) → takes a left v ≡ true → takes a right v ≡ true
answered_none a ks ts left right upto seen so_far le behind none v =
    covered_right a ks left right (λ i l. none i (omega (arith, l, le, behind))) v (all_covered a ks ts upto le so_far v)

-- the label of a recipe is that of a kept profile
kept_label : (ks : List Kept) (i n c r : ℕ) → slice_get (recipes ks) i ≡ Some (Elem n c r) → IsKeptLabel ks n
kept_label ks i n c r e = let q = get_of-map (λ (k : Kept). k.1) ks i (Elem n c r) e in (i, q.0, q.1, subst (λ f. IsRecipeLabel f n) q.2 refl)

-- what is found in the part answers for the whole: the right state takes all that the left one takes
pub none_answers : (a part : List State) (other : ℕ) (ks : List Kept) (left right : ℕ) (found : Option ℕ) → IsPartOf a (left ∷ right ∷ []) part → found ≡ None → IsFound part ks 0 1 found → IsAnswer a other left right None
none_answers a part other ks left right found same none f v t = sym (same.starts 1 right v refl) ∙ subst (IsFound part ks 0 1) none f v (same.starts 0 left v refl ∙ t)

-- no edge of the part is by an element with a label that the edges of the whole lack
pub lacks_part : (a part : List State) (firsts : List ℕ) (other : ℕ) → IsPartOf a firsts part → LacksEdge a other → LacksEdge part other
lacks_part a part firsts other same lacks s c r (st, at, (i, is)) =
    let (t, old, there, j, d, q, get) = same.labels other (s, st, at, i, c, r, is) in
    lacks t d q (old, there, (j, get))

-- or there is a kept profile against it, whose recipe may be followed
pub may_build : (part : List State) (ks : List Kept) (left right : ℕ) (found : Option ℕ) (place : ℕ) (rs : List Recipe) → found ≡ Some place → IsFound part ks left right found → rs ≡ recipes ks → AreOlder rs × (place < length rs)
may_build part ks left right found place rs is f same =
    let against = subst (IsFound part ks left right) is f in
    (subst AreOlder (sym same) against.0.older, (let l : place < length ks = against.1 in omega (arith, l, ap length same, length-map ks (λ (k : Kept). k.1))))

-- and its forest shows it
pub some_answers : (a part : List State) (other : ℕ) (k1 ks : List Kept) (t1 ts : List Tree) (left right : ℕ) (found : Option ℕ) (i : ℕ) (rs : List Recipe) (d : Draft (Unit {0})) → IsPartOf a (left ∷ right ∷ []) part → ((n : ℕ) → IsUsed k1 t1 n → ⊥)
    → LabelsGrow part other k1 t1 ks ts → found ≡ Some i → IsFound part ks 0 1 found → rs ≡ recipes ks → d ≡ done (forest_at (forests rs) i) → IsAnswer a other left right (Some d)
some_answers a part other k1 ks t1 ts left right found i rs d same none labels is f from whole = (
  forest_of ks i,
  whole ∙ ap (λ l. done (forest_at (forests l) i)) from,
  sym (same.starts 0 left (forest_of ks i) refl) ∙ ap (λ p. has p 0) (sym (kept.0.profiles i kept.1)) ∙ kept.2.0,
  sym (same.starts 1 right (forest_of ks i) refl) ∙ ap (λ p. has p 1) (sym (kept.0.profiles i kept.1)) ∙ kept.2.1,
  forests_labelled (IsShownBy a other) [] (recipes ks) (λ j. tt) (λ j n c r e. shown n (kept_label ks j n c r e)) i,
)
  where
    kept : IsFound part ks 0 1 (Some i)
    kept = subst (IsFound part ks 0 1) is f

    shown : (n : ℕ) → IsKeptLabel ks n → IsShownBy a other n
    shown n h = elim (labels n (inl h)) [
      | inl used ↦ absurd (none n used)
      | inr (inl is) ↦ inl is
      | inr (inr l) ↦ inr (same.labels n l)
    ]
