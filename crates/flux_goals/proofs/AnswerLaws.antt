-- What a decided goal says of types.
use Rattle.std.proofs.Common.{◌≡◌, ◌↔◌, ℕ, zero, suc, ◌+◌, ◌<◌, ◌≤◌, List, [], ◌∷◌, ◌++◌, length, ◌&&◌, Bool, true, false, Some, IfSome, All, Contains, slice_get, map, refl, sym, ap, ap₂, subst, ◌∙◌, inl, inr, arith}
use Rattle.std.proofs.lemmas.Option.{slice_get_within}
use Rattle.std.proofs.lemmas.List.Elements.{All-push}
use Rattle.flux_trees.specs.Hedge.{Plain}
use Rattle.flux_trees.specs.Draft.{Draft, done}
use Rattle.flux_trees.specs.Each.{EachLabel}
use Rattle.flux_schema.specs.Ty.{Ty}
use Rattle.flux_schema.specs.Tidy.{same}
use Rattle.flux_schema.specs.Definitions.{Definitions, IsKnown}
use Rattle.flux_schema.specs.Member.{Member, Included}
use Rattle.flux_schema.proofs.SameLaws.{same-eq}
use Rattle.flux_types.specs.Read.{ty_of}
use Rattle.flux_types.specs.Verdicts.{TypePair, IsEvidence}
use Rattle.flux_auto.specs.declared.recipe.Recipe.{Recipe}
use Rattle.flux_auto.specs.Takes.{State, takes}
use Rattle.flux_auto.specs.Automaton.{Automaton, TakesMembers, EdgesGiven}
use Rattle.flux_auto.specs.Witness.{IsShownBy, IsLabelled}
use Rattle.flux_auto.specs.declared.recipe.Recipe.TheVariants.{Elem}
use Rattle.flux_auto.proofs.Contents.{same-refl}
use Rattle.flux_auto.proofs.Recipes.{forests_labelled}
use Rattle.flux_auto.proofs.TwoTypes.{labelled_by, first_takes, second_takes}
use Rattle.flux_goals.specs.declared.pairs.Pair.{Pair}
use Rattle.flux_goals.specs.declared.table.Table.{Table}
use Rattle.flux_auto.specs.Going.{Has}
use Rattle.flux_goals.specs.Goals.{Shows, Holds, AllBelow}
use Rattle.flux_goals.specs.Table.{IsRight, shown_at}
use Rattle.flux_goals.specs.Known.{pair_of, IsIncludedPair}
use Rattle.flux_auto.proofs.Items.{some_is, below_or_at, has-nil, has-push}
use Rattle.flux_goals.proofs.GoalLaws.{both_values}

-- ---- a table at first

pub right_first : (a : List State) (other : ℕ) (t : Table) → t.goals.entries ≡ [] → t.shown.items ≡ [] → t.settled ≡ 0 → IsRight a other t
right_first a other t goals shown settled = record {
  table = record {
    older = λ i r e. absurd (nothing i r (sym (ap (λ l. slice_get l i) shown) ∙ e));
    labels = λ i r e. absurd (nothing i r (sym (ap (λ l. slice_get l i) shown) ∙ e));
    sound = λ i g m e f. absurd (nothing i g (sym (ap (λ l. slice_get l i) goals) ∙ e));
    inside = λ i g e. absurd (nothing i g (sym (ap (λ l. slice_get l i) goals) ∙ e));
  };
  settled = λ i g lt e none. absurd (nothing i g (sym (ap (λ l. slice_get l i) goals) ∙ e));
  inside = omega (arith, settled);
}
  where
    nothing : {X : Type 0} (i : ℕ) (x : X) → slice_get [] i ≡ Some x → ⊥
    nothing i x e = cc

alone : (r t : ℕ) → Has (r ∷ []) t → r ≡ t
alone r t h = elim (has-push [] r t h) [ inl p ↦ absurd (has-nil t p) | inr e ↦ e ]

pub one_below : (n r : ℕ) (S : List ℕ) → S ≡ r ∷ [] → r < n → AllBelow n S
one_below n r S is lt t h = subst (λ x. x < n) (alone r t (subst (λ l. Has l t) is h)) lt

-- ---- answers

holds_takes : (a : List State) (s r : ℕ) → Holds a s (r ∷ []) → (v : Plain) → takes a s v ≡ true → takes a r v ≡ true
holds_takes a s r holds v is = by (takes a r v) refl
  where
    by : (b : Bool) → takes a r v ≡ b → takes a r v ≡ true
    by true e = e
    by false e = absurd (holds v (record { taken = is; none = λ t h. subst (λ x. takes a x v ≡ false) (alone r t h) e }))

table_label : (a : List State) (other : ℕ) (shown : List Recipe) (i n c r : ℕ) → ((j : ℕ) (x : Recipe) → slice_get shown j ≡ Some x → IsLabelled a other x) → slice_get shown i ≡ Some (Elem n c r) → IsShownBy a other n
table_label a other shown i n c r labels at = labels i (Elem n c r) at

shown_labels : (a : List State) (other : ℕ) (shown : List Recipe) (m : ℕ) → ((j : ℕ) (x : Recipe) → slice_get shown j ≡ Some x → IsLabelled a other x) → EachLabel (IsShownBy a other) (shown_at shown m)
shown_labels a other shown m labels = forests_labelled (IsShownBy a other) [] shown (λ i. tt) (λ i n c r at. table_label a other shown i n c r labels at) m

-- a goal that holds
pub holds_included : (a : Automaton) (defs : Definitions) (t u : Ty) (i j s r : ℕ) (S : List ℕ) → a.types ≡ t ∷ u ∷ [] → a.definitions ≡ defs → i ≡ 0 → j ≡ 1 → IfSome (slice_get a.types i) (TakesMembers a s) → IfSome (slice_get a.types j) (TakesMembers a r) → S ≡ r ∷ [] → Holds a.states s S → Included defs t u
holds_included a defs t u i j s r S types same first second left right is holds v m =
    let in_left = first_takes a t u i s types first left in
    let in_right = second_takes a t u j r types second right in
    subst (λ ds. Member ds v u) same ((in_right v).0 (holds_takes a.states s r (subst (Holds a.states s) is holds) v ((in_left v).1 (subst (λ ds. Member ds v t) (sym same) m))))

-- a forest against a goal
pub shown_evidence : (a : Automaton) (defs : Definitions) (other : ℕ) (t u : Ty) (i j s r : ℕ) (S : List ℕ) (shown : List Recipe) (m : ℕ) (f : Draft (Unit {0})) → EdgesGiven a → a.types ≡ t ∷ u ∷ [] → a.definitions ≡ defs → i ≡ 0 → j ≡ 1
    → IfSome (slice_get a.types i) (TakesMembers a s) → IfSome (slice_get a.types j) (TakesMembers a r) → S ≡ r ∷ [] → ((k : ℕ) (x : Recipe) → slice_get shown k ≡ Some x → IsLabelled a.states other x) → Shows a.states s S (shown_at shown m) → f ≡ done (shown_at shown m)
    → IsEvidence defs other t u f
shown_evidence a defs other t u i j s r S shown m f given types same first second left right is labels against built =
    let in_left = first_takes a t u i s types first left in
    let in_right = second_takes a t u j r types second right in
    let v = shown_at shown m in
    let none = against.none r (subst (λ l. Has l r) (sym is) (0, refl)) in
    record {
      forest = v;
      whole = built;
      member = subst (λ ds. Member ds v t) same ((in_left v).0 against.taken);
      no_member = λ h. both_values (takes a.states r v) ((in_right v).1 (subst (λ ds. Member ds v u) (sym same) h)) none;
      labels = labelled_by a defs t u other v given types same (shown_labels a.states other shown m labels);
    }

-- ---- pairs

pub contains_has : (ps : List Pair) (q : TypePair) → Contains (map pair_of ps) q → (p : Pair) × Has ps p × (pair_of p ≡ q)
contains_has [] q h = absurd (let l = h.1 in omega (arith, l))
contains_has (p ∷ ps) q (zero, lt, e) = (p, (0, refl), e)
contains_has (p ∷ ps) q (suc k, lt, e) = let x = contains_has ps q (k, omega (arith, lt), e) in (x.0, (suc x.1.0, x.1.1), x.2)

pub has_contains : (ps : List Pair) (k : ℕ) (p : Pair) (q : TypePair) → slice_get ps k ≡ Some p → pair_of p ≡ q → Contains (map pair_of ps) q
has_contains [] k p q at e = cc
has_contains (x ∷ ps) zero p q at e = (0, omega arith, ap pair_of (some_is x p at) ∙ e)
has_contains (x ∷ ps) (suc k) p q at e = let c = has_contains ps k p q at e in (suc c.0, (let l = c.1 in omega (arith, l)), c.2)

pub none_known : (ps : List Pair) (n : ℕ) (p : Pair) (q : TypePair) → ((k : ℕ) (x : Pair) → k < n → slice_get ps k ≡ Some x → pair_of x ≡ q → ⊥) → slice_get ps n ≡ Some p → (pair_of p ≡ q → ⊥) → (k : ℕ) (x : Pair) → k < n + 1 → slice_get ps k ≡ Some x → pair_of x ≡ q → ⊥
none_known ps n p q before is ne k x lt at e = elim (below_or_at k n lt) [
  | inl below ↦ before k x below at e
  | inr same ↦ ne (ap pair_of (some_is p x (sym is ∙ ap (slice_get ps) (sym same) ∙ at)) ∙ e)
]

pub not_known : (ps : List Pair) (n : ℕ) (q : TypePair) → ((k : ℕ) (x : Pair) → k < n → slice_get ps k ≡ Some x → pair_of x ≡ q → ⊥) → length ps ≤ n → Contains (map pair_of ps) q → ⊥
not_known ps n q before le h =
    let x = contains_has ps q h in
    before x.1.0 x.0 (let l = slice_get_within ps x.1.0 x.0 x.1.1 in omega (arith, l, le)) x.1.1 x.2

two : {a b : Bool} → a ≡ true → b ≡ true → a && b ≡ true
two e f = ap₂ (λ a b. a && b) e f

pub pair_same : (p : Pair) (t u : Ty) (b : Bool) → b ≡ same (ty_of p.right) u → same (ty_of p.left) t ≡ true → (b ≡ true) ↔ (pair_of p ≡ (t, u))
pair_same p t u b is first = (
  (λ e. ap₂ (λ (x y : Ty). (x, y)) (same-eq (ty_of p.left) t first) (same-eq (ty_of p.right) u (sym is ∙ e))),
  (λ e. is ∙ subst (λ y. same (ty_of p.right) y ≡ true) (ap (λ (q : TypePair). q.1) e) (same-refl (ty_of p.right))),
)

pub pair_differs : (p : Pair) (t u : Ty) (b : Bool) → b ≡ same (ty_of p.left) t → b ≡ false → (b ≡ true) ↔ (pair_of p ≡ (t, u))
pair_differs p t u b is off = (
  (λ e. absurd (both_values b e off)),
  (λ e. is ∙ subst (λ y. same (ty_of p.left) y ≡ true) (ap (λ (q : TypePair). q.0) e) (same-refl (ty_of p.left))),
)

pub included_more : (defs : Definitions) (ps qs : List TypePair) (t u : Ty) → All (IsIncludedPair defs) ps → IsKnown defs t → IsKnown defs u → Included defs t u → qs ≡ ps ++ (t, u) ∷ [] → All (IsIncludedPair defs) qs
included_more defs ps qs t u before left right is e = subst (All (IsIncludedPair defs)) (sym e) (All-push (IsIncludedPair defs) ps (t, u) before ((left, right), is))
