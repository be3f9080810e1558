-- What is kept stays kept, and forests stay what they are as more is kept.
use Rattle.std.proofs.Common.{◌≡◌, ◌⊎◌, ℕ, suc, ◌<◌, List, [], ◌∷◌, ◌++◌, length, Bool, true, false, cond, is_some, Some, slice_get, refl, sym, ap, ap₂, subst, ◌∙◌, rules, inl, inr, arith, length-append}
use Rattle.std.specs.Map.{lookup}
use Rattle.std.specs.Cmp.Lexicographic.{pointwise}
use Rattle.std.proofs.lemmas.Bool.{and_parts}
use Rattle.std.proofs.lemmas.List.{length-map, map-append}
use Rattle.std.proofs.lemmas.Option.{slice_get_within}
use Rattle.flux_auto.specs.declared.arcs.Leap.{Leap}
use Rattle.flux_auto.specs.declared.recipe.Recipe.{Recipe}
use Rattle.flux_auto.specs.contracts.arcs.LeapPartialEq.TheImpl.{eq-value}
use Rattle.flux_auto.specs.Takes.{State, profile}
use Rattle.flux_auto.specs.Witness.{made, forests, forest_at, IsOlder}
use Rattle.flux_auto.proofs.Items.{get-append, get-end, get-push, below_or_at, grows-refl, grows-get}
use Rattle.flux_auto.proofs.Meaning.{get-map, get_of-map}
use Rattle.flux_auto.proofs.Recipes.{forest-grows, forest-last}
use Rattle.flux_subtype.specs.Kept.{Kept, recipes, forest_of, set_of, set_at, AreKept, Grows, IsKept, Keeps}

-- ---- forests

forest_of-append : (ks ls : List Kept) (i : ℕ) → i < length ks → forest_of (ks ++ ls) i ≡ forest_of ks i
forest_of-append ks ls i h =
    ap (λ rs. forest_at (forests rs) i) (map-append (λ (k : Kept). k.1) ks ls) ∙ forest-grows (recipes ks) (recipes ls) i (omega (arith, h, length-map ks (λ (k : Kept). k.1)))

forest_of-last : (ks : List Kept) (k : Kept) → forest_of (ks ++ k ∷ []) (length ks) ≡ made (forests (recipes ks)) k.1
forest_of-last ks k =
    ap (λ rs. forest_at (forests rs) (length ks)) (map-append (λ (k : Kept). k.1) ks (k ∷ []))
    ∙ ap (forest_at (forests (recipes ks ++ k.1 ∷ []))) (sym (length-map ks (λ (k : Kept). k.1))) ∙ forest-last (recipes ks) k.1

-- ---- one more

set_at-append : (ks ls : List Kept) (i : ℕ) → i < length ks → set_at (ks ++ ls) i ≡ set_at ks i
set_at-append ks ls i h = ap set_of (get-append ks ls i h)

set_at-last : (ks : List Kept) (k : Kept) → set_at (ks ++ k ∷ []) (length ks) ≡ k.0
set_at-last ks k = ap set_of (get-end ks k [])

push : (a : List State) (ks : List Kept) (k : Kept) → AreKept a ks → IsOlder (length ks) k.1 → k.0 ≡ profile a (made (forests (recipes ks)) k.1) → AreKept a (ks ++ k ∷ [])
push a ks k are names is = record {
  older = λ i r e. let q = get_of-map (λ (k : Kept). k.1) (ks ++ k ∷ []) i r e in subst (IsOlder i) (sym q.2) (early i q.0 (get-push ks k i q.0 q.1));
  profiles = λ i h. right i (below_or_at i (length ks) (omega (arith, h, length-append ks (k ∷ []))));
}
  where
    early : (i : ℕ) (l : Kept) → ((i < length ks) × (slice_get ks i ≡ Some l)) ⊎ ((i ≡ length ks) × (k ≡ l)) → IsOlder i l.1
    early i l (inl h) = are.older i l.1 (get-map (λ (k : Kept). k.1) ks i l h.1)
    early i l (inr h) = subst (λ (m : Kept). IsOlder i m.1) h.1 (subst (λ n. IsOlder n k.1) (sym h.0) names)

    right : (i : ℕ) → (i < length ks) ⊎ (i ≡ length ks) → set_at (ks ++ k ∷ []) i ≡ profile a (forest_of (ks ++ k ∷ []) i)
    right i (inl h) = set_at-append ks (k ∷ []) i h ∙ are.profiles i h ∙ ap (profile a) (sym (forest_of-append ks (k ∷ []) i h))
    right i (inr e) = subst (λ n. set_at (ks ++ k ∷ []) n ≡ profile a (forest_of (ks ++ k ∷ []) n)) (sym e) (set_at-last ks k ∙ is ∙ ap (profile a) (sym (forest_of-last ks k)))

pub grows-set_at : (ks ls : List Kept) (i : ℕ) → Grows ks ls → i < length ks → set_at ls i ≡ set_at ks i
grows-set_at ks ls i g h = ap set_of (grows-get ks ls i g h)

-- what is kept after a profile was kept
pub record KeptMore (a : List State) (ks ls : List Kept) (p : List Bool) : Type 0 where
  pub kept : AreKept a ls
  pub grows : Grows ks ls
  pub there : IsKept ls p

pub keeps_more : (a : List State) (ks ls : List Kept) (p : List Bool) (from : Recipe) → AreKept a ks → IsOlder (length ks) from → p ≡ profile a (made (forests (recipes ks)) from) → Keeps ks p from ls → KeptMore a ks ls p
keeps_more a ks ls p from are names is (inl (e, there)) =
    record { kept = subst (AreKept a) (sym e) are; grows = subst (Grows ks) (sym e) (grows-refl ks); there = subst (λ l. IsKept l p) (sym e) there }
keeps_more a ks ls p from are names is (inr e) = record {
  kept = subst (AreKept a) (sym e) (push a ks (p, from) are names is);
  grows = ((p, from) ∷ [], e);
  there = (length ks, omega (arith, ap length e, length-append ks ((p, from) ∷ [])), ap (λ l. set_at l (length ks)) e ∙ set_at-last ks (p, from));
}

-- ---- entries of a table

-- an entry whose key is found
pub found_entry : {K V : Type 0} (eq : K → Bool) (es : List (K × V)) → is_some (lookup eq es) ≡ true → (i : ℕ) × (e : K × V) × (slice_get es i ≡ Some e) × (eq e.0 ≡ true)
found_entry eq [] h = absurd cc
found_entry {K} {V} eq (e ∷ es) h = by (eq e.0) refl h (λ g. found_entry eq es g)
  where
    by : (b : Bool) → eq e.0 ≡ b → is_some (cond b (Some e.1) (lookup eq es)) ≡ true → (is_some (lookup eq es) ≡ true → (i : ℕ) × (d : K × V) × (slice_get es i ≡ Some d) × (eq d.0 ≡ true)) → (i : ℕ) × (d : K × V) × (slice_get (e ∷ es) i ≡ Some d) × (eq d.0 ≡ true)
    by true is h rest = (0, e, refl, is)
    by false is h rest = let f = rest h in (suc f.0, f.1, f.2, f.3)

pub found_kept : (ks : List Kept) (p : List Bool) (i : ℕ) (k : Kept) → slice_get ks i ≡ Some k → p ≡ k.0 → IsKept ks p
found_kept ks p i k at e = (i, slice_get_within ks i k at, ap set_of at ∙ sym e)

same_leap : (x y : Leap) → eq-value.it x y ≡ true → x ≡ y
same_leap x y h = search rules

-- equal edges are the same
pub same_leaps : (xs ys : List Leap) → pointwise eq-value.it xs ys ≡ true → xs ≡ ys
same_leaps [] [] h = refl
same_leaps [] (y ∷ ys) h = cc
same_leaps (x ∷ xs) [] h = cc
same_leaps (x ∷ xs) (y ∷ ys) h = let p = and_parts (eq-value.it x y) (pointwise eq-value.it xs ys) h in ap₂ (λ a l. a ∷ l) (same_leap x y p.0) (same_leaps xs ys p.1)
