-- The names that are tried for a table are names, and differ: the table lacks one of the first.
use Rattle.std.proofs.Common.{◌≡◌, ◌≢◌, ℕ, zero, suc, ◌+◌, ◌%◌, ◌^◌, ◌<◌, ◌≤◌, Bool, true, false, List, [], ◌∷◌, ◌++◌, length, refl, sym, ap, subst, ◌∙◌, arith, append_assoc, bytes_eq, rules, slice_get, Some, ◌||◌}
use Rattle.std.specs.Cmp.{IsEquivalence}
use Rattle.std.specs.Fmt.{decimal}
use Rattle.std.specs.List.{list_any, AllByRecursion, AllPass, IsDistinct}
use Rattle.std.specs.Prelude.{codes, Result, Ok, Err, IfOk, OnOk}
use Rattle.std.specs.Set.{is_member}
use Rattle.std.proofs.lemmas.Bool.{false≢true}
use Rattle.std.proofs.lemmas.Bool.Decides.{nat_tests, same_from_decides}
use Rattle.std.proofs.lemmas.Fmt.{decimal_by_steps, decimal_injective, decimal_nonempty}
use Rattle.std.proofs.lemmas.List.{append_cancel_left}
use Rattle.std.proofs.lemmas.List.Elements.{All-push}
use Rattle.std.proofs.lemmas.Map.Keys.{IsDistinct-cons}
use Rattle.std.proofs.lemmas.Map.Made.{length-le_from_is_member}
use Rattle.std.proofs.lemmas.Slice.Eq.{bytes_eq-Decides}
use Rattle.flux_atom.specs.Fresh.{candidate, IsFresh}
use Rattle.flux_atom.specs.Names.{continues_name, IsName, IsTable, with_text}
use Rattle.flux_atom.proofs.ReservedLaws.{any-contains, contains-any}
use Rattle.flux_atom.proofs.Tables.{with_text-absent}

-- digits continue a name
digits_continue : (front : List ℕ) (n : ℕ) → n < 2 ^ 64 → AllPass continues_name front → AllPass continues_name (front ++ decimal n)
digits_continue front n small passes = decimal_by_steps (λ m ds. AllPass continues_name (front ++ ds)) one more n small
  where
    digit : (d : ℕ) → d < 10 → continues_name (48 + d) ≡ true
    digit d below = grind (arith, nat_tests)

    one : (m : ℕ) → m < 10 → AllPass continues_name (front ++ (48 + m) ∷ [])
    one m below = All-push (λ b. continues_name b ≡ true) front (48 + m) passes (digit m below)

    more : (m : ℕ) (ds : List ℕ) → 10 ≤ m → AllPass continues_name (front ++ ds) → AllPass continues_name (front ++ (ds ++ ((48 + m % 10) ∷ [])))
    more m ds large before =
        subst (AllPass continues_name) (append_assoc front ds ((48 + m % 10) ∷ [])) (All-push (λ b. continues_name b ≡ true) (front ++ ds) (48 + m % 10) before (digit (m % 10) (omega arith)))

pub candidate_is_name : (k : ℕ) → k < 2 ^ 64 → IsName (candidate k)
candidate_is_name zero small = (refl, search rules)
candidate_is_name (suc k) small = (refl, digits_continue (codes "ther") (suc k) small (search rules))

pub candidates_differ : (i j : ℕ) → i < 2 ^ 64 → j < 2 ^ 64 → candidate i ≡ candidate j → i ≡ j
candidates_differ zero zero p q e = refl
candidates_differ zero (suc j) p q e = let none = append_cancel_left (codes "other") [] (decimal (suc j)) e in absurd (omega (arith, decimal_nonempty (suc j) q, ap length none))
candidates_differ (suc i) zero p q e = let none = append_cancel_left (codes "other") (decimal (suc i)) [] e in absurd (omega (arith, decimal_nonempty (suc i) p, ap length none))
candidates_differ (suc i) (suc j) p q e = decimal_injective (suc i) (suc j) p q (append_cancel_left (codes "other") (decimal (suc i)) (decimal (suc j)) e)

bytes_equivalence : IsEquivalence bytes_eq
bytes_equivalence = record {
  refl = λ x. (bytes_eq-Decides x x).1 refl;
  symm = λ x y. same_from_decides (bytes_eq x y) (bytes_eq y x) (bytes_eq-Decides x y) (λ t. sym ((bytes_eq-Decides y x).0 t), λ e. (bytes_eq-Decides y x).1 (sym e));
  congr = λ x y z t. ap (λ w. bytes_eq w z) ((bytes_eq-Decides x y).0 t);
}

-- the first so many
abbrev candidates : ℕ → List (List ℕ)
candidates zero = []
candidates (suc k) = candidate k ∷ candidates k

length_candidates : (n : ℕ) → length (candidates n) ≡ n
length_candidates zero = refl
length_candidates (suc n) = ap suc (length_candidates n)

false_from : (a b : List ℕ) → a ≢ b → bytes_eq a b ≡ false
false_from a b differ = by (bytes_eq a b) refl
  where
    by : (t : Bool) → bytes_eq a b ≡ t → bytes_eq a b ≡ false
    by true e = absurd (differ ((bytes_eq-Decides a b).0 e))
    by false e = e

unlike_later : (k n : ℕ) → n ≤ k → k < 2 ^ 64 → AllByRecursion (λ y. bytes_eq (candidate k) y ≡ false) (candidates n)
unlike_later k zero below small = search rules
unlike_later k (suc n) below small = (false_from (candidate k) (candidate n) (λ e. absurd (omega (arith, candidates_differ k n small (omega arith) e))), unlike_later k n (omega arith) small)

candidates_distinct : (n : ℕ) → n ≤ 2 ^ 64 → IsDistinct bytes_eq (candidates n)
unfolding IsDistinct
candidates_distinct zero small = tt
candidates_distinct (suc n) small = IsDistinct-cons bytes_eq (candidate n) (candidates n) (unlike_later n n (omega arith) (omega arith)) (candidates_distinct n (omega arith))

candidates_held : (texts : List (List ℕ)) (n : ℕ) → ((k : ℕ) → k < n → list_any (bytes_eq (candidate k)) texts ≡ true) → (q : List ℕ) → is_member bytes_eq (candidates n) q ≡ true → is_member bytes_eq texts q ≡ true
candidates_held texts zero held q is = absurd (false≢true is)
candidates_held texts (suc n) held q is = by (bytes_eq q (candidate n)) refl (candidates_held texts n (λ k below. held k (omega arith)) q)
  where
    by : (t : Bool) → bytes_eq q (candidate n) ≡ t → (is_member bytes_eq (candidates n) q ≡ true → is_member bytes_eq texts q ≡ true) → is_member bytes_eq texts q ≡ true
    by true e later = subst (λ w. list_any (bytes_eq w) texts ≡ true) (sym ((bytes_eq-Decides q (candidate n)).0 e)) (held n (omega arith))
    by false e later = later (sym (ap (λ t. t || list_any (bytes_eq q) (candidates n)) e) ∙ is)

-- a table that has all of the first has at least as many texts
pub few_held : (texts : List (List ℕ)) (n : ℕ) → n ≤ 2 ^ 64 → ((k : ℕ) → k < n → list_any (bytes_eq (candidate k)) texts ≡ true) → n ≤ length texts
few_held texts n small held =
    omega (arith, length_candidates n, length-le_from_is_member bytes_equivalence (candidates n) texts (candidates_distinct n small) (candidates_held texts n held))

-- the first that a table lacks
pub is_fresh : (texts : List (List ℕ)) (text : List ℕ) (i : ℕ) → text ≡ candidate i → list_any (bytes_eq text) texts ≡ false → ((k : ℕ) → k < i → list_any (bytes_eq (candidate k)) texts ≡ true) → IsFresh texts text
is_fresh texts text i e absent held = record {
  number = i;
  is_candidate = e;
  lacked = λ h. false≢true (sym absent ∙ contains-any texts text h);
  first = λ k below. any-contains texts (candidate k) (held k below);
}

fresh_absent : (texts : List (List ℕ)) (text : List ℕ) → IsFresh texts text → list_any (bytes_eq text) texts ≡ false
fresh_absent texts text is = by (list_any (bytes_eq text) texts) refl
  where
    by : (t : Bool) → list_any (bytes_eq text) texts ≡ t → list_any (bytes_eq text) texts ≡ false
    by true e = absurd (is.lacked (any-contains texts text e))
    by false e = e

pub last_at : (texts : List (List ℕ)) (text : List ℕ) → slice_get (texts ++ text ∷ []) (length texts) ≡ Some text
last_at [] text = refl
last_at (t ∷ texts) text = last_at texts text

pub fresh_added : (old new : List (List ℕ)) (text : List ℕ) (name : ℕ) → IsFresh old text → new ≡ with_text old text → slice_get new name ≡ Some text → IsTable new → (t : List ℕ) × IsFresh old t × (new ≡ old ++ t ∷ []) × (name ≡ length old)
fresh_added old new text name is added place table =
    let pushed : new ≡ old ++ text ∷ [] = added ∙ sym (with_text-absent old text (fresh_absent old text is)) in
    let last : slice_get new (length old) ≡ Some text = ap (λ l. slice_get l (length old)) pushed ∙ last_at old text in
    (text, is, pushed, table.differ name (length old) text place last)

pub fresh_result : {E : Type 0} (r : Result ℕ E) (old new : List (List ℕ)) (text : List ℕ) → IsFresh old text → OnOk r (new ≡ with_text old text) → IfOk r (λ name. slice_get new name ≡ Some text) → IsTable new → IfOk r (λ name. (t : List ℕ) × IsFresh old t × (new ≡ old ++ t ∷ []) × (name ≡ length old))
fresh_result (Ok name) old new text is added place table = fresh_added old new text name is added place table
fresh_result (Err e) old new text is added place table = tt
