-- What a look-up by number says of a name's place in a list.
use Rattle.std.proofs.Common.{◌≡◌, ◌≢◌, ◌==◌, ◌⊎◌, inl, inr, ℕ, zero, suc, ◌<◌, ◌↔◌, ◌||◌, Bool, true, false, cond, eqb, ltb, List, [], ◌∷◌, length, get_or, Option, Some, None, refl, sym, ap, ◌∙◌, arith}
use Rattle.std.specs.List.{position, slice_get, list_any, filter_map, cons_option}
use Rattle.std.specs.Option.{option_map}
use Rattle.std.proofs.lemmas.Bool.{eq-eqb, lt-ltb, false≢true, or_right}
use Rattle.std.proofs.lemmas.Bool.Decides.{eqb_tells}
use Rattle.std.proofs.lemmas.List.Sums.{position_or_len_is}
use Rattle.std.proofs.lemmas.Option.{slice_get-get_or, slice_get_within, get_or_from_slice_get}
use Rattle.flux_grammar.specs.NormalFaults.{is_among, unknown}
use Rattle.flux_grammar.specs.TypeOf.{named_by}
use Rattle.flux_schema.specs.Ty.{Ty, named}

-- what a look-up answers
abbrev pub Locates : List ℕ → ℕ → Option ℕ → Type 0
Locates names n r = (x : ℕ) → (r ≡ Some x) ↔ (slice_get names x ≡ Some n)

pub among_at : (names : List ℕ) (x n : ℕ) → slice_get names x ≡ Some n → is_among n names ≡ true
among_at [] x n e = absurd (cc)
among_at (m ∷ ms) zero n e = ap (λ b. b || is_among n ms) (eq-eqb m n (cc))
among_at (m ∷ ms) (suc x) n e = or_right (eqb m n) (is_among n ms) (among_at ms x n e)

not_here : (m n : ℕ) → ((eqb m n ≡ true) × (m ≡ n)) ⊎ ((eqb m n ≡ false) × (m ≢ n)) → (m ≡ n → ⊥) → eqb m n ≡ false
not_here m n (inl h) f = absurd (f h.1)
not_here m n (inr h) f = h.0

pub not_among : (names : List ℕ) (n : ℕ) → ((x : ℕ) → slice_get names x ≡ Some n → ⊥) → is_among n names ≡ false
not_among [] n f = refl
not_among (m ∷ ms) n f =
    ap (λ b. b || is_among n ms) (not_here m n (eqb_tells m n) (λ e. f zero (ap Some e))) ∙ not_among ms n (λ x h. f (suc x) h)

pub known_name : (names : List ℕ) (n place : ℕ) (r : Option ℕ) (x : ℕ) → Locates names n r → r ≡ Some x → unknown names (n, place) ≡ None
known_name names n place r x h e = ap (λ b. cond b None (Some place)) (among_at names x n ((h x).0 e))

pub unknown_name : (names : List ℕ) (n place : ℕ) (r : Option ℕ) → Locates names n r → r ≡ None → unknown names (n, place) ≡ Some place
unknown_name names n place r h e =
    ap (λ b. cond b None (Some place)) (not_among names n (λ x g. let f : r ≡ Some x = (h x).1 g in absurd (cc)))

cond_true : {A : Type 0} (b : Bool) (x y : A) → b ≡ true → cond b x y ≡ x
cond_true true x y e = refl
cond_true false x y e = absurd (cc)

-- the first place of a name
position_at : (names : List ℕ) (n x : ℕ) → slice_get names x ≡ Some n → ((k : ℕ) → k < x → slice_get names k ≡ Some n → ⊥) → position (λ m. m == n) names ≡ Some x
position_at names n x at least =
    let within : x < length names = slice_get_within names x n at in
    let here : (get_or names x 0 == n) ≡ true = eq-eqb (get_or names x 0) n (get_or_from_slice_get names x n 0 at) in
    let none : (k : ℕ) → k < x → (get_or names k 0 == n) ≡ false = λ k lt.
    not_here (get_or names k 0) n (eqb_tells (get_or names k 0) n) (λ s. least k lt (slice_get-get_or names k 0 (omega arith) ∙ ap Some s)) in
    let first = position_or_len_is (λ m. m == n) names x 0 (omega arith) none (λ _. here) in
    rw first (cond_true (ltb x (length names)) (Some x) None (lt-ltb x (length names) within))

pub position_located : (names : List ℕ) (n : ℕ) (r : Option ℕ) (x : ℕ) → Locates names n r → r ≡ Some x → position (λ m. m == n) names ≡ Some x
position_located names n r x h e =
    position_at names n x ((h x).0 e) (λ k lt at. let same : r ≡ Some k = (h k).1 at in let eq : x ≡ k = cc in absurd (omega (arith, eq, lt)))

pub named_located : (names : List ℕ) (n : ℕ) (r : Option ℕ) (x : ℕ) → Locates names n r → r ≡ Some x → named_by names n ≡ Some (named x)
named_located names n r x h e = ap (option_map named) (position_located names n r x h e)

abbrev FirstPlace : List ℕ → ℕ → Type 0
FirstPlace names n = (x : ℕ) × ((slice_get names x ≡ Some n) × ((k : ℕ) → k < x → slice_get names k ≡ Some n → ⊥))

later : (m n x : ℕ) (ms : List ℕ) → (m ≡ n → ⊥) → ((k : ℕ) → k < x → slice_get ms k ≡ Some n → ⊥) → (k : ℕ) → k < suc x → slice_get (m ∷ ms) k ≡ Some n → ⊥
later m n x ms differ least zero lt e = differ (cc)
later m n x ms differ least (suc k) lt e = least k (omega arith) e

none_below : (P : ℕ → Type 0) → (k : ℕ) → k < 0 → P k → ⊥
none_below P k lt p = absurd (omega (arith, lt))

first_place : (names : List ℕ) (n : ℕ) → is_among n names ≡ true → FirstPlace names n
first_place [] n e = absurd (false≢true e)
first_place (m ∷ ms) n e = by (eqb_tells m n) (first_place ms n)
  where
    by : ((eqb m n ≡ true) × (m ≡ n)) ⊎ ((eqb m n ≡ false) × (m ≢ n)) → (is_among n ms ≡ true → FirstPlace ms n) → FirstPlace (m ∷ ms) n
    by (inl h) _ = (zero, (ap Some h.1, none_below (λ k. slice_get (m ∷ ms) k ≡ Some n)))
    by (inr h) more =
        let rest = more (sym (ap (λ b. b || is_among n ms) h.0) ∙ e) in
        (suc rest.0, (rest.1.0, later m n rest.0 ms h.1 rest.1.1))

-- a name without a place is unknown
pub not_placed : (names : List ℕ) (n place : ℕ) → position (λ m. m == n) names ≡ None → filter_map (unknown names) ((n, place) ∷ []) ≡ [] → ⊥
not_placed names n place e f = by (is_among n names) refl
  where
    by : (b : Bool) → is_among n names ≡ b → ⊥
    by true h = let at = first_place names n h in let g = position_at names n at.0 at.1.0 at.1.1 in let none : Some at.0 ≡ None = sym g ∙ e in absurd (cc)
    by false h = let g : (place ∷ []) ≡ [] = sym (ap (λ b. cons_option (cond b None (Some place)) []) h) ∙ f in absurd (cc)
