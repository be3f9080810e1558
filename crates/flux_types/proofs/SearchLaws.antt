-- The laws of the search for the names that a name reaches.
use Rattle.std.proofs.Common.{◌≡◌, ◌⊎◌, ◌<◌, ◌+◌, ◌++◌, ◌↔◌, ℕ, zero, suc, List, [], ◌∷◌, Option, Some, Bool, true, false, length, get_or, replicate, refl, sym, ap, subst, ◌∙◌, inl, inr, arith}
use Rattle.std.proofs.lemmas.Option.{same_Some}
use Rattle.std.proofs.Math.ListN.{set}
use Rattle.flux_schema.specs.Ty.{Ty, empty, atom, element, any_element, seq, alt, star, named, NamesBelow}
use Rattle.flux_schema.specs.Definitions.{StandsIn, Leads, Reaches, at_once, through}
use Rattle.flux_schema.specs.Marks.{IsMarked}
use Rattle.flux_schema.proofs.MarkLaws.{marked-set, set-marked, set-kept, unmarked-set, none_marked}
use Rattle.flux_schema.proofs.Ranks.{reaches_on}
use Rattle.flux_types.specs.Search.{IsAmong, Visits}

-- ---- lists

pub among_push : (y : ℕ) (xs : List ℕ) (x : ℕ) → IsAmong y (xs ++ x ∷ []) → IsAmong y xs ⊎ (y ≡ x)
among_push y [] x (inl e) = inr e
among_push y [] x (inr h) = absurd h
among_push y (z ∷ xs) x (inl e) = inl (inl e)
among_push y (z ∷ xs) x (inr h) = elim (among_push y xs x h) [ inl k ↦ inl (inr k) | inr e ↦ inr e ]

pub among_before : (y : ℕ) (xs : List ℕ) (x : ℕ) → IsAmong y xs → IsAmong y (xs ++ x ∷ [])
among_before y [] x h = absurd h
among_before y (z ∷ xs) x (inl e) = inl e
among_before y (z ∷ xs) x (inr h) = inr (among_before y xs x h)

pub among_last : (xs : List ℕ) (x : ℕ) → IsAmong x (xs ++ x ∷ [])
among_last [] x = inl refl
among_last (z ∷ xs) x = inr (among_last xs x)

length-push : (xs : List ℕ) (x : ℕ) → length (xs ++ x ∷ []) ≡ length xs + 1
length-push [] x = refl
length-push (y ∷ xs) x = omega (arith, length-push xs x)

-- ---- visits

pub visits_new : (i : ℕ) (marks : List Bool) (waiting waiting' : List ℕ) → i < length marks → get_or marks i false ≡ false → waiting' ≡ waiting ++ i ∷ [] → Visits (named i) marks (set marks i true) waiting waiting'
visits_new i marks waiting waiting' lt new e = record {
  kept = λ y m. set-kept marks i y m;
  reached = λ y s. subst (IsMarked (set marks i true)) (sym s) (set-marked marks i lt);
  waits = λ y m. elim (marked-set marks i y m) [
    | inl s ↦ inr (subst (IsAmong y) (sym e) (subst (λ z. IsAmong z (waiting ++ i ∷ [])) (sym s) (among_last waiting i)))
    | inr k ↦ inl k
  ];
  still = λ y m. subst (IsAmong y) (sym e) (among_before y waiting i m);
  only = λ y m. among_push y waiting i (subst (IsAmong y) e m);
  work = omega (arith, unmarked-set marks i lt new, length-push waiting i, ap length e);
}

pub visits_seq : (t u : Ty) (marks marks' marks'' : List Bool) (waiting waiting' waiting'' : List ℕ) → Visits t marks marks' waiting waiting' → Visits u marks' marks'' waiting' waiting'' → Visits (seq t u) marks marks'' waiting waiting''
visits_seq t u marks marks' marks'' waiting waiting' waiting'' a b = record {
  kept = λ y m. b.kept y (a.kept y m);
  reached = λ y s. elim s as (λ _. IsMarked marks'' y) [ inl p ↦ b.kept y (a.reached y p) | inr p ↦ b.reached y p ];
  waits = λ y m. elim (b.waits y m) [
    | inl p ↦ elim (a.waits y p) [ inl q ↦ inl q | inr q ↦ inr (b.still y q) ]
    | inr p ↦ inr p
  ];
  still = λ y m. b.still y (a.still y m);
  only = λ y m. elim (b.only y m) [
    | inl p ↦ elim (a.only y p) [ inl q ↦ inl q | inr q ↦ inr (inl q) ]
    | inr p ↦ inr (inr p)
  ];
  work = b.work ∙ a.work;
}

pub visits_alt : (t u : Ty) (marks marks' marks'' : List Bool) (waiting waiting' waiting'' : List ℕ) → Visits t marks marks' waiting waiting' → Visits u marks' marks'' waiting' waiting'' → Visits (alt t u) marks marks'' waiting waiting''
visits_alt t u marks marks' marks'' waiting waiting' waiting'' a b =
    let v = visits_seq t u marks marks' marks'' waiting waiting' waiting'' a b in
    record { kept = v.kept; reached = v.reached; waits = v.waits; still = v.still; only = v.only; work = v.work }

pub visits_star : (t : Ty) (marks marks' : List Bool) (waiting waiting' : List ℕ) → Visits t marks marks' waiting waiting' → Visits (star t) marks marks' waiting waiting'
visits_star t marks marks' waiting waiting' v =
    record { kept = v.kept; reached = v.reached; waits = v.waits; still = v.still; only = v.only; work = v.work }

pub visits_as : (t u : Ty) (marks marks' : List Bool) (waiting waiting' : List ℕ) → t ≡ u → Visits u marks marks' waiting waiting' → Visits t marks marks' waiting waiting'
visits_as t u marks marks' waiting waiting' e v = subst (λ s. Visits s marks marks' waiting waiting') (sym e) v

-- ---- a search from the name x

-- what is marked is reached from x, what waits is marked and below n, and the names that another
-- marked name leads to are marked
pub record Searches (bodies : ℕ → Option Ty) (n x : ℕ) (marks : List Bool) (waiting : List ℕ) : Type 0 where
  pub length_is : length marks ≡ n
  pub sound : (y : ℕ) → IsMarked marks y → Reaches bodies x y
  pub sound_waiting : (y : ℕ) → IsAmong y waiting → Reaches bodies x y
  pub below : (y : ℕ) → IsAmong y waiting → y < n
  pub begun : (y : ℕ) → Leads bodies x y → IsMarked marks y
  pub done : (y : ℕ) → IsMarked marks y → IsAmong y waiting ⊎ ((z : ℕ) → Leads bodies y z → IsMarked marks z)

stands_below : (n : ℕ) (t : Ty) (y : ℕ) → NamesBelow n t → StandsIn y t → y < n
stands_below n empty y b s = absurd s
stands_below n (atom k) y b s = absurd s
stands_below n (element m t) y b s = absurd s
stands_below n (any_element t) y b s = absurd s
stands_below n (seq t u) y b (inl s) = stands_below n t y b.0 s
stands_below n (seq t u) y b (inr s) = stands_below n u y b.1 s
stands_below n (alt t u) y b (inl s) = stands_below n t y b.0 s
stands_below n (alt t u) y b (inr s) = stands_below n u y b.1 s
stands_below n (star t) y b s = stands_below n t y b s
stands_below n (named x) y b s = subst (λ z. z < n) (sym s) b

-- the body that a name leads by is its body
pub leads_by : (bodies : ℕ → Option Ty) (x y : ℕ) (t : Ty) → bodies x ≡ Some t → Leads bodies x y → StandsIn y t
leads_by bodies x y t e (u, f, s) = subst (StandsIn y) (same_Some u t (sym f ∙ e)) s

pub searches_init : (bodies : ℕ → Option Ty) (n x : ℕ) (t : Ty) (start marks : List Bool) (none waiting : List ℕ) → bodies x ≡ Some t → NamesBelow n t → start ≡ replicate n false → none ≡ [] → length marks ≡ n → Visits t start marks none waiting → Searches bodies n x marks waiting
searches_init bodies n x t start marks none waiting e b is_start is_none len v =
    let start_bare : (y : ℕ) → IsMarked start y → ⊥ = λ y m. none_marked n y (subst (λ l. IsMarked l y) is_start m) in
    let none_bare : (y : ℕ) → IsAmong y none → ⊥ = λ y m. subst (IsAmong y) is_none m in
    let stands : (y : ℕ) → IsAmong y waiting → StandsIn y t = λ y m. elim (v.only y m) [ inl k ↦ absurd (none_bare y k) | inr s ↦ s ] in
    let waits : (y : ℕ) → IsMarked marks y → IsAmong y waiting = λ y m. elim (v.waits y m) [ inl k ↦ absurd (start_bare y k) | inr k ↦ k ] in
    record {
      length_is = len;
      sound = λ y m. at_once (t, e, stands y (waits y m));
      sound_waiting = λ y m. at_once (t, e, stands y m);
      below = λ y m. stands_below n t y b (stands y m);
      begun = λ y l. v.reached y (leads_by bodies x y t e l);
      done = λ y m. inl (waits y m);
    }

pub searches_next : (bodies : ℕ → Option Ty) (n x y : ℕ) (t : Ty) (marks marks' : List Bool) (before waiting waiting' : List ℕ)
    → Searches bodies n x marks before → before ≡ waiting ++ y ∷ [] → bodies y ≡ Some t → NamesBelow n t → length marks' ≡ n → Visits t marks marks' waiting waiting' → Searches bodies n x marks' waiting'
searches_next bodies n x y t marks marks' before waiting waiting' s e is b len v =
    let was : (z : ℕ) → IsAmong z waiting → IsAmong z before = λ z m. subst (IsAmong z) (sym e) (among_before z waiting y m) in
    let here : Reaches bodies x y = s.sound_waiting y (subst (IsAmong y) (sym e) (among_last waiting y)) in
    let on : (z : ℕ) → StandsIn z t → Reaches bodies x z = λ z h. reaches_on z here (t, is, h) in
    let sound_waiting : (z : ℕ) → IsAmong z waiting' → Reaches bodies x z = λ z m. elim (v.only z m) [ inl k ↦ s.sound_waiting z (was z k) | inr h ↦ on z h ] in
    record {
      length_is = len;
      sound = λ z m. elim (v.waits z m) [ inl k ↦ s.sound z k | inr k ↦ sound_waiting z k ];
      sound_waiting = sound_waiting;
      below = λ z m. elim (v.only z m) [ inl k ↦ s.below z (was z k) | inr h ↦ stands_below n t z b h ];
      begun = λ z l. v.kept z (s.begun z l);
      done = λ z m. elim (v.waits z m) [
        | inl k ↦ elim (s.done z k) [
          | inl w ↦ elim (among_push z waiting y (subst (IsAmong z) e w)) [
            | inl q ↦ inl (v.still z q)
            | inr same ↦ inr (λ a l. v.reached a (leads_by bodies y a t is (subst (λ p. Leads bodies p a) same l)))
          ]
          | inr q ↦ inr (λ a l. v.kept a (q a l))
        ]
        | inr k ↦ inl k
      ];
    }

closed_on : (bodies : ℕ → Option Ty) (marks : List Bool) → ((y z : ℕ) → IsMarked marks y → Leads bodies y z → IsMarked marks z) → {y z : ℕ} → IsMarked marks y → Reaches bodies y z → IsMarked marks z
closed_on bodies marks f m (at_once l) = f _ _ m l
closed_on bodies marks f m (through w l r) = closed_on bodies marks f (f _ w m l) r

from_start : (bodies : ℕ → Option Ty) (marks : List Bool) {x z : ℕ} → ((y z : ℕ) → IsMarked marks y → Leads bodies y z → IsMarked marks z) → ((y : ℕ) → Leads bodies x y → IsMarked marks y) → Reaches bodies x z → IsMarked marks z
from_start bodies marks f b (at_once l) = b _ l
from_start bodies marks f b (through w l r) = closed_on bodies marks f (b w l) r

pub searches_end : (bodies : ℕ → Option Ty) (n x z : ℕ) (marks : List Bool) (waiting : List ℕ) → Searches bodies n x marks waiting → waiting ≡ [] → IsMarked marks z ↔ Reaches bodies x z
searches_end bodies n x z marks waiting s e =
    let closed : (y z : ℕ) → IsMarked marks y → Leads bodies y z → IsMarked marks z =
    λ y z m l. elim (s.done y m) [ inl w ↦ absurd (subst (IsAmong y) e w) | inr f ↦ f z l ] in
    (λ m. s.sound z m, λ r. from_start bodies marks closed s.begun r)

pub marked_read : (marks : List Bool) (i : ℕ) (b : Bool) → i < length marks → b ≡ get_or marks i b → (b ≡ true) ↔ IsMarked marks i
marked_read [] i b lt e = absurd (omega (arith, lt))
marked_read (m ∷ marks) zero b lt e = (λ t. sym e ∙ t, λ t. e ∙ t)
marked_read (m ∷ marks) (suc i) b lt e = marked_read marks i b (omega (arith, lt)) e
