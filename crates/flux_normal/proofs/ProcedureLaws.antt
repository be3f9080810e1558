-- Names that stand twice, and procedures that are found by their names.
use Rattle.std.proofs.Common.{◌≡◌, ◌+◌, ◌<◌, ◌≤◌, ℕ, Bool, true, false, ◌||◌, ◌==◌, not, cond, nat_eq, nat_lt, List, [], ◌∷◌, ◌++◌, append_assoc, append-nil, length, drop, drop-cons, get_or, map, Option, Some, None, is_some, find, if◌then◌else◌, refl, sym, subst, ap, ap₂, ◌∙◌, add-one, option_map, arith}
use Rattle.std.specs.List.{list_any, position, position_or_len}
use Rattle.std.specs.Map.{lookup}
use Rattle.std.proofs.lemmas.Bool.{eqb-true, eq-eqb, true≢false}
use Rattle.std.proofs.lemmas.List.{drop_all, map-append}
use Rattle.indexmap.specs.IndexSet.{insert_key}
use Rattle.flux_grammar.specs.declared.tree.ParamDef.{ParamDef}
use Rattle.flux_grammar.specs.declared.tree.ProcDef.{ProcDef}
use Rattle.flux_grammar.specs.NormalFaults.{first, is_among, Mention, again, repeated, repeated_procs}
use Rattle.flux_normal.specs.Heads.{Head, has_name}
use Rattle.flux_normal.specs.Procedures.{head_written, mention_of_param, IsRepeat}
use Rattle.flux_normal.specs.declared.fault.NormFault.{NormFault}
use Rattle.flux_normal.specs.declared.fault.NormFault.TheVariants.{Duplicate, UnknownType, BigType, Unguarded, UnknownProc, Arity, TooNested, Memory}
use Rattle.flux_normal.proofs.Firsts.{first_before}

flip : (a b : ℕ) → (a == b) ≡ (b == a)
flip a b = go (a == b) (b == a) refl refl
  where
    go : (s t : Bool) → (a == b) ≡ s → (b == a) ≡ t → s ≡ t
    go true true e f = refl
    go false false e f = refl
    go true false e f = absurd (true≢false (sym (eq-eqb b a (sym (eqb-true a b e))) ∙ f))
    go false true e f = absurd (true≢false (sym (eq-eqb a b (sym (eqb-true b a f))) ∙ e))

any_flip : (n : ℕ) (ks : List ℕ) → list_any (nat_eq n) ks ≡ is_among n ks
any_flip n [] = refl
any_flip n (k ∷ ks) = ap₂ (λ s t. s || t) (flip n k) (any_flip n ks)

-- which names stood before is all that counts of them
abbrev AreSame : List ℕ → List ℕ → Type 0
AreSame a b = (n : ℕ) → is_among n a ≡ is_among n b

same_again : (a b : List ℕ) (m : Mention) → AreSame a b → again a m ≡ again b m
same_again a b m same = ap (λ t. if t then m.1 ∷ [] else []) (same m.0)

same_more : (a b : List ℕ) (n : ℕ) → AreSame a b → AreSame (n ∷ a) (n ∷ b)
same_more a b n same m = ap (λ t. (n == m) || t) (same m)

same_repeated : (a b : List ℕ) (ms : List Mention) → AreSame a b → repeated a ms ≡ repeated b ms
same_repeated a b [] same = refl
same_repeated a b (m ∷ ms) same = ap₂ (λ x y. x ++ y) (same_again a b m same) (same_repeated (m.0 ∷ a) (m.0 ∷ b) ms (same_more a b m.0 same))

same_procs : (a b : List ℕ) (ps : List ProcDef) → AreSame a b → repeated_procs a ps ≡ repeated_procs b ps
same_procs a b [] same = refl
same_procs a b (p ∷ ps) same =
    ap₂ (λ x y. x ++ repeated [] (map mention_of_param p.params) ++ y) (same_again a b (p.name, p.at.from) same) (same_procs (p.name ∷ a) (p.name ∷ b) ps (same_more a b p.name same))

or_swap : (s t : Bool) → (s || t) ≡ (t || s)
or_swap true true = refl
or_swap true false = refl
or_swap false true = refl
or_swap false false = refl

any_last : (n k : ℕ) (ks : List ℕ) → is_among n (ks ++ k ∷ []) ≡ is_among n (k ∷ ks)
any_last n k [] = refl
any_last n k (j ∷ ks) = ap (λ t. (j == n) || t) (any_last n k ks) ∙ swap3 (j == n) (k == n) (is_among n ks)
  where
    swap3 : (s t u : Bool) → (s || (t || u)) ≡ (t || (s || u))
    swap3 true true u = refl
    swap3 true false u = refl
    swap3 false t u = refl

put_last : (ks : List ℕ) (k : ℕ) → AreSame (k ∷ ks) (ks ++ k ∷ [])
put_last ks k n = sym (any_last n k ks)

-- parameters, one by one
module _ (all : List ParamDef) (i : ℕ) (x : ParamDef) (seen : List ℕ) (lt : i < length all) (is : x ≡ get_or all i x) (so : repeated [] (map mention_of_param all) ≡ repeated seen (map mention_of_param (drop i all))) where
  split : map mention_of_param (drop i all) ≡ mention_of_param x ∷ map mention_of_param (drop (i + 1) all)
  split = ap (map mention_of_param) (drop-cons all i x lt ∙ ap₂ (λ y n. y ∷ drop n all) (sym is) (sym (add-one i)))

  pub param_again : (b : Bool) (n : ℕ) → n ≡ x.var → b ≡ not (list_any (nat_eq n) seen) → b ≡ false → first (repeated [] (map mention_of_param all)) ≡ Some x.at.from
  param_again b n is_var e f = ap first (so ∙ ap (repeated seen) split) ∙ here (is_among x.var seen) (known (list_any (nat_eq x.var) seen) (ap (λ n. not (list_any (nat_eq n) seen)) (sym is_var) ∙ sym e ∙ f)) refl
    where
      known : (t : Bool) → not t ≡ false → t ≡ true
      known true g = refl
      known false g = absurd (true≢false g)

      here : (t : Bool) → list_any (nat_eq x.var) seen ≡ true → is_among x.var seen ≡ t → first ((if t then x.at.from ∷ [] else []) ++ repeated (x.var ∷ seen) (map mention_of_param (drop (i + 1) all))) ≡ Some x.at.from
      here true g h = refl
      here false g h = absurd (true≢false (sym g ∙ any_flip x.var seen ∙ h))

  pub param_new : (b : Bool) (n : ℕ) (after : List ℕ) → n ≡ x.var → b ≡ not (list_any (nat_eq n) seen) → b ≡ true → after ≡ insert_key nat_eq seen n → repeated [] (map mention_of_param all) ≡ repeated after (map mention_of_param (drop (i + 1) all))
  param_new b n after is_var e f keys = so ∙ ap (repeated seen) split ∙ here (list_any (nat_eq x.var) seen) refl (ap (λ n. not (list_any (nat_eq n) seen)) (sym is_var) ∙ sym e ∙ f)
    where
      here : (t : Bool) → list_any (nat_eq x.var) seen ≡ t → not t ≡ true → repeated seen (mention_of_param x ∷ map mention_of_param (drop (i + 1) all)) ≡ repeated after (map mention_of_param (drop (i + 1) all))
      here true g h = absurd (true≢false (sym h))
      here false g h =
          ap (λ t. (if t then x.at.from ∷ [] else []) ++ repeated (x.var ∷ seen) (map mention_of_param (drop (i + 1) all))) (sym (any_flip x.var seen) ∙ g)
          ∙ same_repeated (x.var ∷ seen) (seen ++ x.var ∷ []) (map mention_of_param (drop (i + 1) all)) (put_last seen x.var)
          ∙ ap (λ ks. repeated ks (map mention_of_param (drop (i + 1) all))) (sym (keys ∙ ap (insert_key nat_eq seen) is_var ∙ ap (λ t. if t then seen else seen ++ x.var ∷ []) g))

pub params_end : (all : List ParamDef) (i : ℕ) (seen : List ℕ) → length all ≤ i → repeated [] (map mention_of_param all) ≡ repeated seen (map mention_of_param (drop i all)) → repeated [] (map mention_of_param all) ≡ []
params_end all i seen le so = so ∙ ap (λ ps. repeated seen (map mention_of_param ps)) (drop_all i all le)

-- procedures, one by one
module _ (all : List ProcDef) (i : ℕ) (x : ProcDef) (heads after : List Head) (lt : i < length all) (is : x ≡ get_or all i x) (grown : after ≡ heads ++ head_written x ∷ []) where
  cut : drop i all ≡ x ∷ drop (i + 1) all
  cut = drop-cons all i x lt ∙ ap₂ (λ y n. y ∷ drop n all) (sym is) (sym (add-one i))

  pub heads_grow : heads ++ map head_written (drop i all) ≡ map head_written all → after ++ map head_written (drop (i + 1) all) ≡ map head_written all
  heads_grow so =
      ap (λ l. l ++ map head_written (drop (i + 1) all)) grown ∙ append_assoc heads (head_written x ∷ []) (map head_written (drop (i + 1) all))
      ∙ ap (λ l. heads ++ map head_written l) (sym cut) ∙ so

  pub procs_grow : again (map (λ h. h.0) heads) (x.name, x.at.from) ++ repeated [] (map mention_of_param x.params) ≡ []
      → repeated_procs [] all ≡ repeated_procs (map (λ h. h.0) heads) (drop i all) → repeated_procs [] all ≡ repeated_procs (map (λ h. h.0) after) (drop (i + 1) all)
  procs_grow none so =
      let names = map (λ (h : Head). h.0) heads in
      so ∙ ap (repeated_procs names) cut
      ∙ ap (λ l. l ++ repeated_procs (x.name ∷ names) (drop (i + 1) all)) none
      ∙ same_procs (x.name ∷ names) (names ++ x.name ∷ []) (drop (i + 1) all) (put_last names x.name)
      ∙ ap (λ ks. repeated_procs ks (drop (i + 1) all)) (sym (ap (map (λ h. h.0)) grown ∙ map-append (λ (h : Head). h.0) heads (head_written x ∷ [])))

pub proc_again : (all : List ProcDef) (i : ℕ) (x : ProcDef) (heads : List Head) (place : ℕ) → i < length all → x ≡ get_or all i x
    → first (again (map (λ h. h.0) heads) (x.name, x.at.from) ++ repeated [] (map mention_of_param x.params)) ≡ Some place
    → repeated_procs [] all ≡ repeated_procs (map (λ h. h.0) heads) (drop i all) → first (repeated_procs [] all) ≡ Some place
proc_again all i x heads place lt is found so =
    let names = map (λ (h : Head). h.0) heads in
    ap first (so ∙ ap (repeated_procs names) (drop-cons all i x lt ∙ ap₂ (λ y n. y ∷ drop n all) (sym is) (sym (add-one i))))
    ∙ first_before (again names (x.name, x.at.from) ++ repeated [] (map mention_of_param x.params)) (repeated_procs (x.name ∷ names) (drop (i + 1) all)) place found

-- a fault that is the first of these places is the first of those
pub still_first : (ps qs : List ℕ) (f : NormFault) → ((place : ℕ) → first ps ≡ Some place → first qs ≡ Some place) → IsRepeat ps f → IsRepeat qs f
still_first ps qs (Duplicate place) h r = h place r
still_first ps qs (Memory error) h r = tt
still_first ps qs (UnknownType place) h r = r
still_first ps qs (BigType place) h r = r
still_first ps qs (Unguarded place) h r = r
still_first ps qs (UnknownProc place) h r = r
still_first ps qs (Arity place) h r = r
still_first ps qs (TooNested place) h r = r

-- whether a name is among those of procedures
lookup_among : (n : ℕ) (hs : List Head) → is_some (lookup (nat_eq n) hs) ≡ is_among n (map (λ h. h.0) hs)
lookup_among n [] = refl
lookup_among n (h ∷ hs) = here (lookup_among n hs) (n == h.0) refl
  where
    here : is_some (lookup (nat_eq n) hs) ≡ is_among n (map (λ h. h.0) hs) → (t : Bool) → (n == h.0) ≡ t → is_some (cond (nat_eq n h.0) (Some h.1) (lookup (nat_eq n) hs)) ≡ ((h.0 == n) || is_among n (map (λ h. h.0) hs))
    here rest true e = ap (λ t. is_some (cond t (Some h.1) (lookup (nat_eq n) hs))) e ∙ ap (λ t. t || is_among n (map (λ h. h.0) hs)) (sym (flip h.0 n ∙ e))
    here rest false e = ap (λ t. is_some (cond t (Some h.1) (lookup (nat_eq n) hs))) e ∙ rest ∙ ap (λ t. t || is_among n (map (λ h. h.0) hs)) (sym (flip h.0 n ∙ e))

module _ (n m : ℕ) (hs : List Head) (at : ℕ) (b : Bool) (same : m ≡ n) (is : b ≡ is_some (lookup (nat_eq m) hs)) where
  among : is_among n (map (λ h. h.0) hs) ≡ b
  among = sym (lookup_among n hs) ∙ ap (λ m. is_some (lookup (nat_eq m) hs)) (sym same) ∙ sym is

  pub stood_before : b ≡ true → (ys : List ℕ) → first (again (map (λ h. h.0) hs) (n, at) ++ ys) ≡ Some at
  stood_before e ys = ap (λ t. first ((if t then at ∷ [] else []) ++ ys)) (among ∙ e)

  pub not_before : b ≡ false → (ys : List ℕ) → again (map (λ h. h.0) hs) (n, at) ++ ys ≡ ys
  not_before e ys = ap (λ t. (if t then at ∷ [] else []) ++ ys) (among ∙ e)

pub procs_end : (all : List ProcDef) (i : ℕ) (heads : List Head) → length all ≤ i → repeated_procs [] all ≡ repeated_procs (map (λ h. h.0) heads) (drop i all) → repeated_procs [] all ≡ []
procs_end all i heads le so = so ∙ ap (repeated_procs (map (λ h. h.0) heads)) (drop_all i all le)

pub heads_end : (all : List ProcDef) (i : ℕ) (heads : List Head) → length all ≤ i → heads ++ map head_written (drop i all) ≡ map head_written all → heads ≡ map head_written all
heads_end all i heads le so = sym (append-nil heads) ∙ ap (λ ps. heads ++ map head_written ps) (sym (drop_all i all le)) ∙ so

-- the procedure of a name
find_lookup : (n : ℕ) (hs : List Head) → find (has_name n) hs ≡ option_map (λ p. (n, p)) (lookup (nat_eq n) hs)
find_lookup n [] = refl
find_lookup n (h ∷ hs) = here (find_lookup n hs) (n == h.0) refl
  where
    here : find (has_name n) hs ≡ option_map (λ p. (n, p)) (lookup (nat_eq n) hs) → (t : Bool) → (n == h.0) ≡ t → find (has_name n) (h ∷ hs) ≡ option_map (λ p. (n, p)) (lookup (nat_eq n) (h ∷ hs))
    here rest true e =
        ap (λ t. cond t (Some h) (find (has_name n) hs)) (flip h.0 n ∙ e)
        ∙ ap (λ m. Some (m, h.1)) (sym (eqb-true n h.0 e))
        ∙ ap (λ t. option_map (λ p. (n, p)) (cond t (Some h.1) (lookup (nat_eq n) hs))) (sym e)
    here rest false e =
        ap (λ t. cond t (Some h) (find (has_name n) hs)) (flip h.0 n ∙ e)
        ∙ rest
        ∙ ap (λ t. option_map (λ p. (n, p)) (cond t (Some h.1) (lookup (nat_eq n) hs))) (sym e)

place_of_name : (n : ℕ) (hs : List Head) → position_or_len (has_name n) hs ≡ position_or_len (nat_eq n) (map (λ h. h.0) hs)
place_of_name n [] = refl
place_of_name n (h ∷ hs) = ap₂ (λ t k. cond (not t) (1 + k) 0) (flip h.0 n) (place_of_name n hs)

positioned : (p : ℕ → Bool) (ks : List ℕ) (i : ℕ) → Some i ≡ position p ks → i ≡ position_or_len p ks
positioned p ks i e = here (nat_lt (position_or_len p ks) (length ks)) e
  where
    here : (t : Bool) → Some i ≡ cond t (Some (position_or_len p ks)) None → i ≡ position_or_len p ks
    here true e = cc
    here false e = absurd cc

found_index : (n : ℕ) (hs : List Head) (i : ℕ) → Some i ≡ position (nat_eq n) (map (λ h. h.0) hs) → i ≡ position_or_len (has_name n) hs
found_index n hs i e = positioned (nat_eq n) (map (λ h. h.0) hs) i e ∙ sym (place_of_name n hs)

pub found_head : (n m : ℕ) (hs gs : List Head) (o : Option ℕ) → m ≡ n → hs ≡ gs → o ≡ lookup (nat_eq m) hs → find (has_name n) gs ≡ option_map (λ p. (n, p)) o
found_head n m hs gs o e same is =
    ap (find (has_name n)) (sym same) ∙ find_lookup n hs ∙ ap (λ m. option_map (λ p. (n, p)) (lookup (nat_eq m) hs)) (sym e) ∙ ap (option_map (λ p. (n, p))) (sym is)

pub found_both : (n m : ℕ) (hs gs : List Head) (i p : ℕ) → m ≡ n → hs ≡ gs → Some i ≡ position (nat_eq m) (map (λ h. h.0) hs) → Some p ≡ lookup (nat_eq m) hs
    → (i ≡ position_or_len (has_name n) gs) × (find (has_name n) gs ≡ Some (n, p))
found_both n m hs gs i p e same at is =
    (found_index n hs i (at ∙ ap (λ m. position (nat_eq m) (map (λ h. h.0) hs)) e) ∙ ap (position_or_len (has_name n)) same, found_head n m hs gs (Some p) e same is)
