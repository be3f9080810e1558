-- The laws of declarations, and of the entries and definitions that stand for them.
use Rattle.std.proofs.Common.{◌≡◌, ◌⊎◌, ◌<◌, ◌≤◌, ◌+◌, ◌-◌, ◌^◌, ◌++◌, ℕ, zero, suc, List, [], ◌∷◌, Option, Some, None, Bool, true, false, not, length, map, get_or, slice_get, take, refl, sym, ap, subst, ◌∙◌, inl, inr, arith}
use Rattle.std.proofs.lemmas.Option.{same_Some}
use Rattle.std.proofs.Math.ListN.{set}
use Rattle.std.specs.Option.{option_map, is_some}
use Rattle.flux_schema.specs.Ty.{Ty, empty, atom, element, any_element, seq, alt, star, named, NamesBelow}
use Rattle.flux_schema.specs.Definitions.{Definitions, Declared, Declarations, names_of, declared_names, body_of, declared_body, as_declared, with_body, Differ, LacksBody, Leads, Reaches, at_once, through, AreKnown, IsFirst, ReachesItself}
use Rattle.flux_schema.proofs.MarkLaws.{le_or}
use Rattle.flux_types.specs.declared.defs.Kept.{Kept}
use Rattle.flux_types.specs.declared.draft.Entry.{Entry}
use Rattle.flux_types.specs.declared.ty.Ty.{Ty as Tree}
use Rattle.flux_types.specs.Read.{ty_of}
use Rattle.flux_types.specs.Kept.{definition_of, definitions_of, declared_of, declarations_of, IsBody, IsDraft, AreKept}

-- what doesn't hold of a number or of those below it
pub below_next : (P : ℕ → Type 0) (i : ℕ) → ((x : ℕ) → x < i → P x → ⊥) → (P i → ⊥) → (x : ℕ) → x < i + 1 → P x → ⊥
below_next P i f g x lt h =
    elim (le_or i x) [ inr k ↦ f x k h | inl k ↦ let e : x ≡ i = omega (arith, k, lt) in g (subst P e h) ]

-- ---- entries

pub length-declarations : (es : List Entry) → length (declarations_of es) ≡ length es
length-declarations [] = refl
length-declarations (e ∷ es) = ap suc (length-declarations es)

pub length-names : (ds : Declarations) → length (declared_names ds) ≡ length ds
length-names [] = refl
length-names (d ∷ ds) = ap suc (length-names ds)

pub body_here : (es : List Entry) (i : ℕ) (e : Entry) → i < length es → e ≡ get_or es i e → declared_body (declarations_of es) i ≡ option_map ty_of e.body
body_here [] i e lt is = absurd (omega (arith, lt))
body_here (f ∷ es) zero e lt is = ap (λ (a : Entry). option_map ty_of a.body) (sym is)
body_here (f ∷ es) (suc i) e lt is = body_here es i e (omega (arith, lt)) is

-- ---- bodies set

pub put_body : (es : List Entry) (i : ℕ) (e : Entry) (b : Tree) → i < length es → e ≡ get_or es i e → declarations_of (set es i record { name = e.name; body = Some b }) ≡ with_body (declarations_of es) i (ty_of b)
put_body [] i e b lt is = refl
put_body (f ∷ es) zero e b lt is = ap (λ (a : Entry). record { name = a.name; body = Some (ty_of b) } ∷ declarations_of es) is
put_body (f ∷ es) (suc i) e b lt is = ap (λ ds. declared_of f ∷ ds) (put_body es i e b (omega (arith, lt)) is)

pub length-with_body : (ds : Declarations) (x : ℕ) (t : Ty) → length (with_body ds x t) ≡ length ds
length-with_body [] x t = refl
length-with_body (d ∷ ds) zero t = refl
length-with_body (d ∷ ds) (suc x) t = ap suc (length-with_body ds x t)

pub names-with_body : (ds : Declarations) (x : ℕ) (t : Ty) → declared_names (with_body ds x t) ≡ declared_names ds
names-with_body [] x t = refl
names-with_body (d ∷ ds) zero t = refl
names-with_body (d ∷ ds) (suc x) t = ap (λ ns. d.name ∷ ns) (names-with_body ds x t)

bodies-with_body : (ds : Declarations) (x : ℕ) (t : Ty) (y : ℕ) (u : Ty) → declared_body (with_body ds x t) y ≡ Some u → (t ≡ u) ⊎ (declared_body ds y ≡ Some u)
bodies-with_body [] x t y u e = cc
bodies-with_body (d ∷ ds) zero t zero u e = inl (same_Some _ _ e)
bodies-with_body (d ∷ ds) zero t (suc y) u e = inr e
bodies-with_body (d ∷ ds) (suc x) t zero u e = inr e
bodies-with_body (d ∷ ds) (suc x) t (suc y) u e = bodies-with_body ds x t y u e

pub IsDraft-with_body : (ds : Declarations) (x : ℕ) (t : Ty) → IsDraft ds → IsBody (length ds) t → IsDraft (with_body ds x t)
IsDraft-with_body ds x t d b = record {
  few = omega (arith, d.few, length-with_body ds x t);
  names = subst Differ (sym (names-with_body ds x t)) d.names;
  bodies = λ y u e. subst (λ n. IsBody n u) (sym (length-with_body ds x t)) (elim (bodies-with_body ds x t y u e) as (λ _. IsBody (length ds) u) [ inl same ↦ subst (IsBody (length ds)) same b | inr old ↦ d.bodies y u old ]);
}

-- ---- names added

pub names-push : (ds : Declarations) (d : Declared) → declared_names (ds ++ d ∷ []) ≡ declared_names ds ++ d.name ∷ []
names-push [] d = refl
names-push (e ∷ ds) d = ap (λ ns. e.name ∷ ns) (names-push ds d)

pub length-push : {A : Type 0} (xs : List A) (x : A) → length (xs ++ x ∷ []) ≡ length xs + 1
length-push [] x = refl
length-push (y ∷ xs) x = omega (arith, length-push xs x)

pub get-push : (ns : List ℕ) (n i m : ℕ) → slice_get (ns ++ n ∷ []) i ≡ Some m → (slice_get ns i ≡ Some m) ⊎ ((i ≡ length ns) × (n ≡ m))
get-push [] n zero m e = inr (refl, same_Some _ _ e)
get-push [] n (suc i) m e = cc
get-push (k ∷ ns) n zero m e = inl e
get-push (k ∷ ns) n (suc i) m e = elim (get-push ns n i m e) [ inl h ↦ inl h | inr h ↦ inr (ap suc h.0, h.1) ]

Differ-push : (ns : List ℕ) (n : ℕ) → Differ ns → ((x : ℕ) → slice_get ns x ≡ Some n → ⊥) → Differ (ns ++ n ∷ [])
Differ-push ns n d fresh i j m e f =
    elim (get-push ns n i m e) [
      | inl p ↦ elim (get-push ns n j m f) [ inl q ↦ d i j m p q | inr q ↦ absurd (fresh i (p ∙ ap Some (sym q.1))) ]
      | inr p ↦ elim (get-push ns n j m f) [ inl q ↦ absurd (fresh j (q ∙ ap Some (sym p.1))) | inr q ↦ p.0 ∙ sym q.0 ]
    ]

bodies-push : (ds : Declarations) (n y : ℕ) (u : Ty) → declared_body (ds ++ record { name = n; body = None } ∷ []) y ≡ Some u → declared_body ds y ≡ Some u
bodies-push [] n zero u e = cc
bodies-push [] n (suc y) u e = cc
bodies-push (d ∷ ds) n zero u e = e
bodies-push (d ∷ ds) n (suc y) u e = bodies-push ds n y u e

pub NamesBelow-more : (n m : ℕ) → n ≤ m → (t : Ty) → NamesBelow n t → NamesBelow m t
NamesBelow-more n m h empty b = b
NamesBelow-more n m h (atom k) b = b
NamesBelow-more n m h (element l t) b = NamesBelow-more n m h t b
NamesBelow-more n m h (any_element t) b = NamesBelow-more n m h t b
NamesBelow-more n m h (seq t u) b = (NamesBelow-more n m h t b.0, NamesBelow-more n m h u b.1)
NamesBelow-more n m h (alt t u) b = (NamesBelow-more n m h t b.0, NamesBelow-more n m h u b.1)
NamesBelow-more n m h (star t) b = NamesBelow-more n m h t b
NamesBelow-more n m h (named x) b = omega (arith, h, b)

IsBody-more : (n m : ℕ) (t : Ty) → n ≤ m → IsBody n t → IsBody m t
IsBody-more n m t h b = record { known = NamesBelow-more n m h t b.known; limits = b.limits }

pub IsDraft-push : (ds : Declarations) (n : ℕ) → IsDraft ds → length ds < 2 ^ 32 - 1 → ((x : ℕ) → slice_get (declared_names ds) x ≡ Some n → ⊥) → IsDraft (ds ++ record { name = n; body = None } ∷ [])
IsDraft-push ds n d lt fresh =
    let new : Declared = record { name = n; body = None } in
    record {
      few = omega (arith, lt, length-push ds new);
      names = subst Differ (sym (names-push ds new)) (Differ-push (declared_names ds) n d.names fresh);
      bodies = λ y u e. IsBody-more (length ds) (length (ds ++ new ∷ [])) u (omega (arith, length-push ds new)) (d.bodies y u (bodies-push ds n y u e));
    }

-- ---- the definitions of a draft

-- a declaration without a body lacks one where it stands
lacks_here : (ds : Declarations) (d : Declared) (es : Declarations) → d.body ≡ None → LacksBody (ds ++ d ∷ es) (length ds)
lacks_here [] d es e = (omega arith, e)
lacks_here (c ∷ ds) d es e = let h = lacks_here ds d es e in (omega (arith, h.0), h.1)

pub never_lacks : (ds : Declarations) (e : Entry) (es all : List Entry) → ds ++ declarations_of (e ∷ es) ≡ declarations_of all → e.body ≡ None → ((x : ℕ) → LacksBody (declarations_of all) x → ⊥) → ⊥
never_lacks ds e es all j none full =
    full (length ds) (subst (λ a. LacksBody a (length ds)) j (lacks_here ds (declared_of e) (declarations_of es) (ap (option_map ty_of) none)))

pub kept_next : (ks : List Kept) (k : Kept) (es : List Entry) → map as_declared (definitions_of (ks ++ k ∷ [])) ++ declarations_of es ≡ map as_declared (definitions_of ks) ++ (as_declared (definition_of k) ∷ declarations_of es)
kept_next [] k es = refl
kept_next (j ∷ ks) k es = ap (λ ds. as_declared (definition_of j) ∷ ds) (kept_next ks k es)

pub push_kept : (ks ks' : List Kept) (k : Kept) (e : Entry) (rest rest' all : List Entry) → ks' ≡ ks ++ k ∷ [] → rest ≡ e ∷ rest' → as_declared (definition_of k) ≡ declared_of e
    → map as_declared (definitions_of ks) ++ declarations_of rest ≡ declarations_of all → map as_declared (definitions_of ks') ++ declarations_of rest' ≡ declarations_of all
push_kept ks ks' k e rest rest' all is_more is_rest same inv =
    ap (λ ls. map as_declared (definitions_of ls) ++ declarations_of rest') is_more
    ∙ kept_next ks k rest'
    ∙ ap (λ d. map as_declared (definitions_of ks) ++ (d ∷ declarations_of rest')) same
    ∙ ap (λ es. map as_declared (definitions_of ks) ++ declarations_of es) (sym is_rest)
    ∙ inv

append_none : {A : Type 0} (xs : List A) → xs ++ [] ≡ xs
append_none [] = refl
append_none (x ∷ xs) = ap (λ ys. x ∷ ys) (append_none xs)

pub all_kept : (ks : List Kept) (rest all : List Entry) → length rest ≡ 0 → map as_declared (definitions_of ks) ++ declarations_of rest ≡ declarations_of all → map as_declared (definitions_of ks) ≡ declarations_of all
all_kept ks [] all e inv = sym (append_none (map as_declared (definitions_of ks))) ∙ inv
all_kept ks (x ∷ rest) all e inv = cc

length-kept : (defs : Definitions) → length (map as_declared defs) ≡ length defs
length-kept [] = refl
length-kept (d ∷ defs) = ap suc (length-kept defs)

names-kept : (defs : Definitions) → declared_names (map as_declared defs) ≡ names_of defs
names-kept [] = refl
names-kept (d ∷ defs) = ap (λ ns. d.name ∷ ns) (names-kept defs)

pub body-kept : (defs : Definitions) (x : ℕ) → declared_body (map as_declared defs) x ≡ body_of defs x
body-kept [] x = refl
body-kept (d ∷ defs) zero = refl
body-kept (d ∷ defs) (suc x) = body-kept defs x

-- ---- tests

pub none_is : {A : Type 0} (o : Option A) (r : Bool) → is_some o ≡ not r → r ≡ true → o ≡ None
none_is None r e h = refl
none_is (Some a) r e h = cc (ap not h)

pub some_maps : {A B : Type 0} (f : A → B) (o : Option A) (r : Bool) → is_some o ≡ not r → r ≡ false → option_map f o ≡ None → ⊥
some_maps f None r e h k = cc (ap not h)
some_maps f (Some a) r e h k = cc

pub same_some : (i j : ℕ) (o : Option ℕ) → o ≡ Some i → o ≡ Some j → i ≡ j
same_some i j o e f = same_Some i j (sym e ∙ f)

pub kept_here : (ks : List Kept) (i : ℕ) (k : Kept) → i < length ks → k ≡ get_or ks i k → body_of (definitions_of ks) i ≡ Some (ty_of k.body)
kept_here [] i k lt is = absurd (omega (arith, lt))
kept_here (j ∷ ks) zero k lt is = ap (λ (a : Kept). Some (ty_of a.body)) (sym is)
kept_here (j ∷ ks) (suc i) k lt is = kept_here ks i k (omega (arith, lt)) is

pub length-definitions : (ks : List Kept) → length (definitions_of ks) ≡ length ks
length-definitions [] = refl
length-definitions (k ∷ ks) = ap suc (length-definitions ks)

-- the same at what an index gives
pub kept_at : (ks : List Kept) (i : ℕ) (k : Kept) → i < length ks → k ≡ get_or ks i k → body_of (definitions_of ks) i ≡ Some (ty_of (get_or ks i k).body)
kept_at ks i k lt is = kept_here ks i k lt is ∙ ap (λ (a : Kept). Some (ty_of a.body)) is

pub known_at : (ks : List Kept) (i : ℕ) (k : Kept) (n : ℕ) → AreKnown (definitions_of ks) → i < length ks → k ≡ get_or ks i k → n ≡ length ks → NamesBelow n (ty_of (get_or ks i k).body)
known_at ks i k n known lt is e = subst (λ m. NamesBelow m (ty_of (get_or ks i k).body)) (length-definitions ks ∙ sym e) (known i (ty_of (get_or ks i k).body) (kept_at ks i k lt is))

pub take_whole : {A : Type 0} (xs ys : List A) (n : ℕ) → length xs ≡ n → take n (xs ++ ys) ≡ xs
take_whole [] ys zero e = refl
take_whole [] ys (suc n) e = cc
take_whole (x ∷ xs) ys zero e = cc
take_whole (x ∷ xs) ys (suc n) e = ap (λ zs. x ∷ zs) (take_whole xs ys n (omega (arith, e)))

-- ---- the definitions that a draft makes

leads_along : {f g : ℕ → Option Ty} → ((x : ℕ) → f x ≡ g x) → (x y : ℕ) → Leads f x y → Leads g x y
leads_along same x y (t, e, s) = (t, sym (same x) ∙ e, s)

pub reaches_along : {f g : ℕ → Option Ty} → ((x : ℕ) → f x ≡ g x) → {x y : ℕ} → Reaches f x y → Reaches g x y
reaches_along same (at_once {x} {y} l) = at_once (leads_along same x y l)
reaches_along same (through {x} y l r) = through y (leads_along same x y l) (reaches_along same r)

module _ (defs : Definitions) (ds : Declarations) (same : map as_declared defs ≡ ds) (draft : IsDraft ds) where
  body_same : (x : ℕ) → declared_body ds x ≡ body_of defs x
  body_same x = ap (λ ds. declared_body ds x) (sym same) ∙ body-kept defs x

  length_same : length ds ≡ length defs
  length_same = ap length (sym same) ∙ length-kept defs

  pub known_made : AreKnown defs
  known_made x t e = subst (λ n. NamesBelow n t) length_same (draft.bodies x t (body_same x ∙ e)).known

  pub few_made : length defs < 2 ^ 32
  few_made = subst (λ n. n < 2 ^ 32) length_same draft.few

  pub kept_made : ((x : ℕ) → Reaches (body_of defs) x x → ⊥) → AreKept defs
  kept_made guarded = record {
    few = few_made;
    good = record {
      names = subst Differ (ap declared_names (sym same) ∙ names-kept defs) draft.names;
      known = known_made;
      guarded = guarded;
    };
    limits = λ x t e. (draft.bodies x t (body_same x ∙ e)).limits;
  }

  pub unguarded_made : (x : ℕ) → IsFirst (λ y. Reaches (body_of defs) y y) x → IsFirst (ReachesItself ds) x
  unguarded_made x first = record {
    holds = reaches_along (λ y. sym (body_same y)) first.holds;
    least = λ y lt r. first.least y lt (reaches_along body_same r);
  }

-- what a caller that counts declarations needs
pub ruleset counts = (length-with_body, length-push)
