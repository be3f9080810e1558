-- A query of a type has a value, which is a member of the type.
use Rattle.std.proofs.Common.{◌≡◌, ◌∙◌, ℕ, ℤ, Bool, true, false, [], ◌∷◌, Option, Some, None, refl, sym, ap, subst, if◌then◌else◌, ◌==◌}
use Rattle.std.proofs.lemmas.Bool.{eqb-true}
use Rattle.std.specs.Int.Signed.{lt_z}
use Rattle.flux_atom.specs.declared.atom.Atom.{Atom}
use Rattle.flux_atom.specs.declared.atom.Atom.TheVariants.{Bool as Truth, Text as Words, Int as Number}
use Rattle.flux_atom.specs.declared.atom.AtomKind.{AtomKind}
use Rattle.flux_atom.specs.declared.atom.AtomKind.TheVariants as kind
use Rattle.flux_atom.specs.Atom.{kind_of}
use Rattle.flux_trees.specs.Hedge.{Plain, nil, elem, leaf, join, trees}
use Rattle.flux_trees.specs.Same.{same}
use Rattle.flux_trees.proofs.HedgeLaws.{join-nil, join_assoc}
use Rattle.flux_schema.specs.Ty.{Ty, empty, atom, element, any_element, seq, alt, star, named}
use Rattle.flux_schema.specs.Definitions.{Definitions, body_of}
use Rattle.flux_schema.specs.Member.{Member, in_empty, in_atom, in_element, in_any, in_seq, in_left, in_right, in_done, in_more, in_name}
use Rattle.flux_schema.specs.Single.{Single, of_atom, of_element as of_element_type, of_any, of_name as of_named}
use Rattle.flux_calculus.specs.declared.ask.Test.{Test}
use Rattle.flux_calculus.specs.declared.ask.Test.TheVariants.{Label, AnyElement, OfText, OfBool, OfInt}
use Rattle.flux_calculus.specs.declared.ask.Var.{Var}
use Rattle.flux_calculus.specs.Tests.{element_matches, kind_matches, matches}
use Rattle.flux_calculus.specs.Fault.{too_large}
use Rattle.flux_calculus.specs.Query.{Query, nothing, both, binding, child, filter, each, alike, less, choice, literal, variable, same_var, found, Environment, and_value, truth_of, number_of, compared, chosen, content_of_one, passing, value_each, value}
use Rattle.flux_calculus.specs.Query as query
use Rattle.flux_calculus.specs.Typing.{Context, Outcome, typed, faulty, is_within, concluded, Treatment, Goal, of_query, of_map, returning, keeping, IsAtomic, kept, kept_of_any, content_type, Suits, Types, of_nothing, of_one, of_several, first_of_several, others_of_several, of_element, content_of_element, of_literal, of_variable, of_no_variable, of_binding, bound_of_binding, of_choice, condition_of_choice, no_truth_of_choice, yes_of_choice, no_of_choice, of_alike, left_of_alike, right_of_alike, of_less, left_of_less, left_no_number, right_of_less, right_no_number, of_child, of_many_child, of_no_child, of_filter, from_of_filter, of_each, over_of_each, returns, body_of_each, keeps, of_empty, of_seq, left_of_seq, right_of_seq, of_alt, left_of_alt, right_of_alt, of_star, inside_of_star, of_name}

-- ---- values

-- both values, joined
abbrev both_values : Option Plain → Option Plain → Option Plain
both_values o p = and_value o (λ v. and_value p (λ w. Some (join v w)))

both-nil : (o : Option Plain) → both_values (Some nil) o ≡ o
both-nil None = refl
both-nil (Some v) = refl

both-nil-right : (o : Option Plain) → both_values o (Some nil) ≡ o
both-nil-right None = refl
both-nil-right (Some v) = ap Some (join-nil v)

both_assoc : (o p q : Option Plain) → both_values (both_values o p) q ≡ both_values o (both_values p q)
both_assoc None p q = refl
both_assoc (Some u) None q = refl
both_assoc (Some u) (Some v) None = refl
both_assoc (Some u) (Some v) (Some w) = ap Some (join_assoc u v w)

each-join : (go : Plain → Option Plain) (v w : Plain) → value_each go (trees (join v w)) ≡ both_values (value_each go (trees v)) (value_each go (trees w))
each-join go nil w = sym (both-nil (value_each go (trees w)))
each-join go (elem _ n c v) w =
    ap (both_values (go (elem tt n c nil))) (each-join go v w) ∙ sym (both_assoc (go (elem tt n c nil)) (value_each go (trees v)) (value_each go (trees w)))
each-join go (leaf _ x v) w =
    ap (both_values (go (leaf tt x nil))) (each-join go v w) ∙ sym (both_assoc (go (leaf tt x nil)) (value_each go (trees v)) (value_each go (trees w)))

elem_by : (b : Bool) (n : ℕ) (c r v w : Plain) → r ≡ join v w → (if b then elem tt n c r else r) ≡ join (if b then elem tt n c v else v) w
elem_by true n c r v w e = ap (elem tt n c) e
elem_by false n c r v w e = e

leaf_by : (b : Bool) (x : Atom) (r v w : Plain) → r ≡ join v w → (if b then leaf tt x r else r) ≡ join (if b then leaf tt x v else v) w
leaf_by true x r v w e = ap (leaf tt x) e
leaf_by false x r v w e = e

passing-join : (t : Test) (v w : Plain) → passing t (join v w) ≡ join (passing t v) (passing t w)
passing-join t nil w = refl
passing-join t (elem m n c v) w = elem_by (matches t (elem m n c nil)) n c (passing t (join v w)) (passing t v) (passing t w) (passing-join t v w)
passing-join t (leaf m x v) w = leaf_by (matches t (leaf m x nil)) x (passing t (join v w)) (passing t v) (passing t w) (passing-join t v w)

-- what a treatment makes of a forest
abbrev treated : Environment → Treatment → Plain → Option Plain
treated γ (returning Γ x r) v = value_each (λ u. value ((x, u) ∷ γ) r) (trees v)
treated γ (keeping t) v = Some (passing t v)

treated-nil : (γ : Environment) (f : Treatment) → treated γ f nil ≡ Some nil
treated-nil γ (returning Γ x r) = refl
treated-nil γ (keeping t) = refl

treated-join : (γ : Environment) (f : Treatment) (v w : Plain) → treated γ f (join v w) ≡ both_values (treated γ f v) (treated γ f w)
treated-join γ (returning Γ x r) v w = each-join (λ u. value ((x, u) ∷ γ) r) v w
treated-join γ (keeping t) v w = ap Some (passing-join t v w)

-- ---- what holds of an outcome

module _ (defs : Definitions) where
  -- there is a value, and it is a member of the type
  abbrev HasValue : Ty → Option Plain → Type 0
  HasValue t o = (v : Plain) × (o ≡ Some v) × Member defs v t

  abbrev SuitsTreatment : Treatment → Environment → Type 0
  SuitsTreatment (returning Γ x r) γ = Suits defs Γ γ
  SuitsTreatment (keeping t) γ = Unit {0}

  abbrev SoundType : Goal → Ty → Type 0
  SoundType (of_query Γ q) t = (γ : Environment) → Suits defs Γ γ → HasValue t (value γ q)
  SoundType (of_map at f u) t = (γ : Environment) → SuitsTreatment f γ → (v : Plain) → Member defs v u → HasValue t (treated γ f v)

  abbrev Sound : Goal → Outcome → Type 0
  Sound g (typed t) = SoundType g t
  Sound g (faulty f) = Unit {0}

  conclude_by : (g : Goal) (at : ℕ) (t : Ty) (o : Outcome) (b : Bool) → SoundType g t → (if b then typed t else faulty (too_large at)) ≡ o → Sound g o
  conclude_by g at t o true s e = let P : Outcome → Type 0 = λ p. Sound g p in subst P e s
  conclude_by g at t o false s e = let P : Outcome → Type 0 = λ p. Sound g p in subst P e tt

  conclude : (g : Goal) (at : ℕ) (t : Ty) (o : Outcome) → SoundType g t → concluded at t ≡ o → Sound g o
  conclude g at t o s e = conclude_by g at t o (is_within t) s e

  carry : (g h : Goal) (o : Outcome) → ((t : Ty) → SoundType g t → SoundType h t) → Sound g o → Sound h o
  carry g h (typed t) f s = f t s
  carry g h (faulty e) f s = tt

  at_value : (t : Ty) (o p : Option Plain) → o ≡ p → HasValue t p → HasValue t o
  at_value t o p e (v, f, m) = (v, e ∙ f, m)

  in_both : (t u : Ty) (o p : Option Plain) → HasValue t o → HasValue u p → HasValue (seq t u) (both_values o p)
  in_both t u o p (v, e, m) (w, f, k) = (join v w, rw (e, f) refl, in_seq v w refl m k)

  -- ---- one tree

  one_tree : {a : Ty} {v : Plain} → IsAtomic a → Member defs v a → trees v ≡ v ∷ []
  one_tree i (in_atom x e) = refl
  one_tree i (in_element n m) = refl
  one_tree i (in_any n m) = refl
  one_tree i _ = absurd i

  kept_by : (b c : Bool) (v : Plain) (a : Ty) → b ≡ c → Member defs v a → Member defs (if b then v else nil) (if c then a else empty)
  kept_by true true v a e m = m
  kept_by false false v a e m = in_empty
  kept_by true false v a e m = cc
  kept_by false true v a e m = cc

  kept_label : (n m : ℕ) (t : Ty) (v : Plain) (b : Bool) → (m == n) ≡ b → Member defs v t → Member defs (if b then elem tt m v nil else nil) (alt (element n t) empty)
  kept_label n m t v true e d = in_left empty (subst (λ l. Member defs (elem tt l v nil) (element n t)) (sym (eqb-true m n e)) (in_element n d))
  kept_label n m t v false e d = in_right (element n t) in_empty

  any_kept : (p : Test) (m : ℕ) (t : Ty) (v : Plain) → Member defs v t → Member defs (if element_matches p m then elem tt m v nil else nil) (kept_of_any p t)
  any_kept (Label n) m t v d = kept_label n m t v (m == n) refl d
  any_kept AnyElement m t v d = in_any m d
  any_kept OfText m t v d = in_empty
  any_kept OfBool m t v d = in_empty
  any_kept OfInt m t v d = in_empty

  one_kept : (p : Test) {a : Ty} {v : Plain} → IsAtomic a → Member defs v a → Member defs (passing p v) (kept p a)
  one_kept p i (in_atom x {k} e) = kept_by (kind_matches p (kind_of x)) (kind_matches p k) (leaf tt x nil) (atom k) (ap (kind_matches p) e) (in_atom x e)
  one_kept p i (in_element n {v} {t} m) = kept_by (element_matches p n) (element_matches p n) (elem tt n v nil) (element n t) refl (in_element n m)
  one_kept p i (in_any n {v} {t} m) = any_kept p n t v m
  one_kept p i _ = absurd i

  -- ---- the type of one tree, and the truth values

  member_of_body : {x : ℕ} {t : Ty} {v : Plain} → body_of defs x ≡ Some t → Member defs v (named x) → Member defs v t
  member_of_body {v = v} e (in_name x f m) = let P : Ty → Type 0 = λ u. Member defs v u in subst P (same_some f e) m
    where
      same_some : {t u : Ty} {o : Option Ty} → o ≡ Some t → o ≡ Some u → t ≡ u
      same_some e f = cc

  -- the content of one tree is a member of what its type says
  content_in_tree : {s : Ty} {v : Plain} → IsAtomic s → Member defs v s → HasValue (content_type s) (content_of_one v)
  content_in_tree i (in_atom x e) = (nil, refl, in_empty)
  content_in_tree i (in_element _ {v = c} m) = (c, refl, m)
  content_in_tree i (in_any _ {v = c} m) = (c, refl, m)
  content_in_tree i _ = absurd i

  content_in : {t s : Ty} → Single defs t s → (v : Plain) → Member defs v t → HasValue (content_type s) (content_of_one v)
  content_in (of_atom k) v m = content_in_tree tt m
  content_in (of_element_type n t) v m = content_in_tree tt m
  content_in (of_any t) v m = content_in_tree tt m
  content_in (of_named x e h) v m = content_in h v (member_of_body e m)

  truth_atom : (x : Atom) → kind_of x ≡ kind.Bool → (b : Bool) × (truth_of (leaf tt x nil) ≡ Some b)
  truth_atom (Truth b) e = (b, refl)
  truth_atom (Words w) e = cc
  truth_atom (Number z) e = cc

  truth_in : {v : Plain} → Member defs v (atom kind.Bool) → (b : Bool) × (truth_of v ≡ Some b)
  truth_in (in_atom x e) = truth_atom x e

  number_atom : (x : Atom) → kind_of x ≡ kind.Int → (z : ℤ) × (number_of (leaf tt x nil) ≡ Some z)
  number_atom (Truth b) e = cc
  number_atom (Words w) e = cc
  number_atom (Number z) e = (z, refl)

  number_in : {v : Plain} → Member defs v (atom kind.Int) → (z : ℤ) × (number_of v ≡ Some z)
  number_in (in_atom x e) = number_atom x e

  in_chosen : (b : Bool) (t u : Ty) (o p : Option Plain) → HasValue t o → HasValue u p → HasValue (alt t u) (chosen (Some b) o p)
  in_chosen true t u o p (v, e, m) h = (v, e, in_left u m)
  in_chosen false t u o p h (v, e, m) = (v, e, in_right t m)

  -- ---- variables

  bound_by : (b : Bool) (t u : Ty) (v : Plain) (o : Option Ty) (p : Option Plain) → Member defs v t → (o ≡ Some u → HasValue u p) → (if b then Some t else o) ≡ Some u → HasValue u (if b then Some v else p)
  bound_by true t u v o p m f e = (v, refl, let P : Ty → Type 0 = λ w. Member defs v w in subst P (same_some e) m)
    where
      same_some : {t u : Ty} → Some t ≡ Some u → t ≡ u
      same_some e = cc
  bound_by false t u v o p m f e = f e

  suits_bound : (Γ : Context) (γ : Environment) (x : Var) (t : Ty) (v : Plain) → Suits defs Γ γ → Member defs v t → Suits defs ((x, t) ∷ Γ) ((x, v) ∷ γ)
  suits_bound Γ γ x t v s m y u e = bound_by (same_var x y) t u v (found Γ y) (found γ y) m (s y u) e

  -- ---- types of several trees

  in_star : (γ : Environment) (f : Treatment) (t u : Ty) → ((v : Plain) → Member defs v t → HasValue u (treated γ f v)) → {v : Plain} → Member defs v (star t) → HasValue (star u) (treated γ f v)
  in_star γ f t u ih (in_done _) = (nil, treated-nil γ f, in_done u)
  in_star γ f t u ih (in_more v w j m k) =
      let a = ih v m in
      let b = in_star γ f t u ih k in
      (join a.0 b.0, ap (treated γ f) (sym j) ∙ treated-join γ f v w ∙ rw (a.1, b.1) refl, in_more a.0 b.0 refl a.2 b.2)

  in_parts : (γ : Environment) (f : Treatment) (t t' u u' : Ty) → ((v : Plain) → Member defs v t → HasValue t' (treated γ f v)) → ((v : Plain) → Member defs v u → HasValue u' (treated γ f v)) → (v : Plain) → Member defs v (seq t u) → HasValue (seq t' u') (treated γ f v)
  in_parts γ f t t' u u' g h z (in_seq v w j m k) =
      at_value (seq t' u') _ _ (ap (treated γ f) (sym j) ∙ treated-join γ f v w) (in_both t' u' (treated γ f v) (treated γ f w) (g v m) (h w k))

  in_either : (γ : Environment) (f : Treatment) (t t' u u' : Ty) → ((v : Plain) → Member defs v t → HasValue t' (treated γ f v)) → ((v : Plain) → Member defs v u → HasValue u' (treated γ f v)) → (v : Plain) → Member defs v (alt t u) → HasValue (alt t' u') (treated γ f v)
  in_either γ f t t' u u' g h v (in_left _ m) = let a = g v m in (a.0, a.1, in_left u' a.2)
  in_either γ f t t' u u' g h v (in_right _ m) = let a = h v m in (a.0, a.1, in_right t' a.2)

  nothing_treated : (γ : Environment) (f : Treatment) (v : Plain) → Member defs v empty → HasValue empty (treated γ f v)
  nothing_treated γ f v in_empty = (nil, treated-nil γ f, in_empty)

  -- ---- queries

  pub sound : {g : Goal} {o : Outcome} → Types defs g o → Sound g o
  sound of_nothing = λ γ s. (nil, refl, in_empty)
  sound (of_one {Γ} {at} {end} {q} {o} d) =
      carry (of_query Γ q) (of_query Γ (both at q (nothing end))) o (λ t h γ s. at_value t _ _ (both-nil-right (value γ q)) (h γ s)) (sound d)
  sound (of_several {Γ} {at} {next} {q} {r} {s} {t} {u} {o} d e c) =
      let f = sound d in
      let g = sound e in
      conclude (of_query Γ (both at q (both next r s))) at.from (seq t u) o (λ γ h. in_both t u (value γ q) (value γ (both next r s)) (f γ h) (g γ h)) c
  sound (first_of_several d) = tt
  sound (others_of_several d e) = tt
  sound (of_element {Γ} {at} {n} {q} {t} {o} d c) =
      let f = sound d in
      conclude (of_query Γ (query.element at n q)) at.from (element n t) o (λ γ h. let a = f γ h in (elem tt n a.0 nil, rw a.1 refl, in_element n a.2)) c
  sound (content_of_element d) = tt
  sound (of_literal x) = λ γ s. (leaf tt x nil, refl, in_atom x refl)
  sound (of_variable {Γ} {at} {x} {t} e) = λ γ s. s x t e
  sound (of_no_variable e) = tt
  sound (of_binding {Γ} {at} {x} {q} {r} {t} {o} d e) =
      let f = sound d in
      carry (of_query ((x, t) ∷ Γ) r) (of_query Γ (binding at x q r)) o (λ u h γ s. let a = f γ s in at_value u _ _ (rw a.1 refl) (h ((x, a.0) ∷ γ) (suits_bound Γ γ x t a.0 s a.2))) (sound e)
  sound (bound_of_binding d) = tt
  sound (of_choice {Γ} {at} {c} {q} {r} {t} {u} {w} {o} d i e h k) =
      let f = sound d in
      let g = sound e in
      let l = sound h in
      conclude (of_query Γ (choice at c q r)) at.from (alt u w) o (λ γ s.
      let a = f γ s in
      let b = truth_in (i a.0 a.2) in
      at_value (alt u w) _ _ (rw (a.1, b.1) refl) (in_chosen b.0 u w (value γ q) (value γ r) (g γ s) (l γ s))) k
  sound (condition_of_choice d) = tt
  sound (no_truth_of_choice v d m n) = tt
  sound (yes_of_choice d i e) = tt
  sound (no_of_choice d i e h) = tt
  sound (of_alike d e) =
      let f = sound d in
      let g = sound e in
      λ γ s. let a = f γ s in let b = g γ s in (leaf tt (Truth (same a.0 b.0)) nil, rw (a.1, b.1) refl, in_atom (Truth (same a.0 b.0)) refl)
  sound (left_of_alike d) = tt
  sound (right_of_alike d e) = tt
  sound (of_less {q = q} {r} d i e h) =
      let f = sound d in
      let g = sound e in
      λ γ s.
      let a = f γ s in
      let b = g γ s in
      let y = number_in (i a.0 a.2) in
      let z = number_in (h b.0 b.2) in
      (leaf tt (Truth (lt_z y.0 z.0)) nil, rw (a.1, b.1, y.1, z.1) refl, in_atom (Truth (lt_z y.0 z.0)) refl)
  sound (left_of_less d) = tt
  sound (left_no_number v d m n) = tt
  sound (right_of_less d i e) = tt
  sound (right_no_number v d i e m n) = tt
  sound (of_child {Γ} {at} {x} {t} {s = u} e h) = λ γ s. let a = s x t e in at_value (content_type u) _ _ (rw a.1 refl) (content_in h a.0 a.2)
  sound (of_many_child e n) = tt
  sound (of_no_child e) = tt
  sound (of_filter {Γ} {at} {q} {p} {t} {o} d e) =
      let f = sound d in
      carry (of_map at.from (keeping p) t) (of_query Γ (filter at q p)) o (λ u h γ s. let a = f γ s in at_value u _ _ (rw a.1 refl) (h γ tt a.0 a.2)) (sound e)
  sound (from_of_filter d) = tt
  sound (of_each {Γ} {at} {x} {q} {r} {t} {o} d e) =
      let f = sound d in
      carry (of_map at.from (returning Γ x r) t) (of_query Γ (each at x q r)) o (λ u h γ s. let a = f γ s in at_value u _ _ (rw a.1 refl) (h γ s a.0 a.2)) (sound e)
  sound (over_of_each d) = tt
  sound (returns {Γ} {at} {x} {q} {a} {t} {o} i d c) =
      let f = sound d in
      conclude (of_map at (returning Γ x q) a) at t o (λ γ s v m.
      at_value t _ _ (ap (value_each (λ u. value ((x, u) ∷ γ) q)) (one_tree i m) ∙ both-nil-right (value ((x, v) ∷ γ) q)) (f ((x, v) ∷ γ) (suits_bound Γ γ x a v s m))) c
  sound (body_of_each i d) = tt
  sound (keeps {at} {p} {a} {o} i c) = conclude (of_map at (keeping p) a) at (kept p a) o (λ γ s v m. (passing p v, refl, one_kept p i m)) c
  sound (of_empty {at} {f}) = λ γ s v m. nothing_treated γ f v m
  sound (of_seq {at} {g} {t} {u} {t'} {u'} {o} d e c) =
      let f = sound d in
      let h = sound e in
      conclude (of_map at g (seq t u)) at (seq t' u') o (λ γ s. in_parts γ g t t' u u' (f γ s) (h γ s)) c
  sound (left_of_seq d) = tt
  sound (right_of_seq d e) = tt
  sound (of_alt {at} {g} {t} {u} {t'} {u'} {o} d e c) =
      let f = sound d in
      let h = sound e in
      conclude (of_map at g (alt t u)) at (alt t' u') o (λ γ s. in_either γ g t t' u u' (f γ s) (h γ s)) c
  sound (left_of_alt d) = tt
  sound (right_of_alt d e) = tt
  sound (of_star {at} {g} {t} {t'} {o} d c) =
      let f = sound d in
      conclude (of_map at g (star t)) at (star t') o (λ γ s v m. in_star γ g t t' (f γ s) m) c
  sound (inside_of_star d) = tt
  sound (of_name {at} {x} {g} {t} {o} e d) = carry (of_map at g t) (of_map at g (named x)) o (λ u h γ s v m. h γ s v (member_of_body e m)) (sound d)
