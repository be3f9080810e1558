-- A typed statement derives a member of its type, or it meets a call with none left.
use Rattle.std.proofs.Common.{◌≡◌, ◌∙◌, ◌⊎◌, inl, inr, ℕ, Bool, true, false, List, [], ◌∷◌, ◌++◌, Some, None, refl, sym, ap, subst}
use Rattle.flux_atom.specs.declared.atom.AtomKind.TheVariants as kind
use Rattle.flux_trees.specs.Hedge.{Plain, nil, elem, join, trees}
use Rattle.flux_trees.proofs.HedgeLaws.{join-nil, join_assoc, trees-join}
use Rattle.flux_schema.specs.Ty.{Ty, empty, atom, element, any_element, seq, alt, star}
use Rattle.flux_schema.specs.Definitions.{Definitions}
use Rattle.flux_schema.specs.Member.{Member, Included, in_empty, in_element, in_any, in_seq, in_left, in_right, in_done, in_more}
use Rattle.flux_calculus.specs.declared.ask.Test.{Test}
use Rattle.flux_calculus.specs.declared.ask.Span.{Span}
use Rattle.flux_calculus.specs.Tests.{matches}
use Rattle.flux_calculus.specs.Query.{Query, Environment, value}
use Rattle.flux_calculus.specs.Fault.{Fault}
use Rattle.flux_calculus.specs.Typing.{Context, Suits, IsAtomic, Types, of_query}
use Rattle.flux_calculus.specs.Typing as query
use Rattle.flux_calculus.proofs.Sound as queries
use Rattle.flux_calculus.specs.Core.{Core, choice, insert, rename, test, children, call, Proc, Procs, proc_of}
use Rattle.flux_calculus.specs.Derives.{condition, truth_in, bound_to, Derives, DerivesEach, Exceeds, ExceedsEach, each_end, each_more, in_tree, in_later}
use Rattle.flux_calculus.specs.Derives as rule
use Rattle.flux_typing.specs.Update.{with_definitions, Checks, fits, Arguments, no_more, one_more, passes, fails, undecided}
use Rattle.flux_typing.specs.Update as outcome
use Rattle.flux_typing.specs.Laws.{Grows}
use Rattle.flux_typing.proofs.Members.{member_of_body, member_single, single_atomic, one_tree, one_is_tree, element_is, any_is, nothing_is, told, labelled, suits_bound, suits_nothing}
use Rattle.flux_typing.proofs.Members as members
use Rattle.flux_typing.proofs.Typed.{Typed, Mapped, skips, ends, follows, chooses, binds, notes, inserts, deletes, renames, renames_any, tests, leaves, may_test, enters, enters_any, lefts, rights, iterates, calls, at_one, over_empty, over_seq, over_alt, over_star, over_name}
use Rattle.flux_typing.proofs.Growth.{grows_refl, grows_trans, member_grows, suits_grows}

pub either : {A B C : Type 0} → A ⊎ B → (A → C) → (B → C) → C
either (inl a) f g = f a
either (inr b) f g = g b

module _ (procs : Procs) (d : ℕ) where
  -- a member of the type is derived, or a call is met with none left: by a statement on a forest,
  -- and on each of several trees
  abbrev pub Fine : Environment → Plain → Core → Definitions → Ty → Type 0
  Fine γ v s Δ u = ((w : Plain) × Derives procs d γ v s w × Member Δ w u) ⊎ ((place : ℕ) × Exceeds procs d γ v s place)

  abbrev pub FineEach : Environment → List Plain → Core → Definitions → Ty → Type 0
  FineEach γ vs s Δ u = ((w : Plain) × DerivesEach procs d γ vs s w × Member Δ w u) ⊎ ((place : ℕ) × ExceedsEach procs d γ vs s place)

  -- ---- each of several trees

  derives_both : {γ : Environment} {vs ws : List Plain} {s : Core} {a b : Plain} → DerivesEach procs d γ vs s a → DerivesEach procs d γ ws s b → DerivesEach procs d γ (vs ++ ws) s (join a b)
  derives_both each_end y = y
  derives_both {b = b} (each_more {u = u} {r} x y j) z = each_more x (derives_both y z) (sym (join_assoc u r b) ∙ ap (λ k. join k b) j)

  exceeds_first : {γ : Environment} {vs : List Plain} (ws : List Plain) {s : Core} {place : ℕ} → ExceedsEach procs d γ vs s place → ExceedsEach procs d γ (vs ++ ws) s place
  exceeds_first ws (in_tree x) = in_tree x
  exceeds_first ws (in_later x y) = in_later x (exceeds_first ws y)

  exceeds_second : {γ : Environment} {vs ws : List Plain} {s : Core} {a : Plain} {place : ℕ} → DerivesEach procs d γ vs s a → ExceedsEach procs d γ ws s place → ExceedsEach procs d γ (vs ++ ws) s place
  exceeds_second each_end y = y
  exceeds_second (each_more x y j) z = in_later x (exceeds_second y z)

  -- the trees of two forests, one behind the other
  fine_joined : (γ : Environment) (s : Core) (Δ : Definitions) (t u z : Ty) (v w h : Plain) → join v w ≡ h → ((a b : Plain) → Member Δ a t → Member Δ b u → Member Δ (join a b) z) → FineEach γ (trees v) s Δ t → FineEach γ (trees w) s Δ u → FineEach γ (trees h) s Δ z
  fine_joined γ s Δ t u z v w h j make f g =
      subst (λ ts. FineEach γ ts s Δ z) (sym (trees-join v w) ∙ ap trees j) (either f (λ a. either g (λ b. inl (join a.0 b.0, derives_both a.1 b.1, make a.0 b.0 a.2 b.2)) (λ e. inr (e.0, exceeds_second a.1 e.1))) (λ e. inr (e.0, exceeds_first (trees w) e.1)))

  fine_one : (γ : Environment) (s : Core) (Δ : Definitions) (u : Ty) (v : Plain) (vs : List Plain) → vs ≡ v ∷ [] → Fine γ v s Δ u → FineEach γ vs s Δ u
  fine_one γ s Δ u v vs e f =
      subst (λ ts. FineEach γ ts s Δ u) (sym e) (either f (λ a. inl (a.0, each_more a.1 each_end (join-nil a.0), a.2)) (λ e. inr (e.0, in_tree e.1)))

  fine_as : (γ : Environment) (vs : List Plain) (s : Core) (Δ Δ' : Definitions) (t u : Ty) → ((w : Plain) → Member Δ w t → Member Δ' w u) → FineEach γ vs s Δ t → FineEach γ vs s Δ' u
  fine_as γ vs s Δ Δ' t u h f = either f (λ a. inl (a.0, a.1, h a.0 a.2)) (λ e. inr e)

  fine_star : (γ : Environment) (s : Core) (Δ Δ' : Definitions) (t u : Ty) → ((v : Plain) → Member Δ v t → FineEach γ (trees v) s Δ' u) → {v : Plain} → Member Δ v (star t) → FineEach γ (trees v) s Δ' (star u)
  fine_star γ s Δ Δ' t u h (in_done _) = inl (nil, each_end, in_done u)
  fine_star γ s Δ Δ' t u h {v = z} (in_more v w j m k) = fine_joined γ s Δ' u (star u) (star u) v w z j (λ a b p q. in_more a b refl p q) (h v m) (fine_star γ s Δ Δ' t u h k)

  fine_seq : (γ : Environment) (s : Core) (Δ Δ' : Definitions) (t u t' u' : Ty) → ((v : Plain) → Member Δ v t → FineEach γ (trees v) s Δ' t') → ((v : Plain) → Member Δ v u → FineEach γ (trees v) s Δ' u') → {v : Plain} → Member Δ v (seq t u) → FineEach γ (trees v) s Δ' (seq t' u')
  fine_seq γ s Δ Δ' t u t' u' g h {v = z} (in_seq v w j m k) = fine_joined γ s Δ' t' u' (seq t' u') v w z j (λ a b p q. in_seq a b refl p q) (g v m) (h w k)

  fine_alt : (γ : Environment) (s : Core) (Δ Δ' : Definitions) (t u t' u' : Ty) → ((v : Plain) → Member Δ v t → FineEach γ (trees v) s Δ' t') → ((v : Plain) → Member Δ v u → FineEach γ (trees v) s Δ' u') → {v : Plain} → Member Δ v (alt t u) → FineEach γ (trees v) s Δ' (alt t' u')
  fine_alt γ s Δ Δ' t u t' u' g h {v} (in_left _ m) = fine_as γ (trees v) s Δ' Δ' t' (alt t' u') (λ w n. in_left u' n) (g v m)
  fine_alt γ s Δ Δ' t u t' u' g h {v} (in_right _ m) = fine_as γ (trees v) s Δ' Δ' u' (alt t' u') (λ w n. in_right t' n) (h v m)

  -- ---- statements on one forest

  fine_choice : (γ : Environment) (v : Plain) (at : Span) (c : Query) (s r : Core) (Δ : Definitions) (u w : Ty) (b : Bool) → condition γ c ≡ Some b → Fine γ v s Δ u → Fine γ v r Δ w → Fine γ v (choice at c s r) Δ (alt u w)
  fine_choice γ v at c s r Δ u w true e f g = either f (λ a. inl (a.0, rule.takes_yes e a.1, in_left w a.2)) (λ x. inr (x.0, rule.in_yes e x.1))
  fine_choice γ v at c s r Δ u w false e f g = either g (λ a. inl (a.0, rule.takes_no e a.1, in_right u a.2)) (λ x. inr (x.0, rule.in_no e x.1))

  fine_renames : (γ : Environment) (at : Span) (Δ : Definitions) (u : Ty) (m n : ℕ) (v : Plain) → Member Δ v (element m u) → Fine γ v (rename at n) Δ (element n u)
  fine_renames γ at Δ u m n v k = let e = element_is k in inl (elem tt n e.0 nil, subst (λ z. Derives procs d γ z (rename at n) (elem tt n e.0 nil)) (sym e.1) rule.renames, in_element n e.2)

  fine_renames_any : (γ : Environment) (at : Span) (Δ : Definitions) (u : Ty) (n : ℕ) (v : Plain) → Member Δ v (any_element u) → Fine γ v (rename at n) Δ (element n u)
  fine_renames_any γ at Δ u n v k = let e = any_is k in inl (elem tt n e.1 nil, subst (λ z. Derives procs d γ z (rename at n) (elem tt n e.1 nil)) (sym e.2) rule.renames, in_element n e.3)

  fine_content : (γ : Environment) (at : Span) (s : Core) (Δ : Definitions) (u z : Ty) (n : ℕ) (c v : Plain) → v ≡ elem tt n c nil → ((w : Plain) → Member Δ w u → Member Δ (elem tt n w nil) z) → Fine γ c s Δ u → Fine γ v (children at s) Δ z
  fine_content γ at s Δ u z n c v e make f =
      subst (λ y. Fine γ y (children at s) Δ z) (sym e) (either f (λ a. inl (elem tt n a.0 nil, rule.enters a.1, make a.0 a.2)) (λ x. inr (x.0, rule.in_children x.1)))

  fine_enters : (γ : Environment) (at : Span) (s : Core) (Δ Δ' : Definitions) (w u : Ty) (n : ℕ) (v : Plain) → ((c : Plain) → Member Δ c w → Fine γ c s Δ' u) → Member Δ v (element n w) → Fine γ v (children at s) Δ' (element n u)
  fine_enters γ at s Δ Δ' w u n v f m = let e = element_is m in fine_content γ at s Δ' u (element n u) n e.0 v e.1 (λ y k. in_element n k) (f e.0 e.2)

  fine_enters_any : (γ : Environment) (at : Span) (s : Core) (Δ Δ' : Definitions) (w u : Ty) (v : Plain) → ((c : Plain) → Member Δ c w → Fine γ c s Δ' u) → Member Δ v (any_element w) → Fine γ v (children at s) Δ' (any_element u)
  fine_enters_any γ at s Δ Δ' w u v f m = let e = any_is m in fine_content γ at s Δ' u (any_element u) e.0 e.1 v e.2 (λ y k. in_any e.0 k) (f e.1 e.3)

  fine_test : (γ : Environment) (at : Span) (p : Test) (s : Core) (Δ Δ' : Definitions) (a u z : Ty) (v : Plain) → IsAtomic a → Member Δ v a → matches p v ≡ true → ((w : Plain) → Member Δ' w u → Member Δ' w z) → Fine γ v s Δ' u → Fine γ v (test at p s) Δ' z
  fine_test γ at p s Δ Δ' a u z v i m e make f =
      either f (λ b. inl (b.0, rule.tests (one_is_tree i m) e b.1, make b.0 b.2)) (λ x. inr (x.0, rule.in_test (one_is_tree i m) e x.1))

  fine_leaves : (γ : Environment) (at : Span) (p : Test) (s : Core) (Δ Δ' : Definitions) (a z : Ty) (v : Plain) → IsAtomic a → Member Δ v a → matches p v ≡ false → Member Δ' v z → Fine γ v (test at p s) Δ' z
  fine_leaves γ at p s Δ Δ' a z v i m e n = inl (v, rule.passes (one_is_tree i m) e, n)

  fine_may_test : (γ : Environment) (at : Span) (p : Test) (s : Core) (Δ Δ' : Definitions) (a u : Ty) (l : ℕ) (v : Plain) → Grows Δ Δ' → IsAtomic a → Member Δ v a → members.Tells (undecided l) (matches p v) v → ((w : Plain) → Member Δ w (element l (query.content_type a)) → Fine γ w s Δ' u) → Fine γ v (test at p s) Δ' (alt u a)
  fine_may_test γ at p s Δ Δ' a u l v g i m t f = by (matches p v) refl
    where
      by : (b : Bool) → matches p v ≡ b → Fine γ v (test at p s) Δ' (alt u a)
      by true e = fine_test γ at p s Δ Δ' a u (alt u a) v i m e (λ w k. in_left a k) (let c = t e in f v (labelled l c.0 v a i c.1 m))
      by false e = fine_leaves γ at p s Δ Δ' a (alt u a) v i m e (in_right u (member_grows g m))

  -- ---- queries

  truth_of_condition : {Δ : Definitions} {Γ : Context} {c : Query} {t : Ty} → Types Δ (of_query Γ c) (query.typed t) → Included Δ t (atom kind.Bool) → (γ : Environment) → Suits Δ Γ γ → (b : Bool) × (condition γ c ≡ Some b)
  truth_of_condition {Δ = Δ} r i γ h =
      let a = queries.sound Δ r γ h in
      let b = members.truth_in (i a.0 a.2) in
      (b.0, ap truth_in a.1 ∙ b.1)

  argument_in : {Δ : Definitions} {Γ : Context} {q : Query} {u t : Ty} {f : Ty → Ty → Fault} {Δ' : Definitions} (a : query.Outcome) → Types Δ (of_query Γ q) a → Checks u f (with_definitions Δ a) (outcome.typed t Δ') → (γ : Environment) → Suits Δ Γ γ → (v : Plain) × (value γ q ≡ Some v) × Member Δ v u
  argument_in {Δ} (query.typed t) r (fits i) γ h = let a = queries.sound Δ r γ h in (a.0, a.1, i a.0 a.2)
  argument_in (query.faulty e) r c γ h = elim c [ ]

  arguments_in : {Δ : Definitions} {Γ ps : Context} {qs : List Query} → Arguments Δ Γ ps qs None → (γ : Environment) → Suits Δ Γ γ → (δ : Environment) × (bound_to γ ps qs ≡ Some δ) × Suits Δ ps δ
  arguments_in {Δ} no_more γ h = ([], refl, suits_nothing)
  arguments_in {Δ} (one_more {x = x} {u = u} {ps = ps} {a = a} r c rs) γ h =
      let v = argument_in a r c γ h in
      let δ = arguments_in rs γ h in
      ((x, v.0) ∷ δ.0, rw (v.1, δ.1) refl, suits_bound ps δ.0 x u v.0 δ.2 v.2)

  -- ---- what holds of a statement that has a type, where the definitions grow from Δ0

  module _ (Δ0 : Definitions) where
    -- calls do well on members of the focus with members of the parameters' types
    abbrev pub CallsAreFine : Type 0
    CallsAreFine = (p : ℕ) (q : Proc) → proc_of procs p ≡ Some q → (Δ : Definitions) → Grows Δ0 Δ → (γ δ : Environment) (at : Span) (args : List Query) (v : Plain) → bound_to γ q.params args ≡ Some δ → Suits Δ q.params δ → Member Δ v q.focus → Fine γ v (call at p args) Δ q.result

    -- each member of t becomes one of u, under definitions that have grown
    abbrev pub Works : Definitions → Context → Ty → Core → Ty → Definitions → Type 0
    Works Δ Γ t s u Δ' = Grows Δ0 Δ → Grows Δ Δ' × ((γ : Environment) → Suits Δ Γ γ → (v : Plain) → Member Δ v t → Fine γ v s Δ' u)

    abbrev pub WorksEach : Definitions → Context → Ty → Core → Ty → Definitions → Type 0
    WorksEach Δ Γ t s u Δ' = Grows Δ0 Δ → Grows Δ Δ' × ((γ : Environment) → Suits Δ Γ γ → (v : Plain) → Member Δ v t → FineEach γ (trees v) s Δ' u)

    mutual
      pub sound : CallsAreFine → {Δ Δ' : Definitions} {Γ : Context} {t u : Ty} {s : Core} → Typed procs Δ Γ t s u Δ' → Works Δ Γ t s u Δ'
      sound good (skips {Δ}) = λ k. (grows_refl Δ, λ γ h v m. inl (v, rule.skips, m))
      sound good (ends {Δ}) = λ k. (grows_refl Δ, λ γ h v m. inl (v, rule.ends, m))
      sound good (follows {Γ = Γ} x y) = λ k.
          let f = sound good x k in
          let g = sound good y (grows_trans k f.0) in
          (grows_trans f.0 g.0, λ γ h v m. either (f.1 γ h v m) (λ a. either (g.1 γ (suits_grows Γ γ f.0 h) a.0 a.2) (λ b. inl (b.0, rule.follows a.1 b.1, b.2)) (λ e. inr (e.0, rule.in_others a.1 e.1))) (λ e. inr (e.0, rule.in_first e.1)))
      sound good (chooses {Δ' = Δ'} {Δ''} {Γ} {u = u} {w} {at = at} {c = c} {s} {r} q i x y) = λ k.
          let f = sound good x k in
          let g = sound good y (grows_trans k f.0) in (
            grows_trans f.0 g.0,
            λ γ h v m.
                let b = truth_of_condition q i γ h in
                let first : Fine γ v s Δ'' u = either (f.1 γ h v m) (λ a. inl (a.0, a.1, member_grows g.0 a.2)) (λ e. inr e) in
                fine_choice γ v at c s r Δ'' u w b.0 b.1 first (g.1 γ (suits_grows Γ γ f.0 h) v (member_grows f.0 m)),
          )
      sound good (binds {Δ} {Γ = Γ} {b = b} {x = x} q y) = λ k.
          let f = sound good y k in
          (f.0, λ γ h v m. let a = queries.sound Δ q γ h in either (f.1 ((x, a.0) ∷ γ) (suits_bound Γ γ x b a.0 h a.2) v m) (λ z. inl (z.0, rule.binds a.1 z.1, z.2)) (λ e. inr (e.0, rule.in_binding a.1 e.1)))
      sound good (notes {Γ = Γ} {t} {x = x} y) = λ k.
          let f = sound good y k in
          (f.0, λ γ h v m. either (f.1 ((x, v) ∷ γ) (suits_bound Γ γ x t v h m) v m) (λ z. inl (z.0, rule.notes z.1, z.2)) (λ e. inr (e.0, rule.in_snapshot e.1)))
      sound good (inserts {Δ} {u = u} {at = at} {q = q} i y) = λ k.
          (grows_refl Δ, λ γ h v m. let a = queries.sound Δ y γ h in inl (a.0, subst (λ z. Derives procs d γ z (insert at q) a.0) (sym (nothing_is (i v m))) (rule.inserts a.1), a.2))
      sound good (deletes {Δ}) = λ k. (grows_refl Δ, λ γ h v m. inl (nil, rule.deletes, in_empty))
      sound good (renames {Δ} {u = u} {at} {m = l} {n} e) = λ k. (grows_refl Δ, λ γ h v m. fine_renames γ at Δ u l n v (member_single e m))
      sound good (renames_any {Δ} {u = u} {at} {n = n} e) = λ k. (grows_refl Δ, λ γ h v m. fine_renames_any γ at Δ u n v (member_single e m))
      sound good (tests {Δ} {Δ'} {a = a} {u} {at} {p} {s} e w x) = λ k.
          let f = sound good x k in
          (f.0, λ γ h v m. let n = member_single e m in fine_test γ at p s Δ Δ' a u u v (single_atomic e) n (told passes p e w m) (λ z y. y) (f.1 γ h v n))
      sound good (leaves {Δ} {a = a} {at} {p} {s} e w) = λ k.
          (grows_refl Δ, λ γ h v m. let n = member_single e m in fine_leaves γ at p s Δ Δ a a v (single_atomic e) n (told fails p e w m) n)
      sound good (may_test {Δ} {Δ'} {a = a} {u} {at} {p} {l} {s} e w x) = λ k.
          let f = sound good x k in
          (f.0, λ γ h v m. fine_may_test γ at p s Δ Δ' a u l v f.0 (single_atomic e) (member_single e m) (told (undecided l) p e w m) (f.1 γ h))
      sound good (enters {Δ} {Δ'} {w = w} {u} {at} {n = n} {s} e x) = λ k. let f = sound good x k in (f.0, λ γ h v m. fine_enters γ at s Δ Δ' w u n v (f.1 γ h) (member_single e m))
      sound good (enters_any {Δ} {Δ'} {w = w} {u} {at} {s = s} e x) = λ k. let f = sound good x k in (f.0, λ γ h v m. fine_enters_any γ at s Δ Δ' w u v (f.1 γ h) (member_single e m))
      sound good (lefts x) = λ k.
          let f = sound good x k in
          (f.0, λ γ h v m. either (f.1 γ h nil in_empty) (λ a. inl (join a.0 v, rule.goes_left a.1 refl, in_seq a.0 v refl a.2 (member_grows f.0 m))) (λ e. inr (e.0, rule.in_left e.1)))
      sound good (rights x) = λ k.
          let f = sound good x k in
          (f.0, λ γ h v m. either (f.1 γ h nil in_empty) (λ a. inl (join v a.0, rule.goes_right a.1 refl, in_seq v a.0 refl (member_grows f.0 m) a.2)) (λ e. inr (e.0, rule.in_right e.1)))
      sound good (iterates x) = λ k.
          let f = sound_map good x k in
          (f.0, λ γ h v m. either (f.1 γ h v m) (λ a. inl (a.0, rule.iterates a.1, a.2)) (λ e. inr (e.0, rule.in_iter e.1)))
      sound good (calls {Δ} {at = at} {p} {args} {q} e r i) = λ k. (grows_refl Δ, λ γ h v m. let δ = arguments_in r γ h in good p q e Δ k γ δ.0 at args v δ.1 δ.2 (i v m))

      pub sound_map : CallsAreFine → {Δ Δ' : Definitions} {Γ : Context} {t u : Ty} {s : Core} → Mapped procs Δ Γ t s u Δ' → WorksEach Δ Γ t s u Δ'
      sound_map good (at_one {Δ' = Δ'} {u = u} {s = s} i x) = λ k.
          let f = sound good x k in
          (f.0, λ γ h v m. fine_one γ s Δ' u v (trees v) (one_tree i m) (f.1 γ h v m))
      sound_map good (over_empty {Δ} {s = s}) = λ k. (grows_refl Δ, λ γ h v m. subst (λ z. FineEach γ (trees z) s Δ empty) (sym (nothing_is m)) (inl (nil, each_end, in_empty)))
      sound_map good (over_seq {Δ} {Δ'} {Δ''} {Γ} {t} {u} {t'} {u'} {s} x y) = λ k.
          let f = sound_map good x k in
          let g = sound_map good y (grows_trans k f.0) in
          (grows_trans f.0 g.0, λ γ h v m. fine_seq γ s Δ Δ'' t u t' u' (λ w n. fine_as γ (trees w) s Δ' Δ'' t' t' (λ z q. member_grows g.0 q) (f.1 γ h w n)) (λ w n. g.1 γ (suits_grows Γ γ f.0 h) w (member_grows f.0 n)) m)
      sound_map good (over_alt {Δ} {Δ'} {Δ''} {Γ} {t} {u} {t'} {u'} {s} x y) = λ k.
          let f = sound_map good x k in
          let g = sound_map good y (grows_trans k f.0) in
          (grows_trans f.0 g.0, λ γ h v m. fine_alt γ s Δ Δ'' t u t' u' (λ w n. fine_as γ (trees w) s Δ' Δ'' t' t' (λ z q. member_grows g.0 q) (f.1 γ h w n)) (λ w n. g.1 γ (suits_grows Γ γ f.0 h) w (member_grows f.0 n)) m)
      sound_map good (over_star {Δ} {Δ'} {t = t} {t'} {s} x) = λ k. let f = sound_map good x k in (f.0, λ γ h v m. fine_star γ s Δ Δ' t t' (f.1 γ h) m)
      sound_map good (over_name e x) = λ k. let f = sound_map good x k in (f.0, λ γ h v m. f.1 γ h v (member_of_body e m))
