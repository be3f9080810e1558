-- Members of types of one tree, and what a test says of them; variables that are bound.
use Rattle.std.proofs.Common.{◌≡◌, ◌∙◌, ℕ, Bool, true, false, [], ◌∷◌, Option, Some, refl, sym, ap, subst, if◌then◌else◌}
use Rattle.std.proofs.lemmas.Bool.{eqb-true}
use Rattle.std.proofs.lemmas.Option.{same_Some}
use Rattle.flux_atom.specs.declared.atom.Atom.{Atom}
use Rattle.flux_atom.specs.declared.atom.Atom.TheVariants.{Bool as Truth, Text as Words, Int as Number}
use Rattle.flux_atom.specs.declared.atom.AtomKind.TheVariants as kind
use Rattle.flux_atom.specs.Atom.{kind_of}
use Rattle.flux_trees.specs.Hedge.{Plain, nil, elem, leaf, trees}
use Rattle.flux_schema.specs.Ty.{Ty, empty, atom, element, any_element, seq, alt, star, named}
use Rattle.flux_schema.specs.Definitions.{Definitions, body_of}
use Rattle.flux_schema.specs.Member.{Member, in_empty, in_atom, in_element, in_any, in_name}
use Rattle.flux_schema.specs.Single.{Single, of_atom, of_element, of_any, of_name as of_named}
use Rattle.flux_calculus.specs.declared.ask.Test.{Test}
use Rattle.flux_calculus.specs.declared.ask.Test.TheVariants.{Label, AnyElement, OfText, OfBool, OfInt}
use Rattle.flux_calculus.specs.declared.ask.Var.{Var}
use Rattle.flux_calculus.specs.Tests.{element_matches, kind_matches, is_tree, matches}
use Rattle.flux_calculus.specs.Query.{Environment, found, same_var, truth_of}
use Rattle.flux_calculus.specs.Typing.{Context, Suits, IsAtomic, content_type}
use Rattle.flux_typing.specs.Update.{Verdict, passes, fails, undecided, passes_if, verdict}

truth_atom : (x : Atom) → kind_of x ≡ kind.Bool → (b : Bool) × (truth_of (leaf tt x nil) ≡ Some b)
truth_atom (Truth b) e = (b, refl)
truth_atom (Words w) e = cc
truth_atom (Number z) e = cc

-- whether a tree passes, as the verdict on its type says
abbrev pub Tells : Verdict → Bool → Plain → Type 0
Tells passes b v = b ≡ true
Tells fails b v = b ≡ false
Tells (undecided n) b v = b ≡ true → (c : Plain) × (v ≡ elem tt n c nil)

tells_if : (b : Bool) (v : Plain) → Tells (passes_if b) b v
tells_if true v = refl
tells_if false v = refl

tells_any : (p : Test) (n : ℕ) (c : Plain) (t : Ty) → Tells (verdict p (any_element t)) (element_matches p n) (elem tt n c nil)
tells_any (Label m) n c t = λ e. (c, ap (λ k. elem tt k c nil) (eqb-true n m e))
tells_any AnyElement n c t = refl
tells_any OfText n c t = refl
tells_any OfBool n c t = refl
tells_any OfInt n c t = refl

abbrev IsBoundIn : Definitions → Ty → Option Plain → Type 0
IsBoundIn Δ t o = (v : Plain) × (o ≡ Some v) × Member Δ v t

module _ {Δ : Definitions} where
  pub member_of_body : {x : ℕ} {t : Ty} {v : Plain} → body_of Δ x ≡ Some t → Member Δ v (named x) → Member Δ v t
  member_of_body {v = v} e (in_name x f m) = subst (λ u. Member Δ v u) (same_Some _ _ (sym f ∙ e)) m

  pub member_single : {t a : Ty} {v : Plain} → Single Δ t a → Member Δ v t → Member Δ v a
  member_single (of_atom k) m = m
  member_single (of_element n t) m = m
  member_single (of_any t) m = m
  member_single (of_named x e h) m = member_single h (member_of_body e m)

  pub single_atomic : {t a : Ty} → Single Δ t a → IsAtomic a
  single_atomic (of_atom k) = tt
  single_atomic (of_element n t) = tt
  single_atomic (of_any t) = tt
  single_atomic (of_named x e h) = single_atomic h

  pub one_tree : {a : Ty} {v : Plain} → IsAtomic a → Member Δ v a → trees v ≡ v ∷ []
  one_tree i (in_atom x e) = refl
  one_tree i (in_element n m) = refl
  one_tree i (in_any n m) = refl
  one_tree i _ = absurd i

  pub one_is_tree : {a : Ty} {v : Plain} → IsAtomic a → Member Δ v a → is_tree v ≡ true
  one_is_tree i (in_atom x e) = refl
  one_is_tree i (in_element n m) = refl
  one_is_tree i (in_any n m) = refl
  one_is_tree i _ = absurd i

  pub element_is : {n : ℕ} {u : Ty} {v : Plain} → Member Δ v (element n u) → (c : Plain) × (v ≡ elem tt n c nil) × Member Δ c u
  element_is (in_element _ {v = c} m) = (c, refl, m)

  pub any_is : {u : Ty} {v : Plain} → Member Δ v (any_element u) → (n : ℕ) × (c : Plain) × (v ≡ elem tt n c nil) × Member Δ c u
  any_is (in_any n {v = c} m) = (n, c, refl, m)

  pub nothing_is : {v : Plain} → Member Δ v empty → v ≡ nil
  nothing_is in_empty = refl

  pub truth_in : {v : Plain} → Member Δ v (atom kind.Bool) → (b : Bool) × (truth_of v ≡ Some b)
  truth_in (in_atom x e) = truth_atom x e

  -- ---- tests

  tells : (p : Test) {a : Ty} {v : Plain} → IsAtomic a → Member Δ v a → Tells (verdict p a) (matches p v) v
  tells p i (in_atom x {k} e) = subst (λ l. Tells (verdict p (atom l)) (kind_matches p (kind_of x)) (leaf tt x nil)) e (tells_if (kind_matches p (kind_of x)) (leaf tt x nil))
  tells p i (in_element n {v} {t} m) = tells_if (element_matches p n) (elem tt n v nil)
  tells p i (in_any n {v} {t} m) = tells_any p n v t
  tells p i _ = absurd i

  pub told : (w : Verdict) {t a : Ty} {v : Plain} (p : Test) → Single Δ t a → verdict p a ≡ w → Member Δ v t → Tells w (matches p v) v
  told w {v = v} p h e m = subst (λ z. Tells z (matches p v) v) e (tells p (single_atomic h) (member_single h m))

  content_inside : {n : ℕ} {c : Plain} (a : Ty) → IsAtomic a → Member Δ (elem tt n c nil) a → Member Δ c (content_type a)
  content_inside (element m t) i (in_element _ k) = k
  content_inside (any_element t) i (in_any _ k) = k
  content_inside (atom k) i m = elim m [ ]
  content_inside empty i m = absurd i
  content_inside (seq t u) i m = absurd i
  content_inside (alt t u) i m = absurd i
  content_inside (star t) i m = absurd i
  content_inside (named x) i m = absurd i

  pub labelled : (n : ℕ) (c v : Plain) (a : Ty) → IsAtomic a → v ≡ elem tt n c nil → Member Δ v a → Member Δ v (element n (content_type a))
  labelled n c v a i e m =
      let k : Member Δ c (content_type a) = content_inside a i (subst (λ w. Member Δ w a) e m) in
      subst (λ w. Member Δ w (element n (content_type a))) (sym e) (in_element n k)

  -- ---- variables

  bound_by : (b : Bool) (t u : Ty) (v : Plain) (o : Option Ty) (p : Option Plain) → Member Δ v t → (o ≡ Some u → IsBoundIn Δ u p) → (if b then Some t else o) ≡ Some u → IsBoundIn Δ u (if b then Some v else p)
  bound_by true t u v o p m f e = (v, refl, subst (λ w. Member Δ v w) (same_Some _ _ e) m)
  bound_by false t u v o p m f e = f e

  pub suits_bound : (Γ : Context) (γ : Environment) (x : Var) (t : Ty) (v : Plain) → Suits Δ Γ γ → Member Δ v t → Suits Δ ((x, t) ∷ Γ) ((x, v) ∷ γ)
  suits_bound Γ γ x t v s m y u e = bound_by (same_var x y) t u v (found Γ y) (found γ y) m (s y u) e

  pub suits_nothing : Suits Δ [] []
  suits_nothing x t e = cc
