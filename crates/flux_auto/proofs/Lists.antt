-- What members of a type, and then of a list of types, begin with.
use Rattle.std.proofs.Common.{◌≡◌, ◌⊎◌, ℕ, List, [], ◌∷◌, Some, Bool, true, false, ◌&&◌, ◌||◌, refl, sym, ap, ap₂, subst, ◌∙◌, inl, inr}
use Rattle.flux_atom.specs.declared.atom.Atom.{Atom as Value}
use Rattle.flux_atom.specs.declared.atom.AtomKind.{AtomKind}
use Rattle.flux_atom.specs.Atom.{kind_of}
use Rattle.std.proofs.lemmas.Bool.{or_right, and_parts}
use Rattle.flux_trees.specs.Hedge.{Plain, nil, elem, leaf, join}
use Rattle.flux_trees.proofs.HedgeLaws.{join-nil, join_assoc}
use Rattle.flux_schema.specs.Ty.{Ty, empty, atom, element, any_element, seq, alt, star, named}
use Rattle.flux_schema.specs.Definitions.{Definitions, body_of}
use Rattle.flux_schema.specs.Member.{Member, in_empty, in_atom, in_element, in_any, in_seq, in_left, in_right, in_done, in_more, in_name}
use Rattle.flux_auto.specs.Standing.{In, Starts, is_nullable}
use Rattle.flux_auto.proofs.Items.{some_is}

pub nil_or : (v : Plain) → (v ≡ nil) ⊎ (v ≡ nil → ⊥)
nil_or nil = inl refl
nil_or (elem n a c r) = inr (λ e. cc)
nil_or (leaf n x r) = inr (λ e. cc)

pub nil_parts : (v w : Plain) → join v w ≡ nil → (v ≡ nil) × (w ≡ nil)
nil_parts nil w e = (refl, e)
nil_parts (elem n a c r) w e = cc
nil_parts (leaf n x r) w e = cc

-- ---- the parts of a membership

module _ (defs : Definitions) where
  of_empty : {v : Plain} → Member defs v empty → v ≡ nil
  of_empty in_empty = refl

  of_atom : {v : Plain} {k : AtomKind} → Member defs v (atom k) → (x : Value) × (kind_of x ≡ k) × (v ≡ leaf tt x nil)
  of_atom (in_atom x e) = (x, e, refl)

  of_element : {v : Plain} {n : ℕ} {t : Ty} → Member defs v (element n t) → (c : Plain) × (v ≡ elem tt n c nil) × Member defs c t
  of_element (in_element n {v} m) = (v, refl, m)

  of_any : {v : Plain} {t : Ty} → Member defs v (any_element t) → (n : ℕ) × (c : Plain) × (v ≡ elem tt n c nil) × Member defs c t
  of_any (in_any n {v} m) = (n, v, refl, m)

  of_seq : {z : Plain} {t u : Ty} → Member defs z (seq t u) → (v : Plain) × (w : Plain) × (join v w ≡ z) × Member defs v t × Member defs w u
  of_seq (in_seq v w j m n) = (v, w, j, m, n)

  of_alt : {v : Plain} {t u : Ty} → Member defs v (alt t u) → Member defs v t ⊎ Member defs v u
  of_alt (in_left u m) = inl m
  of_alt (in_right t m) = inr m

  pub of_name : {v : Plain} {x : ℕ} → Member defs v (named x) → (t : Ty) × (body_of defs x ≡ Some t) × Member defs v t
  of_name (in_name x {t} e m) = (t, e, m)

  -- a member of a star that isn't empty begins with a member that isn't
  pub of_star : (z : Plain) (u : Ty) → Member defs z u → (t : Ty) → u ≡ star t → (z ≡ nil → ⊥) → (v : Plain) × (w : Plain) × (join v w ≡ z) × (v ≡ nil → ⊥) × Member defs v t × Member defs w (star t)
  of_star _ _ in_empty t e ne = cc
  of_star _ _ (in_atom x is) t e ne = cc
  of_star _ _ (in_element n m) t e ne = cc
  of_star _ _ (in_any n m) t e ne = cc
  of_star _ _ (in_seq v w j m n) t e ne = cc
  of_star _ _ (in_left u m) t e ne = cc
  of_star _ _ (in_right u m) t e ne = cc
  of_star _ _ (in_done u) t e ne = absurd (ne refl)
  of_star _ _ (in_name x is m) t e ne = cc
  of_star z _ (in_more v w {t = u} j m n) t e ne =
      let same : u ≡ t = cc in
      elim (nil_or v) [
        | inr full ↦ (v, w, j, full, subst (Member defs v) same m, subst (λ x. Member defs w (star x)) same n)
        | inl is ↦
            let rest : w ≡ z = ap (λ x. join x w) (sym is) ∙ j in
            let r = of_star w (star u) n t e (λ k. ne (sym rest ∙ k)) in
            (r.0, r.1, r.2 ∙ rest, r.3, r.4, r.5)
      ]

  -- ---- nullable types

  either : (a b : Bool) → a || b ≡ true → (a ≡ true) ⊎ (b ≡ true)
  either true b e = inl refl
  either false b e = inr e

  pub is_nullable-sound : (q : ℕ → Bool) → ((x : ℕ) → q x ≡ true → Member defs nil (named x)) → (t : Ty) → is_nullable q t ≡ true → Member defs nil t
  is_nullable-sound q s empty e = in_empty
  is_nullable-sound q s (atom a) e = cc
  is_nullable-sound q s (element n t) e = cc
  is_nullable-sound q s (any_element t) e = cc
  is_nullable-sound q s (seq t u) e = let p = and_parts _ _ e in in_seq nil nil refl (is_nullable-sound q s t p.0) (is_nullable-sound q s u p.1)
  is_nullable-sound q s (alt t u) e = elim (either _ _ e) [ inl h ↦ in_left u (is_nullable-sound q s t h) | inr h ↦ in_right t (is_nullable-sound q s u h) ]
  is_nullable-sound q s (star t) e = in_done t
  is_nullable-sound q s (named x) e = s x e

  -- where each name whose body is nullable is marked
  pub is_nullable-complete : (q : ℕ → Bool) → ((x : ℕ) (t : Ty) → body_of defs x ≡ Some t → is_nullable q t ≡ true → q x ≡ true) → (v : Plain) (t : Ty) → Member defs v t → v ≡ nil → is_nullable q t ≡ true
  is_nullable-complete q f _ _ in_empty e = refl
  is_nullable-complete q f _ _ (in_atom x is) e = cc
  is_nullable-complete q f _ _ (in_element n m) e = cc
  is_nullable-complete q f _ _ (in_any n m) e = cc
  is_nullable-complete q f _ _ (in_seq v w j m n) e =
      let p = nil_parts v w (j ∙ e) in
      ap₂ (λ a b. a && b) (is_nullable-complete q f _ _ m p.0) (is_nullable-complete q f _ _ n p.1)
  is_nullable-complete q f _ _ (in_left u m) e = ap (λ a. a || is_nullable q u) (is_nullable-complete q f _ _ m e)
  is_nullable-complete q f _ _ (in_right t m) e = or_right _ _ (is_nullable-complete q f _ _ m e)
  is_nullable-complete q f _ _ (in_done t) e = refl
  is_nullable-complete q f _ _ (in_more v w j m n) e = refl
  is_nullable-complete q f _ _ (in_name x {t} is m) e = f x t is (is_nullable-complete q f _ _ m e)

  -- ---- a type and then a list

  pub starts-empty : (k : List Ty) (z : Plain) → Starts defs empty k z → ⊥
  starts-empty k z (v, w, j, ne, m, i) = ne (of_empty m)

  pub starts-atom : (a : AtomKind) (k : List Ty) (z : Plain) → Starts defs (atom a) k z → (x : Value) × (w : Plain) × (z ≡ leaf tt x w) × (a ≡ kind_of x) × In defs w k
  starts-atom a k z (v, w, j, ne, m, i) = let p = of_atom m in (p.0, w, sym j ∙ ap (λ y. join y w) p.2, sym p.1, i)

  pub atom-starts : (x : Value) (k : List Ty) (w : Plain) → In defs w k → Starts defs (atom (kind_of x)) k (leaf tt x w)
  atom-starts x k w i = (leaf tt x nil, w, refl, (λ e. cc), in_atom x refl, i)

  pub starts-element : (n : ℕ) (t : Ty) (k : List Ty) (z : Plain) → Starts defs (element n t) k z → (c : Plain) × (w : Plain) × (z ≡ elem tt n c w) × Member defs c t × In defs w k
  starts-element n t k z (v, w, j, ne, m, i) = let p = of_element m in (p.0, w, sym j ∙ ap (λ y. join y w) p.1, p.2, i)

  pub element-starts : (n : ℕ) (t : Ty) (k : List Ty) (c w : Plain) → Member defs c t → In defs w k → Starts defs (element n t) k (elem tt n c w)
  element-starts n t k c w m i = (elem tt n c nil, w, refl, (λ e. cc), in_element n m, i)

  pub starts-any : (t : Ty) (k : List Ty) (z : Plain) → Starts defs (any_element t) k z → (n : ℕ) × (c : Plain) × (w : Plain) × (z ≡ elem tt n c w) × Member defs c t × In defs w k
  starts-any t k z (v, w, j, ne, m, i) = let p = of_any m in (p.0, p.1, w, sym j ∙ ap (λ y. join y w) p.2, p.3, i)

  pub any-starts : (n : ℕ) (t : Ty) (k : List Ty) (c w : Plain) → Member defs c t → In defs w k → Starts defs (any_element t) k (elem tt n c w)
  any-starts n t k c w m i = (elem tt n c nil, w, refl, (λ e. cc), in_any n m, i)

  pub starts-seq : (t u : Ty) (k : List Ty) (z : Plain) → Starts defs (seq t u) k z → Starts defs t (u ∷ k) z ⊎ (Member defs nil t × Starts defs u k z)
  starts-seq t u k z (v, w, j, ne, m, i) =
      let p = of_seq m in
      elim (nil_or p.0) [
        | inr full ↦ inl (p.0, join p.1 w, sym (join_assoc p.0 p.1 w) ∙ ap (λ y. join y w) p.2 ∙ j, full, p.3, (p.1, w, refl, p.4, i))
        | inl is ↦
            let same : p.1 ≡ v = ap (λ y. join y p.1) (sym is) ∙ p.2 in
            inr (subst (λ y. Member defs y t) is p.3, (p.1, w, ap (λ y. join y w) same ∙ j, (λ e. ne (sym same ∙ e)), p.4, i))
      ]

  pub seq-starts_first : (t u : Ty) (k : List Ty) (z : Plain) → Starts defs t (u ∷ k) z → Starts defs (seq t u) k z
  seq-starts_first t u k z (v, w, j, ne, m, (a, b, l, n, i)) =
      (join v a, b, join_assoc v a b ∙ ap (join v) l ∙ j, (λ e. ne (nil_parts v a e).0), in_seq v a refl m n, i)

  pub seq-starts_second : (t u : Ty) (k : List Ty) (z : Plain) → Member defs nil t → Starts defs u k z → Starts defs (seq t u) k z
  seq-starts_second t u k z n (v, w, j, ne, m, i) = (v, w, j, ne, in_seq nil v refl n m, i)

  pub starts-alt : (t u : Ty) (k : List Ty) (z : Plain) → Starts defs (alt t u) k z → Starts defs t k z ⊎ Starts defs u k z
  starts-alt t u k z (v, w, j, ne, m, i) = elim (of_alt m) [ inl h ↦ inl (v, w, j, ne, h, i) | inr h ↦ inr (v, w, j, ne, h, i) ]

  pub alt-starts_left : (t u : Ty) (k : List Ty) (z : Plain) → Starts defs t k z → Starts defs (alt t u) k z
  alt-starts_left t u k z (v, w, j, ne, m, i) = (v, w, j, ne, in_left u m, i)

  pub alt-starts_right : (t u : Ty) (k : List Ty) (z : Plain) → Starts defs u k z → Starts defs (alt t u) k z
  alt-starts_right t u k z (v, w, j, ne, m, i) = (v, w, j, ne, in_right t m, i)

  pub starts-star : (t : Ty) (k : List Ty) (z : Plain) → Starts defs (star t) k z → Starts defs t (star t ∷ k) z
  starts-star t k z (v, w, j, ne, m, i) =
      let p = of_star v (star t) m t refl ne in
      (p.0, join p.1 w, sym (join_assoc p.0 p.1 w) ∙ ap (λ y. join y w) p.2 ∙ j, p.3, p.4, (p.1, w, refl, p.5, i))

  pub star-starts : (t : Ty) (k : List Ty) (z : Plain) → Starts defs t (star t ∷ k) z → Starts defs (star t) k z
  star-starts t k z (v, w, j, ne, m, (a, b, l, n, i)) =
      (join v a, b, join_assoc v a b ∙ ap (join v) l ∙ j, (λ e. ne (nil_parts v a e).0), in_more v a refl m n, i)

  pub starts-name : (x : ℕ) (t : Ty) (k : List Ty) (z : Plain) → body_of defs x ≡ Some t → Starts defs (named x) k z → Starts defs t k z
  starts-name x t k z e (v, w, j, ne, m, i) =
      let p = of_name m in
      (v, w, j, ne, subst (Member defs v) (some_is p.0 t (sym p.1 ∙ e)) p.2, i)

  pub name-starts : (x : ℕ) (t : Ty) (k : List Ty) (z : Plain) → body_of defs x ≡ Some t → Starts defs t k z → Starts defs (named x) k z
  name-starts x t k z e (v, w, j, ne, m, i) = (v, w, j, ne, in_name x e m, i)

  -- ---- the first tree of a list

  pub in-cons : (t : Ty) (k : List Ty) (z : Plain) → In defs z (t ∷ k) → Starts defs t k z ⊎ (Member defs nil t × In defs z k)
  in-cons t k z (v, w, j, m, i) =
      elim (nil_or v) [
        | inr full ↦ inl (v, w, j, full, m, i)
        | inl is ↦ inr (subst (λ y. Member defs y t) is m, subst (λ y. In defs y k) (ap (λ y. join y w) (sym is) ∙ j) i)
      ]

  pub starts-in : (t : Ty) (k : List Ty) (z : Plain) → Starts defs t k z → In defs z (t ∷ k)
  starts-in t k z (v, w, j, ne, m, i) = (v, w, j, m, i)

  pub skips-in : (t : Ty) (k : List Ty) (z : Plain) → Member defs nil t → In defs z k → In defs z (t ∷ k)
  skips-in t k z m i = (nil, z, refl, m, i)

  pub starts-full : (t : Ty) (k : List Ty) (z : Plain) → Starts defs t k z → z ≡ nil → ⊥
  starts-full t k z (v, w, j, ne, m, i) e = ne (nil_parts v w (j ∙ e)).0

  -- the end stands for the empty type alone
  pub end-in : (z : Plain) → In defs z (empty ∷ []) → z ≡ nil
  end-in z (v, w, j, m, i) = sym j ∙ ap (λ y. join y w) (of_empty m) ∙ i

  pub in-end : In defs nil (empty ∷ [])
  in-end = (nil, nil, refl, in_empty, refl)

  pub alone-in : (t : Ty) (z : Plain) → In defs z (t ∷ (empty ∷ [])) → Member defs z t
  alone-in t z (v, w, j, m, i) = subst (λ y. Member defs y t) (sym (join-nil v) ∙ ap (join v) (sym (end-in w i)) ∙ j) m

  pub in-alone : (t : Ty) (z : Plain) → Member defs z t → In defs z (t ∷ (empty ∷ []))
  in-alone t z m = (z, nil, join-nil z, m, in-end)
