-- Types with the same members, and their parts.
use Rattle.std.proofs.Common.{ℕ, refl, sym, ◌∙◌, ap}
use Rattle.flux_trees.specs.Hedge.{Plain, join}
use Rattle.flux_trees.proofs.HedgeLaws.{join_assoc}
use Rattle.flux_schema.specs.Definitions.{Definitions}
use Rattle.flux_schema.specs.Member.{Member, in_element, in_any, in_seq, in_left, in_right, in_done, in_more, SameMembers}
use Rattle.flux_schema.specs.Ty.{Ty, element, any_element, seq, alt, star}

module _ (defs : Definitions) where
  abbrev Into : Ty → Ty → Type 0
  Into t u = (v : Plain) → Member defs v t → Member defs v u

  under_element : {t u : Ty} → Into t u → (n : ℕ) → Into (element n t) (element n u)
  under_element f n v (in_element m k) = in_element m (f _ k)

  under_any : {t u : Ty} → Into t u → Into (any_element t) (any_element u)
  under_any f v (in_any m k) = in_any m (f _ k)

  under_seq : {t u t' u' : Ty} → Into t t' → Into u u' → Into (seq t u) (seq t' u')
  under_seq f g z (in_seq v w e m k) = in_seq v w e (f v m) (g w k)

  under_alt : {t u t' u' : Ty} → Into t t' → Into u u' → Into (alt t u) (alt t' u')
  under_alt f g v (in_left u m) = in_left _ (f _ m)
  under_alt f g v (in_right t m) = in_right _ (g _ m)

  under_star : {t u : Ty} → Into t u → Into (star t) (star u)
  under_star f v (in_done t) = in_done _
  under_star f z (in_more v w e m k) = in_more v w e (f v m) (under_star f w k)

  pub same_refl : (t : Ty) → SameMembers defs t t
  same_refl t v = (λ m. m, λ m. m)

  pub same_trans : {t u w : Ty} → SameMembers defs t u → SameMembers defs u w → SameMembers defs t w
  same_trans a b v = (λ m. (b v).0 ((a v).0 m), λ m. (a v).1 ((b v).1 m))

  pub same_element : {t u : Ty} (n : ℕ) → SameMembers defs t u → SameMembers defs (element n t) (element n u)
  same_element n a v = (under_element (λ w. (a w).0) n v, under_element (λ w. (a w).1) n v)

  pub same_any : {t u : Ty} → SameMembers defs t u → SameMembers defs (any_element t) (any_element u)
  same_any a v = (under_any (λ w. (a w).0) v, under_any (λ w. (a w).1) v)

  pub same_seq : (t u t' u' : Ty) → SameMembers defs t t' → SameMembers defs u u' → SameMembers defs (seq t u) (seq t' u')
  same_seq t u t' u' a b v = (under_seq (λ w. (a w).0) (λ w. (b w).0) v, under_seq (λ w. (a w).1) (λ w. (b w).1) v)

  pub same_alt : (t u t' u' : Ty) → SameMembers defs t t' → SameMembers defs u u' → SameMembers defs (alt t u) (alt t' u')
  same_alt t u t' u' a b v = (under_alt (λ w. (a w).0) (λ w. (b w).0) v, under_alt (λ w. (a w).1) (λ w. (b w).1) v)

  pub same_star : {t u : Ty} → SameMembers defs t u → SameMembers defs (star t) (star u)
  same_star a v = (under_star (λ w. (a w).0) v, under_star (λ w. (a w).1) v)

  -- parts can be put together from either side
  seq_right : {t u w : Ty} → Into (seq (seq t u) w) (seq t (seq u w))
  seq_right z (in_seq x y e (in_seq a b f m k) l) =
      in_seq a (join b y) (sym (join_assoc a b y) ∙ ap (λ p. join p y) f ∙ e) m (in_seq b y refl k l)

  seq_left : {t u w : Ty} → Into (seq t (seq u w)) (seq (seq t u) w)
  seq_left z (in_seq a x e m (in_seq b y f k l)) =
      in_seq (join a b) y (join_assoc a b y ∙ ap (join a) f ∙ e) (in_seq a b refl m k) l

  alt_right : {t u w : Ty} → Into (alt (alt t u) w) (alt t (alt u w))
  alt_right v (in_left w (in_left u m)) = in_left _ m
  alt_right v (in_left w (in_right t m)) = in_right _ (in_left _ m)
  alt_right v (in_right t m) = in_right _ (in_right _ m)

  alt_left : {t u w : Ty} → Into (alt t (alt u w)) (alt (alt t u) w)
  alt_left v (in_left w m) = in_left _ (in_left _ m)
  alt_left v (in_right t (in_left w m)) = in_left _ (in_right _ m)
  alt_left v (in_right t (in_right u m)) = in_right _ m

  pub seq_assoc : (t u w : Ty) → SameMembers defs (seq (seq t u) w) (seq t (seq u w))
  seq_assoc t u w v = (seq_right v, seq_left v)

  pub alt_assoc : (t u w : Ty) → SameMembers defs (alt (alt t u) w) (alt t (alt u w))
  alt_assoc t u w v = (alt_right v, alt_left v)
