-- Tidying keeps the members, and what a type names.
use Rattle.std.proofs.Common.{◌≡◌, ℕ, Bool, true, false, cond, refl, sym, subst, ◌∙◌}
use Rattle.flux_trees.specs.Hedge.{Plain, nil}
use Rattle.flux_trees.proofs.HedgeLaws.{join-nil}
use Rattle.flux_schema.specs.Ty.{Ty, empty, atom, element, any_element, seq, alt, star, named, NamesBelow}
use Rattle.flux_schema.specs.Definitions.{Definitions}
use Rattle.flux_schema.specs.Member.{Member, in_empty, in_element, in_any, in_seq, in_left, in_right, in_done, in_more, SameMembers}
use Rattle.flux_schema.specs.Tidy.{same, tidy_seq, tidy_alt, tidy_star, tidy}
use Rattle.flux_schema.specs.TypeText.{IsWritable}
use Rattle.flux_schema.proofs.SameLaws.{same-eq}

-- ---- from members of the parts

under_element : {defs : Definitions} {t u : Ty} → ((v : Plain) → Member defs v t → Member defs v u) → {n : ℕ} {v : Plain} → Member defs v (element n t) → Member defs v (element n u)
under_element f (in_element n m) = in_element n (f _ m)

under_any : {defs : Definitions} {t u : Ty} → ((v : Plain) → Member defs v t → Member defs v u) → {v : Plain} → Member defs v (any_element t) → Member defs v (any_element u)
under_any f (in_any n m) = in_any n (f _ m)

under_seq : {defs : Definitions} {t u t' u' : Ty} → ((v : Plain) → Member defs v t → Member defs v t') → ((v : Plain) → Member defs v u → Member defs v u') → {v : Plain} → Member defs v (seq t u) → Member defs v (seq t' u')
under_seq f g (in_seq v w e m k) = in_seq v w e (f v m) (g w k)

under_alt : {defs : Definitions} {t u t' u' : Ty} → ((v : Plain) → Member defs v t → Member defs v t') → ((v : Plain) → Member defs v u → Member defs v u') → {v : Plain} → Member defs v (alt t u) → Member defs v (alt t' u')
under_alt f g (in_left u m) = in_left _ (f _ m)
under_alt f g (in_right t m) = in_right _ (g _ m)

under_star : {defs : Definitions} {t t' : Ty} → ((v : Plain) → Member defs v t → Member defs v t') → {v : Plain} → Member defs v (star t) → Member defs v (star t')
under_star f (in_done t) = in_done _
under_star f (in_more v w e m k) = in_more v w e (f v m) (under_star f k)

-- ---- each step of tidying

same_refl : (defs : Definitions) (t : Ty) → SameMembers defs t t
same_refl defs t v = (λ m. m, λ m. m)

same_trans : {defs : Definitions} {t u w : Ty} → SameMembers defs t u → SameMembers defs u w → SameMembers defs t w
same_trans a b v = (λ m. (b v).0 ((a v).0 m), λ m. (a v).1 ((b v).1 m))

drop_left : {defs : Definitions} {u : Ty} {v : Plain} → Member defs v (seq empty u) → Member defs v u
drop_left {defs = defs} {u = u} (in_seq v w e in_empty k) = subst (λ z. Member defs z u) e k

drop_right : {defs : Definitions} {t : Ty} {v : Plain} → Member defs v (seq t empty) → Member defs v t
drop_right {defs = defs} {t = t} (in_seq v w e m in_empty) = subst (λ z. Member defs z t) (sym (join-nil v) ∙ e) m

add_right : (defs : Definitions) (t : Ty) (v : Plain) → Member defs v t → Member defs v (seq t empty)
add_right defs t v m = in_seq v nil (join-nil v) m in_empty

seq_step : (defs : Definitions) (t u : Ty) → SameMembers defs (seq t u) (tidy_seq t u)
seq_step defs empty u = λ v. (drop_left, in_seq nil v refl in_empty)
seq_step defs t empty = λ v. (drop_right, add_right defs _ v)
seq_step defs t u = same_refl defs _

either_same : {defs : Definitions} {t : Ty} {v : Plain} → Member defs v (alt t t) → Member defs v t
either_same (in_left u m) = m
either_same (in_right t m) = m

alt_by : (defs : Definitions) (t u : Ty) (b : Bool) → same t u ≡ b → SameMembers defs (alt t u) (cond b t (alt t u))
alt_by defs t u true e = subst (λ w. SameMembers defs (alt t w) t) (same-eq t u e) (λ v. (either_same, in_left t))
alt_by defs t u false e = same_refl defs _

alt_step : (defs : Definitions) (t u : Ty) → SameMembers defs (alt t u) (tidy_alt t u)
alt_step defs t u = alt_by defs t u (same t u) refl

star_of_nil : {defs : Definitions} {v : Plain} → Member defs v (star empty) → Member defs v empty
star_of_nil (in_done t) = in_empty
star_of_nil {defs = defs} (in_more v w e in_empty k) = subst (λ z. Member defs z empty) e (star_of_nil k)

star_of_empty : {defs : Definitions} {v : Plain} → Member defs v empty → Member defs v (star empty)
star_of_empty in_empty = in_done empty

star_step : (defs : Definitions) (t : Ty) → SameMembers defs (star t) (tidy_star t)
star_step defs empty = λ v. (star_of_nil, star_of_empty)
star_step defs t = same_refl defs _

-- a type and its tidied form have the same members
pub tidy-members : (defs : Definitions) (t : Ty) → SameMembers defs t (tidy t)
tidy-members defs empty = same_refl defs _
tidy-members defs (atom k) = same_refl defs _
tidy-members defs (element n t) = λ v. (under_element (λ w. (tidy-members defs t w).0), under_element (λ w. (tidy-members defs t w).1))
tidy-members defs (any_element t) = λ v. (under_any (λ w. (tidy-members defs t w).0), under_any (λ w. (tidy-members defs t w).1))
tidy-members defs (seq t u) = same_trans (λ v. (under_seq (λ w. (tidy-members defs t w).0) (λ w. (tidy-members defs u w).0), under_seq (λ w. (tidy-members defs t w).1) (λ w. (tidy-members defs u w).1))) (seq_step defs (tidy t) (tidy u))
tidy-members defs (alt t u) = same_trans (λ v. (under_alt (λ w. (tidy-members defs t w).0) (λ w. (tidy-members defs u w).0), under_alt (λ w. (tidy-members defs t w).1) (λ w. (tidy-members defs u w).1))) (alt_step defs (tidy t) (tidy u))
tidy-members defs (star t) = same_trans (λ v. (under_star (λ w. (tidy-members defs t w).0), under_star (λ w. (tidy-members defs t w).1))) (star_step defs (tidy t))
tidy-members defs (named x) = same_refl defs _

pub tidied_members : (defs : Definitions) (t u : Ty) → u ≡ tidy t → SameMembers defs t u
tidied_members defs t u e = subst (SameMembers defs t) (sym e) (tidy-members defs t)

-- ---- what a tidied type names

writable_seq : (n : ℕ) (defs : Definitions) (t u : Ty) → IsWritable n defs t → IsWritable n defs u → IsWritable n defs (tidy_seq t u)
writable_seq n defs empty u p q = q
writable_seq n defs t empty p q = p
writable_seq n defs t u p q = (p, q)

writable_alt : (n : ℕ) (defs : Definitions) (t u : Ty) (b : Bool) → IsWritable n defs t → IsWritable n defs u → IsWritable n defs (cond b t (alt t u))
writable_alt n defs t u true p q = p
writable_alt n defs t u false p q = (p, q)

writable_star : (n : ℕ) (defs : Definitions) (t : Ty) → IsWritable n defs t → IsWritable n defs (tidy_star t)
writable_star n defs empty p = p
writable_star n defs t p = p

-- a type that can be written can be written tidied
pub tidy_writable : (n : ℕ) (defs : Definitions) (t : Ty) → IsWritable n defs t → IsWritable n defs (tidy t)
tidy_writable n defs empty p = p
tidy_writable n defs (atom k) p = p
tidy_writable n defs (element m t) p = (p.0, tidy_writable n defs t p.1)
tidy_writable n defs (any_element t) p = tidy_writable n defs t p
tidy_writable n defs (seq t u) p = writable_seq n defs (tidy t) (tidy u) (tidy_writable n defs t p.0) (tidy_writable n defs u p.1)
tidy_writable n defs (alt t u) p = writable_alt n defs (tidy t) (tidy u) (same (tidy t) (tidy u)) (tidy_writable n defs t p.0) (tidy_writable n defs u p.1)
tidy_writable n defs (star t) p = writable_star n defs (tidy t) (tidy_writable n defs t p)
tidy_writable n defs (named x) p = p
