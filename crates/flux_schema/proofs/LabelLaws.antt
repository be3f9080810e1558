-- The laws of the labels that stand in types.
use Rattle.std.proofs.Common.{◌≡◌, ℕ, refl, subst, sym, inl, inr}
use Rattle.flux_schema.specs.Ty.{Ty, empty, atom, element, any_element, seq, alt, star, named}
use Rattle.flux_schema.specs.Labels.{EachLabelOf, IsLabelOf}

-- what holds of each label of a type holds of one that stands in it
pub each_label : (P : ℕ → Type 0) (n : ℕ) (t : Ty) → EachLabelOf P t → IsLabelOf n t → P n
each_label P n empty a h = absurd h
each_label P n (atom k) a h = absurd h
each_label P n (element m t) a (inl e) = subst P (sym e) a.0
each_label P n (element m t) a (inr h) = each_label P n t a.1 h
each_label P n (any_element t) a h = each_label P n t a h
each_label P n (seq t u) a (inl h) = each_label P n t a.0 h
each_label P n (seq t u) a (inr h) = each_label P n u a.1 h
each_label P n (alt t u) a (inl h) = each_label P n t a.0 h
each_label P n (alt t u) a (inr h) = each_label P n u a.1 h
each_label P n (star t) a h = each_label P n t a h
each_label P n (named x) a h = absurd h

-- what holds of each label that stands in a type holds of each of its labels
pub from_labels : (P : ℕ → Type 0) (t : Ty) → ((n : ℕ) → IsLabelOf n t → P n) → EachLabelOf P t
from_labels P empty f = tt
from_labels P (atom k) f = tt
from_labels P (element m t) f = (f m (inl refl), from_labels P t (λ n h. f n (inr h)))
from_labels P (any_element t) f = from_labels P t f
from_labels P (seq t u) f = (from_labels P t (λ n h. f n (inl h)), from_labels P u (λ n h. f n (inr h)))
from_labels P (alt t u) f = (from_labels P t (λ n h. f n (inl h)), from_labels P u (λ n h. f n (inr h)))
from_labels P (star t) f = from_labels P t f
from_labels P (named x) f = tt
