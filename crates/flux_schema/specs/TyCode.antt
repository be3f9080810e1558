-- The code of a type: its prefix notation, which is read back from the right, onto a stack.
use Rattle.std.specs.Prelude.{◌≡◌, ◌⊎◌, ℕ, List, [], ◌∷◌, Bool, true, false, refl}
use Rattle.std.proofs.Common.{ap, ◌∙◌, inl, inr}
use Rattle.std.specs.Coded.{Coded, code_by, coded_ℕ, coded_bool, coded_list, coded⊎}
use base.Stored.{coded_unit}
use Rattle.flux_atom.specs.declared.atom.AtomKind.{AtomKind}
use Rattle.flux_atom.specs.declared.atom.AtomKind.TheVariants as kind
use Rattle.flux_schema.specs.Ty.{Ty, empty, atom, element, any_element, seq, alt, star, named}

-- a kind as a number of two bits
abbrev Bits : Type 0
Bits = Bool ⊎ Unit {0}

abbrev from_kind : AtomKind → Bits
from_kind kind.Bool = inl true
from_kind kind.Text = inl false
from_kind kind.Int = inr tt

abbrev to_kind : Bits → AtomKind
to_kind (inl true) = kind.Bool
to_kind (inl false) = kind.Text
to_kind (inr _) = kind.Int

pub to_kind-from_kind : (k : AtomKind) → to_kind (from_kind k) ≡ k
to_kind-from_kind kind.Bool = refl
to_kind-from_kind kind.Text = refl
to_kind-from_kind kind.Int = refl

-- a mark of the prefix notation: a leaf that is empty, an atom or a name, or else an element, one
-- of any label, a star, a sequence or a choice
abbrev Mark : Type 0
Mark = (Unit {0} ⊎ (Bits ⊎ ℕ)) ⊎ (ℕ ⊎ (Bool ⊎ Bool))

-- the marks of a type, in front of those of k
abbrev marks_before : Ty → List Mark → List Mark
marks_before empty k = inl (inl tt) ∷ k
marks_before (atom a) k = inl (inr (inl (from_kind a))) ∷ k
marks_before (named x) k = inl (inr (inr x)) ∷ k
marks_before (element n t) k = inr (inl n) ∷ marks_before t k
marks_before (any_element t) k = inr (inr (inl true)) ∷ marks_before t k
marks_before (star t) k = inr (inr (inl false)) ∷ marks_before t k
marks_before (seq t u) k = inr (inr (inr true)) ∷ marks_before t (marks_before u k)
marks_before (alt t u) k = inr (inr (inr false)) ∷ marks_before t (marks_before u k)

-- the type on top changed
abbrev put_one : (Ty → Ty) → List Ty → List Ty
put_one f [] = []
put_one f (t ∷ s) = f t ∷ s

-- the two types on top made one
abbrev put_two : (Ty → Ty → Ty) → List Ty → List Ty
put_two f [] = []
put_two f (t ∷ []) = []
put_two f (t ∷ (u ∷ s)) = f t u ∷ s

-- the stack of the types that the marks write
abbrev read : List Mark → List Ty
read [] = []
read (inl (inl _) ∷ k) = empty ∷ read k
read (inl (inr (inl b)) ∷ k) = atom (to_kind b) ∷ read k
read (inl (inr (inr x)) ∷ k) = named x ∷ read k
read (inr (inl n) ∷ k) = put_one (element n) (read k)
read (inr (inr (inl true)) ∷ k) = put_one any_element (read k)
read (inr (inr (inl false)) ∷ k) = put_one star (read k)
read (inr (inr (inr true)) ∷ k) = put_two seq (read k)
read (inr (inr (inr false)) ∷ k) = put_two alt (read k)

pub read-marks : (t : Ty) (k : List Mark) → read (marks_before t k) ≡ t ∷ read k
read-marks empty k = refl
read-marks (atom a) k = ap (λ b. atom b ∷ read k) (to_kind-from_kind a)
read-marks (named x) k = refl
read-marks (element n t) k = ap (put_one (element n)) (read-marks t k)
read-marks (any_element t) k = ap (put_one any_element) (read-marks t k)
read-marks (star t) k = ap (put_one star) (read-marks t k)
read-marks (seq t u) k =
    ap (put_two seq) (read-marks t (marks_before u k) ∙ ap (λ s. t ∷ s) (read-marks u k))
read-marks (alt t u) k =
    ap (put_two alt) (read-marks t (marks_before u k) ∙ ap (λ s. t ∷ s) (read-marks u k))

abbrev top : List Ty → Ty
top [] = empty
top (t ∷ s) = t

-- the code of a type
abbrev pub ty_code : Coded Ty
ty_code =
    code_by (List Mark)
    (coded_list (coded⊎
    (coded⊎ coded_unit (coded⊎ (coded⊎ coded_bool coded_unit) coded_ℕ))
    (coded⊎ coded_ℕ (coded⊎ coded_bool coded_bool))))
    (λ t. marks_before t []) (λ ms. top (read ms)) (λ t. ap top (read-marks t []))
