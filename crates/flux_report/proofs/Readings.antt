-- Pieces that are the items of a type are read as it.
use Rattle.std.proofs.Common.{◌+◌, ℕ, List, [], slice_get, refl, if◌then◌else◌}
use Rattle.flux_schema.specs.Definitions.{Definitions, names_of, Differ}
use Rattle.flux_schema.specs.Ty.{Ty, empty, atom, element, any_element, seq, alt, star, named}
use Rattle.flux_schema.specs.TypeText.{IsWritable, is_choice, is_empty, is_list}
use Rattle.flux_report.specs.ReadsBack.{depth, enclosing}
use Rattle.flux_report.proofs.Items.{Item, grouped, items_of}
use Rattle.flux_report.proofs.Forms.{AltForm, SeqForm, PostForm, alt_form, seq_form, read_content}
use Rattle.flux_report.proofs.Atoms.{group_form, empty_form, ContentForm, no_content_form, elem_form, any_form, kind_form, name_form}
use Rattle.flux_report.proofs.Joins.{alt_joined, seq_joined, star_form}

module _ (defs : Definitions) where
  -- read as parts of a choice, as parts of a sequence, and under marks
  abbrev Forms : Ty → Type 0
  Forms t =
      AltForm defs (depth t) (items_of defs t) t
      × SeqForm defs (enclosing (is_choice t) (depth t)) (grouped (is_choice t) (items_of defs t)) t
      × PostForm defs (enclosing (is_list t) (depth t)) (grouped (is_list t) (items_of defs t)) t

  abbrev Forms_of : ℕ → List Item → Ty → Type 0
  Forms_of k is t = AltForm defs k is t × SeqForm defs k is t × PostForm defs k is t

  alone : (k : ℕ) (is : List Item) (t : Ty) → PostForm defs k is t → Forms_of k is t
  alone k is t form =
      let s = seq_form defs k is t form in
      (alt_form defs k is t s, s, form)

  content_form : (t : Ty) → AltForm defs (depth t) (items_of defs t) t → ContentForm defs (if is_empty t then 0 else depth t + 1) (if is_empty t then [] else items_of defs t) t
  content_form empty form = no_content_form defs
  content_form t form = read_content defs _ _ t form

  pub forms : Differ (names_of defs) → (m : ℕ) (t : Ty) → IsWritable m defs t → Forms t
  forms apart m empty w = alone _ _ empty (empty_form defs)
  forms apart m (atom k) w = alone _ _ (atom k) (kind_form defs k)
  forms apart m (element n t) w = alone _ _ (element n t) (elem_form defs _ _ t n (content_form t (forms apart m t w.1).0))
  forms apart m (any_element t) w = alone _ _ (any_element t) (any_form defs _ _ t (content_form t (forms apart m t w).0))
  forms apart m (seq t u) w =
      let s = seq_joined defs _ _ _ _ t u (forms apart m t w.0).1 (forms apart m u w.1).1 in
      let a = alt_form defs _ _ (seq t u) s in
      (a, s, group_form defs _ _ (seq t u) a)
  forms apart m (alt t u) w =
      let a = alt_joined defs _ _ _ _ t u (forms apart m t w.0).0 (forms apart m u w.1).0 in
      let p = group_form defs _ _ (alt t u) a in
      (a, seq_form defs _ _ (alt t u) p, p)
  forms apart m (star t) w = alone _ _ (star t) (star_form defs _ _ t (forms apart m t w).2)
  forms apart m (named x) w = alone _ _ (named x) (name_form defs apart m x (slice_get defs x) refl w)
