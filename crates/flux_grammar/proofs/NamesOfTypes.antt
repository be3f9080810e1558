-- What holds of each name of a written type holds of each label of the type that it stands for.
use Rattle.std.proofs.Common.{◌≡◌, ℕ, List, [], ◌∷◌, Option, Some, None, map, All, sym, subst, option_map}
use Rattle.std.proofs.lemmas.List.Elements.{All-head, All-tail}
use Rattle.flux_grammar.specs.declared.tree.Mark.{Mark}
use Rattle.flux_grammar.specs.declared.tree.Repetition.{Repetition}
use Rattle.flux_grammar.specs.declared.tree.Repetition.TheVariants.{Star, Plus, Optional}
use Rattle.flux_grammar.specs.declared.tree.TypeText.{TypeText, roll-TypeText}
use Rattle.flux_grammar.specs.declared.tree.TypeText.TheOpen.{TypeText-F}
use Rattle.flux_grammar.specs.declared.tree.TypeText.TheFolds.{fold-roll-TypeText, map-TypeText, ind-TypeText}
use Rattle.flux_grammar.specs.Names.{of_several, names_in_type_step, names_in_type, TypeTextNames}
use Rattle.flux_grammar.specs.TypeOf.{repeated, under_marks, both, nested, type_step, type_in}
use Rattle.flux_grammar.proofs.NameLists.{all_first, all_second}
use Rattle.flux_schema.specs.Labels.{EachLabelOf}
use Rattle.flux_schema.specs.Ty.{Ty, element, any_element, seq, alt, named}

module _ (P : ℕ → Type 0) (names : List ℕ) where
  -- P holds of each label of the type, if there is one
  abbrev pub EachLabel : Option Ty → Type 0
  EachLabel None = Unit {0}
  EachLabel (Some t) = EachLabelOf P t

  -- a type that joins two has no labels but theirs
  abbrev Joins : (Ty → Ty → Ty) → Type 0
  Joins join = (t u : Ty) → EachLabelOf P t → EachLabelOf P u → EachLabelOf P (join t u)

  abbrev Keeps : TypeText → Type 0
  Keeps t = TypeTextNames P t → EachLabel (type_in names t)

  abbrev Kept : Type 0
  Kept = (t : TypeText) × Keeps t

  of_both : (join : Ty → Ty → Ty) → Joins join → (o p : Option Ty) → EachLabel o → EachLabel p → EachLabel (both join o p)
  of_both join joins None None a b = tt
  of_both join joins None (Some u) a b = tt
  of_both join joins (Some t) None a b = tt
  of_both join joins (Some t) (Some u) a b = joins t u a b

  of_nested : (join : Ty → Ty → Ty) → Joins join → (ts : List Kept) → All P (of_several (map names_in_type (map (λ e. e.0) ts))) → EachLabel (nested join (map (type_in names) (map (λ e. e.0) ts)))
  of_nested join joins [] all = tt
  of_nested join joins (t ∷ []) all = t.1 (all_first P (names_in_type t.0) [] all)
  of_nested join joins (t ∷ u ∷ ts) all =
      let others = of_several (map names_in_type (map (λ (e : Kept). e.0) (u ∷ ts))) in
      of_both join joins (type_in names t.0) (nested join (map (type_in names) (map (λ (e : Kept). e.0) (u ∷ ts)))) (t.1 (all_first P (names_in_type t.0) others all)) (of_nested join joins (u ∷ ts) (all_second P (names_in_type t.0) others all))

  of_repeated : (t : Ty) (r : Repetition) → EachLabelOf P t → EachLabelOf P (repeated t r)
  of_repeated t Star a = a
  of_repeated t Plus a = (a, a)
  of_repeated t Optional a = (a, tt)

  of_marks : (t : Ty) (ms : List Mark) → EachLabelOf P t → EachLabelOf P (under_marks t ms)
  of_marks t [] a = a
  of_marks t (m ∷ ms) a = of_marks (repeated t m.repetition) ms (of_repeated t m.repetition a)

  of_marked : (o : Option Ty) (ms : List Mark) → EachLabel o → EachLabel (option_map (λ u. under_marks u ms) o)
  of_marked None ms a = tt
  of_marked (Some t) ms a = of_marks t ms a

  of_element : (n : ℕ) (o : Option Ty) → P n → EachLabel o → EachLabel (option_map (element n) o)
  of_element n None holds a = tt
  of_element n (Some t) holds a = (holds, a)

  of_any : (o : Option Ty) → EachLabel o → EachLabel (option_map any_element o)
  of_any None a = tt
  of_any (Some t) a = a

  of_index : (o : Option ℕ) → EachLabel (option_map named o)
  of_index None = tt
  of_index (Some x) = tt

  -- of a layer with what is known of its parts
  by_layer : (y : TypeText-F Kept) → All P (names_in_type_step (map-TypeText TypeText (List ℕ) names_in_type (map-TypeText Kept TypeText (λ e. e.0) y))) → EachLabel (type_step names (map-TypeText TypeText (Option Ty) (type_in names) (map-TypeText Kept TypeText (λ e. e.0) y)))
  by_layer (TypeText-F.Alt ts at) all = of_nested alt (λ t u a b. (a, b)) ts all
  by_layer (TypeText-F.Seq ts at) all = of_nested seq (λ t u a b. (a, b)) ts all
  by_layer (TypeText-F.Marked t ms at) all = of_marked (type_in names t.0) ms (t.1 all)
  by_layer (TypeText-F.Group None at) all = tt
  by_layer (TypeText-F.Group (Some t) at) all = t.1 all
  by_layer (TypeText-F.Elem n None at) all = (All-head P n [] all, tt)
  by_layer (TypeText-F.Elem n (Some t) at) all =
      of_element n (type_in names t.0) (All-head P n (names_in_type t.0) all) (t.1 (All-tail P n (names_in_type t.0) all))
  by_layer (TypeText-F.AnyElem None at) all = tt
  by_layer (TypeText-F.AnyElem (Some t) at) all = of_any (type_in names t.0) (t.1 all)
  by_layer (TypeText-F.Kind k at) all = tt
  by_layer (TypeText-F.Named n at) all = of_index _

  layer_keeps : (y : TypeText-F Kept) → Keeps (roll-TypeText (map-TypeText Kept TypeText (λ e. e.0) y))
  layer_keeps y all =
      let x = map-TypeText Kept TypeText (λ e. e.0) y in
      subst EachLabel (sym (fold-roll-TypeText (Option Ty) (type_step names) x)) (by_layer y (subst (All P) (fold-roll-TypeText (List ℕ) names_in_type_step x) all))

  keeps : (t : TypeText) → Keeps t
  keeps = ind-TypeText Keeps (λ x y is. subst (λ z. Keeps (roll-TypeText z)) is (layer_keeps y))

  pub type_keeps : (t : TypeText) (u : Ty) → type_in names t ≡ Some u → TypeTextNames P t → EachLabelOf P u
  type_keeps t u is all = subst EachLabel is (keeps t all)
