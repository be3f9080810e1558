-- What is measured of a written type, a constructor at a time.
use Rattle.std.proofs.Common.{◌≡◌, ℕ, List, [], ◌∷◌, Option, Some, None, map, refl, sym, ap, ◌∙◌, subst, option_map}
use Rattle.flux_calculus.specs.declared.ask.Span.{Span}
use Rattle.flux_grammar.specs.declared.tree.Mark.{Mark}
use Rattle.flux_grammar.specs.declared.tree.TypeText.{TypeText}
use Rattle.flux_grammar.specs.declared.tree.TypeText.TheVariants.{Alt, Seq, Group, Elem, AnyElem, Named}
use Rattle.flux_grammar.specs.TypeOf.{type_in, nested}
use Rattle.flux_schema.specs.Ty.{Ty, empty, element, any_element, seq, alt}
use Rattle.flux_normal.specs.declared.written.Extent.{Extent}
use Rattle.flux_normal.specs.Written.{unknowns, unknowns_among, unknowns_inside, type_inside, extent_of, above, IsJoin, Measures}
use Rattle.flux_normal.proofs.TypeTexts.{of_alt, of_seq, of_group, of_elem, of_any, of_named, no_alt, no_seq, no_group, no_elem, no_any, no_named}
use Rattle.flux_normal.proofs.Extents.{join_alt, join_seq, measures_over, measures_named, leaf_is}

measures_same : (r : Option Extent) (o p : Option Ty) (us vs : List ℕ) → p ≡ o → vs ≡ us → Measures r o us → Measures r p vs
measures_same r o p us vs e f h =
    let P : Option Ty → Type 0 = λ q. Measures r q vs in let Q : List ℕ → Type 0 = λ ws. Measures r o ws in
    subst P (sym e) (subst Q (sym f) h)

abbrev MeasuresText : Option Extent → List ℕ → TypeText → Type 0
MeasuresText r names t = Measures r (type_in names t) (unknowns names t)

abbrev MeasuresList : Option Extent → List TypeText → Type 0
MeasuresList r ts = (names : List ℕ) (join : Ty → Ty → Ty) → IsJoin join → Measures r (nested join (map (type_in names) ts)) (unknowns_among names ts)

pub measures_alt : (names : List ℕ) (ty : TypeText) (parts ts : List TypeText) (at : Span) (r : Option Extent) → ty ≡ Alt parts at → ts ≡ parts → MeasuresList r ts → MeasuresText r names ty
measures_alt names ty parts ts at r e f h =
    subst (MeasuresText r names) (sym e) (measures_same r _ _ _ _ (of_alt names parts at) (no_alt names parts at) ((subst (MeasuresList r) f h) names alt join_alt))

pub measures_seq : (names : List ℕ) (ty : TypeText) (parts ts : List TypeText) (at : Span) (r : Option Extent) → ty ≡ Seq parts at → ts ≡ parts → MeasuresList r ts → MeasuresText r names ty
measures_seq names ty parts ts at r e f h =
    subst (MeasuresText r names) (sym e) (measures_same r _ _ _ _ (of_seq names parts at) (no_seq names parts at) ((subst (MeasuresList r) f h) names seq join_seq))

abbrev MeasuresInside : Option Extent → List ℕ → Option TypeText → Type 0
MeasuresInside r names o = Measures r (type_inside names o) (unknowns_inside names o)

pub measures_group : (names : List ℕ) (ty : TypeText) (o : Option TypeText) (at : Span) (r : Option Extent) → ty ≡ Group o at → MeasuresInside r names o → MeasuresText r names ty
measures_group names ty o at r e h =
    subst (MeasuresText r names) (sym e) (measures_same r _ _ _ _ (of_group names o at) (no_group names o at) h)

pub measures_elem : (names : List ℕ) (ty : TypeText) (n : ℕ) (o : Option TypeText) (at : Span) (r s : Option Extent) → ty ≡ Elem n o at → (r ≡ None → s ≡ None) → ((e : Extent) → r ≡ Some e → s ≡ Some (above e)) → MeasuresInside r names o → MeasuresText s names ty
measures_elem names ty n o at r s e f g h =
    subst (MeasuresText s names) (sym e) (measures_same s _ _ _ _ (of_elem names n o at) (no_elem names n o at) (measures_over r s (type_inside names o) (unknowns_inside names o) (element n) (λ t. refl) f g h))

pub measures_any : (names : List ℕ) (ty : TypeText) (o : Option TypeText) (at : Span) (r s : Option Extent) → ty ≡ AnyElem o at → (r ≡ None → s ≡ None) → ((e : Extent) → r ≡ Some e → s ≡ Some (above e)) → MeasuresInside r names o → MeasuresText s names ty
measures_any names ty o at r s e f g h =
    subst (MeasuresText s names) (sym e) (measures_same s _ _ _ _ (of_any names o at) (no_any names o at) (measures_over r s (type_inside names o) (unknowns_inside names o) any_element (λ t. refl) f g h))

pub measures_name : (names : List ℕ) (ty : TypeText) (n : ℕ) (at : Span) (e : Extent) → ty ≡ Named n at → e.nodes ≡ 1 → e.levels ≡ 1 → MeasuresText (Some e) names ty
measures_name names ty n at e is f g =
    subst (MeasuresText (Some e) names) (sym is) (measures_same (Some e) _ _ _ _ (of_named names n at) (no_named names n at) (measures_named names n at.from e (leaf_is e f g)))
