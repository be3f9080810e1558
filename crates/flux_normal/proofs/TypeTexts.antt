-- What a written type stands for and which names it mentions, a constructor at a time.
use Rattle.std.proofs.Common.{◌≡◌, ℕ, List, [], ◌∷◌, ◌++◌, Option, Some, None, map, refl, sym, ap, ◌∙◌, option_map}
use Rattle.std.proofs.lemmas.List.Elements.{filter_map-append}
use Rattle.std.specs.List.{filter_map}
use Rattle.flux_atom.specs.declared.atom.AtomKind.{AtomKind}
use Rattle.flux_calculus.specs.declared.ask.Span.{Span}
use Rattle.flux_grammar.specs.declared.tree.Mark.{Mark}
use Rattle.flux_grammar.specs.declared.tree.TypeText.{TypeText}
use Rattle.flux_grammar.specs.declared.tree.TypeText.TheOpen.{TypeText-F}
use Rattle.flux_grammar.specs.declared.tree.TypeText.TheFolds.{fold-TypeText, fold-roll-TypeText}
use Rattle.flux_grammar.specs.declared.tree.TypeText.TheVariants.{Alt, Seq, Marked, Group, Elem, AnyElem, Kind, Named, rolls-Alt, rolls-Seq, rolls-Marked, rolls-Group, rolls-Elem, rolls-AnyElem, rolls-Kind, rolls-Named}
use Rattle.flux_grammar.specs.NormalFaults.{mentions, mentions_step, unknown, Mention}
use Rattle.flux_grammar.specs.TypeOf.{type_in, type_step, nested, under_marks, named_by}
use Rattle.flux_schema.specs.Ty.{Ty, atom, element, any_element, seq, alt}
use Rattle.flux_normal.specs.Written.{unknowns, unknowns_among, unknowns_inside, type_inside}

-- ---- types

module _ (names : List ℕ) where
  abbrev step : TypeText-F (Option Ty) → Option Ty
  step = type_step names

  pub of_alt : (ts : List TypeText) (at : Span) → type_in names (Alt ts at) ≡ nested alt (map (type_in names) ts)
  of_alt ts at = ap (type_in names) (sym (rolls-Alt ts at)) ∙ fold-roll-TypeText (Option Ty) step (TypeText-F.Alt ts at)

  pub of_seq : (ts : List TypeText) (at : Span) → type_in names (Seq ts at) ≡ nested seq (map (type_in names) ts)
  of_seq ts at = ap (type_in names) (sym (rolls-Seq ts at)) ∙ fold-roll-TypeText (Option Ty) step (TypeText-F.Seq ts at)

  pub of_marked : (t : TypeText) (ms : List Mark) (at : Span) → type_in names (Marked t ms at) ≡ option_map (λ u. under_marks u ms) (type_in names t)
  of_marked t ms at = ap (type_in names) (sym (rolls-Marked t ms at)) ∙ fold-roll-TypeText (Option Ty) step (TypeText-F.Marked t ms at)

  pub of_group : (o : Option TypeText) (at : Span) → type_in names (Group o at) ≡ type_inside names o
  of_group None at = ap (type_in names) (sym (rolls-Group None at)) ∙ fold-roll-TypeText (Option Ty) step (TypeText-F.Group None at)
  of_group (Some t) at = ap (type_in names) (sym (rolls-Group (Some t) at)) ∙ fold-roll-TypeText (Option Ty) step (TypeText-F.Group (Some t) at)

  pub of_elem : (n : ℕ) (o : Option TypeText) (at : Span) → type_in names (Elem n o at) ≡ option_map (element n) (type_inside names o)
  of_elem n None at = ap (type_in names) (sym (rolls-Elem n None at)) ∙ fold-roll-TypeText (Option Ty) step (TypeText-F.Elem n None at)
  of_elem n (Some t) at = ap (type_in names) (sym (rolls-Elem n (Some t) at)) ∙ fold-roll-TypeText (Option Ty) step (TypeText-F.Elem n (Some t) at)

  pub of_any : (o : Option TypeText) (at : Span) → type_in names (AnyElem o at) ≡ option_map any_element (type_inside names o)
  of_any None at = ap (type_in names) (sym (rolls-AnyElem None at)) ∙ fold-roll-TypeText (Option Ty) step (TypeText-F.AnyElem None at)
  of_any (Some t) at = ap (type_in names) (sym (rolls-AnyElem (Some t) at)) ∙ fold-roll-TypeText (Option Ty) step (TypeText-F.AnyElem (Some t) at)

  pub of_kind : (k : AtomKind) (at : Span) → type_in names (Kind k at) ≡ Some (atom k)
  of_kind k at = ap (type_in names) (sym (rolls-Kind k at)) ∙ fold-roll-TypeText (Option Ty) step (TypeText-F.Kind k at)

  pub of_named : (n : ℕ) (at : Span) → type_in names (Named n at) ≡ named_by names n
  of_named n at = ap (type_in names) (sym (rolls-Named n at)) ∙ fold-roll-TypeText (Option Ty) step (TypeText-F.Named n at)

-- ---- unknown names

module _ (names : List ℕ) where
  pub no_alt : (ts : List TypeText) (at : Span) → unknowns names (Alt ts at) ≡ unknowns_among names ts
  no_alt ts at = ap (unknowns names) (sym (rolls-Alt ts at)) ∙ ap (filter_map (unknown names)) (fold-roll-TypeText (List Mention) mentions_step (TypeText-F.Alt ts at))

  pub no_seq : (ts : List TypeText) (at : Span) → unknowns names (Seq ts at) ≡ unknowns_among names ts
  no_seq ts at = ap (unknowns names) (sym (rolls-Seq ts at)) ∙ ap (filter_map (unknown names)) (fold-roll-TypeText (List Mention) mentions_step (TypeText-F.Seq ts at))

  pub no_marked : (t : TypeText) (ms : List Mark) (at : Span) → unknowns names (Marked t ms at) ≡ unknowns names t
  no_marked t ms at = ap (unknowns names) (sym (rolls-Marked t ms at)) ∙ ap (filter_map (unknown names)) (fold-roll-TypeText (List Mention) mentions_step (TypeText-F.Marked t ms at))

  pub no_group : (o : Option TypeText) (at : Span) → unknowns names (Group o at) ≡ unknowns_inside names o
  no_group None at = ap (unknowns names) (sym (rolls-Group None at)) ∙ ap (filter_map (unknown names)) (fold-roll-TypeText (List Mention) mentions_step (TypeText-F.Group None at))
  no_group (Some t) at = ap (unknowns names) (sym (rolls-Group (Some t) at)) ∙ ap (filter_map (unknown names)) (fold-roll-TypeText (List Mention) mentions_step (TypeText-F.Group (Some t) at))

  pub no_elem : (n : ℕ) (o : Option TypeText) (at : Span) → unknowns names (Elem n o at) ≡ unknowns_inside names o
  no_elem n None at = ap (unknowns names) (sym (rolls-Elem n None at)) ∙ ap (filter_map (unknown names)) (fold-roll-TypeText (List Mention) mentions_step (TypeText-F.Elem n None at))
  no_elem n (Some t) at = ap (unknowns names) (sym (rolls-Elem n (Some t) at)) ∙ ap (filter_map (unknown names)) (fold-roll-TypeText (List Mention) mentions_step (TypeText-F.Elem n (Some t) at))

  pub no_any : (o : Option TypeText) (at : Span) → unknowns names (AnyElem o at) ≡ unknowns_inside names o
  no_any None at = ap (unknowns names) (sym (rolls-AnyElem None at)) ∙ ap (filter_map (unknown names)) (fold-roll-TypeText (List Mention) mentions_step (TypeText-F.AnyElem None at))
  no_any (Some t) at = ap (unknowns names) (sym (rolls-AnyElem (Some t) at)) ∙ ap (filter_map (unknown names)) (fold-roll-TypeText (List Mention) mentions_step (TypeText-F.AnyElem (Some t) at))

  pub no_kind : (k : AtomKind) (at : Span) → unknowns names (Kind k at) ≡ []
  no_kind k at = ap (unknowns names) (sym (rolls-Kind k at)) ∙ ap (filter_map (unknown names)) (fold-roll-TypeText (List Mention) mentions_step (TypeText-F.Kind k at))

  pub no_named : (n : ℕ) (at : Span) → unknowns names (Named n at) ≡ filter_map (unknown names) ((n, at.from) ∷ [])
  no_named n at = ap (unknowns names) (sym (rolls-Named n at)) ∙ ap (filter_map (unknown names)) (fold-roll-TypeText (List Mention) mentions_step (TypeText-F.Named n at))

  pub among-cons : (t : TypeText) (ts : List TypeText) → unknowns_among names (t ∷ ts) ≡ unknowns names t ++ unknowns_among names ts
  among-cons t ts = filter_map-append (unknown names) (mentions t) _
