-- What the trees of types stand for, a constructor at a time.
use Rattle.std.proofs.Common.{◌≡◌, ℕ, List, [], ◌∷◌, Option, Some, None, map, refl, sym, ap, ◌∙◌, option_map}
use Rattle.flux_atom.specs.declared.atom.AtomKind.{AtomKind}
use Rattle.flux_calculus.specs.declared.ask.Span.{Span}
use Rattle.flux_grammar.specs.declared.tree.Mark.{Mark}
use Rattle.flux_grammar.specs.declared.tree.TypeText.{TypeText}
use Rattle.flux_grammar.specs.declared.tree.TypeText.TheOpen.{TypeText-F}
use Rattle.flux_grammar.specs.declared.tree.TypeText.TheFolds.{fold-roll-TypeText}
use Rattle.flux_grammar.specs.declared.tree.TypeText.TheVariants.{Alt, Seq, Marked, Group, Elem, AnyElem, Kind, Named, rolls-Alt, rolls-Seq, rolls-Marked, rolls-Group, rolls-Elem, rolls-AnyElem, rolls-Kind, rolls-Named}
use Rattle.flux_grammar.specs.Grammar.{alt_of, seq_of, marked_of}
use Rattle.flux_grammar.specs.TypeOf.{type_of, type_step, nested, under_marks, named_by}
use Rattle.flux_schema.specs.Definitions.{Definitions, names_of}
use Rattle.flux_schema.specs.Ty.{Ty, empty, atom, element, any_element, seq, alt}

module _ (defs : Definitions) where
  -- the types of trees, joined
  abbrev pub joined : (Ty → Ty → Ty) → List TypeText → Option Ty
  joined join ts = nested join (map (type_of defs) ts)

  of_alt : (ts : List TypeText) (at : Span) → type_of defs (Alt ts at) ≡ joined alt ts
  of_alt ts at = ap (type_of defs) (sym (rolls-Alt ts at)) ∙ fold-roll-TypeText (Option Ty) (type_step (names_of defs)) (TypeText-F.Alt ts at)

  of_seq : (ts : List TypeText) (at : Span) → type_of defs (Seq ts at) ≡ joined seq ts
  of_seq ts at = ap (type_of defs) (sym (rolls-Seq ts at)) ∙ fold-roll-TypeText (Option Ty) (type_step (names_of defs)) (TypeText-F.Seq ts at)

  of_marked : (t : TypeText) (ms : List Mark) (at : Span) → type_of defs (Marked t ms at) ≡ option_map (λ u. under_marks u ms) (type_of defs t)
  of_marked t ms at = ap (type_of defs) (sym (rolls-Marked t ms at)) ∙ fold-roll-TypeText (Option Ty) (type_step (names_of defs)) (TypeText-F.Marked t ms at)

  -- the type inside brackets
  abbrev pub content_of : Option TypeText → Option Ty
  content_of None = Some empty
  content_of (Some t) = type_of defs t

  pub of_group : (o : Option TypeText) (at : Span) → type_of defs (Group o at) ≡ content_of o
  of_group None at = ap (type_of defs) (sym (rolls-Group None at)) ∙ fold-roll-TypeText (Option Ty) (type_step (names_of defs)) (TypeText-F.Group None at)
  of_group (Some t) at = ap (type_of defs) (sym (rolls-Group (Some t) at)) ∙ fold-roll-TypeText (Option Ty) (type_step (names_of defs)) (TypeText-F.Group (Some t) at)

  pub of_elem : (n : ℕ) (o : Option TypeText) (at : Span) → type_of defs (Elem n o at) ≡ option_map (element n) (content_of o)
  of_elem n None at = ap (type_of defs) (sym (rolls-Elem n None at)) ∙ fold-roll-TypeText (Option Ty) (type_step (names_of defs)) (TypeText-F.Elem n None at)
  of_elem n (Some t) at = ap (type_of defs) (sym (rolls-Elem n (Some t) at)) ∙ fold-roll-TypeText (Option Ty) (type_step (names_of defs)) (TypeText-F.Elem n (Some t) at)

  pub of_any : (o : Option TypeText) (at : Span) → type_of defs (AnyElem o at) ≡ option_map any_element (content_of o)
  of_any None at = ap (type_of defs) (sym (rolls-AnyElem None at)) ∙ fold-roll-TypeText (Option Ty) (type_step (names_of defs)) (TypeText-F.AnyElem None at)
  of_any (Some t) at = ap (type_of defs) (sym (rolls-AnyElem (Some t) at)) ∙ fold-roll-TypeText (Option Ty) (type_step (names_of defs)) (TypeText-F.AnyElem (Some t) at)

  pub of_kind : (k : AtomKind) (at : Span) → type_of defs (Kind k at) ≡ Some (atom k)
  of_kind k at = ap (type_of defs) (sym (rolls-Kind k at)) ∙ fold-roll-TypeText (Option Ty) (type_step (names_of defs)) (TypeText-F.Kind k at)

  pub of_named : (n : ℕ) (at : Span) → type_of defs (Named n at) ≡ named_by (names_of defs) n
  of_named n at = ap (type_of defs) (sym (rolls-Named n at)) ∙ fold-roll-TypeText (Option Ty) (type_step (names_of defs)) (TypeText-F.Named n at)

  -- one part alone is that part
  pub of_alts : (t : TypeText) (ts : List TypeText) (to : ℕ) → type_of defs (alt_of t ts to) ≡ joined alt (t ∷ ts)
  of_alts t [] to = refl
  of_alts t (u ∷ ts) to = of_alt (t ∷ u ∷ ts) _

  pub of_seqs : (t : TypeText) (ts : List TypeText) (to : ℕ) → type_of defs (seq_of t ts to) ≡ joined seq (t ∷ ts)
  of_seqs t [] to = refl
  of_seqs t (u ∷ ts) to = of_seq (t ∷ u ∷ ts) _

  pub of_marks : (t : TypeText) (ms : List Mark) (to : ℕ) (u : Ty) → type_of defs t ≡ Some u → type_of defs (marked_of t ms to) ≡ Some (under_marks u ms)
  of_marks t [] to u e = e
  of_marks t (m ∷ ms) to u e = of_marked t (m ∷ ms) _ ∙ ap (option_map (λ w. under_marks w (m ∷ ms))) e
