-- What is left to write, where elements are open.
use Rattle.std.proofs.Common.{◌≡◌, ℕ, ◌+◌, ◌*◌, ◌<◌, ◌≤◌, List, [], ◌∷◌, ◌++◌, length, take, codes, sym, ap, ◌∙◌, append_assoc, arith}
use Rattle.std.proofs.lemmas.List.{append-nil, take-append-le, length-take}
use Rattle.flux_atom.specs.declared.atom.Atom.{Atom}
use Rattle.flux_atom.specs.Literal.{literal}
use Rattle.flux_trees.specs.Hedge.{Plain, nil, elem, leaf, size}
use Rattle.flux_trees.specs.Each.{EachLabel, EachAtom}
use Rattle.flux_doctext.specs.Text.{name_text, comma, trees_text, IsProper}

-- the end of an element, and the trees behind it
abbrev pub closing_run : List (List ℕ) → Plain → List ℕ
closing_run names run = codes "]" ++ (comma run ++ trees_text names run)

-- the text that ends the open elements, of each the trees behind it, innermost last
abbrev pub closing_text : List (List ℕ) → List Plain → List ℕ
closing_text names [] = []
closing_text names (run ∷ outer) = closing_text names outer ++ closing_run names run

-- each name of each run is one of the table's
abbrev pub EachRun : List (List ℕ) → List Plain → Type 0
EachRun names [] = Unit {0}
EachRun names (run ∷ outer) = EachLabel (λ a. a < length names) run × EachRun names outer

-- each text of each run is characters
abbrev pub AreProper : List Plain → Type 0
AreProper [] = Unit {0}
AreProper (run ∷ outer) = EachAtom IsProper run × AreProper outer

-- the texts of the forest are characters where those are that are left to write
abbrev pub ProperBy : Plain → Plain → List Plain → Type 0
ProperBy h rest outer = EachAtom IsProper rest → AreProper outer → EachAtom IsProper h

-- the text done begins with the n bytes of start, and with what is left it is start and the whole
pub record IsWriting (names : List (List ℕ)) (start whole : List ℕ) (n : ℕ) (done : List ℕ) (rest : Plain) (outer : List Plain) : Type 0 where
  pub written : done ++ (trees_text names rest ++ closing_text names outer) ≡ start ++ whole
  pub front : take n done ≡ start
  pub labels : EachLabel (λ a. a < length names) rest
  pub outer_labels : EachRun names outer

pub closing_text-push : (names : List (List ℕ)) (outer : List Plain) (run : Plain) → closing_text names (outer ++ run ∷ []) ≡ closing_run names run ++ closing_text names outer
closing_text-push names [] run = sym (append-nil (closing_run names run))
closing_text-push names (o ∷ outer) run =
    ap (λ t. t ++ closing_run names o) (closing_text-push names outer run) ∙ append_assoc (closing_run names run) (closing_text names outer) (closing_run names o)

pub EachRun-push : (names : List (List ℕ)) (outer : List Plain) (run : Plain) → EachRun names outer → EachLabel (λ a. a < length names) run → EachRun names (outer ++ run ∷ [])
EachRun-push names [] run e l = (l, tt)
EachRun-push names (o ∷ outer) run e l = (e.0, EachRun-push names outer run e.1 l)

pub EachRun-pop : (names : List (List ℕ)) (outer : List Plain) (run : Plain) → EachRun names (outer ++ run ∷ []) → EachRun names outer × EachLabel (λ a. a < length names) run
EachRun-pop names [] run e = (tt, e.0)
EachRun-pop names (o ∷ outer) run e =
    let more = EachRun-pop names outer run e.1 in
    ((e.0, more.0), more.1)

AreProper-push : (outer : List Plain) (run : Plain) → AreProper outer → EachAtom IsProper run → AreProper (outer ++ run ∷ [])
AreProper-push [] run e p = (p, tt)
AreProper-push (o ∷ outer) run e p = (e.0, AreProper-push outer run e.1 p)

AreProper-pop : (outer : List Plain) (run : Plain) → AreProper (outer ++ run ∷ []) → AreProper outer × EachAtom IsProper run
AreProper-pop [] run e = (tt, e.0)
AreProper-pop (o ∷ outer) run e =
    let more = AreProper-pop outer run e.1 in
    ((e.0, more.0), more.1)

-- an element is begun, an atom is written, an element ends
pub proper_element : (h : Plain) (a : ℕ) (c r : Plain) (outer : List Plain) → ProperBy h (elem tt a c r) outer → ProperBy h c (outer ++ r ∷ [])
proper_element h a c r outer by inside around =
    let parts = AreProper-pop outer r around in
    by (inside, parts.1) parts.0

pub proper_atom : (h : Plain) (x : Atom) (r : Plain) (outer : List Plain) → IsProper x → ProperBy h (leaf tt x r) outer → ProperBy h r outer
proper_atom h x r outer is by behind around = by (is, behind) around

pub proper_end : (h run : Plain) (outer : List Plain) → ProperBy h nil (outer ++ run ∷ []) → ProperBy h run outer
proper_end h run outer by behind around = by tt (AreProper-push outer run around behind)

-- a front stays in front of what is added, and of what a failed write left behind
front_within : (start done : List ℕ) (n : ℕ) → length start ≡ n → take n done ≡ start → n ≤ length done
front_within start done n count front = omega (arith, ap length front, length-take n done)

pub front-append : (start done more : List ℕ) (n : ℕ) → length start ≡ n → take n done ≡ start → take n (done ++ more) ≡ start
front-append start done more n count front =
    take-append-le n done more (front_within start done n count front) ∙ front

module _ (names : List (List ℕ)) (start whole : List ℕ) (n : ℕ) (count : length start ≡ n) where
  pub element_step : (done new : List ℕ) (a : ℕ) (c r : Plain) (outer : List Plain) → IsWriting names start whole n done (elem tt a c r) outer → new ≡ done ++ (name_text names a ++ codes "[") → IsWriting names start whole n new c (outer ++ r ∷ [])
  element_step done new a c r outer i e = record {
    written = ap (λ t. t ++ (trees_text names c ++ closing_text names (outer ++ r ∷ []))) e ∙ ap (λ t. (done ++ (name_text names a ++ codes "[")) ++ (trees_text names c ++ t)) (closing_text-push names outer r) ∙ regroup (name_text names a) (trees_text names c) (comma r) (trees_text names r) (closing_text names outer) ∙ i.written;
    front = ap (take n) e ∙ front-append start done (name_text names a ++ codes "[") n count i.front;
    labels = i.labels.1;
    outer_labels = EachRun-push names outer r i.outer_labels i.labels.2;
  }
    where
      regroup : (label inside between behind closing : List ℕ) → (done ++ (label ++ codes "[")) ++ (inside ++ ((codes "]" ++ (between ++ behind)) ++ closing)) ≡ done ++ ((label ++ (codes "[" ++ (inside ++ (codes "]" ++ (between ++ behind))))) ++ closing)
      regroup label inside between behind closing = simp append_assoc

  pub atom_step : (done new : List ℕ) (x : Atom) (r : Plain) (outer : List Plain) → IsWriting names start whole n done (leaf tt x r) outer → new ≡ (done ++ literal x) ++ comma r → IsWriting names start whole n new r outer
  atom_step done new x r outer i e = record {
    written = ap (λ t. t ++ (trees_text names r ++ closing_text names outer)) e ∙ regroup (literal x) (comma r) (trees_text names r) (closing_text names outer) ∙ i.written;
    front = ap (take n) (e ∙ append_assoc done (literal x) (comma r)) ∙ front-append start done (literal x ++ comma r) n count i.front;
    labels = i.labels;
    outer_labels = i.outer_labels;
  }
    where
      regroup : (atom between behind closing : List ℕ) → ((done ++ atom) ++ between) ++ (behind ++ closing) ≡ done ++ ((atom ++ (between ++ behind)) ++ closing)
      regroup atom between behind closing = simp append_assoc

  pub end_step : (done new : List ℕ) (run : Plain) (outer : List Plain) → IsWriting names start whole n done nil (outer ++ run ∷ []) → new ≡ done ++ (codes "]" ++ comma run) → IsWriting names start whole n new run outer
  end_step done new run outer i e = record {
    written = ap (λ t. t ++ (trees_text names run ++ closing_text names outer)) e ∙ regroup (comma run) (trees_text names run) (closing_text names outer) ∙ ap (λ t. done ++ t) (sym (closing_text-push names outer run)) ∙ i.written;
    front = ap (take n) e ∙ front-append start done (codes "]" ++ comma run) n count i.front;
    labels = (EachRun-pop names outer run i.outer_labels).1;
    outer_labels = (EachRun-pop names outer run i.outer_labels).0;
  }
    where
      regroup : (between behind closing : List ℕ) → (done ++ (codes "]" ++ between)) ++ (behind ++ closing) ≡ done ++ ((codes "]" ++ (between ++ behind)) ++ closing)
      regroup between behind closing = simp append_assoc
