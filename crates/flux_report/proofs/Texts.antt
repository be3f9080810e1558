-- The text of queries and statements that are lists, how much of them there is to write, and which
-- types can be written.
use Rattle.std.proofs.Common.{◌≡◌, ◌∙◌, ◌+◌, ◌<◌, ◌≤◌, ℕ, List, [], ◌∷◌, ◌++◌, length, get_or, map, All, refl, sym, subst, ap, arith, codes, inl, inr, append_assoc, append-nil, ◌==◌, true, false, Bool}
use Rattle.std.specs.Prelude.{flat_map, IsSomeAnd, slice_get}
use Rattle.flux_calculus.specs.declared.ask.Span.{Span}
use Rattle.flux_calculus.specs.Query.{Query, listed}
use Rattle.flux_calculus.specs.Core.{Core, Proc, Procs, in_order}
use Rattle.flux_core.specs.WellFormed.{CallsFit}
use Rattle.flux_grammar.specs.NormalNames.{QueryNames, CoreNames}
use Rattle.flux_report.specs.CoreText.{separated, with_commas, query_text, statement_text, is_nothing}
use Rattle.flux_schema.specs.Definitions.{Definitions}
use Rattle.flux_schema.specs.Labels.{EachLabelOf}
use Rattle.flux_schema.specs.Ty.{Ty, empty, atom, element, any_element, seq, alt, star, named, NamesBelow}
use Rattle.flux_schema.specs.Tidy.{tidy}
use Rattle.flux_schema.specs.TypeText.{IsWritable}
use Rattle.flux_schema.proofs.TidyLaws.{tidy_writable}
use Rattle.std.proofs.lemmas.List.Elements.{All-nil, All-cons, All-get_or}
use Rattle.std.proofs.lemmas.Bool.{ne_eqb}
use Rattle.std.proofs.lemmas.Option.{slice_get-get_or, slice_get_cases}

-- queries between parentheses
rest_text : (names : List (List ℕ)) (at : Span) (qs : List Query) → query_text names true (listed at qs) ≡ flat_map (λ u. codes "," ++ u) (map (query_text names false) qs) ++ codes ")"
rest_text names at [] = refl
rest_text names at (q ∷ qs) =
    ap (λ l. (codes "," ++ query_text names false q) ++ l) (rest_text names at qs)
    ∙ sym (append_assoc (codes "," ++ query_text names false q) _ (codes ")"))

pub list_text : (names : List (List ℕ)) (at : Span) (qs : List Query) → query_text names false (listed at qs) ≡ codes "(" ++ with_commas (map (query_text names false) qs) ++ codes ")"
list_text names at [] = refl
list_text names at (q ∷ qs) =
    let t = query_text names false q in
    ap (λ l. (codes "(" ++ t) ++ l) (rest_text names at qs)
    ∙ sym (append_assoc (codes "(" ++ t) _ (codes ")"))
    ∙ ap (λ l. l ++ codes ")") (append_assoc (codes "(") t _)

pub list_names : (P : ℕ → Type 0) (at : Span) (qs : List Query) → QueryNames P (listed at qs) → All (QueryNames P) qs
list_names P at [] h = All-nil (QueryNames P)
list_names P at (q ∷ qs) h = All-cons (QueryNames P) q qs h.0 (list_names P at qs h.1)

pub nothing_listed : (at : Span) (qs : List Query) (b : Bool) → b ≡ (length qs == 0) → b ≡ is_nothing (listed at qs)
nothing_listed at [] b e = e
nothing_listed at (q ∷ qs) b e = e ∙ ne_eqb (length (q ∷ qs)) 0 (λ f. omega (arith, f))

-- statements between braces
rest_of_statements : (names : List (List ℕ)) (procs : Procs) (at : Span) (ss : List Core) → statement_text names procs true (in_order at ss) ≡ flat_map (λ u. codes ";" ++ u) (map (statement_text names procs false) ss) ++ codes "}"
rest_of_statements names procs at [] = refl
rest_of_statements names procs at (s ∷ ss) =
    ap (λ l. (codes ";" ++ statement_text names procs false s) ++ l) (rest_of_statements names procs at ss)
    ∙ sym (append_assoc (codes ";" ++ statement_text names procs false s) _ (codes "}"))

pub sequence_text : (names : List (List ℕ)) (procs : Procs) (at : Span) (ss : List Core) → statement_text names procs false (in_order at ss) ≡ codes "{" ++ separated (codes ";") (map (statement_text names procs false) ss) ++ codes "}"
sequence_text names procs at [] = refl
sequence_text names procs at (s ∷ ss) =
    let t = statement_text names procs false s in
    ap (λ l. (codes "{" ++ t) ++ l) (rest_of_statements names procs at ss)
    ∙ sym (append_assoc (codes "{" ++ t) _ (codes "}"))
    ∙ ap (λ l. l ++ codes "}") (append_assoc (codes "{") t _)

pub sequence_names : (P : ℕ → Type 0) (at : Span) (ss : List Core) → CoreNames P (in_order at ss) → All (CoreNames P) ss
sequence_names P at [] h = All-nil (CoreNames P)
sequence_names P at (s ∷ ss) h = All-cons (CoreNames P) s ss h.0 (sequence_names P at ss h.1)

pub sequence_calls : (procs : Procs) (at : Span) (ss : List Core) → CallsFit procs (in_order at ss) → All (CallsFit procs) ss
sequence_calls procs at [] h = All-nil (CallsFit procs)
sequence_calls procs at (s ∷ ss) h = All-cons (CallsFit procs) s ss h.0 (sequence_calls procs at ss h.1)

-- a type whose labels are names of the table, and whose names are known, can be written
as_it_is : (n : ℕ) (defs : Definitions) (t : Ty) → All (λ d. d.name < n) defs → EachLabelOf (λ a. a < n) t → NamesBelow (length defs) t → IsWritable n defs t
as_it_is n defs empty all labels known = tt
as_it_is n defs (atom k) all labels known = tt
as_it_is n defs (element m t) all labels known = (labels.0, as_it_is n defs t all labels.1 known)
as_it_is n defs (any_element t) all labels known = as_it_is n defs t all labels known
as_it_is n defs (seq t u) all labels known = (as_it_is n defs t all labels.0 known.0, as_it_is n defs u all labels.1 known.1)
as_it_is n defs (alt t u) all labels known = (as_it_is n defs t all labels.0 known.0, as_it_is n defs u all labels.1 known.1)
as_it_is n defs (star t) all labels known = as_it_is n defs t all labels known
as_it_is n [] (named x) all labels known = absurd (omega (arith, known))
as_it_is n (d ∷ ds) (named x) all labels known =
    subst (λ o. IsSomeAnd o (λ e. e.name < n)) (sym (slice_get-get_or (d ∷ ds) x d known)) (All-get_or (λ e. e.name < n) (d ∷ ds) x d known all)

pub writable : (n : ℕ) (defs : Definitions) (t : Ty) → All (λ d. d.name < n) defs → EachLabelOf (λ a. a < n) t → NamesBelow (length defs) t → IsWritable n defs (tidy t)
writable n defs t all labels known = tidy_writable n defs t (as_it_is n defs t all labels known)

-- a procedure that is called has a name of the table
pub named_proc : (n : ℕ) (procs : Procs) (p : ℕ) (Q : Proc → Type 0) → All (λ q. q.name < n) procs → IsSomeAnd (slice_get procs p) Q → IsSomeAnd (slice_get procs p) (λ q. q.name < n)
named_proc n procs p Q all h = elim (slice_get_cases procs p).1 [
  | inl s ↦ subst (λ o. IsSomeAnd o (λ q. q.name < n)) (sym s.2) (subst (λ q. q.name < n) s.3 (All-get_or (λ q. q.name < n) procs p s.0 s.1 all))
  | inr s ↦ absurd (subst (λ o. IsSomeAnd o Q) s.1 h)
]
