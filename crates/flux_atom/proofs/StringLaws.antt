-- The machine of strings and the grammar of their items agree.
use Rattle.std.proofs.Common.{◌≡◌, ℕ, List, [], ◌∷◌, ◌++◌, Option, Some, None, IsSome, IsUtf8, refl, sym, ap, ◌∙◌}
use Rattle.std.proofs.lemmas.Bool.{false≢true}
use Rattle.flux_atom.specs.declared.text.TextState.{TextState}
use Rattle.flux_atom.specs.declared.text.TextState.TheVariants.{Between}
use Rattle.flux_atom.specs.Literal.{quote}
use Rattle.flux_atom.specs.Spelling.{AreItems}
use Rattle.flux_atom.specs.Strings.{BeginItems, TextReaderFollowsGrammar}
use Rattle.flux_atom.specs.TextSteps.{on, closes, text_step, TextRead, read_on, and_read, no_text, read_text, IsReached}
use Rattle.flux_atom.proofs.TextLaws.{closes_at_quote, items_read, items_utf8, read_items, read_text-append, read_then, text_can_end}

begins_from : (bytes : List ℕ) (x : Option TextRead) → read_text no_text bytes ≡ x → IsSome x → BeginItems bytes
begins_from bytes None e is = absurd (false≢true is)
begins_from bytes (Some r) e is =
    let ended = text_can_end bytes r e in
    (ended.0, ended.1, items_read (bytes ++ ended.0) ended.1 (read_then no_text bytes ended.0 r e ∙ ended.2))

some_before : (x : Option TextRead) (more : List ℕ) (s : TextRead) → and_read x (λ r. read_text r more) ≡ Some s → IsSome x
some_before None more s e = absurd cc
some_before (Some r) more s e = refl

closing_from : (bytes : List ℕ) (r : TextRead) (b : ℕ) → read_text no_text bytes ≡ Some r → text_step r.0 b ≡ closes → (b ≡ quote) × AreItems bytes r.1
closing_from bytes r b e f =
    let at_quote = closes_at_quote r.0 b f in
    (at_quote.1, items_read bytes r.1 (e ∙ ap (λ s. Some (s, r.1)) at_quote.0))

closing_at : (bytes : List ℕ) (r : TextRead) (b : ℕ) → read_text no_text bytes ≡ Some r → b ≡ quote → AreItems bytes r.1 → text_step r.0 b ≡ closes
closing_at bytes r b e q are =
    let both : Some r ≡ Some (Between, r.1) = sym e ∙ read_items bytes r.1 [] are in
    let between : r.0 ≡ Between = cc in
    ap (λ s. text_step s b) between ∙ ap (text_step Between) q

pub follows_grammar : TextReaderFollowsGrammar
follows_grammar = record {
  items = λ bytes text. (items_read bytes text, read_items bytes text []);
  begins = λ bytes. (
    begins_from bytes (read_text no_text bytes) refl,
    λ h. some_before (read_text no_text bytes) h.0 (Between, h.1) (sym (read_text-append no_text bytes h.0) ∙ read_items (bytes ++ h.0) h.1 [] h.2),
  );
  closing = λ bytes r b e. (closing_from bytes r b e, λ h. closing_at bytes r b e h.0 h.1);
}

-- a step leads on
pub reached_on : (r : TextRead) (b : ℕ) (next : TextState) (added new : List ℕ) → IsReached r → text_step r.0 b ≡ on next added → new ≡ r.1 ++ added → IsReached (next, new)
reached_on r b next added new (bytes, e) step is =
    (bytes ++ b ∷ [], read_then no_text bytes (b ∷ []) r e ∙ ap (λ x. and_read (read_on x r.1) (λ s. read_text s [])) step ∙ ap (λ t. Some (next, t)) (sym is))

-- and so do bytes that are read
pub reached_then : (r s : TextRead) (more : List ℕ) → IsReached r → read_text r more ≡ Some s → IsReached s
reached_then r s more (bytes, e) f = (bytes ++ more, read_then no_text bytes more r e ∙ f)

-- between two items the text is characters
pub reached_utf8 : (r : TextRead) → IsReached r → r.0 ≡ Between → IsUtf8 r.1
reached_utf8 r (bytes, e) between = items_utf8 bytes r.1 (items_read bytes r.1 (e ∙ ap (λ s. Some (s, r.1)) between))
