-- What is read can be ended.
use Rattle.std.proofs.Common.{◌≡◌, ℕ, zero, suc, Bool, true, false, List, [], ◌∷◌, ◌++◌, codes, bytes_eq, Option, Some, None, if◌then◌else◌, refl, sym, ap, subst, ◌∙◌, append_assoc, arith}
use Rattle.std.proofs.lemmas.List.{append-nil}
use Rattle.std.specs.List.{list_any}
use Rattle.std.specs.Prelude.{ℤ, negsuc}
use Rattle.flux_atom.specs.declared.atom.Atom.{Atom}
use Rattle.flux_atom.specs.declared.text.TextState.TheVariants.{Between}
use Rattle.flux_atom.specs.declared.atom.Atom.TheVariants.{Int as Number}
use Rattle.flux_atom.specs.declared.number.NumberState.TheVariants.{Minus, Digits}
use Rattle.flux_atom.specs.Names.{IsName, IsTable, with_text}
use Rattle.flux_atom.specs.Literal.{quote}
use Rattle.flux_atom.specs.TextSteps.{TextRead, no_text, read_text}
use Rattle.flux_atom.proofs.Tables.{IsTable-push}
use Rattle.flux_atom.proofs.TextLaws.{read_then, text_can_end}
use Rattle.flux_trees.specs.Hedge.{Plain, nil, leaf}
use Rattle.flux_trees.specs.Draft.{done, begun, depth, add, begin, end}
use Rattle.flux_trees.proofs.DraftLaws.{depth-end}
use Rattle.flux_doctext.specs.Spells.{Spelled, whole, inside, something, some, Spells, IsViable}
use Rattle.flux_doctext.specs.Reading.{Shape, content, next, name, label, opened, closed, string, number, behind, truth_of, number_of, PlainDraft}
use Rattle.flux_doctext.proofs.Written.{IsQuoted, Core}
use Rattle.flux_doctext.proofs.WrittenLaws.{lifted, lifted_end}
use Rattle.flux_doctext.proofs.StepLaws.{IsRead, begun_more, named_behind, numbered_behind, named_label, step_kept}

-- a table that was shown a name is one
pub IsTable-with_text : (names : List (List ℕ)) (text : List ℕ) → IsTable names → IsName text → IsTable (with_text names text)
IsTable-with_text names text table is = by (list_any (bytes_eq text) names) refl
  where
    by : (held : Bool) → list_any (bytes_eq text) names ≡ held → IsTable (if held then names else names ++ text ∷ [])
    by true e = table
    by false e = IsTable-push names text table is e

-- what the innermost place says of the token

name_in : (names : List (List ℕ)) (text : List ℕ) (bytes : List ℕ) (d : PlainDraft) → IsRead names (name text) bytes d → IsName text
name_in names text bytes (done h) w = w.is_token.1
name_in names text bytes (begun b n a d) w = name_in names text w.inner d w.goes_on

quoted_in : (names : List (List ℕ)) (r : TextRead) (bytes : List ℕ) (d : PlainDraft) → IsRead names (string r) bytes d → (items : List ℕ) × (read_text no_text items ≡ Some r)
quoted_in names r bytes (done h) w = (w.is_token.items, w.is_token.are)
quoted_in names r bytes (begun b n a d) w = quoted_in names r w.inner d w.goes_on

-- the beginning of what is viable is
viable_front : (bytes m : List ℕ) → IsViable (bytes ++ m) → IsViable bytes
viable_front bytes m i = record {
  more = m ++ i.more;
  names = i.names;
  forest = i.forest;
  spells = subst (λ l. Spells i.names l i.forest) (append_assoc bytes m i.more) i.spells;
}

module _ (names : List (List ℕ)) (table : IsTable names) where
  spelled_viable : (bytes : List ℕ) (h : Plain) → Spelled names whole bytes h → IsViable bytes
  spelled_viable bytes h x = record {
    more = [];
    names = names;
    forest = h;
    spells = record { table = table; forest = subst (λ l. Spelled names whole l h) (sym (append-nil bytes)) x };
  }

  viable_behind : (n : ℕ) (bytes : List ℕ) (d : PlainDraft) → depth d ≡ n → IsRead names behind bytes d → IsViable bytes
  viable_behind zero bytes (done h) e w = spelled_viable bytes h (some w)
  viable_behind zero bytes (begun b n a d) e w = absurd (omega (arith, e))
  viable_behind (suc n) bytes d e w =
      viable_front bytes (codes "]") (viable_behind n (bytes ++ codes "]") (end d) (depth-end d ∙ omega (arith, e)) (lifted_end names (Core names behind) (λ x h c. something (some c)) bytes d (omega (arith, e)) w))

  closed_inside : (x : List ℕ) (h : Plain) → Core names closed x h → Spelled names inside x h
  closed_inside x h c = subst (Spelled names inside x) (sym c.1) (something c.0)

  viable_closed : (bytes : List ℕ) (d : PlainDraft) → IsRead names closed bytes d → IsViable bytes
  viable_closed bytes (done h) w = spelled_viable bytes nil w.0
  viable_closed bytes (begun b n a d) w =
      viable_front bytes (codes "]") (viable_behind (depth (end (begun b n a d))) (bytes ++ codes "]") (end (begun b n a d)) refl (lifted_end names (Core names closed) closed_inside bytes (begun b n a d) (omega arith) w))

  viable_opened : (bytes : List ℕ) (d : PlainDraft) → IsRead names opened bytes d → IsViable bytes
  viable_opened bytes d w =
      viable_front bytes (41 ∷ []) (viable_closed (bytes ++ 41 ∷ []) d (step_kept names d bytes 41 opened w))

  viable_content : (bytes : List ℕ) (d : PlainDraft) → IsRead names content bytes d → IsViable bytes
  viable_content bytes d w =
      viable_front bytes (40 ∷ []) (viable_opened (bytes ++ 40 ∷ []) d (step_kept names d bytes 40 content w))

  viable_string : (bytes : List ℕ) (d : PlainDraft) (r : TextRead) → IsRead names (string r) bytes d → IsViable bytes
  viable_string bytes d r w = by (quoted_in names r bytes d w)
    where
      by : (items : List ℕ) × (read_text no_text items ≡ Some r) → IsViable bytes
      by (items, are) = to_end (text_can_end items r are)
        where
          to_end : (m : List ℕ) × (text : List ℕ) × (read_text r m ≡ Some (Between, text)) → IsViable bytes
          to_end (m, text, ends) =
              viable_front bytes m (viable_front (bytes ++ m) (quote ∷ []) (viable_behind (depth (add d _)) ((bytes ++ m) ++ quote ∷ []) (add d _) refl (step_kept names d (bytes ++ m) quote (string (Between, text)) (lifted names (Core names (string r)) (Core names (string (Between, text))) m (begun_more names (IsQuoted r) (IsQuoted (Between, text)) m (λ t i. record { items = i.items ++ m; are = read_then no_text i.items m r i.are ∙ ends; token_is = ap (λ l. l ++ m) i.token_is })) bytes d w))))

  viable_next : (bytes : List ℕ) (d : PlainDraft) → IsRead names next bytes d → IsViable bytes
  viable_next bytes d w =
      viable_front bytes (quote ∷ []) (viable_string (bytes ++ quote ∷ []) d no_text (step_kept names d bytes quote next w))

  viable_number : (z : ℤ) (bytes : List ℕ) (d : PlainDraft) → IsRead names (number (Digits z)) bytes d → IsViable bytes
  viable_number z bytes d w =
      viable_behind (depth (add d (leaf tt (Number z) nil))) bytes (add d (leaf tt (Number z) nil)) refl (numbered_behind names z bytes d w)

  -- a digit behind `-`
  viable_minus : (bytes : List ℕ) (d : PlainDraft) → IsRead names (number Minus) bytes d → IsViable bytes
  viable_minus bytes d w =
      viable_front bytes (49 ∷ []) (viable_number (negsuc 0) (bytes ++ 49 ∷ []) d (step_kept names d bytes 49 (number Minus) w))

  viable_label : (text bytes : List ℕ) (d : PlainDraft) → IsRead names (label text) bytes d → IsViable bytes
  viable_label text bytes d w =
      viable_front bytes (91 ∷ []) (viable_content (bytes ++ 91 ∷ []) (begin d tt (number_of names text)) (step_kept names d bytes 91 (label text) w))

-- what is read is the beginning of a document
pub read_viable : (names : List (List ℕ)) (s : Shape) (bytes : List ℕ) (d : PlainDraft) → IsTable names → IsRead names s bytes d → IsViable bytes
read_viable names content bytes d table w = viable_content names table bytes d w
read_viable names next bytes d table w = viable_next names table bytes d w
read_viable names (name text) bytes d table w = by (truth_of text) refl
  where
    by : (o : Option Atom) → truth_of text ≡ o → IsViable bytes
    by (Some x) e = viable_behind names table (depth (add d (leaf tt x nil))) bytes (add d (leaf tt x nil)) refl (named_behind names text x bytes d e w)
    by None e = viable_label (with_text names text) (IsTable-with_text names text table (name_in names text bytes d w)) text bytes d (named_label names text bytes d e w)
read_viable names (label text) bytes d table w = viable_label names table text bytes d w
read_viable names opened bytes d table w = viable_opened names table bytes d w
read_viable names closed bytes d table w = viable_closed names table bytes d w
read_viable names (number Minus) bytes d table w = viable_minus names table bytes d w
read_viable names (number (Digits z)) bytes d table w = viable_number names table z bytes d w
read_viable names (string r) bytes d table w = viable_string names table bytes d r w
read_viable names behind bytes d table w = viable_behind names table (depth d) bytes d refl w
