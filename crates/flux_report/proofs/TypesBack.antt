-- A type that is printed reads back.
use Rattle.std.proofs.Common.{◌<◌, ◌≤◌, ◌+◌, ℕ, Bool, true, false, List, [], All, length, None, refl, sym, subst, ◌∙◌, append-nil, arith, if◌then◌else◌}
use Rattle.flux_grammar.specs.declared.lexeme.Piece.{Piece}
use Rattle.flux_grammar.specs.declared.token.Token.{Token}
use Rattle.flux_grammar.specs.Grammar.{limit, alt_of, reads-type, reads-no-alts}
use Rattle.flux_grammar.specs.States.{state}
use Rattle.flux_grammar.specs.Lexemes.{ArePieces}
use Rattle.flux_grammar.specs.Tokens.{AreTokens}
use Rattle.flux_schema.specs.Definitions.{Definitions, names_of, Differ}
use Rattle.flux_schema.specs.Member.{SameMembers}
use Rattle.flux_schema.specs.Tidy.{same, tidy_seq, tidy_star, tidy}
use Rattle.flux_schema.specs.Ty.{Ty, empty, atom, element, any_element, seq, alt, star, named}
use Rattle.flux_schema.specs.TypeText.{IsWritable, name_text, text_of}
use Rattle.flux_schema.proofs.TidyLaws.{tidy-members, tidy_writable}
use Rattle.flux_syntax.specs.Learnt.{learnt}
use Rattle.flux_report.specs.ReadsBack.{IsTypeName, HasLabels, depth, IsTextOf, TypesReadBack}
use Rattle.flux_report.proofs.Items.{items_of}
use Rattle.flux_report.proofs.Spelled.{bytes_of, tokens_at, text_is}
use Rattle.flux_report.proofs.Forms.{Alts}
use Rattle.flux_report.proofs.Fitting.{AreSpelled, lexed, spelled}
use Rattle.flux_report.proofs.Learning.{kept_learnt, known}
use Rattle.flux_report.proofs.Piecing.{pieced}
use Rattle.flux_report.proofs.Readings.{forms}
use Rattle.flux_report.proofs.SameTypes.{same_trans}
use Rattle.flux_report.proofs.TreeTypes.{of_alts}

-- ---- the labels of a tidied type

labels_seq : (texts : List (List ℕ)) (t u : Ty) → HasLabels texts t → HasLabels texts u → HasLabels texts (tidy_seq t u)
labels_seq texts empty u p q = q
labels_seq texts t empty p q = p
labels_seq texts t u p q = (p, q)

labels_alt : (texts : List (List ℕ)) (t u : Ty) (b : Bool) → HasLabels texts t → HasLabels texts u → HasLabels texts (if b then t else alt t u)
labels_alt texts t u true p q = p
labels_alt texts t u false p q = (p, q)

labels_star : (texts : List (List ℕ)) (t : Ty) → HasLabels texts t → HasLabels texts (tidy_star t)
labels_star texts empty p = p
labels_star texts t p = p

tidy_labels : (texts : List (List ℕ)) (t : Ty) → HasLabels texts t → HasLabels texts (tidy t)
tidy_labels texts empty p = p
tidy_labels texts (atom k) p = p
tidy_labels texts (element n t) p = (p.0, tidy_labels texts t p.1)
tidy_labels texts (any_element t) p = tidy_labels texts t p
tidy_labels texts (seq t u) p = labels_seq texts (tidy t) (tidy u) (tidy_labels texts t p.0) (tidy_labels texts u p.1)
tidy_labels texts (alt t u) p = labels_alt texts (tidy t) (tidy u) (same (tidy t) (tidy u)) (tidy_labels texts t p.0) (tidy_labels texts u p.1)
tidy_labels texts (star t) p = labels_star texts (tidy t) (tidy_labels texts t p)
tidy_labels texts (named x) p = p

-- ---- a type as it is

module _ (texts : List (List ℕ)) (defs : Definitions) (differ : Differ (names_of defs)) (names : All (λ n. IsTypeName (name_text texts n)) (names_of defs)) (t : Ty) (writable : IsWritable (length texts) defs t) (labels : HasLabels texts t) (levels : depth t < limit) where
  are_spelled : AreSpelled texts (items_of defs t)
  are_spelled = subst (AreSpelled texts) (append-nil (items_of defs t)) (spelled texts defs names t writable labels)

  from_parts : (whole : List ℕ) (tokens : List Token) → AreTokens whole tokens → (ps : List Piece) → ArePieces (learnt whole tokens texts) whole tokens ps → (e : ℕ) → Alts defs 1 (state 0 ps) (state e []) t → IsTextOf texts defs t whole
  from_parts whole tokens are ps pieces e a =
      let some : 0 < limit = omega arith in
      record {
        tokens = tokens;
        are = are;
        tree = alt_of a.first a.others e;
        reads = (ps, pieces, (e, reads-type (λ w. some) a.begins a.goes));
        other = a.stands.other;
        is = of_alts defs a.first a.others e ∙ a.stands.is;
        same = a.stands.same;
      }

  reads_back : IsTextOf texts defs t (bytes_of texts (items_of defs t))
  reads_back =
      let is = items_of defs t in
      let whole = bytes_of texts is in
      let tokens = tokens_at texts 0 is in
      let new = learnt whole tokens texts in
      let p = pieced new texts (kept_learnt whole tokens texts) whole is [] 0 refl refl are_spelled (known texts whole is texts [] 0 refl refl) in
      let end = p.follow 0 in
      let low : 1 + depth t ≤ limit = omega arith in
      from_parts whole tokens (lexed texts 0 is are_spelled) p.pieces p.are end.0 ((forms defs differ (length texts) t writable).0 1 low (state 0 p.pieces) (state end.0 []) (state end.0 []) end.1 [] None reads-no-alts tt)

  text_reads_back : IsTextOf texts defs t (text_of texts defs t)
  text_reads_back = subst (IsTextOf texts defs t) (sym (text_is texts defs t)) reads_back

-- ---- a type that is tidied

of_same : (texts : List (List ℕ)) (defs : Definitions) (t u : Ty) (bytes : List ℕ) → SameMembers defs t u → IsTextOf texts defs u bytes → IsTextOf texts defs t bytes
of_same texts defs t u bytes e r = record {
  tokens = r.tokens;
  are = r.are;
  tree = r.tree;
  reads = r.reads;
  other = r.other;
  is = r.is;
  same = same_trans defs e r.same;
}

pub types_read_back : TypesReadBack
types_read_back texts defs t can =
    of_same texts defs t (tidy t) (text_of texts defs (tidy t)) (tidy-members defs t)
    (text_reads_back texts defs can.differ can.names (tidy t) (tidy_writable (length texts) defs t can.written) (tidy_labels texts t can.labels) can.levels)
