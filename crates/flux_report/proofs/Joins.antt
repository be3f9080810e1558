-- How choices, sequences and stars are read, whose parts are read.
use Rattle.std.proofs.Common.{◌≤◌, ◌+◌, ℕ, suc, Option, Some, None, List, [], ◌∷◌, ◌++◌, max, arith}
use Rattle.flux_grammar.specs.declared.lexeme.Sign.TheVariants as sign
use Rattle.flux_grammar.specs.declared.tree.Repetition.TheVariants as re
use Rattle.flux_grammar.specs.declared.tree.TypeText.{TypeText}
use Rattle.flux_grammar.specs.Grammar.{limit, alts, seqs, mark_of, Reads, reads-alts, reads-seqs, reads-star}
use Rattle.flux_grammar.specs.States.{State}
use Rattle.flux_schema.specs.Definitions.{Definitions}
use Rattle.flux_schema.specs.Ty.{Ty, seq, alt, star}
use Rattle.flux_report.proofs.Items.{Item, mark, Follows, over, on, part, sign_taken}
use Rattle.flux_report.proofs.Forms.{followed, stands_same, Rest, Alts, Seqs, Stars, AltForm, SeqForm, PostForm}
use Rattle.flux_report.proofs.SameTypes.{seq_assoc, alt_assoc}

module _ (defs : Definitions) where
  -- ---- choices

  alts_right : (d : ℕ) (a c : State) (t u : Ty) (rest : Option Ty) → Alts defs d a c (alt t (followed alt u rest)) → Alts defs d a c (followed alt (alt t u) rest)
  alts_right d a c t u None s = s
  alts_right d a c t u (Some w) s = record {
    between = s.between;
    first = s.first;
    others = s.others;
    begins = s.begins;
    goes = s.goes;
    stands = stands_same defs (alt (alt t u) w) (alt t (alt u w)) (alt_assoc defs t u w) s.stands;
  }

  alts_behind : (k : ℕ) (js : List Item) (u : Ty) → AltForm defs k js u → (d : ℕ) → d + k ≤ limit → (a b c : State) → Follows (mark sign.Bar ∷ js) a b → (more : List TypeText) (rest : Option Ty) → Reads None (alts d) b c more → Rest defs alt more rest → (others : List TypeText) × Reads None (alts d) a c others × Rest defs alt others (Some (followed alt u rest))
  alts_behind k js u form d low a b c (on m z f) more rest reads r =
      let s = form d low _ b c f more rest reads r in
      (s.first ∷ s.others, reads-alts (sign_taken m z) s.begins s.goes, s.stands)

  pub alt_joined : (k l : ℕ) (is js : List Item) (t u : Ty) → AltForm defs k is t → AltForm defs l js u → AltForm defs (max k l) (is ++ mark sign.Bar ∷ js) (alt t u)
  alt_joined k l is js t u form other d low a b c f more rest reads r =
      let p = part is (mark sign.Bar ∷ js) f in
      let behind = alts_behind l js u other d (omega arith) p.between b c p.back more rest reads r in
      alts_right d a c t u rest (form d (omega arith) a p.between c p.front behind.0 (Some (followed alt u rest)) behind.1 behind.2)

  -- ---- sequences

  seqs_right : (d : ℕ) (a c : State) (t u : Ty) (rest : Option Ty) → Seqs defs d a c (seq t (followed seq u rest)) → Seqs defs d a c (followed seq (seq t u) rest)
  seqs_right d a c t u None s = s
  seqs_right d a c t u (Some w) s = record {
    between = s.between;
    first = s.first;
    others = s.others;
    begins = s.begins;
    goes = s.goes;
    stands = stands_same defs (seq (seq t u) w) (seq t (seq u w)) (seq_assoc defs t u w) s.stands;
  }

  seqs_behind : (k : ℕ) (js : List Item) (u : Ty) → SeqForm defs k js u → (d : ℕ) → d + k ≤ limit → (a b c : State) → Follows (mark sign.Comma ∷ js) a b → (more : List TypeText) (rest : Option Ty) → Reads None (seqs d) b c more → Rest defs seq more rest → (others : List TypeText) × Reads None (seqs d) a c others × Rest defs seq others (Some (followed seq u rest))
  seqs_behind k js u form d low a b c (on m z f) more rest reads r =
      let s = form d low _ b c f more rest reads r in
      (s.first ∷ s.others, reads-seqs (sign_taken m z) s.begins s.goes, s.stands)

  pub seq_joined : (k l : ℕ) (is js : List Item) (t u : Ty) → SeqForm defs k is t → SeqForm defs l js u → SeqForm defs (max k l) (is ++ mark sign.Comma ∷ js) (seq t u)
  seq_joined k l is js t u form other d low a b c f more rest reads r =
      let p = part is (mark sign.Comma ∷ js) f in
      let behind = seqs_behind l js u other d (omega arith) p.between b c p.back more rest reads r in
      seqs_right d a c t u rest (form d (omega arith) a p.between c p.front behind.0 (Some (followed seq u rest)) behind.1 behind.2)

  -- ---- stars

  star_more : (b c : State) (n : ℕ) (a : State) → Follows (mark sign.Star ∷ []) a b → ((from : ℕ) → Stars defs from b c n) → (from : ℕ) → Stars defs from a c (suc n)
  star_more b c n a (on {x = x} m z over) stars from =
      let s = stars from in
      record {
        read = mark_of re.Star from x.span.to ∷ s.read;
        reads = reads-star (sign_taken m z) s.reads;
        stand = λ u. s.stand (star u);
      }

  pub star_form : (k : ℕ) (is : List Item) (t : Ty) → PostForm defs k is t → PostForm defs k (is ++ mark sign.Star ∷ []) (star t)
  star_form k is t form d low a b c f n stars =
      let p = part is (mark sign.Star ∷ []) f in
      form d low a p.between c p.front (suc n) (star_more b c n p.between p.back stars)
