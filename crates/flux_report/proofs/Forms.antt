-- How the parts of a type are read: as the parts of a choice, as those of a sequence, and under marks.
use Rattle.std.proofs.Common.{◌≡◌, ◌<◌, ◌≤◌, ◌+◌, ℕ, zero, suc, Option, Some, None, List, [], ◌∷◌, refl, sym, ap₂, subst, ◌∙◌, arith}
use Rattle.flux_grammar.specs.declared.tree.Mark.{Mark}
use Rattle.flux_grammar.specs.declared.tree.TypeText.{TypeText}
use Rattle.flux_grammar.specs.Grammar.{limit, alts, tseq, seqs, tpost, marks, tatom, content, alt_of, seq_of, marked_of, Reads, reads-type, reads-no-alts, reads-tseq, reads-no-seqs, reads-tpost, reads-no-marks, reads-content}
use Rattle.flux_grammar.specs.Spans.{type_span}
use Rattle.flux_grammar.specs.States.{State, end}
use Rattle.flux_grammar.specs.TypeOf.{type_of, under_marks, both}
use Rattle.flux_schema.specs.Definitions.{Definitions}
use Rattle.flux_schema.specs.Member.{SameMembers}
use Rattle.flux_schema.specs.Ty.{Ty, seq, alt, star}
use Rattle.flux_report.proofs.Items.{Item, Follows}
use Rattle.flux_report.proofs.SameTypes.{same_trans, same_seq, same_alt, same_star}
use Rattle.flux_report.proofs.TreeTypes.{joined, content_of, of_alts, of_seqs, of_marks}

-- a type any number of times, n times over
abbrev pub starred : ℕ → Ty → Ty
starred zero t = t
starred (suc n) t = starred n (star t)

abbrev pub followed : (Ty → Ty → Ty) → Ty → Option Ty → Ty
followed join t None = t
followed join t (Some u) = join t u

module _ (defs : Definitions) where
  -- what is read is a type with the same members
  pub record Stands (t : Ty) (read : Option Ty) : Type 0 where
    pub other : Ty
    pub is : read ≡ Some other
    pub same : SameMembers defs t other

  pub stands_as : (t : Ty) {o p : Option Ty} → p ≡ o → Stands t o → Stands t p
  stands_as t e s = record { other = s.other; is = e ∙ s.is; same = s.same }

  pub stands_same : (t u : Ty) {o : Option Ty} → SameMembers defs t u → Stands u o → Stands t o
  stands_same t u e s = record { other = s.other; is = s.is; same = same_trans defs e s.same }

  -- the parts that are read behind are a type, or there are none
  abbrev pub Rest : (Ty → Ty → Ty) → List TypeText → Option Ty → Type 0
  Rest join [] None = Unit {0}
  Rest join [] (Some u) = ⊥
  Rest join (t ∷ ts) None = ⊥
  Rest join (t ∷ ts) (Some u) = Stands u (joined defs join (t ∷ ts))

  abbrev Congruent : (Ty → Ty → Ty) → Type 0
  Congruent join = (t u t' u' : Ty) → SameMembers defs t t' → SameMembers defs u u' → SameMembers defs (join t u) (join t' u')

  stands_first : (join : Ty → Ty → Ty) → Congruent join → (t : Ty) (tree : TypeText) → Stands t (type_of defs tree) → (more : List TypeText) (rest : Option Ty) → Rest join more rest → Stands (followed join t rest) (joined defs join (tree ∷ more))
  stands_first join congruent t tree s [] None r = s
  stands_first join congruent t tree s [] (Some u) r = absurd r
  stands_first join congruent t tree s (m ∷ ms) None r = absurd r
  stands_first join congruent t tree s (m ∷ ms) (Some u) r = record {
    other = join s.other r.other;
    is = ap₂ (both join) s.is r.is;
    same = congruent t u s.other r.other s.same r.same;
  }

  same_starred : (n : ℕ) (t u : Ty) → SameMembers defs t u → SameMembers defs (starred n t) (starred n u)
  same_starred zero t u e = e
  same_starred (suc n) t u e = same_starred n (star t) (star u) (same_star defs e)

  -- ---- what is read

  pub record Alts (d : ℕ) (a c : State) (t : Ty) : Type 0 where
    pub between : State
    pub first : TypeText
    pub others : List TypeText
    pub begins : Reads None (tseq d) a between first
    pub goes : Reads None (alts d) between c others
    pub stands : Stands t (joined defs alt (first ∷ others))

  pub record Seqs (d : ℕ) (a c : State) (t : Ty) : Type 0 where
    pub between : State
    pub first : TypeText
    pub others : List TypeText
    pub begins : Reads None (tpost d) a between first
    pub goes : Reads None (seqs d) between c others
    pub stands : Stands t (joined defs seq (first ∷ others))

  pub record Post (d : ℕ) (a c : State) (t : Ty) : Type 0 where
    pub tree : TypeText
    pub reads : Reads None (tpost d) a c tree
    pub stands : Stands t (type_of defs tree)

  pub record Content (d : ℕ) (a c : State) (t : Ty) : Type 0 where
    pub tree : Option TypeText
    pub reads : Reads None (content d) a c tree
    pub stands : Stands t (content_of defs tree)

  -- stars, as many as n, behind a type that begins anywhere
  pub record Stars (from : ℕ) (a c : State) (n : ℕ) : Type 0 where
    pub read : List Mark
    pub reads : Reads None (marks from) a c read
    pub stand : (u : Ty) → under_marks u read ≡ starred n u

  -- the items are read as the type, whatever parts or stars follow
  abbrev pub AltForm : ℕ → List Item → Ty → Type 0
  AltForm k is t =
      (d : ℕ) → d + k ≤ limit → (a b c : State) → Follows is a b → (more : List TypeText) (rest : Option Ty) → Reads None (alts d) b c more → Rest alt more rest → Alts d a c (followed alt t rest)

  abbrev pub SeqForm : ℕ → List Item → Ty → Type 0
  SeqForm k is t =
      (d : ℕ) → d + k ≤ limit → (a b c : State) → Follows is a b → (more : List TypeText) (rest : Option Ty) → Reads None (seqs d) b c more → Rest seq more rest → Seqs d a c (followed seq t rest)

  abbrev pub PostForm : ℕ → List Item → Ty → Type 0
  PostForm k is t =
      (d : ℕ) → d + k ≤ limit → (a b c : State) → Follows is a b → (n : ℕ) → ((from : ℕ) → Stars from b c n) → Post d a c (starred n t)

  -- ---- from one form to the other

  no_stars : (a : State) (from : ℕ) → Stars from a a 0
  no_stars a from = record { read = []; reads = reads-no-marks; stand = λ u. refl }

  pub seq_form : (k : ℕ) (is : List Item) (t : Ty) → PostForm k is t → SeqForm k is t
  seq_form k is t form d low a b c f more rest reads r =
      let p = form d low a b b f 0 (no_stars b) in
      record {
        between = b;
        first = p.tree;
        others = more;
        begins = p.reads;
        goes = reads;
        stands = stands_first seq (same_seq defs) t p.tree p.stands more rest r;
      }

  pub alt_form : (k : ℕ) (is : List Item) (t : Ty) → SeqForm k is t → AltForm k is t
  alt_form k is t form d low a b c f more rest reads r =
      let s = form d low a b b f [] None reads-no-seqs tt in
      record {
        between = b;
        first = seq_of s.first s.others (end b);
        others = more;
        begins = reads-tseq s.begins s.goes;
        goes = reads;
        stands = stands_first alt (same_alt defs) t (seq_of s.first s.others (end b)) (stands_as t (of_seqs defs s.first s.others (end b)) s.stands) more rest r;
      }

  pub read_content : (k : ℕ) (is : List Item) (t : Ty) → AltForm k is t → (d : ℕ) → d + (k + 1) ≤ limit → (a b : State) → Follows is a b → Content d a b t
  read_content k is t form d low a b f =
      let s = form (d + 1) (omega arith) a b b f [] None reads-no-alts tt in
      let below : d < limit = omega arith in
      record {
        tree = Some (alt_of s.first s.others (end b));
        reads = reads-content (reads-type (λ w. below) s.begins s.goes);
        stands = stands_as t (of_alts defs s.first s.others (end b)) s.stands;
      }

  pub read_marks : (d : ℕ) (a b c : State) (t : Ty) (tree : TypeText) (n : ℕ) → Reads None (tatom d) a b tree → Stands t (type_of defs tree) → ((from : ℕ) → Stars from b c n) → Post d a c (starred n t)
  read_marks d a b c t tree n reads s stars =
      let m = stars (type_span tree).from in
      record {
        tree = marked_of tree m.read (end c);
        reads = reads-tpost reads m.reads;
        stands = record {
          other = under_marks s.other m.read;
          is = of_marks defs tree m.read (end c) s.other s.is;
          same = subst (λ w. SameMembers defs (starred n t) w) (sym (m.stand s.other)) (same_starred n t s.other s.same);
        };
      }
