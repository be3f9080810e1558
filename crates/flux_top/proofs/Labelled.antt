-- A script that deletes a path has one label in it at least, and its labels are those of pieces.
use Rattle.std.proofs.Common.{◌≡◌, ◌<◌, refl, ap, subst, ℕ, List, [], ◌∷◌, length, map, Option, Some, None, arith}
use Rattle.std.specs.Prelude.{All}
use Rattle.std.proofs.lemmas.List.{length-map}
use Rattle.std.proofs.lemmas.List.Elements.{All-nil, All-cons, All-head, All-tail}
use Rattle.std.proofs.lemmas.Option.{same_Some, slice_get_within}
use Rattle.flux_calculus.specs.declared.ask.Span.{Span}
use Rattle.flux_grammar.specs.declared.lexeme.Lexeme.{Lexeme}
use Rattle.flux_grammar.specs.declared.lexeme.Lexeme.TheVariants.{Word, Soft, Quoted}
use Rattle.flux_grammar.specs.declared.lexeme.Piece.{Piece}
use Rattle.flux_grammar.specs.declared.token.Token.{Token}
use Rattle.flux_grammar.specs.declared.token.TokenKind.{TokenKind}
use Rattle.flux_grammar.specs.declared.tree.Expr.{Expr}
use Rattle.flux_grammar.specs.declared.tree.Path.{Path}
use Rattle.flux_grammar.specs.declared.tree.Script.{Script}
use Rattle.flux_grammar.specs.declared.tree.Step.{Step}
use Rattle.flux_grammar.specs.declared.tree.Stmt.{Stmt}
use Rattle.flux_grammar.specs.declared.tree.Stmt.TheVariants.{Delete}
use Rattle.flux_grammar.specs.declared.tree.TestText.{TestText}
use Rattle.flux_grammar.specs.declared.tree.TestText.TheVariants.{Label}
use Rattle.flux_grammar.specs.States.{State, left, head, Takes, takes}
use Rattle.flux_grammar.specs.Lexemes.{ArePieces, no_pieces, more_pieces, IsLexeme, a_reserved, a_truth, a_soft, a_word, a_quoted, a_variable, a_string, a_number, a_sign}
use Rattle.flux_grammar.specs.Grammar.{Reads, test, other, tested, path, slashes, step, spot, stmts, stmt, guard, simple, inserting, placing, deleting, replacing, script, reads-child-label, reads-test, reads-word-label, reads-quoted-label, reads-any-label, reads-every, reads-string-test, reads-bool-test, reads-int-test, reads-label-test, reads-kind-test, reads-path, reads-no-slashes, reads-slashes, reads-bound-step, reads-step, reads-dot, reads-spot, reads-stmts, reads-update, reads-if-stmt, reads-let-stmt, reads-stmt, reads-unguarded, reads-guarded, reads-skip, reads-insert, reads-delete, reads-replace, reads-rename, reads-call, reads-block, reads-insert-value, reads-insert-before, reads-insert-after, reads-insert-as, reads-insert-first, reads-insert-last, reads-delete-from, reads-delete-path, reads-replace-in, reads-replace-path, reads-script}
use Rattle.flux_grammar.proofs.Follow.{binds, Ends, before, at_head}
use Rattle.flux_top.specs.Script.{lone, lone_label, IsScriptOf, IsDeletion}
use Rattle.flux_top.proofs.Behind.{all_behind, all_taken}
use Rattle.flux_top.proofs.Deleted.{deleted_by, of_update, of_if, of_let, of_guarded, of_skip, of_insert, of_insert_before, of_insert_after, of_insert_first, of_insert_last, of_delete_from, of_rename, of_replace, of_replace_in, of_call, of_block, one_deleted, none_deleted}
use Rattle.flux_top.proofs.Grown.{Within}

module _ (P : ℕ → Type 0) where
  -- the name of a lexeme that may be a label
  abbrev LexemeHolds : Lexeme → Type 0
  LexemeHolds (Word n) = P n
  LexemeHolds (Soft s n) = P n
  LexemeHolds (Quoted n) = P n
  LexemeHolds _ = Unit {0}

  abbrev PieceHolds : Piece → Type 0
  PieceHolds x = LexemeHolds x.lexeme

  abbrev TestHolds : TestText → Type 0
  TestHolds (Label n) = P n
  TestHolds _ = Unit {0}

  abbrev SpotHolds : Option TestText → Type 0
  SpotHolds None = Unit {0}
  SpotHolds (Some φ) = TestHolds φ

  abbrev StepHolds : Step → Type 0
  StepHolds s = SpotHolds s.test

  taken_holds : {l : Lexeme} {a b : State} {x : Piece} → Takes l a x b → All PieceHolds (left a) → LexemeHolds l
  taken_holds (takes {x = x} {ps = ps} is) all = subst LexemeHolds is (All-head PieceHolds x ps all)

  tested_holds : {n : ℕ} {typed ψ : TestText} {a b : State} → Reads None (tested n typed) a b ψ → P n → TestHolds typed → TestHolds ψ
  tested_holds reads-label-test named other_named = named
  tested_holds (reads-kind-test t u) named other_named = other_named

  other_holds : {a b : State} {φ : TestText × ℕ} → Reads None other a b φ → All PieceHolds (left a) → TestHolds φ.0
  other_holds (reads-word-label t) all = taken_holds t all
  other_holds (reads-quoted-label t) all = taken_holds t all
  other_holds (reads-any-label t) all = taken_holds t all
  other_holds (reads-every t) all = tt
  other_holds (reads-string-test t r) all = tested_holds r (taken_holds t all) tt
  other_holds (reads-bool-test t r) all = tested_holds r (taken_holds t all) tt
  other_holds (reads-int-test t r) all = tested_holds r (taken_holds t all) tt

  test_holds : {a b : State} {φ : TestText × ℕ} → Reads None test a b φ → All PieceHolds (left a) → TestHolds φ.0
  test_holds (reads-child-label t) all = taken_holds t all
  test_holds (reads-test r) all = other_holds r all

  spot_holds : {a b : State} {χ : Option TestText × ℕ} → Reads None spot a b χ → All PieceHolds (left a) → SpotHolds χ.0
  spot_holds (reads-dot t) all = tt
  spot_holds (reads-spot r) all = test_holds r all

  step_holds : {d : ℕ} {a b : State} {s : Step} → Reads None (step d) a b s → All PieceHolds (left a) → StepHolds s
  step_holds (reads-bound-step t u r f) all = spot_holds r (all_taken PieceHolds u (all_taken PieceHolds t all))
  step_holds (reads-step r f) all = spot_holds r all

  slashes_hold : {d : ℕ} {a b : State} {ss : List Step} → Reads None (slashes d) a b ss → Ends (slashes d) (head b) → All PieceHolds (left a) → All StepHolds ss
  slashes_hold reads-no-slashes e all = All-nil StepHolds
  slashes_hold (reads-slashes {sp = s} {ps = ss} t r rs) e all =
      let after = all_taken PieceHolds t all in
      All-cons StepHolds s ss (step_holds r after) (slashes_hold rs e (all_behind PieceHolds r (before rs e) after))

  -- a path of one step at least, each of whose labels holds
  abbrev PathHolds : Path → Type 0
  PathHolds p = (0 < length p.steps) × All StepHolds p.steps

  path_holds : {d : ℕ} {a b : State} {p : Path} → Reads None (path d) a b p → Ends (path d) (head b) → All PieceHolds (left a) → PathHolds p
  path_holds (reads-path {sp = s} {ps = ss} r rs) e all =
      (omega arith, All-cons StepHolds s ss (step_holds r all) (slashes_hold rs e (all_behind PieceHolds r (before rs e) all)))

  -- so is that of a statement, where it deletes one
  abbrev Holds : Stmt → Type 0
  Holds s = (p : Path) (at : Span) → s ≡ Delete p at → PathHolds p

  holds_not : (s : Stmt) → deleted_by s ≡ None → Holds s
  holds_not s not p at is = absurd (none_deleted s p at not is)

  deleting_holds : {d from : ℕ} {a b : State} {s : Stmt} → Reads None (deleting d from) a b s → Ends (deleting d from) (head b) → All PieceHolds (left a) → Holds s
  deleting_holds (reads-delete-from t r) e all = holds_not _ (of_delete_from _ _)
  deleting_holds (reads-delete-path {p = q} r) e all =
      λ p at is. subst PathHolds (one_deleted _ q p _ at refl is) (path_holds r (let lt = e in omega (arith, lt)) all)

  inserting_not : {d from : ℕ} {a b : State} {s : Stmt} → Reads None (inserting d from) a b s → deleted_by s ≡ None
  inserting_not (reads-insert-value t r) = of_insert _ _
  inserting_not (reads-insert-before t r u q) = of_insert_before _ _ _
  inserting_not (reads-insert-after t r u q) = of_insert_after _ _ _
  inserting_not (reads-insert-as t r) = placing_not r
    where
      placing_not : {d from : ℕ} {a b : State} {s : Stmt} → Reads None (placing d from) a b s → deleted_by s ≡ None
      placing_not (reads-insert-first t u r v q) = of_insert_first _ _ _
      placing_not (reads-insert-last t u r v q) = of_insert_last _ _ _

  replacing_not : {d from : ℕ} {a b : State} {s : Stmt} → Reads None (replacing d from) a b s → deleted_by s ≡ None
  replacing_not (reads-replace-in t r u q) = of_replace_in _ _ _
  replacing_not (reads-replace-path r u q) = of_replace _ _ _

  simple_holds : {d : ℕ} {a b : State} {s : Stmt} → Reads None (simple d) a b s → Ends (simple d) (head b) → All PieceHolds (left a) → Holds s
  simple_holds (reads-skip t) e all = holds_not _ (of_skip _)
  simple_holds (reads-insert t r) e all = holds_not _ (inserting_not r)
  simple_holds (reads-delete t r) e all = deleting_holds r e (all_taken PieceHolds t all)
  simple_holds (reads-replace t r) e all = holds_not _ (replacing_not r)
  simple_holds (reads-rename t r u l) e all = holds_not _ (of_rename _ _ _)
  simple_holds (reads-call t l u r v) e all = holds_not _ (of_call _ _ _)
  simple_holds (reads-block t r u) e all = holds_not _ (of_block _ _)

  guard_holds : {d : ℕ} {s r : Stmt} {a b : State} → Reads None (guard d s) a b r → Holds s → Holds r
  guard_holds reads-unguarded holds = holds
  guard_holds (reads-guarded t q) holds = holds_not _ (of_guarded _ _ _)

  stmt_holds : {d : ℕ} {a b : State} {s : Stmt} → Reads None (stmt d) a b s → Ends (stmt d) (head b) → All PieceHolds (left a) → Holds s
  stmt_holds (reads-update f t r u s) e all = holds_not _ (of_update _ _ _)
  stmt_holds (reads-if-stmt f t q u s v r) e all = holds_not _ (of_if _ _ _ _)
  stmt_holds (reads-let-stmt f t x u q v s) e all = holds_not _ (of_let _ _ _ _)
  stmt_holds (reads-stmt f r g) e all = guard_holds g (simple_holds r (before g e) all)

  -- the first statement of a body
  abbrev FirstHolds : List Stmt → Type 0
  FirstHolds [] = Unit {0}
  FirstHolds (s ∷ ss) = Holds s

  stmts_hold : {d : ℕ} {a b : State} {ss : List Stmt} → Reads None (stmts d) a b ss → Ends (stmts d) (head b) → All PieceHolds (left a) → FirstHolds ss
  stmts_hold (reads-stmts r rs) e all = stmt_holds r (before rs e) all

  script_holds : {a b : State} {tree : Script} → Reads None script a b tree → Ends script (head b) → All PieceHolds (left a) → FirstHolds tree.body
  script_holds (reads-script p1 p2 p3 p4 p5 p6 p7) e all =
      let types = all_behind PieceHolds p1 (before p2 (at_head (λ h. binds h < 24) p3 (omega arith))) all in
      let procs = all_behind PieceHolds p2 (at_head (λ h. binds h < 24) p3 (omega arith)) types in
      let input = all_behind PieceHolds p4 (before p5 (at_head (λ h. binds h ≡ 15) p6 (omega arith))) (all_taken PieceHolds p3 procs) in
      let output = all_behind PieceHolds p5 (at_head (λ h. binds h ≡ 15) p6 (omega arith)) input in
      stmts_hold p7 e (all_taken PieceHolds p6 output)

  first_of_one : (body : List Stmt) (p : Path) (at : Span) → body ≡ Delete p at ∷ [] → FirstHolds body → PathHolds p
  first_of_one body p at is holds = (subst FirstHolds is holds) p at refl

  list_head : {o p : Option ℕ} {os ps : List (Option ℕ)} → o ∷ os ≡ p ∷ ps → o ≡ p
  list_head e = cc

  list_tail : {o p : Option ℕ} {os ps : List (Option ℕ)} → o ∷ os ≡ p ∷ ps → os ≡ ps
  list_tail e = cc

  -- the labels that are all of steps hold
  lone_holds : (x : Option ℕ) (φ : Option TestText) (q : Option Expr) (n : ℕ) → SpotHolds φ → lone x φ q ≡ Some n → P n
  lone_holds None (Some (Label m)) None n holds is = subst P (same_Some m n is) holds
  lone_holds _ _ _ n holds is = absurd (let none : None ≡ Some n = is in cc)

  labels_hold : (ss : List Step) (ns : List ℕ) → map lone_label ss ≡ map Some ns → All StepHolds ss → All P ns
  labels_hold ss [] is all = All-nil P
  labels_hold [] (n ∷ ns) is all = absurd (let none : [] ≡ Some n ∷ map Some ns = is in cc)
  labels_hold (s ∷ ss) (n ∷ ns) is all = All-cons P n ns (lone_holds s.var s.test s.filter n (All-head StepHolds s ss all) (list_head is)) (labels_hold ss ns (list_tail is) (All-tail StepHolds s ss all))

-- the pieces name texts of the table
lexeme_known : {texts : List (List ℕ)} {kind : TokenKind} {text : List ℕ} {l : Lexeme} → IsLexeme texts kind text l → LexemeHolds (λ n. n < length texts) l
lexeme_known (a_reserved k is) = tt
lexeme_known (a_truth b is) = tt
lexeme_known {texts} {text = text} (a_soft {n = n} s is named) = slice_get_within texts n text named
lexeme_known {texts} {text = text} (a_word {n = n} free hard named) = slice_get_within texts n text named
lexeme_known {texts} (a_quoted {n = n} label is named) = slice_get_within texts n label named
lexeme_known (a_variable name is named) = tt
lexeme_known (a_string is) = tt
lexeme_known (a_number is) = tt
lexeme_known (a_sign s is) = tt

pieces_known : {texts : List (List ℕ)} {bytes : List ℕ} {ts : List Token} {xs : List Piece} → ArePieces texts bytes ts xs → All (PieceHolds (λ n. n < length texts)) xs
pieces_known {texts} no_pieces = All-nil (PieceHolds (λ n. n < length texts))
pieces_known {texts} (more_pieces {x = x} {xs = xs} same is rest) = All-cons (PieceHolds (λ n. n < length texts)) x xs (lexeme_known is) (pieces_known rest)

-- the path of a deletion has a label, and its labels are names of the table
pub deletion_known : (bytes : List ℕ) (tree : Script) (texts : List (List ℕ)) (ns : List ℕ) → IsScriptOf bytes tree texts → IsDeletion tree ns → (0 < length ns) × Within texts ns
deletion_known bytes tree texts ns reads is =
    let holds = script_holds (λ n. n < length texts) reads.reads.2.1 tt (pieces_known reads.reads.1) in
    let path = first_of_one (λ n. n < length texts) tree.body is.deleted is.at is.body_is holds in (
      omega (arith, path.0, ap length is.labels_are, length-map is.deleted.steps lone_label, length-map ns Some),
      labels_hold (λ n. n < length texts) is.deleted.steps ns is.labels_are path.1,
    )
