-- What holds of each name of the pieces that are read holds of each name of the tree.
use Rattle.std.proofs.Common.{◌≡◌, ℕ, List, [], ◌∷◌, ◌++◌, Option, flat_map, subst, sym}
use Rattle.std.specs.Prelude.{All}
use Rattle.std.proofs.lemmas.List.Elements.{All-nil, All-cons, All-head, All-tail, All-append}
use Rattle.flux_atom.specs.declared.atom.AtomKind.{AtomKind}
use Rattle.flux_atom.specs.declared.atom.AtomKind.TheVariants as kind
use Rattle.flux_calculus.specs.declared.ask.Span.{Span}
use Rattle.flux_grammar.specs.declared.lexeme.Lexeme.{Lexeme}
use Rattle.flux_grammar.specs.declared.lexeme.Piece.{Piece}
use Rattle.flux_grammar.specs.declared.tree.TypeText.TheVariants as ty
use Rattle.flux_grammar.specs.States.{State, left, Takes, takes}
use Rattle.flux_grammar.specs.Grammar.{Part, Value, type, alts, tseq, seqs, tpost, marks, tatom, labelled, content, label, tname, var, test, other, tested, path, slashes, step, spot, filtered, expr, items, item, compared, post, steps, qstep, childed, prim, within, stmts, nexts, ending, stmt, guard, simple, inserting, placing, deleting, replacing, args, typedefs, typedef, procdefs, procdef, params, params_on, param, output, script, Reads, reads-type, reads-no-alts, reads-alts, reads-tseq, reads-no-seqs, reads-seqs, reads-tpost, reads-no-marks, reads-star, reads-plus, reads-opt, reads-group, reads-quoted-elem, reads-any, reads-string, reads-bool, reads-int, reads-named, reads-named-child, reads-alone, reads-elem, reads-no-content, reads-content, reads-word, reads-soft, reads-quoted, reads-tname, reads-tname-child, reads-var, reads-child-label, reads-test, reads-word-label, reads-quoted-label, reads-any-label, reads-every, reads-string-test, reads-bool-test, reads-int-test, reads-label-test, reads-kind-test, reads-path, reads-no-slashes, reads-slashes, reads-bound-step, reads-step, reads-dot, reads-spot, reads-no-filter, reads-filter, reads-expr, reads-no-items, reads-items, reads-for, reads-let, reads-if, reads-item, reads-uncompared, reads-same, reads-less, reads-post, reads-no-steps, reads-slash, reads-keep, reads-child-step, reads-down, reads-down-child, reads-child, reads-paren, reads-literal, reads-variable, reads-element, reads-no-within, reads-within, reads-stmts, reads-no-nexts, reads-nexts, reads-ended, reads-going-on, reads-update, reads-if-stmt, reads-let-stmt, reads-stmt, reads-unguarded, reads-guarded, reads-skip, reads-insert, reads-delete, reads-replace, reads-rename, reads-call, reads-block, reads-insert-value, reads-insert-before, reads-insert-after, reads-insert-as, reads-insert-first, reads-insert-last, reads-delete-from, reads-delete-path, reads-replace-in, reads-replace-path, reads-no-args, reads-args, reads-script, reads-no-typedefs, reads-typedefs, reads-typedef, reads-no-procdefs, reads-procdefs, reads-procdef, reads-no-params, reads-params, reads-no-params-on, reads-params-on, reads-param, reads-no-output, reads-output}
use Rattle.flux_grammar.specs.Names.{names_in_lexeme, names_in_type, names_in_test, names_in_query_step, names_in_expr, of_spot, of_content, names_in_step, names_in_path, names_in_stmt, names_in_typedef, names_in_param, names_in_proc, of_output, names_in_script, PieceNames}
use Rattle.flux_grammar.proofs.NameLists.{all_one}
use Rattle.flux_grammar.proofs.NamesInTrees.{of_group, of_elem, of_any, of_kind, of_named, of_alts, of_seqs, of_marks, of_for, of_let, of_if, of_same, of_less, of_paren, of_literal, of_var, of_element, of_items, of_steps, of_update, of_if_stmt, of_let_stmt, of_guarded, of_skip, of_insert, of_insert_before, of_insert_after, of_insert_first, of_insert_last, of_delete, of_delete_from, of_rename, of_replace, of_replace_in, of_call, of_block}

-- the names of what a part is read as, and those that it has from what stands before it
abbrev pub names : (p : Part) → Value p → List ℕ
names (type d) t = names_in_type t
names (alts d) ts = flat_map names_in_type ts
names (tseq d) t = names_in_type t
names (seqs d) ts = flat_map names_in_type ts
names (tpost d) t = names_in_type t
names (marks from) ms = []
names (tatom d) t = names_in_type t
names (labelled d at n alone) t = names_in_type t
names (content d) o = of_output o
names label n = n.0 ∷ []
names tname n = n.0 ∷ []
names var n = n.0 ∷ []
names test φ = names_in_test φ.0
names other φ = names_in_test φ.0
names (tested n typed) φ = names_in_test φ
names (path d) p = names_in_path p
names (slashes d) ss = flat_map names_in_step ss
names (step d) s = names_in_step s
names spot χ = of_spot χ.0
names (filtered d) o = of_content o
names (expr d) q = names_in_expr q
names (items d) qs = flat_map names_in_expr qs
names (item d) q = names_in_expr q
names (compared d t) q = names_in_expr q
names (post d) q = names_in_expr q
names (steps from) ss = flat_map names_in_query_step ss
names (qstep from) s = names_in_query_step s
names (childed from n) s = names_in_query_step s
names (prim d) q = names_in_expr q
names (within d) o = of_content o
names (stmts d) ss = flat_map names_in_stmt ss
names (nexts d) ss = flat_map names_in_stmt ss
names (ending d) ss = flat_map names_in_stmt ss
names (stmt d) s = names_in_stmt s
names (guard d r) s = names_in_stmt s
names (simple d) s = names_in_stmt s
names (inserting d from) s = names_in_stmt s
names (placing d from) s = names_in_stmt s
names (deleting d from) s = names_in_stmt s
names (replacing d from) s = names_in_stmt s
names (args d) qs = flat_map names_in_expr qs
names typedefs tds = flat_map names_in_typedef tds
names typedef td = names_in_typedef td
names procdefs pds = flat_map names_in_proc pds
names procdef pd = names_in_proc pd
names params pms = flat_map names_in_param pms
names params_on pms = flat_map names_in_param pms
names param pm = names_in_param pm
names output o = of_output o
names script tree = names_in_script tree

abbrev pub names_before : Part → List ℕ
names_before (labelled d at n alone) = n ∷ names_in_type alone
names_before (tested n typed) = n ∷ names_in_test typed
names_before (compared d t) = names_in_expr t
names_before (childed from n) = n ∷ []
names_before (guard d s) = names_in_stmt s
names_before _ = []

module _ (P : ℕ → Type 0) where
  -- where P holds of each name of the pieces that are left, it holds of these names, and of each
  -- name of those that are left then
  pub record Yields (ns : List ℕ) (a b : State) : Type 0 where
    pub holds : All (PieceNames P) (left a) → All P ns × All (PieceNames P) (left b)

  stays : {a : State} → Yields [] a a
  stays = record { holds = λ all. (All-nil P, all) }

  has : {ns : List ℕ} {a : State} → All P ns → Yields ns a a
  has holds = record { holds = λ all. (holds, all) }

  taken : {l : Lexeme} {a b : State} {x : Piece} → Takes l a x b → Yields (names_in_lexeme l) a b
  taken (takes {x = x} {ps = ps} is) = record {
    holds = λ all. (
      subst (λ l. All P (names_in_lexeme l)) is (All-head (PieceNames P) x ps all),
      All-tail (PieceNames P) x ps all,
    );
  }

  -- names and then others; a sign or a reserved word before names, behind them
  infixr 40 ◌⊙◌
  ◌⊙◌ : {ns ms : List ℕ} {a b c : State} → Yields ns a b → Yields ms b c → Yields (ns ++ ms) a c
  ◌⊙◌ {ns} {ms} y z = record {
    holds = λ all.
        let first = y.holds all in
        let others = z.holds first.1 in
        (All-append P ns ms first.0 others.0, others.1);
  }

  behind : {l : Lexeme} {ns : List ℕ} {a b c : State} {x : Piece} → Takes l a x b → Yields ns b c → Yields ns a c
  behind t z = record { holds = λ all. z.holds ((taken t).holds all).1 }

  before : {l : Lexeme} {ns : List ℕ} {a b c : State} {x : Piece} → Yields ns a b → Takes l b x c → Yields ns a c
  before y t = record { holds = λ all. ((y.holds all).0, ((taken t).holds (y.holds all).1).1) }

  -- names that others need
  bind : {ns ms : List ℕ} {a b c : State} → Yields ns a b → (All P ns → Yields ms b c) → Yields ms a c
  bind y z = record { holds = λ all. (z (y.holds all).0).holds (y.holds all).1 }

  same : {ns ms : List ℕ} {a b : State} → ms ≡ ns → Yields ns a b → Yields ms a b
  same is y = record { holds = λ all. (subst (All P) (sym is) (y.holds all).0, (y.holds all).1) }

  none : All P []
  none = All-nil P

  with_kind : (n : ℕ) (k : AtomKind) (at : Span) → All P (n ∷ []) → All P (n ∷ names_in_type (ty.Kind k at))
  with_kind n k at named = subst (λ ms. All P (n ∷ ms)) (sym (of_kind k at)) named

  with_name : (n : ℕ) (at : Span) → All P (n ∷ []) → All P (n ∷ names_in_type (ty.Named n at))
  with_name n at named = All-cons P n _ (All-head P n [] named) (subst (All P) (sym (of_named n at)) named)

  pub kept : {w : Option ℕ} {p : Part} {a b : State} {v : Value p} →
      Reads w p a b v → All P (names_before p) → Yields (names p v) a b
  kept (reads-type f r rs) given = same (of_alts _ _ _) (kept r none ⊙ kept rs none)
  kept reads-no-alts given = stays
  kept (reads-alts t r rs) given = behind t (kept r none ⊙ kept rs none)
  kept (reads-tseq r rs) given = same (of_seqs _ _ _) (kept r none ⊙ kept rs none)
  kept reads-no-seqs given = stays
  kept (reads-seqs t r rs) given = behind t (kept r none ⊙ kept rs none)
  kept (reads-tpost r ms) given = same (of_marks _ _ _) (bind (kept r none) (λ named. bind (kept ms none) (λ no. has named)))
  kept reads-no-marks given = stays
  kept (reads-star t r) given = behind t (kept r none)
  kept (reads-plus t r) given = behind t (kept r none)
  kept (reads-opt t r) given = behind t (kept r none)
  kept (reads-group t r u) given = same (of_group _ _) (behind t (before (kept r none) u))
  kept (reads-quoted-elem t u r v) given = same (of_elem _ _ _) (taken t ⊙ behind u (before (kept r none) v))
  kept (reads-any t u r v) given = same (of_any _ _) (behind t (behind u (before (kept r none) v)))
  kept (reads-string {n = n} {x = x} t r) given = bind (taken t) (λ named. kept r (with_kind n kind.Text x.span named))
  kept (reads-bool {n = n} {x = x} t r) given = bind (taken t) (λ named. kept r (with_kind n kind.Bool x.span named))
  kept (reads-int {n = n} {x = x} t r) given = bind (taken t) (λ named. kept r (with_kind n kind.Int x.span named))
  kept (reads-named {n = n} {x = x} t r) given = bind (taken t) (λ named. kept r (with_name n x.span named))
  kept (reads-named-child {n = n} {x = x} t r) given = bind (taken t) (λ named. kept r (with_name n x.span named))
  kept (reads-alone {n = n} {alone = alone}) given = has (All-tail P n (names_in_type alone) given)
  kept (reads-elem {n = n} {alone = alone} t r u) given =
      same (of_elem _ _ _) (has {ns = n ∷ []} (all_one P n (All-head P n (names_in_type alone) given)) ⊙ behind t (before (kept r none) u))
  kept reads-no-content given = stays
  kept (reads-content r) given = kept r none
  kept (reads-word t) given = taken t
  kept (reads-soft t) given = taken t
  kept (reads-quoted t) given = taken t
  kept (reads-tname t) given = taken t
  kept (reads-tname-child t) given = taken t
  kept (reads-var t) given = taken t
  kept (reads-child-label t) given = taken t
  kept (reads-test r) given = kept r none
  kept (reads-word-label t) given = taken t
  kept (reads-quoted-label t) given = taken t
  kept (reads-any-label t) given = taken t
  kept (reads-every t) given = taken t
  kept (reads-string-test t r) given = bind (taken t) (λ named. kept r named)
  kept (reads-bool-test t r) given = bind (taken t) (λ named. kept r named)
  kept (reads-int-test t r) given = bind (taken t) (λ named. kept r named)
  kept (reads-label-test {n = n} {typed = typed}) given = has (all_one P n (All-head P n (names_in_test typed) given))
  kept (reads-kind-test {n = n} {typed = typed} t u) given = before (before (has (All-tail P n (names_in_test typed) given)) t) u
  kept (reads-path r rs) given = kept r none ⊙ kept rs none
  kept reads-no-slashes given = stays
  kept (reads-slashes t r rs) given = behind t (kept r none ⊙ kept rs none)
  kept (reads-bound-step t u r f) given = taken t ⊙ behind u (kept r none ⊙ kept f none)
  kept (reads-step r f) given = kept r none ⊙ kept f none
  kept (reads-dot t) given = taken t
  kept (reads-spot r) given = kept r none
  kept reads-no-filter given = stays
  kept (reads-filter t r u) given = behind t (before (kept r none) u)
  kept (reads-expr r rs) given = same (of_items _ _ _) (kept r none ⊙ kept rs none)
  kept reads-no-items given = stays
  kept (reads-items t r rs) given = behind t (kept r none ⊙ kept rs none)
  kept (reads-for f t x u q v r) given =
      same (of_for _ _ _ _) (behind t (kept x none ⊙ behind u (kept q none ⊙ behind v (kept r none))))
  kept (reads-let f t x u q v r) given =
      same (of_let _ _ _ _) (behind t (kept x none ⊙ behind u (kept q none ⊙ behind v (kept r none))))
  kept (reads-if f t c u q v r) given =
      same (of_if _ _ _ _) (behind t (kept c none ⊙ behind u (kept q none ⊙ behind v (kept r none))))
  kept (reads-item f r s) given = bind (kept r none) (λ named. kept s named)
  kept reads-uncompared given = has given
  kept (reads-same t r) given = same (of_same _ _ _) (has given ⊙ behind t (kept r none))
  kept (reads-less t r) given = same (of_less _ _ _) (has given ⊙ behind t (kept r none))
  kept (reads-post r ss) given = same (of_steps _ _ _) (kept r none ⊙ kept ss none)
  kept reads-no-steps given = stays
  kept (reads-slash t r rs) given = behind t (kept r none ⊙ kept rs none)
  kept (reads-keep t r rs) given = behind t (kept r none ⊙ kept rs none)
  kept (reads-child-step t r) given = bind (taken t) (λ named. kept r named)
  kept (reads-down r) given = kept r none
  kept reads-down-child given = has given
  kept (reads-child t u) given = behind t (taken u)
  kept (reads-paren t r u) given = same (of_paren _ _) (behind t (before (kept r none) u))
  kept (reads-literal t) given = same (of_literal _ _) (taken t)
  kept (reads-variable t) given = same (of_var _ _) (taken t)
  kept (reads-element n t r u) given = same (of_element _ _ _) (kept n none ⊙ behind t (before (kept r none) u))
  kept reads-no-within given = stays
  kept (reads-within r) given = kept r none
  kept (reads-stmts r rs) given = kept r none ⊙ kept rs none
  kept reads-no-nexts given = stays
  kept (reads-nexts t r) given = behind t (kept r none)
  kept reads-ended given = stays
  kept (reads-going-on r) given = kept r none
  kept (reads-update f t r u s) given = same (of_update _ _ _) (behind t (kept r none ⊙ behind u (kept s none)))
  kept (reads-if-stmt f t q u s v r) given =
      same (of_if_stmt _ _ _ _) (behind t (kept q none ⊙ behind u (kept s none ⊙ behind v (kept r none))))
  kept (reads-let-stmt f t x u q v s) given =
      same (of_let_stmt _ _ _ _) (behind t (kept x none ⊙ behind u (kept q none ⊙ behind v (kept s none))))
  kept (reads-stmt f r g) given = bind (kept r none) (λ named. kept g named)
  kept reads-unguarded given = has given
  kept (reads-guarded t q) given = same (of_guarded _ _ _) (has given ⊙ behind t (kept q none))
  kept (reads-skip t) given = same (of_skip _) (taken t)
  kept (reads-insert t r) given = behind t (kept r none)
  kept (reads-delete t r) given = behind t (kept r none)
  kept (reads-replace t r) given = behind t (kept r none)
  kept (reads-rename t r u n) given = same (of_rename _ _ _) (behind t (kept r none ⊙ behind u (kept n none)))
  kept (reads-call t n u r v) given = same (of_call _ _ _) (behind t (kept n none ⊙ behind u (before (kept r none) v)))
  kept (reads-block t r u) given = same (of_block _ _) (behind t (before (kept r none) u))
  kept (reads-insert-value t q) given = same (of_insert _ _) (behind t (kept q none))
  kept (reads-insert-before t r u q) given = same (of_insert_before _ _ _) (behind t (kept r none ⊙ behind u (kept q none)))
  kept (reads-insert-after t r u q) given = same (of_insert_after _ _ _) (behind t (kept r none ⊙ behind u (kept q none)))
  kept (reads-insert-as t r) given = behind t (kept r none)
  kept (reads-insert-first t v r u q) given =
      same (of_insert_first _ _ _) (behind t (behind v (kept r none ⊙ behind u (kept q none))))
  kept (reads-insert-last t v r u q) given =
      same (of_insert_last _ _ _) (behind t (behind v (kept r none ⊙ behind u (kept q none))))
  kept (reads-delete-from t r) given = same (of_delete_from _ _) (behind t (kept r none))
  kept (reads-delete-path r) given = same (of_delete _ _) (kept r none)
  kept (reads-replace-in t r u q) given = same (of_replace_in _ _ _) (behind t (kept r none ⊙ behind u (kept q none)))
  kept (reads-replace-path r u q) given = same (of_replace _ _ _) (kept r none ⊙ behind u (kept q none))
  kept reads-no-args given = stays
  kept (reads-args q qs) given = kept q none ⊙ kept qs none
  kept (reads-script types procs t input results u code) given =
      kept types none ⊙ kept procs none ⊙ behind t (kept input none ⊙ kept results none ⊙ behind u (kept code none))
  kept reads-no-typedefs given = stays
  kept (reads-typedefs r rs) given = kept r none ⊙ kept rs none
  kept (reads-typedef t n u r v) given = behind t (kept n none ⊙ behind u (before (kept r none) v))
  kept reads-no-procdefs given = stays
  kept (reads-procdefs r rs) given = kept r none ⊙ kept rs none
  kept (reads-procdef t n u pms v x focus y result z body end) given =
      behind t (
      kept n none ⊙ behind u (
      kept pms none ⊙ behind v (behind x (kept focus none ⊙ behind y (kept result none ⊙ behind z (before (kept body none) end))))
      )
      )
  kept reads-no-params given = stays
  kept (reads-params r rs) given = kept r none ⊙ kept rs none
  kept reads-no-params-on given = stays
  kept (reads-params-on t r rs) given = behind t (kept r none ⊙ kept rs none)
  kept (reads-param x t r) given = kept x none ⊙ behind t (kept r none)
  kept reads-no-output given = stays
  kept (reads-output t r) given = behind t (kept r none)
