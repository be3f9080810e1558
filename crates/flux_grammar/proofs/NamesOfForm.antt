-- What holds of each name of a script holds of each name of its normal form.
use Rattle.std.proofs.Common.{◌≡◌, ℕ, zero, suc, List, [], ◌∷◌, ◌++◌, Option, Some, None, map, flat_map, All, Contains, sym, subst, ◌∙◌}
use Rattle.std.specs.List.{AllZip}
use Rattle.std.proofs.lemmas.List.Elements.{All-nil, All-cons, All-head, All-tail, All-append, All-map, All-weaker, All-contains_itself}
use Rattle.flux_calculus.specs.declared.ask.Var.{Var}
use Rattle.flux_calculus.specs.Core.{Proc, Declared, Normal}
use Rattle.flux_grammar.specs.declared.tree.ParamDef.{ParamDef}
use Rattle.flux_grammar.specs.declared.tree.ProcDef.{ProcDef}
use Rattle.flux_grammar.specs.declared.tree.Script.{Script}
use Rattle.flux_grammar.specs.declared.tree.Stmt.{Stmt}
use Rattle.flux_grammar.specs.declared.tree.TypeDef.{TypeDef}
use Rattle.flux_grammar.specs.declared.tree.TypeText.{TypeText}
use Rattle.flux_grammar.specs.Names.{names_in_type, names_in_stmt, names_in_typedef, names_in_param, names_in_proc, of_output, names_in_script, ScriptNames}
use Rattle.flux_grammar.specs.NormalForm.{type_names, proc_names, IsDefinitionOf, IsParamOf, IsProcOf, IsDeclaredOf, IsNormalForm}
use Rattle.flux_grammar.specs.NormalNames.{VarNames, CoreNames, ParamNames, DeclaredNames, ProcNames, NormalNames, NormalFormKeepsNames}
use Rattle.flux_grammar.specs.NormalQueries.{of_all}
use Rattle.flux_grammar.specs.NormalStatements.{stmts_form}
use Rattle.flux_grammar.proofs.NameLists.{all_first, all_second, all_single, all_one, all_parts}
use Rattle.flux_grammar.proofs.NamesOfTypes.{type_keeps}
use Rattle.flux_grammar.proofs.NamesOfStatements.{stmts_keep}
use Rattle.flux_schema.specs.Definitions.{Definition, Definitions, body_of}
use Rattle.flux_schema.specs.Labels.{EachLabelOf}
use Rattle.flux_schema.specs.Ty.{Ty}

module _ (P : ℕ → Type 0) where
  module _ (names : List ℕ) where
    of_definitions : (ds : List TypeDef) (es : Definitions) → AllZip (IsDefinitionOf names) ds es → All P (flat_map names_in_typedef ds) → All (λ e. P e.name) es
    of_definitions [] [] zip all = All-nil (λ (e : Definition). P e.name)
    of_definitions [] (e ∷ es) zip all = absurd zip
    of_definitions (d ∷ ds) [] zip all = absurd zip
    of_definitions (d ∷ ds) (e ∷ es) zip all =
        let first = all_first P (names_in_typedef d) (flat_map names_in_typedef ds) all in
        All-cons (λ (e : Definition). P e.name) e es (subst P (sym zip.0.name) (All-head P d.name (names_in_type d.body) first)) (of_definitions ds es zip.1 (all_second P (names_in_typedef d) (flat_map names_in_typedef ds) all))

    of_bodies : (ds : List TypeDef) (es : Definitions) → AllZip (IsDefinitionOf names) ds es → All P (flat_map names_in_typedef ds) → (x : ℕ) (t : Ty) → body_of es x ≡ Some t → EachLabelOf P t
    of_bodies ds [] zip all x t is = absurd (let none : None ≡ Some t = is in cc)
    of_bodies [] (e ∷ es) zip all x t is = absurd zip
    of_bodies (d ∷ ds) (e ∷ es) zip all zero t is =
        let first = all_first P (names_in_typedef d) (flat_map names_in_typedef ds) all in
        type_keeps P names d.body t (zip.0.body ∙ is) (All-tail P d.name (names_in_type d.body) first)
    of_bodies (d ∷ ds) (e ∷ es) zip all (suc x) t is =
        of_bodies ds es zip.1 (all_second P (names_in_typedef d) (flat_map names_in_typedef ds) all) x t is

    of_params : (ps : List ParamDef) (qs : List (Var × Ty)) → AllZip (IsParamOf names) ps qs → All P (flat_map names_in_param ps) → All (ParamNames P) qs
    of_params [] [] zip all = All-nil (ParamNames P)
    of_params [] (q ∷ qs) zip all = absurd zip
    of_params (p ∷ ps) [] zip all = absurd zip
    of_params (p ∷ ps) (q ∷ qs) zip all =
        let first = all_first P (names_in_param p) (flat_map names_in_param ps) all in
        let var = subst (VarNames P) (sym zip.0.var) (All-head P p.var (names_in_type p.ty) first) in
        let type = type_keeps P names p.ty q.1 zip.0.ty (All-tail P p.var (names_in_type p.ty) first) in
        All-cons (ParamNames P) q qs (var, type) (of_params ps qs zip.1 (all_second P (names_in_param p) (flat_map names_in_param ps) all))

    of_proc : (p : ProcDef) (q : Proc) → IsProcOf names p q → All P (names_in_proc p) → CoreNames P q.body → ProcNames P q
    of_proc p q is all body =
        let params = flat_map names_in_param p.params in
        let focus = names_in_type p.focus in
        let result = names_in_type p.result in
        let code = flat_map names_in_stmt p.body in
        let behind = All-tail P p.name (params ++ (focus ++ (result ++ code))) all in
        let types = all_second P params (focus ++ (result ++ code)) behind in
        record {
          name = subst P (sym is.name) (All-head P p.name (params ++ (focus ++ (result ++ code))) all);
          params = of_params p.params q.params is.params (all_first P params (focus ++ (result ++ code)) behind);
          focus = type_keeps P names p.focus q.focus is.focus (all_first P focus (result ++ code) types);
          result = type_keeps P names p.result q.result is.result (all_first P result code (all_second P focus (result ++ code) types));
          body = body;
        }

    of_procs : (ps : List ProcDef) (qs : List Proc) → AllZip (IsProcOf names) ps qs → All P (flat_map names_in_proc ps) → All (CoreNames P) (map (λ q. q.body) qs) → All (ProcNames P) qs
    of_procs [] [] zip all code = All-nil (ProcNames P)
    of_procs [] (q ∷ qs) zip all code = absurd zip
    of_procs (p ∷ ps) [] zip all code = absurd zip
    of_procs (p ∷ ps) (q ∷ qs) zip all code =
        let others = map (λ (q : Proc). q.body) qs in
        All-cons (ProcNames P) q qs (of_proc p q zip.0 (all_first P (names_in_proc p) (flat_map names_in_proc ps) all) (All-head (CoreNames P) q.body others code)) (of_procs ps qs zip.1 (all_second P (names_in_proc p) (flat_map names_in_proc ps) all) (All-tail (CoreNames P) q.body others code))

    of_declared : (o : Option TypeText) (d : Option Declared) → IsDeclaredOf names o d → All P (of_output o) → DeclaredNames P d
    of_declared None None is all = tt
    of_declared None (Some d) is all = absurd is
    of_declared (Some t) None is all = absurd is
    of_declared (Some t) (Some d) is all = type_keeps P names t d.ty is.0 all

  -- of the statements of procedures and the main ones
  abbrev AreNamed : List Stmt → Type 0
  AreNamed ss = All P (flat_map names_in_stmt ss)

  of_lists : (procs : List ℕ) (lists : List (List Stmt)) → All AreNamed lists → (k : ℕ) → All (CoreNames P) (of_all (map (stmts_form procs) lists) k).0
  of_lists procs [] all k = All-nil (CoreNames P)
  of_lists procs (ss ∷ lists) all k =
      let first = stmts_form procs ss k in
      All-cons (CoreNames P) first.0 (of_all (map (stmts_form procs) lists) first.1).0 (stmts_keep P procs ss (All-head AreNamed ss lists all) k) (of_lists procs lists (All-tail AreNamed ss lists all) first.1)

  body_named : (p : ProcDef) → All P (names_in_proc p) → AreNamed p.body
  body_named p all =
      let params = flat_map names_in_param p.params in
      let focus = names_in_type p.focus in
      let result = names_in_type p.result in
      let code = flat_map names_in_stmt p.body in
      all_second P result code (all_second P focus (result ++ code) (all_second P params (focus ++ (result ++ code)) (All-tail P p.name (params ++ (focus ++ (result ++ code))) all)))

  lists_named : (ps : List ProcDef) (main : List Stmt) → All P (flat_map names_in_proc ps) → AreNamed main → All AreNamed (map (λ p. p.body) ps ++ main ∷ [])
  lists_named ps main all last =
      let procs = All-weaker (λ p. All P (names_in_proc p)) (λ p. AreNamed p.body) body_named ps (all_parts P names_in_proc ps all) in
      All-append AreNamed (map (λ p. p.body) ps) (main ∷ []) (All-map AreNamed (λ p. p.body) ps procs) (all_one AreNamed main last)

  pub form_keeps : (s : Script) (n : Normal) → IsNormalForm s n → ScriptNames P s → NormalNames P n
  form_keeps s n form all =
      let names = type_names s in
      let types = flat_map names_in_typedef s.types in
      let procs = flat_map names_in_proc s.procs in
      let input = names_in_type s.input in
      let output = of_output s.output in
      let body = flat_map names_in_stmt s.body in
      let types_named = all_first P types (procs ++ (input ++ (output ++ body))) all in
      let after_types = all_second P types (procs ++ (input ++ (output ++ body))) all in
      let procs_named = all_first P procs (input ++ (output ++ body)) after_types in
      let after_procs = all_second P procs (input ++ (output ++ body)) after_types in
      let after_input = all_second P input (output ++ body) after_procs in
      let codes = subst (All (CoreNames P)) form.statements (of_lists (proc_names s) (map (λ p. p.body) s.procs ++ s.body ∷ []) (lists_named s.procs s.body procs_named (all_second P output body after_input)) 0) in
      let of_their_procs = map (λ (p : Proc). p.body) n.procs in
      record {
        names = of_definitions names s.types n.defs form.defs types_named;
        bodies = of_bodies names s.types n.defs form.defs types_named;
        procs = of_procs names s.procs n.procs form.procs procs_named (all_first (CoreNames P) of_their_procs (n.main ∷ []) codes);
        input = type_keeps P names s.input n.input form.input (all_first P input (output ++ body) after_procs);
        declared = of_declared names s.output n.declared form.declared (all_first P output body after_input);
        main = all_single (CoreNames P) n.main (all_second (CoreNames P) of_their_procs (n.main ∷ []) codes);
      }

pub form_keeps_names : NormalFormKeepsNames
form_keeps_names s n form =
    form_keeps (Contains (names_in_script s)) s n form (All-contains_itself (names_in_script s))
