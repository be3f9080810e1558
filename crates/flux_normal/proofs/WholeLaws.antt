-- The whole of a normal form.
use Rattle.std.proofs.Common.{◌≡◌, ◌+◌, ℕ, zero, suc, List, [], ◌∷◌, ◌++◌, All, length, map, flat_map, slice_get, Option, Some, None, refl, sym, subst, ap, ap₂, ◌∙◌, option_map}
use Rattle.std.specs.Prelude.{IfSome}
use Rattle.std.specs.List.{AllZip}
use Rattle.std.proofs.lemmas.List.{length-map, map-append}
use Rattle.std.proofs.lemmas.List.Elements.{All-nil, All-cons, All-head, All-tail}
use Rattle.flux_types.specs.Read.{ty_of}
use Rattle.flux_types.specs.Kept.{AreKept}
use Rattle.flux_schema.specs.Definitions.{Definitions, Definition, names_of}
use Rattle.flux_schema.specs.Ty.{Ty, NamesBelow}
use Rattle.flux_calculus.specs.declared.ask.Var.{Var}
use Rattle.flux_calculus.specs.Core as calculus
use Rattle.flux_calculus.specs.Core.{Core, proc_of}
use Rattle.flux_core.specs.declared.declared.Declared.{Declared}
use Rattle.flux_core.specs.Faults.{IsUsable}
use Rattle.flux_core.specs.Statements.{declared_of}
use Rattle.flux_core.specs.WellFormed.{CallsFit, IsWellFormedProc, IsWellFormed}
use Rattle.flux_grammar.specs.declared.tree.ProcDef.{ProcDef}
use Rattle.flux_grammar.specs.declared.tree.Script.{Script}
use Rattle.flux_grammar.specs.declared.tree.Stmt.{Stmt}
use Rattle.flux_grammar.specs.declared.tree.TypeDef.{TypeDef}
use Rattle.flux_grammar.specs.declared.tree.TypeText.{TypeText}
use Rattle.flux_grammar.specs.NormalFaults.{Call, calls, all_calls}
use Rattle.flux_grammar.specs.NormalForm.{type_names, proc_names, bodies, IsDefinitionOf, IsProcOf, IsDeclaredOf, IsNormalForm}
use Rattle.flux_grammar.specs.NormalQueries.{Numbered, of_all}
use Rattle.flux_grammar.specs.NormalStatements.{stmts_form}
use Rattle.flux_grammar.specs.TypeOf.{type_in}
use Rattle.flux_grammar.proofs.NameLists.{all_first, all_second}
use Rattle.flux_normal.specs.Bodies.{IsNamed, IsWritten}
use Rattle.flux_normal.specs.Headers.{IsDeclaredMade}
use Rattle.flux_normal.specs.Heads.{Head, names_in, Fits, head_of, AllFit}
use Rattle.flux_normal.specs.Procedures.{head_written}
use Rattle.flux_normal.specs.Types.{IsMade}
use Rattle.flux_normal.proofs.BodyLaws.{of_last, mapped}
use Rattle.flux_normal.proofs.CallLaws.{flat-append}

-- ---- calls

pub procs_fit : (heads : List Head) (s : Script) → All (Fits heads) (all_calls s) → All (Fits heads) (flat_map calls (flat_map (λ p. p.body) s.procs))
procs_fit heads s all = all_first (Fits heads) (flat_map calls (flat_map (λ p. p.body) s.procs)) (flat_map calls s.body) (subst (All (Fits heads)) (flat-append (flat_map (λ p. p.body) s.procs) s.body) all)

pub main_fits : (heads : List Head) (s : Script) → All (Fits heads) (all_calls s) → All (Fits heads) (flat_map calls s.body)
main_fits heads s all = all_second (Fits heads) (flat_map calls (flat_map (λ p. p.body) s.procs)) (flat_map calls s.body) (subst (All (Fits heads)) (flat-append (flat_map (λ p. p.body) s.procs) s.body) all)

-- ---- types

defs_long : (names : List ℕ) (ds : List TypeDef) (defs : Definitions) → AllZip (IsDefinitionOf names) ds defs → length defs ≡ length (map (λ (d : TypeDef). d.name) ds)
defs_long names [] [] zip = refl
defs_long names [] (e ∷ defs) zip = absurd zip
defs_long names (d ∷ ds) [] zip = absurd zip
defs_long names (d ∷ ds) (e ∷ defs) zip = ap suc (defs_long names ds defs zip.1)

module _ (names : List ℕ) (defs : Definitions) (long : length defs ≡ length names) where
  usable : (t : Ty) → IsNamed names t → IsUsable defs t
  usable t named = record { known = subst (λ n. NamesBelow n t) (sym long) named.known; limits = named.limits }

  all_usable : (xs : List (Var × Ty)) → All (λ (x : Var × Ty). IsNamed names x.1) xs → All (λ (x : Var × Ty). IsUsable defs x.1) xs
  all_usable [] all = All-nil (λ (x : Var × Ty). IsUsable defs x.1)
  all_usable (x ∷ xs) all =
      All-cons (λ (x : Var × Ty). IsUsable defs x.1) x xs (usable x.1 (All-head (λ (x : Var × Ty). IsNamed names x.1) x xs all)) (all_usable xs (All-tail (λ (x : Var × Ty). IsNamed names x.1) x xs all))

  pub made_usable : (o : Option Ty) (t : Ty) → IsMade names o t → IsUsable defs t
  made_usable o t made = record { known = subst (λ n. NamesBelow n t) (sym long) made.ty.below; limits = made.limits }

  declared_usable : (o : Option TypeText) (d : Option Declared) → IsDeclaredMade names o d → IfSome (option_map declared_of d) (λ d. IsUsable defs d.ty)
  declared_usable None None made = tt
  declared_usable None (Some d) made = absurd made
  declared_usable (Some t) None made = absurd made
  declared_usable (Some t) (Some d) made = made_usable (type_in names t) (ty_of d.ty) made.0

  -- ---- procedures

  module _ (heads : List Head) (all : calculus.Procs) (have : map head_of all ≡ heads) where
    one_formed : (p : ProcDef) (q : calculus.Proc) → IsWritten names heads p q → IsWellFormedProc defs all q
    one_formed p q written = record {
      params = all_usable q.params written.params;
      focus = usable q.focus written.focus;
      result = usable q.result written.result;
      calls = written.calls all have;
    }

    all_formed : (ps : List ProcDef) (qs : calculus.Procs) → AllZip (IsWritten names heads) ps qs → (i : ℕ) (q : calculus.Proc) → slice_get qs i ≡ Some q → IsWellFormedProc defs all q
    all_formed [] [] zip i q at = absurd cc
    all_formed [] (r ∷ qs) zip i q at = absurd zip
    all_formed (p ∷ ps) [] zip i q at = absurd zip
    all_formed (p ∷ ps) (r ∷ qs) zip zero q at = let same : r ≡ q = cc in subst (IsWellFormedProc defs all) same (one_formed p r zip.0)
    all_formed (p ∷ ps) (r ∷ qs) zip (suc i) q at = all_formed ps qs zip.1 i q at

params_long : {A B : Type 0} (R : A → B → Type 0) (ps : List A) (qs : List B) → AllZip R ps qs → length qs ≡ length ps
params_long R [] [] zip = refl
params_long R [] (q ∷ qs) zip = absurd zip
params_long R (p ∷ ps) [] zip = absurd zip
params_long R (p ∷ ps) (q ∷ qs) zip = ap suc (params_long R ps qs zip.1)

heads_same : (names : List ℕ) (heads : List Head) (ps : List ProcDef) (qs : calculus.Procs) → AllZip (IsWritten names heads) ps qs → map head_of qs ≡ map head_written ps
heads_same names heads [] [] zip = refl
heads_same names heads [] (q ∷ qs) zip = absurd zip
heads_same names heads (p ∷ ps) [] zip = absurd zip
heads_same names heads (p ∷ ps) (q ∷ qs) zip =
    ap₂ (λ (h : Head) (hs : List Head). h ∷ hs) (ap₂ (λ (n k : ℕ). (n, k)) zip.0.written.name (params_long _ p.params q.params zip.0.written.params)) (heads_same names heads ps qs zip.1)

module _ (s : Script) (heads : List Head) (defs : Definitions) (procs : calculus.Procs) (input : Ty) (declared : Option Declared) (main : Core) (are : heads ≡ map head_written s.procs) (defined : AllZip (IsDefinitionOf (type_names s)) s.types defs) (written : AllZip (IsWritten (type_names s) heads) s.procs procs) (read : IsMade (type_names s) (type_in (type_names s) s.input) input) (told : IsDeclaredMade (type_names s) s.output declared) where
  whole : calculus.Normal
  whole = record { defs = defs; procs = procs; input = input; declared = option_map declared_of declared; main = main }

  pub well_formed : AreKept defs → AllFit heads main → IsWellFormed (record { defs = defs; procs = procs; input = input; declared = option_map declared_of declared; main = main })
  well_formed kept fit =
      let long = defs_long (type_names s) s.types defs defined in
      let have = heads_same (type_names s) heads s.procs procs written ∙ sym are in
      record {
        defs = kept;
        procs = all_formed (type_names s) defs long heads procs have s.procs procs written;
        input = made_usable (type_names s) defs long (type_in (type_names s) s.input) input read;
        declared = declared_usable (type_names s) defs long s.output declared told;
        calls = fit procs have;
      }

  proc_forms : (ps : List ProcDef) (qs : calculus.Procs) → AllZip (IsWritten (type_names s) heads) ps qs → AllZip (IsProcOf (type_names s)) ps qs
  proc_forms [] [] zip = zip
  proc_forms [] (q ∷ qs) zip = absurd zip
  proc_forms (p ∷ ps) [] zip = absurd zip
  proc_forms (p ∷ ps) (q ∷ qs) zip = (zip.0.written, proc_forms ps qs zip.1)

  declared_form : (o : Option TypeText) (d : Option Declared) → IsDeclaredMade (type_names s) o d → IsDeclaredOf (type_names s) o (option_map declared_of d)
  declared_form None None made = tt
  declared_form None (Some d) made = absurd made
  declared_form (Some t) None made = absurd made
  declared_form (Some t) (Some d) made = (made.0.ty.same, made.1)

  named : (ps : List ProcDef) → map (λ (h : Head). h.0) (map head_written ps) ≡ map (λ (p : ProcDef). p.name) ps
  named [] = refl
  named (p ∷ ps) = ap (λ l. p.name ∷ l) (named ps)

  pub is_normal : (k m : ℕ) → of_all (map (λ (p : ProcDef). stmts_form (names_in heads) p.body) s.procs) 0 ≡ (map (λ (p : calculus.Proc). p.body) procs, k) → stmts_form (names_in heads) s.body k ≡ (main, m)
      → IsNormalForm s (record { defs = defs; procs = procs; input = input; declared = option_map declared_of declared; main = main })
  is_normal k m before last =
      let names = ap names_in are ∙ named s.procs in
      let f : List ℕ → List (Numbered Core) = λ ns. map (λ (p : ProcDef). stmts_form ns p.body) s.procs in
      record {
        defs = defined;
        procs = proc_forms s.procs procs written;
        input = read.ty.same;
        declared = declared_form s.output declared told;
        statements =
            ap (λ l. (of_all l 0).0) (map-append (stmts_form (proc_names s)) (map (λ p. p.body) s.procs) (s.body ∷ []) ∙ ap (λ l. l ++ stmts_form (proc_names s) s.body ∷ []) (mapped (proc_names s) s.procs))
            ∙ of_last (f (proc_names s)) (stmts_form (proc_names s) s.body) 0
            ∙ ap (λ ns. (of_all (f ns) 0).0 ++ (stmts_form ns s.body (of_all (f ns) 0).1).0 ∷ []) (sym names)
            ∙ ap (λ r. r.0 ++ (stmts_form (names_in heads) s.body r.1).0 ∷ []) before
            ∙ ap (λ r. map (λ (p : calculus.Proc). p.body) procs ++ r.0 ∷ []) last;
      }
