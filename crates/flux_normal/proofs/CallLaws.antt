-- Calls that don't fit, part by part.
use Rattle.std.proofs.Common.{◌≡◌, ◌+◌, ◌<◌, ◌≤◌, ℕ, Bool, true, false, ◌==◌, cond, List, [], ◌∷◌, ◌++◌, append_assoc, length, drop, drop-cons, get_or, map, Option, Some, None, Err, find, flat_map, filter_map, if◌then◌else◌, refl, sym, subst, ap, ap₂, ◌∙◌, add-one, option_map}
use Rattle.std.specs.List.{cons_option}
use Rattle.std.proofs.lemmas.List.{drop_all}
use Rattle.flux_calculus.specs.declared.ask.Span.{Span}
use Rattle.flux_grammar.specs.declared.tree.Expr.{Expr}
use Rattle.flux_grammar.specs.declared.tree.ProcDef.{ProcDef}
use Rattle.flux_grammar.specs.declared.tree.Stmt.{Stmt}
use Rattle.flux_grammar.specs.declared.tree.Stmt.TheOpen.{Stmt-F}
use Rattle.flux_grammar.specs.declared.tree.Stmt.TheFolds.{fold-roll-Stmt}
use Rattle.flux_grammar.specs.declared.tree.Stmt.TheVariants as is
use Rattle.flux_grammar.specs.NormalFaults.{first, joined, Call, calls_step, calls, WrongCall, no_procedure, other_number, unless_fits, wrong_call}
use Rattle.flux_normal.specs.Calls.{misfit, misfit_of, misfits, misfits_in, told_misfit}
use Rattle.flux_normal.specs.declared.calls.Misfit.{Misfit}
use Rattle.flux_normal.specs.declared.calls.Misfit.TheVariants.{NoProcedure, OtherNumber}
use Rattle.flux_normal.specs.Heads.{Head, has_name}
use Rattle.flux_normal.specs.Procedures.{head_written}

pub calls_if : (e : Expr) (s t : Stmt) (at : Span) → calls (is.If e s t at) ≡ calls s ++ calls t
calls_if e s t at = ap calls (sym (is.rolls-If e s t at)) ∙ fold-roll-Stmt (List Call) calls_step (Stmt-F.If e s t at)

joined_map : (ss : List Stmt) → joined (map calls ss) ≡ flat_map calls ss
joined_map [] = refl
joined_map (s ∷ ss) = ap (λ l. calls s ++ l) (joined_map ss)

pub calls_block : (ss : List Stmt) (at : Span) → calls (is.Block ss at) ≡ flat_map calls ss
calls_block ss at = ap calls (sym (is.rolls-Block ss at)) ∙ fold-roll-Stmt (List Call) calls_step (Stmt-F.Block ss at) ∙ joined_map ss

-- a misfit is told
told : (m : Misfit) → (w : WrongCall) × (told_misfit (Err m) ≡ Some w)
told (NoProcedure place) = (no_procedure place, refl)
told (OtherNumber place) = (other_number place, refl)

module _ (heads : List Head) where
  misfits-append : (cs ds : List Call) → misfits heads (cs ++ ds) ≡ misfits heads cs ++ misfits heads ds
  misfits-append [] ds = refl
  misfits-append (c ∷ cs) ds = ap (cons_option (misfit_of heads c)) (misfits-append cs ds) ∙ consed (misfit_of heads c)
    where
      consed : (o : Option WrongCall) → cons_option o (misfits heads cs ++ misfits heads ds) ≡ cons_option o (misfits heads cs) ++ misfits heads ds
      consed None = refl
      consed (Some w) = refl

  none_before : (xs ys : List WrongCall) → first xs ≡ None → first (xs ++ ys) ≡ first ys
  none_before [] ys e = refl
  none_before (x ∷ xs) ys e = absurd cc

  one_before : (xs ys : List WrongCall) (w : WrongCall) → first xs ≡ Some w → first (xs ++ ys) ≡ Some w
  one_before [] ys w e = absurd cc
  one_before (x ∷ xs) ys w e = e

  pub later : (cs ds : List Call) (o : Option WrongCall) → first (misfits heads cs) ≡ None → first (misfits heads ds) ≡ o → first (misfits heads (cs ++ ds)) ≡ o
  later cs ds o e f = ap first (misfits-append cs ds) ∙ none_before (misfits heads cs) (misfits heads ds) e ∙ f

  pub sooner : (cs ds : List Call) (m : Misfit) → first (misfits heads cs) ≡ told_misfit (Err m) → first (misfits heads (cs ++ ds)) ≡ told_misfit (Err m)
  sooner cs ds m e =
      let p = told m in
      ap first (misfits-append cs ds) ∙ one_before (misfits heads cs) (misfits heads ds) p.0 (e ∙ p.1) ∙ sym p.1

  -- the parts of a list, in turn
  module _ {X : Type 0} (f : X → List Call) (all : List X) where
    abbrev pub Left : ℕ → Type 0
    Left i = first (misfits heads (flat_map f all)) ≡ first (misfits heads (flat_map f (drop i all)))

    split : (i : ℕ) (x : X) → i < length all → x ≡ get_or all i x → flat_map f (drop i all) ≡ f x ++ flat_map f (drop (i + 1) all)
    split i x lt is = ap (flat_map f) (drop-cons all i x lt ∙ ap₂ (λ y n. y ∷ drop n all) (sym is) (sym (add-one i)))

    pub passed : (i : ℕ) (x : X) → i < length all → x ≡ get_or all i x → first (misfits heads (f x)) ≡ None → Left i → Left (i + 1)
    passed i x lt is none so = so ∙ ap (λ cs. first (misfits heads cs)) (split i x lt is) ∙ later (f x) (flat_map f (drop (i + 1) all)) _ none refl

    pub stopped : (i : ℕ) (x : X) (m : Misfit) → i < length all → x ≡ get_or all i x → first (misfits heads (f x)) ≡ told_misfit (Err m) → Left i → first (misfits heads (flat_map f all)) ≡ told_misfit (Err m)
    stopped i x m lt is one so = so ∙ ap (λ cs. first (misfits heads cs)) (split i x lt is) ∙ sooner (f x) (flat_map f (drop (i + 1) all)) m one

    pub ended : (i : ℕ) → length all ≤ i → Left i → first (misfits heads (flat_map f all)) ≡ None
    ended i le so = so ∙ ap (λ l. first (misfits heads (flat_map f l))) (drop_all i all le)

pub flat-append : (xs ys : List Stmt) → flat_map calls (xs ++ ys) ≡ flat_map calls xs ++ flat_map calls ys
flat-append [] ys = refl
flat-append (x ∷ xs) ys = ap (λ l. calls x ++ l) (flat-append xs ys) ∙ sym (append_assoc (calls x) (flat_map calls xs) (flat_map calls ys))

pub of_bodies : (procs : List ProcDef) → flat_map calls (flat_map (λ p. p.body) procs) ≡ flat_map (λ (p : ProcDef). flat_map calls p.body) procs
of_bodies [] = refl
of_bodies (p ∷ ps) = flat-append p.body (flat_map (λ p. p.body) ps) ∙ ap (λ l. flat_map calls p.body ++ l) (of_bodies ps)

pub bodies_and_main : (procs : List ProcDef) (main : List Stmt) → flat_map calls (flat_map (λ p. p.body) procs ++ main) ≡ flat_map calls (flat_map (λ p. p.body) procs) ++ flat_map calls main
bodies_and_main procs main = flat-append (flat_map (λ p. p.body) procs) main

-- a head has just what is asked of a procedure
head_found : (procs : List ProcDef) (c : Call) → misfit_of (map head_written procs) c ≡ wrong_call procs c
head_found [] c = refl
head_found (p ∷ ps) c = here (p.name == c.name) (head_found ps c)
  where
    here : (t : Bool) → misfit_of (map head_written ps) c ≡ wrong_call ps c → misfit c (cond t (Some (head_written p)) (find (has_name c.name) (map head_written ps))) ≡ unless_fits c (cond t (Some p) (find (λ p. p.name == c.name) ps))
    here true rest = refl
    here false rest = rest

pub heads_found : (procs : List ProcDef) (cs : List Call) → misfits (map head_written procs) cs ≡ filter_map (wrong_call procs) cs
heads_found procs [] = refl
heads_found procs (c ∷ cs) = ap₂ cons_option (head_found procs c) (heads_found procs cs)

-- the calls of a script, first those of procedures
pub in_script : (procs : List ProcDef) (main : List Stmt) (heads : List Head) → heads ≡ map head_written procs
    → filter_map (wrong_call procs) (flat_map calls (flat_map (λ p. p.body) procs ++ main)) ≡ misfits heads (flat_map calls (flat_map (λ p. p.body) procs) ++ flat_map calls main)
in_script procs main heads e =
    sym (heads_found procs (flat_map calls (flat_map (λ p. p.body) procs ++ main)))
    ∙ ap (λ hs. misfits hs (flat_map calls (flat_map (λ p. p.body) procs ++ main))) (sym e)
    ∙ ap (misfits heads) (bodies_and_main procs main)
