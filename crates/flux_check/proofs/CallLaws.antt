-- Arguments and calls.
use Rattle.std.proofs.Common.{◌≡◌, ℕ, List, [], ◌∷◌, Option, Some, None, Result, IsErrAnd, IfErr, length, map, refl, sym, subst, arith}
use Rattle.std.specs.Prelude.{All, IsSomeAnd}
use Rattle.std.specs.List.{AllByRecursion}
use Rattle.std.proofs.lemmas.List.Elements.{recursion_from_All}
use Rattle.flux_trees.specs.Draft.{Draft}
use Rattle.flux_schema.specs.Ty.{Ty, IsWithinLimits}
use Rattle.flux_schema.specs.Definitions.{Definitions}
use Rattle.flux_schema.specs.Labels.{Lacks}
use Rattle.flux_schema.specs.Member.{Included}
use Rattle.flux_types.specs.Read.{ty_of}
use Rattle.flux_types.specs.Verdicts.{IsEvidence}
use Rattle.flux_calculus.specs.declared.ask.Span.{Span}
use Rattle.flux_calculus.specs.declared.ask.Var.{Var}
use Rattle.flux_calculus.specs.Fault.{Fault, bad_argument}
use Rattle.flux_calculus.specs.Query.{Query, place_of}
use Rattle.flux_calculus.specs.Typing.{Context, typed, faulty, Types, of_query}
use Rattle.flux_calculus.specs.Core.{Proc, Procs, proc_of, call}
use Rattle.flux_query.specs.declared.query.Query.{Query as Argument}
use Rattle.flux_query.specs.Read.{query_of}
use Rattle.flux_typing.specs.Update.{fits, misses, was_faulty, Arguments, no_more, one_more, one_wrong, of_call}
use Rattle.flux_typing.specs.Labels.{EachLabelOfQueries}
use Rattle.flux_core.specs.declared.fault.KindFault.{KindFault}
use Rattle.flux_core.specs.declared.fault.KindFault.TheVariants.{BadArgument, BadFocus}
use Rattle.flux_core.specs.declared.param.Param.{Param}
use Rattle.flux_core.specs.Faults.{IsFault, IsUsable}
use Rattle.flux_core.specs.Statements.{param_of}
use Rattle.flux_core.proofs.Replies.{concluded_within}
use Rattle.flux_querytype.specs.Answers.{QueryLacks}
use Rattle.flux_check.specs.Answers.{Comes, ArgumentsCome, ArePassable, IsPassed, InAnyCall}
use Rattle.flux_check.proofs.Rules.{concludes}
use Rattle.flux_check.proofs.Scenes.{passed_by}

-- ---- one argument

module _ (Δ : Definitions) (other : ℕ) (Γ : Context) (p : Var × Ty) (q : Query) where
  pub argument_faulty : (f : Fault) → Types Δ (of_query Γ q) (faulty f) → InAnyCall Δ Γ p q (faulty f)
  argument_faulty f d = λ ps qs. one_wrong d was_faulty

  pub argument_passed : (t : Ty) → Types Δ (of_query Γ q) (typed t) → Included Δ t p.1 → IsPassed Δ Γ p q
  argument_passed t d i = λ ps qs o a. one_more d (fits i) a

  pub argument_shown : (t : Ty) (place : ℕ) (f : Draft (Unit {0})) → Types Δ (of_query Γ q) (typed t) → place ≡ place_of q → IsEvidence Δ other t p.1 f → IsFault (IsEvidence Δ other) (InAnyCall Δ Γ p q) (BadArgument place f)
  argument_shown t place f d is v =
      let Q : ℕ → Type 0 = λ n. InAnyCall Δ Γ p q (faulty (bad_argument n t p.1)) in
      (t, p.1, subst Q (sym is) (λ ps qs. one_wrong d (misses v.forest v.member v.no_member)), v)

-- ---- all arguments, where some are still to come

module _ (Δ : Definitions) (other : ℕ) (Γ : Context) (ps : List Param) (qs : List Argument) where
  -- what comes of those to come comes of all
  pub record Passing (more : List Param) (others : List Argument) : Type 0 where
    pub passable : ArePassable Δ other more others
    pub goes_on : (o : Option Fault) → Arguments Δ Γ (map param_of more) (map query_of others) o → Arguments Δ Γ (map param_of ps) (map query_of qs) o

  pub passing_all : ArePassable Δ other ps qs → Passing ps qs
  passing_all h = record { passable = h; goes_on = λ o a. a }

  -- the next parameter and its argument
  pub next_passable : (more ps' : List Param) (others qs' : List Argument) (p : Param) (q : Argument) → more ≡ p ∷ ps' → others ≡ q ∷ qs' → Passing more others → (IsUsable Δ (ty_of p.ty) × Lacks other (ty_of p.ty) × QueryLacks other (query_of q))
  next_passable more ps' others qs' p q e f h =
      let P : List Param → Type 0 = λ l. ArePassable Δ other l others in
      let Q : List Argument → Type 0 = λ l. ArePassable Δ other (p ∷ ps') l in
      (subst Q f (subst P e h.passable)).0

  pub passing_more : (more ps' : List Param) (others qs' : List Argument) (p : Param) (q : Argument) → more ≡ p ∷ ps' → others ≡ q ∷ qs' → Passing more others → IsPassed Δ Γ (param_of p) (query_of q) → Passing ps' qs'
  passing_more more ps' others qs' p q e f h d =
      let P : List Param → Type 0 = λ l. Passing l others in
      let Q : List Argument → Type 0 = λ l. Passing (p ∷ ps') l in
      let k = subst Q f (subst P e h) in
      record { passable = k.passable.1; goes_on = λ o a. k.goes_on o (d (map param_of ps') (map query_of qs') o a) }

  passing_end_by : (more : List Param) (others : List Argument) → length more ≡ 0 → Passing more others → Arguments Δ Γ (map param_of ps) (map query_of qs) None
  passing_end_by [] [] e h = h.goes_on None no_more
  passing_end_by [] (q ∷ others) e h = absurd h.passable
  passing_end_by (p ∷ more) others e h = absurd (omega (arith, e))

  pub passing_end : (more : List Param) (others : List Argument) → length more ≡ 0 → Passing more others → Arguments Δ Γ (map param_of ps) (map query_of qs) None
  passing_end more others e h = passing_end_by more others e h

  passing_end_too_by : (more : List Param) (others : List Argument) → length others ≡ 0 → Passing more others → Arguments Δ Γ (map param_of ps) (map query_of qs) None
  passing_end_too_by [] [] e h = h.goes_on None no_more
  passing_end_too_by more (q ∷ others) e h = absurd (omega (arith, e))
  passing_end_too_by (p ∷ more) [] e h = absurd h.passable

  pub passing_end_too : (more : List Param) (others : List Argument) → length others ≡ 0 → Passing more others → Arguments Δ Γ (map param_of ps) (map query_of qs) None
  passing_end_too more others e h = passing_end_too_by more others e h

  pub passing_fault : (more ps' : List Param) (others qs' : List Argument) (p : Param) (q : Argument) (e : KindFault) {A : Type 0} (r : Result A KindFault) → more ≡ p ∷ ps' → others ≡ q ∷ qs' → Passing more others → IsFault (IsEvidence Δ other) (InAnyCall Δ Γ (param_of p) (query_of q)) e → IsErrAnd r (λ y. y ≡ e) → IfErr r (IsFault (IsEvidence Δ other) (ArgumentsCome Δ Γ (map param_of ps) (map query_of qs)))
  passing_fault more ps' others qs' p q e r i j h d k =
      let P : List Param → Type 0 = λ l. Passing l others in
      let Q : List Argument → Type 0 = λ l. Passing (p ∷ ps') l in
      let g = subst Q j (subst P i h) in
      passed_by (IsEvidence Δ other) (InAnyCall Δ Γ (param_of p) (query_of q)) (ArgumentsCome Δ Γ (map param_of ps) (map query_of qs)) e r (λ f x. g.goes_on (Some f) (x (map param_of ps') (map query_of qs'))) d k

-- ---- calls

module _ (Δ : Definitions) (other : ℕ) (Γ : Context) (procs : Procs) (t : Ty) (at : Span) (p : ℕ) (args : List Query) (q : Proc) (e : proc_of procs p ≡ Some q) where
  pub call_argument : (f : Fault) → ArgumentsCome Δ Γ q.params args (faulty f) → Comes procs Δ Γ t (call at p args) (faulty f)
  call_argument f a = of_call e a was_faulty refl

  pub call_shown : (f : Draft (Unit {0})) → Arguments Δ Γ q.params args None → IsEvidence Δ other t q.focus f → IsFault (IsEvidence Δ other) (Comes procs Δ Γ t (call at p args)) (BadFocus at.from f)
  call_shown f a v = (t, q.focus, of_call e a (misses v.forest v.member v.no_member) refl, v)

  pub called : (u : Ty) → Arguments Δ Γ q.params args None → Included Δ t q.focus → u ≡ q.result → IsWithinLimits q.result → Comes procs Δ Γ t (call at p args) (typed u)
  called u a i is limits =
      let P : Ty → Type 0 = λ w. Comes procs Δ Γ t (call at p args) (typed w) in
      subst P (sym is) (of_call e a (fits i) (concludes Δ at.from q.result (typed q.result) (concluded_within at.from q.result limits)))

-- the parameters and the arguments of a call
passable_by : (Δ : Definitions) (other : ℕ) (ps : List Param) (qs : List Argument) → length (map query_of qs) ≡ length (map param_of ps) → AllByRecursion (λ p. IsUsable Δ p.1) (map param_of ps) → AllByRecursion (λ p. Lacks other p.1) (map param_of ps) → EachLabelOfQueries (λ m. ¬ (m ≡ other)) (map query_of qs) → ArePassable Δ other ps qs
passable_by Δ other [] [] e u l a = tt
passable_by Δ other [] (q ∷ qs) e u l a = absurd (omega (arith, e))
passable_by Δ other (p ∷ ps) [] e u l a = absurd (omega (arith, e))
passable_by Δ other (p ∷ ps) (q ∷ qs) e u l a = ((u.0, l.0, a.0), passable_by Δ other ps qs (omega (arith, e)) u.1 l.1 a.1)

pub passable : (Δ : Definitions) (other : ℕ) (ps : List Param) (qs : List Argument) → length (map query_of qs) ≡ length (map param_of ps) → All (λ p. IsUsable Δ p.1) (map param_of ps) → All (λ p. Lacks other p.1) (map param_of ps) → EachLabelOfQueries (λ m. ¬ (m ≡ other)) (map query_of qs) → ArePassable Δ other ps qs
passable Δ other ps qs e u l a = passable_by Δ other ps qs e (recursion_from_All (λ p. IsUsable Δ p.1) (map param_of ps) u) (recursion_from_All (λ p. Lacks other p.1) (map param_of ps) l) a

-- the procedure that a call names
pub some_proc : (procs : Procs) (p : ℕ) (n : ℕ) (q : Proc) → proc_of procs p ≡ Some q → IsSomeAnd (proc_of procs p) (λ q. n ≡ length q.params) → n ≡ length q.params
some_proc procs p n q e h = subst (λ o. IsSomeAnd o (λ q. n ≡ length q.params)) e h

-- ---- the same of the parameters of a procedure, as they are handed out

pub passable_as : (Δ : Definitions) (other : ℕ) (params ps : List Param) (qs : List Argument) → ps ≡ params → length (map query_of qs) ≡ length (map param_of params) → All (λ p. IsUsable Δ p.1) (map param_of params) → All (λ p. Lacks other p.1) (map param_of params) → EachLabelOfQueries (λ m. ¬ (m ≡ other)) (map query_of qs) → ArePassable Δ other ps qs
passable_as Δ other params ps qs e n u l a = subst (λ z. ArePassable Δ other z qs) (sym e) (passable Δ other params qs n u l a)

pub arguments_as : (Δ : Definitions) (Γ : Context) (params ps : List Param) (qs : List Query) → ps ≡ params → Arguments Δ Γ (map param_of ps) qs None → Arguments Δ Γ (map param_of params) qs None
arguments_as Δ Γ params ps qs e a = subst (λ z. Arguments Δ Γ (map param_of z) qs None) e a

pub fault_arguments_as : (Δ : Definitions) (other : ℕ) (Γ : Context) (params ps : List Param) (qs : List Query) (y : KindFault) → ps ≡ params → IsFault (IsEvidence Δ other) (ArgumentsCome Δ Γ (map param_of ps) qs) y → IsFault (IsEvidence Δ other) (ArgumentsCome Δ Γ (map param_of params) qs) y
fault_arguments_as Δ other Γ params ps qs y e a = let P : List Param → Type 0 = λ z. IsFault (IsEvidence Δ other) (ArgumentsCome Δ Γ (map param_of z) qs) y in subst P e a
