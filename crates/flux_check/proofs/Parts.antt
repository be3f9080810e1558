-- Answers of statements by those of their parts.
use Rattle.std.proofs.Common.{◌≡◌, ◌∙◌, ℕ, List, ◌∷◌, Option, Some, None, Result, Ok, Err, IsErrAnd, map, sym, ap, subst}
use Rattle.std.specs.Option.{option_map}
use Rattle.flux_trees.specs.Draft.{Draft}
use Rattle.flux_schema.specs.Ty.{Ty, empty, element, seq, alt, IsWithinLimits}
use Rattle.flux_schema.specs.Definitions.{Definitions}
use Rattle.flux_types.specs.declared.ty.Ty.{Ty as Tree}
use Rattle.flux_types.specs.Read.{ty_of}
use Rattle.flux_calculus.specs.declared.ask.Span.{Span}
use Rattle.flux_calculus.specs.declared.ask.Test.{Test}
use Rattle.flux_calculus.specs.declared.ask.Var.{Var}
use Rattle.flux_calculus.specs.Fault.{not_element}
use Rattle.flux_calculus.specs.Query.{Query}
use Rattle.flux_calculus.specs.Typing.{Context, typed, faulty, content_type, Types, of_query}
use Rattle.flux_calculus.specs.Core as calculus
use Rattle.flux_calculus.specs.Core.{Procs, skip, choice, binding, snapshot, delete, rename, test, children, left, right, iter, call, in_order}
use Rattle.flux_typing.specs.Update.{StandsFor, verdict, passes, fails, undecided, of_skip, of_delete, of_iter}
use Rattle.flux_typing.specs.Labels.{EachLabelOfQueries, CoreLacks}
use Rattle.flux_query.specs.declared.query.Query.{Query as Argument}
use Rattle.flux_query.specs.Read.{query_of}
use Rattle.flux_core.specs.declared.statement.Core.{Core}
use Rattle.flux_core.specs.declared.fault.KindFault.{KindFault}
use Rattle.flux_core.specs.declared.measured.Measured.{Measured}
use Rattle.flux_core.specs.Faults.{ShowsNothing, IsFault}
use Rattle.flux_core.specs.Answers.{IsAnswer, IsConclusion}
use Rattle.flux_core.specs.Statements.{core_of}
use Rattle.flux_core.proofs.Replies.{passed_on, fault_carried, answer_carried, answer_shown, from_conclusion}
use Rattle.flux_querytype.specs.Answers.{IsTruth}
use Rattle.flux_check.specs.declared.one.Opened.{Opened}
use Rattle.flux_check.specs.declared.one.Passing.{Passing}
use Rattle.flux_check.specs.Answers.{Comes, MapComes, InAnyChoice}
use Rattle.flux_check.specs.Ones.{measured_type, element_type, IsNoElement, IsOpened, verdict_of}
use Rattle.flux_check.proofs.Rules.{yes_faulty, no_faulty, chosen, bound_faulty, bound, noted, test_all_faulty, test_all, test_none, test_some_faulty, test_some, children_atom, children_faulty, children_typed, left_faulty, left_typed, right_faulty, right_typed}

-- what holds of a statement holds of it in another form
pub listed_as : (P : calculus.Core → Type 0) (s : calculus.Core) (at : Span) (items ss : List Core) → s ≡ in_order at (map core_of items) → ss ≡ items → P s → P (in_order at (map core_of ss))
listed_as P s at items ss e f h = subst P (e ∙ ap (λ l. in_order at (map core_of l)) (sym f)) h

-- what a type stands for, under the same definitions
pub stood_none : (defs defs' : Definitions) (t : Ty) (o : Option Measured) → defs' ≡ defs → StandsFor defs' t (option_map measured_type o) → o ≡ None → StandsFor defs t None
stood_none defs defs' t o e h i = subst (λ d. StandsFor d t None) e (subst (λ o. StandsFor defs' t (option_map measured_type o)) i h)

pub stood_some : (defs defs' : Definitions) (t : Ty) (o : Option Measured) (m : Measured) → defs' ≡ defs → StandsFor defs' t (option_map measured_type o) → o ≡ Some m → StandsFor defs t (Some (measured_type m))
stood_some defs defs' t o m e h i = subst (λ d. StandsFor d t (Some (measured_type m))) e (subst (λ o. StandsFor defs' t (option_map measured_type o)) i h)

pub told : (p : Test) (a m : Tree) (w v : Passing) → a ≡ m → verdict_of w ≡ verdict p (ty_of a) → w ≡ v → verdict p (ty_of m) ≡ verdict_of v
told p a m w v e h i = sym (ap (λ x. verdict p (ty_of x)) e) ∙ sym h ∙ ap verdict_of i

pub opened_some : (m : Measured) (o : Option Opened) (x : Opened) → IsOpened (measured_type m) o → o ≡ Some x → measured_type m ≡ element_type x.label (measured_type x.content)
opened_some m o x h e = subst (IsOpened (measured_type m)) e h

opened_none : (m : Measured) (o : Option Opened) → IsOpened (measured_type m) o → o ≡ None → IsNoElement (measured_type m)
opened_none m o h e = subst (IsOpened (measured_type m)) e h

module _ (S : Ty → Ty → Draft (Unit {0}) → Type 0) (procs : Procs) (defs : Definitions) (Γ : Context) where
  -- at the same statement and the same type
  pub answer_at : (t : Ty) (s s' : calculus.Core) (r : Result Measured KindFault) → s ≡ s' → IsAnswer S (Comes procs defs Γ t s') r → IsAnswer S (Comes procs defs Γ t s) r
  answer_at t s s' r e h = let P : calculus.Core → Type 0 = λ s. IsAnswer S (Comes procs defs Γ t s) r in subst P (sym e) h

  pub answer_of : (t u : Ty) (s : calculus.Core) (r : Result Measured KindFault) → u ≡ t → IsAnswer S (Comes procs defs Γ u s) r → IsAnswer S (Comes procs defs Γ t s) r
  answer_of t u s r e h = let P : Ty → Type 0 = λ t. IsAnswer S (Comes procs defs Γ t s) r in subst P e h

  pub fault_of : (t u : Ty) (s : calculus.Core) (y : KindFault) → u ≡ t → IsFault S (Comes procs defs Γ u s) y → IsFault S (Comes procs defs Γ t s) y
  fault_of t u s y e h = let P : Ty → Type 0 = λ t. IsFault S (Comes procs defs Γ t s) y in subst P e h

  pub skipped : (t : Ty) (s : calculus.Core) (at : Span) → s ≡ skip at → Comes procs defs Γ t s (typed t)
  skipped t s at e = subst (λ s. Comes procs defs Γ t s (typed t)) (sym e) of_skip

  pub deleted : (t u : Ty) (s : calculus.Core) (at : Span) → s ≡ delete at → u ≡ empty → Comes procs defs Γ t s (typed u)
  deleted t u s at e f = subst (λ s. Comes procs defs Γ t s (typed u)) (sym e) (subst (λ w. Comes procs defs Γ t (delete at) (typed w)) (sym f) of_delete)

  pub iterated : (t u : Ty) (s b : calculus.Core) (at : Span) (r : Result Measured KindFault) → s ≡ iter at b → u ≡ t → IsAnswer S (MapComes procs at.from defs Γ u b) r → IsAnswer S (Comes procs defs Γ t s) r
  iterated t u s b at r e f h =
      let P : Ty → Type 0 = λ t. IsAnswer S (MapComes procs at.from defs Γ t b) r in
      answer_at t s (iter at b) r e (answer_carried S (MapComes procs at.from defs Γ t b) (Comes procs defs Γ t (iter at b)) r (λ o m. of_iter m) (subst P f h))

  -- ---- choices

  module _ (t : Ty) (at : Span) (c : Query) (s z : calculus.Core) where
    pub choice_condition : (e : KindFault) (r : Result Measured KindFault) → IsFault S (InAnyChoice procs defs Γ t c) e → IsErrAnd r (λ y. y ≡ e) → IsAnswer S (Comes procs defs Γ t (choice at c s z)) r
    choice_condition e r h i = passed_on S (InAnyChoice procs defs Γ t c) (Comes procs defs Γ t (choice at c s z)) e r (λ f d. d at s z) h i

    pub choice_yes : (e : KindFault) (r : Result Measured KindFault) → IsTruth defs Γ c → IsFault S (Comes procs defs Γ t s) e → IsErrAnd r (λ y. y ≡ e) → IsAnswer S (Comes procs defs Γ t (choice at c s z)) r
    choice_yes e r b h i = passed_on S (Comes procs defs Γ t s) (Comes procs defs Γ t (choice at c s z)) e r (λ f d. yes_faulty b d) h i

    pub choice_no : (u : Ty) (e : KindFault) (r : Result Measured KindFault) → IsTruth defs Γ c → Comes procs defs Γ t s (typed u) → IsFault S (Comes procs defs Γ t z) e → IsErrAnd r (λ y. y ≡ e) → IsAnswer S (Comes procs defs Γ t (choice at c s z)) r
    choice_no u e r b d h i = passed_on S (Comes procs defs Γ t z) (Comes procs defs Γ t (choice at c s z)) e r (λ f k. no_faulty b d k) h i

    pub choice_answer : (u w : Ty) (r : Result Measured KindFault) → IsTruth defs Γ c → Comes procs defs Γ t s (typed u) → Comes procs defs Γ t z (typed w) → IsConclusion at.from (alt u w) r → IsAnswer S (Comes procs defs Γ t (choice at c s z)) r
    choice_answer u w r b d k h = from_conclusion S (Comes procs defs Γ t (choice at c s z)) at.from (alt u w) r (λ o e. chosen o b d k e) h

  -- ---- variables

  pub binding_fault : (t : Ty) (at : Span) (x : Var) (q : Query) (s : calculus.Core) (e : KindFault) (r : Result Measured KindFault) → IsFault S (Types defs (of_query Γ q)) e → IsErrAnd r (λ y. y ≡ e) → IsAnswer S (Comes procs defs Γ t (binding at x q s)) r
  binding_fault t at x q s e r h i = passed_on S (Types defs (of_query Γ q)) (Comes procs defs Γ t (binding at x q s)) e r (λ f d. bound_faulty d) h i

  pub binding_answer : (t u : Ty) (at : Span) (x : Var) (q : Query) (s : calculus.Core) (r : Result Measured KindFault) → Types defs (of_query Γ q) (typed u) → IsAnswer S (Comes procs defs ((x, u) ∷ Γ) t s) r → IsAnswer S (Comes procs defs Γ t (binding at x q s)) r
  binding_answer t u at x q s r d h = answer_carried S (Comes procs defs ((x, u) ∷ Γ) t s) (Comes procs defs Γ t (binding at x q s)) r (λ o k. bound o d k) h

  pub snapshot_answer : (t : Ty) (Γ' : Context) (at : Span) (x : Var) (s : calculus.Core) (r : Result Measured KindFault) → Γ' ≡ (x, t) ∷ Γ → IsAnswer S (Comes procs defs Γ' t s) r → IsAnswer S (Comes procs defs Γ t (snapshot at x s)) r
  snapshot_answer t Γ' at x s r e h =
      let P : Context → Type 0 = λ G. IsAnswer S (Comes procs defs G t s) r in
      answer_carried S (Comes procs defs ((x, t) ∷ Γ) t s) (Comes procs defs Γ t (snapshot at x s)) r (λ o k. noted o k) (subst P e h)

  -- ---- tests

  module _ (t : Ty) (at : Span) (p : Test) (s : calculus.Core) (a : Ty) (h : StandsFor defs t (Some a)) where
    pub test_all_answer : (r : Result Measured KindFault) → verdict p a ≡ passes → IsAnswer S (Comes procs defs Γ a s) r → IsAnswer S (Comes procs defs Γ t (test at p s)) r
    test_all_answer (Ok m) e x = test_all e h m.limits x
    test_all_answer (Err y) e x = fault_carried S (Comes procs defs Γ a s) (Comes procs defs Γ t (test at p s)) y (λ f k. test_all_faulty e h k) x

    pub test_none_answer : verdict p a ≡ fails → IsWithinLimits a → Comes procs defs Γ t (test at p s) (typed a)
    test_none_answer e l = test_none e h l

    pub test_some_fault : (n : ℕ) (w : Ty) (e : KindFault) (r : Result Measured KindFault) → verdict p a ≡ undecided n → w ≡ element n (content_type a) → IsFault S (Comes procs defs Γ w s) e → IsErrAnd r (λ y. y ≡ e) → IsAnswer S (Comes procs defs Γ t (test at p s)) r
    test_some_fault n w e r v is d i =
        passed_on S (Comes procs defs Γ (element n (content_type a)) s) (Comes procs defs Γ t (test at p s)) e r (λ f k. test_some_faulty v h k) (fault_of (element n (content_type a)) w s e is d) i

    pub test_some_answer : (n : ℕ) (w u : Ty) (r : Result Measured KindFault) → verdict p a ≡ undecided n → w ≡ element n (content_type a) → Comes procs defs Γ w s (typed u) → IsConclusion at.from (alt u a) r → IsAnswer S (Comes procs defs Γ t (test at p s)) r
    test_some_answer n w u r v is d c =
        from_conclusion S (Comes procs defs Γ t (test at p s)) at.from (alt u a) r (λ o k. test_some o v h (subst (λ w. Comes procs defs Γ w s (typed u)) is d) k) c

  -- ---- the content of an element

  module _ (t : Ty) (at : Span) (s : calculus.Core) (m : Measured) (h : StandsFor defs t (Some (measured_type m))) (o : Option Opened) (i : IsOpened (measured_type m) o) where
    pub children_none : o ≡ None → Comes procs defs Γ t (children at s) (faulty (not_element at.from))
    children_none e = children_atom (measured_type m) h (opened_none m o i e)

    pub children_fault : (x : Opened) (e : KindFault) (r : Result Measured KindFault) → o ≡ Some x → IsFault S (Comes procs defs Γ (measured_type x.content) s) e → IsErrAnd r (λ y. y ≡ e) → IsAnswer S (Comes procs defs Γ t (children at s)) r
    children_fault x e r is d j =
        passed_on S (Comes procs defs Γ (measured_type x.content) s) (Comes procs defs Γ t (children at s)) e r (λ f k. children_faulty x.label (measured_type m) (measured_type x.content) h (opened_some m o x i is) k) d j

    pub children_answer : (x : Opened) (w : Ty) (r : Result Measured KindFault) → o ≡ Some x → Comes procs defs Γ (measured_type x.content) s (typed w) → IsConclusion at.from (element_type x.label w) r → IsAnswer S (Comes procs defs Γ t (children at s)) r
    children_answer x w r is d c =
        from_conclusion S (Comes procs defs Γ t (children at s)) at.from (element_type x.label w) r (λ z k. children_typed x.label (measured_type m) (measured_type x.content) z h (opened_some m o x i is) d k) c

  -- ---- before and behind the focus

  module _ (t : Ty) (at : Span) (s : calculus.Core) (u : Ty) (is : u ≡ empty) where
    pub left_fault : (e : KindFault) (r : Result Measured KindFault) → IsFault S (Comes procs defs Γ u s) e → IsErrAnd r (λ y. y ≡ e) → IsAnswer S (Comes procs defs Γ t (left at s)) r
    left_fault e r h i = passed_on S (Comes procs defs Γ empty s) (Comes procs defs Γ t (left at s)) e r (λ f d. left_faulty d) (fault_of empty u s e is h) i

    pub left_answer : (w : Ty) (r : Result Measured KindFault) → Comes procs defs Γ u s (typed w) → IsConclusion at.from (seq w t) r → IsAnswer S (Comes procs defs Γ t (left at s)) r
    left_answer w r d c = from_conclusion S (Comes procs defs Γ t (left at s)) at.from (seq w t) r (λ o k. left_typed o (subst (λ u. Comes procs defs Γ u s (typed w)) is d) k) c

    pub right_fault : (e : KindFault) (r : Result Measured KindFault) → IsFault S (Comes procs defs Γ u s) e → IsErrAnd r (λ y. y ≡ e) → IsAnswer S (Comes procs defs Γ t (right at s)) r
    right_fault e r h i = passed_on S (Comes procs defs Γ empty s) (Comes procs defs Γ t (right at s)) e r (λ f d. right_faulty d) (fault_of empty u s e is h) i

    pub right_answer : (w : Ty) (r : Result Measured KindFault) → Comes procs defs Γ u s (typed w) → IsConclusion at.from (seq t w) r → IsAnswer S (Comes procs defs Γ t (right at s)) r
    right_answer w r d c = from_conclusion S (Comes procs defs Γ t (right at s)) at.from (seq t w) r (λ o k. right_typed o (subst (λ u. Comes procs defs Γ u s (typed w)) is d) k) c

-- a renaming shows no forest
pub renaming_answer : (S : Ty → Ty → Draft (Unit {0}) → Type 0) (procs : Procs) (defs defs' : Definitions) (Γ : Context) (t : Ty) (s : calculus.Core) (at : Span) (n : ℕ) (r : Result Measured KindFault) → s ≡ rename at n → defs' ≡ defs → IsAnswer ShowsNothing (Comes procs defs' Γ t (rename at n)) r → IsAnswer S (Comes procs defs Γ t s) r
renaming_answer S procs defs defs' Γ t s at n r e f h =
    let P : Definitions → Type 0 = λ d. IsAnswer ShowsNothing (Comes procs d Γ t (rename at n)) r in
    answer_at S procs defs Γ t s (rename at n) r e (answer_shown S (Comes procs defs Γ t (rename at n)) r (subst P f h))

-- the arguments of a call lack what the call does
pub arguments_lack : (other : ℕ) (s : calculus.Core) (p : ℕ) (items qs : List Argument) (at : Span) → s ≡ call at p (map query_of items) → qs ≡ items → CoreLacks other s → EachLabelOfQueries (λ m. ¬ (m ≡ other)) (map query_of qs)
arguments_lack other s p items qs at e f h = subst (CoreLacks other) (e ∙ ap (λ l. call at p (map query_of l)) (sym f)) h
