-- What comes of the parts of a query comes of the query.
use Rattle.std.proofs.Common.{◌≡◌, ◌∙◌, ℕ, List, [], ◌∷◌, ◌++◌, append_assoc, length, arith, Result, Ok, Err, IsErrAnd, IfErr, refl, sym, ap, subst}
use Rattle.flux_atom.specs.declared.atom.Atom.{Atom as Leaf}
use Rattle.flux_atom.specs.declared.atom.AtomKind.{AtomKind}
use Rattle.flux_atom.specs.declared.atom.AtomKind.TheVariants as kind
use Rattle.flux_atom.specs.Atom.{kind_of}
use Rattle.flux_trees.specs.Draft.{Draft}
use Rattle.flux_schema.specs.Ty.{Ty, empty, atom, element, seq, alt}
use Rattle.flux_schema.specs.Definitions.{Definitions}
use Rattle.flux_types.specs.declared.ty.Ty.{Ty as Tree}
use Rattle.flux_types.specs.declared.ty.Ty.TheVariants.{Atom}
use Rattle.flux_types.specs.declared.decider.Verdict.{Verdict}
use Rattle.flux_types.specs.declared.decider.Verdict.TheVariants.{No}
use Rattle.flux_types.specs.Read.{ty_of}
use Rattle.flux_types.specs.Verdicts.{IsEvidence, IsVerdict}
use Rattle.flux_types.proofs.Variants.{of_atom}
use Rattle.flux_calculus.specs.declared.ask.Span.{Span}
use Rattle.flux_calculus.specs.declared.ask.Test.{Test}
use Rattle.flux_calculus.specs.declared.ask.Var.{Var}
use Rattle.flux_calculus.specs.Fault.{not_bool, not_int}
use Rattle.flux_calculus.specs.Query as calculus
use Rattle.flux_calculus.specs.Query.{nothing, both, element as element_query, literal, binding, choice, alike, less, filter, each, place_of}
use Rattle.flux_calculus.specs.Typing.{Context, Treatment, Outcome, typed, faulty, of_query, of_map, returning, keeping, Types, of_nothing, of_one, of_several, first_of_several, others_of_several, of_element, content_of_element, of_literal, of_binding, bound_of_binding, of_choice, condition_of_choice, no_truth_of_choice, yes_of_choice, no_of_choice, of_alike, left_of_alike, right_of_alike, of_less, left_of_less, left_no_number, right_of_less, right_no_number, of_filter, from_of_filter, of_each, over_of_each}
use Rattle.flux_query.specs.declared.query.Query.{Query}
use Rattle.flux_query.specs.Read.{query_of, queries_of}
use Rattle.flux_core.specs.declared.fault.KindFault.{KindFault}
use Rattle.flux_core.specs.declared.fault.KindFault.TheVariants.{NotBool, NotInt}
use Rattle.flux_core.specs.declared.measured.Measured.{Measured}
use Rattle.flux_core.specs.Faults.{ShowsNothing, IsFault}
use Rattle.flux_core.specs.Answers.{IsAnswer, IsConclusion}
use Rattle.flux_core.proofs.Replies.{answer_carried, answer_shown, passed_on, from_conclusion}
use Rattle.flux_querytype.specs.Answers.{IsAfter, IsTruth, InAnyChoice, IsNumber, InAnyComparison}
use Rattle.flux_querytype.proofs.Known.{Scope}

-- which forests show that a type isn't included in another
abbrev pub shows : Scope → (Ty → Ty → Draft (Unit {0}) → Type 0)
shows scope = IsEvidence scope.0 scope.1

-- what a type has under a treatment of its trees
abbrev pub Maps : Scope → ℕ → Treatment → Ty → Outcome → Type 0
Maps scope at f t o = Types scope.0 (of_map at f t) o

-- what a query has in a scope and under variables
abbrev pub Has : Scope → Context → calculus.Query → Outcome → Type 0
Has scope Γ q o = Types scope.0 (of_query Γ q) o

pub fault_same : (scope scope' : Scope) (Γ Γ' : Context) (q : calculus.Query) (e : KindFault) → scope' ≡ scope → Γ' ≡ Γ → IsFault (shows scope') (Has scope' Γ' q) e → IsFault (shows scope) (Has scope Γ q) e
fault_same scope scope' Γ Γ' q e i j d =
    let P : Scope → Type 0 = λ w. IsFault (shows w) (Has w Γ' q) e in
    let Q : Context → Type 0 = λ w. IsFault (shows scope) (Has scope w q) e in
    subst Q j (subst P i d)

pub answer_same : (scope scope' : Scope) (Γ Γ' : Context) (q : calculus.Query) (r : Result Measured KindFault) → scope' ≡ scope → Γ' ≡ Γ → IsAnswer (shows scope') (Has scope' Γ' q) r → IsAnswer (shows scope) (Has scope Γ q) r
answer_same scope scope' Γ Γ' q r i j d =
    let P : Scope → Type 0 = λ w. IsAnswer (shows w) (Has w Γ' q) r in
    let Q : Context → Type 0 = λ w. IsAnswer (shows scope) (Has scope w q) r in
    subst Q j (subst P i d)

pub answer_at : (scope : Scope) (Γ : Context) (q q' : calculus.Query) (r : Result Measured KindFault) → q ≡ q' → IsAnswer (shows scope) (Has scope Γ q') r → IsAnswer (shows scope) (Has scope Γ q) r
answer_at scope Γ q q' r e h = let P : calculus.Query → Type 0 = λ w. IsAnswer (shows scope) (Has scope Γ w) r in subst P (sym e) h

module _ (scope : Scope) (Γ : Context) where
  -- ---- elements, atoms

  pub element_fault : (at : Span) (n : ℕ) (q : calculus.Query) (e : KindFault) (r : Result Measured KindFault) → IsFault (shows scope) (Has scope Γ q) e → IsErrAnd r (λ y. y ≡ e) → IsAnswer (shows scope) (Has scope Γ (element_query at n q)) r
  element_fault at n q e r h i = passed_on (shows scope) (Has scope Γ q) (Has scope Γ (element_query at n q)) e r (λ f d. content_of_element d) h i

  pub element_answer : (at : Span) (n : ℕ) (q : calculus.Query) (t : Ty) (r : Result Measured KindFault) → Has scope Γ q (typed t) → IsConclusion at.from (element n t) r → IsAnswer (shows scope) (Has scope Γ (element_query at n q)) r
  element_answer at n q t r d h = from_conclusion (shows scope) (Has scope Γ (element_query at n q)) at.from (element n t) r (λ o c. of_element d c) h

  pub literal_answer : (at : Span) (q : calculus.Query) (x : Leaf) (m : Measured) (k : AtomKind) → q ≡ literal at x → k ≡ kind_of x → ty_of m.ty.value ≡ atom k → IsAnswer (shows scope) (Has scope Γ q) (Ok m)
  literal_answer at q x m k e f g =
      let P : calculus.Query → Type 0 = λ w. Has scope Γ w (typed (ty_of m.ty.value)) in
      let Q : Ty → Type 0 = λ w. Has scope Γ (literal at x) (typed w) in
      let same : atom (kind_of x) ≡ ty_of m.ty.value = ap atom (sym f) ∙ sym g in
      subst P (sym e) (subst Q same (of_literal x))

  -- ---- bodies with a variable

  pub bound_fault : (at : Span) (x : Var) (q s : calculus.Query) (e : KindFault) (r : Result Measured KindFault) → IsFault (shows scope) (Has scope Γ q) e → IsErrAnd r (λ y. y ≡ e) → IsAnswer (shows scope) (Has scope Γ (binding at x q s)) r
  bound_fault at x q s e r h i = passed_on (shows scope) (Has scope Γ q) (Has scope Γ (binding at x q s)) e r (λ f d. bound_of_binding d) h i

  pub binding_answer : (at : Span) (x : Var) (q s : calculus.Query) (t : Ty) (r : Result Measured KindFault) → Has scope Γ q (typed t) → IsAnswer (shows scope) (Has scope ((x, t) ∷ Γ) s) r → IsAnswer (shows scope) (Has scope Γ (binding at x q s)) r
  binding_answer at x q s t r d h = answer_carried (shows scope) (Has scope ((x, t) ∷ Γ) s) (Has scope Γ (binding at x q s)) r (λ o k. of_binding d k) h

  -- ---- choices

  pub condition_fault : (c : calculus.Query) (e y : KindFault) → IsFault (shows scope) (Has scope Γ c) e → y ≡ e → IsFault (shows scope) (InAnyChoice scope.0 Γ c) y
  condition_fault c e y h i =
      let P : KindFault → Type 0 = λ y. IsFault (shows scope) (InAnyChoice scope.0 Γ c) y in
      let made : IsAnswer (shows scope) (InAnyChoice scope.0 Γ c) (Err y) = passed_on (shows scope) (Has scope Γ c) (InAnyChoice scope.0 Γ c) e (Err y) (λ f d at q r. condition_of_choice d) h i in
      made

  pub choice_condition : (at : Span) (c q s : calculus.Query) (e : KindFault) (r : Result Measured KindFault) → IsFault (shows scope) (InAnyChoice scope.0 Γ c) e → IsErrAnd r (λ y. y ≡ e) → IsAnswer (shows scope) (Has scope Γ (choice at c q s)) r
  choice_condition at c q s e r h i = passed_on (shows scope) (InAnyChoice scope.0 Γ c) (Has scope Γ (choice at c q s)) e r (λ f d. d at q s) h i

  pub choice_yes : (at : Span) (c q s : calculus.Query) (e : KindFault) (r : Result Measured KindFault) → IsTruth scope.0 Γ c → IsFault (shows scope) (Has scope Γ q) e → IsErrAnd r (λ y. y ≡ e) → IsAnswer (shows scope) (Has scope Γ (choice at c q s)) r
  choice_yes at c q s e r b h i = passed_on (shows scope) (Has scope Γ q) (Has scope Γ (choice at c q s)) e r (λ f d. yes_of_choice b.1 b.2 d) h i

  pub choice_no : (at : Span) (c q s : calculus.Query) (t : Ty) (e : KindFault) (r : Result Measured KindFault) → IsTruth scope.0 Γ c → Has scope Γ q (typed t) → IsFault (shows scope) (Has scope Γ s) e → IsErrAnd r (λ y. y ≡ e) → IsAnswer (shows scope) (Has scope Γ (choice at c q s)) r
  choice_no at c q s t e r b d h i = passed_on (shows scope) (Has scope Γ s) (Has scope Γ (choice at c q s)) e r (λ f k. no_of_choice b.1 b.2 d k) h i

  pub choice_answer : (at : Span) (c q s : calculus.Query) (t u : Ty) (r : Result Measured KindFault) → IsTruth scope.0 Γ c → Has scope Γ q (typed t) → Has scope Γ s (typed u) → IsConclusion at.from (alt t u) r → IsAnswer (shows scope) (Has scope Γ (choice at c q s)) r
  choice_answer at c q s t u r b d k h = from_conclusion (shows scope) (Has scope Γ (choice at c q s)) at.from (alt t u) r (λ o l. of_choice b.1 b.2 d k l) h

  -- ---- two values that are the same

  pub left_fault : (at : Span) (q s : calculus.Query) (e : KindFault) (r : Result Measured KindFault) → IsFault (shows scope) (Has scope Γ q) e → IsErrAnd r (λ y. y ≡ e) → IsAnswer (shows scope) (Has scope Γ (alike at q s)) r
  left_fault at q s e r h i = passed_on (shows scope) (Has scope Γ q) (Has scope Γ (alike at q s)) e r (λ f d. left_of_alike d) h i

  pub right_fault : (at : Span) (q s : calculus.Query) (t : Ty) (e : KindFault) (r : Result Measured KindFault) → Has scope Γ q (typed t) → IsFault (shows scope) (Has scope Γ s) e → IsErrAnd r (λ y. y ≡ e) → IsAnswer (shows scope) (Has scope Γ (alike at q s)) r
  right_fault at q s t e r d h i = passed_on (shows scope) (Has scope Γ s) (Has scope Γ (alike at q s)) e r (λ f k. right_of_alike d k) h i

  pub alike_answer : (at : Span) (q s : calculus.Query) (t u : Ty) (m : Measured) → Has scope Γ q (typed t) → Has scope Γ s (typed u) → ty_of m.ty.value ≡ atom kind.Bool → IsAnswer (shows scope) (Has scope Γ (alike at q s)) (Ok m)
  alike_answer at q s t u m d k e = let P : Ty → Type 0 = λ w. Has scope Γ (alike at q s) (typed w) in subst P (sym e) (of_alike d k)

  -- ---- comparisons

  number_fault : (c : calculus.Query) (e y : KindFault) → IsFault (shows scope) (Has scope Γ c) e → y ≡ e → IsFault (shows scope) (InAnyComparison scope.0 Γ c) y
  number_fault c e y h i =
      let made : IsAnswer (shows scope) (InAnyComparison scope.0 Γ c) (Err y) = passed_on (shows scope) (Has scope Γ c) (InAnyComparison scope.0 Γ c) e (Err y) (λ f d. (λ at r. left_of_less d, λ at l b. right_of_less b.1 b.2 d)) h i in
      made

  pub less_left : (at : Span) (q s : calculus.Query) (e : KindFault) (r : Result Measured KindFault) → IsFault (shows scope) (InAnyComparison scope.0 Γ q) e → IsErrAnd r (λ y. y ≡ e) → IsAnswer (shows scope) (Has scope Γ (less at q s)) r
  less_left at q s e r h i = passed_on (shows scope) (InAnyComparison scope.0 Γ q) (Has scope Γ (less at q s)) e r (λ f d. d.0 at s) h i

  pub less_right : (at : Span) (q s : calculus.Query) (e : KindFault) (r : Result Measured KindFault) → IsNumber scope.0 Γ q → IsFault (shows scope) (InAnyComparison scope.0 Γ s) e → IsErrAnd r (λ y. y ≡ e) → IsAnswer (shows scope) (Has scope Γ (less at q s)) r
  less_right at q s e r b h i = passed_on (shows scope) (InAnyComparison scope.0 Γ s) (Has scope Γ (less at q s)) e r (λ f d. d.1 at q b) h i

  pub less_answer : (at : Span) (q s : calculus.Query) (m : Measured) → IsNumber scope.0 Γ q → IsNumber scope.0 Γ s → ty_of m.ty.value ≡ atom kind.Bool → IsAnswer (shows scope) (Has scope Γ (less at q s)) (Ok m)
  less_answer at q s m b d e = let P : Ty → Type 0 = λ w. Has scope Γ (less at q s) (typed w) in subst P (sym e) (of_less b.1 b.2 d.1 d.2)

  -- ---- maps

  pub from_fault : (at : Span) (q : calculus.Query) (p : Test) (e : KindFault) (r : Result Measured KindFault) → IsFault (shows scope) (Has scope Γ q) e → IsErrAnd r (λ y. y ≡ e) → IsAnswer (shows scope) (Has scope Γ (filter at q p)) r
  from_fault at q p e r h i = passed_on (shows scope) (Has scope Γ q) (Has scope Γ (filter at q p)) e r (λ f d. from_of_filter d) h i

  pub filter_answer : (at : Span) (q : calculus.Query) (p : Test) (t : Ty) (r : Result Measured KindFault) → Has scope Γ q (typed t) → IsAnswer (shows scope) (Maps scope at.from (keeping p) t) r → IsAnswer (shows scope) (Has scope Γ (filter at q p)) r
  filter_answer at q p t r d h = answer_carried (shows scope) (Maps scope at.from (keeping p) t) (Has scope Γ (filter at q p)) r (λ o k. of_filter d k) h

  pub over_fault : (at : Span) (x : Var) (q s : calculus.Query) (e : KindFault) (r : Result Measured KindFault) → IsFault (shows scope) (Has scope Γ q) e → IsErrAnd r (λ y. y ≡ e) → IsAnswer (shows scope) (Has scope Γ (each at x q s)) r
  over_fault at x q s e r h i = passed_on (shows scope) (Has scope Γ q) (Has scope Γ (each at x q s)) e r (λ f d. over_of_each d) h i

  pub each_answer : (at : Span) (x : Var) (q s : calculus.Query) (t : Ty) (r : Result Measured KindFault) → Has scope Γ q (typed t) → IsAnswer (shows scope) (Maps scope at.from (returning Γ x s) t) r → IsAnswer (shows scope) (Has scope Γ (each at x q s)) r
  each_answer at x q s t r d h = answer_carried (shows scope) (Maps scope at.from (returning Γ x s) t) (Has scope Γ (each at x q s)) r (λ o k. of_each d k) h

  -- ---- queries one behind the other

  pub none_answer : (at : Span) (qs : List Query) (m : Measured) → qs ≡ [] → ty_of m.ty.value ≡ empty → IsAnswer (shows scope) (Has scope Γ (queries_of at qs)) (Ok m)
  none_answer at qs m e f =
      let P : List Query → Type 0 = λ qs. Has scope Γ (queries_of at qs) (typed (ty_of m.ty.value)) in
      let Q : Ty → Type 0 = λ w. Has scope Γ (nothing at) (typed w) in
      subst P (sym e) (subst Q (sym f) of_nothing)

  pub one_answer : (at : Span) (q : Query) (r : Result Measured KindFault) → IsAnswer (shows scope) (Has scope Γ (query_of q)) r → IsAnswer (shows scope) (Has scope Γ (queries_of at (q ∷ []))) r
  one_answer at q r h = answer_carried (shows scope) (Has scope Γ (query_of q)) (Has scope Γ (queries_of at (q ∷ []))) r (λ o d. of_one d) h

  pub several_answer : (at : Span) (p q : Query) (qs : List Query) (first others r : Result Measured KindFault) → IsAnswer (shows scope) (Has scope Γ (query_of p)) first → IsAnswer (shows scope) (Has scope Γ (queries_of at (q ∷ qs))) others → IsAfter at first others r → IsAnswer (shows scope) (Has scope Γ (queries_of at (p ∷ (q ∷ qs)))) r
  several_answer at p q qs (Err e) others r h i j =
      let P : Result Measured KindFault → Type 0 = λ r. IsAnswer (shows scope) (Has scope Γ (queries_of at (p ∷ (q ∷ qs)))) r in
      subst P (sym j) (passed_on (shows scope) (Has scope Γ (query_of p)) (Has scope Γ (queries_of at (p ∷ (q ∷ qs)))) e (Err e) (λ f d. first_of_several d) h refl)
  several_answer at p q qs (Ok t) (Err e) r h i j =
      let P : Result Measured KindFault → Type 0 = λ r. IsAnswer (shows scope) (Has scope Γ (queries_of at (p ∷ (q ∷ qs)))) r in
      subst P (sym j) (passed_on (shows scope) (Has scope Γ (queries_of at (q ∷ qs))) (Has scope Γ (queries_of at (p ∷ (q ∷ qs)))) e (Err e) (λ f d. others_of_several h d) i refl)
  several_answer at p q qs (Ok t) (Ok u) r h i j =
      from_conclusion (shows scope) (Has scope Γ (queries_of at (p ∷ (q ∷ qs)))) at.from (seq (ty_of t.ty.value) (ty_of u.ty.value)) r (λ o c. of_several h i c) j

  -- of all the queries, those behind the ones that are left have an answer
  pub record Behind (at : Span) (all left : List Query) (r : Result Measured KindFault) : Type 0 where
    pub first : Query
    pub others : List Query
    pub split : all ≡ left ++ first ∷ others
    pub answer : IsAnswer (shows scope) (Has scope Γ (queries_of at (first ∷ others))) r

  pub behind_last : (at : Span) (all left others : List Query) (q : Query) (r : Result Measured KindFault) → left ≡ others → all ≡ others ++ q ∷ [] → IsAnswer (shows scope) (Has scope Γ (query_of q)) r → Behind at all left r
  behind_last at all left others q r f e h = record { first = q; others = []; split = e ∙ ap (λ l. l ++ q ∷ []) (sym f); answer = one_answer at q r h }

  pub behind_more : (at : Span) (all left fewer : List Query) (p : Query) (first others r : Result Measured KindFault) → left ≡ fewer ++ p ∷ [] → Behind at all left others → IsAnswer (shows scope) (Has scope Γ (query_of p)) first → IsAfter at first others r → Behind at all fewer r
  behind_more at all left fewer p first others r e b h j = record {
    first = p;
    others = b.first ∷ b.others;
    split = b.split ∙ ap (λ l. l ++ b.first ∷ b.others) e ∙ append_assoc fewer (p ∷ []) (b.first ∷ b.others);
    answer = several_answer at p b.first b.others first others r h b.answer j;
  }

  pub behind_all : (at : Span) (all left : List Query) (r : Result Measured KindFault) → left ≡ [] → Behind at all left r → IsAnswer (shows scope) (Has scope Γ (queries_of at all)) r
  behind_all at all left r e b =
      let P : List Query → Type 0 = λ l. IsAnswer (shows scope) (Has scope Γ (queries_of at l)) r in
      let whole : all ≡ b.first ∷ b.others = b.split ∙ ap (λ l. l ++ b.first ∷ b.others) e in
      subst P (sym whole) b.answer

-- ---- under the same definitions and variables

pub under_same : (scope scope' : Scope) (Γ Γ' : Context) (x : Var) (t : Ty) (q : calculus.Query) (r : Result Measured KindFault) → scope' ≡ scope → Γ' ≡ Γ → IsAnswer (shows scope') (Has scope' ((x, t) ∷ Γ') q) r → IsAnswer (shows scope) (Has scope ((x, t) ∷ Γ) q) r
under_same scope scope' Γ Γ' x t q r e f h = answer_same scope scope' ((x, t) ∷ Γ) ((x, t) ∷ Γ') q r e (ap (λ w. (x, t) ∷ w) f) h

-- a query has a type that is the same
pub has_owned : (scope : Scope) (Γ : Context) (q : calculus.Query) (m t : Tree) → m ≡ t → Has scope Γ q (typed (ty_of t)) → Has scope Γ q (typed (ty_of m))
has_owned scope Γ q m t e h = let P : Tree → Type 0 = λ m. Has scope Γ q (typed (ty_of m)) in subst P (sym e) h

-- a body with a variable of a tree, which is the type that is bound
pub under_tree : (scope scope' : Scope) (Γ Γ' : Context) (x : Var) (m t : Tree) (q : calculus.Query) (r : Result Measured KindFault) → m ≡ t → scope' ≡ scope → Γ' ≡ Γ → IsAnswer (shows scope') (Has scope' ((x, ty_of m) ∷ Γ') q) r → IsAnswer (shows scope) (Has scope ((x, ty_of t) ∷ Γ) q) r
under_tree scope scope' Γ Γ' x m t q r i e f h =
    let P : Tree → Type 0 = λ m. IsAnswer (shows scope) (Has scope ((x, ty_of m) ∷ Γ) q) r in
    subst P i (under_same scope scope' Γ Γ' x (ty_of m) q r e f h)

pub maps_same : (scope scope' : Scope) (at : ℕ) (f : Treatment) (t : Ty) (r : Result Measured KindFault) → scope' ≡ scope → IsAnswer (shows scope') (Maps scope' at f t) r → IsAnswer (shows scope) (Maps scope at f t) r
maps_same scope scope' at f t r e h = let P : Scope → Type 0 = λ w. IsAnswer (shows w) (Maps w at f t) r in subst P e h

-- a filter shows no forest
pub filtered_same : (scope : Scope) (defs' : Definitions) (at : ℕ) (f : Treatment) (t : Ty) (r : Result Measured KindFault) → defs' ≡ scope.0 → IsAnswer ShowsNothing (Types defs' (of_map at f t)) r → IsAnswer (shows scope) (Maps scope at f t) r
filtered_same scope defs' at f t r e h =
    let P : Definitions → Type 0 = λ d. IsAnswer ShowsNothing (Types d (of_map at f t)) r in
    answer_shown (shows scope) (Maps scope at f t) r (subst P e h)

-- nor do a variable and what it contains
pub leaf_same : (scope : Scope) (defs' : Definitions) (Γ : Context) (q : calculus.Query) (r : Result Measured KindFault) → defs' ≡ scope.0 → IsAnswer ShowsNothing (Types defs' (of_query Γ q)) r → IsAnswer (shows scope) (Has scope Γ q) r
leaf_same scope defs' Γ q r e h =
    let P : Definitions → Type 0 = λ d. IsAnswer ShowsNothing (Types d (of_query Γ q)) r in
    answer_shown (shows scope) (Has scope Γ q) r (subst P e h)

pub returning_same : (scope scope' : Scope) (Γ Γ' : Context) (at : ℕ) (x : Var) (q : calculus.Query) (t : Ty) (r : Result Measured KindFault) → scope' ≡ scope → Γ' ≡ Γ → IsAnswer (shows scope') (Maps scope' at (returning Γ' x q) t) r → IsAnswer (shows scope) (Maps scope at (returning Γ x q) t) r
returning_same scope scope' Γ Γ' at x q t r e f h =
    let P : Context → Type 0 = λ w. IsAnswer (shows scope) (Maps scope at (returning w x q) t) r in
    subst P f (maps_same scope scope' at (returning Γ' x q) t r e h)

pub no_length : (qs : List Query) → length qs ≡ 0 → qs ≡ []
no_length [] e = refl
no_length (q ∷ qs) e = absurd (omega (arith, e))

-- ---- conditions

pub condition_passed : {A : Type 0} (scope : Scope) (Γ : Context) (c : calculus.Query) (e : KindFault) (r : Result A KindFault) → IsFault (shows scope) (Has scope Γ c) e → IsErrAnd r (λ y. y ≡ e) → IfErr r (IsFault (shows scope) (InAnyChoice scope.0 Γ c))
condition_passed scope Γ c e (Ok x) h i = tt
condition_passed scope Γ c e (Err y) h i = condition_fault scope Γ c e y h i

pub condition_shown : (scope scope' : Scope) (Γ : Context) (c : calculus.Query) (place : ℕ) (t : Ty) (f : Draft (Unit {0})) → Has scope Γ c (typed t) → scope' ≡ scope → place ≡ place_of c → shows scope' t (atom kind.Bool) f → IsFault (shows scope) (InAnyChoice scope.0 Γ c) (NotBool place f)
condition_shown scope scope' Γ c place t f d e is v =
    let P : Scope → Type 0 = λ w. shows w t (atom kind.Bool) f in
    let Q : ℕ → Type 0 = λ n. InAnyChoice scope.0 Γ c (faulty (not_bool n t (atom kind.Bool))) in
    let shown : shows scope t (atom kind.Bool) f = subst P e v in
    (t, atom kind.Bool, subst Q (sym is) (λ at q r. no_truth_of_choice shown.forest d shown.member shown.no_member), shown)

pub condition_refused : (scope scope' : Scope) (Γ : Context) (c : calculus.Query) (place : ℕ) (t : Ty) (u : Tree) (v : Verdict) (f : Draft (Unit {0})) → Has scope Γ c (typed t) → scope' ≡ scope → place ≡ place_of c → u ≡ Atom kind.Bool → v ≡ No f → IsVerdict scope'.0 scope'.1 t (ty_of u) v → IsFault (shows scope) (InAnyChoice scope.0 Γ c) (NotBool place f)
condition_refused scope scope' Γ c place t u v f d e is b n h =
    let P : Ty → Type 0 = λ w. IsVerdict scope'.0 scope'.1 t w (No f) in
    let Q : Verdict → Type 0 = λ w. IsVerdict scope'.0 scope'.1 t (ty_of u) w in
    condition_shown scope scope' Γ c place t f d e is (subst P (of_atom u kind.Bool b) (subst Q n h))

-- ---- sides of comparisons

pub number_passed : {A : Type 0} (scope : Scope) (Γ : Context) (c : calculus.Query) (e : KindFault) (r : Result A KindFault) → IsFault (shows scope) (Has scope Γ c) e → IsErrAnd r (λ y. y ≡ e) → IfErr r (IsFault (shows scope) (InAnyComparison scope.0 Γ c))
number_passed scope Γ c e (Ok x) h i = tt
number_passed scope Γ c e (Err y) h i = number_fault scope Γ c e y h i

number_shown : (scope scope' : Scope) (Γ : Context) (c : calculus.Query) (place : ℕ) (t : Ty) (f : Draft (Unit {0})) → Has scope Γ c (typed t) → scope' ≡ scope → place ≡ place_of c → shows scope' t (atom kind.Int) f → IsFault (shows scope) (InAnyComparison scope.0 Γ c) (NotInt place f)
number_shown scope scope' Γ c place t f d e is v =
    let P : Scope → Type 0 = λ w. shows w t (atom kind.Int) f in
    let Q : ℕ → Type 0 = λ n. InAnyComparison scope.0 Γ c (faulty (not_int n t (atom kind.Int))) in
    let shown : shows scope t (atom kind.Int) f = subst P e v in
    (t, atom kind.Int, subst Q (sym is) (λ at r. left_no_number shown.forest d shown.member shown.no_member, λ at l b. right_no_number shown.forest b.1 b.2 d shown.member shown.no_member), shown)

pub number_refused : (scope scope' : Scope) (Γ : Context) (c : calculus.Query) (place : ℕ) (t : Ty) (u : Tree) (v : Verdict) (f : Draft (Unit {0})) → Has scope Γ c (typed t) → scope' ≡ scope → place ≡ place_of c → u ≡ Atom kind.Int → v ≡ No f → IsVerdict scope'.0 scope'.1 t (ty_of u) v → IsFault (shows scope) (InAnyComparison scope.0 Γ c) (NotInt place f)
number_refused scope scope' Γ c place t u v f d e is b n h =
    let P : Ty → Type 0 = λ w. IsVerdict scope'.0 scope'.1 t w (No f) in
    let Q : Verdict → Type 0 = λ w. IsVerdict scope'.0 scope'.1 t (ty_of u) w in
    number_shown scope scope' Γ c place t f d e is (subst P (of_atom u kind.Int b) (subst Q n h))

-- a side of a comparison under the same scope and variables
pub number_same : (scope scope' : Scope) (Γ Γ' : Context) (q : calculus.Query) → scope' ≡ scope → Γ' ≡ Γ → IsNumber scope'.0 Γ' q → IsNumber scope.0 Γ q
number_same scope scope' Γ Γ' q e f h =
    let P : Scope → Type 0 = λ s. IsNumber s.0 Γ' q in
    let Q : Context → Type 0 = λ w. IsNumber scope.0 w q in
    subst Q f (subst P e h)

pub number_fault_same : (scope scope' : Scope) (Γ Γ' : Context) (q : calculus.Query) (y : KindFault) → scope' ≡ scope → Γ' ≡ Γ → IsFault (shows scope') (InAnyComparison scope'.0 Γ' q) y → IsFault (shows scope) (InAnyComparison scope.0 Γ q) y
number_fault_same scope scope' Γ Γ' q y e f h =
    let P : Scope → Type 0 = λ s. IsFault (shows s) (InAnyComparison s.0 Γ' q) y in
    let Q : Context → Type 0 = λ w. IsFault (shows scope) (InAnyComparison scope.0 w q) y in
    subst Q f (subst P e h)
