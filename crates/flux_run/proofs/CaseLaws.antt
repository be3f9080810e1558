-- That the statements which are tried by hand run on any forest.
use Rattle.std.proofs.Common.{◌≡◌, inl, inr, refl, sym, ap, subst, ℕ, zero, suc, Bool, true, false, List, [], ◌∷◌, Option, Some, None, IsSome, if◌then◌else◌}
use Rattle.flux_trees.specs.Hedge.{Plain, nil, elem, leaf, join, IsElement}
use Rattle.flux_trees.specs.Frame.{Frame, Down, After, Each}
use Rattle.flux_calculus.specs.declared.ask.Test.TheVariants.{Label}
use Rattle.flux_calculus.specs.declared.ask.Var.TheVariants.{Made}
use Rattle.flux_calculus.specs.declared.ask.Span.{Span}
use Rattle.flux_calculus.specs.Tests.{is_tree}
use Rattle.flux_calculus.specs.Query.{Query, Environment, value, element}
use Rattle.flux_calculus.specs.Core.{Core, Proc, Procs, proc_of, nothing, snapshot, insert, delete, rename, test, children, call}
use Rattle.flux_calculus.specs.Ending.{Goes, Calls, on_value, on_each, on_proc, goes, calls_at, Ending, Gives, TooDeep, Stuck, endings, ending}
use Rattle.flux_calculus.proofs.Agree.{gives-derives, deep-exceeds}
use Rattle.flux_run.specs.Running.{CanRun}
use Rattle.flux_run.specs.Cases.{start, inner, AlwaysRuns, HasValue, DoesAlone, two, behind, seen, call_inside, strip}
use Rattle.flux_run.specs.Cases as cases

-- it isn't stuck
abbrev Fits : Ending → Type 0
Fits (Gives w) = Unit {0}
Fits (TooDeep place) = Unit {0}
Fits Stuck = ⊥

abbrev Next : Type 0
Next = Plain → Ending

abbrev PlainGoes : Type 0
PlainGoes = Goes (Unit {0}) Ending

abbrev PlainCalls : Type 0
PlainCalls = Calls endings

abbrev Kind : Type 1
Kind = Plain → Type 0

abbrev any : Kind
any v = Unit {0}

abbrev none : Kind
none v = v ≡ nil

abbrev tree : Kind
tree v = is_tree v ≡ true

-- on forests of one kind it isn't stuck, and it makes forests of another
abbrev Holds : Kind → PlainGoes → Kind → Type 0
Holds P go Q = (fs : List (Frame (Unit {0}))) (v : Plain) (k : Next) → P v → ((w : Plain) → Q w → Fits (k w)) → Fits (go fs v k)

value_fits : (o : Option Plain) (k : Next) → IsSome o → ((w : Plain) → Fits (k w)) → Fits (on_value endings o k)
value_fits None k e f = cc
value_fits (Some w) k e f = f w

one_fits : (b : Bool) (o p : Ending) → Fits o → Fits p → Fits (if b then o else p)
one_fits true o p f g = f
one_fits false o p f g = g

each_fits : (go : PlainGoes) → Holds tree go any → (fs : List (Frame (Unit {0}))) (done rest : Plain) (k : Next) → ((w : Plain) → Fits (k w)) → Fits (on_each endings go fs done rest k)
each_fits go h fs done nil k f = f done
each_fits go h fs done (elem m n c r) k f = h (Each done r ∷ fs) (elem m n c nil) (λ w. on_each endings go fs (join done w) r k) refl (λ w t. each_fits go h fs (join done w) r k f)
each_fits go h fs done (leaf m x r) k f = h (Each done r ∷ fs) (leaf m x nil) (λ w. on_each endings go fs (join done w) r k) refl (λ w t. each_fits go h fs (join done w) r k f)

proc_fits : (o : Option Proc) (q : Proc) (γ : Environment) (go : Environment → Core → PlainGoes) (fs : List (Frame (Unit {0}))) (v : Plain) (k : Next) → o ≡ Some q → q.params ≡ [] → Fits (go [] q.body fs v k) → Fits (on_proc endings o γ [] go fs v k)
proc_fits o q γ go fs v k e none_ h = rw e (rw none_ h)

module _ (calls : PlainCalls) (γ : Environment) where
  abbrev Does : Core → PlainGoes
  Does s = goes endings calls γ s

  ends : {P : Kind} → Holds P (Does (nothing start)) P
  ends fs v k p f = f v p

  follows : {P Q R : Kind} (s r : Core) → Holds P (Does s) Q → Holds Q (Does r) R → Holds P (Does (two s r)) R
  follows s r h g fs v k p f = h fs v (λ w. Does r fs w k) p (λ w q. g fs w k q f)

  deletes : Holds any (Does (delete start)) none
  deletes fs v k p f = f nil refl

  inserts : (q : Query) → IsSome (value γ q) → Holds none (Does (insert start q)) any
  inserts q e fs nil k p f = value_fits (value γ q) k e (λ w. f w tt)
  inserts q e fs (elem m n c r) k p f = cc
  inserts q e fs (leaf m x r) k p f = cc

  goes_behind : (q : Query) → IsSome (value γ q) → Holds any (Does (behind q)) any
  goes_behind q e fs v k p f = inserts q e (After v ∷ fs) nil (λ w. k (join v w)) refl (λ w t. f (join v w) tt)

  renames : (n : ℕ) → Holds IsElement (Does (rename start n)) any
  renames n fs nil k p f = absurd p
  renames n fs (elem m a c nil) k p f = f (elem m n c nil) tt
  renames n fs (elem m a c (elem m' a' c' r)) k p f = absurd p
  renames n fs (elem m a c (leaf m' x r)) k p f = absurd p
  renames n fs (leaf m x r) k p f = absurd p

  enters : (s : Core) → Holds any (Does s) any → Holds IsElement (Does (children start s)) any
  enters s h fs nil k p f = absurd p
  enters s h fs (elem m a c nil) k p f = h (Down m a ∷ fs) c (λ w. k (elem m a w nil)) tt (λ w t. f (elem m a w nil) tt)
  enters s h fs (elem m a c (elem m' a' c' r)) k p f = absurd p
  enters s h fs (elem m a c (leaf m' x r)) k p f = absurd p
  enters s h fs (leaf m x r) k p f = absurd p

  tests : (n : ℕ) (s : Core) → Holds IsElement (Does s) any → Holds tree (Does (test start (Label n) s)) any
  tests n s h fs nil k p f = cc
  tests n s h fs (elem m a c nil) k p f = one_fits _ _ _ (h fs (elem m a c nil) k tt f) (f (elem m a c nil) tt)
  tests n s h fs (elem m a c (elem m' a' c' r)) k p f = cc
  tests n s h fs (elem m a c (leaf m' x r)) k p f = cc
  tests n s h fs (leaf m x nil) k p f = f (leaf m x nil) tt
  tests n s h fs (leaf m x (elem m' a' c' r)) k p f = cc
  tests n s h fs (leaf m x (leaf m' x' r)) k p f = cc

  on_labelled : (n : ℕ) (s : Core) → Holds IsElement (Does s) any → Holds any (Does (cases.on_each n s)) any
  on_labelled n s h fs v k p f = each_fits (Does (test start (Label n) s)) (tests n s h) fs nil v k (λ w. f w tt)

  calls_inside : (n : ℕ) → Holds any (calls γ inner 0 []) any → Holds any (Does (call_inside n)) any
  calls_inside n h = on_labelled n (children start (call inner 0 [])) (enters (call inner 0 []) h)

  strips : (n m : ℕ) → Holds any (calls γ inner 0 []) any → Holds any (Does (strip n m)) any
  strips n m h = follows (call_inside n) (cases.on_each n (rename start m)) (calls_inside n h) (on_labelled n (rename start m) (renames m))

notes : (calls : PlainCalls) (γ : Environment) {P Q : Kind} (s : Core) → ((u : Plain) → Holds P (goes endings calls ((Made 0, u) ∷ γ) s) Q) → Holds P (goes endings calls γ (snapshot start (Made 0) s)) Q
notes calls γ s h fs v k p f = h v fs v k p f

-- the calls of the one procedure, where its body holds over calls that do
calls_hold : (procs : Procs) (s : Core) → DoesAlone procs s → ((calls : PlainCalls) → Holds any (calls [] inner 0 []) any → Holds any (goes endings calls [] s) any) →
    (d : ℕ) (γ : Environment) (at : Span) → Holds any (calls_at endings procs d γ at 0 []) any
calls_hold procs s q h zero γ at fs v k p f = tt
calls_hold procs s q h (suc d) γ at fs v k p f =
    let body = h (calls_at endings procs d) (calls_hold procs s q h d [] inner) fs v k p f in
    proc_fits (proc_of procs 0) q.0 γ (goes endings (calls_at endings procs d)) fs v k (ap (λ ps. proc_of ps 0) q.1) q.2
    (subst (λ b. Fits (goes endings (calls_at endings procs d) [] b fs v k)) (sym q.3) body)

can_run : (procs : Procs) (d : ℕ) (s : Core) (v : Plain) (e : Ending) → ending procs d [] s v ≡ e → Fits e → CanRun procs d [] v s
can_run procs d s v (Gives w) k f = inl (w, gives-derives procs d [] s v w k)
can_run procs d s v (TooDeep place) k f = inr (place, deep-exceeds procs d [] s v place k)
can_run procs d s v Stuck k f = absurd f

always : (procs : Procs) (s : Core) → ((d : ℕ) → Holds any (goes endings (calls_at endings procs d) [] s) any) → AlwaysRuns procs s
always procs s h d v = can_run procs d s v (ending procs d [] s v) refl (h d [] v Gives tt (λ w t. tt))

-- ---- the statements

pub behind_each : (procs : Procs) (n : ℕ) (q : Query) → HasValue q → AlwaysRuns procs (cases.on_each n (behind q))
behind_each procs n q e = always procs (cases.on_each n (behind q)) (λ d. on_labelled (calls_at endings procs d) [] n (behind q) (λ fs v k p f. goes_behind (calls_at endings procs d) [] q (e []) fs v k tt f))

pub wrapped : (procs : Procs) (n m : ℕ) → AlwaysRuns procs (cases.on_each n (snapshot start (Made 0) (two (delete start) (insert start (element start m seen)))))
wrapped procs n m =
    let s = two (delete start) (insert start (element start m seen)) in
    always procs (cases.on_each n (snapshot start (Made 0) s)) (λ d.
    let calls = calls_at endings procs d in
    on_labelled calls [] n (snapshot start (Made 0) s) (λ fs v k p f.
    notes calls [] {P = any} s (λ u. follows calls ((Made 0, u) ∷ []) (delete start) (insert start (element start m seen)) (deletes calls ((Made 0, u) ∷ [])) (inserts calls ((Made 0, u) ∷ []) (element start m seen) refl)) fs v k tt f))

pub doubled : (procs : Procs) → AlwaysRuns procs (two (snapshot start (Made 0) (behind seen)) (snapshot start (Made 0) (behind seen)))
doubled procs =
    let s = snapshot start (Made 0) (behind seen) in
    always procs (two s s) (λ d.
    let calls = calls_at endings procs d in
    let once : Holds any (goes endings calls [] s) any = notes calls [] (behind seen) (λ u. goes_behind calls ((Made 0, u) ∷ []) seen refl) in
    follows calls [] s s once once)

pub kept : (procs : Procs) → AlwaysRuns procs (snapshot start (Made 0) (two (behind seen) (behind seen)))
kept procs =
    let s = two (behind seen) (behind seen) in
    always procs (snapshot start (Made 0) s) (λ d.
    let calls = calls_at endings procs d in
    notes calls [] s (λ u. let once : Holds any (goes endings calls ((Made 0, u) ∷ []) (behind seen)) any = goes_behind calls ((Made 0, u) ∷ []) seen refl in
    follows calls ((Made 0, u) ∷ []) (behind seen) (behind seen) once once))

pub stripped : (procs : Procs) (n m : ℕ) → DoesAlone procs (strip n m) → AlwaysRuns procs (call start 0 [])
stripped procs n m q = always procs (call start 0 []) (λ d. calls_hold procs (strip n m) q (λ calls h. strips calls [] n m h) d [] start)

pub sought : (procs : Procs) (n : ℕ) → DoesAlone procs (call_inside n) → AlwaysRuns procs (call start 0 [])
sought procs n q = always procs (call start 0 []) (λ d. calls_hold procs (call_inside n) q (λ calls h. calls_inside calls [] n h) d [] start)
