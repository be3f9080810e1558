-- Conditions, insertions and renamings.
use Rattle.std.proofs.Common.{◌≡◌, ℕ, Option, Some, None, Result, sym, subst}
use Rattle.std.specs.Option.{option_map}
use Rattle.flux_atom.specs.declared.atom.AtomKind.TheVariants as kind
use Rattle.flux_trees.specs.Draft.{Draft}
use Rattle.flux_schema.specs.Ty.{Ty, empty, atom, element}
use Rattle.flux_schema.specs.Definitions.{Definitions}
use Rattle.flux_types.specs.Verdicts.{IsEvidence}
use Rattle.flux_calculus.specs.declared.ask.Span.{Span}
use Rattle.flux_calculus.specs.Fault.{not_bool, not_single, not_element}
use Rattle.flux_calculus.specs.Query.{Query, place_of}
use Rattle.flux_calculus.specs.Typing.{Context, typed, faulty, Types, of_query}
use Rattle.flux_calculus.specs.Core.{Procs, insert, rename}
use Rattle.flux_typing.specs.Update.{StandsFor}
use Rattle.flux_core.specs.declared.fault.KindFault.{KindFault}
use Rattle.flux_core.specs.declared.fault.KindFault.TheVariants.{NotBool, NotEmpty}
use Rattle.flux_core.specs.declared.measured.Measured.{Measured}
use Rattle.flux_core.specs.Faults.{ShowsNothing, IsFault}
use Rattle.flux_core.specs.Answers.{IsAnswer, IsConclusion}
use Rattle.flux_core.proofs.Replies.{from_conclusion}
use Rattle.flux_check.specs.declared.one.Opened.{Opened}
use Rattle.flux_check.specs.Answers.{Comes, InAnyChoice}
use Rattle.flux_check.specs.Ones.{measured_type, IsOpened}
use Rattle.flux_check.proofs.Rules.{condition_untrue, not_inserted, rename_many, rename_atom, rename_element}

module _ (defs : Definitions) (other : ℕ) (Γ : Context) (procs : Procs) where
  -- a forest is against a condition
  pub condition_shown : (t : Ty) (c : Query) (u : Ty) (place : ℕ) (f : Draft (Unit {0})) → Types defs (of_query Γ c) (typed u) → place ≡ place_of c → IsEvidence defs other u (atom kind.Bool) f → IsFault (IsEvidence defs other) (InAnyChoice procs defs Γ t c) (NotBool place f)
  condition_shown t c u place f d is v =
      let Q : ℕ → Type 0 = λ n. InAnyChoice procs defs Γ t c (faulty (not_bool n u (atom kind.Bool))) in
      (u, atom kind.Bool, subst Q (sym is) (condition_untrue v.forest d v.member v.no_member), v)

  pub insertion_shown : (t : Ty) (at : Span) (q : Query) (f : Draft (Unit {0})) → IsEvidence defs other t empty f → IsFault (IsEvidence defs other) (Comes procs defs Γ t (insert at q)) (NotEmpty at.from f)
  insertion_shown t at q f v = (t, empty, not_inserted v.forest v.member v.no_member, v)

pub typed_as : (defs : Definitions) (Γ : Context) (q : Query) (t u : Ty) → u ≡ t → Types defs (of_query Γ q) (typed t) → Types defs (of_query Γ q) (typed u)
typed_as defs Γ q t u e d = subst (λ w. Types defs (of_query Γ q) (typed w)) (sym e) d

-- ---- renamings, where a type stands for a tree that is taken apart

module _ (defs : Definitions) (procs : Procs) (Γ : Context) (t : Ty) (at : Span) (n : ℕ) where
  pub many_renamed : (one : Option Measured) → StandsFor defs t (option_map measured_type one) → one ≡ None → Comes procs defs Γ t (rename at n) (faulty (not_single at.from))
  many_renamed one h e = rename_many (subst (λ o. StandsFor defs t (option_map measured_type o)) e h)

  pub atom_renamed : (one : Option Measured) (m : Measured) (o : Option Opened) → StandsFor defs t (option_map measured_type one) → one ≡ Some m → IsOpened (measured_type m) o → o ≡ None → Comes procs defs Γ t (rename at n) (faulty (not_element at.from))
  atom_renamed one m o h e i f =
      rename_atom (measured_type m) (subst (λ o. StandsFor defs t (option_map measured_type o)) e h) (subst (IsOpened (measured_type m)) f i)

  pub element_renamed : (one : Option Measured) (m : Measured) (o : Option Opened) (x : Opened) (r : Result Measured KindFault) → StandsFor defs t (option_map measured_type one) → one ≡ Some m → IsOpened (measured_type m) o → o ≡ Some x → IsConclusion at.from (element n (measured_type x.content)) r → IsAnswer ShowsNothing (Comes procs defs Γ t (rename at n)) r
  element_renamed one m o x r h e i f c =
      from_conclusion ShowsNothing (Comes procs defs Γ t (rename at n)) at.from (element n (measured_type x.content)) r (λ z k. rename_element x.label (measured_type m) (measured_type x.content) z (subst (λ o. StandsFor defs t (option_map measured_type o)) e h) (subst (IsOpened (measured_type m)) f i) k) c
