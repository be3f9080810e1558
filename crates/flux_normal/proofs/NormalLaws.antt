-- The faults of a script, in their order.
use Rattle.std.proofs.Common.{◌≡◌, ℕ, Bool, true, false, ◌==◌, cond, List, [], ◌∷◌, ◌++◌, All, map, Option, Some, None, find, filter_map, if◌then◌else◌, refl, sym, subst, ap, ap₂, ◌∙◌}
use Rattle.std.specs.List.{cons_option}
use Rattle.std.proofs.lemmas.Bool.{eqb-true}
use Rattle.std.proofs.lemmas.List.Elements.{All-nil, All-cons}
use Rattle.flux_grammar.specs.declared.tree.Script.{Script}
use Rattle.flux_grammar.specs.NormalFaults.{first, Call, WrongCall, no_procedure, other_number, repeated, repeated_procs, duplicates, NamesDiffer, TypesAreKnown, TypesAreWithin, TypesAreGuarded, all_calls, wrong_call, wrong_calls}
use Rattle.flux_normal.specs.Faults.{IsNormFault}
use Rattle.flux_normal.specs.Calls.{misfit, misfit_of, misfits}
use Rattle.flux_normal.specs.Heads.{Head, has_name, Fits}
use Rattle.flux_normal.specs.Procedures.{head_written, IsRepeat}
use Rattle.flux_normal.specs.Types.{mention_of, IsRepeated, IsCyclic}
use Rattle.flux_normal.specs.declared.fault.NormFault.{NormFault}
use Rattle.flux_normal.specs.declared.fault.NormFault.TheVariants.{Duplicate, UnknownType, BigType, Unguarded, UnknownProc, Arity, TooNested, Memory}
use Rattle.flux_normal.proofs.CallLaws.{heads_found}
use Rattle.flux_normal.proofs.Firsts.{first_before}

pub type_again : (s : Script) (f : NormFault) → IsRepeated s.types f → IsNormFault s f
type_again s (Duplicate place) r = first_before (repeated [] (map mention_of s.types)) (repeated_procs [] s.procs) place r
type_again s (UnknownType place) r = absurd r
type_again s (BigType place) r = absurd r
type_again s (Unguarded place) r = absurd r
type_again s (UnknownProc place) r = absurd r
type_again s (Arity place) r = absurd r
type_again s (TooNested place) r = absurd r
type_again s (Memory error) r = tt

pub proc_again : (s : Script) (f : NormFault) → repeated [] (map mention_of s.types) ≡ [] → IsRepeat (repeated_procs [] s.procs) f → IsNormFault s f
proc_again s (Duplicate place) none r = ap (λ l. first (l ++ repeated_procs [] s.procs)) none ∙ r
proc_again s (UnknownType place) none r = absurd r
proc_again s (BigType place) none r = absurd r
proc_again s (Unguarded place) none r = absurd r
proc_again s (UnknownProc place) none r = absurd r
proc_again s (Arity place) none r = absurd r
proc_again s (TooNested place) none r = absurd r
proc_again s (Memory error) none r = tt

pub names_differ : (s : Script) → repeated [] (map mention_of s.types) ≡ [] → repeated_procs [] s.procs ≡ [] → NamesDiffer s
names_differ s none nor = ap (λ l. l ++ repeated_procs [] s.procs) none ∙ nor

pub cyclic : (s : Script) (f : NormFault) → TypesAreWithin s → IsCyclic s f → IsNormFault s f
cyclic s (Duplicate place) within r = absurd r
cyclic s (UnknownType place) within r = absurd r
cyclic s (BigType place) within r = absurd r
cyclic s (Unguarded place) within r = (within, r.0, r.1, r.2)
cyclic s (UnknownProc place) within r = absurd r
cyclic s (Arity place) within r = absurd r
cyclic s (TooNested place) within r = absurd r
cyclic s (Memory error) within r = tt

named : (n : ℕ) (hs : List Head) (h : Head) → find (has_name n) hs ≡ Some h → (h.0 == n) ≡ true
named n [] h e = absurd cc
named n (g ∷ hs) h e = here (g.0 == n) refl (named n hs h) e
  where
    here : (t : Bool) → (g.0 == n) ≡ t → (find (has_name n) hs ≡ Some h → (h.0 == n) ≡ true) → cond t (Some g) (find (has_name n) hs) ≡ Some h → (h.0 == n) ≡ true
    here true is rest e = let same : g ≡ h = cc in ap (λ g. g.0 == n) (sym same) ∙ is
    here false is rest e = rest e

fits_found : (c : Call) (hs : List Head) (o : Option Head) → find (has_name c.name) hs ≡ o → misfit c o ≡ None → Fits hs c
fits_found c hs None e none = absurd cc
fits_found c hs (Some h) e none =
    e ∙ ap Some (ap₂ (λ (a b : ℕ). (a, b)) (eqb-true h.0 c.name (named c.name hs h e)) (eqb-true h.1 c.arguments (equal (h.1 == c.arguments) none)))
  where
    equal : (t : Bool) → (if t then None else Some (other_number c.place)) ≡ None → t ≡ true
    equal true is = refl
    equal false is = absurd cc

consed : (o : Option WrongCall) (ws : List WrongCall) → cons_option o ws ≡ [] → (o ≡ None) × (ws ≡ [])
consed None ws e = (refl, e)
consed (Some w) ws e = absurd cc

all_fit : (hs : List Head) (cs : List Call) → misfits hs cs ≡ [] → All (Fits hs) cs
all_fit hs [] none = All-nil (Fits hs)
all_fit hs (c ∷ cs) none =
    let p = consed (misfit_of hs c) (misfits hs cs) none in
    All-cons (Fits hs) c cs (fits_found c hs (find (has_name c.name) hs) refl p.0) (all_fit hs cs p.1)

pub calls_fit : (s : Script) (hs : List Head) → hs ≡ map head_written s.procs → wrong_calls s ≡ [] → All (Fits hs) (all_calls s)
calls_fit s hs is none = all_fit hs (all_calls s) (ap (λ h. misfits h (all_calls s)) is ∙ heads_found s.procs (all_calls s) ∙ none)
