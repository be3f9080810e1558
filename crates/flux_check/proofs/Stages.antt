-- What a statement may be typed at: types that can be used, and that lack the label.
use Rattle.std.proofs.Common.{◌≡◌, ℕ, Bool, true, false, ◌∷◌, Option, Some, None, refl, sym, subst, arith, length}
use Rattle.flux_schema.specs.Ty.{Ty, empty, atom, element, any_element, seq, alt, star, named, IsWithinLimits}
use Rattle.flux_schema.specs.Definitions.{Definitions}
use Rattle.flux_schema.specs.Labels.{Lacks, BodiesLack}
use Rattle.flux_schema.specs.Single.{Single, of_atom, of_element, of_any, of_name}
use Rattle.flux_types.specs.Kept.{AreKept}
use Rattle.flux_calculus.specs.declared.ask.Var.{Var}
use Rattle.flux_calculus.specs.declared.ask.Test.{Test}
use Rattle.flux_calculus.specs.declared.ask.Test.TheVariants.{Label, AnyElement, OfText, OfBool, OfInt}
use Rattle.flux_calculus.specs.Tests.{element_matches, kind_matches}
use Rattle.flux_calculus.specs.Labels.{EachLabelOfTest}
use Rattle.flux_calculus.specs.Typing.{Context, typed, content_type}
use Rattle.flux_calculus.specs.Core.{Core, Procs}
use Rattle.flux_typing.specs.Labels.{CoreLacks, ProcsLack}
use Rattle.flux_typing.specs.Update.{StandsFor, for_one, undecided, passes_if, verdict_of_any, verdict}
use Rattle.flux_typing.proofs.Typed.{succeeds}
use Rattle.flux_typing.proofs.Names.{core_below}
use Rattle.flux_typing.proofs.Lacking.{typed_lacks}
use Rattle.flux_core.specs.Faults.{IsUsable}
use Rattle.flux_querytype.proofs.Known.{ready_bound}
use Rattle.flux_querytype.specs.Answers.{IsReady}
use Rattle.flux_check.specs.Answers.{Comes, IsStage, AreUsableProcs}
use Rattle.flux_check.specs.Ones.{element_type}

-- at the one tree that a type stands for
single_fits : {defs : Definitions} {other : ℕ} {t a : Ty} → AreKept defs → BodiesLack other defs → Single defs t a → IsUsable defs t → Lacks other t → IsUsable defs a × Lacks other a
single_fits kept l (of_atom k) h g = (h, g)
single_fits kept l (of_element n t) h g = (h, g)
single_fits kept l (of_any t) h g = (h, g)
single_fits kept l (of_name x e s) h g = single_fits kept l s (record { known = kept.good.known x _ e; limits = kept.limits x _ e }) (l x _ e)

stands_fits : {defs : Definitions} {other : ℕ} (t a : Ty) → AreKept defs → BodiesLack other defs → StandsFor defs t (Some a) → IsUsable defs t → Lacks other t → IsUsable defs a × Lacks other a
stands_fits t a kept l (for_one s) h g = single_fits kept l s h g

-- at the content of an element
content_fits : (defs : Definitions) (other : ℕ) (l : Option ℕ) (u : Ty) → IsUsable defs (element_type l u) → Lacks other (element_type l u) → IsUsable defs u × Lacks other u
content_fits defs other (Some n) u h g = (record { known = h.known; limits = record { nodes = omega (arith, h.limits.nodes); levels = omega (arith, h.limits.levels) } }, g.1)
content_fits defs other None u h g = (record { known = h.known; limits = record { nodes = omega (arith, h.limits.nodes); levels = omega (arith, h.limits.levels) } }, g)

module _ {defs : Definitions} {other : ℕ} {procs : Procs} where
  -- at another type
  pub stage_at : {Γ : Context} (t u : Ty) → IsUsable defs u → Lacks other u → IsStage defs other Γ procs t → IsStage defs other Γ procs u
  stage_at t u h l s = record { ready = s.ready; procs_usable = s.procs_usable; procs_lack = s.procs_lack; usable = h; lacks = l }

  pub stage_same : {Γ : Context} (t u : Ty) → u ≡ t → IsStage defs other Γ procs t → IsStage defs other Γ procs u
  stage_same {Γ} t u e s = subst (λ w. IsStage defs other Γ procs w) (sym e) s

  pub stage_empty : {Γ : Context} (t u : Ty) → u ≡ empty → IsStage defs other Γ procs t → IsStage defs other Γ procs u
  stage_empty {Γ} t u e s = stage_same empty u e (stage_at t empty (record { known = tt; limits = record { nodes = omega arith; levels = omega arith } }) tt s)

  -- with a variable more
  pub stage_bound : {Γ : Context} (t : Ty) (Γ' : Context) (x : Var) (u : Ty) → Γ' ≡ (x, u) ∷ Γ → IsUsable defs u → Lacks other u → IsStage defs other Γ procs t → IsStage defs other Γ' procs t
  stage_bound {Γ} t Γ' x u e h l s = record { ready = ready_bound (defs, other) Γ Γ' x u e s.ready (h, l); procs_usable = s.procs_usable; procs_lack = s.procs_lack; usable = s.usable; lacks = s.lacks }

  -- at the type of a statement
  pub stage_typed : {Γ : Context} (t : Ty) (s : Core) (u : Ty) → CoreLacks other s → Comes procs defs Γ t s (typed u) → IsWithinLimits u → IsStage defs other Γ procs t → IsStage defs other Γ procs u
  stage_typed {Γ} t s u l d limits g =
      let known = g.ready.kept.good.known in
      let below = core_below procs (length defs) (λ p q e. (g.procs_usable p q e).result.known) known (succeeds procs d) (λ x w e. (g.ready.usable x w e).known) g.usable.known in
      let lacks = typed_lacks procs defs Γ t s u defs known (λ p q e. let k = g.procs_usable p q e in record { params = λ i b lt. (k.params i b lt).known; focus = k.focus.known; result = k.result.known }) (λ x w e. (g.ready.usable x w e).known) g.usable.known other g.ready.lacks g.procs_lack g.ready.gamma l g.lacks d in
      stage_at t u (record { known = below; limits = limits }) lacks g

  -- at the type of a whole statement, where all that it is typed with can be used
  pub stage_made : {Γ : Context} (t a u : Ty) (s : Core) → IsReady defs other Γ → AreUsableProcs defs procs → ProcsLack other procs → IsUsable defs t → Lacks other t → a ≡ t → CoreLacks other s → Comes procs defs Γ a s (typed u) → IsWithinLimits u →
      IsStage defs other Γ procs u
  stage_made t a u s ready usable lack h l e core d limits =
      stage_typed a s u core d limits (stage_same t a e (record { ready = ready; procs_usable = usable; procs_lack = lack; usable = h; lacks = l }))

  pub stage_one : {Γ : Context} (t a : Ty) → StandsFor defs t (Some a) → IsStage defs other Γ procs t → IsStage defs other Γ procs a
  stage_one t a h s = let f = stands_fits t a s.ready.kept s.ready.lacks h s.usable s.lacks in stage_at t a f.0 f.1 s

  pub stage_content : {Γ : Context} (a : Ty) (l : Option ℕ) (u : Ty) → a ≡ element_type l u → IsStage defs other Γ procs a → IsStage defs other Γ procs u
  stage_content {Γ} a l u e s =
      let k = subst (λ w. IsStage defs other Γ procs w) e s in
      let f = content_fits defs other l u k.usable k.lacks in
      stage_at a u f.0 f.1 s

-- ---- a label that a test asks for, where it is undecided

abbrev IsAsked : (ℕ → Type 0) → ℕ → Ty → Type 0
IsAsked P n a = P n × ((u : Ty) × (a ≡ any_element u))

not_if : (P : ℕ → Type 0) (b : Bool) (n : ℕ) (a : Ty) → passes_if b ≡ undecided n → IsAsked P n a
not_if P true n a e = cc
not_if P false n a e = cc

asked_any : (P : ℕ → Type 0) (p : Test) (n : ℕ) (u : Ty) → verdict_of_any p ≡ undecided n → EachLabelOfTest P p → IsAsked P n (any_element u)
asked_any P (Label m) n u e h = let same : m ≡ n = cc in (subst P same h, (u, refl))
asked_any P AnyElement n u e h = cc
asked_any P OfText n u e h = cc
asked_any P OfBool n u e h = cc
asked_any P OfInt n u e h = cc

asked : (P : ℕ → Type 0) (p : Test) (a : Ty) (n : ℕ) → verdict p a ≡ undecided n → EachLabelOfTest P p → IsAsked P n a
asked P p (atom k) n e h = not_if P (kind_matches p k) n (atom k) e
asked P p (element m t) n e h = not_if P (element_matches p m) n (element m t) e
asked P p (any_element t) n e h = asked_any P p n t e h
asked P p empty n e h = cc
asked P p (seq t u) n e h = cc
asked P p (alt t u) n e h = cc
asked P p (star t) n e h = cc
asked P p (named x) n e h = cc

labelled_within : (n : ℕ) (u : Ty) → IsWithinLimits (any_element u) → IsWithinLimits (element n (content_type (any_element u)))
labelled_within n u h = record { nodes = omega (arith, h.nodes); levels = omega (arith, h.levels) }

pub undecided_within : (P : ℕ → Type 0) (p : Test) (a : Ty) (n : ℕ) → EachLabelOfTest P p → verdict p a ≡ undecided n → IsWithinLimits a → IsWithinLimits (element n (content_type a))
undecided_within P p a n h e l =
    let k = asked P p a n e h in
    subst (λ w. IsWithinLimits (element n (content_type w))) (sym k.1.1) (labelled_within n k.1.0 (subst IsWithinLimits k.1.1 l))

module _ {defs : Definitions} {other : ℕ} {procs : Procs} {Γ : Context} where
  labelled_stage : (n : ℕ) (u : Ty) → ¬ (n ≡ other) → IsStage defs other Γ procs (any_element u) → IsStage defs other Γ procs (element n (content_type (any_element u)))
  labelled_stage n u d s = stage_at (any_element u) (element n u) (record { known = s.usable.known; limits = labelled_within n u s.usable.limits }) (d, s.lacks) s

  pub stage_labelled : (p : Test) (a : Ty) (n : ℕ) (w : Ty) → EachLabelOfTest (λ m. ¬ (m ≡ other)) p → verdict p a ≡ undecided n → w ≡ element n (content_type a) → IsStage defs other Γ procs a → IsStage defs other Γ procs w
  stage_labelled p a n w h e is s =
      let k = asked (λ m. ¬ (m ≡ other)) p a n e h in
      let g = subst (λ z. IsStage defs other Γ procs z) k.1.1 s in
      let made = subst (λ z. IsStage defs other Γ procs (element n (content_type z))) (sym k.1.1) (labelled_stage n k.1.0 k.0 g) in
      stage_same (element n (content_type a)) w is made
