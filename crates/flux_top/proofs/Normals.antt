-- A script has one fault of names, types, calls and nesting at most, and none where it has a normal
-- form.
use Rattle.std.proofs.Common.{◌≡◌, ◌⊎◌, ◌<◌, ◌≤◌, ◌∙◌, inl, inr, refl, ap, sym, subst, ℕ, List, [], length, Option, Some, None, option_map, slice_get, arith}
use Rattle.std.proofs.lemmas.Bool.{cases_lt}
use Rattle.flux_grammar.specs.declared.tree.Script.{Script}
use Rattle.flux_grammar.specs.NormalFaults.{first, duplicates, unknown_types, big_types, wrong_calls, nested, NamesDiffer, TypesAreKnown, TypesAreWithin, TypesAreGuarded, CallsFit, HasNoFault, WrongCall, no_procedure, other_number, declarations}
use Rattle.flux_schema.specs.Definitions.{ReachesItself, IsFirst}
use Rattle.flux_normal.specs.declared.fault.NormFault.{NormFault}
use Rattle.flux_normal.specs.declared.fault.NormFault.TheVariants.{Duplicate, UnknownType, BigType, Unguarded, UnknownProc, Arity, TooNested, Memory}
use Rattle.flux_normal.specs.Faults.{IsNormFault}
use Rattle.flux_report.specs.Lines.{norm_text, HasLine}

-- which kinds come before which
abbrev order : NormFault → ℕ
order (Duplicate place) = 1
order (UnknownType place) = 2
order (BigType place) = 3
order (Unguarded place) = 4
order (UnknownProc place) = 5
order (Arity place) = 5
order (TooNested place) = 6
order (Memory error) = 0

none_first : {A : Type 0} {xs : List A} {x : A} → xs ≡ [] → slice_get xs 0 ≡ Some x → ⊥
none_first {x = x} none is = let both : None ≡ Some x = sym (ap (λ l. slice_get l 0) none) ∙ is in cc

some_same : {A : Type 0} {x y : A} → Some x ≡ Some y → x ≡ y
some_same e = cc

module _ (s : Script) where
  -- a fault of a kind comes where there is none of the kinds before it
  names_clear : (f : NormFault) → 1 < order f → IsNormFault s f → NamesDiffer s
  names_clear (UnknownType place) later is = is.0
  names_clear (BigType place) later is = is.0.names
  names_clear (Unguarded place) later is = is.0.before.names
  names_clear (UnknownProc place) later is = is.0.before.before.names
  names_clear (Arity place) later is = is.0.before.before.names
  names_clear (TooNested place) later is = is.0.before.before.before.names
  names_clear _ later is = absurd (omega (arith, later))

  types_known : (f : NormFault) → 2 < order f → IsNormFault s f → TypesAreKnown s
  types_known (BigType place) later is = is.0
  types_known (Unguarded place) later is = is.0.before
  types_known (UnknownProc place) later is = is.0.before.before
  types_known (Arity place) later is = is.0.before.before
  types_known (TooNested place) later is = is.0.before.before.before
  types_known _ later is = absurd (omega (arith, later))

  types_within : (f : NormFault) → 3 < order f → IsNormFault s f → TypesAreWithin s
  types_within (Unguarded place) later is = is.0
  types_within (UnknownProc place) later is = is.0.before
  types_within (Arity place) later is = is.0.before
  types_within (TooNested place) later is = is.0.before.before
  types_within _ later is = absurd (omega (arith, later))

  types_guarded : (f : NormFault) → 4 < order f → IsNormFault s f → TypesAreGuarded s
  types_guarded (UnknownProc place) later is = is.0
  types_guarded (Arity place) later is = is.0
  types_guarded (TooNested place) later is = is.0.before
  types_guarded _ later is = absurd (omega (arith, later))

  calls_fit : (f : NormFault) → 5 < order f → IsNormFault s f → CallsFit s
  calls_fit (TooNested place) later is = is.0
  calls_fit _ later is = absurd (omega (arith, later))

  none_later : (f g : NormFault) → HasLine f → order f < order g → IsNormFault s f → IsNormFault s g → ⊥
  none_later (Duplicate place) g shown later is are = none_first (names_clear g later are) is
  none_later (UnknownType place) g shown later is are = none_first (types_known g later are).known is.1
  none_later (BigType place) g shown later is are = none_first (types_within g later are).within is.1
  none_later (Unguarded place) g shown later is are = (types_guarded g later are).guarded is.1 is.2.holds
  none_later (UnknownProc place) g shown later is are = none_first (calls_fit g later are).fit is.1
  none_later (Arity place) g shown later is are = none_first (calls_fit g later are).fit is.1
  none_later (TooNested place) (TooNested other) shown later is are = absurd (omega (arith, later))
  none_later (TooNested place) _ shown later is are = absurd (omega (arith, later))
  none_later (Memory error) g shown later is are = shown

  -- a script with a normal form has none
  pub no_norm_fault : (f : NormFault) → HasLine f → IsNormFault s f → HasNoFault s → ⊥
  no_norm_fault (Duplicate place) shown is none = none_first none.before.before.before.before.names is
  no_norm_fault (UnknownType place) shown is none = none_first none.before.before.before.before.known is.1
  no_norm_fault (BigType place) shown is none = none_first none.before.before.before.within is.1
  no_norm_fault (Unguarded place) shown is none = none.before.before.guarded is.1 is.2.holds
  no_norm_fault (UnknownProc place) shown is none = none_first none.before.fit is.1
  no_norm_fault (Arity place) shown is none = none_first none.before.fit is.1
  no_norm_fault (TooNested place) shown is none = none_first none.nesting is.1
  no_norm_fault (Memory error) shown is none = shown

  first_one : {A : Type 0} {o : Option A} {x y : A} → o ≡ Some x → o ≡ Some y → x ≡ y
  first_one is are = some_same (sym is ∙ are)

  least_one : (P : ℕ → Type 0) (x y : ℕ) → IsFirst P x → IsFirst P y → x ≡ y
  least_one P x y is are = by (cases_lt x y) (cases_lt y x)
    where
      by : (x < y) ⊎ (y ≤ x) → (y < x) ⊎ (x ≤ y) → x ≡ y
      by (inl less) _ = absurd (are.least x less is.holds)
      by (inr _) (inl more) = absurd (is.least y more are.holds)
      by (inr left) (inr right) = omega (arith, left, right)

  either_kind : {m n : ℕ} → first (wrong_calls s) ≡ Some (no_procedure m) → first (wrong_calls s) ≡ Some (other_number n) → ⊥
  either_kind {m} {n} is are = let both : no_procedure m ≡ other_number n = first_one is are in cc

  same_procedure : {m n : ℕ} → no_procedure m ≡ no_procedure n → m ≡ n
  same_procedure e = cc

  same_number : {m n : ℕ} → other_number m ≡ other_number n → m ≡ n
  same_number e = cc

  same_kind : (bytes : List ℕ) (f g : NormFault) → HasLine f → HasLine g → order f ≡ order g → IsNormFault s f → IsNormFault s g → norm_text bytes f ≡ norm_text bytes g
  same_kind bytes (Duplicate m) (Duplicate n) _ _ same is are = ap (λ p. norm_text bytes (Duplicate p)) (first_one is are)
  same_kind bytes (UnknownType m) (UnknownType n) _ _ same is are = ap (λ p. norm_text bytes (UnknownType p)) (first_one is.1 are.1)
  same_kind bytes (BigType m) (BigType n) _ _ same is are = ap (λ p. norm_text bytes (BigType p)) (first_one is.1 are.1)
  same_kind bytes (Unguarded m) (Unguarded n) _ _ same is are =
      let least = least_one (ReachesItself (declarations s)) is.1 are.1 is.2 are.2 in
      ap (λ p. norm_text bytes (Unguarded p)) (some_same (sym is.3 ∙ ap (λ x. option_map (λ d. d.at.from) (slice_get s.types x)) least ∙ are.3))
  same_kind bytes (UnknownProc m) (UnknownProc n) _ _ same is are = ap (λ p. norm_text bytes (UnknownProc p)) (same_procedure (first_one is.1 are.1))
  same_kind bytes (UnknownProc m) (Arity n) _ _ same is are = absurd (either_kind is.1 are.1)
  same_kind bytes (Arity m) (UnknownProc n) _ _ same is are = absurd (either_kind are.1 is.1)
  same_kind bytes (Arity m) (Arity n) _ _ same is are = ap (λ p. norm_text bytes (Arity p)) (same_number (first_one is.1 are.1))
  same_kind bytes (TooNested m) (TooNested n) _ _ same is are = ap (λ p. norm_text bytes (TooNested p)) (first_one is.1 are.1)
  same_kind bytes (Memory error) g shown _ same is are = absurd shown
  same_kind bytes f (Memory error) _ shown same is are = absurd shown
  same_kind bytes _ _ _ _ same is are = absurd (omega (arith, same))

  -- it has one line at most
  pub norm_line_one : (bytes : List ℕ) (f g : NormFault) → HasLine f → HasLine g → IsNormFault s f → IsNormFault s g → norm_text bytes f ≡ norm_text bytes g
  norm_line_one bytes f g shown other is are = by (cases_lt (order f) (order g)) (cases_lt (order g) (order f))
    where
      by : (order f < order g) ⊎ (order g ≤ order f) → (order g < order f) ⊎ (order f ≤ order g) → norm_text bytes f ≡ norm_text bytes g
      by (inl later) _ = absurd (none_later f g shown later is are)
      by (inr _) (inl later) = absurd (none_later g f other later are is)
      by (inr left) (inr right) = same_kind bytes f g shown other (omega (arith, left, right)) is are
