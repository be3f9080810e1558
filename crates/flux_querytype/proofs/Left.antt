-- What calls leave, one after the other.
use Rattle.std.proofs.Common.{◌≡◌, ◌∙◌, ℕ, Bool, List, ◌∷◌, drop, ap, ap₂}
use Rattle.flux_schema.specs.Ty.{Ty}
use Rattle.flux_schema.specs.Definitions.{Definitions}
use Rattle.flux_types.specs.Verdicts.{TypePair}
use Rattle.flux_calculus.specs.declared.ask.Var.{Var}
use Rattle.flux_calculus.specs.Typing.{Context}
use Rattle.flux_querytype.specs.Answers.{Leaves}

module _ {D : Type 0} {under : D → Definitions} {unnamed : D → ℕ} {remembers : D → Bool} {knows : D → List TypePair} where
  pub left_by_both : {d d' d'' : D} {Γ Γ' Γ'' : Context} → Leaves under unnamed remembers knows d d' Γ Γ' → Leaves under unnamed remembers knows d' d'' Γ' Γ'' → Leaves under unnamed remembers knows d d'' Γ Γ''
  left_by_both a b = record {
    definitions = b.definitions ∙ a.definitions;
    other = b.other ∙ a.other;
    keeps = b.keeps ∙ a.keeps;
    still = λ p h. b.still p (a.still p h);
    gamma = b.gamma ∙ a.gamma;
  }

  -- the same scope
  pub left_scope : {d d' : D} {Γ Γ' : Context} → Leaves under unnamed remembers knows d d' Γ Γ' → ◌≡◌ {A = Definitions × ℕ} (under d', unnamed d') (under d, unnamed d)
  left_scope a = ap₂ (λ x y. (x, y)) a.definitions a.other

  -- a call under one variable more, which is then taken back
  pub left_under : {d d' : D} {Γ Δ Δ' Γ' : Context} {x : Var} {t : Ty} → Δ ≡ (x, t) ∷ Γ → Leaves under unnamed remembers knows d d' Δ Δ' → Γ' ≡ drop 1 Δ' → Leaves under unnamed remembers knows d d' Γ Γ'
  left_under e a f = record {
    definitions = a.definitions;
    other = a.other;
    keeps = a.keeps;
    still = a.still;
    gamma = f ∙ ap (drop 1) (a.gamma ∙ e);
  }
