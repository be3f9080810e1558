-- Members under more definitions.
use Rattle.std.specs.Prelude.{All}
use Rattle.std.specs.List.{AllByRecursion}
use Rattle.std.proofs.lemmas.List.Elements.{recursion_from_All}
use Rattle.std.proofs.Common.{◌≡◌, ◌<◌, ℕ, zero, suc, [], ◌∷◌, Option, Some, length, refl, subst, arith}
use Rattle.flux_trees.specs.Hedge.{Plain}
use Rattle.flux_schema.specs.Ty.{Ty}
use Rattle.flux_schema.specs.Definitions.{Definitions, body_of, IsKnown, AreKnown}
use Rattle.flux_schema.specs.Member.{Member, in_empty, in_atom, in_element, in_any, in_seq, in_left, in_right, in_done, in_more, in_name}
use Rattle.flux_calculus.specs.Query.{Environment}
use Rattle.flux_calculus.specs.Typing.{Context, Suits}
use Rattle.flux_typing.specs.Laws.{Grows, AllKnown}
use Rattle.flux_typing.proofs.QueryNames.{below_nothing, below_bound}

pub grows_refl : (Δ : Definitions) → Grows Δ Δ
grows_refl Δ = record { keeps = λ x t e. e }

pub grows_trans : {Δ Δ' Δ'' : Definitions} → Grows Δ Δ' → Grows Δ' Δ'' → Grows Δ Δ''
grows_trans g h = record { keeps = λ x t e. h.keeps x t (g.keeps x t e) }

pub member_grows : {Δ Δ' : Definitions} {v : Plain} {t : Ty} → Grows Δ Δ' → Member Δ v t → Member Δ' v t
member_grows g in_empty = in_empty
member_grows g (in_atom x e) = in_atom x e
member_grows g (in_element n m) = in_element n (member_grows g m)
member_grows g (in_any n m) = in_any n (member_grows g m)
member_grows g (in_seq v w j m k) = in_seq v w j (member_grows g m) (member_grows g k)
member_grows g (in_left u m) = in_left u (member_grows g m)
member_grows g (in_right t m) = in_right t (member_grows g m)
member_grows g (in_done t) = in_done t
member_grows g (in_more v w j m k) = in_more v w j (member_grows g m) (member_grows g k)
member_grows g (in_name x e m) = in_name x (g.keeps x _ e) (member_grows g m)

pub suits_grows : {Δ Δ' : Definitions} (Γ : Context) (γ : Environment) → Grows Δ Δ' → Suits Δ Γ γ → Suits Δ' Γ γ
suits_grows Γ γ g s x t e = let a = s x t e in (a.0, a.1, member_grows g a.2)

pub body_at : (Δ : Definitions) (x : ℕ) → x < length Δ → (t : Ty) × (body_of Δ x ≡ Some t)
body_at [] x h = absurd (omega (arith, h))
body_at (d ∷ Δ) zero h = (d.body, refl)
body_at (d ∷ Δ) (suc x) h = body_at Δ x (omega (arith, h))

-- a member of a type whose names are known under the first definitions is one under them
pub member_back : {Δ Δ' : Definitions} {v : Plain} {t : Ty} → Grows Δ Δ' → AreKnown Δ → IsKnown Δ t → Member Δ' v t → Member Δ v t
member_back g a k in_empty = in_empty
member_back g a k (in_atom x e) = in_atom x e
member_back g a k (in_element n m) = in_element n (member_back g a k m)
member_back g a k (in_any n m) = in_any n (member_back g a k m)
member_back g a k (in_seq v w j m l) = in_seq v w j (member_back g a k.0 m) (member_back g a k.1 l)
member_back g a k (in_left u m) = in_left u (member_back g a k.0 m)
member_back g a k (in_right t m) = in_right t (member_back g a k.1 m)
member_back g a k (in_done t) = in_done t
member_back g a k (in_more v w j m l) = in_more v w j (member_back g a k m) (member_back g a k l)
member_back {Δ = Δ} g a k (in_name x {t = t} e m) =
    let b = body_at Δ x k in
    let same : b.0 ≡ t = cc (g.keeps x b.0 b.1, e) in
    let f : body_of Δ x ≡ Some t = subst (λ u. body_of Δ x ≡ Some u) same b.1 in
    in_name x f (member_back g a (a x t f) m)

pub suits_back : {Δ Δ' : Definitions} (Γ : Context) (γ : Environment) → Grows Δ Δ' → AreKnown Δ → AllKnown Δ Γ → Suits Δ' Γ γ → Suits Δ Γ γ
suits_back Γ γ g a k s x t e = let b = s x t e in (b.0, b.1, member_back g a (k x t e) b.2)

-- where each type of a list is known, so are those that its variables have
all_by : (Δ : Definitions) (Γ : Context) → AllByRecursion (λ p. IsKnown Δ p.1) Γ → AllKnown Δ Γ
all_by Δ [] k = below_nothing (length Δ)
all_by Δ (p ∷ Γ) k = below_bound (length Δ) Γ p.0 p.1 (all_by Δ Γ k.1) k.0

pub each_all : (Δ : Definitions) (Γ : Context) → All (λ p. IsKnown Δ p.1) Γ → AllKnown Δ Γ
each_all Δ Γ k = all_by Δ Γ (recursion_from_All (λ p. IsKnown Δ p.1) Γ k)
