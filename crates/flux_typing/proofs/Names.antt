-- What holds of the names and the labels of what a statement stands on holds of those of its type.
use Rattle.std.proofs.Common.{◌≡◌, ℕ, Bool, true, false, List, [], ◌∷◌, Some, subst}
use Rattle.flux_schema.specs.Ty.{Ty, empty, atom, element, any_element, seq, alt, star, named, NamesBelow}
use Rattle.flux_schema.specs.Definitions.{Definitions, body_of}
use Rattle.flux_calculus.specs.declared.ask.Test.{Test}
use Rattle.flux_calculus.specs.declared.ask.Test.TheVariants.{Label, AnyElement, OfText, OfBool, OfInt}
use Rattle.flux_calculus.specs.Labels.{EachLabelOfTest}
use Rattle.flux_calculus.specs.Tests.{element_matches, kind_matches}
use Rattle.flux_calculus.specs.Query.{Query}
use Rattle.flux_calculus.specs.Typing.{Context}
use Rattle.flux_calculus.specs.Core.{Core, skip, nothing, both, choice, binding, snapshot, insert, delete, rename, test, children, left, right, iter, call, Proc, Procs, proc_of}
use Rattle.flux_typing.specs.Labels.{EachLabelOfQueries, EachLabelOfCore}
use Rattle.flux_typing.specs.Update.{undecided, passes_if, verdict_of_any, verdict}
use Rattle.flux_typing.proofs.QueryNames.{Suits, AllSuit, BodiesSuit, suits_bound, content_suits, single_suits, Any, any_type, any_test, any_query, AllBelow}
use Rattle.flux_typing.proofs.QueryNames as queries
use Rattle.flux_typing.proofs.Typed.{Typed, Mapped, skips, ends, follows, chooses, binds, notes, inserts, deletes, renames, renames_any, tests, leaves, may_test, enters, enters_any, lefts, rights, iterates, calls, at_one, over_empty, over_seq, over_alt, over_star, over_name}

module _ (procs : Procs) (n : ℕ) (P : ℕ → Type 0) (results : (p : ℕ) (q : Proc) → proc_of procs p ≡ Some q → Suits n P q.result) where
  -- a test that is undecided asks for a label
  not_if : (b : Bool) (l : ℕ) → passes_if b ≡ undecided l → P l
  not_if true l e = cc
  not_if false l e = cc

  asked_any : (p : Test) (l : ℕ) → verdict_of_any p ≡ undecided l → EachLabelOfTest P p → P l
  asked_any (Label m) l e h = let same : m ≡ l = cc in subst P same h
  asked_any AnyElement l e h = cc
  asked_any OfText l e h = cc
  asked_any OfBool l e h = cc
  asked_any OfInt l e h = cc

  asked : (p : Test) (a : Ty) (l : ℕ) → verdict p a ≡ undecided l → EachLabelOfTest P p → P l
  asked p (atom k) l e h = not_if (kind_matches p k) l e
  asked p (element m t) l e h = not_if (element_matches p m) l e
  asked p (any_element t) l e h = asked_any p l e h
  asked p empty l e h = cc
  asked p (seq t u) l e h = cc
  asked p (alt t u) l e h = cc
  asked p (star t) l e h = cc
  asked p (named x) l e h = cc

  mutual
    pub knows : {Δ Δ' : Definitions} {Γ : Context} {t u : Ty} {s : Core} → Typed procs Δ Γ t s u Δ' → BodiesSuit n P Δ → AllSuit n P Γ → EachLabelOfCore P s → Suits n P t → BodiesSuit n P Δ' × Suits n P u
    knows skips b v l h = (b, h)
    knows ends b v l h = (b, h)
    knows (follows x y) b v l h = let f = knows x b v l.0 h in knows y f.0 v l.1 f.1
    knows (chooses d i x y) b v l h = let f = knows x b v l.1 h in let g = knows y f.0 v l.2 h in (g.0, ((f.1.0, g.1.0), (f.1.1, g.1.1)))
    knows (binds {Δ} {Γ = Γ} {b = w} {x = y} d x) b v l h = knows x b (suits_bound n P Γ y w v (queries.knows Δ n P b d v l.0)) l.1 h
    knows (notes {Γ = Γ} {t} {x = y} x) b v l h = knows x b (suits_bound n P Γ y t v h) l h
    knows (inserts {Δ} i d) b v l h = (b, queries.knows Δ n P b d v l)
    knows deletes b v l h = (b, (tt, tt))
    knows (renames {Δ} e) b v l h = let k = single_suits Δ n P b e h in (b, (k.0, (l, k.1.1)))
    knows (renames_any {Δ} e) b v l h = let k = single_suits Δ n P b e h in (b, (k.0, (l, k.1)))
    knows (tests {Δ} e w x) b v l h = knows x b v l.1 (single_suits Δ n P b e h)
    knows (leaves {Δ} e w) b v l h = (b, single_suits Δ n P b e h)
    knows (may_test {Δ} {a = a} {p = p} {l = m} e w x) b v l h =
        let k = single_suits Δ n P b e h in
        let c = content_suits n P a k in
        let f = knows x b v l.1 (c.0, (asked p a m w l.0, c.1)) in
        (f.0, ((f.1.0, k.0), (f.1.1, k.1)))
    knows (enters {Δ} e x) b v l h = let k = single_suits Δ n P b e h in let f = knows x b v l (k.0, k.1.1) in (f.0, (f.1.0, (k.1.0, f.1.1)))
    knows (enters_any {Δ} e x) b v l h = knows x b v l (single_suits Δ n P b e h)
    knows (lefts x) b v l h = let f = knows x b v l (tt, tt) in (f.0, ((f.1.0, h.0), (f.1.1, h.1)))
    knows (rights x) b v l h = let f = knows x b v l (tt, tt) in (f.0, ((h.0, f.1.0), (h.1, f.1.1)))
    knows (iterates x) b v l h = knows_map x b v l h
    knows (calls {p = p} {q = q} e r i) b v l h = (b, results p q e)

    pub knows_map : {Δ Δ' : Definitions} {Γ : Context} {t u : Ty} {s : Core} → Mapped procs Δ Γ t s u Δ' → BodiesSuit n P Δ → AllSuit n P Γ → EachLabelOfCore P s → Suits n P t → BodiesSuit n P Δ' × Suits n P u
    knows_map (at_one i x) b v l h = knows x b v l h
    knows_map over_empty b v l h = (b, (tt, tt))
    knows_map (over_seq x y) b v l h = let f = knows_map x b v l (h.0.0, h.1.0) in let g = knows_map y f.0 v l (h.0.1, h.1.1) in (g.0, ((f.1.0, g.1.0), (f.1.1, g.1.1)))
    knows_map (over_alt x y) b v l h = let f = knows_map x b v l (h.0.0, h.1.0) in let g = knows_map y f.0 v l (h.0.1, h.1.1) in (g.0, ((f.1.0, g.1.0), (f.1.1, g.1.1)))
    knows_map (over_star x) b v l h = knows_map x b v l h
    knows_map (over_name {x = x} {t} e y) b v l h = knows_map y b v l (b x t e)

-- ---- names alone

any_queries : (qs : List Query) → EachLabelOfQueries Any qs
any_queries [] = tt
any_queries (q ∷ qs) = (any_query q, any_queries qs)

any_core : (s : Core) → EachLabelOfCore Any s
any_core (skip at) = tt
any_core (nothing at) = tt
any_core (both at s r) = (any_core s, any_core r)
any_core (choice at c s r) = (any_query c, any_core s, any_core r)
any_core (binding at x q s) = (any_query q, any_core s)
any_core (snapshot at x s) = any_core s
any_core (insert at q) = any_query q
any_core (delete at) = tt
any_core (rename at l) = tt
any_core (test at p s) = (any_test p, any_core s)
any_core (children at s) = any_core s
any_core (left at s) = any_core s
any_core (right at s) = any_core s
any_core (iter at s) = any_core s
any_core (call at p args) = any_queries args

module _ (procs : Procs) (n : ℕ) (results : (p : ℕ) (q : Proc) → proc_of procs p ≡ Some q → NamesBelow n q.result) {Δ : Definitions} (bodies : (x : ℕ) (t : Ty) → body_of Δ x ≡ Some t → NamesBelow n t) where
  pub core_below : {Δ' : Definitions} {Γ : Context} {t u : Ty} {s : Core} → Typed procs Δ Γ t s u Δ' → AllBelow n Γ → NamesBelow n t → NamesBelow n u
  core_below {t = t} {s = s} d a h = (knows procs n Any (λ p q e. (results p q e, any_type q.result)) d (λ x t e. (bodies x t e, any_type t)) (λ x t e. (a x t e, any_type t)) (any_core s) (h, any_type t)).1.0

  pub map_below : {Δ' : Definitions} {Γ : Context} {t u : Ty} {s : Core} → Mapped procs Δ Γ t s u Δ' → AllBelow n Γ → NamesBelow n t → NamesBelow n u
  map_below {t = t} {s = s} d a h = (knows_map procs n Any (λ p q e. (results p q e, any_type q.result)) d (λ x t e. (bodies x t e, any_type t)) (λ x t e. (a x t e, any_type t)) (any_core s) (h, any_type t)).1.0
