-- Forests that are numbered from a supply.
use Rattle.flux_nodes.specs.Tables.{one_if, times}
use Rattle.std.proofs.Common.{◌≡◌, ℕ, ◌+◌, ◌<◌, zero, suc, Some, None, refl, ap, ap₂, ◌∙◌, arith}
use Rattle.flux_trees.specs.Hedge.{Plain, nil, elem, leaf, join, size, opened}
use Rattle.flux_trees.specs.Edits.{Supply, beyond, number}
use Rattle.flux_nodes.specs.Laid.{id, first_id}

pub same_at : (s : Supply) (i j : ℕ) → i ≡ j → s i ≡ s j
same_at s i j e = ap s e

pub number-same : (h : Plain) (s t : Supply) → ((k : ℕ) → k < size h → s k ≡ t k) → number h s ≡ number h t
number-same nil s t e = refl
number-same (elem _ a c r) s t e =
    ap (λ n. elem n a (number c (beyond 1 s)) (number r (beyond (suc (size c)) s))) (e 0 (omega arith)) ∙ ap₂ (elem (t 0) a) (number-same c (beyond 1 s) (beyond 1 t) (λ k l. e (1 + k) (omega arith))) (number-same r (beyond (suc (size c)) s) (beyond (suc (size c)) t) (λ k l. e (suc (size c) + k) (omega arith)))
number-same (leaf _ x r) s t e =
    ap (λ n. leaf n x (number r (beyond 1 s))) (e 0 (omega arith)) ∙ ap (leaf (t 0) x) (number-same r (beyond 1 s) (beyond 1 t) (λ k l. e (1 + k) (omega arith)))

pub number-join : (f g : Plain) (s : Supply) → number (join f g) s ≡ join (number f s) (number g (beyond (size f) s))
number-join nil g s = number-same g s (beyond 0 s) (λ k l. same_at s k (0 + k) (omega arith))
number-join (elem _ a c r) g s =
    ap (elem (s 0) a (number c (beyond 1 s))) (number-join r g (beyond (suc (size c)) s) ∙ ap (join (number r (beyond (suc (size c)) s))) (number-same g (beyond (size r) (beyond (suc (size c)) s)) (beyond (suc (size c + size r)) s) (λ k l. same_at s (suc (size c) + (size r + k)) (suc (size c + size r) + k) (omega arith))))
number-join (leaf _ x r) g s =
    ap (leaf (s 0) x) (number-join r g (beyond 1 s) ∙ ap (join (number r (beyond 1 s))) (number-same g (beyond (size r) (beyond 1 s)) (beyond (suc (size r)) s) (λ k l. same_at s (1 + (size r + k)) (suc (size r) + k) (omega arith))))

pub size-number : (h : Plain) (s : Supply) → size (number h s) ≡ size h
size-number nil s = refl
size-number (elem _ a c r) s =
    omega (arith, size-number c (beyond 1 s), size-number r (beyond (suc (size c)) s))
size-number (leaf _ x r) s = omega (arith, size-number r (beyond 1 s))

-- how often a number is among the first n of a supply
abbrev pub hits : ℕ → Supply → ℕ → ℕ
hits j s zero = 0
hits j s (suc n) = one_if j (s 0) + hits j (beyond 1 s) n

pub hits-same : (j : ℕ) (s t : Supply) (n : ℕ) → ((k : ℕ) → k < n → s k ≡ t k) → hits j s n ≡ hits j t n
hits-same j s t zero e = refl
hits-same j s t (suc n) e =
    ap₂ ◌+◌ (ap (one_if j) (e 0 (omega arith))) (hits-same j (beyond 1 s) (beyond 1 t) n (λ k l. e (1 + k) (omega arith)))

pub hits-add : (j : ℕ) (s : Supply) (a b : ℕ) → hits j s (a + b) ≡ hits j s a + hits j (beyond a s) b
hits-add j s zero b =
    let e : zero + b ≡ b = omega arith in
    ap (hits j s) e ∙ hits-same j s (beyond 0 s) b (λ k l. same_at s k (0 + k) (omega arith)) ∙ omega arith
hits-add j s (suc a) b =
    let e : suc a + b ≡ suc (a + b) = omega arith in
    let more : hits j (beyond 1 s) (a + b) ≡ hits j (beyond 1 s) a + hits j (beyond a (beyond 1 s)) b = hits-add j (beyond 1 s) a b in
    let shift : hits j (beyond a (beyond 1 s)) b ≡ hits j (beyond (suc a) s) b = hits-same j (beyond a (beyond 1 s)) (beyond (suc a) s) b (λ k l. same_at s (1 + (a + k)) (suc a + k) (omega arith)) in
    ap (hits j s) e ∙ (omega (arith, more, shift))

pub times-number : (j : ℕ) (h : Plain) (s : Supply) → times j (number h s) ≡ hits j s (size h)
times-number j nil s = refl
times-number j (elem _ a c r) s =
    let shift : hits j (beyond (size c) (beyond 1 s)) (size r) ≡ hits j (beyond (suc (size c)) s) (size r) = hits-same j (beyond (size c) (beyond 1 s)) (beyond (suc (size c)) s) (size r) (λ k l. same_at s (1 + (size c + k)) (suc (size c) + k) (omega arith)) in
    omega (arith, times-number j c (beyond 1 s), times-number j r (beyond (suc (size c)) s), hits-add j (beyond 1 s) (size c) (size r), shift)
times-number j (leaf _ x r) s = omega (arith, times-number j r (beyond 1 s))

-- the first number
pub first-some : (h : Plain) (s : Supply) → 0 < size h → first_id (number h s) None ≡ Some (id (s 0))
first-some nil s l = absurd (omega arith)
first-some (elem _ a c r) s l = refl
first-some (leaf _ x r) s l = refl

pub first-none : (h : Plain) (s : Supply) → size h ≡ 0 → first_id (number h s) None ≡ None
first-none nil s l = refl
first-none (elem _ a c r) s l = absurd (omega arith)
first-none (leaf _ x r) s l = absurd (omega arith)

-- what stands behind the first node, by its content and the trees behind it
pub number-opened : (a : ℕ) (c r : Plain) (s : Supply) (i : ℕ) → number (opened (elem tt a c r)) (beyond (suc i) s) ≡ join (number c (beyond 1 (beyond i s))) (number r (beyond (suc (size c)) (beyond i s)))
number-opened a c r s i =
    number-join c r (beyond (suc i) s) ∙ ap₂ join (number-same c (beyond (suc i) s) (beyond 1 (beyond i s)) (λ k l. same_at s (suc i + k) (i + (1 + k)) (omega arith))) (number-same r (beyond (size c) (beyond (suc i) s)) (beyond (suc (size c)) (beyond i s)) (λ k l. same_at s (suc i + (size c + k)) (i + (suc (size c) + k)) (omega arith)))

pub number-behind : (r : Plain) (s : Supply) (i : ℕ) → number r (beyond (suc i) s) ≡ number r (beyond 1 (beyond i s))
number-behind r s i =
    number-same r (beyond (suc i) s) (beyond 1 (beyond i s)) (λ k l. same_at s (suc i + k) (i + (1 + k)) (omega arith))
