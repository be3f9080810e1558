-- Loops over the parts of a list, each of which makes variables.
use Rattle.std.proofs.Common.{◌≡◌, ◌+◌, ◌<◌, ℕ, List, [], ◌∷◌, ◌++◌, length, drop, drop-cons, get_or, map, append_assoc, sym, ap, ap₂, ◌∙◌, add-one}
use Rattle.std.proofs.lemmas.List.{map-append}
use Rattle.flux_grammar.specs.NormalQueries.{Numbered, of_all}

-- what is made, before what is still to come
abbrev pub behind : {A : Type 0} → List A → List A × ℕ → List A × ℕ
behind done p = (done ++ p.0, p.1)

pushed : {X Y A : Type 0} (f : X → Numbered A) (g : Y → A) (rest : List X) (x : X) (y : Y) (done : List Y) (k m : ℕ) → f x k ≡ (g y, m)
    → behind (map g (done ++ y ∷ [])) (of_all (map f rest) m) ≡ behind (map g done) (of_all (map f (x ∷ rest)) k)
pushed f g rest x y done k m one =
    let r = of_all (map f rest) m in
    ap (λ l. (l ++ r.0, r.1)) (map-append g done (y ∷ []))
    ∙ ap (λ l. (l, r.1)) (append_assoc (map g done) (g y ∷ []) r.0)
    ∙ ap (λ p. behind (map g done) (p.0 ∷ (of_all (map f rest) p.1).0, (of_all (map f rest) p.1).1)) (sym one)

pub turn : {X Y A : Type 0} (f : X → Numbered A) (g : Y → A) (xs : List X) (i : ℕ) (x : X) (y : Y) (done more : List Y) (k m : ℕ) → i < length xs → x ≡ get_or xs i x → f x k ≡ (g y, m) → more ≡ done ++ y ∷ []
    → behind (map g more) (of_all (map f (drop (i + 1) xs)) m) ≡ behind (map g done) (of_all (map f (drop i xs)) k)
turn f g xs i x y done more k m lt is one grown =
    ap (λ l. behind (map g l) (of_all (map f (drop (i + 1) xs)) m)) grown
    ∙ pushed f g (drop (i + 1) xs) x y done k m one
    ∙ ap (λ r. behind (map g done) (of_all (map f r) k)) (sym (drop-cons xs i x lt ∙ ap₂ (λ y n. y ∷ drop n xs) (sym is) (sym (add-one i))))
