-- The numbers to come after new nodes, and after these are freed.
use Rattle.std.proofs.Common.{◌≡◌, ℕ, ◌+◌, ◌-◌, zero, suc, List, [], ◌∷◌, ◌++◌, length, drop, refl, ap, ap₂, ◌∙◌, sym, arith, length-append}
use Rattle.std.proofs.Math.ListN.{set}
use Rattle.std.proofs.lemmas.List.{length-set}
use Rattle.flux_trees.specs.Hedge.{Hedge, Plain, nil, elem, leaf, size, notes}
use Rattle.flux_trees.specs.Edits.{Supply, preceded, beyond, number}
use Rattle.flux_nodes.specs.declared.run.Run.{Run}
use Rattle.flux_nodes.specs.Tables.{Meaning, supply, copies, trees_at, after_add, after_free, with_trees, FreeingTakesBack}
use Rattle.flux_nodes.proofs.NumberLaws.{same_at}
use Rattle.flux_nodes.proofs.TakingLaws.{length-copies}
use Rattle.flux_nodes.proofs.NodeLaws.{preceded-more}

preceded-same : (ms : List ℕ) (s t : Supply) (i : ℕ) → ((j : ℕ) → s j ≡ t j) → preceded ms s i ≡ preceded ms t i
preceded-same [] s t i e = e i
preceded-same (m ∷ ms) s t zero e = refl
preceded-same (m ∷ ms) s t (suc i) e = preceded-same ms s t i e

preceded-append : (ms ns : List ℕ) (s : Supply) (i : ℕ) → preceded (ms ++ ns) s i ≡ preceded ms (preceded ns s) i
preceded-append [] ns s i = refl
preceded-append (m ∷ ms) ns s zero = refl
preceded-append (m ∷ ms) ns s (suc i) = preceded-append ms ns s i

-- the numbers of a forest, and then what is left of the supply, are the supply
numbers-back : (v : Plain) (s t : Supply) (i : ℕ) → ((j : ℕ) → t j ≡ s (size v + j)) → preceded (notes (number v s)) t i ≡ s i
numbers-back nil s t i e = e i ∙ same_at s (0 + i) i (omega arith)
numbers-back (elem _ a c r) s t zero e = refl
numbers-back (elem _ a c r) s t (suc i) e =
    preceded-append (notes (number c (beyond 1 s))) (notes (number r (beyond (suc (size c)) s))) t i ∙ numbers-back c (beyond 1 s) (preceded (notes (number r (beyond (suc (size c)) s))) t) i (λ j. numbers-back r (beyond (suc (size c)) s) t j (λ k. e k ∙ same_at s (suc (size c + size r) + k) (suc (size c) + (size r + k)) (omega arith)) ∙ same_at s (suc (size c) + j) (1 + (size c + j)) (omega arith)) ∙ same_at s (1 + i) (suc i) (omega arith)
numbers-back (leaf _ x r) s t zero e = refl
numbers-back (leaf _ x r) s t (suc i) e =
    numbers-back r (beyond 1 s) t i (λ k. e k ∙ same_at s (suc (size r) + k) (1 + (size r + k)) (omega arith)) ∙ same_at s (1 + i) (suc i) (omega arith)

grown : (m : Meaning) (v : Plain) (i : ℕ) → supply (with_trees m v) i ≡ supply m (size v + i)
grown m v i =
    preceded-same (drop (size v) m.spare) (λ j. length (set (m.unlinked ++ copies (size v - length m.spare) nil) (supply m 0) (number v (supply m))) + j) (beyond (size v - length m.spare) (λ j. length m.unlinked + j)) i (λ j. omega (arith, length-set (m.unlinked ++ copies (size v - length m.spare) nil) (supply m 0) (number v (supply m)), length-append m.unlinked (copies (size v - length m.spare) nil), length-copies {X = Hedge ℕ} (size v - length m.spare) nil)) ∙ sym (preceded-more m.spare (λ j. length m.unlinked + j) (size v) i)

-- new nodes take the first numbers
pub supply-add : (m : Meaning) (v : Plain) (i : ℕ) → supply (after_add m v) i ≡ supply m (size v + i)
supply-add m nil i = same_at (supply m) i (0 + i) (omega arith)
supply-add m (elem n a c r) i = grown m (elem n a c r) i
supply-add m (leaf n x r) i = grown m (leaf n x r) i

-- what is freed comes first
pub supply-free : (m : Meaning) (run : Run) (i : ℕ) → supply (after_free m run) i ≡ preceded (notes (trees_at m run)) (supply m) i
supply-free m run i =
    preceded-append (notes (trees_at m run)) m.spare (λ j. length (set m.unlinked run.first.0 nil) + j) i ∙ preceded-same (notes (trees_at m run)) (preceded m.spare (λ j. length (set m.unlinked run.first.0 nil) + j)) (supply m) i (λ k. preceded-same m.spare (λ j. length (set m.unlinked run.first.0 nil) + j) (λ j. length m.unlinked + j) k (λ j. ap (λ n. n + j) (length-set m.unlinked run.first.0 nil)))

pub freeing_takes_back : FreeingTakesBack
freeing_takes_back m n v run spare bound same i =
    supply-free n run i ∙ ap (λ ns. preceded ns (supply n) i) same ∙ numbers-back v (supply m) (supply n) i (λ j. ap₂ (λ ms b. preceded ms (λ k. b + k) j) spare bound ∙ supply-add m v j)
