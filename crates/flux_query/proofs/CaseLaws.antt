-- That the queries which are tried by hand have values.
use Rattle.std.proofs.Common.{Option, Some, None, IsSome, [], ◌∷◌, List, refl}
use Rattle.flux_trees.specs.Hedge.{Plain, nil, elem, leaf, join, trees}
use Rattle.std.specs.Prelude.{ℕ, ℤ, Bool, true, false}
use Rattle.flux_atom.specs.declared.atom.Atom.{Atom}
use Rattle.flux_atom.specs.declared.atom.Atom.TheVariants.{Bool as Truth, Text, Int}
use Rattle.flux_calculus.specs.declared.ask.Test.{Test}
use Rattle.flux_calculus.specs.declared.ask.Var.TheVariants.{Made}
use Rattle.flux_calculus.specs.Query.{and_value, value, value_each, nothing, both, element, variable, literal, binding, choice, alike, less, child, filter, each}
use Rattle.flux_query.specs.Cases.{HasValue, start}

both_some : (o p : Option Plain) → IsSome o → IsSome p → IsSome (and_value o (λ v. and_value p (λ w. Some (join v w))))
both_some None p e f = cc
both_some (Some v) None e f = cc
both_some (Some v) (Some w) e f = refl

each_tree : (go : Plain → Option Plain) → ((a : ℕ) (c : Plain) → IsSome (go (elem tt a c nil))) → ((x : Atom) → IsSome (go (leaf tt x nil))) → (v : Plain) → IsSome (value_each go (trees v))
each_tree go e f nil = refl
each_tree go e f (elem _ a c r) = both_some (go (elem tt a c nil)) (value_each go (trees r)) (e a c) (each_tree go e f r)
each_tree go e f (leaf _ x r) = both_some (go (leaf tt x nil)) (value_each go (trees r)) (f x) (each_tree go e f r)

pub labelled_inside : (t : Test) → HasValue (each start (Made 1) (variable start (Made 0)) (filter start (child start (Made 1)) t))
labelled_inside t v = each_tree (λ u. value ((Made 1, u) ∷ (Made 0, v) ∷ []) (filter start (child start (Made 1)) t)) (λ a c. refl) (λ x. refl) v

pub all_inside : HasValue (each start (Made 1) (variable start (Made 0)) (child start (Made 1)))
all_inside v = each_tree (λ u. value ((Made 1, u) ∷ (Made 0, v) ∷ []) (child start (Made 1))) (λ a c. refl) (λ x. refl) v

pub compared : (t : List ℕ) (b : Bool) → HasValue (alike start (variable start (Made 0)) (both start (literal start (Text t)) (both start (literal start (Truth b)) (nothing start))))
compared t b v = refl

pub ordered : (y z : ℤ) → HasValue (less start (literal start (Int y)) (literal start (Int z)))
ordered y z v = refl

pub number_pair : (y z : ℤ) → HasValue (alike start (literal start (Int y)) (literal start (Int z)))
number_pair y z v = refl

pub twice : (t : List ℕ) (b : Bool) → HasValue (each start (Made 1) (both start (literal start (Text t)) (both start (literal start (Truth b)) (nothing start))) (both start (variable start (Made 1)) (both start (variable start (Made 1)) (nothing start))))
twice t b v = refl

pub passing : (t : Test) → HasValue (filter start (variable start (Made 0)) t)
passing t v = refl

pub hidden : (t : List ℕ) → HasValue (both start (binding start (Made 0) (literal start (Text t)) (variable start (Made 0))) (both start (variable start (Made 0)) (nothing start)))
hidden t v = refl

pub chosen : (b : Bool) (t u : List ℕ) → HasValue (choice start (literal start (Truth b)) (literal start (Text t)) (literal start (Text u)))
chosen true t u v = refl
chosen false t u v = refl

pub joined : (t u : List ℕ) (b : Bool) → HasValue (both start (literal start (Text t)) (both start (literal start (Truth b)) (both start (literal start (Text u)) (nothing start))))
joined t u b v = refl

pub empty : HasValue (nothing start)
empty v = refl

pub alone : (b : Bool) → HasValue (both start (literal start (Truth b)) (nothing start))
alone b v = refl

pub wrapped : (n : ℕ) → HasValue (element start n (variable start (Made 0)))
wrapped n v = refl

pub ruleset cases = (wrapped, labelled_inside, all_inside, compared, ordered, number_pair, twice, passing, hidden, chosen, joined, empty, alone)
