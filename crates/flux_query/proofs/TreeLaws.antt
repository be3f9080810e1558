-- What one tree of a forest adds to what is made of all of them.
use Rattle.std.proofs.lemmas.Bool.Decides.{same_from_decides}
use Rattle.flux_atom.specs.declared.atom.Atom.TheVariants.{Bool as Truth}
use Rattle.std.proofs.Common.{◌≡◌, ◌↔◌, IsTrue, Bool, true, false, List, [], ◌∷◌, Some, IsSome, refl, ap, ap₂, ◌∙◌, sym, if◌then◌else◌}
use Rattle.flux_trees.specs.Hedge.{Plain, nil, elem, leaf, join, trees, opened}
use Rattle.flux_trees.specs.Draft.{Draft, add}
use Rattle.flux_trees.specs.Same.{same}
use Rattle.flux_trees.proofs.SameLaws.{same-Decides}
use Rattle.flux_trees.proofs.HedgeLaws.{join-nil}
use Rattle.flux_trees.proofs.DraftLaws.{add-add, add-nil}
use Rattle.flux_calculus.specs.declared.ask.Test.{Test}
use Rattle.flux_calculus.specs.Tests.{matches}
use Rattle.flux_calculus.specs.Query.{content_of_one, passing}

pub opened-content : (h : Plain) → IsSome (content_of_one h) → content_of_one h ≡ Some (opened h)
opened-content nil e = cc
opened-content (elem _ a v nil) e = ap Some (sym (join-nil v))
opened-content (elem _ a v (elem _ b w r)) e = cc
opened-content (elem _ a v (leaf _ x r)) e = cc
opened-content (leaf _ x nil) e = refl
opened-content (leaf _ x (elem _ b w r)) e = cc
opened-content (leaf _ x (leaf _ y r)) e = cc

abbrev joined : List Plain → Plain
joined [] = nil
joined (h ∷ hs) = join h (joined hs)

joined-trees : (h : Plain) → joined (trees h) ≡ h
joined-trees nil = refl
joined-trees (elem _ a c r) = ap (elem tt a c) (joined-trees r)
joined-trees (leaf _ x r) = ap (leaf tt x) (joined-trees r)

-- a forest is told by its trees
trees-differ : (g h : Plain) → trees g ≡ trees h → g ≡ h
trees-differ g h e = sym (joined-trees g) ∙ ap joined e ∙ joined-trees h

-- the trees that pass, of one that stands before others
kept_before : (b : Bool) (f : Plain → Plain) (r : Plain) → ((v : Plain) → join (f nil) v ≡ f v) → (if b then f r else r) ≡ join (if b then f nil else nil) r
kept_before true f r e = sym (e r)
kept_before false f r e = refl

passing_split : (t : Test) (u r g : Plain) (f : Plain → Plain) → ((v : Plain) → join (f nil) v ≡ f v) → f nil ∷ trees r ≡ u ∷ trees g
    → (if matches t (f nil) then f (passing t r) else passing t r) ≡ join (if matches t u then u else nil) (passing t g)
passing_split t u r g f splits e =
    let same : f nil ≡ u = cc in
    let rest : r ≡ g = trees-differ r g cc in
    kept_before (matches t (f nil)) f (passing t r) splits ∙ ap₂ (λ u r. join (if matches t u then u else nil) (passing t r)) same rest

passing_first : (t : Test) (h u g : Plain) → trees h ≡ u ∷ trees g → passing t h ≡ join (if matches t u then u else nil) (passing t g)
passing_first t nil u g e = cc
passing_first t (elem _ a c r) u g e = passing_split t u r g (elem tt a c) (λ v. refl) e
passing_first t (leaf _ x r) u g e = passing_split t u r g (leaf tt x) (λ v. refl) e

-- a turn of the loop that adds the trees that pass, and its end
pub turn_of_passing : (t : Test) (h u g : Plain) (d e : Draft (Unit {0})) → trees h ≡ u ∷ trees g → e ≡ add d (if matches t u then u else nil) → add e (passing t g) ≡ add d (passing t h)
turn_of_passing t h u g d e split here =
    ap (λ d. add d (passing t g)) here ∙ add-add d (if matches t u then u else nil) (passing t g) ∙ ap (add d) (sym (passing_first t h u g split))

pub end_of_passing : (t : Test) (h : Plain) (d : Draft (Unit {0})) → trees h ≡ [] → add d (passing t h) ≡ d
end_of_passing t h d e = ap (λ h. add d (passing t h)) (trees-differ h nil e) ∙ add-nil d

-- a tree that does not pass adds nothing
pub failing : (b : Bool) (u : Plain) (d : Draft (Unit {0})) → false ≡ b → d ≡ add d (if b then u else nil)
failing b u d e = sym (ap (λ b. add d (if b then u else nil)) (sym e) ∙ add-nil d)

-- whether two forests are the same, as an atom
pub same_atom_added : (b : Bool) (v w : Plain) (d : Draft (Unit {0})) → IsTrue b ↔ (v ≡ w) → add d (leaf tt (Truth b) nil) ≡ add d (leaf tt (Truth (same v w)) nil)
same_atom_added b v w d e =
    ap (λ b. add d (leaf tt (Truth b) nil)) (same_from_decides b (same v w) e (same-Decides v w))
