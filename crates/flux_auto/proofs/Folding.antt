-- The profile of a forest, from its last tree to its first.
use Rattle.std.proofs.Common.{◌≡◌, ℕ, ◌+◌, ◌*◌, ◌<◌, ◌≤◌, List, [], ◌∷◌, ◌++◌, Bool, length, map, refl, sym, ap, ap₂, subst, ◌∙◌, arith}
use Rattle.std.proofs.lemmas.List.{map_push}
use Rattle.flux_atom.specs.declared.atom.Atom.{Atom as Value}
use Rattle.flux_atom.specs.declared.atom.AtomKind.{AtomKind}
use Rattle.flux_atom.specs.Atom.{kind_of}
use Rattle.flux_trees.specs.Hedge.{Plain, nil, elem, leaf, size, trees, others, content, IsElement}
use Rattle.flux_forest.specs.declared.view.View.{View}
use Rattle.flux_forest.specs.View.{forest_of}
use Rattle.flux_auto.specs.declared.run.Open.{Open}
use Rattle.flux_auto.specs.declared.profiles.Turn.TheVariants.{Atom, Elem}
use Rattle.flux_auto.specs.Takes.{State, profile, profile_nil, profile_element, profile_atom}
use Rattle.flux_auto.specs.Profiles.{profile_at, Gives, Keeps}

-- ---- a loop over rows

-- ---- the trees of a run

-- ---- the trees that are left at a level

-- one tree
abbrev pub IsTree : Plain → Type 0
IsTree nil = ⊥
IsTree (elem _ n c r) = r ≡ nil
IsTree (leaf _ x r) = r ≡ nil

abbrev pub EachTree : List Plain → Type 0
EachTree [] = Unit {0}
EachTree (h ∷ hs) = IsTree h × EachTree hs

pub each_of : (h : Plain) → EachTree (trees h)
each_of nil = tt
each_of (elem n a c r) = (refl, each_of r)
each_of (leaf n x r) = (refl, each_of r)

pub each_last : (hs : List Plain) (h : Plain) → EachTree (hs ++ h ∷ []) → EachTree hs × IsTree h
each_last [] h e = (tt, e.0)
each_last (g ∷ hs) h e = let p = each_last hs h e.1 in ((e.0, p.0), p.1)

-- a tree in front of what has the profile q
abbrev pub before : List State → Plain → List Bool → List Bool
before states nil q = q
before states (elem _ n c r) q = profile_element states n (profile states c) q
before states (leaf _ x r) q = profile_atom states (kind_of x) q

abbrev pub all_before : List State → List Plain → List Bool → List Bool
all_before states [] q = q
all_before states (h ∷ hs) q = before states h (all_before states hs q)

pub before_trees : (states : List State) (h : Plain) → all_before states (trees h) (profile_nil states) ≡ profile states h
before_trees states nil = refl
before_trees states (elem _ n c r) = ap (profile_element states n (profile states c)) (before_trees states r)
before_trees states (leaf _ x r) = ap (profile_atom states (kind_of x)) (before_trees states r)

pub before_last : (states : List State) (hs : List Plain) (h : Plain) (q : List Bool) → all_before states (hs ++ h ∷ []) q ≡ all_before states hs (before states h q)
before_last states [] h q = refl
before_last states (g ∷ hs) h q = ap (before states g) (before_last states hs h q)

abbrev pub nodes : List Plain → ℕ
nodes [] = 0
nodes (h ∷ hs) = size h + nodes hs

pub nodes-trees : (h : Plain) → nodes (trees h) ≡ size h
nodes-trees nil = refl
nodes-trees (elem n a c r) = omega (arith, nodes-trees r)
nodes-trees (leaf n x r) = omega (arith, nodes-trees r)

pub nodes-last : (hs : List Plain) (h : Plain) → nodes (hs ++ h ∷ []) ≡ nodes hs + size h
nodes-last [] h = omega arith
nodes-last (g ∷ hs) h = omega (arith, nodes-last hs h)

-- ---- the open elements, outermost first

abbrev pub forests : List View → List Plain
forests runs = map forest_of runs

abbrev pub around : List State → List (List Bool) → List Open → List Bool → List Bool
around states ps [] p = p
around states ps (o ∷ os) p = all_before states (forests o.trees.items) (profile_element states o.label (around states ps os p) (profile_at ps o.rest))

pub around_last : (states : List State) (ps : List (List Bool)) (os : List Open) (o : Open) (p : List Bool) → around states ps (os ++ o ∷ []) p ≡ around states ps os (all_before states (forests o.trees.items) (profile_element states o.label p (profile_at ps o.rest)))
around_last states ps [] o p = refl
around_last states ps (x ∷ os) o p = ap (λ q. all_before states (forests x.trees.items) (profile_element states x.label q (profile_at ps x.rest))) (around_last states ps os o p)

-- the trees are single, and the profile behind them is one of the first n
abbrev pub EachOpen : ℕ → List Open → Type 0
EachOpen n [] = Unit {0}
EachOpen n (o ∷ os) = EachTree (forests o.trees.items) × (o.rest < n) × EachOpen n os

pub each_open_last : (n : ℕ) (os : List Open) (o : Open) → EachOpen n (os ++ o ∷ []) → EachOpen n os × EachTree (forests o.trees.items) × (o.rest < n)
each_open_last n [] o e = (tt, e.0, e.1)
each_open_last n (x ∷ os) o e = let p = each_open_last n os o e.2 in ((e.0, e.1, p.0), p.1, p.2)

pub each_open_more : (n : ℕ) (os : List Open) (o : Open) → EachOpen n os → EachTree (forests o.trees.items) → o.rest < n → EachOpen n (os ++ o ∷ [])
each_open_more n [] o e t r = (t, r, tt)
each_open_more n (x ∷ os) o e t r = (e.0, e.1, each_open_more n os o e.2 t r)

pub each_open_keeps : (n m : ℕ) (os : List Open) → n ≤ m → EachOpen n os → EachOpen m os
each_open_keeps n m [] h e = tt
each_open_keeps n m (o ∷ os) h e = (e.0, omega (arith, e.1), each_open_keeps n m os h e.2)

pub around_keeps : (states : List State) (old new : List (List Bool)) (os : List Open) (p : List Bool) → Keeps old new → EachOpen (length old) os → around states new os p ≡ around states old os p
around_keeps states old new [] p k e = refl
around_keeps states old new (o ∷ os) p k e =
    ap₂ (λ q r. all_before states (forests o.trees.items) (profile_element states o.label q r)) (around_keeps states old new os p k e.2) (k.same o.rest e.1)

-- what is left to do at the open elements
abbrev pub left : List Open → ℕ
left [] = 0
left (o ∷ os) = 2 * nodes (forests o.trees.items) + 1 + left os

pub left-last : (os : List Open) (o : Open) → left (os ++ o ∷ []) ≡ left os + (2 * nodes (forests o.trees.items) + 1)
left-last [] o = omega arith
left-last (x ∷ os) o = omega (arith, left-last os o)

-- ---- the walk

pub record Walks (states : List State) (ps : List (List Bool)) (outer : List Open) (runs : List View) (rest : ℕ) (whole : Plain) : Type 0 where
  pub each : EachTree (forests runs)
  pub open_each : EachOpen (length ps) outer
  pub there : rest < length ps
  pub value : around states ps outer (all_before states (forests runs) (profile_at ps rest)) ≡ profile states whole

pub walks_begin : (states : List State) (ps : List (List Bool)) (none : List Open) (runs : List View) (rest : ℕ) (whole : Plain) → none ≡ [] → forests runs ≡ trees whole → rest < length ps → profile_at ps rest ≡ profile_nil states
    → Walks states ps none runs rest whole
walks_begin states ps none runs rest whole e f h g = record {
  each = subst EachTree (sym f) (each_of whole);
  open_each = subst (EachOpen (length ps)) (sym e) tt;
  there = h;
  value = ap (λ os. around states ps os (all_before states (forests runs) (profile_at ps rest))) e ∙ ap₂ (λ hs q. all_before states hs q) f g ∙ before_trees states whole;
}

-- profiles that are kept stay
pub walks_keeps : (states : List State) (old new : List (List Bool)) (outer : List Open) (runs : List View) (rest : ℕ) (whole : Plain) → Keeps old new → Walks states old outer runs rest whole → Walks states new outer runs rest whole
walks_keeps states old new outer runs rest whole k w = record {
  each = w.each;
  open_each = each_open_keeps (length old) (length new) outer k.longer w.open_each;
  there = omega (arith, k.longer, w.there);
  value =
      ap (λ q. around states new outer (all_before states (forests runs) q)) (k.same rest w.there)
      ∙ around_keeps states old new outer (all_before states (forests runs) (profile_at old rest)) k w.open_each ∙ w.value;
}

-- the last run of a level
last_run : (runs before : List View) (one : View) → before ≡ runs ++ one ∷ [] → forests before ≡ forests runs ++ forest_of one ∷ []
last_run runs before one e = ap forests e ∙ map_push forest_of runs one

pub one_tree : (states : List State) (ps : List (List Bool)) (outer : List Open) (all runs : List View) (one : View) (rest : ℕ) (whole : Plain) → Walks states ps outer all rest whole → all ≡ runs ++ one ∷ [] → IsTree (forest_of one)
one_tree states ps outer all runs one rest whole w e = (each_last (forests runs) (forest_of one) (subst EachTree (last_run runs all one e) w.each)).1

pub walks_atom : (states : List State) (ps : List (List Bool)) (outer : List Open) (all runs : List View) (one : View) (rest number : ℕ) (x : Value) (k : AtomKind) (whole : Plain) → Walks states ps outer all rest whole → all ≡ runs ++ one ∷ []
    → forest_of one ≡ leaf tt x (others (forest_of one)) → k ≡ kind_of x → Gives states ps (Atom k rest) number → Walks states ps outer runs number whole
walks_atom states ps outer all runs one rest number x k whole w e is same g = record {
  each = (each_last (forests runs) (forest_of one) (subst EachTree (last_run runs all one e) w.each)).0;
  open_each = w.open_each;
  there = g.there;
  value =
      ap (λ q. around states ps outer (all_before states (forests runs) q)) (g.same ∙ ap (λ j. profile_atom states j (profile_at ps rest)) same ∙ ap (λ h. before states h (profile_at ps rest)) (sym is))
      ∙ ap (around states ps outer) (sym (before_last states (forests runs) (forest_of one) (profile_at ps rest))) ∙ ap (λ hs. around states ps outer (all_before states hs (profile_at ps rest))) (sym (last_run runs all one e)) ∙ w.value;
}

pub walks_open : (states : List State) (ps : List (List Bool)) (outer now : List Open) (o : Open) (all inner : List View) (one : View) (nothing : ℕ) (whole : Plain) → Walks states ps outer all o.rest whole → all ≡ o.trees.items ++ one ∷ []
    → forest_of one ≡ elem tt o.label (content (forest_of one)) (others (forest_of one)) → now ≡ outer ++ o ∷ [] → forests inner ≡ trees (content (forest_of one)) → nothing < length ps → profile_at ps nothing ≡ profile_nil states
    → Walks states ps now inner nothing whole
walks_open states ps outer now o all inner one nothing whole w e is f g h k =
    let runs = o.trees.items in
    let c = content (forest_of one) in
    let rest = profile_at ps o.rest in
    record {
      each = subst EachTree (sym g) (each_of c);
      open_each = subst (EachOpen (length ps)) (sym f) (each_open_more (length ps) outer o w.open_each (each_last (forests runs) (forest_of one) (subst EachTree (last_run runs all one e) w.each)).0 w.there);
      there = h;
      value =
          ap (λ os. around states ps os (all_before states (forests inner) (profile_at ps nothing))) f ∙ around_last states ps outer o (all_before states (forests inner) (profile_at ps nothing))
          ∙ ap (λ p. around states ps outer (all_before states (forests runs) (profile_element states o.label p rest))) (ap₂ (all_before states) g k ∙ before_trees states c)
          ∙ ap (λ q. around states ps outer (all_before states (forests runs) q)) (ap (λ h. before states h rest) (sym is))
          ∙ ap (around states ps outer) (sym (before_last states (forests runs) (forest_of one) rest)) ∙ ap (λ hs. around states ps outer (all_before states hs rest)) (sym (last_run runs all one e)) ∙ w.value;
    }

pub walks_close : (states : List State) (ps : List (List Bool)) (outer inner : List Open) (o : Open) (all : List View) (rest number : ℕ) (whole : Plain) → Walks states ps outer all rest whole → all ≡ [] → outer ≡ inner ++ o ∷ []
    → Gives states ps (Elem o.label rest o.rest) number → Walks states ps inner o.trees.items number whole
walks_close states ps outer inner o all rest number whole w e f g =
    let p = each_open_last (length ps) inner o (subst (EachOpen (length ps)) f w.open_each) in
    record {
      each = p.1;
      open_each = p.0;
      there = g.there;
      value =
          ap (λ q. around states ps inner (all_before states (forests o.trees.items) q)) g.same ∙ sym (around_last states ps inner o (profile_at ps rest))
          ∙ ap (λ os. around states ps os (profile_at ps rest)) (sym f) ∙ ap (λ runs. around states ps outer (all_before states (forests runs) (profile_at ps rest))) (sym e) ∙ w.value;
    }

-- the profile behind the last element that was opened is there
pub open_there : (states : List State) (ps : List (List Bool)) (outer inner : List Open) (o : Open) (all : List View) (rest : ℕ) (whole : Plain) → Walks states ps outer all rest whole → outer ≡ inner ++ o ∷ [] → (rest < length ps) × (o.rest < length ps)
open_there states ps outer inner o all rest whole w f = (w.there, (each_open_last (length ps) inner o (subst (EachOpen (length ps)) f w.open_each)).2)

-- ---- it ends

pub tree_of : (h : Plain) (n : ℕ) → IsTree h → h ≡ elem tt n (content h) (others h) → IsElement h
tree_of nil n t e = absurd t
tree_of (elem _ m c nil) n t e = tt
tree_of (elem _ m c (elem _ k a b)) n t e = cc
tree_of (elem _ m c (leaf _ x b)) n t e = cc
tree_of (leaf _ x r) n t e = cc

pub none_nil : (h : Plain) → IsTree h → h ≡ nil → ⊥
none_nil nil t e = t
none_nil (elem _ m c r) t e = cc
none_nil (leaf _ x r) t e = cc

abbrev pub work : List Open → List View → ℕ
work outer runs = 2 * nodes (forests runs) + left outer

pub work_atom : (outer : List Open) (all runs : List View) (one : View) (x : Value) → all ≡ runs ++ one ∷ [] → forest_of one ≡ leaf tt x (others (forest_of one)) → work outer runs < work outer all
work_atom outer all runs one x e is =
    omega (arith, ap nodes (last_run runs all one e), nodes-last (forests runs) (forest_of one), ap size is)

pub work_open : (outer now : List Open) (o : Open) (all inner : List View) (one : View) → all ≡ o.trees.items ++ one ∷ [] → forest_of one ≡ elem tt o.label (content (forest_of one)) (others (forest_of one)) → now ≡ outer ++ o ∷ []
    → forests inner ≡ trees (content (forest_of one)) → work now inner < work outer all
work_open outer now o all inner one e is f g =
    omega (arith, ap nodes (last_run o.trees.items all one e), nodes-last (forests o.trees.items) (forest_of one), ap size is, ap left f, left-last outer o, ap nodes g, nodes-trees (content (forest_of one)))

pub work_close : (outer inner : List Open) (o : Open) (all : List View) → outer ≡ inner ++ o ∷ [] → work inner o.trees.items < work outer all
work_close outer inner o all f = omega (arith, ap left f, left-last inner o)
