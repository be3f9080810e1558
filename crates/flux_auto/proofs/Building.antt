-- A forest that is written from its recipe.
use Rattle.std.proofs.Common.{◌≡◌, ℕ, suc, ◌+◌, ◌*◌, ◌<◌, List, [], ◌∷◌, ◌++◌, Some, length, slice_get, refl, sym, ap, subst, ◌∙◌, arith}
use Rattle.flux_atom.specs.declared.atom.Atom.{Atom as Value}
use Rattle.flux_atom.specs.declared.atom.AtomKind.{AtomKind}
use Rattle.flux_trees.specs.Hedge.{Plain, nil, elem, leaf, size}
use Rattle.flux_trees.specs.Draft.{Draft, done, depth, add, begin, end}
use Rattle.flux_trees.proofs.DraftLaws.{add-nil, add-add, depth-add, depth-begin, depth-end, end-begin}
use Rattle.flux_auto.specs.declared.recipe.Recipe.{Recipe}
use Rattle.flux_auto.specs.declared.recipe.Recipe.TheVariants.{End, Atom, Elem}
use Rattle.flux_auto.specs.declared.recipe.Task.{Task}
use Rattle.flux_auto.specs.declared.recipe.Task.TheVariants.{Write, Close}
use Rattle.flux_auto.specs.Witness.{sample, forest_at, forests, IsOlder}
use Rattle.flux_auto.proofs.Recipes.{forest-made}

-- a task done, and all tasks, the last first
abbrev pub after : List Plain → Task → Draft (Unit {0}) → Draft (Unit {0})
after hs (Write i) d = add d (forest_at hs i)
after hs Close d = end d

abbrev pub finished : List Plain → List Task → Draft (Unit {0}) → Draft (Unit {0})
finished hs [] d = d
finished hs (t ∷ ts) d = after hs t (finished hs ts d)

-- what the tasks come to, with the first task done last
finished-last : (hs : List Plain) (ts : List Task) (t : Task) (d : Draft (Unit {0})) → finished hs (ts ++ t ∷ []) d ≡ finished hs ts (after hs t d)
finished-last hs [] t d = refl
finished-last hs (s ∷ ts) t d = ap (after hs s) (finished-last hs ts t d)

abbrev pub closes : List Task → ℕ
closes [] = 0
closes (Write i ∷ ts) = closes ts
closes (Close ∷ ts) = suc (closes ts)

abbrev pub cost : List Plain → Task → ℕ
cost hs (Write i) = 3 * size (forest_at hs i) + 1
cost hs Close = 1

abbrev pub costs : List Plain → List Task → ℕ
costs hs [] = 0
costs hs (t ∷ ts) = cost hs t + costs hs ts

abbrev pub IsBelow : ℕ → Task → Type 0
IsBelow n (Write i) = i < n
IsBelow n Close = Unit {0}

abbrev pub AreBelow : ℕ → List Task → Type 0
AreBelow n [] = Unit {0}
AreBelow n (t ∷ ts) = IsBelow n t × AreBelow n ts

costs-last : (hs : List Plain) (ts : List Task) (t : Task) → costs hs (ts ++ t ∷ []) ≡ costs hs ts + cost hs t
costs-last hs [] t = omega arith
costs-last hs (s ∷ ts) t = omega (arith, costs-last hs ts t)

closes-write : (ts : List Task) (i : ℕ) → closes (ts ++ Write i ∷ []) ≡ closes ts
closes-write [] i = refl
closes-write (Write j ∷ ts) i = closes-write ts i
closes-write (Close ∷ ts) i = ap suc (closes-write ts i)

closes-close : (ts : List Task) → closes (ts ++ Close ∷ []) ≡ suc (closes ts)
closes-close [] = refl
closes-close (Write j ∷ ts) = closes-close ts
closes-close (Close ∷ ts) = ap suc (closes-close ts)

below-last : (n : ℕ) (ts : List Task) (t : Task) → AreBelow n (ts ++ t ∷ []) → AreBelow n ts × IsBelow n t
below-last n [] t b = (tt, b.0)
below-last n (s ∷ ts) t b = let p = below-last n ts t b.1 in ((b.0, p.0), p.1)

below-more : (n : ℕ) (ts : List Task) (t : Task) → AreBelow n ts → IsBelow n t → AreBelow n (ts ++ t ∷ [])
below-more n [] t b c = (c, tt)
below-more n (s ∷ ts) t b c = (b.0, below-more n ts t b.1 c)

-- the tasks make what is written the forest h
pub record Builds (rs : List Recipe) (h : Plain) (tasks : List Task) (d : Draft (Unit {0})) : Type 0 where
  pub value : finished (forests rs) tasks d ≡ done h
  pub open_are : closes tasks ≡ depth d
  pub below : AreBelow (length rs) tasks

module _ (rs : List Recipe) (h : Plain) (all ts : List Task) (d : Draft (Unit {0})) (b : Builds rs h all d) where
  abbrev hs : List Plain
  hs = forests rs

  -- an element ends
  pub some_open : all ≡ ts ++ Close ∷ [] → 0 < depth d
  some_open e = omega (arith, b.open_are, ap closes e, closes-close ts)

  pub builds_close : (d' : Draft (Unit {0})) → all ≡ ts ++ Close ∷ [] → d' ≡ end d → Builds rs h ts d'
  builds_close d' e f = record {
    value = ap (finished hs ts) f ∙ sym (finished-last hs ts Close d) ∙ ap (λ l. finished hs l d) (sym e) ∙ b.value;
    open_are = omega (arith, b.open_are, ap closes e, closes-close ts, depth-end d, ap depth f);
    below = (below-last (length rs) ts Close (subst (AreBelow (length rs)) e b.below)).0;
  }

  pub close_less : all ≡ ts ++ Close ∷ [] → costs hs ts < costs hs all
  close_less e = omega (arith, ap (costs hs) e, costs-last hs ts Close)

  module _ (i : ℕ) (e : all ≡ ts ++ Write i ∷ []) where
    pub here : i < length rs
    here = (below-last (length rs) ts (Write i) (subst (AreBelow (length rs)) e b.below)).1

    rest_below : AreBelow (length rs) ts
    rest_below = (below-last (length rs) ts (Write i) (subst (AreBelow (length rs)) e b.below)).0

    so_far : finished hs ts (add d (forest_at hs i)) ≡ done h
    so_far = sym (finished-last hs ts (Write i) d) ∙ ap (λ l. finished hs l d) (sym e) ∙ b.value

    opened : closes ts ≡ depth d
    opened = sym (closes-write ts i) ∙ ap closes (sym e) ∙ b.open_are

    total : costs hs all ≡ costs hs ts + (3 * size (forest_at hs i) + 1)
    total = ap (costs hs) e ∙ costs-last hs ts (Write i)

    -- nothing is written
    pub builds_end : slice_get rs i ≡ Some End → Builds rs h ts d
    builds_end is =
        let f : forest_at hs i ≡ nil = forest-made rs i End is tt in
        record { value = ap (finished hs ts) (sym (add-nil d)) ∙ ap (λ g. finished hs ts (add d g)) (sym f) ∙ so_far; open_are = opened; below = rest_below }

    pub end_less : costs hs ts < costs hs all
    end_less = omega (arith, total)

    -- an atom is written
    pub builds_atom : (k : AtomKind) (j : ℕ) (now : List Task) (d' : Draft (Unit {0})) (x : Value) → slice_get rs i ≡ Some (Atom k j) → j < i → now ≡ ts ++ Write j ∷ [] → x ≡ sample k → d' ≡ add d (leaf tt x nil) → Builds rs h now d'
    builds_atom k j now d' x is lt f g a =
        let w : forest_at hs i ≡ leaf tt (sample k) (forest_at hs j) = forest-made rs i (Atom k j) is lt in
        record {
          value =
              ap (λ l. finished hs l d') f ∙ finished-last hs ts (Write j) d' ∙ ap (λ c. finished hs ts (add c (forest_at hs j))) (a ∙ ap (λ y. add d (leaf tt y nil)) g)
              ∙ ap (finished hs ts) (add-add d (leaf tt (sample k) nil) (forest_at hs j)) ∙ ap (λ t. finished hs ts (add d t)) (sym w) ∙ so_far;
          open_are = ap closes f ∙ closes-write ts j ∙ opened ∙ sym (depth-add d (leaf tt x nil)) ∙ ap depth (sym a);
          below = subst (AreBelow (length rs)) (sym f) (below-more (length rs) ts (Write j) rest_below (omega (arith, lt, here)));
        }

    pub atom_less : (k : AtomKind) (j : ℕ) (now : List Task) → slice_get rs i ≡ Some (Atom k j) → j < i → now ≡ ts ++ Write j ∷ [] → costs hs now < costs hs all
    atom_less k j now is lt f = omega (arith, total, ap (costs hs) f, costs-last hs ts (Write j), ap size (forest-made rs i (Atom k j) is lt))

    -- an element begins
    module _ (n c j : ℕ) (one two now : List Task) (is : slice_get rs i ≡ Some (Elem n c j)) (old : IsOlder i (Elem n c j)) (f : one ≡ ts ++ Write j ∷ []) (g : two ≡ one ++ Close ∷ []) (k : now ≡ two ++ Write c ∷ []) where
      shape : forest_at hs i ≡ elem tt n (forest_at hs c) (forest_at hs j)
      shape = forest-made rs i (Elem n c j) is old

      pub builds_element : (d' : Draft (Unit {0})) → d' ≡ begin d tt n → Builds rs h now d'
      builds_element d' a = record {
        value =
            ap (λ l. finished hs l d') k ∙ finished-last hs two (Write c) d'
            ∙ ap (λ l. finished hs l (add d' (forest_at hs c))) g ∙ finished-last hs one Close (add d' (forest_at hs c))
            ∙ ap (λ l. finished hs l (end (add d' (forest_at hs c)))) f ∙ finished-last hs ts (Write j) (end (add d' (forest_at hs c)))
            ∙ ap (λ x. finished hs ts (add (end (add x (forest_at hs c))) (forest_at hs j))) a
            ∙ ap (λ x. finished hs ts (add x (forest_at hs j))) (end-begin d tt n (forest_at hs c))
            ∙ ap (finished hs ts) (add-add d (elem tt n (forest_at hs c) nil) (forest_at hs j)) ∙ ap (λ t. finished hs ts (add d t)) (sym shape) ∙ so_far;
        open_are = omega (arith, ap closes k, closes-write two c, ap closes g, closes-close one, ap closes f, closes-write ts j, opened, ap depth a, depth-begin d tt n);
        below =
            subst (AreBelow (length rs)) (sym k) (below-more (length rs) two (Write c) (subst (AreBelow (length rs)) (sym g) (below-more (length rs) one Close
            (subst (AreBelow (length rs)) (sym f) (below-more (length rs) ts (Write j) rest_below (omega (arith, old.1, here)))) tt)) (omega (arith, old.0, here)));
      }

      pub element_less : costs hs now < costs hs all
      element_less = omega (arith, total, ap (costs hs) k, costs-last hs two (Write c), ap (costs hs) g, costs-last hs one Close, ap (costs hs) f, costs-last hs ts (Write j), ap size shape)
