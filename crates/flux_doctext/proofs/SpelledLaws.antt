-- What is spelled goes on: white space, one tree more, a table with more names.
use Rattle.std.proofs.Common.{◌≡◌, ℕ, true, List, [], ◌∷◌, ◌++◌, slice_get, codes, Some, refl, sym, ap, ◌∙◌, append_assoc}
use Rattle.std.proofs.lemmas.List.Elements.{All-push, All-nil}
use Rattle.std.proofs.lemmas.Option.{slice_get_within}
use Rattle.flux_atom.specs.Space.{is_space, IsSpace}
use Rattle.flux_trees.specs.Hedge.{Plain, join}
use Rattle.flux_trees.proofs.HedgeLaws.{join_assoc}
use Rattle.flux_doctext.specs.Spells.{Part, whole, trees, tree, Spelled, none, some, nothing, something, last, more, element, atom}
use Rattle.flux_doctext.proofs.TextLaws.{slice_get-more}

pub no_space : IsSpace []
no_space = All-nil (λ x. is_space x ≡ true)

pub one_space : (s : List ℕ) (b : ℕ) → IsSpace s → is_space b ≡ true → IsSpace (s ++ b ∷ [])
one_space s b space is = All-push (λ x. is_space x ≡ true) s b space is

-- a name keeps its place
pub held_more : (names others : List (List ℕ)) (a : ℕ) (t : List ℕ) → slice_get names a ≡ Some t → slice_get (names ++ others) a ≡ Some t
held_more names others a t at =
    slice_get-more names others a (slice_get_within names a t at) ∙ at

-- the same over a table with more names
pub spelled-more : {names : List (List ℕ)} {part : Part} {bytes : List ℕ} {v : Plain} (others : List (List ℕ)) → Spelled names part bytes v → Spelled (names ++ others) part bytes v
spelled-more others (none s t u s_space t_space u_space split) =
    none s t u s_space t_space u_space split
spelled-more others (some x) = some (spelled-more others x)
spelled-more others (nothing space) = nothing space
spelled-more others (something x) = something (spelled-more others x)
spelled-more others (last x) = last (spelled-more others x)
spelled-more others (more front back v w x xs split joined) =
    more front back v w (spelled-more others x) (spelled-more others xs) split joined
spelled-more {names} others (element s text t inner u a s_space t_space u_space is at x split) =
    element s text t inner u a s_space t_space u_space is (held_more names others a text at) (spelled-more others x) split
spelled-more others (atom s spelled u x s_space u_space is split) =
    atom s spelled u x s_space u_space is split

module _ {names : List (List ℕ)} where
  -- white space behind a tree belongs to it
  pub tree_space : {bytes : List ℕ} {v : Plain} (b : ℕ) → is_space b ≡ true → Spelled names tree bytes v → Spelled names tree (bytes ++ b ∷ []) v
  tree_space b is (element s text t inner u a s_space t_space u_space label at x split) =
      element s text t inner (u ++ b ∷ []) a s_space t_space (one_space u b u_space is) label at x (regroup s text t inner u (b ∷ []) ∙ ap (λ l. l ++ b ∷ []) split)
    where
      regroup : (s text t inner u m : List ℕ) → s ++ (text ++ (t ++ (codes "[" ++ (inner ++ (codes "]" ++ (u ++ m)))))) ≡ (s ++ (text ++ (t ++ (codes "[" ++ (inner ++ (codes "]" ++ u)))))) ++ m
      regroup s text t inner u m = simp append_assoc
  tree_space b is (atom s spelled u x s_space u_space literal split) =
      atom s spelled (u ++ b ∷ []) x s_space (one_space u b u_space is) literal (regroup s spelled u (b ∷ []) ∙ ap (λ l. l ++ b ∷ []) split)
    where
      regroup : (s spelled u m : List ℕ) → s ++ (spelled ++ (u ++ m)) ≡ (s ++ (spelled ++ u)) ++ m
      regroup s spelled u m = simp append_assoc

  pub trees_space : {bytes : List ℕ} {v : Plain} (b : ℕ) → is_space b ≡ true → Spelled names trees bytes v → Spelled names trees (bytes ++ b ∷ []) v
  trees_space b is (last x) = last (tree_space b is x)
  trees_space b is (more front back v w x xs split joined) =
      more front (back ++ b ∷ []) v w x (trees_space b is xs) (sym (append_assoc front (44 ∷ back) (b ∷ [])) ∙ ap (λ l. l ++ b ∷ []) split) joined

  pub whole_space : {bytes : List ℕ} {v : Plain} (b : ℕ) → is_space b ≡ true → Spelled names whole bytes v → Spelled names whole (bytes ++ b ∷ []) v
  whole_space b is (none s t u s_space t_space u_space split) =
      none s t (u ++ b ∷ []) s_space t_space (one_space u b u_space is) (regroup s t u (b ∷ []) ∙ ap (λ l. l ++ b ∷ []) split)
    where
      regroup : (s t u m : List ℕ) → s ++ (codes "(" ++ (t ++ (codes ")" ++ (u ++ m)))) ≡ (s ++ (codes "(" ++ (t ++ (codes ")" ++ u)))) ++ m
      regroup s t u m = simp append_assoc
  whole_space b is (some x) = some (trees_space b is x)

  -- a comma and one tree more
  pub trees_push : {bytes new : List ℕ} {v w : Plain} → Spelled names trees bytes v → Spelled names tree new w → Spelled names trees (bytes ++ (codes "," ++ new)) (join v w)
  trees_push {bytes} {new} {v} {w} (last x) y = more bytes new v w x (last y) refl refl
  trees_push {new = new} {w = w} (more front back v z x xs split joined) y =
      more front (back ++ (codes "," ++ new)) v (join z w) x (trees_push xs y) (sym (append_assoc front (44 ∷ back) (44 ∷ new)) ∙ ap (λ l. l ++ 44 ∷ new) split) (sym (join_assoc v z w) ∙ ap (λ h. join h w) joined)
