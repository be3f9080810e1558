-- Steps that are put round a statement from the last to the first.
use Rattle.std.proofs.Common.{◌≡◌, List, [], ◌∷◌, ◌++◌, map, refl, sym, ap, ◌∙◌}
use Rattle.std.proofs.lemmas.List.{map-append}
use Rattle.flux_calculus.specs.Core.{Core, children}
use Rattle.flux_normal.specs.declared.paths.Layer.{Layer}
use Rattle.flux_normal.specs.Layers.{StepForm, layer_of, under_step, under_steps, under_slashes}

last : (ps : List StepForm) (p : StepForm) (s : Core) → under_steps (ps ++ p ∷ []) s ≡ under_slashes ps (under_step p s)
last [] p s = refl
last (q ∷ []) p s = refl
last (q ∷ r ∷ ps) p s = ap (λ t. under_step q (children q.span t)) (last (r ∷ ps) p s)

next : (ps : List StepForm) (p : StepForm) (s : Core) → under_slashes (ps ++ p ∷ []) s ≡ under_slashes ps (under_step p (children p.span s))
next [] p s = refl
next (q ∷ ps) p s = ap (λ t. under_step q (children q.span t)) (next ps p s)

snoc : (all ls : List Layer) (l : Layer) → all ≡ ls ++ l ∷ [] → map layer_of all ≡ map layer_of ls ++ layer_of l ∷ []
snoc all ls l e = ap (map layer_of) e ∙ map-append layer_of ls (l ∷ [])

pub last_layer : (all ls : List Layer) (l : Layer) (s t : Core) → all ≡ ls ++ l ∷ [] → t ≡ under_step (layer_of l) s
    → under_slashes (map layer_of ls) t ≡ under_steps (map layer_of all) s
last_layer all ls l s t e made =
    ap (under_slashes (map layer_of ls)) made
    ∙ sym (ap (λ ps. under_steps ps s) (snoc all ls l e) ∙ last (map layer_of ls) (layer_of l) s)

pub next_layer : (all ls : List Layer) (l : Layer) (s c t : Core) → all ≡ ls ++ l ∷ [] → c ≡ children l.span s → t ≡ under_step (layer_of l) c
    → under_slashes (map layer_of ls) t ≡ under_slashes (map layer_of all) s
next_layer all ls l s c t e slash made =
    ap (under_slashes (map layer_of ls)) (made ∙ ap (under_step (layer_of l)) slash)
    ∙ sym (ap (λ ps. under_slashes ps s) (snoc all ls l e) ∙ next (map layer_of ls) (layer_of l) s)
