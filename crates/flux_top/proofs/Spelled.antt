-- Forests that are spelled by the same bytes, over two tables.
use Rattle.std.proofs.Common.{◌≡◌, List, [], ◌∷◌, ◌++◌, ◌⊎◌, inl, inr, ◌||◌, length, ℕ, zero, suc, Bool, true, false, Some, refl, ap, subst, sym, ◌∙◌, if◌then◌else◌}
use Rattle.std.proofs.lemmas.List.Elements.{All-head, All-tail}
use Rattle.std.proofs.lemmas.Slice.Eq.{bytes_eq-Decides}
use Rattle.std.specs.Prelude.{slice_get, unwrap_or, All, bytes_eq}
use Rattle.std.specs.List.{list_any}
use Rattle.flux_atom.specs.Names.{IsName, IsTable, with_text}
use Rattle.flux_atom.proofs.FreshLaws.{last_at}
use Rattle.flux_trees.specs.Hedge.{Plain, nil, elem, leaf, join}
use Rattle.flux_trees.specs.Each.{EachLabel}
use Rattle.flux_doctext.specs.Text.{NamesLabel, name_text}
use Rattle.flux_doctext.specs.Spells.{Part, whole, Spelled, none, some, nothing, something, last, more, element, atom, Spells}
use Rattle.flux_doctext.proofs.Alike.{Alike, alike_nil, alike_elem, alike_leaf, alike_join}
use Rattle.flux_doctext.specs.Labels.{learnt}
use Rattle.flux_doctext.proofs.LabelLaws.{learnt_more, spelled_labels}
use Rattle.flux_doctext.proofs.SpelledLaws.{spelled-more, held_more}
use Rattle.flux_doctext.proofs.ReadLaws.{spelled_once}
use Rattle.flux_doctext.proofs.TextLaws.{NamesLabel-found}
use Rattle.flux_doctext.proofs.ViableLaws.{IsTable-with_text}

-- the first table holds each text of the second
abbrev Covers : List (List ℕ) → List (List ℕ) → Type 0
Covers names others = (a : ℕ) (t : List ℕ) → slice_get others a ≡ Some t → (b : ℕ) × (slice_get names b ≡ Some t)

-- what is spelled over a table is spelled over one that covers it, as a forest that is alike
spelled_over : (names others : List (List ℕ)) → Covers names others → {part : Part} {bytes : List ℕ} {w : Plain} → Spelled others part bytes w → (v : Plain) × Spelled names part bytes v × Alike names others v w
spelled_over names others covers (none s t u is_s is_t is_u e) = (nil, none s t u is_s is_t is_u e, alike_nil)
spelled_over names others covers (some is) = let r = spelled_over names others covers is in (r.0, some r.1, r.2)
spelled_over names others covers (nothing is) = (nil, nothing is, alike_nil)
spelled_over names others covers (something is) = let r = spelled_over names others covers is in (r.0, something r.1, r.2)
spelled_over names others covers (last is) = let r = spelled_over names others covers is in (r.0, last r.1, r.2)
spelled_over names others covers (more first rest v w is are e j) =
    let r = spelled_over names others covers is in
    let s = spelled_over names others covers are in
    (join r.0 s.0, more first rest r.0 s.0 r.1 s.1 e refl, subst (Alike names others (join r.0 s.0)) j (alike_join r.2 s.2))
spelled_over names others covers (element s label t content u a is_s is_t is_u is_label at inside e) =
    let r = spelled_over names others covers inside in
    let b = covers a label at in
    let same : name_text names b.0 ≡ name_text others a = ap (λ o. unwrap_or o []) (b.1 ∙ sym at) in
    (elem tt b.0 r.0 nil, element s label t content u b.0 is_s is_t is_u is_label b.1 r.1 e, alike_elem same r.2 alike_nil)
spelled_over names others covers (atom s literal u x is_s is_u is e) = (leaf tt x nil, atom s literal u x is_s is_u is e, alike_leaf refl alike_nil)

-- a table that has a text has it at some place
place_next : (t u : List ℕ) (names : List (List ℕ)) (same : Bool) → bytes_eq t u ≡ same → ((b : ℕ) × (slice_get names b ≡ Some t)) ⊎ (same ≡ true) → (b : ℕ) × (slice_get (u ∷ names) b ≡ Some t)
place_next t u names same is (inl (b, at)) = (suc b, at)
place_next t u names same is (inr yes_same) = (zero, ap Some (sym ((bytes_eq-Decides t u).0 (is ∙ yes_same))))

place_in : (t : List ℕ) (names : List (List ℕ)) → list_any (bytes_eq t) names ≡ true → (b : ℕ) × (slice_get names b ≡ Some t)
place_in t [] held = absurd cc
place_in t (u ∷ names) held = place_next t u names (bytes_eq t u) refl (by (bytes_eq t u) held (place_in t names))
  where
    by : (same : Bool) → (same || list_any (bytes_eq t) names) ≡ true → (list_any (bytes_eq t) names ≡ true → (b : ℕ) × (slice_get names b ≡ Some t)) → ((b : ℕ) × (slice_get names b ≡ Some t)) ⊎ (same ≡ true)
    by true e rest = inr refl
    by false e rest = inl (rest e)

with_text-holds : (names : List (List ℕ)) (t : List ℕ) → (b : ℕ) × (slice_get (with_text names t) b ≡ Some t)
with_text-holds names t = by (list_any (bytes_eq t) names) refl
  where
    by : (held : Bool) → list_any (bytes_eq t) names ≡ held → (b : ℕ) × (slice_get (if held then names else names ++ t ∷ []) b ≡ Some t)
    by true is = place_in t names is
    by false is = (length names, last_at names t)

-- the table that has learnt the second covers both
covered_table : (names others : List (List ℕ)) → IsTable names → All IsName others → IsTable (learnt names others)
covered_table names [] table are = table
covered_table names (t ∷ others) table are =
    covered_table (with_text names t) others (IsTable-with_text names t table (All-head IsName t others are)) (All-tail IsName t others are)

covered_holds : (names others : List (List ℕ)) → Covers (learnt names others) others
covered_holds names [] a t at = absurd cc
covered_holds names (u ∷ others) zero t at =
    let held = with_text-holds names u in
    let rest = learnt_more (with_text names u) others in
    let same : u ≡ t = cc in
    (held.0, subst (λ l. slice_get l held.0 ≡ Some t) (sym rest.1) (held_more (with_text names u) rest.0 held.0 t (held.1 ∙ ap Some same)))
covered_holds names (u ∷ others) (suc a) t at = covered_holds (with_text names u) others a t at

-- alike over a table with more names is alike over the table of the labels
alike_back : (names others behind : List (List ℕ)) {v w : Plain} → EachLabel (NamesLabel names) v → Alike (names ++ behind) others v w → Alike names others v w
alike_back names others behind labels alike_nil = alike_nil
alike_back names others behind labels (alike_elem {a} same inside rest) =
    let at = NamesLabel-found names a labels.0 in
    let kept : name_text (names ++ behind) a ≡ name_text names a = ap (λ o. unwrap_or o []) (held_more names behind a (name_text names a) at) in
    alike_elem (sym kept ∙ same) (alike_back names others behind labels.1 inside) (alike_back names others behind labels.2 rest)
alike_back names others behind labels (alike_leaf same rest) = alike_leaf same (alike_back names others behind labels rest)

-- forests that the same bytes spell are alike
pub spelled_alike : (names others : List (List ℕ)) (bytes : List ℕ) (v w : Plain) → Spells names bytes v → Spells others bytes w → Alike names others v w
spelled_alike names others bytes v w is are =
    let big = learnt names others in
    let grown = learnt_more names others in
    let table = covered_table names others is.table are.table.names in
    let over = spelled_over big others (covered_holds names others) are.forest in
    let again : Spelled big whole bytes v = subst (λ l. Spelled l whole bytes v) (sym grown.1) (spelled-more grown.0 is.forest) in
    let same : over.0 ≡ v = spelled_once big bytes over.0 v table over.1 again in
    let alike : Alike (names ++ grown.0) others v w = subst (λ l. Alike l others v w) grown.1 (subst (λ h. Alike big others h w) same over.2) in
    alike_back names others grown.0 (spelled_labels is.forest) alike
