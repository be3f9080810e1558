-- Names are located as they are added.
use Rattle.std.proofs.Common.{◌≡◌, ◌⊎◌, ℕ, zero, suc, ◌<◌, List, [], ◌∷◌, ◌++◌, length, Option, Some, None, slice_get, refl, sym, ap, ◌∙◌, inl, inr, arith}
use Rattle.std.proofs.lemmas.Option.{same_Some}
use Rattle.std.proofs.Math.ListN.{set}
use Rattle.flux_types.specs.Indices.{index_in, Locates}
use Rattle.flux_types.proofs.KeptLaws.{get-push}
use Rattle.flux_atom.proofs.Plain.{same_or_not}

pub index_in-push : (ps : List (Option ℕ)) (n : ℕ) → index_in (ps ++ None ∷ []) n ≡ index_in ps n
index_in-push [] zero = refl
index_in-push [] (suc n) = refl
index_in-push (q ∷ ps) zero = refl
index_in-push (q ∷ ps) (suc n) = index_in-push ps n

pub index_in-set : (ps : List (Option ℕ)) (n : ℕ) (p : Option ℕ) → n < length ps → index_in (set ps n p) n ≡ p
index_in-set [] n p h = absurd (omega (arith, h))
index_in-set (q ∷ ps) zero p h = refl
index_in-set (q ∷ ps) (suc n) p h = index_in-set ps n p (omega (arith, h))

pub index_in-other : (ps : List (Option ℕ)) (n m : ℕ) (p : Option ℕ) → (m ≡ n → ⊥) → index_in (set ps n p) m ≡ index_in ps m
index_in-other [] n m p ne = refl
index_in-other (q ∷ ps) zero zero p ne = absurd (ne refl)
index_in-other (q ∷ ps) zero (suc m) p ne = refl
index_in-other (q ∷ ps) (suc n) zero p ne = refl
index_in-other (q ∷ ps) (suc n) (suc m) p ne = index_in-other ps n m p (λ e. ne (ap suc e))

pub locates-same : (ps qs : List (Option ℕ)) (ns : List ℕ) → ((n : ℕ) → index_in qs n ≡ index_in ps n) → Locates ps ns → Locates qs ns
locates-same ps qs ns same l n x = ((λ e. (l n x).0 (sym (same n) ∙ e)), (λ e. same n ∙ (l n x).1 e))

get_front : (ns : List ℕ) (n x m : ℕ) → slice_get ns x ≡ Some m → slice_get (ns ++ n ∷ []) x ≡ Some m
get_front [] n x m e = cc
get_front (k ∷ ns) n zero m e = e
get_front (k ∷ ns) n (suc x) m e = get_front ns n x m e

get_last : (ns : List ℕ) (n : ℕ) → slice_get (ns ++ n ∷ []) (length ns) ≡ Some n
get_last [] n = refl
get_last (k ∷ ns) n = get_last ns n

pub locates-push : (ps qs : List (Option ℕ)) (ns : List ℕ) (n : ℕ) → Locates ps ns → ((x : ℕ) → slice_get ns x ≡ Some n → ⊥) → index_in qs n ≡ Some (length ns) → ((m : ℕ) → (m ≡ n → ⊥) → index_in qs m ≡ index_in ps m)
    → Locates qs (ns ++ n ∷ [])
locates-push ps qs ns n l fresh here others m x = (forth (same_or_not m n), back)
  where
    forth : (m ≡ n) ⊎ (m ≡ n → ⊥) → index_in qs m ≡ Some x → slice_get (ns ++ n ∷ []) x ≡ Some m
    forth (inl e) h =
        let x_is : length ns ≡ x = same_Some (length ns) x (sym here ∙ ap (index_in qs) (sym e) ∙ h) in
        ap (slice_get (ns ++ n ∷ [])) (sym x_is) ∙ get_last ns n ∙ ap Some (sym e)
    forth (inr ne) h = get_front ns n x m ((l m x).0 (sym (others m ne) ∙ h))

    back : slice_get (ns ++ n ∷ []) x ≡ Some m → index_in qs m ≡ Some x
    back h = elim (get-push ns n x m h) [
      | inl old ↦ others m (λ e. fresh x (old ∙ ap Some e)) ∙ (l m x).1 old
      | inr p ↦ ap (index_in qs) (sym p.1) ∙ here ∙ ap Some (sym p.0)
    ]

-- a name without an index isn't there
pub not_located : (ps : List (Option ℕ)) (ns : List ℕ) (n : ℕ) (found : Option ℕ) {i : Option ℕ} → Locates ps ns → i ≡ index_in ps n → found ≡ i → found ≡ None → (x : ℕ) → slice_get ns x ≡ Some n → ⊥
not_located ps ns n found l e is none x h = (let y : None ≡ Some x = sym none ∙ is ∙ e ∙ (l n x).1 h in cc)
