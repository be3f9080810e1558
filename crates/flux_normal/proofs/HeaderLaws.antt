-- Lists that are made part by part, and types without a fault in lists of them.
use Rattle.std.proofs.Common.{◌≡◌, ◌+◌, ◌<◌, ◌≤◌, ℕ, List, [], ◌∷◌, ◌++◌, append_assoc, append-nil, length, drop, drop-cons, get_or, map, flat_map, refl, sym, subst, ap, ap₂, ◌∙◌, add-one}
use Rattle.std.specs.List.{AllZip}
use Rattle.std.proofs.lemmas.List.{drop_all}
use Rattle.flux_grammar.specs.declared.tree.TypeText.{TypeText}
use Rattle.flux_normal.specs.Types.{IsFine, AreFine}
use Rattle.flux_normal.proofs.PathLaws.{split}

-- a list that is made is as it should be, once what is still to come is
module _ {A B : Type 0} (R : A → B → Type 0) (all : List A) where
  abbrev pub MadeSoFar : ℕ → List B → Type 0
  MadeSoFar i done = (more : List B) → AllZip R (drop i all) more → AllZip R all (done ++ more)

  pub made_begin : MadeSoFar 0 []
  made_begin more rest = rest

  pub made_one : (i : ℕ) (x : A) (y : B) (done next : List B) → i < length all → x ≡ get_or all i x → R x y → next ≡ done ++ y ∷ [] → MadeSoFar i done → MadeSoFar (i + 1) next
  made_one i x y done next lt is r grown so more rest =
      subst (AllZip R all) (sym (ap (λ l. l ++ more) grown ∙ append_assoc done (y ∷ []) more))
      (so (y ∷ more) (subst (λ l. AllZip R l (y ∷ more)) (sym (split all i x lt is)) (r, rest)))

  pub made_all : (i : ℕ) (done : List B) → length all ≤ i → MadeSoFar i done → AllZip R all done
  made_all i done le so = subst (AllZip R all) (append-nil done) (so [] (subst (λ l. AllZip R l []) (sym (drop_all i all le)) tt))

module _ (names : List ℕ) where
  pub fine_left : (ts us : List TypeText) → AreFine names (ts ++ us) → AreFine names ts
  fine_left [] us h = tt
  fine_left (t ∷ ts) us h = (h.0, fine_left ts us h.1)

  pub fine_right : (ts us : List TypeText) → AreFine names (ts ++ us) → AreFine names us
  fine_right [] us h = h
  fine_right (t ∷ ts) us h = fine_right ts us h.1

  -- the types of what is still to come
  module _ {X : Type 0} (types : X → List TypeText) (all : List X) (i : ℕ) (x : X) (lt : i < length all) (is : x ≡ get_or all i x) (h : AreFine names (flat_map types (drop i all))) where
    apart : AreFine names (types x ++ flat_map types (drop (i + 1) all))
    apart = subst (λ l. AreFine names (flat_map types l)) (split all i x lt is) h

    pub fine_here : AreFine names (types x)
    fine_here = fine_left (types x) (flat_map types (drop (i + 1) all)) apart

    pub fine_later : AreFine names (flat_map types (drop (i + 1) all))
    fine_later = fine_right (types x) (flat_map types (drop (i + 1) all)) apart

  -- one type of each
  module _ {X : Type 0} (type : X → TypeText) (all : List X) (i : ℕ) (x : X) (lt : i < length all) (is : x ≡ get_or all i x) (h : AreFine names (map type (drop i all))) where
    parted : AreFine names (type x ∷ map type (drop (i + 1) all))
    parted = subst (λ l. AreFine names (map type l)) (split all i x lt is) h

    pub fine_one : IsFine names (type x)
    fine_one = parted.0

    pub fine_others : AreFine names (map type (drop (i + 1) all))
    fine_others = parted.1
