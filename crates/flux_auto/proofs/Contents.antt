-- States for the contents of elements.
use Rattle.std.proofs.Common.{◌≡◌, ℕ, ◌+◌, ◌<◌, ◌≤◌, ◌⊎◌, ◌↔◌, List, [], ◌∷◌, ◌++◌, length, Bool, true, false, IsTrue, Option, Some, None, IfSome, IfNone, unwrap_or, slice_get, get_or, refl, sym, ap, subst, ◌∙◌, inl, inr, arith, length-append}
use Rattle.std.proofs.lemmas.Option.{slice_get_within, slice_get_read}
use Rattle.std.proofs.lemmas.Bool.{eq-eqb}
use Rattle.std.specs.Cmp.Derive.{both_true as two}
use Rattle.flux_atom.specs.declared.atom.AtomKind.{AtomKind}
use Rattle.flux_schema.specs.Ty.{Ty, empty, atom, element, any_element, seq, alt, star, named, NamesBelow}
use Rattle.flux_schema.specs.Labels.{IsLabelOf}
use Rattle.flux_schema.specs.Tidy.{same}
use Rattle.flux_schema.proofs.SameLaws.{same-eq, same_kind-same}
use Rattle.flux_types.specs.declared.ty.Ty.{Ty as Tree}
use Rattle.flux_types.specs.declared.ty.Ty.TheVariants.{Empty, Atom, Named}
use Rattle.flux_types.specs.Read.{ty_of}
use Rattle.flux_types.proofs.Variants.{of_empty, of_atom, of_named}
use Rattle.flux_auto.specs.declared.edge.Edge.{Edge}
use Rattle.flux_auto.specs.declared.table.Cell.{Cell}
use Rattle.flux_auto.specs.declared.table.Table.{Table}
use Rattle.flux_auto.specs.Standing.{IsContent, HasContent, Ready, IsHeadLabel}
use Rattle.flux_auto.specs.Built.{Grows, Put, IsEven, IsFresh, FreshFrom, LabelsFrom, Registered, PutContent}
use Rattle.flux_auto.proofs.Items.{some_is, get-append, get-end}
use Rattle.flux_auto.proofs.Tables.{Ready-grows, IsFresh-grows}
use Rattle.flux_auto.proofs.Growing.{below_or_not, carried}

-- ---- the search for a state

pub same-refl : (t : Ty) → same t t ≡ true
same-refl empty = refl
same-refl (atom k) = same_kind-same k
same-refl (element n t) = two (eq-eqb n n refl) (same-refl t)
same-refl (any_element t) = same-refl t
same-refl (seq t u) = two (same-refl t) (same-refl u)
same-refl (alt t u) = two (same-refl t) (same-refl u)
same-refl (star t) = same-refl t
same-refl (named x) = eq-eqb x x refl

pub content_iff : (r : Bool) (a t : Ty) (n : ℕ) → r ≡ same a t → n ≡ 0 → IsTrue r ↔ ((a ≡ t) × (n ≡ 0))
content_iff r a t n e z = (λ h. (same-eq a t (sym e ∙ h), z), λ h. e ∙ ap (same a) (sym h.0) ∙ same-refl a)

abbrev pub NoneBefore : List Cell → ℕ → Ty → Type 0
NoneBefore cs n t = (s : ℕ) (c : Cell) → 1 ≤ s → s < n → slice_get cs s ≡ Some c → ty_of c.head ≡ t → c.tail ≡ 0 → ⊥

pub none_found : (cs : List Cell) (n : ℕ) (t : Ty) → length cs ≤ n → NoneBefore cs n t → HasContent cs t → ⊥
none_found cs n t le f (s, k) = f s k.cell k.later (omega (arith, le, slice_get_within cs s k.cell k.is)) k.is k.head_is k.tail_is

pub none_next : (cs : List Cell) (n : ℕ) (t : Ty) (c : Cell) → NoneBefore cs n t → n < length cs → c ≡ get_or cs n c → ((ty_of c.head ≡ t) × (c.tail ≡ 0) → ⊥) → NoneBefore cs (n + 1) t
none_next cs n t c before lt is wrong s d later h e head tail =
    elim (below_or_not s n) [
      | inl l ↦ before s d later l e head tail
      | inr l ↦
          let at : s ≡ n = omega (arith, h, l) in
          let same : d ≡ c = some_is d c (sym e ∙ ap (slice_get cs) at ∙ slice_get_read cs (length cs) n c refl lt is) in
          wrong (ap (λ (x : Cell). ty_of x.head) (sym same) ∙ head, ap (λ (x : Cell). x.tail) (sym same) ∙ tail)
    ]

pub found_at : (cs : List Cell) (s : ℕ) (t : Ty) (c : Cell) → 1 ≤ s → s < length cs → c ≡ get_or cs s c → ty_of c.head ≡ t → c.tail ≡ 0 → IsContent cs s t
found_at cs s t c later lt is head tail = record { later = later; cell = c; is = slice_get_read cs (length cs) s c refl lt is; head_is = head; tail_is = tail }

pub found_state : (cs given : List Cell) (t : Ty) (o : Option ℕ) (r : ℕ) → given ≡ cs → IfSome o (λ s. IsContent given s t) → IfNone o (HasContent given t → ⊥) → HasContent cs t → r ≡ unwrap_or o 0 → IsContent cs r t
found_state cs given t None r e f g h is = absurd (g (subst (λ l. HasContent l t) (sym e) h))
found_state cs given t (Some s) r e f g h is = subst (λ i. IsContent cs i t) (sym is) (subst (λ l. IsContent l s t) e f)

-- ---- a state that is put last

pub put-cell : (a b : Table) (head : Ty) (tail : ℕ) (ends : Bool) (edges : List Edge) (s : ℕ) → (p : Put a b head tail ends edges s) → slice_get b.cells.items s ≡ Some p.cell
put-cell a b head tail ends edges s p = ap (slice_get b.cells.items) p.state ∙ ap (λ l. slice_get l (length a.cells.items)) p.cells ∙ get-end a.cells.items p.cell []

pub put_as : (a b : Table) (h head : Ty) (tail : ℕ) (ends : Bool) (es edges : List Edge) (s : ℕ) → h ≡ head → es ≡ edges → Put a b h tail ends es s → Put a b head tail ends edges s
put_as a b h head tail ends es edges s e f p = subst (λ x. Put a b x tail ends edges s) e (subst (λ l. Put a b h tail ends l s) f p)

pub put-even : (a b : Table) (head : Ty) (tail : ℕ) (ends : Bool) (edges : List Edge) (s : ℕ) → IsEven a → Put a b head tail ends edges s → IsEven b
put-even a b head tail ends edges s e p =
    omega (arith, e, ap length p.cells, ap length p.rows, length-append a.cells.items (p.cell ∷ []), length-append a.rows.items (p.row ∷ []))

-- the cells from the length on, where one was put
last_only : (cs : List Cell) (c d : Cell) (s : ℕ) → length cs ≤ s → slice_get (cs ++ c ∷ []) s ≡ Some d → c ≡ d
last_only cs c d s le e =
    let lt : s < length (cs ++ c ∷ []) = slice_get_within (cs ++ c ∷ []) s d e in
    let at : s ≡ length cs = omega (arith, le, lt, length-append cs (c ∷ [])) in
    some_is c d (sym (get-end cs c []) ∙ ap (slice_get (cs ++ c ∷ [])) (sym at) ∙ e)

labels_put : (a b : Table) (t : Ty) (tail : ℕ) (ends : Bool) (edges : List Edge) (s : ℕ) → Put a b t tail ends edges s → LabelsFrom a b t
labels_put a b t tail ends edges s p n (i, c, is, l) =
    let get : slice_get (a.cells.items ++ p.cell ∷ []) i ≡ Some c = ap (λ k. slice_get k i) (sym p.cells) ∙ is in
    elim (below_or_not i (length a.cells.items)) [
      | inl lt ↦ inl (i, c, sym (get-append a.cells.items (p.cell ∷ []) i lt) ∙ get, l)
      | inr le ↦
          let same : p.cell ≡ c = last_only a.cells.items p.cell c i le get in
          inr (subst (IsLabelOf n) (ap (λ (d : Cell). ty_of d.head) (sym same) ∙ p.head_is) l)
    ]

pub content_put : (a b : Table) (t : Ty) (s : ℕ) → IsEven a → 1 ≤ length a.cells.items → Put a b t 0 false [] s → PutContent a b t s
content_put a b t s even begun p = record {
  even = put-even a b t 0 false [] s even p;
  content = record { later = omega (arith, begun, p.state); cell = p.cell; is = put-cell a b t 0 false [] s p; head_is = p.head_is; tail_is = p.tail_is };
  fresh = λ n ready i c le e.
      let same : p.cell ≡ c = last_only a.cells.items p.cell c i le (ap (λ l. slice_get l i) (sym p.cells) ∙ e) in
      subst (IsFresh n b.cells.items) same
      (record { tail = p.tail_is; ready = subst (λ l. Ready n l (ty_of p.cell.head)) (sym p.cells) (Ready-grows n a.cells.items (p.cell ∷ []) (ty_of p.cell.head) (subst (Ready n a.cells.items) (sym p.head_is) ready)) });
  labels = labels_put a b t 0 false [] s p;
}

none_new : (n : ℕ) (cs : List Cell) → FreshFrom n (length cs) cs
none_new n cs s c le e = absurd (omega (arith, le, slice_get_within cs s c e))

-- ---- the contents of a type

pub fresh_on : (n m i : ℕ) (a b : Table) → FreshFrom n i a.cells.items → Grows m a b → FreshFrom n (length a.cells.items) b.cells.items → FreshFrom n i b.cells.items
fresh_on n m i a b f g h s c le e =
    elim (below_or_not s (length a.cells.items)) [
      | inr l ↦ h s c l e
      | inl l ↦
          let was : slice_get a.cells.items s ≡ Some c = sym (ap (λ k. slice_get k s) g.cells ∙ get-append a.cells.items g.more s l) ∙ e in
          carried (λ k. IsFresh n k c) m a b g (λ more. IsFresh-grows n a.cells.items more c (f s c le was))
    ]

pub registered_none : (a : Table) (t : Ty) → IsEven a → ((n : ℕ) → NamesBelow n t → Ready n a.cells.items t) → Registered a a t
registered_none a t even f = record { even = even; ready = f; fresh = λ n b. none_new n a.cells.items; labels = λ n h. inl h }

pub registered_leaf : (a : Table) (x : Tree) → IsEven a → (x ≡ Empty) ⊎ (((k : AtomKind) × (x ≡ Atom k)) ⊎ ((n : ℕ) × (x ≡ Named n))) → Registered a a (ty_of x)
registered_leaf a x even (inl e) = subst (Registered a a) (sym (of_empty x e)) (registered_none a empty even (λ n b. tt))
registered_leaf a x even (inr (inl (k, e))) = subst (Registered a a) (sym (of_atom x k e)) (registered_none a (atom k) even (λ n b. tt))
registered_leaf a x even (inr (inr (i, e))) = subst (Registered a a) (sym (of_named x i e)) (registered_none a (named i) even (λ n b. b))

pub registered_as : (a b : Table) (t u : Ty) → u ≡ t → Registered a b t → Registered a b u
registered_as a b t u e r = subst (Registered a b) (sym e) r

pub registered_star : (a b : Table) (t : Ty) → Registered a b t → Registered a b (star t)
registered_star a b t r = record { even = r.even; ready = r.ready; fresh = r.fresh; labels = r.labels }

-- those of a type, and of its content once more
labels_twice : (a b c : Table) (t : Ty) → LabelsFrom a b t → LabelsFrom b c t → LabelsFrom a c t
labels_twice a b c t f g n h = elim (g n h) [ inl k ↦ f n k | inr l ↦ inr l ]

pub registered_element : (a b c : Table) (m : ℕ) (t : Ty) (s k : ℕ) → Registered a b t → Grows k b c → PutContent b c t s → Registered a c (element m t)
registered_element a b c m t s k r g p = record {
  even = p.even;
  ready = λ n below. (s, p.content);
  fresh = λ n below. fresh_on n k (length a.cells.items) b c (r.fresh n below) g (p.fresh n (r.ready n below));
  labels = λ n h. elim (labels_twice a b c t r.labels p.labels n h) [ inl o ↦ inl o | inr l ↦ inr (inr l) ];
}

pub registered_any : (a b c : Table) (t : Ty) (s k : ℕ) → Registered a b t → Grows k b c → PutContent b c t s → Registered a c (any_element t)
registered_any a b c t s k r g p = record {
  even = p.even;
  ready = λ n below. (s, p.content);
  fresh = λ n below. fresh_on n k (length a.cells.items) b c (r.fresh n below) g (p.fresh n (r.ready n below));
  labels = labels_twice a b c t r.labels p.labels;
}

-- one type and another
module _ (a b c : Table) (k : ℕ) (t u : Ty) (x : Registered a b t) (g : Grows k b c) (y : Registered b c u) where
  both_ready : (n : ℕ) → NamesBelow n t → NamesBelow n u → Ready n c.cells.items t × Ready n c.cells.items u
  both_ready n p q = (carried (λ l. Ready n l t) k b c g (λ more. Ready-grows n b.cells.items more t (x.ready n p)), y.ready n q)

  both_fresh : (n : ℕ) → NamesBelow n t → NamesBelow n u → FreshFrom n (length a.cells.items) c.cells.items
  both_fresh n p q = fresh_on n k (length a.cells.items) b c (x.fresh n p) g (y.fresh n q)

  both_labels : (n : ℕ) → IsHeadLabel c.cells.items n → IsHeadLabel a.cells.items n ⊎ (IsLabelOf n t ⊎ IsLabelOf n u)
  both_labels n h = elim (y.labels n h) [ inr l ↦ inr (inr l) | inl b ↦ elim (x.labels n b) [ inr l ↦ inr (inl l) | inl o ↦ inl o ] ]

  pub registered_seq : Registered a c (seq t u)
  registered_seq = record { even = y.even; ready = λ n b. both_ready n b.0 b.1; fresh = λ n b. both_fresh n b.0 b.1; labels = both_labels }

  pub registered_alt : Registered a c (alt t u)
  registered_alt = record { even = y.even; ready = λ n b. both_ready n b.0 b.1; fresh = λ n b. both_fresh n b.0 b.1; labels = both_labels }
