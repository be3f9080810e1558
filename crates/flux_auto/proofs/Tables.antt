-- What states stand for stays as states are put at the end.
use Rattle.std.proofs.Common.{◌≡◌, ℕ, zero, suc, ◌+◌, ◌<◌, ◌≤◌, ◌⊎◌, List, [], ◌∷◌, ◌++◌, length, Some, slice_get, refl, sym, ap, subst, ◌∙◌, inl, inr, arith, append_assoc, length-append}
use Rattle.std.proofs.lemmas.List.{append-nil}
use Rattle.std.proofs.lemmas.Option.{slice_get_within}
use Rattle.flux_trees.specs.Hedge.{Plain, nil, elem, leaf}
use Rattle.flux_schema.specs.Ty.{Ty, empty, atom, element, any_element, seq, alt, star, named}
use Rattle.flux_schema.specs.Definitions.{Definitions}
use Rattle.flux_types.specs.Read.{ty_of}
use Rattle.flux_auto.specs.declared.edge.Edge.{Edge}
use Rattle.flux_auto.specs.declared.edge.Edge.TheVariants.{Atom, Elem, AnyElem}
use Rattle.flux_auto.specs.declared.table.Cell.{Cell}
use Rattle.flux_auto.specs.declared.table.Row.{Row}
use Rattle.flux_auto.specs.Takes.{EdgeBelow, EdgesBelow}
use Rattle.flux_auto.specs.Standing.{In, list_of, at, lists_after, lists, Follows, FollowsAny, Starts, IsContent, Ready, IsHeadLabel, IsTableLabel, LabelsStand, EdgeLabelled, EdgesLabelled, Reads}
use Rattle.flux_auto.specs.Built.{IsOwn, IsClosed, IsFresh}
use Rattle.flux_auto.proofs.Items.{some_is, get-append, get-end, split_at}

-- ---- the lists

lists_after-append : (ts : List (List Ty)) (cs ds : List Cell) → lists_after ts (cs ++ ds) ≡ lists_after (lists_after ts cs) ds
lists_after-append ts [] ds = refl
lists_after-append ts (c ∷ cs) ds = lists_after-append (ts ++ (ty_of c.head ∷ at ts c.tail) ∷ []) cs ds

length-lists_after : (ts : List (List Ty)) (cs : List Cell) → length (lists_after ts cs) ≡ length ts + length cs
length-lists_after ts [] = omega arith
length-lists_after ts (c ∷ cs) = omega (arith, length-lists_after (ts ++ (ty_of c.head ∷ at ts c.tail) ∷ []) cs, length-append ts ((ty_of c.head ∷ at ts c.tail) ∷ []))

pub length-lists : (cs : List Cell) → length (lists cs) ≡ length cs
length-lists cs = omega (arith, length-lists_after [] cs)

lists_after-more : (ts : List (List Ty)) (cs : List Cell) → (more : List (List Ty)) × (lists_after ts cs ≡ ts ++ more)
lists_after-more ts [] = ([], sym (append-nil ts))
lists_after-more ts (c ∷ cs) =
    let p = lists_after-more (ts ++ (ty_of c.head ∷ at ts c.tail) ∷ []) cs in
    ((ty_of c.head ∷ at ts c.tail) ∷ p.0, p.1 ∙ append_assoc ts ((ty_of c.head ∷ at ts c.tail) ∷ []) p.0)

pub at-grows : (cs ds : List Cell) (i : ℕ) → i < length cs → at (lists (cs ++ ds)) i ≡ at (lists cs) i
at-grows cs ds i h =
    let p = lists_after-more (lists cs) ds in
    ap (λ t. at t i) (lists_after-append [] cs ds ∙ p.1) ∙ ap list_of (get-append (lists cs) p.0 i (omega (arith, h, length-lists cs)))

at-last : (cs : List Cell) (c : Cell) → at (lists (cs ++ c ∷ [])) (length cs) ≡ ty_of c.head ∷ at (lists cs) c.tail
at-last cs c =
    ap (λ t. at t (length cs)) (lists_after-append [] cs (c ∷ [])) ∙ ap (λ i. at (lists cs ++ (ty_of c.head ∷ at (lists cs) c.tail) ∷ []) i) (sym (length-lists cs))
    ∙ ap list_of (get-end (lists cs) (ty_of c.head ∷ at (lists cs) c.tail) [])

pub at-end : (cs ds : List Cell) (c : Cell) → at (lists (cs ++ c ∷ ds)) (length cs) ≡ ty_of c.head ∷ at (lists cs) c.tail
at-end cs ds c =
    ap (λ l. at (lists l) (length cs)) (sym (append_assoc cs (c ∷ []) ds))
    ∙ at-grows (cs ++ c ∷ []) ds (length cs) (omega (arith, length-append cs (c ∷ [])))
    ∙ at-last cs c

-- the list of a state, by its cell
pub at-cell : (cs : List Cell) (s : ℕ) (c : Cell) → slice_get cs s ≡ Some c → c.tail < s → at (lists cs) s ≡ ty_of c.head ∷ at (lists cs) c.tail
at-cell cs s c e h =
    let p = split_at cs s c e in
    ap (at (lists cs)) (sym p.3) ∙ ap (λ l. at (lists l) (length p.0)) p.2 ∙ at-end p.0 p.1 c
    ∙ ap (λ k. ty_of c.head ∷ k) (sym (ap (λ l. at (lists l) c.tail) p.2 ∙ at-grows p.0 (c ∷ p.1) c.tail (let l = p.3 in omega (arith, h, l))))

-- ---- edges

edge-more : (m n : ℕ) (e : Edge) → m ≤ n → EdgeBelow m e → EdgeBelow n e
edge-more m n (Atom k r) l h = omega (arith, l, h)
edge-more m n (Elem j c r) l h = (omega (arith, l, h.0), omega (arith, l, h.1))
edge-more m n (AnyElem c r) l h = (omega (arith, l, h.0), omega (arith, l, h.1))

pub edges-more : (m n : ℕ) (es : List Edge) → m ≤ n → EdgesBelow m es → EdgesBelow n es
edges-more m n [] l h = tt
edges-more m n (e ∷ es) l h = (edge-more m n e l h.0, edges-more m n es l h.1)

pub edges-append : (n : ℕ) (es fs : List Edge) → EdgesBelow n es → EdgesBelow n fs → EdgesBelow n (es ++ fs)
edges-append n [] fs h k = k
edges-append n (e ∷ es) fs h k = (h.0, edges-append n es fs h.1 k)

-- ---- labels

pub head_label-grows : (cs ds : List Cell) (n : ℕ) → IsHeadLabel cs n → IsHeadLabel (cs ++ ds) n
head_label-grows cs ds n (s, c, is, l) = (s, c, get-append cs ds s (slice_get_within cs s c is) ∙ is, l)

module _ (defs : Definitions) where
  pub table_label-grows : (cs ds : List Cell) (n : ℕ) → IsTableLabel defs cs n → IsTableLabel defs (cs ++ ds) n
  table_label-grows cs ds n (inl h) = inl h
  table_label-grows cs ds n (inr h) = inr (head_label-grows cs ds n h)

  pub labels-stand-grow : (cs ds : List Cell) (t : Ty) → LabelsStand defs cs t → LabelsStand defs (cs ++ ds) t
  labels-stand-grow cs ds t f n h = table_label-grows cs ds n (f n h)

  edge_labelled-grows : (cs ds : List Cell) (e : Edge) → EdgeLabelled defs cs e → EdgeLabelled defs (cs ++ ds) e
  edge_labelled-grows cs ds (Atom k r) h = tt
  edge_labelled-grows cs ds (Elem n c r) h = table_label-grows cs ds n h
  edge_labelled-grows cs ds (AnyElem c r) h = tt

  pub labelled-grows : (cs ds : List Cell) (es : List Edge) → EdgesLabelled defs cs es → EdgesLabelled defs (cs ++ ds) es
  labelled-grows cs ds [] h = tt
  labelled-grows cs ds (e ∷ es) h = (edge_labelled-grows cs ds e h.0, labelled-grows cs ds es h.1)

  pub labelled-append : (cs : List Cell) (es fs : List Edge) → EdgesLabelled defs cs es → EdgesLabelled defs cs fs → EdgesLabelled defs cs (es ++ fs)
  labelled-append cs [] fs h k = k
  labelled-append cs (e ∷ es) fs h k = (h.0, labelled-append cs es fs h.1 k)

  -- the label of an edge that is there
  pub labelled-at : (cs : List Cell) (es : List Edge) (i n c r : ℕ) → EdgesLabelled defs cs es → slice_get es i ≡ Some (Elem n c r) → IsTableLabel defs cs n
  labelled-at cs [] i n c r h e = cc
  labelled-at cs (f ∷ es) zero n c r h e = (let same : f ≡ Elem n c r = some_is f (Elem n c r) e in subst (EdgeLabelled defs cs) same h.0)
  labelled-at cs (f ∷ es) (suc i) n c r h e = labelled-at cs es i n c r h.1 e

module _ (defs : Definitions) where
  follows_as : (n : ℕ) (ts us : List (List Ty)) → ((i : ℕ) → i < n → at ts i ≡ at us i) → (e : Edge) → EdgeBelow n e → (z : Plain) → Follows defs ts e z → Follows defs us e z
  follows_as n ts us f (Atom k r) b nil h = h
  follows_as n ts us f (Atom k r) b (elem _ a v w) h = h
  follows_as n ts us f (Atom k r) b (leaf _ x w) h = (h.0, subst (In defs w) (f r b) h.1)
  follows_as n ts us f (Elem m c r) b nil h = h
  follows_as n ts us f (Elem m c r) b (elem _ a v w) h = (h.0, subst (In defs v) (f c b.0) h.1, subst (In defs w) (f r b.1) h.2)
  follows_as n ts us f (Elem m c r) b (leaf _ x w) h = h
  follows_as n ts us f (AnyElem c r) b nil h = h
  follows_as n ts us f (AnyElem c r) b (elem _ a v w) h = (subst (In defs v) (f c b.0) h.0, subst (In defs w) (f r b.1) h.1)
  follows_as n ts us f (AnyElem c r) b (leaf _ x w) h = h

  pub any_as : (n : ℕ) (ts us : List (List Ty)) → ((i : ℕ) → i < n → at ts i ≡ at us i) → (es : List Edge) → EdgesBelow n es → (z : Plain) → FollowsAny defs ts es z → FollowsAny defs us es z
  any_as n ts us f [] b z h = h
  any_as n ts us f (e ∷ es) b z (inl h) = inl (follows_as n ts us f e b.0 z h)
  any_as n ts us f (e ∷ es) b z (inr h) = inr (any_as n ts us f es b.1 z h)

  pub any-left : (ts : List (List Ty)) (es fs : List Edge) (z : Plain) → FollowsAny defs ts es z → FollowsAny defs ts (es ++ fs) z
  any-left ts [] fs z h = absurd h
  any-left ts (e ∷ es) fs z (inl h) = inl h
  any-left ts (e ∷ es) fs z (inr h) = inr (any-left ts es fs z h)

  pub any-right : (ts : List (List Ty)) (es fs : List Edge) (z : Plain) → FollowsAny defs ts fs z → FollowsAny defs ts (es ++ fs) z
  any-right ts [] fs z h = h
  any-right ts (e ∷ es) fs z h = inr (any-right ts es fs z h)

  pub any-cases : (ts : List (List Ty)) (es fs : List Edge) (z : Plain) → FollowsAny defs ts (es ++ fs) z → FollowsAny defs ts es z ⊎ FollowsAny defs ts fs z
  any-cases ts [] fs z h = inr h
  any-cases ts (e ∷ es) fs z (inl h) = inl (inl h)
  any-cases ts (e ∷ es) fs z (inr h) = elim (any-cases ts es fs z h) [ inl h ↦ inl (inr h) | inr h ↦ inr h ]

  -- ---- what is said of states stays as others are put behind them

  any-grows : (cs ds : List Cell) (es : List Edge) → EdgesBelow (length cs) es → (z : Plain) → FollowsAny defs (lists cs) es z → FollowsAny defs (lists (cs ++ ds)) es z
  any-grows cs ds es b z h = any_as (length cs) (lists cs) (lists (cs ++ ds)) (λ i l. sym (at-grows cs ds i l)) es b z h

  any-shrinks : (cs ds : List Cell) (es : List Edge) → EdgesBelow (length cs) es → (z : Plain) → FollowsAny defs (lists (cs ++ ds)) es z → FollowsAny defs (lists cs) es z
  any-shrinks cs ds es b z h = any_as (length cs) (lists (cs ++ ds)) (lists cs) (λ i l. at-grows cs ds i l) es b z h

  pub Reads-grows : (cs ds : List Cell) (t : Ty) (tail : ℕ) (es : List Edge) → Reads defs cs t tail es → Reads defs (cs ++ ds) t tail es
  Reads-grows cs ds t tail es r = record {
    tail_below = omega (arith, r.tail_below, length-append cs ds);
    below = edges-more (length cs) (length (cs ++ ds)) es (omega (arith, length-append cs ds)) r.below;
    labels = labelled-grows defs cs ds es r.labels;
    sound = λ z h. subst (λ k. Starts defs t k z) (sym (at-grows cs ds tail r.tail_below)) (r.sound z (any-shrinks cs ds es r.below z h));
    complete = λ z h. any-grows cs ds es r.below z (r.complete z (subst (λ k. Starts defs t k z) (at-grows cs ds tail r.tail_below) h));
  }

  pub IsOwn-grows : (cs ds : List Cell) (s : ℕ) (r : Row) → IsOwn defs cs s r → IsOwn defs (cs ++ ds) s r
  IsOwn-grows cs ds s r o = record {
    cell = o.cell;
    is = get-append cs ds s (slice_get_within cs s o.cell o.is) ∙ o.is;
    older = o.older;
    reads = Reads-grows cs ds (ty_of o.cell.head) o.cell.tail r.edges.items o.reads;
    ends = o.ends;
  }

  pub IsClosed-grows : (cs ds : List Cell) (s : ℕ) (r : Row) → s < length cs → IsClosed defs cs s r → IsClosed defs (cs ++ ds) s r
  IsClosed-grows cs ds s r lt k = record {
    below = edges-more (length cs) (length (cs ++ ds)) r.edges.items (omega (arith, length-append cs ds)) k.below;
    labels = labelled-grows defs cs ds r.edges.items k.labels;
    sound = λ z h. subst (In defs z) (sym (at-grows cs ds s lt)) (k.sound z (any-shrinks cs ds r.edges.items k.below z h));
    complete = λ z ne h. any-grows cs ds r.edges.items k.below z (k.complete z ne (subst (In defs z) (at-grows cs ds s lt) h));
    ends = (λ e. subst (In defs nil) (sym (at-grows cs ds s lt)) (k.ends.0 e), λ h. k.ends.1 (subst (In defs nil) (at-grows cs ds s lt) h));
  }

pub IsContent-grows : (cs ds : List Cell) (s : ℕ) (t : Ty) → IsContent cs s t → IsContent (cs ++ ds) s t
IsContent-grows cs ds s t k = record {
  later = k.later;
  cell = k.cell;
  is = get-append cs ds s (slice_get_within cs s k.cell k.is) ∙ k.is;
  head_is = k.head_is;
  tail_is = k.tail_is;
}

pub Ready-grows : (n : ℕ) (cs ds : List Cell) (t : Ty) → Ready n cs t → Ready n (cs ++ ds) t
Ready-grows n cs ds empty h = tt
Ready-grows n cs ds (atom k) h = tt
Ready-grows n cs ds (element m t) h = (h.0, IsContent-grows cs ds h.0 t h.1)
Ready-grows n cs ds (any_element t) h = (h.0, IsContent-grows cs ds h.0 t h.1)
Ready-grows n cs ds (seq t u) h = (Ready-grows n cs ds t h.0, Ready-grows n cs ds u h.1)
Ready-grows n cs ds (alt t u) h = (Ready-grows n cs ds t h.0, Ready-grows n cs ds u h.1)
Ready-grows n cs ds (star t) h = Ready-grows n cs ds t h
Ready-grows n cs ds (named x) h = h

pub IsFresh-grows : (n : ℕ) (cs ds : List Cell) (c : Cell) → IsFresh n cs c → IsFresh n (cs ++ ds) c
IsFresh-grows n cs ds c f = record { tail = f.tail; ready = Ready-grows n cs ds (ty_of c.head) f.ready }
