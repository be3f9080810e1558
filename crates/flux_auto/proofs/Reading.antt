-- What each form of a type is read as.
use Rattle.std.proofs.Common.{◌≡◌, ℕ, ◌<◌, ◌↔◌, List, [], ◌∷◌, ◌++◌, length, Bool, true, false, cond, Some, slice_get, refl, sym, ap, ap₂, subst, ◌∙◌, inl, inr, arith, length-append}
use Rattle.std.proofs.lemmas.Option.{slice_get_within}
use Rattle.flux_atom.specs.declared.atom.AtomKind.{AtomKind}
use Rattle.flux_trees.specs.Hedge.{Plain, nil, elem, leaf}
use Rattle.flux_schema.specs.Ty.{Ty, empty, atom, element, any_element, seq, alt, star, named}
use Rattle.flux_schema.specs.Definitions.{Definitions, body_of}
use Rattle.flux_schema.specs.Member.{Member, in_done, in_name}
use Rattle.flux_schema.specs.Labels.{IsLabelOf}
use Rattle.flux_types.specs.Read.{ty_of}
use Rattle.flux_auto.specs.declared.edge.Edge.{Edge}
use Rattle.flux_auto.specs.declared.edge.Edge.TheVariants.{Atom, Elem, AnyElem}
use Rattle.flux_auto.specs.declared.table.Cell.{Cell}
use Rattle.flux_auto.specs.declared.table.Row.{Row}
use Rattle.flux_auto.specs.declared.table.Table.{Table}
use Rattle.flux_auto.specs.Takes.{has, EdgesBelow}
use Rattle.flux_auto.specs.Standing.{In, is_nullable, TellsNullable, at, lists, FollowsAny, Starts, Ready, IsTableLabel, LabelsStand, EdgesLabelled, Reads, IsContent}
use Rattle.flux_auto.specs.Built.{Grows, Put, IsSet, IsEven, IsGround, IsOwn, OwnFrom, NoNewLabels, Linear}
use Rattle.flux_auto.proofs.Lists.{is_nullable-sound, is_nullable-complete, starts-empty, starts-atom, atom-starts, starts-element, element-starts, starts-any, any-starts, starts-seq, seq-starts_first, seq-starts_second, starts-alt, alt-starts_left, alt-starts_right, starts-star, star-starts, starts-name, name-starts, alone-in, in-alone}
use Rattle.flux_auto.proofs.Items.{some_is, get-append, get-end}
use Rattle.flux_auto.proofs.Tables.{at-grows, at-cell, edges-append, any-left, any-right, any-cases, Reads-grows, IsOwn-grows, Ready-grows, labels-stand-grow, labelled-append}
use Rattle.flux_auto.proofs.Growing.{below_or_not, grows-length, carried}
use Rattle.flux_auto.proofs.Contents.{put-cell}

module _ (defs : Definitions) where
  -- ---- what grows

  pub ground_on : (nullable : List Bool) (n : ℕ) (a b : Table) → IsGround defs nullable a → Grows n a b → 0 < length a.cells.items → IsEven b → IsGround defs nullable b
  ground_on nullable n a b g r lt even = record {
    even = even;
    end = carried (λ l. at (lists l) 0 ≡ empty ∷ []) n a b r (λ more. at-grows a.cells.items more 0 lt ∙ g.end);
    tells = g.tells;
    bodies = λ x t e. carried (λ l. Ready (length defs) l t) n a b r (λ more. Ready-grows (length defs) a.cells.items more t (g.bodies x t e));
  }

  pub ready_on : (n m : ℕ) (a b : Table) (t : Ty) → Ready m a.cells.items t → Grows n a b → Ready m b.cells.items t
  ready_on n m a b t h g = carried (λ l. Ready m l t) n a b g (λ more. Ready-grows m a.cells.items more t h)

  pub labels_on : (n : ℕ) (a b : Table) (t : Ty) → LabelsStand defs a.cells.items t → Grows n a b → LabelsStand defs b.cells.items t
  labels_on n a b t h g = carried (λ l. LabelsStand defs l t) n a b g (λ more. labels-stand-grow defs a.cells.items more t h)

  reads_on : (n : ℕ) (a b : Table) (t : Ty) (tail : ℕ) (es : List Edge) → Reads defs a.cells.items t tail es → Grows n a b → Reads defs b.cells.items t tail es
  reads_on n a b t tail es r g = carried (λ l. Reads defs l t tail es) n a b g (λ more. Reads-grows defs a.cells.items more t tail es r)

  own_on : (n : ℕ) (a b : Table) → OwnFrom defs n a → Grows (length a.rows.items) a b → OwnFrom defs (length a.rows.items) b → OwnFrom defs n b
  own_on n a b f g h s r le e =
      elim (below_or_not s (length a.rows.items)) [
        | inr l ↦ h s r l e
        | inl l ↦ carried (λ k. IsOwn defs k s r) (length a.rows.items) a b g (λ more. IsOwn-grows defs a.cells.items more s r (f s r le (sym (g.rows s l) ∙ e)))
      ]

  pub own_none : (a : Table) → OwnFrom defs (length a.rows.items) a
  own_none a s r le e = absurd (omega (arith, le, slice_get_within a.rows.items s r e))

  -- ---- a state that is put last

  pub put-grows : (a b : Table) (head : Ty) (tail : ℕ) (ends : Bool) (edges : List Edge) (s : ℕ) → Put a b head tail ends edges s → Grows (length a.rows.items) a b
  put-grows a b head tail ends edges s p = record {
    more = p.cell ∷ [];
    cells = p.cells;
    rows = λ i lt. ap (λ l. slice_get l i) p.rows ∙ get-append a.rows.items (p.row ∷ []) i lt;
    longer = omega (arith, ap length p.rows, length-append a.rows.items (p.row ∷ []));
  }

  pub put-below : (a b : Table) (head : Ty) (tail : ℕ) (ends : Bool) (edges : List Edge) (s : ℕ) → Put a b head tail ends edges s → s < length b.cells.items
  put-below a b head tail ends edges s p = slice_get_within b.cells.items s p.cell (put-cell a b head tail ends edges s p)

  -- its labels are those of the type that was put
  pub put-labels : (a b : Table) (head : Ty) (tail : ℕ) (ends : Bool) (edges : List Edge) (s : ℕ) → LabelsStand defs a.cells.items head → Put a b head tail ends edges s → NoNewLabels defs a b
  put-labels a b head tail ends edges s f p n (inl h) = inl h
  put-labels a b head tail ends edges s f p n (inr (i, c, is, l)) =
      let get : slice_get (a.cells.items ++ p.cell ∷ []) i ≡ Some c = ap (λ k. slice_get k i) (sym p.cells) ∙ is in
      elim (below_or_not i (length a.cells.items)) [
        | inl lt ↦ inr (i, c, sym (get-append a.cells.items (p.cell ∷ []) i lt) ∙ get, l)
        | inr le ↦
            let at : i ≡ length a.cells.items = omega (arith, le, slice_get_within (a.cells.items ++ p.cell ∷ []) i c get, length-append a.cells.items (p.cell ∷ [])) in
            let same : p.cell ≡ c = some_is p.cell c (sym (get-end a.cells.items p.cell []) ∙ ap (slice_get (a.cells.items ++ p.cell ∷ [])) (sym at) ∙ get) in
            f n (subst (IsLabelOf n) (ap (λ (d : Cell). ty_of d.head) (sym same) ∙ p.head_is) l)
      ]

  -- what it stands for, also in a table that grew since
  put-list : (n : ℕ) (a b c : Table) (head : Ty) (tail : ℕ) (ends : Bool) (edges : List Edge) (s : ℕ) → Put a b head tail ends edges s → tail < length a.cells.items → Grows n b c
      → at (lists c.cells.items) s ≡ head ∷ at (lists c.cells.items) tail
  put-list n a b c head tail ends edges s p lt g =
      let get : slice_get c.cells.items s ≡ Some p.cell = ap (λ l. slice_get l s) g.cells ∙ get-append b.cells.items g.more s (put-below a b head tail ends edges s p) ∙ put-cell a b head tail ends edges s p in
      at-cell c.cells.items s p.cell get (omega (arith, p.tail_is, lt, p.state)) ∙ ap₂ (λ h k. h ∷ at (lists c.cells.items) k) p.head_is p.tail_is

  -- the row of a state, from its parts
  pub own_from : (cs : List Cell) (s : ℕ) (r : Row) (cell : Cell) (head : Ty) (tail : ℕ) (edges : List Edge) → slice_get cs s ≡ Some cell → ty_of cell.head ≡ head → cell.tail ≡ tail → r.edges.items ≡ edges
      → tail < s → Reads defs cs head tail edges → (r.ends ≡ true) ↔ Member defs nil head → IsOwn defs cs s r
  own_from cs s r cell head tail edges is h t e lt reads ends = record {
    cell = cell;
    is = is;
    older = omega (arith, t, lt);
    reads =
        subst (λ x. Reads defs cs x cell.tail r.edges.items) (sym h)
        (subst (λ k. Reads defs cs head k r.edges.items) (sym t) (subst (Reads defs cs head tail) (sym e) reads));
    ends = (λ b. subst (Member defs nil) (sym h) (ends.0 b), λ m. ends.1 (subst (Member defs nil) h m));
  }

  put-own : (a b : Table) (head : Ty) (tail : ℕ) (ends : Bool) (edges : List Edge) (s : ℕ) → IsEven a → Put a b head tail ends edges s → tail < length a.cells.items → Reads defs b.cells.items head tail edges
      → (ends ≡ true) ↔ Member defs nil head → OwnFrom defs (length a.rows.items) b
  put-own a b head tail ends edges s even p lt reads is i r le e =
      let i_in : i < length b.rows.items = slice_get_within b.rows.items i r e in
      let here : i ≡ length a.rows.items = omega (arith, le, i_in, ap length p.rows, length-append a.rows.items (p.row ∷ [])) in
      let state : i ≡ s = omega (arith, here, even, p.state) in
      let same : p.row ≡ r = some_is p.row r (sym (ap (λ l. slice_get l (length a.rows.items)) p.rows ∙ get-end a.rows.items p.row []) ∙ ap (slice_get b.rows.items) (sym here) ∙ e) in
      subst (λ j. IsOwn defs b.cells.items j r) (sym state)
      (subst (IsOwn defs b.cells.items s) same
      (own_from b.cells.items s p.row p.cell head tail edges (put-cell a b head tail ends edges s p) p.head_is p.tail_is p.edges_are (omega (arith, lt, p.state)) reads
      (λ b. is.0 (sym p.ends_is ∙ b), λ m. p.ends_is ∙ is.1 m)))

  -- ---- nullable types

  pub null_iff : (nullable : List Bool) → TellsNullable defs nullable → (r : Bool) (t : Ty) → r ≡ is_nullable (has nullable) t → (r ≡ true) ↔ Member defs nil t
  null_iff nullable tells r t e =
      let sound = is_nullable-sound defs (has nullable) (λ x h. (tells x).0 h) in
      (λ h. sound t (sym e ∙ h), λ m. e ∙ is_nullable-complete defs (has nullable) (λ x u is h. (tells x).1 (in_name x is (sound u h))) nil t m refl)

  -- ---- no state more

  pub linear_here : (a : Table) (t : Ty) (tail : ℕ) (es : List Edge) → IsEven a → Reads defs a.cells.items t tail es → Linear defs a a t tail es
  linear_here a t tail es even r = record { even = even; own = own_none a; reads = r; labels = λ n h. h }

  pub linear_empty : (a : Table) (tail : ℕ) (es : List Edge) → IsEven a → tail < length a.cells.items → es ≡ [] → Linear defs a a empty tail es
  linear_empty a tail es even lt e =
      subst (Linear defs a a empty tail) (sym e)
      (linear_here a empty tail [] even (record { tail_below = lt; below = tt; labels = tt; sound = λ z h. absurd h; complete = λ z h. absurd (starts-empty defs (at (lists a.cells.items) tail) z h) }))

  atom_sound : (cs : List Cell) (k : AtomKind) (tail : ℕ) (z : Plain) → FollowsAny defs (lists cs) (Atom k tail ∷ []) z → Starts defs (atom k) (at (lists cs) tail) z
  atom_sound cs k tail z (inr h) = absurd h
  atom_sound cs k tail nil (inl h) = absurd h
  atom_sound cs k tail (elem _ a v w) (inl h) = absurd h
  atom_sound cs k tail (leaf _ x w) (inl h) = subst (λ j. Starts defs (atom j) (at (lists cs) tail) (leaf tt x w)) (sym h.0) (atom-starts defs x (at (lists cs) tail) w h.1)

  atom_complete : (cs : List Cell) (k : AtomKind) (tail : ℕ) (z : Plain) → Starts defs (atom k) (at (lists cs) tail) z → FollowsAny defs (lists cs) (Atom k tail ∷ []) z
  atom_complete cs k tail z h =
      let p = starts-atom defs k (at (lists cs) tail) z h in
      subst (FollowsAny defs (lists cs) (Atom k tail ∷ [])) (sym p.2) (inl (p.3, p.4))

  pub linear_atom : (a : Table) (k : AtomKind) (tail : ℕ) (es : List Edge) → IsEven a → tail < length a.cells.items → es ≡ Atom k tail ∷ [] → Linear defs a a (atom k) tail es
  linear_atom a k tail es even lt e =
      subst (Linear defs a a (atom k) tail) (sym e)
      (linear_here a (atom k) tail (Atom k tail ∷ []) even (record { tail_below = lt; below = (lt, tt); labels = (tt, tt); sound = atom_sound a.cells.items k tail; complete = atom_complete a.cells.items k tail }))

  element_sound : (cs : List Cell) (n : ℕ) (t : Ty) (c tail : ℕ) → at (lists cs) c ≡ t ∷ (empty ∷ []) → (z : Plain) → FollowsAny defs (lists cs) (Elem n c tail ∷ []) z → Starts defs (element n t) (at (lists cs) tail) z
  element_sound cs n t c tail is z (inr h) = absurd h
  element_sound cs n t c tail is nil (inl h) = absurd h
  element_sound cs n t c tail is (leaf _ x w) (inl h) = absurd h
  element_sound cs n t c tail is (elem _ a v w) (inl h) =
      subst (λ m. Starts defs (element n t) (at (lists cs) tail) (elem tt m v w)) h.0 (element-starts defs n t (at (lists cs) tail) v w (alone-in defs t v (subst (In defs v) is h.1)) h.2)

  element_complete : (cs : List Cell) (n : ℕ) (t : Ty) (c tail : ℕ) → at (lists cs) c ≡ t ∷ (empty ∷ []) → (z : Plain) → Starts defs (element n t) (at (lists cs) tail) z → FollowsAny defs (lists cs) (Elem n c tail ∷ []) z
  element_complete cs n t c tail is z h =
      let p = starts-element defs n t (at (lists cs) tail) z h in
      subst (FollowsAny defs (lists cs) (Elem n c tail ∷ [])) (sym p.2) (inl (refl, subst (In defs p.0) (sym is) (in-alone defs t p.0 p.3), p.4))

  -- what the state of a content stands for
  pub content-list : (cs : List Cell) (s : ℕ) (t : Ty) → at (lists cs) 0 ≡ empty ∷ [] → IsContent cs s t → at (lists cs) s ≡ t ∷ (empty ∷ [])
  content-list cs s t end k = at-cell cs s k.cell k.is (omega (arith, k.tail_is, k.later)) ∙ ap₂ (λ h l. h ∷ l) k.head_is (ap (at (lists cs)) k.tail_is ∙ end)

  pub linear_element : (a : Table) (n : ℕ) (t : Ty) (c tail : ℕ) (es : List Edge) → IsEven a → at (lists a.cells.items) 0 ≡ empty ∷ [] → tail < length a.cells.items → IsContent a.cells.items c t → IsTableLabel defs a.cells.items n → es ≡ Elem n c tail ∷ []
      → Linear defs a a (element n t) tail es
  linear_element a n t c tail es even end lt k given e =
      let is = content-list a.cells.items c t end k in
      subst (Linear defs a a (element n t) tail) (sym e)
      (linear_here a (element n t) tail (Elem n c tail ∷ []) even
      (record { tail_below = lt; below = ((slice_get_within a.cells.items c k.cell k.is, lt), tt); labels = (given, tt); sound = element_sound a.cells.items n t c tail is; complete = element_complete a.cells.items n t c tail is }))

  any_sound : (cs : List Cell) (t : Ty) (c tail : ℕ) → at (lists cs) c ≡ t ∷ (empty ∷ []) → (z : Plain) → FollowsAny defs (lists cs) (AnyElem c tail ∷ []) z → Starts defs (any_element t) (at (lists cs) tail) z
  any_sound cs t c tail is z (inr h) = absurd h
  any_sound cs t c tail is nil (inl h) = absurd h
  any_sound cs t c tail is (leaf _ x w) (inl h) = absurd h
  any_sound cs t c tail is (elem _ a v w) (inl h) = any-starts defs a t (at (lists cs) tail) v w (alone-in defs t v (subst (In defs v) is h.0)) h.1

  any_complete : (cs : List Cell) (t : Ty) (c tail : ℕ) → at (lists cs) c ≡ t ∷ (empty ∷ []) → (z : Plain) → Starts defs (any_element t) (at (lists cs) tail) z → FollowsAny defs (lists cs) (AnyElem c tail ∷ []) z
  any_complete cs t c tail is z h =
      let p = starts-any defs t (at (lists cs) tail) z h in
      subst (FollowsAny defs (lists cs) (AnyElem c tail ∷ [])) (sym p.3) (inl (subst (In defs p.1) (sym is) (in-alone defs t p.1 p.4), p.5))

  pub linear_any : (a : Table) (t : Ty) (c tail : ℕ) (es : List Edge) → IsEven a → at (lists a.cells.items) 0 ≡ empty ∷ [] → tail < length a.cells.items → IsContent a.cells.items c t → es ≡ AnyElem c tail ∷ []
      → Linear defs a a (any_element t) tail es
  linear_any a t c tail es even end lt k e =
      let is = content-list a.cells.items c t end k in
      subst (Linear defs a a (any_element t) tail) (sym e)
      (linear_here a (any_element t) tail (AnyElem c tail ∷ []) even
      (record { tail_below = lt; below = ((slice_get_within a.cells.items c k.cell k.is, lt), tt); labels = (tt, tt); sound = any_sound a.cells.items t c tail is; complete = any_complete a.cells.items t c tail is }))

  -- ---- one part after another

  -- of two types that are the same, one is read
  pub linear_same : (a b : Table) (t u : Ty) (tail : ℕ) (es : List Edge) → t ≡ u → Linear defs a b t tail es → Linear defs a b (alt t u) tail es
  linear_same a b t u tail es same x =
      let ts = lists b.cells.items in
      subst (λ u. Linear defs a b (alt t u) tail es) same (record {
        even = x.even;
        own = x.own;
        labels = x.labels;
        reads = record {
          tail_below = x.reads.tail_below;
          below = x.reads.below;
          labels = x.reads.labels;
          sound = λ z h. alt-starts_left defs t t (at ts tail) z (x.reads.sound z h);
          complete = λ z h. elim (starts-alt defs t t (at ts tail) z h) [ inl k ↦ x.reads.complete z k | inr k ↦ x.reads.complete z k ];
        };
      })

  pub linear_alt : (a b c : Table) (t u : Ty) (tail : ℕ) (es fs all : List Edge) → Linear defs a b t tail es → Grows (length b.rows.items) b c → Linear defs b c u tail fs → all ≡ es ++ fs → Linear defs a c (alt t u) tail all
  linear_alt a b c t u tail es fs all x g y e =
      let r = reads_on (length b.rows.items) b c t tail es x.reads g in
      let ts = lists c.cells.items in
      subst (Linear defs a c (alt t u) tail) (sym e) (record {
        even = y.even;
        own = own_on (length a.rows.items) b c x.own g y.own;
        labels = λ n h. x.labels n (y.labels n h);
        reads = record {
          tail_below = y.reads.tail_below;
          below = edges-append (length c.cells.items) es fs r.below y.reads.below;
          labels = labelled-append defs c.cells.items es fs r.labels y.reads.labels;
          sound = λ z h. elim (any-cases defs ts es fs z h) [ inl k ↦ alt-starts_left defs t u (at ts tail) z (r.sound z k) | inr k ↦ alt-starts_right defs t u (at ts tail) z (y.reads.sound z k) ];
          complete = λ z h. elim (starts-alt defs t u (at ts tail) z h) [ inl k ↦ any-left defs ts es fs z (r.complete z k) | inr k ↦ any-right defs ts es fs z (y.reads.complete z k) ];
        };
      })

  -- the edges of the second part are there only where the first is nullable
  any-cond : (ts : List (List Ty)) (b : Bool) (es : List Edge) (z : Plain) → FollowsAny defs ts (cond b es []) z → (b ≡ true) × FollowsAny defs ts es z
  any-cond ts true es z h = (refl, h)
  any-cond ts false es z h = absurd h

  cond-any : (ts : List (List Ty)) (b : Bool) (es : List Edge) (z : Plain) → b ≡ true → FollowsAny defs ts es z → FollowsAny defs ts (cond b es []) z
  cond-any ts true es z e h = h
  cond-any ts false es z e h = cc

  cond-below : (n : ℕ) (b : Bool) (es : List Edge) → EdgesBelow n es → EdgesBelow n (cond b es [])
  cond-below n true es h = h
  cond-below n false es h = tt

  cond-labelled : (cs : List Cell) (b : Bool) (es : List Edge) → EdgesLabelled defs cs es → EdgesLabelled defs cs (cond b es [])
  cond-labelled cs true es h = h
  cond-labelled cs false es h = tt

  pub linear_seq : (a b c d : Table) (t u : Ty) (tail s : ℕ) (own first all : List Edge) (nulls ends : Bool) → LabelsStand defs b.cells.items u → Linear defs a b u tail own → Put b c u tail ends own s → (ends ≡ true) ↔ Member defs nil u
      → Grows (length c.rows.items) c d → Linear defs c d t s first → (nulls ≡ true) ↔ Member defs nil t → all ≡ cond nulls own [] ++ first → Linear defs a d (seq t u) tail all
  linear_seq a b c d t u tail s own first all nulls ends stand x p is g y null e =
      let bc = put-grows b c u tail ends own s p in
      let ru = reads_on (length b.rows.items) b c u tail own x.reads bc in
      let r = reads_on (length c.rows.items) c d u tail own ru g in
      let ts = lists d.cells.items in
      let list : at ts s ≡ u ∷ at ts tail = put-list (length c.rows.items) b c d u tail ends own s p x.reads.tail_below g in
      subst (Linear defs a d (seq t u) tail) (sym e) (record {
        even = y.even;
        own = own_on (length a.rows.items) c d (own_on (length a.rows.items) b c x.own bc (put-own b c u tail ends own s x.even p x.reads.tail_below ru is)) g y.own;
        labels = λ n h. x.labels n (put-labels b c u tail ends own s stand p n (y.labels n h));
        reads = record {
          tail_below = r.tail_below;
          below = edges-append (length d.cells.items) (cond nulls own []) first (cond-below (length d.cells.items) nulls own r.below) y.reads.below;
          labels = labelled-append defs d.cells.items (cond nulls own []) first (cond-labelled d.cells.items nulls own r.labels) y.reads.labels;
          sound = λ z h. elim (any-cases defs ts (cond nulls own []) first z h) [
            | inr k ↦ seq-starts_first defs t u (at ts tail) z (subst (λ l. Starts defs t l z) list (y.reads.sound z k))
            | inl k ↦ let q = any-cond ts nulls own z k in seq-starts_second defs t u (at ts tail) z (null.0 q.0) (r.sound z q.1)
          ];
          complete = λ z h. elim (starts-seq defs t u (at ts tail) z h) [
            | inl k ↦ any-right defs ts (cond nulls own []) first z (y.reads.complete z (subst (λ l. Starts defs t l z) (sym list) k))
            | inr k ↦ any-left defs ts (cond nulls own []) first z (cond-any ts nulls own z (null.1 k.0) (r.complete z k.1))
          ];
        };
      })

  -- ---- a star

  pub linear_star : (a b c d : Table) (t : Ty) (tail s : ℕ) (edges own : List Edge) → IsEven a → tail < length a.cells.items → LabelsStand defs a.cells.items (star t) → Put a b (star t) tail true [] s → Grows (length b.rows.items) b c → Linear defs b c t s edges
      → IsSet c d s true own → own ≡ edges → Linear defs a d (star t) tail edges
  linear_star a b c d t tail s edges own even lt stand p g l set is =
      let ts = lists c.cells.items in
      let list : at ts s ≡ star t ∷ at ts tail = put-list (length b.rows.items) a b c (star t) tail true [] s p lt g in
      let whole : Reads defs c.cells.items (star t) tail edges = record {
        tail_below = omega (arith, lt, grows-length (length a.rows.items) a b (put-grows a b (star t) tail true [] s p), grows-length (length b.rows.items) b c g);
        below = l.reads.below;
        labels = l.reads.labels;
        sound = λ z h. star-starts defs t (at ts tail) z (subst (λ k. Starts defs t k z) list (l.reads.sound z h));
        complete = λ z h. l.reads.complete z (subst (λ k. Starts defs t k z) (sym list) (starts-star defs t (at ts tail) z h));
      } in
      let get : slice_get c.cells.items s ≡ Some p.cell = ap (λ k. slice_get k s) g.cells ∙ get-append b.cells.items g.more s (put-below a b (star t) tail true [] s p) ∙ put-cell a b (star t) tail true [] s p in
      let here : IsOwn defs c.cells.items s set.row =
      own_from c.cells.items s set.row p.cell (star t) tail edges get p.head_is p.tail_is (set.edges_are ∙ is) (omega (arith, lt, p.state)) whole (λ b. in_done t, λ m. set.ends_is) in
      record {
        even = set.same_length ∙ l.even ∙ ap length (sym set.cells);
        own = λ i r le e. subst (λ k. IsOwn defs k i r) (sym set.cells)
            (elim (below_or_not i (length b.rows.items)) [
              | inr h ↦ l.own i r h (sym (set.others i (λ at. omega (arith, at, h, p.state, even, ap length p.rows, length-append a.rows.items (p.row ∷ [])))) ∙ e)
              | inl h ↦
                  let at : i ≡ s = omega (arith, h, le, p.state, even, ap length p.rows, length-append a.rows.items (p.row ∷ [])) in
                  let same : set.row ≡ r = some_is set.row r (sym set.here ∙ ap (slice_get d.rows.items) (sym at) ∙ e) in
                  subst (λ j. IsOwn defs c.cells.items j r) (sym at) (subst (IsOwn defs c.cells.items s) same here)
            ]);
        reads = subst (λ k. Reads defs k (star t) tail edges) (sym set.cells) whole;
        labels = λ n h. put-labels a b (star t) tail true [] s stand p n (l.labels n (subst (λ k. IsTableLabel defs k n) set.cells h));
      }

  -- ---- a name

  pub linear_name : (a b : Table) (x : ℕ) (t : Ty) (tail : ℕ) (es : List Edge) → body_of defs x ≡ Some t → Linear defs a b t tail es → Linear defs a b (named x) tail es
  linear_name a b x t tail es e l = record {
    even = l.even;
    own = l.own;
    labels = l.labels;
    reads = record {
      tail_below = l.reads.tail_below;
      below = l.reads.below;
      labels = l.reads.labels;
      sound = λ z h. name-starts defs x t (at (lists b.cells.items) tail) z e (l.reads.sound z h);
      complete = λ z h. l.reads.complete z (starts-name defs x t (at (lists b.cells.items) tail) z e h);
    };
  }
