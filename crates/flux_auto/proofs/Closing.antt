-- States that get their edges.
use Rattle.std.proofs.Common.{◌≡◌, ◌⊎◌, ◌↔◌, ℕ, zero, suc, ◌+◌, ◌<◌, ◌≤◌, List, [], ◌∷◌, ◌++◌, Bool, true, false, length, Some, slice_get, get_or, refl, sym, ap, subst, ◌∙◌, inl, inr, arith}
use Rattle.std.proofs.lemmas.Option.{slice_get_within, slice_get_read}
use Rattle.flux_trees.specs.Hedge.{nil}
use Rattle.flux_schema.specs.Ty.{Ty}
use Rattle.flux_schema.specs.Definitions.{Definitions}
use Rattle.flux_schema.specs.Member.{Member}
use Rattle.flux_types.specs.declared.ty.Ty.{Ty as Tree}
use Rattle.flux_types.specs.Read.{ty_of}
use Rattle.flux_auto.specs.declared.edge.Edge.{Edge}
use Rattle.flux_auto.specs.declared.table.Cell.{Cell}
use Rattle.flux_auto.specs.declared.table.Row.{Row}
use Rattle.flux_auto.specs.declared.table.Table.{Table}
use Rattle.flux_auto.specs.Takes.{EdgesBelow}
use Rattle.flux_auto.specs.Standing.{In, at, lists, FollowsAny, Ready, IsTableLabel, LabelsStand, EdgesLabelled}
use Rattle.flux_auto.specs.Built.{Grows, IsSet, IsEven, IsGround, IsOwn, IsClosed, OwnFrom, FreshFrom, NoNewLabels, Linear, ClosedBelow, Awaits, Filled, Closed}
use Rattle.flux_auto.proofs.Lists.{in-cons, starts-in, skips-in, starts-full}
use Rattle.flux_atom.proofs.Plain.{same_or_not}
use Rattle.flux_auto.proofs.Items.{some_is, get-append}
use Rattle.flux_auto.proofs.Tables.{at-cell, edges-append, any-left, any-right, any-cases, labelled-append, IsOwn-grows, IsClosed-grows, IsFresh-grows}
use Rattle.flux_auto.proofs.Growing.{below_or_not, grows_by, grows_same, carried}
use Rattle.flux_auto.proofs.Reading.{own_from, ground_on}

module _ (defs : Definitions) where
  -- ---- one state closed

  -- its type is nullable: it goes on as its tail does, too
  closed_with : (cs : List Cell) (s : ℕ) (own tail row : Row) → (o : IsOwn defs cs s own) → own.ends ≡ true → IsClosed defs cs o.cell.tail tail → row.ends ≡ tail.ends → row.edges.items ≡ own.edges.items ++ tail.edges.items
      → IsClosed defs cs s row
  closed_with cs s own tail row o may k ends edges =
      let ts = lists cs in
      let t = ty_of o.cell.head in
      let rest = at ts o.cell.tail in
      let list : at ts s ≡ t ∷ rest = at-cell cs s o.cell o.is o.older in
      let null : Member defs nil t = o.ends.0 may in
      record {
        below = subst (EdgesBelow (length cs)) (sym edges) (edges-append (length cs) own.edges.items tail.edges.items o.reads.below k.below);
        labels = subst (EdgesLabelled defs cs) (sym edges) (labelled-append defs cs own.edges.items tail.edges.items o.reads.labels k.labels);
        sound = λ z h. subst (In defs z) (sym list) (elim (any-cases defs ts own.edges.items tail.edges.items z (subst (λ l. FollowsAny defs ts l z) edges h)) [
          | inl f ↦ starts-in defs t rest z (o.reads.sound z f)
          | inr f ↦ skips-in defs t rest z null (k.sound z f)
        ]);
        complete = λ z ne h. subst (λ l. FollowsAny defs ts l z) (sym edges) (elim (in-cons defs t rest z (subst (In defs z) list h)) [
          | inl f ↦ any-left defs ts own.edges.items tail.edges.items z (o.reads.complete z f)
          | inr f ↦ any-right defs ts own.edges.items tail.edges.items z (k.complete z ne f.1)
        ]);
        ends = (
          λ e. subst (In defs nil) (sym list) (skips-in defs t rest nil null (k.ends.0 (sym ends ∙ e))),
          λ h. elim (in-cons defs t rest nil (subst (In defs nil) list h)) [
            | inl f ↦ absurd (starts-full defs t rest nil f refl)
            | inr f ↦ ends ∙ k.ends.1 f.1
          ],
        );
      }

  -- its type isn't nullable: its own edges are all
  closed_alone : (cs : List Cell) (s : ℕ) (own : Row) → IsOwn defs cs s own → own.ends ≡ false → IsClosed defs cs s own
  closed_alone cs s own o lacks =
      let ts = lists cs in
      let t = ty_of o.cell.head in
      let rest = at ts o.cell.tail in
      let list : at ts s ≡ t ∷ rest = at-cell cs s o.cell o.is o.older in
      let full : Member defs nil t → ⊥ = λ m. (let x : true ≡ false = sym (o.ends.1 m) ∙ lacks in cc) in
      record {
        below = o.reads.below;
        labels = o.reads.labels;
        sound = λ z h. subst (In defs z) (sym list) (starts-in defs t rest z (o.reads.sound z h));
        complete = λ z ne h. elim (in-cons defs t rest z (subst (In defs z) list h)) [
          | inl f ↦ o.reads.complete z f
          | inr f ↦ absurd (full f.0)
        ];
        ends = (
          λ e. (let x : true ≡ false = sym e ∙ lacks in cc),
          λ h. elim (in-cons defs t rest nil (subst (In defs nil) list h)) [
            | inl f ↦ absurd (starts-full defs t rest nil f refl)
            | inr f ↦ absurd (full f.0)
          ],
        );
      }

  pub close_alone : (a : Table) (s : ℕ) (own : Row) → slice_get a.rows.items s ≡ Some own → IsOwn defs a.cells.items s own → own.ends ≡ false → Closed defs a a s
  close_alone a s own is o lacks = record {
    cells = refl;
    same_length = refl;
    others = λ i ne. refl;
    closed = λ r e. subst (IsClosed defs a.cells.items s) (some_is own r (sym is ∙ e)) (closed_alone a.cells.items s own o lacks);
  }

  pub close_with : (a b : Table) (s : ℕ) (own tail : Row) (cell : Cell) (ends : Bool) (edges : List Edge) → IsOwn defs a.cells.items s own → slice_get a.cells.items s ≡ Some cell → slice_get a.rows.items cell.tail ≡ Some tail → own.ends ≡ true
      → ClosedBelow defs s a → ends ≡ tail.ends → edges ≡ own.edges.items ++ tail.edges.items → IsSet a b s ends edges → Closed defs a b s
  close_with a b s own tail cell ends edges o get is may below e f set =
      let same : cell ≡ o.cell = some_is cell o.cell (sym get ∙ o.is) in
      let tail_is : slice_get a.rows.items o.cell.tail ≡ Some tail = subst (λ (c : Cell). slice_get a.rows.items c.tail ≡ Some tail) same is in
      record {
        cells = set.cells;
        same_length = set.same_length;
        others = set.others;
        closed = λ r g. subst (λ l. IsClosed defs l s r) (sym set.cells)
            (subst (IsClosed defs a.cells.items s) (some_is set.row r (sym set.here ∙ g))
            (closed_with a.cells.items s own tail set.row o may (below o.cell.tail tail o.older tail_is) (set.ends_is ∙ e) (set.edges_are ∙ f)));
      }

  -- ---- one after another

  -- the states from n to i are closed
  pub record Closes (n i : ℕ) (a b : Table) : Type 0 where
    pub cells : b.cells.items ≡ a.cells.items
    pub same_length : length b.rows.items ≡ length a.rows.items
    pub first : (s : ℕ) → s < n → slice_get b.rows.items s ≡ slice_get a.rows.items s
    pub closed : ClosedBelow defs i b
    pub own : OwnFrom defs i b

  pub closes_next : (n i : ℕ) (a b c : Table) → n ≤ i → Closes n i a b → Closed defs b c i → Closes n (i + 1) a c
  closes_next n i a b c le x y = record {
    cells = y.cells ∙ x.cells;
    same_length = y.same_length ∙ x.same_length;
    first = λ s lt. y.others s (λ e. omega (arith, le, lt, e)) ∙ x.first s lt;
    closed = λ s r lt e. elim (below_or_not s i) [
      | inl l ↦ subst (λ k. IsClosed defs k s r) (sym y.cells) (x.closed s r l (sym (y.others s (λ at. omega (arith, at, l))) ∙ e))
      | inr l ↦
          let at : s ≡ i = omega (arith, l, lt) in
          subst (λ j. IsClosed defs c.cells.items j r) (sym at) (y.closed r (ap (slice_get c.rows.items) (sym at) ∙ e))
    ];
    own = λ s r le e. subst (λ k. IsOwn defs k s r) (sym y.cells) (x.own s r (omega (arith, le)) (sym (y.others s (λ at. omega (arith, at, le))) ∙ e));
  }

  pub closed_carried : (n : ℕ) (a b : Table) → n ≤ length a.cells.items → ClosedBelow defs n a → Grows n a b → ClosedBelow defs n b
  closed_carried n a b le k g s r lt e = carried (λ l. IsClosed defs l s r) n a b g (λ more. IsClosed-grows defs a.cells.items more s r (omega (arith, lt, le)) (k s r lt (sym (g.rows s lt) ∙ e)))

  -- ---- one state filled

  pub awaits_at : (n from i : ℕ) (cs : List Cell) → FreshFrom n from cs → from ≤ i → 1 ≤ from → i < length cs → Awaits n cs i
  awaits_at n from i cs f le one lt =
      let p = got cs i lt in
      record { later = omega (arith, le, one); cell = p.0; is = p.1; fresh = f i p.0 le p.1 }
    where
      got : (cs : List Cell) (i : ℕ) → i < length cs → (c : Cell) × (slice_get cs i ≡ Some c)
      got [] i h = absurd (omega (arith, h))
      got (c ∷ cs) zero h = (c, refl)
      got (c ∷ cs) (suc i) h = got cs i (omega (arith, h))

  pub filled_by : (a b c : Table) (s : ℕ) (ends : Bool) (edges own : List Edge) (w : Awaits (length defs) a.cells.items s) → IsEven a → (head : Ty) → ty_of w.cell.head ≡ head → Grows (length a.rows.items) a b → Linear defs a b head 0 edges → IsSet b c s ends own → own ≡ edges
      → (ends ≡ true) ↔ Member defs nil head → Filled defs a c s
  filled_by a b c s ends edges own w even head h g l set is null =
      let in_a : s < length a.cells.items = slice_get_within a.cells.items s w.cell w.is in
      let get : slice_get b.cells.items s ≡ Some w.cell = ap (λ k. slice_get k s) g.cells ∙ get-append a.cells.items g.more s in_a ∙ w.is in
      let here : IsOwn defs b.cells.items s set.row =
      own_from defs b.cells.items s set.row w.cell head 0 edges get h w.fresh.tail (set.edges_are ∙ is) (omega (arith, w.later)) l.reads (λ b. null.0 (sym set.ends_is ∙ b), λ m. set.ends_is ∙ null.1 m) in
      record {
        even = set.same_length ∙ l.even ∙ ap length (sym set.cells);
        more = g.more;
        cells = set.cells ∙ g.cells;
        others = λ i lt ne. set.others i ne ∙ g.rows i lt;
        own = λ i r at e. subst (λ k. IsOwn defs k i r) (sym set.cells) (elim at [
          | inl j ↦ subst (λ k. IsOwn defs b.cells.items k r) (sym j) (subst (IsOwn defs b.cells.items s) (some_is set.row r (sym set.here ∙ ap (slice_get c.rows.items) (sym j) ∙ e)) here)
          | inr le ↦ l.own i r le (sym (set.others i (λ j. omega (arith, j, le, in_a, even))) ∙ e)
        ]);
        labels = λ n k. l.labels n (subst (λ j. IsTableLabel defs j n) set.cells k);
      }

  -- the states from n to i, and those from m on, have their own edges
  pub record Fills (n m i : ℕ) (a b : Table) : Type 0 where
    pub grows : Grows n a b
    pub even : IsEven b
    pub own : (s : ℕ) (r : Row) → n ≤ s → (s < i) ⊎ (m ≤ s) → slice_get b.rows.items s ≡ Some r → IsOwn defs b.cells.items s r
    pub labels : NoNewLabels defs a b

  pub fills_begins : (n m : ℕ) (a : Table) → IsEven a → m ≡ length a.cells.items → n ≤ m → Fills n m n a a
  fills_begins n m a even e le = record {
    grows = grows_same n a (omega (arith, even, e, le));
    even = even;
    own = λ s r lt at g. elim at [
      | inl l ↦ absurd (omega (arith, l, lt))
      | inr l ↦ absurd (omega (arith, l, e, even, slice_get_within a.rows.items s r g))
    ];
    labels = λ k h. h;
  }

  pub fills_awaits : (n m i : ℕ) (a b : Table) → FreshFrom (length defs) n a.cells.items → Fills n m i a b → m ≡ length a.cells.items → n ≤ i → 1 ≤ n → i < m → Awaits (length defs) b.cells.items i
  fills_awaits n m i a b f x e le one lt =
      let w = awaits_at (length defs) n i a.cells.items f le one (omega (arith, lt, e)) in
      carried (λ l. Awaits (length defs) l i) n a b x.grows (λ more. record {
        later = w.later;
        cell = w.cell;
        is = get-append a.cells.items more i (omega (arith, lt, e)) ∙ w.is;
        fresh = IsFresh-grows (length defs) a.cells.items more w.cell w.fresh;
      })

  pub fills_ground : (nullable : List Bool) (n m i : ℕ) (a b : Table) → IsGround defs nullable a → Fills n m i a b → 0 < length a.cells.items → IsGround defs nullable b
  fills_ground nullable n m i a b g x lt = ground_on defs nullable n a b g x.grows lt x.even

  pub fills_next : (n m i : ℕ) (a b c : Table) → n ≤ i → Fills n m i a b → Grows i b c → Filled defs b c i → Fills n m (i + 1) a c
  fills_next n m i a b c le x g y = record {
    grows = grows_by n i a b c le x.grows g;
    even = y.even;
    own = λ s r lt at e. elim (same_or_not s i) [
      | inl same ↦ y.own s r (inl same) e
      | inr other ↦ elim (below_or_not s (length b.rows.items)) [
        | inr l ↦ y.own s r (inr l) e
        | inl l ↦
            let before : (s < i) ⊎ (m ≤ s) = elim at [ inl k ↦ inl (omega (arith, k, other)) | inr k ↦ inr k ] in
            subst (λ k. IsOwn defs k s r) (sym y.cells) (IsOwn-grows defs b.cells.items y.more s r (x.own s r lt before (sym (y.others s l other) ∙ e)))
      ]
    ];
    labels = λ k h. x.labels k (y.labels k h);
  }

  pub fills_ends : (n m i : ℕ) (a b : Table) → m ≤ i → Fills n m i a b → OwnFrom defs n b
  fills_ends n m i a b le x s r lt e = x.own s r lt (elim (below_or_not s m) [ inl l ↦ inl (omega (arith, l, le)) | inr l ↦ inr l ]) e

  -- ---- what the code reads

  pub awaits_head : (n s : ℕ) (cs : List Cell) (w : Awaits n cs s) (c : Cell) (h : Tree) → c ≡ get_or cs s c → h ≡ c.head → ty_of w.cell.head ≡ ty_of h
  awaits_head n s cs w c h is e =
      let same : w.cell ≡ c = some_is w.cell c (sym w.is ∙ slice_get_read cs (length cs) s c refl (slice_get_within cs s w.cell w.is) is) in
      ap (λ (d : Cell). ty_of d.head) same ∙ ap ty_of (sym e)

  pub awaits_ready : (n s : ℕ) (cs : List Cell) (w : Awaits n cs s) (h : Tree) → ty_of w.cell.head ≡ ty_of h → Ready n cs (ty_of h)
  awaits_ready n s cs w h e = subst (Ready n cs) e w.fresh.ready

  pub awaits_labels : (n s : ℕ) (cs : List Cell) (w : Awaits n cs s) (h : Tree) → ty_of w.cell.head ≡ ty_of h → LabelsStand defs cs (ty_of h)
  awaits_labels n s cs w h e = subst (LabelsStand defs cs) e (λ m l. inr (s, w.cell, w.is, l))

  pub awaits_below : (n s : ℕ) (cs : List Cell) → Awaits n cs s → s < length cs
  awaits_below n s cs w = slice_get_within cs s w.cell w.is

  pub tail_within : (a : Table) (s : ℕ) (own : Row) (cell : Cell) → IsOwn defs a.cells.items s own → slice_get a.cells.items s ≡ Some cell → IsEven a → (cell.tail < length a.rows.items) × (cell.tail < s)
  tail_within a s own cell o e even =
      let same : o.cell ≡ cell = some_is o.cell cell (sym o.is ∙ e) in
      subst (λ (d : Cell). (d.tail < length a.rows.items) × (d.tail < s)) same (omega (arith, o.older, even, slice_get_within a.cells.items s o.cell o.is), o.older)
