-- Tables that are begun, and made longer by types.
use Rattle.std.proofs.Common.{◌≡◌, ℕ, suc, ◌+◌, ◌<◌, ◌≤◌, List, [], ◌∷◌, ◌++◌, Bool, true, length, take, Some, slice_get, Result, Ok, Err, OnErr, refl, sym, ap, ap₂, subst, ◌∙◌, inl, inr, arith}
use Rattle.std.proofs.lemmas.Option.{slice_get_within}
use Rattle.flux_trees.specs.Hedge.{nil}
use Rattle.flux_schema.specs.Ty.{Ty, empty, NamesBelow}
use Rattle.flux_schema.specs.Definitions.{Definitions, body_of}
use Rattle.flux_schema.specs.Labels.{IsLabelOf}
use Rattle.flux_schema.proofs.Ranks.{body_within}
use Rattle.flux_types.specs.Read.{ty_of}
use Rattle.flux_auto.specs.declared.table.Cell.{Cell}
use Rattle.flux_auto.specs.declared.table.Row.{Row}
use Rattle.flux_auto.specs.declared.table.Table.{Table}
use Rattle.flux_auto.specs.Takes.{EdgesBelow}
use Rattle.flux_auto.specs.Standing.{In, at, lists, FollowsAny, TellsNullable, Ready, IsContent, EdgesLabelled}
use Rattle.flux_auto.specs.Built.{Grows, Put, IsEven, IsGround, IsClosed, FreshFrom, Registered, PutContent, ClosedBelow, IsComplete, IsBegun, NoNewLabels, LabelsOfBodies, LabelsMore, Extended}
use Rattle.flux_auto.proofs.Lists.{end-in, in-end}
use Rattle.flux_auto.proofs.Items.{some_is}
use Rattle.flux_auto.proofs.Tables.{at-grows, IsContent-grows}
use Rattle.flux_auto.proofs.Growing.{below_or_not, grows_by, grows_same, carried}
use Rattle.flux_auto.proofs.Contents.{fresh_on}
use Rattle.flux_auto.proofs.Reading.{ground_on, ready_on}
use Rattle.flux_auto.proofs.Closing.{closed_carried}

-- ---- the end

nil_of : {A : Type 0} (xs ys : List A) (x : A) → xs ≡ [] → ys ≡ xs ++ x ∷ [] → ys ≡ x ∷ []
nil_of xs ys x e f = f ∙ ap (λ l. l ++ x ∷ []) e

end_closed : (defs : Definitions) (cs : List Cell) (r : Row) → at (lists cs) 0 ≡ empty ∷ [] → r.ends ≡ true → r.edges.items ≡ [] → IsClosed defs cs 0 r
end_closed defs cs r list ends edges = record {
  below = subst (λ l. EdgesBelow (length cs) l) (sym edges) tt;
  labels = subst (EdgesLabelled defs cs) (sym edges) tt;
  sound = λ z h. absurd (subst (λ l. FollowsAny defs (lists cs) l z) edges h);
  complete = λ z ne h. absurd (ne (end-in defs z (subst (In defs z) list h)));
  ends = (λ e. subst (In defs nil) (sym list) (in-end defs), λ h. ends);
}

pub begun_with : (a b : Table) (s : ℕ) → a.cells.items ≡ [] → a.rows.items ≡ [] → Put a b empty 0 true [] s → IsBegun b
begun_with a b s e f p =
    let cells : b.cells.items ≡ p.cell ∷ [] = nil_of a.cells.items b.cells.items p.cell e p.cells in
    let rows : b.rows.items ≡ p.row ∷ [] = nil_of a.rows.items b.rows.items p.row f p.rows in
    let list : at (lists b.cells.items) 0 ≡ empty ∷ [] = ap (λ l. at (lists l) 0) cells ∙ ap₂ (λ h k. h ∷ at [] k) p.head_is p.tail_is in
    record {
      even = ap length rows ∙ ap length (sym cells);
      one = ap length cells;
      end = list;
      bare = λ n h.
          let get : slice_get (p.cell ∷ []) h.0 ≡ Some h.1 = ap (λ l. slice_get l h.0) (sym cells) ∙ h.2 in
          let first : h.0 ≡ 0 = omega (arith, slice_get_within (p.cell ∷ []) h.0 h.1 get) in
          let same : p.cell ≡ h.1 = some_is p.cell h.1 (ap (slice_get (p.cell ∷ [])) (sym first) ∙ get) in
          subst (IsLabelOf n) (ap (λ (d : Cell). ty_of d.head) (sym same) ∙ p.head_is) h.3;
      closed = λ defs i r lt g.
          let at_first : i ≡ 0 = omega (arith, lt) in
          let same : p.row ≡ r = some_is p.row r (sym (ap (λ l. slice_get l 0) rows) ∙ ap (slice_get b.rows.items) (sym at_first) ∙ g) in
          subst (λ j. IsClosed defs b.cells.items j r) (sym at_first)
          (subst (IsClosed defs b.cells.items 0) same (end_closed defs b.cells.items p.row list p.ends_is p.edges_are));
    }

module _ (defs : Definitions) where
  -- ---- the definitions

  -- the bodies below n have states for their contents
  pub record Begins (n : ℕ) (a b : Table) : Type 0 where
    pub grows : Grows 1 a b
    pub even : IsEven b
    pub ready : (x : ℕ) (t : Ty) → x < n → body_of defs x ≡ Some t → Ready (length defs) b.cells.items t
    pub fresh : FreshFrom (length defs) 1 b.cells.items
    pub labels : LabelsOfBodies defs b

  pub begins_none : (a : Table) → IsBegun a → Begins 0 a a
  begins_none a g = record {
    grows = grows_same 1 a (omega (arith, g.even, g.one));
    even = g.even;
    ready = λ x t lt e. absurd (omega (arith, lt));
    fresh = λ s c le e. absurd (omega (arith, le, g.one, slice_get_within a.cells.items s c e));
    labels = λ n h. elim h [ inl b ↦ b | inr k ↦ absurd (g.bare n k) ];
  }

  pub begins_next : (n : ℕ) (a b c : Table) (t : Ty) → IsBegun a → Begins n a b → body_of defs n ≡ Some t → NamesBelow (length defs) t → Grows (length b.rows.items) b c → Registered b c t → Begins (n + 1) a c
  begins_next n a b c t begun x body known g r = record {
    grows = grows_by 1 (length b.rows.items) a b c x.grows.longer x.grows g;
    even = r.even;
    ready = λ y u lt e. elim (below_or_not y n) [
      | inl l ↦ ready_on defs (length b.rows.items) (length defs) b c u (x.ready y u l e) g
      | inr l ↦
          let here : y ≡ n = omega (arith, l, lt) in
          let same : t ≡ u = some_is t u (sym body ∙ ap (body_of defs) (sym here) ∙ e) in
          subst (Ready (length defs) c.cells.items) same (r.ready (length defs) known)
    ];
    fresh = fresh_on (length defs) (length b.rows.items) 1 b c x.fresh g (r.fresh (length defs) known);
    labels = λ m h. elim h [ inl k ↦ k | inr k ↦ elim (r.labels m k) [ inl o ↦ x.labels m (inr o) | inr l ↦ (n, t, body, l) ] ];
  }

  pub begins_ground : (nullable : List Bool) (n : ℕ) (a b : Table) → TellsNullable defs nullable → IsBegun a → Begins n a b → length defs ≤ n → IsGround defs nullable b
  begins_ground nullable n a b tells g x le = record {
    even = x.even;
    end = carried (λ l. at (lists l) 0 ≡ empty ∷ []) 1 a b x.grows (λ more. at-grows a.cells.items more 0 (omega (arith, g.one)) ∙ g.end);
    tells = tells;
    bodies = λ y t e. x.ready y t (omega (arith, le, body_within defs y t e)) e;
  }

  pub begins_closed : (n : ℕ) (a b : Table) → IsBegun a → Begins n a b → ClosedBelow defs 1 b
  begins_closed n a b g x = closed_carried defs 1 a b (omega (arith, g.one)) (g.closed defs) x.grows

  -- ---- a type more

  -- the contents of the type have states, as has the type
  module _ (nullable : List Bool) (a b c : Table) (t : Ty) (s : ℕ) (whole : IsComplete defs nullable a) (begun : 1 ≤ length a.cells.items) (known : NamesBelow (length defs) t)
      (g : Grows (length a.rows.items) a b) (r : Registered a b t) (h : Grows (length b.rows.items) b c) (p : PutContent b c t s) where
    pub both_grow : Grows (length a.rows.items) a c
    both_grow = grows_by (length a.rows.items) (length b.rows.items) a b c g.longer g h

    pub extended_ground : IsGround defs nullable c
    extended_ground = ground_on defs nullable (length a.rows.items) a c whole.ground both_grow (omega (arith, begun)) p.even

    pub extended_fresh : FreshFrom (length defs) (length a.cells.items) c.cells.items
    extended_fresh = fresh_on (length defs) (length b.rows.items) (length a.cells.items) b c (r.fresh (length defs) known) h (p.fresh (length defs) (r.ready (length defs) known))

    -- no labels but those of the type are new
    pub extended_labels : (d : Table) → NoNewLabels defs c d → LabelsMore defs a d t
    extended_labels d f n h = elim (f n h) [
      | inl k ↦ inl (inl k)
      | inr k ↦ elim (p.labels n k) [ inr l ↦ inr l | inl o ↦ elim (r.labels n o) [ inr l ↦ inr l | inl q ↦ inl (inr q) ] ]
    ]

    pub extended_closed : ClosedBelow defs (length a.cells.items) c
    extended_closed = closed_carried defs (length a.cells.items) a c (omega arith) whole.closed (subst (λ n. Grows n a c) whole.ground.even both_grow)

  pub extended_by : (nullable : List Bool) (n : ℕ) (c d : Table) (t : Ty) (s : ℕ) → IsContent c.cells.items s t → Grows n c d → IsComplete defs nullable d → Extended defs nullable d t s
  extended_by nullable n c d t s k g whole = record { complete = whole; content = carried (λ l. IsContent l s t) n c d g (λ more. IsContent-grows c.cells.items more s t k) }

pub has_end : (defs : Definitions) (nullable : List Bool) (a : Table) → IsGround defs nullable a → 1 ≤ length a.cells.items
has_end defs nullable a g = some_cell a.cells.items g.end
  where
    some_cell : (cs : List Cell) → at (lists cs) 0 ≡ empty ∷ [] → 1 ≤ length cs
    some_cell [] e = cc
    some_cell (c ∷ cs) e = omega arith

-- ---- what is cut off again

pub take_grown : {A : Type 0} (xs ys : List A) → length xs ≤ length ys → ((i : ℕ) → i < length xs → slice_get ys i ≡ slice_get xs i) → take (length xs) ys ≡ xs
take_grown [] ys le f = refl
take_grown (x ∷ xs) [] le f = absurd (omega (arith, le))
take_grown (x ∷ xs) (y ∷ ys) le f =
    ap₂ (λ z l. z ∷ l) (some_is y x (f 0 (omega arith))) (take_grown xs ys (omega (arith, le)) (λ i lt. f (suc i) (omega (arith, lt))))

pub cut_rows : (m : ℕ) (a b : Table) → Grows (length a.rows.items) a b → IsEven a → m ≡ length a.cells.items → take m b.rows.items ≡ a.rows.items
cut_rows m a b g even e = ap (λ k. take k b.rows.items) (e ∙ sym even) ∙ take_grown a.rows.items b.rows.items g.longer g.rows

pub on_err_any : {T E P : Type 0} (r : Result T E) → P → OnErr r P
on_err_any (Ok x) p = tt
on_err_any (Err e) p = p
