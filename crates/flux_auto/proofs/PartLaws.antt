-- The part of an automaton that states lead to: how it is made, and what its states take.
use Rattle.std.proofs.Common.{◌≡◌, ℕ, zero, suc, ◌+◌, ◌<◌, ◌≤◌, List, [], ◌∷◌, ◌++◌, length, take, get_or, map, All, Contains, Bool, true, false, Some, slice_get, refl, sym, ap, subst, ◌∙◌, inl, inr, arith, length-append, append_assoc}
use Rattle.std.specs.Cmp.{both_ways}
use Rattle.std.proofs.lemmas.List.{append-nil, take_more, get_or_past, map_push}
use Rattle.std.proofs.lemmas.Option.{get_or_from_slice_get, slice_get_within}
use Rattle.indexmap.specs.IndexMap.{insert_entry}
use Rattle.flux_atom.specs.declared.atom.Atom.{Atom as Value}
use Rattle.flux_atom.specs.declared.atom.AtomKind.{AtomKind}
use Rattle.flux_atom.specs.Atom.{kind_of}
use Rattle.flux_trees.specs.Hedge.{Plain, nil, elem, leaf}
use Rattle.flux_auto.specs.declared.edge.Edge.{Edge}
use Rattle.flux_auto.specs.declared.edge.Edge.TheVariants.{Atom, Elem, AnyElem}
use Rattle.flux_auto.specs.declared.table.Row.{Row}
use Rattle.flux_auto.specs.Takes.{State, profile_nil, takes}
use Rattle.flux_auto.specs.Going.{Has, HasEdge, HasElement}
use Rattle.flux_auto.specs.Witness.{IsEdgeLabel}
use Rattle.flux_auto.specs.Built.{state_of}
use Rattle.flux_auto.specs.Part.{IsPartOf, IsNumber, IsRenamed, AreRenamed, IsCopied, AreCopied}
use Rattle.flux_auto.proofs.Items.{some_is, get-append, get-end, get-push, has-append, has-last, has-push, has-nil}
use Rattle.flux_auto.proofs.Interning.{All-insert_entry}
use Rattle.flux_auto.proofs.Meaning.{got, get-map, get_of-map, length-map, has-map}
use Rattle.flux_auto.proofs.GoingLaws.{takes_goes, goes_takes}

-- ---- numbers

abbrev pub MoreOf : List ℕ → List ℕ → Type 0
MoreOf old new = (more : List ℕ) × (new ≡ old ++ more)

pub more_none : (l : List ℕ) → MoreOf l l
more_none l = ([], sym (append-nil l))

pub more_then : (a b c : List ℕ) → MoreOf a b → MoreOf b c → MoreOf a c
more_then a b c (m, e) (n, f) = (m ++ n, f ∙ ap (λ l. l ++ n) e ∙ append_assoc a m n)

number_more : (a b : List ℕ) (s n : ℕ) → MoreOf a b → IsNumber a s n → IsNumber b s n
number_more a b s n (m, e) h = ap (λ l. slice_get l n) e ∙ get-append a m n (slice_get_within a n s h) ∙ h

-- the numbers of a map are those of a list
abbrev pub AreOf : List ℕ → List (ℕ × ℕ) → Type 0
AreOf olds entries = All (λ e. IsNumber olds e.0 e.1) entries

pub of_none : (olds : List ℕ) (entries : List (ℕ × ℕ)) → entries ≡ [] → AreOf olds entries
of_none olds entries e = subst (AreOf olds) (sym e) (λ k d h. absurd (omega (arith, h)))

pub of_one_more : (eq : ℕ → ℕ → Bool) (olds : List ℕ) (entries after : List (ℕ × ℕ)) (s n : ℕ) → ((x y : ℕ) → eq x y ≡ true → x ≡ y) → AreOf olds entries → IsNumber olds s n → after ≡ insert_entry eq entries s n → AreOf olds after
of_one_more eq olds entries after s n same all one e = subst (AreOf olds) (sym e) (All-insert_entry (λ (t : ℕ × ℕ). IsNumber olds t.0 t.1) eq same entries s n all one)

pub of_more : (a b : List ℕ) (entries : List (ℕ × ℕ)) → MoreOf a b → AreOf a entries → AreOf b entries
of_more a b entries more all = λ k d h. number_more a b (get_or entries k d).0 (get_or entries k d).1 more (all k d h)

pub found_number : (olds : List ℕ) (entries : List (ℕ × ℕ)) (s n : ℕ) → AreOf olds entries → Contains entries (s, n) → IsNumber olds s n
found_number olds entries s n all (k, lt, e) = subst (λ (t : ℕ × ℕ). IsNumber olds t.0 t.1) e (all k (s, n) lt)

pub new_number : (a b : List ℕ) (s : ℕ) → b ≡ a ++ s ∷ [] → IsNumber b s (length a)
new_number a b s e = ap (λ l. slice_get l (length a)) e ∙ get-end a s []

-- ---- edges

renamed_more : (a b : List ℕ) (e f : Edge) → MoreOf a b → IsRenamed a e f → IsRenamed b e f
renamed_more a b (Atom k r) f m (q, is, h) = (q, is, number_more a b r q m h)
renamed_more a b (Elem n c r) f m (d, q, is, g, h) = (d, q, is, number_more a b c d m g, number_more a b r q m h)
renamed_more a b (AnyElem c r) f m (d, q, is, g, h) = (d, q, is, number_more a b c d m g, number_more a b r q m h)

pub renamed_elem : (a b : List ℕ) (e : Edge) (n c r d q : ℕ) → e ≡ Elem n c r → MoreOf a b → IsNumber a c d → IsNumber b r q → IsRenamed b e (Elem n d q)
renamed_elem a b e n c r d q is m g h = subst (λ x. IsRenamed b x (Elem n d q)) (sym is) (d, q, refl, number_more a b c d m g, h)

pub renamed_any : (a b : List ℕ) (e : Edge) (c r d q : ℕ) → e ≡ AnyElem c r → MoreOf a b → IsNumber a c d → IsNumber b r q → IsRenamed b e (AnyElem d q)
renamed_any a b e c r d q is m g h = subst (λ x. IsRenamed b x (AnyElem d q)) (sym is) (d, q, refl, number_more a b c d m g, h)

pub none_renamed : (olds : List ℕ) (fs : List Edge) → fs ≡ [] → AreRenamed olds [] fs
none_renamed olds fs e = record { each = λ x h. absurd (has-nil x h); only = λ f h. absurd (has-nil f (subst (λ l. Has l f) e h)) }

pub next_renamed : (a b : List ℕ) (edges fs gs : List Edge) (i : ℕ) (e d f : Edge) → AreRenamed a (take i edges) fs → MoreOf a b → IsRenamed b e f → i < length edges → e ≡ get_or edges i d → gs ≡ fs ++ f ∷ [] → AreRenamed b (take (i + 1) edges) gs
next_renamed a b edges fs gs i e d f before more is lt at new =
    subst (λ es. AreRenamed b es gs) (ap (λ x. take i edges ++ x ∷ []) at ∙ sym (take_more edges i d lt)) (subst (AreRenamed b (take i edges ++ e ∷ [])) (sym new) (record {
      each = λ x h. elim (has-push (take i edges) e x h) [
        | inl old ↦ (let r = before.each x old in (r.0, has-append fs (f ∷ []) r.0 r.1, renamed_more a b x r.0 more r.2))
        | inr same ↦ (f, has-last fs f, subst (λ y. IsRenamed b y f) same is)
      ];
      only = λ x h. elim (has-push fs f x h) [
        | inl old ↦ (let r = before.only x old in (r.0, has-append (take i edges) (e ∷ []) r.0 r.1, renamed_more a b r.0 x more r.2))
        | inr same ↦ (e, has-last (take i edges) e, subst (IsRenamed b e) same is)
      ];
    }))

-- ---- states

has_in : (rows : List Row) (s : ℕ) (row : Row) (e : Edge) → slice_get rows s ≡ Some row → Has row.edges.items e → HasEdge (map state_of rows) s e
has_in rows s row e at h = (state_of row, get-map state_of rows s row at, h)

in_has : (rows : List Row) (s : ℕ) (row : Row) (e : Edge) → slice_get rows s ≡ Some row → HasEdge (map state_of rows) s e → Has row.edges.items e
in_has rows s row e at (st, is, h) = subst (λ (x : State). Has x.edges e) (some_is st (state_of row) (sym is ∙ get-map state_of rows s row at)) h

pub copied_row : (olds : List ℕ) (rows : List Row) (s : ℕ) (row copy : Row) → slice_get rows s ≡ Some row → copy.ends ≡ row.ends → AreRenamed olds row.edges.items copy.edges.items → IsCopied olds (map state_of rows) s (state_of copy)
copied_row olds rows s row copy at ends are = record {
  ends = ends ∙ sym (has-map (λ (x : State). x.ends) rows s row at);
  each = λ e h. are.each e (in_has rows s row e at h);
  only = λ f h. (let r = are.only f h in (r.0, has_in rows s row r.0 at r.1, r.2));
}

pub copied_none : (olds : List ℕ) (rows : List Row) (s : ℕ) (copy : Row) → length rows ≤ s → copy.ends ≡ false → copy.edges.items ≡ [] → IsCopied olds (map state_of rows) s (state_of copy)
copied_none olds rows s copy le ends bare = record {
  ends = ends ∙ sym (get_or_past (profile_nil (map state_of rows)) s false (past rows s le));
  each = λ e h. absurd (nowhere e h);
  only = λ f h. absurd (has-nil f (subst (λ l. Has l f) bare h));
}
  where
    past : (rows : List Row) (s : ℕ) → length rows ≤ s → length (profile_nil (map state_of rows)) ≤ s
    past [] s le = le
    past (r ∷ rows) zero le = absurd (omega (arith, le))
    past (r ∷ rows) (suc s) le = (let l = past rows s (omega (arith, le)) in omega (arith, l))

    nowhere : (e : Edge) → HasEdge (map state_of rows) s e → ⊥
    nowhere e (st, at, h) = (let g = get_of-map state_of rows s st at in let lt = slice_get_within rows s g.0 g.1 in omega (arith, lt, le))

copied_more : (a b : List ℕ) (states : List State) (s : ℕ) (copy : State) → MoreOf a b → IsCopied a states s copy → IsCopied b states s copy
copied_more a b states s copy m is = record {
  ends = is.ends;
  each = λ e h. (let r = is.each e h in (r.0, r.1, renamed_more a b e r.0 m r.2));
  only = λ f h. (let r = is.only f h in (r.0, r.1, renamed_more a b r.0 f m r.2));
}

pub none_copied : (a : List State) (olds : List ℕ) (part : List Row) → part ≡ [] → AreCopied a olds (map state_of part)
none_copied a olds part e = subst (λ l. AreCopied a olds (map state_of l)) (sym e) (record { behind = omega arith; copied = λ i s copy at is. cc })

pub next_copied : (a : List State) (olds more : List ℕ) (part after : List Row) (s : ℕ) (copy : Row) → AreCopied a olds (map state_of part) → MoreOf olds more → slice_get olds (length part) ≡ Some s → IsCopied more a s (state_of copy) → after ≡ part ++ copy ∷ [] → AreCopied a more (map state_of after)
next_copied a olds more part after s copy before m at is e = subst (λ l. AreCopied a more (map state_of l)) (sym e) (subst (AreCopied a more) (sym (map_push state_of part copy)) (record {
  behind = (let l = slice_get_within more (length part) s (number_more olds more s (length part) m at) in omega (arith, l, length-append now (state_of copy ∷ []), long));
  copied = λ i r x get has. elim (get-push now (state_of copy) i x has) [
    | inl p ↦ copied_more olds more a r x m (before.copied i r x (older i r get (let lt = p.0 in omega (arith, lt, before.behind))) p.1)
    | inr p ↦ subst (λ (y : State). IsCopied more a r y) p.1 (subst (λ t. IsCopied more a t (state_of copy)) (some_is s r (sym (number_more olds more s (length part) m at) ∙ ap (slice_get more) (sym (p.0 ∙ long)) ∙ get)) is)
  ];
}))
  where
    now : List State
    now = map state_of part

    long : length now ≡ length part
    long = length-map state_of part

    older : (i r : ℕ) → slice_get more i ≡ Some r → i < length olds → slice_get olds i ≡ Some r
    older i r get lt = sym (get-append olds m.0 i lt) ∙ ap (λ l. slice_get l i) (sym m.1) ∙ get

-- ---- what the states of the part take

module _ (a part : List State) (olds : List ℕ) (are : AreCopied a olds part) (whole : length olds ≤ length part) where
  copy_of : (i s : ℕ) → IsNumber olds s i → (copy : State) × (slice_get part i ≡ Some copy) × IsCopied olds a s copy
  copy_of i s is =
      let c = got part i (let lt = slice_get_within olds i s is in omega (arith, lt, whole)) in
      (c.0, c.1, are.copied i s c.0 is c.1)

  -- an edge of the part is one of the whole
  old_edge : (i s : ℕ) (f : Edge) → IsNumber olds s i → HasEdge part i f → (e : Edge) × HasEdge a s e × IsRenamed olds e f
  old_edge i s f is (x, at, h) = let c = copy_of i s is in c.2.only f (subst (λ (y : State). Has y.edges f) (some_is x c.0 (sym at ∙ c.1)) h)

  new_edge : (i s : ℕ) (e : Edge) → IsNumber olds s i → HasEdge a s e → (f : Edge) × HasEdge part i f × IsRenamed olds e f
  new_edge i s e is h = let c = copy_of i s is in let r = c.2.each e h in (r.0, (c.0, c.1, r.1), r.2)

  was_elem : (e : Edge) (n d q : ℕ) → IsRenamed olds e (Elem n d q) → (c : ℕ) × (r : ℕ) × (e ≡ Elem n c r) × IsNumber olds c d × IsNumber olds r q
  was_elem (Atom k r) n d q (x, is, h) = cc
  was_elem (Elem m c r) n d q (x, y, is, g, h) = (c, r, cc, subst (IsNumber olds c) (let e : x ≡ d = cc in e) g, subst (IsNumber olds r) (let e : y ≡ q = cc in e) h)
  was_elem (AnyElem c r) n d q (x, y, is, g, h) = cc

  was_any : (e : Edge) (d q : ℕ) → IsRenamed olds e (AnyElem d q) → (c : ℕ) × (r : ℕ) × (e ≡ AnyElem c r) × IsNumber olds c d × IsNumber olds r q
  was_any (Atom k r) d q (x, is, h) = cc
  was_any (Elem m c r) d q (x, y, is, g, h) = cc
  was_any (AnyElem c r) d q (x, y, is, g, h) = (c, r, refl, subst (IsNumber olds c) (let e : x ≡ d = cc in e) g, subst (IsNumber olds r) (let e : y ≡ q = cc in e) h)

  old_element : (i s n d q : ℕ) → IsNumber olds s i → HasElement part i n d q → (c : ℕ) × (r : ℕ) × HasElement a s n c r × IsNumber olds c d × IsNumber olds r q
  old_element i s n d q is (inl h) =
      let (e, there, re) = old_edge i s (Elem n d q) is h in
      let (c, r, same, g, k) = was_elem e n d q re in
      (c, r, inl (subst (HasEdge a s) same there), g, k)
  old_element i s n d q is (inr h) =
      let (e, there, re) = old_edge i s (AnyElem d q) is h in
      let (c, r, same, g, k) = was_any e d q re in
      (c, r, inr (subst (HasEdge a s) same there), g, k)

  new_element : (i s n c r : ℕ) → IsNumber olds s i → HasElement a s n c r → (d : ℕ) × (q : ℕ) × HasElement part i n d q × IsNumber olds c d × IsNumber olds r q
  new_element i s n c r is (inl h) =
      let (f, there, re) = new_edge i s (Elem n c r) is h in
      let (d, q, same, g, k) = re in
      (d, q, inl (subst (HasEdge part i) same there), g, k)
  new_element i s n c r is (inr h) =
      let (f, there, re) = new_edge i s (AnyElem c r) is h in
      let (d, q, same, g, k) = re in
      (d, q, inr (subst (HasEdge part i) same there), g, k)

  old_atom : (e : Edge) (k : AtomKind) (q : ℕ) → IsRenamed olds e (Atom k q) → (r : ℕ) × (e ≡ Atom k r) × IsNumber olds r q
  old_atom (Atom j r) k q (x, is, h) = (r, cc, subst (IsNumber olds r) (let e : x ≡ q = cc in e) h)
  old_atom (Elem m c r) k q (x, y, is, g, h) = cc
  old_atom (AnyElem c r) k q (x, y, is, g, h) = cc

  abbrev TakesSame : Plain → Type 0
  TakesSame v = (i s : ℕ) → IsNumber olds s i → takes part i v ≡ takes a s v

  same_nil : TakesSame nil
  same_nil i s is =
      let c = copy_of i s is in
      get_or_from_slice_get (profile_nil part) i c.0.ends false (get-map (λ (x : State). x.ends) part i c.0 c.1) ∙ c.2.ends

  same_element : (n : ℕ) (v w : Plain) → TakesSame v → TakesSame w → TakesSame (elem tt n v w)
  same_element n v w on_content on_rest i s is = both_ways (takes part i (elem tt n v w)) (takes a s (elem tt n v w)) forth back
    where
      forth : takes part i (elem tt n v w) ≡ true → takes a s (elem tt n v w) ≡ true
      forth t =
          let g = takes_goes part i (elem tt n v w) (λ e. cc) t in
          let (c, r, there, in_content, in_rest) = old_element i s n g.1.0 g.0 is g.1.1 in
          goes_takes a s (elem tt n v w) r (c, there, sym (on_content g.1.0 c in_content) ∙ g.1.2) (sym (on_rest g.0 r in_rest) ∙ g.2)

      back : takes a s (elem tt n v w) ≡ true → takes part i (elem tt n v w) ≡ true
      back t =
          let g = takes_goes a s (elem tt n v w) (λ e. cc) t in
          let (d, q, there, in_content, in_rest) = new_element i s n g.1.0 g.0 is g.1.1 in
          goes_takes part i (elem tt n v w) q (d, there, on_content d g.1.0 in_content ∙ g.1.2) (on_rest q g.0 in_rest ∙ g.2)

  same_leaf : (x : Value) (w : Plain) → TakesSame w → TakesSame (leaf tt x w)
  same_leaf x w on_rest i s is = both_ways (takes part i (leaf tt x w)) (takes a s (leaf tt x w)) forth back
    where
      forth : takes part i (leaf tt x w) ≡ true → takes a s (leaf tt x w) ≡ true
      forth t =
          let g = takes_goes part i (leaf tt x w) (λ e. cc) t in
          let (e, there, re) = old_edge i s (Atom (kind_of x) g.0) is g.1 in
          let (r, same, in_rest) = old_atom e (kind_of x) g.0 re in
          goes_takes a s (leaf tt x w) r (subst (HasEdge a s) same there) (sym (on_rest g.0 r in_rest) ∙ g.2)

      back : takes a s (leaf tt x w) ≡ true → takes part i (leaf tt x w) ≡ true
      back t =
          let g = takes_goes a s (leaf tt x w) (λ e. cc) t in
          let (f, there, re) = new_edge i s (Atom (kind_of x) g.0) is g.1 in
          let (q, same, in_rest) = re in
          goes_takes part i (leaf tt x w) q (subst (HasEdge part i) same there) (on_rest q g.0 in_rest ∙ g.2)

  takes_same : (v : Plain) → TakesSame v
  takes_same nil = same_nil
  takes_same (elem _ n v w) = same_element n v w (takes_same v) (takes_same w)
  takes_same (leaf _ x w) = same_leaf x w (takes_same w)

  old_label : (n : ℕ) → IsEdgeLabel part n → IsEdgeLabel a n
  old_label n (i, copy, at, j, c, q, get) =
      let s = got olds i (let lt = slice_get_within part i copy at in omega (arith, lt, are.behind)) in
      let (e, there, re) = old_edge i s.0 (Elem n c q) s.1 (copy, at, (j, get)) in
      let (d, r, same, g, h) = was_elem e n c q re in
      let (st, is, k) = subst (HasEdge a s.0) same there in
      (s.0, st, is, k.0, d, r, k.1)

  pub is_part : (firsts : List ℕ) → MoreOf firsts olds → IsPartOf a firsts part
  is_part firsts more = record {
    starts = λ i s v is. takes_same v i s (number_more firsts olds s i more is);
    labels = old_label;
  }
