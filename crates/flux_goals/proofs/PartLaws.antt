-- Parting the ways of an element.
use Rattle.std.proofs.Common.{◌≡◌, ◌⊎◌, ℕ, zero, suc, ◌+◌, ◌-◌, ◌<◌, ◌≤◌, List, [], ◌∷◌, ◌++◌, length, Bool, true, false, Some, None, slice_get, refl, sym, ap, subst, ◌∙◌, inl, inr, arith}
use Rattle.std.proofs.lemmas.Option.{slice_get_within}
use Rattle.flux_auto.specs.declared.recipe.Recipe.{Recipe}
use Rattle.flux_auto.specs.Takes.{State}
use Rattle.flux_goals.specs.declared.goal.Way.{Way}
use Rattle.flux_goals.specs.declared.goal.Element.{Element}
use Rattle.flux_goals.specs.declared.part.Parting.{Parting}
use Rattle.flux_auto.specs.Going.{Has}
use Rattle.flux_goals.specs.Goals.{AllBelow}
use Rattle.flux_goals.specs.Table.{Entry, AddsState, PartsBelow, Leaves, Reaches, TakeAll, Blocked, Fine, Quiet, IsPart, AreBothAsked, IsParting, Fits, SomeFits, AreInside, Branches, partings, work_of, work}
use Rattle.flux_auto.proofs.Items.{some_is, below_or_at, has-push, has-append, has-last, has-nil}
use Rattle.flux_goals.proofs.TableLaws.{blocked_quiet}

-- ---- one way more

parts_same : (ways : List Way) (n : ℕ) (w : Way) (I J : List ℕ) → PartsBelow ways n I J → slice_get ways n ≡ Some w → Has I w.content ⊎ Has J w.rest → PartsBelow ways (n + 1) I J
parts_same ways n w I J before is taken i x lt at = elim (below_or_at i n lt) [
  | inl below ↦ before i x below at
  | inr same ↦ subst (λ (y : Way). Has I y.content ⊎ Has J y.rest) (some_is w x (sym is ∙ ap (slice_get ways) (sym same) ∙ at)) taken
]

parts_inner : (ways : List Way) (n : ℕ) (w : Way) (I J K : List ℕ) → PartsBelow ways n I J → slice_get ways n ≡ Some w → AddsState I K w.content → PartsBelow ways (n + 1) K J
parts_inner ways n w I J K before is adds =
    parts_same ways n w K J (λ i x lt at. elim (before i x lt at) [ inl p ↦ inl ((adds x.content).1 (inl p)) | inr q ↦ inr q ]) is (inl ((adds w.content).1 (inr refl)))

parts_outer : (ways : List Way) (n : ℕ) (w : Way) (I J K : List ℕ) → PartsBelow ways n I J → slice_get ways n ≡ Some w → AddsState J K w.rest → PartsBelow ways (n + 1) I K
parts_outer ways n w I J K before is adds =
    parts_same ways n w I K (λ i x lt at. elim (before i x lt at) [ inl p ↦ inl p | inr q ↦ inr ((adds x.rest).1 (inl q)) ]) is (inr ((adds w.rest).1 (inr refl)))

below_more : (n : ℕ) (I K : List ℕ) (x : ℕ) → AllBelow n I → x < n → AddsState I K x → AllBelow n K
below_more n I K x before lt adds t h = elim ((adds t).0 h) [ inl p ↦ before t p | inr e ↦ subst (λ y. y < n) (sym e) lt ]

next_place : (ways : List Way) (n : ℕ) (w : Way) → slice_get ways n ≡ Some w → n + 1 ≤ length ways
next_place ways n w is = let l = slice_get_within ways n w is in omega (arith, l)

-- the way goes by what is told already
parting_same : (n : ℕ) (ways : List Way) (f g : Parting) (w : Way) → IsParting n ways f → slice_get ways f.place ≡ Some w → g.place ≡ f.place + 1 → g.inner.items ≡ f.inner.items → g.outer.items ≡ f.outer.items → Has f.inner.items w.content ⊎ Has f.outer.items w.rest
    → IsParting n ways g
parting_same n ways f g w is at place inner outer taken = record {
  place = subst (λ m. m ≤ length ways) (sym place) (next_place ways f.place w at);
  inner = subst (AllBelow n) (sym inner) is.inner;
  outer = subst (AllBelow n) (sym outer) is.outer;
  parted = subst (λ m. PartsBelow ways m g.inner.items g.outer.items) (sym place) (subst (λ I. PartsBelow ways (f.place + 1) I g.outer.items) (sym inner) (subst (λ J. PartsBelow ways (f.place + 1) f.inner.items J) (sym outer) (parts_same ways f.place w f.inner.items f.outer.items is.parted at taken)));
}

-- by its rest
parting_outer : (n : ℕ) (ways : List Way) (f g : Parting) (w : Way) → IsParting n ways f → slice_get ways f.place ≡ Some w → w.rest < n → g.place ≡ f.place + 1 → g.inner.items ≡ f.inner.items → AddsState f.outer.items g.outer.items w.rest → IsParting n ways g
parting_outer n ways f g w is at lt place inner outer = record {
  place = subst (λ m. m ≤ length ways) (sym place) (next_place ways f.place w at);
  inner = subst (AllBelow n) (sym inner) is.inner;
  outer = below_more n f.outer.items g.outer.items w.rest is.outer lt outer;
  parted = subst (λ m. PartsBelow ways m g.inner.items g.outer.items) (sym place) (subst (λ I. PartsBelow ways (f.place + 1) I g.outer.items) (sym inner) (parts_outer ways f.place w f.inner.items f.outer.items g.outer.items is.parted at outer));
}

-- by its content
parting_inner : (n : ℕ) (ways : List Way) (f g : Parting) (w : Way) → IsParting n ways f → slice_get ways f.place ≡ Some w → w.content < n → g.place ≡ f.place + 1 → g.outer.items ≡ f.outer.items → AddsState f.inner.items g.inner.items w.content → IsParting n ways g
parting_inner n ways f g w is at lt place outer inner = record {
  place = subst (λ m. m ≤ length ways) (sym place) (next_place ways f.place w at);
  inner = below_more n f.inner.items g.inner.items w.content is.inner lt inner;
  outer = subst (AllBelow n) (sym outer) is.outer;
  parted = subst (λ m. PartsBelow ways m g.inner.items g.outer.items) (sym place) (subst (λ J. PartsBelow ways (f.place + 1) g.inner.items J) (sym outer) (parts_inner ways f.place w f.inner.items f.outer.items g.inner.items is.parted at inner));
}

leaves_more : (p : ℕ → Bool) (I K : List ℕ) (d : ℕ) → Leaves p I → AddsState I K d → p d ≡ false → Leaves p K
leaves_more p I K d before adds off x h = elim ((adds x).0 h) [ inl o ↦ before x o | inr e ↦ ap p e ∙ off ]

reaches_more : (p : ℕ → Bool) (ways : List Way) (J L : List ℕ) (w : Way) → Reaches p ways J → AddsState J L w.rest → Has ways w → p w.content ≡ true → Reaches p ways L
reaches_more p ways J L w before adds is on q h = elim ((adds q).0 h) [ inl o ↦ before q o | inr e ↦ (w, is, sym e, on) ]

takes_more : (p : ℕ → Bool) (T U : List ℕ) (d : ℕ) → TakeAll p T → AddsState T U d → p d ≡ true → TakeAll p U
takes_more p T U d before adds on x h = elim ((adds x).0 h) [ inl o ↦ before x o | inr e ↦ ap p e ∙ on ]

-- ---- the work that is left

one_less : (n m : ℕ) → m < n → (k : ℕ) × (n - m ≡ suc k) × (n - (m + 1) ≡ k)
one_less n m lt = (n - (m + 1), omega (arith, lt), refl)

step : (k : ℕ) → partings (suc k) ≡ suc (partings k + partings k)
unfolding partings
step k = refl

some_work : (k : ℕ) → 0 < partings k
unfolding partings
some_work zero = omega arith
some_work (suc k) = omega arith

work_next : (ways : List Way) (f g : Parting) → f.place < length ways → g.place ≡ f.place + 1 → suc (work_of ways g + work_of ways g) ≤ work_of ways f
work_next ways f g lt e =
    let p = one_less (length ways) f.place lt in
    let x : work_of ways f ≡ partings (suc p.0) = ap partings p.1 in
    let y : work_of ways g ≡ partings p.0 = ap partings (ap (λ m. length ways - m) e ∙ p.2) in
    omega (arith, x ∙ step p.0, y)

work_push : (ways : List Way) (fs : List Parting) (g : Parting) → work ways (fs ++ g ∷ []) ≡ work_of ways g + work ways fs
work_push ways [] g = refl
work_push ways (f ∷ fs) g = omega (arith, work_push ways fs g)

-- ---- a parting is followed by others

-- one other
pub one_branch : (ways : List Way) (f g : Parting) (w : Way) (old new : List Parting) → slice_get ways f.place ≡ Some w → g.place ≡ f.place + 1 → new ≡ old ++ g ∷ []
    → ((n : ℕ) → AreInside n ways → IsParting n ways f → IsParting n ways g) → ((p : ℕ → Bool) → Fits p ways f → Fits p ways g) → Branches ways f old new
one_branch ways f g w old new at place grown is fits = record {
  are = λ n inside part x h. elim (has-push old g x (subst (λ l. Has l x) grown h)) [ inl o ↦ inl o | inr e ↦ inr (subst (IsParting n ways) e (is n inside part)) ];
  kept = λ x h. subst (λ l. Has l x) (sym grown) (has-append old (g ∷ []) x h);
  fits = λ p fit. (g, subst (λ l. Has l g) (sym grown) (has-last old g), fits p fit);
  less =
      let a = work_next ways f g (slice_get_within ways f.place w at) place in
      let b = ap (work ways) grown ∙ work_push ways old g in
      omega (arith, a, b);
}

pub branch_same : (ways : List Way) (f g : Parting) (w : Way) (old new : List Parting) → slice_get ways f.place ≡ Some w → g.place ≡ f.place + 1 → g.inner.items ≡ f.inner.items → g.outer.items ≡ f.outer.items → g.taken.items ≡ f.taken.items
    → Has f.inner.items w.content ⊎ Has f.outer.items w.rest → new ≡ old ++ g ∷ [] → Branches ways f old new
branch_same ways f g w old new at place inner outer taken up grown =
    one_branch ways f g w old new at place grown (λ n inside part. parting_same n ways f g w part at place inner outer up)
    (λ p fit. record { inner = subst (Leaves p) (sym inner) fit.inner; outer = subst (Reaches p ways) (sym outer) fit.outer; taken = subst (TakeAll p) (sym taken) fit.taken })

-- a way whose content is to take the element's goes by its rest
pub branch_taken : (ways : List Way) (f g : Parting) (w : Way) (old new : List Parting) → slice_get ways f.place ≡ Some w → g.place ≡ f.place + 1 → g.inner.items ≡ f.inner.items → AddsState f.outer.items g.outer.items w.rest → g.taken.items ≡ f.taken.items
    → Has f.taken.items w.content → new ≡ old ++ g ∷ [] → Branches ways f old new
branch_taken ways f g w old new at place inner outer taken there grown =
    one_branch ways f g w old new at place grown (λ n inside part. parting_outer n ways f g w part at (inside w (f.place, at)).1 place inner outer)
    (λ p fit. record {
      inner = subst (Leaves p) (sym inner) fit.inner;
      outer = reaches_more p ways f.outer.items g.outer.items w fit.outer outer (f.place, at) (fit.taken w.content there);
      taken = subst (TakeAll p) (sym taken) fit.taken;
    })

-- a way goes by its rest where its content is to be taken, and else by its content
pub branch_both : (ways : List Way) (f g h : Parting) (w : Way) (old mid new : List Parting) → slice_get ways f.place ≡ Some w → g.place ≡ f.place + 1 → h.place ≡ f.place + 1
    → g.inner.items ≡ f.inner.items → AddsState f.outer.items g.outer.items w.rest → AddsState f.taken.items g.taken.items w.content
    → AddsState f.inner.items h.inner.items w.content → h.outer.items ≡ f.outer.items → h.taken.items ≡ f.taken.items
    → mid ≡ old ++ g ∷ [] → new ≡ mid ++ h ∷ [] → Branches ways f old new
branch_both ways f g h w old mid new at place last inner outer taken wider same kept first second = record {
  are = λ n inside part x k. elim (has-push mid h x (subst (λ l. Has l x) second k)) [
    | inl o ↦ (elim (has-push old g x (subst (λ l. Has l x) first o)) [
      | inl q ↦ inl q
      | inr e ↦ inr (subst (IsParting n ways) e (parting_outer n ways f g w part at (inside w (f.place, at)).1 place inner outer))
    ])
    | inr e ↦ inr (subst (IsParting n ways) e (parting_inner n ways f h w part at (inside w (f.place, at)).0 last same wider))
  ];
  kept = λ x k. up x (subst (λ l. Has l x) (sym first) (has-append old (g ∷ []) x k));
  fits = λ p fit. by p fit (p w.content) refl;
  less =
      let a = work_next ways f g (slice_get_within ways f.place w at) place in
      let b = work_next ways f h (slice_get_within ways f.place w at) last in
      let c = ap (work ways) first ∙ work_push ways old g in
      let d = ap (work ways) second ∙ work_push ways mid h in
      omega (arith, a, b, c, d);
}
  where
    up : (x : Parting) → Has mid x → Has new x
    up x k = subst (λ l. Has l x) (sym second) (has-append mid (h ∷ []) x k)

    by : (p : ℕ → Bool) → Fits p ways f → (b : Bool) → p w.content ≡ b → SomeFits p ways new
    by p fit true on = (
      g,
      up g (subst (λ l. Has l g) (sym first) (has-last old g)),
      record {
        inner = subst (Leaves p) (sym inner) fit.inner;
        outer = reaches_more p ways f.outer.items g.outer.items w fit.outer outer (f.place, at) on;
        taken = takes_more p f.taken.items g.taken.items w.content fit.taken taken on;
      },
    )
    by p fit false off = (
      h,
      subst (λ l. Has l h) (sym second) (has-last mid h),
      record {
        inner = leaves_more p f.inner.items h.inner.items w.content fit.inner wider off;
        outer = subst (Reaches p ways) (sym same) fit.outer;
        taken = subst (TakeAll p) (sym kept) fit.taken;
      },
    )

-- ---- all partings

-- the partings that are left are those of ways, and whichever states take the content, the element
-- isn't against the goal or a parting is that of these states
pub record Covers (n : ℕ) (a : List State) (goals : List Entry) (e : Element) (fs : List Parting) : Type 0 where
  pub are : (f : Parting) → Has fs f → IsParting n e.ways.items f
  pub covered : (p : ℕ → Bool) → Blocked a goals e.ways.items e.content e.rest p ⊎ SomeFits p e.ways.items fs

first_is : (f g : Parting) (fs gs : List Parting) → fs ≡ [] → gs ≡ fs ++ f ∷ [] → Has gs g → f ≡ g
first_is f g fs gs none grown h = elim (has-push [] f g (subst (λ l. Has l g) (grown ∙ ap (λ l. l ++ f ∷ []) none) h)) [ inl p ↦ absurd (has-nil g p) | inr e ↦ e ]

-- at first there is one, of no ways
pub covers_first : (n : ℕ) (a : List State) (goals : List Entry) (e : Element) (f : Parting) (fs gs : List Parting) → fs ≡ [] → gs ≡ fs ++ f ∷ [] → f.place ≡ 0 → f.inner.items ≡ [] → f.outer.items ≡ [] → f.taken.items ≡ [] → Covers n a goals e gs
covers_first n a goals e f fs gs none grown place inner outer taken = record {
  are = λ g h. subst (IsParting n e.ways.items) (first_is f g fs gs none grown h) (record {
    place = subst (λ m. m ≤ length e.ways.items) (sym place) (omega arith);
    inner = λ t k. absurd (has-nil t (subst (λ l. Has l t) inner k));
    outer = λ t k. absurd (has-nil t (subst (λ l. Has l t) outer k));
    parted = λ i w lt at. absurd (omega (arith, lt, place));
  });
  covered = λ p. inr (
    f,
    subst (λ l. Has l f) (sym (grown ∙ ap (λ l. l ++ f ∷ []) none)) (has-last [] f),
    record {
      inner = λ t k. absurd (has-nil t (subst (λ l. Has l t) inner k));
      outer = λ t k. absurd (has-nil t (subst (λ l. Has l t) outer k));
      taken = λ t k. absurd (has-nil t (subst (λ l. Has l t) taken k));
    },
  );
}

-- one is cut, since a goal of it is fine
pub covers_cut : (n : ℕ) (a : List State) (gs hs : List Entry) (shown : List Recipe) (e : Element) (f : Parting) (fs rest : List Parting) → Quiet gs hs → Covers n a gs e fs → fs ≡ rest ++ f ∷ [] → AreBothAsked a hs shown e f None → Covers n a hs e rest
covers_cut n a gs hs shown e f fs rest q before popped fine = record {
  are = λ g h. before.are g (subst (λ l. Has l g) (sym popped) (has-append rest (f ∷ []) g h));
  covered = λ p. elim (before.covered p) [
    | inl blocked ↦ inl (blocked_quiet a gs hs e.ways.items e.content e.rest p q blocked)
    | inr (g, h, fit) ↦ (elim (has-push rest f g (subst (λ l. Has l g) popped h)) [
      | inl there ↦ inr (g, there, fit)
      | inr same ↦ inl (cut p (subst (Fits p e.ways.items) (sym same) fit) fine)
    ])
  ];
}
  where
    cut : (p : ℕ → Bool) → Fits p e.ways.items f → Fine a hs e.content f.inner.items ⊎ Fine a hs e.rest f.outer.items → Blocked a hs e.ways.items e.content e.rest p
    cut p fit (inl x) = inl (f.inner.items, fit.inner, x)
    cut p fit (inr x) = inr (f.outer.items, fit.outer, x)

-- one is followed by those with one way more
pub covers_branch : (n : ℕ) (a : List State) (gs hs : List Entry) (e : Element) (f : Parting) (fs rest new : List Parting) → Quiet gs hs → AreInside n e.ways.items → Covers n a gs e fs → fs ≡ rest ++ f ∷ [] → Branches e.ways.items f rest new → Covers n a hs e new
covers_branch n a gs hs e f fs rest new q inside before popped branches = record {
  are = λ g h. elim (branches.are n inside (before.are f (subst (λ l. Has l f) (sym popped) (has-last rest f))) g h) [
    | inl old ↦ before.are g (subst (λ l. Has l g) (sym popped) (has-append rest (f ∷ []) g old))
    | inr is ↦ is
  ];
  covered = λ p. elim (before.covered p) [
    | inl blocked ↦ inl (blocked_quiet a gs hs e.ways.items e.content e.rest p q blocked)
    | inr (g, h, fit) ↦ (elim (has-push rest f g (subst (λ l. Has l g) popped h)) [
      | inl there ↦ inr (g, branches.kept g there, fit)
      | inr same ↦ inr (branches.fits p (subst (Fits p e.ways.items) (sym same) fit))
    ])
  ];
}

-- with none left the element isn't against the goal
pub covers_all : (n : ℕ) (k : ℕ) (a : List State) (goals : List Entry) (shown : List Recipe) (e : Element) (fs : List Parting) → Covers n a goals e fs → fs ≡ [] → IsPart k a goals shown e None
covers_all n k a goals shown e fs covers none = λ z p. elim (covers.covered p) [ inl b ↦ b | inr (g, h, fit) ↦ absurd (has-nil g (subst (λ l. Has l g) none h)) ]

pub parting_there : (n : ℕ) (a : List State) (goals : List Entry) (e : Element) (f : Parting) (fs rest : List Parting) → Covers n a goals e fs → fs ≡ rest ++ f ∷ [] → IsParting n e.ways.items f
parting_there n a goals e f fs rest covers popped = covers.are f (subst (λ l. Has l f) (sym popped) (has-last rest f))

-- forests against both goals of a parting of all ways
pub both_found : (k n : ℕ) (a : List State) (goals : List Entry) (shown : List Recipe) (e : Element) (f : Parting) (i j : ℕ) → IsParting n e.ways.items f → f.place ≡ length e.ways.items → AreBothAsked a goals shown e f (Some (i, j)) → IsPart k a goals shown e (Some (i, j))
both_found k n a goals shown e f i j parting all (first, second) =
    (f.inner.items, f.outer.items, (λ w h. parting.parted h.0 w (let l = slice_get_within e.ways.items h.0 w h.1 in omega (arith, l, all)) h.1), first, second)

-- a goal was added
pub part_added : (k : ℕ) (a : List State) (goals : List Entry) (shown : List Recipe) (e : Element) → k < length goals → IsPart k a goals shown e None
part_added k a goals shown e more = λ z. absurd (omega (arith, more, z))

pub work_popped : (ways : List Way) (f : Parting) (fs rest : List Parting) → fs ≡ rest ++ f ∷ [] → work ways fs ≡ work_of ways f + work ways rest
work_popped ways f fs rest popped = ap (work ways) popped ∙ work_push ways rest f

pub work_less : (ways : List Way) (f : Parting) (fs rest : List Parting) → fs ≡ rest ++ f ∷ [] → work ways rest < work ways fs
work_less ways f fs rest popped = let a = work_popped ways f fs rest popped in let b = some_work (length ways - f.place) in omega (arith, a, b)

pub work_branch : (ways : List Way) (f : Parting) (fs rest new : List Parting) → fs ≡ rest ++ f ∷ [] → Branches ways f rest new → work ways new < work ways fs
work_branch ways f fs rest new popped branches = let a = work_popped ways f fs rest popped in let b = branches.less in omega (arith, a, b)
