-- The laws of the search for the nullable names.
use Rattle.std.proofs.Common.{◌≡◌, ◌+◌, ◌<◌, ◌≤◌, ℕ, zero, suc, List, Bool, true, false, Some, length, replicate, refl, sym, ap, subst, ◌∙◌, inl, inr, arith}
use Rattle.std.proofs.Math.ListN.{set}
use Rattle.flux_trees.specs.Hedge.{nil}
use Rattle.flux_schema.specs.Ty.{Ty, named}
use Rattle.flux_schema.specs.Definitions.{Definitions, body_of}
use Rattle.flux_schema.specs.Member.{Member, in_name}
use Rattle.flux_schema.specs.Marks.{unmarked}
use Rattle.flux_schema.proofs.MarkLaws.{marked-set, unmarked-set}
use Rattle.flux_schema.proofs.Ranks.{body_within}
use Rattle.flux_auto.specs.Takes.{has}
use Rattle.flux_auto.specs.Standing.{is_nullable, TellsNullable}
use Rattle.flux_auto.specs.Marking.{MarksSound, Marked, Marks}
use Rattle.flux_auto.proofs.Items.{some_is}
use Rattle.flux_auto.proofs.Lists.{of_name, is_nullable-sound, is_nullable-complete}
use Rattle.flux_auto.proofs.Growing.{below_or_not}

-- a round that has come to the index n
pub record Marking (defs : Definitions) (before nullable : List Bool) (n : ℕ) (more : Bool) : Type 0 where
  pub len : length nullable ≡ length defs
  pub sound : MarksSound defs before → MarksSound defs nullable
  pub fewer : more ≡ true → unmarked nullable < unmarked before
  pub no_more : unmarked nullable ≤ unmarked before
  pub all : more ≡ false → (x : ℕ) (t : Ty) → x < n → body_of defs x ≡ Some t → is_nullable (has nullable) t ≡ true → has nullable x ≡ true

pub marking_begins : (defs : Definitions) (nullable : List Bool) → length nullable ≡ length defs → Marking defs nullable nullable 0 false
marking_begins defs nullable e = record {
  len = e;
  sound = λ s. s;
  fewer = λ k. cc;
  no_more = omega arith;
  all = λ k x t lt. absurd (omega (arith, lt));
}

-- the name has no mark, and its body is nullable
pub marked_now : (defs : Definitions) (nullable : List Bool) (n : ℕ) (t : Ty) → n < length nullable → has nullable n ≡ false → body_of defs n ≡ Some t → is_nullable (has nullable) t ≡ true → Marked defs nullable (set nullable n true) n true
marked_now defs nullable n t lt bare body e = record {
  sound = λ s x h. elim (marked-set nullable n x h) [
    | inl same ↦ subst (λ y. Member defs nil (named y)) (sym same) (in_name n body (is_nullable-sound defs (has nullable) s t e))
    | inr k ↦ s x k
  ];
  fewer = λ k. omega (arith, unmarked-set nullable n lt bare);
  same = λ k. cc;
  told = λ k. cc;
}

-- it has a mark already
pub marked_before : (defs : Definitions) (nullable : List Bool) (n : ℕ) → has nullable n ≡ true → Marked defs nullable nullable n false
marked_before defs nullable n marked = record {
  sound = λ s. s;
  fewer = λ k. cc;
  same = λ k. refl;
  told = λ k t body e. marked;
}

-- or its body isn't nullable
pub not_marked : (defs : Definitions) (nullable : List Bool) (n : ℕ) (t : Ty) → body_of defs n ≡ Some t → is_nullable (has nullable) t ≡ false → Marked defs nullable nullable n false
not_marked defs nullable n t body lacks = record {
  sound = λ s. s;
  fewer = λ k. cc;
  same = λ k. refl;
  told = λ k u is e. let x : true ≡ false = sym e ∙ ap (is_nullable (has nullable)) (some_is u t (sym is ∙ body)) ∙ lacks in cc;
}

pub marking_marks : (defs : Definitions) (before nullable after : List Bool) (n : ℕ) (more : Bool) → Marking defs before nullable n more → Marked defs nullable after n true → length after ≡ length nullable → Marking defs before after (n + 1) true
marking_marks defs before nullable after n more m k e = record {
  len = e ∙ m.len;
  sound = λ s. k.sound (m.sound s);
  fewer = λ _. omega (arith, m.no_more, k.fewer refl);
  no_more = omega (arith, m.no_more, k.fewer refl);
  all = λ h. cc;
}

pub marking_keeps : (defs : Definitions) (before nullable after : List Bool) (n : ℕ) (more : Bool) → Marking defs before nullable n more → Marked defs nullable after n false → Marking defs before after (n + 1) more
marking_keeps defs before nullable after n more m k =
    subst (λ l. Marking defs before l (n + 1) more) (sym (k.same refl)) (record {
      len = m.len;
      sound = m.sound;
      fewer = m.fewer;
      no_more = m.no_more;
      all = λ h x u lt is e. elim (below_or_not x n) [
        | inl l ↦ m.all h x u l is e
        | inr l ↦
            let at : x ≡ n = omega (arith, l, lt) in
            ap (has nullable) at ∙ subst (λ l. has l n ≡ true) (k.same refl) (k.told refl u (ap (body_of defs) (sym at) ∙ is) (ap (λ l. is_nullable (has l) u) (k.same refl) ∙ e))
      ];
    })

pub marking_ends : (defs : Definitions) (before nullable : List Bool) (n : ℕ) (more : Bool) → Marking defs before nullable n more → length defs ≤ n → Marks defs before nullable more
marking_ends defs before nullable n more m le = record {
  sound = m.sound;
  fewer = m.fewer;
  all = λ k x t is e. m.all k x t (omega (arith, le, body_within defs x t is)) is e;
}

none_marked : (n x : ℕ) → has (replicate n false) x ≡ true → ⊥
none_marked zero x h = cc
none_marked (suc n) zero h = cc
none_marked (suc n) (suc x) h = none_marked n x h

pub sound_begins : (defs : Definitions) (nullable : List Bool) (n : ℕ) → nullable ≡ replicate n false → MarksSound defs nullable
sound_begins defs nullable n e x h = absurd (none_marked n x (subst (λ l. has l x ≡ true) e h))

-- where a round finds no more
pub tells_all : (defs : Definitions) (before nullable : List Bool) (more : Bool) → MarksSound defs before → Marks defs before nullable more → more ≡ false → TellsNullable defs nullable
tells_all defs before nullable more s m e x = (
  λ h. m.sound s x h,
  λ h. let p = of_name defs h in m.all e x p.0 p.1 (is_nullable-complete defs (has nullable) (m.all e) nil p.0 p.2 refl),
)
