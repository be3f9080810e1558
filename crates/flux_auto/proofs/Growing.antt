-- Tables that grow.
use Rattle.std.proofs.Common.{ℕ, zero, suc, ◌<◌, ◌≤◌, ◌⊎◌, List, [], ◌++◌, Bool, length, refl, sym, ap, subst, ◌∙◌, inl, inr, arith, append_assoc, length-append}
use Rattle.std.proofs.lemmas.List.{append-nil}
use Rattle.flux_auto.specs.declared.edge.Edge.{Edge}
use Rattle.flux_auto.specs.declared.table.Cell.{Cell}
use Rattle.flux_auto.specs.declared.table.Table.{Table}
use Rattle.flux_auto.specs.Built.{Grows, IsSet}

pub below_or_not : (s n : ℕ) → (s < n) ⊎ (n ≤ s)
below_or_not s zero = inr (omega arith)
below_or_not zero (suc n) = inl (omega arith)
below_or_not (suc s) (suc n) = elim (below_or_not s n) [ inl h ↦ inl (omega (arith, h)) | inr h ↦ inr (omega (arith, h)) ]

pub grows_by : (n m : ℕ) (a b c : Table) → n ≤ m → Grows n a b → Grows m b c → Grows n a c
grows_by n m a b c le g h = record {
  more = g.more ++ h.more;
  cells = h.cells ∙ ap (λ l. l ++ h.more) g.cells ∙ append_assoc a.cells.items g.more h.more;
  rows = λ s lt. h.rows s (omega (arith, le, lt)) ∙ g.rows s lt;
  longer = omega (arith, le, h.longer);
}

pub grows_on : (a b c : Table) → Grows (length a.rows.items) a b → Grows (length b.rows.items) b c → Grows (length a.rows.items) a c
grows_on a b c g h = grows_by (length a.rows.items) (length b.rows.items) a b c g.longer g h

pub grows_same : (n : ℕ) (a : Table) → n ≤ length a.rows.items → Grows n a a
grows_same n a h = record { more = []; cells = sym (append-nil a.cells.items); rows = λ s lt. refl; longer = h }

pub grows_less : (n m : ℕ) (a b : Table) → m ≤ n → Grows n a b → Grows m a b
grows_less n m a b le g = record { more = g.more; cells = g.cells; rows = λ s lt. g.rows s (omega (arith, le, lt)); longer = omega (arith, le, g.longer) }

-- a row behind the first n is set
pub grows_set : (n s : ℕ) (a b c : Table) (ends : Bool) (edges : List Edge) → n ≤ s → Grows n a b → IsSet b c s ends edges → Grows n a c
grows_set n s a b c ends edges le g t = record {
  more = g.more;
  cells = t.cells ∙ g.cells;
  rows = λ i lt. t.others i (λ e. omega (arith, le, lt, e)) ∙ g.rows i lt;
  longer = omega (arith, g.longer, t.same_length);
}

pub grows-length : (n : ℕ) (a b : Table) → Grows n a b → length a.cells.items ≤ length b.cells.items
grows-length n a b g = omega (arith, ap length g.cells, length-append a.cells.items g.more)

-- what stays as cells are put at the end holds of the table that grew
pub carried : (P : List Cell → Type 0) (n : ℕ) (a b : Table) → Grows n a b → ((more : List Cell) → P (a.cells.items ++ more)) → P b.cells.items
carried P n a b g f = subst P (sym g.cells) (f g.more)
