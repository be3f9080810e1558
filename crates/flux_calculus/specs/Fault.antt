-- What can be wrong with the types of queries and statements, and where.
use Rattle.std.specs.Prelude.{ℕ}
use Rattle.flux_schema.specs.Ty.{Ty}

-- a variable isn't bound; a type isn't of one tree; that one tree is an atom; a type is over the
-- limits; or a type was found that isn't included in the one that is wanted: of a condition, of a
-- side of a comparison, of a focus where trees are inserted, of an argument, of a focus at a call,
-- of a procedure's body, of what a script gives
pub data Fault : Type 0 where
  unknown_variable : (at : ℕ) → Fault
  not_single : (at : ℕ) → Fault
  not_element : (at : ℕ) → Fault
  too_large : (at : ℕ) → Fault
  not_bool : (at : ℕ) (found wanted : Ty) → Fault
  not_int : (at : ℕ) (found wanted : Ty) → Fault
  not_empty : (at : ℕ) (found wanted : Ty) → Fault
  bad_argument : (at : ℕ) (found wanted : Ty) → Fault
  bad_focus : (at : ℕ) (found wanted : Ty) → Fault
  bad_body : (at : ℕ) (found wanted : Ty) → Fault
  bad_output : (at : ℕ) (found wanted : Ty) → Fault
