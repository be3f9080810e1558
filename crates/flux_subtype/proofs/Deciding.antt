-- What the automaton of two types answers for them.
use Rattle.std.proofs.Common.{◌≡◌, ℕ, true, false, [], ◌∷◌, Option, Some, IfSome, slice_get, sym, subst, ◌∙◌}
use Rattle.flux_trees.specs.Draft.{Draft}
use Rattle.flux_schema.specs.Ty.{Ty}
use Rattle.flux_schema.specs.Definitions.{Definitions}
use Rattle.flux_schema.specs.Member.{Member}
use Rattle.flux_types.specs.Verdicts.{IsEvidence}
use Rattle.flux_auto.specs.Automaton.{Automaton, TakesMembers, EdgesGiven}
use Rattle.flux_auto.proofs.TwoTypes.{labelled_by, first_takes, second_takes}
use Rattle.flux_subtype.specs.Search.{IsAnswer}

-- the forest that one state takes and the other doesn't
pub evidence : (a : Automaton) (defs : Definitions) (other : ℕ) (t u : Ty) (i j s r : ℕ) (found : Option (Draft (Unit {0}))) (f : Draft (Unit {0})) → EdgesGiven a → a.types ≡ t ∷ u ∷ [] → a.definitions ≡ defs → i ≡ 0 → j ≡ 1
    → IfSome (slice_get a.types i) (TakesMembers a s) → IfSome (slice_get a.types j) (TakesMembers a r) → found ≡ Some f → IsAnswer a.states other s r found → IsEvidence defs other t u f
evidence a defs other t u i j s r found f given types same first second left right is answer =
    let against = subst (IsAnswer a.states other s r) is answer in
    let in_left = first_takes a t u i s types first left in
    let in_right = second_takes a t u j r types second right in
    record {
      forest = against.0;
      whole = against.1;
      member = subst (λ ds. Member ds against.0 t) same ((in_left against.0).0 against.2);
      no_member = λ m. (let x : true ≡ false = sym ((in_right against.0).1 (subst (λ ds. Member ds against.0 u) (sym same) m)) ∙ against.3 in cc);
      labels = labelled_by a defs t u other against.0 given types same against.4;
    }
