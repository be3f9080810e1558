use Rattle.std.proofs.Common.{eqb-true}
use Rattle.std.proofs.lemmas.Bool.Decides.{Decides-eqb}
use Rattle.std.proofs.lemmas.Slice.Eq.{slice_eq-Decides}
use Rattle.flux_auto.proofs.SetLaws.{same_test, other_test}
use Rattle.flux_auto.proofs.set.SetPartialEq.eq.Goals as goal

pub returns-then-self-other : goal.returns-then-self-other
returns-then-self-other c = same_test c.self.inside.words.items c.other.inside.words.items c.self.inside.count c.other.inside.count _ c.args.self.now c.args.other.now c.self.invariant c.other.invariant c.self.view_is c.other.view_is c.if-self-other.true (slice_eq-Decides Decides-eqb _ _ _ c.eq.ensures)

pub returns-else-self-other : goal.returns-else-self-other
returns-else-self-other c = other_test c.self.inside.words.items c.other.inside.words.items c.self.inside.count c.other.inside.count _ c.args.self.now c.args.other.now c.self.view_is c.other.view_is c.if-self-other.false (λ h. c.if-self-other.false (eqb-true _ _ h))
