use Rattle.std.proofs.Common.{◌∙◌, sym}
use Rattle.flux_auto.proofs.SetLaws.{same_set}
use Rattle.flux_auto.proofs.Interning.{at_place}
use Rattle.flux_auto.proofs.profiles.intern.Goals as goal

pub returns-clause-place : goal.returns-clause-place
returns-clause-place c =
    let s = c.in_ok-number.ensures.stored in
    at_place c.insert_full.new.self.keys c.in_ok-number.number s.0 s.1 ∙ sym (same_set c.args.set s.0 s.2)
