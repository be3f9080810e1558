use Rattle.std.proofs.Common.{inl, inr}
use Rattle.std.proofs.lemmas.Result.{on_ok_weaker}
use Rattle.flux_types.proofs.Variants.{of_star, of_seq, of_alt}
use Rattle.flux_types.proofs.SearchLaws.{visits_as, visits_star, visits_seq, visits_alt}
use Rattle.flux_types.proofs.search.+mark_standing.Goals as goal

pub returns-in-Star : goal.returns-in-Star
returns-in-Star t c =
    on_ok_weaker c.mark_standing.result (λ v. visits_as _ _ _ _ _ _ (of_star c.args.ty.now c.in-Star.inner c.get.result.now c.in-Star.is c.get.ensures) (visits_star _ _ _ _ _ v)) c.mark_standing.ensures

pub returns-in_ok-mark_standing-in-Seq : goal.returns-in_ok-mark_standing-in-Seq
returns-in_ok-mark_standing-in-Seq t c =
    let first = c.in_ok-mark_standing-in-Seq.ensures in
    elim c.in-Seq.is [
      | inl e ↦ on_ok_weaker c.mark_standing-in-Seq-2.result (λ v. visits_as _ _ _ _ _ _ (of_seq c.args.ty.now c.in-Seq.left c.in-Seq.right c.get-in-Seq.result.now c.get-in-Seq-2.result.now e c.get-in-Seq.ensures c.get-in-Seq-2.ensures) (visits_seq _ _ _ _ _ _ _ _ first v)) c.mark_standing-in-Seq-2.ensures
      | inr e ↦ on_ok_weaker c.mark_standing-in-Seq-2.result (λ v. visits_as _ _ _ _ _ _ (of_alt c.args.ty.now c.in-Seq.left c.in-Seq.right c.get-in-Seq.result.now c.get-in-Seq-2.result.now e c.get-in-Seq.ensures c.get-in-Seq-2.ensures) (visits_alt _ _ _ _ _ _ _ _ first v)) c.mark_standing-in-Seq-2.ensures
    ]
