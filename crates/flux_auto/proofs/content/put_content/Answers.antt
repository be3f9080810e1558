use Rattle.std.proofs.Common.{ap, []}
use Rattle.flux_types.specs.Read.{ty_of}
use Rattle.flux_auto.proofs.Contents.{content_put, put_as}
use Rattle.flux_auto.proofs.content.put_content.Goals as goal

pub returns-clause-ok : goal.returns-clause-ok
returns-clause-ok c =
    let a = c.args.table.now in
    let b = c.put.new.table in
    let s = c.in_ok-state.state in
    let put = put_as a b _ (ty_of c.args.ty.now) 0 _ _ [] s (ap ty_of c.in_ok-head.ensures) c.new.ensures.items c.in_ok-state.ensures.ok in
    let p = content_put a b (ty_of c.args.ty.now) s c.requires.even c.requires.begun put in
    record { even = p.even; content = p.content; fresh = p.fresh; labels = p.labels }
