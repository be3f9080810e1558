use Rattle.std.proofs.Common.{arith}
use Rattle.flux_types.specs.Read.{ty_of}
use Rattle.flux_auto.proofs.Contents.{found_at}
use Rattle.flux_auto.proofs.content.guessed.Goals as goal

pub returns-then-is_content : goal.returns-then-is_content
returns-then-is_content c =
    let a = c.args.table.now in
    let p = c.is_content.ensures.0 c.if-is_content.true in
    found_at a.cells.items c.in_ok-state.state (ty_of c.args.ty.now) c.index.result.now (omega arith) (omega (arith, c.len.ensures, a.cells.ok.0)) c.index.ensures p.0 p.1
