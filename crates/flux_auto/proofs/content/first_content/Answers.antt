use Rattle.std.proofs.Common.{true, false, ◌≡◌, sym, ◌∙◌, arith}
use Rattle.flux_types.specs.Read.{ty_of}
use Rattle.flux_auto.proofs.Contents.{none_found, none_next, found_at}
use Rattle.flux_auto.proofs.content.first_content.Goals as goal

pub loop-index-init : goal.loop-index-init
loop-index-init c = λ s d later lt e. absurd (omega (arith, later, lt))

pub loop-index-preserved : goal.loop-index-preserved
loop-index-preserved c =
    none_next c.args.cells.now c.loop-index.index (ty_of c.args.ty.now) c.index-cells-index.result c.loop-index.invariant c.loop-index-test.true c.index-cells-index.is
    (λ h. (let x : true ≡ false = sym (c.is_content.ensures.1 h) ∙ c.if-is_content.false in cc))

pub returns-then-is_content-clause-found : goal.returns-then-is_content-clause-found
returns-then-is_content-clause-found c =
    let p = c.is_content.ensures.0 c.if-is_content.true in
    found_at c.args.cells.now c.loop-index.index (ty_of c.args.ty.now) c.index-cells-index.result c.loop-index.auto.index c.loop-index-test.true c.index-cells-index.is p.0 p.1

pub returns-clause-none : goal.returns-clause-none
returns-clause-none c = none_found c.args.cells.now c.loop-index.index (ty_of c.args.ty.now) (omega arith) c.loop-index.invariant
