use Rattle.std.proofs.Common.{arith, subst, List}
use Rattle.flux_auto.specs.declared.table.Cell.{Cell}
use Rattle.flux_auto.specs.Standing.{IsTableLabel}
use Rattle.flux_auto.proofs.Growing.{grows_by}
use Rattle.flux_auto.proofs.Reading.{ground_on}
use Rattle.flux_auto.proofs.Closing.{closed_carried}
use Rattle.flux_auto.proofs.close.complete.Goals as goal

pub close_all-requires-clause-older : goal.close_all-requires-clause-older
close_all-requires-clause-older c = closed_carried c.args.defs.now c.args.from c.args.table.now c.fill_all.new.table c.requires.there c.requires.older c.in_ok-fill_all.ensures.grows

pub returns-clause-ok : goal.returns-clause-ok
returns-clause-ok c = record {
  ground = ground_on c.args.defs.now c.args.nullable.now c.args.from c.args.table.now c.close_all.new.table c.requires.ground
      (grows_by c.args.from c.args.from c.args.table.now c.fill_all.new.table c.close_all.new.table (omega arith) c.in_ok-fill_all.ensures.grows c.in_ok-close_all.ensures.grows)
      (omega (arith, c.requires.begun, c.requires.there)) c.in_ok-close_all.ensures.even;
  closed = c.in_ok-close_all.ensures.closed;
}

pub returns-clause-labels : goal.returns-clause-labels
returns-clause-labels c = λ n h. c.in_ok-fill_all.ensures.labels n (subst (λ (l : List Cell). IsTableLabel c.args.defs.now l n) c.in_ok-close_all.ensures.cells h)
