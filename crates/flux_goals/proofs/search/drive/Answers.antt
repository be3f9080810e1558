use Rattle.flux_goals.proofs.TableLaws.{searches_trans}
use Rattle.flux_goals.proofs.search.drive.Goals as goal

pub returns-in_err-go_deeper-in-Left-clause-searches :
    goal.returns-in_err-go_deeper-in-Left-clause-searches
returns-in_err-go_deeper-in-Left-clause-searches c = searches_trans c.args.auto.now.states c.args.other c.args.table.now c.make.new.table c.go_deeper.new.table c.make.ensures.searches c.go_deeper.ensures.searches

pub returns-in_ok-go_deeper-in-Left-clause-searches :
    goal.returns-in_ok-go_deeper-in-Left-clause-searches
returns-in_ok-go_deeper-in-Left-clause-searches c = searches_trans c.args.auto.now.states c.args.other c.args.table.now c.make.new.table c.go_deeper.new.table c.make.ensures.searches c.go_deeper.ensures.searches
