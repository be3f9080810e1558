use Rattle.std.proofs.Common.{sym}
use Rattle.std.proofs.lemmas.Result.{err_from_is_err_and}
use Rattle.flux_grammar.specs.Grammar.{other}
use Rattle.flux_grammar.specs.States.{head}
use Rattle.flux_grammar.specs.Machine.{call}
use Rattle.flux_syntax.specs.At.{at}
use Rattle.flux_syntax.proofs.LabelChoices.{typed_first}
use Rattle.flux_syntax.proofs.Leads.{here, into_at, took, given, gives, part_stops}
use Rattle.flux_syntax.proofs.reader.Reader.typed_test.Goals as goal

pub returns-in_err-test-clause-parses : goal.returns-in_err-test-clause-parses
returns-in_err-test-clause-parses c =
    let first = typed_first (head (at c.args.self.now)) c.args.typed c.args.name (sym c.requires.word) in
    part_stops (at c.tested.new.self) c.from_residual.result c.in_err-test.field-0.0 (took (into_at (here (call other) (at c.args.self.now)) tt first.1 first.2) (c.advance-from.ensures.took first.0 first.1)) (err_from_is_err_and _ c.from_residual.ensures.1) c.in_err-test.ensures.parses

pub returns-clause-parses : goal.returns-clause-parses
returns-clause-parses c =
    let first = typed_first (head (at c.args.self.now)) c.args.typed c.args.name (sym c.requires.word) in
    gives (given (took (into_at (here (call other) (at c.args.self.now)) tt first.1 first.2) (c.advance-from.ensures.took first.0 first.1)) c.in_ok-test.ensures.parses)
