use Rattle.std.proofs.Common.{Some, Ok, Err, refl, sym, ap, ◌∙◌, arith}
use Rattle.std.proofs.lemmas.Result.{err_from_is_err_and}
use Rattle.flux_grammar.specs.declared.lexeme.Keyword.TheVariants as key
use Rattle.flux_grammar.specs.declared.lexeme.Lexeme.TheVariants.{Reserved, Sign, Var, Literal}
use Rattle.flux_grammar.specs.declared.lexeme.Sign.TheVariants as sign
use Rattle.flux_grammar.specs.Grammar.{expr, items, item, compared, post, prim, within}
use Rattle.flux_grammar.specs.States.{head}
use Rattle.flux_grammar.specs.Machine.{call}
use Rattle.flux_syntax.specs.At.{at}
use Rattle.flux_syntax.proofs.Chosen.{is_here, not_here}
use Rattle.flux_syntax.proofs.Leads.{deep_here, here, passes, same_tree, into, into_at, took, given, past_mark, begun, turned, gives, gives_as, gives_all, makes, ends, part_stops, piece_stops}
use Rattle.flux_syntax.proofs.QueryChoices.{var_here, literal_here, no_items, plain_item, uncompared, steps_from, element_here, some_within}
use Rattle.flux_syntax.proofs.reader.Reader.+queries.Goals as goal

pub compared-returns-in_err-right-clause-parses : goal.compared-returns-in_err-right-clause-parses
compared-returns-in_err-right-clause-parses t c =
    part_stops (at c.post.new.self) c.from_residual.result c.in_err-right.field-0.0 (took (into_at (here (call (compared c.args.depth c.args.left)) (at c.args.self.now)) tt (is_here c.is_at.ensures.here c.if-is_at.true) (λ k. refl)) (c.advance.ensures.took (Sign sign.Equal) (is_here c.is_at.ensures.here c.if-is_at.true))) (err_from_is_err_and _ c.from_residual.ensures.1) c.in_err-right.ensures.parses

pub compared-returns-then-is_at-clause-parses : goal.compared-returns-then-is_at-clause-parses
compared-returns-then-is_at-clause-parses t c =
    makes c.made_same.result c.made_same.ensures (past_mark (given (took (into_at (here (call (compared c.args.depth c.args.left)) (at c.args.self.now)) tt (is_here c.is_at.ensures.here c.if-is_at.true) (λ k. refl)) (c.advance.ensures.took (Sign sign.Equal) (is_here c.is_at.ensures.here c.if-is_at.true))) c.in_ok-right.ensures.parses))

pub compared-returns-in_err-right-2-clause-parses : goal.compared-returns-in_err-right-2-clause-parses
compared-returns-in_err-right-2-clause-parses t c =
    part_stops (at c.post-then-is_at-2.new.self) c.from_residual-in_err-right-2.result c.in_err-right-2.field-0.0 (took (into_at (here (call (compared c.args.depth c.args.left)) (at c.args.self.now)) tt (is_here c.is_at-2.ensures.here c.if-is_at-2.true) (λ k. refl)) (c.advance-then-is_at-2.ensures.took (Sign sign.Less) (is_here c.is_at-2.ensures.here c.if-is_at-2.true))) (err_from_is_err_and _ c.from_residual-in_err-right-2.ensures.1) c.in_err-right-2.ensures.parses

pub compared-returns-then-is_at-2-clause-parses : goal.compared-returns-then-is_at-2-clause-parses
compared-returns-then-is_at-2-clause-parses t c =
    makes c.made_less.result c.made_less.ensures (past_mark (given (took (into_at (here (call (compared c.args.depth c.args.left)) (at c.args.self.now)) tt (is_here c.is_at-2.ensures.here c.if-is_at-2.true) (λ k. refl)) (c.advance-then-is_at-2.ensures.took (Sign sign.Less) (is_here c.is_at-2.ensures.here c.if-is_at-2.true))) c.in_ok-right-2.ensures.parses))

pub compared-returns-clause-parses : goal.compared-returns-clause-parses
compared-returns-clause-parses t c =
    gives (into (here (call (compared c.args.depth c.args.left)) (at c.args.self.now)) tt (uncompared c.args.depth c.args.left (head (at c.args.self.now)) (not_here c.is_at.ensures.here c.if-is_at.false) (not_here c.is_at-2.ensures.here c.if-is_at-2.false)))

pub for_item-returns-in_err-name-clause-parses : goal.for_item-returns-in_err-name-clause-parses
for_item-returns-in_err-name-clause-parses t c =
    part_stops (at c.var.new.self) c.from_residual.result c.in_err-name.field-0.0 (took (into_at (here (call (item c.args.depth)) (at c.args.self.now)) (λ _. c.requires.depth) c.requires.open (λ k. refl)) (c.advance-word.ensures.took (Reserved key.QueryFor) c.requires.open)) (err_from_is_err_and _ c.from_residual.ensures.1) c.in_err-name.ensures.parses

pub for_item-returns-in_err-take_word-clause-parses : goal.for_item-returns-in_err-take_word-clause-parses
for_item-returns-in_err-take_word-clause-parses t c =
    piece_stops (at c.take_word.new.self) c.from_residual-in_err-take_word.result c.in_err-take_word.field-0.0 (given (took (into_at (here (call (item c.args.depth)) (at c.args.self.now)) (λ _. c.requires.depth) c.requires.open (λ k. refl)) (c.advance-word.ensures.took (Reserved key.QueryFor) c.requires.open)) c.in_ok-name.ensures.parses) (err_from_is_err_and _ c.from_residual-in_err-take_word.ensures.1) c.in_err-take_word.ensures.took

pub for_item-returns-in_err-over-clause-parses : goal.for_item-returns-in_err-over-clause-parses
for_item-returns-in_err-over-clause-parses t c =
    part_stops (at c.boxed_query.new.self) c.from_residual-in_err-over.result c.in_err-over.field-0.0 (took (given (took (into_at (here (call (item c.args.depth)) (at c.args.self.now)) (λ _. c.requires.depth) c.requires.open (λ k. refl)) (c.advance-word.ensures.took (Reserved key.QueryFor) c.requires.open)) c.in_ok-name.ensures.parses) c.in_ok-take_word.ensures.took) (err_from_is_err_and _ c.from_residual-in_err-over.ensures.1) c.in_err-over.ensures.parses

pub for_item-returns-in_err-take_word-2-clause-parses : goal.for_item-returns-in_err-take_word-2-clause-parses
for_item-returns-in_err-take_word-2-clause-parses t c =
    piece_stops (at c.take_word-2.new.self) c.from_residual-in_err-take_word-2.result c.in_err-take_word-2.field-0.0 (given (took (given (took (into_at (here (call (item c.args.depth)) (at c.args.self.now)) (λ _. c.requires.depth) c.requires.open (λ k. refl)) (c.advance-word.ensures.took (Reserved key.QueryFor) c.requires.open)) c.in_ok-name.ensures.parses) c.in_ok-take_word.ensures.took) c.in_ok-over.ensures.parses) (err_from_is_err_and _ c.from_residual-in_err-take_word-2.ensures.1) c.in_err-take_word-2.ensures.took

pub for_item-returns-in_err-body-clause-parses : goal.for_item-returns-in_err-body-clause-parses
for_item-returns-in_err-body-clause-parses t c =
    part_stops (at c.boxed_item.new.self) c.from_residual-in_err-body.result c.in_err-body.field-0.0 (took (given (took (given (took (into_at (here (call (item c.args.depth)) (at c.args.self.now)) (λ _. c.requires.depth) c.requires.open (λ k. refl)) (c.advance-word.ensures.took (Reserved key.QueryFor) c.requires.open)) c.in_ok-name.ensures.parses) c.in_ok-take_word.ensures.took) c.in_ok-over.ensures.parses) c.in_ok-take_word-2.ensures.took) (err_from_is_err_and _ c.from_residual-in_err-body.ensures.1) c.in_err-body.ensures.parses

pub for_item-returns-clause-parses : goal.for_item-returns-clause-parses
for_item-returns-clause-parses t c =
    gives (past_mark (given (took (given (took (given (took (into_at (here (call (item c.args.depth)) (at c.args.self.now)) (λ _. c.requires.depth) c.requires.open (λ k. refl)) (c.advance-word.ensures.took (Reserved key.QueryFor) c.requires.open)) c.in_ok-name.ensures.parses) c.in_ok-take_word.ensures.took) c.in_ok-over.ensures.parses) c.in_ok-take_word-2.ensures.took) c.in_ok-body.ensures.parses))

pub if_item-returns-in_err-test-clause-parses : goal.if_item-returns-in_err-test-clause-parses
if_item-returns-in_err-test-clause-parses t c =
    part_stops (at c.boxed_query.new.self) c.from_residual.result c.in_err-test.field-0.0 (took (into_at (here (call (item c.args.depth)) (at c.args.self.now)) (λ _. c.requires.depth) c.requires.open (λ k. refl)) (c.advance-word.ensures.took (Reserved key.QueryIf) c.requires.open)) (err_from_is_err_and _ c.from_residual.ensures.1) c.in_err-test.ensures.parses

pub if_item-returns-in_err-take_word-clause-parses : goal.if_item-returns-in_err-take_word-clause-parses
if_item-returns-in_err-take_word-clause-parses t c =
    piece_stops (at c.take_word.new.self) c.from_residual-in_err-take_word.result c.in_err-take_word.field-0.0 (given (took (into_at (here (call (item c.args.depth)) (at c.args.self.now)) (λ _. c.requires.depth) c.requires.open (λ k. refl)) (c.advance-word.ensures.took (Reserved key.QueryIf) c.requires.open)) c.in_ok-test.ensures.parses) (err_from_is_err_and _ c.from_residual-in_err-take_word.ensures.1) c.in_err-take_word.ensures.took

pub if_item-returns-in_err-yes-clause-parses : goal.if_item-returns-in_err-yes-clause-parses
if_item-returns-in_err-yes-clause-parses t c =
    part_stops (at c.boxed_item.new.self) c.from_residual-in_err-yes.result c.in_err-yes.field-0.0 (took (given (took (into_at (here (call (item c.args.depth)) (at c.args.self.now)) (λ _. c.requires.depth) c.requires.open (λ k. refl)) (c.advance-word.ensures.took (Reserved key.QueryIf) c.requires.open)) c.in_ok-test.ensures.parses) c.in_ok-take_word.ensures.took) (err_from_is_err_and _ c.from_residual-in_err-yes.ensures.1) c.in_err-yes.ensures.parses

pub if_item-returns-in_err-take_word-2-clause-parses : goal.if_item-returns-in_err-take_word-2-clause-parses
if_item-returns-in_err-take_word-2-clause-parses t c =
    piece_stops (at c.take_word-2.new.self) c.from_residual-in_err-take_word-2.result c.in_err-take_word-2.field-0.0 (given (took (given (took (into_at (here (call (item c.args.depth)) (at c.args.self.now)) (λ _. c.requires.depth) c.requires.open (λ k. refl)) (c.advance-word.ensures.took (Reserved key.QueryIf) c.requires.open)) c.in_ok-test.ensures.parses) c.in_ok-take_word.ensures.took) c.in_ok-yes.ensures.parses) (err_from_is_err_and _ c.from_residual-in_err-take_word-2.ensures.1) c.in_err-take_word-2.ensures.took

pub if_item-returns-in_err-no-clause-parses : goal.if_item-returns-in_err-no-clause-parses
if_item-returns-in_err-no-clause-parses t c =
    part_stops (at c.boxed_item-2.new.self) c.from_residual-in_err-no.result c.in_err-no.field-0.0 (took (given (took (given (took (into_at (here (call (item c.args.depth)) (at c.args.self.now)) (λ _. c.requires.depth) c.requires.open (λ k. refl)) (c.advance-word.ensures.took (Reserved key.QueryIf) c.requires.open)) c.in_ok-test.ensures.parses) c.in_ok-take_word.ensures.took) c.in_ok-yes.ensures.parses) c.in_ok-take_word-2.ensures.took) (err_from_is_err_and _ c.from_residual-in_err-no.ensures.1) c.in_err-no.ensures.parses

pub if_item-returns-clause-parses : goal.if_item-returns-clause-parses
if_item-returns-clause-parses t c =
    gives (past_mark (given (took (given (took (given (took (into_at (here (call (item c.args.depth)) (at c.args.self.now)) (λ _. c.requires.depth) c.requires.open (λ k. refl)) (c.advance-word.ensures.took (Reserved key.QueryIf) c.requires.open)) c.in_ok-test.ensures.parses) c.in_ok-take_word.ensures.took) c.in_ok-yes.ensures.parses) c.in_ok-take_word-2.ensures.took) c.in_ok-no.ensures.parses))

pub item-returns-then-depth-ge-LIMIT-clause-parses : goal.item-returns-then-depth-ge-LIMIT-clause-parses
item-returns-then-depth-ge-LIMIT-clause-parses t c =
    deep_here (item c.args.depth) (at c.args.self.now) c.args.depth c.if-depth-ge-LIMIT.true (λ free. free tt)

pub item-returns-in_err-left-clause-parses : goal.item-returns-in_err-left-clause-parses
item-returns-in_err-left-clause-parses t c =
    part_stops (at c.post.new.self) c.from_residual.result c.in_err-left.field-0.0 (into (here (call (item c.args.depth)) (at c.args.self.now)) (λ _. c.if-depth-ge-LIMIT.false) (plain_item c.args.depth (head (at c.args.self.now)) (not_here c.is_at_word.ensures.here c.if-is_at_word.false) (not_here c.is_at_word-2.ensures.here c.if-is_at_word-2.false) (not_here c.is_at_word-3.ensures.here c.if-is_at_word-3.false))) (err_from_is_err_and _ c.from_residual.ensures.1) c.in_err-left.ensures.parses

pub item-returns-clause-parses : goal.item-returns-clause-parses
item-returns-clause-parses t c =
    ends (at c.compared.new.self) c.compared.result (given (into (here (call (item c.args.depth)) (at c.args.self.now)) (λ _. c.if-depth-ge-LIMIT.false) (plain_item c.args.depth (head (at c.args.self.now)) (not_here c.is_at_word.ensures.here c.if-is_at_word.false) (not_here c.is_at_word-2.ensures.here c.if-is_at_word-2.false) (not_here c.is_at_word-3.ensures.here c.if-is_at_word-3.false))) c.in_ok-left.ensures.parses) c.compared.ensures.parses

pub items-loop-self-init : goal.items-loop-self-init
items-loop-self-init t c =
    record { same = refl; shorter = omega arith; on = begun (call (items c.args.depth)) c.new-all.ensures }

pub items-returns-in_err-next-clause-parses : goal.items-returns-in_err-next-clause-parses
items-returns-in_err-next-clause-parses t c =
    part_stops (at c.item.new.self) c.from_residual.result c.in_err-next.field-0.0 (took (into_at c.loop-self.invariant.on tt (is_here c.is_at.ensures.here c.loop-self-test.true) (λ k. refl)) (c.advance.ensures.took (Sign sign.Comma) (is_here c.is_at.ensures.here c.loop-self-test.true))) (err_from_is_err_and _ c.from_residual.ensures.1) c.in_err-next.ensures.parses

pub items-loop-self-preserved : goal.items-loop-self-preserved
items-loop-self-preserved t c =
    record {
      same = c.loop-self.invariant.same;
      shorter = omega arith;
      on = turned (call (items c.args.depth)) c.loop-self.all c.in_ok-next.next c.in_ok-push.ensures.ok (given (took (into_at c.loop-self.invariant.on tt (is_here c.is_at.ensures.here c.loop-self-test.true) (λ k. refl)) (c.advance.ensures.took (Sign sign.Comma) (is_here c.is_at.ensures.here c.loop-self-test.true))) c.in_ok-next.ensures.parses);
    }

pub items-returns-clause-parses : goal.items-returns-clause-parses
items-returns-clause-parses t c =
    gives_all (into c.loop-self.invariant.on tt (no_items c.args.depth (head (at c.loop-self.self)) (not_here c.is_at.ensures.here c.loop-self-test.false)))

pub let_item-returns-in_err-name-clause-parses : goal.let_item-returns-in_err-name-clause-parses
let_item-returns-in_err-name-clause-parses t c =
    part_stops (at c.var.new.self) c.from_residual.result c.in_err-name.field-0.0 (took (into_at (here (call (item c.args.depth)) (at c.args.self.now)) (λ _. c.requires.depth) c.requires.open (λ k. refl)) (c.advance-word.ensures.took (Reserved key.QueryLet) c.requires.open)) (err_from_is_err_and _ c.from_residual.ensures.1) c.in_err-name.ensures.parses

pub let_item-returns-in_err-take-clause-parses : goal.let_item-returns-in_err-take-clause-parses
let_item-returns-in_err-take-clause-parses t c =
    piece_stops (at c.take.new.self) c.from_residual-in_err-take.result c.in_err-take.field-0.0 (given (took (into_at (here (call (item c.args.depth)) (at c.args.self.now)) (λ _. c.requires.depth) c.requires.open (λ k. refl)) (c.advance-word.ensures.took (Reserved key.QueryLet) c.requires.open)) c.in_ok-name.ensures.parses) (err_from_is_err_and _ c.from_residual-in_err-take.ensures.1) c.in_err-take.ensures.took

pub let_item-returns-in_err-bound-clause-parses : goal.let_item-returns-in_err-bound-clause-parses
let_item-returns-in_err-bound-clause-parses t c =
    part_stops (at c.boxed_query.new.self) c.from_residual-in_err-bound.result c.in_err-bound.field-0.0 (took (given (took (into_at (here (call (item c.args.depth)) (at c.args.self.now)) (λ _. c.requires.depth) c.requires.open (λ k. refl)) (c.advance-word.ensures.took (Reserved key.QueryLet) c.requires.open)) c.in_ok-name.ensures.parses) c.in_ok-take.ensures.took) (err_from_is_err_and _ c.from_residual-in_err-bound.ensures.1) c.in_err-bound.ensures.parses

pub let_item-returns-in_err-take_word-clause-parses : goal.let_item-returns-in_err-take_word-clause-parses
let_item-returns-in_err-take_word-clause-parses t c =
    piece_stops (at c.take_word.new.self) c.from_residual-in_err-take_word.result c.in_err-take_word.field-0.0 (given (took (given (took (into_at (here (call (item c.args.depth)) (at c.args.self.now)) (λ _. c.requires.depth) c.requires.open (λ k. refl)) (c.advance-word.ensures.took (Reserved key.QueryLet) c.requires.open)) c.in_ok-name.ensures.parses) c.in_ok-take.ensures.took) c.in_ok-bound.ensures.parses) (err_from_is_err_and _ c.from_residual-in_err-take_word.ensures.1) c.in_err-take_word.ensures.took

pub let_item-returns-in_err-body-clause-parses : goal.let_item-returns-in_err-body-clause-parses
let_item-returns-in_err-body-clause-parses t c =
    part_stops (at c.boxed_item.new.self) c.from_residual-in_err-body.result c.in_err-body.field-0.0 (took (given (took (given (took (into_at (here (call (item c.args.depth)) (at c.args.self.now)) (λ _. c.requires.depth) c.requires.open (λ k. refl)) (c.advance-word.ensures.took (Reserved key.QueryLet) c.requires.open)) c.in_ok-name.ensures.parses) c.in_ok-take.ensures.took) c.in_ok-bound.ensures.parses) c.in_ok-take_word.ensures.took) (err_from_is_err_and _ c.from_residual-in_err-body.ensures.1) c.in_err-body.ensures.parses

pub let_item-returns-clause-parses : goal.let_item-returns-clause-parses
let_item-returns-clause-parses t c =
    gives (past_mark (given (took (given (took (given (took (into_at (here (call (item c.args.depth)) (at c.args.self.now)) (λ _. c.requires.depth) c.requires.open (λ k. refl)) (c.advance-word.ensures.took (Reserved key.QueryLet) c.requires.open)) c.in_ok-name.ensures.parses) c.in_ok-take.ensures.took) c.in_ok-bound.ensures.parses) c.in_ok-take_word.ensures.took) c.in_ok-body.ensures.parses))

pub post-returns-in_err-first-clause-parses : goal.post-returns-in_err-first-clause-parses
post-returns-in_err-first-clause-parses t c =
    part_stops (at c.primary.new.self) c.from_residual.result c.in_err-first.field-0.0 (into (here (call (post c.args.depth)) (at c.args.self.now)) tt (λ k. refl)) (err_from_is_err_and _ c.from_residual.ensures.1) c.in_err-first.ensures.parses

pub post-returns-in_err-steps-clause-parses : goal.post-returns-in_err-steps-clause-parses
post-returns-in_err-steps-clause-parses t c =
    part_stops (at c.steps.new.self) c.from_residual-in_err-steps.result c.in_err-steps.field-0.0 (given (into (here (call (post c.args.depth)) (at c.args.self.now)) tt (λ k. refl)) c.in_ok-first.ensures.parses) (err_from_is_err_and _ c.from_residual-in_err-steps.ensures.1) (steps_from (at c.primary.new.self) (at c.steps.new.self) (Err c.in_err-steps.field-0.0) (ap (λ at. at.from) c.span.ensures) c.in_err-steps.ensures.parses)

pub post-returns-clause-parses : goal.post-returns-clause-parses
post-returns-clause-parses t c =
    makes c.made_stepped.result c.made_stepped.ensures (past_mark (given (given (into (here (call (post c.args.depth)) (at c.args.self.now)) tt (λ k. refl)) c.in_ok-first.ensures.parses) (steps_from (at c.primary.new.self) (at c.steps.new.self) (Ok c.in_ok-steps.steps) (ap (λ at. at.from) c.span.ensures) c.in_ok-steps.ensures.parses)))

pub primary-returns-in-Some-clause-parses : goal.primary-returns-in-Some-clause-parses
primary-returns-in-Some-clause-parses t c =
    gives (took (into_at (here (call (prim c.args.depth)) (at c.args.self.now)) tt (var_here (head (at c.args.self.now)) c.in-Some.name c.in-Some.ensures.name) (λ k. refl)) (c.advance-at.ensures.took (Var c.in-Some.name) (var_here (head (at c.args.self.now)) c.in-Some.name c.in-Some.ensures.name)))

pub primary-returns-in-Some-2-clause-parses : goal.primary-returns-in-Some-2-clause-parses
primary-returns-in-Some-2-clause-parses t c =
    gives (took (into_at (here (call (prim c.args.depth)) (at c.args.self.now)) tt (literal_here (head (at c.args.self.now)) c.in-Some-2.atom (sym c.in-Some-2.is ∙ c.in_ok-atom.ensures)) (λ k. refl)) (c.advance-at-in-Some-2.ensures.took (Literal c.in-Some-2.atom) (literal_here (head (at c.args.self.now)) c.in-Some-2.atom (sym c.in-Some-2.is ∙ c.in_ok-atom.ensures))))

pub query-returns-in_err-first-clause-parses : goal.query-returns-in_err-first-clause-parses
query-returns-in_err-first-clause-parses t c =
    part_stops (at c.item.new.self) c.from_residual.result c.in_err-first.field-0.0 (into (here (call (expr c.args.depth)) (at c.args.self.now)) tt (λ k. refl)) (err_from_is_err_and _ c.from_residual.ensures.1) c.in_err-first.ensures.parses

pub query-returns-in_err-rest-clause-parses : goal.query-returns-in_err-rest-clause-parses
query-returns-in_err-rest-clause-parses t c =
    part_stops (at c.items.new.self) c.from_residual-in_err-rest.result c.in_err-rest.field-0.0 (given (into (here (call (expr c.args.depth)) (at c.args.self.now)) tt (λ k. refl)) c.in_ok-first.ensures.parses) (err_from_is_err_and _ c.from_residual-in_err-rest.ensures.1) c.in_err-rest.ensures.parses

pub query-returns-clause-parses : goal.query-returns-clause-parses
query-returns-clause-parses t c =
    makes c.made_list.result c.made_list.ensures (past_mark (given (given (into (here (call (expr c.args.depth)) (at c.args.self.now)) tt (λ k. refl)) c.in_ok-first.ensures.parses) c.in_ok-rest.ensures.parses))

pub query_element-returns-in_err-name-clause-parses : goal.query_element-returns-in_err-name-clause-parses
query_element-returns-in_err-name-clause-parses t c =
    part_stops (at c.label.new.self) c.from_residual.result c.in_err-name.field-0.0 (into (here (call (prim c.args.depth)) (at c.args.self.now)) tt (element_here c.args.depth (head (at c.args.self.now)) c.requires.other)) (err_from_is_err_and _ c.from_residual.ensures.1) c.in_err-name.ensures.parses

pub query_element-returns-in_err-take-clause-parses : goal.query_element-returns-in_err-take-clause-parses
query_element-returns-in_err-take-clause-parses t c =
    piece_stops (at c.take.new.self) c.from_residual-in_err-take.result c.in_err-take.field-0.0 (given (into (here (call (prim c.args.depth)) (at c.args.self.now)) tt (element_here c.args.depth (head (at c.args.self.now)) c.requires.other)) c.in_ok-name.ensures.parses) (err_from_is_err_and _ c.from_residual-in_err-take.ensures.1) c.in_err-take.ensures.took

pub query_element-returns-in_err-inside-clause-parses : goal.query_element-returns-in_err-inside-clause-parses
query_element-returns-in_err-inside-clause-parses t c =
    part_stops (at c.within.new.self) c.from_residual-in_err-inside.result c.in_err-inside.field-0.0 (took (given (into (here (call (prim c.args.depth)) (at c.args.self.now)) tt (element_here c.args.depth (head (at c.args.self.now)) c.requires.other)) c.in_ok-name.ensures.parses) c.in_ok-take.ensures.took) (err_from_is_err_and _ c.from_residual-in_err-inside.ensures.1) c.in_err-inside.ensures.parses

pub query_element-returns-in_err-close-clause-parses : goal.query_element-returns-in_err-close-clause-parses
query_element-returns-in_err-close-clause-parses t c =
    piece_stops (at c.take-2.new.self) c.from_residual-in_err-close.result c.in_err-close.field-0.0 (given (took (given (into (here (call (prim c.args.depth)) (at c.args.self.now)) tt (element_here c.args.depth (head (at c.args.self.now)) c.requires.other)) c.in_ok-name.ensures.parses) c.in_ok-take.ensures.took) c.in_ok-inside.ensures.parses) (err_from_is_err_and _ c.from_residual-in_err-close.ensures.1) c.in_err-close.ensures.took

pub query_element-returns-clause-parses : goal.query_element-returns-clause-parses
query_element-returns-clause-parses t c =
    gives (took (given (took (given (into (here (call (prim c.args.depth)) (at c.args.self.now)) tt (element_here c.args.depth (head (at c.args.self.now)) c.requires.other)) c.in_ok-name.ensures.parses) c.in_ok-take.ensures.took) c.in_ok-inside.ensures.parses) c.in_ok-close.ensures.took)

pub query_group-returns-in_err-inside-clause-parses : goal.query_group-returns-in_err-inside-clause-parses
query_group-returns-in_err-inside-clause-parses t c =
    part_stops (at c.within.new.self) c.from_residual.result c.in_err-inside.field-0.0 (took (into_at (here (call (prim c.args.depth)) (at c.args.self.now)) tt c.requires.open (λ k. refl)) (c.advance-open.ensures.took (Sign sign.Open) c.requires.open)) (err_from_is_err_and _ c.from_residual.ensures.1) c.in_err-inside.ensures.parses

pub query_group-returns-in_err-close-clause-parses : goal.query_group-returns-in_err-close-clause-parses
query_group-returns-in_err-close-clause-parses t c =
    piece_stops (at c.take.new.self) c.from_residual-in_err-close.result c.in_err-close.field-0.0 (given (took (into_at (here (call (prim c.args.depth)) (at c.args.self.now)) tt c.requires.open (λ k. refl)) (c.advance-open.ensures.took (Sign sign.Open) c.requires.open)) c.in_ok-inside.ensures.parses) (err_from_is_err_and _ c.from_residual-in_err-close.ensures.1) c.in_err-close.ensures.took

pub query_group-returns-clause-parses : goal.query_group-returns-clause-parses
query_group-returns-clause-parses t c =
    gives (took (given (took (into_at (here (call (prim c.args.depth)) (at c.args.self.now)) tt c.requires.open (λ k. refl)) (c.advance-open.ensures.took (Sign sign.Open) c.requires.open)) c.in_ok-inside.ensures.parses) c.in_ok-close.ensures.took)

pub within-returns-then-is_at-clause-parses : goal.within-returns-then-is_at-clause-parses
within-returns-then-is_at-clause-parses t c =
    gives (into_at (here (call (within c.args.depth)) (at c.args.self.now)) tt (is_here c.is_at.ensures.here c.if-is_at.true) (λ k. refl))

pub within-returns-then-is_at-2-clause-parses : goal.within-returns-then-is_at-2-clause-parses
within-returns-then-is_at-2-clause-parses t c =
    gives (into_at (here (call (within c.args.depth)) (at c.args.self.now)) tt (is_here c.is_at-2.ensures.here c.if-is_at-2.true) (λ k. refl))

pub within-returns-in_err-inside-clause-parses : goal.within-returns-in_err-inside-clause-parses
within-returns-in_err-inside-clause-parses t c =
    part_stops (at c.query.new.self) c.from_residual.result c.in_err-inside.field-0.0 (into (here (call (within c.args.depth)) (at c.args.self.now)) tt (some_within c.args.depth (head (at c.args.self.now)) (not_here c.is_at.ensures.here c.if-is_at.false) (not_here c.is_at-2.ensures.here c.if-is_at-2.false))) (err_from_is_err_and _ c.from_residual.ensures.1) c.in_err-inside.ensures.parses

pub within-returns-clause-parses : goal.within-returns-clause-parses
within-returns-clause-parses t c =
    gives_as (ap Some c.in_ok-new.ensures) (given (into (here (call (within c.args.depth)) (at c.args.self.now)) tt (some_within c.args.depth (head (at c.args.self.now)) (not_here c.is_at.ensures.here c.if-is_at.false) (not_here c.is_at-2.ensures.here c.if-is_at-2.false))) c.in_ok-inside.ensures.parses)

pub boxed_query-returns-in_err-tree-clause-parses : goal.boxed_query-returns-in_err-tree-clause-parses
boxed_query-returns-in_err-tree-clause-parses t c =
    passes (call (expr c.args.depth)) (at c.args.self.now) (at c.query.new.self) c.from_residual.result c.in_err-tree.field-0.0 (err_from_is_err_and _ c.from_residual.ensures.1) c.in_err-tree.ensures.parses

pub boxed_query-returns-clause-parses : goal.boxed_query-returns-clause-parses
boxed_query-returns-clause-parses t c =
    same_tree c.in_ok-new.ensures c.in_ok-tree.ensures.parses

pub boxed_item-returns-in_err-tree-clause-parses : goal.boxed_item-returns-in_err-tree-clause-parses
boxed_item-returns-in_err-tree-clause-parses t c =
    passes (call (item c.args.depth)) (at c.args.self.now) (at c.item.new.self) c.from_residual.result c.in_err-tree.field-0.0 (err_from_is_err_and _ c.from_residual.ensures.1) c.in_err-tree.ensures.parses

pub boxed_item-returns-clause-parses : goal.boxed_item-returns-clause-parses
boxed_item-returns-clause-parses t c =
    same_tree c.in_ok-new.ensures c.in_ok-tree.ensures.parses
