use Rattle.std.proofs.Common.{◌∙◌, ◌++◌, ◌∷◌, [], length, sym, ap, subst}
use Rattle.flux_trees.specs.Draft.{done}
use Rattle.flux_schema.specs.Labels.{BodiesLack}
use Rattle.flux_types.specs.Read.{ty_of}
use Rattle.flux_goals.specs.Table.{IsDecided, shown_at}
use Rattle.flux_goals.proofs.AnswerLaws.{holds_included, shown_evidence}
use Rattle.flux_auto.proofs.TwoTypes.{lacks_edge, two_types}
use Rattle.flux_goals.proofs.goals.against.Goals as goal

pub decide-requires-clause-lacks : goal.decide-requires-clause-lacks
decide-requires-clause-lacks c =
    let t = ty_of c.args.left.now in
    let u = ty_of c.args.right.now in
    let types = two_types c.in_ok-auto.auto.types c.add.new.self.types c.add-2.new.self.types t u c.in_ok-auto.ensures.none c.in_ok-left.ensures.types c.in_ok-right.ensures.types in
    let defs = c.in_ok-right.ensures.definitions ∙ c.in_ok-left.ensures.definitions ∙ c.in_ok-auto.ensures.definitions in
    lacks_edge c.add-2.new.self t u c.args.other c.states-states.ensures.labels types (subst (BodiesLack c.args.other) (sym defs) c.requires.bodies) c.requires.left_lacks c.requires.right_lacks

pub returns-in-None : goal.returns-in-None
returns-in-None c =
    let t = ty_of c.args.left.now in
    let u = ty_of c.args.right.now in
    let types = two_types c.in_ok-auto.auto.types c.add.new.self.types c.add-2.new.self.types t u c.in_ok-auto.ensures.none c.in_ok-left.ensures.types c.in_ok-right.ensures.types in
    let defs = c.in_ok-right.ensures.definitions ∙ c.in_ok-left.ensures.definitions ∙ c.in_ok-auto.ensures.definitions in
    holds_included c.add-2.new.self c.args.defs.now t u c.in_ok-left.left c.in_ok-right.right c.state-left.result c.state.result c.in_ok-right-2.right.items types defs
    (c.in_ok-left.ensures.start ∙ ap length c.in_ok-auto.ensures.none) (c.in_ok-right.ensures.start ∙ ap length (c.in_ok-left.ensures.types ∙ ap (λ l. l ++ t ∷ []) c.in_ok-auto.ensures.none))
    c.state-left.ensures.members c.state.ensures.members c.in_ok-right-2.ensures.items
    (subst (IsDecided c.add-2.new.self.states c.decide.new.table.shown.items c.state-left.result c.in_ok-right-2.right.items) c.in-None.is c.in_ok-decide.ensures.decided)

pub returns : goal.returns
returns c =
    let t = ty_of c.args.left.now in
    let u = ty_of c.args.right.now in
    let types = two_types c.in_ok-auto.auto.types c.add.new.self.types c.add-2.new.self.types t u c.in_ok-auto.ensures.none c.in_ok-left.ensures.types c.in_ok-right.ensures.types in
    let defs = c.in_ok-right.ensures.definitions ∙ c.in_ok-left.ensures.definitions ∙ c.in_ok-auto.ensures.definitions in
    let decided = subst (IsDecided c.add-2.new.self.states c.decide.new.table.shown.items c.state-left.result c.in_ok-right-2.right.items) c.in-Some.is c.in_ok-decide.ensures.decided in
    shown_evidence c.add-2.new.self c.args.defs.now c.args.other t u c.in_ok-left.left c.in_ok-right.right c.state-left.result c.state.result c.in_ok-right-2.right.items c.decide.new.table.shown.items c.in-Some.place c.in_ok-build-in-Some.field-0 c.states-states.ensures.labels types defs
    (c.in_ok-left.ensures.start ∙ ap length c.in_ok-auto.ensures.none) (c.in_ok-right.ensures.start ∙ ap length (c.in_ok-left.ensures.types ∙ ap (λ l. l ++ t ∷ []) c.in_ok-auto.ensures.none))
    c.state-left.ensures.members c.state.ensures.members c.in_ok-right-2.ensures.items c.decide.ensures.right.table.labels decided.1
    (c.in_ok-build-in-Some.ensures ∙ ap (λ l. done (shown_at l c.in-Some.place)) c.deref.ensures.value)
