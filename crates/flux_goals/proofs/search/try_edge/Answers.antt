use Rattle.std.proofs.Common.{length, refl, subst}
use Rattle.std.proofs.lemmas.Result.{IfOk-weaker}
use Rattle.flux_auto.specs.Takes.{EdgeBelow}
use Rattle.flux_goals.specs.declared.goal.Element.{Element}
use Rattle.flux_goals.specs.Table.{IsAsked}
use Rattle.flux_goals.proofs.AfterLaws.{edge_below, rests_below, ways_below}
use Rattle.flux_goals.proofs.SearchLaws.{tried_atom, tried_elem, tried_any}
use Rattle.flux_goals.proofs.search.try_edge.Goals as goal

pub ask-requires-clause-left : goal.ask-requires-clause-left
ask-requires-clause-left c = subst (EdgeBelow (length c.args.auto.now.states)) c.in-Atom.is (edge_below c.args.auto.now.states c.requires.edge.0 c.args.edge c.states-states.ensures.edges c.requires.edge.1)

pub ask-requires-clause-right : goal.ask-requires-clause-right
ask-requires-clause-right c = rests_below c.args.auto.now.states c.in-Atom.kind c.args.right.now c.in_ok-rests-in-Atom.rests.items c.states-states.ensures.edges c.in_ok-rests-in-Atom.ensures

pub try_element-requires-clause-element : goal.try_element-requires-clause-element
try_element-requires-clause-element c =
    let x = subst (EdgeBelow (length c.args.auto.now.states)) c.in-Elem.is (edge_below c.args.auto.now.states c.requires.edge.0 c.args.edge c.states-states.ensures.edges c.requires.edge.1) in
    record {
      content = x.0;
      rest = x.1;
      ways = ways_below c.args.auto.now.states c.in-Elem.label c.args.right.now c.in_ok-ways-in-Elem.ways.items c.states-states.ensures.edges c.in_ok-ways-in-Elem.ensures;
    }

pub try_element-requires-in-AnyElem-clause-element :
    goal.try_element-requires-in-AnyElem-clause-element
try_element-requires-in-AnyElem-clause-element c =
    let x = subst (EdgeBelow (length c.args.auto.now.states)) c.in-AnyElem.is (edge_below c.args.auto.now.states c.requires.edge.0 c.args.edge c.states-states.ensures.edges c.requires.edge.1) in
    record {
      content = x.0;
      rest = x.1;
      ways = ways_below c.args.auto.now.states c.args.other c.args.right.now c.in_ok-ways-in-AnyElem.ways.items c.states-states.ensures.edges c.in_ok-ways-in-AnyElem.ensures;
    }

pub returns-in-Some-clause-tried : goal.returns-in-Some-clause-tried
returns-in-Some-clause-tried c = λ s edge.
    tried_atom (length c.args.table.now.goals.entries) c.args.auto.now.states c.args.other c.ask.new.table.goals.entries c.ask.new.table.shown.items s c.args.right.now c.in_ok-rests-in-Atom.rests.items c.args.edge c.in-Atom.kind c.in-Atom.rest c.in-Some.found c.in-Atom.is edge c.in_ok-rests-in-Atom.ensures
    (subst (IsAsked c.args.auto.now.states c.ask.new.table.goals.entries c.ask.new.table.shown.items c.in-Atom.rest c.in_ok-rests-in-Atom.rests.items) c.in-Some.is c.in_ok-found-in-Atom.ensures.asked)

pub returns-in_ok-ways-in-Elem-clause-tried : goal.returns-in_ok-ways-in-Elem-clause-tried
returns-in_ok-ways-in-Elem-clause-tried c =
    let el : Element = record { label = c.in-Elem.label; content = c.in-Elem.content; rest = c.in-Elem.rest; ways = c.in_ok-ways-in-Elem.ways } in
    IfOk-weaker c.try_element.result _ _ (λ o tried s edge. tried_elem (length c.args.table.now.goals.entries) c.args.auto.now.states c.args.other c.try_element.new.table.goals.entries c.try_element.new.table.shown.items s c.args.right.now c.args.edge el o c.in-Elem.is edge c.in_ok-ways-in-Elem.ensures tried) c.try_element.ensures.tried

pub returns-in_ok-ways-in-AnyElem-clause-tried : goal.returns-in_ok-ways-in-AnyElem-clause-tried
returns-in_ok-ways-in-AnyElem-clause-tried c =
    let el : Element = record { label = c.args.other; content = c.in-AnyElem.content; rest = c.in-AnyElem.rest; ways = c.in_ok-ways-in-AnyElem.ways } in
    IfOk-weaker c.try_element-in-AnyElem.result _ _ (λ o tried s edge. tried_any (length c.args.table.now.goals.entries) c.args.auto.now.states c.args.other c.try_element-in-AnyElem.new.table.goals.entries c.try_element-in-AnyElem.new.table.shown.items s c.args.right.now c.args.edge el o c.in-AnyElem.is refl edge c.in_ok-ways-in-AnyElem.ensures tried) c.try_element-in-AnyElem.ensures.tried
