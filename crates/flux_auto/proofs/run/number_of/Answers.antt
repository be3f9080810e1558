use Rattle.std.proofs.Common.{◌∙◌, ap, sym, map}
use Rattle.std.proofs.lemmas.List.{nil_from_length}
use Rattle.flux_forest.specs.View.{forest_of}
use Rattle.flux_trees.specs.Hedge.{trees}
use Rattle.flux_auto.specs.Built.{state_of}
use Rattle.flux_auto.specs.Profiles.{profiles_of}
use Rattle.flux_auto.proofs.Folding.{one_tree, tree_of, none_nil, walks_begin, walks_atom, walks_open, walks_close, walks_keeps, open_there, work_atom, work_open, work_close}
use Rattle.flux_auto.proofs.run.number_of.Goals as goal

pub loop-tree-init : goal.loop-tree-init
loop-tree-init c = record {
  right = c.requires.right;
  walks = walks_begin (map state_of c.args.rows.now) (profiles_of c.args.profiles.now) c.new-outer.result.items c.in_ok-trees.trees.items 0 (forest_of c.args.run) c.new-outer.ensures.items c.in_ok-trees.ensures c.requires.right.there c.requires.right.nothing;
}

pub unreachable-requires : goal.unreachable-requires
unreachable-requires c =
    let at = c.loop-tree in
    none_nil (forest_of c.in-Some.tree) (one_tree (map state_of c.args.rows.now) (profiles_of at.profiles) at.outer.items at.trees.items c.pop.new.self.items c.in-Some.tree at.rest (forest_of c.args.run) at.invariant.walks c.in-Some.ensures.items) c.in-Nothing.ensures

pub loop-tree-smaller-in-Atom : goal.loop-tree-smaller-in-Atom
loop-tree-smaller-in-Atom c = work_atom c.loop-tree.outer.items c.loop-tree.trees.items c.pop.new.self.items c.in-Some.tree c.in-Atom.atom.now c.in-Some.ensures.items c.in-Atom.ensures

pub loop-tree-preserved-in-Atom : goal.loop-tree-preserved-in-Atom
loop-tree-preserved-in-Atom c =
    let states = map state_of c.args.rows.now in
    let old = profiles_of c.loop-tree.profiles in
    let new = profiles_of c.after.new.profiles in
    let outer = c.loop-tree.outer.items in
    let all = c.loop-tree.trees.items in
    let told = c.in_ok-rest-in-Atom.ensures in
    record {
      right = told.right;
      walks = walks_atom states new outer all c.pop.new.self.items c.in-Some.tree c.loop-tree.rest c.in_ok-rest-in-Atom.rest c.in-Atom.atom.now c.kind.result (forest_of c.args.run)
          (walks_keeps states old new outer all c.loop-tree.rest (forest_of c.args.run) told.keeps c.loop-tree.invariant.walks) c.in-Some.ensures.items c.in-Atom.ensures c.kind.ensures told.gives;
    }

pub content-requires : goal.content-requires
content-requires c =
    let at = c.loop-tree in
    tree_of (forest_of c.in-Some.tree) c.in-Elem.label (one_tree (map state_of c.args.rows.now) (profiles_of at.profiles) at.outer.items at.trees.items c.pop.new.self.items c.in-Some.tree at.rest (forest_of c.args.run) at.invariant.walks c.in-Some.ensures.items) c.in-Elem.ensures

pub loop-tree-smaller-in-Elem : goal.loop-tree-smaller-in-Elem
loop-tree-smaller-in-Elem c =
    work_open c.loop-tree.outer.items c.push.new.self.items (record { label = c.in-Elem.label; trees = c.pop.new.self; rest = c.loop-tree.rest }) c.loop-tree.trees.items c.in_ok-content-in-Elem.content.items c.in-Some.tree c.in-Some.ensures.items c.in-Elem.ensures
    c.in_ok-push-in-Elem.ensures.items (c.in_ok-content-in-Elem.ensures ∙ ap trees c.content.ensures)

pub loop-tree-preserved-in-Elem : goal.loop-tree-preserved-in-Elem
loop-tree-preserved-in-Elem c =
    let at = c.loop-tree in
    record {
      right = at.invariant.right;
      walks = walks_open (map state_of c.args.rows.now) (profiles_of at.profiles) at.outer.items c.push.new.self.items (record { label = c.in-Elem.label; trees = c.pop.new.self; rest = at.rest }) at.trees.items c.in_ok-content-in-Elem.content.items c.in-Some.tree
          0 (forest_of c.args.run) at.invariant.walks c.in-Some.ensures.items c.in-Elem.ensures c.in_ok-push-in-Elem.ensures.items (c.in_ok-content-in-Elem.ensures ∙ ap trees c.content.ensures) at.invariant.right.there at.invariant.right.nothing;
    }

pub after-requires-in-Some-pop-clause-within : goal.after-requires-in-Some-pop-clause-within
after-requires-in-Some-pop-clause-within c =
    let at = c.loop-tree in
    open_there (map state_of c.args.rows.now) (profiles_of at.profiles) at.outer.items c.pop-in-None.new.self.items c.in-Some-pop.open at.trees.items at.rest (forest_of c.args.run) at.invariant.walks c.in-Some-pop.ensures.items

pub loop-tree-smaller : goal.loop-tree-smaller
loop-tree-smaller c = work_close c.loop-tree.outer.items c.pop-in-None.new.self.items c.in-Some-pop.open c.loop-tree.trees.items c.in-Some-pop.ensures.items

pub loop-tree-preserved : goal.loop-tree-preserved
loop-tree-preserved c =
    let states = map state_of c.args.rows.now in
    let old = profiles_of c.loop-tree.profiles in
    let new = profiles_of c.after-in-Some-pop.new.profiles in
    let outer = c.loop-tree.outer.items in
    let all = c.loop-tree.trees.items in
    let told = c.in_ok-rest-in-Some-pop.ensures in
    record {
      right = told.right;
      walks = walks_close states new outer c.pop-in-None.new.self.items c.in-Some-pop.open all c.loop-tree.rest c.in_ok-rest-in-Some-pop.rest (forest_of c.args.run)
          (walks_keeps states old new outer all c.loop-tree.rest (forest_of c.args.run) told.keeps c.loop-tree.invariant.walks) (nil_from_length all (sym c.loop-tree.trees.ok.0 ∙ c.in-None.ensures.cases.0)) c.in-Some-pop.ensures.items told.gives;
    }
