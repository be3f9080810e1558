use Rattle.std.proofs.Common.{◌∙◌, sym, Vec}
use Rattle.std.specs.declared.alloc.Global.{Global}
use Rattle.std.specs.Cmp.Lexicographic.{pointwise}
use Rattle.flux_auto.specs.declared.arcs.Leap.{Leap}
use Rattle.flux_auto.specs.contracts.arcs.LeapPartialEq.TheImpl.{eq-value}
use Rattle.flux_subtype.proofs.KeptLaws.{found_entry, same_leaps}
use Rattle.flux_auto.proofs.Items.{new_entry}
use Rattle.flux_subtype.proofs.Turning.{adds_known, adds_new}
use Rattle.flux_subtype.proofs.trees.add_tree.Goals as goal

pub returns-then-contains_key : goal.returns-then-contains_key
returns-then-contains_key c =
    let f = found_entry (λ (v : Vec Leap Global). pointwise eq-value.it c.args.leaps.items v.items) c.args.trees.now.entries (sym c.contains_key.ensures ∙ c.if-contains_key.true) in
    adds_known c.args.trees.now.entries c.args.head c.args.leaps.items (f.1, (f.0, f.2), sym (same_leaps c.args.leaps.items f.1.0.items f.3))

pub returns : goal.returns
returns c = adds_new c.args.trees.now.entries _ (c.args.leaps, c.args.head) (new_entry (λ (v w : Vec Leap Global). pointwise eq-value.it v.items w.items) c.args.trees.now c.args.leaps c.args.head _ (sym c.contains_key.ensures ∙ c.if-contains_key.false) c.in_ok-insert.ensures.entries)
