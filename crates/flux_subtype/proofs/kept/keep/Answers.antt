use Rattle.std.proofs.Common.{◌∙◌, sym, refl, inl, inr}
use Rattle.std.specs.Bool.{beq}
use Rattle.std.specs.Cmp.Lexicographic.{pointwise}
use Rattle.flux_auto.proofs.SetLaws.{same_set}
use Rattle.flux_subtype.proofs.KeptLaws.{found_entry, found_kept}
use Rattle.flux_auto.proofs.Items.{new_entry}
use Rattle.flux_subtype.proofs.kept.keep.Goals as goal

pub returns-then-contains_key : goal.returns-then-contains_key
returns-then-contains_key c =
    let f = found_entry (pointwise beq c.args.set) c.args.kept.now.entries (sym c.contains_key.ensures ∙ c.if-contains_key.true) in
    inl (refl, found_kept c.args.kept.now.entries c.args.set f.0 f.1 f.2 (same_set c.args.set f.1.0 f.3))

pub returns : goal.returns
returns c = inr (new_entry (pointwise beq) c.args.kept.now c.args.set c.args.from _ (sym c.contains_key.ensures ∙ c.if-contains_key.false) c.in_ok-insert.ensures.entries)
