use Rattle.std.proofs.Common.{◌+◌, ◌∙◌, get_or, subst, refl}
use Rattle.std.proofs.lemmas.Option.{slice_get-get_or}
use Rattle.flux_goals.specs.declared.goal.Way.{Way}
use Rattle.flux_goals.specs.declared.part.Parting.{Parting}
use Rattle.flux_auto.specs.Going.{Has}
use Rattle.flux_goals.specs.Table.{AddsState}
use Rattle.flux_goals.proofs.PartLaws.{branch_same, branch_taken, branch_both}
use Rattle.flux_goals.proofs.part.branch.Goals as goal

pub returns-then-is_taken : goal.returns-then-is_taken
returns-then-is_taken c =
    let f = c.args.parting in
    let d : Way = record { content = 0; rest = 0 } in
    let w = get_or c.args.ways.now f.place d in
    let g : Parting = record { place = f.place + 1; inner = f.inner; outer = f.outer; taken = f.taken } in
    branch_same c.args.ways.now f g w c.args.partings.now.items c.push.new.self.items (slice_get-get_or c.args.ways.now f.place d c.requires) refl refl refl refl (c.if-is_taken.ensures.yes refl) c.in_ok-push.ensures.items

pub returns-then-has : goal.returns-then-has
returns-then-has c =
    let f = c.args.parting in
    let d : Way = record { content = 0; rest = 0 } in
    let w = get_or c.args.ways.now f.place d in
    let g : Parting = record { place = f.place + 1; inner = f.inner; outer = c.in_ok-outer.outer; taken = f.taken } in
    branch_taken c.args.ways.now f g w c.args.partings.now.items c.push-then-has.new.self.items (slice_get-get_or c.args.ways.now f.place d c.requires) refl refl
    (subst (λ l. AddsState l c.in_ok-outer.outer.items w.rest) c.deref.ensures.value c.in_ok-outer.ensures) refl
    (subst (λ l. Has l w.content) c.deref-2.ensures.value (c.if-has.ensures refl)) c.in_ok-push-2.ensures.items

pub returns : goal.returns
returns c =
    let f = c.args.parting in
    let d : Way = record { content = 0; rest = 0 } in
    let w = get_or c.args.ways.now f.place d in
    let g : Parting = record { place = f.place + 1; inner = c.in_ok-inner.inner; outer = c.in_ok-outer.outer; taken = c.in_ok-taken.taken } in
    let h : Parting = record { place = f.place + 1; inner = c.in_ok-inner-2.inner; outer = f.outer; taken = f.taken } in
    branch_both c.args.ways.now f g h w c.args.partings.now.items c.push-2.new.self.items c.push-3.new.self.items (slice_get-get_or c.args.ways.now f.place d c.requires) refl refl
    (c.in_ok-inner.ensures ∙ c.deref-3.ensures.value)
    (subst (λ l. AddsState l c.in_ok-outer.outer.items w.rest) c.deref.ensures.value c.in_ok-outer.ensures)
    (subst (λ l. AddsState l c.in_ok-taken.taken.items w.content) c.deref-4.ensures.value c.in_ok-taken.ensures)
    (subst (λ l. AddsState l c.in_ok-inner-2.inner.items w.content) c.deref-5.ensures.value c.in_ok-inner-2.ensures)
    refl refl c.in_ok-push-3.ensures.items c.in_ok-push-4.ensures.items
