use Rattle.std.proofs.Common.{◌≡◌, ◌∙◌, ◌<◌, ◌++◌, ◌∷◌, [], sym, subst, ap, arith, length, get_or, refl, ℕ, List}
use Rattle.std.proofs.lemmas.List.{nil_from_length}
use Rattle.flux_schema.specs.Definitions.{body_of}
use Rattle.flux_types.specs.Kept.{definitions_of}
use Rattle.flux_types.specs.Read.{ty_of}
use Rattle.flux_types.specs.Search.{IsAmong}
use Rattle.flux_types.proofs.KeptLaws.{kept_at, known_at, take_whole}
use Rattle.flux_types.proofs.SearchLaws.{Searches, searches_init, searches_next, searches_end, among_last, marked_read}
use Rattle.flux_types.proofs.search.reaches_itself.Goals as goal

pub mark_standing-requires : goal.mark_standing-requires
mark_standing-requires c = known_at c.args.kept.now c.args.index c.index-kept-index.result _ c.requires.known c.requires.within c.index-kept-index.is (omega (arith, c.deref_mut.ensures.len, c.in_ok-marks.ensures.len))

pub loop-next-init : goal.loop-next-init
loop-next-init c =
    let bodies = body_of (definitions_of c.args.kept.now) in
    let n = length c.args.kept.now in
    let at = c.index-kept-index in
    let t = ty_of (get_or c.args.kept.now c.args.index at.result).body in
    let len : length c.mark_standing.new.marks ≡ n = omega (arith, c.mark_standing.auto.marks, c.deref_mut.ensures.len, c.in_ok-marks.ensures.len) in
    let whole : length c.mark_standing.new.marks ≡ c.in_ok-marks.marks.len = omega (arith, c.mark_standing.auto.marks, c.deref_mut.ensures.len) in
    subst (λ ms. Searches bodies n c.args.index ms c.mark_standing.new.waiting.items) (sym (take_whole c.mark_standing.new.marks _ c.in_ok-marks.marks.len whole))
    (searches_init bodies n c.args.index t c.deref_mut.result.now c.mark_standing.new.marks c.new-waiting.result.items c.mark_standing.new.waiting.items
    (kept_at c.args.kept.now c.args.index at.result c.requires.within at.is)
    (known_at c.args.kept.now c.args.index at.result n c.requires.known c.requires.within at.is refl)
    (c.deref_mut.ensures.value ∙ c.in_ok-marks.ensures.items_if_clones_equal (λ y h. h)) c.new-waiting.ensures.items len c.in_ok-mark_standing.ensures)

last_waits : (before waiting : List ℕ) (y : ℕ) → before ≡ waiting ++ y ∷ [] → IsAmong y before
last_waits before waiting y e = subst (IsAmong y) (sym e) (among_last waiting y)

pub bounds-kept-next : goal.bounds-kept-next
bounds-kept-next c = c.loop-next.invariant.below c.in-Some.next (last_waits c.loop-next.waiting.items c.pop.new.self.items c.in-Some.next c.in-Some.ensures.items)

pub mark_standing-requires-in-Some : goal.mark_standing-requires-in-Some
mark_standing-requires-in-Some c =
    let below = c.loop-next.invariant.below c.in-Some.next (last_waits c.loop-next.waiting.items c.pop.new.self.items c.in-Some.next c.in-Some.ensures.items) in
    known_at c.args.kept.now c.in-Some.next c.index-kept-next.result _ c.requires.known below c.index-kept-next.is (ap length c.deref_mut-in-Some.ensures.value ∙ c.loop-next.invariant.length_is)

pub loop-next-preserved : goal.loop-next-preserved
loop-next-preserved c =
    let bodies = body_of (definitions_of c.args.kept.now) in
    let n = length c.args.kept.now in
    let at = c.index-kept-next in
    let t = ty_of (get_or c.args.kept.now c.in-Some.next at.result).body in
    let below = c.loop-next.invariant.below c.in-Some.next (last_waits c.loop-next.waiting.items c.pop.new.self.items c.in-Some.next c.in-Some.ensures.items) in
    let len : length c.mark_standing-in-Some.new.marks ≡ n = c.mark_standing-in-Some.auto.marks ∙ ap length c.deref_mut-in-Some.ensures.value ∙ c.loop-next.invariant.length_is in
    let whole : length c.mark_standing-in-Some.new.marks ≡ c.loop-next.marks.len = c.mark_standing-in-Some.auto.marks ∙ c.deref_mut-in-Some.ensures.len in
    subst (λ ms. Searches bodies n c.args.index ms c.mark_standing-in-Some.new.waiting.items) (sym (take_whole c.mark_standing-in-Some.new.marks _ c.loop-next.marks.len whole))
    (searches_next bodies n c.args.index c.in-Some.next t c.deref_mut-in-Some.result.now c.mark_standing-in-Some.new.marks c.loop-next.waiting.items c.pop.new.self.items c.mark_standing-in-Some.new.waiting.items
    (subst (λ ms. Searches bodies n c.args.index ms c.loop-next.waiting.items) (sym c.deref_mut-in-Some.ensures.value) c.loop-next.invariant)
    c.in-Some.ensures.items
    (kept_at c.args.kept.now c.in-Some.next at.result below at.is)
    (known_at c.args.kept.now c.in-Some.next at.result n c.requires.known below at.is refl)
    len c.in_ok-mark_standing-2.ensures)

pub returns : goal.returns
returns c =
    let marks = c.loop-next.marks.items in
    let within : c.args.index < length marks = omega (arith, c.requires.within, c.loop-next.invariant.length_is) in
    let read = marked_read marks c.args.index c.index.result.now within c.index.ensures in
    let over = searches_end (body_of (definitions_of c.args.kept.now)) (length c.args.kept.now) c.args.index c.args.index marks c.loop-next.waiting.items c.loop-next.invariant (nil_from_length c.loop-next.waiting.items (omega (arith, c.in_default.ensures.cases))) in
    (λ t. over.0 (read.0 t), λ r. read.1 (over.1 r))
