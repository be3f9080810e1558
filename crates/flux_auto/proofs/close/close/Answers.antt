use Rattle.std.proofs.Common.{refl, ap, ◌∙◌, ◌++◌, arith, rules}
use Rattle.std.proofs.lemmas.Option.{slice_get_read}
use Rattle.flux_auto.proofs.Closing.{close_alone, close_with, tail_within}
use Rattle.flux_auto.proofs.close.close.Goals as goal

pub returns-then-not-own-clause-ok : goal.returns-then-not-own-clause-ok
returns-then-not-own-clause-ok c =
    let a = c.args.table.now in
    let own = c.index-own.result.now in
    let is = slice_get_read a.rows.items _ c.args.state own refl (omega (arith, c.requires.here, c.requires.even)) c.index-own.ensures in
    close_alone c.args.defs.now a c.args.state own is (c.requires.own own is) (search rules)

pub index-tail-requires : goal.index-tail-requires
index-tail-requires c =
    let a = c.args.table.now in
    let own = c.index-own.result.now in
    let is = slice_get_read a.rows.items _ c.args.state own refl (omega (arith, c.requires.here, c.requires.even)) c.index-own.ensures in
    let get = slice_get_read a.cells.items _ c.args.state c.index.result.now refl (omega (arith, c.requires.here)) c.index.ensures in
    omega (arith, a.rows.ok.0, (tail_within c.args.defs.now a c.args.state own c.index.result.now (c.requires.own own is) get c.requires.even).0)

pub returns-clause-ok : goal.returns-clause-ok
returns-clause-ok c =
    let a = c.args.table.now in
    let own = c.index-own.result.now in
    let cell = c.index.result.now in
    let tail = c.index-tail.result.now in
    let is = slice_get_read a.rows.items _ c.args.state own refl (omega (arith, c.requires.here, c.requires.even)) c.index-own.ensures in
    let get = slice_get_read a.cells.items _ c.args.state cell refl (omega (arith, c.requires.here)) c.index.ensures in
    let o = c.requires.own own is in
    let at = slice_get_read a.rows.items _ cell.tail tail refl (tail_within c.args.defs.now a c.args.state own cell o get c.requires.even).0 c.index-tail.ensures in
    close_with c.args.defs.now a c.set_row.new.table c.args.state own tail cell tail.ends c.in_ok-edges.edges.items o get at (search rules) c.requires.older refl
    (c.in_ok-edges.ensures ∙ ap (λ l. l ++ c.as_slice-2.result.now) (c.in_ok-to_vec.ensures.items_if_clones_equal (λ x y e. e) ∙ c.as_slice.ensures.value) ∙ ap (λ l. own.edges.items ++ l) c.as_slice-2.ensures.value) c.set_row.ensures
