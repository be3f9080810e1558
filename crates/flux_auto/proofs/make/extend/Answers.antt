use Rattle.std.proofs.Common.{◌∙◌, sym, subst, arith, length}
use Rattle.flux_types.specs.Read.{ty_of}
use Rattle.flux_auto.specs.Built.{FreshFrom, ClosedBelow}
use Rattle.flux_auto.proofs.Growing.{grows_by}
use Rattle.flux_auto.proofs.Making.{both_grow, extended_ground, extended_fresh, extended_closed, extended_labels, extended_by, has_end}
use Rattle.flux_auto.proofs.make.extend.Goals as goal

pub complete-requires-clause-ground : goal.complete-requires-clause-ground
complete-requires-clause-ground c =
    let defs = c.args.defs.now in
    let nullable = c.args.nullable.now in
    let a = c.args.table.now in
    extended_ground defs nullable a c.register.new.table c.put_content.new.table (ty_of c.args.ty.now) c.in_ok-state.state c.requires.complete (has_end defs nullable a c.requires.complete.ground) c.requires.known c.in_ok-register.ensures.grows c.in_ok-register.ensures.ok c.in_ok-state.ensures.grows c.in_ok-state.ensures.ok

pub complete-requires-clause-fresh : goal.complete-requires-clause-fresh
complete-requires-clause-fresh c =
    let defs = c.args.defs.now in
    let nullable = c.args.nullable.now in
    let a = c.args.table.now in
    let from = sym (c.len-from.ensures ∙ a.cells.ok.0) in
    subst (λ n. FreshFrom (length defs) n c.put_content.new.table.cells.items) from
    (extended_fresh defs nullable a c.register.new.table c.put_content.new.table (ty_of c.args.ty.now) c.in_ok-state.state c.requires.complete (has_end defs nullable a c.requires.complete.ground) c.requires.known c.in_ok-register.ensures.grows c.in_ok-register.ensures.ok c.in_ok-state.ensures.grows c.in_ok-state.ensures.ok)

pub complete-requires-clause-older : goal.complete-requires-clause-older
complete-requires-clause-older c =
    let defs = c.args.defs.now in
    let nullable = c.args.nullable.now in
    let a = c.args.table.now in
    let from = sym (c.len-from.ensures ∙ a.cells.ok.0) in
    subst (λ n. ClosedBelow defs n c.put_content.new.table) from
    (extended_closed defs nullable a c.register.new.table c.put_content.new.table (ty_of c.args.ty.now) c.in_ok-state.state c.requires.complete (has_end defs nullable a c.requires.complete.ground) c.requires.known c.in_ok-register.ensures.grows c.in_ok-register.ensures.ok c.in_ok-state.ensures.grows c.in_ok-state.ensures.ok)

pub returns-in_err-complete-clause-grows : goal.returns-in_err-complete-clause-grows
returns-in_err-complete-clause-grows c =
    let defs = c.args.defs.now in
    let nullable = c.args.nullable.now in
    let a = c.args.table.now in
    let both = both_grow defs nullable a c.register.new.table c.put_content.new.table (ty_of c.args.ty.now) c.in_ok-state.state c.requires.complete (has_end defs nullable a c.requires.complete.ground) c.requires.known c.in_ok-register.ensures.grows c.in_ok-register.ensures.ok c.in_ok-state.ensures.grows c.in_ok-state.ensures.ok in
    grows_by (length a.rows.items) c.len-from.result a c.put_content.new.table c.complete.new.table (omega (arith, c.len-from.ensures, a.cells.ok.0, c.requires.complete.ground.even)) both c.in_err-complete.ensures.grows

pub returns-clause-grows : goal.returns-clause-grows
returns-clause-grows c =
    let defs = c.args.defs.now in
    let nullable = c.args.nullable.now in
    let a = c.args.table.now in
    let both = both_grow defs nullable a c.register.new.table c.put_content.new.table (ty_of c.args.ty.now) c.in_ok-state.state c.requires.complete (has_end defs nullable a c.requires.complete.ground) c.requires.known c.in_ok-register.ensures.grows c.in_ok-register.ensures.ok c.in_ok-state.ensures.grows c.in_ok-state.ensures.ok in
    grows_by (length a.rows.items) c.len-from.result a c.put_content.new.table c.complete.new.table (omega (arith, c.len-from.ensures, a.cells.ok.0, c.requires.complete.ground.even)) both c.in_ok-complete.ensures.grows

pub returns-clause-ok : goal.returns-clause-ok
returns-clause-ok c = extended_by c.args.defs.now c.args.nullable.now c.len-from.result c.put_content.new.table c.complete.new.table (ty_of c.args.ty.now) c.in_ok-state.state c.in_ok-state.ensures.ok.content c.in_ok-complete.ensures.grows c.in_ok-complete.ensures.ok

pub returns-clause-labels : goal.returns-clause-labels
returns-clause-labels c =
    let defs = c.args.defs.now in
    let nullable = c.args.nullable.now in
    let a = c.args.table.now in
    extended_labels defs nullable a c.register.new.table c.put_content.new.table (ty_of c.args.ty.now) c.in_ok-state.state c.requires.complete (has_end defs nullable a c.requires.complete.ground) c.requires.known c.in_ok-register.ensures.grows c.in_ok-register.ensures.ok c.in_ok-state.ensures.grows c.in_ok-state.ensures.ok
    c.complete.new.table c.in_ok-complete.ensures.labels
