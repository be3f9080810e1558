use Rattle.std.proofs.Common.{inl, inr}
use Rattle.std.proofs.lemmas.Result.{on_ok_weaker}
use Rattle.flux_types.specs.Read.{ty_of}
use Rattle.flux_types.proofs.Variants.{of_elem, of_any, of_seq, of_alt, of_star}
use Rattle.flux_auto.proofs.Contents.{registered_leaf, registered_as, registered_star, registered_element, registered_any, registered_seq, registered_alt}
use Rattle.flux_auto.proofs.content.+register.Goals as goal

pub returns-in_ok-put_content-in-Elem-clause-ok : goal.returns-in_ok-put_content-in-Elem-clause-ok
returns-in_ok-put_content-in-Elem-clause-ok t c =
    let a = c.args.table.now in
    let b = c.register-in-Elem.new.table in
    let d = c.put_content.new.table in
    let inner = c.get-content.result.now in
    let s = c.in_ok-put_content-in-Elem.field-0 in
    elim c.in-Elem.is [
      | inl e ↦ registered_as a d _ (ty_of c.args.ty.now) (of_elem c.args.ty.now e.0 c.in-Elem.inner inner e.1 c.get-content.ensures)
          (registered_element a b d e.0 (ty_of inner) s _ c.in_ok-register-in-Elem.ensures.ok c.in_ok-put_content-in-Elem.ensures.grows c.in_ok-put_content-in-Elem.ensures.ok)
      | inr e ↦ registered_as a d _ (ty_of c.args.ty.now) (of_any c.args.ty.now c.in-Elem.inner inner e c.get-content.ensures)
          (registered_any a b d (ty_of inner) s _ c.in_ok-register-in-Elem.ensures.ok c.in_ok-put_content-in-Elem.ensures.grows c.in_ok-put_content-in-Elem.ensures.ok)
    ]

pub returns-in-Star-clause-ok : goal.returns-in-Star-clause-ok
returns-in-Star-clause-ok t c = on_ok_weaker c.register.result (λ r. registered_as _ _ _ _ (of_star c.args.ty.now c.in-Star.inner c.get.result.now c.in-Star.is c.get.ensures) (registered_star _ _ _ r)) c.register.ensures.ok

pub returns-in-Empty-clause-ok : goal.returns-in-Empty-clause-ok
returns-in-Empty-clause-ok t c = registered_leaf c.args.table.now c.args.ty.now c.requires.even c.in-Empty.is

pub returns-in-Empty-2-clause-ok : goal.returns-in-Empty-2-clause-ok
returns-in-Empty-2-clause-ok t c = registered_leaf c.args.table.now c.args.ty.now c.requires.even c.in-Empty.is

pub returns-in-Empty-3-clause-ok : goal.returns-in-Empty-3-clause-ok
returns-in-Empty-3-clause-ok t c = registered_leaf c.args.table.now c.args.ty.now c.requires.even c.in-Empty.is

pub returns-in_ok-register-in-Seq-clause-ok : goal.returns-in_ok-register-in-Seq-clause-ok
returns-in_ok-register-in-Seq-clause-ok t c =
    let a = c.args.table.now in
    let b = c.register-in-Seq.new.table in
    let d = c.register-in-Seq-2.new.table in
    let left = c.get-in-Seq.result.now in
    let right = c.get-in-Seq-2.result.now in
    let first = c.in_ok-register-in-Seq.ensures.ok in
    elim c.in-Seq.is [
      | inl e ↦ on_ok_weaker c.register-in-Seq-2.result (λ r. registered_as a d _ _ (of_seq c.args.ty.now c.in-Seq.left c.in-Seq.right left right e c.get-in-Seq.ensures c.get-in-Seq-2.ensures) (registered_seq a b d _ (ty_of left) (ty_of right) first c.register-in-Seq-2.ensures.grows r)) c.register-in-Seq-2.ensures.ok
      | inr e ↦ on_ok_weaker c.register-in-Seq-2.result (λ r. registered_as a d _ _ (of_alt c.args.ty.now c.in-Seq.left c.in-Seq.right left right e c.get-in-Seq.ensures c.get-in-Seq-2.ensures) (registered_alt a b d _ (ty_of left) (ty_of right) first c.register-in-Seq-2.ensures.grows r)) c.register-in-Seq-2.ensures.ok
    ]
