use Rattle.std.proofs.Common.{◌∙◌, inl, inr, sym, ap, refl, subst, [], ◌∷◌, ◌++◌, length, true}
use Rattle.std.proofs.lemmas.List.{append-nil}
use Rattle.flux_schema.specs.Ty.{Ty, empty, atom, element, any_element, seq, alt, star, named}
use Rattle.flux_schema.proofs.SameLaws.{same-eq}
use Rattle.flux_types.specs.Read.{ty_of}
use Rattle.flux_types.proofs.Variants.{of_empty, of_atom, of_elem, of_any, of_seq, of_alt, of_star, of_named}
use Rattle.flux_auto.specs.declared.edge.Edge.TheVariants.{Atom, Elem, AnyElem}
use Rattle.flux_auto.specs.declared.linear.Task.TheVariants.{Read}
use Rattle.flux_auto.specs.Standing.{Ready, LabelsStand}
use Rattle.flux_auto.proofs.Contents.{found_state, put_as}
use Rattle.flux_auto.proofs.Reading.{linear_empty, linear_atom, linear_element, linear_any}
use Rattle.flux_auto.proofs.Tasks.{opens_as, opens_at_once, opens_same, opens_alt, opens_seq, opens_star, opens_name}
use Rattle.flux_auto.proofs.linear.read.Goals as goal

pub returns-in-Empty-clause-ok : goal.returns-in-Empty-clause-ok
returns-in-Empty-clause-ok c =
    let defs = c.args.defs.now in
    let a = c.args.table.now in
    let v = c.args.work.now in
    opens_as defs empty (ty_of c.args.ty.now) c.args.next a a v v (of_empty c.args.ty.now c.in-Empty.is)
    (opens_at_once defs c.args.next a v v c.requires.even c.requires.tail empty [] (λ f. refl) refl (sym (append-nil v.edges.items)) (linear_empty defs a c.args.next [] c.requires.even c.requires.tail refl))

pub returns-in_ok-push-in-Atom-clause-ok : goal.returns-in_ok-push-in-Atom-clause-ok
returns-in_ok-push-in-Atom-clause-ok c =
    let defs = c.args.defs.now in
    let a = c.args.table.now in
    let k = c.in-Atom.kind in
    opens_as defs (atom k) (ty_of c.args.ty.now) c.args.next a a c.args.work.now _ (of_atom c.args.ty.now k c.in-Atom.is)
    (opens_at_once defs c.args.next a c.args.work.now _ c.requires.even c.requires.tail (atom k) (Atom k c.args.next ∷ []) (λ f. refl) refl c.in_ok-push-in-Atom.ensures.items
    (linear_atom defs a k c.args.next (Atom k c.args.next ∷ []) c.requires.even c.requires.tail refl))

pub returns-in_ok-push-in-Elem-clause-ok : goal.returns-in_ok-push-in-Elem-clause-ok
returns-in_ok-push-in-Elem-clause-ok c =
    let defs = c.args.defs.now in
    let a = c.args.table.now in
    let n = c.in-Elem.label in
    let inner = ty_of c.get.result.now in
    let s = c.unwrap_or-content.result in
    let e = of_elem c.args.ty.now n c.in-Elem.inner c.get.result.now c.in-Elem.is c.get.ensures in
    let stand = subst (λ (x : Ty). LabelsStand defs a.cells.items x) e c.requires.labels in
    let has = subst (λ (x : Ty). Ready (length defs) a.cells.items x) e c.requires.ready in
    let k = found_state a.cells.items a.cells.items inner c.find.result s refl c.find.ensures.found c.find.ensures.none has c.unwrap_or-content.ensures in
    opens_as defs (element n inner) (ty_of c.args.ty.now) c.args.next a a c.args.work.now _ e
    (opens_at_once defs c.args.next a c.args.work.now _ c.requires.even c.requires.tail (element n inner) (Elem n s c.args.next ∷ []) (λ f. refl) refl c.in_ok-push-in-Elem.ensures.items
    (linear_element defs a n inner s c.args.next (Elem n s c.args.next ∷ []) c.requires.even c.requires.end c.requires.tail k (stand n (inl refl)) refl))

pub returns-in_ok-push-in-AnyElem-clause-ok : goal.returns-in_ok-push-in-AnyElem-clause-ok
returns-in_ok-push-in-AnyElem-clause-ok c =
    let defs = c.args.defs.now in
    let a = c.args.table.now in
    let inner = ty_of c.get-in-AnyElem.result.now in
    let s = c.unwrap_or-content-in-AnyElem.result in
    let e = of_any c.args.ty.now c.in-AnyElem.inner c.get-in-AnyElem.result.now c.in-AnyElem.is c.get-in-AnyElem.ensures in
    let has = subst (λ (x : Ty). Ready (length defs) a.cells.items x) e c.requires.ready in
    let k = found_state a.cells.items a.cells.items inner c.find-in-AnyElem.result s refl c.find-in-AnyElem.ensures.found c.find-in-AnyElem.ensures.none has c.unwrap_or-content-in-AnyElem.ensures in
    opens_as defs (any_element inner) (ty_of c.args.ty.now) c.args.next a a c.args.work.now _ e
    (opens_at_once defs c.args.next a c.args.work.now _ c.requires.even c.requires.tail (any_element inner) (AnyElem s c.args.next ∷ []) (λ f. refl) refl c.in_ok-push-in-AnyElem.ensures.items
    (linear_any defs a inner s c.args.next (AnyElem s c.args.next ∷ []) c.requires.even c.requires.end c.requires.tail k refl))

pub returns-in_ok-push-in-Seq-2-clause-ok : goal.returns-in_ok-push-in-Seq-2-clause-ok
returns-in_ok-push-in-Seq-2-clause-ok c =
    let defs = c.args.defs.now in
    let a = c.args.table.now in
    let v = c.args.work.now in
    let left = c.get-left.result in
    let right = c.get-right.result in
    let e = of_seq c.args.ty.now c.in-Seq.left c.in-Seq.right left.now right.now c.in-Seq.is c.get-left.ensures c.get-right.ensures in
    let ready = subst (λ (x : Ty). Ready (length defs) a.cells.items x) e c.requires.ready in
    let stand = subst (λ (x : Ty). LabelsStand defs a.cells.items x) e c.requires.labels in
    opens_as defs (seq (ty_of left.now) (ty_of right.now)) (ty_of c.args.ty.now) c.args.next a a v _ e
    (opens_seq defs c.args.next a v _ c.requires.even c.requires.tail left right c.len-from.result (c.len-from.ensures ∙ v.edges.ok.0) ready.0 ready.1 (λ n h. stand n (inl h)) (λ n h. stand n (inr h))
    (c.in_ok-push-in-Seq-2.ensures.items ∙ ap (λ l. l ++ Read right c.args.next ∷ []) c.in_ok-push-in-Seq.ensures.items) refl)

pub returns-in_ok-push-in-Alt-clause-ok : goal.returns-in_ok-push-in-Alt-clause-ok
returns-in_ok-push-in-Alt-clause-ok c =
    let defs = c.args.defs.now in
    let a = c.args.table.now in
    let v = c.args.work.now in
    let left = c.get-left-in-Alt.result in
    let right = c.get-right-in-Alt.result in
    let e = of_alt c.args.ty.now c.in-Alt.left c.in-Alt.right left.now right.now c.in-Alt.is c.get-left-in-Alt.ensures c.get-right-in-Alt.ensures in
    let ready = subst (λ (x : Ty). Ready (length defs) a.cells.items x) e c.requires.ready in
    let stand = subst (λ (x : Ty). LabelsStand defs a.cells.items x) e c.requires.labels in
    opens_as defs (alt (ty_of left.now) (ty_of right.now)) (ty_of c.args.ty.now) c.args.next a a v _ e
    (opens_same defs c.args.next a v _ c.requires.even c.requires.tail left right (same-eq (ty_of left.now) (ty_of right.now) (sym c.is_same.ensures ∙ c.if-is_same.true)) ready.0 (λ n h. stand n (inl h)) c.in_ok-push-in-Alt.ensures.items refl)

pub returns-in_ok-push-in-Alt-3-clause-ok : goal.returns-in_ok-push-in-Alt-3-clause-ok
returns-in_ok-push-in-Alt-3-clause-ok c =
    let defs = c.args.defs.now in
    let a = c.args.table.now in
    let v = c.args.work.now in
    let left = c.get-left-in-Alt.result in
    let right = c.get-right-in-Alt.result in
    let e = of_alt c.args.ty.now c.in-Alt.left c.in-Alt.right left.now right.now c.in-Alt.is c.get-left-in-Alt.ensures c.get-right-in-Alt.ensures in
    let ready = subst (λ (x : Ty). Ready (length defs) a.cells.items x) e c.requires.ready in
    let stand = subst (λ (x : Ty). LabelsStand defs a.cells.items x) e c.requires.labels in
    opens_as defs (alt (ty_of left.now) (ty_of right.now)) (ty_of c.args.ty.now) c.args.next a a v _ e
    (opens_alt defs c.args.next a v _ c.requires.even c.requires.tail left right ready.0 ready.1 (λ n h. stand n (inl h)) (λ n h. stand n (inr h))
    (c.in_ok-push-in-Alt-3.ensures.items ∙ ap (λ l. l ++ Read left c.args.next ∷ []) c.in_ok-push-in-Alt-2.ensures.items) refl)

pub returns-in_ok-push-in-Star-2-clause-ok : goal.returns-in_ok-push-in-Star-2-clause-ok
returns-in_ok-push-in-Star-2-clause-ok c =
    let defs = c.args.defs.now in
    let a = c.args.table.now in
    let v = c.args.work.now in
    let inner = c.get-in-Star.result in
    let s = c.in_ok-state-in-Star.state in
    let e = of_star c.args.ty.now c.in-Star.inner inner.now c.in-Star.is c.get-in-Star.ensures in
    let ready = subst (λ (x : Ty). Ready (length defs) a.cells.items x) e c.requires.ready in
    let stand = subst (λ (x : Ty). LabelsStand defs a.cells.items x) e c.requires.labels in
    let put = put_as a c.put.new.table _ (star (ty_of inner.now)) c.args.next true _ [] s (ap ty_of c.in_ok-copy_of-in-Star.ensures ∙ e) c.new.ensures.items c.in_ok-state-in-Star.ensures.ok in
    opens_as defs (star (ty_of inner.now)) (ty_of c.args.ty.now) c.args.next a c.put.new.table v _ e
    (opens_star defs c.args.next a v _ c.requires.even c.requires.tail inner c.put.new.table c.len.result s (c.len.ensures ∙ v.edges.ok.0) ready stand put
    (c.in_ok-push-in-Star-2.ensures.items ∙ ap (λ l. l ++ Read inner s ∷ []) c.in_ok-push-in-Star.ensures.items) refl)

pub returns-in_ok-push-in-Named-clause-ok : goal.returns-in_ok-push-in-Named-clause-ok
returns-in_ok-push-in-Named-clause-ok c =
    let defs = c.args.defs.now in
    let a = c.args.table.now in
    let x = c.in-Named.index in
    let body = c.unfold.result in
    opens_as defs (named x) (ty_of c.args.ty.now) c.args.next a a c.args.work.now _ (of_named c.args.ty.now x c.in-Named.is)
    (opens_name defs c.args.next a c.args.work.now _ c.requires.even c.requires.tail x body c.unfold.ensures.good c.unfold.ensures.body (c.requires.bodies x (ty_of body.now) c.unfold.ensures.body) c.in_ok-push-in-Named.ensures.items refl)
