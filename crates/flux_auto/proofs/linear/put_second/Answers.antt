use Rattle.std.proofs.Common.{◌≡◌, ◌∙◌, ◌++◌, ◌∷◌, ◌-◌, List, [], length, sym, ap, true, false, cond, take, drop, rules}
use Rattle.flux_types.specs.Read.{ty_of}
use Rattle.flux_auto.specs.declared.edge.Edge.{Edge}
use Rattle.flux_auto.specs.declared.linear.Task.TheVariants.{Read}
use Rattle.flux_auto.specs.declared.linear.Work.{Work}
use Rattle.flux_auto.specs.Takes.{has}
use Rattle.flux_auto.specs.Standing.{is_nullable}
use Rattle.flux_auto.proofs.Contents.{put_as}
use Rattle.flux_auto.proofs.Tasks.{from_place, put_ends}
use Rattle.flux_auto.proofs.linear.put_second.Goals.{then-not-is_nullable, else-not-is_nullable}
use Rattle.flux_auto.proofs.linear.put_second.Goals as goal

pub returns-clause-ok : goal.returns-clause-ok
returns-clause-ok c =
    let p = c.args.pair in
    let es = c.args.work.now.edges.items in
    let empty = is_nullable (has c.args.nullable.now) (ty_of p.left.now) in
    let edges : c.if-not-is_nullable.work.edges.items ≡ cond empty es (take p.from es) = elim c.if-not-is_nullable.branch [
      | then-not-is_nullable w ↦
          let no : c.is_nullable-2.result ≡ false = search rules in
          ap (λ (k : Work). k.edges.items) w.work-is ∙ w.truncate.ensures.items ∙ ap (λ b. cond b es (take p.from es)) (sym no ∙ c.is_nullable-2.ensures)
      | else-not-is_nullable w ↦
          let yes : c.is_nullable-2.result ≡ true = search rules in
          ap (λ (k : Work). k.edges.items) w.work-is ∙ ap (λ b. cond b es (take p.from es)) (sym yes ∙ c.is_nullable-2.ensures)
    ] in
    let tasks : c.if-not-is_nullable.work.tasks.items ≡ c.args.work.now.tasks.items = elim c.if-not-is_nullable.branch [
      | then-not-is_nullable w ↦ ap (λ (k : Work). k.tasks.items) w.work-is
      | else-not-is_nullable w ↦ ap (λ (k : Work). k.tasks.items) w.work-is
    ] in
    let own = c.in_ok-own.ensures.items_if_clones_equal (λ x y e. e) ∙ ap (λ (l : List Edge). take (length l - p.from) (drop p.from l)) c.deref.ensures.value ∙ from_place es p.from in
    record {
      state = c.in_ok-state.state;
      put = put_ends c.args.table.now c.put.new.table (ty_of p.right.now) p.next _ _ _ c.in_ok-state.state c.is_nullable.ensures (put_as c.args.table.now c.put.new.table _ (ty_of p.right.now) p.next c.is_nullable.result _ _ c.in_ok-state.state (ap ty_of c.in_ok-head.ensures) own c.in_ok-state.ensures.ok);
      edges = edges;
      tasks = c.in_ok-push.ensures.items ∙ ap (λ l. l ++ Read p.left c.in_ok-state.state ∷ []) tasks;
    }
