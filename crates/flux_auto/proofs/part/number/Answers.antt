use Rattle.std.proofs.Common.{◌≡◌, ◌∷◌, [], length, sym, subst, arith}
use Rattle.flux_auto.specs.Part.{IsNumber}
use Rattle.flux_auto.proofs.GoingLaws.{equal}
use Rattle.flux_auto.proofs.PartLaws.{of_one_more, of_more, new_number}
use Rattle.flux_auto.proofs.part.number.Goals as goal

pub returns-clause-right : goal.returns-clause-right
returns-clause-right c =
    let old = c.args.numbers.now in
    let olds = c.push.new.self.items in
    let long : c.len-number.result ≡ length old.olds.items = omega (arith, c.len-number.ensures) in
    of_one_more _ olds old.news.entries c.insert.new.self.entries c.args.state c.len-number.result equal (of_more old.olds.items olds old.news.entries (c.args.state ∷ [], c.in_ok-push.ensures.items) c.requires)
    (subst (IsNumber olds c.args.state) (sym long) (new_number old.olds.items olds c.args.state c.in_ok-push.ensures.items)) c.in_ok-insert.ensures.entries
