use Rattle.std.proofs.Common.{arith, subst, sym, ap, ◌∙◌, string_bytes, bytes_eq, ◌≡◌, false, ◌+◌, length, ◌<◌, ◌^◌}
use Rattle.std.specs.List.{list_any}
use Rattle.flux_atom.specs.Names.{IsName}
use Rattle.flux_atom.proofs.FreshLaws.{candidate_is_name, few_held, is_fresh}
use Rattle.flux_atom.proofs.fresh_name.first_lacked.Goals as goal

pub returns-then-not-holds-clause-first : goal.returns-then-not-holds-clause-first
returns-then-not-holds-clause-first c =
    let absent : list_any (bytes_eq (string_bytes c.in_ok-text.text)) c.args.names.now ≡ false = ap (λ t. list_any (bytes_eq t) c.args.names.now) (sym c.as_str.ensures.value) ∙ sym c.if-not-holds.ensures in
    is_fresh c.args.names.now (string_bytes c.in_ok-text.text) c.loop-number.number c.in_ok-text.ensures absent c.loop-number.invariant

pub returns-then-not-holds-clause-name : goal.returns-then-not-holds-clause-name
returns-then-not-holds-clause-name c =
    let small : c.loop-number.number < 2 ^ 64 = omega (arith, c.len-number-end.ensures.count) in
    subst IsName (sym c.in_ok-text.ensures) (candidate_is_name c.loop-number.number small)

pub unreachable-requires : goal.unreachable-requires
unreachable-requires c =
    omega (arith, few_held c.args.names.now (length c.args.names.now + 1) (omega arith) (λ k below. c.loop-number.invariant k (omega (arith, c.len-number-end.ensures.count, c.loop-number-test.false))))
