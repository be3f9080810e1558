use Rattle.std.proofs.Common.{◌∙◌, map, arith}
use Rattle.flux_auto.specs.Built.{state_of}
use Rattle.flux_auto.specs.Profiles.{profiles_of}
use Rattle.flux_auto.proofs.Interning.{gives_new, right_more}
use Rattle.flux_auto.proofs.profiles.find.Goals as goal

pub returns-clause-right : goal.returns-clause-right
returns-clause-right c =
    let states = map state_of c.args.rows.now in
    let old = profiles_of c.args.profiles.now in
    let new = profiles_of c.intern.new.profiles in
    let one = gives_new states old new c.args.turn c.in_ok-number.number c.in_ok-set.set c.in_ok-number.ensures.keeps c.requires.within c.in_ok-set.ensures c.in_ok-number.ensures.there c.in_ok-number.ensures.place in
    let turns = right_more states old new c.args.profiles.now.turns.entries c.intern.new.profiles.turns.entries _ c.args.turn c.in_ok-number.number c.in_ok-number.ensures.keeps c.in_ok-number.ensures.turns c.requires.right.turns one c.in_ok-insert.ensures.entries in
    record {
      there = omega (arith, c.in_ok-number.ensures.keeps.longer, c.requires.right.there);
      nothing = c.in_ok-number.ensures.keeps.same 0 c.requires.right.there ∙ c.requires.right.nothing;
      turns = turns;
    }
