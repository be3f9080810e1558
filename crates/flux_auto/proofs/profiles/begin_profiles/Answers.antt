use Rattle.std.proofs.Common.{◌∙◌, Bool, List, map, ap, length, slice_get, arith}
use Rattle.std.specs.Bool.{beq}
use Rattle.std.specs.Cmp.Lexicographic.{pointwise}
use Rattle.flux_auto.proofs.Interning.{first_key, none_given, at_place}
use Rattle.flux_auto.specs.Built.{state_of}
use Rattle.flux_auto.proofs.profiles.begin_profiles.Goals as goal

pub returns : goal.returns
returns c =
    let set = c.in_ok-set_of_nil.field-0 in
    let first = first_key (pointwise beq) c.new-sets.result.keys c.insert_full.new.self.keys set c.new-sets.ensures.empty c.in_ok-insert_full.ensures.keys in
    record {
      there = omega (arith, ap length first);
      nothing = at_place c.insert_full.new.self.keys 0 set (ap (λ (l : List (List Bool)). slice_get l 0) first) ∙ c.in_ok-set_of_nil.ensures;
      turns = none_given (map state_of c.args.rows.now) _ c.new-turns.result.entries c.new-turns.ensures.empty;
    }
