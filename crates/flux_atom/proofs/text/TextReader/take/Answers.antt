use Rattle.std.proofs.Common.{[], ◌∷◌, encode_utf8, append-nil, sym, ap, ◌∙◌}
use Rattle.flux_atom.specs.declared.text.TextState.TheVariants.{Between}
use Rattle.flux_atom.specs.StepsTaken.{step_of}
use Rattle.flux_atom.proofs.StringLaws.{reached_on}
use Rattle.flux_atom.proofs.text.TextReader.take.Goals as goal

pub invariant_of-self : goal.invariant_of-self
invariant_of-self c =
    reached_on (c.self.inside.state, c.self.inside.text.items) c.args.byte c.in-To.next [] c.self.inside.text.items c.self.invariant (sym c.text_step.ensures ∙ ap step_of c.in-To.is) (sym (append-nil c.self.inside.text.items))

pub invariant_of-self-in-Adds : goal.invariant_of-self-in-Adds
invariant_of-self-in-Adds c =
    reached_on (c.self.inside.state, c.self.inside.text.items) c.args.byte c.in-Adds.next (c.in-Adds.byte ∷ []) c.push.new.self.items c.self.invariant (sym c.text_step.ensures ∙ ap step_of c.in-Adds.is) c.in_ok-push-in-Adds.ensures.items

pub invariant_of-self-in-Writes : goal.invariant_of-self-in-Writes
invariant_of-self-in-Writes c =
    reached_on (c.self.inside.state, c.self.inside.text.items) c.args.byte Between (encode_utf8 c.in-Writes.character) c.push_character.new.text.items c.self.invariant (sym c.text_step.ensures ∙ ap step_of c.in-Writes.is) c.in_ok-push_character-in-Writes.ensures.ok
