use Rattle.std.proofs.Common.{◌≡◌, ◌∙◌, ap, sym, subst, refl, Some}
use Rattle.std.specs.Prelude.{IsSome}
use Rattle.flux_io.specs.Outside.{Rose}
use Rattle.flux_top.specs.Words.{texts, form, command_of}
use Rattle.flux_top.specs.declared.words.Words.{Words}
use Rattle.flux_top.specs.Clauses.{IsOutput}
use Rattle.flux_top.specs.Prepare.{IsEarlyRefusal, WhereAsked}
use Rattle.flux_top.proofs.Refused.{ok_more, err_more, ok_any}
use Rattle.flux_top.proofs.run.prepare.Goals as goal

pub returns-in-Some-Run-clause-output : goal.returns-in-Some-Run-clause-output
returns-in-Some-Run-clause-output g c = ok_more _ _ (λ output holds. holds (texts c.args.words.now) (c.in-Some-Run.ensures ∙ ap (λ (w : Words). Some (command_of w)) c.in-Some-Run.field-0-is)) c.updated.result c.updated.ensures.output

pub returns-in-Some-Run-clause-form : goal.returns-in-Some-Run-clause-form
returns-in-Some-Run-clause-form g c = ok_any (IsSome (form (texts c.args.words.now))) (subst IsSome (sym c.in-Some-Run.ensures) refl) c.updated.result

pub returns-in-Some-Run-clause-refused : goal.returns-in-Some-Run-clause-refused
returns-in-Some-Run-clause-refused g c = err_more _ _ (λ refusal holds. holds (texts c.args.words.now) (c.in-Some-Run.ensures ∙ ap (λ (w : Words). Some (command_of w)) c.in-Some-Run.field-0-is)) c.updated.result c.updated.ensures.refused

pub returns-in-Some-Core-clause-output : goal.returns-in-Some-Core-clause-output
returns-in-Some-Core-clause-output g c = ok_more _ _ (λ output holds. holds (texts c.args.words.now) (c.in-Some-Core.ensures ∙ ap (λ (w : Words). Some (command_of w)) c.in-Some-Core.field-0-is)) c.core_script.result c.core_script.ensures.output

pub returns-in-Some-Core-clause-form : goal.returns-in-Some-Core-clause-form
returns-in-Some-Core-clause-form g c = ok_any (IsSome (form (texts c.args.words.now))) (subst IsSome (sym c.in-Some-Core.ensures) refl) c.core_script.result

pub returns-in-Some-Core-clause-refused : goal.returns-in-Some-Core-clause-refused
returns-in-Some-Core-clause-refused g c = err_more _ _ (λ refusal holds. holds (texts c.args.words.now) (c.in-Some-Core.ensures ∙ ap (λ (w : Words). Some (command_of w)) c.in-Some-Core.field-0-is)) c.core_script.result c.core_script.ensures.refused
