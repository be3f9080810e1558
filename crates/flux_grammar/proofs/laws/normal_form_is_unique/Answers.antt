use Rattle.flux_grammar.proofs.OneForm.{one_form}
use Rattle.flux_grammar.proofs.laws.normal_form_is_unique.Goals as goal

pub returns : goal.returns
returns c = one_form
