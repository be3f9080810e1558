use Rattle.flux_grammar.proofs.NamesOfForm.{form_keeps_names}
use Rattle.flux_grammar.proofs.laws.normal_form_keeps_names.Goals as goal

pub returns : goal.returns
returns c = form_keeps_names
