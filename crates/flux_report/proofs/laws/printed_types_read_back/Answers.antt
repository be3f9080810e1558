use Rattle.flux_report.proofs.laws.printed_types_read_back.Goals as goal
use Rattle.flux_report.proofs.TypesBack.{types_read_back}

pub returns : goal.returns
returns c = types_read_back
