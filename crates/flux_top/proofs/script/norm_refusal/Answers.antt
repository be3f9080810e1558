use Rattle.std.proofs.Common.{refl}
use Rattle.flux_report.specs.declared.line.ScriptFault.TheVariants.{Norm}
use Rattle.flux_top.proofs.Refused.{refused_so}
use Rattle.flux_top.proofs.script.norm_refusal.Goals as goal

pub returns : goal.returns
returns c =
    refused_so c.args.script.now (Norm c.args.fault) c.faulty.result (c.if-not-has_line.ensures refl, c.requires.within, c.requires.faulty) c.faulty.ensures
