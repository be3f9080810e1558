use Rattle.flux_lex.specs.Stages.{stage_of}
use Rattle.flux_lex.proofs.ReadLaws.{HasRead}
use Rattle.flux_lex.proofs.read.lex.Given as goal

abbrev pub invariant-loop-place : goal.invariant-loop-place
invariant-loop-place l = HasRead l.bytes l.place l.from (stage_of l.state) l.tokens
