use Rattle.std.proofs.Common.{subst}
use Rattle.flux_lex.specs.declared.read.LexFault.TheVariants.{Bad}
use Rattle.flux_lex.specs.Fault.{IsLexFault}
use Rattle.flux_syntax.specs.declared.trees.SynFault.TheVariants.{Syntax}
use Rattle.flux_report.specs.declared.line.ScriptFault.TheVariants.{Lex, Syn}
use Rattle.flux_top.specs.Script.{HasNoReading}
use Rattle.flux_top.proofs.Scripts.{fault_shown}
use Rattle.flux_top.proofs.Refused.{refused_so, no_reading}
use Rattle.flux_top.proofs.script.read_tree.Goals as goal
use Rattle.flux_top.proofs.script.read_tree.Goals.{In-Err-Syntax}

pub returns-in-Err-Bad-clause-refused : goal.returns-in-Err-Bad-clause-refused
returns-in-Err-Bad-clause-refused c =
    let fault = subst (IsLexFault c.args.script.now) c.in-Err-Bad.field-0-is c.in-Err-Bad.ensures.fault in
    refused_so c.args.script.now (Lex (Bad c.in-Err-Bad.place)) c.faulty.result (c.requires.within, fault) c.faulty.ensures

unread : (c : In-Err-Syntax) → HasNoReading c.args.script.now c.in-Err-Syntax.place
unread c =
    no_reading c.args.script.now c.in-Ok.tokens c.args.names.now c.parse.new.names c.in-Err-Syntax.field-0 c.in-Err-Syntax.place c.in-Ok.ensures.ok c.requires.empty c.in-Err-Syntax.field-0-is c.in-Err-Syntax.ensures.fault c.in-Err-Syntax.ensures.learnt

pub faulty-requires-in-Err-Syntax-clause-shown : goal.faulty-requires-in-Err-Syntax-clause-shown
faulty-requires-in-Err-Syntax-clause-shown c =
    fault_shown c.args.script.now (Syn (Syntax c.in-Err-Syntax.place)) (c.requires.within, unread (goal.at.faulty-requires-in-Err-Syntax-clause-shown c).In-Err-Syntax)

pub returns-in-Err-Syntax-clause-refused : goal.returns-in-Err-Syntax-clause-refused
returns-in-Err-Syntax-clause-refused c =
    refused_so c.args.script.now (Syn (Syntax c.in-Err-Syntax.place)) c.faulty-in-Err-Syntax.result (c.requires.within, unread (goal.at.returns-in-Err-Syntax-clause-refused c).In-Err-Syntax) c.faulty-in-Err-Syntax.ensures
