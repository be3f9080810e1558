use Rattle.flux_check.specs.Ones.{measured_type}
use Rattle.flux_check.proofs.LeafLaws.{many_renamed, atom_renamed, element_renamed}
use Rattle.flux_check.proofs.leaf.type_renaming.Goals as goal

pub returns-in_default : goal.returns-in_default
returns-in_default c = λ procs Γ. many_renamed c.args.defs.now procs Γ (measured_type c.args.focus) c.args.span c.args.label c.in_ok-one.field-0 c.in_ok-one.ensures c.in_default.is

pub returns-in-Some-2 : goal.returns-in-Some-2
returns-in-Some-2 c = λ procs Γ. element_renamed c.args.defs.now procs Γ (measured_type c.args.focus) c.args.span c.args.label c.in_ok-one.field-0 c.in-Some.one c.in_ok-element.field-0 c.in-Some-2.element c.one_element.result c.in_ok-one.ensures c.in-Some.is c.in_ok-element.ensures c.in-Some-2.is c.one_element.ensures

pub returns-in-None : goal.returns-in-None
returns-in-None c = λ procs Γ. atom_renamed c.args.defs.now procs Γ (measured_type c.args.focus) c.args.span c.args.label c.in_ok-one.field-0 c.in-Some.one c.in_ok-element.field-0 c.in_ok-one.ensures c.in-Some.is c.in_ok-element.ensures c.in-None.is
