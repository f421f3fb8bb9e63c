use Rattle.std.proofs.Common.{subst}
use Rattle.hyd_spec_lines.specs.Lines.{items_of}
use Rattle.hyd_spec_input.specs.Faults.{HasNoFault, IsFaultOf}
use Rattle.hyd_inp.specs.declared.fault.InpRefused.{InpRefused}
use Rattle.hyd_inp.specs.FaultOrNoMemory.{IfFault}
use Rattle.hyd_inp.proofs.FaultFromFindings.{found_of_text}
use Rattle.hyd_inp.proofs.first_fault.find_fault.Goals as goal

pub returns-in-Err-Fault-clause-fault : goal.returns-in-Err-Fault-clause-fault
returns-in-Err-Fault-clause-fault c =
    let t = c.new-reader.result.text in
    let P : InpRefused → Type 0 = λ refused. IfFault refused (λ f. IsFaultOf (items_of t) f.line f.cause) in
    found_of_text c.args.text.now t c.in-Err-Fault.fault c.new-reader.ensures.text c.if-text-gt-LONGEST_TEXT.false
    (subst P c.in-Err-Fault.field-0-is c.in-Err-Fault.ensures.fault)

pub returns-in-Ok-clause-none : goal.returns-in-Ok-clause-none
returns-in-Ok-clause-none c = subst HasNoFault c.new-reader.ensures.text c.in-Ok.ensures.none
