use Rattle.hyd_spec_lines.specs.Lines.{row_of}
use Rattle.hyd_judge_links_controls_and_rules.proofs.FaultLemmas.{type_fault_is, allowed_where}
use Rattle.hyd_judge_links_controls_and_rules.proofs.faults.state_fault.Goals as goal

pub returns-clause-fault : goal.returns-clause-fault
returns-clause-fault c = λ rows word u is. rw c.type_fault.ensures
    (type_fault_is rows (row_of c.args.text.now.text c.args.link.now) word c.args.unit _ c.args.asked c.args.between
    c.link_type.ensures u is)

pub returns-clause-allowed : goal.returns-clause-allowed
returns-clause-allowed c = allowed_where (row_of c.args.text.now.text c.args.link.now) c.args.unit c.link_type.result
    c.args.asked c.args.between c.type_fault.result c.link_type.ensures c.type_fault.ensures
