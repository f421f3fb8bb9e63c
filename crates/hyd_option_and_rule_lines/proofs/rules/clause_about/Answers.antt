use Rattle.hyd_option_and_rule_lines.proofs.rules.clause_about.Goals as goal

pub returns-in-Node : goal.returns-in-Node
returns-in-Node c = rw c.in-Node.is c.named_comparison.ensures

pub returns-in-Link : goal.returns-in-Link
returns-in-Link c = rw c.in-Link.is c.named_comparison-in-Link.ensures
