use Rattle.hyd_theorems_on_flow_texts.proofs.FirstLines.{flows_text, plain_text}
use Rattle.hyd_theorems_on_flow_texts.proofs.versions.Goals as goal

pub returns-clause-with_flows : goal.returns-clause-with_flows
returns-clause-with_flows c = flows_text

pub returns-clause-without_flows : goal.returns-clause-without_flows
returns-clause-without_flows c = plain_text
