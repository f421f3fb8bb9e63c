use Rattle.std.proofs.Common.{subst}
use Rattle.hyd_num.specs.FileQuantity.{is_us_unit}
use Rattle.hyd_option_and_rule_lines.specs.FaultOrValue.{words_at}
use Rattle.hyd_network_rows.specs.Rows.{IsValveSetting}
use Rattle.hyd_network_rows.specs.declared.valves.ValveSetting.{ValveSetting}
use Rattle.hyd_theorems_on_input.proofs.LinkKinds.{valve_numbers}
use Rattle.hyd_judge_links_controls_and_rules.proofs.RangeLemmas.{coefficient_up_to, coefficient_right, throttle_alone}
use Rattle.hyd_judge_links_controls_and_rules.proofs.ValveLemmas.{throttle_verdict, flow_verdict}
use Rattle.hyd_judge_links_controls_and_rules.proofs.valves.setting_fault.Goals as goal

pub throttle_fault-requires-clause-minor : goal.throttle_fault-requires-clause-minor
throttle_fault-requires-clause-minor c =
    coefficient_up_to c.args.valve.now.minor _ c.requires.read.minor
    (valve_numbers (words_at c.args.text.now c.args.line.now) c.requires.right).minor

pub flow_valve_fault-requires-clause-minor : goal.flow_valve_fault-requires-clause-minor
flow_valve_fault-requires-clause-minor c =
    coefficient_up_to c.args.valve.now.minor _ c.requires.read.minor
    (valve_numbers (words_at c.args.text.now c.args.line.now) c.requires.right).minor

pub throttle_fault-requires-clause-coefficient : goal.throttle_fault-requires-clause-coefficient
throttle_fault-requires-clause-coefficient c =
    let words = words_at c.args.text.now c.args.line.now in
    let P : ValveSetting → Type 0 = λ setting. IsValveSetting words setting in
    let is = subst P c.in-Throttle.is c.requires.read.setting in
    coefficient_up_to c.in-Throttle.coefficient _ is.1 (coefficient_right words c.requires.right is.0)

pub returns-in-Throttle : goal.returns-in-Throttle
returns-in-Throttle c =
    let words = words_at c.args.text.now c.args.line.now in
    let P : ValveSetting → Type 0 = λ setting. IsValveSetting words setting in
    let is = subst P c.in-Throttle.is c.requires.read.setting in
    λ rows curves verdicts. throttle_verdict rows c.args.tables.now.unit words (is_us_unit c.args.tables.now.unit) _
    is.0 (throttle_alone words is.0)
    (rw (← c.requires.read.diameter, ← c.requires.read.minor, ← is.1, ← c.is_us.ensures) c.throttle_fault.ensures)

pub returns-in-Flow : goal.returns-in-Flow
returns-in-Flow c =
    let words = words_at c.args.text.now c.args.line.now in
    let P : ValveSetting → Type 0 = λ setting. IsValveSetting words setting in
    let is = subst P c.in-Flow.is c.requires.read.setting in
    λ rows curves verdicts. flow_verdict rows c.args.tables.now.unit words (is_us_unit c.args.tables.now.unit) _ is.0
    is.1 (rw (← c.requires.read.diameter, ← c.requires.read.minor, ← is.2) c.flow_valve_fault.ensures)
