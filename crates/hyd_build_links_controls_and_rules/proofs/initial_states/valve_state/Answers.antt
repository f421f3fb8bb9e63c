use Rattle.std.proofs.Common.{subst}
use Rattle.hyd_spec_lines.specs.Lines.{row_of}
use Rattle.hyd_network_rows.specs.Rows.{IsValveSetting}
use Rattle.hyd_network_rows.specs.declared.valves.ValveSetting.{ValveSetting}
use Rattle.hyd_judge_links_controls_and_rules.proofs.RangeLemmas.{coefficient_up_to}
use Rattle.hyd_build_links_controls_and_rules.proofs.PipePumpAndValveFacts.{no_fault, valve_facts}
use Rattle.hyd_build_links_controls_and_rules.proofs.InitialStateLemmas.{flow_in_range, throttle_start}
use Rattle.hyd_build_links_controls_and_rules.proofs.initial_states.valve_state.Goals as goal

pub unreachable-requires : goal.unreachable-requires
unreachable-requires c =
    no_fault _ _ (valve_facts c.args.text.now.text c.args.given.now c.args.line.now c.requires).own
    c.in_default.ensures

pub throttle_state-requires-clause-coefficient : goal.throttle_state-requires-clause-coefficient
throttle_state-requires-clause-coefficient c =
    let words = (row_of c.args.text.now.text c.args.line.now).words in
    let P : ValveSetting → Type 0 = λ setting. IsValveSetting words setting in
    let is = subst P c.in-Throttle.is c.in-Ok.ensures.1.setting in
    coefficient_up_to c.in-Throttle.coefficient _ is.1
    ((valve_facts c.args.text.now.text c.args.given.now c.args.line.now c.requires).coefficient is.0)

pub throttle_state-requires-clause-free : goal.throttle_state-requires-clause-free
throttle_state-requires-clause-free c =
    let words = (row_of c.args.text.now.text c.args.line.now).words in
    let P : ValveSetting → Type 0 = λ setting. IsValveSetting words setting in
    let is = subst P c.in-Throttle.is c.in-Ok.ensures.1.setting in
    (valve_facts c.args.text.now.text c.args.given.now c.args.line.now c.requires).throttled c.in-Throttle.coefficient
    c.is_us.result is.1 c.is_us.ensures is.0

pub limit_state-requires : goal.limit_state-requires
limit_state-requires c =
    let words = (row_of c.args.text.now.text c.args.line.now).words in
    let P : ValveSetting → Type 0 = λ setting. IsValveSetting words setting in
    let is = subst P c.in-Flow.is c.in-Ok.ensures.1.setting in
    flow_in_range c.args.text.now.text c.args.given.now c.args.line.now c.requires is.0 is.1 c.in-Flow.flow is.2

pub returns-in-Throttle : goal.returns-in-Throttle
returns-in-Throttle c =
    let words = (row_of c.args.text.now.text c.args.line.now).words in
    let P : ValveSetting → Type 0 = λ setting. IsValveSetting words setting in
    let is = subst P c.in-Throttle.is c.in-Ok.ensures.1.setting in
    throttle_start c.args.text.now.text c.args.given.now c.args.line.now c.requires is.0 c.in-Throttle.coefficient is.1
    c.is_us.result c.is_us.ensures c.throttle_state.result c.throttle_state.ensures
