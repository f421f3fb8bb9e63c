use Rattle.std.proofs.Common.{◌≡◌, Some, subst}
use Rattle.hyd_spec_lines.specs.Lines.{row_of}
use Rattle.hyd_network_rows.specs.Rows.{IsValveSetting}
use Rattle.hyd_network_rows.specs.declared.valves.ValveSetting.{ValveSetting}
use Rattle.hyd_spec_input.specs.NodeAndLinkRows.{valve_curve}
use Rattle.hyd_build_links_controls_and_rules.specs.RowsToBuildLinksFrom.{rows_from}
use Rattle.hyd_build_links_controls_and_rules.proofs.NumberLemmas.{valve_bend}
use Rattle.hyd_judge_links_controls_and_rules.proofs.RangeLemmas.{coefficient_up_to, throttle_alone}
use Rattle.hyd_build_links_controls_and_rules.proofs.PipePumpAndValveFacts.{no_fault, valve_facts}
use Rattle.hyd_build_links_controls_and_rules.proofs.valves.valve_kind.Goals as goal

pub unreachable-requires : goal.unreachable-requires
unreachable-requires c =
    no_fault _ _ (valve_facts c.args.text.now.text c.args.given.now c.args.line.now c.requires).own
    c.in_default.ensures

pub valve_law-requires-clause-coefficient : goal.valve_law-requires-clause-coefficient
valve_law-requires-clause-coefficient c =
    coefficient_up_to c.in-Ok.valve.minor _ c.in-Ok.ensures.1.minor
    (valve_facts c.args.text.now.text c.args.given.now c.args.line.now c.requires).numbers.minor

pub valve_law-requires-in-Flow-clause-coefficient : goal.valve_law-requires-in-Flow-clause-coefficient
valve_law-requires-in-Flow-clause-coefficient c =
    coefficient_up_to c.in-Ok.valve.minor _ c.in-Ok.ensures.1.minor
    (valve_facts c.args.text.now.text c.args.given.now c.args.line.now c.requires).numbers.minor

pub valve_law-requires-clause-free : goal.valve_law-requires-clause-free
valve_law-requires-clause-free c =
    let words = (row_of c.args.text.now.text c.args.line.now).words in
    let P : ValveSetting → Type 0 = λ setting. IsValveSetting words setting in
    let is = subst P c.in-Throttle.is c.in-Ok.ensures.1.setting in
    (valve_facts c.args.text.now.text c.args.given.now c.args.line.now c.requires).fully c.in-Ok.valve c.is_us.result
    c.in-Ok.ensures.1 c.is_us.ensures (throttle_alone words is.0)

pub valve_law-requires-in-Flow-clause-free : goal.valve_law-requires-in-Flow-clause-free
valve_law-requires-in-Flow-clause-free c =
    let words = (row_of c.args.text.now.text c.args.line.now).words in
    let P : ValveSetting → Type 0 = λ setting. IsValveSetting words setting in
    let is = subst P c.in-Flow.is c.in-Ok.ensures.1.setting in
    (valve_facts c.args.text.now.text c.args.given.now c.args.line.now c.requires).fully c.in-Ok.valve
    c.is_us-in-Flow.result c.in-Ok.ensures.1 c.is_us-in-Flow.ensures is.1

pub number-requires : goal.number-requires
number-requires c =
    let rows = rows_from c.args.text.now.text c.args.given.now in
    let row = row_of c.args.text.now.text c.args.line.now in
    let P : ValveSetting → Type 0 = λ setting. IsValveSetting row.words setting in
    let is = subst P c.in-Curve.is c.in-Ok.ensures.1.setting in
    let curve : valve_curve row.words ≡ Some c.in-Curve.curve.now = rw is.1 is.2 in
    rw c.requires.right.bends
    (valve_bend rows c.requires.among.place row c.in-Curve.curve.now c.requires.among.is c.requires.of curve)

pub returns-in-Curve : goal.returns-in-Curve
returns-in-Curve c =
    let row = row_of c.args.text.now.text c.args.line.now in
    let P : ValveSetting → Type 0 = λ setting. IsValveSetting row.words setting in
    let is = subst P c.in-Curve.is c.in-Ok.ensures.1.setting in
    let curve : valve_curve row.words ≡ Some c.in-Curve.curve.now = rw is.1 is.2 in
    (is.1, rw (curve, ← c.requires.right.bends) c.number.ensures)
