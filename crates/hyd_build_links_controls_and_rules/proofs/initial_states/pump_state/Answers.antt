use Rattle.std.proofs.Common.{refl}
use Rattle.hyd_spec_lines.specs.Lines.{row_of}
use Rattle.hyd_theorems_on_input.proofs.LinkStates.{pump_speed_right}
use Rattle.hyd_build_links_controls_and_rules.specs.RowsToBuildLinksFrom.{rows_from}
use Rattle.hyd_build_links_controls_and_rules.proofs.PipePumpAndValveFacts.{no_fault, pump_facts}
use Rattle.hyd_build_links_controls_and_rules.proofs.RightRowsToBuildLinksFrom.{rows_for_links_are_right}
use Rattle.hyd_build_links_controls_and_rules.proofs.initial_states.pump_state.Goals as goal

pub unreachable-requires : goal.unreachable-requires
unreachable-requires c =
    no_fault _ _ (pump_facts c.args.text.now.text c.args.given.now c.args.line.now c.requires).own c.in_default.ensures

pub speed_state-requires : goal.speed_state-requires
speed_state-requires c =
    let text = c.args.text.now.text in
    let right = pump_speed_right (rows_from text c.args.given.now) c.requires.among.place
    (row_of text c.args.line.now) (rows_for_links_are_right text c.args.given.now c.requires.right) c.requires.among.is
    c.requires.of in
    rw (c.in-Ok.ensures.1.speed, right) refl
