use Rattle.std.proofs.Common.{Some, sym, ◌∙◌}
use Rattle.hyd_spec_lines.specs.Lines.{row_of}
use Rattle.hyd_spec_input.specs.CapacitiesOutOfRange.{IsRefusedSetting}
use Rattle.hyd_spec_input.specs.Columns.{word}
use Rattle.hyd_judge_links_controls_and_rules.specs.Controls.{commanded_fault}
use Rattle.hyd_judge_links_controls_and_rules.proofs.CommandLemmas.{then_capacity}
use Rattle.hyd_judge_links_controls_and_rules.proofs.ControlLemmas.{commanded_none}
use Rattle.hyd_judge_links_controls_and_rules.proofs.controls.commanded_fault.Goals as goal

pub returns : goal.returns
returns c = λ rows row u line node.
    let link = row_of c.args.text.now.text c.args.link.now in
    let none = commanded_none rows link row c.tank_fault.result (c.tank_fault.ensures rows row node)
    (sym (c.state_fault.ensures.fault rows (word 2 row.words) u line.to) ∙ c.in_default.is)
    (sym (c.level_fault.ensures rows row u line.when) ∙ c.in_default-level_fault.is) in
    then_capacity (commanded_fault rows link row) (IsRefusedSetting rows (Some link) (word 2 row.words))
    c.capacity_fault.result none (c.capacity_fault.ensures rows (word 2 row.words) u line.to)
