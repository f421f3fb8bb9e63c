use Rattle.std.proofs.Common.{Some, None, sym, ◌∙◌}
use Rattle.hyd_spec_lines.specs.Lines.{row_of}
use Rattle.hyd_spec_input.specs.CapacitiesOutOfRange.{IsRefusedSetting}
use Rattle.hyd_spec_input.specs.FaultsWithOtherRows.{set_link}
use Rattle.hyd_judge_links_controls_and_rules.proofs.CommandLemmas.{then_capacity}
use Rattle.hyd_judge_links_controls_and_rules.proofs.asked_states.asked_fault.Goals as goal

pub returns : goal.returns
returns c = λ rows word u a.
    let row = row_of c.args.text.now.text c.args.link.now in
    then_capacity (set_link rows (Some row) word None) (IsRefusedSetting rows (Some row) word) c.capacity_fault.result
    (sym (c.state_fault.ensures.fault rows word u a) ∙ c.in_default.is) (c.capacity_fault.ensures rows word u a)
