use Rattle.std.proofs.Common.{Some}
use Rattle.hyd_spec_lines.specs.Lines.{row_of}
use Rattle.hyd_spec_input.specs.CapacitiesOutOfRange.{IsRefusedSetting}
use Rattle.hyd_judge_links_controls_and_rules.proofs.CommandLemmas.{capacity_there, capacity_not_there}
use Rattle.hyd_judge_links_controls_and_rules.proofs.asked_states.capacity_fault.Goals as goal

pub returns-then-is_refused : goal.returns-then-is_refused
returns-then-is_refused c = λ rows word u a.
    capacity_there (IsRefusedSetting rows (Some (row_of c.args.text.now.text c.args.link.now)) word) c.is_refused.result
    (c.is_refused.ensures rows word u a) c.if-is_refused.true

pub returns : goal.returns
returns c = λ rows word u a.
    capacity_not_there (IsRefusedSetting rows (Some (row_of c.args.text.now.text c.args.link.now)) word)
    c.is_refused.result (c.is_refused.ensures rows word u a) c.if-is_refused.false
