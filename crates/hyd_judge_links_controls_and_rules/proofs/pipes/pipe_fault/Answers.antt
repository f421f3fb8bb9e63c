use Rattle.std.proofs.Common.{sym, refl}
use Rattle.hyd_option_and_rule_lines.specs.FaultOrValue.{words_at}
use Rattle.hyd_theorems_on_input.proofs.LinkKinds.{pipe_numbers}
use Rattle.hyd_judge_links_controls_and_rules.proofs.PipeLemmas.{ends_first, then_numbers, by_formula}
use Rattle.hyd_judge_links_controls_and_rules.proofs.RangeLemmas.{positive_up_to, minor_up_to}
use Rattle.hyd_judge_links_controls_and_rules.proofs.pipes.pipe_fault.Goals as goal

pub power_fault-requires-clause-length : goal.power_fault-requires-clause-length
power_fault-requires-clause-length c =
    positive_up_to 1000000 c.in-Ok.pipe.length _ c.in-Ok.ensures.1.length
    (pipe_numbers c.args.by_power (words_at c.args.text.now c.args.line.now) c.requires.right).long

pub power_fault-requires-clause-diameter : goal.power_fault-requires-clause-diameter
power_fault-requires-clause-diameter c =
    positive_up_to 10000 c.in-Ok.pipe.diameter _ c.in-Ok.ensures.1.diameter
    (pipe_numbers c.args.by_power (words_at c.args.text.now c.args.line.now) c.requires.right).across

pub capacity_fault-requires-clause-length : goal.capacity_fault-requires-clause-length
capacity_fault-requires-clause-length c =
    positive_up_to 1000000 c.in-Ok.pipe.length _ c.in-Ok.ensures.1.length
    (pipe_numbers c.args.by_power (words_at c.args.text.now c.args.line.now) c.requires.right).long

pub capacity_fault-requires-clause-diameter : goal.capacity_fault-requires-clause-diameter
capacity_fault-requires-clause-diameter c =
    positive_up_to 10000 c.in-Ok.pipe.diameter _ c.in-Ok.ensures.1.diameter
    (pipe_numbers c.args.by_power (words_at c.args.text.now c.args.line.now) c.requires.right).across

pub capacity_fault-requires-clause-roughness : goal.capacity_fault-requires-clause-roughness
capacity_fault-requires-clause-roughness c =
    positive_up_to 10 c.in-Ok.pipe.roughness _ c.in-Ok.ensures.1.roughness
    ((pipe_numbers c.args.by_power (words_at c.args.text.now c.args.line.now) c.requires.right).rough
    c.if-by_power.false)

pub capacity_fault-requires-clause-minor : goal.capacity_fault-requires-clause-minor
capacity_fault-requires-clause-minor c =
    minor_up_to c.in-Ok.pipe.minor _ c.in-Ok.ensures.1.minor
    (pipe_numbers c.args.by_power (words_at c.args.text.now c.args.line.now) c.requires.right).fittings

pub returns-in-Some : goal.returns-in-Some
returns-in-Some c rows table e =
    let ends = c.ends_fault.ensures rows table in
    ends_first rows c.args.count c.args.new (words_at c.args.text.now c.args.line.now) _ c.in-Some.cause
    (rw (c.in-Ok.ensures.1.ends.from, c.in-Ok.ensures.1.ends.to) (rw c.in-Some.is at ends))

pub returns-then-by_power : goal.returns-then-by_power
returns-then-by_power c rows table e =
    let ends = c.ends_fault.ensures rows table in
    then_numbers rows c.args.count c.args.new (words_at c.args.text.now c.args.line.now) _ c.power_fault.result
    (rw (c.in-Ok.ensures.1.ends.from, c.in-Ok.ensures.1.ends.to) (rw c.in_default-ends_fault.is at ends))
    (by_formula c.args.by_power rows (words_at c.args.text.now c.args.line.now) c.in-Ok.pipe c.is_us.result _
    c.power_fault.result c.in-Ok.ensures.1 e c.is_us.ensures (rw c.if-by_power.true c.power_fault.ensures))

pub returns : goal.returns
returns c rows table e =
    let ends = c.ends_fault.ensures rows table in
    then_numbers rows c.args.count c.args.new (words_at c.args.text.now c.args.line.now) _ c.capacity_fault.result
    (rw (c.in-Ok.ensures.1.ends.from, c.in-Ok.ensures.1.ends.to) (rw c.in_default-ends_fault.is at ends))
    (by_formula c.args.by_power rows (words_at c.args.text.now c.args.line.now) c.in-Ok.pipe c.is_us-2.result _
    c.capacity_fault.result c.in-Ok.ensures.1 e c.is_us-2.ensures (rw c.if-by_power.false c.capacity_fault.ensures))
