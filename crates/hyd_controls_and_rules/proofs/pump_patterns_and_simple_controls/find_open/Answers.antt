use Rattle.std.proofs.Common.{arith}
use Rattle.std.proofs.lemmas.Int.{ints}
use Rattle.hyd_controls_and_rules.proofs.FirstOpenControl.{first_open}
use Rattle.hyd_controls_and_rules.proofs.pump_patterns_and_simple_controls.find_open.Goals as goal

pub returns-in-Some-clause-open : goal.returns-in-Some-clause-open
returns-in-Some-clause-open c =
    first_open c.args.project.now c.args.levels.now c.as_slice-controls.result.now c.loop-number.number
    c.index-controls-number.result c.in-Some.level _ _
    c.as_slice-controls.ensures c.loop-number-test.true c.loop-number.invariant c.index-controls-number.is
    c.in-Some.ensures.is_open c.in-Some.ensures.level
    (omega (arith, ints)) (omega (arith, ints))
