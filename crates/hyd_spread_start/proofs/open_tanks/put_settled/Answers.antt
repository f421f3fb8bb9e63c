use Rattle.std.proofs.Common.{inl, inr}
use Rattle.std.specs.Prelude.{map}
use Rattle.hyd_spec_certificates.specs.SpansAsIntervals.{levels_of}
use Rattle.hyd_period_facts.proofs.DecidedTankStates.{none_open}
use Rattle.hyd_spread_start.proofs.OpenTanksOfCode.{by-control, control-there, control-of-level}
use Rattle.hyd_spread_start.proofs.open_tanks.put_settled.Goals as goal

pub returns-in-Err-clause-open : goal.returns-in-Err-clause-open
returns-in-Err-clause-open c = inl c.in-Err.ensures.open.first

pub returns-in-Err-find_open-clause-open : goal.returns-in-Err-find_open-clause-open
returns-in-Err-find_open-clause-open c =
    inr (by-control c.args.project.now (map levels_of c.args.levels.now) c.in-Err-find_open.open.control
    c.tank_of.result
    (none_open c.args.project.now (map levels_of c.args.levels.now) c.put_states.new.states.list
    c.in_default.ensures.decided) c.in-Err-find_open.ensures.open.first c.tank_of.ensures)

pub tank_of-requires-clause-within : goal.tank_of-requires-clause-within
tank_of-requires-clause-within c =
    control-there c.args.project.now c.args.levels.now c.in-Err-find_open.open c.in-Err-find_open.ensures.open

pub tank_of-requires-clause-of_level : goal.tank_of-requires-clause-of_level
tank_of-requires-clause-of_level c = λ control at.
    control-of-level c.args.project.now c.args.levels.now c.in-Err-find_open.open c.in-Err-find_open.ensures.open
    control at
