use Rattle.std.specs.Prelude.{map}
use Rattle.hyd_spec_certificates.specs.SpansAsIntervals.{levels_of}
use Rattle.hyd_period_facts.proofs.DecidedTankStates.{none_open}
use Rattle.hyd_open_tanks.proofs.settled.put_settled.Goals as goal

pub returns-in-Err-find_open-clause-open : goal.returns-in-Err-find_open-clause-open
returns-in-Err-find_open-clause-open c = (
  none_open c.args.project.now (map levels_of c.args.levels.now) c.put_states.new.states.list
      c.in_default.ensures.decided,
  c.in-Err-find_open.ensures.open,
)
