-- What a moment is tried with, and what it holds of one that is met.
-- Source: this program's.
use Rattle.std.specs.Prelude.{◌≡◌, ℕ, ◌+◌, ◌≤◌, List, length}
use Rattle.hyd_spec.specs.ProgramTypes.{Project, LinkState}
use Rattle.hyd_spec.specs.NodeNumbers.{tank_count}
use Rattle.hyd_spec_witnesses.specs.MetPeriods.{Moment}
use Rattle.hyd_length_at_scale.specs.MetPeriods.{AreInflows}
use Rattle.hyd_length_at_scale.specs.ReservedMemory.{IsRoomFor}
use Rattle.hyd_course.specs.Stocks.{AreSmallStocks}
use Rattle.hyd_course.specs.NetsSetForMoments.{IsSetNet, IsSetAt}
use Rattle.hyd_course.specs.declared.trial.Trial.{Trial}

-- there is room for the moments of a network
pub record IsTrial (project : Project) (trial : Trial) : Type 0 where
  pub set : IsSetNet project trial.set
  pub inflow_each : length trial.inflows.items ≡ tank_count project
  pub end : IsRoomFor project trial.end

-- a moment was tried and is met, after links were commanded so: the net is set to it, what flows into tanks is at hand,
-- their stocks are small, and it ends by the end of the run
pub record IsTried (project : Project) (S : ℕ) (commanded : List LinkState) (moment : Moment) (trial : Trial)
    : Type 0 where
  pub set : IsSetAt project S moment.time moment.levels commanded trial.set
  pub inflows : AreInflows project moment.flows trial.inflows.items
  pub stocks : AreSmallStocks project moment
  pub within : moment.time + moment.length ≤ project.times.duration
