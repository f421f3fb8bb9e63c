-- Periods of a witness whose flows are met, and what flows into their tanks.
use Rattle.std.specs.Prelude.{◌≡◌, ℕ, ◌<◌, ◌≤◌, ℤ, pos, List, length, slice_index_or, unsigned_abs}
use Rattle.hyd_net.specs.Sound.{IsSound}
use Rattle.hyd_spec.specs.ProgramTypes.{Project}
use Rattle.hyd_spec.specs.NodeNumbers.{tank_count}
use Rattle.hyd_spec.specs.Tank.{tank_inflow}
use Rattle.hyd_spec.specs.PeriodLength.{Period}
use Rattle.hyd_stocks_at_scale.specs.Motions.{content_limit, inflow_limit}
use Rattle.hyd_witness_texts.specs.MomentView.{moment_of}
use Rattle.hyd_met_flows.specs.Periods.{period_in, IsMomentOf}
use Rattle.hyd_length_at_scale.specs.declared.periods.MetPeriod.{MetPeriod}

-- what flows into each tank by flows of links (parts of a flow tick)
pub record AreInflows (project : Project) (flows inflows : List ℤ) : Type 0 where
  pub one_each : length inflows ≡ tank_count project
  pub value : (k : ℕ) → k < tank_count project → slice_index_or inflows k (pos 0) ≡ tank_inflow project k flows
  pub small : (k : ℕ) → k < tank_count project → unsigned_abs (slice_index_or inflows k (pos 0)) ≤ inflow_limit

-- so many levels or volumes that tanks may have
abbrev pub AreContents : ℕ → List ℤ → Type 0
AreContents count contents = (k : ℕ) → k < count → unsigned_abs (slice_index_or contents k (pos 0)) ≤ content_limit

-- the period that is told
abbrev pub told : MetPeriod → Period
told period = period_in (moment_of period.moment.now) period.tanks.now period.links.now

-- a moment of a sound network, with levels and volumes that its tanks may have, what flows into them, a state for each
-- tank and one for each link
pub record IsMetPeriod (period : MetPeriod) : Type 0 where
  pub sound : IsSound period.project.now
  pub moment : IsMomentOf period.project.now (moment_of period.moment.now)
  pub levels : AreContents (tank_count period.project.now) period.moment.now.levels.list
  pub volumes : AreContents (tank_count period.project.now) period.moment.now.volumes.list
  pub inflows : AreInflows period.project.now period.moment.now.flows.list period.inflows.now
  pub tank_each : length period.tanks.now ≡ tank_count period.project.now
  pub link_each : length period.links.now ≡ length period.project.now.links.list
