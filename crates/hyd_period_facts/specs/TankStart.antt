-- The stocks and the states of tanks with which the next period begins.
-- Source: EPANET 2.2 User Manual, chapter 3 (tanks), between two ends.
use Rattle.std.specs.Prelude.{◌≡◌, ℕ, List, Some, None, map, slice_get, slice_index_or, position}
use Rattle.hyd_spec.specs.ProgramTypes.{Project, Tank}
use Rattle.hyd_spec.specs.Tank.{walls_of}
use Rattle.hyd_spec_certificates.specs.SpansAsIntervals.{levels_of}
use Rattle.hyd_spec_certificates.specs.Interval.{Interval}
use Rattle.hyd_spec_certificates.specs.Stocks.{Stocks, next_stocks}
use Rattle.hyd_spec_certificates.specs.Decided.{nowhere}
use Rattle.hyd_spec_certificates.specs.declared.LevelSpan.{LevelSpan}
use Rattle.hyd_spec_certificates.specs.Stops.{open_states}
use Rattle.hyd_tank.specs.StockIntervals.{volumes_of}
use Rattle.hyd_tank.specs.declared.stock_intervals.VolumeSpan.{VolumeSpan}
use Rattle.hyd_period_facts.specs.declared.facts.Facts.{Facts}
use Rattle.hyd_period_facts.specs.FactsBeforeEnd.{stocks_in, inflow_in}
use Rattle.hyd_controls_and_rules.specs.PumpPatternsAndSimpleControls.{IsFirstOpen as IsFirstControl}
use Rattle.hyd_period_facts.specs.declared.states.TankOpen.{TankOpen}
use Rattle.hyd_period_facts.specs.declared.states_and_level_controls.Unsettled.{Unsettled}
use Rattle.hyd_period_facts.specs.declared.states_and_level_controls.Unsettled.TheVariants.{Tank as TankIsOpen}
use Rattle.hyd_period_facts.specs.declared.states_and_level_controls.Unsettled.TheVariants.{Control as ControlIsOpen}

-- the stocks of a tank some seconds after the start of the period of some facts
abbrev pub next_in : Project → Facts → ℕ → ℕ → Tank → Stocks
next_in project facts seconds k tank = next_stocks (walls_of project tank) tank (stocks_in facts k)
    (inflow_in facts k) seconds

-- the stocks of a tank among levels and volumes
abbrev pub stocks_among : List LevelSpan → List VolumeSpan → ℕ → Stocks
stocks_among levels volumes k = record {
  level = slice_index_or (map levels_of levels) k nowhere;
  volume = slice_index_or (map volumes_of volumes) k nowhere;
}

-- the first tank whose state is open at level intervals, and its interval
pub record IsFirstOpen (project : Project) (levels : List Interval) (found : TankOpen) : Type 0 where
  pub first : position (λ is_open. is_open) (open_states project levels) ≡ Some found.tank
  pub level : slice_get levels found.tank ≡ Some (record { lo = found.lo; hi = found.hi })

-- the first matter of tanks that is open at levels: the first tank whose state is, or where each state is decided the
-- first level control that is
abbrev pub IsUnsettled : Project → List LevelSpan → Unsettled → Type 0
IsUnsettled project levels (TankIsOpen found) = IsFirstOpen project (map levels_of levels) found
IsUnsettled project levels (ControlIsOpen found) =
    (position (λ is_open. is_open) (open_states project (map levels_of levels)) ≡ None)
    × IsFirstControl project levels found
