-- What facts and readings say of a period whose start is open by some seconds, and what is known of its rules.
use Rattle.std.specs.Prelude.{◌≡◌, ℕ, Bool, false, List, map}
use Rattle.std.specs.List.{list_any}
use Rattle.hyd_spec.specs.ProgramTypes.{Project, Tank}
use Rattle.hyd_spec.specs.Tank.{walls_of}
use Rattle.hyd_spec_certificates.specs.Interval.{Interval}
use Rattle.hyd_spec_certificates.specs.PeriodNetwork.{Grid}
use Rattle.hyd_spec_certificates.specs.RecordAndStanding.{Record}
use Rattle.hyd_spec_certificates.specs.ThreeValuedLogic.{is_yes, is_unknown}
use Rattle.hyd_spec_open_ends.specs.OpenStandings.{OpenStanding}
use Rattle.hyd_spec_open_ends.specs.StocksOverLengths.{carried_levels_over}
use Rattle.hyd_spec_open_ends.specs.RulesOverLengths.{open_rule_truths}
use Rattle.hyd_period_facts.specs.declared.facts.Facts.{Facts}
use Rattle.hyd_period_facts.specs.FactsBeforeEnd.{AreStarted, stocks_in, inflow_in}
use Rattle.hyd_period_length.specs.declared.readings.Readings.{Readings}
use Rattle.hyd_period_length.specs.Readings.{AreRead}

-- the levels of a tank carried over lengths, by the facts of a period
abbrev pub carried_over_in : Project → Facts → ℕ → ℕ → ℕ → Tank → Interval
carried_over_in project facts shortest longest k tank =
    carried_levels_over (walls_of project tank) tank (stocks_in facts k) (inflow_in facts k) shortest longest

-- Whatever grid, standing and record the facts and the readings are of, this holds of them where the start is open by
-- so many seconds.
abbrev pub ForOpenPeriod : Project → Facts → ℕ → Readings → (Grid → OpenStanding → Record → Type 0) → Type 0
ForOpenPeriod project facts late readings P = (grid : Grid) (standing : OpenStanding) (row : Record)
    → AreStarted project grid standing.known row facts → standing.late ≡ late
    → AreRead grid row readings.low.list readings.high.list readings.flows.list → P grid standing row

-- some seconds after the first start all rules are decided, with these values
pub record AreDecidedOver (project : Project) (grid : Grid) (standing : OpenStanding) (row : Record) (seconds : ℕ)
    (values : List Bool) : Type 0 where
  pub none_open : list_any is_unknown (open_rule_truths project grid standing row seconds) ≡ false
  pub values_are : values ≡ map is_yes (open_rule_truths project grid standing row seconds)
