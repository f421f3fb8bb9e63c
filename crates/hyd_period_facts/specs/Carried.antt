-- Carried levels by the facts of a period.
-- Source: EPANET 2.2 User Manual, chapter 3 (tanks), between two ends.
use Rattle.std.specs.Prelude.{ℕ}
use Rattle.hyd_spec.specs.ProgramTypes.{Project, Tank}
use Rattle.hyd_spec.specs.Tank.{walls_of}
use Rattle.hyd_spec_certificates.specs.Interval.{Interval}
use Rattle.hyd_spec_certificates.specs.Stocks.{carried_levels}
use Rattle.hyd_period_facts.specs.declared.facts.Facts.{Facts}
use Rattle.hyd_period_facts.specs.FactsBeforeEnd.{stocks_in, inflow_in}

-- the levels of a tank some seconds after the start of the period of some facts
abbrev pub carried_in : Project → Facts → ℕ → ℕ → Tank → Interval
carried_in project facts seconds k tank =
    carried_levels (walls_of project tank) tank (stocks_in facts k) (inflow_in facts k) seconds
