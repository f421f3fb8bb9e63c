-- Carried levels at the end of a period, by its facts.
use Rattle.std.specs.Prelude.{ℕ, Option}
use Rattle.hyd_spec.specs.ProgramTypes.{Project, Tank}
use Rattle.hyd_spec.specs.Tank.{walls_of}
use Rattle.hyd_spec_certificates.specs.Interval.{Interval}
use Rattle.hyd_spec_certificates.specs.Decided.{Watch}
use Rattle.hyd_spec_open_ends.specs.StocksOverLengths.{carried_at_end}
use Rattle.hyd_spec_open_ends.specs.Arrivals.{arrival_of}
use Rattle.hyd_period_facts.specs.declared.facts.Facts.{Facts}
use Rattle.hyd_period_facts.specs.FactsBeforeEnd.{stocks_in, inflow_in}

-- the carried levels of tank number k there, where this level has just been reached
abbrev pub carried_left_in : Project → Facts → ℕ → ℕ → Option Watch → ℕ → Tank → Interval
carried_left_in project facts shortest longest reached k tank =
    carried_at_end (walls_of project tank) tank (stocks_in facts k) (inflow_in facts k) shortest longest
    (arrival_of shortest reached k)
