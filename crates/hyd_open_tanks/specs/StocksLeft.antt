-- What a period leaves of the stocks of tanks, by its facts.
use Rattle.std.specs.Prelude.{◌≡◌, ℕ, Option, Some, None, slice_get, IfSome}
use Rattle.hyd_spec.specs.ProgramTypes.{Project, Tank}
use Rattle.hyd_spec.specs.Tank.{walls_of}
use Rattle.hyd_spec_certificates.specs.Interval.{Interval}
use Rattle.hyd_spec_certificates.specs.Stocks.{Stocks}
use Rattle.hyd_spec_certificates.specs.Decided.{Watch}
use Rattle.hyd_spec_open_ends.specs.StocksOverLengths.{carried_at_end, stocks_at_end, kept}
use Rattle.hyd_spec_open_ends.specs.Arrivals.{arrival_of}
use Rattle.hyd_period_facts.specs.declared.facts.Facts.{Facts}
use Rattle.hyd_period_facts.specs.FactsBeforeEnd.{stocks_in, inflow_in}
use Rattle.hyd_open_stocks.specs.declared.lengths_and_arrivals.Arrival.{Arrival}
use Rattle.hyd_open_stocks.specs.LevelsInReach.{IsInReach}
use Rattle.hyd_open_watches.specs.declared.watches.Watch.{Watch as Here}

-- the stocks of tank number k at the end, of stocks at the start and an inflow: cut by what has just been reached of
-- the tank, and of the level what the controls keep
abbrev pub left_by : Project → Option Watch → ℕ → Tank → Stocks → Interval → ℕ → ℕ → Stocks
left_by project reached k tank stocks inflow shortest longest =
    let arrival = arrival_of shortest reached k in
    let walls = walls_of project tank in
    record {
      level = kept project.controls.list k (carried_at_end walls tank stocks inflow shortest longest arrival)
          (stocks_at_end walls tank stocks inflow shortest longest arrival).level;
      volume = (stocks_at_end walls tank stocks inflow shortest longest arrival).volume;
    }

-- by the facts of the period
abbrev pub left_in : Project → Facts → ℕ → ℕ → Option Watch → ℕ → Tank → Stocks
left_in project facts shortest longest reached k tank =
    left_by project reached k tank (stocks_in facts k) (inflow_in facts k) shortest longest

-- the level that has just been reached is in its tank's reach
abbrev pub IsInReachOf : Project → Facts → Option Here → Type 0
IsInReachOf project facts reached =
    IfSome reached (λ watch. (each : Tank) → slice_get project.tanks.list watch.tank ≡ Some each
    → IsInReach (walls_of project each) each (inflow_in facts watch.tank) watch.target watch.rising)

-- what has just been reached of a tank is this level, and it is one of the tank
abbrev pub ComesFrom : Option Here → ℕ → Arrival → Type 0
ComesFrom None tank arrival = ⊥
ComesFrom (Some watch) tank arrival =
    (watch.tank ≡ tank) × ((arrival.target ≡ watch.target) × (arrival.rising ≡ watch.rising))
