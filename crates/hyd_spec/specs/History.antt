-- Histories: what may happen in the network, period by period, from the start of the run.
-- Source: EPANET 2.2 User Manual, chapter 3 (extended period simulation).
use Rattle.std.specs.Prelude.{◌≡◌, ◌≢◌, ℕ, ◌+◌, ◌%◌, ℤ, pos, List, [], ◌∷◌, length, map, ⊤, slice_index_or}
use Rattle.std.specs.Prelude.{if◌then◌else◌, ◌==◌}
use Rattle.hyd_spec.specs.ProgramTypes.{Project, Tank, TankState, LinkState}
use Rattle.hyd_spec.specs.Lists.{Each}
use Rattle.hyd_spec.specs.Scale.{at_scale}
use Rattle.hyd_spec.specs.NodeNumbers.{tank_count}
use Rattle.hyd_spec.specs.Assignment.{IsAssignment}
use Rattle.hyd_spec.specs.Tank.{IsNextStock, walls_of, kept_volume, tank_state, tank_inflow}
use Rattle.hyd_spec.specs.PumpPatternsAndSimpleControls.{started, acts_at}
use Rattle.hyd_spec.specs.Rules.{acted}
use Rattle.hyd_spec.specs.PeriodLength.{Period, HasItsLength, stock_at_start, values_at}

-- The states of tanks at their levels.
abbrev pub tank_states : ℕ → List Tank → List ℤ → List TankState
tank_states S [] levels = []
tank_states S (tank ∷ tanks) [] = []
tank_states S (tank ∷ tanks) (level ∷ levels) = tank_state S tank level ∷ tank_states S tanks levels

-- A period begins at a time with levels and volumes, each tank in the state of its level, and the links in the states
-- that pump patterns and controls give them, from those commanded before.
pub record Begins (project : Project) (S time : ℕ) (levels volumes : List ℤ) (commanded : List LinkState)
    (period : Period) : Type 0 where
  pub at_time : period.time ≡ time
  pub at_levels : period.levels ≡ levels
  pub at_volumes : period.volumes ≡ volumes
  pub tanks : period.tanks ≡ tank_states S project.tanks.list levels
  pub links : period.links ≡ started project time (acts_at S levels) commanded

-- Throughout a period its heads and flows obey the laws, and it has its length.
pub record IsPeriod (project : Project) (S : ℕ) (period : Period) : Type 0 where
  pub obeys : IsAssignment project S period.time period.levels period.tanks period.links period.assignment
  pub lasts : HasItsLength project S period

-- The stocks at a period's end: a level and a volume for each tank, by its inflow.
pub record AreNextStocks (project : Project) (S : ℕ) (period : Period) (levels volumes : List ℤ) : Type 0 where
  pub level_each : length levels ≡ tank_count project
  pub volume_each : length volumes ≡ tank_count project
  pub each : Each project.tanks.list (λ k tank. IsNextStock S (walls_of project tank) tank (stock_at_start period k)
      (tank_inflow project k period.assignment.flows) period.length
      (record { level = slice_index_or levels k (pos 0); volume = slice_index_or volumes k (pos 0) }))

-- The link states that are commanded at a period's end: those of the rules' actions where the rules are tried
-- there, else those of the period.
abbrev pub commanded_after : Project → ℕ → Period → List LinkState
commanded_after project S period =
    let end = period.time + period.length in
    if end % project.times.rule == 0 then acted project (values_at project S period end) period.links
    else period.links

-- A period comes after another: that one isn't the last, and this one begins at its end with the
-- stocks, tank states and link states that it left.
pub record ComesAfter (project : Project) (S : ℕ) (before period : Period) : Type 0 where
  pub not_last : before.time ≢ project.times.duration
  pub stocks : AreNextStocks project S before period.levels period.volumes
  pub begins : Begins project S (before.time + before.length) period.levels period.volumes
      (commanded_after project S before) period

-- The periods go on from one.
abbrev pub GoesOn : Project → ℕ → Period → List Period → Type 0
GoesOn project S before [] = ⊤
GoesOn project S before (period ∷ rest) =
    ComesAfter project S before period × (IsPeriod project S period × GoesOn project S period rest)

-- The levels that the file begins with (S-th parts of a head tick).
abbrev pub initial_levels : Project → ℕ → List ℤ
initial_levels project S = map (λ tank. at_scale S tank.initial) project.tanks.list

-- The volumes of its tanks with curves at these levels (S-th parts of a volume tick), 0 for the others.
abbrev pub initial_volumes : Project → ℕ → List ℤ
initial_volumes project S =
    map (λ (tank : Tank). at_scale S (kept_volume (walls_of project tank) tank.initial)) project.tanks.list

-- The link states that the file begins with.
abbrev pub initial_links : Project → List LinkState
initial_links project = map (λ link. link.start) project.links.list

-- A history at scale S: its first period begins at time 0 with the file's initial stocks and states, and each
-- further one comes after the one before. It may stop short of the end of the run.
abbrev pub IsHistory : Project → ℕ → List Period → Type 0
IsHistory project S [] = ⊤
IsHistory project S (first ∷ rest) =
    Begins project S 0 (initial_levels project S) (initial_volumes project S) (initial_links project) first
    × (IsPeriod project S first × GoesOn project S first rest)
