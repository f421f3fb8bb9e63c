-- The middle candidate for the next period of a witness, from a record of a certificate: heads halfway between the
-- record's two vectors, flows halfway between what the enclosing functions give there, exact stocks rounded down.
-- Source: this program's.
use Rattle.std.specs.Prelude.{◌≡◌, ℕ, ℤ, pos, ◌+ℤ◌, List, [], ◌∷◌, Option, Some, None, MatchOption}
use Rattle.std.specs.Prelude.{slice_index_or}
use Rattle.hyd_num.specs.Rational.{floor, whole}
use Rattle.hyd_spec.specs.ProgramTypes.{Project, Tank, Capacity, VolumePoint}
use Rattle.hyd_spec.specs.Lists.{Each}
use Rattle.hyd_spec.specs.Scale.{at_scale}
use Rattle.hyd_spec.specs.Assignment.{flow_at}
use Rattle.hyd_spec.specs.Law.{QuadraticLaw}
use Rattle.hyd_spec.specs.Tank.{Walls, Cylinder, Curve, Stock, walls_of, kept_volume, content_bounds, level_bounds}
use Rattle.hyd_spec.specs.Tank.{placed, exact_content, level_at_volume, tank_inflow}
use Rattle.hyd_spec.specs.PeriodLength.{Period, stock_at_start}
use Rattle.hyd_spec_certificates.specs.PeriodNetwork.{GridLink, GridJunction}
use Rattle.hyd_spec_certificates.specs.RecordAndStanding.{Record}
use Rattle.hyd_spec_witnesses.specs.EnclosingFunctionsAtScale.{low_at, high_at, IsInRange}
use Rattle.hyd_spec_witnesses.specs.DemandsAtScale.{demand_low_at, demand_high_at, IsDemandInRange}
use Rattle.hyd_spec_witnesses.specs.MetPeriods.{Moment, Reached, HasItsLists, period_of, links_of, difference_of}
use Rattle.hyd_spec_witnesses.specs.MetPeriods.{AreJunctionsOf, pressure_of}

-- ---- heads and flows

-- The scale of the candidate: halves of ticks.
abbrev pub halves : ℕ
halves = 2

-- Heads halfway between two vectors, in halves of ticks.
abbrev pub heads_between : List ℤ → List ℤ → List ℤ
heads_between [] uppers = []
heads_between (lower ∷ lowers) [] = []
heads_between (lower ∷ lowers) (upper ∷ uppers) = (lower +ℤ upper) ∷ heads_between lowers uppers

-- Half of the sum of a low and a high flow, rounded down.
abbrev pub halfway : ℤ → ℤ → ℤ
halfway low high = floor (record { num = low +ℤ high; den = 2 })

-- The flow is that where the law is in range, and 0 where it isn't.
pub record IsHalfway (in_range : Type 0) (low high q : ℤ) : Type 0 where
  pub inside : in_range → q ≡ halfway low high
  pub outside : (in_range → ⊥) → q ≡ pos 0

-- The flow of link number l.
abbrev pub LinkIsHalfway : Project → Period → ℕ → GridLink → Type 0
LinkIsHalfway project period l link =
    let d = difference_of project halves period link in
    IsHalfway (IsInRange halves link.law d) (low_at halves link.law d) (high_at halves link.law d)
    (flow_at period.assignment.flows l)

-- The demand flow of junction number j.
abbrev pub DemandIsHalfway : Period → ℕ → GridJunction → Type 0
DemandIsHalfway period j junction =
    let p = pressure_of halves period j junction in
    IsHalfway (IsDemandInRange halves junction.demand p) (demand_low_at halves junction.demand p)
    (demand_high_at halves junction.demand p) (flow_at period.assignment.demands j)

-- An emitter flow at a pressure; 0 where there is no emitter.
abbrev pub IsHalfwayEmitted : Option Capacity → ℤ → ℤ → Type 0
IsHalfwayEmitted emitter p q =
    MatchOption emitter (q ≡ pos 0) (λ capacity. IsHalfway (IsInRange halves (QuadraticLaw capacity) p)
    (low_at halves (QuadraticLaw capacity) p) (high_at halves (QuadraticLaw capacity) p) q)

-- The emitter flow of junction number j.
abbrev pub EmitterIsHalfway : Period → ℕ → GridJunction → Type 0
EmitterIsHalfway period j junction =
    IsHalfwayEmitted junction.emitter (pressure_of halves period j junction) (flow_at period.assignment.emitters j)

-- ---- stocks

-- The exact content after some seconds, held within its bounds and rounded down.
abbrev pub content_below : Walls → Tank → Stock → ℤ → ℕ → ℤ
content_below walls tank stock inflow seconds =
    let exact = exact_content walls stock inflow seconds in
    floor (placed halves (content_bounds walls tank) (content_bounds walls tank) exact exact)

-- The level that goes with a volume, rounded down.
abbrev pub level_below : List VolumePoint → Tank → ℤ → ℤ
level_below points tank volume =
    floor (placed halves (content_bounds (Curve points) tank) (level_bounds tank) (whole volume)
    (level_at_volume halves points tank (whole volume)))

-- The stock after some seconds: that content, and with a curve the level that goes with it.
abbrev pub stock_below : Walls → Tank → Stock → ℤ → ℕ → Stock
stock_below (Cylinder area) tank stock inflow seconds =
    record { level = content_below (Cylinder area) tank stock inflow seconds; volume = pos 0 }
stock_below (Curve points) tank stock inflow seconds =
    let volume = content_below (Curve points) tank stock inflow seconds in
    record { level = level_below points tank volume; volume = volume }

-- The stock of tank number k where a course stands: the file's at the start, else that after the last period.
abbrev pub stock_at : Project → Option Period → ℕ → Tank → Stock
stock_at project None k tank = record {
  level = at_scale halves tank.initial;
  volume = at_scale halves (kept_volume (walls_of project tank) tank.initial);
}
stock_at project (Some before) k tank =
    stock_below (walls_of project tank) tank (stock_at_start before k)
    (tank_inflow project k before.assignment.flows) before.length

-- ---- the candidate

-- The moment is the middle candidate of a record where a course of halves of ticks stands so.
pub record IsMiddle (project : Project) (reached : Reached) (row : Record) (moment : Moment) : Type 0 where
  pub lists : HasItsLists project moment
  pub number : moment.number ≡ row.number
  pub time : moment.time ≡ row.time
  pub length_is : moment.length ≡ row.length
  pub heads : moment.heads ≡ heads_between row.main.lower row.main.upper
  pub levels : Each project.tanks.list (λ k tank.
      slice_index_or moment.levels k (pos 0) ≡ (stock_at project reached.last k tank).level)
  pub volumes : Each project.tanks.list (λ k tank.
      slice_index_or moment.volumes k (pos 0) ≡ (stock_at project reached.last k tank).volume)
  pub links : Each (links_of project (period_of project halves reached moment))
      (LinkIsHalfway project (period_of project halves reached moment))
  pub junctions : List GridJunction
  pub are_junctions : AreJunctionsOf project (period_of project halves reached moment) junctions
  pub demands : Each junctions (DemandIsHalfway (period_of project halves reached moment))
  pub emitters : Each junctions (EmitterIsHalfway (period_of project halves reached moment))
