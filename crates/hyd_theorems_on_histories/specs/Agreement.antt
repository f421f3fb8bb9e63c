-- When a history agrees with what is known where a period begins, and what every standing of a run keeps.
-- Source: this program's.
use Rattle.std.specs.Prelude.{◌≡◌, ℕ, ◌<◌, ◌≤◌, ◌*◌, ℤ, pos, ◌*ℤ◌, ◌≤ℤ◌, slice_index_or, List}
use Rattle.std.specs.List.{AllZip}
use Rattle.hyd_num.specs.Rational.{Rational}
use Rattle.hyd_net.specs.RoundedFileNumbers.{IsStateMade}
use Rattle.hyd_net.specs.LinkStates.{CanHave}
use Rattle.hyd_spec.specs.ProgramTypes.{Project, Tank, Link, LinkState}
use Rattle.hyd_spec.specs.Lists.{Each}
use Rattle.hyd_spec.specs.NodeNumbers.{nodes_before_tanks}
use Rattle.hyd_spec.specs.Assignment.{head_at}
use Rattle.hyd_spec.specs.Tank.{walls_of, level_bounds}
use Rattle.hyd_spec.specs.Rules.{Readings, level_of}
use Rattle.hyd_spec.specs.PeriodLength.{Period}
use Rattle.hyd_spec.specs.History.{tank_states}
use Rattle.hyd_spec_certificates.specs.Interval.{Interval}
use Rattle.hyd_spec_certificates.specs.PeriodNetwork.{Grid}
use Rattle.hyd_spec_certificates.specs.RecordAndStanding.{Record, Standing}
use Rattle.hyd_spec_certificates.specs.Decided.{links_at, level_of_tank}
use Rattle.hyd_spec_certificates.specs.Valid.{AreCertificates, ControlsAreDecided}
use Rattle.hyd_theorems_on_definitions.specs.LyingInIntervals.{LiesIn, LevelsLie, IsCompared, IsWithin}
use Rattle.hyd_theorems_on_definitions.specs.SoundTanks.{IsVessel}

-- ---- what rules look at

-- An exact value, in S-th parts of a tick, lies between two exact values in ticks.
pub record IsValueBetween (S : ℕ) (lo x hi : Rational) : Type 0 where
  pub some_lo : 0 < lo.den
  pub some : 0 < x.den
  pub some_hi : 0 < hi.den
  pub low : (pos (x.den * S) *ℤ lo.num) ≤ℤ (pos lo.den *ℤ x.num)
  pub high : (pos hi.den *ℤ x.num) ≤ℤ (pos (x.den * S) *ℤ hi.num)

-- What rules look at at scale S lies between two readings in ticks, with the same states of links: the heads of
-- junctions and reservoirs, the carried levels of tanks (from which the heads of tanks follow) and the flows.
pub record AreBetween (project : Project) (S : ℕ) (below x above : Readings) : Type 0 where
  pub heads : (m : ℕ) → m < nodes_before_tanks project
      → LiesIn S (record { lo = head_at below.heads m; hi = head_at above.heads m }) (head_at x.heads m)
  pub levels : (k : ℕ) → IsValueBetween S (level_of below k) (level_of x k) (level_of above k)
  pub flows_below : (l : ℕ) → S * slice_index_or below.flows l 0 ≤ slice_index_or x.flows l 0
  pub flows_above : (l : ℕ) → slice_index_or x.flows l 0 ≤ S * slice_index_or above.flows l 0
  pub links_below : below.links ≡ x.links
  pub links_above : above.links ≡ x.links

-- ---- a period and a record

-- Each tank's volume lies in its interval.
abbrev pub VolumesLie : ℕ → List Interval → List ℤ → Type 0
VolumesLie S intervals volumes = AllZip (LiesIn S) intervals volumes

-- A period of a history that begins as a standing says: its time and states are the standing's, its stocks lie in the
-- intervals there, its heads and flows obey the laws on the grid of the standing, and the vectors of the record are
-- certificates on that grid.
pub record IsUnder (project : Project) (S : ℕ) (period : Period) (grid : Grid) (standing : Standing)
    (row : Record) : Type 0 where
  pub compared : IsCompared project S period.time standing.levels period.levels period.tanks period.links
      period.assignment grid
  pub volumes : VolumesLie S standing.volumes period.volumes
  pub certificates : AreCertificates project grid row
  pub time : period.time ≡ standing.time
  pub tanks : period.tanks ≡ standing.tanks
  pub links : period.links ≡ links_at project standing
  pub controls : ControlsAreDecided project standing.levels
  pub vessels : Each project.tanks.list (λ k tank. IsVessel (walls_of project tank) tank)

-- Where a period of a history begins, at a time with levels and volumes and after links were commanded so, it agrees
-- with a standing: the time is the same, the stocks lie in the intervals, the tanks are in the states that the
-- standing has, and the links were commanded to be in the same states.
pub record AgreesWith (project : Project) (S : ℕ) (standing : Standing) (time : ℕ) (levels volumes : List ℤ)
    (commanded : List LinkState) : Type 0 where
  pub time_is : time ≡ standing.time
  pub levels_lie : LevelsLie S standing.levels levels
  pub volumes_lie : VolumesLie S standing.volumes volumes
  pub tanks_are : tank_states S project.tanks.list levels ≡ standing.tanks
  pub commanded_are : commanded ≡ standing.commanded

-- ---- standings of a run

-- A state that a link may be in: it is made of the file's numbers, and a link of this kind can have it.
pub record IsOwnState (project : Project) (link : Link) (state : LinkState) : Type 0 where
  pub made : IsStateMade project.options.unit state
  pub can : CanHave link.kind state

-- What every standing of a run keeps, whatever the history: the level controls are decided, the level intervals lie
-- within the bounds of their tanks, and each link was commanded to be in a state of its own.
pub record IsKept (project : Project) (standing : Standing) : Type 0 where
  pub controls : ControlsAreDecided project standing.levels
  pub levels : Each project.tanks.list (λ k (tank : Tank). IsWithin (level_bounds tank) (level_of_tank standing k))
  pub states : AllZip (IsOwnState project) project.links.list standing.commanded
