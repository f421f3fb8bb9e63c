-- Histories within a spread: in each period anew the data may be any that the spread allows at its start.
-- Source: this program's; the matters are those of EPANET 2.2 User Manual, chapter 3 (extended period simulation).
use Rattle.std.specs.Prelude.{◌≢◌, ℕ, ◌+◌, ℤ, List, [], ◌∷◌, ⊤, ◌≤ℤ◌}
use Rattle.std.specs.List.{AllZip}
use Rattle.hyd_spec.specs.ProgramTypes.{Project}
use Rattle.hyd_spec.specs.Scale.{at_scale}
use Rattle.hyd_spec.specs.PeriodLength.{Period}
use Rattle.hyd_spec.specs.History.{Begins, IsPeriod, AreNextStocks, commanded_after, initial_links}
use Rattle.hyd_spec_certificates.specs.Interval.{Interval}
use Rattle.hyd_spec_spread.specs.Spreads.{Spread}
use Rattle.hyd_spec_spread.specs.IntervalsOfData.{known_levels, known_volumes}
use Rattle.hyd_spec_spread.specs.NetworksWithin.{NodeData, with_data, IsWithin}

-- A number of S-th parts of a tick lies in an interval of ticks.
pub record HoldsParts (S : ℕ) (interval : Interval) (z : ℤ) : Type 0 where
  pub low : at_scale S interval.lo ≤ℤ z
  pub high : z ≤ℤ at_scale S interval.hi

-- The first period begins at time 0, with the links as the file has them, and with levels and volumes that the spread
-- allows.
pub record BeginsWithin (project : Project) (spread : Spread) (S : ℕ) (first : Period) : Type 0 where
  pub levels : AllZip (HoldsParts S) (known_levels project spread) first.levels
  pub volumes : AllZip (HoldsParts S) (known_volumes project spread) first.volumes
  pub begins : Begins project S 0 first.levels first.volumes (initial_links project) first

-- A period of the network with some data, which are within the spread where it begins.
pub record IsPeriodWithin (project : Project) (spread : Spread) (S : ℕ) (period : Period) (nodes : NodeData) : Type 0
  where
    pub within : IsWithin project spread period.time nodes
    pub is_period : IsPeriod (with_data project nodes) S period

-- A period comes after one in which the network had these data: that one isn't the last, and this one begins at its end
-- with the stocks, tank states and link states that it left. Rules were tried on what held in it.
pub record ComesAfterWith (project : Project) (S : ℕ) (nodes : NodeData) (before period : Period) : Type 0 where
  pub not_last : before.time ≢ project.times.duration
  pub stocks : AreNextStocks project S before period.levels period.volumes
  pub begins : Begins project S (before.time + before.length) period.levels period.volumes
      (commanded_after (with_data project nodes) S before) period

-- The periods go on from one, in which the network had these data; each has data of its own.
abbrev pub GoesOnWithin : Project → Spread → ℕ → NodeData → Period → List Period → Type 0
GoesOnWithin project spread S nodes before [] = ⊤
GoesOnWithin project spread S nodes before (period ∷ rest) =
    ComesAfterWith project S nodes before period
    × ((next : NodeData) × (IsPeriodWithin project spread S period next
    × GoesOnWithin project spread S next period rest))

-- A history at scale S of networks within the spread.
abbrev pub IsHistoryWithin : Project → Spread → ℕ → List Period → Type 0
IsHistoryWithin project spread S [] = ⊤
IsHistoryWithin project spread S (first ∷ rest) =
    BeginsWithin project spread S first
    × ((nodes : NodeData) × (IsPeriodWithin project spread S first nodes
    × GoesOnWithin project spread S nodes first rest))
