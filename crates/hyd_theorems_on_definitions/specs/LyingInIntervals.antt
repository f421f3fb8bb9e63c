-- Where levels, heads and stocks lie: in intervals, between others, inside others, and the assignments of a period
-- whose levels lie so.
use Rattle.std.specs.Prelude.{Some, ℕ, ◌<◌, ◌≤◌, ℤ, ◌≤ℤ◌, List}
use Rattle.std.specs.Prelude.{◌*ℤ◌, pos}
use Rattle.std.specs.List.{AllZip}
use Rattle.hyd_num.specs.Rational.{Rational}
use Rattle.hyd_spec.specs.ProgramTypes.{Project, LinkState}
use Rattle.hyd_spec_certificates.specs.Interval.{Interval}
use Rattle.hyd_spec.specs.Tank.{Stock, Bounds}
use Rattle.hyd_spec_certificates.specs.Stocks.{Stocks}
use Rattle.hyd_spec_certificates.specs.PeriodNetwork.{Grid, IsGrid}
use Rattle.hyd_spec.specs.Assignment.{Assignment, IsAssignment, head_at}
use Rattle.hyd_spec.specs.AssignmentWithDraw.{IsAssignmentDrawing}
use Rattle.hyd_spec.specs.declared.TankState.{TankState}
use Rattle.hyd_spec.specs.Scale.{at_scale}
use Rattle.hyd_theorems_on_definitions.specs.SoundLawsAndGrids.{IsSoundGrid}

-- ---- grids

-- A number of S-th parts of a tick lies in an interval of ticks.
pub record LiesIn (S : ℕ) (interval : Interval) (z : ℤ) : Type 0 where
  pub low : at_scale S interval.lo ≤ℤ z
  pub high : z ≤ℤ at_scale S interval.hi

-- Each tank's level lies in its interval.
abbrev pub LevelsLie : ℕ → List Interval → List ℤ → Type 0
LevelsLie S intervals levels = AllZip (LiesIn S) intervals levels

-- An assignment of a period, and the grid of that period: the laws are sound, and each tank's level lies in its
-- interval.
pub record IsCompared (project : Project) (S time : ℕ) (intervals : List Interval) (levels : List ℤ)
    (tanks : List TankState)
    (links : List LinkState) (assignment : Assignment) (grid : Grid) : Type 0 where
  pub some : 0 < S
  pub is_grid : IsGrid project time intervals tanks links grid
  pub sound : IsSoundGrid grid
  pub lie : LevelsLie S intervals levels
  pub assigned : IsAssignment project S time levels tanks links assignment

-- The same of an assignment in which q S-th parts of a flow tick are drawn at junction number `place` besides.
pub record IsComparedDrawing (project : Project) (S time : ℕ) (intervals : List Interval) (levels : List ℤ)
    (tanks : List TankState) (links : List LinkState) (place : ℕ) (q : ℤ) (assignment : Assignment)
    (grid : Grid) : Type 0 where
  pub some : 0 < S
  pub is_grid : IsGrid project time intervals tanks links grid
  pub sound : IsSoundGrid grid
  pub lie : LevelsLie S intervals levels
  pub assigned : IsAssignmentDrawing project S time levels tanks links place q assignment

-- At each node a head of the third list, in S-th parts of a tick, lies between those of the others.
abbrev pub LieBetween : ℕ → List ℤ → List ℤ → List ℤ → Type 0
LieBetween S below above heads =
    (m : ℕ) → LiesIn S (record { lo = head_at below m; hi = head_at above m }) (head_at heads m)

-- ---- tanks

-- A stock, in S-th parts of ticks, lies in an interval of stocks.
pub record StockLies (S : ℕ) (stocks : Stocks) (stock : Stock) : Type 0 where
  pub level : LiesIn S stocks.level stock.level
  pub volume : LiesIn S stocks.volume stock.volume

-- An exact value, in S-th parts of a tick, lies in an interval of ticks.
pub record LiesAround (S : ℕ) (interval : Interval) (x : Rational) : Type 0 where
  pub some : 0 < x.den
  pub low : (pos x.den *ℤ at_scale S interval.lo) ≤ℤ x.num
  pub high : x.num ≤ℤ (pos x.den *ℤ at_scale S interval.hi)

-- A value in ticks, as a value in S-th parts.
abbrev pub in_parts : ℕ → Rational → Rational
in_parts S x = record { num = at_scale S x.num; den = x.den }

-- An interval lies inside another.
pub record IsInside (x y : Interval) : Type 0 where
  pub low : y.lo ≤ℤ x.lo
  pub high : x.hi ≤ℤ y.hi

-- Stocks lie inside others.
pub record AreInside (x y : Stocks) : Type 0 where
  pub level : IsInside x.level y.level
  pub volume : IsInside x.volume y.volume

-- Both ends of an interval lie within bounds.
pub record IsWithin (bounds : Bounds) (x : Interval) : Type 0 where
  pub lo_above : bounds.least ≤ℤ x.lo
  pub lo_below : x.lo ≤ℤ bounds.most
  pub hi_above : bounds.least ≤ℤ x.hi
  pub hi_below : x.hi ≤ℤ bounds.most

-- Some stock lies between the ends.
pub record HasStock (stocks : Stocks) : Type 0 where
  pub level : stocks.level.lo ≤ℤ stocks.level.hi
  pub volume : stocks.volume.lo ≤ℤ stocks.volume.hi
