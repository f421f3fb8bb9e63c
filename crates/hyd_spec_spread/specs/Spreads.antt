-- Spreads: how far the data of single nodes may lie from those of the file. A factor is in nano; an offset of a head
-- and a level are in head ticks.
-- Source: this program's, with intervals as in Moore 1966 (Interval Analysis).
use Rattle.std.specs.Prelude.{ℕ, ◌^◌, ◌≤◌, ℤ, pos, ◌≤ℤ◌, List, [], slice_index_or}
use Rattle.hyd_spec.specs.ProgramTypes.{Project, Tank}
use Rattle.hyd_spec.specs.Lists.{Each}
use Rattle.hyd_spec_certificates.specs.Interval.{Interval, exactly}

-- ---- what a spread says

-- The factors from one to another, by which a datum may be multiplied.
pub record Factors : Type 0 where
  pub least : ℕ
  pub greatest : ℕ

-- The factor 1 alone.
abbrev pub one_alone : Factors
one_alone = record { least = 10 ^ 9; greatest = 10 ^ 9 }

-- For each junction the factors of its demand, and those of its emitter's coefficient where it has one; for each
-- reservoir by how much its head may lie off; for each tank the interval of its initial level.
pub record Spread : Type 0 where
  pub demands : List Factors
  pub emitters : List Factors
  pub heads : List Interval
  pub levels : List Interval

-- A spread that says nothing of a node leaves its datum as the file has it.
abbrev pub no_spread : Spread
no_spread = record { demands = []; emitters = []; heads = []; levels = [] }

-- The factors of the demand of a junction.
abbrev pub demand_factors : Spread → ℕ → Factors
demand_factors spread junction = slice_index_or spread.demands junction one_alone

-- Those of its emitter's coefficient.
abbrev pub emitter_factors : Spread → ℕ → Factors
emitter_factors spread junction = slice_index_or spread.emitters junction one_alone

-- By how much the head of a reservoir may lie off.
abbrev pub head_offsets : Spread → ℕ → Interval
head_offsets spread reservoir = slice_index_or spread.heads reservoir (exactly (pos 0))

-- The interval of the initial level of tank number k.
abbrev pub level_interval : Spread → ℕ → Tank → Interval
level_interval spread k tank = slice_index_or spread.levels k (exactly tank.initial)

-- ---- which spreads there are

-- A number lies in an interval.
pub record Holds (interval : Interval) (z : ℤ) : Type 0 where
  pub low : interval.lo ≤ℤ z
  pub high : z ≤ℤ interval.hi

-- An interval lies within another.
pub record IsNarrower (inner outer : Interval) : Type 0 where
  pub low : outer.lo ≤ℤ inner.lo
  pub high : inner.hi ≤ℤ outer.hi

-- The factor 1 is among them.
pub record IsAroundOne (factors : Factors) : Type 0 where
  pub least : factors.least ≤ 10 ^ 9
  pub greatest : 10 ^ 9 ≤ factors.greatest

-- The interval of an initial level: within the bounds of the tank, and the file's own level is in it.
pub record IsLevelInterval (tank : Tank) (interval : Interval) : Type 0 where
  pub above_least : tank.minimum ≤ℤ interval.lo
  pub own : Holds interval tank.initial
  pub below_most : interval.hi ≤ℤ tank.maximum

-- A spread of a network: whatever it leaves open, the file's own datum is among what it allows.
pub record IsSpread (project : Project) (spread : Spread) : Type 0 where
  pub demands : (j : ℕ) → IsAroundOne (demand_factors spread j)
  pub emitters : (j : ℕ) → IsAroundOne (emitter_factors spread j)
  pub heads : (r : ℕ) → Holds (head_offsets spread r) (pos 0)
  pub levels : Each project.tanks.list (λ k tank. IsLevelInterval tank (level_interval spread k tank))

-- ---- spreads inside others

-- Each of these factors is among those.
pub record AreAmong (inner outer : Factors) : Type 0 where
  pub least : outer.least ≤ inner.least
  pub greatest : inner.greatest ≤ outer.greatest

-- A spread lies inside another: it leaves no datum of the network further open.
pub record IsInside (project : Project) (inner outer : Spread) : Type 0 where
  pub demands : (j : ℕ) → AreAmong (demand_factors inner j) (demand_factors outer j)
  pub emitters : (j : ℕ) → AreAmong (emitter_factors inner j) (emitter_factors outer j)
  pub heads : (r : ℕ) → IsNarrower (head_offsets inner r) (head_offsets outer r)
  pub levels : Each project.tanks.list (λ k tank. IsNarrower (level_interval inner k tank)
      (level_interval outer k tank))
