-- Grids that lie beyond others on a side: what is asked of two grids for a certificate on the one to be one on the
-- other.
-- Source: this program's, after Rheinboldt 1970 (networks with given boundary values).
use Rattle.std.specs.Prelude.{◌≡◌, ℕ, ℤ, ◌≤ℤ◌, List}
use Rattle.std.specs.List.{AllZip}
use Rattle.hyd_spec.specs.Assignment.{head_at}
use Rattle.hyd_spec_certificates.specs.declared.Problem.{Problem}
use Rattle.hyd_spec_certificates.specs.declared.Side.{Side}
use Rattle.hyd_spec_certificates.specs.declared.Side.TheVariants.{Upper, Lower}
use Rattle.hyd_spec_certificates.specs.Interval.{Interval}
use Rattle.hyd_spec_certificates.specs.PeriodNetwork.{Grid, GridJunction, fixed_heads}
use Rattle.hyd_spec_certificates.specs.NetOutflow.{outflow_low, outflow_high}
use Rattle.hyd_spec_spread.specs.Spreads.{IsNarrower}

-- At each head no more flows out of the first junction than out of the second.
pub record TakesNoMore (outer inner : GridJunction) : Type 0 where
  pub takes : (h : ℤ) → outflow_low outer h ≤ℤ outflow_low inner h

-- At each head no less flows out of the first one.
pub record TakesNoLess (outer inner : GridJunction) : Type 0 where
  pub takes : (h : ℤ) → outflow_high inner h ≤ℤ outflow_high outer h

-- With the same links, no junction takes more and no fixed head is lower.
pub record IsAbove (problem : Problem) (outer inner : Grid) : Type 0 where
  pub junctions : AllZip TakesNoMore outer.junctions inner.junctions
  pub links : inner.links ≡ outer.links
  pub fixed : (m : ℕ) → head_at (fixed_heads inner problem Upper) m ≤ℤ head_at (fixed_heads outer problem Upper) m

-- With the same links, no junction takes less and no fixed head is higher.
pub record IsBelow (problem : Problem) (outer inner : Grid) : Type 0 where
  pub junctions : AllZip TakesNoLess outer.junctions inner.junctions
  pub links : inner.links ≡ outer.links
  pub fixed : (m : ℕ) → head_at (fixed_heads outer problem Lower) m ≤ℤ head_at (fixed_heads inner problem Lower) m

-- A grid lies beyond another on a side.
abbrev pub IsBeyondGrid : Side → Problem → Grid → Grid → Type 0
IsBeyondGrid Upper problem outer inner = IsAbove problem outer inner
IsBeyondGrid Lower problem outer inner = IsBelow problem outer inner

-- Each of these intervals lies within the one beside it.
abbrev pub AreNarrower : List Interval → List Interval → Type 0
AreNarrower wide narrow = AllZip (λ (x y : Interval). IsNarrower y x) wide narrow
