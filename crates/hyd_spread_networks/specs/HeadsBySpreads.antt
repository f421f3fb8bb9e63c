-- The heads that reservoirs may have by a spread.
use Rattle.std.specs.Prelude.{ℕ, ◌^◌, ℤ, ◌+ℤ◌, ◌*ℤ◌, All, Option, Some, None}
use Rattle.hyd_net.specs.NumberRanges.{IsHead}
use Rattle.hyd_spec.specs.ProgramTypes.{Project, Reservoir}
use Rattle.hyd_spec.specs.WholeNumbers.{cut}
use Rattle.hyd_spec.specs.DemandsHeadsAndPumpLifts.{multipliers_of}
use Rattle.hyd_spec_certificates.specs.Interval.{Interval}
use Rattle.hyd_spec_spread.specs.Spreads.{Spread, head_offsets}

-- a head stays in range, however far off it is by the offsets
pub record StaysHead (offsets : Interval) (head : ℤ) : Type 0 where
  pub least : IsHead (head +ℤ offsets.lo)
  pub greatest : IsHead (head +ℤ offsets.hi)

-- so does a base head times each multiplier of its pattern, or as it is where it has none
abbrev pub AllStayBy : Project → Interval → ℤ → Option ℕ → Type 0
AllStayBy project offsets head None = StaysHead offsets head
AllStayBy project offsets head (Some pattern) =
    All (λ multiplier. StaysHead offsets (cut (head *ℤ multiplier) (10 ^ 9))) (multipliers_of project pattern)

-- so does each head of a reservoir
abbrev pub AllStay : Project → Interval → Reservoir → Type 0
AllStay project offsets reservoir = AllStayBy project offsets reservoir.head reservoir.pattern

abbrev pub HeadsStay : Project → Spread → ℕ → Reservoir → Type 0
HeadsStay project spread r reservoir = AllStay project (head_offsets spread r) reservoir
