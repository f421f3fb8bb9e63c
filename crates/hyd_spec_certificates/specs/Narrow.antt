-- Narrow records: how wide the intervals of a period may be for its vectors to be taken as they are.
-- Source: this program's.
use Rattle.std.specs.Prelude.{ℤ, pos, ◌+ℤ◌, ◌-ℤ◌, ◌*ℤ◌, ◌≤ℤ◌, List, [], ◌∷◌}
use Rattle.std.specs.Int.{int_max}
use Rattle.hyd_spec.specs.Lists.{Each}
use Rattle.hyd_spec_certificates.specs.Interval.{Interval, width}
use Rattle.hyd_spec.specs.Assignment.{head_at}
use Rattle.hyd_spec_certificates.specs.RecordAndStanding.{Record, Standing}
use Rattle.hyd_spec_certificates.specs.Decided.{level_of_tank}

-- The width of the widest of some intervals.
abbrev pub widest : List Interval → ℤ
widest [] = pos 0
widest (x ∷ rest) = int_max (width x) (widest rest)

-- For a width W in head ticks: every head interval is at most W wider than the widest level interval at the start, and
-- every level interval at the end is at most twice as wide as at the start, plus a hundredth of W.
pub record IsNarrow (W : ℤ) (standing : Standing) (row : Record) (next : Standing) : Type 0 where
  pub heads : Each row.main.upper (λ j upper. (upper -ℤ head_at row.main.lower j) ≤ℤ (W +ℤ widest standing.levels))
  pub levels : Each next.levels (λ k level.
      (pos 100 *ℤ width level) ≤ℤ ((pos 200 *ℤ width (level_of_tank standing k)) +ℤ W))
