-- Curves of pumps and general purpose valves, test by test.
use Rattle.std.specs.Prelude.{◌^◌, Bool, ◌&&◌, List, pos, ◌≤ℤ◌}
use lib.Signed.{le_z}
use Rattle.hyd_spec_input.specs.Curves.{is_head, has_flow, at_start, at_end}
use Rattle.hyd_net.specs.NumberRanges.{flow_limit}
use Rattle.hyd_net.specs.declared.curves.HeadPoint.{HeadPoint}
use Rattle.hyd_curves.specs.declared.points_in_ticks.Ticks.{Ticks}

-- a flow from 0 to the greatest one, a head of at least 0 and no more than a number of a file can make
pub record IsPumpPoint (ticks : Ticks) : Type 0 where
  pub forward : pos 0 ≤ℤ ticks.place
  pub flow : ticks.place ≤ℤ pos flow_limit
  pub lifts : pos 0 ≤ℤ ticks.value
  pub heads : ticks.value ≤ℤ pos (10 ^ 26)

-- the first flow and the last head are at least 0
abbrev pub begins_and_ends : List HeadPoint → Bool
begins_and_ends points =
    at_start (λ point. le_z (pos 0) point.flow) points && at_end (λ point. le_z (pos 0) point.head) points

-- a flow and a loss are in range
abbrev pub loss_passes : HeadPoint → Bool
loss_passes point = has_flow point && is_head point.head
