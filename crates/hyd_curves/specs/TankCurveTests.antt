-- Volume curves, test by test.
use Rattle.std.specs.Prelude.{◌≡◌, Bool, true, ◌&&◌, List, pos}
use lib.Signed.{le_z}
use Rattle.hyd_spec_input.specs.Curves.{is_head, is_fuller, at_start, at_end}
use Rattle.hyd_net.specs.NumberRanges.{volume_limit}
use Rattle.hyd_net.specs.declared.curves.VolumePoint.{VolumePoint}
use Rattle.hyd_curves.specs.EachWithNext.{all_in_turn}

-- a level is in range
abbrev pub level_passes : VolumePoint → Bool
level_passes point = is_head point.level

-- the first volume is at least 0, and the last at most the limit of volumes
abbrev pub begins_and_ends : List VolumePoint → Bool
begins_and_ends points =
    at_start (λ point. le_z (pos 0) point.volume) points
    && at_end (λ point. le_z point.volume (pos volume_limit)) points

-- levels in range, levels and volumes that rise, volumes in range
pub record IsRight (points : List VolumePoint) : Type 0 where
  pub rises : all_in_turn level_passes is_fuller points ≡ true
  pub volumes : begins_and_ends points ≡ true
