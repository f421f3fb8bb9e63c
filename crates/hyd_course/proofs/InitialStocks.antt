-- The stocks with which the file begins are small.
use Rattle.std.proofs.Common.{◌≡◌, ℕ, ◌^◌, ◌≤◌, refl, sym, subst, arith}
use Rattle.std.specs.Prelude.{Option, Some, None, slice_get, unsigned_abs}
use Rattle.std.proofs.lemmas.Int.{ints}
use Rattle.hyd_net.specs.Sound.{IsSound}
use Rattle.hyd_spec.specs.ProgramTypes.{Project, Tank}
use Rattle.hyd_spec.specs.Tank.{Walls, walls_of, shape_points, kept_volume}
use Rattle.hyd_theorems_on_definitions.proofs.SoundTankLemmas.{IsSoundTank, sound_tank, shape_of}
use Rattle.hyd_tank.proofs.TanksOfSoundNetworks.{walls_without, walls_with}
use Rattle.hyd_course.proofs.VolumesKept.{volume_small}

kept_at : (project : Project) (tank : Tank) (shape : Option ℕ) → tank.shape ≡ shape → IsSoundTank project tank
    → unsigned_abs (kept_volume (walls_of project tank) tank.initial) ≤ 10 ^ 18
kept_at project tank None e is =
    subst (λ (w : Walls). unsigned_abs (kept_volume w tank.initial) ≤ 10 ^ 18) (sym (walls_without project tank e))
    (omega (arith, ints))
kept_at project tank (Some n) e is =
    subst (λ (w : Walls). unsigned_abs (kept_volume w tank.initial) ≤ 10 ^ 18) (sym (walls_with project tank n e))
    (volume_small tank (shape_points project n) tank.initial (shape_of project tank n e is) is.ranges.initial)

-- the volume at a tank's initial level, in ticks
pub kept_small : (project : Project) → IsSound project → (k : ℕ) (tank : Tank)
    → slice_get project.tanks.list k ≡ Some tank
    → unsigned_abs (kept_volume (walls_of project tank) tank.initial) ≤ 10 ^ 18
kept_small project sound k tank at = kept_at project tank tank.shape refl (sound_tank project sound k tank at)

-- that level
pub level_small : (project : Project) → IsSound project → (k : ℕ) (tank : Tank)
    → slice_get project.tanks.list k ≡ Some tank → unsigned_abs tank.initial ≤ 10 ^ 18
level_small project sound k tank at =
    let ranges = (sound_tank project sound k tank at).ranges in
    let lowest = ranges.lowest in
    let bottom = ranges.bottom.at_least in
    let top = ranges.top.at_most in
    let from = ranges.initial.at_least in
    let to = ranges.initial.at_most in
    omega (arith, ints, lowest, bottom, top, from, to)
