use Rattle.std.proofs.Common.{◌<◌, ℕ, ℤ, pos, ◌+ℤ◌, ◌*ℤ◌, ◌≤ℤ◌, map}
use Rattle.std.specs.Prelude.{slice_index_or}
use Rattle.hyd_spec_certificates.specs.SpansAsIntervals.{levels_of}
use Rattle.hyd_spec_certificates.specs.Interval.{width}
use Rattle.hyd_spec_certificates.specs.Decided.{nowhere}
use Rattle.hyd_open_sim_start.proofs.narrow_vectors.are_steady.Given as goal

abbrev pub invariant-loop-tank : goal.invariant-loop-tank
invariant-loop-tank l = (k : ℕ) → k < l.tank → (pos 100 *ℤ width (slice_index_or (map levels_of l.after) k nowhere))
    ≤ℤ ((pos 200 *ℤ width (slice_index_or (map levels_of l.before) k nowhere)) +ℤ l.width)
