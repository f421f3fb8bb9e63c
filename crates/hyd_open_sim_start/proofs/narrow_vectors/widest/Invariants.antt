use Rattle.std.proofs.Common.{◌≡◌, ◌-◌, ◌^◌, ℤ, pos, ◌≤ℤ◌, length, map, drop}
use Rattle.hyd_spec_certificates.specs.SpansAsIntervals.{levels_of}
use Rattle.hyd_spec_certificates.specs.Narrow.{widest}
use Rattle.hyd_open_sim_start.proofs.narrow_vectors.widest.Given as goal

abbrev pub invariant-loop-tank : goal.invariant-loop-tank
invariant-loop-tank l = record {
  is : l.widest ≡ widest (drop (length l.levels - l.tank) (map levels_of l.levels));
  most : l.widest ≤ℤ pos (2 ^ 64);
  least : pos 0 ≤ℤ l.widest;
}
