-- Both sides at once: heads read in the direction of a side.
use Rattle.std.specs.Prelude.{ℤ, pos, neg_ℤ}
use Rattle.hyd_spec_certificates.specs.declared.Side.{Side}
use Rattle.hyd_spec_certificates.specs.declared.Side.TheVariants.{Upper, Lower}
use Rattle.hyd_spec_certificates.specs.Certificate.{box_limit}

-- A head as a number that grows in the direction of a side: the farther out, the greater.
abbrev pub along : Side → ℤ → ℤ
along Upper x = x
along Lower x = neg_ℤ x

-- The head at the near end of the box: the floor for UPPER, the ceiling for LOWER.
abbrev pub near_end : Side → ℤ
near_end Upper = neg_ℤ (pos box_limit)
near_end Lower = pos box_limit
