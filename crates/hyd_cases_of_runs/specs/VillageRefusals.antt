-- Records of the village with one head changed.
use Rattle.std.specs.Prelude.{pos, [], ◌∷◌}
use Rattle.hyd_spec_certificates.specs.RecordAndStanding.{Record}
use Rattle.hyd_cases_of_runs.specs.VillageRun.{row_0}

-- The UPPER head of the first junction is one tick lower.
abbrev pub low_row : Record
low_row = record row_0 { main = record row_0.main { upper = pos 999999997757518 ∷ pos 619999999750836 ∷ [] } }

-- The UPPER head of the second junction is one tick above the box.
abbrev pub far_row : Record
far_row = record row_0 { main = record row_0.main { upper = pos 999999997757518 ∷ pos 1000000000000000001 ∷ [] } }
