-- The village's standings and records as those of a run with a slack.
use Rattle.std.specs.Prelude.{ℕ}
use Rattle.hyd_spec_certificates.specs.RecordAndStanding.{Record, Standing}
use Rattle.hyd_spec_open_ends.specs.OpenStandings.{OpenStanding, OpenRecord}

-- A standing whose start is open by so many seconds.
abbrev pub since : Standing → ℕ → OpenStanding
since known late = record { known = known; late = late }

-- A record that says so, and its shortest length.
abbrev pub opens : Record → ℕ → ℕ → OpenRecord
opens row late shortest = record { row = row; late = late; shortest = shortest }
