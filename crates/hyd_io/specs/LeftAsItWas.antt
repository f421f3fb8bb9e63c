-- What a call on a desk leaves as it was.
use Rattle.std.specs.Prelude.{◌≡◌, ◌≢◌, ℕ, Bool, List, Option, Some, is_some}
use Rattle.hyd_io.specs.declared.desk.Faults.{Faults}
use Rattle.hyd_io.specs.declared.desk.Openings.{Openings}
use Rattle.hyd_io.specs.declared.output.Channel.{Channel}
use Rattle.hyd_io.specs.DeskBytes.{Files, file_at}
use Rattle.hyd_io.specs.DeskCounts.{NeverFall}
use Rattle.hyd_io.specs.Output.{OnCert, OnReport}

-- A call that puts something out on a channel leaves what is still to be read, the other channel, the other files and
-- what was opened as they were, and no count falls.
pub record KeepsOthers {S : Type 0} (files : S → Option Files) (rest written printed target : S → Option (List ℕ))
    (ready : S → Bool) (counts : S → Faults) (openings : S → Openings) (to : Channel) (old new : S) : Type 0 where
  pub never_fall : NeverFall (counts old) (counts new)
  pub report_files : OnReport to (files new ≡ files old)
  pub report_written : OnReport to (written new ≡ written old)
  pub cert_printed : OnCert to (printed new ≡ printed old)
  pub others : (other : List ℕ) → target old ≢ Some other → file_at (files new) other ≡ file_at (files old) other
  pub still_told : is_some (files new) ≡ is_some (files old)
  pub rest_stays : rest new ≡ rest old
  pub target_stays : target new ≡ target old
  pub ready_stays : ready new ≡ ready old
  pub openings_stay : openings new ≡ openings old

-- A call that reads leaves all that is written and printed, and what was opened, as it was, and no count falls.
pub record KeepsOutput {S : Type 0} (files : S → Option Files) (written printed target : S → Option (List ℕ))
    (ready : S → Bool) (counts : S → Faults) (openings : S → Openings) (old new : S) : Type 0 where
  pub never_fall : NeverFall (counts old) (counts new)
  pub files_stay : files new ≡ files old
  pub written_stays : written new ≡ written old
  pub printed_stays : printed new ≡ printed old
  pub target_stays : target new ≡ target old
  pub ready_stays : ready new ≡ ready old
  pub openings_stay : openings new ≡ openings old
