-- That CERT holds what a run wrote.
-- Source: this program's.
use Rattle.std.specs.Prelude.{◌≡◌, ◌⊎◌, ℕ, List, ⊤}
use Rattle.hyd_io.specs.DeskBytes.{file_at}
use Rattle.hyd_command_answers.specs.DeskContents.{Seen, FilesStay}
use Rattle.hyd_command_answers.specs.declared.status.Status.{Status}
use Rattle.hyd_command_answers.specs.declared.status.Status.TheVariants.{Done, WriteFault, Undecided, RoundsSpent, Demand}
use Rattle.hyd_command_answers.specs.declared.status.Status.TheVariants.{Stalled}

-- The file of the name CERT holds what was written, at the end of a run and, where any file isn't as it was, after a
-- fault.
abbrev pub Holds : Status → List ℕ → Seen → Seen → Type 0
Holds Done cert before now = file_at now.files cert ≡ now.written
Holds Undecided cert before now = file_at now.files cert ≡ now.written
Holds RoundsSpent cert before now = file_at now.files cert ≡ now.written
Holds Demand cert before now = file_at now.files cert ≡ now.written
Holds WriteFault cert before now = FilesStay before now ⊎ (file_at now.files cert ≡ now.written)
Holds Stalled cert before now = FilesStay before now ⊎ (file_at now.files cert ≡ now.written)
Holds status cert before now = ⊤
