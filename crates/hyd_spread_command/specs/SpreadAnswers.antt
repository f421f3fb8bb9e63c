-- What the answers of the command `run` mean for the spread of a text.
-- Source: this program's.
use Rattle.std.specs.Prelude.{◌≡◌, ℕ, ◌⊎◌, List, ⊤, MatchOption}
use Rattle.hyd_io.specs.DeskBytes.{where_told, append_known, file_at}
use Rattle.hyd_spec.specs.ProgramTypes.{Project}
use Rattle.hyd_spec_reports.specs.PromisesOfRunsAndChecks.{Outcome, outcome_number}
use Rattle.hyd_spec_spread_promises.specs.PromisesOfSpreadRuns.{RunTellsOver, RunBreaksOffOver}
use Rattle.hyd_spread_run_so_far.specs.SpreadRunSoFar.{Asked, EndNamesOver, EndsInOrderOver}
use Rattle.hyd_command_answers.specs.Statuses.{number_of}
use Rattle.hyd_command_answers.specs.declared.status.Status.{Status}
use Rattle.hyd_command_answers.specs.declared.status.Status.TheVariants.{Done, OutOfMemory, ReadFault, WriteFault}
use Rattle.hyd_command_answers.specs.declared.status.Status.TheVariants.{InputRefused, Undecided, RoundsSpent, Demand}
use Rattle.hyd_command_answers.specs.declared.status.Status.TheVariants.{Stalled, Usage}
use Rattle.hyd_command_answers.specs.FaultsAndRefusals.{PrintsRefusal}
use Rattle.hyd_command_answers.specs.DeskContents.{Seen, IsUntouched}
use Rattle.hyd_spread_files.specs.RefusedSpreads.{GivesRun, RefusesSpread, PrintsSpreadRefusal}

-- ---- a network that is run

-- The certificate of a run for the spread was written to the file created in this call, where files are told, its
-- report was printed, and every history within the spread that keeps what the run reaches agrees with them and has what
-- each line claims; the status says how the run ended. Where it stopped since no vector is a certificate, the junction
-- that is named has no value at heads that were reached. The file of the name CERT holds what was written.
pub record DeliveredOver (project : Project) (asked : Asked) (cert : List ℕ) (status : Status) (before now : Seen) :
    Type 0 where
  pub outcome : Outcome
  pub certificate : List ℕ
  pub report : List ℕ
  pub run : RunTellsOver project asked.spread asked.slack asked.rounds asked.sharpness outcome certificate report
  pub names_junction : EndNamesOver project asked.spread run.left.known asked.rounds outcome
  pub status_is : number_of status ≡ outcome_number outcome
  pub written : now.written ≡ where_told before.files certificate
  pub printed : now.printed ≡ append_known before.printed report
  pub held : file_at now.files cert ≡ now.written

-- A fault broke such a run off: what was written to the file created in this call, where files are told, and what was
-- printed are fronts of the certificate and of the report of the run as far as it went, and every history within the
-- spread that keeps what it reaches agrees with it. Of the last line of the report nothing was printed unless all of
-- the certificate was written. The file of the name CERT holds what was written.
pub record CutShortOver (project : Project) (asked : Asked) (cert : List ℕ) (before now : Seen) : Type 0 where
  pub certificate : List ℕ
  pub report : List ℕ
  pub run : RunBreaksOffOver project asked.spread asked.slack asked.rounds asked.sharpness certificate report
  pub names_junction : MatchOption run.last ⊤ (EndNamesOver project asked.spread run.left.known asked.rounds)
  pub in_order : EndsInOrderOver project asked.spread run.reports run.left run.last certificate report
  pub written : now.written ≡ where_told before.files certificate
  pub printed : now.printed ≡ append_known before.printed report
  pub held : file_at now.files cert ≡ now.written

-- What an answer says of a network that is run. Where its file couldn't be created, all is as it was.
abbrev pub AnswersRunOver : Project → Asked → List ℕ → Status → Seen → Seen → Type 0
AnswersRunOver project asked cert Done before now = DeliveredOver project asked cert Done before now
AnswersRunOver project asked cert Undecided before now = DeliveredOver project asked cert Undecided before now
AnswersRunOver project asked cert RoundsSpent before now = DeliveredOver project asked cert RoundsSpent before now
AnswersRunOver project asked cert Demand before now = DeliveredOver project asked cert Demand before now
AnswersRunOver project asked cert OutOfMemory before now = IsUntouched before now
AnswersRunOver project asked cert WriteFault before now =
    IsUntouched before now ⊎ CutShortOver project asked cert before now
AnswersRunOver project asked cert Stalled before now =
    IsUntouched before now ⊎ CutShortOver project asked cert before now
AnswersRunOver project asked cert status before now = ⊥

-- ---- the text of a spread

-- What an answer says of the text of a spread, for which a network is run: it has a fault, and is refused with it; or
-- it gives a run, which was done or broken off; or memory ran out before anything was created or printed.
pub data AnswersWithin (project : Project) (text : List ℕ) (asked : Asked) (cert : List ℕ) (status : Status)
    (before now : Seen) : Type 0 where
  refuses : RefusesSpread project text status before now
      → AnswersWithin project text asked cert status before now
  runs : GivesRun project text → AnswersRunOver project asked cert status before now
      → AnswersWithin project text asked cert status before now
  lacks_memory : status ≡ OutOfMemory → IsUntouched before now
      → AnswersWithin project text asked cert status before now

-- What the answer leaves of a network, also where the desk tells no text of the spread: want of memory and a fault of
-- reading leave all untouched; a refusal of the spread prints its one line and creates nothing.
abbrev pub LeavesRunOver : Status → Seen → Seen → Type 0
LeavesRunOver OutOfMemory before now = IsUntouched before now
LeavesRunOver ReadFault before now = IsUntouched before now
LeavesRunOver InputRefused before now = PrintsSpreadRefusal before now
LeavesRunOver Usage before now = ⊥
LeavesRunOver status before now = ⊤

-- What the answer leaves, also where the desk tells no text of NET or of the spread: want of memory and a fault of
-- reading leave all untouched; a refusal prints its one line and creates nothing.
abbrev pub LeavesOver : Status → Seen → Seen → Type 0
LeavesOver OutOfMemory before now = IsUntouched before now
LeavesOver ReadFault before now = IsUntouched before now
LeavesOver InputRefused before now = PrintsRefusal before now ⊎ PrintsSpreadRefusal before now
LeavesOver Usage before now = ⊥
LeavesOver status before now = ⊤
