-- What the answers of the command `run` mean where ends of periods may be open by some seconds.
-- Source: this program's.
use Rattle.std.specs.Prelude.{◌≡◌, ℕ, ◌⊎◌, List, ⊤, MatchOption}
use Rattle.hyd_io.specs.DeskBytes.{where_told, append_known, file_at}
use Rattle.hyd_spec.specs.ProgramTypes.{Project}
use Rattle.hyd_spec_reports.specs.PromisesOfRunsAndChecks.{Outcome, outcome_number}
use Rattle.hyd_spec_open_reports.specs.PromisesOfOpenReports.{RunTellsOpenly}
use Rattle.hyd_spec_open_checks.specs.OpenRunsBrokenOff.{RunBreaksOffOpenly}
use Rattle.hyd_run.specs.Runs.{EndNames}
use Rattle.hyd_open_run.specs.PeriodsOfOpenRuns.{EndsInOrderOpenly}
pub use Rattle.hyd_open_run.specs.PeriodsOfOpenRuns.{Asked, asked_of}
use Rattle.hyd_command_answers.specs.Statuses.{number_of}
use Rattle.hyd_command_answers.specs.declared.status.Status.{Status}
use Rattle.hyd_command_answers.specs.declared.status.Status.TheVariants.{Done, OutOfMemory, ReadFault, WriteFault}
use Rattle.hyd_command_answers.specs.declared.status.Status.TheVariants.{InputRefused, Undecided, RoundsSpent, Demand}
use Rattle.hyd_command_answers.specs.declared.status.Status.TheVariants.{Stalled, Usage}
use Rattle.hyd_command_answers.specs.DeskContents.{Seen, IsUntouched}
use Rattle.hyd_command_answers.specs.FaultsAndRefusals.{OfNetwork, PrintsRefusal}

-- ---- a network that is run

-- The certificate of a run of the network with the slack was written to the file created in this call, where files are
-- told, its report was printed, and every history that keeps what it reaches agrees with them and has what each line
-- claims; the status says how the run ended. Where it stopped since no vector is a certificate, the junction that is
-- named has no value at heads that were reached. The file of the name CERT holds what was written.
pub record DeliveredOpenly (project : Project) (asked : Asked) (cert : List ℕ) (status : Status) (before now : Seen) :
    Type 0 where
  pub outcome : Outcome
  pub certificate : List ℕ
  pub report : List ℕ
  pub run : RunTellsOpenly project asked.slack asked.rounds asked.sharpness outcome certificate report
  pub names_junction : EndNames project run.left.known asked.rounds outcome
  pub status_is : number_of status ≡ outcome_number outcome
  pub written : now.written ≡ where_told before.files certificate
  pub printed : now.printed ≡ append_known before.printed report
  pub held : file_at now.files cert ≡ now.written

-- A fault broke such a run off: what was written to the file created in this call, where files are told, and what was
-- printed are fronts of the certificate and of the report of the run as far as it went, and every history that keeps
-- what it reaches agrees with it. Of the last line of the report nothing was printed unless all of the certificate was
-- written. The file of the name CERT holds what was written.
pub record CutShortOpenly (project : Project) (asked : Asked) (cert : List ℕ) (before now : Seen) : Type 0 where
  pub certificate : List ℕ
  pub report : List ℕ
  pub run : RunBreaksOffOpenly project asked.slack asked.rounds asked.sharpness certificate report
  pub names_junction : MatchOption run.last ⊤ (EndNames project run.left.known asked.rounds)
  pub in_order : EndsInOrderOpenly project run.reports run.left run.last certificate report
  pub written : now.written ≡ where_told before.files certificate
  pub printed : now.printed ≡ append_known before.printed report
  pub held : file_at now.files cert ≡ now.written

-- What an answer says of a network that is run with the slack. Where its file couldn't be created, all is as it was.
abbrev pub AnswersRunOpenly : Project → Asked → List ℕ → Status → Seen → Seen → Type 0
AnswersRunOpenly project asked cert Done before now = DeliveredOpenly project asked cert Done before now
AnswersRunOpenly project asked cert Undecided before now = DeliveredOpenly project asked cert Undecided before now
AnswersRunOpenly project asked cert RoundsSpent before now = DeliveredOpenly project asked cert RoundsSpent before now
AnswersRunOpenly project asked cert Demand before now = DeliveredOpenly project asked cert Demand before now
AnswersRunOpenly project asked cert OutOfMemory before now = IsUntouched before now
AnswersRunOpenly project asked cert WriteFault before now =
    IsUntouched before now ⊎ CutShortOpenly project asked cert before now
AnswersRunOpenly project asked cert Stalled before now =
    IsUntouched before now ⊎ CutShortOpenly project asked cert before now
AnswersRunOpenly project asked cert status before now = ⊥

-- ---- a text

-- What an answer says of a text without a fault: want of memory and a fault of reading leave all untouched.
abbrev pub AnswersTextOpenly : List ℕ → Asked → List ℕ → Status → Seen → Seen → Type 0
AnswersTextOpenly text asked cert OutOfMemory before now = IsUntouched before now
AnswersTextOpenly text asked cert ReadFault before now = IsUntouched before now
AnswersTextOpenly text asked cert status before now =
    OfNetwork text (λ project. AnswersRunOpenly project asked cert status before now)

-- What the answer leaves, also where the desk tells no text: want of memory and a fault of reading leave all untouched;
-- a refusal prints its one line and creates nothing.
abbrev pub LeavesOpenly : Status → Seen → Seen → Type 0
LeavesOpenly OutOfMemory before now = IsUntouched before now
LeavesOpenly ReadFault before now = IsUntouched before now
LeavesOpenly InputRefused before now = PrintsRefusal before now
LeavesOpenly Usage before now = ⊥
LeavesOpenly status before now = ⊤
