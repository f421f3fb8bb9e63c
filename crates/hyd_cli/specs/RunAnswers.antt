-- What the answers of the command `run` mean.
-- Source: this program's.
use Rattle.std.specs.Prelude.{◌≡◌, ℕ, ◌⊎◌, List, ⊤, MatchOption}
use Rattle.hyd_io.specs.DeskBytes.{where_told, append_known, file_at}
use Rattle.hyd_spec.specs.ProgramTypes.{Project}
use Rattle.hyd_spec_reports.specs.PromisesOfRunsAndChecks.{Outcome, RunWrites, RunBreaksOff, outcome_number}
use Rattle.hyd_run.specs.Runs.{sharpness_of, EndNames, EndsInOrder}
use Rattle.hyd_open_command.specs.OpenAnswers.{Asked}
use Rattle.hyd_sim.specs.declared.settings.Settings.{Settings}
use Rattle.hyd_command_words.specs.CommandGrammar.{RunOrder}
use Rattle.hyd_command_answers.specs.Statuses.{number_of}
use Rattle.hyd_command_answers.specs.declared.status.Status.{Status}
use Rattle.hyd_command_answers.specs.declared.status.Status.TheVariants.{Done, OutOfMemory, ReadFault, WriteFault}
use Rattle.hyd_command_answers.specs.declared.status.Status.TheVariants.{Undecided, RoundsSpent, Demand}
use Rattle.hyd_command_answers.specs.declared.status.Status.TheVariants.{Stalled}
use Rattle.hyd_command_answers.specs.DeskContents.{Seen, IsUntouched}
use Rattle.hyd_command_answers.specs.FaultsAndRefusals.{OfNetwork}

-- What an order asks a run for.
abbrev pub settings_of : RunOrder → Settings
settings_of order = record { rounds = order.rounds; width = order.width; tight = order.tight }

-- What an order asks a run for whose ends of periods may be open.
abbrev pub asked_for : RunOrder → Asked
asked_for order =
    record { slack = order.slack; rounds = order.rounds; sharpness = sharpness_of (settings_of order) }

-- The certificate of a run of the network was written to the file created in this call, where files are told, its
-- report was printed, and every history agrees with them; the status says how the run ended. Where it stopped since no
-- vector is a certificate, the junction that is named has no value at heads that were reached. The file of the name
-- CERT holds what was written.
pub record Delivered (project : Project) (settings : Settings) (cert : List ℕ) (status : Status) (before now : Seen) :
    Type 0 where
  pub outcome : Outcome
  pub certificate : List ℕ
  pub report : List ℕ
  pub run : RunWrites project settings.rounds (sharpness_of settings) outcome certificate report
  pub names_junction : EndNames project run.left settings.rounds outcome
  pub status_is : number_of status ≡ outcome_number outcome
  pub written : now.written ≡ where_told before.files certificate
  pub printed : now.printed ≡ append_known before.printed report
  pub held : file_at now.files cert ≡ now.written

-- A fault broke a run of the network off: what was written to the file created in this call, where files are told, and
-- what was printed are fronts of the certificate and of the report of the run as far as it went, and every history
-- agrees with it. Of the last line of the report nothing was printed unless all of the certificate was written. The file
-- of the name CERT holds what was written.
pub record CutShort (project : Project) (settings : Settings) (cert : List ℕ) (before now : Seen) : Type 0 where
  pub certificate : List ℕ
  pub report : List ℕ
  pub run : RunBreaksOff project settings.rounds (sharpness_of settings) certificate report
  pub names_junction : MatchOption run.last ⊤ (EndNames project run.left settings.rounds)
  pub in_order : EndsInOrder project run.founds run.left run.last certificate report
  pub written : now.written ≡ where_told before.files certificate
  pub printed : now.printed ≡ append_known before.printed report
  pub held : file_at now.files cert ≡ now.written

-- What an answer says of a network that is run. Where its file couldn't be created, all is as it was.
abbrev pub AnswersRun : Project → Settings → List ℕ → Status → Seen → Seen → Type 0
AnswersRun project settings cert Done before now = Delivered project settings cert Done before now
AnswersRun project settings cert Undecided before now = Delivered project settings cert Undecided before now
AnswersRun project settings cert RoundsSpent before now = Delivered project settings cert RoundsSpent before now
AnswersRun project settings cert Demand before now = Delivered project settings cert Demand before now
AnswersRun project settings cert OutOfMemory before now = IsUntouched before now
AnswersRun project settings cert WriteFault before now = IsUntouched before now ⊎ CutShort project settings cert before
    now
AnswersRun project settings cert Stalled before now = IsUntouched before now ⊎ CutShort project settings cert before now
AnswersRun project settings cert status before now = ⊥

-- What an answer says of a text without a fault: want of memory and a fault of reading leave all untouched.
abbrev pub AnswersText : List ℕ → Settings → List ℕ → Status → Seen → Seen → Type 0
AnswersText text settings cert OutOfMemory before now = IsUntouched before now
AnswersText text settings cert ReadFault before now = IsUntouched before now
AnswersText text settings cert status before now = OfNetwork text (λ project. AnswersRun project settings cert status
    before now)
