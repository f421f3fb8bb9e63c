-- What the answers of the command `run` mean where it is asked for the flows of links by their names.
-- Source: this program's.
use Rattle.std.specs.Prelude.{◌≡◌, ℕ, suc, ◌⊎◌, List, ⊤, MatchOption, Some, slice_get}
use Rattle.hyd_io.specs.DeskBytes.{where_told, append_known, file_at}
use Rattle.hyd_spec.specs.ProgramTypes.{Project}
use Rattle.hyd_spec_reports.specs.PromisesOfRunsAndChecks.{Outcome, outcome_number}
use Rattle.hyd_spec_reports_with_flows.specs.PromisesWithFlows.{RunWritesNaming, RunNamingBreaksOff}
use Rattle.hyd_spec_named_links.specs.NamedLinks.{AreLinksOf, MayBeNamed}
use Rattle.hyd_spec_named_links.specs.RefusedNames.{IsRefusedAt, refused_name_line}
use Rattle.hyd_spec_named_links.specs.declared.NameFails.{NameFails}
use Rattle.hyd_run.specs.Runs.{sharpness_of, EndNames}
use Rattle.hyd_run_naming_flows.specs.NamingRuns.{EndsInOrderNaming}
use Rattle.hyd_sim.specs.declared.settings.Settings.{Settings}
use Rattle.hyd_command_answers.specs.Statuses.{number_of}
use Rattle.hyd_command_answers.specs.declared.status.Status.{Status}
use Rattle.hyd_command_answers.specs.declared.status.Status.TheVariants.{Done, OutOfMemory, ReadFault, WriteFault}
use Rattle.hyd_command_answers.specs.declared.status.Status.TheVariants.{InputRefused, Undecided, RoundsSpent, Demand}
use Rattle.hyd_command_answers.specs.declared.status.Status.TheVariants.{Stalled, Usage}
use Rattle.hyd_command_answers.specs.DeskContents.{Seen, IsUntouched, OnlyPrinted, OnlyPrintedFront}
use Rattle.hyd_command_answers.specs.FaultsAndRefusals.{OfNetwork, PrintsRefusal}

-- ---- a network that is run

-- The certificate of a run of the network with the flows of these links was written to the file created in this call,
-- where files are told, its report with their FLOW lines was printed, and every history agrees with them; the status
-- says how the run ended. Where it stopped since no vector is a certificate, the junction that is named has no value at
-- heads that were reached. The file of the name CERT holds what was written.
pub record DeliveredNaming (project : Project) (named : List ℕ) (settings : Settings) (cert : List ℕ) (status : Status)
    (before now : Seen) : Type 0 where
  pub outcome : Outcome
  pub certificate : List ℕ
  pub report : List ℕ
  pub run : RunWritesNaming project named settings.rounds (sharpness_of settings) outcome certificate report
  pub names_junction : EndNames project run.left settings.rounds outcome
  pub status_is : number_of status ≡ outcome_number outcome
  pub written : now.written ≡ where_told before.files certificate
  pub printed : now.printed ≡ append_known before.printed report
  pub held : file_at now.files cert ≡ now.written

-- A fault broke such a run off: what was written to the file created in this call, where files are told, and what was
-- printed are fronts of the certificate and of the report of the run as far as it went, and every history agrees with
-- it. Of the last line of the report nothing was printed unless all of the certificate was written. The file of the name
-- CERT holds what was written.
pub record CutShortNaming (project : Project) (named : List ℕ) (settings : Settings) (cert : List ℕ)
    (before now : Seen) : Type 0 where
  pub certificate : List ℕ
  pub report : List ℕ
  pub run : RunNamingBreaksOff project named settings.rounds (sharpness_of settings) certificate report
  pub names_junction : MatchOption run.last ⊤ (EndNames project run.left settings.rounds)
  pub in_order : EndsInOrderNaming project run.namings run.left run.last certificate report
  pub written : now.written ≡ where_told before.files certificate
  pub printed : now.printed ≡ append_known before.printed report
  pub held : file_at now.files cert ≡ now.written

-- What an answer says of a network that is run with the flows of these links. Where its file couldn't be created, all is
-- as it was.
abbrev pub AnswersRunNaming : Project → List ℕ → Settings → List ℕ → Status → Seen → Seen → Type 0
AnswersRunNaming project named settings cert Done before now =
    DeliveredNaming project named settings cert Done before now
AnswersRunNaming project named settings cert Undecided before now =
    DeliveredNaming project named settings cert Undecided before now
AnswersRunNaming project named settings cert RoundsSpent before now =
    DeliveredNaming project named settings cert RoundsSpent before now
AnswersRunNaming project named settings cert Demand before now =
    DeliveredNaming project named settings cert Demand before now
AnswersRunNaming project named settings cert OutOfMemory before now = IsUntouched before now
AnswersRunNaming project named settings cert WriteFault before now =
    IsUntouched before now ⊎ CutShortNaming project named settings cert before now
AnswersRunNaming project named settings cert Stalled before now =
    IsUntouched before now ⊎ CutShortNaming project named settings cert before now
AnswersRunNaming project named settings cert status before now = ⊥

-- ---- names that are refused

-- Refused, and the line of the name alone was printed; or a fault kept it from being printed.
abbrev pub AnswersRefusedName : ℕ → NameFails → Status → Seen → Seen → Type 0
AnswersRefusedName place cause InputRefused before now = OnlyPrinted (refused_name_line place cause) before now
AnswersRefusedName place cause WriteFault before now = OnlyPrintedFront (refused_name_line place cause) before now
AnswersRefusedName place cause Stalled before now = OnlyPrintedFront (refused_name_line place cause) before now
AnswersRefusedName place cause status before now = ⊥

-- ---- a network and the names

-- Each name is that of a link of the network that joins two junctions, and it is run with the flows of these links; or
-- the first one that isn't is refused.
pub data AnswersNames (project : Project) (names : List (List ℕ)) (settings : Settings) (cert : List ℕ)
    (status : Status) (before now : Seen) : Type 0 where
  named : (numbers : List ℕ) → AreLinksOf project names numbers → MayBeNamed project numbers
      → AnswersRunNaming project numbers settings cert status before now
      → AnswersNames project names settings cert status before now
  refused : (place : ℕ) (cause : NameFails) → IsRefusedAt project names place cause
      → AnswersRefusedName place cause status before now
      → AnswersNames project names settings cert status before now

-- What an answer says of a text without a fault: want of memory, which may come whatever was asked, and a fault of reading
-- leave all untouched.
abbrev pub AnswersTextNaming : List ℕ → List (List ℕ) → Settings → List ℕ → Status → Seen → Seen → Type 0
AnswersTextNaming text names settings cert OutOfMemory before now = IsUntouched before now
AnswersTextNaming text names settings cert ReadFault before now = IsUntouched before now
AnswersTextNaming text names settings cert status before now =
    OfNetwork text (λ project. AnswersNames project names settings cert status before now)

-- ---- whatever the text was

-- One line of a refused name, one of those that were given, was printed, and nothing was created or written.
pub record PrintsRefusedName (names : List (List ℕ)) (before now : Seen) : Type 0 where
  pub earlier : ℕ
  pub name : List ℕ
  pub is_name : slice_get names earlier ≡ Some name
  pub place : ℕ
  pub place_is : place ≡ suc earlier
  pub cause : NameFails
  pub only : OnlyPrinted (refused_name_line place cause) before now

-- What the answer leaves, also where the desk tells no text: want of memory and a fault of reading leave all untouched;
-- a refusal, of the text or of a name, prints its one line and creates nothing.
abbrev pub LeavesNaming : List (List ℕ) → Status → Seen → Seen → Type 0
LeavesNaming names OutOfMemory before now = IsUntouched before now
LeavesNaming names ReadFault before now = IsUntouched before now
LeavesNaming names InputRefused before now = PrintsRefusal before now ⊎ PrintsRefusedName names before now
LeavesNaming names Usage before now = ⊥
LeavesNaming names status before now = ⊤
