-- What is done with a network that was read, and what is said of it then: of contents, and of how often files were
-- opened and created.
-- Source: this program's.
use Rattle.std.specs.Prelude.{◌≢◌, ℕ, Bool, List, IsTrue}
use Rattle.hyd_io.specs.declared.desk.Openings.{Openings}
use Rattle.hyd_spec.specs.ProgramTypes.{Project}
use Rattle.hyd_sim.specs.declared.settings.Settings.{Settings}
use Rattle.hyd_command_words.specs.CommandGrammar.{TwoFiles}
use Rattle.hyd_command_words.specs.CommandView.{files_seen}
use Rattle.hyd_command_answers.specs.DeskContents.{Seen, ChangesOnly}
use Rattle.hyd_command_answers.specs.OpeningsOfRuns.{OpensCert}
use Rattle.hyd_cli.specs.RunAnswers.{AnswersRun}
use Rattle.hyd_cli.specs.GenAnswers.{usual_settings, AnswersGenerated, ChangesBoth, CreatesBoth, KeepsCert, KeepsNet}
use Rattle.hyd_command_answers.specs.declared.status.Status.{Status}
use Rattle.hyd_cli.specs.declared.task_with_network.Task.{Task}
use Rattle.hyd_cli.specs.declared.task_with_network.Task.TheVariants.{Run, Gen}

-- What a task asks of the desk: a run creates CERT, and `gen` creates two files of different names.
abbrev pub MayDo : (may_create : List ℕ → Bool) → Task → Type 0
MayDo may_create (Run cert settings) = IsTrue (may_create cert.now)
MayDo may_create (Gen text files) =
    IsTrue (may_create files.net.now) × (IsTrue (may_create files.cert.now) × (files.net.now ≢ files.cert.now))

-- What a task asks a run for.
abbrev pub settings_for : Task → Settings
settings_for (Run cert settings) = settings
settings_for (Gen text files) = usual_settings

-- A network was run: CERT is created once all memory is taken, and no other file is changed.
pub record RunsNetwork (project : Project) (settings : Settings) (cert : List ℕ) (status : Status) (before now : Seen)
    (opened opens : Openings) : Type 0 where
  pub answers : AnswersRun project settings cert status before now
  pub others : ChangesOnly cert before now
  pub opens_cert : OpensCert status opened opens

-- A generated text was written to NET and its network run: nothing is created before all memory is taken, no files but
-- NET and CERT are changed, CERT is as it was unless NET holds the whole text, and NET unless `create` was called.
pub record WritesAndRuns (project : Project) (text : List ℕ) (names : TwoFiles) (status : Status) (before now : Seen)
    (opened opens : Openings) (writable : Bool) : Type 0 where
  pub answers : AnswersGenerated project text names status before now opened opens writable
  pub others : ChangesBoth names before now
  pub once : CreatesBoth status opened opens
  pub keeps_cert : KeepsCert text names before now opened opens
  pub keeps_net : KeepsNet names before now opened opens

-- What was done with a network, by its task. `writable` tells whether the file created last can be written to.
abbrev pub DoesTask : Task → Project → Status → Seen → Seen → Openings → Openings → Bool → Type 0
DoesTask (Run cert settings) project status before now opened opens writable =
    RunsNetwork project settings cert.now status before now opened opens
DoesTask (Gen text files) project status before now opened opens writable =
    WritesAndRuns project text.now (files_seen files) status before now opened opens writable
