-- What the answers of the command `gen` mean.
-- Source: this program's.
use Rattle.std.specs.Prelude.{◌≡◌, ◌≢◌, ℕ, Bool, false, ◌⊎◌, List, ◌++◌, is_some, ⊤, MatchOption}
use Rattle.hyd_io.specs.declared.desk.Openings.{Openings}
use Rattle.hyd_io.specs.DeskCounts.{with_created}
use Rattle.hyd_io.specs.DeskBytes.{where_told, append_known, file_at}
use Rattle.hyd_spec.specs.ProgramTypes.{Project}
use Rattle.hyd_spec_generated.specs.GeneratedText.{generated_text}
use Rattle.hyd_spec_reports.specs.PromisesOfRunsAndChecks.{Outcome, outcome_number}
use Rattle.hyd_spec_summary.specs.Summary.{RunSums, SumsBreakOff}
use Rattle.hyd_run.specs.Runs.{sharpness_of, EndNames}
use Rattle.hyd_sim.specs.declared.settings.Settings.{Settings}
use Rattle.hyd_command_words.specs.CommandGrammar.{GenOrder, TwoFiles, default_rounds, default_width}
use Rattle.hyd_command_answers.specs.DeskContents.{Seen, IsUntouched}
use Rattle.hyd_command_answers.specs.FaultsAndRefusals.{OfNetwork}
use Rattle.hyd_command_answers.specs.Statuses.{number_of}
use Rattle.hyd_command_answers.specs.declared.status.Status.{Status}
use Rattle.hyd_command_answers.specs.declared.status.Status.TheVariants.{Done, OutOfMemory, Usage, ReadFault, WriteFault}
use Rattle.hyd_command_answers.specs.declared.status.Status.TheVariants.{InputRefused, Undecided, RoundsSpent, Demand}
use Rattle.hyd_command_answers.specs.declared.status.Status.TheVariants.{CertificateRefused, Stalled}

-- The text of the network that an order asks for.
abbrev pub text_of : GenOrder → List ℕ
text_of order = generated_text order.seed order.junctions

-- What the run of a generated network is asked for: the rounds and the width of a command that gives none, and no tight
-- vectors.
abbrev pub usual_settings : Settings
usual_settings = record { rounds = default_rounds; width = default_width; tight = false }

-- NET holds the text, and CERT the certificate of a run of its network, which was written last, where files are told;
-- the run's summary was printed, and every history agrees with the certificate. The status says how the run ended, and
-- where it stopped since no vector is a certificate, the junction that is named has no value at heads that were reached.
pub record Generated (project : Project) (text : List ℕ) (names : TwoFiles) (status : Status) (before now : Seen) :
    Type 0 where
  pub outcome : Outcome
  pub certificate : List ℕ
  pub summary : List ℕ
  pub run : RunSums project usual_settings.rounds (sharpness_of usual_settings) outcome certificate summary
  pub names_junction : EndNames project run.run.left usual_settings.rounds outcome
  pub status_is : number_of status ≡ outcome_number outcome
  pub written : now.written ≡ where_told before.files certificate
  pub printed : now.printed ≡ append_known before.printed summary
  pub held : file_at now.files names.cert ≡ now.written
  pub network_held : file_at now.files names.net ≡ where_told before.files text

-- NET holds the text, which was written last, where files are told; these are told as before, and nothing was printed.
pub record TextWritten (text net : List ℕ) (before now : Seen) : Type 0 where
  pub written : now.written ≡ where_told before.files text
  pub held : file_at now.files net ≡ where_told before.files text
  pub printed : now.printed ≡ before.printed
  pub still_told : is_some now.files ≡ is_some before.files

-- NET holds a front of the text, which was written last, where files are told; nothing was printed.
pub record TextCutShort (text net : List ℕ) (before now : Seen) : Type 0 where
  pub front : List ℕ
  pub unwritten : List ℕ
  pub is_front : front ++ unwritten ≡ text
  pub written : now.written ≡ where_told before.files front
  pub held : file_at now.files net ≡ now.written
  pub printed : now.printed ≡ before.printed

-- A fault broke a run off: NET holds the text; CERT holds what was written last, where files are told, a front of the
-- certificate of a run of its network as far as that went; what was printed is a front of its summary where its end is
-- known, and nothing was unless the certificate was written whole; every history agrees with it.
pub record GeneratedShort (project : Project) (text : List ℕ) (names : TwoFiles) (before now : Seen) : Type 0 where
  pub certificate : List ℕ
  pub summary : List ℕ
  pub run : SumsBreakOff project usual_settings.rounds (sharpness_of usual_settings) certificate summary
  pub names_junction : MatchOption run.last ⊤ (EndNames project run.left usual_settings.rounds)
  pub written : now.written ≡ where_told before.files certificate
  pub printed : now.printed ≡ append_known before.printed summary
  pub held : file_at now.files names.cert ≡ now.written
  pub network_held : file_at now.files names.net ≡ where_told before.files text

-- CERT is as it was.
abbrev pub CertStays : TwoFiles → Seen → Seen → Type 0
CertStays names before now = file_at now.files names.cert ≡ file_at before.files names.cert

-- What a fault of output leaves: `create` was called once, and NET couldn't be created, so that all is as it was, or it
-- holds a front of its text, and CERT is as it was; or `create` was called twice, NET holds the text, and CERT couldn't be
-- created and is as it was, or the run was broken off: CERT holds a front of its certificate, and a front of the summary
-- was printed. Where a file couldn't be created none can be written to.
pub data GenBreaksOff (project : Project) (text : List ℕ) (names : TwoFiles) (before now : Seen)
    (opened opens : Openings) (writable : Bool) : Type 0 where
  nothing : IsUntouched before now → opens ≡ with_created opened → writable ≡ false
      → GenBreaksOff project text names before now opened opens writable
  in_network : TextCutShort text names.net before now → CertStays names before now → opens ≡ with_created opened
      → GenBreaksOff project text names before now opened opens writable
  no_certificate : TextWritten text names.net before now → CertStays names before now
      → opens ≡ with_created (with_created opened) → writable ≡ false
      → GenBreaksOff project text names before now opened opens writable
  in_run : GeneratedShort project text names before now → opens ≡ with_created (with_created opened)
      → GenBreaksOff project text names before now opened opens writable

-- What an answer says of a generated text and its network: of contents, and after a fault of how often files were
-- opened and created, and of whether the file created last can be written to.
abbrev pub AnswersGenerated : Project → List ℕ → TwoFiles → Status → Seen → Seen → Openings → Openings → Bool → Type 0
AnswersGenerated project text names Done before now opened opens writable =
    Generated project text names Done before now
AnswersGenerated project text names Undecided before now opened opens writable =
    Generated project text names Undecided before now
AnswersGenerated project text names RoundsSpent before now opened opens writable =
    Generated project text names RoundsSpent before now
AnswersGenerated project text names Demand before now opened opens writable =
    Generated project text names Demand before now
AnswersGenerated project text names OutOfMemory before now opened opens writable = IsUntouched before now
AnswersGenerated project text names WriteFault before now opened opens writable =
    GenBreaksOff project text names before now opened opens writable
AnswersGenerated project text names Stalled before now opened opens writable =
    GenBreaksOff project text names before now opened opens writable
AnswersGenerated project text names status before now opened opens writable = ⊥

-- What an answer says of a generated text without a fault: want of memory leaves all untouched.
abbrev pub AnswersGen : List ℕ → TwoFiles → Status → Seen → Seen → Openings → Openings → Bool → Type 0
AnswersGen text names OutOfMemory before now opened opens writable = IsUntouched before now
AnswersGen text names status before now opened opens writable =
    OfNetwork text (λ project. AnswersGenerated project text names status before now opened opens writable)

-- How often `gen` calls `create`: twice where the run ended, for want of memory or where the text is refused never, and
-- at most twice where a fault came. It opens nothing.
abbrev pub CreatesBoth : Status → Openings → Openings → Type 0
CreatesBoth Done before now = now ≡ with_created (with_created before)
CreatesBoth OutOfMemory before now = now ≡ before
CreatesBoth Usage before now = ⊥
CreatesBoth ReadFault before now = ⊥
CreatesBoth WriteFault before now =
    (now ≡ before) ⊎ ((now ≡ with_created before) ⊎ (now ≡ with_created (with_created before)))
CreatesBoth InputRefused before now = now ≡ before
CreatesBoth Undecided before now = now ≡ with_created (with_created before)
CreatesBoth RoundsSpent before now = now ≡ with_created (with_created before)
CreatesBoth Demand before now = now ≡ with_created (with_created before)
CreatesBoth CertificateRefused before now = ⊥
CreatesBoth Stalled before now =
    (now ≡ before) ⊎ ((now ≡ with_created before) ⊎ (now ≡ with_created (with_created before)))

-- No files but those of the two names were changed.
abbrev pub ChangesBoth : TwoFiles → Seen → Seen → Type 0
ChangesBoth names before now = (other : List ℕ) → other ≢ names.net → other ≢ names.cert
    → file_at now.files other ≡ file_at before.files other

-- CERT is as it was, unless `create` was called twice and NET holds the whole text.
abbrev pub KeepsCert : List ℕ → TwoFiles → Seen → Seen → Openings → Openings → Type 0
KeepsCert text names before now opened opens = (file_at now.files names.cert ≡ file_at before.files names.cert)
    ⊎ ((opens ≡ with_created (with_created opened)) × (file_at now.files names.net ≡ where_told before.files text))

-- NET is as it was, unless `create` was called.
abbrev pub KeepsNet : TwoFiles → Seen → Seen → Openings → Openings → Type 0
KeepsNet names before now opened opens = (file_at now.files names.net ≡ file_at before.files names.net)
    ⊎ ((opens ≡ with_created opened) ⊎ (opens ≡ with_created (with_created opened)))
