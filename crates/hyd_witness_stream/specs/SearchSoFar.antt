-- A search for a witness as it goes: one record of the certificate after another is read and accepted as a check does,
-- a moment is found for it, and put into the witness.
-- Source: this program's.
use Rattle.std.specs.Prelude.{◌≡◌, ℕ, ◌<◌, ◌^◌, Bool, true, false, List, [], ◌++◌, length, map, All, Option, None, Some}
use Rattle.std.specs.Prelude.{Result, Ok, Err}
use Rattle.hyd_io.specs.declared.output.Channel.TheVariants.{Report}
use Rattle.hyd_io.specs.declared.output.OutFault.{OutFault}
use Rattle.hyd_spec.specs.ProgramTypes.{Project}
use Rattle.hyd_spec.specs.Lists.{joined}
use Rattle.hyd_spec_certificates.specs.RecordAndStanding.{Record as Row, Standing}
use Rattle.hyd_spec_certificates.specs.RefusedRecords.{IsRefused}
use Rattle.hyd_spec_flows.specs.FlowParts.{FlowPart as Part, IsFlowPart, IsRefusedPart}
use Rattle.hyd_spec_flows.specs.declared.FlowFails.{FlowFails}
use Rattle.hyd_spec_reports.specs.PromisesOfRunsAndChecks.{IsRun}
use Rattle.hyd_spec_reports_with_flows.specs.PromisesWithFlows.{FoundNaming, IsFoundNaming, founds_in, entry_of}
use Rattle.hyd_spec_witnesses.specs.MetPeriods.{Moment, Reached, AreMet, IsMet, at_start, reached_after}
use Rattle.hyd_spec_witnesses.specs.MetPeriods.{after_moment}
use Rattle.hyd_spec_witnesses.specs.MiddleCandidate.{halves, IsMiddle}
use Rattle.hyd_spec_witnesses.specs.WitnessText.{IsMoment, counts_of, witness_header, moment_text, witness_end}
use Rattle.hyd_cert.specs.ReaderView.{ReaderView}
use Rattle.hyd_cert.specs.RecordView.{row_of}
use Rattle.hyd_period_network.specs.NetAsPeriodNetwork.{grid_of}
use Rattle.hyd_run.specs.Runs.{periods_left}
use Rattle.hyd_sim.specs.Acceptance.{IsAccepted}
use Rattle.hyd_sim.specs.RunView.{SimView, header_for, standing_of}
use Rattle.hyd_witness_texts.specs.MomentView.{moment_of}
use Rattle.hyd_cert_check.specs.ReaderAndPen.{CheckMoment}
use Rattle.hyd_cert_check.specs.RecordByRecord.{IsSoFar, IsStep, IsRead, IsEnd, IsOtherEnd, IsRefusedNext}
use Rattle.hyd_cert_check.specs.RecordByRecord.{IsPartRefusedNext, IsGrammarFault, IsCountsFault}
use Rattle.hyd_course.specs.Courses.{IsCourseOf}
use Rattle.hyd_course.specs.declared.course.Course.{Course}
use Rattle.hyd_witness_stream.specs.WitnessPen.{WrittenIn, IsWriteCut}
use Rattle.hyd_witness_stream.specs.declared.bench.MomentSearch.{MomentSearch}
use Rattle.hyd_witness_stream.specs.declared.ending.Halt.{Halt}
use Rattle.hyd_witness_stream.specs.declared.ending.Halt.TheVariants.{Accepted, NoMoment, Refused, RefusedPart}
use Rattle.hyd_witness_stream.specs.declared.ending.Halt.TheVariants.{OtherEnd, Grammar, Counts}
use Rattle.hyd_witness_stream.specs.declared.ending.SearchEnd.{SearchEnd}
use Rattle.hyd_witness_stream.specs.declared.ending.SearchFault.{SearchFault}
use Rattle.hyd_witness_stream.specs.declared.ending.SearchFault.TheVariants.{Output}

-- ---- the check that a search stands for

-- A check that read as much as a search did: its report is held by a pen at a desk where nothing else was done.
abbrev pub checking : ReaderView → Option (List ℕ) → List ℕ → CheckMoment
checking reader rest held = record {
  reader = reader;
  pen = record { to = Report; fault = None; held = held };
  told = record {
    files = None;
    rest = rest;
    written = None;
    printed = None;
    target = None;
    ready = false;
    counts = record { read = 0; write = 0; print = 0; stall = 0 };
    openings = record { opened = 0; created = 0 };
  };
}

-- The check of what a search has read at a moment.
abbrev pub checks_at : CheckMoment → List ℕ → CheckMoment
checks_at at held = checking at.reader at.told.rest held

-- ---- a search as far as it has gone

-- A witness at a scale with these periods, without its END line.
abbrev pub witness_so_far : Project → ℕ → List Moment → List ℕ
witness_so_far project S moments = witness_header S (counts_of project) ++ joined (map moment_text moments)

-- A check of what was read would have gone as far; for each record there is a moment that is met, the course stands
-- behind them, and the witness as far as they go was put in at the pen.
pub record IsFoundSoFar (project : Project) (S : ℕ) (left : Standing) (course : Course)
    (start now : CheckMoment) : Type 0 where
  pub held : List ℕ
  pub check : IsSoFar project left (checks_at start []) (checks_at now held)
  pub moments : List Moment
  pub each : length moments ≡ left.number
  pub fit : All (IsMoment (counts_of project)) moments
  pub met : AreMet project S moments
  pub stands : IsCourseOf project S (reached_after project S at_start moments) course
  pub put : WrittenIn (witness_so_far project S moments) start now

-- ---- where the periods end

-- The next record was read and accepted, and no moment was found for it: in halves of ticks its middle candidate isn't
-- met.
pub record HasNoMoment (project : Project) (S : ℕ) (left : Standing) (moments : List Moment) (at now : CheckMoment)
    : Type 0 where
  pub naming : FoundNaming
  pub next : Standing
  pub step : IsStep project left next naming.found
  pub part : IsFoundNaming project naming
  pub read : IsRead (header_for project) (entry_of naming) at now
  pub middle : S ≡ halves → (middle : Moment) × (IsMiddle project (reached_after project halves at_start moments)
      naming.found.row middle × (IsMet project halves (reached_after project halves at_start moments) middle → ⊥))

-- Why they end.
abbrev pub IsHalt : Halt → Project → ℕ → Standing → List Moment → CheckMoment → CheckMoment → Type 0
IsHalt Accepted project S left moments at now =
    (finished : Bool) × (IsEnd project left.number finished at now × (finished ≡ left.finished))
IsHalt NoMoment project S left moments at now = HasNoMoment project S left moments at now
IsHalt (Refused cause) project S left moments at now = IsRefusedNext project left cause at now
IsHalt (RefusedPart period cause) project S left moments at now = IsPartRefusedNext project left period cause at now
IsHalt (OtherEnd number) project S left moments at now = IsOtherEnd project left at now × (number ≡ now.reader.line)
IsHalt (Grammar number) project S left moments at now = IsGrammarFault project number at now
IsHalt (Counts number) project S left moments at now = IsCountsFault project number at now

-- The search came so far, and its periods end there: nothing more was put in.
pub record IsHalted (end : SearchEnd) (project : Project) (S : ℕ) (start now : CheckMoment) : Type 0
  where
    pub left : Standing
    pub course : Course
    pub at_last : CheckMoment
    pub so_far : IsFoundSoFar project S left course start at_last
    pub periods : end.periods ≡ left.number
    pub read : CheckMoment
    pub why : IsHalt end.halt project S left so_far.moments (checks_at at_last so_far.held) read
    pub put : WrittenIn [] at_last now

-- A fault broke the search off: a front of a witness went out, with a period for each of those that were found, and a
-- front of its END line.
pub record IsBroken (fault : SearchFault) (project : Project) (S : ℕ) (start now : CheckMoment) : Type 0
  where
    pub namings : List FoundNaming
    pub left : Standing
    pub is_run : IsRun project (founds_in namings) left
    pub moments : List Moment
    pub each : length moments ≡ length namings
    pub few : length moments < 2 ^ 32
    pub fit : All (IsMoment (counts_of project)) moments
    pub met : AreMet project S moments
    pub ending : List ℕ
    pub left_out : List ℕ
    pub is_ending : ending ++ left_out ≡ witness_end (length moments)
    pub cut : IsWriteCut fault (witness_so_far project S moments ++ ending) start now

-- ---- one record

-- A record was accepted as that of the period that was due, and so was the part behind it.
pub record IsTakenIn (before now : SimView) (row : Row) (part : Part) : Type 0 where
  pub accepted : IsAccepted before now
  pub row_is : row_of now.row ≡ row
  pub held : IsFlowPart (grid_of now.net) (row_of now.row) part

-- The record was, and the part is refused; this is the number of the record.
pub record IsPartRefused (before now : SimView) (row : Row) (part : Part) (period : ℕ) (cause : FlowFails) : Type 0
  where
    pub accepted : IsAccepted before now
    pub row_is : row_of now.row ≡ row
    pub refused : IsRefusedPart (grid_of now.net) (row_of now.row) part cause
    pub number : period ≡ now.row.number

-- What is judged of a record and the part behind it.
abbrev pub JudgesSo : Option Halt → SimView → SimView → Row → Part → Type 0
JudgesSo None before now row part = IsTakenIn before now row part
JudgesSo (Some Accepted) before now row part = ⊥
JudgesSo (Some NoMoment) before now row part = ⊥
JudgesSo (Some (Refused cause)) before now row part = IsRefused before.project (standing_of before) row cause
JudgesSo (Some (RefusedPart period cause)) before now row part = IsPartRefused before now row part period cause
JudgesSo (Some (OtherEnd number)) before now row part = ⊥
JudgesSo (Some (Grammar number)) before now row part = ⊥
JudgesSo (Some (Counts number)) before now row part = ⊥

-- A moment was found that is met as the next period of a course, and the course goes on behind it.
pub record HasMet (project : Project) (S : ℕ) (reached : Reached) (now : MomentSearch) : Type 0 where
  pub met : IsMet project S reached (moment_of now.moment)
  pub behind : IsCourseOf project S (after_moment project S reached (moment_of now.moment)) now.course

-- None was found, and the middle candidate isn't met.
pub record HasMiddleUnmet (project : Project) (reached : Reached) (row : Row) (now : MomentSearch) : Type 0 where
  pub middle : IsMiddle project reached row (moment_of now.moment)
  pub not_met : IsMet project halves reached (moment_of now.moment) → ⊥

-- Whether a moment was found for a record, wherever the course stood.
abbrev pub FindsSo : Bool → Project → Row → Course → MomentSearch → Type 0
FindsSo true project row course now =
    (S : ℕ) (reached : Reached) → IsCourseOf project S reached course → HasMet project S reached now
FindsSo false project row course now =
    (reached : Reached) → IsCourseOf project halves reached course → HasMiddleUnmet project reached row now

-- One period more was done.
pub record IsOneMore (before now : SimView) : Type 0 where
  pub fewer : periods_left before.project (standing_of now) < periods_left before.project (standing_of before)

-- What a record gives that was read: a moment was found for it and put in; or the periods end, or a fault broke the
-- search off.
abbrev pub TryGives : Result (Option Halt) OutFault → Project → ℕ → Standing → Standing → Course → CheckMoment
    → CheckMoment → Type 0
TryGives (Ok None) project S left next after_it start now = IsFoundSoFar project S next after_it start now
TryGives (Ok (Some halt)) project S left next after_it start now = (periods : ℕ) → periods ≡ left.number
    → IsHalted (record { periods = periods; halt = halt }) project S start now
TryGives (Err why) project S left next after_it start now = IsBroken (Output why) project S start now

-- ---- turns

-- What one turn gives: whatever was found before is one period more; or the periods end there, or a fault broke the
-- search off.
abbrev pub TurnGives : Result (Option SearchEnd) SearchFault → Project → Standing → Standing → Course → Course
    → CheckMoment → CheckMoment → Type 0
TurnGives (Ok None) project left next course after_it before now = (S : ℕ) (start : CheckMoment)
    → IsFoundSoFar project S left course start before → IsFoundSoFar project S next after_it start now
TurnGives (Ok (Some end)) project left next course after_it before now = (S : ℕ) (start : CheckMoment)
    → IsFoundSoFar project S left course start before → IsHalted end project S start now
TurnGives (Err fault) project left next course after_it before now = (S : ℕ) (start : CheckMoment)
    → IsFoundSoFar project S left course start before → IsBroken fault project S start now

-- What the turns give.
abbrev pub TurnsGive : Result SearchEnd SearchFault → Project → Standing → Course → CheckMoment → CheckMoment → Type 0
TurnsGive (Ok end) project left course before now = (S : ℕ) (start : CheckMoment)
    → IsFoundSoFar project S left course start before → IsHalted end project S start now
TurnsGive (Err fault) project left course before now = (S : ℕ) (start : CheckMoment)
    → IsFoundSoFar project S left course start before → IsBroken fault project S start now

-- ---- all of it

-- The search came to an end, the END line was put in behind its periods, and all went out.
pub record IsWhole (end : SearchEnd) (project : Project) (S : ℕ) (start now : CheckMoment) : Type 0 where
  pub at_end : CheckMoment
  pub halted : IsHalted end project S start at_end
  pub put : WrittenIn (witness_end end.periods) at_end now
  pub empty : now.pen.held ≡ []
  pub few : end.periods < 2 ^ 32

-- What a search does.
abbrev pub SearchPuts : Result SearchEnd SearchFault → Project → ℕ → CheckMoment → CheckMoment → Type 0
SearchPuts (Ok end) project S start now = IsWhole end project S start now
SearchPuts (Err fault) project S start now = IsBroken fault project S start now
