-- A run whose certificate is put out as it goes, and whose report is replaced by a summary.
-- Source: this program's.
use Rattle.std.specs.Prelude.{◌≡◌, suc, ◌<◌, ◌^◌, ⊤, ◌⊎◌, MatchOption, ℕ, List, [], ◌++◌, length, All, Option, Some}
use Rattle.std.specs.Prelude.{None}
use Rattle.std.specs.Prelude.{Result, Ok, Err}
use Rattle.std.specs.Option.{option_map_or}
use Rattle.std.specs.List.{AllByRecursion}
use Rattle.hyd_spec.specs.ProgramTypes.{Project}
use Rattle.hyd_spec.specs.NodeNumbers.{junction_count, tank_count}
use Rattle.hyd_spec_certificates.specs.RecordAndStanding.{Standing}
use Rattle.hyd_spec_certificates.specs.CertificateText.{IsRow, record_text}
use Rattle.hyd_spec_reports.specs.PromisesOfRunsAndChecks.{Found, IsRun, Sharpness, IsSharpFound, Outcome, EndsSo}
use Rattle.hyd_spec_reports.specs.PromisesOfRunsAndChecks.{rows_of}
use Rattle.hyd_spec_reports.specs.PromisesOfRunsAndChecks.{lines_of, certificate_so_far}
use Rattle.hyd_spec_summary.specs.Summary.{event_count, summary_text, RunSums, SumsBreakOff}
use Rattle.hyd_io.specs.declared.output.Channel.TheVariants.{Report}
use Rattle.hyd_io.specs.declared.output.OutFault.{OutFault}
use Rattle.hyd_io.specs.Output.{PenState}
use Rattle.hyd_io.specs.DeskBytes.{append_known, Moves}
use Rattle.hyd_sim.specs.declared.settings.Settings.{Settings}
use Rattle.hyd_sim.specs.RunView.{SimView, standing_of}
use Rattle.hyd_run.specs.Pens.{Told, RunMoment, moment, PutIn, IsCutOff}
use Rattle.hyd_run.specs.Runs.{sharpness_of, outcome_of, fresh, EndNames, IsStep, IsOver, periods_left}
use Rattle.hyd_summarised_run.specs.declared.steps.Ended.{Ended}
use Rattle.hyd_summarised_run.specs.declared.steps.Turn.{Turn}
use Rattle.hyd_summarised_run.specs.declared.steps.Turn.TheVariants.{Period, Over}
use Rattle.hyd_run.specs.declared.outcome.RunEnd.{RunEnd}

-- The pen of the certificate and the desk, while nothing is printed.
abbrev pub aside : PenState → Told → RunMoment
aside certificate told = moment certificate (fresh Report) told

-- ---- what was put out

-- The whole certificate of a run was written and its summary printed.
pub record IsSummed (project : Project) (settings : Settings) (outcome : Outcome) (before now : Told) : Type 0 where
  pub certificate : List ℕ
  pub summary : List ℕ
  pub sums : RunSums project settings.rounds (sharpness_of settings) outcome certificate summary
  pub names : EndNames project sums.run.left settings.rounds outcome
  pub written : now.written ≡ append_known before.written certificate
  pub printed : now.printed ≡ append_known before.printed summary

-- A fault broke it off: what was written and printed are fronts of the certificate and of the summary of a run as far
-- as it went.
pub record IsSumBrokenOff (project : Project) (settings : Settings) (before now : Told) : Type 0 where
  pub certificate : List ℕ
  pub summary : List ℕ
  pub breaks_off : SumsBreakOff project settings.rounds (sharpness_of settings) certificate summary
  pub names : MatchOption breaks_off.last ⊤ (EndNames project breaks_off.left settings.rounds)
  pub written : now.written ≡ append_known before.written certificate
  pub printed : now.printed ≡ append_known before.printed summary

-- ---- a run as far as it has gone

-- What was found so far is a run that leaves a standing, as sharp as was asked for, with one record for each period
-- that was done and so many events, and its certificate as far as it goes was put in at the pen.
pub record SumsSoFar (project : Project) (sharpness : Sharpness) (left : Standing) (events : ℕ)
    (before now : RunMoment) : Type 0 where
  pub founds : List Found
  pub is_run : IsRun project founds left
  pub sharp : AllByRecursion (IsSharpFound project sharpness) founds
  pub fit : All (IsRow (junction_count project) (tank_count project)) (rows_of founds)
  pub each : length founds ≡ left.number
  pub counted : event_count (lines_of founds) ≡ events
  pub put : PutIn (certificate_so_far project founds None) [] before now

-- The summary where the run's end is known, and nothing before.
abbrev pub summary_so_far : Project → Standing → List Found → Option Outcome → List ℕ
summary_so_far project left founds last = option_map_or (summary_text project left founds) last []

-- So it is, the run's end is known, and its certificate was put in whole, and its summary too.
pub record SumsWhole (project : Project) (settings : Settings) (outcome : Outcome)
    (before now : RunMoment) : Type 0 where
  pub founds : List Found
  pub left : Standing
  pub is_run : IsRun project founds left
  pub sharp : AllByRecursion (IsSharpFound project (sharpness_of settings)) founds
  pub fit : All (IsRow (junction_count project) (tank_count project)) (rows_of founds)
  pub few : length founds < 2 ^ 32
  pub ends_so : EndsSo project left settings.rounds outcome
  pub names : EndNames project left settings.rounds outcome
  pub put : PutIn (certificate_so_far project founds (Some outcome)) (summary_so_far project left founds (Some outcome))
      before now

-- A text was written whole, and the pen of the certificate held none of it back.
abbrev pub IsWritten : List ℕ → RunMoment → RunMoment → Type 0
IsWritten text before now = Moves before.told.written now.told.written (before.certificate.held ++ text) []

-- A fault cut the run off, whose end is known or isn't: before anything of its summary was put in, or when its
-- certificate was written whole.
pub record SumsCutShort (project : Project) (settings : Settings) (fault : OutFault)
    (before now : RunMoment) : Type 0 where
  pub founds : List Found
  pub left : Standing
  pub is_run : IsRun project founds left
  pub sharp : AllByRecursion (IsSharpFound project (sharpness_of settings)) founds
  pub last : Option Outcome
  pub ends_so : MatchOption last ⊤ (EndsSo project left settings.rounds)
  pub names : MatchOption last ⊤ (EndNames project left settings.rounds)
  pub cut_off : IsCutOff fault (certificate_so_far project founds last) (summary_so_far project left founds last) before
      now
  pub in_order : IsCutOff fault (certificate_so_far project founds last) [] before now
      ⊎ IsWritten (certificate_so_far project founds last) before now

-- ---- a step

-- A period was due and was found, with so many events, and its record was put in at the pen.
pub record SumsPeriod (events : ℕ) (sim now : SimView) (before after : RunMoment) : Type 0 where
  pub found : Found
  pub step : IsStep now.project (sharpness_of now.settings) (standing_of sim) (standing_of now) found
  pub fewer : periods_left now.project (standing_of now) < periods_left now.project (standing_of sim)
  pub next : (standing_of now).number ≡ suc (standing_of sim).number
  pub few : (standing_of now).number < 2 ^ 32
  pub counted : event_count found.lines ≡ events
  pub put : PutIn (record_text found.row) [] before after

-- It was found, and a fault cut its record off.
pub record LosesPeriod (fault : OutFault) (sim now : SimView) (before after : RunMoment) : Type 0 where
  pub found : Found
  pub step : IsStep now.project (sharpness_of now.settings) (standing_of sim) (standing_of now) found
  pub cut_off : IsCutOff fault (record_text found.row) [] before after

-- What a step does.
abbrev pub StepSums : Result Turn OutFault → SimView → SimView → RunMoment → RunMoment → Type 0
StepSums (Ok (Period events)) sim now before after = SumsPeriod events sim now before after
StepSums (Ok (Over end)) sim now before after = IsOver (outcome_of end) sim now before after
StepSums (Err fault) sim now before after = LosesPeriod fault sim now before after

-- What the steps of a run do from its start on: whatever was put in before them as the front of a certificate is one
-- still, or is cut short.
abbrev pub StepsSum : Result Ended OutFault → SimView → SimView → RunMoment → RunMoment → Type 0
StepsSum (Ok ended) sim now before after =
    EndsSo sim.project (standing_of now) sim.settings.rounds (outcome_of ended.end)
    × (EndNames sim.project (standing_of now) sim.settings.rounds (outcome_of ended.end) × ((start : RunMoment)
    → SumsSoFar sim.project (sharpness_of sim.settings) (standing_of sim) 0 start before
    → SumsSoFar sim.project (sharpness_of sim.settings) (standing_of now) ended.events start after))
StepsSum (Err fault) sim now before after = (start : RunMoment)
    → SumsSoFar sim.project (sharpness_of sim.settings) (standing_of sim) 0 start before
    → SumsCutShort sim.project sim.settings fault start after

-- What a run does.
abbrev pub RunSumsIn : Result RunEnd OutFault → Project → Settings → RunMoment → RunMoment → Type 0
RunSumsIn (Ok end) project settings before after = SumsWhole project settings (outcome_of end) before after
RunSumsIn (Err fault) project settings before after = SumsCutShort project settings fault before after
