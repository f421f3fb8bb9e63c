-- A run that is put out as it goes: its certificate at one pen and its report at another.
-- Source: this program's.
use Rattle.std.specs.Prelude.{◌≡◌, ◌⊎◌, suc, ◌<◌, ◌-◌, ◌^◌, ⊤, codes, decimal, MatchOption, ℕ, List, [], ◌∷◌, ◌++◌}
use Rattle.std.specs.Prelude.{length, All, Option, Some, None, Result, Ok, Err}
use Rattle.std.specs.List.{AllByRecursion}
use Rattle.hyd_spec.specs.ProgramTypes.{Project}
use Rattle.hyd_spec.specs.NodeNumbers.{junction_count, tank_count}
use Rattle.hyd_spec_certificates.specs.RecordAndStanding.{Standing}
use Rattle.hyd_spec_certificates.specs.CertificateText.{IsRow, record_text, line}
use Rattle.hyd_spec_reports.specs.PromisesOfRunsAndChecks.{Found, IsFound, IsRun, Sharpness, IsSharpFound, Outcome}
use Rattle.hyd_spec_reports.specs.PromisesOfRunsAndChecks.{Finished}
use Rattle.hyd_spec_reports.specs.PromisesOfRunsAndChecks.{Stopped, EndsSo, RunWrites, RunBreaksOff, rows_of}
use Rattle.hyd_spec_reports.specs.PromisesOfRunsAndChecks.{certificate_so_far, report_so_far}
use Rattle.hyd_report.specs.NodeAndLinkLines.{texts}
use Rattle.hyd_io.specs.declared.output.Channel.{Channel}
use Rattle.hyd_io.specs.declared.output.OutFault.{OutFault}
use Rattle.hyd_io.specs.Output.{PenState}
use Rattle.hyd_io.specs.DeskBytes.{append_known}
use Rattle.hyd_sim.specs.declared.settings.Settings.{Settings}
use Rattle.hyd_sim.specs.RunView.{SimView, standing_of}
use Rattle.hyd_sim.specs.NarrowRecordsAndStops.{NamesStuck}
use Rattle.hyd_run.specs.Pens.{Told, RunMoment, PutIn, IsCutOff, IsCutInOrder}
use Rattle.hyd_run.specs.declared.outcome.RunEnd.{RunEnd}
use Rattle.hyd_run.specs.declared.outcome.RunEnd.TheVariants.{Finished as EndFinished, Stopped as EndStopped}

-- ---- what is asked of a run, and how it ends

-- How sharp the settings ask a run to be.
abbrev pub sharpness_of : Settings → Sharpness
sharpness_of settings = record { width = settings.width; tight = settings.tight }

-- How a run ended.
abbrev pub outcome_of : RunEnd → Outcome
outcome_of EndFinished = Finished
outcome_of (EndStopped cause) = Stopped cause

-- Where a run ended since no vector is a certificate, the junction that is named has no value at heads that were
-- reached.
abbrev pub EndNames : Project → Standing → ℕ → Outcome → Type 0
EndNames project left rounds Finished = ⊤
EndNames project left rounds (Stopped cause) = NamesStuck project left rounds cause

-- A pen on a channel that holds nothing and has no fault.
abbrev pub fresh : Channel → PenState
fresh to = record { to = to; fault = None; held = [] }

-- The whole certificate of a run was written and its whole report printed.
pub record IsPutOut (project : Project) (settings : Settings) (outcome : Outcome) (before now : Told) : Type 0 where
  pub certificate : List ℕ
  pub report : List ℕ
  pub writes : RunWrites project settings.rounds (sharpness_of settings) outcome certificate report
  pub names : EndNames project writes.left settings.rounds outcome
  pub written : now.written ≡ append_known before.written certificate
  pub printed : now.printed ≡ append_known before.printed report

-- Something of the last line of a report was printed only after all of the certificate was written: what was printed is
-- a front of the other lines, or nothing of the certificate is unwritten.
abbrev pub EndsInOrder : Project → List Found → Standing → Option Outcome → (written printed : List ℕ) → Type 0
EndsInOrder project founds left last written printed =
    ((unprinted : List ℕ) × (printed ++ unprinted ≡ report_so_far project left founds None))
    ⊎ (written ≡ certificate_so_far project founds last)

-- A fault broke a run off: what was written and printed are fronts of the certificate and of the report of a run as
-- far as it went, and a whole report never stands beside a part of its certificate.
pub record IsBrokenOff (project : Project) (settings : Settings) (before now : Told) : Type 0 where
  pub certificate : List ℕ
  pub report : List ℕ
  pub breaks_off : RunBreaksOff project settings.rounds (sharpness_of settings) certificate report
  pub names : MatchOption breaks_off.last ⊤ (EndNames project breaks_off.left settings.rounds)
  pub in_order : EndsInOrder project breaks_off.founds breaks_off.left breaks_off.last certificate report
  pub written : now.written ≡ append_known before.written certificate
  pub printed : now.printed ≡ append_known before.printed report

-- ---- a run as far as it has gone

-- The first line of a report.
abbrev pub first_line : List ℕ
first_line = line (codes "HYD" ∷ (decimal 1 ∷ []))

-- The record of what was found is one that a certificate can hold.
abbrev pub IsRowFound : Project → Found → Type 0
IsRowFound project found = IsRow (junction_count project) (tank_count project) found.row

-- What a step found: the period that was due, as sharp as was asked for.
pub record IsStep (project : Project) (sharpness : Sharpness) (before next : Standing) (found : Found) : Type 0 where
  pub begins : found.standing ≡ before
  pub leaves : found.next ≡ next
  pub is_found : IsFound project found
  pub sharp : IsSharpFound project sharpness found
  pub fits : IsRowFound project found
  pub number : next.number ≡ suc before.number

-- What was found so far is a run that leaves a standing, as sharp as was asked for, with one record for each period
-- that was done, and its certificate and its report as far as they go were put in at the pens.
pub record IsSoFar (project : Project) (sharpness : Sharpness) (left : Standing) (before now : RunMoment) : Type 0 where
  pub founds : List Found
  pub is_run : IsRun project founds left
  pub sharp : AllByRecursion (IsSharpFound project sharpness) founds
  pub fit : All (IsRow (junction_count project) (tank_count project)) (rows_of founds)
  pub each : length founds ≡ left.number
  pub put : PutIn (certificate_so_far project founds None) (report_so_far project left founds None) before now

-- So it is, and the run's end is known and was put in too; the certificate's pen holds nothing back.
pub record IsWhole (project : Project) (settings : Settings) (outcome : Outcome) (before now : RunMoment) : Type 0 where
  pub founds : List Found
  pub left : Standing
  pub is_run : IsRun project founds left
  pub sharp : AllByRecursion (IsSharpFound project (sharpness_of settings)) founds
  pub fit : All (IsRow (junction_count project) (tank_count project)) (rows_of founds)
  pub few : length founds < 2 ^ 32
  pub ends_so : EndsSo project left settings.rounds outcome
  pub names : EndNames project left settings.rounds outcome
  pub put : PutIn (certificate_so_far project founds (Some outcome)) (report_so_far project left founds (Some
      outcome)) before now
  pub emptied : now.certificate.held ≡ []

-- A fault cut a run off, whose end is known or isn't. Where the pens held nothing before, what went out of them was in
-- order.
pub record IsCutShort (project : Project) (settings : Settings) (fault : OutFault) (before now : RunMoment) : Type 0
  where
    pub founds : List Found
    pub left : Standing
    pub is_run : IsRun project founds left
    pub sharp : AllByRecursion (IsSharpFound project (sharpness_of settings)) founds
    pub last : Option Outcome
    pub ends_so : MatchOption last ⊤ (EndsSo project left settings.rounds)
    pub names : MatchOption last ⊤ (EndNames project left settings.rounds)
    pub cut_off : IsCutOff fault (certificate_so_far project founds last) (report_so_far project left founds last)
        before now
    pub in_order : before.certificate.held ≡ [] → before.report.held ≡ []
        → EndsInOrder project founds left last cut_off.written.1.front cut_off.printed.1.front

-- ---- a step

-- How many periods may still be due at a standing: each but the last lasts a second at least.
abbrev pub periods_left : Project → Standing → ℕ
periods_left project standing = suc project.times.duration - standing.number

-- A period was due and was found, and its record and its report were put in at the pens.
pub record DidPeriod (sim now : SimView) (before after : RunMoment) : Type 0 where
  pub found : Found
  pub step : IsStep now.project (sharpness_of now.settings) (standing_of sim) (standing_of now) found
  pub fewer : periods_left now.project (standing_of now) < periods_left now.project (standing_of sim)
  pub put : PutIn (record_text found.row) (texts now.project found.lines) before after

-- It was found, and a fault cut its record and its report off.
pub record LostPeriod (fault : OutFault) (sim now : SimView) (before after : RunMoment) : Type 0 where
  pub found : Found
  pub step : IsStep now.project (sharpness_of now.settings) (standing_of sim) (standing_of now) found
  pub cut_off : IsCutInOrder fault (record_text found.row) (texts now.project found.lines) before after

-- The run is over, at a standing that stays, and nothing was put in.
pub record IsOver (outcome : Outcome) (sim now : SimView) (before after : RunMoment) : Type 0 where
  pub stays : standing_of now ≡ standing_of sim
  pub ends_so : EndsSo now.project (standing_of now) now.settings.rounds outcome
  pub names : EndNames now.project (standing_of now) now.settings.rounds outcome
  pub nothing : after ≡ before

-- What a step does.
abbrev pub StepPuts : Result (Option RunEnd) OutFault → SimView → SimView → RunMoment → RunMoment → Type 0
StepPuts (Ok None) sim now before after = DidPeriod sim now before after
StepPuts (Ok (Some end)) sim now before after = IsOver (outcome_of end) sim now before after
StepPuts (Err fault) sim now before after = LostPeriod fault sim now before after

-- What the steps of a run do: whatever was put in before them as a run so far is one still when they are over, or is
-- cut short.
abbrev pub StepsPut : Result RunEnd OutFault → SimView → SimView → RunMoment → RunMoment → Type 0
StepsPut (Ok end) sim now before after =
    EndsSo sim.project (standing_of now) sim.settings.rounds (outcome_of end)
    × (EndNames sim.project (standing_of now) sim.settings.rounds (outcome_of end) × ((start : RunMoment)
    → IsSoFar sim.project (sharpness_of sim.settings) (standing_of sim) start before
    → IsSoFar sim.project (sharpness_of sim.settings) (standing_of now) start after))
StepsPut (Err fault) sim now before after = (start : RunMoment)
    → IsSoFar sim.project (sharpness_of sim.settings) (standing_of sim) start before
    → IsCutShort sim.project sim.settings fault start after

-- What a run does before the pens are emptied.
abbrev pub RunPuts : Result RunEnd OutFault → Project → Settings → RunMoment → RunMoment → Type 0
RunPuts (Ok end) project settings before after = IsWhole project settings (outcome_of end) before after
RunPuts (Err fault) project settings before after = IsCutShort project settings fault before after
