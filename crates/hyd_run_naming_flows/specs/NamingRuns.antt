-- A run that names links, put out as it goes: its certificate with flows at one pen, and its report with FLOW lines at
-- another.
-- Source: this program's.
use Rattle.std.specs.Prelude.{◌≡◌, ◌⊎◌, ◌<◌, ◌^◌, ⊤, MatchOption, ℕ, List, [], ◌++◌, length, map, All, Option, Some}
use Rattle.std.specs.Prelude.{None, Result, Ok, Err}
use Rattle.std.specs.List.{AllByRecursion}
use Rattle.hyd_spec.specs.ProgramTypes.{Project}
use Rattle.hyd_spec.specs.Lists.{joined}
use Rattle.hyd_spec.specs.NodeNumbers.{junction_count, tank_count}
use Rattle.hyd_spec_certificates.specs.RecordAndStanding.{Standing}
use Rattle.hyd_spec_reports.specs.PromisesOfRunsAndChecks.{IsRun, IsSharpFound, Outcome, EndsSo}
use Rattle.hyd_spec_flows.specs.FlowParts.{FlowPart}
use Rattle.hyd_spec_flows.specs.FlowTexts.{Entry, IsEntry, IsPart, entry_text}
use Rattle.hyd_spec_reports_with_flows.specs.FlowLines.{FlowLine, flow_line_text}
use Rattle.hyd_spec_reports_with_flows.specs.PromisesWithFlows.{FoundNaming, IsFoundNaming, NamesSharply, founds_in}
use Rattle.hyd_spec_reports_with_flows.specs.PromisesWithFlows.{entry_of}
use Rattle.hyd_spec_reports_with_flows.specs.PromisesWithFlows.{entries_of, period_text, RunWritesNaming}
use Rattle.hyd_spec_reports_with_flows.specs.PromisesWithFlows.{RunNamingBreaksOff}
use Rattle.hyd_spec_reports_with_flows.specs.PromisesWithFlows.{certificate_so_far_naming, report_so_far_naming}
use Rattle.hyd_cert.specs.RecordView.{row_of}
use Rattle.hyd_io.specs.declared.output.OutFault.{OutFault}
use Rattle.hyd_io.specs.DeskBytes.{append_known}
use Rattle.hyd_period_network.specs.NetAsPeriodNetwork.{grid_of, states_of}
use Rattle.hyd_report.specs.NodeAndLinkLines.{texts}
use Rattle.hyd_report.specs.PeriodLines.{lines_of}
use Rattle.hyd_sim.specs.declared.settings.Settings.{Settings}
use Rattle.hyd_sim.specs.RunView.{SimView, standing_of}
use Rattle.hyd_run.specs.Pens.{Told, RunMoment, PutIn, IsCutOff, IsCutInOrder}
use Rattle.hyd_run.specs.Runs.{sharpness_of, outcome_of, EndNames, IsStep, IsOver, periods_left}
use Rattle.hyd_run.specs.declared.outcome.RunEnd.{RunEnd}

-- ---- what was put out

-- The whole certificate of a run with the flows of these links was written, and its whole report with them printed.
pub record IsPutOutNaming (project : Project) (settings : Settings) (named : List ℕ) (outcome : Outcome)
    (before now : Told) : Type 0 where
  pub certificate : List ℕ
  pub report : List ℕ
  pub writes : RunWritesNaming project named settings.rounds (sharpness_of settings) outcome certificate report
  pub names : EndNames project writes.left settings.rounds outcome
  pub written : now.written ≡ append_known before.written certificate
  pub printed : now.printed ≡ append_known before.printed report

-- Something of the last line of a report was printed only after all of the certificate was written: what was printed is
-- a front of the other lines, or nothing of the certificate is unwritten.
abbrev pub EndsInOrderNaming : Project → List FoundNaming → Standing → Option Outcome → (written printed : List ℕ)
    → Type 0
EndsInOrderNaming project namings left last written printed =
    ((unprinted : List ℕ) × (printed ++ unprinted ≡ report_so_far_naming project left namings None))
    ⊎ (written ≡ certificate_so_far_naming project namings last)

-- A fault broke a run off: what was written and printed are fronts of the certificate and of the report, with the flows
-- of these links, of a run as far as it went, and a whole report never stands beside a part of its certificate.
pub record IsBrokenOffNaming (project : Project) (settings : Settings) (named : List ℕ) (before now : Told) : Type 0
  where
    pub certificate : List ℕ
    pub report : List ℕ
    pub breaks_off : RunNamingBreaksOff project named settings.rounds (sharpness_of settings) certificate report
    pub names : MatchOption breaks_off.last ⊤ (EndNames project breaks_off.left settings.rounds)
    pub in_order : EndsInOrderNaming project breaks_off.namings breaks_off.left breaks_off.last certificate report
    pub written : now.written ≡ append_known before.written certificate
    pub printed : now.printed ≡ append_known before.printed report

-- ---- a run as far as it has gone

-- What was found is a run that leaves a standing, as sharp as was asked for; each period has a part that names these
-- links, with vectors as near as the settings' rounds lead, and its FLOW lines.
pub record AreNamings (project : Project) (settings : Settings) (named : List ℕ) (namings : List FoundNaming)
    (left : Standing) : Type 0 where
  pub is_run : IsRun project (founds_in namings) left
  pub parts : AllByRecursion (IsFoundNaming project) namings
  pub names : AllByRecursion (NamesSharply settings.rounds named) namings
  pub sharp : AllByRecursion (IsSharpFound project (sharpness_of settings)) (founds_in namings)

-- Their records and parts are such as a certificate can hold.
abbrev pub AreEntries : Project → List FoundNaming → Type 0
AreEntries project namings = All (IsEntry (junction_count project) (tank_count project)) (entries_of namings)

-- So it is, with one record for each period that was done, and its certificate and its report as far as they go were
-- put in at the pens.
pub record IsSoFarNaming (project : Project) (settings : Settings) (named : List ℕ) (left : Standing)
    (before now : RunMoment) : Type 0 where
  pub namings : List FoundNaming
  pub are : AreNamings project settings named namings left
  pub fit : AreEntries project namings
  pub each : length namings ≡ left.number
  pub put : PutIn (certificate_so_far_naming project namings None) (report_so_far_naming project left namings None)
      before now

-- So it is, and the run's end is known and was put in too; the certificate's pen holds nothing back.
pub record IsWholeNaming (project : Project) (settings : Settings) (named : List ℕ) (outcome : Outcome)
    (before now : RunMoment) : Type 0 where
  pub namings : List FoundNaming
  pub left : Standing
  pub are : AreNamings project settings named namings left
  pub fit : AreEntries project namings
  pub few : length namings < 2 ^ 32
  pub ends_so : EndsSo project left settings.rounds outcome
  pub names : EndNames project left settings.rounds outcome
  pub put : PutIn (certificate_so_far_naming project namings (Some outcome))
      (report_so_far_naming project left namings (Some outcome)) before now
  pub emptied : now.certificate.held ≡ []

-- A fault cut a run off, whose end is known or isn't. Where the pens held nothing before, what went out of them was in
-- order.
pub record IsCutShortNaming (project : Project) (settings : Settings) (named : List ℕ) (fault : OutFault)
    (before now : RunMoment) : Type 0 where
  pub namings : List FoundNaming
  pub left : Standing
  pub are : AreNamings project settings named namings left
  pub last : Option Outcome
  pub ends_so : MatchOption last ⊤ (EndsSo project left settings.rounds)
  pub names : MatchOption last ⊤ (EndNames project left settings.rounds)
  pub cut_off : IsCutOff fault (certificate_so_far_naming project namings last)
      (report_so_far_naming project left namings last) before now
  pub in_order : before.certificate.held ≡ [] → before.report.held ≡ []
      → EndsInOrderNaming project namings left last cut_off.written.1.front cut_off.printed.1.front

-- ---- a step

-- The record of the last period, and a part behind it.
abbrev pub entry_with : SimView → FlowPart → Entry
entry_with sim part = record { row = row_of sim.row; part = part }

-- The report of the last period, and FLOW lines behind it.
abbrev pub lines_with : SimView → List FlowLine → List ℕ
lines_with sim flows =
    texts sim.project (lines_of sim.project (grid_of sim.net) (states_of sim.net) (row_of sim.row) sim.facts)
    ++ joined (map (flow_line_text sim.project) flows)

-- What a step found: the period that was due, as sharp as was asked for, a part that names these links, with vectors as
-- near as the settings' rounds lead, and its FLOW lines; a certificate can hold the record and the part.
pub record IsStepNaming (project : Project) (settings : Settings) (named : List ℕ) (before next : Standing)
    (naming : FoundNaming) : Type 0 where
  pub step : IsStep project (sharpness_of settings) before next naming.found
  pub is_found : IsFoundNaming project naming
  pub names : NamesSharply settings.rounds named naming
  pub fits : IsPart (junction_count project) naming.part

-- A period was due and was found, and its record with its part, and its report with its FLOW lines, were put in at the
-- pens.
pub record DidPeriodNaming (named : List ℕ) (sim now : SimView) (before after : RunMoment) : Type 0 where
  pub naming : FoundNaming
  pub step : IsStepNaming now.project now.settings named (standing_of sim) (standing_of now) naming
  pub fewer : periods_left now.project (standing_of now) < periods_left now.project (standing_of sim)
  pub put : PutIn (entry_text (entry_of naming)) (period_text now.project naming) before after

-- It was found, and a fault cut these off.
pub record LostPeriodNaming (named : List ℕ) (fault : OutFault) (sim now : SimView) (before after : RunMoment) : Type 0
  where
    pub naming : FoundNaming
    pub step : IsStepNaming now.project now.settings named (standing_of sim) (standing_of now) naming
    pub cut_off : IsCutInOrder fault (entry_text (entry_of naming)) (period_text now.project naming) before after

-- What a step does.
abbrev pub StepPutsNaming : List ℕ → Result (Option RunEnd) OutFault → SimView → SimView → RunMoment → RunMoment
    → Type 0
StepPutsNaming named (Ok None) sim now before after = DidPeriodNaming named sim now before after
StepPutsNaming named (Ok (Some end)) sim now before after = IsOver (outcome_of end) sim now before after
StepPutsNaming named (Err fault) sim now before after = LostPeriodNaming named fault sim now before after

-- What the steps of a run do: whatever was put in before them as a run so far is one still when they are over, or is
-- cut short.
abbrev pub StepsPutNaming : List ℕ → Result RunEnd OutFault → SimView → SimView → RunMoment → RunMoment → Type 0
StepsPutNaming named (Ok end) sim now before after =
    EndsSo sim.project (standing_of now) sim.settings.rounds (outcome_of end)
    × (EndNames sim.project (standing_of now) sim.settings.rounds (outcome_of end) × ((start : RunMoment)
    → IsSoFarNaming sim.project sim.settings named (standing_of sim) start before
    → IsSoFarNaming sim.project sim.settings named (standing_of now) start after))
StepsPutNaming named (Err fault) sim now before after = (start : RunMoment)
    → IsSoFarNaming sim.project sim.settings named (standing_of sim) start before
    → IsCutShortNaming sim.project sim.settings named fault start after

-- What a run does before the pens are emptied.
abbrev pub RunPutsNaming : Result RunEnd OutFault → Project → Settings → List ℕ → RunMoment → RunMoment → Type 0
RunPutsNaming (Ok end) project settings named before after =
    IsWholeNaming project settings named (outcome_of end) before after
RunPutsNaming (Err fault) project settings named before after =
    IsCutShortNaming project settings named fault before after
