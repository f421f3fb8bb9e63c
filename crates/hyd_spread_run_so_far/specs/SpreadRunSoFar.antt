-- A run for a spread that is put out as it goes: its certificate at one pen and its report at another.
-- Source: this program's.
use Rattle.std.specs.Prelude.{◌≡◌, ◌⊎◌, suc, ◌≤◌, ◌<◌, ◌^◌, ⊤, MatchOption, ℕ, List, [], ◌++◌, length, map, All}
use Rattle.std.specs.Prelude.{Option, Some, None, Result, Ok, Err}
use Rattle.std.specs.List.{AllByRecursion}
use Rattle.hyd_io.specs.declared.output.OutFault.{OutFault}
use Rattle.hyd_io.specs.DeskBytes.{append_known}
use Rattle.hyd_spec.specs.ProgramTypes.{Project}
use Rattle.hyd_spec.specs.Lists.{joined}
use Rattle.hyd_spec.specs.NodeNumbers.{junction_count, tank_count}
use Rattle.hyd_spec_certificates.specs.RecordAndStanding.{Standing}
use Rattle.hyd_spec_reports.specs.PromisesOfRunsAndChecks.{Sharpness, Outcome, Finished, Stopped}
use Rattle.hyd_spec_open_ends.specs.OpenStandings.{OpenStanding}
use Rattle.hyd_spec_open_ends.specs.OpenCertificateText.{open_record_text, IsOpenRow}
use Rattle.hyd_spec_open_reports.specs.OpenReportLine.{OpenLine, open_line_text}
use Rattle.hyd_spec_open_reports.specs.PromisesOfOpenReports.{cause_of}
use Rattle.hyd_spec_spread.specs.Spreads.{Spread}
use Rattle.hyd_spec_open_spreads.specs.OpenRunsForSpreads.{IsValidOpenlyOver, IsOpenRunOver, open_standing_within}
use Rattle.hyd_spec_spread_stops.specs.StopsOfSpreads.{EndsOverSo}
use Rattle.hyd_spec_spread_reports.specs.SpreadReport.{IsSpreadReport}
use Rattle.hyd_spec_spread_reports.specs.ClaimsWithinSpreads.{ReportedOver, AreReportsOver, periods_over}
use Rattle.hyd_spec_spread_promises.specs.SharpOverSpreads.{IsSharpWithin}
use Rattle.hyd_spec_spread_promises.specs.PromisesOfSpreadRuns.{rows_over, certificate_over, report_over, EndIsOver}
use Rattle.hyd_spec_spread_promises.specs.PromisesOfSpreadRuns.{RunTellsOver, RunBreaksOffOver}
use Rattle.hyd_spread_stops.specs.StuckOverSpreads.{NamesStuckOver}
use Rattle.hyd_run.specs.Pens.{Told, RunMoment, PutIn, IsCutOff, IsCutInOrder}
use Rattle.hyd_run.specs.Runs.{outcome_of, periods_left}
use Rattle.hyd_run.specs.declared.outcome.RunEnd.{RunEnd}

-- ---- what is asked of a run, and how it ends

-- For which spread it is, by how many seconds an end may be open, the most rounds toward one vector, and how sharp the
-- run is to be.
pub record Asked : Type 0 where
  pub spread : Spread
  pub slack : ℕ
  pub rounds : ℕ
  pub sharpness : Sharpness

-- Where a run ended since no vector is a certificate, the junction that is named has no value at heads that were
-- reached.
abbrev pub EndNamesOver : Project → Spread → Standing → ℕ → Outcome → Type 0
EndNamesOver project spread left rounds Finished = ⊤
EndNamesOver project spread left rounds (Stopped cause) = NamesStuckOver project spread left rounds cause

-- A run ended so: its cause holds, and where no vector is a certificate, the junction that is named has no value at
-- heads that were reached.
pub record IsEnd (project : Project) (asked : Asked) (left : OpenStanding) (outcome : Outcome) : Type 0 where
  pub ends_so : EndsOverSo project asked.spread left asked.slack asked.rounds (cause_of outcome)
  pub names : EndNamesOver project asked.spread left.known asked.rounds outcome

-- Each period is as sharp as was asked for.
abbrev pub AreSharp : Project → Asked → List ReportedOver → Type 0
AreSharp project asked reports =
    AllByRecursion (λ (each : ReportedOver). IsSharpWithin project asked.spread asked.sharpness each.here) reports

-- A certificate of version 4 can hold the records.
abbrev pub Fit : Project → List ReportedOver → Type 0
Fit project reports =
    All (IsOpenRow (junction_count project) (tank_count project)) (rows_over (periods_over reports))

-- The bytes of some lines.
abbrev pub open_texts : Project → List OpenLine → List ℕ
open_texts project lines = joined (map (open_line_text project) lines)

-- ---- what was put out

-- The whole certificate of a run was written and its whole report printed.
pub record IsPutOutOver (project : Project) (asked : Asked) (outcome : Outcome) (before now : Told) : Type 0 where
  pub certificate : List ℕ
  pub report : List ℕ
  pub tells : RunTellsOver project asked.spread asked.slack asked.rounds asked.sharpness outcome certificate report
  pub names : EndNamesOver project asked.spread tells.left.known asked.rounds outcome
  pub written : now.written ≡ append_known before.written certificate
  pub printed : now.printed ≡ append_known before.printed report

-- Something of the last line of a report was printed only after all of the certificate was written: what was printed
-- is a front of the other lines, or nothing of the certificate is unwritten.
abbrev pub EndsInOrderOver : Project → Spread → List ReportedOver → OpenStanding → Option Outcome
    → (written printed : List ℕ)
    → Type 0
EndsInOrderOver project spread reports left last written printed =
    ((unprinted : List ℕ) × (printed ++ unprinted ≡ report_over project spread left reports None))
    ⊎ (written ≡ certificate_over project reports last)

-- A fault broke a run off: what was written and printed are fronts of the certificate and of the report of a run as
-- far as it went, and a whole report never stands beside a part of its certificate.
pub record IsBrokenOffOver (project : Project) (asked : Asked) (before now : Told) : Type 0 where
  pub certificate : List ℕ
  pub report : List ℕ
  pub breaks_off : RunBreaksOffOver project asked.spread asked.slack asked.rounds asked.sharpness certificate report
  pub names : MatchOption breaks_off.last ⊤ (EndNamesOver project asked.spread breaks_off.left.known asked.rounds)
  pub in_order : EndsInOrderOver project asked.spread breaks_off.reports breaks_off.left breaks_off.last certificate
      report
  pub written : now.written ≡ append_known before.written certificate
  pub printed : now.printed ≡ append_known before.printed report

-- ---- a run as far as it has gone

-- What a step found: the period that was due, open by no more than the slack and as sharp as was asked for, and its
-- report.
pub record IsSpreadStep (project : Project) (asked : Asked) (before next : OpenStanding) (each : ReportedOver) : Type 0
  where
    pub begins : each.here.standing ≡ before
    pub leaves : each.here.next ≡ next
    pub valid : IsValidOpenlyOver project asked.spread each.here.standing each.here.pair each.here.found each.here.next
    pub within : each.here.next.late ≤ asked.slack
    pub report : IsSpreadReport project each.here.pair each.here.standing each.here.found each.lines
    pub sharp : IsSharpWithin project asked.spread asked.sharpness each.here
    pub fits : IsOpenRow (junction_count project) (tank_count project) each.here.found
    pub number : next.known.number ≡ suc before.known.number

-- What was found so far is a run that leaves a standing, as sharp as was asked for, with one record for each period
-- that was done, and its certificate and its report as far as they go were put in at the pens.
pub record IsSoFar (project : Project) (asked : Asked) (left : OpenStanding) (before now : RunMoment) : Type 0 where
  pub reports : List ReportedOver
  pub is_run : IsOpenRunOver project asked.spread asked.slack (periods_over reports) left
  pub are_reports : AreReportsOver project reports
  pub sharp : AreSharp project asked reports
  pub fit : Fit project reports
  pub each : length reports ≡ left.known.number
  pub put : PutIn (certificate_over project reports None) (report_over project asked.spread left reports None)
      before now

-- So it is, and the run's end is known and was put in too; the certificate's pen holds nothing back.
pub record IsWhole (project : Project) (asked : Asked) (outcome : Outcome) (before now : RunMoment) : Type 0 where
  pub reports : List ReportedOver
  pub left : OpenStanding
  pub is_run : IsOpenRunOver project asked.spread asked.slack (periods_over reports) left
  pub are_reports : AreReportsOver project reports
  pub sharp : AreSharp project asked reports
  pub fit : Fit project reports
  pub few : length reports < 2 ^ 32
  pub end : IsEnd project asked left outcome
  pub put : PutIn (certificate_over project reports (Some outcome))
      (report_over project asked.spread left reports (Some outcome)) before now
  pub emptied : now.certificate.held ≡ []

-- A fault cut a run off, whose end is known or isn't. Where the pens held nothing before, what went out of them was in
-- order.
pub record IsCutShort (project : Project) (asked : Asked) (fault : OutFault) (before now : RunMoment) : Type 0 where
  pub reports : List ReportedOver
  pub left : OpenStanding
  pub is_run : IsOpenRunOver project asked.spread asked.slack (periods_over reports) left
  pub are_reports : AreReportsOver project reports
  pub sharp : AreSharp project asked reports
  pub last : Option Outcome
  pub ends_so : EndIsOver project asked.spread left asked.slack asked.rounds last
  pub names : MatchOption last ⊤ (EndNamesOver project asked.spread left.known asked.rounds)
  pub cut_off : IsCutOff fault (certificate_over project reports last)
      (report_over project asked.spread left reports last) before now
  pub in_order : before.certificate.held ≡ [] → before.report.held ≡ []
      → EndsInOrderOver project asked.spread reports left last cut_off.written.1.front cut_off.printed.1.front

-- ---- one period

-- A period was due and was found, and its record and its report were put in at the pens.
pub record DidPeriod (project : Project) (asked : Asked) (left next : OpenStanding) (before after : RunMoment) : Type 0
  where
    pub each : ReportedOver
    pub step : IsSpreadStep project asked left next each
    pub put : PutIn (open_record_text each.here.found) (open_texts project each.lines) before after

-- It was found, and a fault cut its record and its report off.
pub record LostPeriod (fault : OutFault) (project : Project) (asked : Asked) (left next : OpenStanding)
    (before after : RunMoment) : Type 0 where
  pub each : ReportedOver
  pub step : IsSpreadStep project asked left next each
  pub cut_off : IsCutInOrder fault (open_record_text each.here.found) (open_texts project each.lines) before after

-- The run is over, at a standing that stays, and nothing was put in.
pub record IsOver (project : Project) (asked : Asked) (outcome : Outcome) (left next : OpenStanding)
    (before after : RunMoment) : Type 0 where
  pub stays : next ≡ left
  pub end : IsEnd project asked next outcome
  pub nothing : after ≡ before

-- What a step does between two standings. After a period fewer are left.
abbrev pub StepPuts : Result (Option RunEnd) OutFault → Project → Asked → OpenStanding → OpenStanding → RunMoment
    → RunMoment → Type 0
StepPuts (Ok None) project asked left next before after =
    DidPeriod project asked left next before after
    × (periods_left project next.known < periods_left project left.known)
StepPuts (Ok (Some end)) project asked left next before after =
    IsOver project asked (outcome_of end) left next before after
StepPuts (Err fault) project asked left next before after = LostPeriod fault project asked left next before after

-- What the steps of a run do: whatever was put in before them as a run so far is one still when they are over, or is
-- cut short.
abbrev pub StepsPut : Result RunEnd OutFault → Project → Asked → OpenStanding → OpenStanding → RunMoment → RunMoment
    → Type 0
StepsPut (Ok end) project asked left next before after =
    IsEnd project asked next (outcome_of end) × ((start : RunMoment) → IsSoFar project asked left start before
    → IsSoFar project asked next start after)
StepsPut (Err fault) project asked left next before after = (start : RunMoment)
    → IsSoFar project asked left start before → IsCutShort project asked fault start after

-- ---- its first and its last lines

-- What the first lines give: a run that has done no period, or one that is cut short.
abbrev pub RunBegins : Result (Unit {0}) OutFault → Project → Asked → RunMoment → RunMoment → Type 0
RunBegins (Ok done) project asked before after =
    IsSoFar project asked (open_standing_within project asked.spread) before after
RunBegins (Err fault) project asked before after = IsCutShort project asked fault before after

-- What a run does before the pens are emptied.
abbrev pub RunPuts : Result RunEnd OutFault → Project → Asked → RunMoment → RunMoment → Type 0
RunPuts (Ok end) project asked before after = IsWhole project asked (outcome_of end) before after
RunPuts (Err fault) project asked before after = IsCutShort project asked fault before after
