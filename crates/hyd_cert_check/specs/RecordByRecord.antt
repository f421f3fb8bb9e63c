-- A check as it goes: one record after another, each with the part behind it, and what is found where they end. A text
-- without flows has parts that name no link.
-- Source: this program's.
use Rattle.std.specs.Prelude.{◌≡◌, ◌⊎◌, ℕ, ◌+◌, ◌<◌, ◌^◌, suc, Bool, true, false, List, [], ◌++◌, length, map, All}
use Rattle.std.specs.Prelude.{Option}
use Rattle.std.specs.Prelude.{Some, None, Result, Ok, Err}
use Rattle.std.specs.List.{AllByRecursion}
use Rattle.hyd_io.specs.declared.output.OutFault.{OutFault}
use Rattle.hyd_io.specs.DeskBytes.{append_known, prepend_known, where_told}
use Rattle.hyd_spec.specs.ProgramTypes.{Project}
use Rattle.hyd_spec.specs.Lists.{joined}
use Rattle.hyd_spec.specs.NodeNumbers.{junction_count, tank_count}
use Rattle.hyd_spec_certificates.specs.RecordAndStanding.{Standing}
use Rattle.hyd_spec_certificates.specs.Valid.{AreCertificates}
use Rattle.hyd_spec_certificates.specs.CertificateText.{IsRow, record_text, end_line, line_feeds}
use Rattle.hyd_spec_reports.specs.ReportLine.{refused_line, refused_end_line}
use Rattle.hyd_spec_certificates.specs.declared.CertRefused.{CertRefused}
use Rattle.hyd_spec_certificates.specs.RefusedRecords.{IsRefused}
use Rattle.hyd_spec_reports.specs.PromisesOfRunsAndChecks.{Found, IsFound, IsRun, accepted_line}
use Rattle.hyd_spec_flows.specs.FlowParts.{FlowPart as Part, IsRefusedPart}
use Rattle.hyd_spec_flows.specs.FlowTexts.{Entry}
use Rattle.hyd_spec_reports_with_flows.specs.FlowLines.{refused_flow_line}
use Rattle.hyd_spec_reports_with_flows.specs.PromisesWithFlows.{FoundNaming, IsFoundNaming, founds_in, entry_of}
use Rattle.hyd_spec_reports_with_flows.specs.PromisesWithFlows.{entries_of}
use Rattle.hyd_spec_reports_with_flows.specs.PromisesWithFlows.{period_text, report_so_far_naming}
use Rattle.hyd_spec_flows.specs.declared.FlowFails.{FlowFails}
use Rattle.hyd_cert.specs.Lines.{Header, header_text}
use Rattle.hyd_cert.specs.PlacesOfLines.{IsFault, heads_in}
use Rattle.hyd_cert.specs.Faults.{lines_on, HasOtherHeader}
use Rattle.hyd_cert.specs.ReaderView.{IsGoing, to_come, lead_lines, place_of}
use Rattle.hyd_cert.specs.ReaderWithFlows.{as_read, lead_as_read, part_behind, IsPartBehind, part_lines, IsStuckFrom}
use Rattle.hyd_cert.specs.ReaderWithFlows.{HasOtherCounts, HasNoFlows, LacksRecordAsRead}
use Rattle.hyd_cert.specs.declared.answers_of_reader.Stand.{Stand}
use Rattle.hyd_cert.specs.declared.answers_of_reader.Stand.TheVariants as stand
use Rattle.hyd_cert.specs.RecordView.{row_of}
use Rattle.hyd_period_network.specs.NetAsPeriodNetwork.{grid_of, states_of}
use Rattle.hyd_period_network.specs.LawsInSettings.{AreStates}
use Rattle.hyd_period_facts.specs.FactsBeforeEnd.{HaveTanks}
use Rattle.hyd_sim.specs.RunView.{SimView, standing_of, header_for}
use Rattle.hyd_run.specs.Runs.{periods_left}
use Rattle.hyd_spec_check_ends.specs.LinesOfRefusals.{refused_grammar_line, refused_counts_line}
use Rattle.hyd_cert_check.specs.Checks.{CheckEnds, CheckFinds}
use Rattle.hyd_cert_check.specs.ReaderAndPen.{CheckMoment, IsOpen, PutIn, IsCutOff}
use Rattle.hyd_spec_check_ends.specs.declared.CheckEnd.{CheckEnd}
use Rattle.hyd_spec_check_ends.specs.declared.CheckEnd.TheVariants as ends
use Rattle.hyd_cert_check.specs.declared.outcome.CheckFault.{CheckFault}
use Rattle.hyd_cert_check.specs.declared.outcome.CheckFault.TheVariants.{Output}
use Rattle.hyd_cert_check.specs.declared.outcome.Conclusion.{Conclusion}
use Rattle.hyd_cert_check.specs.declared.outcome.Conclusion.TheVariants.{Accepted, Refused, RefusedPart, OtherEnd}
use Rattle.hyd_cert_check.specs.declared.outcome.Conclusion.TheVariants.{Grammar}
use Rattle.hyd_cert_check.specs.declared.outcome.Conclusion.TheVariants.{Counts}
use Rattle.hyd_theorems_on_definitions.specs.SoundLawsAndGrids.{TanksInOrder}

-- ---- one record

-- What is still to come of the text at a moment.
abbrev pub coming : CheckMoment → Option (List ℕ)
coming at = to_come at.reader at.told.rest

-- The lines of a record and of the part behind it, where the text has flows.
abbrev pub entry_as_read : Bool → Entry → List ℕ
entry_as_read flows entry = record_text entry.row ++ part_behind flows entry.part

-- A record that a certificate can hold, and such a part behind it; none, where the text has no flows.
pub record IsEntryAsRead (flows : Bool) (junctions tanks : ℕ) (entry : Entry) : Type 0 where
  pub row : IsRow junctions tanks entry.row
  pub part : IsPartBehind flows junctions entry.part

-- Behind the header line the reader keeps in mind whether the text has flows.
pub record KeepsFlows (before now : CheckMoment) : Type 0 where
  pub same : before.reader.stand ≡ stand.Between → now.reader.flows ≡ before.reader.flows

-- A record was read that a certificate can hold, with the part behind it: they stand before what is to come now, behind
-- the header line if that was to come too, and the reader stands behind them.
pub record IsRead (header : Header) (entry : Entry) (before now : CheckMoment) : Type 0 where
  pub text : coming before ≡ prepend_known (lead_as_read now.reader.flows before.reader.stand header
      ++ entry_as_read now.reader.flows entry) (coming now)
  pub fits : IsEntryAsRead now.reader.flows header.junctions header.tanks entry
  pub stands : now.reader.stand ≡ stand.Between
  pub lines : now.reader.line ≡ lines_on before.reader.line (lead_lines before.reader.stand
      + heads_in header.junctions header.tanks + part_lines now.reader.flows header.junctions entry.part)
  pub keeps : KeepsFlows before now

-- The record that was due was read, and what was found of it.
pub record IsStep (project : Project) (left next : Standing) (found : Found) : Type 0 where
  pub begins : found.standing ≡ left
  pub leaves : found.next ≡ next
  pub is_found : IsFound project found
  pub number : next.number ≡ suc left.number

-- The reader goes on at its place, and the pen is open.
pub record CanGoOn (at : CheckMoment) : Type 0 where
  pub going : IsGoing at.reader.stand
  pub pen : IsOpen at.pen

-- A record was read, and accepted as that of the period that was due, and so was its part, and its report was put in.
pub record DidRecord (sim now : SimView) (before after : CheckMoment) : Type 0 where
  pub naming : FoundNaming
  pub step : IsStep now.project (standing_of sim) (standing_of now) naming.found
  pub part : IsFoundNaming now.project naming
  pub read : IsRead (header_for now.project) (entry_of naming) before after
  pub fewer : periods_left now.project (standing_of now) < periods_left now.project (standing_of sim)
  pub put : PutIn (period_text now.project naming) before after

-- So it was, and a fault cut its report off.
pub record LostRecord (fault : CheckFault) (sim now : SimView) (before after : CheckMoment) : Type 0 where
  pub naming : FoundNaming
  pub step : IsStep now.project (standing_of sim) (standing_of now) naming.found
  pub part : IsFoundNaming now.project naming
  pub read : IsRead (header_for now.project) (entry_of naming) before after
  pub cut_off : IsCutOff fault (period_text now.project naming) before after

-- A fault cut the reading or the printing off.
pub data IsLost (fault : CheckFault) (sim now : SimView) (before after : CheckMoment) : Type 0 where
  in_reading : IsCutOff fault [] before after → IsLost fault sim now before after
  in_report : LostRecord fault sim now before after → IsLost fault sim now before after

-- What a run left of its last period is of one period: the vectors are its certificates, the net is that of the period,
-- and the facts are its own.
pub record IsOfPeriod (sim : SimView) : Type 0 where
  pub certificates : AreCertificates sim.project (grid_of sim.net) (row_of sim.row)
  pub have : HaveTanks sim.project sim.facts
  pub order : TanksInOrder (grid_of sim.net)
  pub states : AreStates sim.project (states_of sim.net)
  pub links : states_of sim.net ≡ sim.facts.links.list

-- ---- where the records end

-- The next record was read, and is refused at the standing.
pub record IsRefusedNext (project : Project) (left : Standing) (cause : CertRefused) (before now : CheckMoment) : Type 0
  where
    pub entry : Entry
    pub read : IsRead (header_for project) entry before now
    pub refused : IsRefused project left entry.row cause

-- The next record was read, and is accepted at the standing; the part behind it is refused, and this is the number of
-- the record.
pub record IsPartRefusedNext (project : Project) (left : Standing) (period : ℕ) (cause : FlowFails)
    (before now : CheckMoment) : Type 0 where
  pub found : Found
  pub part : Part
  pub begins : found.standing ≡ left
  pub is_found : IsFound project found
  pub read : IsRead (header_for project) (record { row = found.row; part = part }) before now
  pub refused : IsRefusedPart found.grid found.row part cause
  pub number : period ≡ found.row.number

-- The END line was read, is what is left of the text, and the reader stands behind it.
pub record IsEnd (project : Project) (periods : ℕ) (finished : Bool) (before now : CheckMoment) : Type 0 where
  pub text : coming before ≡ where_told before.told.rest
      (lead_as_read now.reader.flows before.reader.stand (header_for project) ++ end_line periods finished)
  pub line : now.reader.line ≡ lines_on before.reader.line (lead_lines before.reader.stand)
  pub fits : periods < 2 ^ 32
  pub keeps : KeepsFlows before now

-- It says something else than that so many records stand before it, and whether the run is finished.
pub record IsOtherEnd (project : Project) (left : Standing) (before now : CheckMoment) : Type 0 where
  pub periods : ℕ
  pub finished : Bool
  pub is_end : IsEnd project periods finished before now
  pub few : left.number < 2 ^ 32
  pub other : ((periods ≡ left.number) × (finished ≡ left.finished)) → ⊥

-- Of a text that goes on where a reader stands, the line of this number, counted from 1, is the first that can't stand
-- where it does.
abbrev pub IsFaultyLine : Bool → Header → Stand → Option (List ℕ) → ℕ → Type 0
IsFaultyLine true header at text offset = IsStuckFrom header at text offset
IsFaultyLine false header at text offset = IsFault header (place_of at) text offset

-- The line of this number is the first that can't stand where it does, and no whole record stands before it, nor, where
-- the text has no flows, the header line of version 3.
pub record IsGrammarFault (project : Project) (line : ℕ) (before now : CheckMoment) : Type 0 where
  pub offset : ℕ
  pub number : line ≡ lines_on before.reader.line offset
  pub fault : IsFaultyLine now.reader.flows (header_for project) before.reader.stand (coming before) offset
  pub no_record : LacksRecordAsRead now.reader.flows before.reader.stand (header_for project) (coming before)
  pub no_flows : before.reader.stand ≡ stand.First → now.reader.flows ≡ false
      → HasNoFlows (header_for project) (coming before)
  pub keeps : KeepsFlows before now

-- A text begins with a header line of another version or of other counts; of version 3, where it has flows.
abbrev pub IsOtherHeader : Bool → Header → Option (List ℕ) → Type 0
IsOtherHeader true header text = HasOtherCounts header text
IsOtherHeader false header text = HasOtherHeader header text

-- The text goes on with such a header line.
pub record IsCountsFault (project : Project) (line : ℕ) (before now : CheckMoment) : Type 0 where
  pub first : before.reader.stand ≡ stand.First
  pub number : line ≡ lines_on before.reader.line 1
  pub other_header : IsOtherHeader now.reader.flows (header_for project) (coming before)

-- What is found at a standing where the records end.
abbrev pub IsSo : Conclusion → Project → Standing → CheckMoment → CheckMoment → Type 0
IsSo (Accepted finished) project left before now =
    IsEnd project left.number finished before now × (finished ≡ left.finished)
IsSo (Refused cause) project left before now = IsRefusedNext project left cause before now
IsSo (RefusedPart period cause) project left before now = IsPartRefusedNext project left period cause before now
IsSo (OtherEnd line) project left before now = IsOtherEnd project left before now × (line ≡ now.reader.line)
IsSo (Grammar line) project left before now = IsGrammarFault project line before now
IsSo (Counts line) project left before now = IsCountsFault project line before now

-- The last line of a report on so many records.
abbrev pub conclusion_line : Project → ℕ → Conclusion → List ℕ
conclusion_line project count (Accepted finished) = accepted_line count finished
conclusion_line project count (Refused cause) = refused_line project cause
conclusion_line project count (RefusedPart period cause) = refused_flow_line project period cause
conclusion_line project count (OtherEnd line) = refused_end_line line
conclusion_line project count (Grammar line) = refused_grammar_line line
conclusion_line project count (Counts line) = refused_counts_line line

-- The records end at a standing: nothing was put in. Where the run doesn't stand there any more, as behind a record
-- whose part is refused, the last line is the same.
pub record IsOver (conclusion : Conclusion) (sim now : SimView) (before after : CheckMoment) : Type 0 where
  pub is_so : IsSo conclusion now.project (standing_of sim) before after
  pub last : conclusion_line now.project (standing_of now).number conclusion
      ≡ conclusion_line now.project (standing_of sim).number conclusion
  pub put : PutIn [] before after

-- What one turn gives: a record was accepted, or the records end, or a fault broke it off.
abbrev pub TurnGives : Result (Option Conclusion) CheckFault → SimView → SimView → CheckMoment → CheckMoment → Type 0
TurnGives (Ok None) sim now before after = DidRecord sim now before after
TurnGives (Ok (Some conclusion)) sim now before after = IsOver conclusion sim now before after
TurnGives (Err fault) sim now before after = IsLost fault sim now before after

-- What a record that was read gives: it was accepted with its part, or one of them is refused, or a fault cut its
-- report off.
abbrev pub TryGives : Result (Option Conclusion) OutFault → SimView → SimView → CheckMoment → CheckMoment → Type 0
TryGives (Ok None) sim now before after = DidRecord sim now before after
TryGives (Ok (Some conclusion)) sim now before after = IsOver conclusion sim now before after
TryGives (Err why) sim now before after = LostRecord (Output why) sim now before after

-- ---- a check as far as it has gone

-- The text of a header line and of some entries.
abbrev pub read_text : Bool → Header → List Entry → List ℕ
read_text flows header entries = header_text (as_read flows header) ++ joined (map (entry_as_read flows) entries)

-- Of the text to come at first, nothing was read, or the header line and these entries.
pub data IsReadTo (project : Project) (before now : CheckMoment) : List Entry → Type 0 where
  nothing : now.reader.stand ≡ stand.First → coming now ≡ coming before → now.reader.line ≡ 0
      → IsReadTo project before now []
  entries : {all : List Entry} → now.reader.stand ≡ stand.Between
      → coming before ≡ prepend_known (read_text now.reader.flows (header_for project) all) (coming now)
      → now.reader.line ≡ lines_on 0 (line_feeds (read_text now.reader.flows (header_for project) all))
      → IsReadTo project before now all

-- What was found so far is a run that leaves a standing, with one record for each period that was done; its records and
-- their parts were read, and its report as far as it goes was put in at the pen.
pub record IsSoFar (project : Project) (left : Standing) (before now : CheckMoment) : Type 0 where
  pub namings : List FoundNaming
  pub is_run : IsRun project (founds_in namings) left
  pub parts : AllByRecursion (IsFoundNaming project) namings
  pub fit : All (IsEntryAsRead now.reader.flows (junction_count project) (tank_count project)) (entries_of namings)
  pub each : length namings ≡ left.number
  pub read : IsReadTo project before now (entries_of namings)
  pub put : PutIn (report_so_far_naming project left namings None) before now

-- How a check ends with what is found.
abbrev pub end_of : Conclusion → CheckEnd
end_of (Accepted finished) = ends.Accepted
end_of (Refused cause) = ends.Refused
end_of (RefusedPart period cause) = ends.Refused
end_of (OtherEnd line) = ends.Refused
end_of (Grammar line) = ends.Refused
end_of (Counts line) = ends.Refused

-- The report of the whole text was put in.
pub record IsWhole (project : Project) (end : CheckEnd) (before now : CheckMoment) : Type 0 where
  pub report : List ℕ
  pub holds : (text : List ℕ) → coming before ≡ Some text → CheckEnds project text report end
  pub put : PutIn report before now

-- A fault cut off the report of the whole text, or that of what was found so far.
pub record IsCutShort (project : Project) (fault : CheckFault) (before now : CheckMoment) : Type 0 where
  pub report : List ℕ
  pub holds : (text : List ℕ) → coming before ≡ Some text
      → ((end : CheckEnd) × CheckEnds project text report end) ⊎ CheckFinds project text report
  pub cut_off : IsCutOff fault report before now

-- Where the records end: what was put in before as a check so far is one still, and this is found; the last line is
-- that of a run which has done so many periods.
pub record AllRead (conclusion : Conclusion) (project : Project) (count : ℕ)
    (start now : CheckMoment) : Type 0 where
  pub at_last : CheckMoment
  pub left : Standing
  pub so_far : IsSoFar project left start at_last
  pub is_so : IsSo conclusion project left at_last now
  pub last : conclusion_line project count conclusion ≡ conclusion_line project left.number conclusion
  pub put : PutIn [] at_last now

-- What the turns of a check do: whatever was put in before them as a check so far is one still where the records end,
-- or is cut short.
abbrev pub TurnsGive : Result Conclusion CheckFault → SimView → SimView → CheckMoment → CheckMoment → Type 0
TurnsGive (Ok conclusion) sim now before after =
    (start : CheckMoment) → IsSoFar sim.project (standing_of sim) start before
    → AllRead conclusion sim.project (standing_of now).number start after
TurnsGive (Err fault) sim now before after =
    (start : CheckMoment) → IsSoFar sim.project (standing_of sim) start before
    → IsCutShort sim.project fault start after

-- What a check does before the pen is emptied.
abbrev pub CheckPuts : Result CheckEnd CheckFault → Project → CheckMoment → CheckMoment → Type 0
CheckPuts (Ok end) project before after = IsWhole project end before after
CheckPuts (Err fault) project before after = IsCutShort project fault before after

-- A text was printed of which this holds.
pub record IsPrinted (P : List ℕ → Type 0) (before now : Option (List ℕ)) : Type 0 where
  pub report : List ℕ
  pub holds : P report
  pub printed : now ≡ append_known before report
