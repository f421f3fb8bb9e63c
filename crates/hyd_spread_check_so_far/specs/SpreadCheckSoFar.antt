-- A check of a certificate of version 4 as that of a run for a spread, as it goes: one record after another, and what
-- is found where they end.
-- Source: this program's.
use Rattle.std.specs.Prelude.{◌≡◌, ◌⊎◌, ℕ, ◌+◌, ◌<◌, ◌^◌, suc, Bool, List, [], ◌++◌, length, map, Option, Some, None}
use Rattle.std.specs.Prelude.{Result, Ok, Err, IfSome}
use Rattle.hyd_io.specs.DeskBytes.{prepend_known, where_told}
use Rattle.hyd_spec.specs.ProgramTypes.{Project}
use Rattle.hyd_spec.specs.Lists.{joined}
use Rattle.hyd_spec_certificates.specs.CertificateText.{end_line}
use Rattle.hyd_spec_certificates.specs.declared.CertRefused.{CertRefused}
use Rattle.hyd_spec_reports.specs.ReportLine.{refused_line, refused_end_line}
use Rattle.hyd_spec_reports.specs.PromisesOfRunsAndChecks.{accepted_line}
use Rattle.hyd_spec_open_ends.specs.OpenStandings.{OpenStanding, OpenRecord}
use Rattle.hyd_spec_open_ends.specs.OpenCertificateText.{open_record_text, IsOpenRow}
use Rattle.hyd_spec_open_checks.specs.OpenChecks.{open_header_for}
use Rattle.hyd_spec_spread.specs.Spreads.{Spread}
use Rattle.hyd_spec_open_spreads.specs.OpenRunsForSpreads.{IsValidOpenlyOver, IsOpenRunOver, open_standing_within}
use Rattle.hyd_spec_spread_refusals.specs.RefusedSpreadRecords.{IsRefusedOver}
use Rattle.hyd_spec_spread_reports.specs.SpreadReport.{IsSpreadReport}
use Rattle.hyd_spec_spread_reports.specs.ClaimsWithinSpreads.{ReportedOver, AreReportsOver, periods_over, lines_over}
use Rattle.hyd_spec_spread_reports.specs.TextsOfSpreadReports.{spread_report_text}
use Rattle.hyd_spec_spread_promises.specs.PromisesOfSpreadRuns.{rows_over}
use Rattle.hyd_spec_spread_promises.specs.PromisesOfSpreadChecks.{CheckEndsOver, CheckFindsOver}
use Rattle.hyd_cert.specs.Lines.{Header, header_text}
use Rattle.hyd_cert.specs.PlacesOfLines.{heads_in}
use Rattle.hyd_cert.specs.Faults.{lines_on}
use Rattle.hyd_cert.specs.ReaderView.{lead, lead_lines}
use Rattle.hyd_cert.specs.declared.answers_of_reader.Stand.TheVariants as stand
use Rattle.hyd_open_certificates.specs.OpenTexts.{open_lines_of as lines_with_records}
use Rattle.hyd_open_certificates.specs.OpenFaults.{IsOpenFault, LacksOpenRecord, HasOtherOpenHeader}
use Rattle.hyd_cert_check.specs.PassedOn.{periods_left}
use Rattle.hyd_spec_check_ends.specs.LinesOfRefusals.{refused_grammar_line, refused_counts_line}
use Rattle.hyd_cert_check.specs.ReaderAndPen.{CheckMoment, PutIn, IsCutOff}
use Rattle.hyd_cert_check.specs.RecordByRecord.{coming}
use Rattle.hyd_spec_check_ends.specs.declared.CheckEnd.{CheckEnd}
use Rattle.hyd_spec_check_ends.specs.declared.CheckEnd.TheVariants as ends
use Rattle.hyd_cert_check.specs.declared.outcome.CheckFault.{CheckFault}
use Rattle.hyd_spread_run_so_far.specs.SpreadRunSoFar.{Fit, open_texts}
use Rattle.hyd_spread_check_so_far.specs.declared.conclusion.SpreadConclusion.{SpreadConclusion}
use Rattle.hyd_spread_check_so_far.specs.declared.conclusion.SpreadConclusion.TheVariants.{Accepted, Refused, OtherEnd}
use Rattle.hyd_spread_check_so_far.specs.declared.conclusion.SpreadConclusion.TheVariants.{Grammar, Counts}

-- ---- one record

-- A record was read that a certificate can hold: it stands before what is to come now, behind the header line if that
-- was to come too, and the reader stands behind it.
pub record IsRead (header : Header) (found : OpenRecord) (before now : CheckMoment) : Type 0 where
  pub text : coming before ≡ prepend_known (lead before.reader.stand header ++ open_record_text found) (coming now)
  pub fits : IsOpenRow header.junctions header.tanks found
  pub stands : now.reader.stand ≡ stand.Between
  pub lines : now.reader.line ≡ lines_on before.reader.line (lead_lines before.reader.stand
      + heads_in header.junctions header.tanks)

-- The record that was due was read, it is valid for the spread, whatever is open at its end, and these are the lines
-- of its report.
pub record IsSpreadStep (project : Project) (spread : Spread) (left next : OpenStanding) (each : ReportedOver) : Type 0
  where
    pub begins : each.here.standing ≡ left
    pub leaves : each.here.next ≡ next
    pub valid : IsValidOpenlyOver project spread each.here.standing each.here.pair each.here.found each.here.next
    pub report : IsSpreadReport project each.here.pair each.here.standing each.here.found each.lines
    pub number : next.known.number ≡ suc left.known.number

-- A record was read, and accepted as that of the period that was due, and its report was put in. Fewer periods are
-- left.
pub record DidRecord (project : Project) (spread : Spread) (left next : OpenStanding) (before after : CheckMoment)
    : Type 0 where
  pub each : ReportedOver
  pub step : IsSpreadStep project spread left next each
  pub read : IsRead (open_header_for project) each.here.found before after
  pub fewer : periods_left project next.known < periods_left project left.known
  pub put : PutIn (open_texts project each.lines) before after

-- So it was, and a fault cut its report off.
pub record LostRecord (fault : CheckFault) (project : Project) (spread : Spread) (left next : OpenStanding)
    (before after : CheckMoment) : Type 0 where
  pub each : ReportedOver
  pub step : IsSpreadStep project spread left next each
  pub read : IsRead (open_header_for project) each.here.found before after
  pub cut_off : IsCutOff fault (open_texts project each.lines) before after

-- A fault cut the reading or the printing off.
pub data IsLost (fault : CheckFault) (project : Project) (spread : Spread) (left next : OpenStanding)
    (before after : CheckMoment) : Type 0 where
  in_reading : IsCutOff fault [] before after → IsLost fault project spread left next before after
  in_report : LostRecord fault project spread left next before after
      → IsLost fault project spread left next before after

-- ---- where the records end

-- The next record was read, and is refused at the standing.
pub record IsRefusedNext (project : Project) (spread : Spread) (left : OpenStanding) (cause : CertRefused)
    (before now : CheckMoment) : Type 0 where
  pub found : OpenRecord
  pub read : IsRead (open_header_for project) found before now
  pub refused : IsRefusedOver project spread left found cause

-- The END line was read, is what is left of the text, and the reader stands behind it.
pub record IsEndLine (project : Project) (periods : ℕ) (finished : Bool) (before now : CheckMoment) : Type 0 where
  pub text : coming before ≡ where_told before.told.rest
      (lead before.reader.stand (open_header_for project) ++ end_line periods finished)
  pub line : now.reader.line ≡ lines_on before.reader.line (lead_lines before.reader.stand)
  pub fits : periods < 2 ^ 32

-- It says something else than that so many records stand before it, and whether the run is finished.
pub record IsOtherEnd (project : Project) (left : OpenStanding) (before now : CheckMoment) : Type 0 where
  pub periods : ℕ
  pub finished : Bool
  pub is_end : IsEndLine project periods finished before now
  pub few : left.known.number < 2 ^ 32
  pub other : ((periods ≡ left.known.number) × (finished ≡ left.known.finished)) → ⊥

-- The line of this number is the first that can't stand where it does, and no whole record stands before it.
pub record IsGrammarFault (project : Project) (line : ℕ) (before now : CheckMoment) : Type 0 where
  pub offset : ℕ
  pub number : line ≡ lines_on before.reader.line offset
  pub fault : IfSome (coming before) (λ text. IsOpenFault (open_header_for project) before.reader.stand text offset)
  pub no_record : LacksOpenRecord before.reader.stand (open_header_for project) (coming before)

-- The text goes on with a header line of version 4 of other counts.
pub record IsCountsFault (project : Project) (line : ℕ) (before now : CheckMoment) : Type 0 where
  pub first : before.reader.stand ≡ stand.First
  pub number : line ≡ lines_on before.reader.line 1
  pub other_header : HasOtherOpenHeader (open_header_for project) (coming before)

-- What is found at a standing where the records end.
abbrev pub IsSo : SpreadConclusion → Project → Spread → OpenStanding → CheckMoment → CheckMoment → Type 0
IsSo (Accepted finished) project spread left before now =
    IsEndLine project left.known.number finished before now × (finished ≡ left.known.finished)
IsSo (Refused cause) project spread left before now = IsRefusedNext project spread left cause before now
IsSo (OtherEnd line) project spread left before now = IsOtherEnd project left before now × (line ≡ now.reader.line)
IsSo (Grammar line) project spread left before now = IsGrammarFault project line before now
IsSo (Counts line) project spread left before now = IsCountsFault project line before now

-- The last line of a report on so many records.
abbrev pub conclusion_line : Project → ℕ → SpreadConclusion → List ℕ
conclusion_line project count (Accepted finished) = accepted_line count finished
conclusion_line project count (Refused cause) = refused_line project cause
conclusion_line project count (OtherEnd line) = refused_end_line line
conclusion_line project count (Grammar line) = refused_grammar_line line
conclusion_line project count (Counts line) = refused_counts_line line

-- How a check ends with what is found.
abbrev pub end_of : SpreadConclusion → CheckEnd
end_of (Accepted finished) = ends.Accepted
end_of (Refused cause) = ends.Refused
end_of (OtherEnd line) = ends.Refused
end_of (Grammar line) = ends.Refused
end_of (Counts line) = ends.Refused

-- The records end at a standing that stays: nothing was put in.
pub record IsOver (conclusion : SpreadConclusion) (project : Project) (spread : Spread) (left next : OpenStanding)
    (before after : CheckMoment) : Type 0 where
  pub is_so : IsSo conclusion project spread left before after
  pub stays : next ≡ left
  pub put : PutIn [] before after

-- What reading gives at a standing: a record that a certificate can hold, this one; or the records end; or the read
-- failed.
abbrev pub ReadGives : Result (Option SpreadConclusion) CheckFault → Project → Spread → OpenStanding → OpenRecord
    → CheckMoment → CheckMoment → Type 0
ReadGives (Ok None) project spread left found before after =
    IsRead (open_header_for project) found before after × PutIn [] before after
ReadGives (Ok (Some conclusion)) project spread left found before after =
    IsSo conclusion project spread left before after × PutIn [] before after
ReadGives (Err fault) project spread left found before after = IsCutOff fault [] before after

-- What one turn gives between two standings: a record was accepted, or the records end, or a fault broke it off.
abbrev pub TurnGives : Result (Option SpreadConclusion) CheckFault → Project → Spread → OpenStanding → OpenStanding
    → CheckMoment → CheckMoment → Type 0
TurnGives (Ok None) project spread left next before after = DidRecord project spread left next before after
TurnGives (Ok (Some conclusion)) project spread left next before after =
    IsOver conclusion project spread left next before after
TurnGives (Err fault) project spread left next before after = IsLost fault project spread left next before after

-- ---- a check as far as it has gone

-- The text of the header line and of some records.
abbrev pub read_text : Project → List OpenRecord → List ℕ
read_text project rows = header_text (open_header_for project) ++ joined (map open_record_text rows)

-- Of the text to come at first, nothing was read, or the header line and these records.
pub data IsReadTo (project : Project) (before now : CheckMoment) : List OpenRecord → Type 0 where
  nothing : now.reader.stand ≡ stand.First → coming now ≡ coming before → now.reader.line ≡ 0
      → IsReadTo project before now []
  records : {rows : List OpenRecord} → now.reader.stand ≡ stand.Between
      → coming before ≡ prepend_known (read_text project rows) (coming now)
      → now.reader.line ≡ lines_on 0 (lines_with_records (open_header_for project) rows)
      → IsReadTo project before now rows

-- What was found so far is a run for the spread with some slack that leaves a standing, with one record for each
-- period that was done; its records were read, and its report as far as it goes was put in at the pen.
pub record IsSoFar (project : Project) (spread : Spread) (left : OpenStanding) (before now : CheckMoment) : Type 0 where
  pub slack : ℕ
  pub reports : List ReportedOver
  pub is_run : IsOpenRunOver project spread slack (periods_over reports) left
  pub are_reports : AreReportsOver project reports
  pub fit : Fit project reports
  pub each : length reports ≡ left.known.number
  pub read : IsReadTo project before now (rows_over (periods_over reports))
  pub put : PutIn (spread_report_text project spread (lines_over reports) []) before now

-- The report of the whole text was put in.
pub record IsWhole (project : Project) (spread : Spread) (end : CheckEnd) (before now : CheckMoment) : Type 0 where
  pub report : List ℕ
  pub holds : (text : List ℕ) → coming before ≡ Some text → CheckEndsOver project spread text report end
  pub put : PutIn report before now

-- A fault cut off the report of the whole text, or that of what was found so far.
pub record IsCutShort (project : Project) (spread : Spread) (fault : CheckFault) (before now : CheckMoment) : Type 0
  where
    pub report : List ℕ
    pub holds : (text : List ℕ) → coming before ≡ Some text
        → ((end : CheckEnd) × CheckEndsOver project spread text report end) ⊎ CheckFindsOver project spread text report
    pub cut_off : IsCutOff fault report before now

-- Where the records end at a standing: what was put in before as a check so far is one still, and this is found.
pub record AllRead (conclusion : SpreadConclusion) (project : Project) (spread : Spread) (left : OpenStanding)
    (start now : CheckMoment) : Type 0 where
  pub at_last : CheckMoment
  pub so_far : IsSoFar project spread left start at_last
  pub is_so : IsSo conclusion project spread left at_last now
  pub put : PutIn [] at_last now

-- What the turns of a check do between two standings: whatever was put in before them as a check so far is one still
-- where the records end, or is cut short.
abbrev pub TurnsGive : Result SpreadConclusion CheckFault → Project → Spread → OpenStanding → OpenStanding
    → CheckMoment → CheckMoment → Type 0
TurnsGive (Ok conclusion) project spread left next before after =
    (start : CheckMoment) → IsSoFar project spread left start before
    → AllRead conclusion project spread next start after
TurnsGive (Err fault) project spread left next before after =
    (start : CheckMoment) → IsSoFar project spread left start before → IsCutShort project spread fault start after

-- What the first lines give: a check that has read nothing, or one that is cut short.
abbrev pub CheckBegins : Result (Unit {0}) CheckFault → Project → Spread → CheckMoment → CheckMoment → Type 0
CheckBegins (Ok done) project spread before after =
    IsSoFar project spread (open_standing_within project spread) before after
CheckBegins (Err fault) project spread before after = IsCutShort project spread fault before after

-- What a check does before the pen is emptied.
abbrev pub CheckPuts : Result CheckEnd CheckFault → Project → Spread → CheckMoment → CheckMoment → Type 0
CheckPuts (Ok end) project spread before after = IsWhole project spread end before after
CheckPuts (Err fault) project spread before after = IsCutShort project spread fault before after
