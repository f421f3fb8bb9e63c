-- A check for a spread of a certificate of version 4 from its first line to its last, and what is printed of it.
use Rattle.std.proofs.Common.{◌≡◌, ℕ, ◌≤◌, ◌+◌, List, [], ◌∷◌, ◌++◌, length-append, Some, refl, sym, ap, subst}
use Rattle.std.proofs.Common.{◌∙◌, arith, append-nil, append_assoc, inl, inr, ◌⊎◌}
use Rattle.std.specs.Prelude.{⊤, Result, Ok, Err, IfOk, IfErr, OnOk}
use Rattle.std.proofs.lemmas.List.Elements.{All-nil}
use Rattle.hyd_lemmas.proofs.ListsOptionsAndResults.{all-more}
use Rattle.hyd_net.specs.Sound.{IsSound}
use Rattle.hyd_spec.specs.ProgramTypes.{Project}
use Rattle.hyd_spec.specs.NodeNumbers.{junction_count, tank_count}
use Rattle.hyd_spec_open_ends.specs.OpenStandings.{OpenStanding}
use Rattle.hyd_spec_open_ends.specs.OpenCertificateText.{IsOpenRow}
use Rattle.hyd_spec_open_checks.specs.OpenChecks.{open_header_for}
use Rattle.hyd_spec_spread.specs.Spreads.{Spread, IsSpread}
use Rattle.hyd_spec_spread_runs.specs.RunsForSpreads.{StartIsDecided}
use Rattle.hyd_spec_open_spreads.specs.OpenRunsForSpreads.{OpenFoundOver, IsOpenRunOverFrom, IsOpenRunOver}
use Rattle.hyd_spec_open_spreads.specs.OpenRunsForSpreads.{none, more, open_standing_within}
use Rattle.hyd_spec_spread_reports.specs.SpreadReport.{IsSpreadReport}
use Rattle.hyd_spec_spread_reports.specs.ClaimsWithinSpreads.{ReportedOver, AreReportsOver, periods_over, lines_over}
use Rattle.hyd_spec_spread_reports.specs.TextsOfSpreadReports.{second_line, spread_report_text}
use Rattle.hyd_spec_spread_promises.specs.PromisesOfSpreadRuns.{rows_over}
use Rattle.hyd_spec_spread_promises.specs.PromisesOfSpreadChecks.{CheckEndsOver, CheckFindsOver}
use Rattle.hyd_spec_spread_promises.specs.PromisesOfSpreadChecks.{CheckBreaksOffOver, in_last_line, in_records}
use Rattle.hyd_io.specs.DeskBytes.{PutOut}
use Rattle.hyd_io.specs.Output.{PenState}
use Rattle.hyd_cert.specs.ReaderView.{IsGoing}
use Rattle.hyd_cert.specs.declared.answers_of_reader.Stand.{Stand}
use Rattle.hyd_cert.specs.declared.answers_of_reader.Stand.TheVariants as stand
use Rattle.hyd_cert_check.specs.PassedOn.{first_line}
use Rattle.hyd_cert_check.proofs.PassedOn.{moved-whole}
use Rattle.hyd_cert_check.specs.ReaderAndPen.{CheckMoment, new_pen, LeavesFiles, PutIn, IsCutOff, Rose}
use Rattle.hyd_cert_check.specs.RecordByRecord.{coming, IsPrinted, CanGoOn}
use Rattle.hyd_spec_check_ends.specs.declared.CheckEnd.{CheckEnd}
use Rattle.hyd_cert_check.specs.declared.outcome.CheckFault.{CheckFault}
use Rattle.hyd_cert_check.proofs.PenLemmas.{put-then, cut-off-then, put-as, cut-off-as}
use Rattle.hyd_spread_run_so_far.specs.SpreadRunSoFar.{Fit, open_texts}
use Rattle.hyd_spread_run_so_far.proofs.SpreadRunLemmas.{open_run_more}
use Rattle.hyd_spread_run_so_far.proofs.SpreadRunTexts.{periods-more, rows-more, fit-more, report-first, report-more}
use Rattle.hyd_spread_check_so_far.specs.SpreadCheckSoFar.{IsRead, IsSpreadStep, DidRecord, IsLost, in_reading}
use Rattle.hyd_spread_check_so_far.specs.SpreadCheckSoFar.{in_report, IsReadTo, nothing, IsSoFar, IsWhole, IsCutShort}
use Rattle.hyd_spread_check_so_far.specs.SpreadCheckSoFar.{IsOver, AllRead, CheckPuts, conclusion_line, end_of}
use Rattle.hyd_spread_check_so_far.specs.declared.conclusion.SpreadConclusion.{SpreadConclusion}
use Rattle.hyd_spread_check_so_far.proofs.SpreadReading.{read-more}
use Rattle.hyd_spread_check_so_far.proofs.SpreadConclusions.{holds-whole, finds}

-- ---- reports

-- a report of some periods, and what is put in behind it
pub report-last : (project : Project) (spread : Spread) (reports : List ReportedOver) (last : List ℕ)
    → spread_report_text project spread (lines_over reports) [] ++ last
    ≡ spread_report_text project spread (lines_over reports) last
report-last project spread reports last =
    let second = second_line project spread in
    let lines = open_texts project (lines_over reports) in
    ap (λ xs. (first_line ++ (second ++ xs)) ++ last) (append-nil lines)
    ∙ (append_assoc first_line (second ++ lines) last
    ∙ ap (λ xs. first_line ++ xs) (append_assoc second lines last))

-- ---- slacks

-- a run with a slack is one with any greater slack
greater-slack : (project : Project) (spread : Spread) (slack greater : ℕ) → slack ≤ greater → (standing : OpenStanding)
    (founds : List OpenFoundOver) (last : OpenStanding)
    → IsOpenRunOverFrom project spread slack standing founds last
    → IsOpenRunOverFrom project spread greater standing founds last
greater-slack project spread slack greater le _ _ last none = none
greater-slack project spread slack greater le _ _ last (more {here = here} {rest = rest} is within go) =
    more is (omega (arith, within, le)) (greater-slack project spread slack greater le here.next rest last go)

-- ---- a check so far

-- the first lines were put in, and nothing was read
pub so-far-begins : (project : Project) (spread : Spread) → StartIsDecided project spread → (start now : CheckMoment)
    → now.reader.stand ≡ stand.First → now.reader.line ≡ 0 → coming now ≡ coming start
    → PutIn (first_line ++ second_line project spread) start now
    → IsSoFar project spread (open_standing_within project spread) start now
so-far-begins project spread decided start now stands lines same put = record {
  slack = 0;
  reports = [];
  is_run = record { start = decided; run = none };
  are_reports = tt;
  fit = All-nil (IsOpenRow (junction_count project) (tank_count project));
  each = refl;
  read = nothing stands same lines;
  put = put-as (first_line ++ second_line project spread) (spread_report_text project spread [] []) start now
      (report-first project spread (open_standing_within project spread)) put;
}

-- the first lines were cut off
pub first-cut-short : (project : Project) (spread : Spread) (why : CheckFault) (start now : CheckMoment)
    → IsSound project → IsSpread project spread → StartIsDecided project spread → start.reader.stand ≡ stand.First
    → start.reader.line ≡ 0 → IsCutOff why (first_line ++ second_line project spread) start now
    → IsCutShort project spread why start now
first-cut-short project spread why start now sound is_spread decided stands lines cut_off = record {
  report = spread_report_text project spread [] [];
  holds = λ text told. inr (finds project sound spread is_spread 0 (open_standing_within project spread) start start []
      (record { start = decided; run = none }) tt
      (All-nil (IsOpenRow (junction_count project) (tank_count project))) (nothing stands refl lines) text told);
  cut_off = cut-off-as why (first_line ++ second_line project spread) (spread_report_text project spread [] []) start
      now (report-first project spread (open_standing_within project spread)) cut_off;
}

-- a record more was accepted
module _ (project : Project) (sound : IsSound project) (spread : Spread) (is_spread : IsSpread project spread)
    (left next : OpenStanding) (start before now : CheckMoment) (each : ReportedOver)
    (step : IsSpreadStep project spread left next each)
    (read : IsRead (open_header_for project) each.here.found before now)
    (so_far : IsSoFar project spread left start before) where
  abbrev with-it : List ReportedOver
  with-it = so_far.reports ++ (each ∷ [])

  abbrev slack-with : ℕ
  slack-with = so_far.slack + next.late

  abbrev from-start : List OpenFoundOver → OpenStanding → Type 0
  from-start founds last = IsOpenRunOverFrom project spread slack-with (open_standing_within project spread) founds last

  run-with : IsOpenRunOver project spread slack-with (periods_over with-it) next
  run-with =
      let late : each.here.next.late ≤ slack-with =
      subst (λ (s : OpenStanding). s.late ≤ slack-with) (sym step.leaves) (omega arith) in
      record {
        start = so_far.is_run.start;
        run = subst (λ (fs : List OpenFoundOver). from-start fs next) (sym (periods-more so_far.reports each))
            (subst (λ (s : OpenStanding). from-start (periods_over so_far.reports ++ (each.here ∷ [])) s) step.leaves
            (open_run_more project spread slack-with (open_standing_within project spread)
            (periods_over so_far.reports) left each.here
            (greater-slack project spread so_far.slack slack-with (omega arith) (open_standing_within project spread)
            (periods_over so_far.reports) left so_far.is_run.run) step.begins step.valid late));
      }

  reports-with : AreReportsOver project with-it
  reports-with =
      all-more (λ (r : ReportedOver). IsSpreadReport project r.here.pair r.here.standing r.here.found r.lines)
      so_far.reports each so_far.are_reports step.report

  fit-with : Fit project with-it
  fit-with = fit-more project so_far.reports each so_far.fit read.fits

  read-with : IsReadTo project start now (rows_over (periods_over with-it))
  read-with =
      subst (IsReadTo project start now) (sym (rows-more so_far.reports each))
      (read-more project start (rows_over (periods_over so_far.reports)) each.here.found before now so_far.read read)

  pub so-far-more : PutIn (open_texts project each.lines) before now → IsSoFar project spread next start now
  so-far-more put = record {
    slack = slack-with;
    reports = with-it;
    is_run = run-with;
    are_reports = reports-with;
    fit = fit-with;
    each = (let l = length-append so_far.reports (each ∷ []) in let e = so_far.each in let n = step.number in omega
        (arith, l, e, n));
    read = read-with;
    put = put-as (spread_report_text project spread (lines_over so_far.reports) [] ++ open_texts project each.lines)
        (spread_report_text project spread (lines_over with-it) []) start now
        (report-more project spread left next so_far.reports each)
        (put-then (spread_report_text project spread (lines_over so_far.reports) []) (open_texts project each.lines)
        start before now so_far.put put);
  }

  -- its report was cut off
  pub record-cut-off : (why : CheckFault) → IsCutOff why (open_texts project each.lines) before now
      → IsCutShort project spread why start now
  record-cut-off why cut_off = record {
    report = spread_report_text project spread (lines_over with-it) [];
    holds = λ text told. inr (finds project sound spread is_spread slack-with next start now with-it run-with
        reports-with fit-with read-with text told);
    cut_off = cut-off-as why (spread_report_text project spread (lines_over so_far.reports) [] ++ open_texts project
        each.lines) (spread_report_text project spread (lines_over with-it) []) start now
        (report-more project spread left next so_far.reports each)
        (cut-off-then why (spread_report_text project spread (lines_over so_far.reports) [])
        (open_texts project each.lines) start before now so_far.put cut_off);
  }

-- what was found so far is what was put in, where a fault came behind it
pub so-far-cut-off : (project : Project) (spread : Spread) (why : CheckFault) (left : OpenStanding)
    (start before now : CheckMoment) → IsSound project → IsSpread project spread → IsCutOff why [] before now
    → IsSoFar project spread left start before → IsCutShort project spread why start now
so-far-cut-off project spread why left start before now sound is_spread cut_off so_far = record {
  report = spread_report_text project spread (lines_over so_far.reports) [];
  holds = λ text told. inr (finds project sound spread is_spread so_far.slack left start before so_far.reports
      so_far.is_run so_far.are_reports so_far.fit so_far.read text told);
  cut_off = cut-off-as why (spread_report_text project spread (lines_over so_far.reports) [] ++ [])
      (spread_report_text project spread (lines_over so_far.reports) []) start now
      (report-last project spread so_far.reports [])
      (cut-off-then why (spread_report_text project spread (lines_over so_far.reports) []) [] start before now
      so_far.put cut_off);
}

-- ---- one turn after another

-- the reader goes on behind a record
pub goes-on : (project : Project) (spread : Spread) (left next : OpenStanding) (m n : CheckMoment)
    → DidRecord project spread left next m n → CanGoOn n
goes-on project spread left next m n did = record {
  going = subst (λ (s : Stand). IsGoing s) (sym did.read.stands) tt;
  pen = did.put.open_still;
}

pub turn-more : (project : Project) (spread : Spread) (left next : OpenStanding) (start m n : CheckMoment)
    → IsSound project → IsSpread project spread → DidRecord project spread left next m n
    → IsSoFar project spread left start m → IsSoFar project spread next start n
turn-more project spread left next start m n sound is_spread did so_far =
    so-far-more project sound spread is_spread left next start m n did.each did.step did.read so_far did.put

pub turn-over : (project : Project) (spread : Spread) (conclusion : SpreadConclusion) (left next : OpenStanding)
    (start m n : CheckMoment) → IsOver conclusion project spread left next m n → IsSoFar project spread left start m
    → AllRead conclusion project spread next start n
turn-over project spread conclusion left next start m n over so_far =
    subst (λ (s : OpenStanding). AllRead conclusion project spread s start n) (sym over.stays)
    (record { at_last = m; so_far = so_far; is_so = over.is_so; put = over.put })

pub turn-lost : (project : Project) (spread : Spread) (fault : CheckFault) (left next : OpenStanding)
    (start m n : CheckMoment) → IsSound project → IsSpread project spread
    → IsLost fault project spread left next m n → IsSoFar project spread left start m
    → IsCutShort project spread fault start n
turn-lost project spread fault left next start m n sound is_spread (in_reading cut_off) so_far =
    so-far-cut-off project spread fault left start m n sound is_spread cut_off so_far
turn-lost project spread fault left next start m n sound is_spread (in_report lost) so_far =
    record-cut-off project sound spread is_spread left next start m n lost.each lost.step lost.read so_far fault
    lost.cut_off

-- ---- the last line

module _ (project : Project) (spread : Spread) (conclusion : SpreadConclusion) (left : OpenStanding)
    (start now after : CheckMoment) (sound : IsSound project) (is_spread : IsSpread project spread)
    (read : AllRead conclusion project spread left start now) where
  abbrev last : List ℕ
  last = conclusion_line project left.known.number conclusion

  abbrev report-whole : List ℕ
  report-whole = spread_report_text project spread (lines_over read.so_far.reports) last

  whole-so : (text : List ℕ) → coming start ≡ Some text
      → CheckEndsOver project spread text report-whole (end_of conclusion)
  whole-so text told =
      holds-whole project sound spread is_spread left start read.at_last read.so_far text told conclusion now read.is_so

  text-so : spread_report_text project spread (lines_over read.so_far.reports) [] ++ ([] ++ last) ≡ report-whole
  text-so = report-last project spread read.so_far.reports last

  pub last-whole : PutIn last now after → IsWhole project spread (end_of conclusion) start after
  last-whole put = record {
    report = report-whole;
    holds = whole-so;
    put = put-as (spread_report_text project spread (lines_over read.so_far.reports) [] ++ ([] ++ last)) report-whole
        start after text-so
        (put-then (spread_report_text project spread (lines_over read.so_far.reports) []) ([] ++ last) start
        read.at_last after read.so_far.put (put-then [] last read.at_last now after read.put put));
  }

  pub last-cut-short : (why : CheckFault) → IsCutOff why last now after → IsCutShort project spread why start after
  last-cut-short why cut_off = record {
    report = report-whole;
    holds = λ text told. inl (end_of conclusion, whole-so text told);
    cut_off = cut-off-as why (spread_report_text project spread (lines_over read.so_far.reports) [] ++ ([] ++ last))
        report-whole start after text-so
        (cut-off-then why (spread_report_text project spread (lines_over read.so_far.reports) []) ([] ++ last) start
        read.at_last after read.so_far.put (cut-off-then why [] last read.at_last now after read.put cut_off));
  }

pub whole-as : (project : Project) (spread : Spread) (a b : CheckEnd) (start now : CheckMoment) → a ≡ b
    → IsWhole project spread a start now → IsWhole project spread b start now
whole-as project spread a b start now e whole =
    subst (λ (end : CheckEnd). IsWhole project spread end start now) e whole

-- ---- the pen is emptied

pub whole-emptied : (project : Project) (spread : Spread) (end : CheckEnd) (start before now : CheckMoment)
    → IsWhole project spread end start before → PutIn [] before now → IsWhole project spread end start now
whole-emptied project spread end start before now whole put = record {
  report = whole.report;
  holds = whole.holds;
  put = put-as (whole.report ++ []) whole.report start now (append-nil whole.report) (put-then whole.report [] start
      before now whole.put put);
}

pub whole-cut-off : (project : Project) (spread : Spread) (end : CheckEnd) (why : CheckFault)
    (start before now : CheckMoment) → IsWhole project spread end start before → IsCutOff why [] before now
    → IsCutShort project spread why start now
whole-cut-off project spread end why start before now whole cut_off = record {
  report = whole.report;
  holds = λ text told. inl (end, whole.holds text told);
  cut_off = cut-off-as why (whole.report ++ []) whole.report start now (append-nil whole.report) (cut-off-then why
      whole.report [] start before now whole.put cut_off);
}

-- ---- what is printed

module _ (project : Project) (spread : Spread) (start now : CheckMoment) (text : List ℕ)
    (told : coming start ≡ Some text) (pen : start.pen ≡ new_pen) where
  empty-first : start.pen.held ≡ []
  empty-first = ap (λ (p : PenState). p.held) pen

  pub prints-whole : (result : Result CheckEnd CheckFault) → CheckPuts result project spread start now
      → OnOk result (now.pen ≡ new_pen)
      → IfOk result (λ end. IsPrinted (λ printed. CheckEndsOver project spread text printed end) start.told.printed
      now.told.printed)
  prints-whole (Ok end) puts empty = record {
    report = puts.report;
    holds = puts.holds text told;
    printed = moved-whole start.told.printed now.told.printed start.pen.held puts.report now.pen.held empty-first
        (ap (λ (p : PenState). p.held) empty) puts.put.printed;
  }
  prints-whole (Err why) puts empty = tt

  front-of : (front held : List ℕ) (report : List ℕ) → report ≡ front ++ held
      → ((end : CheckEnd) × CheckEndsOver project spread text report end) ⊎ CheckFindsOver project spread text report
      → CheckBreaksOffOver project spread text front
  front-of front held report e (inl so) =
      in_last_line so.0 held (subst (λ (r : List ℕ). CheckEndsOver project spread text r so.0) e so.1)
  front-of front held report e (inr so) = in_records held (subst (CheckFindsOver project spread text) e so)

  pub prints-front : (result : Result CheckEnd CheckFault) → CheckPuts result project spread start now
      → IfErr result (λ why. IsPrinted (CheckBreaksOffOver project spread text) start.told.printed now.told.printed)
  prints-front (Ok end) puts = tt
  prints-front (Err why) puts =
      let out = subst (λ (x : List ℕ). PutOut start.told.printed now.told.printed (x ++ puts.report)) empty-first
      puts.cut_off.printed in
      record {
        report = out.1.front;
        holds = front-of out.1.front out.0 puts.report out.1.whole (puts.holds text told);
        printed = out.1.out;
      }

-- ---- what else a check says

module _ (project : Project) (spread : Spread) (start now : CheckMoment) where
  pub says-printed : (result : Result CheckEnd CheckFault) → start.pen ≡ new_pen
      → CheckPuts result project spread start now
      → OnOk result (now.pen ≡ new_pen) → IsPrinted (λ printed. ⊤) start.told.printed now.told.printed
  says-printed (Ok end) pen puts empty = record {
    report = puts.report;
    holds = tt;
    printed = moved-whole start.told.printed now.told.printed start.pen.held puts.report now.pen.held
        (ap (λ (p : PenState). p.held) pen) (ap (λ (p : PenState). p.held) empty) puts.put.printed;
  }
  says-printed (Err why) pen puts empty =
      let out = subst (λ (x : List ℕ). PutOut start.told.printed now.told.printed (x ++ puts.report))
      (ap (λ (p : PenState). p.held) pen) puts.cut_off.printed in
      record { report = out.1.front; holds = tt; printed = out.1.out }

  pub says-rose : (result : Result CheckEnd CheckFault) → CheckPuts result project spread start now
      → IfErr result (λ why. Rose why start.told.counts now.told.counts)
  says-rose (Ok end) puts = tt
  says-rose (Err why) puts = puts.cut_off.rose

  pub says-steady : (result : Result CheckEnd CheckFault) → CheckPuts result project spread start now
      → OnOk result (now.told.counts ≡ start.told.counts)
  says-steady (Ok end) puts = puts.put.steady
  says-steady (Err why) puts = tt

  pub says-leaves : (result : Result CheckEnd CheckFault) → CheckPuts result project spread start now
      → LeavesFiles start.told now.told
  says-leaves (Ok end) puts = puts.put.leaves
  says-leaves (Err why) puts = puts.cut_off.leaves
