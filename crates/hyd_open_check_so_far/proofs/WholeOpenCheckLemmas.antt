-- A check of a certificate of version 4 from its first line to its last, and what is printed of it.
use Rattle.std.proofs.Common.{◌≡◌, ℕ, ◌≤◌, ◌+◌, List, [], ◌∷◌, ◌++◌, length-append, Some, refl, sym, ap, subst}
use Rattle.std.proofs.Common.{◌∙◌, arith, append-nil, append_assoc, inl, inr, ◌⊎◌}
use Rattle.std.specs.Prelude.{⊤, Result, Ok, Err, IfOk, IfErr, OnOk}
use Rattle.std.proofs.lemmas.List.Elements.{All-nil}
use Rattle.hyd_lemmas.proofs.ListsOptionsAndResults.{all-more}
use Rattle.hyd_net.specs.Sound.{IsSound}
use Rattle.hyd_spec.specs.ProgramTypes.{Project}
use Rattle.hyd_spec.specs.NodeNumbers.{junction_count, tank_count}
use Rattle.hyd_spec_open_ends.specs.OpenStandings.{OpenStanding, initial_open_standing}
use Rattle.hyd_spec_open_ends.specs.OpenRuns.{OpenFound, IsOpenRun, none}
use Rattle.hyd_spec_open_ends.specs.OpenCertificateText.{IsOpenRow}
use Rattle.hyd_spec_open_ends.specs.PromisesOfOpenRuns.{open_rows_of}
use Rattle.hyd_spec_open_reports.specs.OpenReportLine.{open_report_text}
use Rattle.hyd_spec_open_reports.specs.OpenReport.{IsOpenReport}
use Rattle.hyd_spec_open_reports.specs.PromisesOfOpenReports.{Reported, AreReports, periods_of, open_lines_of}
use Rattle.hyd_spec_open_checks.specs.OpenChecks.{open_header_for, CheckEndsOpenly, CheckFindsOpenly}
use Rattle.hyd_spec_open_checks.specs.OpenChecks.{CheckBreaksOffOpenly, in_last_line, in_records}
use Rattle.hyd_theorems_on_open_ends.proofs.AcceptedOpenRuns.{greater_slack}
use Rattle.hyd_io.specs.DeskBytes.{PutOut}
use Rattle.hyd_io.specs.Output.{PenState}
use Rattle.hyd_cert.specs.ReaderView.{IsGoing}
use Rattle.hyd_cert.specs.declared.answers_of_reader.Stand.{Stand}
use Rattle.hyd_cert.specs.declared.answers_of_reader.Stand.TheVariants as stand
use Rattle.hyd_cert_check.specs.PassedOn.{first_line}
use Rattle.hyd_cert_check.proofs.PassedOn.{moved-whole}
use Rattle.hyd_cert_check.specs.ReaderAndPen.{CheckMoment, new_pen, LeavesFiles, PutIn, IsCutOff, Rose}
use Rattle.hyd_cert_check.specs.RecordByRecord.{coming, IsPrinted, CanGoOn}
use Rattle.hyd_spec_check_ends.specs.declared.CheckEnd.{CheckEnd}
use Rattle.hyd_cert_check.specs.declared.outcome.CheckFault.{CheckFault}
use Rattle.hyd_cert_check.proofs.PenLemmas.{put-then, cut-off-then, put-as, cut-off-as}
use Rattle.hyd_open_run_so_far.specs.OpenRunSoFar.{Fit, open_texts}
use Rattle.hyd_open_run_so_far.proofs.OpenRunLemmas.{open_run_more}
use Rattle.hyd_open_run_so_far.proofs.OpenRunTexts.{periods-more, rows-more, fit-more, report-more}
use Rattle.hyd_open_check_so_far.specs.OpenCheckSoFar.{IsRead, IsOpenStep, DidRecord, IsLost, in_reading}
use Rattle.hyd_open_check_so_far.specs.OpenCheckSoFar.{in_report, IsReadTo, nothing, IsSoFar, IsWhole, IsCutShort}
use Rattle.hyd_open_check_so_far.specs.OpenCheckSoFar.{IsOver, AllRead, CheckPuts, conclusion_line, end_of}
use Rattle.hyd_open_check_so_far.specs.declared.conclusion.OpenConclusion.{OpenConclusion}
use Rattle.hyd_open_check_so_far.proofs.OpenReading.{read-more}
use Rattle.hyd_open_check_so_far.proofs.OpenConclusions.{holds-whole, finds}

-- ---- reports

-- a report of some periods, and what is put in behind it
pub report-last : (project : Project) (reports : List Reported) (last : List ℕ)
    → open_report_text project (open_lines_of reports) [] ++ last
    ≡ open_report_text project (open_lines_of reports) last
report-last project reports last =
    let lines = open_texts project (open_lines_of reports) in
    ap (λ xs. (first_line ++ xs) ++ last) (append-nil lines) ∙ append_assoc first_line lines last

-- ---- a check so far

-- the first line was put in, and nothing was read
pub so-far-begins : (project : Project) (start now : CheckMoment) → now.reader.stand ≡ stand.First
    → now.reader.line ≡ 0 → coming now ≡ coming start → PutIn first_line start now
    → IsSoFar project (initial_open_standing project) start now
so-far-begins project start now stands lines same put = record {
  slack = 0;
  reports = [];
  is_run = none;
  are_reports = tt;
  fit = All-nil (IsOpenRow (junction_count project) (tank_count project));
  each = refl;
  read = nothing stands same lines;
  put = put-as first_line (open_report_text project [] []) start now (sym (append-nil first_line)) put;
}

-- the first line was cut off
pub first-cut-short : (project : Project) (why : CheckFault) (start now : CheckMoment) → IsSound project
    → start.reader.stand ≡ stand.First → start.reader.line ≡ 0 → IsCutOff why first_line start now
    → IsCutShort project why start now
first-cut-short project why start now sound stands lines cut_off = record {
  report = open_report_text project [] [];
  holds = λ text told. inr (finds project sound 0 (initial_open_standing project) start start [] none tt
      (All-nil (IsOpenRow (junction_count project) (tank_count project))) (nothing stands refl lines) text told);
  cut_off = cut-off-as why first_line (open_report_text project [] []) start now (sym (append-nil first_line)) cut_off;
}

-- a record more was accepted
module _ (project : Project) (sound : IsSound project) (left next : OpenStanding) (start before now : CheckMoment)
    (each : Reported) (step : IsOpenStep project left next each)
    (read : IsRead (open_header_for project) each.here.found before now) (so_far : IsSoFar project left start before)
  where
    abbrev with-it : List Reported
    with-it = so_far.reports ++ (each ∷ [])

    abbrev slack-with : ℕ
    slack-with = so_far.slack + next.late

    run-with : IsOpenRun project slack-with (periods_of with-it) next
    run-with =
        let late : each.here.next.late ≤ slack-with =
        subst (λ (s : OpenStanding). s.late ≤ slack-with) (sym step.leaves) (omega arith) in
        subst (λ (fs : List OpenFound). IsOpenRun project slack-with fs next) (sym (periods-more so_far.reports each))
        (subst (λ (s : OpenStanding). IsOpenRun project slack-with (periods_of so_far.reports ++ (each.here ∷ [])) s)
        step.leaves
        (open_run_more project slack-with (initial_open_standing project) (periods_of so_far.reports) left each.here
        (greater_slack project so_far.slack slack-with (omega arith) (initial_open_standing project)
        (periods_of so_far.reports) left so_far.is_run) step.begins step.valid late))

    reports-with : AreReports project with-it
    reports-with =
        all-more (λ (r : Reported). IsOpenReport project r.here.grid r.here.standing r.here.found r.lines) so_far.reports
        each so_far.are_reports step.report

    fit-with : Fit project with-it
    fit-with = fit-more project so_far.reports each so_far.fit read.fits

    read-with : IsReadTo project start now (open_rows_of (periods_of with-it))
    read-with =
        subst (IsReadTo project start now) (sym (rows-more so_far.reports each))
        (read-more project start (open_rows_of (periods_of so_far.reports)) each.here.found before now so_far.read read)

    pub so-far-more : PutIn (open_texts project each.lines) before now → IsSoFar project next start now
    so-far-more put = record {
      slack = slack-with;
      reports = with-it;
      is_run = run-with;
      are_reports = reports-with;
      fit = fit-with;
      each = (let l = length-append so_far.reports (each ∷ []) in let e = so_far.each in let n = step.number in omega
          (arith, l, e, n));
      read = read-with;
      put = put-as (open_report_text project (open_lines_of so_far.reports) [] ++ open_texts project each.lines)
          (open_report_text project (open_lines_of with-it) []) start now
          (report-more project left next so_far.reports each)
          (put-then (open_report_text project (open_lines_of so_far.reports) []) (open_texts project each.lines) start
          before now so_far.put put);
    }

    -- its report was cut off
    pub record-cut-off : (why : CheckFault) → IsCutOff why (open_texts project each.lines) before now
        → IsCutShort project why start now
    record-cut-off why cut_off = record {
      report = open_report_text project (open_lines_of with-it) [];
      holds = λ text told. inr (finds project sound slack-with next start now with-it run-with reports-with fit-with
          read-with text told);
      cut_off = cut-off-as why (open_report_text project (open_lines_of so_far.reports) [] ++ open_texts project
          each.lines) (open_report_text project (open_lines_of with-it) []) start now
          (report-more project left next so_far.reports each)
          (cut-off-then why (open_report_text project (open_lines_of so_far.reports) []) (open_texts project each.lines)
          start before now so_far.put cut_off);
    }

-- what was found so far is what was put in, where a fault came behind it
pub so-far-cut-off : (project : Project) (why : CheckFault) (left : OpenStanding) (start before now : CheckMoment)
    → IsSound project → IsCutOff why [] before now → IsSoFar project left start before
    → IsCutShort project why start now
so-far-cut-off project why left start before now sound cut_off so_far = record {
  report = open_report_text project (open_lines_of so_far.reports) [];
  holds = λ text told. inr (finds project sound so_far.slack left start before so_far.reports so_far.is_run
      so_far.are_reports so_far.fit so_far.read text told);
  cut_off = cut-off-as why (open_report_text project (open_lines_of so_far.reports) [] ++ [])
      (open_report_text project (open_lines_of so_far.reports) []) start now (report-last project so_far.reports [])
      (cut-off-then why (open_report_text project (open_lines_of so_far.reports) []) [] start before now so_far.put
      cut_off);
}

-- ---- one turn after another

-- the reader goes on behind a record
pub goes-on : (project : Project) (left next : OpenStanding) (m n : CheckMoment) → DidRecord project left next m n
    → CanGoOn n
goes-on project left next m n did = record {
  going = subst (λ (s : Stand). IsGoing s) (sym did.read.stands) tt;
  pen = did.put.open_still;
}

pub turn-more : (project : Project) (left next : OpenStanding) (start m n : CheckMoment) → IsSound project
    → DidRecord project left next m n → IsSoFar project left start m → IsSoFar project next start n
turn-more project left next start m n sound did so_far =
    so-far-more project sound left next start m n did.each did.step did.read so_far did.put

pub turn-over : (project : Project) (conclusion : OpenConclusion) (left next : OpenStanding) (start m n : CheckMoment)
    → IsOver conclusion project left next m n → IsSoFar project left start m → AllRead conclusion project next start n
turn-over project conclusion left next start m n over so_far =
    subst (λ (s : OpenStanding). AllRead conclusion project s start n) (sym over.stays)
    (record { at_last = m; so_far = so_far; is_so = over.is_so; put = over.put })

pub turn-lost : (project : Project) (fault : CheckFault) (left next : OpenStanding) (start m n : CheckMoment)
    → IsSound project → IsLost fault project left next m n → IsSoFar project left start m
    → IsCutShort project fault start n
turn-lost project fault left next start m n sound (in_reading cut_off) so_far =
    so-far-cut-off project fault left start m n sound cut_off so_far
turn-lost project fault left next start m n sound (in_report lost) so_far =
    record-cut-off project sound left next start m n lost.each lost.step lost.read so_far fault lost.cut_off

-- ---- the last line

module _ (project : Project) (conclusion : OpenConclusion) (left : OpenStanding) (start now after : CheckMoment)
    (sound : IsSound project) (read : AllRead conclusion project left start now) where
  abbrev last : List ℕ
  last = conclusion_line project left.known.number conclusion

  abbrev report-whole : List ℕ
  report-whole = open_report_text project (open_lines_of read.so_far.reports) last

  whole-so : (text : List ℕ) → coming start ≡ Some text
      → CheckEndsOpenly project text report-whole (end_of conclusion)
  whole-so text told =
      holds-whole project sound left start read.at_last read.so_far text told conclusion now read.is_so

  text-so : open_report_text project (open_lines_of read.so_far.reports) [] ++ ([] ++ last) ≡ report-whole
  text-so = report-last project read.so_far.reports last

  pub last-whole : PutIn last now after → IsWhole project (end_of conclusion) start after
  last-whole put = record {
    report = report-whole;
    holds = whole-so;
    put = put-as (open_report_text project (open_lines_of read.so_far.reports) [] ++ ([] ++ last)) report-whole start
        after text-so
        (put-then (open_report_text project (open_lines_of read.so_far.reports) []) ([] ++ last) start read.at_last
        after read.so_far.put (put-then [] last read.at_last now after read.put put));
  }

  pub last-cut-short : (why : CheckFault) → IsCutOff why last now after → IsCutShort project why start after
  last-cut-short why cut_off = record {
    report = report-whole;
    holds = λ text told. inl (end_of conclusion, whole-so text told);
    cut_off = cut-off-as why (open_report_text project (open_lines_of read.so_far.reports) [] ++ ([] ++ last))
        report-whole start after text-so
        (cut-off-then why (open_report_text project (open_lines_of read.so_far.reports) []) ([] ++ last) start
        read.at_last after read.so_far.put (cut-off-then why [] last read.at_last now after read.put cut_off));
  }

pub whole-as : (project : Project) (a b : CheckEnd) (start now : CheckMoment) → a ≡ b → IsWhole project a start now
    → IsWhole project b start now
whole-as project a b start now e whole = subst (λ (end : CheckEnd). IsWhole project end start now) e whole

-- ---- the pen is emptied

pub whole-emptied : (project : Project) (end : CheckEnd) (start before now : CheckMoment)
    → IsWhole project end start before → PutIn [] before now → IsWhole project end start now
whole-emptied project end start before now whole put = record {
  report = whole.report;
  holds = whole.holds;
  put = put-as (whole.report ++ []) whole.report start now (append-nil whole.report) (put-then whole.report [] start
      before now whole.put put);
}

pub whole-cut-off : (project : Project) (end : CheckEnd) (why : CheckFault) (start before now : CheckMoment)
    → IsWhole project end start before → IsCutOff why [] before now → IsCutShort project why start now
whole-cut-off project end why start before now whole cut_off = record {
  report = whole.report;
  holds = λ text told. inl (end, whole.holds text told);
  cut_off = cut-off-as why (whole.report ++ []) whole.report start now (append-nil whole.report) (cut-off-then why
      whole.report [] start before now whole.put cut_off);
}

-- ---- what is printed

module _ (project : Project) (start now : CheckMoment) (text : List ℕ) (told : coming start ≡ Some text)
    (pen : start.pen ≡ new_pen) where
  empty-first : start.pen.held ≡ []
  empty-first = ap (λ (p : PenState). p.held) pen

  pub prints-whole : (result : Result CheckEnd CheckFault) → CheckPuts result project start now
      → OnOk result (now.pen ≡ new_pen)
      → IfOk result (λ end. IsPrinted (λ printed. CheckEndsOpenly project text printed end) start.told.printed
      now.told.printed)
  prints-whole (Ok end) puts empty = record {
    report = puts.report;
    holds = puts.holds text told;
    printed = moved-whole start.told.printed now.told.printed start.pen.held puts.report now.pen.held empty-first
        (ap (λ (p : PenState). p.held) empty) puts.put.printed;
  }
  prints-whole (Err why) puts empty = tt

  front-of : (front held : List ℕ) (report : List ℕ) → report ≡ front ++ held
      → ((end : CheckEnd) × CheckEndsOpenly project text report end) ⊎ CheckFindsOpenly project text report
      → CheckBreaksOffOpenly project text front
  front-of front held report e (inl so) =
      in_last_line so.0 held (subst (λ (r : List ℕ). CheckEndsOpenly project text r so.0) e so.1)
  front-of front held report e (inr so) = in_records held (subst (CheckFindsOpenly project text) e so)

  pub prints-front : (result : Result CheckEnd CheckFault) → CheckPuts result project start now
      → IfErr result (λ why. IsPrinted (CheckBreaksOffOpenly project text) start.told.printed now.told.printed)
  prints-front (Ok end) puts = tt
  prints-front (Err why) puts =
      let out = subst (λ (x : List ℕ). PutOut start.told.printed now.told.printed (x ++ puts.report)) empty-first
      puts.cut_off.printed in
      record {
        report = out.1.front;
        holds = front-of out.1.front out.0 puts.report out.1.whole (puts.holds text told);
        printed = out.1.out;
      }

-- ---- what else a check says

module _ (project : Project) (start now : CheckMoment) where
  pub says-printed : (result : Result CheckEnd CheckFault) → start.pen ≡ new_pen → CheckPuts result project start now
      → OnOk result (now.pen ≡ new_pen) → IsPrinted (λ printed. ⊤) start.told.printed now.told.printed
  says-printed (Ok end) pen puts empty = record {
    report = puts.report;
    holds = tt;
    printed = moved-whole start.told.printed now.told.printed start.pen.held puts.report now.pen.held
        (ap (λ (p : PenState). p.held) pen) (ap (λ (p : PenState). p.held) empty) puts.put.printed;
  }
  says-printed (Err why) pen puts empty =
      let out = subst (λ (x : List ℕ). PutOut start.told.printed now.told.printed (x ++ puts.report))
      (ap (λ (p : PenState). p.held) pen) puts.cut_off.printed in
      record { report = out.1.front; holds = tt; printed = out.1.out }

  pub says-rose : (result : Result CheckEnd CheckFault) → CheckPuts result project start now
      → IfErr result (λ why. Rose why start.told.counts now.told.counts)
  says-rose (Ok end) puts = tt
  says-rose (Err why) puts = puts.cut_off.rose

  pub says-steady : (result : Result CheckEnd CheckFault) → CheckPuts result project start now
      → OnOk result (now.told.counts ≡ start.told.counts)
  says-steady (Ok end) puts = puts.put.steady
  says-steady (Err why) puts = tt

  pub says-leaves : (result : Result CheckEnd CheckFault) → CheckPuts result project start now
      → LeavesFiles start.told now.told
  says-leaves (Ok end) puts = puts.put.leaves
  says-leaves (Err why) puts = puts.cut_off.leaves
