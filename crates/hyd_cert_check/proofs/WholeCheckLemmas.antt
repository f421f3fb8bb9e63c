-- A check from its first line to its last, and what is printed of it.
use Rattle.std.proofs.Common.{◌≡◌, ℕ, List, [], ◌∷◌, ◌++◌, length-append, All, Some, None, refl, sym, ap, subst, ◌∙◌}
use Rattle.std.proofs.Common.{arith}
use Rattle.std.proofs.Common.{append-nil, inl, inr, ◌⊎◌}
use Rattle.std.specs.Prelude.{⊤, Result, Ok, Err, IfOk, IfErr, OnOk}
use Rattle.std.specs.List.{AllByRecursion}
use Rattle.std.proofs.lemmas.List.Elements.{All-nil}
use Rattle.hyd_net.specs.Sound.{IsSound}
use Rattle.hyd_spec.specs.ProgramTypes.{Project}
use Rattle.hyd_spec.specs.NodeNumbers.{junction_count, tank_count}
use Rattle.hyd_spec_certificates.specs.RecordAndStanding.{Standing, initial_standing}
use Rattle.hyd_spec_reports.specs.PromisesOfRunsAndChecks.{Found, IsRun, IsRunFrom}
use Rattle.hyd_spec_reports_with_flows.specs.PromisesWithFlows.{FoundNaming, IsFoundNaming, founds_in, entry_of}
use Rattle.hyd_spec_reports_with_flows.specs.PromisesWithFlows.{entries_of}
use Rattle.hyd_spec_reports_with_flows.specs.PromisesWithFlows.{period_text, report_with_flows, report_so_far_naming}
use Rattle.hyd_lemmas.proofs.ListsOptionsAndResults.{all-more}
use Rattle.hyd_theorems_on_runs.proofs.OnePeriodMore.{run_more}
use Rattle.hyd_io.specs.DeskBytes.{PutOut}
use Rattle.hyd_io.specs.Output.{PenState}
use Rattle.hyd_cert.specs.ReaderView.{ReaderView, to_come}
use Rattle.hyd_run.specs.Runs.{first_line}
use Rattle.hyd_sim.specs.RunView.{header_for}
use Rattle.hyd_cert_check.specs.Checks.{CheckEnds, CheckFinds, CheckBreaksOff, in_last_line, in_records}
use Rattle.hyd_cert_check.specs.ReaderAndPen.{CheckMoment, new_pen, IsAtStart, LeavesFiles, PutIn, IsCutOff, Rose}
use Rattle.hyd_cert_check.specs.RecordByRecord.{coming, IsReadTo, nothing, IsRead, IsEntryAsRead, IsStep, IsSoFar}
use Rattle.hyd_cert_check.specs.RecordByRecord.{AllRead}
use Rattle.hyd_cert_check.specs.RecordByRecord.{IsWhole, IsCutShort, IsPrinted, CheckPuts, conclusion_line, end_of}
use Rattle.hyd_spec_check_ends.specs.declared.CheckEnd.{CheckEnd}
use Rattle.hyd_cert_check.specs.declared.outcome.CheckFault.{CheckFault}
use Rattle.hyd_cert_check.specs.declared.outcome.Conclusion.{Conclusion}
use Rattle.hyd_run.proofs.RunLemmas.{moved-whole}
use Rattle.hyd_cert_check.proofs.PenLemmas.{put-then, cut-off-then, put-as, cut-off-as}
use Rattle.hyd_cert_check.proofs.TextLemmas.{founds-more, entries-more, report-last, report-more}
use Rattle.hyd_cert_check.proofs.ReadLemmas.{read-more, fit-more}
use Rattle.hyd_cert_check.proofs.ConclusionLemmas.{holds-whole, finds}

-- ---- a check so far

-- the first line was put in, and nothing was read
so-far-begins : (project : Project) (start now : CheckMoment) → IsAtStart start.reader → now.reader ≡ start.reader
    → now.told.rest ≡ start.told.rest → PutIn first_line start now
    → IsSoFar project (initial_standing project) start now
so-far-begins project start now new same rest put = record {
  namings = [];
  is_run = IsRunFrom.none;
  parts = tt;
  fit = All-nil (IsEntryAsRead now.reader.flows (junction_count project) (tank_count project));
  each = refl;
  read = nothing (ap (λ (r : ReaderView). r.stand) same ∙ new.stand)
      (ap (λ (r : ReaderView). to_come r now.told.rest) same ∙ ap (to_come start.reader) rest)
      (ap (λ (r : ReaderView). r.line) same ∙ new.line);
  put = put-as first_line (report_so_far_naming project (initial_standing project) [] None) start now (sym (append-nil
      first_line)) put;
}

pub so-far-begun : (project : Project) (left : Standing) (start now : CheckMoment) → left ≡ initial_standing project
    → IsAtStart start.reader → now.reader ≡ start.reader → now.told.rest ≡ start.told.rest → PutIn first_line start now
    → IsSoFar project left start now
so-far-begun project left start now first new same rest put =
    subst (λ (s : Standing). IsSoFar project s start now) (sym first)
    (so-far-begins project start now new same rest put)

-- a record more was accepted with its part
module _ (project : Project) (sound : IsSound project) (left next : Standing) (start before now : CheckMoment)
    (naming : FoundNaming) (step : IsStep project left next naming.found) (part : IsFoundNaming project naming)
    (read : IsRead (header_for project) (entry_of naming) before now) (so_far : IsSoFar project left start before) where
  abbrev namings-with : List FoundNaming
  namings-with = so_far.namings ++ (naming ∷ [])

  run-with : IsRun project (founds_in namings-with) next
  run-with =
      subst (λ (founds : List Found). IsRun project founds next) (sym (founds-more so_far.namings naming))
      (subst (λ (s : Standing). IsRun project (founds_in so_far.namings ++ (naming.found ∷ [])) s) step.leaves
      (run_more project (founds_in so_far.namings) left naming.found so_far.is_run step.begins step.is_found))

  parts-with : AllByRecursion (IsFoundNaming project) namings-with
  parts-with = all-more (IsFoundNaming project) so_far.namings naming so_far.parts part

  fit-with : All (IsEntryAsRead now.reader.flows (junction_count project) (tank_count project))
      (entries_of namings-with)
  fit-with =
      subst (All (IsEntryAsRead now.reader.flows (junction_count project) (tank_count project)))
      (sym (entries-more so_far.namings naming))
      (fit-more project sound start (entries_of so_far.namings) (entry_of naming) before now so_far.read read
      so_far.fit)

  read-with : IsReadTo project start now (entries_of namings-with)
  read-with =
      subst (IsReadTo project start now) (sym (entries-more so_far.namings naming))
      (read-more project sound start (entries_of so_far.namings) (entry_of naming) before now so_far.read read)

  pub so-far-more : PutIn (period_text project naming) before now → IsSoFar project next start now
  so-far-more put = record {
    namings = namings-with;
    is_run = run-with;
    parts = parts-with;
    fit = fit-with;
    each = (let l = length-append so_far.namings (naming ∷ []) in let e = so_far.each in let n = step.number in omega
        (arith, l, e, n));
    read = read-with;
    put = put-as (report_so_far_naming project left so_far.namings None ++ period_text project naming)
        (report_so_far_naming project next namings-with None) start now
        (report-more project left next so_far.namings naming)
        (put-then (report_so_far_naming project left so_far.namings None) (period_text project naming) start before now
        so_far.put put);
  }

  -- its report was cut off
  pub record-cut-off : (why : CheckFault) → IsCutOff why (period_text project naming) before now
      → IsCutShort project why start now
  record-cut-off why cut_off = record {
    report = report_with_flows project namings-with [];
    holds = λ text told. inr (finds project sound next start now namings-with run-with parts-with fit-with read-with
        text told);
    cut_off = cut-off-as why (report_so_far_naming project left so_far.namings None ++ period_text project naming)
        (report_with_flows project namings-with []) start now
        (report-more project left next so_far.namings naming)
        (cut-off-then why (report_so_far_naming project left so_far.namings None) (period_text project naming) start
        before now so_far.put cut_off);
  }

-- ---- faults

-- the first line was cut off
pub first-cut-short : (project : Project) (why : CheckFault) (start now : CheckMoment) → IsSound project
    → IsAtStart start.reader → IsCutOff why first_line start now → IsCutShort project why start now
first-cut-short project why start now sound new cut_off = record {
  report = report_with_flows project [] [];
  holds = λ text told. inr (finds project sound (initial_standing project) start start [] IsRunFrom.none tt
      (All-nil (IsEntryAsRead start.reader.flows (junction_count project) (tank_count project)))
      (nothing new.stand refl new.line) text told);
  cut_off = cut-off-as why first_line (report_with_flows project [] []) start now (sym (append-nil first_line)) cut_off;
}

-- what was found so far is what was put in, where a fault came behind it
pub so-far-cut-off : (project : Project) (why : CheckFault) (left : Standing) (start before now : CheckMoment) → IsSound
    project → IsCutOff why [] before now → IsSoFar project left start before → IsCutShort project why start now
so-far-cut-off project why left start before now sound cut_off so_far = record {
  report = report_with_flows project so_far.namings [];
  holds = λ text told. inr (finds project sound left start before so_far.namings so_far.is_run so_far.parts so_far.fit
      so_far.read text told);
  cut_off = cut-off-as why (report_so_far_naming project left so_far.namings None ++ [])
      (report_with_flows project so_far.namings []) start now (report-last project left so_far.namings [])
      (cut-off-then why (report_so_far_naming project left so_far.namings None) [] start before now so_far.put cut_off);
}

-- ---- the last line

module _ (project : Project) (conclusion : Conclusion) (count : ℕ) (start now after : CheckMoment)
    (sound : IsSound project)
    (read : AllRead conclusion project count start now) where
  abbrev last : List ℕ
  last = conclusion_line project count conclusion

  abbrev report-whole : List ℕ
  report-whole = report_with_flows project read.so_far.namings last

  whole-so : (text : List ℕ) → coming start ≡ Some text → CheckEnds project text report-whole (end_of conclusion)
  whole-so text told =
      subst (λ (l : List ℕ). CheckEnds project text (report_with_flows project read.so_far.namings l)
      (end_of conclusion)) (sym read.last)
      (holds-whole project sound read.left start read.at_last read.so_far text told conclusion now read.is_so)

  text-so : report_so_far_naming project read.left read.so_far.namings None ++ ([] ++ last) ≡ report-whole
  text-so = report-last project read.left read.so_far.namings last

  pub last-whole : PutIn last now after → IsWhole project (end_of conclusion) start after
  last-whole put = record {
    report = report-whole;
    holds = whole-so;
    put = put-as (report_so_far_naming project read.left read.so_far.namings None ++ ([] ++ last)) report-whole start
        after text-so
        (put-then (report_so_far_naming project read.left read.so_far.namings None) ([] ++ last) start read.at_last
        after read.so_far.put (put-then [] last read.at_last now after read.put put));
  }

  pub last-cut-short : (why : CheckFault) → IsCutOff why last now after → IsCutShort project why start after
  last-cut-short why cut_off = record {
    report = report-whole;
    holds = λ text told. inl (end_of conclusion, whole-so text told);
    cut_off = cut-off-as why (report_so_far_naming project read.left read.so_far.namings None ++ ([] ++ last))
        report-whole start after
        text-so (cut-off-then why (report_so_far_naming project read.left read.so_far.namings None) ([] ++ last) start
        read.at_last after read.so_far.put (cut-off-then why [] last read.at_last now after read.put cut_off));
  }

-- ---- the pen is emptied

pub whole-emptied : (project : Project) (end : CheckEnd) (start before now : CheckMoment)
    → IsWhole project end start before
    → PutIn [] before now → IsWhole project end start now
whole-emptied project end start before now whole put = record {
  report = whole.report;
  holds = whole.holds;
  put = put-as (whole.report ++ []) whole.report start now (append-nil whole.report) (put-then whole.report [] start
      before now whole.put put);
}

pub whole-cut-off : (project : Project) (end : CheckEnd) (why : CheckFault) (start before now : CheckMoment)
    → IsWhole project end start before → IsCutOff why [] before now → IsCutShort project why start now
whole-cut-off project end why start before now whole cut_off = record {
  report = whole.report;
  holds = λ text told. inl (end, whole.holds text told);
  cut_off = cut-off-as why (whole.report ++ []) whole.report start now (append-nil whole.report) (cut-off-then why
      whole.report [] start before now whole.put cut_off);
}

-- ---- what is printed

module _ (project : Project) (start now : CheckMoment) (text : List ℕ) (told : coming start ≡ Some text)
    (pen : start.pen ≡ new_pen) where
  empty-first : start.pen.held ≡ []
  empty-first = ap (λ (p : PenState). p.held) pen

  pub prints-whole : (result : Result CheckEnd CheckFault) → CheckPuts result project start now
      → OnOk result (now.pen ≡ new_pen)
      → IfOk result (λ end. IsPrinted (λ printed. CheckEnds project text printed end) start.told.printed
      now.told.printed)
  prints-whole (Ok end) puts empty = record {
    report = puts.report;
    holds = puts.holds text told;
    printed = moved-whole start.told.printed now.told.printed start.pen.held puts.report now.pen.held empty-first
        (ap (λ (p : PenState). p.held) empty) puts.put.printed;
  }
  prints-whole (Err why) puts empty = tt

  front-of : (front held : List ℕ) (report : List ℕ) → report ≡ front ++ held
      → ((end : CheckEnd) × CheckEnds project text report end) ⊎ CheckFinds project text report
      → CheckBreaksOff project text front
  front-of front held report e (inl so) =
      in_last_line so.0 held (subst (λ (r : List ℕ). CheckEnds project text r so.0) e so.1)
  front-of front held report e (inr so) = in_records held (subst (CheckFinds project text) e so)

  pub prints-front : (result : Result CheckEnd CheckFault) → CheckPuts result project start now
      → IfErr result (λ why. IsPrinted (CheckBreaksOff project text) start.told.printed now.told.printed)
  prints-front (Ok end) puts = tt
  prints-front (Err why) puts =
      let out = subst (λ (x : List ℕ). PutOut start.told.printed now.told.printed (x ++ puts.report)) empty-first
      puts.cut_off.printed in
      record {
        report = out.1.front;
        holds = front-of out.1.front out.0 puts.report out.1.whole (puts.holds text told);
        printed = out.1.out;
      }

-- ---- what else a check says

module _ (project : Project) (start now : CheckMoment) where
  pub says-printed : (result : Result CheckEnd CheckFault) → start.pen ≡ new_pen → CheckPuts result project start now
      → OnOk result (now.pen ≡ new_pen) → IsPrinted (λ printed. ⊤) start.told.printed now.told.printed
  says-printed (Ok end) pen puts empty = record {
    report = puts.report;
    holds = tt;
    printed = moved-whole start.told.printed now.told.printed start.pen.held puts.report now.pen.held (ap (λ (p :
        PenState). p.held) pen) (ap (λ (p : PenState). p.held) empty) puts.put.printed;
  }
  says-printed (Err why) pen puts empty =
      let out = subst (λ (x : List ℕ). PutOut start.told.printed now.told.printed (x ++ puts.report)) (ap (λ (p :
      PenState). p.held) pen) puts.cut_off.printed in
      record { report = out.1.front; holds = tt; printed = out.1.out }

  pub says-rose : (result : Result CheckEnd CheckFault) → CheckPuts result project start now
      → IfErr result (λ why. Rose why start.told.counts now.told.counts)
  says-rose (Ok end) puts = tt
  says-rose (Err why) puts = puts.cut_off.rose

  pub says-steady : (result : Result CheckEnd CheckFault) → CheckPuts result project start now
      → OnOk result (now.told.counts ≡ start.told.counts)
  says-steady (Ok end) puts = puts.put.steady
  says-steady (Err why) puts = tt

  pub says-leaves : (result : Result CheckEnd CheckFault) → CheckPuts result project start now
      → LeavesFiles start.told now.told
  says-leaves (Ok end) puts = puts.put.leaves
  says-leaves (Err why) puts = puts.cut_off.leaves

-- ---- the parts of a check

pub whole-as : (project : Project) (a b : CheckEnd) (start now : CheckMoment) → a ≡ b → IsWhole project a start now
    → IsWhole project b start now
whole-as project a b start now e whole = subst (λ (end : CheckEnd). IsWhole project end start now) e whole

-- what the last line makes of a check, as of the network at its start
pub ending-puts : (project p : Project) (conclusion : Conclusion) (count : ℕ)
    (result : Result CheckEnd CheckFault)
    (start before now : CheckMoment) → p ≡ project
    → ((x : CheckMoment) → AllRead conclusion p count x before → CheckPuts result p x now)
    → AllRead conclusion project count start before → CheckPuts result project start now
ending-puts project p conclusion count result start before now e puts read =
    subst (λ (q : Project). (x : CheckMoment) → AllRead conclusion q count x before → CheckPuts result q x now) e puts
    start
    read
